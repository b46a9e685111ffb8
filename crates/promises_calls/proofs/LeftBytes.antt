-- What is promised of the states that calls make, of the bytes that rows of calls from C leave: nothing is asked of the memories that they are lent, since their contracts say what these are.
-- Assumes nothing.
use borrow.Author.Tests.{eqb-true, eqb-false}
use borrow.Fn.Kinds.{Dens, res_t, ended_of}
use contract.Lifetimes.{Lfts}
use denote.Triple.Clauses.{AtExit}
use lib.Dec.{eqb, ltb}
use lib.ListN.{length}
use mathlib.Core.Bool.{Bool, true, false}
use mathlib.Core.List.{List}
use mathlib.Core.Path.{◌≡◌, refl, sym, ap, subst, ◌∙◌}
use native.Mathlib.Omega.{arith}
use Prim.Native.Nat.{ℕ, ◌%◌, ◌≤◌}
use Rattle.ground_rules.proofs.ConditionLaws.{told-sound}
use Rattle.ground_rules.proofs.FieldLaws.{fresh-agree}
use Rattle.ground_rules.specs.Buffers.{Buffers, buffers}
use Rattle.ground_rules.specs.Choice.{pick}
use Rattle.ground_rules.specs.Outcomes.{Outcome}
use Rattle.ground_rules.specs.States.{reset_state, fresh_state, fresh_of, idle_channel, sound, agree}
use Rattle.ground_rules.specs.declared.Made.{Made as Fresh}
use Rattle.attention_rules.proofs.Numbers.{attention-most, number-exactly}
use Rattle.attention_rules.proofs.PowerNumbers.{power-most, power-number}
use Rattle.attention_rules.proofs.SoundLaws.{attention-sound}
use Rattle.attention_rules.specs.Attention.{attention_of, attention_count}
use Rattle.attention_rules.specs.Power.{power_up_of, power_count}
use Rattle.turn_rules.proofs.NumberLaws.{step-most, entry-exactly}
use Rattle.turn_rules.specs.Step.{step_of}
use Rattle.turn_rules.specs.Touched.{step_count}
use Rattle.state_rules.proofs.BackLaws.{bytes-are}
use Rattle.state_rules.proofs.HeldLaws.{HeldFit}
use Rattle.state_rules.proofs.NumberLaws.{number-part}
use Rattle.state_rules.specs.Calls.{MadeBytes, Service, served, no_state, kind_number, answer_from, fresh_made, power_served, attention_served, step_served}
use Rattle.state_rules.specs.Layout.{bytes_of, state_in, is_state, state_length}
use Rattle.service.proofs.OutcomeLaws.{power-stays, attention-stays}
use Rattle.promises.proofs.Made.{made-sound, made-any, made-powered, made-agree, made-attends, made-steps}
use Rattle.promises.specs.Made.{MadeOfBytes}
use Rattle.promises.specs.Made.MadeIn.{fresh as made-fresh, power as made-power, attention as made-attention, step as made-step}
use Rattle.processor_calls.proofs.Passed.{step-leaves}
use Rattle.processor_calls.proofs.single.iop89_fresh.Kinds as fresh-kinds
use Rattle.processor_calls.proofs.single.iop89_fresh.Reads as fresh-reads
use Rattle.processor_calls.proofs.single.iop89_power_up.Kinds as power-kinds
use Rattle.processor_calls.proofs.single.iop89_power_up.Reads as power-reads
use Rattle.processor_calls.proofs.single.iop89_attention.Kinds as attention-kinds
use Rattle.processor_calls.proofs.single.iop89_attention.Reads as attention-reads
use Rattle.processor_calls.proofs.single.iop89_step.Kinds as step-kinds
use Rattle.processor_calls.proofs.single.iop89_step.Reads as step-reads
use Rattle.promises_calls.specs.LeftBytes.{LeftByCalls}
use Rattle.promises_calls.specs.LeftBytes.LeftByCalls.{fresh, power, attention, step}

-- ---- one call

-- bytes that are a state which calls make
abbrev BytesMade : List ℕ → Type 0
BytesMade b = (is_state b ≡ true) × MadeOfBytes (state_in b)

-- the bytes of a fresh state are one
fresh-held : (cp : ℕ) → HeldFit (fresh_of cp).state
unfolding fresh_of fresh_state idle_channel
fresh-held cp = go (ltb cp 1048576)
  where
    go : (b : Bool) → HeldFit (pick {A = Fresh} b (record { number = 0; state = fresh_state cp }) (record { number = 10; state = fresh_state 0 })).state
    go true = (tt, tt)
    go false = (tt, tt)

fresh-is : (b : List ℕ) (cp : ℕ) → length b ≡ state_length → is_state (fresh_made b cp).bytes ≡ true
unfolding fresh_made
fresh-is b cp h = rw h (bytes-are (fresh_of cp).state (fresh-agree cp) (fresh-held cp))

fresh-stands : (κs : Lfts 1) (a : Dens κs fresh-kinds.ps) (r : (res_t fresh-kinds.r κs).Denot) (e : AtExit (ended_of 1 fresh-kinds.ps fresh-kinds.r) κs) → fresh-reads.Post κs a r e
    → length a.0.now ≡ state_length → BytesMade e.0.now
fresh-stands κs a r e p h =
    (ap (λ (o : MadeBytes). is_state o.bytes) p.0 ∙ fresh-is a.0.now a.1.0 h, subst MadeOfBytes (sym (p.1 h)) (made-fresh a.1.0))

-- a done power-up was given a state's length, and found its board
power-done : (b : List ℕ) (m : Buffers) → (power_served b m).answer % 256 ≡ 0 → (length b ≡ state_length) × ((power_up_of (state_in b) m).number ≡ 0)
unfolding power_served
power-done b m = go (eqb (length b) state_length) refl
  where
    o : Outcome
    o = power_up_of reset_state m

    left : Service
    left = served (answer_from o.number 0 0 (power_count m)) (pick (eqb o.number 0) (bytes_of o.state) b) o.memory

    go : (ok : Bool) → eqb (length b) state_length ≡ ok → (pick ok left (no_state b m)).answer % 256 ≡ 0 → (length b ≡ state_length) × ((power_up_of (state_in b) m).number ≡ 0)
    go true e z =
        (eqb-true (length b) state_length e, power-number (state_in b) m ∙ sym (power-number reset_state m) ∙ sym (number-part o.number 0 0 (power_count m) (omega (arith, power-most reset_state m))) ∙ z)
    go false e z = absurd (eqb-false 17 0 refl z)

power-stands : (κs : Lfts 3) (a : Dens κs power-kinds.ps) (r : (res_t power-kinds.r κs).Denot) (e : AtExit (ended_of 3 power-kinds.ps power-kinds.r) κs) → power-reads.Post κs a r e
    → r % 256 ≡ 0 → BytesMade e.0.now
power-stands κs a r e p z =
    let m = buffers a.1.0.now a.1.1.0.now in
    let done : (power_served a.0.now m).answer % 256 ≡ 0 = ap (λ (o : Service). o.answer % 256) (sym p.0) ∙ z in
    let found = power-done a.0.now m done in (
      ap (λ (o : Service). is_state o.bytes) p.0 ∙ power-stays a.0.now m (λ ne. absurd (ne done)),
      subst MadeOfBytes (sym (p.1 found.0)) (made-power (state_in a.0.now) m found.1),
    )

attention-stands : (κs : Lfts 3) (a : Dens κs attention-kinds.ps) (r : (res_t attention-kinds.r κs).Denot) (e : AtExit (ended_of 3 attention-kinds.ps attention-kinds.r) κs) → attention-reads.Post κs a r e
    → BytesMade a.0.now → BytesMade e.0.now
attention-stands κs a r e p h =
    let m = buffers a.1.0.now a.1.1.0.now in (
      ap (λ (o : Service). is_state o.bytes) p.0 ∙ attention-stays a.0.now p.1.1.0 m h.0 a.1.1.1.0,
      subst MadeOfBytes (sym (p.1.0 h.0)) (made-attention h.1 m p.1.1.1 a.1.1.1.0),
    )

step-stands : (κs : Lfts 3) (a : Dens κs step-kinds.ps) (r : (res_t step-kinds.r κs).Denot) (e : AtExit (ended_of 3 step-kinds.ps step-kinds.r) κs) → step-reads.Post κs a r e
    → BytesMade a.0.now → BytesMade e.0.now
step-stands κs a r e p h =
    (step-leaves κs a r e p h.0, subst MadeOfBytes (sym (p.1.0 h.0)) (made-step h.1 (buffers a.1.0.now a.1.1.0.now) a.1.1.1.0))

-- ---- a row of calls

-- the bytes that a row of calls leaves are a state, and one that calls make in memories of bytes
pub calls-made : {b : List ℕ} → LeftByCalls b → (is_state b ≡ true) × MadeOfBytes (state_in b)
calls-made (fresh κs a r e p h) = fresh-stands κs a r e p h
calls-made (power κs a r e p z) = power-stands κs a r e p z
calls-made (attention κs a r e p rest) = attention-stands κs a r e p (calls-made rest)
calls-made (step κs a r e p rest) = step-stands κs a r e p (calls-made rest)

-- so it is sound
pub calls-sound : {b : List ℕ} → LeftByCalls b → sound (state_in b) ≡ true
calls-sound left = made-sound (calls-made left).1

-- powered up, and of fields that are those of CC
pub calls-ready : {b : List ℕ} → LeftByCalls b → ((state_in b).board.powered ≡ true) × (agree (state_in b) ≡ true)
calls-ready left = let any = made-any (calls-made left).1 in (made-powered any, made-agree any)

-- ---- the next call of a row

-- what C is answered of a state's bytes is the number of the call on the state
attention-answer : (b : List ℕ) (m : Buffers) (channel : ℕ) → is_state b ≡ true → (attention_served b m channel).answer % 256 ≡ (attention_of (state_in b) m channel).number
unfolding attention_served
attention-answer b m channel is = rw is (number-part (attention_of (state_in b) m channel).number 0 0 (attention_count (state_in b) m channel) (omega (arith, attention-most (state_in b) m channel)))

step-answer : (b : List ℕ) (m : Buffers) (lines : ℕ) → is_state b ≡ true → (step_served b m lines).answer % 256 ≡ (step_of (state_in b) m lines).number
unfolding step_served
step-answer b m lines is =
    let o = step_of (state_in b) m lines in
    rw is (number-part o.number o.channel (kind_number o.kind) (step_count (state_in b) m lines) (omega (arith, step-most (state_in b) m lines)))

-- an attention to what a row left is refused by none of 10, 13, 14 and 17
pub attention-taken : (κs : Lfts 3) (a : Dens κs attention-kinds.ps) (r : (res_t attention-kinds.r κs).Denot) (e : AtExit (ended_of 3 attention-kinds.ps attention-kinds.r) κs) → attention-reads.Post κs a r e
    → LeftByCalls a.0.now → (r % 256 ≤ 12) × ¬ (r % 256 ≡ 10)
attention-taken κs a r e p left =
    let s = state_in a.0.now in
    let m = buffers a.1.0.now a.1.1.0.now in
    let channel = a.1.1.1.0 in
    let same : r % 256 ≡ (attention_of s m channel).number = ap (λ (o : Service). o.answer % 256) p.0 ∙ attention-answer a.0.now m channel (calls-made left).0 in (
      subst (λ (n : ℕ). n ≤ 12) (sym same) (made-attends (made-any (calls-made left).1) m channel),
      λ z. (told-sound s).holds (calls-sound left) ((number-exactly s m channel 10).0 (sym same ∙ z)).1.1,
    )

-- nor is a step
pub step-taken : (κs : Lfts 3) (a : Dens κs step-kinds.ps) (r : (res_t step-kinds.r κs).Denot) (e : AtExit (ended_of 3 step-kinds.ps step-kinds.r) κs) → step-reads.Post κs a r e
    → LeftByCalls a.0.now → (r % 256 ≤ 12) × ¬ (r % 256 ≡ 10)
step-taken κs a r e p left =
    let s = state_in a.0.now in
    let m = buffers a.1.0.now a.1.1.0.now in
    let lines = a.1.1.1.0 in
    let same : r % 256 ≡ (step_of s m lines).number = ap (λ (o : Service). o.answer % 256) p.0 ∙ step-answer a.0.now m lines (calls-made left).0 in (
      subst (λ (n : ℕ). n ≤ 12) (sym same) (made-steps (made-any (calls-made left).1) m lines),
      λ z. (told-sound s).holds (calls-sound left) ((entry-exactly s m lines 10 refl).0 (sym same ∙ z)).1.1,
    )

-- ---- one attention, to whatever state

-- a done one was given a state
attention-done : (b : List ℕ) (m : Buffers) (channel : ℕ) → (attention_served b m channel).answer % 256 ≡ 0 → (is_state b ≡ true) × ((attention_of (state_in b) m channel).number ≡ 0)
unfolding attention_served
attention-done b m channel = go (is_state b) refl
  where
    o : Outcome
    o = attention_of (state_in b) m channel

    count : ℕ
    count = attention_count (state_in b) m channel

    go : (ok : Bool) → is_state b ≡ ok → (pick ok (served (answer_from o.number 0 0 count) (bytes_of o.state) o.memory) (no_state b m)).answer % 256 ≡ 0
        → (is_state b ≡ true) × (o.number ≡ 0)
    go true e z = (e, sym (number-part o.number 0 0 count (omega (arith, attention-most (state_in b) m channel))) ∙ z)
    go false e z = absurd (eqb-false 17 0 refl z)

-- an attention that C is answered as done leaves a sound state, whatever it was lent
pub call-leaves-sound : (κs : Lfts 3) (a : Dens κs attention-kinds.ps) (r : (res_t attention-kinds.r κs).Denot) (e : AtExit (ended_of 3 attention-kinds.ps attention-kinds.r) κs) → attention-reads.Post κs a r e
    → r % 256 ≡ 0 → sound (state_in e.0.now) ≡ true
call-leaves-sound κs a r e p z =
    let m = buffers a.1.0.now a.1.1.0.now in
    let done = attention-done a.0.now m a.1.1.1.0 (ap (λ (o : Service). o.answer % 256) (sym p.0) ∙ z) in
    ap sound (p.1.0 done.0) ∙ attention-sound (state_in a.0.now) m a.1.1.1.0 p.1.1.1 done.1
