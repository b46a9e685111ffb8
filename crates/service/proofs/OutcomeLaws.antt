-- What a call leaves: a refused one leaves the bytes and both memories as they were, every one leaves a state where it was given one, and no two outcomes meet a call's contract.
-- Assumes nothing.
use Prim.Native.Nat.{ℕ, ◌/◌, ◌%◌, ◌<◌, ◌≤◌}
use borrow.Author.Tests.{eqb-false, ne_eqb}
use contract.Lifetimes.{Lfts}
use lib.Dec.{eqb}
use lib.ListN.{length}
use borrow.Fn.Kinds.{Dens, res_t, ended_of}
use denote.Triple.Clauses.{AtExit}
use mathlib.Core.Bool.{Bool, true, false}
use mathlib.Core.List.{List}
use mathlib.Core.Path.{◌≡◌, refl, sym, ap, ◌∙◌}
use native.Mathlib.Decide.{ℕ_discrete}
use native.Mathlib.Omega.{arith}
use Rattle.ground_rules.specs.Choice.{pick}
use Rattle.ground_rules.specs.Buffers.{Buffers, buffers, AllBytes}
use Rattle.ground_rules.proofs.ConditionLaws.{first-none-left, first-none-right}
use Rattle.ground_rules.proofs.GivenLaws.{given-agree}
use Rattle.ground_rules.proofs.OutcomeLaws.{settled-number}
use Rattle.ground_rules.specs.Outcomes.{Outcome}
use Rattle.ground_rules.specs.States.{reset_state, agree, channel_of, with_channel, is_second}
use Rattle.ground_rules.specs.Updates.{with_transfer}
use Rattle.ground_rules.specs.declared.State.{State}
use Rattle.attention_rules.proofs.Numbers.{attention-most}
use Rattle.attention_rules.proofs.Outcomes.{refused-nothing}
use Rattle.attention_rules.proofs.SoundLaws.{attention-agree}
use Rattle.attention_rules.specs.Attention.{given_to, channel_attended, ordered_memory, attention_number, attention_of, attention_count}
use Rattle.attention_rules.proofs.PowerNumbers.{power-most}
use Rattle.attention_rules.proofs.PowerOutcomes.{power-refused, power-accepted, found-agree}
use Rattle.attention_rules.specs.Power.{found_state, power_up_of, power_count}
use Rattle.turn_rules.proofs.NumberLaws.{step-most}
use Rattle.turn_rules.proofs.OutcomeLaws.{by-step, refused}
use Rattle.turn_rules.proofs.SoundLaws.{entry-agree, step-agree}
use Rattle.turn_rules.specs.Step.{Step, step_of}
use Rattle.turn_rules.specs.Touched.{step_count}
use Rattle.block_rules.specs.Stages.{finished}
use Rattle.sweep_rules.proofs.LeftLaws.{swept-agree, steps-most}
use Rattle.sweep_rules.proofs.PassedLaws.{passed-given, accepted-sweep, refused-sweep, number_is, number-most}
use Rattle.sweep_rules.specs.Sweep.{Sweep, done_sweep, sweep_of}
use Rattle.state_rules.specs.Calls.{Service, made, served, no_state, answer_from, kind_number, power_served, attention_served, step_served, sweep_answer_from, sweep_left, sweep_served}
use Rattle.state_rules.specs.Conditions.{Bytes}
use Rattle.state_rules.specs.Layout.{bytes_of, state_in, is_state, state_length}
use Rattle.state_rules.proofs.BackLaws.{bytes-are}
use Rattle.state_rules.proofs.ForthLaws.{bytes_back}
use Rattle.state_rules.proofs.HeldLaws.{HeldFit, done_held, found-held, attention-held, step-held}
use Rattle.state_rules.proofs.NumberLaws.{number-part, sweep-number-part, sweep-steps-part, sweep-count-part}
use Rattle.state_rules.proofs.BlockLaws.{state-held, state-count}
use Rattle.service.proofs.iop89_fresh.Kinds as fresh-kinds
use Rattle.service.proofs.iop89_fresh.Reads as fresh-reads
use Rattle.service.proofs.iop89_reset.Kinds as reset-kinds
use Rattle.service.proofs.iop89_reset.Reads as reset-reads
use Rattle.service.proofs.iop89_power_up.Kinds as power-kinds
use Rattle.service.proofs.iop89_power_up.Reads as power-reads
use Rattle.service.proofs.iop89_attention.Kinds as attention-kinds
use Rattle.service.proofs.iop89_attention.Reads as attention-reads
use Rattle.service.proofs.iop89_step.Kinds as step-kinds
use Rattle.service.proofs.iop89_step.Reads as step-reads
use Rattle.service.proofs.iop89_sweep.Kinds as sweep-kinds
use Rattle.service.proofs.iop89_sweep.Reads as sweep-reads

-- ---- a refused call

-- a sweep's answer without a number has none in its low bits
done-low : (steps count : ℕ) → sweep_answer_from 0 steps count % 256 ≡ 0
unfolding sweep_answer_from
done-low steps count = omega arith

module _ (b : List ℕ) (byte : Bytes b) (m : Buffers) where
  -- an answer whose number is not 0 comes with the bytes and memories that were given
  unfoldable pub Kept : Service → Type 0
  Kept o = ¬ (o.answer % 256 ≡ 0) → (o.bytes ≡ b) × (o.memory ≡ m)

  kept : (ok : Bool) (number channel kind count : ℕ) (bytes : List ℕ) (m' : Buffers) → number ≤ 14
      → (ok ≡ true → ¬ (number ≡ 0) → (bytes ≡ b) × (m' ≡ m)) → Kept (pick ok (served (answer_from number channel kind count) bytes m') (no_state b m))
  unfolding Kept
  kept true number channel kind count bytes m' h same ne = same refl (λ e. ne (number-part number channel kind count (omega arith) ∙ e))
  kept false number channel kind count bytes m' h same ne = (refl, refl)

  pub power-kept : Kept (power_served b m)
  unfolding power_served
  power-kept =
      let o = power_up_of reset_state m in
      kept (eqb (length b) state_length) o.number 0 0 (power_count m) _ o.memory (omega (arith, power-most reset_state m))
      (λ h ne. (rw (ne_eqb o.number 0 ne), ap (λ (x : Outcome). x.memory) (power-refused reset_state m ne)))

  pub attention-kept : (channel : ℕ) → Kept (attention_served b m channel)
  unfolding attention_served
  attention-kept channel =
      let o = attention_of (state_in b) m channel in
      kept (is_state b) o.number 0 0 (attention_count (state_in b) m channel) (bytes_of o.state) o.memory (attention-most (state_in b) m channel)
      (λ h ne. let same = refused-nothing (state_in b) m channel ne in
      (ap (λ (x : Outcome). bytes_of x.state) same ∙ bytes_back b byte h, ap (λ (x : Outcome). x.memory) same))

  pub step_kept : (lines : ℕ) → Kept (step_served b m lines)
  unfolding step_served
  step_kept lines =
      let o = step_of (state_in b) m lines in
      kept (is_state b) o.number o.channel (kind_number o.kind) (step_count (state_in b) m lines) (bytes_of o.state) o.memory (step-most (state_in b) m lines)
      (λ h ne. let same = refused (state_in b) m lines ne in
      (ap (λ (x : Step). bytes_of x.state) same ∙ bytes_back b byte h, ap (λ (x : Step). x.memory) same))

  pub sweep-kept : (channel lines : ℕ) → Kept (sweep_served b m channel lines)
  unfolding sweep_served Kept
  sweep-kept channel lines = go (is_state b) refl
    where
      o : Sweep
      o = sweep_of (state_in b) m channel lines

      go : (ok : Bool) → is_state b ≡ ok → Kept (pick ok (sweep_left o) (no_state b m))
      go false h ne = (refl, refl)
      go true h ne =
          let same = refused-sweep (state_in b) m channel lines (λ z. ne (ap (λ (k : ℕ). sweep_answer_from k o.steps o.count % 256) (number_is (state_in b) m channel lines ∙ z) ∙ done-low o.steps o.count)) in
          (ap (λ (x : Sweep). bytes_of x.state) same ∙ bytes_back b byte h, ap (λ (x : Sweep). x.memory) same)

-- ---- a call that was given a state leaves one

-- an attention and a step that were done were given one that agrees
attention-agreed : (s : State) (m : Buffers) (channel : ℕ) → (attention_of s m channel).number ≡ 0 → agree s ≡ true
unfolding attention_of attention_number given_to
attention-agreed s m channel e =
    let b = is_second channel in
    given-agree s m (first-none-right _ _ (first-none-left _ _ (sym (settled-number (attention_number s m channel) s m (with_channel s b (channel_attended s m b)) (ordered_memory s m b)) ∙ e)))

step-agreed : (s : State) (m : Buffers) (lines : ℕ) → (step_of s m lines).number ≡ 0 → agree s ≡ true
step-agreed s m lines =
    by-step s m lines (λ o. o.number ≡ 0 → agree s ≡ true) (λ k ne e. absurd (ne e))
    (λ b z e h. entry-agree s m lines z) (λ b z e f h. entry-agree s m lines z) (λ b z e f h. entry-agree s m lines z)

-- a power-up leaves a state where it is done, whatever it was given, and where it was given one
pub power-stays : (b : List ℕ) (m : Buffers) → (¬ ((power_served b m).answer % 256 ≡ 0) → is_state b ≡ true) → is_state (power_served b m).bytes ≡ true
unfolding power_served
power-stays b m = go (eqb (length b) state_length) (ℕ_discrete o.number 0)
  where
    o : Outcome
    o = power_up_of reset_state m

    left : Service
    left = served (answer_from o.number 0 0 (power_count m)) (pick (eqb o.number 0) (bytes_of o.state) b) o.memory

    go : (ok : Bool) → Dec (o.number ≡ 0) → (¬ ((pick ok left (no_state b m)).answer % 256 ≡ 0) → is_state b ≡ true) → is_state (pick ok left (no_state b m)).bytes ≡ true
    go false d h = h (eqb-false 17 0 refl)
    go true (yes e) h = rw e (rw (power-accepted reset_state m e) (bytes-are (found_state m) (found-agree m) (found-held m)))
    go true (no ne) h = rw (ne_eqb o.number 0 ne) (h (λ z. ne (sym (number-part o.number 0 0 (power_count m) (omega (arith, power-most reset_state m))) ∙ z)))

-- a done sweep holds nothing
swept-held : (s : State) (m : Buffers) (second : Bool) → HeldFit s → HeldFit (done_sweep s m second).state
unfolding done_sweep finished with_transfer
swept-held s m second h = done_held s second _ h tt

-- a sweep of a count of 16 bits stands for at most 65,536 steps
steps-few : (s : State) (m : Buffers) (channel lines : ℕ) → (channel_of s (is_second channel)).bc < 65536 → (sweep_of s m channel lines).steps < 16777216
steps-few s m channel lines small = omega (arith, steps-most s m channel lines small)

module _ (b : List ℕ) (byte : Bytes b) (m : Buffers) (h : is_state b ≡ true) where
  -- what is left agrees where the call was done and holds bytes or nothing, and is what was given where it was refused
  pub stays : (number : ℕ) (s : State) → (number ≡ 0 → agree s ≡ true) → (number ≡ 0 → HeldFit s) → (¬ (number ≡ 0) → s ≡ state_in b) → is_state (bytes_of s) ≡ true
  stays number s done held same = go (ℕ_discrete number 0)
    where
      go : Dec (number ≡ 0) → is_state (bytes_of s) ≡ true
      go (yes z) = bytes-are s (done z) (held z)
      go (no ne) = ap (λ (x : State). is_state (bytes_of x)) (same ne) ∙ ap is_state (bytes_back b byte h) ∙ h

  pub attention-stays : (channel : ℕ) → is_state (attention_served b m channel).bytes ≡ true
  unfolding attention_served
  attention-stays channel =
      let o = attention_of (state_in b) m channel in
      rw h
      (stays o.number o.state
      (λ z. attention-agree (state_in b) m channel (attention-agreed (state_in b) m channel z))
      (λ z. attention-held (state_in b) m channel (state-held b))
      (λ ne. ap (λ (x : Outcome). x.state) (refused-nothing (state_in b) m channel ne)))

  -- a step where memory is of bytes, as every buffer is: one of them may then be held
  pub step_stays : AllBytes m → (lines : ℕ) → is_state (step_served b m lines).bytes ≡ true
  unfolding step_served
  step_stays all lines =
      let o = step_of (state_in b) m lines in
      rw h
      (stays o.number o.state
      (λ z. step-agree (state_in b) m lines (step-agreed (state_in b) m lines z))
      (λ z. step-held (state_in b) m lines all (state-held b))
      (λ ne. ap (λ (x : Step). x.state) (refused (state_in b) m lines ne)))

  pub sweep-stays : (channel lines : ℕ) → is_state (sweep_served b m channel lines).bytes ≡ true
  unfolding sweep_served
  sweep-stays channel lines =
      let s = state_in b in
      let o = sweep_of s m channel lines in
      let accepted : o.number ≡ 0 → o ≡ done_sweep s m (is_second channel) = λ z. accepted-sweep s m channel lines (sym (number_is s m channel lines) ∙ z) in
      rw h
      (stays o.number o.state
      (λ z. ap (λ (x : Sweep). agree x.state) (accepted z)
      ∙ swept-agree s m (is_second channel) (given-agree s m (passed-given s m channel lines (sym (number_is s m channel lines) ∙ z))))
      (λ z. rw (accepted z) (swept-held s m (is_second channel) (state-held b)))
      (λ ne. ap (λ (x : Sweep). x.state) (refused-sweep s m channel lines (λ z. ne (number_is s m channel lines ∙ z)))))

  -- and its parts come out of its answer as they went in
  pub sweep-parts : (channel lines : ℕ) → let o = sweep_of (state_in b) m channel lines in let a = (sweep_served b m channel lines).answer in
      (a % 256 ≡ o.number) × (a / 256 % 16777216 ≡ o.steps) × (a / 4294967296 ≡ o.count)
  unfolding sweep_served
  sweep-parts channel lines =
      let s = state_in b in
      let o = sweep_of s m channel lines in
      let low : o.number < 256 = omega (arith, number_is s m channel lines, number-most s m channel lines) in
      let few : o.steps < 16777216 = steps-few s m channel lines (state-count b byte (is_second channel)) in
      rw h (sweep-number-part o.number o.steps o.count low few, sweep-steps-part o.number o.steps o.count low few, sweep-count-part o.number o.steps o.count low few)

-- ---- the contracts as the code has them: the answer, the bytes and both memories are determined

pub unique-fresh : (κs : Lfts 1) (a : Dens κs fresh-kinds.ps) (r q : (res_t fresh-kinds.r κs).Denot) (e f : AtExit (ended_of 1 fresh-kinds.ps fresh-kinds.r) κs)
    → fresh-reads.Post κs a r e → fresh-reads.Post κs a q f → made r e.0.now ≡ made q f.0.now
unique-fresh κs a r q e f p w = p.0 ∙ sym w.0

pub unique-reset : (κs : Lfts 1) (a : Dens κs reset-kinds.ps) (r q : (res_t reset-kinds.r κs).Denot) (e f : AtExit (ended_of 1 reset-kinds.ps reset-kinds.r) κs)
    → reset-reads.Post κs a r e → reset-reads.Post κs a q f → made r e.0.now ≡ made q f.0.now
unique-reset κs a r q e f p w = p.0 ∙ sym w.0

pub unique-power : (κs : Lfts 3) (a : Dens κs power-kinds.ps) (r q : (res_t power-kinds.r κs).Denot) (e f : AtExit (ended_of 3 power-kinds.ps power-kinds.r) κs)
    → power-reads.Post κs a r e → power-reads.Post κs a q f
    → served r e.0.now (buffers e.1.0.now e.1.1.0.now) ≡ served q f.0.now (buffers f.1.0.now f.1.1.0.now)
unique-power κs a r q e f p w = p.0 ∙ sym w.0

pub unique-attention : (κs : Lfts 3) (a : Dens κs attention-kinds.ps) (r q : (res_t attention-kinds.r κs).Denot) (e f : AtExit (ended_of 3 attention-kinds.ps attention-kinds.r) κs)
    → attention-reads.Post κs a r e → attention-reads.Post κs a q f
    → served r e.0.now (buffers e.1.0.now e.1.1.0.now) ≡ served q f.0.now (buffers f.1.0.now f.1.1.0.now)
unique-attention κs a r q e f p w = p.0 ∙ sym w.0

pub unique-step : (κs : Lfts 3) (a : Dens κs step-kinds.ps) (r q : (res_t step-kinds.r κs).Denot) (e f : AtExit (ended_of 3 step-kinds.ps step-kinds.r) κs)
    → step-reads.Post κs a r e → step-reads.Post κs a q f
    → served r e.0.now (buffers e.1.0.now e.1.1.0.now) ≡ served q f.0.now (buffers f.1.0.now f.1.1.0.now)
unique-step κs a r q e f p w = p.0 ∙ sym w.0

pub unique-sweep : (κs : Lfts 3) (a : Dens κs sweep-kinds.ps) (r q : (res_t sweep-kinds.r κs).Denot) (e f : AtExit (ended_of 3 sweep-kinds.ps sweep-kinds.r) κs)
    → sweep-reads.Post κs a r e → sweep-reads.Post κs a q f
    → served r e.0.now (buffers e.1.0.now e.1.1.0.now) ≡ served q f.0.now (buffers f.1.0.now f.1.1.0.now)
unique-sweep κs a r q e f p w = p.0 ∙ sym w.0
