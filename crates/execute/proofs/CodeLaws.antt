-- The laws of an instruction that is worked out before its stores: its number so far, and what comes of it.
-- Assumes nothing.
use Rattle.std.proofs.Common.{◌≡◌, ℕ, zero, suc, ◌+◌, ◌-◌, ◌%◌, ◌≤◌, Bool, true, false, ◌&&◌, eqb, length, sym, refl, ap, ◌∙◌, subst, ap₂, arith, Result, Ok, Err}
use borrow.Author.Tests.{eqb-false}
use Rattle.instruction_rules.proofs.LengthLaws.{bounded}
use Rattle.instruction_rules.specs.Lengths.{length_of}
use Rattle.instruction_rules.specs.Reading.{decoded_number}
use Rattle.instruction_rules.specs.Decoded.{Decoded}
use Rattle.instruction_rules.specs.declared.Unread.TheVariants.{NoInstruction, ControlUsed}
use Rattle.instruction_rules.specs.declared.Change.{Change}
use Rattle.instruction_rules.specs.declared.Shape.{Shape}
use Rattle.ground_rules.proofs.ChoiceLaws.{apart}
use Rattle.ground_rules.proofs.ConditionLaws.{first-assoc}
use Rattle.ground_rules.proofs.OutcomeLaws.{refused-counts, done-counts, first_some, first-none, both-tested}
use Rattle.ground_rules.proofs.PlaceLaws.{index-after, touchable-index}
use Rattle.ground_rules.proofs.SpanLaws.{all_append}
use Rattle.ground_rules.specs.Buffers.{Buffers, touchable_at}
use Rattle.ground_rules.specs.Outcomes.{unless, first}
use Rattle.ground_rules.specs.declared.Refusal.{Refusal}
use Rattle.ground_rules.specs.Places.{span, all_pass, all_touchable}
use Rattle.ground_rules.specs.Stages.{stages_number}
use Rattle.ground_rules.specs.Registers.{with_register}
use Rattle.ground_rules.specs.Sums.{sum20}
use Rattle.ground_rules.specs.Values.{onward}
use Rattle.ground_rules.specs.declared.Channel.{Channel}
use Rattle.instruction_rules.specs.Changes.{places_of, changed}
use Rattle.instruction_rules.specs.Operands.{bytes_at}
use Rattle.instruction_rules.specs.Deeds.{Deed}
use Rattle.instruction_rules.specs.Execute.{decoded_at, deed_of, later_bytes, later_from, length_from, deed_from, stages_from, instruction_stages, execute_number, touched_by_instruction, Executed, executed, execute_of, execute_count}
use Rattle.instruction_rules.specs.Kept.{deed_at}
use Rattle.instruction_rules.proofs.CountLaws.{deed-most, touched-length}
use Rattle.instruction_rules.proofs.OutcomeLaws.{refused-by, done-by, number_is}
use Rattle.execute.specs.Effects.{channel_worked, change_in, deed_number, Carries, Performs, Prepared, Planned}
use Rattle.execute.specs.Plan.{later_number, plan_from, plan_number}
use Rattle.execute.specs.Writes.{write_made}
use Rattle.execute.specs.declared.Effect.{Effect}
use Rattle.execute.specs.declared.Finding.{Finding}
use Rattle.execute.specs.declared.Write.{Write}

-- an effect with its own bytes among those that are read
abbrev pub effect_settled : ℕ → Effect → Effect
effect_settled reads e =
    record { more = e.more; reads = reads; tp = e.tp; ix = e.ix; psw = e.psw; halts = e.halts; armed = e.armed; write = e.write; count = e.count; space = e.space; address = e.address; value = e.value }

carries-effect_settled : {c : Channel} {d : Deed} (reads : ℕ) (e : Effect) → Carries c d e → Carries c d (effect_settled reads e)
unfolding channel_worked
carries-effect_settled reads e h = record { channel = h.channel; change = h.change }

-- what does a deed is ready, once the bytes of its operand are tested and its own bytes counted
pub does-planned : {c : Channel} {d : Deed} {f : Finding} (m : Buffers) (e : Effect) (number own count reads : ℕ) → Performs m c f d e → number ≡ deed_number m d
    → all_touchable m (span f.space f.at e.reads) ≡ true → count ≡ own
    → reads ≡ (count + (e.more + e.reads) % 4294967296) % 4294967296 → own + length d.reads ≤ 10
    → Prepared c number own d (effect_settled reads e)
unfolding unless
does-planned m e number own count reads h is tested long sum few =
    let none = sym (ap (λ (b : Bool). unless b 2) tested) ∙ h.told in
    record {
      told = is ∙ sym none;
      reads = let r = h.reads (sym none) in omega (arith, r, long, sum, few);
      carries = carries-effect_settled reads e (h.carries (sym none));
    }

-- and refused by 2 where a byte of its operand may not be touched
pub does-beyond : {c : Channel} {d : Deed} {f : Finding} (m : Buffers) (e : Effect) (number : ℕ) → Performs m c f d e → number ≡ deed_number m d
    → all_touchable m (span f.space f.at e.reads) ≡ false → 2 ≡ number
unfolding unless
does-beyond m e number h is beyond = sym (ap (λ (b : Bool). unless b 2) beyond) ∙ h.told ∙ sym is

-- bytes in a row may be touched wherever their first address is reduced
span-after : (m : Buffers) (t : Bool) (a k n : ℕ) → all_touchable m (span t (a % 1048576 + k) n) ≡ all_touchable m (span t (a + k) n)
unfolding span all_pass
span-after m t a k zero = refl
span-after m t a k (suc n) =
    let e : a % 1048576 + k + 1 ≡ a % 1048576 + (k + 1) = omega arith in
    let f : a + (k + 1) ≡ a + k + 1 = omega arith in
    ap₂ ◌&&◌ (touchable-index m t (a % 1048576 + k) (a + k) (index-after t a k))
    (ap (λ (b : ℕ). all_touchable m (span t b n)) e ∙ span-after m t a (k + 1) n ∙ ap (λ (b : ℕ). all_touchable m (span t b n)) f)

-- so two bytes on the address may be reduced
span-reduced : (m : Buffers) (t : Bool) (a k : ℕ) → all_touchable m (span t (sum20 a 2) k) ≡ all_touchable m (span t (a + 1 + 1) k)
span-reduced m t a k =
    let e : (a + 2) % 1048576 ≡ (a + 2) % 1048576 + 0 = omega arith in
    let f : a + 2 + 0 ≡ a + 1 + 1 = omega arith in
    ap (λ (b : ℕ). all_touchable m (span t b k)) e ∙ span-after m t (a + 2) 0 k ∙ ap (λ (b : ℕ). all_touchable m (span t b k)) f

-- two bytes and those behind them
span_more : (m : Buffers) (t : Bool) (a k : ℕ) → all_touchable m (span t a (suc (suc k))) ≡ (all_touchable m (span t a 2) && all_touchable m (span t (sum20 a 2) k))
unfolding span all_pass
span_more m t a k = three (touchable_at m t a) (touchable_at m t (a + 1)) (all_touchable m (span t (a + 1 + 1) k)) ∙ ap (λ (x : Bool). (touchable_at m t a && (touchable_at m t (a + 1) && true)) && x) (sym (span-reduced m t a k))
  where
    three : (p q r : Bool) → p && (q && r) ≡ ((p && (q && true)) && r)
    three true true r = refl
    three true false r = refl
    three false q r = refl

span-two : (m : Buffers) (t : Bool) (a n : ℕ) → 2 ≤ n → all_touchable m (span t a n) ≡ (all_touchable m (span t a 2) && all_touchable m (span t (sum20 a 2) (n - 2)))
span-two m t a n h =
    let back : suc (suc (n - 2)) ≡ n = omega (arith, h) in
    subst (λ (k : ℕ). all_touchable m (span t a k) ≡ (all_touchable m (span t a 2) && all_touchable m (span t (sum20 a 2) (n - 2)))) back (span_more m t a (n - 2))

-- the numbers of two tests and what follows them
both-beyond : (x : ℕ) (p q : Bool) → p && q ≡ false → 2 ≡ first (unless p 2) (first (unless q 2) x)
unfolding first unless
both-beyond x true true e = apart e
both-beyond x true false e = refl
both-beyond x false q e = refl

both-passed : (x : ℕ) (p q : Bool) → p && q ≡ true → first (unless p 2) (first (unless q 2) x) ≡ x
unfolding first unless
both-passed x true true e = refl
both-passed x true false e = apart (sym e)
both-passed x false q e = apart (sym e)

-- a number other than 0 behind a test hides what follows it
hidden : (x k : ℕ) (p : Bool) → eqb k 0 ≡ false → (first (unless p 2) k ≡ first (unless p 2) (first k x)) × (first (unless p 2) k ≡ 0 → ⊥)
unfolding first unless
hidden x k true e = rw e (refl, eqb-false k 0 e)
hidden x k false e = (refl, eqb-false 2 0 refl)

module _ (m : Buffers) (c : Channel) (busy : ℕ) where
  -- the number of an instruction of some shape
  abbrev pub shaped_number : Shape → ℕ
  shaped_number s = first (unless (all_touchable m (bytes_at c.tp 2)) 2) (later_number (Ok s) m c busy)

  own-bytes : (s : Shape) → all_touchable m (span c.tp.tag c.tp.address (length_of s)) ≡ (all_touchable m (bytes_at c.tp 2) && all_touchable m (later_bytes s c))
  unfolding later_bytes onward
  own-bytes s = span-two m c.tp.tag c.tp.address (length_of s) (bounded s).0

  -- where one of its own bytes may not be touched it is refused by 2
  pub own-beyond : (s : Shape) → all_touchable m (span c.tp.tag c.tp.address (length_of s)) ≡ false → 2 ≡ shaped_number s
  unfolding later_number later_from deed_from
  own-beyond s h = both-beyond (deed_number m (deed_of s m c busy)) (all_touchable m (bytes_at c.tp 2)) (all_touchable m (later_bytes s c)) (sym (own-bytes s) ∙ h)

  -- where all may be touched, its deed gives the number
  pub own-touched : (s : Shape) → all_touchable m (span c.tp.tag c.tp.address (length_of s)) ≡ true → shaped_number s ≡ deed_number m (deed_of s m c busy)
  unfolding later_number later_from deed_from
  own-touched s h = both-passed (deed_number m (deed_of s m c busy)) (all_touchable m (bytes_at c.tp 2)) (all_touchable m (later_bytes s c)) (sym (own-bytes s) ∙ h)

  -- what is no instruction is refused by 2 or by its own number
  none_from : (d : Decoded) → ((s : Shape) → d ≡ Ok s → ⊥) → let n = first (unless (all_touchable m (bytes_at c.tp 2)) 2) (decoded_number d) in (n ≡ plan_from d m c busy) × (n ≡ 0 → ⊥)
  unfolding plan_from
  none_from (Ok s) h = absurd (h s refl)
  none_from (Err NoInstruction) h = hidden (later_number (Err NoInstruction) m c busy) 3 (all_touchable m (bytes_at c.tp 2)) refl
  none_from (Err ControlUsed) h = hidden (later_number (Err ControlUsed) m c busy) 4 (all_touchable m (bytes_at c.tp 2)) refl

  pub plan-none : (d : Decoded) → ((s : Shape) → d ≡ Ok s → ⊥) → decoded_at m c.tp ≡ d → let n = first (unless (all_touchable m (bytes_at c.tp 2)) 2) (decoded_number d) in (n ≡ plan_number m c busy) × (n ≡ 0 → ⊥)
  unfolding plan_number
  plan-none d h e = rw e (none_from d h)

  -- what is one is as planned
  shaped_from : (d : Decoded) (r : Result Effect Refusal) (s : Shape) → d ≡ Ok s → Planned c (shaped_number s) (length_of s) (deed_of s m c busy) r → Planned c (plan_from d m c busy) (length_from d) (deed_from d m c busy) r
  unfolding plan_from deed_from length_from first
  shaped_from d r s i p = rw i p

  pub plan-shaped : (r : Result Effect Refusal) (s : Shape) → decoded_at m c.tp ≡ Ok s → Planned c (shaped_number s) (length_of s) (deed_of s m c busy) r → Planned c (plan_number m c busy) (length_from (decoded_at m c.tp)) (deed_at m c busy) r
  unfolding plan_number
  plan-shaped r s i p = shaped_from (decoded_at m c.tp) r s i p

  -- ---- the stores

  split_from : (d : Decoded) → stages_number m (stages_from d m c busy) ≡ first (plan_from d m c busy) (unless (all_touchable m (places_of (deed_from d m c busy).change)) 2)
  unfolding stages_number stages_from plan_from later_number deed_number
  split_from d = simp (all_append, both-tested, first-assoc)

  -- the number of an instruction is that of its plan, then 2 from the stores
  split : execute_number m c busy ≡ first (plan_number m c busy) (unless (all_touchable m (places_of (deed_at m c busy).change)) 2)
  unfolding execute_number instruction_stages plan_number
  split = split_from (decoded_at m c.tp)

  -- a refused plan is the outcome
  pub plan-refused : (plan_number m c busy ≡ 0 → ⊥) → execute_of c busy m ≡ executed (plan_number m c busy) c m
  plan-refused ne =
      let same : execute_number m c busy ≡ plan_number m c busy = split ∙ first_some (plan_number m c busy) (unless (all_touchable m (places_of (deed_at m c busy).change)) 2) ne in
      refused-by c busy m (λ z. ne (sym same ∙ z)) ∙ ap (λ (n : ℕ). executed n c m) same

  stores-number : (b : Bool) → plan_number m c busy ≡ 0 → all_touchable m (places_of (deed_at m c busy).change) ≡ b → execute_number m c busy ≡ unless b 2
  stores-number b z e = split ∙ first-none (plan_number m c busy) (unless (all_touchable m (places_of (deed_at m c busy).change)) 2) z ∙ ap (λ (x : Bool). unless x 2) e

  -- so a plan that is not refused passes where its stores may be touched
  pub plan-passed : plan_number m c busy ≡ 0 → all_touchable m (places_of (deed_at m c busy).change) ≡ true → execute_number m c busy ≡ 0
  unfolding unless
  plan-passed z e = stores-number true z e

  -- a plan that is not is done where its stores may be touched, and else refused by 2
  pub plan-done : plan_number m c busy ≡ 0 → all_touchable m (places_of (deed_at m c busy).change) ≡ true → execute_of c busy m ≡ executed 0 (deed_at m c busy).channel (changed m (deed_at m c busy).change)
  plan-done z e = done-by c busy m (plan-passed z e)

  pub plan-unstored : plan_number m c busy ≡ 0 → all_touchable m (places_of (deed_at m c busy).change) ≡ false → execute_of c busy m ≡ executed 2 c m
  unfolding unless
  plan-unstored z e =
      let two : execute_number m c busy ≡ 2 = stores-number false z e in
      refused-by c busy m (λ n. eqb-false 2 0 refl (sym two ∙ n)) ∙ ap (λ (n : ℕ). executed n c m) two

  -- ---- the count

  -- a refusal counts nothing
  pub none-counted : (n : ℕ) → execute_of c busy m ≡ executed n c m → (n ≡ 0 → ⊥) → 0 ≡ execute_count c busy m
  unfolding execute_count
  none-counted n e ne =
      sym (refused-counts (execute_of c busy m).number (touched_by_instruction m c busy) (λ z. ne (sym (ap (λ (o : Executed). o.number) e) ∙ z)))

  -- what is read and stored of a plan is at most ten bytes
  pub plan-most : (e : Effect) → e.reads ≡ length_from (decoded_at m c.tp) + length (deed_at m c busy).reads → change_in e ≡ (deed_at m c busy).change → e.reads + e.count ≤ 10
  plan-most e r ch = omega (arith, r, ap (λ (x : Change). x.count) ch, deed-most m c busy (decoded_at m c.tp))

  -- and of a done one it is its list
  pub plan-counted : (e : Effect) → e.reads ≡ length_from (decoded_at m c.tp) + length (deed_at m c busy).reads → change_in e ≡ (deed_at m c busy).change → execute_number m c busy ≡ 0 → e.reads + e.count ≡ execute_count c busy m
  unfolding execute_count
  plan-counted e r ch z =
      ap₂ ◌+◌ r (ap (λ (x : Change). x.count) ch)
      ∙ sym (done-counts (execute_of c busy m).number (touched_by_instruction m c busy) (number_is c busy m ∙ z) ∙ touched-length m c busy z)
