-- The outcome of a transfer step: it is unique, its three cases, 2 by the bytes that it would touch, and a refused step changes nothing.
-- Assumes nothing.
use borrow.Author.Tests.{eqb-false}
use Prim.Native.Nat.{ℕ, zero, suc}
use lib.Dec.{eqb, eqb-suc-zero}
use lib.ListN.{length}
use mathlib.Core.Bool.{Bool, true, false, not, ◌&&◌, ◌||◌}
use mathlib.Core.Logic.{◌↔◌}
use mathlib.Core.Path.{◌≡◌, refl, sym, ap, ◌∙◌}
use Rattle.ground_rules.proofs.OutcomeLaws.{first-right}
use Rattle.ground_rules.proofs.StageLaws.{two-exactly}
use Rattle.ground_rules.specs.Outcomes.{unless, first, counted}
use Rattle.ground_rules.specs.Stages.{stages_number, stages_touched}
use Rattle.ground_rules.specs.declared.Channel.{Channel}
use Rattle.ground_rules.specs.Psw.{source_wide, destination_wide}
use Rattle.ground_rules.specs.Buffers.{Buffers}
use Rattle.ground_rules.specs.Places.{all_pass, all_touchable}
use Rattle.ground_rules.specs.Choice.{pick}
use Rattle.ground_rules.specs.Bits.{bit_of}
use Rattle.ground_rules.proofs.ChoiceLaws.{apart}
use Rattle.transfer_rules.specs.Ends.{externally_ended}
use Rattle.transfer_rules.specs.Parts.{Part, part_of}
use Rattle.transfer_rules.specs.Steps.{Transfer, transferred, touched_by, touched_by_transfer, channel_by, memory_by, bad_mode, stages_by, number_by, step_by, count_by, transfer_stages, transfer_number, transfer_of}
use Rattle.transfer_rules.specs.Sides.{source, destination, word_side, count_on, two_move}

-- no two outcomes meet the contract of a transfer step
pub unique : (c : Channel) (m : Buffers) (o o' : Transfer) → o ≡ transfer_of c m → o' ≡ transfer_of c m → o ≡ o'
unique c m o o' e e' = e ∙ sym e'

-- nor that of an external end
pub unique-end : (c r r' : Channel) → r ≡ externally_ended c → r' ≡ externally_ended c → r ≡ r'
unique-end c r r' e e' = e ∙ sym e'

-- where no mode is bad, a step of two bytes does not translate
pub two-plain : (c : Channel) → bad_mode c ≡ false → two_move c ≡ true → c.fields.translates ≡ false
unfolding bad_mode two_move word_side source destination
two-plain c e f =
    go (eqb c.fields.synchronised 3) c.fields.translates (source_wide c.psw) (destination_wide c.psw) (not (bit_of (source c).pointer.address 0))
    (not (bit_of (destination c).pointer.address 0)) (not (count_on c.fields && eqb c.bc 1)) e f
  where
    go : (s t a b x y k : Bool) → (s || (t && (a || b))) ≡ false → (((a && x) || (b && y)) && k) ≡ true → t ≡ false
    go s false a b x y k e f = refl
    go true true a b x y k e f = apart e
    go false true true b x y k e f = apart e
    go false true false true x y k e f = apart e
    go false true false false x y k e f = apart (sym f)

-- ---- a step of any part

module _ (k : Part) (c : Channel) (m : Buffers) where
  -- the stages in one chain: 5, then 2
  pub chain_by : number_by k c m ≡ first (unless (not (bad_mode c)) 5) (unless (all_touchable m (touched_by k c m)) 2)
  unfolding number_by stages_by stages_number all_pass first unless
  chain_by = ap (first (unless (not (bad_mode c)) 5)) (first-right (unless (all_touchable m (touched_by k c m)) 2))

  -- a bad mode is 5, and nothing changes
  pub outcome-5 : bad_mode c ≡ true → step_by k c m ≡ transferred 5 c m
  unfolding step_by first unless
  outcome-5 h = rw (chain_by, h)

  -- else a byte of system space beyond lent memory is 2, and nothing changes
  pub outcome-2 : bad_mode c ≡ false → all_touchable m (touched_by k c m) ≡ false → step_by k c m ≡ transferred 2 c m
  unfolding step_by first unless
  outcome-2 h l = rw (chain_by, h, l)

  -- else the step is done
  pub outcome-0 : bad_mode c ≡ false → all_touchable m (touched_by k c m) ≡ true → step_by k c m ≡ transferred 0 (channel_by k c m) (memory_by k c m)
  unfolding step_by first unless
  outcome-0 h l = rw (chain_by, h, l)

  -- the first two count nothing, a done one its list
  pub counts-5 : bad_mode c ≡ true → 0 ≡ count_by k c m
  unfolding count_by counted
  counts-5 h = rw (outcome-5 h)

  pub counts-2 : bad_mode c ≡ false → all_touchable m (touched_by k c m) ≡ false → 0 ≡ count_by k c m
  unfolding count_by counted
  counts-2 h l = rw (outcome-2 h l)

  pub counts-0 : bad_mode c ≡ false → all_touchable m (touched_by k c m) ≡ true → length (touched_by k c m) ≡ count_by k c m
  unfolding count_by counted
  counts-0 h l = rw (outcome-0 h l)

-- ---- the step that is due

-- its stages in one chain
pub chain : (c : Channel) (m : Buffers) → transfer_number c m ≡ first (unless (not (bad_mode c)) 5) (unless (all_touchable m (touched_by_transfer c m)) 2)
unfolding transfer_number touched_by_transfer
chain c m = chain_by (part_of c) c m

-- its number is that of its stages
pub number_is : (c : Channel) (m : Buffers) → (transfer_of c m).number ≡ transfer_number c m
unfolding transfer_of step_by transfer_number
number_is c m = go (number_by (part_of c) c m)
  where
    go : (k : ℕ) → (pick (eqb k 0) (transferred 0 (channel_by (part_of c) c m) (memory_by (part_of c) c m)) (transferred k c m)).number ≡ k
    go zero = refl
    go (suc k) = rw (eqb-suc-zero k)

-- its three cases: what holds of each outcome under its condition holds of the step
pub by_number : (c : Channel) (m : Buffers) (P : Transfer → Type 0)
    → (bad_mode c ≡ true → P (transferred 5 c m))
    → ((bad_mode c ≡ false) × (all_touchable m (touched_by_transfer c m) ≡ false) → P (transferred 2 c m))
    → ((bad_mode c ≡ false) × (all_touchable m (touched_by_transfer c m) ≡ true) → P (transferred 0 (channel_by (part_of c) c m) (memory_by (part_of c) c m)))
    → P (transfer_of c m)
unfolding transfer_of touched_by_transfer
by_number c m P p5 p2 p0 = go (bad_mode c) refl (all_touchable m (touched_by_transfer c m)) refl
  where
    go : (b : Bool) → bad_mode c ≡ b → (l : Bool) → all_touchable m (touched_by_transfer c m) ≡ l → P (transfer_of c m)
    go true h l e = rw (outcome-5 (part_of c) c m h) (p5 h)
    go false h false e = rw (outcome-2 (part_of c) c m h e) (p2 (h, e))
    go false h true e = rw (outcome-0 (part_of c) c m h e) (p0 (h, e))

-- the number is 2 exactly where a byte that the step would touch, up to the stage where it stops, may not be touched
pub two-touched : (c : Channel) (m : Buffers) → (transfer_number c m ≡ 2) ↔ (all_touchable m (stages_touched (transfer_stages c m)) ≡ false)
unfolding transfer_number number_by transfer_stages stages_by unless
two-touched c m = two-exactly m (transfer_stages c m) (other (bad_mode c), (refl, tt))
  where
    other : (b : Bool) → eqb (unless (not b) 5) 2 ≡ false
    other true = refl
    other false = refl

-- a refused step is the given channel and memories
pub refused : (c : Channel) (m : Buffers) → ((transfer_of c m).number ≡ 0 → ⊥) → transfer_of c m ≡ transferred (transfer_of c m).number c m
refused c m = by_number c m (λ o. (o.number ≡ 0 → ⊥) → o ≡ transferred o.number c m) (λ g ne. refl) (λ g ne. refl) (λ g ne. absurd (ne refl))

-- a step that is not refused is what it does
pub done : (c : Channel) (m : Buffers) → (transfer_of c m).number ≡ 0 → transfer_of c m ≡ transferred 0 (channel_by (part_of c) c m) (memory_by (part_of c) c m)
done c m =
    by_number c m (λ o. o.number ≡ 0 → o ≡ transferred 0 (channel_by (part_of c) c m) (memory_by (part_of c) c m))
    (λ g e. absurd (eqb-false 5 0 refl e)) (λ g e. absurd (eqb-false 2 0 refl e)) (λ g e. refl)

-- and its mode is none that is refused
pub done-mode : (c : Channel) (m : Buffers) → (transfer_of c m).number ≡ 0 → bad_mode c ≡ false
done-mode c m = by_number c m (λ o. o.number ≡ 0 → bad_mode c ≡ false) (λ g e. absurd (eqb-false 5 0 refl e)) (λ g e. absurd (eqb-false 2 0 refl e)) (λ g e. g.0)
