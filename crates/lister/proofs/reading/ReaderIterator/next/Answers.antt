-- `lister::reading::ReaderIterator::next` meets its contract.
-- Assumes nothing.
use Prim.Native.Nat.{◌+◌}
use lib.ListN.{drop}
use mathlib.Core.Path.{◌≡◌, refl, ap, ◌∙◌}
use native.Mathlib.Omega.{arith}
use Rattle.std.specs.Prelude.{Some}
use Rattle.listing_rules.specs.Items.{item_of, count_of, behind_of}
use Rattle.listing_rules.specs.declared.Item.{Item}
use Rattle.listing_rules.specs.declared.Item.TheVariants.{Byte}
use Rattle.lister.specs.Readers.{handed}
use Rattle.lister.proofs.StepLaws.{step-some, step-inside, step-place, whole-some, byte-some}
use Rattle.lister.proofs.reading.ReaderIterator.next.Goals as goal

pub returns-in-Whole-clause-steps : goal.returns-in-Whole-clause-steps
returns-in-Whole-clause-steps c =
    let r = c.args.self.now in
    record { item = ap handed c.in-Whole.ensures.value; code = refl; place = step-place r.code.now r.at _ c.in-Whole.ensures.value whole-some }

pub returns-in-Whole-clause-goes : goal.returns-in-Whole-clause-goes
returns-in-Whole-clause-goes c =
    let r = c.args.self.now in
    let some = step-some r.code.now r.at _ c.in-Whole.ensures.value whole-some in
    let inside = step-inside r.code.now r.at _ c.in-Whole.ensures.value whole-some in
    record { on = λ _. (tt, tt, omega (arith, some, inside)); keeps = tt; rests = λ _. tt }

pub returns-in-Byte-clause-steps : goal.returns-in-Byte-clause-steps
returns-in-Byte-clause-steps c =
    let r = c.args.self.now in
    record { item = ap (λ (i : Item). Some i) c.in-Byte.is ∙ ap handed c.in-Byte.ensures.value; code = refl; place = step-place r.code.now r.at Byte c.in-Byte.ensures.value byte-some }

pub returns-in-Byte-clause-goes : goal.returns-in-Byte-clause-goes
returns-in-Byte-clause-goes c =
    let r = c.args.self.now in
    let inside = step-inside r.code.now r.at Byte c.in-Byte.ensures.value byte-some in
    record { on = λ _. (tt, tt, omega (arith, inside)); keeps = tt; rests = λ _. tt }

pub returns-in-End-clause-steps : goal.returns-in-End-clause-steps
unfolding behind_of
returns-in-End-clause-steps c =
    let r = c.args.self.now in
    let place : r.at ≡ r.at + count_of (item_of (drop r.at r.code.now)) = omega (arith, ap count_of c.in-End.ensures.value) in
    record { item = ap handed c.in-End.ensures.value; code = refl; place = place }
