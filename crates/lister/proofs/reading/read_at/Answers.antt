-- `lister::reading::read_at` meets its contract: what a reader at the place hands out is what stands there.
-- Assumes nothing.
use mathlib.Core.List.{List}
use mathlib.Core.Path.{ap, ap₂, ◌∙◌}
use Prim.Native.Nat.{ℕ}
use native.Mathlib.Omega.{arith}
use lib.ListN.{drop}
use Rattle.std.specs.Prelude.{Option}
use Rattle.std.proofs.Common.{unwrap_or}
use Rattle.listing_rules.specs.Items.{item_of}
use Rattle.listing_rules.specs.declared.Item.{Item}
use Rattle.listing_rules.specs.declared.Item.TheVariants.{End}
use Rattle.lister.specs.Readers.{handed}
use Rattle.lister.proofs.StepLaws.{handed-back, place-below}
use Rattle.lister.proofs.reading.read_at.Goals as goal

pub returns-clause-value : goal.returns-clause-value
returns-clause-value c =
    let there = ap₂ (λ (n : ℕ) (l : List ℕ). handed (item_of (drop n l))) c.new-reader.ensures.1 (ap (λ x. x.now) c.new-reader.ensures.0) in
    c.unwrap_or.ensures ∙ ap (λ (o : Option Item). unwrap_or o End) (c.next.ensures.steps.item ∙ there) ∙ handed-back (item_of (drop c.args.at c.args.code.now))

pub returns-clause-place : goal.returns-clause-place
returns-clause-place c =
    let there = ap₂ (λ (n : ℕ) (l : List ℕ). handed (item_of (drop n l))) c.new-reader.ensures.1 (ap (λ x. x.now) c.new-reader.ensures.0) in
    place-below c.args.code.now c.args.at _ _
    (c.unwrap_or.ensures ∙ ap (λ (o : Option Item). unwrap_or o End) (c.next.ensures.steps.item ∙ there) ∙ handed-back (item_of (drop c.args.at c.args.code.now)))
    (omega arith) (omega arith)
