-- `assembler_text::labels::named` meets its contract.
-- Assumes nothing.
use Rattle.std.proofs.Common.{rules, tests, ◌<◌, length}
use Prim.Native.Nat.{ℕ}
use mathlib.Core.Path.{ap, ◌∙◌}
use mathlib.Core.List.{List}
use borrow.Author.Rules.{part_to_end}
use Rattle.listing_rules.specs.Characters.{same_text}
use Rattle.assembly_rules.specs.Text.{capitals, leading_run}
use Rattle.assembler_text.specs.Places.{name_at}
use Rattle.assembler_text.proofs.NameLaws.{name-nowhere}
use Rattle.assembler_text.proofs.labels.named.Goals as goal

pub returns-in-Some : goal.returns-in-Some
unfolding name_at
returns-in-Some c =
    let text = c.args.text.now in
    c.is_name.ensures ∙ ap (λ (x : List ℕ). same_text (leading_run x) (capitals c.args.name.now)) (c.in-Some.ensures.lookup.0.2 ∙ part_to_end text c.args.place)

pub returns-in-None : goal.returns-in-None
returns-in-None c =
    let past : length c.args.text.now < c.args.place = search (rules, tests) in
    c.is_empty.ensures ∙ name-nowhere c.args.text.now c.args.place c.args.name.now past
