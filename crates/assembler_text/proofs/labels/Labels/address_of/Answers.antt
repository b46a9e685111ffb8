-- `assembler_text::labels::Labels::address_of` meets its contract.
-- Assumes nothing.
use Rattle.std.proofs.Common.{rules, tests}
use mathlib.Core.Path.{ap, ◌∙◌}
use Rattle.std.proofs.lemmas.Iterator.{YieldsList-from_slice, YieldsList-from_zip}
use Rattle.std.proofs.lemmas.Iterator.Search.{find_from_yields_List}
use Rattle.assembly_rules.specs.Text.{capitals}
use Rattle.assembler_text.specs.Places.{address_worth}
use Rattle.assembler_text.proofs.NameLaws.{has_name, label-first}
use Rattle.assembler_text.proofs.labels.Labels.address_of.Goals as goal

pub returns : goal.returns
returns c =
    let text = c.args.text.now in
    let name = capitals c.args.name.now in
    let labels = c.args.self.now in
    let found = find_from_yields_List (has_name text name) c.find.new.self _ c.find.result c.find.ensures.ran (YieldsList-from_zip (YieldsList-from_slice labels.places.now cc) (YieldsList-from_slice labels.addresses.now cc)) (λ x b q k. search (rules, tests)) in
    ap address_worth (search (rules, found)) ∙ label-first text name labels
