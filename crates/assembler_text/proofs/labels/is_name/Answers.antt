-- `assembler_text::labels::is_name` meets its contract.
-- Assumes nothing.
use Rattle.std.proofs.Common.{rules, tests, ◌≡◌, drop, length}
use mathlib.Core.Path.{sym, ap, ◌∙◌}
use mathlib.Core.Bool.{Bool, not, ◌&&◌}
use Rattle.std.proofs.lemmas.Iterator.{YieldsList-from_slice, YieldsList-from_zip}
use Rattle.std.specs.List.{list_all, zip}
use Rattle.std.proofs.lemmas.Iterator.Search.{all_from_yields_List}
use Rattle.assembler_text.proofs.NameLaws.{same_pair, run_there, same-name, longer-name, run-behind, no-run-behind}
use Rattle.assembler_text.proofs.labels.is_name.Goals as goal

pub returns-then-chars-name : goal.returns-then-chars-name
returns-then-chars-name c = sym (longer-name c.args.chars.now c.args.name.now c.if-chars-name.true)

pub returns-then-all : goal.returns-then-all
returns-then-all c =
    let name = c.args.name.now in
    let chars = c.args.chars.now in
    let all = all_from_yields_List same_pair c.all.new.self _ c.all.result c.all.ensures.ran (YieldsList-from_zip (YieldsList-from_slice name cc) (YieldsList-from_slice chars cc)) (λ x b q k. search (rules, tests)) in
    let behind : c.is_some_and.result ≡ run_there (drop (length name) chars) = search (rules, tests, run-behind chars (length name), no-run-behind chars (length name)) in
    ap (λ (b : Bool). b && not c.is_some_and.result) (sym c.if-all.true ∙ all) ∙ ap (λ (b : Bool). list_all same_pair (zip name chars) && not b) behind ∙ sym (same-name chars name c.if-chars-name.false)

pub returns-else-all : goal.returns-else-all
returns-else-all c =
    let name = c.args.name.now in
    let chars = c.args.chars.now in
    let all = all_from_yields_List same_pair c.all.new.self _ c.all.result c.all.ensures.ran (YieldsList-from_zip (YieldsList-from_slice name cc) (YieldsList-from_slice chars cc)) (λ x b q k. search (rules, tests)) in
    let none = sym all ∙ c.if-all.false in
    c.if-all.false ∙ sym (same-name chars name c.if-chars-name.false ∙ ap (λ (b : Bool). b && not (run_there (drop (length name) chars))) none)
