-- `script_answers::list` meets its contract.
-- Assumes nothing.
use borrow.Author.Tests.{not-true, not-false}
use Prim.Native.Nat.{◌-◌, ◌≤◌}
use lib.ListN.{length, take, drop, length-take, length-drop}
use mathlib.Core.Bool.{true, false}
use mathlib.Core.List.{◌++◌}
use mathlib.Core.Path.{◌≡◌, refl, sym, ap, ◌∙◌}
use native.Mathlib.Omega.{arith}
use Rattle.std.proofs.lemmas.List.{take_rest}
use Rattle.listing_rules.specs.Listings.{lines_of, all_chars}
use Rattle.page.specs.Pages.{sheet, written}
use Rattle.script_lines.specs.Lines.{refused_line}
use Rattle.script_answers.specs.Machine.{is_part}
use Rattle.script_answers.specs.Shown.{listed_text}
use Rattle.script_answers.proofs.ListingLaws.{parted, chars-short, part_there, put_left}
use Rattle.script_answers.proofs.list.Goals as goal

pub returns-then-not-is_part : goal.returns-then-not-is_part
unfolding listed_text
returns-then-not-is_part c =
    let a = c.args in
    let no : is_part a.bytes.now a.address a.count ≡ false = sym c.is_part.ensures ∙ not-true c.is_part.result c.if-not-is_part.true-raw in
    let text : refused_line ≡ listed_text a.bytes.now a.address a.count = rw no in
    record { why = c.refused.ensures.why ∙ rw no; same = c.refused.ensures.same; behind = c.refused.ensures.line ∙ ap (written (sheet a.page.now)) text }

pub slice_bounds-part-end : goal.slice_bounds-part-end
slice_bounds-part-end c =
    let a = c.args in
    let yes : is_part a.bytes.now a.address a.count ≡ true = sym c.is_part.ensures ∙ not-false c.is_part.result c.if-not-is_part.false-raw in
    omega (arith, (parted a.bytes.now a.address a.count yes).there)

pub returns : goal.returns
unfolding listed_text
returns c =
    let a = c.args in
    let page = a.page.now.bytes.now in
    let at = a.page.now.count in
    let part = take a.count (drop a.address a.bytes.now) in
    let lines = all_chars (lines_of a.address part) in
    let yes : is_part a.bytes.now a.address a.count ≡ true = sym c.is_part.ensures ∙ not-false c.is_part.result c.if-not-is_part.false-raw in
    let room : 32768 ≤ length (take (length page - at) (drop at page)) = omega (arith, length-take (length page - at) (drop at page), length-drop at page, c.requires.room) in
    let there = part_there a.bytes.now a.address a.count (take (length page - at) (drop at page)) _ _ _ yes room c.list-listed.ensures in
    let left : lines ++ drop (length lines) (take (length page - at) (drop at page)) ≡ lines ++ drop (length lines) (drop at page) = rw (take_rest page at) in
    let short : length lines ≤ 28672 = chars-short a.address part (omega (arith, length-take a.count (drop a.address a.bytes.now), (parted a.bytes.now a.address a.count yes).few)) in
    let text : lines ≡ listed_text a.bytes.now a.address a.count = rw yes in record {
      why = rw yes;
      same = refl;
      behind = put_left page _ lines at _ _ (omega (arith, short, c.requires.room)) refl (there.0 ∙ left) there.1 ∙ ap (written (sheet a.page.now)) text;
    }
