-- `lister::listings::row_at` meets its contract: the row of an instruction, of CALL with W 0, of a byte, of nothing.
-- Assumes nothing.
use mathlib.Core.Path.{refl, sym, ap, ◌∙◌}
use mathlib.Core.List.{List}
use Prim.Native.Nat.{ℕ, ◌+◌, ◌%◌}
use native.Mathlib.Omega.{arith}
use lib.ListN.{take, drop, length-drop}
use Rattle.listing_rules.specs.Lines.{instruction_line, data_line}
use Rattle.lister.proofs.RowLaws.{rest_all, cut-there, cut-whole, cut-byte, shown-line, shown-call, shown-byte, shown-end}
use Rattle.lister.proofs.listings.row_at.Goals as goal

pub overflow_add-end-then-listed : goal.overflow_add-end-then-listed
overflow_add-end-then-listed c = omega (arith, cut-there c.args.part.now c.args.at _ c.read_at.ensures.value c.in-Whole.is, length-drop c.args.at c.args.part.now)

pub returns-then-listed : goal.returns-then-listed
returns-then-listed c =
    let a = c.args in
    let same = rest_all a.part.now a.at in
    let w = c.in-Whole in
    let n = w.length in
    let end = a.first % 65536 + a.at + n in
    shown-line _ (a.first + a.at) (drop a.at a.part.now) _ c.read_at.ensures.value c.instruction_line-line.ensures.1 w.shape w.to n end c.in-Whole.is (sym c.listed.ensures ∙ c.if-listed.true) (omega arith) (c.instruction_line-line.ensures.0 ∙ ap (λ (b : List ℕ). instruction_line b end w.shape w.to) same) refl

pub slice_bounds-data_line-end : goal.slice_bounds-data_line-end
slice_bounds-data_line-end c = cut-whole c.args.part.now c.args.at _ c.read_at.ensures.value c.in-Whole.is

pub slice_bounds-data_line-end-in-Byte : goal.slice_bounds-data_line-end-in-Byte
slice_bounds-data_line-end-in-Byte c = cut-byte c.args.part.now c.args.at _ c.read_at.ensures.value c.in-Byte.is

pub returns-else-listed : goal.returns-else-listed
returns-else-listed c =
    let a = c.args in
    let same = rest_all a.part.now a.at in
    shown-call _ (a.first + a.at) (drop a.at a.part.now) _ c.read_at.ensures.value c.data_line-line.ensures.1 _ _ _ c.in-Whole.is (sym c.listed.ensures ∙ c.if-listed.false) (c.data_line-line.ensures.0 ∙ ap (λ (b : List ℕ). data_line (take 5 (take c.in-Whole.length b))) same) refl

pub returns-in-Byte : goal.returns-in-Byte
returns-in-Byte c =
    let a = c.args in
    let same = rest_all a.part.now a.at in
    shown-byte _ (a.first + a.at) (drop a.at a.part.now) _ c.read_at.ensures.value c.data_line-line-in-Byte.ensures.1 c.in-Byte.is (c.data_line-line-in-Byte.ensures.0 ∙ ap (λ (b : List ℕ). data_line (take 5 (take 1 b))) same) refl

pub returns-in-End : goal.returns-in-End
returns-in-End c =
    let a = c.args in
    let same = rest_all a.part.now a.at in
    shown-end _ (a.first + a.at) (drop a.at a.part.now) _ c.read_at.ensures.value c.data_line-line-in-End.ensures.1 c.in-End.is c.data_line-line-in-End.ensures.0 refl
