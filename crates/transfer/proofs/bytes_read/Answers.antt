-- `transfer::bytes_read` meets its contract.
-- Assumes nothing.
use Rattle.std.proofs.Common.{None, Some}
use Prim.Native.Nat.{ℕ, ◌+◌, ◌≤◌}
use package.mir.Val.{bool_byte}
use borrow.Author.Rules.{rules}
use borrow.Author.Tests.{not-true, not-false}
use mathlib.Core.Bool.{Bool, true, false}
use mathlib.Core.Path.{◌≡◌, refl, sym, ap, ◌∙◌}
use native.Mathlib.Omega.{arith}
use Rattle.ground_rules.specs.Choice.{pick}
use Rattle.transfer_rules.specs.Parts.{is_half, store_part}
use Rattle.transfer.specs.Setups.{setup_of}
use Rattle.transfer_rules.specs.Steps.{reads_by}
use Rattle.transfer_rules.proofs.CountLaws.{whole-reads, fetch-reads, store-reads}
use Rattle.transfer.proofs.bytes_read.Goals as goal

-- a bool as a number
as_number : (b : Bool) → bool_byte b ≡ pick b 1 0
as_number true = refl
as_number false = refl

few : (two translates : Bool) → pick two 2 1 + pick translates 1 0 ≤ 3
few true true = omega arith
few true false = omega arith
few false true = omega arith
few false false = omega arith

pub overflow_add-result : goal.overflow_add-result
overflow_add-result c =
    let two = c.of-moving.result.setup.two in
    let translates = c.args.c.fields.translates in
    omega (arith, c.one_or_two.ensures, as_number translates, few two translates)

pub returns-then-not-is_half : goal.returns-then-not-is_half
unfolding setup_of
returns-then-not-is_half c m =
    rw (c.one_or_two.ensures, as_number _, c.of-moving.result.said, c.of-moving.ensures)
    (whole-reads _ m (sym (c.is_half.ensures ∙ ap is_half c.of-moving.ensures) ∙ not-true _ c.if-not-is_half.true-raw))

pub returns-then-c-eq1 : goal.returns-then-c-eq1
returns-then-c-eq1 c m = fetch-reads _ m (sym (c.is_half.ensures ∙ ap is_half c.of-moving.ensures) ∙ not-false _ c.if-not-is_half.false-raw) c.if-c-eq1.true

pub returns-in-None : goal.returns-in-None
unfolding reads_by store_part
returns-in-None c m = store-reads _ m None (sym (c.is_half.ensures ∙ ap is_half c.of-moving.ensures) ∙ not-false _ c.if-not-is_half.false-raw) c.if-c-eq1.false c.in-None.is

pub returns-in-Some : goal.returns-in-Some
unfolding reads_by store_part
returns-in-Some c m = store-reads _ m (Some _) (sym (c.is_half.ensures ∙ ap is_half c.of-moving.ensures) ∙ not-false _ c.if-not-is_half.false-raw) c.if-c-eq1.false c.in-Some.is
