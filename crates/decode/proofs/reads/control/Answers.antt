-- `decode::reads::control` meets its contract: of the rows of the control codes RRR chooses one, and the other columns are those of all four.
-- Assumes nothing.
use borrow.Author.Tests.{lt-leb, le-leb, ne_eqb}
use mathlib.Core.Bool.{and-false}
use Prim.Native.Nat.{◌≤◌, ◌<◌}
use native.Mathlib.Omega.{arith}
use Rattle.decode.proofs.CellLaws.{control-codes}
use Rattle.decode.proofs.reads.control.Goals as goal

pub returns-in-0 : goal.returns-in-0
returns-in-0 c =
    simp (c.answer.ensures, control-codes c.args.p, c.in-0.is, c.bare-bare.ensures)

pub returns-in-2 : goal.returns-in-2
returns-in-2 c =
    simp (c.answer-in-2.ensures, control-codes c.args.p, c.in-2.is, c.bare-bare.ensures)

pub returns-in-3 : goal.returns-in-3
returns-in-3 c =
    simp (c.answer-in-3.ensures, control-codes c.args.p, c.in-3.is, c.bare-bare.ensures)

pub returns-in-4-to-7 : goal.returns-in-4-to-7
returns-in-4-to-7 c =
    let n = c.in-4-to-7.in_default-own.rest in
    let rrr = c.args.p.rrr in
    let low : 4 ≤ rrr = omega (arith, n.1, n.0.1, c.in-4-to-7.if-rrr-lt2-own.false) in
    let high : rrr ≤ 7 = omega (arith, c.in-4-to-7.if-rrr-lt8-own.true) in
    simp (c.answer-in-4-to-7.ensures, control-codes c.args.p, ne_eqb _ _ n.1, ne_eqb _ _ n.0.1, ne_eqb _ _ n.0.0.1, le-leb 4 rrr low, le-leb rrr 7 high, c.bare-bare.ensures, c.bit.ensures, c.bit-in-4-to-7.ensures)

pub returns-in_default : goal.returns-in_default
returns-in_default c =
    let n = c.in_default.in_default-own.rest in
    let p = c.args.p in
    let low : p.rrr < 4 = omega (arith, c.in_default.if-rrr-lt2-own.true) in
    simp (control-codes p, ne_eqb _ _ n.1, ne_eqb _ _ n.0.1, ne_eqb _ _ n.0.0.1, lt-leb 4 p.rrr low)

pub returns-in_default-2 : goal.returns-in_default-2
returns-in_default-2 c =
    let n = c.in_default.in_default-own.rest in
    let p = c.args.p in
    let high : 7 < p.rrr = omega (arith, c.in_default.if-rrr-lt8-own.false) in
    simp (control-codes p, ne_eqb _ _ n.1, ne_eqb _ _ n.0.1, ne_eqb _ _ n.0.0.1, lt-leb p.rrr 7 high, and-false)
