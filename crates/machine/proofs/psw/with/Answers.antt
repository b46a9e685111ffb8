-- `machine::psw::with` meets its contract.
-- Assumes nothing.
use Prim.Native.Nat.{◌<◌}
use borrow.Author.Tests.{lt-ltb, le-ltb, le-leb}
use native.Mathlib.Nat.{mod-eq_of_lt}
use native.Mathlib.Omega.{arith}
use Rattle.ground_rules.proofs.BitLaws.{with-bit-lt}
use Rattle.ground_rules.specs.Psw.{with_psw}
use Rattle.machine.proofs.psw.with.Goals as goal

pub returns-then-at-lt8 : goal.returns-then-at-lt8
unfolding with_psw
returns-then-at-lt8 c =
    let a = c.args in
    let at32 : a.at < 32 = omega (arith, c.if-at-lt8.true) in
    rw (c.with_bit.ensures, lt-ltb a.at 32 at32, lt-ltb a.at 8 c.if-at-lt8.true)
    (mod-eq_of_lt (with-bit-lt 8 a.psw a.at a.on c.ranges.psw.fits c.if-at-lt8.true))

pub returns-else-at-lt8 : goal.returns-else-at-lt8
unfolding with_psw
returns-else-at-lt8 c = simp (le-ltb _ _ c.if-at-lt8.false, le-leb _ _ c.if-at-lt8.false)
