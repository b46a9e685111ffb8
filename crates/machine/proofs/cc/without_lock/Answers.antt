-- `machine::cc::without_lock` meets its contract.
-- Assumes nothing.
use mathlib.Core.Path.{ap, ◌∙◌}
use native.Mathlib.Nat.{add-zero}
use native.Mathlib.Omega.{arith}
use Prim.Native.Nat.{ℕ, ◌+◌, ◌*◌, ◌/◌, ◌%◌}
use Rattle.ground_rules.proofs.BitLaws.{clear-masked}
use Rattle.ground_rules.specs.Bits.{with_bit}
use Rattle.ground_rules.specs.Cc.{without_lock}
use Rattle.machine.proofs.cc.without_lock.Goals as goal

pub returns : goal.returns
unfolding without_lock with_bit
returns c =
    let cc = c.args.cc in
    clear-masked 16 cc 9 c.ranges.cc.fits (omega arith) ∙ ap (λ (n : ℕ). n + cc % 512) (add-zero (cc / 1024 * 1024))
