-- `lister::reading::unused` meets its contract: its bits are those of the decoder's table.
-- Assumes nothing.
use mathlib.Core.Path.{◌≡◌, ap, ◌∙◌}
use Prim.Native.Nat.{ℕ, ◌/◌, ◌%◌, ◌^◌}
use native.Mathlib.Omega.{arith}
use lib.Dec.{eqb}
use Rattle.ground_rules.specs.Bits.{field_of}
use Rattle.lister.proofs.UnusedLaws.{unused-bit}
use Rattle.lister.proofs.reading.unused.Goals as goal

pub returns : goal.returns
unfolding field_of
returns c =
    let same : c.args.second / 4 ≡ field_of c.args.second 2 6 = omega arith in
    ap (λ (k : ℕ). eqb (0x90080000FFF020FA / 2 ^ k % 2) 1) same ∙ unused-bit c.args.second
