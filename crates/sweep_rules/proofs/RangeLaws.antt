-- Ranges that do not wrap, byte by byte.
-- Assumes nothing.
use Prim.Native.Nat.{ℕ, ◌+◌, ◌<◌, ◌≤◌}
use mathlib.Core.Bool.{Bool, true, false}
use mathlib.Core.Path.{◌≡◌}
use native.Mathlib.Omega.{arith}
use Rattle.ground_rules.specs.Buffers.{limit_of, index_of}

-- a byte of a range that does not wrap lies as far behind its first as its address does
pub index_on : (t : Bool) (a i l : ℕ) → index_of t a + i < l → l ≤ limit_of t → index_of t (a + i) ≡ index_of t a + i
unfolding index_of limit_of
index_on true a i l h k = omega arith
index_on false a i l h k = omega arith
