-- The bytes of a line, one at a time.
-- Assumes nothing.
use mathlib.Core.List.{List, [], ◌++◌}
use mathlib.Core.Path.{◌≡◌, ap}
use Prim.Native.Nat.{ℕ, zero, suc, ◌+◌, ◌-◌, ◌<◌}
use native.Mathlib.Nat.{not-suc-le-zero}
use native.Mathlib.Omega.{arith}
use Rattle.script_lines.specs.Lines.{byte_text, bytes_text}

-- one byte, and those behind it
pub bytes_next : (count : ℕ) (buffer : List ℕ) (at : ℕ) → 0 < count → bytes_text count buffer at ≡ byte_text buffer at ++ bytes_text (count - 1) buffer (at + 1)
unfolding bytes_text
bytes_next zero buffer at h = absurd (not-suc-le-zero h)
bytes_next (suc count) buffer at h =
    let n : count ≡ suc count - 1 = omega arith in
    ap (λ (k : ℕ). byte_text buffer at ++ bytes_text k buffer (at + 1)) n

-- no bytes have no text
pub bytes-none : (count : ℕ) (buffer : List ℕ) (at : ℕ) → count ≡ 0 → bytes_text count buffer at ≡ []
unfolding bytes_text
bytes-none count buffer at e = ap (λ (k : ℕ). bytes_text k buffer at) e
