-- The masked compare (§2.5).
use Rattle.std.specs.Prelude.{Bool, ℕ, eqb}
use Rattle.std.specs.Int.Bits.{bit_and, bit_xor}
use Rattle.ground_rules.specs.Bytes.{low_byte, high_byte}

-- a byte matches MC: no bit that the high byte of MC makes count differs from the low byte
unfoldable pub match_of : ℕ → ℕ → Bool
match_of byte mc = eqb (bit_and (bit_xor byte (low_byte mc)) (high_byte mc)) 0
