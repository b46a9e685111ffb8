-- Bytes of a buffer: written from hexadecimal digits, and digested.
use Rattle.std.specs.Prelude.{Bool, List, [], ◌∷◌, ℕ, ◌+◌, ◌*◌, ◌/◌, ◌%◌, leb, length, set}
use Rattle.std.specs.Int.Bits.{bit_xor}
use Rattle.script_text.specs.Text.{digit_of}

-- the byte that two hexadecimal digits write
unfoldable pub byte_of : ℕ → ℕ → ℕ
byte_of high low = digit_of high % 16 * 16 + digit_of low % 16

-- a buffer with bytes written from an index on, two digits each
unfoldable pub bytes_written : List ℕ → ℕ → List ℕ → List ℕ
bytes_written s at [] = s
bytes_written s at (d ∷ []) = s
bytes_written s at (high ∷ low ∷ digits) = bytes_written (set s at (byte_of high low)) (at + 1) digits

-- none of the bytes lies past the buffer's end
unfoldable pub has_room : List ℕ → ℕ → List ℕ → Bool
has_room s at digits = leb (at + length digits / 2) (length s)

-- the digest with one byte more: a multiple of FNV's prime, in 32 bits
unfoldable pub digest_byte : ℕ → ℕ → ℕ
digest_byte d b = bit_xor d b * 0x1000193 % 0x100000000

-- the digest of bytes behind those that gave `d`
unfoldable pub digest_from : ℕ → List ℕ → ℕ
digest_from d [] = d
digest_from d (b ∷ s) = digest_from (digest_byte d b) s

-- the digest of bytes, 32-bit FNV-1a with its own start
unfoldable pub digest_of : List ℕ → ℕ
digest_of s = digest_from 0x811c9dc5 s
