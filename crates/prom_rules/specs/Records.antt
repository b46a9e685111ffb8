-- A record: the bytes that the digits of a line write, their parts, and whether the line is a good record (§12.1).
use Rattle.std.specs.Prelude.{ℕ, ◌+◌, ◌-◌, ◌*◌, ◌%◌, eqb, ltb, leb, length, get_or, take, drop, Bool, true, ◌&&◌, ◌||◌, List, [], ◌∷◌}
use Rattle.ground_rules.specs.Bytes.{word_of}
use Rattle.ground_rules.specs.Choice.{pick}
use Rattle.ground_rules.specs.Sums.{address_of}

-- whether a byte lies in a range, both ends included
abbrev pub within : ℕ → ℕ → ℕ → Bool
within low high b = leb low b && leb b high

-- the value of a hexadecimal digit, 0-9, A-F or a-f; 16 for any other byte (§12.1)
unfoldable pub hex_value : ℕ → ℕ
hex_value b = pick (within 48 57 b) (b - 48) (pick (within 65 70 b) (b - 55) (pick (within 97 102 b) (b - 87) 16))

-- every byte is a hexadecimal digit
unfoldable pub all_hex : List ℕ → Bool
all_hex [] = true
all_hex (b ∷ bs) = ltb (hex_value b) 16 && all_hex bs

-- the byte that two digits write, the high one first (§12.1)
abbrev pub hex_byte : ℕ → ℕ → ℕ
hex_byte high low = hex_value high * 16 + hex_value low

-- the bytes that digits write, two for each
unfoldable pub hex_bytes : List ℕ → List ℕ
hex_bytes [] = []
hex_bytes (high ∷ []) = []
hex_bytes (high ∷ low ∷ rest) = hex_byte high low ∷ hex_bytes rest

-- what stands behind the first byte of a line, the colon
abbrev pub digits_of : List ℕ → List ℕ
digits_of line = drop 1 line

-- the bytes of a record: length, address, type, data, check byte (§12.1)
abbrev pub record_of : List ℕ → List ℕ
record_of line = hex_bytes (digits_of line)

-- how many data bytes a record says it has
unfoldable pub hex_size : List ℕ → ℕ
hex_size bytes = get_or bytes 0 0

-- the word at a place of a record, high byte first
abbrev pub word_from : List ℕ → ℕ → ℕ
word_from bytes at = word_of (get_or bytes (at + 1) 0) (get_or bytes at 0)

-- its address field (§12.1)
unfoldable pub address_field : List ℕ → ℕ
address_field bytes = word_from bytes 1

-- its type: 00 data, 01 end, 02 extended segment address, 03 start address (§12.2)
unfoldable pub type_of : List ℕ → ℕ
type_of bytes = get_or bytes 3 0

-- its data
unfoldable pub data_bytes : List ℕ → List ℕ
data_bytes bytes = take (hex_size bytes) (drop 4 bytes)

-- the segment that a record of type 02 sets (§12.2)
unfoldable pub segment_of : List ℕ → ℕ
segment_of bytes = word_from bytes 4

-- the start address that a record of type 03 gives: CS, then IP (§12.2)
unfoldable pub start_of : List ℕ → ℕ
start_of bytes = address_of (word_from bytes 6) (word_from bytes 4)

-- the sum of some bytes
unfoldable pub sum_of : List ℕ → ℕ
sum_of [] = 0
sum_of (b ∷ bs) = b + sum_of bs

-- a line is a record: its colon, then digits alone, two for each byte, and besides its data five bytes (§12.1)
unfoldable pub is_record : List ℕ → Bool
is_record line =
    eqb (get_or line 0 0) 58 && (all_hex (digits_of line) && eqb (length (digits_of line)) (2 * (hex_size (record_of line) + 5)))

-- the check byte makes all bytes sum to 0 mod 256 (§12.1)
unfoldable pub sums_to_zero : List ℕ → Bool
sums_to_zero bytes = eqb (sum_of bytes % 256) 0

-- a type that is known, with a length that fits it (§12.3)
unfoldable pub fits_type : ℕ → ℕ → Bool
fits_type kind size = eqb kind 0 || (eqb kind 1 && eqb size 0 || (eqb kind 2 && eqb size 2 || eqb kind 3 && eqb size 4))

-- the number of a line: 20, then 21, then 22; 0 for a good record (§12.3)
unfoldable pub line_refusal : List ℕ → ℕ
line_refusal line =
    let bytes = record_of line in
    pick (is_record line) (pick (sums_to_zero bytes) (pick (fits_type (type_of bytes) (hex_size bytes)) 0 22) 21) 20
