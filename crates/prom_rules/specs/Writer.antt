-- A writer of such files: some bytes at an address, a record of type 02 before each data record of at most 16 bytes, then the end record.
use Rattle.std.specs.Prelude.{ℕ, zero, suc, ◌+◌, ◌-◌, ◌/◌, ◌%◌, ltb, length, take, drop, false, List, [], ◌∷◌, ◌++◌}
use Rattle.ground_rules.specs.Buffers.{Buffers, store_byte}
use Rattle.ground_rules.specs.Bytes.{low_byte, high_byte}
use Rattle.ground_rules.specs.Choice.{pick}
use Rattle.prom_rules.specs.Records.{sum_of}

-- the digit of a value below 16
unfoldable pub digit_for : ℕ → ℕ
digit_for v = pick (ltb v 10) (v + 48) (v + 55)

-- the digits of some bytes
unfoldable pub digits_for : List ℕ → List ℕ
digits_for [] = []
digits_for (b ∷ bs) = digit_for (b / 16) ∷ digit_for (b % 16) ∷ digits_for bs

-- the byte that makes all sum to 0 mod 256
unfoldable pub check_for : List ℕ → ℕ
check_for bytes = (256 - sum_of bytes % 256) % 256

-- a record without its check byte: length, address, type, data
abbrev pub unchecked_for : ℕ → ℕ → List ℕ → List ℕ
unchecked_for offset kind bytes = length bytes ∷ high_byte offset ∷ low_byte offset ∷ kind ∷ bytes

-- the line of a record
unfoldable pub line_for : ℕ → ℕ → List ℕ → List ℕ
line_for offset kind bytes =
    58 ∷ digits_for (unchecked_for offset kind bytes ++ check_for (unchecked_for offset kind bytes) ∷ [])

-- the records of some bytes, 16 at a time, and the end record
unfoldable pub records_for : ℕ → ℕ → List ℕ → List ℕ
records_for zero address bytes = line_for 0 1 [] ++ 10 ∷ []
records_for (suc n) address bytes =
    line_for 0 2 (high_byte (address / 16) ∷ low_byte (address / 16) ∷ [])
    ++ 10 ∷ (line_for (address % 16) 0 (take 16 bytes) ++ 10 ∷ records_for n (address + 16) (drop 16 bytes))

-- the file of some bytes at an address
unfoldable pub file_for : ℕ → List ℕ → List ℕ
file_for address bytes = records_for ((length bytes + 15) / 16) address bytes

-- some bytes stored in a row
unfoldable pub store_row : Buffers → ℕ → List ℕ → Buffers
store_row m address [] = m
store_row m address (v ∷ vs) = store_row (store_byte m false address v) (address + 1) vs
