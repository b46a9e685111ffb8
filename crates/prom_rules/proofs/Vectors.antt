-- Small files and what reading them gives, each computed: records in full, wraps, line ends, damage, and what is ignored.
-- Assumes nothing.
use Prim.Native.Nat.{ℕ}
use lib.ListN.{replicate}
use mathlib.Core.List.{List, [], ◌∷◌, ◌++◌}
use mathlib.Core.Path.{◌≡◌, refl}
use Rattle.ground_rules.specs.Buffers.{buffers, space_of, limit_of, index_of, lent_at, store_byte, within_limits}
use Rattle.prom_rules.specs.File.{FileStore, next_line, stores_from, stores_of, segment_after, start_after, file_of}
use Rattle.prom_rules.specs.Load.{Loading, loading, beyond_line, store_all, text_file, hex_placed, load_of}
use Rattle.prom_rules.specs.Records.{hex_value, all_hex, hex_bytes, hex_size, address_field, type_of, data_bytes, segment_of, start_of, sum_of, is_record, sums_to_zero, fits_type, line_refusal}
use Rattle.prom_rules.specs.Text.{begins_lf, in_front, hex_lines}
use Rattle.prom_rules.specs.Writer.{digit_for, digits_for}

-- the line of some bytes, check byte and all, and its line end
abbrev lf : List ℕ → List ℕ
lf bytes = (58 ∷ digits_for bytes) ++ 10 ∷ []

abbrev crlf : List ℕ → List ℕ
crlf bytes = (58 ∷ digits_for bytes) ++ 13 ∷ 10 ∷ []

-- the end record
abbrev end : List ℕ
end = lf (0x00 ∷ 0x00 ∷ 0x00 ∷ 0x01 ∷ 0xFF ∷ [])

-- three bytes at 4
abbrev three : List ℕ
three = 0x03 ∷ 0x00 ∷ 0x04 ∷ 0x00 ∷ 0x02 ∷ 0x33 ∷ 0x7A ∷ 0x4A ∷ []

-- what a text leaves of so many zero bytes
reading : List ℕ → ℕ → Loading
unfolding load_of text_file hex_placed file_of next_line stores_from stores_of segment_after start_after beyond_line store_all hex_lines in_front begins_lf line_refusal is_record sums_to_zero fits_type type_of hex_size address_field data_bytes segment_of start_of sum_of hex_bytes all_hex hex_value digits_for digit_for within_limits limit_of lent_at index_of space_of store_byte
reading text n = load_of text (buffers (replicate n 0) [])

-- a refused text leaves them
abbrev refused : ℕ → ℕ → ℕ → Loading
refused number line n = loading number 0 line (buffers (replicate n 0) [])

-- the addresses of some stores
addresses : List FileStore → List ℕ
addresses [] = []
addresses (s ∷ ss) = s.address ∷ addresses ss

-- those that a text stores to
places : List ℕ → List ℕ
unfolding text_file file_of next_line stores_from stores_of segment_after start_after hex_lines in_front begins_lf line_refusal is_record sums_to_zero fits_type type_of hex_size address_field data_bytes segment_of start_of sum_of hex_bytes all_hex hex_value digits_for digit_for addresses
places text = addresses (text_file text).stores

-- ---- good files

three-bytes : reading (lf three ++ end) 8 ≡ loading 0 0 0 (buffers (0 ∷ 0 ∷ 0 ∷ 0 ∷ 0x02 ∷ 0x33 ∷ 0x7A ∷ 0 ∷ []) [])
unfolding reading
three-bytes = refl

-- the same in lower case, and with CR LF: a and f are 97 and 102
lower-case : reading (58 ∷ 48 ∷ 48 ∷ 48 ∷ 48 ∷ 48 ∷ 48 ∷ 48 ∷ 49 ∷ 102 ∷ 102 ∷ []) 2 ≡ refused 0 0 2
unfolding reading
lower-case = refl

line-ends : reading (crlf three ++ crlf (0x00 ∷ 0x00 ∷ 0x00 ∷ 0x01 ∷ 0xFF ∷ [])) 7 ≡ loading 0 0 0 (buffers (0 ∷ 0 ∷ 0 ∷ 0 ∷ 0x02 ∷ 0x33 ∷ 0x7A ∷ []) [])
unfolding reading
line-ends = refl

-- of two records on one byte the later stands
later-stands : reading (lf (0x02 ∷ 0 ∷ 0 ∷ 0 ∷ 0x11 ∷ 0x22 ∷ 0xCB ∷ []) ++ lf (0x01 ∷ 0 ∷ 1 ∷ 0 ∷ 0x33 ∷ 0xCB ∷ []) ++ end) 2 ≡ loading 0 0 0 (buffers (0x11 ∷ 0x33 ∷ []) [])
unfolding reading
later-stands = refl

-- the last start address, CS × 16 + IP
last-start : reading (lf (4 ∷ 0 ∷ 0 ∷ 3 ∷ 0 ∷ 1 ∷ 0 ∷ 2 ∷ 0xF6 ∷ []) ++ lf (4 ∷ 0 ∷ 0 ∷ 3 ∷ 0x12 ∷ 0x34 ∷ 0x56 ∷ 0x78 ∷ 0xE5 ∷ []) ++ end) 0 ≡ loading 0 0x179B8 0 (buffers [] [])
unfolding reading
last-start = refl

-- a record of type 02 with segment 1
abbrev segment-1 : List ℕ
segment-1 = lf (2 ∷ 0 ∷ 0 ∷ 2 ∷ 0x00 ∷ 0x01 ∷ 0xFB ∷ [])

-- AAh at offset 0
abbrev byte-0 : List ℕ
byte-0 = lf (1 ∷ 0 ∷ 0 ∷ 0 ∷ 0xAA ∷ 0x55 ∷ [])

-- BBh at offset 1
abbrev byte-1 : List ℕ
byte-1 = lf (1 ∷ 0 ∷ 1 ∷ 0 ∷ 0xBB ∷ 0x43 ∷ [])

-- a segment lasts over a data record
segment-lasts : reading (segment-1 ++ byte-0 ++ byte-1 ++ end) 18 ≡ loading 0 0 0 (buffers (replicate 16 0 ++ 0xAA ∷ 0xBB ∷ []) [])
unfolding reading
segment-lasts = refl

-- and over a start address, which itself lasts over a data record
both-last : reading (segment-1 ++ byte-0 ++ lf (4 ∷ 0 ∷ 0 ∷ 3 ∷ 0 ∷ 1 ∷ 0 ∷ 2 ∷ 0xF6 ∷ []) ++ byte-1 ++ end) 18
    ≡ loading 0 0x12 0 (buffers (replicate 16 0 ++ 0xAA ∷ 0xBB ∷ []) [])
unfolding reading
both-last = refl

-- text behind the end record is not looked at
behind : reading (end ++ 120 ∷ 10 ∷ 10 ∷ []) 1 ≡ refused 0 0 1
unfolding reading
behind = refl

-- the offset wraps, and then the segment is added
offset-wraps : places (lf (2 ∷ 0 ∷ 0 ∷ 2 ∷ 0x00 ∷ 0x01 ∷ 0xFB ∷ []) ++ lf (2 ∷ 0xFF ∷ 0xFF ∷ 0 ∷ 0xAA ∷ 0xBB ∷ 0x9B ∷ []) ++ end) ≡ 0x1000F ∷ 0x10 ∷ []
unfolding places
offset-wraps = refl

-- addresses count mod 1,048,576
address-wraps : places (lf (2 ∷ 0 ∷ 0 ∷ 2 ∷ 0xFF ∷ 0xFF ∷ 0xFE ∷ []) ++ lf (2 ∷ 0x00 ∷ 0x0F ∷ 0 ∷ 0xAA ∷ 0xBB ∷ 0x8A ∷ []) ++ end) ≡ 0xFFFFF ∷ 0x00000 ∷ []
unfolding places
address-wraps = refl

-- ---- refused ones

-- nothing at all
empty : reading [] 1 ≡ refused 23 0 1
unfolding reading
empty = refl

-- a blank line
blank : reading (lf three ++ 13 ∷ 10 ∷ end) 8 ≡ refused 20 2 8
unfolding reading
blank = refl

-- a CR that no LF follows, and anything else behind the digits of the end record
lone-cr : reading (58 ∷ digits_for (0x00 ∷ 0x00 ∷ 0x00 ∷ 0x01 ∷ 0xFF ∷ []) ++ 13 ∷ []) 1 ≡ refused 20 1 1
unfolding reading
lone-cr = refl

-- a wrong check byte before an unknown type, and the type by itself
check-first : reading (lf (0 ∷ 0 ∷ 0 ∷ 4 ∷ 0 ∷ []) ++ end) 1 ≡ refused 21 1 1
unfolding reading
check-first = refl

unknown-type : reading (lf (0 ∷ 0 ∷ 0 ∷ 4 ∷ 0xFC ∷ []) ++ end) 1 ≡ refused 22 1 1
unfolding reading
unknown-type = refl

-- the whole file is judged before memory: 21 in line 2, then 23, then 2
judged-first : reading (lf three ++ lf (0 ∷ 0 ∷ 0 ∷ 1 ∷ 0xFE ∷ [])) 1 ≡ refused 21 2 1
unfolding reading
judged-first = refl

no_end : reading (lf three) 1 ≡ refused 23 1 1
unfolding reading
no_end = refl

beyond : reading (lf three ++ end) 6 ≡ refused 2 1 6
unfolding reading
beyond = refl
