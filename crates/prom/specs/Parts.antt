-- What the parts of the reader promise one another: the first line of a text, its end, digits, types, and the places of a record's bytes.
use Rattle.std.specs.Prelude.{ℕ, zero, suc, ◌+◌, ◌%◌, eqb, ltb, get_or, Bool, true, false, ◌&&◌, ◌||◌, List, [], ◌∷◌, Option, Some, None}
use Rattle.ground_rules.specs.Buffers.{Buffers}
use Rattle.ground_rules.specs.Places.{Place, all_lent}
use Rattle.ground_rules.specs.Choice.{pick}
use Rattle.ground_rules.specs.Sums.{address_of}
use Rattle.prom_rules.specs.Records.{hex_value, hex_byte, all_hex, hex_bytes, hex_size, address_field, type_of, sum_of}
use Rattle.prom_rules.specs.Text.{begins_lf, hex_lines}
use Rattle.prom.specs.declared.records.RecordKind.{RecordKind}
use Rattle.prom.specs.declared.records.RecordKind.TheVariants.{Data, End, Segment, Start}

-- the first of some lines, blank where there is none
abbrev pub first_of : List (List ℕ) → List ℕ
first_of [] = []
first_of (line ∷ lines) = line

-- the first line of a text
abbrev pub first_line : List ℕ → List ℕ
first_line text = first_of (hex_lines text)

-- whether a line ends where a text begins
unfoldable pub ends_here : List ℕ → Bool
ends_here [] = true
ends_here (b ∷ bs) = eqb b 10 || eqb b 13 && begins_lf bs

-- how long the line end is that a text begins with
unfoldable pub end_length : List ℕ → ℕ
end_length [] = 0
end_length (b ∷ bs) = pick (eqb b 10) 1 2

-- the value of a byte that is a digit
unfoldable pub hex_digit : ℕ → Option ℕ
hex_digit b = pick (ltb (hex_value b) 16) (Some (hex_value b)) None

-- the byte that the two digits at a place write, where both are digits
unfoldable pub byte_in : List ℕ → ℕ → Option ℕ
byte_in text at =
    pick (ltb (hex_value (get_or text at 0)) 16 && ltb (hex_value (get_or text (at + 1) 0)) 16)
    (Some (hex_byte (get_or text at 0) (get_or text (at + 1) 0))) None

-- the sum of the bytes that digits write, mod 256, added to one before, where all are digits
unfoldable pub sum_in : ℕ → List ℕ → Option ℕ
sum_in before digits = pick (all_hex digits) (Some ((before + sum_of (hex_bytes digits)) % 256)) None

-- the number of a type
abbrev pub type_number : RecordKind → ℕ
type_number Data = 0
type_number End = 1
type_number Segment = 2
type_number Start = 3

-- the places of so many bytes from an offset on
unfoldable pub places_from : ℕ → ℕ → ℕ → List Place
places_from segment offset zero = []
places_from segment offset (suc n) =
    record { tag = false; address = address_of (offset % 65536) segment } ∷ places_from segment (offset + 1) n

-- whether all bytes that a record stores are lent
unfoldable pub record_lent : Buffers → ℕ → List ℕ → Bool
record_lent m segment bytes = pick (eqb (type_of bytes) 0) (all_lent m (places_from segment (address_field bytes) (hex_size bytes))) true
