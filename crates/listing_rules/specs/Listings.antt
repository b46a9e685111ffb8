-- The listing of a part of memory: its lines, and as many of them as a buffer has room for (§13).
use Rattle.std.specs.Prelude.{List, [], ◌∷◌, ◌++◌, ℕ, zero, suc, ◌+◌, ◌-◌, leb, length, take, drop}
use Rattle.ground_rules.specs.Choice.{pick}
use Rattle.listing_rules.specs.Mnemonics.{is_listed}
use Rattle.listing_rules.specs.Lines.{instruction_line, data_line}
use Rattle.listing_rules.specs.declared.Item.{Item}
use Rattle.listing_rules.specs.declared.Item.TheVariants.{Whole, Byte, End}
use Rattle.listing_rules.specs.Items.{item_of, count_of}

-- a line: the bytes that it lists, and its characters
pub record TextLine : Type 0 where
  pub bytes : List ℕ
  pub chars : List ℕ

-- the characters of a line; `address` is that of its first byte. CALL with W 0 is listed as data (§13.3)
unfoldable pub chars_of : ℕ → List ℕ → Item → List ℕ
chars_of address bytes (Whole shape to count) = pick (is_listed shape) (instruction_line bytes (address + count) shape to) (data_line (take count bytes))
chars_of address bytes Byte = data_line (take 1 bytes)
chars_of address bytes End = data_line (take 0 bytes)

-- the line that some bytes begin with
unfoldable pub line_at : ℕ → List ℕ → TextLine
line_at address bytes = record { bytes = take (count_of (item_of bytes)) bytes; chars = chars_of address bytes (item_of bytes) }

-- at most so many lines of some bytes
unfoldable pub lines_by : ℕ → ℕ → List ℕ → List TextLine
lines_by zero address bytes = []
lines_by (suc most) address [] = []
lines_by (suc most) address (b ∷ bytes) =
    line_at address (b ∷ bytes) ∷ lines_by most (address + count_of (item_of (b ∷ bytes))) (drop (count_of (item_of (b ∷ bytes))) (b ∷ bytes))

-- the lines of some bytes: no line lists less than a byte (§13.1)
unfoldable pub lines_of : ℕ → List ℕ → List TextLine
lines_of address bytes = lines_by (length bytes) address bytes

-- the characters of lines, and the bytes that they list, put together in order
unfoldable pub all_chars : List TextLine → List ℕ
all_chars [] = []
all_chars (line ∷ lines) = line.chars ++ all_chars lines

unfoldable pub all_bytes : List TextLine → List ℕ
all_bytes [] = []
all_bytes (line ∷ lines) = line.bytes ++ all_bytes lines

-- the lines before the first that does not fit (§13.4)
unfoldable pub kept_in : ℕ → List TextLine → List TextLine
kept_in room [] = []
kept_in room (line ∷ lines) = pick (leb (length line.chars) room) (line ∷ kept_in (room - length line.chars) lines) []

-- of a longer part so many bytes are listed (§13.1)
abbrev pub list_limit : ℕ
list_limit = 1048576

-- what a listing leaves: the characters written, the byte at which it stopped, and the buffer
pub record Listing : Type 0 where
  pub characters : ℕ
  pub stop : ℕ
  pub buffer : List ℕ

abbrev pub listing : ℕ → ℕ → List ℕ → Listing
listing characters stop buffer = record { characters = characters; stop = stop; buffer = buffer }

-- lines written at the start of a buffer, the rest of which stays (§13.4)
unfoldable pub placed : List TextLine → List ℕ → Listing
placed lines buffer = listing (length (all_chars lines)) (length (all_bytes lines)) (all_chars lines ++ drop (length (all_chars lines)) buffer)

-- the listing of a part whose first byte has the address `first` (§13.4)
unfoldable pub listing_of : List ℕ → ℕ → List ℕ → Listing
listing_of code first buffer = placed (kept_in (length buffer) (lines_of first (take list_limit code))) buffer
