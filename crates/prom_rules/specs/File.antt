-- A file: its records in order, up to the end record or the first bad one, and the bytes that they store (§12.2).
use Rattle.std.specs.Prelude.{ℕ, ◌+◌, ◌%◌, eqb, ltb, List, [], ◌∷◌, ◌++◌}
use Rattle.ground_rules.specs.Choice.{pick}
use Rattle.ground_rules.specs.Sums.{address_of}
use Rattle.prom_rules.specs.Records.{record_of, address_field, type_of, data_bytes, segment_of, start_of, line_refusal}

-- one byte that a file stores: the line that holds it, its address, and the byte
pub record FileStore : Type 0 where
  pub line : ℕ
  pub address : ℕ
  pub value : ℕ

-- what a file comes to: the number and line of its first bad record, or 23 and the lines read; else the start address; and the bytes stored up to there
pub record File : Type 0 where
  pub number : ℕ
  pub line : ℕ
  pub start : ℕ
  pub stores : List FileStore

abbrev pub file : ℕ → ℕ → ℕ → List FileStore → File
file number line start stores = record { number = number; line = line; start = start; stores = stores }

-- the next line's number; it stays at 2 ^ 32 - 1 (§12.3)
unfoldable pub next_line : ℕ → ℕ
next_line line = pick (ltb line 4294967295) (line + 1) line

-- bytes from an offset on: the offset wraps at 65,536, then the segment is added, mod 1,048,576 (§12.2)
unfoldable pub stores_from : ℕ → ℕ → ℕ → List ℕ → List FileStore
stores_from line segment offset [] = []
stores_from line segment offset (v ∷ vs) =
    record { line = line; address = address_of (offset % 65536) segment; value = v } ∷ stores_from line segment (offset + 1) vs

-- what a record stores: the data of type 00 (§12.2)
unfoldable pub stores_of : ℕ → ℕ → List ℕ → List FileStore
stores_of line segment bytes = pick (eqb (type_of bytes) 0) (stores_from line segment (address_field bytes) (data_bytes bytes)) []

-- the segment after a record: that of type 02, else as it was (§12.2)
unfoldable pub segment_after : List ℕ → ℕ → ℕ
segment_after bytes segment = pick (eqb (type_of bytes) 2) (segment_of bytes) segment

-- the start address after a record: that of type 03, else as it was (§12.2)
unfoldable pub start_after : List ℕ → ℕ → ℕ
start_after bytes start = pick (eqb (type_of bytes) 3) (start_of bytes) start

-- a file with some bytes stored before
abbrev pub storing : List FileStore → File → File
storing stores f = file f.number f.line f.start (stores ++ f.stores)

-- the file that some lines are, under a segment, with a start address found so far, after so many lines (§12.3)
unfoldable pub file_of : List (List ℕ) → ℕ → ℕ → ℕ → File
file_of [] segment start line = file 23 line 0 []
file_of (this ∷ lines) segment start line =
    let bytes = record_of this in
    let n = next_line line in
    let rest = file_of lines (segment_after bytes segment) (start_after bytes start) n in
    let good = pick (eqb (type_of bytes) 1) (file 0 0 start []) (storing (stores_of n segment bytes) rest) in
    pick (eqb (line_refusal this) 0) good (file (line_refusal this) n 0 [])
