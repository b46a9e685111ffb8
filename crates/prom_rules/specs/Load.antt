-- The call: a text and lent system memory to a number, a start address, a line, and what memory then holds (§12.3).
use Rattle.std.specs.Prelude.{ℕ, ◌+◌, ◌*◌, eqb, false, List, [], ◌∷◌}
use Rattle.ground_rules.specs.Buffers.{Buffers, lent_at, store_byte, within_limits}
use Rattle.ground_rules.specs.Choice.{pick}
use Rattle.prom_rules.specs.File.{FileStore, File, file_of}
use Rattle.prom_rules.specs.Text.{hex_lines}

-- what the call leaves
pub record Loading : Type 0 where
  pub number : ℕ
  pub start : ℕ
  pub line : ℕ
  pub memory : Buffers

abbrev pub loading : ℕ → ℕ → ℕ → Buffers → Loading
loading number start line m = record { number = number; start = start; line = line; memory = m }

-- the line of the first byte that lies beyond lent memory; 0 where all are lent (§12.3)
unfoldable pub beyond_line : Buffers → List FileStore → ℕ
beyond_line m [] = 0
beyond_line m (s ∷ ss) =
    let rest = beyond_line m ss in
    pick (lent_at m false s.address) rest s.line

-- every byte stored, in order, so that a later one stands (§12.2)
unfoldable pub store_all : Buffers → List FileStore → Buffers
store_all m [] = m
store_all m (s ∷ ss) = store_all (store_byte m false s.address s.value) ss

-- the file that a text is
unfoldable pub text_file : List ℕ → File
text_file text = file_of (hex_lines text) 0 0 0

-- a file that is good, read into memory: 2 where a byte lies beyond (§12.3)
unfoldable pub hex_placed : File → Buffers → Loading
hex_placed f m =
    let beyond = beyond_line m f.stores in
    let done = loading 0 f.start 0 (store_all m f.stores) in
    pick (eqb beyond 0) done (loading 2 0 beyond m)

-- the whole call: 11, then the file's own number, then 2; with any of them memory is as it was (§12.3)
unfoldable pub load_of : List ℕ → Buffers → Loading
load_of text m =
    let f = text_file text in
    let done = hex_placed f m in
    let read = pick (eqb f.number 0) done (loading f.number 0 f.line m) in
    pick (within_limits m) read (loading 11 0 0 m)

-- the answer for C in 64 bits: the number in bits 7-0, the start address in bits 27-8, the line in bits 63-32
unfoldable pub word_for_c : Loading → ℕ
word_for_c l = l.number + l.start * 256 + l.line * 4294967296

-- the answer for C with memory, as the caller gets them
pub record Packed : Type 0 where
  pub answer : ℕ
  pub memory : Buffers

abbrev pub packed_with : ℕ → Buffers → Packed
packed_with answer m = record { answer = answer; memory = m }
