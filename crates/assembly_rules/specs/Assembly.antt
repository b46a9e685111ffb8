-- A whole text assembled: its labels, the first line that a number refuses, and the bytes (§14).
use Rattle.std.specs.Prelude.{Bool, true, not, ◌&&◌, ◌||◌, List, [], ◌∷◌, ◌++◌, ℕ, suc, ◌+◌, ◌%◌, eqb, ltb, leb, length, drop}
use Rattle.ground_rules.specs.Choice.{pick}
use Rattle.listing_rules.specs.Characters.{ascii, same_text}
use Rattle.listing_rules.specs.Entries.{entries}
use Rattle.assembly_rules.specs.Text.{tokens_of, lines_in}
use Rattle.assembly_rules.specs.Sums.{is_register, Label, label, label_worth}
use Rattle.assembly_rules.specs.Operands.{has_word}
use Rattle.assembly_rules.specs.Statements.{headed_by, Statement, statement_of, statement_size, statement_number, statement_bytes}

-- a line by what it says
pub record Said : Type 0 where
  pub name : List ℕ
  pub statement : Statement

unfoldable pub said_by : List ℕ → Said
said_by line = let h = headed_by (tokens_of line) in record { name = h.name; statement = statement_of h.body }

unfoldable pub said_in : List (List ℕ) → List Said
said_in [] = []
said_in (line ∷ lines) = said_by line ∷ said_in lines

abbrev pub most_labels : ℕ
most_labels = 64

-- names that are no labels: the words, DB, DW and the registers (§14.5)
unfoldable pub is_reserved : List ℕ → Bool
is_reserved name = has_word entries name || (same_text name (ascii "DB") || (same_text name (ascii "DW") || is_register name))

-- a label is kept unless it is over 12 characters, kept already or reserved, or 64 are kept (§14.5)
unfoldable pub may_keep : List Label → List ℕ → Bool
may_keep kept name = leb (length name) 12 && (not (label_worth kept name).known && (not (is_reserved name) && ltb (length kept) most_labels))

-- the labels after a line's own, at the address of its first byte (§14.5)
unfoldable pub kept_with : List Label → ℕ → List ℕ → List Label
kept_with kept address [] = kept
kept_with kept address (c ∷ cs) = pick (may_keep kept (c ∷ cs)) (kept ++ (label (c ∷ cs) address ∷ [])) kept

-- all labels that are kept; an address counts mod 65,536 (§14.5)
unfoldable pub labels_from : List Label → ℕ → List Said → List Label
labels_from kept address [] = kept
labels_from kept address (s ∷ more) = labels_from (kept_with kept (address % 65536) s.name) (address + statement_size s.statement) more

-- whether a line's own label is kept, being the first of its name (§14.5)
unfoldable pub label_stands : List Label → ℕ → List ℕ → Bool
label_stands kept address [] = true
label_stands kept address (c ∷ cs) = may_keep kept (c ∷ cs)

-- a line with bytes whose last lies beyond the room (§14.6)
abbrev pub past_room : ℕ → ℕ → ℕ → Bool
past_room size before room = ltb 0 size && ltb room (before + size)

-- a line's number under all the labels: 30 to 32, 33 for its label or a name, 34, 35 where its last byte lies beyond the room (§14.6)
unfoldable pub line_number : List Label → List Label → ℕ → ℕ → ℕ → Said → ℕ
line_number labels kept address before room s =
    let n = statement_number labels address s.statement in
    pick (leb 30 n && leb n 32) n
    (pick (label_stands kept address s.name) (pick (eqb n 0) (pick (past_room (statement_size s.statement) before room) 35 0) n) 33)

-- what assembling comes to: 0 and the bytes, or the number and line of the first line that has one
pub record Assembled : Type 0 where
  pub number : ℕ
  pub line : ℕ
  pub bytes : List ℕ

abbrev pub assembled : ℕ → ℕ → List ℕ → Assembled
assembled number line bytes = record { number = number; line = line; bytes = bytes }

-- the lines from one on: the labels kept before it, its address and number, the bytes before it (§14.6)
unfoldable pub assembled_from : List Label → List Label → ℕ → ℕ → ℕ → List ℕ → List Said → Assembled
assembled_from labels kept first room line done [] = assembled 0 0 done
assembled_from labels kept first room line done (s ∷ more) =
    let address = (first + length done) % 65536 in
    let n = line_number labels kept address (length done) room s in
    pick (eqb n 0)
    (assembled_from labels (kept_with kept address s.name) first room (suc line) (done ++ statement_bytes labels address s.statement) more)
    (assembled n line [])

-- a text assembled from an address into a room (§14)
unfoldable pub assemble_of : List ℕ → ℕ → ℕ → Assembled
assemble_of text first room =
    let lines = said_in (lines_in text) in
    assembled_from (labels_from [] first lines) [] first room 1 [] lines

-- the buffer afterwards: the bytes in front, or as it was
unfoldable pub assembled_into : List ℕ → Assembled → List ℕ
assembled_into buffer a = a.bytes ++ drop (length a.bytes) buffer
