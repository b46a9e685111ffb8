-- How long the lines are at most.
-- Assumes nothing.
use Rattle.std.proofs.Common.{Option, ℕ}
use mathlib.Core.Bool.{Bool, true, false}
use mathlib.Core.List.{List, [], ◌∷◌, ◌++◌}
use Prim.Native.Nat.{ℕ, zero, suc, ◌+◌, ◌*◌, ◌≤◌}
use native.Mathlib.Omega.{arith}
use lib.Dec.{ltb}
use lib.ListN.{length, get_or, length-append}
use Rattle.ground_rules.specs.Choice.{pick}
use Rattle.ground_rules.specs.Buffers.{Buffers}
use Rattle.ground_rules.specs.declared.Pointer.{Pointer}
use Rattle.ground_rules.specs.declared.Mode.{Mode}
use Rattle.ground_rules.specs.declared.Board.{Board}
use Rattle.ground_rules.specs.declared.Channel.{Channel}
use Rattle.ground_rules.specs.declared.State.{State}
use Rattle.ground_rules.specs.Cc.{joined}
use Rattle.ground_rules.specs.Holdings.{held_number}
use Rattle.ground_rules.specs.States.{channel_number}
use Rattle.turn_rules.specs.declared.Kind.{Kind}
use Rattle.listing_rules.specs.Characters.{ascii}
use Rattle.page.specs.Numbers.{hex, decimal, letter}
use Rattle.page.proofs.NumberLaws.{hex-short, decimal-short}
use Rattle.script_text.specs.Buffers.{digest_of}
use Rattle.script_lines.specs.Lines.{feed, answer_line, count_text, counted_line, stepped_line, swept_line, loaded_line, register_text, mark_number, pointer_text, pointers_text, numbers_text, number_of_mode, marks_text, channel_line, buffer_text, board_text, shared_line, dump_text, byte_text, bytes_text, shown_line}

-- two texts in a row
both : (a b : List ℕ) (m n : ℕ) → length a ≤ m → length b ≤ n → length (a ++ b) ≤ m + n
both a b m n h k = omega (arith, length-append a b)

-- an answer is longer than its name by ten digits and a line feed
pub answer-short : (name : List ℕ) (number : ℕ) → length (answer_line name number) ≤ length name + 11
unfolding answer_line
answer-short name number = both name (decimal number ++ feed) (length name) 11 (omega arith) (both (decimal number) feed 10 1 (decimal-short number) (omega arith))

count-short : (count : ℕ) → length (count_text count) ≤ 12
unfolding count_text
count-short count = both (32 ∷ decimal count) feed 11 1 (omega (arith, decimal-short count)) (omega arith)

pub counted-short : (name : List ℕ) (number count : ℕ) → length (counted_line name number count) ≤ length name + 22
unfolding counted_line
counted-short name number count =
    both name (decimal number ++ count_text count) (length name) 22 (omega arith) (both (decimal number) (count_text count) 10 12 (decimal-short number) (count-short count))

pub stepped-short : (number channel : ℕ) (kind : Kind) (count : ℕ) → length (stepped_line number channel kind count) ≤ 40
unfolding stepped_line
stepped-short number channel kind count =
    both (ascii "step ") (decimal number ++ (ascii " " ++ (decimal channel ++ ((32 ∷ letter kind ∷ []) ++ count_text count)))) 5 35 (omega arith)
    (both (decimal number) (ascii " " ++ (decimal channel ++ ((32 ∷ letter kind ∷ []) ++ count_text count))) 10 25 (decimal-short number)
    (both (32 ∷ decimal channel) ((32 ∷ letter kind ∷ []) ++ count_text count) 11 14 (omega (arith, decimal-short channel))
    (both (32 ∷ letter kind ∷ []) (count_text count) 2 12 (omega arith) (count-short count))))

pub swept-short : (number steps count : ℕ) → length (swept_line number steps count) ≤ 39
unfolding swept_line
swept-short number steps count =
    both (ascii "sweep ") (decimal number ++ (ascii " " ++ (decimal steps ++ count_text count))) 6 33 (omega arith)
    (both (decimal number) (ascii " " ++ (decimal steps ++ count_text count)) 10 23 (decimal-short number)
    (both (32 ∷ decimal steps) (count_text count) 11 12 (omega (arith, decimal-short steps)) (count-short count)))

pub loaded-short : (number line start : ℕ) → length (loaded_line number line start) ≤ 36
unfolding loaded_line
loaded-short number line start =
    both (ascii "prom ") (decimal number ++ (ascii " " ++ (decimal line ++ (ascii " " ++ (hex true 8 start ++ feed))))) 5 31 (omega arith)
    (both (decimal number) (ascii " " ++ (decimal line ++ (ascii " " ++ (hex true 8 start ++ feed)))) 10 21 (decimal-short number)
    (both (32 ∷ decimal line) (ascii " " ++ (hex true 8 start ++ feed)) 11 10 (omega (arith, decimal-short line))
    (both (32 ∷ hex true 8 start) feed 9 1 (omega (arith, hex-short true 8 start)) (omega arith))))

register-short : (name : List ℕ) (value width : ℕ) → length (register_text name value width) ≤ length name + width
unfolding register_text
register-short name value width = both name (hex true width value) (length name) width (omega arith) (hex-short true width value)

pointer-short : (name : List ℕ) (p : Pointer) → length (pointer_text name p) ≤ length name + 10
unfolding pointer_text
pointer-short name p =
    let far = register-short name p.address 8 in
    let tag = register-short (ascii " ") (mark_number p.tag) 1 in
    omega (arith, both (register_text name p.address 8) (register_text (ascii " ") (mark_number p.tag) 1) (length name + 8) 2 far tag)

pointers-short : (ga gb gc tp : Pointer) → length (pointers_text ga gb gc tp) ≤ 56
unfolding pointers_text
pointers-short ga gb gc tp =
    both (pointer_text (ascii " ga ") ga) _ 14 42 (pointer-short (ascii " ga ") ga)
    (both (pointer_text (ascii " gb ") gb) _ 14 28 (pointer-short (ascii " gb ") gb)
    (both (pointer_text (ascii " gc ") gc) _ 14 14 (pointer-short (ascii " gc ") gc) (pointer-short (ascii " tp ") tp)))

numbers-short : (pp bc ix cc fields mc psw : ℕ) → length (numbers_text pp bc ix cc fields mc psw) ≤ 63
unfolding numbers_text
numbers-short pp bc ix control fields mc psw =
    both (register_text (ascii " pp ") pp 8) _ 12 51 (register-short (ascii " pp ") pp 8)
    (both (register_text (ascii " bc ") bc 4) _ 8 43 (register-short (ascii " bc ") bc 4)
    (both (register_text (ascii " ix ") ix 4) _ 8 35 (register-short (ascii " ix ") ix 4)
    (both (register_text (ascii " cc ") control 4) _ 8 27 (register-short (ascii " cc ") control 4)
    (both (register_text (ascii " fields ") fields 4) _ 12 15 (register-short (ascii " fields ") fields 4)
    (both (register_text (ascii " mc ") mc 4) _ 8 7 (register-short (ascii " mc ") mc 4) (register-short (ascii " psw ") psw 2))))))

marks-short : (mode : Mode) (armed : Bool) (held : Option ℕ) → length (marks_text mode armed held) ≤ 24
unfolding marks_text
marks-short mode armed held =
    both (register_text (ascii " mode ") (number_of_mode mode) 1) _ 7 17 (register-short (ascii " mode ") (number_of_mode mode) 1)
    (both (register_text (ascii " arm ") (mark_number armed) 1) _ 6 11 (register-short (ascii " arm ") (mark_number armed) 1)
    (both (register_text (ascii " held ") (held_number held) 4) feed 10 1 (register-short (ascii " held ") (held_number held) 4) (omega arith)))

channel-short : (name : List ℕ) (c : Channel) → length (channel_line name c) ≤ length name + 143
unfolding channel_line
channel-short name c =
    both name _ (length name) 143 (omega arith)
    (both (pointers_text c.ga c.gb c.gc c.tp) _ 56 87 (pointers-short c.ga c.gb c.gc c.tp)
    (both (numbers_text c.pp c.bc c.ix c.cc (joined c.fields) c.mc c.psw) _ 63 24 (numbers-short c.pp c.bc c.ix c.cc (joined c.fields) c.mc c.psw) (marks-short c.mode c.armed c.held)))

buffer-short : (name buffer : List ℕ) → length (buffer_text name buffer) ≤ length name + 17
unfolding buffer_text
buffer-short name buffer =
    let size = register-short name (length buffer) 8 in
    let digest = register-short (ascii " ") (digest_of buffer) 8 in
    omega (arith, both (register_text name (length buffer) 8) (register_text (ascii " ") (digest_of buffer) 8) (length name + 8) 9 size digest)

board-short : (b : Board) → length (board_text b) ≤ 28
unfolding board_text
board-short b =
    both (register_text (ascii " up ") (mark_number b.powered) 1) _ 5 23 (register-short (ascii " up ") (mark_number b.powered) 1)
    (both (register_text (ascii " sysbus ") (mark_number b.sysbus) 1) _ 9 14 (register-short (ascii " sysbus ") (mark_number b.sysbus) 1)
    (both (register_text (ascii " soc ") (mark_number b.soc) 1) _ 6 8 (register-short (ascii " soc ") (mark_number b.soc) 1) (register-short (ascii " grant ") (mark_number b.grant) 1)))

shared-short : (cp : ℕ) (last : Bool) (board : Board) (sys io : List ℕ) → length (shared_line cp last board sys io) ≤ 90
unfolding shared_line
shared-short cp last board sys io =
    both (register_text (ascii "cp ") cp 8) _ 11 79 (register-short (ascii "cp ") cp 8)
    (both (register_text (ascii " last ") (channel_number last) 1) _ 7 72 (register-short (ascii " last ") (channel_number last) 1)
    (both (board_text board) _ 28 44 (board-short board)
    (both (buffer_text (ascii " sys ") sys) _ 22 22 (buffer-short (ascii " sys ") sys)
    (both (buffer_text (ascii " io ") io) feed 21 1 (buffer-short (ascii " io ") io) (omega arith)))))

pub dump-short : (s : State) (m : Buffers) → length (dump_text s m) ≤ 384
unfolding dump_text
dump-short s m =
    both (channel_line (ascii "ch 1") s.first) _ 147 237 (channel-short (ascii "ch 1") s.first)
    (both (channel_line (ascii "ch 2") s.second) _ 147 90 (channel-short (ascii "ch 2") s.second) (shared-short s.cp s.last s.board m.sys m.io))

byte-short : (buffer : List ℕ) (at : ℕ) → length (byte_text buffer at) ≤ 3
unfolding byte_text
byte-short buffer at = go (ltb at (length buffer))
  where
    go : (b : Bool) → length (pick b (register_text (ascii " ") (get_or buffer at 0) 2) (ascii " --")) ≤ 3
    go true = register-short (ascii " ") (get_or buffer at 0) 2
    go false = omega arith

bytes-short : (count : ℕ) (buffer : List ℕ) (at : ℕ) → length (bytes_text count buffer at) ≤ 3 * count
unfolding bytes_text
bytes-short zero buffer at = omega arith
bytes-short (suc count) buffer at =
    omega (arith, both (byte_text buffer at) (bytes_text count buffer (at + 1)) 3 (3 * count) (byte-short buffer at) (bytes-short count buffer (at + 1)))

pub shown-short : (buffer : List ℕ) (at : ℕ) → length (shown_line buffer at) ≤ 53
unfolding shown_line
shown-short buffer at =
    both (ascii "show") (bytes_text 16 buffer at ++ feed) 4 49 (omega arith)
    (both (bytes_text 16 buffer at) feed 48 1 (bytes-short 16 buffer at) (omega arith))
