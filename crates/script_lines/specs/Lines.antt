-- The lines that the script program shows: answers of calls, bytes, and the three lines of a dump.
use Rattle.std.specs.Prelude.{Bool, true, List, [], ◌∷◌, ◌++◌, ℕ, zero, suc, ◌+◌, ltb, length, get_or, Option}
use Rattle.ground_rules.specs.Choice.{pick}
use Rattle.ground_rules.specs.Buffers.{Buffers}
use Rattle.ground_rules.specs.declared.Pointer.{Pointer}
use Rattle.ground_rules.specs.declared.Mode.{Mode}
use Rattle.ground_rules.specs.declared.Mode.TheVariants.{Idle, Running, Suspended}
use Rattle.ground_rules.specs.declared.Board.{Board}
use Rattle.ground_rules.specs.declared.Channel.{Channel}
use Rattle.ground_rules.specs.declared.State.{State}
use Rattle.ground_rules.specs.Cc.{joined}
use Rattle.ground_rules.specs.Holdings.{held_number}
use Rattle.ground_rules.specs.States.{channel_number}
use Rattle.turn_rules.specs.declared.Kind.{Kind}
use Rattle.listing_rules.specs.Characters.{ascii}
use Rattle.page.specs.Numbers.{hex, decimal, letter}
use Rattle.script_text.specs.Buffers.{digest_of}

-- the end of a line: LF
abbrev pub feed : List ℕ
feed = 10 ∷ []

-- a line that is no call, or a call that is shut out
abbrev pub refused_line : List ℕ
refused_line = 63 ∷ feed

-- a call's name, a space behind it, and its number
unfoldable pub answer_line : List ℕ → ℕ → List ℕ
answer_line name number = name ++ (decimal number ++ feed)

-- how many bytes a call read and stored, which ends its line
unfoldable pub count_text : ℕ → List ℕ
count_text count = ascii " " ++ (decimal count ++ feed)

-- a call's name, a space behind it, its number and its count
unfoldable pub counted_line : List ℕ → ℕ → ℕ → List ℕ
counted_line name number count = name ++ (decimal number ++ count_text count)

-- what a step answered: its number, the channel, the letter of its kind, and its count
unfoldable pub stepped_line : ℕ → ℕ → Kind → ℕ → List ℕ
stepped_line number channel kind count =
    ascii "step " ++ (decimal number ++ (ascii " " ++ (decimal channel ++ ((32 ∷ letter kind ∷ []) ++ count_text count))))

-- what a sweep answered: its number, the steps that it stands for, and its count
unfoldable pub swept_line : ℕ → ℕ → ℕ → List ℕ
swept_line number steps count = ascii "sweep " ++ (decimal number ++ (ascii " " ++ (decimal steps ++ count_text count)))

-- what a load answered: its number, the line that decided, and the start address
unfoldable pub loaded_line : ℕ → ℕ → ℕ → List ℕ
loaded_line number line start =
    ascii "prom " ++ (decimal number ++ (ascii " " ++ (decimal line ++ (ascii " " ++ (hex true 8 start ++ feed)))))

-- a register behind its name, in so many digits, letters small
unfoldable pub register_text : List ℕ → ℕ → ℕ → List ℕ
register_text name value width = name ++ hex true width value

-- 1 for a tag or a mark that is set
unfoldable pub mark_number : Bool → ℕ
mark_number mark = pick mark 1 0

-- a pointer behind its name, and its tag
unfoldable pub pointer_text : List ℕ → Pointer → List ℕ
pointer_text name p = register_text name p.address 8 ++ register_text (ascii " ") (mark_number p.tag) 1

-- the pointers of a channel
unfoldable pub pointers_text : Pointer → Pointer → Pointer → Pointer → List ℕ
pointers_text ga gb gc tp =
    pointer_text (ascii " ga ") ga
    ++ (pointer_text (ascii " gb ") gb ++ (pointer_text (ascii " gc ") gc ++ pointer_text (ascii " tp ") tp))

-- the numbers of a channel; the fields of CC are shown as the CC that has them
unfoldable pub numbers_text : ℕ → ℕ → ℕ → ℕ → ℕ → ℕ → ℕ → List ℕ
numbers_text pp bc ix cc fields mc psw =
    register_text (ascii " pp ") pp 8
    ++ (register_text (ascii " bc ") bc 4
    ++ (register_text (ascii " ix ") ix 4
    ++ (register_text (ascii " cc ") cc 4
    ++ (register_text (ascii " fields ") fields 4 ++ (register_text (ascii " mc ") mc 4 ++ register_text (ascii " psw ") psw 2)))))

-- 0 for idle, 1 for running, 2 for suspended
unfoldable pub number_of_mode : Mode → ℕ
number_of_mode Idle = 0
number_of_mode Running = 1
number_of_mode Suspended = 2

-- the mode of a channel, its armed mark and what it holds, as the number that stands for it, which end its line
unfoldable pub marks_text : Mode → Bool → Option ℕ → List ℕ
marks_text mode armed held =
    register_text (ascii " mode ") (number_of_mode mode) 1
    ++ (register_text (ascii " arm ") (mark_number armed) 1 ++ (register_text (ascii " held ") (held_number held) 4 ++ feed))

-- a channel's line of a dump
unfoldable pub channel_line : List ℕ → Channel → List ℕ
channel_line name c =
    name
    ++ (pointers_text c.ga c.gb c.gc c.tp
    ++ (numbers_text c.pp c.bc c.ix c.cc (joined c.fields) c.mc c.psw ++ marks_text c.mode c.armed c.held))

-- a buffer behind its name: its length, and the digest of its bytes
unfoldable pub buffer_text : List ℕ → List ℕ → List ℕ
buffer_text name buffer = register_text name (length buffer) 8 ++ register_text (ascii " ") (digest_of buffer) 8

-- what the board set up: powered up, SYSBUS bit 0, SOC bit 0 and SOC bit 1
unfoldable pub board_text : Board → List ℕ
board_text b =
    register_text (ascii " up ") (mark_number b.powered) 1
    ++ (register_text (ascii " sysbus ") (mark_number b.sysbus) 1
    ++ (register_text (ascii " soc ") (mark_number b.soc) 1 ++ register_text (ascii " grant ") (mark_number b.grant) 1))

-- a dump's line of what both channels share
unfoldable pub shared_line : ℕ → Bool → Board → List ℕ → List ℕ → List ℕ
shared_line cp last board sys io =
    register_text (ascii "cp ") cp 8
    ++ (register_text (ascii " last ") (channel_number last) 1
    ++ (board_text board ++ (buffer_text (ascii " sys ") sys ++ (buffer_text (ascii " io ") io ++ feed))))

-- the three lines of a dump
unfoldable pub dump_text : State → Buffers → List ℕ
dump_text s m =
    channel_line (ascii "ch 1") s.first
    ++ (channel_line (ascii "ch 2") s.second ++ shared_line s.cp s.last s.board m.sys m.io)

-- the byte at an index of a buffer, or two dashes past its end
unfoldable pub byte_text : List ℕ → ℕ → List ℕ
byte_text buffer at = pick (ltb at (length buffer)) (register_text (ascii " ") (get_or buffer at 0) 2) (ascii " --")

-- so many bytes from an index on
unfoldable pub bytes_text : ℕ → List ℕ → ℕ → List ℕ
bytes_text zero buffer at = []
bytes_text (suc count) buffer at = byte_text buffer at ++ bytes_text count buffer (at + 1)

-- sixteen bytes of a buffer
unfoldable pub shown_line : List ℕ → ℕ → List ℕ
shown_line buffer at = ascii "show" ++ (bytes_text 16 buffer at ++ feed)
