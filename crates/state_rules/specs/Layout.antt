-- A state as the caller keeps it, 104 bytes (§11.1): version, CP, the channel that stepped last, what the board set up, then a block of 47 bytes for each channel. A table for each record says its parts in their order, each with its form; all else is computed from the tables.
use Rattle.std.specs.Prelude.{Bool, ◌&&◌, List, [], ◌∷◌, ◌++◌, ℕ, eqb, length, Option}
use Rattle.ground_rules.specs.Choice.{pick}
use Rattle.ground_rules.specs.Values.{pointer}
use Rattle.ground_rules.specs.declared.Pointer.{Pointer}
use Rattle.ground_rules.specs.declared.Mode.{Mode}
use Rattle.ground_rules.specs.States.{board_with}
use Rattle.ground_rules.specs.declared.Board.{Board}
use Rattle.ground_rules.specs.declared.Channel.{Channel}
use Rattle.ground_rules.specs.declared.Fields.{Fields}
use Rattle.ground_rules.specs.declared.State.{State}
use Rattle.state_rules.specs.Tables.{PartForm, number_form, byte_form, code_form, flag_form, mode_form, held_form, mark_form, TableRow, row_for, width_by, part_place, bytes_by, made_by, are_by, form_by}

-- ---- a pointer

-- its address in four bytes, since refusal 10 speaks of addresses past 20 bits, and its tag
abbrev pub pointer_rows : List (TableRow Pointer)
pointer_rows = row_for (λ p. p.address) (number_form 4) ∷ row_for (λ p. p.tag) flag_form ∷ []

-- its bytes
unfoldable pub pointer_bytes : Pointer → List ℕ
pointer_bytes p = bytes_by pointer_rows p

-- the pointer at an offset
unfoldable pub pointer_in : List ℕ → ℕ → Pointer
pointer_in b at = made_by pointer_rows pointer b at 0

-- the bytes there are a pointer
unfoldable pub is_pointer_at : List ℕ → ℕ → Bool
is_pointer_at b at = are_by pointer_rows b at 0

-- a pointer as a part
abbrev pub pointer_form : PartForm Pointer
pointer_form = form_by pointer_rows pointer_bytes pointer_in is_pointer_at

-- ---- the fields of CC

-- those of a transfer's sides, a byte each; SYN has two bits
abbrev pub sides_rows : List (TableRow Fields)
sides_rows =
    row_for (λ f. f.destinationMoves) flag_form
    ∷ row_for (λ f. f.sourceMoves) flag_form
    ∷ row_for (λ f. f.translates) flag_form
    ∷ row_for (λ f. f.synchronised) (code_form 4)
    ∷ row_for (λ f. f.sourceIsGB) flag_form
    ∷ []

-- the chained bit and those of a transfer's ends; TX and TBC have two bits, TMC has three
abbrev pub ends_rows : List (TableRow Fields)
ends_rows =
    row_for (λ f. f.chained) flag_form
    ∷ row_for (λ f. f.singleTransfer) flag_form
    ∷ row_for (λ f. f.externalEnd) (code_form 4)
    ∷ row_for (λ f. f.countEnd) (code_form 4)
    ∷ row_for (λ f. f.matchEnd) (code_form 8)
    ∷ []

-- all of them
abbrev pub fields_rows : List (TableRow Fields)
fields_rows = sides_rows ++ ends_rows

-- where TMC lies among them
abbrev pub match_place : ℕ
match_place = part_place 9 fields_rows

-- the bytes of the first
unfoldable pub sides_bytes : Fields → List ℕ
sides_bytes f = bytes_by sides_rows f

-- of the others
unfoldable pub ends_bytes : Fields → List ℕ
ends_bytes f = bytes_by ends_rows f

-- of all
unfoldable pub fields_bytes : Fields → List ℕ
fields_bytes f = bytes_by fields_rows f

-- fields by the order of their rows
abbrev pub fields_from_parts : Bool → Bool → Bool → ℕ → Bool → Bool → Bool → ℕ → ℕ → ℕ → Fields
fields_from_parts destinationMoves sourceMoves translates synchronised sourceIsGB chained singleTransfer externalEnd countEnd matchEnd =
    record {
      destinationMoves = destinationMoves;
      sourceMoves = sourceMoves;
      translates = translates;
      synchronised = synchronised;
      sourceIsGB = sourceIsGB;
      chained = chained;
      singleTransfer = singleTransfer;
      externalEnd = externalEnd;
      countEnd = countEnd;
      matchEnd = matchEnd;
    }

-- the fields of CC from an offset on
unfoldable pub fields_in : List ℕ → ℕ → Fields
fields_in b at = made_by fields_rows fields_from_parts b at 0

-- the bytes there are fields of CC
unfoldable pub is_fields : List ℕ → ℕ → Bool
is_fields b at = are_by fields_rows b at 0

-- the fields of CC as a part
abbrev pub fields_form : PartForm Fields
fields_form = form_by fields_rows fields_bytes fields_in is_fields

-- ---- a channel's block

-- its four pointers
abbrev pub pointers_rows : List (TableRow Channel)
pointers_rows =
    row_for (λ c. c.ga) pointer_form
    ∷ row_for (λ c. c.gb) pointer_form
    ∷ row_for (λ c. c.gc) pointer_form
    ∷ row_for (λ c. c.tp) pointer_form
    ∷ []

-- its numbers: PP in four bytes, then the registers of sixteen bits
abbrev pub numbers_rows : List (TableRow Channel)
numbers_rows =
    row_for (λ c. c.pp) (number_form 4)
    ∷ row_for (λ c. c.bc) (number_form 2)
    ∷ row_for (λ c. c.ix) (number_form 2)
    ∷ row_for (λ c. c.cc) (number_form 2)
    ∷ row_for (λ c. c.mc) (number_form 2)
    ∷ []

-- PSW, the mode and the armed mark, a byte each
abbrev pub marks_rows : List (TableRow Channel)
marks_rows =
    row_for (λ c. c.psw) byte_form
    ∷ row_for (λ c. c.mode) mode_form
    ∷ row_for (λ c. c.armed) flag_form
    ∷ []

-- what a block has before the fields of CC
abbrev pub front_rows : List (TableRow Channel)
front_rows = pointers_rows ++ (numbers_rows ++ marks_rows)

-- then the fields of CC, and what the channel holds
abbrev pub channel_rows : List (TableRow Channel)
channel_rows = front_rows ++ (row_for (λ c. c.fields) fields_form ∷ row_for (λ c. c.held) held_form ∷ [])

-- where CC lies in it
abbrev pub cc_place : ℕ
cc_place = part_place 7 channel_rows

-- where the mode lies
abbrev pub mode_place : ℕ
mode_place = part_place 10 channel_rows

-- where the fields of CC start
abbrev pub fields_place : ℕ
fields_place = width_by front_rows

-- where the number of what is held starts
abbrev pub held_place : ℕ
held_place = part_place 13 channel_rows

-- the bytes of its pointers
unfoldable pub pointers_bytes : Channel → List ℕ
pointers_bytes c = bytes_by pointers_rows c

-- of its numbers
unfoldable pub numbers_bytes : Channel → List ℕ
numbers_bytes c = bytes_by numbers_rows c

-- of PSW, the mode and the armed mark
unfoldable pub marks_bytes : Channel → List ℕ
marks_bytes c = bytes_by marks_rows c

-- of what it holds
unfoldable pub held_bytes : Channel → List ℕ
held_bytes c = held_form.bytes c.held

-- of all
unfoldable pub channel_bytes : Channel → List ℕ
channel_bytes c = bytes_by channel_rows c

-- a channel by the order of its rows
abbrev pub channel_from_parts : Pointer → Pointer → Pointer → Pointer → ℕ → ℕ → ℕ → ℕ → ℕ → ℕ → Mode → Bool → Fields → Option ℕ → Channel
channel_from_parts ga gb gc tp pp bc ix cc mc psw mode armed fields held =
    record {
      ga = ga;
      gb = gb;
      gc = gc;
      tp = tp;
      pp = pp;
      bc = bc;
      ix = ix;
      cc = cc;
      mc = mc;
      psw = psw;
      mode = mode;
      armed = armed;
      fields = fields;
      held = held;
    }

-- the channel whose block starts at an offset
unfoldable pub channel_in : List ℕ → ℕ → Channel
channel_in b at = made_by channel_rows channel_from_parts b at 0

-- the bytes there are a block
unfoldable pub is_block : List ℕ → ℕ → Bool
is_block b at = are_by channel_rows b at 0

-- a channel as a part
abbrev pub channel_form : PartForm Channel
channel_form = form_by channel_rows channel_bytes channel_in is_block

-- ---- what the board set up

-- powered up, SYSBUS bit 0, SOC bit 0 and SOC bit 1, a byte each (§2.10)
abbrev pub board_rows : List (TableRow Board)
board_rows =
    row_for (λ b. b.powered) flag_form
    ∷ row_for (λ b. b.sysbus) flag_form
    ∷ row_for (λ b. b.soc) flag_form
    ∷ row_for (λ b. b.grant) flag_form
    ∷ []

-- its bytes
unfoldable pub board_bytes : Board → List ℕ
board_bytes b = bytes_by board_rows b

-- what the board set up as a part
abbrev pub board_form : PartForm Board
board_form = form_by board_rows board_bytes (λ b at. made_by board_rows board_with b at 0) (λ b at. are_by board_rows b at 0)

-- ---- a state

-- the layout's number, which each change of the layout raises
abbrev pub version : ℕ
version = 4

-- its version, CP, whether channel 2 was the last to step, what the board set up, and both channels (§11.1)
abbrev pub state_rows : List (TableRow State)
state_rows =
    row_for (λ s. tt) (mark_form version)
    ∷ row_for (λ s. s.cp) (number_form 4)
    ∷ row_for (λ s. s.last) flag_form
    ∷ row_for (λ s. s.board) board_form
    ∷ row_for (λ s. s.first) channel_form
    ∷ row_for (λ s. s.second) channel_form
    ∷ []

-- where it is told which channel stepped last
abbrev pub last_place : ℕ
last_place = part_place 2 state_rows

-- where what the board set up starts
abbrev pub board_place : ℕ
board_place = part_place 3 state_rows

-- where the block of channel 1 starts
abbrev pub first_at : ℕ
first_at = part_place 4 state_rows

-- where the block of channel 2 starts
abbrev pub second_from : ℕ
second_from = part_place 5 state_rows

-- how many bytes a state has
abbrev pub state_length : ℕ
state_length = width_by state_rows

-- where the block of a channel starts
unfoldable pub block_from : Bool → ℕ
block_from second = pick second second_from first_at

-- a state's bytes
unfoldable pub bytes_of : State → List ℕ
bytes_of s = bytes_by state_rows s

-- what the board set up, in a state's bytes
unfoldable pub board_in : List ℕ → Board
board_in b = board_form.value b board_place

-- a state by the order of its rows
abbrev pub state_from_parts : Unit {0} → ℕ → Bool → Board → Channel → Channel → State
state_from_parts nothing cp last board first second = record { first = first; second = second; cp = cp; last = last; board = board }

-- the state that bytes stand for
unfoldable pub state_in : List ℕ → State
state_in b = made_by state_rows state_from_parts b 0 0

-- the four bytes of what the board set up are in range
unfoldable pub is_board : List ℕ → Bool
is_board b = board_form.is b board_place

-- of the right length, and each part is in its range (else 17, §11.1)
unfoldable pub is_state : List ℕ → Bool
is_state b = eqb (length b) state_length && are_by state_rows b 0 0
