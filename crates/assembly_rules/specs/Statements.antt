-- What a line says: its label, and a word with its operands, DB, DW or nothing; how many bytes it has, and which (§14).
use Rattle.std.specs.Prelude.{Bool, true, false, not, ◌&&◌, ◌||◌, List, [], ◌∷◌, ◌++◌, ℕ, ◌+◌, ◌*◌, ◌-◌, ◌%◌, eqb, ltb, leb, length}
use Rattle.ground_rules.specs.Bytes.{low_byte}
use Rattle.ground_rules.specs.Choice.{pick}
use Rattle.instruction_rules.specs.declared.Pair.{Pair}
use Rattle.listing_rules.specs.Characters.{ascii, same_text}
use Rattle.listing_rules.specs.Forms.{Operand, word_bytes}
use Rattle.listing_rules.specs.Entries.{OperandKind, Entry, entries}
use Rattle.listing_rules.specs.Entries.OperandKind.{'R, 'G, 'P, 'M, 'byte, 'word, 'bit, 'width, 'short, 'long}
use Rattle.listing_rules.specs.Back.{pair_from}
use Rattle.assembly_rules.specs.declared.Worth.{Worth}
use Rattle.assembly_rules.specs.Text.{Token, is_comma, cut_at}
use Rattle.assembly_rules.specs.Text.Token.{run, mark}
use Rattle.assembly_rules.specs.Sums.{begins_digit, is_sum, depth_of, most_open, Label, worth, sum_worth}
use Rattle.assembly_rules.specs.Operands.{Written, operands_from, is_memory_kind, has_word, Chosen, entry_in, all_shallow}
use Rattle.assembly_rules.specs.Operands.Written.{register, memory, value, nothing}
use Rattle.assembly_rules.specs.Operands.Chosen.{taken, untaken}

-- a line: the name of its label, [] where it has none, and the tokens behind it
pub record Headed : Type 0 where
  pub name : List ℕ
  pub body : List Token

abbrev pub headed : List ℕ → List Token → Headed
headed name body = record { name = name; body = body }

-- a name and a colon in front are a label (§14.1)
unfoldable pub headed_by : List Token → Headed
headed_by [] = headed [] []
headed_by (mark c ∷ ts) = headed [] (mark c ∷ ts)
headed_by (run r ∷ []) = headed [] (run r ∷ [])
headed_by (run r ∷ run s ∷ ts) = headed [] (run r ∷ run s ∷ ts)
headed_by (run r ∷ mark c ∷ ts) = pick (eqb c 58 && not (begins_digit r)) (headed r ts) (headed [] (run r ∷ mark c ∷ ts))

-- what stands behind a label: nothing; bytes or words of data; an instruction; or a number of a refusal
pub data Statement : Type 0 where
  blank : Statement
  items : Bool → List (List Token) → Statement
  instruction : Entry → List Written → Statement
  refused : ℕ → Statement

-- operands stand between commas (§14.3)
abbrev pub operand_parts : List Token → List (List Token)
operand_parts [] = []
operand_parts (t ∷ ts) = cut_at is_comma (t ∷ ts)

unfoldable pub all_sums : List (List Token) → Bool
all_sums [] = true
all_sums (part ∷ parts) = is_sum part && all_sums parts

unfoldable pub all_low : List (List Token) → Bool
all_low [] = true
all_low (part ∷ parts) = leb (depth_of part) most_open && all_low parts

-- DB and DW have one sum or more (§14.3)
unfoldable pub items_from : Bool → List (List Token) → Statement
items_from two [] = refused 31
items_from two (part ∷ parts) = pick (all_sums (part ∷ parts)) (pick (all_low (part ∷ parts)) (items two (part ∷ parts)) (refused 32)) (refused 31)

abbrev pub formed_by : Chosen → List Written → Statement
formed_by (taken e) ws = pick (all_shallow ws) (instruction e ws) (refused 32)
formed_by untaken ws = refused 31

unfoldable pub word_statement : List ℕ → List Written → Statement
word_statement word ws = pick (has_word entries word) (formed_by (entry_in entries word ws) ws) (refused 30)

unfoldable pub statement_of : List Token → Statement
statement_of [] = blank
statement_of (mark c ∷ ts) = refused 30
statement_of (run r ∷ ts) =
    pick (same_text r (ascii "DB")) (items_from false (operand_parts ts))
    (pick (same_text r (ascii "DW")) (items_from true (operand_parts ts)) (word_statement r (operands_from (operand_parts ts))))

-- the bytes of a number in a place (§14.4)
abbrev pub kind_size : OperandKind → ℕ
kind_size 'R = 0
kind_size 'G = 0
kind_size 'P = 0
kind_size 'M = 0
kind_size 'byte = 1
kind_size 'word = 2
kind_size 'bit = 0
kind_size 'width = 0
kind_size 'short = 1
kind_size 'long = 2

unfoldable pub kinds_size : List OperandKind → ℕ
kinds_size [] = 0
kinds_size (k ∷ ks) = kind_size k + kinds_size ks

-- the offset bytes of memory operands, and a second pair for a second one
unfoldable pub offsets_size : List Written → ℕ
offsets_size [] = 0
offsets_size (register r ∷ ws) = offsets_size ws
offsets_size (memory mm aa ts ∷ ws) = pick (eqb aa 1) 1 0 + offsets_size ws
offsets_size (value ts ∷ ws) = offsets_size ws
offsets_size (nothing ∷ ws) = offsets_size ws

unfoldable pub memories_in : List OperandKind → ℕ
memories_in [] = 0
memories_in (k ∷ ks) = pick (is_memory_kind k) 1 0 + memories_in ks

abbrev pub pairs_size : List OperandKind → ℕ
pairs_size ks = pick (ltb 1 (memories_in ks)) 4 2

-- how many bytes a line has, whatever its names are worth (§14.4)
unfoldable pub statement_size : Statement → ℕ
statement_size blank = 0
statement_size (items two parts) = pick two 2 1 * length parts
statement_size (instruction e ws) = pairs_size e.kinds + (offsets_size ws + kinds_size e.kinds)
statement_size (refused n) = 0

-- a number that one byte holds, signed or not (§14.4)
unfoldable pub is_byte : ℕ → Bool
is_byte n = ltb n 256 || leb 0xFF80 n

-- how far a target is from an instruction's end, and whether one byte reaches it (§14.4)
unfoldable pub reach_to : ℕ → ℕ → ℕ
reach_to end target = (target + 65536 - end % 65536) % 65536

abbrev pub is_near : ℕ → Bool
is_near reach = ltb reach 0x80 || leb 0xFF80 reach

-- whether a number may stand in a place; `end` is the address behind the instruction (§14.4)
unfoldable pub may_stand : OperandKind → ℕ → ℕ → Bool
may_stand 'R end n = true
may_stand 'G end n = true
may_stand 'P end n = true
may_stand 'M end n = is_byte n
may_stand 'byte end n = is_byte n
may_stand 'word end n = true
may_stand 'bit end n = ltb n 8
may_stand 'width end n = eqb n 8 || eqb n 16
may_stand 'short end n = is_near (reach_to end n)
may_stand 'long end n = true

-- what an operand's sum is worth; a register has none
unfoldable pub operand_worth : List Label → Written → Worth
operand_worth labels (register r) = worth 0 true
operand_worth labels (memory mm aa ts) = pick (eqb aa 1) (sum_worth labels ts) (worth 0 true)
operand_worth labels (value ts) = sum_worth labels ts
operand_worth labels nothing = worth 0 true

unfoldable pub names_known : List Label → List Written → Bool
names_known labels [] = true
names_known labels (w ∷ ws) = (operand_worth labels w).known && names_known labels ws

unfoldable pub all_stand : List Label → ℕ → List OperandKind → List Written → Bool
all_stand labels end [] ws = true
all_stand labels end (k ∷ ks) [] = true
all_stand labels end (k ∷ ks) (w ∷ ws) = may_stand k end (operand_worth labels w).value && all_stand labels end ks ws

unfoldable pub items_known : List Label → List (List Token) → Bool
items_known labels [] = true
items_known labels (part ∷ parts) = (sum_worth labels part).known && items_known labels parts

unfoldable pub items_stand : List Label → List (List Token) → Bool
items_stand labels [] = true
items_stand labels (part ∷ parts) = is_byte (sum_worth labels part).value && items_stand labels parts

-- 30, 31 or 32 as the line itself shows; 33 where a name is unknown; 34 where a number may not stand; `address` is that of the first byte (§14.6)
unfoldable pub statement_number : List Label → ℕ → Statement → ℕ
statement_number labels address blank = 0
statement_number labels address (items two parts) = pick (items_known labels parts) (pick (two || items_stand labels parts) 0 34) 33
statement_number labels address (instruction e ws) =
    pick (names_known labels ws) (pick (all_stand labels (address + statement_size (instruction e ws)) e.kinds ws) 0 34) 33
statement_number labels address (refused n) = n

-- the bytes of a pair: RRR dd AA W, opcode MM (§6.1)
unfoldable pub pair_bytes : Pair → List ℕ
pair_bytes p = (p.rrr * 32 + p.dd * 8 + p.aa * 2 + p.w) ∷ (p.opcode * 4 + p.mm) ∷ []

-- a bit's number or a width
abbrev pub is_digit_kind : OperandKind → Bool
is_digit_kind 'R = false
is_digit_kind 'G = false
is_digit_kind 'P = false
is_digit_kind 'M = false
is_digit_kind 'byte = false
is_digit_kind 'word = false
is_digit_kind 'bit = true
is_digit_kind 'width = true
is_digit_kind 'short = false
is_digit_kind 'long = false

-- an operand as the listing has it
unfoldable pub listed_as : List Label → OperandKind → Written → Operand
listed_as labels k (register r) = Operand.register r
listed_as labels k (memory mm aa ts) = Operand.memory mm aa (pick (eqb aa 1) (low_byte (sum_worth labels ts).value ∷ []) [])
listed_as labels k (value ts) = pick (is_digit_kind k) (Operand.digit (sum_worth labels ts).value) (Operand.number (word_bytes (sum_worth labels ts).value))
listed_as labels k nothing = Operand.none

unfoldable pub listed_all : List Label → List OperandKind → List Written → List Operand
listed_all labels [] ws = []
listed_all labels (k ∷ ks) [] = []
listed_all labels (k ∷ ks) (w ∷ ws) = listed_as labels k w ∷ listed_all labels ks ws

-- the offset byte of a memory operand
abbrev pub written_offset : List Label → Written → List ℕ
written_offset labels (register r) = []
written_offset labels (memory mm aa ts) = pick (eqb aa 1) (low_byte (sum_worth labels ts).value ∷ []) []
written_offset labels (value ts) = []
written_offset labels nothing = []

unfoldable pub all_offsets : List Label → List Written → List ℕ
all_offsets labels [] = []
all_offsets labels (w ∷ ws) = written_offset labels w ++ all_offsets labels ws

-- the bytes of a number in its place: data as it is, a target as its distance (§14.4)
abbrev pub number_bytes : OperandKind → ℕ → ℕ → List ℕ
number_bytes 'R end n = []
number_bytes 'G end n = []
number_bytes 'P end n = []
number_bytes 'M end n = []
number_bytes 'byte end n = low_byte n ∷ []
number_bytes 'word end n = word_bytes n
number_bytes 'bit end n = []
number_bytes 'width end n = []
number_bytes 'short end n = low_byte (reach_to end n) ∷ []
number_bytes 'long end n = word_bytes (reach_to end n)

unfoldable pub all_numbers : List Label → ℕ → List OperandKind → List Written → List ℕ
all_numbers labels end [] ws = []
all_numbers labels end (k ∷ ks) [] = []
all_numbers labels end (k ∷ ks) (w ∷ ws) = number_bytes k end (operand_worth labels w).value ++ all_numbers labels end ks ws

-- the second pair of MOV M,M
abbrev pub second_bytes : ℕ → Written → List ℕ
second_bytes w (register r) = []
second_bytes w (memory mm aa ts) = (aa * 2 + w) ∷ (0xCC + mm) ∷ []
second_bytes w (value ts) = []
second_bytes w nothing = []

-- MOV M,M: the source's pair and offset, then the destination's; its opcode is 33h and W that of the first pair (§14.3)
unfoldable pub move_bytes : List Label → Entry → List Written → List ℕ
move_bytes labels e [] = []
move_bytes labels e (to ∷ ws) =
    pair_bytes (pair_from e (listed_all labels e.kinds (to ∷ ws))) ++ (all_offsets labels ws ++ (second_bytes e.w to ++ written_offset labels to))

-- the bytes of an instruction
unfoldable pub instruction_bytes : List Label → ℕ → Entry → List Written → List ℕ
instruction_bytes labels end e ws =
    pick (ltb 1 (memories_in e.kinds)) (move_bytes labels e ws)
    (pair_bytes (pair_from e (listed_all labels e.kinds ws)) ++ (all_offsets labels ws ++ all_numbers labels end e.kinds ws))

unfoldable pub items_bytes : List Label → Bool → List (List Token) → List ℕ
items_bytes labels two [] = []
items_bytes labels two (part ∷ parts) = pick two (word_bytes (sum_worth labels part).value) (low_byte (sum_worth labels part).value ∷ []) ++ items_bytes labels two parts

-- the bytes of a line that no number refuses
unfoldable pub statement_bytes : List Label → ℕ → Statement → List ℕ
statement_bytes labels address blank = []
statement_bytes labels address (items two parts) = items_bytes labels two parts
statement_bytes labels address (instruction e ws) = instruction_bytes labels (address + statement_size (instruction e ws)) e ws
statement_bytes labels address (refused n) = []
