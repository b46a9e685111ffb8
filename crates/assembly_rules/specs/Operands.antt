-- Operands as they are written: registers, memory and sums; which of them a place takes, and the entry of a word with its operands (§14.3).
use Rattle.std.specs.Prelude.{Bool, true, false, not, ◌&&◌, ◌||◌, List, [], ◌∷◌, ℕ, eqb, ltb, leb}
use Rattle.ground_rules.specs.Choice.{pick}
use Rattle.listing_rules.specs.Characters.{same_text}
use Rattle.listing_rules.specs.Entries.{OperandKind, Entry}
use Rattle.listing_rules.specs.Entries.OperandKind.{'R, 'G, 'P, 'M, 'byte, 'word, 'bit, 'width, 'short, 'long}
use Rattle.assembly_rules.specs.Text.{Token}
use Rattle.assembly_rules.specs.Text.Token.{run, mark}
use Rattle.assembly_rules.specs.Sums.{register_number, is_sum, depth_of, most_open}

-- an operand: a register by RRR; memory by MM, AA and the tokens of its offset; a sum by its tokens; or none of these
pub data Written : Type 0 where
  register : ℕ → Written
  memory : ℕ → ℕ → List Token → Written
  value : List Token → Written
  nothing : Written

-- memory from behind its base and ] on: nothing more, or a point and an offset (§14.3)
unfoldable pub closed_memory : ℕ → List Token → Written
closed_memory mm [] = memory mm 0 []
closed_memory mm (run r ∷ ts) = nothing
closed_memory mm (mark c ∷ ts) = pick (eqb c 46 && is_sum ts) (memory mm 1 ts) nothing

-- from behind its base and + IX on: ] or +] (§14.3)
unfoldable pub ended_memory : ℕ → List Token → Written
ended_memory mm [] = nothing
ended_memory mm (run r ∷ ts) = nothing
ended_memory mm (mark c ∷ []) = pick (eqb c 93) (memory mm 2 []) nothing
ended_memory mm (mark c ∷ run r ∷ ts) = nothing
ended_memory mm (mark c ∷ mark d ∷ []) = pick (eqb c 43 && eqb d 93) (memory mm 3 []) nothing
ended_memory mm (mark c ∷ mark d ∷ t ∷ ts) = nothing

-- from behind its base and + on: IX
unfoldable pub indexed_memory : ℕ → List Token → Written
indexed_memory mm [] = nothing
indexed_memory mm (mark c ∷ ts) = nothing
indexed_memory mm (run r ∷ ts) = pick (eqb (register_number r) 5) (ended_memory mm ts) nothing

-- from behind its base on
unfoldable pub memory_behind : ℕ → List Token → Written
memory_behind mm [] = nothing
memory_behind mm (run r ∷ ts) = nothing
memory_behind mm (mark c ∷ ts) = pick (eqb c 93) (closed_memory mm ts) (pick (eqb c 43) (indexed_memory mm ts) nothing)

-- MM of a base by its register's number: GA, GB, GC, PP; 4 where it is none
abbrev pub base_number : ℕ → ℕ
base_number n = pick (ltb n 3) n (pick (eqb n 8) 3 4)

-- memory from behind its bracket on
unfoldable pub memory_from : List Token → Written
memory_from [] = nothing
memory_from (mark c ∷ ts) = nothing
memory_from (run r ∷ ts) = pick (ltb (base_number (register_number r)) 4) (memory_behind (base_number (register_number r)) ts) nothing

-- the number of a register that stands alone, 9 where none does
abbrev pub alone_number : List Token → ℕ
alone_number (run r ∷ []) = register_number r
alone_number (run r ∷ t ∷ ts) = 9
alone_number (mark c ∷ ts) = 9
alone_number [] = 9

abbrev pub sum_from : List Token → Written
sum_from ts = pick (ltb (alone_number ts) 8) (register (alone_number ts)) (pick (is_sum ts) (value ts) nothing)

-- what some tokens are as an operand (§14.3)
unfoldable pub operand_from : List Token → Written
operand_from [] = nothing
operand_from (run r ∷ ts) = sum_from (run r ∷ ts)
operand_from (mark c ∷ ts) = pick (eqb c 91) (memory_from ts) (sum_from (mark c ∷ ts))

unfoldable pub operands_from : List (List Token) → List Written
operands_from [] = []
operands_from (part ∷ parts) = operand_from part ∷ operands_from parts

-- whether a place takes an operand: G is a register but CC, P one that holds a pointer (§14.3)
abbrev pub takes_register : OperandKind → ℕ → Bool
takes_register 'R r = true
takes_register 'G r = not (eqb r 6)
takes_register 'P r = ltb r 3 || eqb r 4
takes_register 'M r = false
takes_register 'byte r = false
takes_register 'word r = false
takes_register 'bit r = false
takes_register 'width r = false
takes_register 'short r = false
takes_register 'long r = false

-- a place for memory, and one for a number
abbrev pub is_memory_kind : OperandKind → Bool
is_memory_kind 'R = false
is_memory_kind 'G = false
is_memory_kind 'P = false
is_memory_kind 'M = true
is_memory_kind 'byte = false
is_memory_kind 'word = false
is_memory_kind 'bit = false
is_memory_kind 'width = false
is_memory_kind 'short = false
is_memory_kind 'long = false

unfoldable pub takes : OperandKind → Written → Bool
takes k (register r) = takes_register k r
takes k (memory mm aa ts) = is_memory_kind k
takes k (value ts) = not (is_memory_kind k || takes_register k 0)
takes k nothing = false

unfoldable pub takes_all : List OperandKind → List Written → Bool
takes_all [] [] = true
takes_all [] (w ∷ ws) = false
takes_all (k ∷ ks) [] = false
takes_all (k ∷ ks) (w ∷ ws) = takes k w && takes_all ks ws

-- whether a word has an entry, and its entry with some operands
unfoldable pub has_word : List Entry → List ℕ → Bool
has_word [] word = false
has_word (e ∷ es) word = same_text e.word word || has_word es word

pub data Chosen : Type 0 where
  taken : Entry → Chosen
  untaken : Chosen

unfoldable pub entry_in : List Entry → List ℕ → List Written → Chosen
entry_in [] word ws = untaken
entry_in (e ∷ es) word ws = pick (same_text e.word word && takes_all e.kinds ws) (taken e) (entry_in es word ws)

-- whether no more than eight parentheses are open at once (§14.2)
unfoldable pub is_shallow : Written → Bool
is_shallow (register r) = true
is_shallow (memory mm aa ts) = leb (depth_of ts) most_open
is_shallow (value ts) = leb (depth_of ts) most_open
is_shallow nothing = true

unfoldable pub all_shallow : List Written → Bool
all_shallow [] = true
all_shallow (w ∷ ws) = is_shallow w && all_shallow ws
