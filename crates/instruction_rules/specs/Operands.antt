-- Where the operands of an instruction lie, how IX grows, what an operand is worth, and what the instructions work out of two or one.
use Rattle.std.specs.Prelude.{Bool, true, false, List, ℕ, ◌+◌, ◌-◌, ◌%◌, eqb, ℤ}
use Rattle.std.specs.Int.Bits.{bit_and, bit_or}
use Rattle.ground_rules.specs.Choice.{pick}
use Rattle.ground_rules.specs.Sums.{sum20}
use Rattle.ground_rules.specs.Signs.{signed_of, extended, displaced_by}
use Rattle.ground_rules.specs.Buffers.{Buffers, byte_at}
use Rattle.ground_rules.specs.Values.{pointer, onward, word_at}
use Rattle.ground_rules.specs.Places.{Place, span, all_touchable}
use Rattle.ground_rules.specs.declared.Pointer.{Pointer}
use Rattle.ground_rules.specs.declared.Channel.{Channel}
use Rattle.ground_rules.specs.Outcomes.{unless}
use Rattle.ground_rules.specs.Updates.{renewed}
use Rattle.ground_rules.specs.Registers.{base_of}
use Rattle.instruction_rules.specs.Lengths.{offset_length}
use Rattle.instruction_rules.specs.declared.Memory.{Memory}
use Rattle.instruction_rules.specs.declared.Work.{Work}
use Rattle.instruction_rules.specs.declared.Work.TheVariants.{Mov, Add, Or, And}
use Rattle.instruction_rules.specs.declared.Single.{Single}
use Rattle.instruction_rules.specs.declared.Single.TheVariants.{Inc, Dec}

-- the byte, the word and the places of n bytes at a place
abbrev pub byte_here : Buffers → Pointer → ℕ
byte_here m p = byte_at m p.tag p.address

abbrev pub word_here : Buffers → Pointer → ℕ
word_here m p = word_at m p.tag p.address

abbrev pub bytes_at : Pointer → ℕ → List Place
bytes_at p n = span p.tag p.address n

-- TP moved on once more, past the offset byte of a second pair (§6.6)
unfoldable pub further : Channel → ℕ → Channel
further c n = renewed c (onward c.tp n) c.ix c.psw c.mode c.armed

-- a byte or a word
abbrev pub size_of : Bool → ℕ
size_of wide = pick wide 2 1

-- what AA adds to the base: nothing, the offset byte after the pair, or IX (§6.7)
unfoldable pub indexed : Buffers → Channel → Memory → Pointer → ℕ
indexed m c o pair = pick (eqb o.aa 0) 0 (pick (eqb o.aa 1) (byte_here m (onward pair 2)) c.ix)

-- the place of a memory operand whose pair is at `pair`: the base of MM, with what AA adds
unfoldable pub effective : Buffers → Channel → Memory → Pointer → Pointer
effective m c o pair = onward (base_of c o.mm) (indexed m c o pair)

-- with AA 11 IX grows by the operand's size, mod 65,536 (§6.8)
unfoldable pub grown : Channel → Memory → ℕ → Channel
grown c o by = renewed c c.tp (pick (eqb o.aa 3) ((c.ix + by) % 65536) c.ix) c.psw c.mode c.armed

-- a byte or word operand, extended by its sign to 20 bits (§6.9)
unfoldable pub operand_at : Buffers → Pointer → Bool → ℕ
operand_at m p wide = pick wide (extended 16 (word_here m p)) (extended 8 (byte_here m p))

-- a signed displacement of one byte or two (§6.11)
unfoldable pub displacement_at : Buffers → Pointer → Bool → ℤ
displacement_at m p two = pick two (signed_of 16 (word_here m p)) (signed_of 8 (byte_here m p))

-- where a jump by the displacement at a place leads, from TP past the whole instruction; the tag stays
unfoldable pub landing : Buffers → Pointer → Pointer → Bool → Pointer
landing m tp p two = pointer (displaced_by tp.address (displacement_at m p two)) tp.tag

-- the channel after a jump that is taken where a test says so
unfoldable pub jumped_if : Bool → Buffers → Channel → Pointer → Bool → Channel
jumped_if taken m c p two =
    renewed c (pick taken (landing m c.tp p two) c.tp) c.ix c.psw c.mode c.armed

-- the channel after a jump
abbrev pub jumped : Buffers → Channel → Pointer → Bool → Channel
jumped m c p two = jumped_if true m c p two

-- what two operands give, in 20 bits; the result loses its high bits where it is written (§6.9, §6.14)
unfoldable pub work_of : Work → ℕ → ℕ → ℕ
work_of Mov a b = b
work_of Add a b = sum20 a b
work_of Or a b = bit_or a b
work_of And a b = bit_and a b
work_of Work.Not a b = 1048575 - b % 1048576

-- what one operand gives
unfoldable pub single_of : Single → ℕ → ℕ
single_of Single.Not a = 1048575 - a % 1048576
single_of Inc a = sum20 a 1
single_of Dec a = sum20 a 1048575

-- a move only replaces, all other work reads first (§6.12, §6.14)
unfoldable pub is_move : Work → Bool
is_move Mov = true
is_move Add = false
is_move Or = false
is_move And = false
is_move Work.Not = false

-- the number of n bytes read at a place
unfoldable pub read_number : Buffers → Pointer → ℕ → ℕ
read_number m p n = unless (all_touchable m (bytes_at p n)) 2

-- where data or displacement stands: after the pair and its offset byte (§6.6)
abbrev pub after_pair : Pointer → Memory → Pointer
after_pair tp o = onward tp (2 + offset_length o)
