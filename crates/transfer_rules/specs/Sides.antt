-- The two sides of a transfer, and how many bytes move between them (§7.1 to §7.4).
use Rattle.std.specs.Prelude.{Bool, not, ◌&&◌, ◌||◌, ℕ, eqb}
use Rattle.ground_rules.specs.Choice.{pick}
use Rattle.ground_rules.specs.Bits.{bit_of}
use Rattle.ground_rules.specs.Sums.{sum20}
use Rattle.ground_rules.specs.declared.Pointer.{Pointer}
use Rattle.ground_rules.specs.Values.{onward}
use Rattle.ground_rules.specs.declared.Channel.{Channel}
use Rattle.ground_rules.specs.declared.Fields.{Fields}
use Rattle.ground_rules.specs.Psw.{destination_wide, source_wide}
use Rattle.transfer_rules.specs.declared.Side.{Side}

-- a side: its pointer, whether it moves on, whether it is 16 bits wide
abbrev pub side : Pointer → Bool → Bool → Side
side p moves wide = record { pointer = p; moves = moves; wide = wide }

-- the source is GA, or GB with bit 10 of CC set (§7.1)
unfoldable pub source : Channel → Side
source c = side (pick c.fields.sourceIsGB c.gb c.ga) c.fields.sourceMoves (source_wide c.psw)

-- the destination is the other of the two (§7.1)
unfoldable pub destination : Channel → Side
destination c = side (pick c.fields.sourceIsGB c.ga c.gb) c.fields.destinationMoves (destination_wide c.psw)

-- a word side is 16 bits wide and at an even address (§7.2)
unfoldable pub word_side : Side → Bool
word_side s = s.wide && not (bit_of s.pointer.address 0)

-- where a side's second byte lies: the next address on a word side and on one that moves on, else the same again (§7.4)
unfoldable pub second_address : Side → ℕ
second_address s = pick (word_side s || s.moves) (sum20 s.pointer.address 1) s.pointer.address

-- a pointer that goes some bytes on, where a test holds
unfoldable pub gained : Bool → Pointer → ℕ → Pointer
gained on p by = pick on (onward p by) p

-- a side's pointer after a move of some bytes: it goes on where the side moves on (§7.9)
abbrev pub side_after : Side → ℕ → Pointer
side_after s by = gained s.moves s.pointer by

-- TBC is on
abbrev pub count_on : Fields → Bool
count_on f = not (eqb f.countEnd 0)

-- two bytes move where a side is a word side, but the last of a count goes alone (§7.3)
unfoldable pub two_move : Channel → Bool
two_move c = (word_side (source c) || word_side (destination c)) && not (count_on c.fields && eqb c.bc 1)

-- two bytes go to a side that is no word side, so each is stored singly (§7.5)
unfoldable pub stored_singly : Channel → Bool
stored_singly c = two_move c && not (word_side (destination c))
