-- What a transfer step stores of the bytes that it read, and what the channel becomes (§7.5 to §7.10).
use Rattle.std.specs.Prelude.{Bool, not, ◌&&◌, ◌||◌, List, [], ◌∷◌, ℕ, ◌%◌, eqb}
use Rattle.ground_rules.specs.Choice.{pick}
use Rattle.ground_rules.specs.Sums.{count_down}
use Rattle.ground_rules.specs.Buffers.{Buffers, store_byte}
use Rattle.ground_rules.specs.Places.{Place}
use Rattle.ground_rules.specs.declared.Channel.{Channel}
use Rattle.transfer_rules.specs.declared.Side.{Side}
use Rattle.transfer_rules.specs.declared.Data.{Data}
use Rattle.transfer_rules.specs.Sides.{source, destination, second_address, side_after, two_move, stored_singly}
use Rattle.transfer_rules.specs.Reads.{bytes_fetched, also}
use Rattle.transfer_rules.specs.Ends.{meets_tmc, code_if, larger, ended_by}
use Rattle.ground_rules.specs.Updates.{with_transfer, dropped}

-- the first byte meets TMC, whether it is stored singly or as the low byte of a word
unfoldable pub first_meets : Channel → Data → Bool
first_meets c d = meets_tmc c.fields.matchEnd c.mc d.first

-- TMC is met by a byte that is stored singly, or by the low byte of a word (§7.7)
unfoldable pub match_met : Channel → Data → Bool
match_met c d = first_meets c d || stored_singly c && meets_tmc c.fields.matchEnd c.mc d.second

-- the first of two single stores meets TMC, so the second is not made (§7.8)
unfoldable pub cut_short : Channel → Data → Bool
cut_short c d = stored_singly c && first_meets c d

-- two bytes are stored
unfoldable pub stores_two : Channel → Data → Bool
stores_two c d = two_move c && not (cut_short c d)

-- the number of bytes stored: 1 where a match prevents the second store
unfoldable pub bytes_stored : Channel → Data → ℕ
bytes_stored c d = pick (stores_two c d) 2 1

-- BC once a move is over: it falls by the bytes fetched, so by 2 where a match prevents the second store, whether TBC is on or off (§7.9)
abbrev pub count_after : Channel → ℕ
count_after c = count_down c.bc (bytes_fetched c)

-- the code of its end: TMC met, or the count now at 0, or TS with offset 0, the largest of those that came; 0 is no end (§7.10)
unfoldable pub end_code : Channel → Bool → ℕ
end_code c met =
    larger
    (larger (code_if met (c.fields.matchEnd % 4)) (code_if (eqb (count_after c) 0) c.fields.countEnd))
    (code_if c.fields.singleTransfer 1)

-- the channel with its moving sides on by some bytes, and a new BC; whoever moves them on holds nothing more (§7.14)
unfoldable pub moved_by : Channel → ℕ → ℕ → Channel
moved_by c by bc =
    dropped
    (with_transfer c
    (pick c.fields.sourceIsGB (side_after (destination c) by) (side_after (source c) by))
    (pick c.fields.sourceIsGB (side_after (source c) by) (side_after (destination c) by))
    c.tp bc c.psw)

-- the channel once a move is over: the sides that move on gain the bytes stored, so 1 where a match prevents the second store, BC falls by those fetched, and the largest end that came counts (§7.9, §7.10)
unfoldable pub move_over : Channel → ℕ → Bool → Channel
move_over c stored met = ended_by (moved_by c stored (count_after c)) (end_code c met)

-- the same by the bytes read, of which as many are stored as a match allows
unfoldable pub moved_channel : Channel → Data → Channel
moved_channel c d = move_over c (bytes_stored c d) (match_met c d)

-- one byte or two stored on a side, in order
unfoldable pub put_on : Side → Bool → Data → Buffers → Buffers
put_on s two d m =
    pick two
    (store_byte (store_byte m s.pointer.tag s.pointer.address d.first) s.pointer.tag (second_address s) d.second)
    (store_byte m s.pointer.tag s.pointer.address d.first)

-- both memories after the step
unfoldable pub moved_memory : Channel → Data → Buffers → Buffers
moved_memory c d m = put_on (destination c) (stores_two c d) d m

-- the bytes of a side that a store of one or two takes
unfoldable pub places_on : Side → Bool → List Place
places_on s two =
    record { tag = s.pointer.tag; address = s.pointer.address }
    ∷ also two (record { tag = s.pointer.tag; address = second_address s }) []

-- the places that are stored to: not that of a second store that a match prevents (§7.11)
unfoldable pub stored_places : Channel → Data → List Place
stored_places c d = places_on (destination c) (stores_two c d)
