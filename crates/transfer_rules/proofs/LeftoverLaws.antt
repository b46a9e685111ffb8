-- The leftover count: BC falls by the bytes fetched, and those are the bytes stored but where the first of two single stores meets TMC (§7.8, §7.9).
-- Assumes nothing.
use Prim.Native.Nat.{suc, ◌+◌, ◌%◌}
use lib.Dec.{eqb}
use lib.ListN.{length}
use mathlib.Core.Bool.{Bool, true, false, not, ◌&&◌, ◌||◌}
use mathlib.Core.List.{List}
use mathlib.Core.Path.{◌≡◌, refl, sym, ap}
use native.Mathlib.Omega.{arith}
use Rattle.ground_rules.specs.Updates.{with_transfer}
use Rattle.ground_rules.specs.declared.Channel.{Channel}
use Rattle.ground_rules.specs.Buffers.{Buffers, store_byte}
use Rattle.ground_rules.specs.Places.{Place}
use Rattle.ground_rules.proofs.ChoiceLaws.{apart, both_left, both_right, and-true, and-false}
use Rattle.ground_rules.specs.Choice.{pick}
use Rattle.ground_rules.specs.Sums.{count_down}
use Rattle.transfer_rules.specs.Ends.{code_if, larger, ended_by}
use Rattle.transfer_rules.specs.Reads.{bytes_fetched, also, read_places}
use Rattle.transfer_rules.specs.Sides.{source, destination, word_side, count_on, two_move, stored_singly}
use Rattle.transfer_rules.specs.Stores.{first_meets, match_met, cut_short, stores_two, bytes_stored, end_code, moved_by, move_over, moved_channel, put_on, moved_memory}
use Rattle.transfer_rules.specs.declared.Data.{Data}

-- a place more, where a test holds
also-length : (on : Bool) (p : Place) (ps : List Place) → length (also on p ps) ≡ length ps + pick on 1 0
unfolding also
also-length true p ps = omega arith
also-length false p ps = omega arith

-- the bytes fetched are the places read at the source; translation reads one place more
pub fetched-places : (c : Channel) (m : Buffers) → length (read_places c m) ≡ bytes_fetched c + pick c.fields.translates 1 0
unfolding read_places
fetched-places c m = rw (also-length, also-length) (go (two_move c) c.fields.translates)
  where
    go : (two on : Bool) → suc (0 + pick on 1 0 + pick two 1 0) ≡ pick two 2 1 + pick on 1 0
    go true true = refl
    go true false = refl
    go false true = refl
    go false false = refl

-- ---- the first of two single stores meets TMC

-- a word was fetched, and goes to a side that is no word side
pub cut-sides : (c : Channel) (d : Data) → cut_short c d ≡ true → (word_side (source c) ≡ true) × (word_side (destination c) ≡ false)
unfolding cut_short stored_singly two_move
cut-sides c d = go (word_side (source c)) (word_side (destination c)) (not (count_on c.fields && eqb c.bc 1))
  where
    go : (from into more : Bool) → (((from || into) && more) && not into) && first_meets c d ≡ true → (from ≡ true) × (into ≡ false)
    go true false more h = (refl, refl)
    go true true true h = apart (sym h)
    go true true false h = apart (sym h)
    go false true true h = apart (sym h)
    go false true false h = apart (sym h)
    go false false more h = apart (sym h)

-- two bytes move
cut-two : (c : Channel) (d : Data) → cut_short c d ≡ true → two_move c ≡ true
unfolding cut_short stored_singly
cut-two c d h = both_left (two_move c) (not (word_side (destination c))) (both_left (stored_singly c) (first_meets c d) h)

-- so two are fetched
pub cut-counts : (c : Channel) (d : Data) → cut_short c d ≡ true → bytes_fetched c ≡ 2
cut-counts c d h = rw (cut-two c d h)

-- and BC falls by 2, whatever it was, and whether TBC is on or off
pub cut-bc : (c : Channel) (d : Data) → cut_short c d ≡ true → (moved_channel c d).bc ≡ count_down c.bc 2
unfolding moved_channel move_over ended_by moved_by with_transfer
cut-bc c d h = ap (count_down c.bc) (cut-counts c d h)

-- one byte is stored
pub cut-stores : (c : Channel) (d : Data) → cut_short c d ≡ true → stores_two c d ≡ false
unfolding stores_two
cut-stores c d h = rw h (and-false (two_move c))

pub cut-memory : (c : Channel) (d : Data) (m : Buffers) → cut_short c d ≡ true
    → moved_memory c d m ≡ store_byte m (destination c).pointer.tag (destination c).pointer.address d.first
unfolding moved_memory put_on
cut-memory c d m h = rw (cut-stores c d h)

-- and sides that move on gain 1
pub cut-moves : (c : Channel) (d : Data) → cut_short c d ≡ true → bytes_stored c d ≡ 1
unfolding bytes_stored
cut-moves c d h = rw (cut-stores c d h)

-- the match ends it, and so does the count where BC is now 0
cut-met : (c : Channel) (d : Data) → cut_short c d ≡ true → match_met c d ≡ true
unfolding cut_short match_met
cut-met c d h = rw (both_right (stored_singly c) (first_meets c d) h)

pub cut-ends : (c : Channel) (d : Data) → cut_short c d ≡ true
    → end_code c (match_met c d) ≡ larger (larger (c.fields.matchEnd % 4) (code_if (eqb (count_down c.bc 2) 0) c.fields.countEnd)) (code_if c.fields.singleTransfer 1)
unfolding end_code code_if
cut-ends c d h = rw (cut-met c d h, cut-two c d h)

-- ---- every other step

-- the bytes fetched are the bytes stored
pub whole-counts : (c : Channel) (d : Data) → cut_short c d ≡ false → bytes_fetched c ≡ bytes_stored c d
unfolding bytes_stored stores_two
whole-counts c d h = rw (h, and-true)

-- so BC falls by those
pub whole-bc : (c : Channel) (d : Data) → cut_short c d ≡ false → (moved_channel c d).bc ≡ count_down c.bc (bytes_stored c d)
unfolding moved_channel move_over ended_by moved_by with_transfer
whole-bc c d h = ap (count_down c.bc) (whole-counts c d h)
