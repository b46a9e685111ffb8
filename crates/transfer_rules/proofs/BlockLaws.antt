-- One step of a transfer from block to block that the byte count ends: which bytes it stores where, and what the channel becomes.
-- Assumes nothing.
use Prim.Native.Nat.{ℕ, zero, suc, ◌+◌, ◌/◌, ◌%◌}
use borrow.Author.Tests.{lt-ltb, le-ltb, eq-eqb, ne_eqb}
use lib.Dec.{eqb}
use mathlib.Core.Bool.{Bool, true, false, ◌||◌}
use mathlib.Core.Path.{◌≡◌, refl, ap, ap₂, ◌∙◌}
use native.Mathlib.Omega.{arith}
use Rattle.ground_rules.specs.Psw.{destination_wide, source_wide}
use Rattle.ground_rules.specs.declared.Channel.{Channel}
use Rattle.ground_rules.specs.declared.Fields.{Fields}
use Rattle.ground_rules.proofs.PlaceLaws.{index-reduced, touchable-index, byte-reduced, store-reduced}
use Rattle.ground_rules.specs.Buffers.{Buffers, touchable_at, byte_at, store_byte}
use Rattle.ground_rules.specs.Places.{all_touchable}
use Rattle.ground_rules.specs.declared.Pointer.{Pointer}
use Rattle.ground_rules.proofs.ChoiceLaws.{apart, pick_same, and-false, or-true, pick_under}
use Rattle.ground_rules.specs.Bits.{bit_of}
use Rattle.ground_rules.specs.Sums.{sum20}
use Rattle.transfer_rules.specs.Ends.{code_if, larger, ended_by}
use Rattle.ground_rules.specs.Updates.{with_transfer, dropped}
use Rattle.transfer_rules.specs.Parts.{Whole}
use Rattle.transfer_rules.specs.Reads.{fetched, fetched_second, delivered, bytes_fetched, data_of}
use Rattle.transfer_rules.specs.Sides.{side, source, destination, word_side, second_address, gained, two_move}
use Rattle.transfer_rules.specs.Steps.{transferred, touched_by, channel_by, memory_by, bad_mode, transfer_of}
use Rattle.transfer_rules.specs.Stores.{match_met, stores_two, bytes_stored, count_after, end_code, moved_by, move_over, moved_channel, put_on, moved_memory, stored_places}
use Rattle.transfer_rules.specs.declared.Data.{Data}
use Rattle.transfer_rules.specs.declared.Side.{Side}
use Rattle.transfer_rules.proofs.KeptLaws.{ga-after, gb-after, ended-none}
use Rattle.transfer_rules.proofs.LeftoverLaws.{whole-counts}
use Rattle.transfer_rules.proofs.MatchLaws.{off-whole, off-stores, off-unmet}
use Rattle.transfer_rules.proofs.PartLaws.{unsynchronised-whole}
use Rattle.transfer_rules.proofs.StepLaws.{outcome-0}
use Rattle.transfer_rules.proofs.TouchLaws.{reads-touchable, places-touchable, touched-all}

-- the fields of such a transfer: both sides move on, no translation, TMC off, TS 0, TBC on
pub record Block (f : Fields) : Type 0 where
  pub from : f.sourceMoves ≡ true
  pub into : f.destinationMoves ≡ true
  pub plain : f.translates ≡ false
  pub unmatched : f.matchEnd % 4 ≡ 0
  pub ongoing : f.singleTransfer ≡ false
  pub counts : f.countEnd ≡ 0 → ⊥

-- the channel with both pointers on by the bytes moved, and BC lowered by them; a held byte is dropped
unfoldable pub carried : Channel → Channel
carried c = dropped (with_transfer c (gained true c.ga (bytes_fetched c)) (gained true c.gb (bytes_fetched c)) c.tp (count_after c) c.psw)

-- the memory with one byte copied from source to destination, and with the next one too
abbrev pub copied : Channel → Buffers → Buffers
copied c m =
    store_byte m (destination c).pointer.tag (destination c).pointer.address
    (byte_at m (source c).pointer.tag (source c).pointer.address)

abbrev pub copied_two : Channel → Buffers → Buffers
copied_two c m =
    store_byte (copied c m) (destination c).pointer.tag ((destination c).pointer.address + 1)
    (byte_at m (source c).pointer.tag ((source c).pointer.address + 1))

-- ---- how many bytes move

-- a side of 8 bits is no word side
pub word-narrow : (s : Side) → s.wide ≡ false → word_side s ≡ false
unfolding word_side
word-narrow s h = rw h

-- nor is one at an odd address
pub word-odd : (s : Side) → s.pointer.address % 2 ≡ 1 → word_side s ≡ false
unfolding word_side bit_of
word-odd s h = rw (eq-eqb (s.pointer.address / 1 % 2) 1 (omega arith)) (and-false s.wide)

-- one of 16 bits at an even address is
pub word_even : (s : Side) → s.wide ≡ true → s.pointer.address % 2 ≡ 0 → word_side s ≡ true
unfolding word_side bit_of
word_even s h e = rw (h, ne_eqb (s.pointer.address / 1 % 2) 1 (omega arith))

-- one byte moves where neither side is a word side
pub one-moves : (c : Channel) → word_side (source c) ≡ false → word_side (destination c) ≡ false → two_move c ≡ false
unfolding two_move
one-moves c h k = rw (h, k)

-- one byte moves where TBC is on and one is left
pub last-moves : (c : Channel) → (c.fields.countEnd ≡ 0 → ⊥) → c.bc ≡ 1 → two_move c ≡ false
unfolding two_move
last-moves c ne e = rw (ne_eqb c.fields.countEnd 0 ne, eq-eqb c.bc 1 e) (and-false (word_side (source c) || word_side (destination c)))

-- two move where some side is a word side and not just one is left
pub two-moves : (c : Channel) → word_side (source c) || word_side (destination c) ≡ true → (c.bc ≡ 1 → ⊥) → two_move c ≡ true
unfolding two_move
two-moves c h ne = rw (h, ne_eqb c.bc 1 ne, and-false)

-- ---- no end but the byte count's

-- all bytes that move are stored
pub block-stores : (c : Channel) (d : Data) → Block c.fields → stores_two c d ≡ two_move c
block-stores c d k = off-stores c d k.unmatched

-- so the bytes fetched are the bytes stored
block-counts : (c : Channel) (d : Data) → Block c.fields → bytes_fetched c ≡ bytes_stored c d
block-counts c d k = whole-counts c d (off-whole c d k.unmatched)

larger-left : (n : ℕ) → larger 0 n ≡ n
unfolding larger
larger-left zero = refl
larger-left (suc n) = rw (lt-ltb 0 (suc n) (omega arith))

larger-right : (n : ℕ) → larger n 0 ≡ n
unfolding larger
larger-right n = rw (le-ltb n 0 (omega arith))

-- the step ends exactly where BC becomes 0
pub block-end : (c : Channel) (d : Data) → Block c.fields → end_code c (match_met c d) ≡ code_if (eqb (count_after c) 0) c.fields.countEnd
unfolding end_code code_if
block-end c d k = rw (off-unmet c d k.unmatched) (ends c.fields.singleTransfer k.ongoing (code_if (eqb (count_after c) 0) c.fields.countEnd))
  where
    ends : (single : Bool) → single ≡ false → (n : ℕ) → larger (larger (code_if false (c.fields.matchEnd % 4)) n) (code_if single 1) ≡ n
    ends true e n = apart e
    ends false e n = larger-right (larger 0 n) ∙ larger-left n

-- ---- the channel

block-moved : (c : Channel) → Block c.fields → moved_by c (bytes_fetched c) (count_after c) ≡ carried c
unfolding carried moved_by with_transfer
block-moved c k =
    ap₂ (λ (p q : Pointer). dropped (with_transfer c p q c.tp (count_after c) c.psw))
    (ga-after c (bytes_fetched c) (count_after c) ∙ rw (k.from, k.into, pick_same))
    (gb-after c (bytes_fetched c) (count_after c) ∙ rw (k.from, k.into, pick_same))

-- the channel after the step, in one: on by the bytes moved, ended where BC becomes 0
pub block-channel : (c : Channel) (d : Data) → Block c.fields → moved_channel c d ≡ ended_by (carried c) (code_if (eqb (count_after c) 0) c.fields.countEnd)
unfolding moved_channel move_over
block-channel c d k = rw (block-end c d k, ← (block-counts c d k), block-moved c k)

-- its source is on by the bytes moved
pub carried_source : (c : Channel) → source (carried c) ≡ side (gained true (source c).pointer (bytes_fetched c)) (source c).moves (source c).wide
unfolding source carried with_transfer
carried_source c =
    ap (λ (p : Pointer). side p c.fields.sourceMoves (source_wide c.psw))
    (pick_under (λ (p : Pointer). gained true p (bytes_fetched c)) c.fields.sourceIsGB c.gb c.ga)

-- and so is its destination
pub carried-destination : (c : Channel) → destination (carried c) ≡ side (gained true (destination c).pointer (bytes_fetched c)) (destination c).moves (destination c).wide
unfolding destination carried with_transfer
carried-destination c =
    ap (λ (p : Pointer). side p c.fields.destinationMoves (destination_wide c.psw))
    (pick_under (λ (p : Pointer). gained true p (bytes_fetched c)) c.fields.sourceIsGB c.ga c.gb)

-- while bytes remain, TP and PSW stay
pub block-going : (c : Channel) (d : Data) → Block c.fields → (count_after c ≡ 0 → ⊥) → moved_channel c d ≡ carried c
unfolding code_if
block-going c d k ne = block-channel c d k ∙ rw (ne_eqb (count_after c) 0 ne) (ended-none (carried c))

-- with the last byte TBC ends the transfer
pub block_last : (c : Channel) (d : Data) → Block c.fields → count_after c ≡ 0 → moved_channel c d ≡ ended_by (carried c) c.fields.countEnd
unfolding code_if
block_last c d k e = block-channel c d k ∙ rw (eq-eqb (count_after c) 0 e)

-- ---- the memory

-- a reduced address may be touched where the address itself may
touchable-reduced : (m : Buffers) (t : Bool) (a : ℕ) → touchable_at m t (a % 1048576) ≡ touchable_at m t a
touchable-reduced m t a = touchable-index m t (a % 1048576) a (index-reduced t a)

-- the second byte of a side that moves on is the next one
next : (s : Side) → s.moves ≡ true → second_address s ≡ sum20 s.pointer.address 1
unfolding second_address word_side
next s h = rw (h, or-true)

next-source : (c : Channel) → Block c.fields → second_address (source c) ≡ sum20 (source c).pointer.address 1
unfolding source
next-source c k = next (source c) k.from

next-destination : (c : Channel) → Block c.fields → second_address (destination c) ≡ sum20 (destination c).pointer.address 1
unfolding destination
next-destination c k = next (destination c) k.into

first-is : (c : Channel) (m : Buffers) → Block c.fields → (data_of c m).first ≡ byte_at m (source c).pointer.tag (source c).pointer.address
unfolding data_of delivered fetched
first-is c m k = rw k.plain

second_is : (c : Channel) (m : Buffers) → Block c.fields → two_move c ≡ true → (data_of c m).second ≡ byte_at m (source c).pointer.tag ((source c).pointer.address + 1)
unfolding data_of fetched_second
second_is c m k h = rw (h, next-source c k) (byte-reduced m (source c).pointer.tag ((source c).pointer.address + 1))

-- one byte is copied
pub block-copies : (c : Channel) (m : Buffers) → Block c.fields → two_move c ≡ false → moved_memory c (data_of c m) m ≡ copied c m
unfolding moved_memory put_on
block-copies c m k h = rw (block-stores c (data_of c m) k, h, first-is c m k)

-- or two are
pub block-copies-two : (c : Channel) (m : Buffers) → Block c.fields → two_move c ≡ true → moved_memory c (data_of c m) m ≡ copied_two c m
unfolding moved_memory put_on
block-copies-two c m k h =
    rw (block-stores c (data_of c m) k, h, first-is c m k, second_is c m k h, next-destination c k)
    (store-reduced (copied c m) (destination c).pointer.tag ((destination c).pointer.address + 1) (byte_at m (source c).pointer.tag ((source c).pointer.address + 1)))

-- ---- the step

-- no such transfer is refused by 5 where it is not synchronised
pub block-mode : (c : Channel) → Block c.fields → c.fields.synchronised ≡ 0 → bad_mode c ≡ false
unfolding bad_mode
block-mode c k free = rw (free, k.plain)

-- the bytes of a step of one may be touched where the two sides' may
block-touchable : (c : Channel) (m : Buffers) → Block c.fields → two_move c ≡ false
    → touchable_at m (source c).pointer.tag (source c).pointer.address ≡ true → touchable_at m (destination c).pointer.tag (destination c).pointer.address ≡ true
    → all_touchable m (touched_by Whole c m) ≡ true
unfolding stored_places
block-touchable c m k h s d = touched-all c m ∙ rw (reads-touchable, places-touchable, block-stores c (data_of c m) k, h, s, d, k.plain)

block-touchable-two : (c : Channel) (m : Buffers) → Block c.fields → two_move c ≡ true
    → touchable_at m (source c).pointer.tag (source c).pointer.address ≡ true → touchable_at m (source c).pointer.tag ((source c).pointer.address + 1) ≡ true
    → touchable_at m (destination c).pointer.tag (destination c).pointer.address ≡ true → touchable_at m (destination c).pointer.tag ((destination c).pointer.address + 1) ≡ true
    → all_touchable m (touched_by Whole c m) ≡ true
unfolding stored_places
block-touchable-two c m k h s s' d d' =
    let p = (source c).pointer in
    let q = (destination c).pointer in
    touched-all c m
    ∙ rw (reads-touchable, places-touchable, block-stores c (data_of c m) k, h, next-source c k, next-destination c k, s, d, touchable-reduced m p.tag (p.address + 1), s', touchable-reduced m q.tag (q.address + 1), d', k.plain)

-- it is a whole step, which moves both sides on
free_step : (c : Channel) (m m' : Buffers) → Block c.fields → c.fields.synchronised ≡ 0 → all_touchable m (touched_by Whole c m) ≡ true → moved_memory c (data_of c m) m ≡ m'
    → transfer_of c m ≡ transferred 0 (moved_channel c (data_of c m)) m'
unfolding transfer_of channel_by memory_by
free_step c m m' k free all copies =
    let e = unsynchronised-whole c free in
    rw e (outcome-0 Whole c m (block-mode c k free) all ∙ ap (transferred 0 (moved_channel c (data_of c m))) copies)

-- a step of one byte, whole
pub block-step : (c : Channel) (m : Buffers) → Block c.fields → c.fields.synchronised ≡ 0 → two_move c ≡ false
    → touchable_at m (source c).pointer.tag (source c).pointer.address ≡ true → touchable_at m (destination c).pointer.tag (destination c).pointer.address ≡ true
    → transfer_of c m ≡ transferred 0 (moved_channel c (data_of c m)) (copied c m)
block-step c m k free h s d = free_step c m (copied c m) k free (block-touchable c m k h s d) (block-copies c m k h)

-- a step of two bytes, whole
pub block-step-two : (c : Channel) (m : Buffers) → Block c.fields → c.fields.synchronised ≡ 0 → two_move c ≡ true
    → touchable_at m (source c).pointer.tag (source c).pointer.address ≡ true → touchable_at m (source c).pointer.tag ((source c).pointer.address + 1) ≡ true
    → touchable_at m (destination c).pointer.tag (destination c).pointer.address ≡ true → touchable_at m (destination c).pointer.tag ((destination c).pointer.address + 1) ≡ true
    → transfer_of c m ≡ transferred 0 (moved_channel c (data_of c m)) (copied_two c m)
block-step-two c m k free h s s' d d' = free_step c m (copied_two c m) k free (block-touchable-two c m k h s s' d d') (block-copies-two c m k h)
