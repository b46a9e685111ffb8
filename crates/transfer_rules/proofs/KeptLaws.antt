-- What a transfer step and an external end leave alone: bytes, lengths, registers, tags, that a sound channel stays sound, and that the fields stay those of CC.
-- Assumes nothing.
use Rattle.std.proofs.Common.{Option, ℕ, None, Some}
use Prim.Native.Nat.{ℕ, ◌+◌, ◌%◌}
use borrow.Author.Tests.{eqb-false, lt-ltb, ne_eqb}
use lib.Dec.{ltb, eqb, lit<}
use lib.ListN.{length}
use mathlib.Core.Bool.{Bool, true, false, not, ◌&&◌}
use mathlib.Core.Path.{◌≡◌, refl, sym, ap, ap₂, ◌∙◌}
use native.Mathlib.Nat.{mod-lt}
use Rattle.ground_rules.proofs.FieldLaws.{same-agrees}
use Rattle.ground_rules.specs.Psw.{transferring, with_psw}
use Rattle.ground_rules.specs.States.{sound_channel, fields_agree}
use Rattle.ground_rules.specs.declared.Channel.{Channel}
use Rattle.ground_rules.proofs.StoreLaws.{store_length, read-other}
use Rattle.ground_rules.specs.Buffers.{Buffers, space_of, index_of, lent_at, byte_at, store_byte}
use Rattle.ground_rules.proofs.SpanLaws.{apart-right}
use Rattle.ground_rules.specs.Places.{Apart, ApartFrom}
use Rattle.ground_rules.specs.Values.{pointer, onward}
use Rattle.ground_rules.specs.declared.Pointer.{Pointer}
use Rattle.ground_rules.proofs.BitLaws.{bit-same, bit-other}
use Rattle.ground_rules.proofs.ChoiceLaws.{apart, both_left, both_right, pick-back}
use Rattle.ground_rules.specs.Bits.{bit_of, with_bit}
use Rattle.ground_rules.specs.Choice.{pick}
use Rattle.ground_rules.specs.Sums.{sum20}
use Rattle.transfer_rules.specs.Ends.{meets_tmc, offset_of, ended_tp, ended_psw, ended_by, externally_ended}
use Rattle.ground_rules.specs.Updates.{with_transfer, holding, dropped}
use Rattle.transfer_rules.specs.Halves.{word_with}
use Rattle.transfer_rules.specs.Parts.{Part, Whole, FirstFetch, SecondFetch, FirstStore, SecondStore, part_of}
use Rattle.transfer_rules.specs.Reads.{fetched, fetched_second, data_of, also, read_places}
use Rattle.transfer_rules.specs.Sides.{side, source, destination, second_address, gained, side_after}
use Rattle.transfer_rules.specs.Steps.{touched_by, channel_by, memory_by, touched_by_transfer, transfer_of}
use Rattle.transfer_rules.specs.Stores.{first_meets, match_met, stores_two, bytes_stored, count_after, end_code, moved_by, move_over, moved_channel, put_on, moved_memory, places_on, stored_places}
use Rattle.transfer_rules.specs.declared.Data.{Data}
use Rattle.transfer_rules.specs.declared.Side.{Side}
use Rattle.transfer_rules.proofs.PartLaws.{second-fetch-apart, word-stored}
use Rattle.transfer_rules.proofs.StepLaws.{by_number}

-- ---- memory

-- the length of each space stays
put-length : (s : Side) (two : Bool) (d : Data) (m : Buffers) (u : Bool) → length (space_of (put_on s two d m) u) ≡ length (space_of m u)
unfolding put_on
put-length s true d m u =
    let p = s.pointer in
    store_length (store_byte m p.tag p.address d.first) p.tag u (second_address s) d.second ∙ store_length m p.tag u p.address d.first
put-length s false d m u = let p = s.pointer in store_length m p.tag u p.address d.first

-- a byte that is none of those stored stays
put_other : (s : Side) (two : Bool) (d : Data) (m : Buffers) (u : Bool) (b : ℕ) → Apart s.pointer.tag s.pointer.address u b
    → (two ≡ true → Apart s.pointer.tag (second_address s) u b) → byte_at (put_on s two d m) u b ≡ byte_at m u b
unfolding put_on
put_other s true d m u b ne₁ ne₂ =
    let p = s.pointer in
    read-other (store_byte m p.tag p.address d.first) p.tag (second_address s) d.second u b (ne₂ refl) ∙ read-other m p.tag p.address d.first u b ne₁
put_other s false d m u b ne₁ ne₂ = let p = s.pointer in read-other m p.tag p.address d.first u b ne₁

-- no part of a move changes a length
part_length : (k : Part) (c : Channel) (m : Buffers) (u : Bool) → length (space_of (memory_by k c m) u) ≡ length (space_of m u)
unfolding memory_by moved_memory
part_length Whole c m u = put-length (destination c) (stores_two c (data_of c m)) (data_of c m) m u
part_length FirstFetch c m u = refl
part_length (SecondFetch byte) c m u = put-length (destination c) (stores_two c (word_with byte c m)) (word_with byte c m) m u
part_length FirstStore c m u = let p = (destination c).pointer in store_length m p.tag u p.address (data_of c m).first
part_length (SecondStore byte) c m u = store_length m (destination c).pointer.tag u (second_address (destination c)) byte

-- a step changes no length
pub lengths-kept : (c : Channel) (m : Buffers) (u : Bool) → length (space_of (transfer_of c m).memory u) ≡ length (space_of m u)
lengths-kept c m u =
    by_number c m (λ o. length (space_of o.memory u) ≡ length (space_of m u)) (λ g. refl) (λ g. refl)
    (λ g. part_length (part_of c) c m u)

-- and so takes nothing that is lent
pub lent-kept : (c : Channel) (m : Buffers) (u : Bool) (b : ℕ) → lent_at (transfer_of c m).memory u b ≡ lent_at m u b
unfolding lent_at
lent-kept c m u b = ap (λ (n : ℕ). ltb (index_of u b) n) (lengths-kept c m u)

-- a byte outside the places of a store of one or two is as it was
placed-kept : (s : Side) (two : Bool) (d : Data) (m : Buffers) (u : Bool) (b : ℕ) → ApartFrom (places_on s two) u b → byte_at (put_on s two d m) u b ≡ byte_at m u b
unfolding places_on also
placed-kept s true d m u b h = put_other s true d m u b h.0 (λ e. h.1.0)
placed-kept s false d m u b h = put_other s false d m u b h.0 (λ e. apart (sym e))

-- every byte outside the touched places is as it was
pub bytes-kept : (c : Channel) (m : Buffers) (u : Bool) (b : ℕ) → ApartFrom (touched_by_transfer c m) u b → byte_at (transfer_of c m).memory u b ≡ byte_at m u b
unfolding touched_by_transfer touched_by memory_by moved_memory stored_places
bytes-kept c m u b h =
    by_number c m (λ o. byte_at o.memory u b ≡ byte_at m u b) (λ g. refl) (λ g. refl)
    (λ g. go (part_of c) refl h)
  where
    go : (k : Part) → part_of c ≡ k → ApartFrom (touched_by k c m) u b → byte_at (memory_by k c m) u b ≡ byte_at m u b
    go Whole e x =
        placed-kept (destination c) (stores_two c (data_of c m)) (data_of c m) m u b
        (apart-right (read_places c m) (places_on (destination c) (stores_two c (data_of c m))) u b x)
    go FirstFetch e x = refl
    go (SecondFetch byte) e x =
        rw (word-stored c (word_with byte c m) (second-fetch-apart c byte e))
        (placed-kept (destination c) true (word_with byte c m) m u b x.1)
    go FirstStore e x = read-other m (destination c).pointer.tag (destination c).pointer.address (data_of c m).first u b x.1.1.0
    go (SecondStore byte) e x = read-other m (destination c).pointer.tag (second_address (destination c)) byte u b x.0

-- ---- the channel

-- what holds of a channel that holds a byte and is otherwise as it was, and of one whose move is over, holds of a part's channel
part_by : (P : Channel → Type 0) (c : Channel) (m : Buffers)
    → ((byte : ℕ) → P (holding c (Some byte)))
    → ((stored : ℕ) (met : Bool) → P (move_over c stored met))
    → (k : Part) → P (channel_by k c m)
unfolding channel_by moved_channel
part_by P c m held over Whole = over (bytes_stored c (data_of c m)) (match_met c (data_of c m))
part_by P c m held over FirstFetch = held (fetched c m)
part_by P c m held over (SecondFetch byte) = let d = word_with byte c m in over (bytes_stored c d) (match_met c d)
part_by P c m held over FirstStore = go (first_meets c (data_of c m))
  where
    go : (b : Bool) → P (pick b (move_over c (bytes_stored c (data_of c m)) (match_met c (data_of c m))) (holding c (Some (fetched_second c m))))
    go true = over (bytes_stored c (data_of c m)) (match_met c (data_of c m))
    go false = held (fetched_second c m)
part_by P c m held over (SecondStore byte) = over 2 (meets_tmc c.fields.matchEnd c.mc byte)

-- what holds of the given channel, of one that holds a byte and of one whose move is over holds of the one after a step
pub step_by : (P : Channel → Type 0) (c : Channel) (m : Buffers) → P c
    → ((byte : ℕ) → P (holding c (Some byte)))
    → ((stored : ℕ) (met : Bool) → P (move_over c stored met))
    → P (transfer_of c m).channel
step_by P c m same held over = by_number c m (λ o. P o.channel) (λ g. same) (λ g. same) (λ g. part_by P c m held over (part_of c))

-- only GA, GB, TP, BC, PSW and the held byte of the channel can change
pub only-these : (c : Channel) (m : Buffers)
    → (transfer_of c m).channel
    ≡ holding (with_transfer c (transfer_of c m).channel.ga (transfer_of c m).channel.gb (transfer_of c m).channel.tp (transfer_of c m).channel.bc (transfer_of c m).channel.psw) (transfer_of c m).channel.held
unfolding move_over ended_by moved_by with_transfer
only-these c m =
    step_by (λ x. x ≡ holding (with_transfer c x.ga x.gb x.tp x.bc x.psw) x.held) c m refl (λ byte. refl) (λ stored met. refl)

-- a pointer gains as the side that it is does, whichever side that is
gained-as : (b s d : Bool) (p q : Pointer) (by : ℕ) → pick b (gained s (pick b p q) by) (gained d (pick b q p) by) ≡ gained (pick b s d) p by
gained-as true s d p q by = refl
gained-as false s d p q by = refl

-- GA gains what the step moves where the side that it is moves on
pub ga-after : (c : Channel) (by bc : ℕ) → (moved_by c by bc).ga ≡ gained (pick c.fields.sourceIsGB c.fields.destinationMoves c.fields.sourceMoves) c.ga by
unfolding moved_by with_transfer source destination
ga-after c by bc = gained-as c.fields.sourceIsGB c.fields.destinationMoves c.fields.sourceMoves c.ga c.gb by

-- and so does GB
pub gb-after : (c : Channel) (by bc : ℕ) → (moved_by c by bc).gb ≡ gained (pick c.fields.sourceIsGB c.fields.sourceMoves c.fields.destinationMoves) c.gb by
unfolding moved_by with_transfer source destination
gb-after c by bc = gained-as c.fields.sourceIsGB c.fields.sourceMoves c.fields.destinationMoves c.gb c.ga by

-- a pointer that gains bytes keeps its tag
gained-tag : (on : Bool) (p : Pointer) (n : ℕ) → (gained on p n).tag ≡ p.tag
unfolding gained onward
gained-tag true p n = refl
gained-tag false p n = refl

-- no tag changes
pub tags-kept : (c : Channel) (m : Buffers)
    → ((transfer_of c m).channel.ga.tag ≡ c.ga.tag) × ((transfer_of c m).channel.gb.tag ≡ c.gb.tag) × ((transfer_of c m).channel.tp.tag ≡ c.tp.tag)
unfolding move_over ended_by moved_by with_transfer ended_tp
tags-kept c m =
    step_by (λ x. (x.ga.tag ≡ c.ga.tag) × (x.gb.tag ≡ c.gb.tag) × (x.tp.tag ≡ c.tp.tag)) c m
    (refl, refl, refl) (λ byte. (refl, refl, refl))
    (λ by met. (ap tag (ga-after c by (count_after c)) ∙ gained-tag _ c.ga by, ap tag (gb-after c by (count_after c)) ∙ gained-tag _ c.gb by, gained-tag _ c.tp _))
  where
    tag : Pointer → Bool
    tag p = p.tag

-- an end changes no bit of PSW but XF
pub psw-kept : (c : Channel) (code at : ℕ) → (at ≡ 6 → ⊥) → bit_of (ended_psw c code) at ≡ bit_of c.psw at
unfolding ended_psw with_psw
psw-kept c code at ne = go (eqb code 0)
  where
    go : (b : Bool) → bit_of (pick b c.psw (with_bit c.psw 6 false)) at ≡ bit_of c.psw at
    go true = refl
    go false = bit-other c.psw 6 at false ne

-- what ends clears XF
pub ended-clears : (c : Channel) (code : ℕ) → (code ≡ 0 → ⊥) → transferring (ended_by c code).psw ≡ false
unfolding ended_by with_transfer ended_psw with_psw
ended-clears c code ne = rw (ne_eqb code 0 ne) (bit-same c.psw 6 false)

-- and what does not end changes nothing
pub ended-none : (c : Channel) → ended_by c 0 ≡ c
unfolding ended_by with_transfer ended_tp ended_psw gained
ended-none c = refl

-- what ends gives TP its offset
pub ended-tp : (c : Channel) (code : ℕ) → (code ≡ 0 → ⊥) → (ended_by c code).tp ≡ pointer (sum20 c.tp.address (offset_of code)) c.tp.tag
unfolding ended_by with_transfer ended_tp gained onward
ended-tp c code ne = rw (ne_eqb code 0 ne)

-- a step leaves the source where it was moved on to, as wide as it was
pub source-after : (c : Channel) (d : Data) → source (moved_channel c d) ≡ side (side_after (source c) (bytes_stored c d)) (source c).moves (source c).wide
unfolding source moved_channel move_over ended_by moved_by with_transfer
source-after c d =
    let n = bytes_stored c d in
    ap₂ (λ (p : Pointer) (w : Bool). side p c.fields.sourceMoves w)
    (pick-back c.fields.sourceIsGB (side_after (source c) n) (side_after (destination c) n))
    (psw-kept (moved_by c n (count_after c)) (end_code c (match_met c d)) 1 (eqb-false 1 6 refl))

-- and so the destination
pub destination-after : (c : Channel) (d : Data) → destination (moved_channel c d) ≡ side (side_after (destination c) (bytes_stored c d)) (destination c).moves (destination c).wide
unfolding destination moved_channel move_over ended_by moved_by with_transfer
destination-after c d =
    let n = bytes_stored c d in
    ap₂ (λ (p : Pointer) (w : Bool). side p c.fields.destinationMoves w)
    (pick-back c.fields.sourceIsGB (side_after (destination c) n) (side_after (source c) n))
    (psw-kept (moved_by c n (count_after c)) (end_code c (match_met c d)) 0 (eqb-false 0 6 refl))

-- an external end leaves GA, GB and BC alone, and all that a transfer step leaves alone; it drops a held byte
pub external-kept : (c : Channel) → externally_ended c ≡ dropped (with_transfer c c.ga c.gb (externally_ended c).tp c.bc (externally_ended c).psw)
unfolding externally_ended ended_by with_transfer
external-kept c = refl

-- where TX is on, TP gains its offset
pub external-tp : (c : Channel) → (c.fields.externalEnd ≡ 0 → ⊥) → (externally_ended c).tp ≡ pointer (sum20 c.tp.address (offset_of c.fields.externalEnd)) c.tp.tag
unfolding externally_ended
external-tp c ne = ended-tp (dropped c) c.fields.externalEnd ne

-- and XF clears
pub external-clears : (c : Channel) → (c.fields.externalEnd ≡ 0 → ⊥) → transferring (externally_ended c).psw ≡ false
unfolding externally_ended
external-clears c ne = ended-clears (dropped c) c.fields.externalEnd ne

-- ---- soundness

-- a pointer is of 20 bits
abbrev Small : Pointer → Type 0
Small p = ltb p.address 1048576 ≡ true

gained-small : (on : Bool) (p : Pointer) (n : ℕ) → Small p → Small (gained on p n)
unfolding gained onward
gained-small true p n h = lt-ltb ((p.address + n) % 1048576) 1048576 (mod-lt (p.address + n) (lit< tt))
gained-small false p n h = h

with-sound : (c : Channel) (ga gb tp : Pointer) (bc psw : ℕ) → (Small c.ga → Small ga) → (Small c.gb → Small gb) → (Small c.tp → Small tp)
    → sound_channel c ≡ true → sound_channel (with_transfer c ga gb tp bc psw) ≡ true
unfolding sound_channel with_transfer
with-sound c ga gb tp bc psw f g k h =
    let a = ltb c.ga.address 1048576 in
    let b = ltb c.gb.address 1048576 in
    let d = ltb c.gc.address 1048576 in
    let e = ltb c.tp.address 1048576 in
    let h₄ : a && b && d && e ≡ true = both_left (a && b && d && e) (ltb c.pp 1048576) h in
    let h₃ : a && b && d ≡ true = both_left (a && b && d) e h₄ in
    let h₂ : a && b ≡ true = both_left (a && b) d h₃ in
    rw (f (both_left a b h₂), g (both_right a b h₂), both_right (a && b) d h₃, k (both_right (a && b && d) e h₄), both_right (a && b && d && e) (ltb c.pp 1048576) h)

-- a sound channel stays sound over an end
pub ended-sound : (c : Channel) (code : ℕ) → sound_channel c ≡ true → sound_channel (ended_by c code) ≡ true
unfolding ended_by ended_tp
ended-sound c code = with-sound c c.ga c.gb (ended_tp c code) c.bc (ended_psw c code) (λ h. h) (λ h. h) (gained-small (not (eqb code 0)) c.tp (offset_of code))

-- what is held plays no part in it
held-sound : (c : Channel) (held : Option ℕ) → sound_channel c ≡ true → sound_channel (holding c held) ≡ true
unfolding sound_channel
held-sound c held h = h

-- and so over an external end
pub external-sound : (c : Channel) → sound_channel c ≡ true → sound_channel (externally_ended c) ≡ true
unfolding externally_ended
external-sound c h = ended-sound (dropped c) c.fields.externalEnd (held-sound c None h)

-- and over a transfer step
pub transfer-sound : (c : Channel) (m : Buffers) → sound_channel c ≡ true → sound_channel (transfer_of c m).channel ≡ true
unfolding move_over moved_by with_transfer
transfer-sound c m h = step_by (λ x. sound_channel x ≡ true) c m h (λ byte. held-sound c (Some byte) h) (λ by met. ended-sound (moved_by c by (count_after c)) (end_code c met) (held-sound (sides by (count_after c)) None (moved by (count_after c))))
  where
    sides : ℕ → ℕ → Channel
    sides by bc = with_transfer c (moved_by c by bc).ga (moved_by c by bc).gb c.tp bc c.psw

    moved : (by bc : ℕ) → sound_channel (sides by bc) ≡ true
    moved by bc =
        with-sound c (moved_by c by bc).ga (moved_by c by bc).gb c.tp bc c.psw
        (λ s. rw (ga-after c by bc) (gained-small _ c.ga by s))
        (λ s. rw (gb-after c by bc) (gained-small _ c.gb by s))
        (λ s. s) h

-- ---- the fields of CC

pub external-agree : (c : Channel) → fields_agree c ≡ true → fields_agree (externally_ended c) ≡ true
unfolding externally_ended ended_by with_transfer
external-agree c = same-agrees c (externally_ended c) refl refl

pub transfer-agree : (c : Channel) (m : Buffers) → fields_agree c ≡ true → fields_agree (transfer_of c m).channel ≡ true
unfolding move_over ended_by moved_by with_transfer
transfer-agree c m h = step_by (λ x. fields_agree x ≡ true) c m h (λ byte. same-agrees c (holding c (Some byte)) refl refl h) (λ by met. same-agrees c (move_over c by met) refl refl h)
