-- The laws of the parts of a move: which channel makes which, and what is known of the sides where a step is a half.
-- Assumes nothing.
use Rattle.std.proofs.Common.{Option, ℕ, None, Some}
use Prim.Native.Nat.{ℕ, ◌+◌, ◌%◌}
use borrow.Author.Tests.{ne_eqb}
use lib.Dec.{eqb}
use mathlib.Core.Bool.{Bool, true, false, not, ◌&&◌, ◌||◌}
use mathlib.Core.Path.{◌≡◌, refl, sym, ap, ◌∙◌}
use Rattle.ground_rules.specs.declared.Channel.{Channel}
use Rattle.ground_rules.proofs.ChoiceLaws.{apart, both_left, both_right, or-false}
use Rattle.ground_rules.specs.Buffers.{Buffers}
use Rattle.ground_rules.specs.Choice.{pick}
use Rattle.ground_rules.specs.Updates.{with_transfer}
use Rattle.transfer_rules.specs.Parts.{Part, Whole, FirstFetch, SecondFetch, FirstStore, SecondStore, fetches_apart, stores_apart, is_half, fetch_part, store_part, part_of}
use Rattle.transfer_rules.specs.Ends.{ended_by}
use Rattle.transfer_rules.specs.Reads.{data_of}
use Rattle.transfer_rules.specs.Steps.{channel_by}
use Rattle.transfer_rules.specs.Stores.{first_meets, cut_short, stores_two, moved_by, move_over, moved_channel}
use Rattle.transfer_rules.specs.declared.Data.{Data}
use Rattle.transfer_rules.specs.Sides.{source, destination, word_side, count_on, two_move, stored_singly}
use Rattle.transfer_rules.proofs.LeftoverLaws.{cut-bc}

-- ---- whole steps

-- without synchronisation every step is whole, whether a byte is held or not
pub unsynchronised-whole : (c : Channel) → c.fields.synchronised ≡ 0 → part_of c ≡ Whole
unfolding part_of fetches_apart stores_apart
unsynchronised-whole c h = rw h

-- and so is one of a single byte
pub one-whole : (c : Channel) → two_move c ≡ false → part_of c ≡ Whole
unfolding part_of fetches_apart stores_apart stored_singly
one-whole c h = rw h (go (eqb c.fields.synchronised 1) (eqb c.fields.synchronised 2))
  where
    go : (a b : Bool) → pick (a && false) (fetch_part c.held) (pick (b && false) (store_part c.held) Whole) ≡ Whole
    go true true = refl
    go true false = refl
    go false true = refl
    go false false = refl

-- ---- which half

-- a part is one of two fetches, or of two stores
is_fetch : Part → Bool
is_fetch Whole = false
is_fetch FirstFetch = true
is_fetch (SecondFetch byte) = true
is_fetch FirstStore = false
is_fetch (SecondStore byte) = false

is_store : Part → Bool
is_store Whole = false
is_store FirstFetch = false
is_store (SecondFetch byte) = false
is_store FirstStore = true
is_store (SecondStore byte) = true

fetch-is : (c : Channel) → is_fetch (part_of c) ≡ fetches_apart c
unfolding part_of is_fetch fetch_part store_part
fetch-is c = go (fetches_apart c) (stores_apart c) c.held
  where
    go : (a b : Bool) (h : Option ℕ) → is_fetch (pick a (fetch_part h) (pick b (store_part h) Whole)) ≡ a
    go true b None = refl
    go true b (Some byte) = refl
    go false true None = refl
    go false true (Some byte) = refl
    go false false h = refl

store_is : (c : Channel) → is_store (part_of c) ≡ not (fetches_apart c) && stores_apart c
unfolding part_of is_store fetch_part store_part
store_is c = go (fetches_apart c) (stores_apart c) c.held
  where
    go : (a b : Bool) (h : Option ℕ) → is_store (pick a (fetch_part h) (pick b (store_part h) Whole)) ≡ not a && b
    go true b None = refl
    go true b (Some byte) = refl
    go false true None = refl
    go false true (Some byte) = refl
    go false false h = refl

-- who makes a fetch of two has its fetches apart
pub first-fetch-apart : (c : Channel) → part_of c ≡ FirstFetch → fetches_apart c ≡ true
unfolding is_fetch
first-fetch-apart c e = sym (fetch-is c) ∙ ap is_fetch e

pub second-fetch-apart : (c : Channel) (byte : _) → part_of c ≡ SecondFetch byte → fetches_apart c ≡ true
unfolding is_fetch
second-fetch-apart c byte e = sym (fetch-is c) ∙ ap is_fetch e

-- and who makes a store of two its stores
pub first-store-apart : (c : Channel) → part_of c ≡ FirstStore → stores_apart c ≡ true
unfolding is_store
first-store-apart c e = both_right (not (fetches_apart c)) (stores_apart c) (sym (store_is c) ∙ ap is_store e)

pub second-store-apart : (c : Channel) (byte : _) → part_of c ≡ SecondStore byte → stores_apart c ≡ true
unfolding is_store
second-store-apart c byte e = both_right (not (fetches_apart c)) (stores_apart c) (sym (store_is c) ∙ ap is_store e)

-- ---- the sides of a pair

-- two fetches apart: two bytes move, the source is no word side, so the destination is one, and nothing is stored singly
module _ (c : Channel) (h : fetches_apart c ≡ true) where
  both : two_move c && not (word_side (source c)) ≡ true
  unfolding fetches_apart
  both = both_right (eqb c.fields.synchronised 1) (two_move c && not (word_side (source c))) h

  pub fetches-two : two_move c ≡ true
  fetches-two = both_left (two_move c) (not (word_side (source c))) both

  pub fetches-word : word_side (destination c) ≡ true
  unfolding two_move
  fetches-word =
      go (word_side (source c)) (word_side (destination c)) (not (count_on c.fields && eqb c.bc 1)) fetches-two (both_right (two_move c) (not (word_side (source c))) both)
    where
      go : (from into more : Bool) → (from || into) && more ≡ true → not from ≡ true → into ≡ true
      go true into more e k = apart (sym k)
      go false true more e k = refl
      go false false more e k = e

  pub fetches-whole : stored_singly c ≡ false
  unfolding stored_singly
  fetches-whole = rw (fetches-two, fetches-word)

-- two stores apart: each byte is stored singly
module _ (c : Channel) (h : stores_apart c ≡ true) where
  pub stores-singly : stored_singly c ≡ true
  unfolding stores_apart
  stores-singly = both_right (eqb c.fields.synchronised 2) (stored_singly c) h

  pub stores-two : two_move c ≡ true
  unfolding stored_singly
  stores-two = both_left (two_move c) (not (word_side (destination c))) stores-singly

-- two fetches that are apart are stored as a word, so on both places
pub word-stored : (c : Channel) (d : Data) → fetches_apart c ≡ true → stores_two c d ≡ true
unfolding stores_two cut_short
word-stored c d h = rw (fetches-two c h, fetches-whole c h)

-- of two stores the second is made where the first does not meet TMC
pub singly-stored : (c : Channel) (d : Data) → stores_apart c ≡ true → stores_two c d ≡ not (first_meets c d)
unfolding stores_two cut_short
singly-stored c d h = rw (stores-two c h, stores-singly c h)

-- ---- which half is due

-- with SYN 01 a pair is one of fetches, with any other one of stores
pub half-fetches : (c : Channel) → is_half c ≡ true → c.fields.synchronised ≡ 1 → fetches_apart c ≡ true
unfolding is_half stores_apart
half-fetches c h e = sym (or-false (fetches_apart c)) ∙ ap (λ (b : Bool). fetches_apart c || (b && stored_singly c)) (sym (ap (λ (n : ℕ). eqb n 2) e)) ∙ h

pub half-stores : (c : Channel) → is_half c ≡ true → (c.fields.synchronised ≡ 1 → ⊥) → (fetches_apart c ≡ false) × (stores_apart c ≡ true)
unfolding is_half fetches_apart
half-stores c h ne = let off = ne_eqb c.fields.synchronised 1 ne in (rw off, ap (λ (b : Bool). (b && (two_move c && not (word_side (source c)))) || stores_apart c) (sym off) ∙ h)

-- and so the part is told by what is held
pub fetch-due : (c : Channel) (held : Option ℕ) → fetches_apart c ≡ true → c.held ≡ held → part_of c ≡ fetch_part held
unfolding part_of
fetch-due c held h e = rw (h, e)

pub store-due : (c : Channel) (held : Option ℕ) → fetches_apart c ≡ false → stores_apart c ≡ true → c.held ≡ held → part_of c ≡ store_part held
unfolding part_of
store-due c held f h e = rw (f, h, e)

-- a step that is no half is whole
pub not-half : (c : Channel) → is_half c ≡ false → part_of c ≡ Whole
unfolding is_half part_of
not-half c = go (fetches_apart c) (stores_apart c)
  where
    go : (a b : Bool) → a || b ≡ false → pick a (fetch_part c.held) (pick b (store_part c.held) Whole) ≡ Whole
    go true b h = apart h
    go false true h = apart h
    go false false h = refl

-- ---- a first store that meets TMC

-- BC falls by 2 there, as if both bytes had gone, and nothing is held
pub first-store-met : (c : Channel) (m : Buffers) → part_of c ≡ FirstStore → first_meets c (data_of c m) ≡ true
    → ((channel_by FirstStore c m).bc ≡ (c.bc + 65534) % 65536) × ((channel_by FirstStore c m).held ≡ None)
unfolding channel_by cut_short moved_channel move_over ended_by moved_by with_transfer
first-store-met c m e h =
    let cut : cut_short c (data_of c m) ≡ true = rw (stores-singly c (first-store-apart c e), h) in
    rw h (cut-bc c (data_of c m) cut, refl)

-- ---- a second store

-- BC falls by 2 there: both bytes of the pair were fetched
pub second-store-counts : (c : Channel) (m : Buffers) (byte : ℕ) → part_of c ≡ SecondStore byte → (channel_by (SecondStore byte) c m).bc ≡ (c.bc + 65534) % 65536
unfolding channel_by move_over ended_by moved_by with_transfer
second-store-counts c m byte e = rw (stores-two c (second-store-apart c byte e))
