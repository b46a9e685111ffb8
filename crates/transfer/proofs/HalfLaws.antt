-- The laws of what a step comes to: what each half of a pair leaves, from what its code has seen, stored and worked out, and the part that is due.
-- Assumes nothing.
use Rattle.std.proofs.Common.{Some, Result, Ok, Err}
use Prim.Native.Nat.{ℕ, suc}
use lib.Dec.{eqb, eqb-suc-zero}
use borrow.Author.Tests.{ne_eqb}
use lib.ListN.{length}
use mathlib.Core.Bool.{Bool, true, false, not, ◌&&◌}
use mathlib.Core.Path.{◌≡◌, refl, sym, ap, ap₂, ◌∙◌}
use Rattle.ground_rules.specs.Outcomes.{counted}
use Rattle.ground_rules.specs.Updates.{holding}
use Rattle.transfer.specs.declared.Move.{Move}
use Rattle.transfer.specs.declared.Moved.{Moved}
use Rattle.ground_rules.specs.declared.Channel.{Channel}
use Rattle.ground_rules.specs.declared.Refusal.{Refusal}
use Rattle.ground_rules.specs.declared.Refusal.TheVariants.{BeyondMemory, BadTransferMode}
use Rattle.ground_rules.specs.Buffers.{Buffers, touchable_at, byte_at, store_byte}
use Rattle.ground_rules.specs.Places.{all_pass, all_touchable}
use Rattle.ground_rules.proofs.ChoiceLaws.{apart, and-true}
use Rattle.ground_rules.specs.Choice.{pick}
use Rattle.transfer_rules.specs.Ends.{meets_tmc}
use Rattle.transfer_rules.specs.Halves.{word_with}
use Rattle.transfer.specs.Moves.{landed, left_by_move, moved_count, landed_by}
use Rattle.transfer_rules.specs.Parts.{Part, Whole, FirstFetch, SecondFetch, FirstStore, SecondStore, fetches_apart, stores_apart, part_of}
use Rattle.transfer_rules.specs.Reads.{fetched, fetched_second, data_of, read_places}
use Rattle.transfer_rules.specs.Sides.{source, destination, second_address, two_move}
use Rattle.transfer_rules.specs.Steps.{Transfer, transferred, touched_by, touched_by_transfer, channel_by, memory_by, bad_mode, step_by, count_by, transfer_of, transfer_count}
use Rattle.transfer_rules.specs.Stores.{first_meets, match_met, stores_two, bytes_stored, end_code, move_over, moved_channel, put_on, moved_memory, places_on}
use Rattle.transfer_rules.specs.declared.Data.{Data}
use Rattle.transfer_rules.proofs.PartLaws.{fetches-two, word-stored, stores-two, singly-stored}
use Rattle.transfer_rules.proofs.StepLaws.{outcome-5, outcome-2, outcome-0, counts-5, counts-2, counts-0, two-plain}
use Rattle.transfer_rules.proofs.TouchLaws.{reads-touchable, places-touchable}

-- ---- a step of any part

-- a result of a step, with the memories that it leaves, is the part's outcome
abbrev pub IsPart : Part → Channel → Buffers → Result Moved Refusal → Buffers → Type 0
IsPart k c m r m' = (left_by_move c r m' ≡ step_by k c m) × (moved_count r ≡ count_by k c m)

-- its mode is bad
pub bad-left : (k : Part) (c : Channel) (m : Buffers) → bad_mode c ≡ true → IsPart k c m (Err BadTransferMode) m
bad-left k c m h = (sym (outcome-5 k c m h), counts-5 k c m h)

module _ (k : Part) (c : Channel) (m : Buffers) (good : bad_mode c ≡ false) where
  -- a byte may not be touched
  pub beyond-left : all_touchable m (touched_by k c m) ≡ false → IsPart k c m (Err BeyondMemory) m
  beyond-left l = (sym (outcome-2 k c m good l), counts-2 k c m good l)

  module _ (all : all_touchable m (touched_by k c m) ≡ true) (m' : Buffers) (stored : memory_by k c m ≡ m') (count : ℕ) (counts : length (touched_by k c m) ≡ count) where
    -- the channel is written
    pub done-by : (step : Move) → channel_by k c m ≡ landed c step → IsPart k c m (Ok (record { count = count; then = step })) m'
    done-by step e = (sym (outcome-0 k c m good all ∙ ap₂ (λ (x : Channel) (y : Buffers). transferred 0 x y) e stored), sym counts ∙ counts-0 k c m good all)

-- ---- a move of all bytes by what is stored of them

pub landed-moved : (c : Channel) (d : Data) (two : Bool) → stores_two c d ≡ two → moved_channel c d ≡ landed_by c (pick two 2 1) (end_code c (match_met c d))
unfolding moved_channel move_over landed_by bytes_stored
landed-moved c d two e = rw e

-- ---- the first of two fetches

module _ (c : Channel) (m : Buffers) where
  pub first-fetch-touches : all_touchable m (touched_by FirstFetch c m) ≡ touchable_at m (source c).pointer.tag (source c).pointer.address
  unfolding touched_by all_pass
  first-fetch-touches = and-true (touchable_at m (source c).pointer.tag (source c).pointer.address)

  pub first-fetch-holds : channel_by FirstFetch c m ≡ holding c (Some (byte_at m (source c).pointer.tag (source c).pointer.address))
  unfolding channel_by fetched
  first-fetch-holds = refl

-- ---- the second

module _ (c : Channel) (m : Buffers) (byte : ℕ) where
  pub second-fetch-touches : all_touchable m (touched_by (SecondFetch byte) c m)
      ≡ touchable_at m (source c).pointer.tag (second_address (source c)) && all_touchable m (places_on (destination c) true)
  unfolding touched_by all_pass
  second-fetch-touches = refl

  module _ (h : fetches_apart c ≡ true) where
    pub second-fetch-reads : word_with byte c m ≡ record { first = byte; second = byte_at m (source c).pointer.tag (second_address (source c)) }
    unfolding word_with fetched_second
    second-fetch-reads = rw (fetches-two c h)

    pub second-fetch-goes : channel_by (SecondFetch byte) c m ≡ landed_by c 2 (end_code c (match_met c (word_with byte c m)))
    unfolding channel_by
    second-fetch-goes = landed-moved c (word_with byte c m) true (word-stored c (word_with byte c m) h)

    pub second-fetch-stores : memory_by (SecondFetch byte) c m ≡ put_on (destination c) true (word_with byte c m) m
    unfolding memory_by moved_memory
    second-fetch-stores = rw (word-stored c (word_with byte c m) h)

-- ---- the first of two stores

module _ (c : Channel) (m : Buffers) (good : bad_mode c ≡ false) (h : stores_apart c ≡ true) where
  pub first-store-touches : all_touchable m (touched_by FirstStore c m) ≡ all_touchable m (read_places c m) && all_touchable m (places_on (destination c) false)
  unfolding touched_by all_pass
  first-store-touches =
      go (touchable_at m (source c).pointer.tag (source c).pointer.address) (touchable_at m (source c).pointer.tag (second_address (source c))) (touchable_at m (destination c).pointer.tag (destination c).pointer.address)
      ∙ sym (rw (reads-touchable, places-touchable, stores-two c h, two-plain c good (stores-two c h)))
    where
      go : (a b d : Bool) → a && (b && (d && true)) ≡ (a && (b && true)) && (d && true)
      go true true d = refl
      go true false d = refl
      go false b d = refl

  pub first-store-stores : memory_by FirstStore c m ≡ put_on (destination c) false (data_of c m) m
  unfolding memory_by put_on
  first-store-stores = refl

  -- the first byte does not meet TMC: the second is held
  pub first-store-holds : stores_two c (data_of c m) ≡ true → channel_by FirstStore c m ≡ holding c (Some (data_of c m).second)
  unfolding channel_by data_of
  first-store-holds e = go (first_meets c (data_of c m)) (sym (singly-stored c (data_of c m) h) ∙ e)
    where
      go : (b : Bool) → not b ≡ true → pick b (moved_channel c (data_of c m)) (holding c (Some (fetched_second c m))) ≡ holding c (Some (fetched_second c m))
      go true k = apart (sym k)
      go false k = refl

  -- it meets TMC: the transfer ends here
  pub first-store-goes : stores_two c (data_of c m) ≡ false → channel_by FirstStore c m ≡ landed_by c 1 (end_code c (match_met c (data_of c m)))
  unfolding channel_by
  first-store-goes e = go (first_meets c (data_of c m)) (sym (singly-stored c (data_of c m) h) ∙ e) ∙ landed-moved c (data_of c m) false e
    where
      go : (b : Bool) → not b ≡ false → pick b (moved_channel c (data_of c m)) (holding c (Some (fetched_second c m))) ≡ moved_channel c (data_of c m)
      go true k = refl
      go false k = apart k

-- ---- the second

module _ (c : Channel) (m : Buffers) (byte : ℕ) where
  pub second-store-touches : all_touchable m (touched_by (SecondStore byte) c m) ≡ touchable_at m (destination c).pointer.tag (second_address (destination c))
  unfolding touched_by all_pass
  second-store-touches = and-true (touchable_at m (destination c).pointer.tag (second_address (destination c)))

  pub second-store-stores : memory_by (SecondStore byte) c m ≡ store_byte m (destination c).pointer.tag (second_address (destination c)) byte
  unfolding memory_by
  second-store-stores = refl

  pub second-store-goes : channel_by (SecondStore byte) c m ≡ landed_by c 2 (end_code c (meets_tmc c.fields.matchEnd c.mc byte))
  unfolding channel_by move_over landed_by
  second-store-goes = refl

-- ---- the part that is due

module _ (c : Channel) (r : Result Moved Refusal) (m m' : Buffers) where
  -- a step of it is the step
  pub due-is : (k : Part) → part_of c ≡ k → IsPart k c m r m' → (left_by_move c r m' ≡ transfer_of c m) × (moved_count r ≡ transfer_count c m)
  unfolding transfer_of transfer_count count_by touched_by_transfer
  due-is k e h = rw e h
