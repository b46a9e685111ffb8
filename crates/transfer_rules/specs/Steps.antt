-- One transfer step of a channel: the bytes it touches, its refusals and its outcome (§7).
use Rattle.std.specs.Prelude.{Bool, true, not, ◌&&◌, ◌||◌, List, [], ◌∷◌, ◌++◌, ℕ, ◌+◌, eqb, Some}
use Rattle.ground_rules.specs.Choice.{pick}
use Rattle.ground_rules.specs.Buffers.{Buffers, store_byte}
use Rattle.ground_rules.specs.Places.{Place}
use Rattle.ground_rules.specs.declared.Channel.{Channel}
use Rattle.ground_rules.specs.Outcomes.{unless, counted}
use Rattle.ground_rules.specs.Stages.{Stage, stage, stages_number}
use Rattle.ground_rules.specs.Updates.{holding}
use Rattle.transfer_rules.specs.Sides.{source, destination, second_address}
use Rattle.transfer_rules.specs.Parts.{Part, Whole, FirstFetch, SecondFetch, FirstStore, SecondStore, part_of}
use Rattle.transfer_rules.specs.Reads.{fetched, fetched_second, data_of, read_places}
use Rattle.transfer_rules.specs.Ends.{meets_tmc}
use Rattle.transfer_rules.specs.Stores.{first_meets, move_over, moved_channel, moved_memory, places_on, stored_places}
use Rattle.transfer_rules.specs.Halves.{first_place, second_place, word_with}

-- the number, the channel and both memories after a transfer step
pub record Transfer : Type 0 where
  pub number : ℕ
  pub channel : Channel
  pub memory : Buffers

abbrev pub transferred : ℕ → Channel → Buffers → Transfer
transferred number c m = record { number = number; channel = c; memory = m }

-- every byte that a step of a part reads or stores, each access once (§7.11, §7.14)
unfoldable pub touched_by : Part → Channel → Buffers → List Place
touched_by Whole c m = read_places c m ++ stored_places c (data_of c m)
touched_by FirstFetch c m = first_place (source c) ∷ []
touched_by (SecondFetch byte) c m = second_place (source c) ∷ places_on (destination c) true
touched_by FirstStore c m = first_place (source c) ∷ second_place (source c) ∷ first_place (destination c) ∷ []
touched_by (SecondStore byte) c m = second_place (destination c) ∷ []

-- of those the ones that it reads
unfoldable pub reads_by : Part → Channel → Buffers → List Place
reads_by Whole c m = read_places c m
reads_by FirstFetch c m = first_place (source c) ∷ []
reads_by (SecondFetch byte) c m = second_place (source c) ∷ []
reads_by FirstStore c m = first_place (source c) ∷ second_place (source c) ∷ []
reads_by (SecondStore byte) c m = []

-- what a step of a part makes of the channel: a first half holds a byte and changes no other register, unless a match ends it there; of a second store TMC looks at the byte that was held
unfoldable pub channel_by : Part → Channel → Buffers → Channel
channel_by Whole c m = moved_channel c (data_of c m)
channel_by FirstFetch c m = holding c (Some (fetched c m))
channel_by (SecondFetch byte) c m = moved_channel c (word_with byte c m)
channel_by FirstStore c m = pick (first_meets c (data_of c m)) (moved_channel c (data_of c m)) (holding c (Some (fetched_second c m)))
channel_by (SecondStore byte) c m = move_over c 2 (meets_tmc c.fields.matchEnd c.mc byte)

-- what it stores: a first fetch nothing, a second fetch the word, a first store the first byte, a second store the one that was held
unfoldable pub memory_by : Part → Channel → Buffers → Buffers
memory_by Whole c m = moved_memory c (data_of c m) m
memory_by FirstFetch c m = m
memory_by (SecondFetch byte) c m = moved_memory c (word_with byte c m) m
memory_by FirstStore c m = store_byte m (destination c).pointer.tag (destination c).pointer.address (data_of c m).first
memory_by (SecondStore byte) c m = store_byte m (destination c).pointer.tag (second_address (destination c)) byte

-- every byte that a channel's next transfer step reads or stores
unfoldable pub touched_by_transfer : Channel → Buffers → List Place
touched_by_transfer c m = touched_by (part_of c) c m

-- how many those of a whole step are: the source's one or two, the destination's one or two, and the translated one
abbrev pub accesses : Bool → Bool → Bool → ℕ
accesses two stored translated = pick two 2 1 + pick stored 2 1 + pick translated 1 0

-- a mode that is refused: SYN 11, or translation with a side of 16 bits (§7.11)
unfoldable pub bad_mode : Channel → Bool
bad_mode c = eqb c.fields.synchronised 3 || c.fields.translates && ((source c).wide || (destination c).wide)

-- the stages of a step of a part: the mode, for which no byte is looked at, then every byte (§7.11)
unfoldable pub stages_by : Part → Channel → Buffers → List Stage
stages_by k c m = stage [] (unless (not (bad_mode c)) 5) ∷ stage (touched_by k c m) 0 ∷ []

-- its number by its stages: 5, then 2
unfoldable pub number_by : Part → Channel → Buffers → ℕ
number_by k c m = stages_number m (stages_by k c m)

-- the step of a part: refused, the given channel and memories; done, what it makes of them
unfoldable pub step_by : Part → Channel → Buffers → Transfer
step_by k c m =
    pick (eqb (number_by k c m) 0)
    (transferred 0 (channel_by k c m) (memory_by k c m))
    (transferred (number_by k c m) c m)

-- how many bytes it reads and stores; none where it is refused
unfoldable pub count_by : Part → Channel → Buffers → ℕ
count_by k c m = counted (step_by k c m).number (touched_by k c m)

-- the stages, the number and the outcome of a channel's next transfer step, and how many bytes it reads and stores
unfoldable pub transfer_stages : Channel → Buffers → List Stage
transfer_stages c m = stages_by (part_of c) c m

unfoldable pub transfer_number : Channel → Buffers → ℕ
transfer_number c m = number_by (part_of c) c m

unfoldable pub transfer_of : Channel → Buffers → Transfer
transfer_of c m = step_by (part_of c) c m

unfoldable pub transfer_count : Channel → Buffers → ℕ
transfer_count c m = counted (transfer_of c m).number (touched_by_transfer c m)
