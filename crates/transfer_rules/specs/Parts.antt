-- Which part of a move a transfer step makes (§7.14): all of it, or one half of a pair, between which the channel holds a byte.
use Rattle.std.specs.Prelude.{Bool, not, ◌&&◌, ◌||◌, ℕ, eqb, Option, None, Some}
use Rattle.ground_rules.specs.Choice.{pick}
use Rattle.ground_rules.specs.declared.Channel.{Channel}
use Rattle.transfer_rules.specs.Sides.{source, word_side, two_move, stored_singly}

-- all of a move; of two fetches that a store of the word follows the first, or the second, whose first byte was held; of two stores of a word that
-- was fetched the first, or the second, whose byte was held
pub data Part : Type 0 where
  Whole : Part
  FirstFetch : Part
  SecondFetch : ℕ → Part
  FirstStore : Part
  SecondStore : ℕ → Part

-- SYN 01, two bytes move, and the source is no word side: its two fetches are a step each
unfoldable pub fetches_apart : Channel → Bool
fetches_apart c = eqb c.fields.synchronised 1 && (two_move c && not (word_side (source c)))

-- SYN 10, two bytes move, and the destination is no word side: its two stores are a step each
unfoldable pub stores_apart : Channel → Bool
stores_apart c = eqb c.fields.synchronised 2 && stored_singly c

-- the next transfer step is one half of a pair
unfoldable pub is_half : Channel → Bool
is_half c = fetches_apart c || stores_apart c

-- of two fetches the first where nothing is held, the second where a byte is
unfoldable pub fetch_part : Option ℕ → Part
fetch_part None = FirstFetch
fetch_part (Some byte) = SecondFetch byte

-- of two stores likewise
unfoldable pub store_part : Option ℕ → Part
store_part None = FirstStore
store_part (Some byte) = SecondStore byte

-- the part that a channel's next transfer step makes; one that is no half of a pair is whole, whether a byte is held or not
unfoldable pub part_of : Channel → Part
part_of c = pick (fetches_apart c) (fetch_part c.held) (pick (stores_apart c) (store_part c.held) Whole)
