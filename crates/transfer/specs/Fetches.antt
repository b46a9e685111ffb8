-- What reading for a transfer step comes to: the bytes to be stored, or none where one that is read may not be touched.
use Rattle.std.specs.Prelude.{Bool, ℕ, Option, Some, None}
use Rattle.ground_rules.specs.Choice.{pick}
use Rattle.ground_rules.specs.Buffers.{Buffers, touchable_at, byte_at}
use Rattle.ground_rules.specs.Places.{all_touchable}
use Rattle.ground_rules.specs.declared.Channel.{Channel}
use Rattle.transfer_rules.specs.Reads.{data_of, read_places}
use Rattle.transfer_rules.specs.declared.Data.{Data}
use Rattle.transfer.specs.declared.reads.Seen.{Seen}

-- a byte, and whether a call may touch it
abbrev pub sight : Buffers → Bool → ℕ → Seen
sight m tag address = record { byte = byte_at m tag address; touchable = touchable_at m tag address }

-- a byte, if a call may touch it
abbrev pub seen : Buffers → Bool → ℕ → Option ℕ
seen m tag address = pick (touchable_at m tag address) (Some (byte_at m tag address)) None

-- the reads of a step
unfoldable pub fetch_of : Channel → Buffers → Option Data
fetch_of c m = pick (all_touchable m (read_places c m)) (Some (data_of c m)) None
