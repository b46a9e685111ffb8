-- What the parts of the code promise one another: what a step comes to before its channel is written, and the channel that is then written.
use Rattle.std.specs.Prelude.{ℕ, Some, Result, Ok, Err}
use Rattle.ground_rules.specs.Buffers.{Buffers}
use Rattle.ground_rules.specs.Refusals.{number_of}
use Rattle.ground_rules.specs.declared.Channel.{Channel}
use Rattle.ground_rules.specs.declared.Done.{Done}
use Rattle.ground_rules.specs.declared.Refusal.{Refusal}
use Rattle.ground_rules.specs.Updates.{holding}
use Rattle.transfer.specs.declared.Move.{Move}
use Rattle.transfer.specs.declared.Move.TheVariants.{Holds, GoesOn}
use Rattle.transfer.specs.declared.Moved.{Moved}
use Rattle.transfer_rules.specs.Stores.{count_after, moved_by}
use Rattle.transfer_rules.specs.Steps.{Transfer, transferred}
use Rattle.transfer_rules.specs.Ends.{ended_by}

-- a byte is held
abbrev pub moved_holding : ℕ → ℕ → Moved
moved_holding count byte = record { count = count; then = Holds byte }

-- the sides go on
abbrev pub moved_on : ℕ → ℕ → ℕ → Moved
moved_on count by code = record { count = count; then = GoesOn by code }

-- the channel with its sides on by some bytes, BC fallen by the bytes fetched, ended by a code
unfoldable pub landed_by : Channel → ℕ → ℕ → Channel
landed_by c by code = ended_by (moved_by c by (count_after c)) code

-- the channel that is written: it holds the byte, or its sides go on with BC and the end
abbrev pub landed : Channel → Move → Channel
landed c (Holds byte) = holding c (Some byte)
landed c (GoesOn by code) = landed_by c by code

-- what is left by it: a refused step leaves the channel as it was
abbrev pub left_by_move : Channel → Result Moved Refusal → Buffers → Transfer
left_by_move c (Ok r) m = transferred 0 (landed c r.then) m
left_by_move c (Err refusal) m = transferred (number_of refusal) c m

-- how many bytes it read and stored: none where it is refused
abbrev pub moved_count : Result Moved Refusal → ℕ
moved_count (Ok r) = r.count
moved_count (Err refusal) = 0

-- what is left by a step whose channel is written
abbrev pub transferred_by : Channel → Result Done Refusal → Buffers → Transfer
transferred_by c (Ok d) m = transferred 0 d.channel m
transferred_by c (Err refusal) m = transferred (number_of refusal) c m
