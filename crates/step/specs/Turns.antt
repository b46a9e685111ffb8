-- What a channel's step comes to before it is put into a state, as the code hands it on.
use Rattle.std.specs.Prelude.{Bool, List, ℕ, Result, Ok, Err}
use Rattle.ground_rules.specs.Buffers.{Buffers}
use Rattle.ground_rules.specs.Choice.{pick}
use Rattle.ground_rules.specs.Places.{Place}
use Rattle.ground_rules.specs.Psw.{transferring}
use Rattle.ground_rules.specs.Refusals.{number_of}
use Rattle.ground_rules.specs.States.{block_of, busy_in, channel_number, with_channel, with_last}
use Rattle.ground_rules.specs.declared.Channel.{Channel}
use Rattle.ground_rules.specs.declared.State.{State}
use Rattle.instruction_rules.specs.Execute.{touched_by_instruction, execute_of}
use Rattle.transfer_rules.specs.Steps.{touched_by_transfer, transfer_of}
use Rattle.turn_rules.specs.Step.{Step, done_step, refused_step}
use Rattle.turn_rules.specs.declared.Kind.{Kind}
use Rattle.turn_rules.specs.declared.Stepped.{Stepped}
use Rattle.turn_rules.specs.declared.Kind.TheVariants.{Instruction, Transfer}
use Rattle.step.specs.declared.Turn.{Turn}
use Rattle.step.specs.declared.RefusedTurn.{RefusedTurn}

-- what a done step answers: its channel is put back and is the last to step (§5.6)
abbrev pub done_as : State → Bool → Channel → Kind → ℕ → Stepped
done_as s second c kind count =
    record { count = count; state = with_last (with_channel s second c) second; channel = channel_number second; kind = kind }

-- what it leaves of a state whose channel of this name has stepped, with the memories after it
abbrev pub turned : State → Bool → Result Turn RefusedTurn → Buffers → Step
turned s second (Ok t) m = done_step s second t.channel m t.kind
turned s second (Err refused) m = refused_step (number_of refused.why) s m

-- the number of a turn: 0 where it is done
abbrev pub turn_number : Result Turn RefusedTurn → ℕ
turn_number (Ok t) = 0
turn_number (Err refused) = number_of refused.why

-- how many bytes it read and stored: none where it is refused
abbrev pub turn_count : Result Turn RefusedTurn → ℕ
turn_count (Ok t) = t.count
turn_count (Err refused) = 0

-- a turn with the memories after it
pub record Taken : Type 0 where
  pub number : ℕ
  pub channel : Channel
  pub memory : Buffers
  pub kind : Kind

-- the turn of a channel: a refused one leaves it as it was
abbrev pub taken : Channel → Result Turn RefusedTurn → Buffers → Taken
taken c (Ok t) m = record { number = 0; channel = t.channel; memory = m; kind = t.kind }
taken c (Err refused) m = record { number = number_of refused.why; channel = c; memory = m; kind = refused.kind }

-- the turn of a channel that stands in the place of the one of this name: with XF a transfer step, else an instruction
unfoldable pub turn_of : Channel → State → Buffers → Bool → Taken
turn_of c s m second =
    let t = transfer_of c m in
    let e = execute_of c (busy_in (block_of s second)) m in
    pick (transferring c.psw)
    (record { number = t.number; channel = t.channel; memory = t.memory; kind = Transfer })
    (record { number = e.number; channel = e.channel; memory = e.memory; kind = Instruction })

-- the bytes that it touches
unfoldable pub turn_touched : Channel → State → Buffers → Bool → List Place
turn_touched c s m second = pick (transferring c.psw) (touched_by_transfer c m) (touched_by_instruction m c (busy_in (block_of s second)))
