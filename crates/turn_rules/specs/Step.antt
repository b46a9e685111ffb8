-- The step call: its number, a chain in order, and its whole outcome (§3.6, §5.5).
use Rattle.std.specs.Prelude.{Bool, ℕ, eqb, ltb, Result, Ok, Err}
use Rattle.ground_rules.specs.Choice.{pick}
use Rattle.ground_rules.specs.Buffers.{Buffers}
use Rattle.ground_rules.specs.Refusals.{number_of}
use Rattle.ground_rules.specs.declared.Refusal.{Refusal}
use Rattle.ground_rules.specs.declared.Channel.{Channel}
use Rattle.ground_rules.specs.declared.State.{State}
use Rattle.ground_rules.specs.Psw.{transferring}
use Rattle.ground_rules.specs.States.{channel_of, with_channel, with_last, block_of, busy_in, channel_number}
use Rattle.ground_rules.specs.Outcomes.{first, unless, given_number}
use Rattle.transfer_rules.specs.Ends.{externally_ended}
use Rattle.transfer_rules.specs.Steps.{transfer_of}
use Rattle.instruction_rules.specs.Execute.{execute_of}
use Rattle.turn_rules.specs.declared.Choice.{Choice}
use Rattle.turn_rules.specs.declared.Choice.TheVariants.{Nobody, Ends, Steps}
use Rattle.turn_rules.specs.Choosing.{choice_of, choice_number}
use Rattle.turn_rules.specs.declared.Kind.{Kind}
use Rattle.turn_rules.specs.declared.Kind.TheVariants.{Nothing, Instruction, Transfer, External}
use Rattle.turn_rules.specs.declared.Stepped.{Stepped}

-- what a step leaves: the number, the state, both memories, the channel that stepped and the kind of its step; 0 and none where it is refused
pub record Step : Type 0 where
  pub number : ℕ
  pub state : State
  pub memory : Buffers
  pub channel : ℕ
  pub kind : Kind

abbrev pub stepped : ℕ → State → Buffers → ℕ → Kind → Step
stepped number s m channel kind = record { number = number; state = s; memory = m; channel = channel; kind = kind }

-- a refused step leaves the state as it was, of no channel and no kind (§3.3)
abbrev pub refused_step : ℕ → State → Buffers → Step
refused_step number s m = stepped number s m 0 Nothing

abbrev pub done_step : State → Bool → Channel → Buffers → Kind → Step
done_step s second c m kind = stepped 0 (with_last (with_channel s second c) second) m (channel_number second) kind

-- what a call answers, together with the memories that it leaves: a refused one leaves the state that it was given
abbrev pub stepped_by : State → Result Stepped Refusal → Buffers → Step
stepped_by s (Ok a) m = stepped 0 a.state m a.channel a.kind
stepped_by s (Err refusal) m = refused_step (number_of refusal) s m

-- how many bytes it read and stored: none where it is refused
abbrev pub stepped_count : Result Stepped Refusal → ℕ
stepped_count (Ok a) = a.count
stepped_count (Err refusal) = 0

-- what a channel's own step came to, refused or done
unfoldable pub settled_step : ℕ → State → Buffers → Bool → Channel → Buffers → Kind → Step
settled_step number s m second c m' kind = pick (eqb number 0) (done_step s second c m' kind) (refused_step number s m)

-- one transfer step of a channel
unfoldable pub transfer_step : State → Buffers → Bool → Step
transfer_step s m second =
    let t = transfer_of (channel_of s second) m in
    settled_step t.number s m second t.channel t.memory Transfer

-- one instruction of a channel
unfoldable pub instruction_step : State → Buffers → Bool → Step
instruction_step s m second =
    let e = execute_of (channel_of s second) (busy_in (block_of s second)) m in
    settled_step e.number s m second e.channel e.memory Instruction

-- an external end, which is the whole step (§5.2)
unfoldable pub external_step : State → Buffers → Bool → Step
external_step s m second = done_step s second (externally_ended (channel_of s second)) m External

-- a channel with XF transfers, any other executes (§5.5)
unfoldable pub channel_step : State → Buffers → Bool → Step
channel_step s m second = pick (transferring (channel_of s second).psw) (transfer_step s m second) (instruction_step s m second)

-- the step of a choice; nobody's is refused (§5.5)
unfoldable pub chosen_step : Choice → State → Buffers → Step
chosen_step Nobody s m = refused_step (choice_number Nobody) s m
chosen_step (Ends second) s m = external_step s m second
chosen_step (Steps second) s m = channel_step s m second

-- what a step asks of what it is given: 12, 11, 10, 13, then 14 (§3.4)
unfoldable pub entry_number : State → Buffers → ℕ → ℕ
entry_number s m lines = first (unless (ltb lines 16) 12) (given_number s m)

-- what a step leaves
unfoldable pub step_of : State → Buffers → ℕ → Step
step_of s m lines =
    pick (eqb (entry_number s m lines) 0) (chosen_step (choice_of s lines) s m) (refused_step (entry_number s m lines) s m)
