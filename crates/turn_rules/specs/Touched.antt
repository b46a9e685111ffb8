-- Which bytes a step touches: those of the transfer step or of the instruction that was chosen, none for an external end.
use Rattle.std.specs.Prelude.{ℕ, List, []}
use Rattle.instruction_rules.specs.Execute.{touched_by_instruction as executed}
use Rattle.ground_rules.specs.Outcomes.{counted}
use Rattle.ground_rules.specs.Psw.{transferring}
use Rattle.ground_rules.specs.Stages.{stages_touched}
use Rattle.ground_rules.specs.States.{channel_of, block_of, busy_in}
use Rattle.ground_rules.specs.declared.State.{State}
use Rattle.ground_rules.specs.Buffers.{Buffers}
use Rattle.ground_rules.specs.Places.{Place}
use Rattle.transfer_rules.specs.Steps.{transfer_stages, touched_by_transfer as moved}
use Rattle.ground_rules.specs.Choice.{pick}
use Rattle.turn_rules.specs.Choosing.{choice_of}
use Rattle.turn_rules.specs.Step.{step_of}
use Rattle.turn_rules.specs.declared.Choice.{Choice}
use Rattle.turn_rules.specs.declared.Choice.TheVariants.{Nobody, Ends, Steps}

-- the bytes of a choice, each access once
unfoldable pub touched_in : Choice → State → Buffers → List Place
touched_in Nobody s m = []
touched_in (Ends second) s m = []
touched_in (Steps second) s m =
    pick (transferring (channel_of s second).psw) (moved (channel_of s second) m) (executed m (channel_of s second) (busy_in (block_of s second)))

-- the bytes that a step reads or stores
unfoldable pub touched_by_step : State → Buffers → ℕ → List Place
touched_by_step s m lines = touched_in (choice_of s lines) s m

-- how many they are; none where the step is refused
unfoldable pub step_count : State → Buffers → ℕ → ℕ
step_count s m lines = counted (step_of s m lines).number (touched_by_step s m lines)

-- the bytes of a choice up to the stage where it stops: a bad mode stops a transfer step before its first byte (§3.6)
unfoldable pub reached_in : Choice → State → Buffers → List Place
reached_in Nobody s m = []
reached_in (Ends second) s m = []
reached_in (Steps second) s m =
    pick (transferring (channel_of s second).psw) (stages_touched (transfer_stages (channel_of s second) m)) (executed m (channel_of s second) (busy_in (block_of s second)))
