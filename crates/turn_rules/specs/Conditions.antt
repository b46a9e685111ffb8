-- The numbers of a step: each condition, and the checks in their order (§3.1, §3.6).
use Rattle.std.specs.Prelude.{ℕ, ◌≤◌, Bool, List, [], ◌∷◌}
use Rattle.instruction_rules.specs.Conditions.{instruction_checks}
use Rattle.ground_rules.specs.Conditions.{Check, check, given_checks}
use Rattle.ground_rules.specs.Psw.{transferring}
use Rattle.ground_rules.specs.States.{channel_of, block_of, busy_in}
use Rattle.ground_rules.specs.declared.State.{State}
use Rattle.ground_rules.specs.Buffers.{Buffers}
use Rattle.transfer_rules.specs.Conditions.{transfer_checks}
use Rattle.ground_rules.specs.Choice.{pick}
use Rattle.turn_rules.specs.Choosing.{choice_of}
use Rattle.turn_rules.specs.declared.Choice.{Choice}
use Rattle.turn_rules.specs.declared.Choice.TheVariants.{Nobody, Ends, Steps}
use Rattle.turn_rules.specs.Ranks.{NoneRuns}

-- 12: a line number over 15
abbrev pub LinesOver : ℕ → Type 0
LinesOver lines = 16 ≤ lines

-- the checks of who was chosen; an external end has none
abbrev pub chosen_checks : Choice → State → Buffers → List Check
chosen_checks Nobody s m = []
chosen_checks (Ends second) s m = []
chosen_checks (Steps second) s m =
    pick (transferring (channel_of s second).psw) (transfer_checks (channel_of s second) m) (instruction_checks m (channel_of s second) (busy_in (block_of s second)))

-- 12, those of what it is given, and those after them
abbrev pub entry_checks : State → Buffers → ℕ → List Check → List Check
entry_checks s m lines next = check 12 (LinesOver lines) ∷ given_checks s m next

-- then 1, then those of who was chosen
abbrev pub step_checks : State → Buffers → ℕ → List Check
step_checks s m lines = entry_checks s m lines (check 1 (NoneRuns s lines) ∷ chosen_checks (choice_of s lines) s m)

-- what is said of the channel whose transfer an external line ends, of the one that makes a transfer step, of the one that executes
abbrev pub ByChoice : Choice → State → (Bool → Type 0) → (Bool → Type 0) → (Bool → Type 0) → Type 0
ByChoice Nobody s ends moves executes = ⊥
ByChoice (Ends second) s ends moves executes = ends second
ByChoice (Steps second) s ends moves executes = pick (transferring (channel_of s second).psw) (moves second) (executes second)
