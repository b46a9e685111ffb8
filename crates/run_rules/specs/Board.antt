-- The run as the board starts it: reset and power-up in the place of a CP, then one attention and steps (§8.5).
use Rattle.std.specs.Prelude.{ℕ, eqb}
use Rattle.ground_rules.specs.Choice.{pick}
use Rattle.ground_rules.specs.Buffers.{Buffers}
use Rattle.ground_rules.specs.Outcomes.{Outcome}
use Rattle.ground_rules.specs.States.{reset_state}
use Rattle.ground_rules.specs.declared.Made.{Made}
use Rattle.run_rules.specs.Run.{Run, ran, started_run, call_number}
use Rattle.attention_rules.specs.Power.{power_up_of}

-- what a power-up answers, apart from the memories that it leaves
abbrev pub powered_as : Outcome → Made
powered_as o = record { number = o.number; state = o.state }

-- what comes of a power-up: where it is refused its number, else one attention to the state found, and steps (§8.5)
unfoldable pub powered_run : Outcome → ℕ → ℕ → ℕ → Run
powered_run o channel lines limit = started_run (powered_as o) o.memory channel lines limit

-- the whole run: 12 and 11 come before all else (§8.5)
unfoldable pub board_run_of : Buffers → ℕ → ℕ → ℕ → Run
board_run_of m channel lines limit =
    pick (eqb (call_number m channel lines limit) 0) (powered_run (power_up_of reset_state m) channel lines limit) (ran (call_number m channel lines limit) 0 m)
