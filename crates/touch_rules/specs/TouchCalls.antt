-- The calls for C that tell what another call touches: each answers the number that the call would answer and how many places it told, and changes nothing
-- but the lent words (§17).
use Rattle.std.specs.Prelude.{List, ℕ, eqb, length}
use Rattle.ground_rules.specs.Choice.{pick}
use Rattle.ground_rules.specs.Buffers.{Buffers}
use Rattle.ground_rules.specs.States.{reset_state}
use Rattle.attention_rules.specs.Attention.{attention_of}
use Rattle.attention_rules.specs.Power.{power_up_of}
use Rattle.turn_rules.specs.Step.{step_of}
use Rattle.sweep_rules.specs.Sweep.{sweep_of}
use Rattle.state_rules.specs.Calls.{answer_from, kind_number}
use Rattle.state_rules.specs.Layout.{state_in, is_state, state_length}
use Rattle.touch_rules.specs.Told.{Told, places_told}
use Rattle.touch_rules.specs.Touches.{told_by_attention, told_by_power, told_by_step, told_by_sweep}

-- what such a call leaves: its answer, and the lent words
pub record Telling : Type 0 where
  pub answer : ℕ
  pub places : List ℕ

abbrev pub telling : ℕ → List ℕ → Telling
telling answer places = record { answer = answer; places = places }

-- the number of the call, its channel and its kind, and some places told; all of them are counted, whether there is room or not (§17.1)
unfoldable pub told_as : ℕ → ℕ → ℕ → List Told → List ℕ → Telling
told_as number channel kind ts room = telling (answer_from number channel kind (length ts)) (places_told room ts)

-- bytes that are no state: 17, and nothing is told (§17.1, §11.2)
abbrev pub none_told : List ℕ → Telling
none_told room = telling 17 room

-- before an attention
unfoldable pub touches_attention : List ℕ → Buffers → ℕ → List ℕ → Telling
touches_attention b m channel room =
    pick (is_state b) (told_as (attention_of (state_in b) m channel).number 0 0 (told_by_attention (state_in b) m channel) room) (none_told room)

-- before a power-up, which looks at the length of a state alone
unfoldable pub touches_power_up : List ℕ → Buffers → List ℕ → Telling
touches_power_up b m room =
    pick (eqb (length b) state_length) (told_as (power_up_of reset_state m).number 0 0 (told_by_power m) room) (none_told room)

-- before a step
unfoldable pub touches_step : List ℕ → Buffers → ℕ → List ℕ → Telling
touches_step b m lines room =
    let o = step_of (state_in b) m lines in
    pick (is_state b) (told_as o.number o.channel (kind_number o.kind) (told_by_step (state_in b) m lines) room) (none_told room)

-- before a sweep, which names no channel and no kind
unfoldable pub touches_sweep : List ℕ → Buffers → ℕ → ℕ → List ℕ → Telling
touches_sweep b m channel lines room =
    pick (is_state b) (told_as (sweep_of (state_in b) m channel lines).number 0 0 (told_by_sweep (state_in b) m channel lines) room) (none_told room)
