-- What the calls that tell answer: the number, channel and kind of the call itself, and how many places.
-- Assumes nothing.
use Prim.Native.Nat.{ℕ, ◌/◌, ◌%◌}
use borrow.Author.Tests.{eq-eqb, ne_eqb}
use lib.Dec.{eqb}
use lib.ListN.{length}
use mathlib.Core.Bool.{Bool, true, false}
use mathlib.Core.List.{List}
use mathlib.Core.Path.{◌≡◌, refl}
use native.Mathlib.Omega.{arith}
use Rattle.ground_rules.specs.Buffers.{Buffers}
use Rattle.ground_rules.specs.Choice.{pick}
use Rattle.ground_rules.specs.Outcomes.{Outcome}
use Rattle.ground_rules.specs.States.{reset_state}
use Rattle.attention_rules.specs.Attention.{attention_of, attention_count}
use Rattle.attention_rules.specs.Power.{power_up_of, power_count}
use Rattle.state_rules.specs.Calls.{served, kind_number, answer_from, no_state, power_served, attention_served, step_served, sweep_answer_from, sweep_served}
use Rattle.state_rules.specs.Layout.{bytes_of, state_in, is_state, state_length}
use Rattle.sweep_rules.specs.Sweep.{Sweep, sweep_of}
use Rattle.turn_rules.specs.Step.{Step, step_of}
use Rattle.turn_rules.specs.Touched.{step_count}
use Rattle.touch_rules.specs.Told.{Told, places_told}
use Rattle.touch_rules.specs.TouchCalls.{telling, told_as, none_told, touches_attention, touches_power_up, touches_step, touches_sweep}
use Rattle.touch_rules.specs.Touches.{told_by_attention, told_by_power, told_by_step, told_by_sweep}

-- ---- the number, the channel and the kind are the call's own, 17 included

front : (number channel kind count other : ℕ) → answer_from number channel kind count % 4096 ≡ answer_from number channel kind other % 4096
unfolding answer_from
front number channel kind count other = omega arith

pub attention-answers : (b : List ℕ) (m : Buffers) (channel : ℕ) (room : List ℕ) → (touches_attention b m channel room).answer % 4096 ≡ (attention_served b m channel).answer % 4096
unfolding touches_attention told_as attention_served
attention-answers b m channel room = go (is_state b)
  where
    number : ℕ
    number = (attention_of (state_in b) m channel).number

    go : (x : Bool) → (pick x (told_as number 0 0 (told_by_attention (state_in b) m channel) room) (none_told room)).answer % 4096
        ≡ (pick x (served (answer_from number 0 0 (attention_count (state_in b) m channel)) (bytes_of (attention_of (state_in b) m channel).state) (attention_of (state_in b) m channel).memory) (no_state b m)).answer % 4096
    go true = front number 0 0 (length (told_by_attention (state_in b) m channel)) (attention_count (state_in b) m channel)
    go false = refl

pub power-answers : (b : List ℕ) (m : Buffers) (room : List ℕ) → (touches_power_up b m room).answer % 4096 ≡ (power_served b m).answer % 4096
unfolding touches_power_up told_as power_served
power-answers b m room = go (eqb (length b) state_length)
  where
    o : Outcome
    o = power_up_of reset_state m

    go : (x : Bool) → (pick x (told_as o.number 0 0 (told_by_power m) room) (none_told room)).answer % 4096
        ≡ (pick x (served (answer_from o.number 0 0 (power_count m)) (pick (eqb o.number 0) (bytes_of o.state) b) o.memory) (no_state b m)).answer % 4096
    go true = front o.number 0 0 (length (told_by_power m)) (power_count m)
    go false = refl

pub step-answers : (b : List ℕ) (m : Buffers) (lines : ℕ) (room : List ℕ) → (touches_step b m lines room).answer % 4096 ≡ (step_served b m lines).answer % 4096
unfolding touches_step told_as step_served
step-answers b m lines room = go (is_state b)
  where
    o : Step
    o = step_of (state_in b) m lines

    go : (x : Bool) → (pick x (told_as o.number o.channel (kind_number o.kind) (told_by_step (state_in b) m lines) room) (none_told room)).answer % 4096
        ≡ (pick x (served (answer_from o.number o.channel (kind_number o.kind) (step_count (state_in b) m lines)) (bytes_of o.state) o.memory) (no_state b m)).answer % 4096
    go true = front o.number o.channel (kind_number o.kind) (length (told_by_step (state_in b) m lines)) (step_count (state_in b) m lines)
    go false = refl

-- of a sweep the number alone
pub sweep-answers : (b : List ℕ) (m : Buffers) (channel lines : ℕ) (room : List ℕ) → (touches_sweep b m channel lines room).answer % 4096 ≡ (sweep_served b m channel lines).answer % 256
unfolding touches_sweep told_as sweep_served answer_from sweep_answer_from
sweep-answers b m channel lines room = go (is_state b)
  where
    o : Sweep
    o = sweep_of (state_in b) m channel lines

    go : (x : Bool) → (pick x (told_as o.number 0 0 (told_by_sweep (state_in b) m channel lines) room) (none_told room)).answer % 4096
        ≡ (pick x (served (sweep_answer_from o.number o.steps o.count) (bytes_of o.state) o.memory) (no_state b m)).answer % 256
    go true = omega arith
    go false = refl

-- ---- what is told, and how many

-- of a state the places of its call are told, and counted
pub telling-told : (number channel kind : ℕ) (ts : List Told) (room : List ℕ)
    → ((told_as number channel kind ts room).places ≡ places_told room ts) × ((told_as number channel kind ts room).answer / 4096 ≡ length ts % 16)
unfolding told_as answer_from
telling-told number channel kind ts room = (refl, omega arith)

pub attention-telling : (b : List ℕ) (m : Buffers) (channel : ℕ) (room : List ℕ) → is_state b ≡ true
    → touches_attention b m channel room ≡ told_as (attention_of (state_in b) m channel).number 0 0 (told_by_attention (state_in b) m channel) room
unfolding touches_attention
attention-telling b m channel room e = rw e

pub power-telling : (b : List ℕ) (m : Buffers) (room : List ℕ) → length b ≡ state_length → touches_power_up b m room ≡ told_as (power_up_of reset_state m).number 0 0 (told_by_power m) room
unfolding touches_power_up
power-telling b m room e = rw (eq-eqb (length b) state_length e)

pub step-telling : (b : List ℕ) (m : Buffers) (lines : ℕ) (room : List ℕ) → is_state b ≡ true
    → let o = step_of (state_in b) m lines in
    touches_step b m lines room ≡ told_as o.number o.channel (kind_number o.kind) (told_by_step (state_in b) m lines) room
unfolding touches_step
step-telling b m lines room e = rw e

pub sweep-telling : (b : List ℕ) (m : Buffers) (channel lines : ℕ) (room : List ℕ) → is_state b ≡ true
    → touches_sweep b m channel lines room ≡ told_as (sweep_of (state_in b) m channel lines).number 0 0 (told_by_sweep (state_in b) m channel lines) room
unfolding touches_sweep
sweep-telling b m channel lines room e = rw e

-- bytes that are none are told nothing into any room
pub telling-17 : (b : List ℕ) (m : Buffers) (n lines : ℕ) (room : List ℕ) → is_state b ≡ false
    → (touches_attention b m n room ≡ telling 17 room) × (touches_step b m lines room ≡ telling 17 room) × (touches_sweep b m n lines room ≡ telling 17 room)
unfolding touches_attention touches_step touches_sweep
telling-17 b m n lines room e = (rw e, rw e, rw e)

pub power-17 : (b : List ℕ) (m : Buffers) (room : List ℕ) → ¬ (length b ≡ state_length) → touches_power_up b m room ≡ telling 17 room
unfolding touches_power_up
power-17 b m room ne = rw (ne_eqb (length b) state_length ne)
