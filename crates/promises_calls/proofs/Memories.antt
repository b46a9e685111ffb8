-- Every call on the bytes of a state leaves memory of bytes where it is given such, and so does a run, from a fresh state and from power-up on.
-- Assumes nothing.
use Prim.Native.Nat.{ℕ, zero, suc, ◌+◌, ◌<◌}
use lib.Dec.{eqb, ltb, lit<}
use lib.ListN.{length}
use mathlib.Core.Bool.{Bool, true, false}
use mathlib.Core.List.{List}
use Rattle.ground_rules.proofs.OutcomeLaws.{settled-state}
use Rattle.ground_rules.specs.Buffers.{Buffers, AllBytes}
use Rattle.ground_rules.specs.Choice.{pick}
use Rattle.ground_rules.specs.States.{blank_state, fresh_state, fresh_of, idle_channel, reset_state, channel_of, is_second}
use Rattle.ground_rules.specs.declared.Board.{Board}
use Rattle.ground_rules.specs.declared.Made.{Made}
use Rattle.ground_rules.specs.declared.State.{State}
use Rattle.attention_rules.specs.Attention.{attention_of}
use Rattle.attention_rules.specs.Power.{control_of, board_of, power_number, found_state, found_memory, power_up_of}
use Rattle.turn_rules.specs.Step.{step_of}
use Rattle.run_rules.specs.Board.{powered_as, powered_run, board_run_of}
use Rattle.run_rules.specs.Run.{Run, ran, steps_from, attended_run, started_run, call_number, run_of}
use Rattle.state_rules.proofs.BlockLaws.{state-held}
use Rattle.state_rules.proofs.HeldLaws.{HeldFit, attention-held, step-held}
use Rattle.state_rules.proofs.MemoryLaws.{attention-of-bytes, power-of-bytes, step-of-bytes, sweep-of-bytes}
use Rattle.state_rules.specs.Calls.{Service, no_state, power_served, attention_served, step_served, sweep_served}
use Rattle.state_rules.specs.Conditions.{Bytes}
use Rattle.state_rules.specs.Layout.{channel_in, state_in, is_state, state_length}

-- ---- calls on the bytes of a state

-- where two outcomes have memory of bytes, the one that is chosen does
either-served : (b : Bool) (x y : Service) → AllBytes x.memory → AllBytes y.memory → AllBytes (pick b x y).memory
either-served true x y p q = p
either-served false x y p q = q

-- PSW of each channel is a byte
state-psw : (b : List ℕ) → Bytes b → (second : Bool) → (channel_of (state_in b) second).psw < 256
unfolding channel_of state_in channel_in
state-psw b byte true = byte _
state-psw b byte false = byte _

pub power-serves-bytes : (b : List ℕ) (m : Buffers) → AllBytes m → AllBytes (power_served b m).memory
unfolding power_served
power-serves-bytes b m all = either-served (eqb (length b) state_length) _ (no_state b m) (power-of-bytes reset_state m all) all

pub attention-serves-bytes : (b : List ℕ) (m : Buffers) (channel : ℕ) → Bytes b → AllBytes m → AllBytes (attention_served b m channel).memory
unfolding attention_served
attention-serves-bytes b m channel byte all =
    either-served (is_state b) _ (no_state b m) (attention-of-bytes (state_in b) m channel all (state-psw b byte (is_second channel))) all

pub step-serves-bytes : (b : List ℕ) (m : Buffers) (lines : ℕ) → AllBytes m → AllBytes (step_served b m lines).memory
unfolding step_served
step-serves-bytes b m lines all = either-served (is_state b) _ (no_state b m) (step-of-bytes (state_in b) m lines all (state-held b)) all

pub sweep-serves-bytes : (b : List ℕ) (m : Buffers) (channel lines : ℕ) → AllBytes m → AllBytes (sweep_served b m channel lines).memory
unfolding sweep_served
sweep-serves-bytes b m channel lines all = either-served (is_state b) _ (no_state b m) (sweep-of-bytes (state_in b) m channel lines all) all

-- ---- a run

-- where two runs leave memory of bytes, the one that is chosen does
either-run : (b : Bool) (x y : Run) → AllBytes x.memory → AllBytes y.memory → AllBytes (pick b x y).memory
either-run true x y p q = p
either-run false x y p q = q

-- steps in a row
steps-of-bytes : (left : ℕ) (s : State) (m : Buffers) (lines done : ℕ) → AllBytes m → HeldFit s → AllBytes (steps_from left s m lines done).memory
unfolding steps_from
steps-of-bytes zero s m lines done all h = all
steps-of-bytes (suc left) s m lines done all h =
    let o = step_of s m lines in
    let kept = step-of-bytes s m lines all h in
    either-run (eqb o.number 0) (steps_from left o.state o.memory lines (done + 1)) (ran o.number done o.memory)
    (steps-of-bytes left o.state o.memory lines (done + 1) kept (step-held s m lines all h)) kept

-- a state whose channels have a byte as PSW and hold a byte or nothing, as every run begins with
abbrev BytesFit : State → Type 0
BytesFit s = ((b : Bool) → (channel_of s b).psw < 256) × HeldFit s

-- one attention, and steps where it is accepted
attended-of-bytes : (s : State) (m : Buffers) (channel lines limit : ℕ) → AllBytes m → BytesFit s → AllBytes (attended_run (attention_of s m channel) lines limit).memory
unfolding attended_run
attended-of-bytes s m channel lines limit all h =
    let o = attention_of s m channel in
    let kept = attention-of-bytes s m channel all (h.0 (is_second channel)) in
    either-run (eqb o.number 0) (steps_from limit o.state o.memory lines 0) (ran o.number 0 o.memory)
    (steps-of-bytes limit o.state o.memory lines 0 kept (attention-held s m channel h.1)) kept

started-of-bytes : (fresh : Made) (m : Buffers) (channel lines limit : ℕ) → AllBytes m → BytesFit fresh.state → AllBytes (started_run fresh m channel lines limit).memory
unfolding started_run
started-of-bytes fresh m channel lines limit all h =
    either-run (eqb fresh.number 0) (attended_run (attention_of fresh.state m channel) lines limit) (ran fresh.number 0 m)
    (attended-of-bytes fresh.state m channel lines limit all h) all

-- ---- where a run begins

blank-begins : (cp : ℕ) (set : Board) → BytesFit (blank_state cp set)
unfolding idle_channel channel_of
blank-begins cp set = (λ b. elim b as (λ v. (channel_of (blank_state cp set) v).psw < 256) [ true ↦ lit< tt | false ↦ lit< tt ], (tt, tt))

fresh-begins : (cp : ℕ) → BytesFit (fresh_of cp).state
unfolding fresh_of fresh_state
fresh-begins cp = go (ltb cp 1048576)
  where
    go : (b : Bool) → BytesFit (pick {A = Made} b (record { number = 0; state = fresh_state cp }) (record { number = 10; state = fresh_state 0 })).state
    go true = blank-begins cp _
    go false = blank-begins 0 _

power-begins : (m : Buffers) → BytesFit (power_up_of reset_state m).state
unfolding power_up_of found_state reset_state
power-begins m = settled-state BytesFit (power_number m) reset_state m (found_state m) (found_memory m) (blank-begins 0 _) (blank-begins (control_of m) (board_of m))

-- ---- the runs

pub run-of-bytes : (m : Buffers) (cp channel lines limit : ℕ) → AllBytes m → AllBytes (run_of m cp channel lines limit).memory
unfolding run_of
run-of-bytes m cp channel lines limit all =
    let k = call_number m channel lines limit in
    either-run (eqb k 0) (started_run (fresh_of cp) m channel lines limit) (ran k 0 m) (started-of-bytes (fresh_of cp) m channel lines limit all (fresh-begins cp)) all

pub board-of-bytes : (m : Buffers) (channel lines limit : ℕ) → AllBytes m → AllBytes (board_run_of m channel lines limit).memory
unfolding board_run_of powered_run
board-of-bytes m channel lines limit all =
    let k = call_number m channel lines limit in
    let o = power_up_of reset_state m in
    either-run (eqb k 0) (powered_run o channel lines limit) (ran k 0 m)
    (started-of-bytes (powered_as o) o.memory channel lines limit (power-of-bytes reset_state m all) (power-begins m)) all
