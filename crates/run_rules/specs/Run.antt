-- The panel's run: a fresh state, one attention, and steps until a number other than 0 or the limit (§8).
use Rattle.ground_rules.specs.Refusals.{number_of}
use Rattle.ground_rules.specs.declared.Refusal.{Refusal}
use Rattle.std.specs.Prelude.{Bool, true, false, ◌&&◌, ℕ, zero, suc, ◌+◌, ◌*◌, ◌%◌, eqb, ltb, Option, Some, None}
use Rattle.ground_rules.specs.Choice.{pick}
use Rattle.ground_rules.specs.Buffers.{Buffers, within_limits}
use Rattle.ground_rules.specs.declared.State.{State}
use Rattle.ground_rules.specs.declared.Made.{Made}
use Rattle.ground_rules.specs.Outcomes.{Outcome, first, unless}
use Rattle.ground_rules.specs.States.{is_channel, fresh_of}
use Rattle.attention_rules.specs.Attention.{attention_of}
use Rattle.turn_rules.specs.Step.{Step, step_of}

-- what a run leaves: the number that stopped it, the steps done, and both memories
pub record Run : Type 0 where
  pub number : ℕ
  pub steps : ℕ
  pub memory : Buffers

abbrev pub ran : ℕ → ℕ → Buffers → Run
ran number steps m = record { number = number; steps = steps; memory = m }

-- steps, one after another, until one is refused or the limit is reached; what was done stays (§8.2, §8.3): `left` may still be done, `done` were
unfoldable pub steps_from : ℕ → State → Buffers → ℕ → ℕ → Run
steps_from zero s m lines done = ran 0 done m
steps_from (suc left) s m lines done =
    let o = step_of s m lines in
    let rest = steps_from left o.state o.memory lines (done + 1) in
    pick (eqb o.number 0) rest (ran o.number done o.memory)

-- an attention that is accepted is followed by steps, a refused one by none (§8.2)
unfoldable pub attended_run : Outcome → ℕ → ℕ → Run
attended_run o lines limit = pick (eqb o.number 0) (steps_from limit o.state o.memory lines 0) (ran o.number 0 o.memory)

-- a fresh state gets one attention; a CP that is refused by 10 none (§8.2)
unfoldable pub started_run : Made → Buffers → ℕ → ℕ → ℕ → Run
started_run fresh m channel lines limit =
    pick (eqb fresh.number 0) (attended_run (attention_of fresh.state m channel) lines limit) (ran fresh.number 0 m)

-- what is asked before all else: 12, then 11 (§8.2)
unfoldable pub call_number : Buffers → ℕ → ℕ → ℕ → ℕ
call_number m channel lines limit =
    first (unless (is_channel channel && ltb lines 16 && ltb limit 65536) 12) (unless (within_limits m) 11)

-- the whole run (§8.2)
unfoldable pub run_of : Buffers → ℕ → ℕ → ℕ → ℕ → Run
run_of m cp channel lines limit =
    pick (eqb (call_number m channel lines limit) 0) (started_run (fresh_of cp) m channel lines limit) (ran (call_number m channel lines limit) 0 m)

-- the number in the high sixteen bits, the steps done in the low (§8.4)
unfoldable pub answer_of : Run → ℕ
answer_of r = r.number % 65536 * 65536 + r.steps % 65536

-- the answer and both memories, as a caller gets them
pub record Call : Type 0 where
  pub answer : ℕ
  pub memory : Buffers

abbrev pub called : ℕ → Buffers → Call
called answer m = record { answer = answer; memory = m }

-- the number of the refusal that stopped a run or steps in a row, 0 where none did
abbrev pub stop_number : Option Refusal → ℕ
stop_number None = 0
stop_number (Some refusal) = number_of refusal
