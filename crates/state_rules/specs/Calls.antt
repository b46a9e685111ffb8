-- The calls for C: each takes a state's bytes and leaves them, with both memories and an answer of one number (§11.2).
use Rattle.std.specs.Prelude.{List, ℕ, ◌+◌, ◌*◌, ◌%◌, eqb, length}
use Rattle.ground_rules.specs.Choice.{pick}
use Rattle.ground_rules.specs.Buffers.{Buffers}
use Rattle.ground_rules.specs.Outcomes.{Outcome}
use Rattle.ground_rules.specs.States.{reset_state, fresh_of}
use Rattle.attention_rules.specs.Attention.{attention_of, attention_count}
use Rattle.attention_rules.specs.Power.{power_up_of, power_count}
use Rattle.turn_rules.specs.declared.Kind.{Kind}
use Rattle.turn_rules.specs.declared.Kind.TheVariants.{Nothing, Instruction, Transfer, External}
use Rattle.turn_rules.specs.Step.{Step, step_of}
use Rattle.turn_rules.specs.Touched.{step_count}
use Rattle.sweep_rules.specs.Sweep.{Sweep, sweep_of}
use Rattle.state_rules.specs.Layout.{bytes_of, state_in, is_state, state_length}

-- what a call leaves: its answer, the state's bytes, and both memories
pub record Service : Type 0 where
  pub answer : ℕ
  pub bytes : List ℕ
  pub memory : Buffers

-- such an outcome
abbrev pub served : ℕ → List ℕ → Buffers → Service
served answer bytes m = record { answer = answer; bytes = bytes; memory = m }

-- the number of a step's kind (§5.5, §11.2)
unfoldable pub kind_number : Kind → ℕ
kind_number Nothing = 0
kind_number Instruction = 1
kind_number Transfer = 2
kind_number External = 3

-- an answer: the number in bits 0 to 7, the channel in 8 and 9, the kind in 10 and 11, the bytes read and stored in 12 to 15 (§11.2)
unfoldable pub answer_from : ℕ → ℕ → ℕ → ℕ → ℕ
answer_from number channel kind count = number % 256 + channel % 4 * 256 + kind % 4 * 1024 + count % 16 * 4096

-- bytes that are no state: 17, and nothing changes (§11.2)
abbrev pub no_state : List ℕ → Buffers → Service
no_state b m = served 17 b m

-- what a fresh state leaves: no memory is lent to it
pub record MadeBytes : Type 0 where
  pub answer : ℕ
  pub bytes : List ℕ

-- such an outcome
abbrev pub made : ℕ → List ℕ → MadeBytes
made answer bytes = record { answer = answer; bytes = bytes }

-- a fresh state looks at the length alone (§11.2)
unfoldable pub fresh_made : List ℕ → ℕ → MadeBytes
fresh_made b cp =
    pick (eqb (length b) state_length) (made (answer_from (fresh_of cp).number 0 0 0) (bytes_of (fresh_of cp).state)) (made 17 b)

-- so does reset, which is refused by nothing else (§11.2)
unfoldable pub reset_made : List ℕ → MadeBytes
reset_made b = pick (eqb (length b) state_length) (made (answer_from 0 0 0 0) (bytes_of reset_state)) (made 17 b)

-- a call that leaves this of the state that the bytes stand for, and counts so many bytes
abbrev pub outcome_served : Outcome → ℕ → List ℕ → Buffers → Service
outcome_served o count b m =
    pick (is_state b) (served (answer_from o.number 0 0 count) (bytes_of o.state) o.memory) (no_state b m)

-- a power-up looks at the length alone too: whatever the bytes were, done it leaves the state found, and refused it leaves them (§11.2)
unfoldable pub power_served : List ℕ → Buffers → Service
power_served b m =
    let o = power_up_of reset_state m in
    pick (eqb (length b) state_length)
    (served (answer_from o.number 0 0 (power_count m)) (pick (eqb o.number 0) (bytes_of o.state) b) o.memory) (no_state b m)

-- an attention on it (§11.2)
unfoldable pub attention_served : List ℕ → Buffers → ℕ → Service
attention_served b m channel = outcome_served (attention_of (state_in b) m channel) (attention_count (state_in b) m channel) b m

-- what a step leaves, told with its count
abbrev pub step_left : Step → ℕ → Service
step_left o count = served (answer_from o.number o.channel (kind_number o.kind) count) (bytes_of o.state) o.memory

-- a step of it (§11.2)
unfoldable pub step_served : List ℕ → Buffers → ℕ → Service
step_served b m lines =
    pick (is_state b) (step_left (step_of (state_in b) m lines) (step_count (state_in b) m lines)) (no_state b m)

-- the answer of a sweep, in 64 bits: the number in bits 0 to 7, the steps that it stands for in 8 to 31, the bytes read and stored above (§7.15)
unfoldable pub sweep_answer_from : ℕ → ℕ → ℕ → ℕ
sweep_answer_from number steps count = number % 256 + steps % 16777216 * 256 + count * 4294967296

-- what a sweep leaves
abbrev pub sweep_left : Sweep → Service
sweep_left o = served (sweep_answer_from o.number o.steps o.count) (bytes_of o.state) o.memory

-- a sweep of it (§7.15)
unfoldable pub sweep_served : List ℕ → Buffers → ℕ → ℕ → Service
sweep_served b m channel lines = pick (is_state b) (sweep_left (sweep_of (state_in b) m channel lines)) (no_state b m)
