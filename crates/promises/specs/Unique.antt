-- The equations of the public calls' contracts, and that only one outcome meets each; the contracts themselves are held to it in the calls' own crates.
use Rattle.std.specs.Prelude.{List, ◌≡◌, ℕ, Result}
use Rattle.ground_rules.specs.Buffers.{Buffers, buffers}
use Rattle.ground_rules.specs.Refusals.{outcome_by, answer_count}
use Rattle.ground_rules.specs.States.{reset_state, fresh_of}
use Rattle.ground_rules.specs.declared.Answer.{Answer}
use Rattle.ground_rules.specs.declared.Made.{Made}
use Rattle.ground_rules.specs.declared.Refusal.{Refusal}
use Rattle.ground_rules.specs.declared.State.{State}
use Rattle.attention_rules.specs.Attention.{attention_of, attention_count}
use Rattle.attention_rules.specs.Power.{power_up_of, power_count}
use Rattle.turn_rules.specs.Choosing.{choice_of}
use Rattle.turn_rules.specs.Step.{step_of, stepped_by, stepped_count}
use Rattle.turn_rules.specs.Touched.{step_count}
use Rattle.turn_rules.specs.declared.Choice.{Choice}
use Rattle.turn_rules.specs.declared.Stepped.{Stepped}
use Rattle.run_rules.specs.Run.{ran, run_of, answer_of, called, stop_number}
use Rattle.run_rules.specs.declared.Ran.{Ran}
use Rattle.run_rules.specs.Board.{board_run_of}

-- `machine::states::fresh`: the answer r to a CP
abbrev pub FreshMeets : ℕ → Made → Type 0
FreshMeets cp r = r ≡ fresh_of cp

-- `machine::states::reset`: the state r
abbrev pub ResetMeets : State → Type 0
ResetMeets r = r ≡ reset_state

-- `power::power_up`: the answer r, and both buffers as they are left, of a state that it is called on; its contract is of each
abbrev pub PowerMeets : State → Buffers → Result Answer Refusal → List ℕ → List ℕ → Type 0
PowerMeets s m r sys io = (outcome_by s r (buffers sys io) ≡ power_up_of s m) × (answer_count r ≡ power_count m)

-- `attention::attention`: the answer r, and both buffers as they are left
abbrev pub AttentionMeets : State → Buffers → ℕ → Result Answer Refusal → List ℕ → List ℕ → Type 0
AttentionMeets s m channel r sys io =
    (outcome_by s r (buffers sys io) ≡ attention_of s m channel) × (answer_count r ≡ attention_count s m channel)

-- `step::choose`: who steps
abbrev pub ChooseMeets : State → ℕ → Choice → Type 0
ChooseMeets s lines r = r ≡ choice_of s lines

-- `step::step`: the answer r, and both buffers as they are left
abbrev pub StepMeets : State → Buffers → ℕ → Result Stepped Refusal → List ℕ → List ℕ → Type 0
StepMeets s m lines r sys io =
    (stepped_by s r (buffers sys io) ≡ step_of s m lines) × (stepped_count r ≡ step_count s m lines)

-- `panel::run`: the answer r, and both buffers as they are left
abbrev pub RunMeets : Buffers → ℕ → ℕ → ℕ → ℕ → Ran → List ℕ → List ℕ → Type 0
RunMeets m cp channel lines limit r sys io = ran (stop_number r.stopped) r.steps (buffers sys io) ≡ run_of m cp channel lines limit

-- `iop89_run`, the call from C: the answer r, and both buffers as they are left
abbrev pub CallMeets : Buffers → ℕ → ℕ → ℕ → ℕ → ℕ → List ℕ → List ℕ → Type 0
CallMeets m cp channel lines limit r sys io =
    called r (buffers sys io) ≡ called (answer_of (run_of m cp channel lines limit)) (run_of m cp channel lines limit).memory

-- `panel::boards::board_run` and `iop89_board`: the same of a run that reset and power-up begin
abbrev pub BoardMeets : Buffers → ℕ → ℕ → ℕ → Ran → List ℕ → List ℕ → Type 0
BoardMeets m channel lines limit r sys io = ran (stop_number r.stopped) r.steps (buffers sys io) ≡ board_run_of m channel lines limit

abbrev pub BoardCallMeets : Buffers → ℕ → ℕ → ℕ → ℕ → List ℕ → List ℕ → Type 0
BoardCallMeets m channel lines limit r sys io =
    called r (buffers sys io) ≡ called (answer_of (board_run_of m channel lines limit)) (board_run_of m channel lines limit).memory

-- the answers and both buffers of two outcomes are the same
pub record Same {A : Type 0} (r r' : A) (sys sys' io io' : List ℕ) : Type 0 where
  pub answer : r ≡ r'
  pub system : sys ≡ sys'
  pub input_output : io ≡ io'

-- number, count, state and both memories are determined for all inputs, refused ones too: two outcomes that meet an equation are the same
pub record OneOutcome : Type 0 where
  pub fresh : (cp : ℕ) (r r' : Made) → FreshMeets cp r → FreshMeets cp r' → r ≡ r'
  pub reset : (r r' : State) → ResetMeets r → ResetMeets r' → r ≡ r'
  pub power : (s : State) (m : Buffers) (r r' : Result Answer Refusal) (sys sys' io io' : List ℕ)
      → PowerMeets s m r sys io → PowerMeets s m r' sys' io' → Same r r' sys sys' io io'
  pub attention : (s : State) (m : Buffers) (channel : ℕ) (r r' : Result Answer Refusal) (sys sys' io io' : List ℕ)
      → AttentionMeets s m channel r sys io → AttentionMeets s m channel r' sys' io' → Same r r' sys sys' io io'
  pub choose : (s : State) (lines : ℕ) (r r' : Choice) → ChooseMeets s lines r → ChooseMeets s lines r' → r ≡ r'
  pub step : (s : State) (m : Buffers) (lines : ℕ) (r r' : Result Stepped Refusal) (sys sys' io io' : List ℕ)
      → StepMeets s m lines r sys io → StepMeets s m lines r' sys' io' → Same r r' sys sys' io io'
  pub run : (m : Buffers) (cp channel lines limit : ℕ) (r r' : Ran) (sys sys' io io' : List ℕ)
      → RunMeets m cp channel lines limit r sys io → RunMeets m cp channel lines limit r' sys' io' → Same r r' sys sys' io io'
  pub call : (m : Buffers) (cp channel lines limit : ℕ) (r r' : ℕ) (sys sys' io io' : List ℕ)
      → CallMeets m cp channel lines limit r sys io → CallMeets m cp channel lines limit r' sys' io' → Same r r' sys sys' io io'
  pub board : (m : Buffers) (channel lines limit : ℕ) (r r' : Ran) (sys sys' io io' : List ℕ)
      → BoardMeets m channel lines limit r sys io → BoardMeets m channel lines limit r' sys' io' → Same r r' sys sys' io io'
  pub board_call : (m : Buffers) (channel lines limit : ℕ) (r r' : ℕ) (sys sys' io io' : List ℕ)
      → BoardCallMeets m channel lines limit r sys io → BoardCallMeets m channel lines limit r' sys' io' → Same r r' sys sys' io io'
