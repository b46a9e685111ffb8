-- Demand 1: every call ends with an answer, each number is given exactly under its own condition, and a refused call changes nothing.
-- That every call has an answer for whatever it is given, and that nobody has to look at the arguments first, is how the calls are said: each
-- call is a function of what it is given, so it has an answer for every state, every memory and every number, and no field below asks anything of them.
use Rattle.std.specs.Prelude.{Bool, true, false, [], ◌∷◌, ◌↔◌, ◌≡◌, ℕ, ◌+◌, ◌*◌, ◌/◌, ◌%◌, ◌<◌, ◌≤◌, None}
use Rattle.ground_rules.specs.Buffers.{Buffers}
use Rattle.ground_rules.specs.Values.{pointer}
use Rattle.ground_rules.specs.Cc.{split}
use Rattle.ground_rules.specs.declared.Channel.{Channel}
use Rattle.ground_rules.specs.declared.Mode.TheVariants.{Idle}
use Rattle.ground_rules.specs.declared.State.{State}
use Rattle.ground_rules.specs.Conditions.{check, Given}
use Rattle.ground_rules.specs.States.{board_with, fresh_of, channel_of}
use Rattle.attention_rules.specs.Attention.{attention_of}
use Rattle.attention_rules.specs.Conditions.{attention_checks as attention_checks}
use Rattle.turn_rules.specs.Conditions.{step_checks as step_checks}
use Rattle.turn_rules.specs.Step.{step_of}
use Rattle.turn_rules.specs.declared.Kind.TheVariants.{Nothing}
use Rattle.run_rules.specs.Run.{Run, run_of, answer_of}
use Rattle.promises.specs.Runs.{CpPast, RunEnds}

-- a channel of a fresh state: every register 0, idle, unmarked (§2.8)
pub record Blank (c : Channel) : Type 0 where
  pub ga : c.ga ≡ pointer 0 false
  pub gb : c.gb ≡ pointer 0 false
  pub gc : c.gc ≡ pointer 0 false
  pub tp : c.tp ≡ pointer 0 false
  pub pp : c.pp ≡ 0
  pub bc : c.bc ≡ 0
  pub ix : c.ix ≡ 0
  pub cc : c.cc ≡ 0
  pub mc : c.mc ≡ 0
  pub psw : c.psw ≡ 0
  pub mode : c.mode ≡ Idle
  pub armed : c.armed ≡ false
  -- the fields are those of CC 0
  pub fields : c.fields ≡ split 0
  -- nothing is held
  pub held : c.held ≡ None

-- a fresh state of any CP
pub record FreshAnswers (cp : ℕ) : Type 0 where
  -- 10 exactly where CP is 1,048,576 or more, otherwise 0
  pub numbers : (n : ℕ) → ((fresh_of cp).number ≡ n) ↔ Given (check 10 (CpPast cp) ∷ []) n
  -- it has the CP that it was given, blank channels, and channel 2 as the last to step (§2.8)
  pub takes_cp : cp < 1048576 → (fresh_of cp).state.cp ≡ cp
  pub channels : (second : Bool) → Blank (channel_of (fresh_of cp).state second)
  pub last : (fresh_of cp).state.last ≡ true
  -- it counts as powered up, and the three bits of the board are 0
  pub board : (fresh_of cp).state.board ≡ board_with true false false false
  -- with a bad CP the state is that of CP 0
  pub bad_cp : CpPast cp → (fresh_of cp).state.cp ≡ 0

-- an attention with any channel number, in any state and memories
pub record AttentionAnswers (s : State) (m : Buffers) (channel : ℕ) : Type 0 where
  -- each number under its own condition (§3.2): n is given exactly where n's check applies and no earlier one does; 0 where none does
  pub numbers : (n : ℕ) → ((attention_of s m channel).number ≡ n) ↔ Given (attention_checks s m channel) n
  -- a refused call leaves the given state (§3.3)
  pub same_state : ¬ ((attention_of s m channel).number ≡ 0) → (attention_of s m channel).state ≡ s
  -- and every byte of both memories
  pub same_memory : ¬ ((attention_of s m channel).number ≡ 0) → (attention_of s m channel).memory ≡ m
  -- no number is over 14
  pub bound : (attention_of s m channel).number ≤ 14

-- a step with any lines, of any state and memories
pub record StepAnswers (s : State) (m : Buffers) (lines : ℕ) : Type 0 where
  -- each number under its own condition (§3.2): n is given exactly where n's check applies and no earlier one does; 0 where none does
  pub numbers : (n : ℕ) → ((step_of s m lines).number ≡ n) ↔ Given (step_checks s m lines) n
  -- a refused call leaves the given state (§3.3)
  pub same_state : ¬ ((step_of s m lines).number ≡ 0) → (step_of s m lines).state ≡ s
  -- and every byte of both memories
  pub same_memory : ¬ ((step_of s m lines).number ≡ 0) → (step_of s m lines).memory ≡ m
  -- it is of no channel and of no kind
  pub no_channel : ¬ ((step_of s m lines).number ≡ 0) → (step_of s m lines).channel ≡ 0
  pub no_kind : ¬ ((step_of s m lines).number ≡ 0) → (step_of s m lines).kind ≡ Nothing
  -- no number is over 14
  pub bound : (step_of s m lines).number ≤ 14

-- a run with any CP, channel, lines and limit, in any memories
pub record RunAnswers (m : Buffers) (cp channel lines limit : ℕ) : Type 0 where
  -- a run is r, its number, steps and memories, exactly where it ends so
  pub ends : (r : Run) → (run_of m cp channel lines limit ≡ r) ↔ RunEnds m cp channel lines limit r
  -- no number is over 12, so none is 13 or 14: a state from a CP counts as powered up, and its fields stay those of CC; and no more steps are done than the limit, nor more than 65,535
  pub bound : (run_of m cp channel lines limit).number ≤ 12
  pub steps_bound : (run_of m cp channel lines limit).steps ≤ limit
  pub steps_small : (run_of m cp channel lines limit).steps < 65536
  -- the answer holds number and steps in sixteen bits each (§8.4), so that both can be taken back out of it
  pub answer : answer_of (run_of m cp channel lines limit) ≡ (run_of m cp channel lines limit).number * 65536 + (run_of m cp channel lines limit).steps
  pub number_back : answer_of (run_of m cp channel lines limit) / 65536 ≡ (run_of m cp channel lines limit).number
  pub steps_back : answer_of (run_of m cp channel lines limit) % 65536 ≡ (run_of m cp channel lines limit).steps

-- the demand
pub record Demand1 : Type 0 where
  pub fresh : (cp : ℕ) → FreshAnswers cp
  pub attention : (s : State) (m : Buffers) (channel : ℕ) → AttentionAnswers s m channel
  pub step : (s : State) (m : Buffers) (lines : ℕ) → StepAnswers s m lines
  pub run : (m : Buffers) (cp channel lines limit : ℕ) → RunAnswers m cp channel lines limit
