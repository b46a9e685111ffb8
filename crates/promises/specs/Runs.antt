-- How a run of the panel ends: which number, after how many steps, and with which memories.
use Rattle.std.specs.Prelude.{List, [], ◌∷◌, ◌⊎◌, ◌≡◌, ℕ, suc, ◌<◌, ◌≤◌}
use Rattle.ground_rules.specs.Buffers.{Buffers}
use Rattle.ground_rules.specs.declared.State.{State}
use Rattle.ground_rules.specs.Conditions.{Check, check, Given, TooLong}
use Rattle.ground_rules.specs.Outcomes.{Outcome}
use Rattle.ground_rules.specs.States.{fresh_state}
use Rattle.attention_rules.specs.Attention.{attention_of}
use Rattle.attention_rules.specs.Conditions.{NoChannel}
use Rattle.turn_rules.specs.Conditions.{LinesOver}
use Rattle.turn_rules.specs.Step.{step_of}
use Rattle.run_rules.specs.Run.{Run, ran}

-- 12, of the limit
abbrev pub LimitOver : ℕ → Type 0
LimitOver limit = 65536 ≤ limit

-- 10, of CP
abbrev pub CpPast : ℕ → Type 0
CpPast cp = 1048576 ≤ cp

-- 12 and 11 are tested before anything else, then CP (§8.2)
abbrev pub start_checks : Buffers → ℕ → ℕ → ℕ → ℕ → List Check
start_checks m cp channel lines limit =
    check 12 (NoChannel channel ⊎ (LinesOver lines ⊎ LimitOver limit))
    ∷ check 11 (TooLong m)
    ∷ check 10 (CpPast cp)
    ∷ []

-- the attention that a run gives
abbrev pub first_attention : Buffers → ℕ → ℕ → Outcome
first_attention m cp channel = attention_of (fresh_state cp) m channel

-- k done steps in a row with the same lines lead from the state s₀ and the memories m₀ to those named last; each begins where the one before ended
pub data DoneSteps (lines : ℕ) (s₀ : State) (m₀ : Buffers) : ℕ → State → Buffers → Type 0 where
  none : DoneSteps lines s₀ m₀ 0 s₀ m₀
  more : {k : ℕ} {s : State} {m : Buffers} → DoneSteps lines s₀ m₀ k s m → (step_of s m lines).number ≡ 0
      → DoneSteps lines s₀ m₀ (suc k) (step_of s m lines).state (step_of s m lines).memory

-- steps follow until one is refused or the limit is reached; those done keep their effect (§8.3)
pub data StepsEnd (lines limit : ℕ) (s₀ : State) (m₀ : Buffers) : Run → Type 0 where
  -- k steps are done and the next is refused: its number, k steps, and memories as those k left them
  refused : {k : ℕ} {s : State} {m : Buffers} → DoneSteps lines s₀ m₀ k s m → k < limit → ¬ ((step_of s m lines).number ≡ 0)
      → StepsEnd lines limit s₀ m₀ (ran (step_of s m lines).number k m)
  -- as many steps are done as the limit says: 0
  limited : {s : State} {m : Buffers} → DoneSteps lines s₀ m₀ limit s m → StepsEnd lines limit s₀ m₀ (ran 0 limit m)

-- how a run ends
pub data RunEnds (m : Buffers) (cp channel lines limit : ℕ) : Run → Type 0 where
  -- by 12, 11 or 10: no step, and no byte changed
  not_started : {n : ℕ} → Given (start_checks m cp channel lines limit) n → ¬ (n ≡ 0) → RunEnds m cp channel lines limit (ran n 0 m)
  -- by the attention's own number: no step, and no byte changed
  not_accepted : Given (start_checks m cp channel lines limit) 0 → ¬ ((first_attention m cp channel).number ≡ 0)
      → RunEnds m cp channel lines limit (ran (first_attention m cp channel).number 0 m)
  -- where it is accepted, by its steps, from what the attention left
  after : {r : Run} → Given (start_checks m cp channel lines limit) 0 → (first_attention m cp channel).number ≡ 0
      → StepsEnd lines limit (first_attention m cp channel).state (first_attention m cp channel).memory r → RunEnds m cp channel lines limit r
