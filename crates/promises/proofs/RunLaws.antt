-- How a run ends: the steps that are done go before the rest, and 12, 11 and 10 come before the attention.
-- Assumes nothing.
use Prim.Native.Nat.{ℕ, zero, suc, ◌+◌, ◌-◌, ◌<◌, ◌≤◌}
use borrow.Author.Tests.{lt-ltb, le-ltb}
use lib.Dec.{ltb}
use mathlib.Core.Bool.{and_assoc, ◌&&◌}
use mathlib.Core.Logic.{◌⊎◌, ◌↔◌}
use mathlib.Core.Path.{◌≡◌, refl, sym, subst, ap, ◌∙◌}
use native.Mathlib.Decide.{ℕ_discrete, dec_lt}
use native.Mathlib.Numerals.{add-one}
use native.Mathlib.Omega.{arith}
use Rattle.attention_rules.proofs.ConditionLaws.{told-channel}
use Rattle.attention_rules.specs.Conditions.{NoChannel}
use Rattle.ground_rules.proofs.ConditionLaws.{Told, step, last, first-assoc, first-none-left, first-none-right, told-ltb, told_and, told-limits}
use Rattle.ground_rules.proofs.OutcomeLaws.{first-none, first_some}
use Rattle.ground_rules.specs.Conditions.{Given}
use Rattle.ground_rules.specs.Outcomes.{unless, first}
use Rattle.ground_rules.specs.States.{fresh_state, fresh_of, is_channel}
use Rattle.ground_rules.specs.declared.Made.{Made}
use Rattle.ground_rules.specs.declared.State.{State}
use Rattle.ground_rules.specs.Buffers.{Buffers}
use Rattle.run_rules.proofs.Outcomes.{refused-call, refused-cp, refused-attention, accepted-attention}
use Rattle.run_rules.proofs.RunLaws.{stops, goes, limits}
use Rattle.run_rules.specs.Run.{Run, ran, steps_from, call_number, run_of}
use Rattle.turn_rules.proofs.OutcomeLaws.{refused}
use Rattle.turn_rules.specs.Conditions.{LinesOver}
use Rattle.turn_rules.specs.Step.{Step, step_of}
use Rattle.promises.specs.Runs.{LimitOver, CpPast, start_checks, first_attention, DoneSteps, StepsEnd, RunEnds, none, more, limited, not_started, not_accepted, after}

-- ---- the steps

-- after k done steps a run goes on as one from there
pub goes_on : {lines : ℕ} {s₀ : State} {m₀ : Buffers} {k : ℕ} {s : State} {m : Buffers} → DoneSteps lines s₀ m₀ k s m
    → (left done : ℕ) → steps_from (k + left) s₀ m₀ lines done ≡ steps_from left s m lines (done + k)
goes_on {lines} {s₀} {m₀} none left done =
    let all : 0 + left ≡ left = omega arith in
    let count : done ≡ done + 0 = omega arith in
    ap (λ (n : ℕ). steps_from n s₀ m₀ lines done) all ∙ ap (λ (n : ℕ). steps_from left s₀ m₀ lines n) count
goes_on {lines} {s₀} {m₀} (more {k} {s} {m} row e) left done =
    let o = step_of s m lines in
    let before : suc k + left ≡ k + suc left = omega arith in
    let rest : suc left - 1 ≡ left = omega arith in
    let count : done + k + 1 ≡ done + suc k = omega arith in
    ap (λ (n : ℕ). steps_from n s₀ m₀ lines done) before
    ∙ goes_on row (suc left) done
    ∙ goes (suc left) s m lines (done + k) (omega arith) e
    ∙ ap (λ (n : ℕ). steps_from n o.state o.memory lines (done + k + 1)) rest
    ∙ ap (λ (n : ℕ). steps_from left o.state o.memory lines n) count

-- a refused step leaves the memories
same_memory : (s : State) (m : Buffers) (lines : ℕ) → ¬ ((step_of s m lines).number ≡ 0) → (step_of s m lines).memory ≡ m
same_memory s m lines ne = ap (λ (o : Step). o.memory) (refused s m lines ne)

module _ (lines limit : ℕ) (s₀ : State) (m₀ : Buffers) where
  -- steps that end so are the run's
  steps-only : {r : Run} → StepsEnd lines limit s₀ m₀ r → steps_from limit s₀ m₀ lines 0 ≡ r
  steps-only (StepsEnd.refused {k} {s} {m} row h ne) =
      let split : limit ≡ k + (limit - k) = omega arith in
      let count : 0 + k ≡ k = omega arith in
      ap (λ (n : ℕ). steps_from n s₀ m₀ lines 0) split
      ∙ goes_on row (limit - k) 0
      ∙ stops (limit - k) s m lines (0 + k) (omega arith) ne
      ∙ ap (λ (n : ℕ). ran (step_of s m lines).number n (step_of s m lines).memory) count
      ∙ ap (ran (step_of s m lines).number k) (same_memory s m lines ne)
  steps-only (limited {s} {m} row) =
      let split : limit ≡ limit + 0 = omega arith in
      let count : 0 + limit ≡ limit = omega arith in
      ap (λ (n : ℕ). steps_from n s₀ m₀ lines 0) split
      ∙ goes_on row 0 0
      ∙ limits 0 s m lines (0 + limit) refl
      ∙ ap (λ (n : ℕ). ran 0 n m) count

  -- one step more, done or refused
  one_more : (left : ℕ) {k : ℕ} {s : State} {m : Buffers} → DoneSteps lines s₀ m₀ k s m → k + suc left ≡ limit → Dec ((step_of s m lines).number ≡ 0)
      → ((step_of s m lines).number ≡ 0 → StepsEnd lines limit s₀ m₀ (steps_from left (step_of s m lines).state (step_of s m lines).memory lines (suc k)))
      → StepsEnd lines limit s₀ m₀ (steps_from (suc left) s m lines k)
  one_more left {k} {s} {m} row e (yes z) next =
      let o = step_of s m lines in
      let rest : left ≡ suc left - 1 = omega arith in
      subst (StepsEnd lines limit s₀ m₀)
      (ap (λ (n : ℕ). steps_from left o.state o.memory lines n) (sym (add-one k))
      ∙ ap (λ (n : ℕ). steps_from n o.state o.memory lines (k + 1)) rest
      ∙ sym (goes (suc left) s m lines k (omega arith) z))
      (next z)
  one_more left {k} {s} {m} row e (no ne) next =
      subst (StepsEnd lines limit s₀ m₀)
      (ap (ran (step_of s m lines).number k) (sym (same_memory s m lines ne)) ∙ sym (stops (suc left) s m lines k (omega arith) ne))
      (StepsEnd.refused row (omega arith) ne)

  -- and the run's steps end so
  steps-so : (left : ℕ) {k : ℕ} {s : State} {m : Buffers} → DoneSteps lines s₀ m₀ k s m → k + left ≡ limit
      → StepsEnd lines limit s₀ m₀ (steps_from left s m lines k)
  steps-so zero {k} {s} {m} row e =
      let whole : k ≡ limit = omega arith in
      let at : DoneSteps lines s₀ m₀ limit s m = subst (λ (n : ℕ). DoneSteps lines s₀ m₀ n s m) whole row in
      subst (StepsEnd lines limit s₀ m₀) (ap (λ (n : ℕ). ran 0 n m) (sym whole) ∙ sym (limits 0 s m lines k refl)) (limited at)
  steps-so (suc left) {k} {s} {m} row e =
      one_more left row e (ℕ_discrete (step_of s m lines).number 0) (λ z. steps-so left (more row z) (omega arith))

-- ---- 12, 11 and 10

-- a fresh state of a good CP, and of a bad one
pub fresh-good : (cp : ℕ) → cp < 1048576 → fresh_of cp ≡ record { number = 0; state = fresh_state cp }
unfolding fresh_of
fresh-good cp h = rw (lt-ltb cp 1048576 h)

pub fresh-bad : (cp : ℕ) → CpPast cp → fresh_of cp ≡ record { number = 10; state = fresh_state 0 }
unfolding fresh_of
fresh-bad cp h = rw (le-ltb cp 1048576 h)

-- its number is 10 unless CP is one of 20 bits
pub fresh-number : (cp : ℕ) → (fresh_of cp).number ≡ unless (ltb cp 1048576) 10
unfolding unless
fresh-number cp = go (dec_lt cp 1048576)
  where
    go : Dec (cp < 1048576) → (fresh_of cp).number ≡ unless (ltb cp 1048576) 10
    go (yes h) = ap (λ (a : Made). a.number) (fresh-good cp h) ∙ rw (lt-ltb cp 1048576 h)
    go (no h) = let past : 1048576 ≤ cp = omega arith in ap (λ (a : Made). a.number) (fresh-bad cp past) ∙ rw (le-ltb cp 1048576 past)

-- 12 of a run
pub told-call : (channel lines limit : ℕ) → Told (is_channel channel && ltb lines 16 && ltb limit 65536) (NoChannel channel ⊎ (LinesOver lines ⊎ LimitOver limit))
told-call channel lines limit = rw and_assoc (told_and (told-channel channel) (told_and (told-ltb lines 16) (told-ltb limit 65536)))

module _ (m : Buffers) (cp channel lines limit : ℕ) where
  -- 12 and 11, then 10
  start-given : (n : ℕ) → (first (call_number m channel lines limit) (fresh_of cp).number ≡ n) ↔ Given (start_checks m cp channel lines limit) n
  unfolding call_number
  start-given n =
      rw (fresh-number cp, first-assoc)
      (step 12 refl (told-call channel lines limit)
      (step 11 refl (told-limits m)
      (last n 10 refl (told-ltb cp 1048576))))

  -- what starts a run
  started : Given (start_checks m cp channel lines limit) 0 → (call_number m channel lines limit ≡ 0) × ((fresh_of cp).number ≡ 0)
  started g =
      let z = (start-given 0).1 g in
      (first-none-left (call_number m channel lines limit) (fresh_of cp).number z, first-none-right (call_number m channel lines limit) (fresh_of cp).number z)

  good-cp : (fresh_of cp).number ≡ 0 → cp < 1048576
  good-cp z = go (dec_lt cp 1048576)
    where
      go : Dec (cp < 1048576) → cp < 1048576
      go (yes h) = h
      go (no h) = let past : 1048576 ≤ cp = omega arith in absurd (omega (arith, z, ap (λ (a : Made). a.number) (fresh-bad cp past)))

  -- a run ends in one of these ways
  pub run-so : RunEnds m cp channel lines limit (run_of m cp channel lines limit)
  run-so = called (ℕ_discrete (call_number m channel lines limit) 0)
    where
      given : (n : ℕ) → call_number m channel lines limit ≡ 0 → (fresh_of cp).number ≡ n → Given (start_checks m cp channel lines limit) n
      given n z e = (start-given n).0 (first-none (call_number m channel lines limit) (fresh_of cp).number z ∙ e)

      attended : call_number m channel lines limit ≡ 0 → cp < 1048576 → Dec ((first_attention m cp channel).number ≡ 0) → RunEnds m cp channel lines limit (run_of m cp channel lines limit)
      attended z h (yes a) =
          let o = first_attention m cp channel in
          after (given 0 z (ap (λ (a : Made). a.number) (fresh-good cp h))) a
          (subst (StepsEnd lines limit o.state o.memory) (sym (accepted-attention m cp channel lines limit z h a))
          (steps-so lines limit o.state o.memory limit none (omega arith)))
      attended z h (no ne) =
          subst (RunEnds m cp channel lines limit) (sym (refused-attention m cp channel lines limit z h ne))
          (not_accepted (given 0 z (ap (λ (a : Made). a.number) (fresh-good cp h))) ne)

      fresh : call_number m channel lines limit ≡ 0 → Dec (cp < 1048576) → RunEnds m cp channel lines limit (run_of m cp channel lines limit)
      fresh z (yes h) = attended z h (ℕ_discrete (first_attention m cp channel).number 0)
      fresh z (no h) =
          let past : 1048576 ≤ cp = omega arith in
          subst (RunEnds m cp channel lines limit) (sym (refused-cp m cp channel lines limit z past))
          (not_started (given 10 z (ap (λ (a : Made). a.number) (fresh-bad cp past))) (omega arith))

      called : Dec (call_number m channel lines limit ≡ 0) → RunEnds m cp channel lines limit (run_of m cp channel lines limit)
      called (yes z) = fresh z (dec_lt cp 1048576)
      called (no ne) =
          subst (RunEnds m cp channel lines limit) (sym (refused-call m cp channel lines limit ne))
          (not_started ((start-given (call_number m channel lines limit)).0 (first_some (call_number m channel lines limit) (fresh_of cp).number ne)) ne)

  -- and what ends so is the run
  pub run_only : {r : Run} → RunEnds m cp channel lines limit r → run_of m cp channel lines limit ≡ r
  run_only (not_started {n} g ne) = called (ℕ_discrete (call_number m channel lines limit) 0)
    where
      number : first (call_number m channel lines limit) (fresh_of cp).number ≡ n
      number = (start-given n).1 g

      fresh : call_number m channel lines limit ≡ 0 → (fresh_of cp).number ≡ n → Dec (cp < 1048576) → run_of m cp channel lines limit ≡ ran n 0 m
      fresh z e (yes h) = absurd (ne (sym e ∙ ap (λ (a : Made). a.number) (fresh-good cp h)))
      fresh z e (no h) =
          let past : 1048576 ≤ cp = omega arith in
          refused-cp m cp channel lines limit z past ∙ ap (λ (k : ℕ). ran k 0 m) (sym (ap (λ (a : Made). a.number) (fresh-bad cp past)) ∙ e)

      called : Dec (call_number m channel lines limit ≡ 0) → run_of m cp channel lines limit ≡ ran n 0 m
      called (yes z) = fresh z (sym (first-none (call_number m channel lines limit) (fresh_of cp).number z) ∙ number) (dec_lt cp 1048576)
      called (no nz) =
          refused-call m cp channel lines limit nz
          ∙ ap (λ (k : ℕ). ran k 0 m) (sym (first_some (call_number m channel lines limit) (fresh_of cp).number nz) ∙ number)
  run_only (not_accepted g ne) = refused-attention m cp channel lines limit (started g).0 (good-cp (started g).1) ne
  run_only (after g z e) =
      accepted-attention m cp channel lines limit (started g).0 (good-cp (started g).1) z
      ∙ steps-only lines limit (first_attention m cp channel).state (first_attention m cp channel).memory e
