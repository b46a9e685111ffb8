-- The number of a step: each is given exactly under its own condition, where no earlier check applies.
-- Assumes nothing.
use Prim.Native.Nat.{ℕ, zero, suc, ◌≤◌}
use borrow.Author.Tests.{eqb-false}
use lib.Dec.{eqb, ltb, eqb-suc-zero}
use mathlib.Core.Bool.{Bool, true, false, ◌||◌}
use mathlib.Core.List.{List, [], ◌∷◌}
use mathlib.Core.Logic.Iff
use mathlib.Core.Logic.{⊎_elim, inl, inr, ◌⊎◌, ◌↔◌}
use mathlib.Core.Path.{◌≡◌, refl, sym, ap, ◌∙◌}
use native.Mathlib.Omega.{arith}
use Rattle.instruction_rules.proofs.NumberLaws.{number-given as instruction-given, two-where}
use Rattle.instruction_rules.specs.Conditions.{instruction_checks}
use Rattle.instruction_rules.specs.Execute.{touched_by_instruction, execute_of}
use Rattle.ground_rules.proofs.ConditionLaws.{step, rewritten, first-assoc, never, worded, single, behind, up_to, given-most, up-to-either, told-ltb}
use Rattle.ground_rules.proofs.FieldLaws.{told-agree}
use Rattle.ground_rules.proofs.GivenLaws.{told-powered, given-chain}
use Rattle.ground_rules.specs.Conditions.{Check, check, Given, foreign, Exactly, Ready}
use Rattle.ground_rules.specs.Outcomes.{first, unless, given_number}
use Rattle.ground_rules.specs.Stages.{stages_touched}
use Rattle.ground_rules.specs.Psw.{transferring}
use Rattle.ground_rules.specs.States.{channel_of, block_of, busy_in}
use Rattle.ground_rules.specs.declared.Channel.{Channel}
use Rattle.ground_rules.specs.declared.State.{State}
use Rattle.ground_rules.specs.Buffers.{Buffers}
use Rattle.ground_rules.specs.Places.{all_pass, all_touchable}
use Rattle.transfer_rules.proofs.NumberLaws.{number-given as transfer-given}
use Rattle.transfer_rules.proofs.StepLaws.{number_is as moved-number, two-touched}
use Rattle.transfer_rules.specs.Conditions.{transfer_checks}
use Rattle.transfer_rules.specs.Steps.{transfer_stages, transfer_of}
use Rattle.ground_rules.proofs.ChoiceLaws.{apart}
use Rattle.ground_rules.specs.Choice.{pick}
use Rattle.turn_rules.specs.Choosing.{choice_of}
use Rattle.turn_rules.specs.Ranks.{NoneRuns}
use Rattle.turn_rules.specs.declared.Choice.{Choice}
use Rattle.turn_rules.specs.declared.Choice.TheVariants.{Nobody, Ends, Steps}
use Rattle.turn_rules.proofs.ChoosingLaws.{ends-chosen, steps-chosen, nobody-runs}
use Rattle.turn_rules.specs.Conditions.{chosen_checks, entry_checks, step_checks}
use Rattle.turn_rules.specs.Touched.{reached_in}
use Rattle.turn_rules.specs.Step.{Step, refused_step, settled_step, transfer_step, instruction_step, external_step, channel_step, chosen_step, entry_number, step_of}
use Rattle.turn_rules.specs.declared.Kind.{Kind}

-- ---- the chain of a step

refused-first : (k : ℕ) (o : Step) (s : State) (m : Buffers) → (pick (eqb k 0) o (refused_step k s m)).number ≡ first k o.number
unfolding first
refused-first zero o s m = refl
refused-first (suc k) o s m = rw (eqb-suc-zero k)

-- 12, that of what was given, then that of the choice
in_order : (s : State) (m : Buffers) (lines : ℕ)
    → (step_of s m lines).number
    ≡ first (unless (ltb lines 16) 12) (first (given_number s m) (chosen_step (choice_of s lines) s m).number)
unfolding step_of entry_number
in_order s m lines =
    let x = chosen_step (choice_of s lines) s m in
    refused-first (first (unless (ltb lines 16) 12) (given_number s m)) x s m ∙ first-assoc (unless (ltb lines 16) 12) (given_number s m) x.number

-- ---- the number of who was chosen

pub settled-number : (number : ℕ) (s : State) (m : Buffers) (b : Bool) (c : Channel) (m' : Buffers) (kind : Kind) → (settled_step number s m b c m' kind).number ≡ number
unfolding settled_step
settled-number zero s m b c m' kind = refl
settled-number (suc n) s m b c m' kind = rw (eqb-suc-zero n)

-- a check that does not apply
passed : {A G : Type 0} {x n : ℕ} (k : ℕ) → ¬ A → ((x ≡ n) ↔ G) → (x ≡ n) ↔ ((A × (n ≡ k)) ⊎ (¬ A × G))
passed k na q = (λ e. inr (na, q.0 e), ⊎_elim (λ h. absurd (na h.0)) (λ h. q.1 h.1))

turn-given : (s : State) (m : Buffers) (b : Bool) (n : ℕ) → ((channel_step s m b).number ≡ n) ↔ Given (chosen_checks (Steps b) s m) n
unfolding channel_step transfer_step instruction_step
turn-given s m b n = go (transferring (channel_of s b).psw)
  where
    go : (x : Bool) → ((pick x (transfer_step s m b) (instruction_step s m b)).number ≡ n)
        ↔ Given (pick x (transfer_checks (channel_of s b) m) (instruction_checks m (channel_of s b) (busy_in (block_of s b)))) n
    go true =
        let t = transfer_of (channel_of s b) m in
        rewritten (settled-number t.number s m b t.channel t.memory Kind.Transfer) (transfer-given (channel_of s b) m n)
    go false =
        let x = execute_of (channel_of s b) (busy_in (block_of s b)) m in
        rewritten (settled-number x.number s m b x.channel x.memory Kind.Instruction) (instruction-given m (channel_of s b) (busy_in (block_of s b)) n)

-- 1, then the checks of who was chosen
chosen-given : (s : State) (m : Buffers) (lines n : ℕ) (x : Choice) → choice_of s lines ≡ x
    → ((chosen_step x s m).number ≡ n) ↔ Given (check 1 (NoneRuns s lines) ∷ chosen_checks x s m) n
unfolding chosen_step external_step
chosen-given s m lines n Nobody e =
    let none = (nobody-runs s lines).0 e in
    (λ h. inl (none, sym h), ⊎_elim (λ h. sym h.1) (λ h. absurd (h.0 none)))
chosen-given s m lines n (Ends b) e = passed 1 (λ h. h b (inl (ends-chosen s lines b e))) (sym, sym)
chosen-given s m lines n (Steps b) e = passed 1 (λ h. h b (inr (steps-chosen s lines b e).1)) (turn-given s m b n)

-- the checks before the choice in front of any others
entry-chain : (s : State) (m : Buffers) (lines : ℕ) {n : ℕ} (ks : List Check) → ((chosen_step (choice_of s lines) s m).number ≡ n ↔ Given ks n)
    → ((step_of s m lines).number ≡ n) ↔ Given (entry_checks s m lines ks) n
entry-chain s m lines ks q = rewritten (in_order s m lines) (step 12 refl (told-ltb lines 16) (given-chain s m ks q))

-- the number of a step is that of the first check that applies, 0 where none does (§3.2)
pub number-given : (s : State) (m : Buffers) (lines n : ℕ) → ((step_of s m lines).number ≡ n) ↔ Given (step_checks s m lines) n
number-given s m lines n = entry-chain s m lines (check 1 (NoneRuns s lines) ∷ chosen_checks (choice_of s lines) s m) (chosen-given s m lines n (choice_of s lines) refl)

-- no check has a number over 14, whoever was chosen
pub step-few : (s : State) (m : Buffers) (lines : ℕ) → up_to 14 (step_checks s m lines) ≡ true
step-few s m lines = chosen (choice_of s lines)
  where
    chosen : (x : Choice) → up_to 14 (chosen_checks x s m) ≡ true
    chosen Nobody = refl
    chosen (Ends b) = refl
    chosen (Steps b) = up-to-either 14 (transferring (channel_of s b).psw) _ _ refl refl

-- so the number is at most 14
pub step-most : (s : State) (m : Buffers) (lines : ℕ) → (step_of s m lines).number ≤ 14
step-most s m lines = given-most 14 (step_checks s m lines) (step-few s m lines) ((number-given s m lines (step_of s m lines).number).0 refl)

-- ---- each number

-- the numbers that who was chosen may give
abbrev pub of_chosen : ℕ → Bool
of_chosen n = eqb n 0 || (eqb n 2 || (eqb n 3 || (eqb n 4 || eqb n 5)))

module _ (s : State) (m : Buffers) (lines : ℕ) where
  -- in words, whoever was chosen
  pub number-exactly : (n : ℕ) → ((step_of s m lines).number ≡ n) ↔ Exactly (step_checks s m lines) n
  number-exactly n = worded (step_checks s m lines) n (number-given s m lines n)

  -- in words by who was chosen: 0 of an external end, 5, 2 and 0 of a transfer step, 2, 3, 4 and 0 of an instruction, each behind the checks before the choice
  pub ends-exactly : (b : Bool) (n : ℕ) → choice_of s lines ≡ Ends b → ((step_of s m lines).number ≡ n) ↔ Exactly (entry_checks s m lines []) n
  unfolding chosen_step external_step
  ends-exactly b n e = worded (entry_checks s m lines []) n (entry-chain s m lines [] (rw e (sym, sym)))

  pub moves-exactly : (b : Bool) (n : ℕ) → choice_of s lines ≡ Steps b → transferring (channel_of s b).psw ≡ true
      → ((step_of s m lines).number ≡ n) ↔ Exactly (entry_checks s m lines (transfer_checks (channel_of s b) m)) n
  unfolding chosen_step
  moves-exactly b n e f =
      let own = transfer_checks (channel_of s b) m in
      worded (entry_checks s m lines own) n (entry-chain s m lines own (rw e (rw f at (turn-given s m b n))))

  pub executes-exactly : (b : Bool) (n : ℕ) → choice_of s lines ≡ Steps b → transferring (channel_of s b).psw ≡ false
      → ((step_of s m lines).number ≡ n) ↔ Exactly (entry_checks s m lines (instruction_checks m (channel_of s b) (busy_in (block_of s b)))) n
  unfolding chosen_step
  executes-exactly b n e f =
      let own = instruction_checks m (channel_of s b) (busy_in (block_of s b)) in
      worded (entry_checks s m lines own) n (entry-chain s m lines own (rw e (rw f at (turn-given s m b n))))

  -- who was chosen gives no other number
  chosen-foreign : (n : ℕ) → of_chosen n ≡ false → (x : Choice) → foreign n (chosen_checks x s m) ≡ true
  chosen-foreign n h = chosen
    where
      not-of : (a b c d e : Bool) → a || (b || (c || (d || e))) ≡ false → (a ≡ false) × ((b ≡ false) × ((c ≡ false) × ((d ≡ false) × (e ≡ false))))
      not-of true b c d e h = apart h
      not-of false true c d e h = apart h
      not-of false false true d e h = apart h
      not-of false false false true e h = apart h
      not-of false false false false e h = (refl, (refl, (refl, (refl, h))))

      others : (eqb n 0 ≡ false) × ((eqb n 2 ≡ false) × ((eqb n 3 ≡ false) × ((eqb n 4 ≡ false) × (eqb n 5 ≡ false))))
      others = not-of (eqb n 0) (eqb n 2) (eqb n 3) (eqb n 4) (eqb n 5) h

      turn : (b x : Bool) → foreign n (pick x (transfer_checks (channel_of s b) m) (instruction_checks m (channel_of s b) (busy_in (block_of s b)))) ≡ true
      turn b true = rw (others.0, others.1.0, others.1.1.1.1)
      turn b false = rw (others.0, others.1.0, others.1.1.0, others.1.1.1.0)

      chosen : (x : Choice) → foreign n (chosen_checks x s m) ≡ true
      chosen Nobody = rw others.0
      chosen (Ends b) = rw others.0
      chosen (Steps b) = turn b (transferring (channel_of s b).psw)

  -- any other number is given by the checks before the choice, and 1, alone
  entry-given : (n : ℕ) → of_chosen n ≡ false → ((step_of s m lines).number ≡ n) ↔ Given (entry_checks s m lines (check 1 (NoneRuns s lines) ∷ [])) n
  entry-given n h =
      Iff.trans (number-given s m lines n)
      (behind n (entry_checks s m lines (check 1 (NoneRuns s lines) ∷ [])) (chosen_checks (choice_of s lines) s m) (chosen-foreign n h (choice_of s lines)))

  -- so 12, 11, 10, 13, 14 and 1 in words
  pub entry-exactly : (n : ℕ) → of_chosen n ≡ false → ((step_of s m lines).number ≡ n) ↔ Exactly (entry_checks s m lines (check 1 (NoneRuns s lines) ∷ [])) n
  entry-exactly n h = worded (entry_checks s m lines (check 1 (NoneRuns s lines) ∷ [])) n (entry-given n h)

  -- and no number is given that neither have
  pub no_other : (n : ℕ) → of_chosen n ≡ false → foreign n (entry_checks s m lines (check 1 (NoneRuns s lines) ∷ [])) ≡ true → ¬ ((step_of s m lines).number ≡ n)
  no_other n h f e = never n (entry_checks s m lines (check 1 (NoneRuns s lines) ∷ [])) f ((entry-given n h).0 e)

  -- of a state that is powered up and agrees the number is at most 12
  pub step-ready : Ready s → (step_of s m lines).number ≤ 12
  step-ready r =
      let up : ¬ ((step_of s m lines).number ≡ 13) = λ e. (told-powered s).holds r.0 ((entry-exactly 13 refl).0 e).1.1.1 in
      let same : ¬ ((step_of s m lines).number ≡ 14) = λ e. (told-agree s).holds r.1 ((entry-exactly 14 refl).0 e).1.1.1.1 in
      omega (arith, step-most s m lines, up, same)

  -- 2 exactly where a byte of the chosen channel's list, up to the stage where it stops, may not be touched
  pub two-exactly : ((step_of s m lines).number ≡ 2) ↔ Exactly (entry_checks s m lines (check 2 (all_touchable m (reached_in (choice_of s lines) s m) ≡ false) ∷ [])) 2
  unfolding reached_in all_pass chosen_step external_step channel_step transfer_step instruction_step
  two-exactly =
      let own = check 2 (all_touchable m (reached_in (choice_of s lines) s m) ≡ false) ∷ [] in
      worded (entry_checks s m lines own) 2 (entry-chain s m lines own (single 2 refl (go (choice_of s lines))))
    where
      turn : (b x : Bool) → ((pick x (transfer_step s m b) (instruction_step s m b)).number ≡ 2)
          ↔ (all_touchable m (pick x (stages_touched (transfer_stages (channel_of s b) m)) (touched_by_instruction m (channel_of s b) (busy_in (block_of s b)))) ≡ false)
      turn b true =
          let t = transfer_of (channel_of s b) m in
          rewritten (settled-number t.number s m b t.channel t.memory Kind.Transfer ∙ moved-number (channel_of s b) m) (two-touched (channel_of s b) m)
      turn b false =
          let x = execute_of (channel_of s b) (busy_in (block_of s b)) m in
          rewritten (settled-number x.number s m b x.channel x.memory Kind.Instruction) (two-where m (channel_of s b) (busy_in (block_of s b)))

      go : (x : Choice) → ((chosen_step x s m).number ≡ 2) ↔ (all_touchable m (reached_in x s m) ≡ false)
      go Nobody = (λ e. absurd (eqb-false 1 2 refl e), λ h. apart h)
      go (Ends b) = (λ e. absurd (eqb-false 0 2 refl e), λ h. apart h)
      go (Steps b) = turn b (transferring (channel_of s b).psw)
