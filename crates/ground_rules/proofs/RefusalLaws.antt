-- The numbers of refusals: none is 0, and no two are the same.
-- Assumes nothing.
use Prim.Native.Nat.{ℕ}
use lib.Dec.{eqb}
use lib.ListN.{get_or}
use mathlib.Core.Bool.{false}
use mathlib.Core.List.{[], ◌∷◌}
use mathlib.Core.Path.{◌≡◌, refl, sym, ap, ap₂, ◌∙◌}
use Rattle.std.proofs.Common.{Result, Ok, Err}
use borrow.Author.Tests.{eqb-false}
use Rattle.ground_rules.specs.Buffers.{Buffers}
use Rattle.ground_rules.specs.Outcomes.{Outcome}
use Rattle.ground_rules.specs.Refusals.{number_of, answered, outcome_by, answer_count}
use Rattle.ground_rules.specs.declared.Answer.{Answer}
use Rattle.ground_rules.specs.declared.State.{State}
use Rattle.ground_rules.specs.declared.Refusal.{Refusal}
use Rattle.ground_rules.specs.declared.Refusal.TheVariants.{NothingSteps, BeyondMemory, NotAnInstruction, ControlNamed, BadTransferMode, BadCommand, NotSuspended, AlreadyRunning, NotRunning, UnsoundState, BufferTooLong, OutOfRange, NotPoweredUp, FieldsDiffer, NotSweepable, UnknownRow, NotAState}

pub number-some : (r : Refusal) → eqb (number_of r) 0 ≡ false
number-some NothingSteps = refl
number-some BeyondMemory = refl
number-some NotAnInstruction = refl
number-some ControlNamed = refl
number-some BadTransferMode = refl
number-some BadCommand = refl
number-some NotSuspended = refl
number-some AlreadyRunning = refl
number-some NotRunning = refl
number-some UnsoundState = refl
number-some BufferTooLong = refl
number-some OutOfRange = refl
number-some NotPoweredUp = refl
number-some FieldsDiffer = refl
number-some NotSweepable = refl
number-some UnknownRow = refl
number-some NotAState = refl

-- so no refusal is answered by 0
pub number-positive : (r : Refusal) → number_of r ≡ 0 → ⊥
number-positive r z = eqb-false (number_of r) 0 (number-some r) z

-- the refusal that a number stands for
by_number : ℕ → Refusal
by_number n = get_or (NothingSteps ∷ NothingSteps ∷ BeyondMemory ∷ NotAnInstruction ∷ ControlNamed ∷ BadTransferMode ∷ BadCommand ∷ NotSuspended ∷ AlreadyRunning ∷ NotRunning ∷ UnsoundState ∷ BufferTooLong ∷ OutOfRange ∷ NotPoweredUp ∷ FieldsDiffer ∷ NotSweepable ∷ UnknownRow ∷ NotAState ∷ []) n NothingSteps

by-number : (r : Refusal) → by_number (number_of r) ≡ r
unfolding by_number
by-number NothingSteps = refl
by-number BeyondMemory = refl
by-number NotAnInstruction = refl
by-number ControlNamed = refl
by-number BadTransferMode = refl
by-number BadCommand = refl
by-number NotSuspended = refl
by-number AlreadyRunning = refl
by-number NotRunning = refl
by-number UnsoundState = refl
by-number BufferTooLong = refl
by-number OutOfRange = refl
by-number NotPoweredUp = refl
by-number FieldsDiffer = refl
by-number NotSweepable = refl
by-number UnknownRow = refl
by-number NotAState = refl

pub one-refusal : (r r' : Refusal) → number_of r ≡ number_of r' → r ≡ r'
one-refusal r r' e = sym (by-number r) ∙ ap by_number e ∙ by-number r'

-- two answers of one outcome and count are the same
pub one-answer : (s : State) (r r' : Result Answer Refusal) (m m' : Buffers) → outcome_by s r m ≡ outcome_by s r' m' → answer_count r ≡ answer_count r' → r ≡ r'
one-answer s (Ok a) (Ok b) m m' e n = ap₂ (λ (o : Outcome) (k : ℕ). Ok (record { count = k; state = o.state })) e n
one-answer s (Ok a) (Err f) m m' e n = absurd (number-positive f (sym (ap (λ (o : Outcome). o.number) e)))
one-answer s (Err f) (Ok b) m m' e n = absurd (number-positive f (ap (λ (o : Outcome). o.number) e))
one-answer s (Err f) (Err g) m m' e n = ap Err (one-refusal f g (ap (λ (o : Outcome). o.number) e))

-- what is answered by 0 is done
pub done-by-zero : {A : Type 0} (r : Result A Refusal) → answered r ≡ 0 → (a : A) × (r ≡ Ok a)
done-by-zero (Ok a) z = (a, refl)
done-by-zero (Err refusal) z = absurd (number-positive refusal z)
