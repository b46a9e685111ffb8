-- What is promised of the contract of a call on two processors, whichever call it is: read of any two calls that met it.
use Rattle.std.specs.Prelude.{Bool, not, List, ◌↔◌, ◌≡◌, ℕ}
use Rattle.ground_rules.specs.Buffers.{Buffers}
use Rattle.ground_rules.specs.Conditions.{Check, Given}
use Rattle.processor_rules.specs.Lifting.{Called, Lifted, lifted_to, lifted}
use Rattle.processor_rules.specs.Lifts.{seen_by, SameFor, LeftAlone, NoProcessor, checks_on}
use Rattle.processor_rules.specs.Processors.{Processors, Memories, processor_named, processor_number, processor_of, buffers_of}

-- a contract: the calls that met it, and what is read of one of them: its number for the processor, both states, the memories, what else it was given, and
-- what it left
pub record PairContract (S A : Type 0) : Type 1 where
  pub Met : Type 0
  pub Rest : Type 0
  pub processor : Met → ℕ
  pub states : Met → Processors S
  pub memory : Met → Memories
  pub rest : Met → Rest
  pub left : Met → Lifted S A

module _ {S A : Type 0} (c : PairContract S A) where
  -- the processor that a call named
  abbrev pub name_in : c.Met → Bool
  name_in x = processor_named (c.processor x)

  -- it is the equation with a single call lifted
  pub record IsLifted (twelve : c.Rest → A) (single : c.Rest → S → Buffers → Called S A) : Type 0 where
    pub is : (x : c.Met) → c.left x ≡ lifted (twelve (c.rest x)) (single (c.rest x)) (c.states x) (c.memory x) (c.processor x)

  -- every call that met it is the single call of the one named
  pub record GoesToOne (twelve : c.Rest → A) (single : c.Rest → S → Buffers → Called S A) : Type 0 where
    -- the other's state and I/O memory are left
    pub kept : (x : c.Met) → LeftAlone (not (name_in x)) (c.states x) (c.memory x) (c.left x)
    -- the one named has what its own call gives
    pub own : (x : c.Met) (which : Bool) → c.processor x ≡ processor_number which
        → seen_by which (c.left x) ≡ single (c.rest x) (processor_of (c.states x) which) (buffers_of (c.memory x) which)
    -- whatever the other's state and I/O memory are
    pub same : (x y : c.Met) → c.processor y ≡ c.processor x → c.rest y ≡ c.rest x → SameFor (name_in x) (c.states x) (c.memory x) (c.states y) (c.memory y)
        → seen_by (name_in x) (c.left y) ≡ seen_by (name_in x) (c.left x)
    -- a number that names none is answered by what stands for 12, and nothing changes
    pub none : (x : c.Met) → NoProcessor (c.processor x) → c.left x ≡ lifted_to (twelve (c.rest x)) (c.states x) (c.memory x)
    -- two calls that were given the same leave the same
    pub one : (x y : c.Met) → c.processor y ≡ c.processor x → c.rest y ≡ c.rest x → c.states y ≡ c.states x → c.memory y ≡ c.memory x → c.left y ≡ c.left x

  -- its numbers: 12 for the processor, then the single call's own checks on the state and the memories of the one named; and a call that gives a number changes
  -- nothing, where that state is of a sort that the single call leaves
  pub record NumbersOfOne (number : A → ℕ) (checks : c.Rest → S → Buffers → List Check) (Sort : S → Type 0) : Type 0 where
    pub exactly : (x : c.Met) (n : ℕ) → (number (c.left x).answer ≡ n) ↔ Given (checks_on (checks (c.rest x)) (c.states x) (c.memory x) (c.processor x)) n
    pub refused : (x : c.Met) → Sort (processor_of (c.states x) (name_in x)) → ¬ (number (c.left x).answer ≡ 0)
        → c.left x ≡ lifted_to (c.left x).answer (c.states x) (c.memory x)
