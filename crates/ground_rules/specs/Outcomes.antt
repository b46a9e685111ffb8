-- What a call leaves (§3.3), and its refusals in their order (§3.2).
use Rattle.std.specs.Prelude.{Bool, List, ℕ, eqb, length}
use Rattle.ground_rules.specs.Choice.{pick}
use Rattle.ground_rules.specs.Buffers.{Buffers, within_limits}
use Rattle.ground_rules.specs.Places.{Place}
use Rattle.ground_rules.specs.declared.State.{State}
use Rattle.ground_rules.specs.States.{sound, agree}

-- the number, the state and both memories after a call
pub record Outcome : Type 0 where
  pub number : ℕ
  pub state : State
  pub memory : Buffers

abbrev pub outcome : ℕ → State → Buffers → Outcome
outcome number s m = record { number = number; state = s; memory = m }

-- a refusal by a number unless a test holds; 0 is none
unfoldable pub unless : Bool → ℕ → ℕ
unless ok number = pick ok 0 number

-- the first refusal of two, in their order
unfoldable pub first : ℕ → ℕ → ℕ
first a b = pick (eqb a 0) b a

-- a refused call leaves the state and the memories as they were given
unfoldable pub settled : ℕ → State → Buffers → State → Buffers → Outcome
settled number s m s' m' = pick (eqb number 0) (outcome 0 s' m') (outcome number s m)

-- the count that goes with a number: of a done call the length of the list of places that it touches, of a refused one 0
unfoldable pub counted : ℕ → List Place → ℕ
counted number touched = pick (eqb number 0) (length touched) 0

-- what every attention and step asks of what it is given: 11, 10, 13, that the processor is powered up, then 14, that the fields are those of CC (§3.4)
unfoldable pub given_number : State → Buffers → ℕ
given_number s m =
    first (unless (within_limits m) 11) (first (unless (sound s) 10) (first (unless s.board.powered 13) (unless (agree s) 14)))
