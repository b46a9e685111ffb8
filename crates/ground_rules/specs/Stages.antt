-- The bytes that a call touches, in stages (§3.5, §3.6): it reads some, judges what it read, and goes on to the next or stops there.
use Rattle.std.specs.Prelude.{false, List, [], ◌∷◌, ◌++◌, ◌≡◌, ℕ, eqb}
use Rattle.ground_rules.specs.Choice.{pick}
use Rattle.ground_rules.specs.Buffers.{Buffers}
use Rattle.ground_rules.specs.Places.{Place, all_touchable}
use Rattle.ground_rules.specs.Outcomes.{unless, first}

-- a stage: the places of its bytes, and the refusal that is judged once they are there; 0 is none
pub record Stage : Type 0 where
  pub places : List Place
  pub judged : ℕ

abbrev pub stage : List Place → ℕ → Stage
stage places judged = record { places = places; judged = judged }

-- the number of a call by its stages: at each, 2 where one of its bytes may not be touched, then what is judged, then the stages after it
unfoldable pub stages_number : Buffers → List Stage → ℕ
stages_number m [] = 0
stages_number m (s ∷ rest) = first (unless (all_touchable m s.places) 2) (first s.judged (stages_number m rest))

-- the bytes that a call touches, each access once, up to and with the stage whose judgement stops it
unfoldable pub stages_touched : List Stage → List Place
stages_touched [] = []
stages_touched (s ∷ rest) = s.places ++ pick (eqb s.judged 0) (stages_touched rest) []

-- no judgement is 2 itself
abbrev pub JudgedElse : List Stage → Type 0
JudgedElse [] = Unit {0}
JudgedElse (s ∷ rest) = (eqb s.judged 2 ≡ false) × JudgedElse rest
