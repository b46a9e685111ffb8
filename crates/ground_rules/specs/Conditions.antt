-- Which number a call gives (§3.2): checks in their order, when each number is given by them, and the conditions of 11, 10, 13, 14 and 2, which every attention and step has.
use Rattle.std.specs.Prelude.{Bool, true, false, not, ◌&&◌, List, [], ◌∷◌, ◌++◌, ◌⊎◌, ◌≡◌, ℕ, ◌%◌, ◌<◌, ◌≤◌, eqb, length}
use Rattle.ground_rules.specs.Buffers.{Buffers}
use Rattle.ground_rules.specs.Places.{Place}
use Rattle.ground_rules.specs.Cc.{split}
use Rattle.ground_rules.specs.States.{agree}
use Rattle.ground_rules.specs.declared.Channel.{Channel}
use Rattle.ground_rules.specs.declared.State.{State}

-- a check: its number, and the condition under which it applies
pub record Check : Type 1 where
  pub number : ℕ
  pub applies : Type 0

abbrev pub check : ℕ → Type 0 → Check
check number applies = record { number = number; applies = applies }

-- number n is given by checks in their order: by the first that applies; 0 where none does
abbrev pub Given : List Check → ℕ → Type 0
Given [] n = n ≡ 0
Given (k ∷ ks) n = (k.applies × (n ≡ k.number)) ⊎ (¬ k.applies × Given ks n)

-- whether n is the number of none of some checks, nor 0, which is given where none applies
abbrev pub foreign : ℕ → List Check → Bool
foreign n [] = not (eqb n 0)
foreign n (k ∷ ks) = not (eqb n k.number) && foreign n ks

-- one check more in front of what is said of the later ones: its condition counts where it has the number, and alone where no later one has
abbrev pub InFront : Bool → Bool → Type 0 → Type 0 → Type 0
InFront true true applies later = applies
InFront true false applies later = applies ⊎ later
InFront false alone applies later = later

-- when n is given, computed from the checks: of a numeral the conditions of the checks that have it, each after the denial of those before it
abbrev pub Exactly : List Check → ℕ → Type 0
Exactly [] n = n ≡ 0
Exactly (k ∷ ks) n = InFront (eqb n k.number) (foreign n ks) k.applies (¬ k.applies × Exactly ks n)

-- 11: a buffer is longer than its limit
abbrev pub TooLong : Buffers → Type 0
TooLong m = (1048576 < length m.sys) ⊎ (65536 < length m.io)

-- the pointers of a channel, and PP
abbrev pub pointers_of : Channel → List ℕ
pointers_of c = c.ga.address ∷ c.gb.address ∷ c.gc.address ∷ c.tp.address ∷ c.pp ∷ []

-- one of some addresses is 1,048,576 or more
abbrev pub SomePast : List ℕ → Type 0
SomePast [] = ⊥
SomePast (a ∷ rest) = (1048576 ≤ a) ⊎ SomePast rest

-- 10: the state is not sound (§2.9)
abbrev pub NotSound : State → Type 0
NotSound s = SomePast (pointers_of s.first ++ (pointers_of s.second ++ (s.cp ∷ [])))

-- 13: the processor is not powered up
abbrev pub NotPowered : State → Type 0
NotPowered s = s.board.powered ≡ false

-- 14: the fields of a channel are not those of its CC
abbrev pub FieldsDisagree : State → Type 0
FieldsDisagree s = ¬ (s.first.fields ≡ split s.first.cc) ⊎ ¬ (s.second.fields ≡ split s.second.cc)

-- a state that neither 13 nor 14 refuses
abbrev pub Ready : State → Type 0
Ready s = (s.board.powered ≡ true) × (agree s ≡ true)

-- the checks of what every attention and step is given, in their order, and those after them
abbrev pub given_checks : State → Buffers → List Check → List Check
given_checks s m next = check 11 (TooLong m) ∷ check 10 (NotSound s) ∷ check 13 (NotPowered s) ∷ check 14 (FieldsDisagree s) ∷ next

-- 2: one of some bytes is of system space and not lent (§1.3); no byte of I/O space counts
abbrev pub Beyond : Buffers → List Place → Type 0
Beyond m [] = ⊥
Beyond m (p ∷ ps) = ((p.tag ≡ false) × (length m.sys ≤ p.address % 1048576)) ⊎ Beyond m ps
