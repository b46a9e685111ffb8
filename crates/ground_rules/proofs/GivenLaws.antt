-- The laws of what every attention and step is given: 11, 10, 13 and 14 in front of any chain, what a call knows that none of them refuses, and when the next is not refused either.
-- Assumes nothing.
use Prim.Native.Nat.{ℕ}
use mathlib.Core.Bool.{true}
use mathlib.Core.List.{List}
use mathlib.Core.Logic.{◌↔◌}
use mathlib.Core.Path.{◌≡◌, refl, sym, ap, ◌∙◌}
use Rattle.ground_rules.specs.Buffers.{Buffers, within_limits}
use Rattle.ground_rules.proofs.ChoiceLaws.{apart}
use Rattle.ground_rules.specs.Conditions.{Check, Given, NotPowered, given_checks}
use Rattle.ground_rules.specs.Outcomes.{unless, first, given_number}
use Rattle.ground_rules.specs.States.{sound, agree}
use Rattle.ground_rules.specs.declared.Board.{Board}
use Rattle.ground_rules.specs.declared.State.{State}
use Rattle.ground_rules.proofs.ConditionLaws.{Told, step, rewritten, first-assoc, first-none-left, first-none-right, unless-none, told-limits, told-sound}
use Rattle.ground_rules.proofs.FieldLaws.{told-agree}

-- ---- 11, 10, 13 and 14 in their order

pub told-powered : (s : State) → Told s.board.powered (NotPowered s)
told-powered s = record { holds = λ e h. apart (sym e ∙ h); fails = λ e. e }

-- the four in front of a chain
pub given-chain : (s : State) (m : Buffers) {rest n : ℕ} (ks : List Check) → (rest ≡ n ↔ Given ks n) → (first (given_number s m) rest ≡ n) ↔ Given (given_checks s m ks) n
unfolding given_number
given-chain s m {rest} ks q =
    let within = unless (within_limits m) 11 in
    let sounds = unless (sound s) 10 in
    let powered = unless s.board.powered 13 in
    let agreed = unless (agree s) 14 in
    rewritten
    (first-assoc within (first sounds (first powered agreed)) rest
    ∙ ap (first within) (first-assoc sounds (first powered agreed) rest ∙ ap (first sounds) (first-assoc powered agreed rest)))
    (step 11 refl (told-limits m) (step 10 refl (told-sound s) (step 13 refl (told-powered s) (step 14 refl (told-agree s) q))))

-- ---- a call that none of them refuses

-- what 13 and 14 ask, what 10 asks before them, and the whole
later_number : State → ℕ
later_number s = first (unless s.board.powered 13) (unless (agree s) 14)

pub given-within : (s : State) (m : Buffers) → given_number s m ≡ 0 → within_limits m ≡ true
unfolding given_number later_number
given-within s m z = unless-none 11 refl (first-none-left (unless (within_limits m) 11) (first (unless (sound s) 10) (later_number s)) z)

-- it was given a sound state that is powered up and agrees
given-rest : (s : State) (m : Buffers) → given_number s m ≡ 0 → first (unless (sound s) 10) (later_number s) ≡ 0
unfolding given_number later_number
given-rest s m z = first-none-right (unless (within_limits m) 11) (first (unless (sound s) 10) (later_number s)) z

pub given-sound : (s : State) (m : Buffers) → given_number s m ≡ 0 → sound s ≡ true
given-sound s m z = unless-none 10 refl (first-none-left (unless (sound s) 10) (later_number s) (given-rest s m z))

given-later : (s : State) (m : Buffers) → given_number s m ≡ 0 → later_number s ≡ 0
given-later s m z = first-none-right (unless (sound s) 10) (later_number s) (given-rest s m z)

pub given-powered : (s : State) (m : Buffers) → given_number s m ≡ 0 → s.board.powered ≡ true
unfolding later_number
given-powered s m z = unless-none 13 refl (first-none-left (unless s.board.powered 13) (unless (agree s) 14) (given-later s m z))

pub given-agree : (s : State) (m : Buffers) → given_number s m ≡ 0 → agree s ≡ true
unfolding later_number
given-agree s m z = unless-none 14 refl (first-none-right (unless s.board.powered 13) (unless (agree s) 14) (given-later s m z))

-- nor is the next refused, of a sound state of the same board that agrees, in memories as long
pub given-again : (s s' : State) (m m' : Buffers) → given_number s m ≡ 0 → sound s' ≡ true → agree s' ≡ true → s'.board ≡ s.board → within_limits m' ≡ within_limits m
    → given_number s' m' ≡ 0
unfolding given_number first unless
given-again s s' m m' z h a b e =
    rw (a, e ∙ given-within s m z, h, ap (λ (x : Board). x.powered) b ∙ given-powered s m z)
