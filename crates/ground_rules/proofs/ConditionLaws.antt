-- The laws of checks in their order, where a chain of refusals gives the number of the first check that applies, and what each test tells of its check's condition.
-- Assumes nothing.
use Prim.Native.Nat.{ℕ, zero, suc, ◌%◌, ◌<◌, ◌≤◌}
use borrow.Author.Tests.{ltb-true, ltb-false, leb-true, leb-false, eqb-true, eqb-false, not-true, not-false}
use lib.Dec.{ltb, leb, eqb, eqb-suc-zero}
use lib.ListN.{length}
use mathlib.Core.Bool.{and_assoc, Bool, true, false, not, ◌&&◌, ◌||◌}
use mathlib.Core.List.{List, [], ◌∷◌, ◌++◌}
use mathlib.Core.Logic.Iff
use mathlib.Core.Logic.{⊎_elim, inl, inr, ◌⊎◌, ◌↔◌}
use mathlib.Core.Path.{◌≡◌, refl, sym, ap, ◌∙◌}
use native.Mathlib.Omega.{arith}
use Rattle.ground_rules.specs.Buffers.{Buffers, space_of, limit_of, index_of, lent_at, touchable_at, within_limits}
use Rattle.ground_rules.specs.Places.{Place, all_pass, all_touchable}
use Rattle.ground_rules.proofs.ChoiceLaws.{apart, both_left, both_right, and-true}
use Rattle.ground_rules.specs.Choice.{pick}
use Rattle.ground_rules.specs.Conditions.{Check, check, Given, foreign, InFront, Exactly, TooLong, pointers_of, SomePast, NotSound, Beyond}
use Rattle.ground_rules.specs.Outcomes.{unless, first}
use Rattle.ground_rules.specs.States.{sound_channel, sound, is_running, is_suspended}
use Rattle.ground_rules.specs.declared.Mode.{Mode}
use Rattle.ground_rules.specs.declared.Mode.TheVariants.{Idle, Running, Suspended}
use Rattle.ground_rules.specs.declared.State.{State}
use Rattle.ground_rules.proofs.OutcomeLaws.{first-none, first_some, first-zero, first-right, unless-true, unless-false}

-- ---- checks in their order

-- what a test tells of the condition that fails it
pub record Told (ok : Bool) (applies : Type 0) : Type 0 where
  pub holds : ok ≡ true → ¬ applies
  pub fails : ok ≡ false → applies

-- what a test says of the condition that makes it hold
pub record Says (test : Bool) (condition : Type 0) : Type 0 where
  pub holds : test ≡ true → condition
  pub fails : test ≡ false → ¬ condition

-- one refusal more in front
pub step : {ok : Bool} {A : Type 0} {rest n : ℕ} {Q : Type 0} (k : ℕ) → eqb k 0 ≡ false → Told ok A → (rest ≡ n ↔ Q) → (first (unless ok k) rest ≡ n) ↔ ((A × (n ≡ k)) ⊎ (¬ A × Q))
step {ok} {A} {rest} {n} {Q} k ne told q = go ok refl
  where
    go : (b : Bool) → ok ≡ b → (first (unless b k) rest ≡ n) ↔ ((A × (n ≡ k)) ⊎ (¬ A × Q))
    go true e = rw (unless-true k, first-zero rest) (λ h. inr (told.holds e, q.0 h), ⊎_elim (λ h. absurd (told.holds e h.0)) (λ h. q.1 h.1))
    go false e = rw (unless-false k, first_some k rest (eqb-false k 0 ne)) (λ h. inl (told.fails e, sym h), ⊎_elim (λ h. sym h.1) (λ h. absurd (h.0 (told.fails e))))

-- one refusal more by a choice
pub picked : {ok : Bool} {A : Type 0} {rest n : ℕ} {Q : Type 0} (k : ℕ) → Told ok A → (rest ≡ n ↔ Q) → (pick ok rest k ≡ n) ↔ ((A × (n ≡ k)) ⊎ (¬ A × Q))
picked {ok = true} k t q = (λ e. inr (t.holds refl, q.0 e), ⊎_elim (λ h. absurd (t.holds refl h.0)) (λ h. q.1 h.1))
picked {ok = false} k t q = (λ e. inl (t.fails refl, sym e), ⊎_elim (λ h. sym h.1) (λ h. absurd (h.0 (t.fails refl))))

-- the last refusal
pub last : {ok : Bool} {A : Type 0} (n k : ℕ) → eqb k 0 ≡ false → Told ok A → (unless ok k ≡ n) ↔ Given (check k A ∷ []) n
last {ok} n k ne told = rw (← (first-right (unless ok k))) (step k ne told (sym, sym))

-- the chain's number may be written another way
pub rewritten : {a b n : ℕ} {Q : Type 0} → a ≡ b → (b ≡ n ↔ Q) → (a ≡ n ↔ Q)
rewritten p q = (λ e. q.0 (sym p ∙ e), λ h. p ∙ q.1 h)

-- a chain in front of a chain is one chain
pub first-assoc : (a b d : ℕ) → first (first a b) d ≡ first a (first b d)
unfolding first
first-assoc zero b d = refl
first-assoc (suc a) b d = rw (eqb-suc-zero a, eqb-suc-zero a)

-- where a chain refuses nothing, neither part does
pub first-none-left : (a b : ℕ) → first a b ≡ 0 → a ≡ 0
first-none-left zero b e = refl
first-none-left (suc a) b e = sym (first_some (suc a) b (omega arith)) ∙ e

pub first-none-right : (a b : ℕ) → first a b ≡ 0 → b ≡ 0
first-none-right a b e = sym (first-none a b (first-none-left a b e)) ∙ e

-- and its tests hold
pub unless-none : {ok : Bool} (k : ℕ) → eqb k 0 ≡ false → unless ok k ≡ 0 → ok ≡ true
unless-none {ok = true} k ne e = refl
unless-none {ok = false} k ne e = absurd (eqb-false k 0 ne (sym (unless-false k) ∙ e))

-- a number that is none of theirs they never give
pub never : (n : ℕ) (ks : List Check) → foreign n ks ≡ true → ¬ (Given ks n)
never n [] h = λ e. eqb-false n 0 (not-true (eqb n 0) h) e
never n (k ∷ ks) h =
    ⊎_elim
    (λ g. eqb-false n k.number (not-true (eqb n k.number) (both_left (not (eqb n k.number)) (foreign n ks) h)) g.1)
    (λ g. never n ks (both_right (not (eqb n k.number)) (foreign n ks) h) g.1)

-- n is given exactly under the words that its checks compute to
pub exactly : (ks : List Check) (n : ℕ) → Given ks n ↔ Exactly ks n
exactly [] n = Iff.rfl
exactly (k ∷ ks) n = go (eqb n k.number) refl (foreign n ks) refl (exactly ks n)
  where
    go : (has : Bool) → eqb n k.number ≡ has → (alone : Bool) → foreign n ks ≡ alone → (Given ks n ↔ Exactly ks n)
        → Given (k ∷ ks) n ↔ InFront has alone k.applies (¬ k.applies × Exactly ks n)
    go true e true f q = (⊎_elim (λ g. g.0) (λ g. absurd (never n ks f g.1)), λ a. inl (a, eqb-true n k.number e))
    go true e false f q = (
      ⊎_elim (λ g. inl g.0) (λ g. inr (g.0, q.0 g.1)),
      ⊎_elim (λ a. inl (a, eqb-true n k.number e)) (λ g. inr (g.0, q.1 g.1)),
    )
    go false e alone f q = (
      ⊎_elim (λ g. absurd (eqb-false n k.number e g.1)) (λ g. (g.0, q.0 g.1)),
      λ h. inr (h.0, q.1 h.1),
    )

-- a call that gives a number by its checks gives it under those words
pub worded : {x : ℕ} (ks : List Check) (n : ℕ) → (x ≡ n ↔ Given ks n) → (x ≡ n ↔ Exactly ks n)
worded ks n q = Iff.trans q (exactly ks n)

-- a number that is given exactly under a condition has it for its one check
pub single : {x : ℕ} {A : Type 0} (n : ℕ) → eqb n 0 ≡ false → (x ≡ n ↔ A) → (x ≡ n ↔ Given (check n A ∷ []) n)
single n ne q = (λ e. inl (q.0 e, refl), ⊎_elim (λ g. q.1 g.0) (λ g. absurd (eqb-false n 0 ne g.1)))

-- behind one check what is said of the later ones may be written another way
pub later-alike : {A G H : Type 0} {n k : ℕ} → (G ↔ H) → ((A × (n ≡ k)) ⊎ (¬ A × G)) ↔ ((A × (n ≡ k)) ⊎ (¬ A × H))
later-alike q = (⊎_elim inl (λ h. inr (h.0, q.0 h.1)), ⊎_elim inl (λ h. inr (h.0, q.1 h.1)))

-- a number that is none of some checks' is not 0
foreign-some : (n : ℕ) (ks : List Check) → foreign n ks ≡ true → ¬ (n ≡ 0)
foreign-some n [] h = eqb-false n 0 (not-true (eqb n 0) h)
foreign-some n (k ∷ ks) h = foreign-some n ks (both_right (not (eqb n k.number)) (foreign n ks) h)

-- so it is given by those before them alone
pub behind : (n : ℕ) (ks ks' : List Check) → foreign n ks' ≡ true → Given (ks ++ ks') n ↔ Given ks n
behind n [] ks' h = (λ g. absurd (never n ks' h g), λ e. absurd (foreign-some n ks' h e))
behind n (k ∷ ks) ks' h = later-alike (behind n ks ks' h)

-- whether no check of some has a number over k
abbrev pub up_to : ℕ → List Check → Bool
up_to k [] = true
up_to k (c ∷ cs) = leb c.number k && up_to k cs

-- such checks give none over k
pub given-most : {n : ℕ} (k : ℕ) (ks : List Check) → up_to k ks ≡ true → Given ks n → n ≤ k
given-most k [] h = λ e. omega (arith, e)
given-most k (c ∷ cs) h =
    ⊎_elim
    (λ g. omega (arith, g.1, leb-true c.number k (both_left (leb c.number k) (up_to k cs) h)))
    (λ g. given-most k cs (both_right (leb c.number k) (up_to k cs) h) g.1)

-- the first check, where those behind it give none so large
pub first-largest : {x : ℕ} {A : Type 0} (k n : ℕ) (ks : List Check) → up_to k ks ≡ true → k < n → ((x ≡ n) ↔ Given (check n A ∷ ks) n) → (x ≡ n) ↔ A
first-largest k n ks h l q = (λ e. ⊎_elim (λ g. g.0) (λ g. absurd (omega (arith, l, given-most k ks h g.1))) (q.0 e), λ a. q.1 (inl (a, refl)))

-- whichever of two lists is taken
pub up-to-either : (k : ℕ) (b : Bool) (ks ks' : List Check) → up_to k ks ≡ true → up_to k ks' ≡ true → up_to k (pick b ks ks') ≡ true
up-to-either k true ks ks' h h' = h
up-to-either k false ks ks' h h' = h'

-- ---- tests joined

pub told-ltb : (a b : ℕ) → Told (ltb a b) (b ≤ a)
told-ltb a b = record { holds = λ e h. omega (arith, ltb-true a b e); fails = λ e. ltb-false a b e }

pub told-leb : (a b : ℕ) → Told (leb a b) (b < a)
told-leb a b = record { holds = λ e h. omega (arith, leb-true a b e); fails = λ e. leb-false a b e }

pub told-eqb : (a b : ℕ) → Told (eqb a b) (¬ (a ≡ b))
told-eqb a b = record { holds = λ e h. h (eqb-true a b e); fails = λ e. eqb-false a b e }

pub told-true : {A : Type 0} → ¬ A → Told true A
told-true h = record { holds = λ e. h; fails = λ e. apart e }

pub told-false : {A : Type 0} → A → Told false A
told-false h = record { holds = λ e. apart (sym e); fails = λ e. h }

-- a test fails exactly under its condition
pub told-exactly : {ok : Bool} {A : Type 0} → Told ok A → (ok ≡ false) ↔ A
told-exactly {ok = true} t = (λ e. apart e, λ h. absurd (t.holds refl h))
told-exactly {ok = false} t = (t.fails, λ h. refl)

pub told_and : {a b : Bool} {A B : Type 0} → Told a A → Told b B → Told (a && b) (A ⊎ B)
told_and {a = true} t u = record { holds = λ e. ⊎_elim (t.holds refl) (u.holds e); fails = λ e. inr (u.fails e) }
told_and {a = false} t u = record { holds = λ e. apart (sym e); fails = λ e. inl (t.fails refl) }

pub told-or : {a b : Bool} {A B : Type 0} → Told a A → Told b B → Told (a || b) (A × B)
told-or {a = true} t u = record { holds = λ e h. t.holds refl h.0; fails = λ e. apart e }
told-or {a = false} t u = record { holds = λ e h. u.holds e h.1; fails = λ e. (t.fails refl, u.fails e) }

pub told-not-eqb : (a b : ℕ) → Told (not (eqb a b)) (a ≡ b)
told-not-eqb a b = record { holds = λ e. eqb-false a b (not-true (eqb a b) e); fails = λ e. eqb-true a b (not-false (eqb a b) e) }

-- ---- 11, 10, 2

pub told-limits : (m : Buffers) → Told (within_limits m) (TooLong m)
unfolding within_limits limit_of
told-limits m = told_and (told-leb (length m.sys) 1048576) (told-leb (length m.io) 65536)

all_below : List ℕ → Bool
all_below [] = true
all_below (a ∷ rest) = ltb a 1048576 && all_below rest

told_below : (l : List ℕ) → Told (all_below l) (SomePast l)
unfolding all_below
told_below [] = told-true (λ h. h)
told_below (a ∷ rest) = told_and (told-ltb a 1048576) (told_below rest)

pub told-sound : (s : State) → Told (sound s) (NotSound s)
unfolding sound sound_channel all_below
told-sound s = simp and_assoc (simp and-true at (told_below (pointers_of s.first ++ (pointers_of s.second ++ (s.cp ∷ [])))))

pub told-touchable : (m : Buffers) (ps : List Place) → Told (all_touchable m ps) (Beyond m ps)
unfolding all_pass touchable_at lent_at index_of limit_of space_of
told-touchable m [] = told-true (λ h. h)
told-touchable m (p ∷ ps) = told_and (one p.tag) (told-touchable m ps)
  where
    one : (tag : Bool) → Told (touchable_at m tag p.address) ((tag ≡ false) × (length m.sys ≤ p.address % 1048576))
    one true = told-true (λ h. apart h.0)
    one false =
        let t = told-ltb (p.address % 1048576) (length m.sys) in
        record { holds = λ e h. t.holds e h.1; fails = λ e. (refl, t.fails e) }

-- ---- modes

pub running-is : (mode : Mode) → is_running mode ≡ true → mode ≡ Running
unfolding is_running
running-is Idle e = apart (sym e)
running-is Running e = refl
running-is Suspended e = apart (sym e)

pub told-running : (mode : Mode) → Told (is_running mode) (¬ (mode ≡ Running))
unfolding is_running
told-running mode = record { holds = λ e h. h (running-is mode e); fails = λ e q. apart (sym (ap is_running q) ∙ e) }

pub suspended-is : (mode : Mode) → is_suspended mode ≡ true → mode ≡ Suspended
unfolding is_suspended
suspended-is Idle e = apart (sym e)
suspended-is Running e = apart (sym e)
suspended-is Suspended e = refl

pub told-suspended : (mode : Mode) → Told (is_suspended mode) (¬ (mode ≡ Suspended))
unfolding is_suspended
told-suspended mode = record { holds = λ e h. h (suspended-is mode e); fails = λ e q. apart (sym (ap is_suspended q) ∙ e) }

pub told-not-running : (mode : Mode) → Told (not (is_running mode)) (mode ≡ Running)
unfolding is_running
told-not-running mode = record {
  holds = λ e q. apart (sym (ap is_running q) ∙ not-true (is_running mode) e);
  fails = λ e. running-is mode (not-false (is_running mode) e);
}

-- ---- tests that hold under a condition

pub says-true : (b : Bool) → Says b (b ≡ true)
says-true b = record { holds = λ e. e; fails = λ e h. apart (sym h ∙ e) }

pub says-false : (b : Bool) → Says (not b) (b ≡ false)
says-false b = record { holds = λ e. not-true b e; fails = λ e h. apart (sym (not-false b e) ∙ h) }

pub says-eqb : (a b : ℕ) → Says (eqb a b) (a ≡ b)
says-eqb a b = record { holds = λ e. eqb-true a b e; fails = λ e. eqb-false a b e }

pub says-running : (mode : Mode) → Says (is_running mode) (mode ≡ Running)
unfolding is_running
says-running mode = record { holds = λ e. running-is mode e; fails = λ e q. apart (sym (ap is_running q) ∙ e) }

pub says-not : {a : Bool} {A : Type 0} → Says a A → Says (not a) (¬ A)
says-not {a = true} s = record { holds = λ e. apart (sym e); fails = λ e h. h (s.holds refl) }
says-not {a = false} s = record { holds = λ e. s.fails refl; fails = λ e. apart e }

pub says-and : {a b : Bool} {A B : Type 0} → Says a A → Says b B → Says (a && b) (A × B)
says-and {a = true} s u = record { holds = λ e. (s.holds refl, u.holds e); fails = λ e h. u.fails e h.1 }
says-and {a = false} s u = record { holds = λ e. apart (sym e); fails = λ e h. s.fails refl h.0 }

pub says-or : {a b : Bool} {A B : Type 0} → Says a A → Says b B → Says (a || b) (A ⊎ B)
says-or {a = true} s u = record { holds = λ e. inl (s.holds refl); fails = λ e. apart e }
says-or {a = false} s u = record { holds = λ e. inr (u.holds e); fails = λ e. ⊎_elim (s.fails refl) (u.fails e) }

-- the condition decides the test
pub says-yes : {a : Bool} {A : Type 0} → Says a A → A → a ≡ true
says-yes {a = true} s h = refl
says-yes {a = false} s h = absurd (s.fails refl h)

pub says-no : {a : Bool} {A : Type 0} → Says a A → ¬ A → a ≡ false
says-no {a = true} s h = absurd (h (s.holds refl))
says-no {a = false} s h = refl

-- a test for the opposite of a check's condition
pub told-by : {a : Bool} {A : Type 0} → Says a A → Told (not a) A
told-by {a = true} s = record { holds = λ e. apart (sym e); fails = λ e. s.holds refl }
told-by {a = false} s = record { holds = λ e. s.fails refl; fails = λ e. apart e }
