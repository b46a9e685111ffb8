-- Tests of lists: one of all of them fails exactly where it fails for one.
-- Assumes nothing.
use mathlib.Core.Path.{◌≡◌, refl, sym, ap, ◌∙◌}
use mathlib.Core.Bool.{Bool, true, false, ◌&&◌, ◌||◌, false≢true}
use mathlib.Core.List.Memᴰ.{head as here}
use mathlib.Core.List.Memᴰ.{tail as later}
use mathlib.Core.List.{List, [], ◌∷◌, ◌++◌, Memᴰ as In}
use mathlib.Core.Logic.{◌⊎◌, inl, inr, ◌↔◌}

-- where a test does not fail it holds
pub holds : (b : Bool) → (b ≡ false → ⊥) → b ≡ true
holds true h = refl
holds false h = absurd (h refl)

pub fails : (b : Bool) → (b ≡ true → ⊥) → b ≡ false
fails true h = absurd (h refl)
fails false h = refl

pub not-both : {A : Type 0} {b : Bool} → b ≡ true → b ≡ false → A
not-both h k = absurd (false≢true (sym k ∙ h))

pub either_true : (a b : Bool) → (a || b ≡ true) ↔ ((a ≡ true) ⊎ (b ≡ true))
either_true true b = (λ h. inl refl, λ x. refl)
either_true false b = (λ h. inr h, λ x. elim x [ inl h ↦ absurd (false≢true h) | inr h ↦ h ])

pub both_false : (a b : Bool) → (a && b ≡ false) ↔ ((a ≡ false) ⊎ (b ≡ false))
both_false true b = (λ h. inr h, λ x. elim x [ inl h ↦ absurd (false≢true (sym h)) | inr h ↦ h ])
both_false false b = (λ h. inl refl, λ x. refl)

abbrev pub every : {A : Type 0} → (A → Bool) → List A → Bool
every test [] = true
every test (a ∷ l) = test a && every test l

pub every-fails : {A : Type 0} (test : A → Bool) (l : List A) → (every test l ≡ false) ↔ ((a : A) × (In a l × (test a ≡ false)))
every-fails {A} test l = (finds l, λ x. one x.0 x.1.0 x.1.1)
  where
    finds : (l : List A) → every test l ≡ false → (a : A) × (In a l × (test a ≡ false))
    finds [] h = not-both refl h
    finds (a ∷ l) h = elim ((both_false (test a) (every test l)).0 h) [ inl e ↦ (a, (here refl, e)) | inr k ↦ let x = finds l k in (x.0, (later x.1.0, x.1.1)) ]

    one : (a : A) {l : List A} → In a l → test a ≡ false → every test l ≡ false
    one a (here {x = x} {xs = xs} e) h = (both_false (test x) (every test xs)).1 (inl (ap test (sym e) ∙ h))
    one a (later {x = x} {xs = xs} m) h = (both_false (test x) (every test xs)).1 (inr (one a m h))

pub every-both : {A : Type 0} (test : A → Bool) (k l : List A) → every test (k ++ l) ≡ every test k && every test l
every-both test [] l = refl
every-both test (a ∷ k) l = ap (λ (b : Bool). test a && b) (every-both test k l) ∙ regroup (test a) (every test k) (every test l)
  where
    regroup : (a b c : Bool) → a && (b && c) ≡ (a && b) && c
    regroup true b c = refl
    regroup false b c = refl

-- a test that asks for one of a list holds exactly where it holds of one
pub as_some : {A : Type 0} (test : A → Bool) (f : List A → Bool) → f [] ≡ false → ((a : A) (l : List A) → f (a ∷ l) ≡ test a || f l) → (l : List A) → (f l ≡ true) ↔ ((a : A) × (In a l × (test a ≡ true)))
as_some {A} test f h k l = (finds l, λ x. one x.0 x.1.0 x.1.1)
  where
    finds : (l : List A) → f l ≡ true → (a : A) × (In a l × (test a ≡ true))
    finds [] e = not-both e h
    finds (a ∷ l) e = elim ((either_true (test a) (f l)).0 (sym (k a l) ∙ e)) [ inl t ↦ (a, (here refl, t)) | inr g ↦ let x = finds l g in (x.0, (later x.1.0, x.1.1)) ]

    one : (a : A) {l : List A} → In a l → test a ≡ true → f l ≡ true
    one a (here {x = x} {xs = xs} e) t = k x xs ∙ (either_true (test x) (f xs)).1 (inl (ap test (sym e) ∙ t))
    one a (later {x = x} {xs = xs} m) t = k x xs ∙ (either_true (test x) (f xs)).1 (inr (one a m t))
