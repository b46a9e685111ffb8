-- Every call that is told beforehand has a number by what it is given and then stages; what follows from that alone.
-- Assumes nothing.
use Prim.Native.Nat.{ℕ, zero, suc, ◌-◌, ◌%◌, ◌≤◌}
use borrow.Author.Tests.{eq-eqb, ne_eqb, ltb-false}
use lib.Dec.{eqb, eqb-suc-zero}
use lib.ListN.{length, length-append}
use mathlib.Core.Bool.{Bool, true, false, not, ◌&&◌}
use mathlib.Core.List.{List, [], ◌∷◌, ◌++◌}
use mathlib.Core.Logic.{◌↔◌}
use mathlib.Core.Path.{◌≡◌, refl, sym, ap, subst, ◌∙◌}
use native.Mathlib.Decide.{ℕ_discrete}
use native.Mathlib.Omega.{arith}
use Rattle.ground_rules.proofs.ChoiceLaws.{apart}
use Rattle.ground_rules.specs.Buffers.{Buffers, space_of, limit_of, index_of, lent_at, touchable_at}
use Rattle.ground_rules.specs.Choice.{pick}
use Rattle.ground_rules.specs.Outcomes.{unless, first}
use Rattle.ground_rules.specs.Places.{Place, all_pass, all_touchable}
use Rattle.ground_rules.specs.Stages.{Stage, stages_number, stages_touched}
use Rattle.touch_rules.proofs.ToldLaws.{told-length, reached-touched, reached-touchable}
use Rattle.touch_rules.specs.Told.{Told, told_beyond, told_apart, first_beyond, stages_places, stages_reached, told_in_stages}
use Rattle.promises_touches.specs.Stops.{NoneMarked, StopsAt, StopTold}

-- a call by what it is given and by its stages
pub record Staged (number : ℕ) (m : Buffers) (stages : List Stage) (stores : List Place) (told : List Told) : Type 0 where
  pub given : ℕ
  pub numbered : number ≡ first given (stages_number m stages)
  pub listed : told ≡ pick (eqb given 0) (told_in_stages m stages stores) []
  -- what it is given is not refused by 2, and its stages are where one of their bytes may not be touched
  pub given_else : ¬ (given ≡ 2)
  pub two_where : (stages_number m stages ≡ 2) ↔ (all_touchable m (stages_touched stages) ≡ false)

-- ---- a done call

first-both : (a b : ℕ) → first a b ≡ 0 → (a ≡ 0) × (b ≡ 0)
unfolding first
first-both zero b e = (refl, e)
first-both (suc k) b e = absurd (omega (arith, rw (eqb-suc-zero k) at e))

-- all of its stages are reached, and they are what it touches
pub done-touched : (m : Buffers) (ss : List Stage) → stages_number m ss ≡ 0 → stages_touched ss ≡ stages_places ss
unfolding stages_number stages_touched stages_places first
done-touched m [] e = refl
done-touched m (s ∷ rest) e =
    let a = first-both (unless (all_touchable m s.places) 2) (first s.judged (stages_number m rest)) e in
    let b = first-both s.judged (stages_number m rest) a.1 in
    rw (eq-eqb s.judged 0 b.0) (ap (λ (ps : List Place). s.places ++ ps) (done-touched m rest b.1))

-- no more places are reached than the stages have
pub reached-most : (m : Buffers) (ss : List Stage) → length (stages_reached m ss) ≤ length (stages_places ss)
unfolding stages_reached stages_places
reached-most m [] = omega arith
reached-most m (s ∷ rest) = go (all_touchable m s.places && eqb s.judged 0) (reached-most m rest)
  where
    go : (b : Bool) → length (stages_reached m rest) ≤ length (stages_places rest) → length (s.places ++ pick b (stages_reached m rest) []) ≤ length (s.places ++ stages_places rest)
    go true h = omega (arith, length-append s.places (stages_reached m rest), length-append s.places (stages_places rest))
    go false h = omega (arith, length-append s.places [], length-append s.places (stages_places rest))

-- ---- which place is marked

apart-unmarked : (n : ℕ) (ps : List Place) → NoneMarked (told_apart n ps)
unfolding told_apart
apart-unmarked n [] = tt
apart-unmarked zero (p ∷ ps) = (refl, apart-unmarked zero ps)
apart-unmarked (suc n) (p ∷ ps) = (refl, apart-unmarked n ps)

-- whether all places of a told list may be touched
free_all : Buffers → List Told → Bool
free_all m [] = true
free_all m (t ∷ ts) = touchable_at m t.place.tag t.place.address && free_all m ts

apart-free : (m : Buffers) (n : ℕ) (ps : List Place) → free_all m (told_apart n ps) ≡ all_touchable m ps
unfolding told_apart free_all all_pass
apart-free m n [] = refl
apart-free m zero (p ∷ ps) = ap (λ (b : Bool). touchable_at m p.tag p.address && b) (apart-free m zero ps)
apart-free m (suc n) (p ∷ ps) = ap (λ (b : Bool). touchable_at m p.tag p.address && b) (apart-free m n ps)

-- where all may be touched nothing is marked
none-marked : (m : Buffers) (ts : List Told) → NoneMarked ts → free_all m ts ≡ true → NoneMarked (first_beyond m ts)
unfolding free_all first_beyond
none-marked m [] u e = tt
none-marked m (t ∷ ts) u e = go (touchable_at m t.place.tag t.place.address) e (none-marked m ts u.1)
  where
    go : (b : Bool) → b && free_all m ts ≡ true → (free_all m ts ≡ true → NoneMarked (first_beyond m ts)) → NoneMarked (pick b (t ∷ first_beyond m ts) (told_beyond t ∷ ts))
    go true e f = (u.0, f e)
    go false e f = apart (sym e)

-- a byte that may not be touched lies in system space, at or past the lent end
beyond-system : (m : Buffers) (t : Bool) (a : ℕ) → touchable_at m t a ≡ false → (t ≡ false) × (length m.sys ≤ a % 1048576)
unfolding touchable_at lent_at index_of limit_of space_of
beyond-system m true a e = apart e
beyond-system m false a e = (refl, ltb-false (a % 1048576) (length m.sys) e)

-- where one may not be, the first such is marked
some-marked : (m : Buffers) (ts : List Told) → NoneMarked ts → free_all m ts ≡ false → StopsAt m (first_beyond m ts)
unfolding free_all first_beyond
some-marked m [] u e = apart e
some-marked m (t ∷ ts) u e = go (touchable_at m t.place.tag t.place.address) refl e (some-marked m ts u.1)
  where
    go : (b : Bool) → touchable_at m t.place.tag t.place.address ≡ b → b && free_all m ts ≡ false → (free_all m ts ≡ false → StopsAt m (first_beyond m ts))
        → StopsAt m (pick b (t ∷ first_beyond m ts) (told_beyond t ∷ ts))
    go true is e f =
        let r = f e in
        record {
          before = t ∷ r.before;
          stop = r.stop;
          behind = r.behind;
          listed = ap (λ (us : List Told). t ∷ us) r.listed;
          marked = r.marked;
          system = r.system;
          past = r.past;
          free = (is, r.free);
          first = (u.0, r.first);
          last = r.last;
        }
    go false is e f =
        record {
          before = [];
          stop = told_beyond t;
          behind = ts;
          listed = refl;
          marked = refl;
          system = (beyond-system m t.place.tag t.place.address is).0;
          past = (beyond-system m t.place.tag t.place.address is).1;
          free = tt;
          first = tt;
          last = u.1;
        }

-- of stages: a place is marked exactly where the number is 2
stages-stop : (m : Buffers) (ss : List Stage) (stores : List Place) → (stages_number m ss ≡ 2) ↔ (all_touchable m (stages_touched ss) ≡ false) → StopTold (stages_number m ss) m (told_in_stages m ss stores)
unfolding told_in_stages
stages-stop m ss stores h =
    record {
      two = λ e. some-marked m _ (apart-unmarked _ (stages_reached m ss)) (all-free ∙ h.0 e);
      other = λ ne. none-marked m _ (apart-unmarked _ (stages_reached m ss)) (all-free ∙ not-two (all_touchable m (stages_touched ss)) refl ne);
    }
  where
    all-free : free_all m (told_apart (length (stages_places ss) - length stores) (stages_reached m ss)) ≡ all_touchable m (stages_touched ss)
    all-free = apart-free m _ (stages_reached m ss) ∙ reached-touchable m ss

    not-two : (b : Bool) → all_touchable m (stages_touched ss) ≡ b → ¬ (stages_number m ss ≡ 2) → all_touchable m (stages_touched ss) ≡ true
    not-two true e ne = e
    not-two false e ne = absurd (ne (h.1 e))

-- ---- of a staged call

module _ {number : ℕ} {m : Buffers} {stages : List Stage} {stores : List Place} {told : List Told} (c : Staged number m stages stores told) where
  -- where what is given refuses, nothing is told, and the number is that
  pub given-refused : ¬ (c.given ≡ 0) → (told ≡ []) × (number ≡ c.given)
  unfolding first
  given-refused ne = (c.listed ∙ rw (ne_eqb c.given 0 ne), c.numbered ∙ rw (ne_eqb c.given 0 ne))

  -- where it does not, both come of the stages
  pub given-passed : c.given ≡ 0 → (told ≡ told_in_stages m stages stores) × (number ≡ stages_number m stages)
  unfolding first
  given-passed z = (c.listed ∙ rw (eq-eqb c.given 0 z), c.numbered ∙ rw (eq-eqb c.given 0 z))

  -- a done call tells as many places as its stages touch
  pub staged-length : number ≡ 0 → (length told ≡ length (stages_touched stages)) × (stages_touched stages ≡ stages_places stages)
  staged-length e =
      let b = first-both c.given (stages_number m stages) (sym c.numbered ∙ e) in
      let none : ¬ (stages_number m stages ≡ 2) = λ q. absurd (omega (arith, q, b.1)) in
      (ap length (given-passed b.0).0 ∙ told-length m stages stores ∙ ap length (reached-touched m stages none), done-touched m stages b.1)

  -- no call tells more than its stages have
  pub staged-most : (most : ℕ) → length (stages_places stages) ≤ most → length told ≤ most
  staged-most most h = subst (λ (ts : List Told). length ts ≤ most) (sym c.listed) (go (eqb c.given 0))
    where
      go : (b : Bool) → length (pick b (told_in_stages m stages stores) []) ≤ most
      go true = omega (arith, h, told-length m stages stores, reached-most m stages)
      go false = omega arith

  -- and a place is marked exactly where it is refused by 2
  pub staged-stop : StopTold number m told
  staged-stop = go (ℕ_discrete c.given 0)
    where
      go : Dec (c.given ≡ 0) → StopTold number m told
      go (yes z) =
          let p = given-passed z in
          rw (p.0, p.1) (stages-stop m stages stores c.two_where)
      go (no ne) =
          let p = given-refused ne in
          record {
            two = λ e. absurd (c.given_else (sym p.1 ∙ e));
            other = λ q. subst (λ (ts : List Told). NoneMarked ts) (sym p.0) tt;
          }
