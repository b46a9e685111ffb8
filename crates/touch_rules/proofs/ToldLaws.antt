-- The laws of telling: reads and then stores, stage by stage; how many; and that a call that is not refused by 2 reaches what it touches.
-- Assumes nothing.
use Prim.Native.Nat.{ℕ, zero, suc, ◌+◌, ◌-◌}
use lib.Dec.{eqb, eqb-suc-zero}
use lib.ListN.{length, length-append}
use mathlib.Core.Bool.{Bool, true, false, ◌&&◌}
use mathlib.Core.List.{List, [], ◌∷◌, ◌++◌, append-nil}
use mathlib.Core.Path.{◌≡◌, refl, sym, ap, ◌∙◌}
use native.Mathlib.Omega.{arith}
use Rattle.ground_rules.proofs.ChoiceLaws.{pick_same, apart}
use Rattle.ground_rules.proofs.SpanLaws.{all_append}
use Rattle.ground_rules.specs.Buffers.{Buffers, touchable_at}
use Rattle.ground_rules.specs.Choice.{pick}
use Rattle.ground_rules.specs.Outcomes.{unless, first}
use Rattle.ground_rules.specs.Places.{Place, all_touchable}
use Rattle.ground_rules.specs.Stages.{Stage, stage, stages_number, stages_touched}
use Rattle.touch_rules.specs.Told.{Told, told_read, told_store, told_beyond, told_reads, told_stores, told_apart, first_beyond, stages_places, stages_reached, told_in_stages}

-- ---- reads and stores apart

-- so many places that are read come first
pub apart-front : (ps : List Place) (k n : ℕ) (qs : List Place) → n ≡ length ps + k → told_apart n (ps ++ qs) ≡ told_reads ps ++ told_apart k qs
unfolding told_apart told_reads
apart-front [] k n qs e =
    let q : n ≡ k = omega (arith, e) in
    rw q
apart-front (p ∷ ps) k zero qs e = absurd (omega (arith, e))
apart-front (p ∷ ps) k (suc n) qs e = ap (λ (ts : List Told). told_read p ∷ ts) (apart-front ps k n qs (omega (arith, e)))

-- and all others are stored to
apart_none : (ps : List Place) → told_apart 0 ps ≡ told_stores ps
unfolding told_apart told_stores
apart_none [] = refl
apart_none (p ∷ ps) = ap (λ (ts : List Told). told_store p ∷ ts) (apart_none ps)

-- what is read, then what is stored
pub apart-both : (ps qs : List Place) → told_apart (length ps) (ps ++ qs) ≡ told_reads ps ++ told_stores qs
apart-both ps qs = apart-front ps 0 (length ps) qs (omega arith) ∙ ap (λ (ts : List Told). told_reads ps ++ ts) (apart_none qs)

apart-pick : (b : Bool) (n : ℕ) (ps : List Place) → told_apart n (pick b ps []) ≡ pick b (told_apart n ps) []
unfolding told_apart
apart-pick true n ps = refl
apart-pick false n ps = refl

-- ---- stage by stage

-- what is told of stages that are read alone and of a last one that is read and then stored to
unfoldable pub told_up_to : Buffers → List Stage → List Place → List Place → List Told
told_up_to m [] reads stores = told_reads reads ++ told_stores stores
told_up_to m (s ∷ rest) reads stores =
    told_reads s.places ++ pick (all_touchable m s.places && eqb s.judged 0) (told_up_to m rest reads stores) []

module _ (m : Buffers) (reads stores : List Place) where
  abbrev Last : List Stage
  Last = stage (reads ++ stores) 0 ∷ []

  last-reached : stages_reached m Last ≡ reads ++ stores
  unfolding stages_reached
  last-reached = simp (pick_same, append-nil)

  told-from : (ss : List Stage) (n : ℕ) → n ≡ length (stages_places ss) + length reads → told_apart n (stages_reached m (ss ++ Last)) ≡ told_up_to m ss reads stores
  unfolding stages_places stages_reached told_up_to
  told-from [] n e =
      let q : n ≡ length reads = omega (arith, e) in
      rw q (ap (told_apart (length reads)) last-reached ∙ apart-both reads stores)
  told-from (s ∷ ss) n e =
      let k = length (stages_places ss) + length reads in
      let b = all_touchable m s.places && eqb s.judged 0 in
      apart-front s.places k n (pick b (stages_reached m (ss ++ Last)) []) (omega (arith, e, length-append s.places (stages_places ss)))
      ∙ ap (λ (ts : List Told). told_reads s.places ++ ts) (apart-pick b k (stages_reached m (ss ++ Last)) ∙ ap (λ (ts : List Told). pick b ts []) (told-from ss k refl))

  all-places : (ss : List Stage) → length (stages_places (ss ++ Last)) ≡ length (stages_places ss) + length reads + length stores
  unfolding stages_places
  all-places [] = length-append (reads ++ stores) [] ∙ omega (arith, length-append reads stores)
  all-places (s ∷ ss) = length-append s.places (stages_places (ss ++ Last)) ∙ omega (arith, all-places ss, length-append s.places (stages_places ss))

  -- the list of stages told apart by how many places are stored to is the one told stage by stage
  pub told-up-to : (ss : List Stage) → told_in_stages m (ss ++ Last) stores ≡ first_beyond m (told_up_to m ss reads stores)
  unfolding told_in_stages
  told-up-to ss =
      ap (first_beyond m) (told-from ss (length (stages_places (ss ++ Last)) - length stores) (omega (arith, all-places ss)))

-- ---- how many

pub reads-length : (ps : List Place) → length (told_reads ps) ≡ length ps
unfolding told_reads
reads-length [] = refl
reads-length (p ∷ ps) = ap suc (reads-length ps)

apart-length : (n : ℕ) (ps : List Place) → length (told_apart n ps) ≡ length ps
unfolding told_apart
apart-length n [] = refl
apart-length zero (p ∷ ps) = ap suc (apart-length zero ps)
apart-length (suc n) (p ∷ ps) = ap suc (apart-length n ps)

pub beyond-length : (m : Buffers) (ts : List Told) → length (first_beyond m ts) ≡ length ts
unfolding first_beyond
beyond-length m [] = refl
beyond-length m (t ∷ ts) = go (touchable_at m t.place.tag t.place.address) (beyond-length m ts)
  where
    go : (b : Bool) → length (first_beyond m ts) ≡ length ts → length (pick b (t ∷ first_beyond m ts) (told_beyond t ∷ ts)) ≡ suc (length ts)
    go true e = ap suc e
    go false e = refl

-- as many places are told as are reached
pub told-length : (m : Buffers) (ss : List Stage) (stores : List Place) → length (told_in_stages m ss stores) ≡ length (stages_reached m ss)
unfolding told_in_stages
told-length m ss stores = beyond-length m _ ∙ apart-length _ (stages_reached m ss)

-- ---- what is reached

-- where 2 does not refuse, the places reached are those that the call touches
pub reached-touched : (m : Buffers) (ss : List Stage) → ¬ (stages_number m ss ≡ 2) → stages_reached m ss ≡ stages_touched ss
unfolding stages_number stages_reached stages_touched first unless
reached-touched m [] ne = refl
reached-touched m (s ∷ rest) ne = go (all_touchable m s.places) s.judged (reached-touched m rest) ne
  where
    go : (b : Bool) (j : ℕ) → (¬ (stages_number m rest ≡ 2) → stages_reached m rest ≡ stages_touched rest) → ¬ (first (unless b 2) (first j (stages_number m rest)) ≡ 2)
        → s.places ++ pick (b && eqb j 0) (stages_reached m rest) [] ≡ s.places ++ pick (eqb j 0) (stages_touched rest) []
    go false j q ne = absurd (ne refl)
    go true zero q ne = ap (λ (ps : List Place). s.places ++ ps) (q ne)
    go true (suc k) q ne = rw (eqb-suc-zero k)

-- and all of them may be touched exactly where all may be that it would touch
pub reached-touchable : (m : Buffers) (ss : List Stage) → all_touchable m (stages_reached m ss) ≡ all_touchable m (stages_touched ss)
unfolding stages_reached stages_touched
reached-touchable m [] = refl
reached-touchable m (s ∷ rest) =
    all_append (touchable_at m) s.places _ ∙ go (all_touchable m s.places) (eqb s.judged 0) (reached-touchable m rest) ∙ sym (all_append (touchable_at m) s.places _)
  where
    go : (b j : Bool) → all_touchable m (stages_reached m rest) ≡ all_touchable m (stages_touched rest) → b && all_touchable m (pick (b && j) (stages_reached m rest) []) ≡ b && all_touchable m (pick j (stages_touched rest) [])
    go false j e = refl
    go true false e = refl
    go true true e = e
