-- The laws of told reads and stores, of lists told stage by stage, and of what is told in memories of the same lengths.
-- Assumes nothing.
use Prim.Native.Nat.{ℕ, ◌-◌}
use lib.Dec.{eqb, ltb}
use lib.ListN.{length}
use mathlib.Core.Bool.{Bool, true, false, ◌&&◌, ◌||◌}
use mathlib.Core.List.{List, [], ◌∷◌, ◌++◌, append-nil}
use mathlib.Core.Path.{◌≡◌, refl, ap, ap₂, ◌∙◌}
use Rattle.ground_rules.specs.Buffers.{Buffers, index_of, lent_at, touchable_at}
use Rattle.ground_rules.specs.Choice.{pick}
use Rattle.ground_rules.specs.Places.{Place, all_touchable}
use Rattle.ground_rules.specs.Stages.{Stage}
use Rattle.promises_counts.proofs.AgreeLaws.{touchable-same}
use Rattle.promises_counts.specs.Complete.{SameLengths}
use Rattle.touch_rules.proofs.ToldLaws.{told_up_to}
use Rattle.touch_rules.specs.Told.{Told, told_beyond, told_reads, told_stores, told_apart, first_beyond, stages_places, stages_reached, told_in_stages}
use Rattle.promises_touches.specs.Words.{told_read_places, told_store_places}

-- ---- a mark changes neither

pub read-marked : (m : Buffers) (ts : List Told) → told_read_places (first_beyond m ts) ≡ told_read_places ts
unfolding told_read_places first_beyond
read-marked m [] = refl
read-marked m (t ∷ ts) = go (touchable_at m t.place.tag t.place.address) (read-marked m ts)
  where
    go : (b : Bool) → told_read_places (first_beyond m ts) ≡ told_read_places ts
        → told_read_places (pick b (t ∷ first_beyond m ts) (told_beyond t ∷ ts)) ≡ pick t.store (told_read_places ts) (t.place ∷ told_read_places ts)
    go true e = ap (λ (ps : List Place). pick t.store ps (t.place ∷ ps)) e
    go false e = refl

pub stored-marked : (m : Buffers) (ts : List Told) → told_store_places (first_beyond m ts) ≡ told_store_places ts
unfolding told_store_places first_beyond
stored-marked m [] = refl
stored-marked m (t ∷ ts) = go (touchable_at m t.place.tag t.place.address) (stored-marked m ts)
  where
    go : (b : Bool) → told_store_places (first_beyond m ts) ≡ told_store_places ts
        → told_store_places (pick b (t ∷ first_beyond m ts) (told_beyond t ∷ ts)) ≡ pick t.store (t.place ∷ told_store_places ts) (told_store_places ts)
    go true e = ap (λ (ps : List Place). pick t.store (t.place ∷ ps) ps) e
    go false e = refl

-- ---- reads and stores of a list told stage by stage

reads-front : (ps : List Place) (ts : List Told) → told_read_places (told_reads ps ++ ts) ≡ ps ++ told_read_places ts
unfolding told_read_places told_reads
reads-front [] ts = refl
reads-front (p ∷ ps) ts = ap (λ (qs : List Place). p ∷ qs) (reads-front ps ts)

stores-none : (ps : List Place) (ts : List Told) → told_store_places (told_reads ps ++ ts) ≡ told_store_places ts
unfolding told_store_places told_reads
stores-none [] ts = refl
stores-none (p ∷ ps) ts = stores-none ps ts

reads_none : (ps : List Place) → told_read_places (told_stores ps) ≡ []
unfolding told_read_places told_stores
reads_none [] = refl
reads_none (p ∷ ps) = reads_none ps

stores-all : (ps : List Place) → told_store_places (told_stores ps) ≡ ps
unfolding told_store_places told_stores
stores-all [] = refl
stores-all (p ∷ ps) = ap (λ (qs : List Place). p ∷ qs) (stores-all ps)

-- what is read up to where it stops
unfoldable pub read_up_to : Buffers → List Stage → List Place → List Place
read_up_to m [] reads = reads
read_up_to m (s ∷ rest) reads = s.places ++ pick (all_touchable m s.places && eqb s.judged 0) (read_up_to m rest reads) []

-- what is stored, where it does not stop before
unfoldable pub stored_up_to : Buffers → List Stage → List Place → List Place
stored_up_to m [] stores = stores
stored_up_to m (s ∷ rest) stores = pick (all_touchable m s.places && eqb s.judged 0) (stored_up_to m rest stores) []

module _ (m : Buffers) (reads stores : List Place) where
  read-up-to : (ss : List Stage) → told_read_places (told_up_to m ss reads stores) ≡ read_up_to m ss reads
  unfolding told_up_to read_up_to told_read_places
  read-up-to [] = reads-front reads (told_stores stores) ∙ ap (λ (ps : List Place). reads ++ ps) (reads_none stores) ∙ append-nil reads
  read-up-to (s ∷ rest) =
      reads-front s.places _
      ∙ ap (λ (ps : List Place). s.places ++ ps) (go (all_touchable m s.places && eqb s.judged 0) ∙ ap (λ (ps : List Place). pick (all_touchable m s.places && eqb s.judged 0) ps []) (read-up-to rest))
    where
      go : (b : Bool) → told_read_places (pick b (told_up_to m rest reads stores) []) ≡ pick b (told_read_places (told_up_to m rest reads stores)) []
      go true = refl
      go false = refl

  stored-up-to : (ss : List Stage) → told_store_places (told_up_to m ss reads stores) ≡ stored_up_to m ss stores
  unfolding told_up_to stored_up_to told_store_places
  stored-up-to [] = stores-none reads (told_stores stores) ∙ stores-all stores
  stored-up-to (s ∷ rest) =
      stores-none s.places _
      ∙ go (all_touchable m s.places && eqb s.judged 0)
      ∙ ap (λ (ps : List Place). pick (all_touchable m s.places && eqb s.judged 0) ps []) (stored-up-to rest)
    where
      go : (b : Bool) → told_store_places (pick b (told_up_to m rest reads stores) []) ≡ pick b (told_store_places (told_up_to m rest reads stores)) []
      go true = refl
      go false = refl

  -- with the place marked at which it stops
  pub read-stages : (ss : List Stage) (ts : List Told) → ts ≡ first_beyond m (told_up_to m ss reads stores) → told_read_places ts ≡ read_up_to m ss reads
  read-stages ss ts e = ap told_read_places e ∙ read-marked m (told_up_to m ss reads stores) ∙ read-up-to ss

  pub stored-stages : (ss : List Stage) (ts : List Told) → ts ≡ first_beyond m (told_up_to m ss reads stores) → told_store_places ts ≡ stored_up_to m ss stores
  stored-stages ss ts e = ap told_store_places e ∙ stored-marked m (told_up_to m ss reads stores) ∙ stored-up-to ss

-- ---- in memories of the same lengths

module _ (m n : Buffers) (l : SameLengths m n) where
  place_same : (p : Place) → touchable_at n p.tag p.address ≡ touchable_at m p.tag p.address
  unfolding touchable_at lent_at
  place_same p = ap (λ (k : ℕ). p.tag || ltb (index_of p.tag p.address) k) (l p.tag)

  -- the same place is marked
  pub beyond-same : (ts : List Told) → first_beyond n ts ≡ first_beyond m ts
  unfolding first_beyond
  beyond-same [] = refl
  beyond-same (t ∷ ts) = ap₂ (λ (b : Bool) (us : List Told). pick b (t ∷ us) (told_beyond t ∷ ts)) (place_same t.place) (beyond-same ts)

  -- the same stages are reached
  pub reached-same : (ss : List Stage) → stages_reached n ss ≡ stages_reached m ss
  unfolding stages_reached
  reached-same [] = refl
  reached-same (s ∷ rest) = ap₂ (λ (b : Bool) (ps : List Place). s.places ++ pick (b && eqb s.judged 0) ps []) (touchable-same m n l s.places) (reached-same rest)

  -- so of the same stages the same is told
  pub stages-told : (ss : List Stage) (stores : List Place) → told_in_stages n ss stores ≡ told_in_stages m ss stores
  unfolding told_in_stages
  stages-told ss stores =
      beyond-same (told_apart (length (stages_places ss) - length stores) (stages_reached n ss))
      ∙ ap (λ (ps : List Place). first_beyond m (told_apart (length (stages_places ss) - length stores) ps)) (reached-same ss)
