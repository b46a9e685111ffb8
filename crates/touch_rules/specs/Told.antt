-- Places told before a call is made: each with whether the call stores there, and whether it lies beyond the lent end, where the call stops (§17).
use Rattle.std.specs.Prelude.{Bool, true, false, ◌&&◌, List, [], ◌∷◌, ◌++◌, ℕ, zero, suc, ◌+◌, ◌-◌, eqb, length}
use Rattle.ground_rules.specs.Choice.{pick}
use Rattle.ground_rules.specs.Cc.{bit_worth}
use Rattle.ground_rules.specs.Buffers.{Buffers, index_of, touchable_at}
use Rattle.ground_rules.specs.Places.{Place, all_touchable}
use Rattle.ground_rules.specs.Stages.{Stage}

-- a place, whether it is stored to or else read, and whether it is the one that may not be touched
pub record Told : Type 0 where
  pub place : Place
  pub store : Bool
  pub beyond : Bool

-- a place that is read
abbrev pub told_read : Place → Told
told_read p = record { place = p; store = false; beyond = false }

-- a place that is stored to
abbrev pub told_store : Place → Told
told_store p = record { place = p; store = true; beyond = false }

-- the same place, marked as the one that may not be touched
abbrev pub told_beyond : Told → Told
told_beyond t = record { place = t.place; store = t.store; beyond = true }

-- places that are all read, and places that are all stored to
unfoldable pub told_reads : List Place → List Told
told_reads [] = []
told_reads (p ∷ ps) = told_read p ∷ told_reads ps

unfoldable pub told_stores : List Place → List Told
told_stores [] = []
told_stores (p ∷ ps) = told_store p ∷ told_stores ps

-- of some places so many are read, and those after them stored to
unfoldable pub told_apart : ℕ → List Place → List Told
told_apart reads [] = []
told_apart zero (p ∷ ps) = told_store p ∷ told_apart zero ps
told_apart (suc reads) (p ∷ ps) = told_read p ∷ told_apart reads ps

-- the first that may not be touched, marked; none where all may be (§17.3)
unfoldable pub first_beyond : Buffers → List Told → List Told
first_beyond m [] = []
first_beyond m (t ∷ ts) = pick (touchable_at m t.place.tag t.place.address) (t ∷ first_beyond m ts) (told_beyond t ∷ ts)

-- all places of some stages, whatever is judged
unfoldable pub stages_places : List Stage → List Place
stages_places [] = []
stages_places (s ∷ rest) = s.places ++ stages_places rest

-- those up to and with the stage where the call stops: a byte of it may not be touched, or what is judged there refuses (§17.3)
unfoldable pub stages_reached : Buffers → List Stage → List Place
stages_reached m [] = []
stages_reached m (s ∷ rest) = s.places ++ pick (all_touchable m s.places && eqb s.judged 0) (stages_reached m rest) []

-- what is told of a call in stages whose last places are those that it stores to (§17.2)
unfoldable pub told_in_stages : Buffers → List Stage → List Place → List Told
told_in_stages m stages stores = first_beyond m (told_apart (length (stages_places stages) - length stores) (stages_reached m stages))

-- a told place as one number: where its byte lies in its space in bits 0 to 19, I/O space in bit 20, a store in bit 21, beyond in bit 22 (§17.2)
unfoldable pub told_number : Told → ℕ
told_number t =
    index_of t.place.tag t.place.address
    + bit_worth t.place.tag 1048576
    + bit_worth t.store 2097152
    + bit_worth t.beyond 4194304

-- lent words after some places were told into them: from the first on, as far as there is room; the words behind stay (§17.4)
unfoldable pub places_told : List ℕ → List Told → List ℕ
places_told room [] = room
places_told [] (t ∷ ts) = []
places_told (w ∷ room) (t ∷ ts) = told_number t ∷ places_told room ts
