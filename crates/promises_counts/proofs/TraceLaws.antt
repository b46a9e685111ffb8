-- From what a call reads and would store to the completeness of its list, and what follows from that; stores at addresses in a row.
-- Assumes nothing.
use Prim.Native.Nat.{ℕ, ◌+◌}
use lib.Dec.{eqb}
use lib.ListN.{length}
use mathlib.Core.Bool.{Bool, true, false}
use mathlib.Core.List.{List, [], ◌∷◌, ◌++◌, append-nil}
use mathlib.Core.Path.{◌≡◌, refl, sym, ap, subst, ◌∙◌}
use native.Mathlib.Nat.{add_assoc}
use Rattle.ground_rules.specs.Choice.{pick}
use Rattle.ground_rules.proofs.SpanLaws.{apart-right}
use Rattle.ground_rules.proofs.StoreLaws.{store_length, read-other}
use Rattle.ground_rules.specs.Buffers.{Buffers, space_of, byte_at, store_byte}
use Rattle.ground_rules.specs.Places.{Place, span, ApartFrom}
use Rattle.ground_rules.specs.Outcomes.{outcome, settled}
use Rattle.ground_rules.specs.declared.State.{State}
use Rattle.promises_counts.specs.Complete.{SameLengths, AgreeOn, Complete}
use Rattle.promises_counts.specs.Lists.{outcome_parts}
use Rattle.promises_counts.specs.Stores.{Store, stores_made, store_places}
use Rattle.promises_counts.proofs.AgreeLaws.{agree-self, agree_left}

-- ---- a call traced

-- what a call does in memories n, if it is done in those that it is traced in: the list and the answer of those, and the stores of a done one
pub record SameIn {A : Type 0} (touched : Buffers → List Place) (answer : Buffers → A) (after : Buffers → Buffers) (m : Buffers) (made : List Store) (n : Buffers) : Type 0 where
  pub list : touched n ≡ touched m
  pub told : answer n ≡ answer m
  pub left : after n ≡ stores_made n made

-- a call traced by the places that it reads, those that it stores to if it is done, and whether it is
pub record Traced {A : Type 0} (reads stored : List Place) (done : Bool) (touched : Buffers → List Place) (answer : Buffers → A) (after : Buffers → Buffers) (m : Buffers) : Type 0 where
  pub stores : List Store
  pub placed : store_places stores ≡ stored
  pub split : touched m ≡ reads ++ stored
  pub same : (n : Buffers) → SameLengths m n → AgreeOn reads m n → SameIn touched answer after m (pick done stores []) n

-- a traced call's list is complete; what a refused one would have stored to is looked at like what it reads
pub complete : {A : Type 0} {reads stored : List Place} {done : Bool} {touched : Buffers → List Place} {answer : Buffers → A} {after : Buffers → Buffers} {m : Buffers}
    → Traced reads stored done touched answer after m → Complete touched answer after m
unfolding store_places
complete {A} {reads} {stored} {done} {touched} {answer} {after} {m} t = go done t.same
  where
    go : (b : Bool) → ((n : Buffers) → SameLengths m n → AgreeOn reads m n → SameIn touched answer after m (pick b t.stores []) n) → Complete touched answer after m
    go true f =
        record {
          reads = reads;
          stores = t.stores;
          listed = t.split ∙ ap (λ (ps : List Place). reads ++ ps) (sym t.placed);
          same_list = λ n l h. (f n l h).list;
          same_answer = λ n l h. (f n l h).told;
          same_stores = λ n l h. (f n l h).left;
        }
    go false f =
        let read : (n : Buffers) → AgreeOn (touched m) m n → AgreeOn reads m n =
        λ n h. agree_left m n reads stored (subst (λ (ps : List Place). AgreeOn ps m n) t.split h) in
        record {
          reads = touched m;
          stores = [];
          listed = sym (append-nil (touched m));
          same_list = λ n l h. (f n l (read n h)).list;
          same_answer = λ n l h. (f n l (read n h)).told;
          same_stores = λ n l h. (f n l (read n h)).left;
        }

-- ---- what a settled call answers and leaves, by its number

pub settled-told : (k : ℕ) (s s' : State) (o o' : Buffers) → outcome_parts (settled k s o s' o') ≡ pick (eqb k 0) (0, s') (k, s)
unfolding settled
settled-told k s s' o o' = go (eqb k 0)
  where
    go : (b : Bool) → outcome_parts (pick b (outcome 0 s' o') (outcome k s o)) ≡ pick b (0, s') (k, s)
    go true = refl
    go false = refl

pub settled-left : (k : ℕ) (s s' : State) (o o' : Buffers) → (settled k s o s' o').memory ≡ pick (eqb k 0) o' o
unfolding settled
settled-left k s s' o o' = go (eqb k 0)
  where
    go : (b : Bool) → (pick b (outcome 0 s' o') (outcome k s o)).memory ≡ pick b o' o
    go true = refl
    go false = refl

-- ---- what a complete list gives

-- stores leave every other byte
stores-other : (ws : List Store) (o : Buffers) (u : Bool) (b : ℕ) → ApartFrom (store_places ws) u b → byte_at (stores_made o ws) u b ≡ byte_at o u b
unfolding stores_made store_places
stores-other [] o u b h = refl
stores-other (w ∷ ws) o u b h =
    stores-other ws (store_byte o w.place.tag w.place.address w.value) u b h.1
    ∙ read-other o w.place.tag w.place.address w.value u b h.0

-- and change no length
stores-length : (ws : List Store) (o : Buffers) (u : Bool) → length (space_of (stores_made o ws) u) ≡ length (space_of o u)
unfolding stores_made
stores-length [] o u = refl
stores-length (w ∷ ws) o u =
    stores-length ws (store_byte o w.place.tag w.place.address w.value) u
    ∙ store_length o w.place.tag u w.place.address w.value

module _ {A : Type 0} {touched : Buffers → List Place} {answer : Buffers → A} {after : Buffers → Buffers} {m : Buffers} (k : Complete touched answer after m) where
  -- memories of the same lengths that agree on the whole list give the same list, answer and stores
  pub whole-list : (n : Buffers) → SameLengths m n → AgreeOn (touched m) m n
      → (touched n ≡ touched m) × (answer n ≡ answer m) × (after n ≡ stores_made n k.stores) × (after m ≡ stores_made m k.stores)
  whole-list n l h =
      let read : AgreeOn k.reads m n = agree_left m n k.reads (store_places k.stores) (subst (λ (ps : List Place). AgreeOn ps m n) k.listed h) in
      (k.same_list n l read, k.same_answer n l read, k.same_stores n l read, k.same_stores m (λ t. refl) (agree-self k.reads m))

  -- so every byte outside the list is as it was
  pub outside_kept : (u : Bool) (b : ℕ) → ApartFrom (touched m) u b → byte_at (after m) u b ≡ byte_at m u b
  outside_kept u b h =
      ap (λ (o : Buffers). byte_at o u b) (k.same_stores m (λ t. refl) (agree-self k.reads m))
      ∙ stores-other k.stores m u b (apart-right k.reads (store_places k.stores) u b (subst (λ (ps : List Place). ApartFrom ps u b) k.listed h))

  -- and no length changes
  pub lengths-kept : SameLengths m (after m)
  lengths-kept u =
      ap (λ (o : Buffers). length (space_of o u)) (k.same_stores m (λ t. refl) (agree-self k.reads m))
      ∙ stores-length k.stores m u

-- ---- stores in a row

-- bytes stored at addresses in a row
unfoldable pub stores_at : Bool → ℕ → List ℕ → List Store
stores_at t a [] = []
stores_at t a (v ∷ vs) = record { place = record { tag = t; address = a }; value = v } ∷ stores_at t (a + 1) vs

-- their places
pub row-places : (t : Bool) (a : ℕ) (vs : List ℕ) → store_places (stores_at t a vs) ≡ span t a (length vs)
unfolding store_places stores_at span
row-places t a [] = refl
row-places t a (v ∷ vs) = ap (λ (ps : List Place). record { tag = t; address = a } ∷ ps) (row-places t (a + 1) vs)

-- the memories after two, three and four of them
pub two_made : (m : Buffers) (t : Bool) (a x y : ℕ) → stores_made m (stores_at t a (x ∷ y ∷ [])) ≡ store_byte (store_byte m t a x) t (a + 1) y
unfolding stores_made stores_at
two_made m t a x y = refl

pub three_made : (m : Buffers) (t : Bool) (a x y z : ℕ) → stores_made m (stores_at t a (x ∷ y ∷ z ∷ [])) ≡ store_byte (store_byte (store_byte m t a x) t (a + 1) y) t (a + 2) z
unfolding stores_made stores_at
three_made m t a x y z = ap (λ (b : ℕ). store_byte (store_byte (store_byte m t a x) t (a + 1) y) t b z) (add_assoc a 1 1)

pub four-made : (m : Buffers) (t : Bool) (a x y z w : ℕ)
    → stores_made m (stores_at t a (x ∷ y ∷ z ∷ w ∷ [])) ≡ store_byte (store_byte (store_byte (store_byte m t a x) t (a + 1) y) t (a + 2) z) t (a + 3) w
unfolding stores_made stores_at
four-made m t a x y z w = rw (add_assoc a 1 1, add_assoc a 2 1)

-- stores after stores
pub made_after : (ws vs : List Store) (m : Buffers) → stores_made m (ws ++ vs) ≡ stores_made (stores_made m ws) vs
unfolding stores_made
made_after [] vs m = refl
made_after (w ∷ ws) vs m = made_after ws vs (store_byte m w.place.tag w.place.address w.value)

pub places-after : (ws vs : List Store) → store_places (ws ++ vs) ≡ store_places ws ++ store_places vs
unfolding store_places
places-after [] vs = refl
places-after (w ∷ ws) vs = ap (λ (ps : List Place). w.place ∷ ps) (places-after ws vs)
