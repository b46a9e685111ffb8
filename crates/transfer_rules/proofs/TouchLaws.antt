-- The laws of the bytes that a transfer step touches: when all of them may be touched.
-- Assumes nothing.
use mathlib.Core.Bool.{Bool, true, false, not, ◌&&◌, ◌||◌}
use mathlib.Core.List.{List, []}
use mathlib.Core.Path.{◌≡◌, refl, ◌∙◌}
use Rattle.ground_rules.specs.declared.Channel.{Channel}
use Rattle.ground_rules.specs.Buffers.{Buffers, touchable_at, store_byte}
use Rattle.ground_rules.specs.Places.{Place, all_pass, all_touchable}
use Rattle.ground_rules.proofs.ChoiceLaws.{apart, and-true}
use Rattle.ground_rules.specs.Choice.{pick}
use Prim.Native.Nat.{ℕ}
use Rattle.ground_rules.proofs.SpanLaws.{all_append}
use Rattle.ground_rules.proofs.StoreLaws.{store-beyond}
use Rattle.transfer_rules.specs.Parts.{Whole}
use Rattle.transfer_rules.specs.Reads.{entry_of, data_of, also, read_places}
use Rattle.transfer_rules.specs.Sides.{source, second_address, two_move}
use Rattle.transfer_rules.specs.Steps.{touched_by}
use Rattle.transfer_rules.specs.Stores.{places_on, stored_places}
use Rattle.transfer_rules.specs.declared.Side.{Side}

-- a place that a test adds may be touched, or not asked for
also-touchable : (m : Buffers) (on : Bool) (p : Place) (ps : List Place) → all_touchable m (also on p ps) ≡ (not on || touchable_at m p.tag p.address) && all_touchable m ps
unfolding also all_pass
also-touchable m true p ps = refl
also-touchable m false p ps = refl

last-touchable : (m : Buffers) (on : Bool) (p : Place) → all_touchable m (also on p []) ≡ not on || touchable_at m p.tag p.address
unfolding all_pass
last-touchable m on p = also-touchable m on p [] ∙ and-true (not on || touchable_at m p.tag p.address)

-- what is read: the source's byte, its second where two move, the translated byte where there is one
pub reads-touchable : (c : Channel) (m : Buffers)
    → all_touchable m (read_places c m)
    ≡ touchable_at m (source c).pointer.tag (source c).pointer.address
    && ((not (two_move c) || touchable_at m (source c).pointer.tag (second_address (source c))) && (not c.fields.translates || touchable_at m c.gc.tag (entry_of c m)))
unfolding read_places all_pass
reads-touchable c m = rw (also-touchable m, last-touchable m)

-- what is stored on a side: its byte, and its second where two are stored
pub places-touchable : (m : Buffers) (s : Side) (two : Bool) → all_touchable m (places_on s two) ≡ touchable_at m s.pointer.tag s.pointer.address && (not two || touchable_at m s.pointer.tag (second_address s))
unfolding places_on all_pass
places-touchable m s two = rw (last-touchable m)

-- what is read and what is stored is all that a whole step touches
pub touched-all : (c : Channel) (m : Buffers) → all_touchable m (touched_by Whole c m) ≡ all_touchable m (read_places c m) && all_touchable m (stored_places c (data_of c m))
unfolding touched_by
touched-all c m = all_append (touchable_at m) (read_places c m) (stored_places c (data_of c m))

-- of two stores the second may not be made
pub second-not : (m : Buffers) (s : Side) → touchable_at m s.pointer.tag (second_address s) ≡ false → all_touchable m (places_on s true) ≡ false
second-not m s h = places-touchable m s true ∙ rw h (go (touchable_at m s.pointer.tag s.pointer.address))
  where
    go : (b : Bool) → b && false ≡ false
    go true = refl
    go false = refl

-- a store where a call may not touch changes nothing
pub untouched : (m : Buffers) (t : Bool) (a v : ℕ) → touchable_at m t a ≡ false → store_byte m t a v ≡ m
unfolding touchable_at
untouched m true a v h = apart h
untouched m false a v h = store-beyond m false a v h

-- so it is made or not, as it may
pub stored-if : (m : Buffers) (t : Bool) (a v : ℕ) → store_byte m t a v ≡ pick (touchable_at m t a) (store_byte m t a v) m
stored-if m t a v = go (touchable_at m t a) refl
  where
    go : (b : Bool) → touchable_at m t a ≡ b → store_byte m t a v ≡ pick b (store_byte m t a v) m
    go true e = refl
    go false e = untouched m t a v e
