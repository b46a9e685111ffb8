-- A told place as one number, and the lent words after some places were told into them.
-- Assumes nothing.
use Prim.Native.Nat.{ℕ, zero, suc, ◌+◌, ◌*◌, ◌/◌, ◌%◌, ◌<◌, ◌≤◌}
use lib.Dec.{eqb}
use lib.ListN.{length, get_or}
use mathlib.Core.Bool.{Bool, true, false}
use mathlib.Core.List.{List, [], ◌∷◌}
use mathlib.Core.Path.{◌≡◌, refl, ap, ◌∙◌}
use native.Mathlib.Nat.{not-suc-le-zero, le_of_suc-le-suc}
use native.Mathlib.Omega.{arith}
use Rattle.ground_rules.proofs.PlaceLaws.{index-small}
use Rattle.ground_rules.specs.Bits.{field_of, bit_of}
use Rattle.ground_rules.specs.Buffers.{index_of}
use Rattle.ground_rules.specs.Cc.{bit_worth}
use Rattle.ground_rules.specs.Choice.{pick}
use Rattle.touch_rules.specs.Told.{Told, told_number, places_told}

-- ---- a place in bits

-- a flag as a number
flag : Bool → ℕ
flag b = pick b 1 0

flag_small : (b : Bool) → flag b < 2
unfolding flag
flag_small true = omega arith
flag_small false = omega arith

flag-back : (b : Bool) → eqb (flag b) 1 ≡ b
unfolding flag
flag-back true = refl
flag-back false = refl

flag-worth : (b : Bool) (worth : ℕ) → bit_worth b worth ≡ flag b * worth
unfolding flag bit_worth
flag-worth true worth = omega arith
flag-worth false worth = omega arith

module _ (t : Told) where
  place : ℕ
  place = index_of t.place.tag t.place.address

  packed : told_number t ≡ place + flag t.place.tag * 1048576 + flag t.store * 2097152 + flag t.beyond * 4194304
  unfolding told_number place
  packed = rw (flag-worth t.place.tag 1048576, flag-worth t.store 2097152, flag-worth t.beyond 4194304)

  small : place < 1048576
  unfolding place
  small = index-small t.place.tag t.place.address

  -- where the byte lies in its space stands in bits 0 to 19
  pub number-place : field_of (told_number t) 0 20 ≡ index_of t.place.tag t.place.address
  unfolding field_of place
  number-place = omega (arith, packed, small)

  -- the space in bit 20
  pub number-space : bit_of (told_number t) 20 ≡ t.place.tag
  unfolding bit_of
  number-space =
      let e : told_number t / 1048576 % 2 ≡ flag t.place.tag = omega (arith, packed, small, flag_small t.place.tag, flag_small t.store, flag_small t.beyond) in
      ap (λ (k : ℕ). eqb k 1) e ∙ flag-back t.place.tag

  -- a store in bit 21
  pub number-store : bit_of (told_number t) 21 ≡ t.store
  unfolding bit_of
  number-store =
      let e : told_number t / 2097152 % 2 ≡ flag t.store = omega (arith, packed, small, flag_small t.place.tag, flag_small t.store, flag_small t.beyond) in
      ap (λ (k : ℕ). eqb k 1) e ∙ flag-back t.store

  -- the mark in bit 22
  pub number-beyond : bit_of (told_number t) 22 ≡ t.beyond
  unfolding bit_of
  number-beyond =
      let e : told_number t / 4194304 % 2 ≡ flag t.beyond = omega (arith, packed, small, flag_small t.place.tag, flag_small t.store, flag_small t.beyond) in
      ap (λ (k : ℕ). eqb k 1) e ∙ flag-back t.beyond

  -- and nothing above
  pub number_small : told_number t < 8388608
  number_small = omega (arith, packed, small, flag_small t.place.tag, flag_small t.store, flag_small t.beyond)

-- ---- lent words

-- they stay as many
pub room-length : (room : List ℕ) (ts : List Told) → length (places_told room ts) ≡ length room
unfolding places_told
room-length room [] = refl
room-length [] (t ∷ ts) = refl
room-length (w ∷ room) (t ∷ ts) = ap suc (room-length room ts)

-- each place for which there is room stands in its word
pub room-told : (room : List ℕ) (ts : List Told) (i : ℕ) (other : Told) → i < length room → i < length ts → get_or (places_told room ts) i 0 ≡ told_number (get_or ts i other)
unfolding places_told
room-told room [] i other h k = absurd (not-suc-le-zero k)
room-told [] (t ∷ ts) i other h k = absurd (not-suc-le-zero h)
room-told (w ∷ room) (t ∷ ts) zero other h k = refl
room-told (w ∷ room) (t ∷ ts) (suc i) other h k = room-told room ts i other (le_of_suc-le-suc h) (le_of_suc-le-suc k)

-- and the words behind stay
pub room-behind : (room : List ℕ) (ts : List Told) (i : ℕ) → length ts ≤ i → get_or (places_told room ts) i 0 ≡ get_or room i 0
unfolding places_told
room-behind room [] i h = refl
room-behind [] (t ∷ ts) i h = refl
room-behind (w ∷ room) (t ∷ ts) zero h = absurd (not-suc-le-zero h)
room-behind (w ∷ room) (t ∷ ts) (suc i) h = room-behind room ts i (le_of_suc-le-suc h)
