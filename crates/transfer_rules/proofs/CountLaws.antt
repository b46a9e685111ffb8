-- How long the list of a whole transfer step is, by what moves, what is stored and whether it is translated; and how many bytes each part reads.
-- Assumes nothing.
use Rattle.std.proofs.Common.{Option, ℕ, None, Some}
use Prim.Native.Nat.{ℕ, suc, ◌+◌, ◌≤◌}
use lib.ListN.{length, length-append}
use mathlib.Core.Bool.{Bool, true, false}
use mathlib.Core.List.{List, []}
use mathlib.Core.Path.{◌≡◌, refl, ap, ap₂, ◌∙◌}
use native.Mathlib.Omega.{arith}
use Rattle.ground_rules.specs.Choice.{pick}
use Rattle.ground_rules.specs.Buffers.{Buffers}
use Rattle.ground_rules.specs.Places.{Place}
use Rattle.ground_rules.specs.declared.Channel.{Channel}
use Rattle.transfer_rules.specs.Parts.{Part, Whole, FirstFetch, SecondFetch, FirstStore, SecondStore, is_half, fetch_part, store_part, part_of}
use Rattle.transfer_rules.specs.Reads.{entry_of, data_of, also, read_places}
use Rattle.transfer_rules.specs.Sides.{source, destination, second_address, two_move}
use Rattle.transfer_rules.specs.Steps.{touched_by, reads_by, accesses}
use Rattle.transfer_rules.specs.Stores.{stores_two, places_on, stored_places}
use Rattle.transfer_rules.proofs.PartLaws.{half-fetches, half-stores, fetch-due, store-due, not-half}

also-length : (on : Bool) (p : Place) (ps : List Place) → length (also on p ps) ≡ pick on 1 0 + length ps
unfolding also
also-length true p ps = one (length ps)
  where
    one : (k : ℕ) → suc k ≡ 1 + k
    one k = omega arith
also-length false p ps = omega arith

-- one, and another where a test holds
one-also : (on : Bool) → 1 + pick on 1 0 ≡ pick on 2 1
one-also true = refl
one-also false = refl

module _ (c : Channel) (m : Buffers) where
  reads-length : length (read_places c m) ≡ suc (pick (two_move c) 1 0 + (pick c.fields.translates 1 0 + 0))
  unfolding read_places
  reads-length =
      let second : Place = record { tag = (source c).pointer.tag; address = second_address (source c) } in
      let entry : Place = record { tag = c.gc.tag; address = entry_of c m } in
      ap suc (also-length (two_move c) second (also c.fields.translates entry []) ∙ ap (λ (k : ℕ). pick (two_move c) 1 0 + k) (also-length c.fields.translates entry []))

  stores-length : length (stored_places c (data_of c m)) ≡ suc (pick (stores_two c (data_of c m)) 1 0 + 0)
  unfolding stored_places places_on
  stores-length =
      ap suc (also-length (stores_two c (data_of c m)) (record { tag = (destination c).pointer.tag; address = second_address (destination c) }) [])

  -- the source's one or two, the destination's one or two, the translated one
  pub touched-length : length (touched_by Whole c m) ≡ accesses (two_move c) (stores_two c (data_of c m)) c.fields.translates
  unfolding touched_by
  touched-length =
      length-append (read_places c m) (stored_places c (data_of c m))
      ∙ ap₂ ◌+◌ reads-length stores-length
      ∙ omega (arith, one-also (two_move c), one-also (stores_two c (data_of c m)))

  -- ---- what each part reads

  -- a whole step: the source's one or two, and the translated one
  pub whole-reads : is_half c ≡ false → pick (two_move c) 2 1 + pick c.fields.translates 1 0 ≡ length (reads_by (part_of c) c m)
  unfolding reads_by
  whole-reads h = rw (not-half c h) (omega (arith, reads-length, one-also (two_move c)))

  -- no part more than three
  pub reads-most : (k : Part) → length (reads_by k c m) ≤ 3
  unfolding reads_by
  reads-most Whole = omega (arith, reads-length, one (two_move c), one c.fields.translates)
    where
      one : (b : Bool) → pick b 1 0 ≤ 1
      one true = omega arith
      one false = omega arith
  reads-most FirstFetch = omega arith
  reads-most (SecondFetch byte) = omega arith
  reads-most FirstStore = omega arith
  reads-most (SecondStore byte) = omega arith

  -- with SYN 01 each of two fetches one
  pub fetch-reads : is_half c ≡ true → c.fields.synchronised ≡ 1 → 1 ≡ length (reads_by (part_of c) c m)
  unfolding reads_by fetch_part
  fetch-reads h e = rw (fetch-due c c.held (half-fetches c h e) refl) (one c.held)
    where
      one : (held : Option ℕ) → 1 ≡ length (reads_by (fetch_part held) c m)
      one None = refl
      one (Some byte) = refl

  -- else the first of two stores the word, the second nothing more
  pub store-reads : (held : Option ℕ) → is_half c ≡ true → ¬ (c.fields.synchronised ≡ 1) → c.held ≡ held → length (reads_by (store_part held) c m) ≡ length (reads_by (part_of c) c m)
  store-reads held h ne e = let apart = half-stores c h ne in rw (store-due c held apart.0 apart.1 e)
