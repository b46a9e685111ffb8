-- `Moving::first_store` meets its contract.
-- Assumes nothing.
use Rattle.std.proofs.Common.{Bool, false, true, Err, Ok, Some, None, Option, ap, refl, sym, ◌∙◌, ◌≡◌, ℕ}
use borrow.Author.Tests.{not-true, not-false}
use Rattle.ground_rules.specs.Buffers.{Buffers, buffers}
use Rattle.ground_rules.specs.Places.{all_touchable}
use Rattle.ground_rules.specs.Choice.{pick}
use Rattle.ground_rules.specs.declared.Channel.{Channel}
use Rattle.ground_rules.specs.declared.Refusal.TheVariants.{BeyondMemory}
use Rattle.transfer.proofs.FetchLaws.{fetched-some, fetched-none}
use Rattle.transfer.proofs.HalfLaws.{IsPart, beyond-left, done-by, first-store-touches, first-store-stores, first-store-holds, first-store-goes}
use Rattle.transfer.specs.Fetches.{fetch_of}
use Rattle.transfer.specs.Moves.{moved_holding, moved_on}
use Rattle.transfer.specs.declared.Move.TheVariants.{Holds, GoesOn}
use Rattle.transfer.specs.declared.stores.StoreEnd.{StoreEnd}
use Rattle.transfer_rules.specs.Parts.{FirstStore, stores_apart}
use Rattle.transfer_rules.specs.Reads.{data_of}
use Rattle.transfer_rules.specs.Sides.{destination}
use Rattle.transfer_rules.specs.Steps.{touched_by, bad_mode}
use Rattle.transfer_rules.specs.Stores.{match_met, stores_two, end_code, put_on, places_on}
use Rattle.transfer_rules.specs.declared.Data.{Data}
use Rattle.transfer.proofs.moving.Moving.first_store.Goals as goal

-- what the step has read is both bytes of the source, and what it puts is the first of them
module _ (c : Channel) (m : Buffers) (r : Option Data) (good : bad_mode c ≡ false) (h : stores_apart c ≡ true) (er : r ≡ fetch_of c m) where
  lost : r ≡ None → IsPart FirstStore c m (Err BeyondMemory) m
  lost e = beyond-left FirstStore c m good (first-store-touches c m good h ∙ rw (fetched-none c m (sym er ∙ e)))

  module _ (f : Data) (e : r ≡ Some f) (b : Bool) (m' : Buffers) (eb : b ≡ all_touchable m (places_on (destination c) false))
      (em : m' ≡ pick b (put_on (destination c) false f m) m) where
    read : f ≡ data_of c m
    read = (fetched-some c m f (sym er ∙ e)).1

    touches : all_touchable m (touched_by FirstStore c m) ≡ b
    touches = first-store-touches c m good h ∙ rw (fetched-some c m f (sym er ∙ e)).0 (sym eb)

    unplaced : b ≡ false → IsPart FirstStore c m (Err BeyondMemory) m'
    unplaced n = rw (em, n) (beyond-left FirstStore c m good (touches ∙ n))

    puts : b ≡ true → m' ≡ put_on (destination c) false (data_of c m) m
    puts y = em ∙ rw y (ap (λ (d : Data). put_on (destination c) false d m) read)

    module _ (y : b ≡ true) (done : StoreEnd) (k : done ≡ record { two = stores_two c f; code = end_code c (match_met c f) }) where
      two : (x : Bool) → done.two ≡ x → stores_two c (data_of c m) ≡ x
      two x n = sym (ap (λ (x : StoreEnd). x.two) k ∙ ap (λ (d : Data). stores_two c d) read) ∙ n

      held : done.two ≡ true → IsPart FirstStore c m (Ok (moved_holding 3 f.second)) m'
      unfolding touched_by
      held n =
          rw (ap (λ (d : Data). d.second) read)
          (done-by FirstStore c m good (touches ∙ y) m' (first-store-stores c m good h ∙ sym (puts y)) 3 refl (Holds (data_of c m).second) (first-store-holds c m good h (two true n)))

      gone : done.two ≡ false → IsPart FirstStore c m (Ok (moved_on 3 1 done.code)) m'
      unfolding touched_by
      gone n =
          rw (ap (λ (x : StoreEnd). x.code) k ∙ ap (λ (d : Data). end_code c (match_met c d)) read)
          (done-by FirstStore c m good (touches ∙ y) m' (first-store-stores c m good h ∙ sym (puts y)) 3 refl (GoesOn 1 (end_code c (match_met c (data_of c m)))) (first-store-goes c m good h (two false n)))

pub returns-in_default : goal.returns-in_default
returns-in_default c =
    let a = c.args in
    let both = lost a.self.channel (buffers a.sys.now a.io.now) c.fetch.result c.requires.0 c.requires.1 c.fetch.ensures c.in_default.is in
    record { left = both.0; count = both.1 }

pub returns-then-not-put : goal.returns-then-not-put
returns-then-not-put c =
    let a = c.args in
    let both = unplaced a.self.channel (buffers a.sys.now a.io.now) c.fetch.result c.requires.0 c.requires.1 c.fetch.ensures _ c.in-Some.is c.put.result _ c.put.ensures.told c.put.ensures.stored (not-true _ c.if-not-put.true-raw) in
    record { left = both.0; count = both.1 }

pub returns-then-done : goal.returns-then-done
returns-then-done c =
    let a = c.args in
    let both = held a.self.channel (buffers a.sys.now a.io.now) c.fetch.result c.requires.0 c.requires.1 c.fetch.ensures _ c.in-Some.is c.put.result _ c.put.ensures.told c.put.ensures.stored (not-false _ c.if-not-put.false-raw)
    c.finish-done.result c.finish-done.ensures c.if-done.true in
    rw c.holds.ensures (record { left = both.0; count = both.1 })

pub returns-else-done : goal.returns-else-done
returns-else-done c =
    let a = c.args in
    let both = gone a.self.channel (buffers a.sys.now a.io.now) c.fetch.result c.requires.0 c.requires.1 c.fetch.ensures _ c.in-Some.is c.put.result _ c.put.ensures.told c.put.ensures.stored (not-false _ c.if-not-put.false-raw)
    c.finish-done.result c.finish-done.ensures c.if-done.false in
    rw c.goes.ensures (record { left = both.0; count = both.1 })
