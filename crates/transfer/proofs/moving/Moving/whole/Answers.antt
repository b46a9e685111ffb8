-- `Moving::whole` meets its contract.
-- Assumes nothing.
use Rattle.std.proofs.Common.{Bool, false, true, ◌&&◌, Err, Ok, Some, None, Option, ap, refl, sym, ◌∙◌, ◌≡◌, ℕ, ap₂, length, subst}
use borrow.Author.Tests.{not-true, not-false}
use Rattle.ground_rules.specs.Buffers.{Buffers, buffers}
use Rattle.ground_rules.specs.Places.{all_touchable}
use Rattle.ground_rules.specs.Choice.{pick}
use Rattle.ground_rules.specs.declared.Channel.{Channel}
use Rattle.ground_rules.specs.declared.Refusal.TheVariants.{BeyondMemory}
use Rattle.transfer.proofs.FetchLaws.{fetched-some, fetched-none}
use Rattle.transfer.proofs.HalfLaws.{IsPart, beyond-left, done-by, landed-moved}
use Rattle.transfer.specs.Fetches.{fetch_of}
use Rattle.transfer.specs.Moves.{moved_on}
use Rattle.transfer.specs.Setups.{setup_of}
use Rattle.transfer.specs.declared.Move.TheVariants.{GoesOn}
use Rattle.transfer.specs.declared.Moved.{Moved}
use Rattle.transfer.specs.declared.Setup.{Setup}
use Rattle.transfer.specs.declared.stores.StoreEnd.{StoreEnd}
use Rattle.transfer_rules.proofs.CountLaws.{touched-length}
use Rattle.transfer_rules.proofs.TouchLaws.{touched-all}
use Rattle.transfer_rules.specs.Parts.{Whole}
use Rattle.transfer_rules.specs.Reads.{data_of}
use Rattle.transfer_rules.specs.Sides.{destination}
use Rattle.transfer_rules.specs.Steps.{touched_by, channel_by, memory_by, accesses, bad_mode}
use Rattle.transfer_rules.specs.Stores.{match_met, stores_two, end_code, put_on, moved_memory, places_on, stored_places}
use Rattle.transfer_rules.specs.declared.Data.{Data}
use Rattle.transfer.proofs.moving.Moving.whole.Goals as goal

-- what a step has read and put, as its helpers say it, is what the step reads and stores
module _ (c : Channel) (m : Buffers) (r : Option Data) (good : bad_mode c ≡ false) (er : r ≡ fetch_of c m) where
  lost : r ≡ None → IsPart Whole c m (Err BeyondMemory) m
  lost e = beyond-left Whole c m good (touched-all c m ∙ rw (fetched-none c m (sym er ∙ e)))

  module _ (f : Data) (e : r ≡ Some f) (done : StoreEnd) (ed : done ≡ record { two = stores_two c f; code = end_code c (match_met c f) }) (b : Bool) (m' : Buffers)
      (eb : b ≡ all_touchable m (places_on (destination c) done.two)) (em : m' ≡ pick b (put_on (destination c) done.two f m) m) where
    read : f ≡ data_of c m
    read = (fetched-some c m f (sym er ∙ e)).1

    becomes : done ≡ record { two = stores_two c (data_of c m); code = end_code c (match_met c (data_of c m)) }
    becomes = ed ∙ ap (λ (d : Data). record { two = stores_two c d; code = end_code c (match_met c d) }) read

    places : places_on (destination c) done.two ≡ stored_places c (data_of c m)
    unfolding stored_places
    places = ap (λ (x : StoreEnd). places_on (destination c) x.two) becomes

    puts : put_on (destination c) done.two f m ≡ moved_memory c (data_of c m) m
    unfolding moved_memory
    puts =
        ap (λ (x : StoreEnd). put_on (destination c) x.two f m) becomes
        ∙ ap (λ (d : Data). put_on (destination c) (stores_two c (data_of c m)) d m) read

    touches : all_touchable m (touched_by Whole c m) ≡ b
    touches = touched-all c m ∙ ap₂ (λ (x y : Bool). x && y) (fetched-some c m f (sym er ∙ e)).0 (sym (eb ∙ ap (all_touchable m) places))

    unplaced : b ≡ false → IsPart Whole c m (Err BeyondMemory) m'
    unplaced n = rw (em, n) (beyond-left Whole c m good (touches ∙ n))

    module _ (y : b ≡ true) (p : Setup) (ep : p ≡ setup_of c) (count by : ℕ) (en : count ≡ accesses p.two done.two c.fields.translates) (eby : by ≡ pick done.two 2 1) where
      counts : length (touched_by Whole c m) ≡ count
      unfolding setup_of
      counts = touched-length c m ∙ sym (en ∙ ap₂ (λ (x : Setup) (z : StoreEnd). accesses x.two z.two c.fields.translates) ep becomes)

      stored : memory_by Whole c m ≡ m'
      unfolding memory_by
      stored = sym (em ∙ rw y puts)

      goes : moved_on count by done.code ≡ moved_on count (pick (stores_two c (data_of c m)) 2 1) (end_code c (match_met c (data_of c m)))
      goes = ap (λ (n : ℕ). moved_on count n done.code) eby ∙ ap (λ (x : StoreEnd). moved_on count (pick x.two 2 1) x.code) becomes

      gone : IsPart Whole c m (Ok (moved_on count by done.code)) m'
      unfolding channel_by
      gone =
          subst (λ (x : Moved). IsPart Whole c m (Ok x) m') (sym goes)
          (done-by Whole c m good (touches ∙ y) m' stored count counts (GoesOn (pick (stores_two c (data_of c m)) 2 1) (end_code c (match_met c (data_of c m)))) (landed-moved c (data_of c m) (stores_two c (data_of c m)) refl))

pub returns-in_default : goal.returns-in_default
returns-in_default c =
    let a = c.args in
    let both = lost a.self.channel (buffers a.sys.now a.io.now) c.fetch.result c.requires c.fetch.ensures c.in_default.is in
    record { left = both.0; count = both.1 }

pub returns-then-not-put : goal.returns-then-not-put
returns-then-not-put c =
    let a = c.args in
    let both = unplaced a.self.channel (buffers a.sys.now a.io.now) c.fetch.result c.requires c.fetch.ensures _ c.in-Some.is c.finish-done.result c.finish-done.ensures c.put.result _ c.put.ensures.told c.put.ensures.stored (not-true _ c.if-not-put.true-raw) in
    record { left = both.0; count = both.1 }

pub returns : goal.returns
returns c =
    let a = c.args in
    let both = gone a.self.channel (buffers a.sys.now a.io.now) c.fetch.result c.requires c.fetch.ensures _ c.in-Some.is c.finish-done.result c.finish-done.ensures c.put.result _ c.put.ensures.told c.put.ensures.stored (not-false _ c.if-not-put.false-raw)
    a.self.setup a.self.said c.count.result c.one_or_two.result c.count.ensures c.one_or_two.ensures in
    rw c.goes.ensures (record { left = both.0; count = both.1 })
