-- `Moving::second_fetch` meets its contract.
-- Assumes nothing.
use Rattle.std.proofs.Common.{Bool, false, true, ◌&&◌, Err, Ok, Some, None, Option, ap, refl, sym, ◌∙◌, ◌≡◌, ℕ}
use borrow.Author.Tests.{not-true, not-false}
use Rattle.ground_rules.specs.Buffers.{Buffers, buffers}
use Rattle.ground_rules.specs.Places.{all_touchable}
use Rattle.ground_rules.specs.Choice.{pick}
use Rattle.ground_rules.specs.declared.Channel.{Channel}
use Rattle.ground_rules.specs.declared.Refusal.TheVariants.{BeyondMemory}
use Rattle.transfer.proofs.FetchLaws.{source-is, seen-some, seen-none}
use Rattle.transfer.proofs.HalfLaws.{IsPart, beyond-left, done-by, second-fetch-touches, second-fetch-reads, second-fetch-stores, second-fetch-goes}
use Rattle.transfer.specs.Fetches.{seen}
use Rattle.transfer.specs.Moves.{moved_on}
use Rattle.transfer.specs.declared.Move.TheVariants.{GoesOn}
use Rattle.transfer.specs.declared.stores.StoreEnd.{StoreEnd}
use Rattle.transfer_rules.specs.Halves.{word_with}
use Rattle.transfer_rules.specs.Parts.{SecondFetch, fetches_apart}
use Rattle.transfer_rules.specs.Reads.{also}
use Rattle.transfer_rules.specs.Sides.{source, destination, second_address}
use Rattle.transfer_rules.specs.Steps.{touched_by, bad_mode}
use Rattle.transfer_rules.specs.Stores.{match_met, stores_two, end_code, put_on, places_on}
use Rattle.transfer_rules.specs.declared.Data.{Data}
use Rattle.transfer_rules.specs.declared.Side.{Side}
use Rattle.transfer.proofs.moving.Moving.second_fetch.Goals as goal

-- what the step has seen is the source's second byte, and what it puts is the word that this completes
module _ (c : Channel) (m : Buffers) (s : Side) (byte next : ℕ) (r : Option ℕ) (es : s ≡ source c) (good : bad_mode c ≡ false) (h : fetches_apart c ≡ true)
    (en : next ≡ second_address (source c)) (er : r ≡ seen m s.pointer.tag next) where
  there : r ≡ seen m (source c).pointer.tag (second_address (source c))
  there = er ∙ ap (λ (n : ℕ). seen m s.pointer.tag n) en ∙ ap (λ (x : Side). seen m x.pointer.tag (second_address (source c))) es

  lost : r ≡ None → IsPart (SecondFetch byte) c m (Err BeyondMemory) m
  lost e = beyond-left (SecondFetch byte) c m good (second-fetch-touches c m byte ∙ rw (seen-none m (source c).pointer.tag (second_address (source c)) (sym there ∙ e)))

  module _ (second : ℕ) (e : r ≡ Some second) where
    found : Data
    found = record { first = byte; second = second }

    read : record { first = byte; second = second } ≡ word_with byte c m
    read = ap (λ (n : ℕ). record { first = byte; second = n }) (seen-some m (source c).pointer.tag (second_address (source c)) second (sym there ∙ e)).1 ∙ sym (second-fetch-reads c m byte h)

    module _ (b : Bool) (m' : Buffers) (eb : b ≡ all_touchable m (places_on (destination c) true))
        (em : m' ≡ pick b (put_on (destination c) true (record { first = byte; second = second }) m) m) where
      touches : all_touchable m (touched_by (SecondFetch byte) c m) ≡ b
      touches = second-fetch-touches c m byte ∙ rw (seen-some m (source c).pointer.tag (second_address (source c)) second (sym there ∙ e)).0 (sym eb)

      unplaced : b ≡ false → IsPart (SecondFetch byte) c m (Err BeyondMemory) m'
      unplaced f = rw (em, f) (beyond-left (SecondFetch byte) c m good (touches ∙ f))

      puts : b ≡ true → m' ≡ put_on (destination c) true (word_with byte c m) m
      puts f = em ∙ rw f (ap (λ (d : Data). put_on (destination c) true d m) read)

      gone : b ≡ true → (done : StoreEnd) → done ≡ record { two = stores_two c (record { first = byte; second = second }); code = end_code c (match_met c (record { first = byte; second = second })) }
          → IsPart (SecondFetch byte) c m (Ok (moved_on 3 2 done.code)) m'
      unfolding touched_by places_on also
      gone f done k =
          rw (ap (λ (x : StoreEnd). x.code) k ∙ ap (λ (d : Data). end_code c (match_met c d)) read)
          (done-by (SecondFetch byte) c m good (touches ∙ f) m' (second-fetch-stores c m byte h ∙ sym (puts f)) 3 refl (GoesOn 2 (end_code c (match_met c (word_with byte c m)))) (second-fetch-goes c m byte h))

pub returns-in_default : goal.returns-in_default
returns-in_default c =
    let a = c.args in
    let x = a.self.channel in
    let both = lost x (buffers a.sys.now a.io.now) a.self.setup.source a.first c.second_from.result c.read.result (source-is x a.self.setup a.self.said) c.requires.0 c.requires.1 c.second_from.ensures c.read.ensures c.in_default.is in
    record { left = both.0; count = both.1 }

pub returns-then-not-put : goal.returns-then-not-put
returns-then-not-put c =
    let a = c.args in
    let x = a.self.channel in
    let both = unplaced x (buffers a.sys.now a.io.now) a.self.setup.source a.first c.second_from.result c.read.result (source-is x a.self.setup a.self.said) c.requires.0 c.requires.1 c.second_from.ensures c.read.ensures _ c.in-Some.is
    c.put.result _ c.put.ensures.told c.put.ensures.stored (not-true _ c.if-not-put.true-raw) in
    record { left = both.0; count = both.1 }

pub returns : goal.returns
returns c =
    let a = c.args in
    let x = a.self.channel in
    let both = gone x (buffers a.sys.now a.io.now) a.self.setup.source a.first c.second_from.result c.read.result (source-is x a.self.setup a.self.said) c.requires.0 c.requires.1 c.second_from.ensures c.read.ensures _ c.in-Some.is
    c.put.result _ c.put.ensures.told c.put.ensures.stored (not-false _ c.if-not-put.false-raw) c.finish-done.result c.finish-done.ensures in
    rw c.goes.ensures (record { left = both.0; count = both.1 })
