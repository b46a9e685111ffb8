-- `Moving::second_store` meets its contract.
-- Assumes nothing.
use Rattle.std.proofs.Common.{Bool, false, true, Err, Ok, ap, refl, sym, ◌∙◌, ◌≡◌, ℕ}
use borrow.Author.Tests.{not-true, not-false}
use Rattle.ground_rules.specs.Buffers.{Buffers, buffers, touchable_at, store_byte}
use Rattle.ground_rules.specs.declared.Channel.{Channel}
use Rattle.ground_rules.specs.declared.Refusal.TheVariants.{BeyondMemory}
use Rattle.transfer.proofs.FetchLaws.{destination-is}
use Rattle.transfer.proofs.HalfLaws.{IsPart, beyond-left, done-by, second-store-touches, second-store-stores, second-store-goes}
use Rattle.transfer_rules.proofs.PartLaws.{stores-two}
use Rattle.transfer_rules.proofs.TouchLaws.{untouched}
use Rattle.transfer_rules.specs.Ends.{meets_tmc}
use Rattle.transfer_rules.specs.Parts.{SecondStore, stores_apart}
use Rattle.transfer_rules.specs.Sides.{destination, second_address, two_move}
use Rattle.transfer_rules.specs.Steps.{touched_by, bad_mode}
use Rattle.transfer_rules.specs.Stores.{end_code}
use Rattle.transfer_rules.specs.declared.Side.{Side}
use Rattle.transfer.specs.Moves.{moved_on}
use Rattle.transfer.specs.declared.Move.TheVariants.{GoesOn}
use Rattle.transfer.proofs.moving.Moving.second_store.Goals as goal

-- what the step has stored is the held byte at the destination's second place
module _ (c : Channel) (m : Buffers) (s : Side) (byte next : ℕ) (b : Bool) (m' : Buffers) (es : s ≡ destination c) (good : bad_mode c ≡ false) (h : stores_apart c ≡ true)
    (en : next ≡ second_address (destination c)) (eb : b ≡ touchable_at m s.pointer.tag next) (em : m' ≡ store_byte m s.pointer.tag next byte) where
  there : b ≡ touchable_at m (destination c).pointer.tag (second_address (destination c))
  there = eb ∙ ap (λ (n : ℕ). touchable_at m s.pointer.tag n) en ∙ ap (λ (x : Side). touchable_at m x.pointer.tag (second_address (destination c))) es

  stored : m' ≡ store_byte m (destination c).pointer.tag (second_address (destination c)) byte
  stored = em ∙ ap (λ (n : ℕ). store_byte m s.pointer.tag n byte) en ∙ ap (λ (x : Side). store_byte m x.pointer.tag (second_address (destination c)) byte) es

  gone : b ≡ true → (code : ℕ) → (two_move c ≡ true → code ≡ end_code c (meets_tmc c.fields.matchEnd c.mc byte)) → IsPart (SecondStore byte) c m (Ok (moved_on 1 2 code)) m'
  unfolding touched_by
  gone t code k =
      rw (k (stores-two c h))
      (done-by (SecondStore byte) c m good (second-store-touches c m byte ∙ sym there ∙ t) m' (second-store-stores c m byte ∙ sym stored) 1 refl (GoesOn 2 (end_code c (meets_tmc c.fields.matchEnd c.mc byte))) (second-store-goes c m byte))

  lost : b ≡ false → IsPart (SecondStore byte) c m (Err BeyondMemory) m'
  lost t =
      rw (stored ∙ untouched m (destination c).pointer.tag (second_address (destination c)) byte (sym there ∙ t))
      (beyond-left (SecondStore byte) c m good (second-store-touches c m byte ∙ sym there ∙ t))

pub returns : goal.returns
returns c =
    let a = c.args in
    let x = a.self.channel in
    let both = gone x (buffers a.sys.now a.io.now) a.self.setup.destination a.byte c.second_into.result c.put_one.result _ (destination-is x a.self.setup a.self.said) c.requires.0 c.requires.1 c.second_into.ensures c.put_one.ensures.0 c.put_one.ensures.1
    (not-false _ c.if-not-put_one.false-raw) c.second_code.result c.second_code.ensures in
    rw c.goes.ensures (record { left = both.0; count = both.1 })

pub returns-then-not-put_one : goal.returns-then-not-put_one
returns-then-not-put_one c =
    let a = c.args in
    let x = a.self.channel in
    let both = lost x (buffers a.sys.now a.io.now) a.self.setup.destination a.byte c.second_into.result c.put_one.result _ (destination-is x a.self.setup a.self.said) c.requires.0 c.requires.1 c.second_into.ensures c.put_one.ensures.0 c.put_one.ensures.1
    (not-true _ c.if-not-put_one.true-raw) in
    record { left = both.0; count = both.1 }
