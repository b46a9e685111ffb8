-- `Moving::first_fetch` meets its contract.
-- Assumes nothing.
use Rattle.std.proofs.Common.{Bool, false, true, Err, Ok, Some, None, Option, ap, refl, sym, ◌∙◌, ◌≡◌, ℕ}
use Rattle.ground_rules.specs.Buffers.{Buffers, buffers, touchable_at}
use Rattle.ground_rules.specs.Places.{all_touchable}
use Rattle.ground_rules.specs.Updates.{holding}
use Rattle.ground_rules.specs.declared.Channel.{Channel}
use Rattle.ground_rules.specs.declared.Refusal.TheVariants.{BeyondMemory}
use Rattle.transfer.proofs.FetchLaws.{source-is, seen-some, seen-none}
use Rattle.transfer.proofs.HalfLaws.{IsPart, beyond-left, done-by, first-fetch-touches, first-fetch-holds}
use Rattle.transfer.specs.Fetches.{seen}
use Rattle.transfer.specs.Moves.{moved_holding}
use Rattle.transfer.specs.declared.Move.TheVariants.{Holds}
use Rattle.transfer_rules.specs.Parts.{FirstFetch}
use Rattle.transfer_rules.specs.Sides.{source}
use Rattle.transfer_rules.specs.Steps.{touched_by, memory_by, bad_mode}
use Rattle.transfer_rules.specs.declared.Side.{Side}
use Rattle.transfer.proofs.moving.Moving.first_fetch.Goals as goal

module _ (c : Channel) (m : Buffers) (s : Side) (r : Option ℕ) (es : s ≡ source c) (good : bad_mode c ≡ false) (er : r ≡ seen m s.pointer.tag s.pointer.address) where
  there : r ≡ seen m (source c).pointer.tag (source c).pointer.address
  there = er ∙ ap (λ (x : Side). seen m x.pointer.tag x.pointer.address) es

  held : (byte : ℕ) → r ≡ Some byte → IsPart FirstFetch c m (Ok (moved_holding 1 byte)) m
  unfolding touched_by memory_by
  held byte e =
      let found = seen-some m (source c).pointer.tag (source c).pointer.address byte (sym there ∙ e) in
      done-by FirstFetch c m good (first-fetch-touches c m ∙ found.0) m refl 1 refl (Holds byte) (first-fetch-holds c m ∙ ap (λ (n : ℕ). holding c (Some n)) (sym found.1))

  lost : r ≡ None → IsPart FirstFetch c m (Err BeyondMemory) m
  lost e = beyond-left FirstFetch c m good (first-fetch-touches c m ∙ seen-none m (source c).pointer.tag (source c).pointer.address (sym there ∙ e))

pub returns-in-Some : goal.returns-in-Some
returns-in-Some c =
    let a = c.args in
    let x = a.self.channel in
    let both = held x (buffers a.sys.now a.io.now) a.self.setup.source c.read.result (source-is x a.self.setup a.self.said) c.requires c.read.ensures _ c.in-Some.is in
    rw c.holds.ensures (record { left = both.0; count = both.1 })

pub returns-in-None : goal.returns-in-None
returns-in-None c =
    let a = c.args in
    let x = a.self.channel in
    let both = lost x (buffers a.sys.now a.io.now) a.self.setup.source c.read.result (source-is x a.self.setup a.self.said) c.requires c.read.ensures c.in-None.is in
    record { left = both.0; count = both.1 }
