-- The laws of what a transfer step reads, one for each way that its reading ends.
-- Assumes nothing.
use Rattle.std.proofs.Common.{◌≡◌, ℕ, Bool, true, false, Some, None, Option, refl, sym, ap, ◌∙◌}
use Rattle.ground_rules.specs.declared.Channel.{Channel}
use Rattle.ground_rules.specs.Buffers.{Buffers, touchable_at, byte_at}
use Rattle.ground_rules.specs.Places.{all_touchable}
use Rattle.ground_rules.specs.Choice.{pick}
use Rattle.ground_rules.specs.Sums.{sum20}
use Rattle.transfer.specs.Fetches.{sight, seen, fetch_of}
use Rattle.transfer_rules.specs.Reads.{fetched, fetched_second, entry_of, delivered, data_of, read_places}
use Rattle.transfer_rules.specs.Sides.{source, destination, word_side, second_address}
use Rattle.transfer.specs.Setups.{setup_of}
use Rattle.transfer_rules.specs.Steps.{bad_mode}
use Rattle.transfer_rules.specs.declared.Data.{Data}
use Rattle.transfer_rules.specs.declared.Side.{Side}
use Rattle.transfer.specs.declared.Setup.{Setup}
use Rattle.transfer_rules.proofs.TouchLaws.{reads-touchable}
use Rattle.transfer_rules.proofs.StepLaws.{two-plain}

-- what a setup says of its sides is so of the channel's
pub source-is : (c : Channel) (p : Setup) → p ≡ setup_of c → p.source ≡ source c
unfolding setup_of
source-is c p e = ap (λ (x : Setup). x.source) e

pub destination-is : (c : Channel) (p : Setup) → p ≡ setup_of c → p.destination ≡ destination c
unfolding setup_of
destination-is c p e = ap (λ (x : Setup). x.destination) e

pub from-word : (c : Channel) (p : Setup) → p ≡ setup_of c → p.fromWord ≡ word_side (source c)
unfolding setup_of
from-word c p e = ap (λ (x : Setup). x.fromWord) e

pub into-word : (c : Channel) (p : Setup) → p ≡ setup_of c → p.intoWord ≡ word_side (destination c)
unfolding setup_of
into-word c p e = ap (λ (x : Setup). x.intoWord) e

-- what is read is the byte that stands there, where it may be touched
pub seen-sight : (m : Buffers) (tag : Bool) (a : ℕ) → seen m tag a ≡ pick (sight m tag a).touchable (Some (sight m tag a).byte) None
seen-sight m tag a = refl

-- a byte that is seen may be touched, and is the one there; one that is not may not
pub seen-some : (m : Buffers) (tag : Bool) (a byte : ℕ) → seen m tag a ≡ Some byte → (touchable_at m tag a ≡ true) × (byte ≡ byte_at m tag a)
seen-some m tag a byte = go (touchable_at m tag a)
  where
    go : (b : Bool) → pick b (Some (byte_at m tag a)) None ≡ Some byte → (b ≡ true) × (byte ≡ byte_at m tag a)
    go true e = (refl, cc)
    go false e = cc

pub seen-none : (m : Buffers) (tag : Bool) (a : ℕ) → seen m tag a ≡ None → touchable_at m tag a ≡ false
seen-none m tag a = go (touchable_at m tag a)
  where
    go : (b : Bool) → pick b (Some (byte_at m tag a)) None ≡ None → b ≡ false
    go true e = cc
    go false e = refl

-- what is fetched may be touched, and is what the step delivers; where nothing is, a byte may not be touched
pub fetched-some : (c : Channel) (m : Buffers) (d : Data) → fetch_of c m ≡ Some d → (all_touchable m (read_places c m) ≡ true) × (d ≡ data_of c m)
unfolding fetch_of
fetched-some c m d = go (all_touchable m (read_places c m))
  where
    go : (b : Bool) → pick b (Some (data_of c m)) None ≡ Some d → (b ≡ true) × (d ≡ data_of c m)
    go true e = (refl, cc)
    go false e = cc

pub fetched-none : (c : Channel) (m : Buffers) → fetch_of c m ≡ None → all_touchable m (read_places c m) ≡ false
unfolding fetch_of
fetched-none c m = go (all_touchable m (read_places c m))
  where
    go : (b : Bool) → pick b (Some (data_of c m)) None ≡ None → b ≡ false
    go true e = cc
    go false e = refl

module _ (c : Channel) (m : Buffers) (p : Setup) (known : p ≡ setup_of c) where
  -- the source's byte, as a step looks at it: whether it may be touched, and what it is
  abbrev SourceTouchable : Bool → Type 0
  SourceTouchable b = touchable_at m p.source.pointer.tag p.source.pointer.address ≡ b

  abbrev SourceIs : ℕ → Type 0
  SourceIs first = first ≡ byte_at m p.source.pointer.tag p.source.pointer.address

  -- it may not be touched
  pub source-beyond : SourceTouchable false → fetch_of c m ≡ None
  unfolding fetch_of setup_of
  source-beyond = rw known (λ h. rw (reads-touchable, h))

  -- of two bytes the second may not be touched
  pub second-beyond : (next : ℕ) → SourceTouchable true → p.two ≡ true → next ≡ second_address (source c) → touchable_at m p.source.pointer.tag next ≡ false → fetch_of c m ≡ None
  unfolding fetch_of setup_of
  second-beyond next = rw known (λ h two n l. rw (reads-touchable, h, two, rw n at l))

  -- both are read
  pub both_read : (first next : ℕ) → bad_mode c ≡ false → SourceTouchable true → SourceIs first → p.two ≡ true → next ≡ second_address (source c)
      → touchable_at m p.source.pointer.tag next ≡ true → fetch_of c m ≡ Some (record { first = first; second = byte_at m p.source.pointer.tag next })
  unfolding fetch_of setup_of data_of delivered fetched fetched_second
  both_read first next bad = rw known (λ h e two n l. rw (reads-touchable, h, two, rw n at l, e, n, two-plain c bad two))

  -- of one that is translated, what stands for it may not be touched
  pub entry-beyond : (first entry : ℕ) → SourceTouchable true → SourceIs first → p.two ≡ false → c.fields.translates ≡ true → entry ≡ sum20 c.gc.address first
      → touchable_at m c.gc.tag entry ≡ false → fetch_of c m ≡ None
  unfolding fetch_of setup_of entry_of fetched
  entry-beyond first entry = rw known (λ h e one on n l. rw (reads-touchable, h, one, rw (n, e) at l, on))

  -- it is read
  pub translated : (first entry : ℕ) → SourceTouchable true → SourceIs first → p.two ≡ false → c.fields.translates ≡ true → entry ≡ sum20 c.gc.address first
      → touchable_at m c.gc.tag entry ≡ true → fetch_of c m ≡ Some (record { first = byte_at m c.gc.tag entry; second = 0 })
  unfolding fetch_of setup_of data_of delivered entry_of fetched fetched_second
  translated first entry = rw known (λ h e one on n l. rw (reads-touchable, h, one, rw (n, e) at l, n, e, on))

  -- one byte as it is
  pub one-read : (first : ℕ) → SourceTouchable true → SourceIs first → p.two ≡ false → c.fields.translates ≡ false → fetch_of c m ≡ Some (record { first = first; second = 0 })
  unfolding fetch_of setup_of data_of delivered fetched fetched_second
  one-read first = rw known (λ h e one off. rw (reads-touchable, h, one, e, off))
