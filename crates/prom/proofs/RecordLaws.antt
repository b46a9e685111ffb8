-- The laws of a good record: its digits, its length, its bounds, and the digits of its data.
-- Assumes nothing.
use Prim.Native.Nat.{ℕ, ◌+◌, ◌*◌, ◌<◌}
use lib.Dec.{eqb}
use lib.ListN.{length, take, drop}
use mathlib.Core.Bool.{Bool, true, false}
use mathlib.Core.List.{List, ◌∷◌}
use mathlib.Core.Path.{◌≡◌, refl, sym, ap, ◌∙◌}
use native.Mathlib.Omega.{arith}
use Rattle.ground_rules.specs.Choice.{pick}
use Rattle.prom_rules.specs.File.{segment_after}
use Rattle.prom_rules.specs.Records.{all_hex, hex_bytes, hex_size, word_from, type_of, data_bytes, segment_of, fits_type, line_refusal}
use Rattle.prom_rules.proofs.DigitLaws.{byte-below, bytes_drop, bytes_take, all_drop, all_take}
use Rattle.prom_rules.proofs.RecordLaws.{good}

module _ (ds : List ℕ) (e : line_refusal (58 ∷ ds) ≡ 0) where
  pub record-digits : all_hex ds ≡ true
  record-digits = (good (58 ∷ ds) e).digits

  pub record_length : length ds ≡ 2 * (hex_size (hex_bytes ds) + 5)
  record_length = (good (58 ∷ ds) e).count

  pub record-known : fits_type (type_of (hex_bytes ds)) (hex_size (hex_bytes ds)) ≡ true
  record-known = (good (58 ∷ ds) e).known

  pub size_below : hex_size (hex_bytes ds) < 256
  unfolding hex_size
  size_below = byte-below ds 0 record-digits

  pub word_below : (k : ℕ) → word_from (hex_bytes ds) k < 65536
  word_below k = omega (arith, byte-below ds k record-digits, byte-below ds (k + 1) record-digits)

  -- the segment behind it fits a word
  pub segment-below : (segment : ℕ) → segment < 65536 → segment_after (hex_bytes ds) segment < 65536
  unfolding segment_after segment_of
  segment-below segment h = go (eqb (type_of (hex_bytes ds)) 2)
    where
      go : (x : Bool) → pick x (segment_of (hex_bytes ds)) segment < 65536
      go true = word_below 4
      go false = h

  -- its data are written by the digits from the ninth on
  module _ (n : ℕ) (q : n ≡ hex_size (hex_bytes ds) * 2) where
    pub data-digits : hex_bytes (take n (drop 8 ds)) ≡ data_bytes (hex_bytes ds)
    unfolding data_bytes
    data-digits = sym (ap (take (hex_size (hex_bytes ds))) (bytes_drop 4 8 ds refl) ∙ bytes_take (hex_size (hex_bytes ds)) n (drop 8 ds) (omega (arith, q)))

    pub data-all : all_hex (take n (drop 8 ds)) ≡ true
    data-all = all_take n (drop 8 ds) (all_drop 8 ds record-digits)
