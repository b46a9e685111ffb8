-- `words::displaced` meets its contract: the signed sum is never below zero, since the pointer was raised by a multiple of 2 ^ 20 that no displacement undoes.
-- Assumes nothing.
use Rattle.std.proofs.Common.{◌≡◌, ℕ, suc, ◌+◌, ◌-◌, ◌%◌, ◌^◌, ◌<◌, ℤ, pos, negsuc, ◌+ℤ◌, nat_abs, refl, ap, ◌∙◌, mod-lt, arith, lit<, to_z-of_z, w32, w64, SFits, to_z, of_z, le-ltb}
use lib.Signed.{mag}
use mir.Facts.{to_z_pos, sfits_widen}
use Rattle.ground_rules.specs.Signs.{displaced_by}
use Rattle.words.proofs.displaced.Goals as goal

-- where the raised pointer p + 2 ^ 31 lands
landing : ℕ → ℤ → ℕ
landing p (pos n) = p + 2147483648 + n
landing p (negsuc n) = p + 2147483648 - suc n

-- the signed sum is that number
lands : (p : ℕ) (z : ℤ) → mag z < 2 ^ 31 → pos (p + 2147483648) +ℤ z ≡ pos (landing p z)
unfolding landing
lands p (pos n) h = refl
lands p (negsuc n) h = rw (le-ltb (p + 2147483648) (suc n) (omega arith))

-- which is below 2 ^ 33
lands-low : (p : ℕ) (z : ℤ) → p < 1048576 → mag z < 2 ^ 31 → landing p z < 2 ^ 33
unfolding landing
lands-low p (pos n) hp h = omega arith
lands-low p (negsuc n) hp h = omega arith

-- and in 20 bits it is the displaced pointer
lands-at : (pointer : ℕ) (z : ℤ) → mag z < 2 ^ 31 → landing (pointer % 1048576) z % 1048576 ≡ displaced_by pointer z
unfolding landing displaced_by
lands-at pointer (pos n) h = omega arith
lands-at pointer (negsuc n) h = omega arith

module _ (p : ℕ) (z : ℤ) (hp : p < 1048576) (hz : SFits w32 z) where
  -- what each operand of the sum reads back as, and their sum
  raised : to_z w64 (of_z w64 (to_z w64 p +ℤ pos 2147483648)) ≡ pos (p + 2147483648)
  raised =
      let small : p < 2 ^ 63 = omega arith in
      rw (to_z_pos w64 small) (to_z_pos w64 (omega arith))

  moved : to_z w64 (of_z w64 (to_z w32 (of_z w32 z))) ≡ z
  moved = rw (to_z-of_z {w = w32} hz) (to_z-of_z {w = w64} (sfits_widen {w = w32} {w' = w64} tt hz))

  summed : to_z w64 (of_z w64 (to_z w64 p +ℤ pos 2147483648)) +ℤ to_z w64 (of_z w64 (to_z w32 (of_z w32 z))) ≡ pos (landing p z)
  summed = rw (raised, moved) (lands p z hz.sfits)

  below : landing p z < 2 ^ 63
  below = omega (arith, lands-low p z hp hz.sfits)

  whole : to_z w64 (of_z w64 (to_z w64 (of_z w64 (to_z w64 p +ℤ pos 2147483648)) +ℤ to_z w64 (of_z w64 (to_z w32 (of_z w32 z))))) ≡ pos (landing p z)
  whole = rw summed (to_z_pos w64 below)

within : (n : ℕ) → n % 1048576 < 1048576
within n = mod-lt n (lit< tt)

pub returns : goal.returns
returns c =
    ap (λ (z : ℤ). nat_abs z % 1048576) (whole (c.args.pointer % 1048576) c.args.by (within _) c.ranges.by)
    ∙ lands-at c.args.pointer c.args.by c.ranges.by.sfits
