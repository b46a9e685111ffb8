-- The counts of a transfer: how many bytes have moved after k steps, and that all have just at the last.
-- Assumes nothing.
use Prim.Native.Nat.{ℕ, ◌+◌, ◌-◌, ◌*◌, ◌/◌, ◌<◌, ◌≤◌, min}
use mathlib.Core.Bool.{Bool, true, false, ◌||◌}
use mathlib.Core.Path.{◌≡◌, refl}
use native.Mathlib.Omega.{arith}
use Rattle.ground_rules.specs.declared.Channel.{Channel}
use Rattle.transfer_rules.specs.Sides.{source, destination, word_side}
use Rattle.ground_rules.specs.Choice.{pick}
use Rattle.block_rules.specs.Totals.{moved_after, narrow, alone, total}

-- both sides are eight bits wide: a byte at each step
pub moved_narrow : (c : Channel) (n k : ℕ) → narrow c ≡ true → moved_after c n k ≡ min k n
unfolding moved_after
moved_narrow c n k h = rw h

-- and n steps
pub total-narrow : (c : Channel) (n : ℕ) → narrow c ≡ true → total c n ≡ n
unfolding total
total-narrow c n h = rw h

-- some side is wider: two bytes at each step but the first p
pub moved-wide : (c : Channel) (n k : ℕ) → narrow c ≡ false → moved_after c n k ≡ min (2 * k - alone c) n
unfolding moved_after
moved-wide c n k h = rw h

-- and half as many steps
pub total-wide : (c : Channel) (n : ℕ) → narrow c ≡ false → total c n ≡ alone c + (n - alone c + 1) / 2
unfolding total
total-wide c n h = rw h

-- p is 0 where there is a word side
pub alone-none : (c : Channel) → word_side (source c) || word_side (destination c) ≡ true → alone c ≡ 0
unfolding alone
alone-none c h = rw h

-- and 1 where there is none
pub alone-one : (c : Channel) → word_side (source c) || word_side (destination c) ≡ false → alone c ≡ 1
unfolding alone
alone-one c h = rw h

-- no other
alone-le : (c : Channel) → alone c ≤ 1
unfolding alone
alone-le c = go (word_side (source c) || word_side (destination c))
  where
    go : (b : Bool) → pick b 0 1 ≤ 1
    go true = omega arith
    go false = omega arith

-- a transfer of some bytes takes at most a step for each
pub total-most : (c : Channel) (n : ℕ) → 1 ≤ n → total c n ≤ n
total-most c n some = go (narrow c) refl
  where
    go : (b : Bool) → narrow c ≡ b → total c n ≤ n
    go true h = omega (arith, total-narrow c n h)
    go false h = omega (arith, total-wide c n h, alone-le c)

-- at the start none has moved
pub moved-zero : (c : Channel) (n : ℕ) → moved_after c n 0 ≡ 0
moved-zero c n = go (narrow c) refl
  where
    go : (b : Bool) → narrow c ≡ b → moved_after c n 0 ≡ 0
    go true h = omega (arith, moved_narrow c n 0 h)
    go false h = omega (arith, moved-wide c n 0 h)

-- no more than n move
pub moved-le : (c : Channel) (n k : ℕ) → moved_after c n k ≤ n
unfolding moved_after
moved-le c n k = omega arith

-- there is a step to make
pub total-some : (c : Channel) (n : ℕ) → 1 ≤ n → 1 ≤ total c n
total-some c n s = go (narrow c) refl
  where
    go : (b : Bool) → narrow c ≡ b → 1 ≤ total c n
    go true e = omega (arith, total-narrow c n e)
    go false e = omega (arith, total-wide c n e, alone-le c)

-- short of the total some have not moved
pub moved-short : (c : Channel) (n k : ℕ) → 1 ≤ n → k < total c n → moved_after c n k < n
moved-short c n k s h = go (narrow c) refl
  where
    go : (b : Bool) → narrow c ≡ b → moved_after c n k < n
    go true e = omega (arith, moved_narrow c n k e, total-narrow c n e)
    go false e = omega (arith, moved-wide c n k e, total-wide c n e, alone-le c)

-- at the total all have
pub moved_all : (c : Channel) (n k : ℕ) → 1 ≤ n → k ≡ total c n → moved_after c n k ≡ n
moved_all c n k s h = go (narrow c) refl
  where
    go : (b : Bool) → narrow c ≡ b → moved_after c n k ≡ n
    go true e = omega (arith, moved_narrow c n k e, total-narrow c n e)
    go false e = omega (arith, moved-wide c n k e, total-wide c n e, alone-le c)
