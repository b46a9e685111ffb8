-- The laws of the held byte and of the mode: as numbers they come back, and every number that stands for a held byte is one's own.
-- Assumes nothing.
use Rattle.std.proofs.Common.{Option, ℕ, None, Some}
use Prim.Native.Nat.{ℕ, ◌+◌, ◌%◌, ◌<◌}
use borrow.Author.Tests.{ne_eqb, lt-ltb, le-ltb, le-leb, ltb-true, leb-true, eqb-true}
use lib.Dec.{eqb, ltb, leb, lit<}
use mathlib.Core.Bool.{Bool, true, false, ◌&&◌, ◌||◌}
use mathlib.Core.Path.{◌≡◌, refl, sym, ap}
use native.Mathlib.Nat.{mod-lt}
use native.Mathlib.Omega.{arith}
use Rattle.ground_rules.proofs.ChoiceLaws.{both_left, both_right}
use Rattle.ground_rules.specs.Choice.{pick}
use Rattle.ground_rules.specs.Holdings.{held_number, held_from, is_held_number}
use Rattle.ground_rules.specs.States.{mode_code, mode_coded}
use Rattle.ground_rules.specs.declared.Mode.{Mode}
use Rattle.ground_rules.specs.declared.Mode.TheVariants.{Idle, Running, Suspended}

-- a mode comes back from its number
pub mode-back : (m : Mode) → mode_coded (mode_code m) ≡ m
mode-back Idle = refl
mode-back Running = refl
mode-back Suspended = refl

-- what is held is a byte
abbrev pub HeldFits : Option ℕ → Type 0
HeldFits None = Unit {0}
HeldFits (Some byte) = byte < 256

-- it comes back from its number
pub held_back : (h : Option ℕ) → HeldFits h → held_from (held_number h) ≡ h
unfolding held_from held_number
held_back None f = refl
held_back (Some byte) f = rw (le-ltb (256 + byte) 256 (omega arith)) (ap Some (omega (arith, f)))

-- and its number stands for it
pub held-stands : (h : Option ℕ) → HeldFits h → is_held_number (held_number h) ≡ true
unfolding is_held_number held_number
held-stands None f = refl
held-stands (Some byte) f = rw (ne_eqb (256 + byte) 0 (omega arith), le-leb 256 (256 + byte) (omega arith), lt-ltb (256 + byte) 512 (omega (arith, f)))

-- a number that stands for something comes back from it
pub number-back : (n : ℕ) → is_held_number n ≡ true → held_number (held_from n) ≡ n
unfolding is_held_number held_from held_number
number-back n h = go (eqb n 0) refl h
  where
    go : (b : Bool) → eqb n 0 ≡ b → b || leb 256 n && ltb n 512 ≡ true → held_number (pick (ltb n 256) None (Some (n % 256))) ≡ n
    go true e k = let z : n ≡ 0 = eqb-true n 0 e in rw (lt-ltb n 256 (omega arith)) (sym z)
    go false e k =
        let low = leb-true 256 n (both_left (leb 256 n) (ltb n 512) k) in
        let high = ltb-true n 512 (both_right (leb 256 n) (ltb n 512) k) in
        rw (le-ltb n 256 low) (omega (arith, low, high))

-- what a number stands for is a byte
pub from-fits : (n : ℕ) → HeldFits (held_from n)
unfolding held_from
from-fits n = go (ltb n 256)
  where
    go : (b : Bool) → HeldFits (pick b None (Some (n % 256)))
    go true = tt
    go false = mod-lt n (lit< tt)
