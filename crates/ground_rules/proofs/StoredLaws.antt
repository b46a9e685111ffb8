-- The laws of a pointer's stored form: there and back loses nothing, and what any three bytes give is stored as those bytes but for three bits.
-- Assumes nothing.
use mathlib.Core.Bool.{Bool, true, false}
use mathlib.Core.Path.{◌≡◌, refl, ◌∙◌}
use Prim.Native.Nat.{ℕ, ◌+◌, ◌*◌, ◌/◌, ◌%◌, ◌<◌}
use native.Mathlib.Nat.{mod-eq_of_lt}
use native.Mathlib.Omega.{arith}
use borrow.Author.Tests.{eq-eqb, ne_eqb, eqb-true, eqb-false}
use lib.Dec.{eqb}
use Rattle.ground_rules.specs.Choice.{pick}
use Rattle.ground_rules.specs.Bits.{bit_of}
use Rattle.ground_rules.specs.Stored.{stored_low, stored_middle, stored_high, stored_address, stored_tag}

-- the high half of the third byte, whatever the tag
upper : (address : ℕ) (tag : Bool) → stored_high address tag / 16 ≡ address / 65536 % 16
upper address true = omega arith
upper address false = omega arith

-- any address, stored and read back, is the address in 20 bits
pub address-back : (address : ℕ) (tag : Bool) → stored_address (stored_low address) (stored_middle address) (stored_high address tag) ≡ address % 1048576
address-back address tag =
    let high : address / 65536 ≡ address / 256 / 256 = omega arith in
    rw (upper address tag) (omega arith)

-- an address of 20 bits, stored and read back, is itself
pub address_kept : (address : ℕ) (tag : Bool) → address < 1048576 → stored_address (stored_low address) (stored_middle address) (stored_high address tag) ≡ address
address_kept address tag h = address-back address tag ∙ mod-eq_of_lt h

-- the tag, stored and read back, is itself
pub tag-kept : (address : ℕ) (tag : Bool) → stored_tag (stored_high address tag) ≡ tag
unfolding bit_of
tag-kept address true = eq-eqb ((address / 65536 % 16 * 16 + 8) / 8 % 2) 1 (omega arith)
tag-kept address false = ne_eqb ((address / 65536 % 16 * 16 + 0) / 8 % 2) 1 (omega arith)

-- three bytes, read and stored again: the first is itself
pub low_again : (low middle high : ℕ) → low < 256 → stored_low (stored_address low middle high) ≡ low
low_again low middle high h = omega arith

-- the second is itself
pub middle-again : (low middle high : ℕ) → low < 256 → middle < 256 → stored_middle (stored_address low middle high) ≡ middle
middle-again low middle high h₁ h₂ = omega arith

-- the third loses at most its low three bits
pub high-again : (low middle high : ℕ) → low < 256 → middle < 256 → high < 256 → stored_high (stored_address low middle high) (stored_tag high) ≡ high / 8 * 8
unfolding bit_of
high-again low middle high h₁ h₂ h₃ = go (eqb (high / 8 % 2) 1) refl
  where
    upper : (low + middle * 256 + high / 16 * 65536) / 65536 % 16 * 16 ≡ high / 16 * 16
    upper = omega arith

    go : (b : Bool) → eqb (high / 8 % 2) 1 ≡ b → (low + middle * 256 + high / 16 * 65536) / 65536 % 16 * 16 + pick b 8 0 ≡ high / 8 * 8
    go true e = omega (arith, upper, eqb-true (high / 8 % 2) 1 e)
    go false e = omega (arith, upper, eqb-false (high / 8 % 2) 1 e)
