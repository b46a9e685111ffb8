-- The bits of PSW that a host reads, in numbers (§2.3, §10.2).
-- Assumes nothing.
use Prim.Native.Nat.{ℕ, ◌/◌, ◌%◌, ◌^◌}
use borrow.Author.Tests.{eqb-true, eq-eqb}
use mathlib.Core.Bool.{true}
use mathlib.Core.Logic.{◌↔◌}
use mathlib.Core.Path.{◌≡◌}
use Rattle.ground_rules.proofs.ChoiceLaws.{both_left, both_right}
use Rattle.ground_rules.specs.Bits.{bit_of}
use Rattle.ground_rules.specs.Psw.{interrupt_service, load_limit, interrupt_line}

-- a bit is the remainder by 2 of what the bits below it leave
divided : (psw at : ℕ) → (bit_of psw at ≡ true) ↔ (psw / 2 ^ at % 2 ≡ 1)
unfolding bit_of
divided psw at = (eqb-true (psw / 2 ^ at % 2) 1, eq-eqb (psw / 2 ^ at % 2) 1)

-- IS is bit 4
pub service-bit : (psw : ℕ) → (interrupt_service psw ≡ true) ↔ (psw / 16 % 2 ≡ 1)
service-bit psw = divided psw 4

-- the load limit is bit 5
pub limit-bit : (psw : ℕ) → (load_limit psw ≡ true) ↔ (psw / 32 % 2 ≡ 1)
limit-bit psw = divided psw 5

-- the interrupt line is up exactly where bits 3 and 4 are both 1
pub interrupt-bits : (psw : ℕ) → (interrupt_line psw ≡ true) ↔ ((psw / 8 % 2 ≡ 1) × (psw / 16 % 2 ≡ 1))
unfolding interrupt_line
interrupt-bits psw = (
  λ e. ((divided psw 3).0 (both_right (bit_of psw 4) (bit_of psw 3) e), (divided psw 4).0 (both_left (bit_of psw 4) (bit_of psw 3) e)),
  λ h. rw ((divided psw 4).1 h.1, (divided psw 3).1 h.0),
)
