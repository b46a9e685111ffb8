-- The bounds of an instruction's length: two to six bytes.
-- Assumes nothing.
use mathlib.Core.Bool.{Bool, true, false}
use Prim.Native.Nat.{ℕ, ◌≤◌}
use native.Mathlib.Omega.{arith}
use lib.Dec.{eqb, lit≤}
use Rattle.instruction_rules.specs.declared.Shape.{Shape}
use Rattle.instruction_rules.specs.declared.Shape.TheVariants.{Nop, Sintr, Xfer, Wid, Hlt, Lpdi, RegisterImmediate, Register, JumpRegister, RegisterMemory, MemoryRegister, MemoryImmediate, MemoryAlone, JumpMemory, Lpd, MovpLoad, MovpStore, MovMemory, Tsl, Call, JumpMasked, JumpBit, Bit}
use Rattle.instruction_rules.specs.Lengths.{offset_by, more_by, two_by, data_length, displacement_length, length_of}

-- a byte more is at most one
pub more-small : (b : Bool) → more_by b ≤ 1
more-small true = lit≤ tt
more-small false = lit≤ tt

-- two bytes more are at most two
pub two-small : (b : Bool) → two_by b ≤ 2
two-small true = lit≤ tt
two-small false = lit≤ tt

-- an offset is at most one
pub offset-small : (aa : ℕ) → offset_by aa ≤ 1
offset-small aa = more-small (eqb aa 1)

-- every instruction has two to six bytes
pub bounded : (s : Shape) → (2 ≤ length_of s) × (length_of s ≤ 6)
unfolding length_of data_length displacement_length
bounded Nop = omega (arith)
bounded Sintr = omega (arith)
bounded Xfer = omega (arith)
bounded (Wid source destination) = omega (arith)
bounded Hlt = omega (arith)
bounded (Lpdi ppp) = omega (arith)
bounded (RegisterImmediate work rrr wide) = omega (arith, more-small wide)
bounded (Register single rrr) = omega (arith)
bounded (JumpRegister zero rrr two) = omega (arith, more-small two)
bounded (RegisterMemory work rrr m) = omega (arith, offset-small m.aa)
bounded (MemoryRegister work rrr m) = omega (arith, offset-small m.aa)
bounded (MemoryImmediate work m) = omega (arith, offset-small m.aa, more-small m.wide)
bounded (MemoryAlone single m) = omega (arith, offset-small m.aa)
bounded (JumpMemory zero m two) = omega (arith, offset-small m.aa, more-small two)
bounded (Lpd ppp m) = omega (arith, offset-small m.aa)
bounded (MovpLoad ppp m) = omega (arith, offset-small m.aa)
bounded (MovpStore ppp m) = omega (arith, offset-small m.aa)
bounded (MovMemory m) = omega (arith, offset-small m.aa)
bounded (Tsl m) = omega (arith, offset-small m.aa)
bounded (Call m two) = omega (arith, offset-small m.aa, more-small two)
bounded (JumpMasked equal m two) = omega (arith, offset-small m.aa, more-small two)
bounded (JumpBit set bit m two) = omega (arith, offset-small m.aa, more-small two)
bounded (Bit on bit m) = omega (arith, offset-small m.aa)
