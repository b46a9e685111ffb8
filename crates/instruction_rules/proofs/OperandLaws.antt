-- Operands in numbers: a byte is extended by its sign, and a displacement counts from the end of its instruction.
-- Assumes nothing.
use Prim.Native.Nat.{◌≤◌}
use lib.Dec.{lit≤}
use mathlib.Core.Bool.{Bool, true, false}
use mathlib.Core.Path.{◌≡◌}
use Rattle.ground_rules.specs.Buffers.{Buffers}
use Rattle.ground_rules.specs.Values.{pointer}
use Rattle.ground_rules.specs.declared.Pointer.{Pointer}
use Rattle.ground_rules.specs.Signs.{signed_of, extended, displaced_by}
use Rattle.instruction_rules.specs.Operands.{byte_here, size_of, operand_at, displacement_at, landing}

-- a byte 80h is FFF80h
pub byte-extended : (m : Buffers) (p : Pointer) → byte_here m p ≡ 0x80 → operand_at m p false ≡ 0xFFF80
unfolding operand_at extended
byte-extended m p e = rw e

-- a byte FBh leads from 303h, past the instruction, to 2FEh, wherever the byte stands
pub byte-leads : (m : Buffers) (p : Pointer) (tag : Bool) → byte_here m p ≡ 0xFB → landing m (pointer 0x303 tag) p false ≡ pointer 0x2FE tag
unfolding landing displacement_at signed_of displaced_by
byte-leads m p tag e = rw e

-- an operand has at most two bytes
pub size_small : (wide : Bool) → size_of wide ≤ 2
size_small true = lit≤ tt
size_small false = lit≤ tt
