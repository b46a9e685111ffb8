use Prim.Native.Nat.{◌/◌, ◌%◌}
use Rattle.assembler_bytes.proofs.PlacedLaws.{Read}
use Rattle.assembler_bytes.proofs.instructions.rrr_of.Given as goal

abbrev pub invariant-loop-place : goal.invariant-loop-place
invariant-loop-place l = Read (l.fn.code.0 / 0x10000 % 16) l.places l.place-iterator.iter.rest.now l.rrr l.next
