use Prim.Native.Nat.{◌<◌}
use mathlib.Core.Path.{◌≡◌}
use lib.ListN.{drop}
use Rattle.assembly_rules.specs.Text.{capitals}
use Rattle.assembly_rules.specs.Numbers.{digits_from}
use Rattle.assembler_text.proofs.constants.read_digits.Given as goal

abbrev pub invariant-loop-c : goal.invariant-loop-c
invariant-loop-c l = (digits_from l.radix l.value (capitals (drop l.c-index l.digits)) ≡ digits_from l.radix 0 (capitals l.digits)) × (l.value < 65536)
