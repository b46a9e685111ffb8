use Rattle.assembler_forms.proofs.TableLaws.{Read}
use Rattle.assembler_forms.proofs.table.run_number.Given as goal

abbrev pub invariant-loop-c : goal.invariant-loop-c
invariant-loop-c l = Read l.run l.c-iterator.iter.rest.now l.n
