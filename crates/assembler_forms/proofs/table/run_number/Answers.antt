-- `assembler_forms::table::run_number` meets its contract. The loop's invariant: the number is that of the characters passed.
-- Assumes nothing.
use native.Mathlib.Omega.{arith}
use mathlib.Core.Path.{refl, ap, ◌∙◌}
use lib.ListN.{length}
use Rattle.std.proofs.lemmas.List.{length_push}
use Rattle.assembler_forms.proofs.TableLaws.{read-none, read-next, read-small, read-all, number-long, number_short}
use Rattle.assembler_forms.proofs.table.run_number.Goals as goal

pub returns-then-run-gt6 : goal.returns-then-run-gt6
returns-then-run-gt6 c = number-long c.args.run.now 0 (λ i. omega (arith, c.type_inv.run i)) c.if-run-gt6.true refl

pub loop-c-init : goal.loop-c-init
loop-c-init c = rw (c.into_iter-c-iterator.ensures.into_iter_gives, c.rev-c-items.ensures.source, c.iter.ensures.rest) (read-none c.args.run.now)

pub overflow_mul-n : goal.overflow_mul-n
overflow_mul-n c = let s = c.in-Some.ensures.steps in omega (arith, read-small _ _ _ c.loop-c.invariant (omega (arith, ap length s, length_push c.next.new.self.iter.rest.now c.in-Some.c.now)) c.if-run-gt6.false)

pub overflow_add-n : goal.overflow_add-n
overflow_add-n c = let s = c.in-Some.ensures.steps in omega (arith, read-small _ _ _ c.loop-c.invariant (omega (arith, ap length s, length_push c.next.new.self.iter.rest.now c.in-Some.c.now)) c.if-run-gt6.false, c.from.ensures, c.capital.type_inv)

pub loop-c-preserved : goal.loop-c-preserved
loop-c-preserved c = read-next c.args.run.now _ _ c.in-Some.c.now c.from.result _ c.in-Some.ensures.steps (c.from.ensures ∙ c.capital.ensures) (omega (arith, c.from.ensures, c.capital.type_inv)) c.loop-c.invariant

pub returns : goal.returns
returns c = number_short c.args.run.now _ (λ i. omega (arith, c.type_inv.run i)) c.if-run-gt6.false (read-all _ _ _ c.loop-c.invariant c.in-None.ensures.steps.0)
