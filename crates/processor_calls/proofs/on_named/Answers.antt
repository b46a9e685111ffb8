-- `processor_calls::on_named` meets its contract.
-- Assumes nothing.
use Rattle.std.proofs.Common.{arith}
use Rattle.processor_calls.proofs.NamedLaws.{leaves-one, leaves-two, leaves_none}
use Rattle.processor_calls.proofs.on_named.Goals as goal

pub returns-in-1 : goal.returns-in-1
returns-in-1 g c = λ twelve single makes. leaves-one twelve single _ _ _ c.in-1.is _ (makes _ _ _ c.call.ensures)

pub returns-in-2 : goal.returns-in-2
returns-in-2 g c = λ twelve single makes. leaves-two twelve single _ _ _ c.in-2.is _ (makes _ _ _ c.call-in-2.ensures)

pub returns-in_default : goal.returns-in_default
returns-in_default g c = λ twelve single makes. leaves_none twelve single _ _ _ (λ e. omega (arith, e)) (λ e. omega (arith, e))
