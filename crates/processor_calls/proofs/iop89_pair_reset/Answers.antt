-- `processor_calls::iop89_pair_reset` meets its contract.
-- Assumes nothing.
use mathlib.Core.Path.{ap}
use Rattle.std.proofs.Common.{arith}
use Rattle.ground_rules.specs.Buffers.{buffers}
use Rattle.state_rules.specs.Calls.{MadeBytes}
use Rattle.processor_calls.specs.Calls.{made_as, pair_reset}
use Rattle.processor_calls.proofs.NamedLaws.{leaves-one, leaves-two, leaves_none}
use Rattle.processor_calls.proofs.iop89_pair_reset.Goals as goal

pub returns-in-1 : goal.returns-in-1
unfolding pair_reset
returns-in-1 c = λ m. leaves-one _ _ _ _ _ c.in-1.is _ (ap (λ (o : MadeBytes). made_as o (buffers m.sys m.io_one)) c.iop89_reset.ensures.left)

pub returns-in-2 : goal.returns-in-2
unfolding pair_reset
returns-in-2 c = λ m. leaves-two _ _ _ _ _ c.in-2.is _ (ap (λ (o : MadeBytes). made_as o (buffers m.sys m.io_two)) c.iop89_reset-in-2.ensures.left)

pub returns-in_default : goal.returns-in_default
unfolding pair_reset
returns-in_default c = λ m. rw c.number.ensures (leaves_none _ _ _ _ _ (λ e. omega (arith, e)) (λ e. omega (arith, e)))
