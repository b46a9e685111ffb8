-- `state_bytes::layout::agree` meets its contract.
-- Assumes nothing.
use native.Mathlib.Omega.{arith}
use Rattle.ground_rules.specs.States.{agree}
use Rattle.state_rules.specs.Layout.{state_in}
use Rattle.state_rules.proofs.AgreeLaws.{first-fields, second-fields}
use Rattle.state_rules.proofs.CallLaws.{state-length}
use Rattle.state_bytes.proofs.layout.agree.Goals as goal

pub agrees-requires : goal.agrees-requires
agrees-requires c = (omega (arith, state-length _ c.requires), first-fields _ c.requires)

pub agrees-requires-2 : goal.agrees-requires-2
agrees-requires-2 c = (omega (arith, state-length _ c.requires), second-fields _ c.requires)

pub returns : goal.returns
unfolding agree state_in
returns c = rw (c.agrees-2.ensures, c.agrees.ensures)
