-- `operands::grown` meets its contract.
-- Assumes nothing.
use Rattle.std.proofs.Common.{Bool, true, false, eqb, ◌≡◌, ℕ, refl}
use Rattle.ground_rules.specs.Choice.{pick}
use Rattle.ground_rules.specs.Updates.{renewed}
use Rattle.ground_rules.specs.declared.Channel.{Channel}
use Rattle.instruction_rules.specs.Operands.{grown}
use Rattle.instruction_rules.specs.declared.Memory.{Memory}
use Rattle.execute.specs.Bytes.{grown_ix}
use Rattle.execute.proofs.operands.grown.Goals as goal

pub returns : goal.returns
unfolding grown renewed grown_ix
returns c = simp c.grown_ix.ensures
