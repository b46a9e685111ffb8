-- `transfer::bytes_fetched` meets its contract.
-- Assumes nothing.
use Rattle.std.proofs.Common.{ap, ◌∙◌}
use Rattle.transfer.specs.Setups.{setup_of}
use Rattle.transfer.specs.declared.Setup.{Setup}
use Rattle.ground_rules.specs.Choice.{pick}
use Rattle.transfer.proofs.bytes_fetched.Goals as goal

pub returns : goal.returns
unfolding setup_of
returns c = c.one_or_two.ensures ∙ ap (λ (x : Setup). pick x.two 2 1) c.plan.ensures
