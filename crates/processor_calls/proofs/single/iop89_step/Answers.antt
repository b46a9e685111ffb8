-- `processor_calls::single::iop89_step` meets its contract: what is lent is of bytes, as every slice of them is.
-- Assumes nothing.
use Rattle.std.proofs.Common.{rules}
use Rattle.ground_rules.proofs.ByteLaws.{all-bytes}
use Rattle.processor_calls.proofs.single.iop89_step.Goals as goal

pub returns-clause-bytes : goal.returns-clause-bytes
returns-clause-bytes c = (λ i. search rules, all-bytes _ _ (λ i. search rules) (λ i. search rules))
