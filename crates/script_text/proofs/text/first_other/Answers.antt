-- `script_text::text::first_other` meets its contract.
-- Assumes nothing.
use Rattle.std.proofs.Common.{◌+◌, ◌∙◌, ℕ, ap}
use Rattle.script_text.proofs.TextLaws.{until_other_rest}
use Rattle.script_text.proofs.text.first_other.Goals as goal

pub returns-clause-value : goal.returns-clause-value
returns-clause-value c = ap (λ (n : ℕ). c.args.at + n) (c.unwrap_or.ensures ∙ rw c.other.ensures (until_other_rest c.args.b c.args.s.now c.args.at))
