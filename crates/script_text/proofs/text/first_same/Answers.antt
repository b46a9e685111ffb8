-- `script_text::text::first_same` meets its contract.
-- Assumes nothing.
use Rattle.std.proofs.Common.{◌+◌, ◌∙◌, ℕ, ap, arith}
use Rattle.script_text.proofs.TextLaws.{until_same_rest, until_same_end}
use Rattle.script_text.proofs.text.first_same.Goals as goal

pub returns-then-s-at-clause-value : goal.returns-then-s-at-clause-value
returns-then-s-at-clause-value c = omega (arith, until_same_end c.args.b c.args.s.now c.args.at (omega arith))

pub returns-clause-value : goal.returns-clause-value
returns-clause-value c = ap (λ (n : ℕ). c.args.at + n) (c.unwrap_or.ensures ∙ rw c.same.ensures (until_same_rest c.args.b c.args.s.now c.args.at))
