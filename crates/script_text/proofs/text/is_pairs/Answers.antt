-- `script_text::text::is_pairs` meets its contract.
-- Assumes nothing.
use Rattle.script_text.specs.Text.{is_pairs}
use Rattle.script_text.proofs.TextLaws.{not_empty, all_digits_each}
use Rattle.script_text.proofs.text.is_pairs.Goals as goal

pub returns : goal.returns
unfolding is_pairs
returns c = rw (c.is_empty.ensures, not_empty c.args.w.now, c.all_digits.ensures, all_digits_each c.args.w.now)
