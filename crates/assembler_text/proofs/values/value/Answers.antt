-- `assembler_text::values::value` meets its contract.
-- Assumes nothing.
use mathlib.Core.Path.{sym, ◌∙◌}
use lib.ListN.{drop}
use Rattle.assembly_rules.specs.Text.{tokens_of}
use Rattle.assembler_text.specs.Places.{labels_of}
use Rattle.assembler_text.specs.Reads.{read_as}
use Rattle.assembler_text.proofs.ReadLaws.{worth-failed, worth-read}
use Rattle.assembler_text.proofs.values.value.Goals as goal

pub returns-in-Err : goal.returns-in-Err
unfolding read_as
returns-in-Err c = c.unknown.ensures ∙ sym (worth-failed (labels_of c.args.text.now c.args.labels.now) (tokens_of (drop c.args.at c.args.text.now)) _ (sym c.in-Err.ensures))

pub returns-in-Ok : goal.returns-in-Ok
unfolding read_as
returns-in-Ok c = sym (worth-read (labels_of c.args.text.now c.args.labels.now) (tokens_of (drop c.args.at c.args.text.now)) _ _ (sym c.in-Ok.ensures))
