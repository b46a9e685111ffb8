-- `assembler_text::sums::begins_digit` meets its contract.
-- Assumes nothing.
use Rattle.std.proofs.Common.{rules, tests}
use Rattle.assembler_text.proofs.NameLaws.{begins-digit, begins-none}
use Rattle.assembler_text.proofs.sums.begins_digit.Goals as goal

pub returns : goal.returns
returns c = let run = c.args.run.now in search (rules, tests, begins-digit run, begins-none run)
