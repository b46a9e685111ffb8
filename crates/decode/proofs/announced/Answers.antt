-- `decode::announced` meets its contract: its digits are the rule's.
-- Assumes nothing.
use Rattle.decode.proofs.CellLaws.{announced-digit}
use Rattle.decode.proofs.announced.Goals as goal

pub returns : goal.returns
returns c = announced-digit c.args.dd c.args.aa c.requires.0 c.requires.1
