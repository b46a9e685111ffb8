-- `touches::transfers::whole` meets its contract.
-- Assumes nothing.
use Rattle.touches.specs.Spots.{spots_of}
use Rattle.touches.proofs.TaleLaws.{once-byte}
use Rattle.transfer.specs.Setups.{setup_of}
use Rattle.transfer_rules.proofs.PartLaws.{not-half}
use Rattle.transfer_rules.specs.Reads.{data_of}
use Rattle.transfer_rules.specs.Stores.{first_meets, cut_short, stores_two}
use Rattle.touches.proofs.transfers.whole.Goals as goal

pub returns : goal.returns
unfolding spots_of setup_of stores_two cut_short first_meets data_of
returns c = λ h m e. simp (c.five.ensures, c.from-3.ensures, c.from-2.ensures, c.from.ensures, once-byte, c.meets.ensures, c.requires, e, not-half c.args.c h)
