-- `execute::control::xfer` meets its contract.
-- Assumes nothing.
use Rattle.execute.proofs.ControlWorks.{works-xfer}
use Rattle.execute.proofs.control.xfer.Goals as goal

pub returns : goal.returns
returns c = λ busy m ch. rw c.past.ensures (works-xfer c.args.f m ch busy)
