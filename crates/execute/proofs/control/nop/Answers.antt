-- `control::nop` meets its contract.
-- Assumes nothing.
use Rattle.execute.proofs.ControlWorks.{works-nop}
use Rattle.execute.proofs.control.nop.Goals as goal

pub returns : goal.returns
returns c = λ busy m ch. rw c.past.ensures (works-nop c.args.f m ch busy)
