-- `state_bytes::layout::joined_in` meets its contract: two products, and what they leave out.
-- Assumes nothing.
use Rattle.state_rules.proofs.AgreeLaws.{made_up}
use Rattle.state_bytes.proofs.layout.joined_in.Goals as goal

pub returns : goal.returns
returns c =
    rw (c.byte-matching.ensures, c.byte-count.ensures, c.long-2.ensures, c.long.ensures) (made_up c.args.bytes.now c.args.at c.requires.1)
