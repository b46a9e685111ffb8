-- `state_bytes::layout::agrees` meets its contract.
-- Assumes nothing.
use native.Mathlib.Omega.{arith}
use Rattle.state_rules.proofs.AgreeLaws.{agrees-by}
use Rattle.state_bytes.proofs.layout.agrees.Goals as goal

pub returns : goal.returns
returns c =
    let w = c.word-cc in
    rw (c.joined_in.ensures, c.without_lock.ensures, w.ensures) (agrees-by c.args.bytes.now c.args.at c.requires.1 (omega (arith, w.ensures)))
