-- `execute::findings::found` meets its contract.
-- Assumes nothing.
use Rattle.ground_rules.specs.Buffers.{buffers}
use Rattle.execute.specs.Findings.{finding_of}
use Rattle.execute.proofs.findings.found.Goals as goal

pub returns : goal.returns
unfolding finding_of
returns c =
    let a = c.args in
    let m = buffers a.sys.now a.io.now in
    let known = c.requires.all_bytes in
    let e = c.requires.bytes_value in
    simp (c.tag.ensures, c.value.ensures a.count c.sum20-tp.ensures, c.behind.ensures m a.c.tp known e, c.operand.ensures, c.used_up.ensures, c.place-p.ensures m known e, c.sum20-tp.ensures, c.named-n.ensures)
