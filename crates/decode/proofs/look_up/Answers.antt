-- `decode::look_up` meets its contract: one cell stands for the rows and gives the length.
-- Assumes nothing.
use mathlib.Core.Path.{sym, ◌∙◌}
use Rattle.instruction_rules.specs.Pairs.{pair_of}
use Rattle.instruction_rules.specs.Reading.{decode_of}
use Rattle.decode.proofs.CellLaws.{by-cell, two-bits, length-by-cell}
use Rattle.decode.proofs.look_up.Goals as goal

pub cell_length-requires : goal.cell_length-requires
unfolding pair_of
cell_length-requires c = rw c.split-p.ensures (two-bits c.args.first 3, two-bits c.args.first 1)

pub returns : goal.returns
unfolding decode_of
returns c =
    let a = c.args in
    let what = (rw (c.split-p.ensures, c.cell-cell.ensures) at c.read-decoded.ensures) ∙ sym (by-cell a.first a.second) in
    let long = (rw (c.split-p.ensures, c.cell-cell.ensures) at c.cell_length.ensures) ∙ sym (length-by-cell a.first a.second) in
    rw (what, long)
