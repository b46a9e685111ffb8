-- `decode::pair_length` meets its contract: the cell of the opcode gives the length.
-- Assumes nothing.
use mathlib.Core.Path.{sym, ◌∙◌}
use Rattle.instruction_rules.specs.Pairs.{pair_of}
use Rattle.decode.proofs.CellLaws.{two-bits, length-by-cell}
use Rattle.decode.proofs.pair_length.Goals as goal

pub cell_length-requires : goal.cell_length-requires
unfolding pair_of
cell_length-requires c = rw c.split.ensures (two-bits c.args.first 3, two-bits c.args.first 1)

pub returns : goal.returns
returns c =
    let a = c.args in
    (rw (c.split.ensures, c.cell.ensures) at c.cell_length.ensures)
    ∙ sym (length-by-cell a.first a.second)
