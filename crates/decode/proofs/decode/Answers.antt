-- `decode::decode` meets its contract: the cell of the opcode stands for the rows that its two bytes are held against.
-- Assumes nothing.
use mathlib.Core.Path.{sym, ◌∙◌}
use Rattle.instruction_rules.specs.Reading.{decode_of}
use Rattle.decode.proofs.CellLaws.{by-cell}
use Rattle.decode.proofs.decode.Goals as goal

pub returns : goal.returns
unfolding decode_of
returns c =
    let a = c.args in
    (rw (c.split.ensures, c.cell.ensures) at c.read.ensures)
    ∙ sym (by-cell a.first a.second)
