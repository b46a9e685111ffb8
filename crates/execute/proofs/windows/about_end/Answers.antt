-- `execute::windows::about_end` meets its contract.
-- Assumes nothing.
use Rattle.std.proofs.Common.{arith}
use Rattle.execute.proofs.PieceLaws.{reach-length}
use Rattle.execute.proofs.windows.about_end.Goals as goal

pub behind-high-requires : goal.behind-high-requires
behind-high-requires c =
    omega (arith, c.requires.0, c.requires.1, reach-length c.args.space.now c.args.most)

pub overflow_sub-end : goal.overflow_sub-end
overflow_sub-end c = c.requires.1

pub eight_of-requires : goal.eight_of-requires
eight_of-requires c =
    omega (arith, c.requires.0, c.requires.1, reach-length c.args.space.now c.args.most)

pub overflow_add-at : goal.overflow_add-at
overflow_add-at c =
    omega (arith, c.requires.0, c.requires.2, reach-length c.args.space.now c.args.most, c.well_formed.0)

pub overflow_sub-at : goal.overflow_sub-at
overflow_sub-at c = omega (arith, c.requires.3)

pub over-requires : goal.over-requires
over-requires c = (omega (arith, c.requires.3), omega (arith, c.requires.2))

pub returns : goal.returns
returns c = rw (c.over.ensures, c.eight_of.ensures, c.behind-high.ensures)
