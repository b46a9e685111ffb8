-- `decode_shapes::pairs::split` meets its contract: each field is the definition's.
-- Assumes nothing.
use Rattle.instruction_rules.specs.Pairs.{pair_of}
use Rattle.decode_shapes.proofs.pairs.split.Goals as goal

pub returns : goal.returns
unfolding pair_of
returns c =
    simp (c.field.ensures, c.field-2.ensures, c.field-3.ensures, c.field-4.ensures, c.field-5.ensures, c.field-6.ensures)
