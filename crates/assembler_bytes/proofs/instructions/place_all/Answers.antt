-- `assembler_bytes::instructions::place_all` meets its contract.
-- Assumes nothing.
use native.Mathlib.Omega.{arith}
use mathlib.Core.Path.{◌∙◌}
use Rattle.assembler_bytes.proofs.PlacedLaws.{three-set}
use Rattle.assembler_bytes.proofs.instructions.place_all.Goals as goal

pub returns : goal.returns
returns c = three-set c.args.places.now c.new.result c.new-2.result c.new-3.result (omega (arith, c.told-places)) ∙ rw (c.new.ensures, c.new-2.ensures, c.new-3.ensures, c.kinds-kinds.ensures)
