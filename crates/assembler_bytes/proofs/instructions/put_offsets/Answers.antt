-- `assembler_bytes::instructions::put_offsets` meets its contract.
-- Assumes nothing.
use mathlib.Core.Path.{ap, ◌∙◌}
use lib.ListN.{drop_of_length-le}
use Rattle.assembler_bytes.specs.Laid.{laid_at}
use Rattle.assembler_bytes.proofs.PlacedLaws.{offsets-next, offsets-none}
use Rattle.assembler_bytes.proofs.instructions.put_offsets.Goals as goal

pub loop-place-preserved : goal.loop-place-preserved
loop-place-preserved c bs = c.put_offset-next.ensures _ ∙ ap (laid_at c.loop-place.room c.loop-place.next) (offsets-next c.args.places.now c.loop-place.place-index bs c.loop-place-test.true) ∙ c.loop-place.invariant bs

pub returns : goal.returns
returns c bs = ap (laid_at c.loop-place.room c.loop-place.next) (offsets-none c.args.places.now c.loop-place.place-index bs (drop_of_length-le c.args.places.now c.loop-place-test.false)) ∙ c.loop-place.invariant bs
