-- `assembler_bytes::instructions::rrr_of` meets its contract. The loop's invariant: RRR is that of the places passed.
-- Assumes nothing.
use Rattle.assembler_bytes.proofs.PlacedLaws.{read-none, read-next, read-all}
use Rattle.assembler_bytes.proofs.instructions.rrr_of.Goals as goal

pub loop-place-init : goal.loop-place-init
loop-place-init c = rw (c.into_iter-place-iterator.ensures.into_iter_gives, c.rev-place-items.ensures.source, c.iter.ensures.rest, c.rrr-rrr.ensures) (read-none _ _)

pub loop-place-preserved : goal.loop-place-preserved
loop-place-preserved c = rw c.rrr-rrr-in-loop-place.ensures (read-next _ _ _ _ _ _ _ c.in-Some.ensures.steps c.loop-place.invariant)

pub returns : goal.returns
returns c = read-all _ _ _ _ _ c.loop-place.invariant c.in-None.ensures.steps.0
