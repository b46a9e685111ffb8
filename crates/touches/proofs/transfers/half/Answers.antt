-- `touches::transfers::half` meets its contract.
-- Assumes nothing.
use Rattle.std.proofs.Common.{None, Some}
use Rattle.touches.specs.Spots.{spots_of}
use Rattle.transfer_rules.proofs.PartLaws.{half-fetches, half-stores, fetch-due, store-due}
use Rattle.transfer_rules.specs.Parts.{fetch_part, store_part}
use Rattle.touches.proofs.transfers.half.Goals as goal

pub returns-in-None : goal.returns-in-None
unfolding spots_of fetch_part
returns-in-None c = λ h m. rw (c.five.ensures, fetch-due c.args.c None (half-fetches c.args.c h c.if-f-eq1.true) c.in-None.is)

pub returns-in-Some : goal.returns-in-Some
unfolding spots_of fetch_part
returns-in-Some c = λ h m. rw (c.five-in-Some.ensures, fetch-due c.args.c (Some _) (half-fetches c.args.c h c.if-f-eq1.true) c.in-Some.is)

pub returns-in-None-held : goal.returns-in-None-held
unfolding spots_of store_part
returns-in-None-held c = λ h m. let s = half-stores c.args.c h c.if-f-eq1.false in rw (c.five-in-None-held.ensures, store-due c.args.c None s.0 s.1 c.in-None-held.is)

pub returns-in-Some-held : goal.returns-in-Some-held
unfolding spots_of store_part
returns-in-Some-held c = λ h m. let s = half-stores c.args.c h c.if-f-eq1.false in rw (c.five-in-Some-held.ensures, store-due c.args.c (Some _) s.0 s.1 c.in-Some-held.is)
