-- `touches::tell::word` meets its contract.
-- Assumes nothing.
use native.Mathlib.Omega.{arith}
use Rattle.ground_rules.specs.Cc.{bit_worth}
use Rattle.ground_rules.specs.Buffers.{index_of, limit_of}
use Rattle.touch_rules.specs.Told.{told_number}
use Rattle.touches.proofs.TaleLaws.{worth-byte}
use Rattle.touches.proofs.tell.word.Goals as goal

pub returns-then-tag : goal.returns-then-tag
unfolding told_number index_of limit_of bit_worth
returns-then-tag c = rw (c.if-tag.true, c.from.ensures, c.from-2.ensures) (omega (arith, worth-byte c.args.store 2097152, worth-byte c.args.beyond 4194304))

pub returns-else-tag : goal.returns-else-tag
unfolding told_number index_of limit_of bit_worth
returns-else-tag c = rw (c.if-tag.false, c.from.ensures, c.from-2.ensures) (omega (arith, worth-byte c.args.store 2097152, worth-byte c.args.beyond 4194304))
