-- `lister::reading::mov_memory` meets its contract.
-- Assumes nothing.
use native.Mathlib.Omega.{arith}
use Rattle.instruction_rules.specs.declared.Shape.TheVariants.{MovMemory}
use Rattle.listing_rules.proofs.ItemLaws.{mov-size, offset-small, second-read, whole-none, whole-cut, whole-there}
use Rattle.lister.proofs.reading.mov_memory.Goals as goal

pub returns-in_default : goal.returns-in_default
returns-in_default c = whole-none c.args.bytes.now (MovMemory c.args.m) _ (second-read c.args.bytes.now c.args.m _ _ c.offset_length-offset.ensures c.decode_second.ensures) c.in_default.is

pub overflow_add-length : goal.overflow_add-length
overflow_add-length c = omega (arith, offset-small _ _ c.offset_length-offset.ensures)

pub overflow_add-length-2 : goal.overflow_add-length-2
overflow_add-length-2 c = omega (arith, offset-small _ _ c.offset_length-offset.ensures, offset-small _ _ c.offset_length.ensures)

pub returns-then-bytes-length : goal.returns-then-bytes-length
returns-then-bytes-length c = whole-cut c.args.bytes.now (MovMemory c.args.m) _ (second-read c.args.bytes.now c.args.m _ _ c.offset_length-offset.ensures c.decode_second.ensures) _ (mov-size _ c.args.m c.offset_length-offset.ensures) _ c.in-Some.is _ c.offset_length.ensures c.if-bytes-length.true

pub returns : goal.returns
returns c = whole-there c.args.bytes.now (MovMemory c.args.m) _ (second-read c.args.bytes.now c.args.m _ _ c.offset_length-offset.ensures c.decode_second.ensures) _ (mov-size _ c.args.m c.offset_length-offset.ensures) _ c.in-Some.is _ c.offset_length.ensures c.if-bytes-length.false
