-- `state_bytes::layout::channel_in` meets its contract.
-- Assumes nothing.
use native.Mathlib.Omega.{arith}
use Rattle.state_rules.specs.Layout.{channel_in}
use Rattle.state_bytes.proofs.layout.channel_in.Goals as goal

pub overflow_add-at-13 : goal.overflow_add-at-13
overflow_add-at-13 c = omega (arith, c.requires, c.well_formed)

pub returns : goal.returns
unfolding channel_in
returns c = rw (c.from.ensures, c.word-5.ensures, c.fields_in.ensures, c.flag.ensures, c.mode.ensures, c.byte.ensures, c.word-4.ensures, c.word-3.ensures, c.word-2.ensures, c.word.ensures, c.long.ensures, c.pointer_in-4.ensures, c.pointer_in-3.ensures, c.pointer_in-2.ensures, c.pointer_in.ensures)
