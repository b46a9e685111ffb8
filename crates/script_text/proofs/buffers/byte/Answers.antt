-- `script_text::buffers::byte` meets its contract.
-- Assumes nothing.
use Rattle.script_text.specs.Buffers.{byte_of}
use Rattle.script_text.proofs.BufferLaws.{digit_or_zero}
use Rattle.script_text.proofs.buffers.byte.Goals as goal

pub returns : goal.returns
unfolding byte_of
returns c = simp (c.unwrap_or.ensures, c.unwrap_or-2.ensures, c.digit.ensures, c.digit-2.ensures, digit_or_zero)
