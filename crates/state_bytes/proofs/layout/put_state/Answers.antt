-- `state_bytes::layout::put_state` meets its contract.
-- Assumes nothing.
use mathlib.Core.Path.{◌∙◌}
use native.Mathlib.Omega.{arith}
use Rattle.state_rules.specs.Layout.{bytes_of}
use Rattle.state_rules.proofs.BackLaws.{state-back}
use Rattle.state_rules.proofs.LengthLaws.{length-little, length-board, length-channel}
use Rattle.state_rules.proofs.SetsLaws.{sets-append}
use Rattle.state_bytes.proofs.layout.put_state.Goals as goal

pub returns : goal.returns
unfolding bytes_of
returns c = record { put = c.put_channel-2.ensures.put ∙ rw (c.put_channel.ensures.put, c.put_board.ensures, c.put-2.ensures, c.flag_byte.ensures, c.put_long.ensures, c.put.ensures) (simp (sets-append, length-little, length-board, length-channel)); whole = state-back c.args.s (record { first = c.put_channel.ensures.fits; second = c.put_channel-2.ensures.fits; cp = omega (arith, c.well_formed.1.0.1.1.1.1.0) }) }
