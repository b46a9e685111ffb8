-- `state_bytes::layout::put_agreeing` meets its contract.
-- Assumes nothing.
use mathlib.Core.Path.{◌∙◌}
use Rattle.state_rules.specs.Layout.{channel_in}
use Rattle.state_bytes.specs.Puts.{put_agreeing}
use Rattle.state_bytes.proofs.layout.put_agreeing.Goals as goal

pub returns : goal.returns
unfolding put_agreeing channel_in
returns c = record { fits = c.put_front.ensures.fits; put = c.put_held.ensures ∙ rw (c.put_changed.ensures, c.put_front.ensures.put, c.word.ensures) }
