-- `state_bytes::layout::put_channel` meets its contract.
-- Assumes nothing.
use mathlib.Core.Path.{◌∙◌}
use Rattle.state_rules.proofs.GroupLaws.{channel-put}
use Rattle.state_bytes.specs.Puts.{front_bytes}
use Rattle.state_bytes.proofs.layout.put_channel.Goals as goal

pub returns : goal.returns
unfolding front_bytes
returns c = record { fits = c.put_front.ensures.fits; put = c.put_held.ensures ∙ rw (c.put_fields.ensures, c.put_front.ensures.put) (channel-put _ _ _) }
