-- `attention::touched::stored` meets its contract.
-- Assumes nothing.
use Rattle.ground_rules.proofs.SpanLaws.{all_append}
use Rattle.attention.proofs.touched.stored.Goals as goal

pub returns : goal.returns
returns c = rw (c.busy.ensures, c.span_touchable.ensures, all_append)
