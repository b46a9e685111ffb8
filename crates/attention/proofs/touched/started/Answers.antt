-- `attention::touched::started` meets its contract.
-- Assumes nothing.
use mathlib.Core.Bool.{and_assoc}
use Rattle.ground_rules.proofs.SpanLaws.{all_append}
use Rattle.attention.proofs.touched.started.Goals as goal

pub returns : goal.returns
returns c = simp (c.stored.ensures, c.span_touchable.ensures, c.sum20.ensures, all_append, and_assoc)
