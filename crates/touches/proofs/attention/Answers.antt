-- `touches::attention` meets its contract.
-- Assumes nothing.
use Prim.Native.Nat.{ℕ}
use Rattle.attention_rules.specs.Attention.{order_to}
use Rattle.ground_rules.specs.Buffers.{buffers}
use Rattle.touches.proofs.CallLaws.{attention-refused, attention-ordered}
use Rattle.touches.specs.Tales.{untold, foreseen_at}
use Rattle.ground_rules.proofs.RefusalLaws.{number-some}
use lib.Dec.{eqb}
use mathlib.Core.Path.{sym, ap, ◌∙◌}
use Rattle.touches.proofs.attention.Goals as goal

pub returns-in-Err : goal.returns-in-Err
returns-in-Err c =
    let a = c.args in
    let m = buffers a.sys.now a.io.now in
    rw c.number.ensures
    (ap (λ (n : ℕ). foreseen_at n (untold a.places.now)) c.in-Err.ensures
    ∙ attention-refused a.s m a.channel a.places.now (sym (ap (λ (n : ℕ). eqb n 0) c.in-Err.ensures) ∙ number-some _))

pub returns : goal.returns
unfolding order_to
returns c =
    let a = c.args in
    let m = buffers a.sys.now a.io.now in
    simp (c.order-o.ensures, c.block.ensures, c.channel-c.ensures, c.is_second-second.ensures) at c.order.ensures
    ∙ attention-ordered a.s m a.channel a.places.now (sym (ap (λ (n : ℕ). eqb n 0) c.in_default.ensures))
