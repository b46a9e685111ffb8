-- `service::iop89_attention` meets its contract.
-- Assumes nothing.
use Prim.Native.Nat.{ℕ}
use borrow.Author.Rules.{rules}
use mathlib.Core.Bool.{Bool}
use mathlib.Core.Path.{◌≡◌, refl, sym, ap, ap₂, ◌∙◌}
use Rattle.ground_rules.specs.Buffers.{buffers}
use Rattle.ground_rules.specs.Outcomes.{outcome, given_number}
use Rattle.ground_rules.specs.States.{channel_of, with_channel, is_second, block_of}
use Rattle.ground_rules.specs.declared.State.{State}
use Rattle.attention_rules.specs.Attention.{given_to}
use Rattle.attention.specs.Plans.{planned_number, planned_of}
use Rattle.attention.specs.Writes.{writes_made}
use Rattle.ground_rules.proofs.RefusalLaws.{number-positive}
use Rattle.attention.proofs.PlanLaws.{order-settled, order-counts, planned-settled, planned-counts}
use Rattle.state_rules.specs.Calls.{answer_from}
use Rattle.state_rules.specs.Layout.{bytes_of, state_in}
use Rattle.state_rules.proofs.ForthLaws.{bytes_back}
use Rattle.state_rules.proofs.CallLaws.{state-length, attention-none}
use Rattle.service.proofs.OrderLaws.{channel-given, order-served, given-served, none-served}
use Rattle.service.proofs.iop89_attention.Goals as goal

pub returns-then-not-is_state : goal.returns-then-not-is_state
returns-then-not-is_state c =
    let both =
    let a = c.args in
    attention-none a.state.now (buffers a.sys.now a.io.now) a.channel (sym c.is_state.ensures ∙ c.if-not-is_state.true) in
    rw c.number.ensures (record { left = both.0; whole = both.1 })

pub returns-then-not-is_channel : goal.returns-then-not-is_channel
returns-then-not-is_channel c =
    let both =
    let a = c.args in
    none-served a.state.now (buffers a.sys.now a.io.now) (sym c.is_state.ensures ∙ c.if-not-is_state.false) a.channel (λ i. search rules)
    (sym c.is_channel.ensures ∙ c.if-not-is_channel.true) in
    rw c.number-then-not-is_channel.ensures (record { left = both.0; whole = both.1 })

pub state_in-s-requires : goal.state_in-s-requires
state_in-s-requires c = state-length _ (sym c.is_state.ensures ∙ c.if-not-is_state.false)

pub returns-in-Err : goal.returns-in-Err
returns-in-Err c =
    let both =
    let a = c.args in
    let m = buffers a.sys.now a.io.now in
    let is = c.in-Err.ensures ∙ ap (λ (s : State). given_number s m) c.state_in-s.ensures ∙ sym (channel-given (state_in a.state.now) m a.channel (sym c.is_channel.ensures ∙ c.if-not-is_channel.false)) in
    given-served a.state.now m (sym c.is_state.ensures ∙ c.if-not-is_state.false) a.channel (λ i. search rules) (λ z. number-positive _ (is ∙ z)) _
    (c.refused.ensures ∙ ap (λ (k : ℕ). answer_from k 0 0 0) is) in
    record { left = both.0; whole = both.1 }

pub channel-requires : goal.channel-requires
channel-requires c = state-length _ (sym c.is_state.ensures ∙ c.if-not-is_state.false)

pub put_order-requires : goal.put_order-requires
put_order-requires c = sym c.is_state.ensures ∙ c.if-not-is_state.false

pub returns-in-Ok : goal.returns-in-Ok
returns-in-Ok c =
    let a = c.args in
    let b = a.state.now in
    let m = buffers a.sys.now a.io.now in
    let s = c.state_in-s.ensures in
    let e = c.in-Ok.upshot in
    let second = c.is_second-second.ensures in
    let block = c.block-block.ensures ∙ ap₂ block_of s second in
    let channel = c.channel.ensures ∙ ap (channel_of (state_in b)) second in
    let free : given_to (state_in b) m a.channel ≡ 0 =
    channel-given (state_in b) m a.channel (sym c.is_channel.ensures ∙ c.if-not-is_channel.false) ∙ sym (c.in_default.ensures ∙ ap (λ (x : State). given_number x m) s) in
    let accepts = sym (c.in-Ok.ensures.number ∙ ap₂ (planned_number m) block channel) in
    let planned = c.in-Ok.ensures.upshot ∙ ap₂ (planned_of m) block channel in
    let both = order-served b m (sym c.is_state.ensures ∙ c.if-not-is_state.false) a.channel
    (outcome 0 (with_channel (state_in b) (is_second a.channel) e.channel) (writes_made m e.writes)) e.count
    (planned-settled (state_in b) m a.channel free accepts e planned) (planned-counts (state_in b) m a.channel free accepts e planned) _
    (c.put_order.ensures.put ∙ ap (λ (k : Bool). bytes_of (with_channel (state_in b) k e.channel)) second) (c.put_order.ensures.whole ∙ ap (λ (k : Bool). with_channel (state_in b) k e.channel) second)
    _ c.answer.ensures in
    rw c.write.ensures (record { left = both.0; whole = both.1 })

pub returns-in-Err-planned : goal.returns-in-Err-planned
returns-in-Err-planned c =
    let a = c.args in
    let b = a.state.now in
    let m = buffers a.sys.now a.io.now in
    let h = sym c.is_state.ensures ∙ c.if-not-is_state.false in
    let s = c.state_in-s.ensures in
    let second = c.is_second-second.ensures in
    let free : given_to (state_in b) m a.channel ≡ 0 =
    channel-given (state_in b) m a.channel (sym c.is_channel.ensures ∙ c.if-not-is_channel.false) ∙ sym (c.in_default.ensures ∙ ap (λ (x : State). given_number x m) s) in
    let number = c.in-Err-planned.ensures.number ∙ ap₂ (planned_number m) (c.block-block.ensures ∙ ap₂ block_of s second) (c.channel.ensures ∙ ap (channel_of (state_in b)) second) in
    let both = order-served b m h a.channel
    (outcome (planned_number m (block_of (state_in b) (is_second a.channel)) (channel_of (state_in b) (is_second a.channel))) (state_in b) m) 0
    (order-settled (state_in b) m a.channel free (λ z. number-positive _ (number ∙ z))) (order-counts (state_in b) m a.channel free (λ z. number-positive _ (number ∙ z)))
    b (sym (bytes_back b (λ i. search rules) h)) refl _ (c.refused-in-Err-planned.ensures ∙ ap (λ (k : ℕ). answer_from k 0 0 0) number) in
    record { left = both.0; whole = both.1 }
