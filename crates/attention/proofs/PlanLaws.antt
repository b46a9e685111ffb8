-- What is planned for a channel settles its attention.
-- Assumes nothing.
use Prim.Native.Nat.{ℕ}
use mathlib.Core.Path.{◌≡◌, refl, ap, sym, ◌∙◌}
use Rattle.ground_rules.specs.Outcomes.{outcome, first}
use Rattle.ground_rules.specs.States.{channel_of, with_channel, is_second, block_of}
use Rattle.ground_rules.specs.declared.Channel.{Channel}
use Rattle.ground_rules.specs.declared.State.{State}
use Rattle.ground_rules.proofs.OutcomeLaws.{refused, accepted, first_some, refused-counts, done-counts}
use Rattle.ground_rules.specs.Buffers.{Buffers}
use Rattle.attention_rules.specs.Blocks.{order_of}
use Rattle.attention_rules.specs.Attention.{order_to, channel_attended, ordered_memory, given_to, attention_number, attention_of, touched_by_attention, attention_count}
use Rattle.attention.specs.Plans.{planned_number, planned_of}
use Rattle.attention.specs.Writes.{writes_of, writes_made, saved_by, marked_by}
use Rattle.attention_rules.specs.Effects.{channel_ordered, stored_memory}
use Rattle.attention.specs.declared.Upshot.{Upshot}
use Rattle.attention_rules.specs.declared.Command.{Command}
use Rattle.attention_rules.specs.declared.Command.TheVariants.{Update, StartLocal, StartSystem, Suspend, Resume, Halt, Unknown}
use Rattle.attention_rules.proofs.CountLaws.{touched-length}

-- what is worked out for a command and then written is what it stores
writes-made : (k : Command) (m : Buffers) (block pb : ℕ) (c : Channel) → writes_made m (writes_of k block pb c) ≡ stored_memory k m block pb c
unfolding writes_made writes_of saved_by marked_by stored_memory
writes-made Update m block pb c = refl
writes-made StartLocal m block pb c = refl
writes-made StartSystem m block pb c = refl
writes-made Suspend m block pb c = refl
writes-made Resume m block pb c = refl
writes-made Halt m block pb c = refl
writes-made Unknown m block pb c = refl

-- what was given is refused: that is the number, it settles the attention, and no byte is counted
given-first : (s : State) (m : Buffers) (channel : ℕ) → ¬ (given_to s m channel ≡ 0) → attention_number s m channel ≡ given_to s m channel
unfolding attention_number
given-first s m channel ne = first_some (given_to s m channel) _ ne

pub given-settled : (s : State) (m : Buffers) (channel : ℕ) → ¬ (given_to s m channel ≡ 0) → outcome (given_to s m channel) s m ≡ attention_of s m channel
unfolding attention_of
given-settled s m channel ne =
    let n = attention_number s m channel in
    let e = given-first s m channel ne in
    ap (λ (k : ℕ). outcome k s m) (sym e) ∙ sym (refused n s m _ _ (λ z. ne (sym e ∙ z)))

pub given-counts : (s : State) (m : Buffers) (channel : ℕ) → ¬ (given_to s m channel ≡ 0) → 0 ≡ attention_count s m channel
unfolding attention_count
given-counts s m channel ne = sym (refused-counts (attention_number s m channel) (touched_by_attention s m channel) (λ z. ne (sym (given-first s m channel ne) ∙ z)))

-- else an order that is refused settles it
module _ (s : State) (m : Buffers) (channel : ℕ) (free : given_to s m channel ≡ 0) where
  planned : ℕ
  planned = planned_number m (block_of s (is_second channel)) (channel_of s (is_second channel))

  number_is : attention_number s m channel ≡ planned
  unfolding attention_number planned_number order_to first planned
  number_is = rw free

  pub order-settled : ¬ (planned_number m (block_of s (is_second channel)) (channel_of s (is_second channel)) ≡ 0)
      → outcome (planned_number m (block_of s (is_second channel)) (channel_of s (is_second channel))) s m ≡ attention_of s m channel
  unfolding attention_of planned
  order-settled ne = ap (λ (k : ℕ). outcome k s m) (sym number_is) ∙ sym (refused (attention_number s m channel) s m _ _ (λ z. ne (sym number_is ∙ z)))

  pub order-counts : ¬ (planned_number m (block_of s (is_second channel)) (channel_of s (is_second channel)) ≡ 0) → 0 ≡ attention_count s m channel
  unfolding attention_count planned
  order-counts ne = sym (refused-counts (attention_number s m channel) (touched_by_attention s m channel) (λ z. ne (sym number_is ∙ z)))

  -- and of one that is accepted what is planned, put back into the state and written into memory, is the whole outcome
  module _ (accepts : planned_number m (block_of s (is_second channel)) (channel_of s (is_second channel)) ≡ 0) (e : Upshot) (is : e ≡ planned_of m (block_of s (is_second channel)) (channel_of s (is_second channel))) where
    none : attention_number s m channel ≡ 0
    unfolding planned
    none = number_is ∙ accepts

    pub planned-settled : outcome 0 (with_channel s (is_second channel) e.channel) (writes_made m e.writes) ≡ attention_of s m channel
    unfolding planned_of attention_of channel_attended ordered_memory order_to
    planned-settled =
        let b = is_second channel in
        let o = order_of m (block_of s b) (channel_of s b).pp in
        rw is
        (ap (outcome 0 (with_channel s b (channel_ordered m o (channel_of s b)))) (writes-made o.command m o.block o.pb (channel_of s b))
        ∙ sym (accepted (attention_number s m channel) s m _ _ none))

    -- and it counts the bytes that an attention touches
    pub planned-counts : e.count ≡ attention_count s m channel
    unfolding planned_of attention_count order_to
    planned-counts = ap (λ (u : Upshot). u.count) is ∙ sym (done-counts (attention_number s m channel) (touched_by_attention s m channel) none ∙ touched-length s m channel none)
