-- An accepted attention leaves a sound state (§2.9), and every attention one that agrees (§2.12) where it was given one.
-- Assumes nothing.
use Prim.Native.Nat.{ℕ, ◌+◌, ◌<◌}
use mathlib.Core.Bool.{Bool, true, false}
use mathlib.Core.Path.{◌≡◌, refl, ap, ◌∙◌}
use native.Mathlib.Omega.{arith}
use Rattle.ground_rules.proofs.ChannelLaws.{put-sound, sound-channel-of, sound-pp, controlled-sound}
use Rattle.ground_rules.proofs.FieldLaws.{same-agrees, agree-channel-of, put-agree}
use Rattle.ground_rules.proofs.OutcomeLaws.{settled-state}
use Rattle.ground_rules.specs.Outcomes.{Outcome}
use Rattle.ground_rules.specs.States.{channel_of, with_channel, sound_channel, sound, fields_agree, agree, is_second, block_of}
use Rattle.ground_rules.specs.Updates.{with_control, halted}
use Rattle.ground_rules.specs.declared.Channel.{Channel}
use Rattle.ground_rules.specs.declared.State.{State}
use Rattle.ground_rules.specs.Buffers.{Buffers, AllBytes}
use Rattle.ground_rules.specs.Values.{word_at, doubleword_at, pointer, pointer_at}
use Rattle.attention_rules.specs.Attention.{order_to, channel_attended, ordered_memory, attention_number, attention_of}
use Rattle.attention_rules.specs.Blocks.{pointer_of, parameter_block, order_of}
use Rattle.attention_rules.specs.Effects.{started, suspended, resumed, commanded, channel_ordered}
use Rattle.attention_rules.specs.declared.Command.{Command}
use Rattle.attention_rules.specs.declared.Command.TheVariants.{Update, StartLocal, StartSystem, Suspend, Resume, Halt, Unknown}
use Rattle.attention_rules.proofs.Outcomes.{accepted-order, passed-sound}

-- a word of bytes has 16 bits, and a stored pointer 20; a doubleword pointer has 20 whatever it is made of
module _ (m : Buffers) (h : AllBytes m) (t : Bool) (a : ℕ) where
  word_small : word_at m t a < 1048576
  unfolding word_at
  word_small = omega (arith, h t a, h t (a + 1))

  pointer-small : (pointer_at m t a).address < 1048576
  unfolding pointer_at
  pointer-small = omega (arith, h t a, h t (a + 1), h t (a + 2))

doubleword-small : (m : Buffers) (t : Bool) (a : ℕ) → doubleword_at m t a < 1048576
unfolding doubleword_at
doubleword-small m t a = omega arith

-- a command leaves a sound channel sound
commanded-sound : (k : Command) (m : Buffers) (block : ℕ) (c : Channel) → AllBytes m → sound_channel c ≡ true
    → sound_channel (commanded k m (parameter_block k m block c.pp) c) ≡ true
unfolding commanded parameter_block started suspended resumed halted sound_channel with_control
commanded-sound Update m block c bytes h = h
commanded-sound StartLocal m block c bytes h =
    let pb = doubleword_at m false (pointer_of block) in
    controlled-sound c (pointer (word_at m false pb) true) pb c.psw c.mode c.armed h (word_small m bytes false pb) (doubleword-small m false (pointer_of block))
commanded-sound StartSystem m block c bytes h =
    let pb = doubleword_at m false (pointer_of block) in
    controlled-sound c (pointer (doubleword_at m false pb) false) pb c.psw c.mode c.armed h (doubleword-small m false pb) (doubleword-small m false (pointer_of block))
commanded-sound Suspend m block c bytes h = h
commanded-sound Resume m block c bytes h =
    controlled-sound c (pointer_at m false c.pp) c.pp c.psw c.mode c.armed h (pointer-small m bytes false c.pp) (sound-pp c h)
commanded-sound Halt m block c bytes h = h
commanded-sound Unknown m block c bytes h = h

-- no command writes CC or its fields
commanded-control : (k : Command) (m : Buffers) (pb : ℕ) (c : Channel) → ((commanded k m pb c).cc ≡ c.cc) × ((commanded k m pb c).fields ≡ c.fields)
unfolding commanded started suspended resumed halted with_control
commanded-control Update m pb c = (refl, refl)
commanded-control StartLocal m pb c = (refl, refl)
commanded-control StartSystem m pb c = (refl, refl)
commanded-control Suspend m pb c = (refl, refl)
commanded-control Resume m pb c = (refl, refl)
commanded-control Halt m pb c = (refl, refl)
commanded-control Unknown m pb c = (refl, refl)

module _ (s : State) (m : Buffers) (channel : ℕ) where
  -- so does an order, which changes PSW besides
  ordered-sound : (b : Bool) → AllBytes m → sound s ≡ true → sound_channel (channel_attended s m b) ≡ true
  unfolding channel_attended channel_ordered order_to order_of sound_channel with_control
  ordered-sound b bytes h = commanded-sound (order_to s m b).command m (block_of s b) (channel_of s b) bytes (sound-channel-of s b h)

  -- an accepted attention leaves a sound state, so the next call is not refused by 10
  pub attention-sound : AllBytes m → (attention_of s m channel).number ≡ 0 → sound (attention_of s m channel).state ≡ true
  attention-sound bytes e =
      let b = is_second channel in
      let h = passed-sound s m channel e in
      ap (λ (r : Outcome). sound r.state) (accepted-order s m channel e)
      ∙ put-sound s b (channel_attended s m b) h (ordered-sound b bytes h)

  -- nor does an order
  ordered-agree : (b : Bool) → agree s ≡ true → fields_agree (channel_attended s m b) ≡ true
  unfolding channel_attended channel_ordered order_to order_of with_control
  ordered-agree b h =
      let k = commanded-control (order_to s m b).command m (order_to s m b).pb (channel_of s b) in
      same-agrees (channel_of s b) (channel_attended s m b) k.0 k.1 (agree-channel-of s b h)

  -- so a state that agrees still does after an attention, and the next call is not refused by 14
  pub attention-agree : agree s ≡ true → agree (attention_of s m channel).state ≡ true
  unfolding attention_of
  attention-agree h =
      let b = is_second channel in
      settled-state (λ x. agree x ≡ true) (attention_number s m channel) s m (with_channel s b (channel_attended s m b)) (ordered_memory s m b) h
      (put-agree s b (channel_attended s m b) h (ordered-agree b h))
