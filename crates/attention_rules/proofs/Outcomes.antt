-- What holds of every attention, refused or not: its outcome is one, a refused one changes nothing, and none touches the other channel; and what an accepted one has passed.
-- Assumes nothing.
use Prim.Native.Nat.{ℕ}
use lib.Dec.{eqb}
use mathlib.Core.Bool.{Bool, true, false, not}
use mathlib.Core.Path.{◌≡◌, refl, sym, ap, ◌∙◌}
use Rattle.ground_rules.proofs.ChannelLaws.{put_same, put_other, put-cp, put_last, put-board}
use Rattle.ground_rules.proofs.OutcomeLaws.{accepted, settled-number}
use Rattle.ground_rules.proofs.ConditionLaws.{first-none-left, first-none-right, unless-none}
use Rattle.ground_rules.proofs.GivenLaws.{given-sound}
use Rattle.ground_rules.specs.Outcomes.{Outcome, outcome, settled}
use Rattle.ground_rules.specs.Stages.{stages_number}
use Rattle.ground_rules.specs.States.{channel_of, with_channel, sound, is_second}
use Rattle.ground_rules.specs.declared.Channel.{Channel}
use Rattle.ground_rules.specs.declared.State.{State}
use Rattle.ground_rules.specs.Buffers.{Buffers}
use Rattle.ground_rules.specs.Places.{all_touchable}
use Rattle.ground_rules.specs.Choice.{pick}
use Rattle.attention_rules.specs.Attention.{order_to, order_number, channel_attended, ordered_memory, given_to, attention_number, attention_of}
use Rattle.attention_rules.specs.Commands.{command_number, ordered}
use Rattle.attention_rules.specs.Effects.{only_psw, started, suspended, resumed, commanded, channel_ordered}
use Rattle.attention_rules.specs.Touched.{others, order_stages}
use Rattle.attention_rules.specs.declared.Command.{Command}
use Rattle.attention_rules.specs.declared.Command.TheVariants.{Update, StartLocal, StartSystem, Suspend, Resume, Halt, Unknown}
use Rattle.attention_rules.specs.declared.Order.{Order}
use Rattle.ground_rules.specs.Updates.{with_control, holding, halted}

-- what holds of a refusal's outcome and of an accepted call's holds of the settled one
pub settled-by : (P : Outcome → Type 0) (number : ℕ) (s : State) (m : Buffers) (s' : State) (m' : Buffers)
    → P (outcome number s m) → P (outcome 0 s' m') → P (settled number s m s' m')
unfolding settled
settled-by P number s m s' m' given done = go (eqb number 0)
  where
    go : (b : Bool) → P (pick b (outcome 0 s' m') (outcome number s m))
    go true = done
    go false = given

-- a channel with the registers of another that a command can change
abbrev pub controlled_as : Channel → Channel → Channel
controlled_as c d = holding (with_control c d.tp d.pp d.psw d.mode d.armed) d.held

-- a command changes no other register
control-alone : (k : Command) (m : Buffers) (pb : ℕ) (c : Channel) → commanded k m pb c ≡ controlled_as c (commanded k m pb c)
unfolding commanded started suspended resumed halted with_control
control-alone Update m pb c = refl
control-alone StartLocal m pb c = refl
control-alone StartSystem m pb c = refl
control-alone Suspend m pb c = refl
control-alone Resume m pb c = refl
control-alone Halt m pb c = refl
control-alone Unknown m pb c = refl

-- nor does what every command does to PSW
ordered-alone : (m : Buffers) (o : Order) (c : Channel) → channel_ordered m o c ≡ controlled_as c (channel_ordered m o c)
unfolding channel_ordered with_control
ordered-alone m o c = ap (λ (k : Channel). only_psw k (ordered o.ccw k.psw)) (control-alone o.command m o.pb c)

module _ (s : State) (m : Buffers) (channel : ℕ) where
  -- what holds of the given state and memories, and of what the order makes of them, holds of an attention's outcome
  pub attention-by : (P : Outcome → Type 0) → P (outcome (attention_number s m channel) s m)
      → P (outcome 0 (with_channel s (is_second channel) (channel_attended s m (is_second channel))) (ordered_memory s m (is_second channel)))
      → P (attention_of s m channel)
  unfolding attention_of
  attention-by P =
      settled-by P (attention_number s m channel) s m
      (with_channel s (is_second channel) (channel_attended s m (is_second channel))) (ordered_memory s m (is_second channel))

  -- two outcomes that meet the contract are equal
  pub unique : (one two : Outcome) → one ≡ attention_of s m channel → two ≡ attention_of s m channel → one ≡ two
  unique one two p q = p ∙ sym q

  -- a refused attention is the given state, and changes no byte
  pub refused-nothing : ¬ ((attention_of s m channel).number ≡ 0) → attention_of s m channel ≡ outcome (attention_of s m channel).number s m
  refused-nothing =
      attention-by (λ (r : Outcome). ¬ (r.number ≡ 0) → r ≡ outcome r.number s m) (λ h. refl) (λ h. absurd (h refl))

  -- an accepted one is what its order makes of them
  pub accepted-order : (attention_of s m channel).number ≡ 0
      → attention_of s m channel ≡ outcome 0 (with_channel s (is_second channel) (channel_attended s m (is_second channel))) (ordered_memory s m (is_second channel))
  unfolding attention_of
  accepted-order e =
      accepted (attention_number s m channel) s m
      (with_channel s (is_second channel) (channel_attended s m (is_second channel))) (ordered_memory s m (is_second channel))
      (sym (settled-number (attention_number s m channel) s m (with_channel s (is_second channel) (channel_attended s m (is_second channel))) (ordered_memory s m (is_second channel))) ∙ e)

  -- no register of the other channel changes
  pub other-channel : channel_of (attention_of s m channel).state (not (is_second channel)) ≡ channel_of s (not (is_second channel))
  other-channel =
      attention-by (λ (r : Outcome). channel_of r.state (not (is_second channel)) ≡ channel_of s (not (is_second channel)))
      refl (put_other s (is_second channel) (channel_attended s m (is_second channel)))

  -- nor CP, nor the channel that stepped last, nor what the board set up
  pub shared_kept : ((attention_of s m channel).state.cp ≡ s.cp) × ((attention_of s m channel).state.last ≡ s.last) × ((attention_of s m channel).state.board ≡ s.board)
  shared_kept =
      attention-by (λ (r : Outcome). (r.state.cp ≡ s.cp) × (r.state.last ≡ s.last) × (r.state.board ≡ s.board)) (refl, refl, refl)
      (put-cp s (is_second channel) (channel_attended s m (is_second channel)), put_last s (is_second channel) (channel_attended s m (is_second channel)), put-board s (is_second channel) (channel_attended s m (is_second channel)))

  -- of the channel itself only TP, PP, PSW, the mode, the armed mark and the held byte can change
  pub registers-kept : channel_of (attention_of s m channel).state (is_second channel)
      ≡ controlled_as (channel_of s (is_second channel)) (channel_of (attention_of s m channel).state (is_second channel))
  unfolding channel_attended with_control
  registers-kept =
      let c = channel_of s (is_second channel) in
      let o = order_to s m (is_second channel) in
      attention-by (λ (r : Outcome). channel_of r.state (is_second channel) ≡ controlled_as c (channel_of r.state (is_second channel))) refl
      (rw (put_same s (is_second channel) (channel_ordered m o c)) (ordered-alone m o c))

-- what an accepted attention has passed
module _ (s : State) (m : Buffers) (channel : ℕ) (accepted : (attention_of s m channel).number ≡ 0) where
  number-none : attention_number s m channel ≡ 0
  unfolding attention_of
  number-none = sym (settled-number (attention_number s m channel) s m (with_channel s (is_second channel) (channel_attended s m (is_second channel))) (ordered_memory s m (is_second channel))) ∙ accepted

  pub passed-sound : sound s ≡ true
  unfolding attention_number given_to
  passed-sound = given-sound s m (first-none-right _ _ (first-none-left _ _ number-none))

  passed-order : order_number m (order_to s m (is_second channel)) (channel_of s (is_second channel)).mode ≡ 0
  unfolding attention_number
  passed-order = first-none-right _ _ number-none

  pub passed-command : command_number (order_to s m (is_second channel)).command (channel_of s (is_second channel)).mode ≡ 0
  unfolding order_number stages_number order_stages
  passed-command = first-none-left _ _ (first-none-right _ _ passed-order)

  pub passed-others : all_touchable m (others (order_to s m (is_second channel))) ≡ true
  unfolding order_number stages_number order_stages
  passed-others = unless-none 2 refl (first-none-left _ _ (first-none-right _ _ (first-none-right _ _ passed-order)))
