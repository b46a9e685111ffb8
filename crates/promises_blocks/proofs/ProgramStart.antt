-- The attention that starts a channel's program in system space, and a fresh state, to which it can be given.
-- Assumes nothing.
use Prim.Native.Nat.{ℕ, ◌+◌, ◌*◌, ◌%◌, ◌<◌}
use borrow.Author.Tests.{eqb-false}
use lib.Dec.{lit<}
use mathlib.Core.Bool.{Bool, true, false, not, ◌&&◌}
use mathlib.Core.List.{List, [], ◌∷◌, ◌++◌}
use mathlib.Core.Path.{◌≡◌, refl, sym, ap, ap₂, subst, ◌∙◌}
use native.Mathlib.Nat.{add-zero, mod-lt, mod-add-mod}
use native.Mathlib.Omega.{arith}
use Rattle.ground_rules.specs.Updates.{with_control}
use Rattle.attention_rules.proofs.Outcomes.{accepted-order}
use Rattle.attention_rules.specs.Attention.{order_to, channel_attended, ordered_memory, attention_of}
use Rattle.ground_rules.proofs.ChannelLaws.{put_same, put-cp, fresh-sound, named, sound-channel-of, controlled-sound}
use Rattle.ground_rules.proofs.{BitLaws.bit-same, BitLaws.bit-other, ConditionLaws.told-limits, FieldLaws.blank-agree}
use Rattle.ground_rules.specs.Conditions.{TooLong}
use Rattle.ground_rules.specs.Outcomes.{Outcome, outcome, first, unless}
use Rattle.ground_rules.specs.Psw.{transferring, with_psw}
use Rattle.ground_rules.specs.States.{board_with, idle_channel, fresh_state, channel_of, with_channel, channel_number, sound_channel, sound, is_running, block_of}
use Rattle.ground_rules.specs.declared.Made.{Made}
use Rattle.ground_rules.specs.declared.Pointer.{Pointer}
use Rattle.ground_rules.specs.declared.Channel.{Channel}
use Rattle.ground_rules.specs.declared.Mode.TheVariants.{Running}
use Rattle.ground_rules.specs.declared.State.{State}
use Rattle.ground_rules.proofs.PlaceLaws.{index-reduced, index-after, lent-index, word-reduced, store-reduced}
use Rattle.ground_rules.proofs.SpanLaws.{all_append}
use Rattle.ground_rules.proofs.StoreLaws.{store-lent, read-other}
use Rattle.ground_rules.specs.Buffers.{Buffers, lent_at, touchable_at, byte_at, store_byte}
use Rattle.ground_rules.specs.Places.{Apart, span, all_pass, all_touchable}
use Rattle.ground_rules.specs.Values.{word_at, doubleword_at, pointer, onward}
use Rattle.attention_rules.specs.Blocks.{ccw_of, parameter_block, order_of}
use Rattle.attention_rules.specs.Commands.{command_coded, is_known, mode_number, command_number, copied, obeyed, ordered}
use Rattle.attention_rules.specs.Effects.{started, commanded, channel_ordered, marked, stored_memory}
use Rattle.attention_rules.specs.Touched.{read_by, stored_by, others}
use Rattle.attention_rules.specs.declared.Command.TheVariants.{StartSystem}
use Rattle.attention_rules.specs.declared.Order.{Order}
use Rattle.ground_rules.specs.Bits.{field_of, bit_of, with_bit}
use Rattle.ground_rules.specs.{Bytes.word_of, States.busy_in, Sums.address_of}
use Rattle.turn_rules.proofs.SoundLaws.{entry-sound}
use Rattle.turn_rules.specs.Step.{Step, entry_number, step_of}
use Rattle.block_rules.specs.Premises.{Lent}
use Rattle.promises.specs.Cases.{Stand}
use Rattle.promises_blocks.specs.Joined.{RunsAlone}
use Rattle.promises_blocks.proofs.AloneLaws.{entered, accepts, ordered-channel, alone-attended}
use Rattle.promises_blocks.proofs.Joined.{busy-same, halts}
use Rattle.promises_blocks.proofs.ProgramSteps.{View, view, view_of}
use Rattle.promises.proofs.{AgreeLaws.told-not, CaseLaws.pointer-given, RunLaws.fresh-good}
use Rattle.promises.proofs.StandLaws.{span-touchable, stand-on, stand-kept}

-- the bytes that such an attention reads, and BUSY
pub record Starts (m : Buffers) (block pb program : ℕ) : Type 0 where
  pub command : byte_at m false block ≡ 3
  pub command_lent : lent_at m false block ≡ true
  pub busy_lent : lent_at m false (block + 1) ≡ true
  pub parameters : doubleword_at m false (block + 2) ≡ pb
  pub parameters_lent : Lent m (pointer (block + 2) false) 4
  pub task : doubleword_at m false pb ≡ program
  pub task_lent : Lent m (pointer pb false) 4

-- the registers of a channel that it starts at an address, CCW being 3
abbrev pub started_view : Channel → ℕ → View
started_view c program = view c.ga c.gb (pointer program false) c.bc c.cc (ordered 3 (with_psw (with_psw c.psw 2 true) 6 false)) Running false

-- what comes of it: the channel runs at the program, alone as before, and BUSY is FFh
pub record Begun (s : State) (second : Bool) (m : Buffers) (lines program : ℕ) : Type 0 where
  pub channel : Channel
  pub given : attention_of s m (channel_number second) ≡ outcome 0 (with_channel s second channel) (store_byte m false (block_of s second + 1) 255)
  pub seen : view_of channel ≡ started_view (channel_of s second) program
  pub parameters : channel.pp ≡ doubleword_at m false (block_of s second + 2)
  pub alone : RunsAlone second (with_channel s second channel) (store_byte m false (block_of s second + 1) 255) lines

-- the step after an attention
abbrev pub step_after : State → Buffers → Bool → ℕ → Step
step_after s m second lines = step_of (attention_of s m (channel_number second)).state (attention_of s m (channel_number second)).memory lines

-- an attention that starts a channel, and the step that halts it at once: BUSY alone is stored, and then no channel runs
pub record HaltsAtOnce (s : State) (second : Bool) (m : Buffers) (lines busy : ℕ) : Type 0 where
  pub marked : (attention_of s m (channel_number second)).memory ≡ store_byte m false busy 255
  pub cleared : (step_after s m second lines).memory ≡ store_byte (attention_of s m (channel_number second)).memory false busy 0
  pub entered : entry_number (step_after s m second lines).state (step_after s m second lines).memory lines ≡ 0
  pub still : (x : Bool) → is_running (channel_of (step_after s m second lines).state x).mode ≡ false

-- XF is clear then
pub started-off : (psw : ℕ) → transferring (ordered 3 (with_psw (with_psw psw 2 true) 6 false)) ≡ false
unfolding ordered copied obeyed with_psw field_of
started-off psw =
    bit-other _ 7 6 (bit_of 3 7) (eqb-false 6 7 refl) ∙ bit-other _ 5 6 (bit_of 3 5) (eqb-false 6 5 refl) ∙ bit-same (with_bit psw 2 true) 6 false

-- ---- a fresh state

-- its channels are idle
fresh-idle : (cp : ℕ) (b : Bool) → channel_of (fresh_state cp) b ≡ idle_channel
unfolding fresh_state channel_of
fresh-idle cp true = refl
fresh-idle cp false = refl

-- and do not run
pub fresh-still : (cp : ℕ) (b : Bool) → is_running (channel_of (fresh_state cp) b).mode ≡ false
unfolding idle_channel is_running
fresh-still cp b = ap (λ (c : Channel). is_running c.mode) (fresh-idle cp b)

-- started, one has all but TB at 0
pub fresh-view : (cp : ℕ) (b : Bool) (program : ℕ)
    → started_view (channel_of (fresh_state cp) b) program ≡ view (pointer 0 false) (pointer 0 false) (pointer program false) 0 0 4 Running false
unfolding idle_channel ordered copied obeyed with_psw with_bit bit_of field_of
fresh-view cp b program = ap (λ (c : Channel). started_view c program) (fresh-idle cp b)

-- of a good CP, no call is refused for it
pub fresh-alone : (cp : ℕ) (b : Bool) (m : Buffers) (lines : ℕ) → cp < 1048576 → ¬ (TooLong m) → lines < 16 → RunsAlone b (fresh_state cp) m lines
unfolding fresh_state
fresh-alone cp b m lines h fit few =
    let sounds = ap (λ (a : Made). sound a.state) (sym (fresh-good cp h)) ∙ fresh-sound cp in
    record {
      entered = entered (fresh_state cp) m lines few (told-not (told-limits m) fit) sounds (refl, blank-agree cp (board_with true false false false));
      idle = fresh-still cp (not b);
    }

-- ---- addresses that wrap

-- a reduced address serves for a doubleword pointer
doubleword-reduced : (m : Buffers) (t : Bool) (a : ℕ) → doubleword_at m t (a % 1048576) ≡ doubleword_at m t a
unfolding doubleword_at
doubleword-reduced m t a =
    ap₂ address_of (word-reduced m t a)
    (sym (word-reduced m t (a % 1048576 + 2)) ∙ ap (word_at m t) (mod-add-mod a 1048576 2) ∙ word-reduced m t (a + 2))

-- and for a byte that is lent, or several
lent-reduced : (m : Buffers) (t : Bool) (a : ℕ) → lent_at m t (a % 1048576) ≡ lent_at m t a
lent-reduced m t a = lent-index m t (a % 1048576) a (index-reduced t a)

span-reduced : (m : Buffers) (t : Bool) (a n : ℕ) → Lent m (pointer a t) n → Lent m (pointer (a % 1048576) t) n
span-reduced m t a n h i less = lent-index m t (a % 1048576 + i) (a + i) (index-after t a i) ∙ h i less

-- a doubleword pointer has 20 bits
doubleword-fits : (m : Buffers) (a : ℕ) → doubleword_at m false a < 1048576
unfolding doubleword_at
doubleword-fits m a = mod-lt (word_at m false (a + 2) * 16 + word_at m false a) (lit< tt)

-- ---- the attention

-- bytes that stand in the block and at PB say where the program is
pub starts-given : {m : Buffers} {block pb busy a b c d x y z w : ℕ} {more rest : List ℕ} → Stand m (pointer block false) (0x03 ∷ busy ∷ a ∷ b ∷ c ∷ d ∷ more)
    → Stand m (pointer pb false) (x ∷ y ∷ z ∷ w ∷ rest) → address_of (word_of a b) (word_of c d) ≡ pb → Starts m block pb (address_of (word_of x y) (word_of z w))
unfolding onward
starts-given {m} {block} {pb} there task e =
    let on : (i : ℕ) → block + 2 + i ≡ block + (2 + i) = λ i. omega arith in
    record {
      command = ap (byte_at m false) (sym (add-zero block)) ∙ there.read 0 (omega arith);
      command_lent = ap (lent_at m false) (sym (add-zero block)) ∙ there.lent 0 (omega arith);
      busy_lent = there.lent 1 (omega arith);
      parameters = sym (doubleword-reduced m false (block + 2)) ∙ pointer-given m (onward (pointer block false) 2) _ (stand-on there 2) (omega arith) ∙ e;
      parameters_lent = λ i h. ap (lent_at m false) (on i) ∙ there.lent (2 + i) (omega arith);
      task = pointer-given m (pointer pb false) _ task (omega arith);
      task_lent = λ i h. task.lent i (omega arith);
    }

module _ {s : State} {b : Bool} {m : Buffers} {lines pb program : ℕ} (a : RunsAlone b s m lines) (idle : is_running (channel_of s b).mode ≡ false)
    (k : Starts m (block_of s b) pb program) where
  abbrev block : ℕ
  block = block_of s b

  abbrev c : Channel
  c = channel_of s b

  -- the order in the block
  order : Order
  order = record { command = StartSystem; ccw = 3; block = block; pb = pb }

  order_is : order_to s m b ≡ order
  unfolding order order_to order_of ccw_of command_coded field_of parameter_block
  order_is = rw (k.command, doubleword-reduced m false (block + 2), k.parameters)

  -- CCW may be touched
  block-touchable : all_touchable m (span false block 1) ≡ true
  unfolding span all_pass touchable_at
  block-touchable = rw k.command_lent

  -- so may all else that it touches
  others-touchable : all_touchable m (others order) ≡ true
  unfolding order others read_by stored_by busy_in span all_pass touchable_at
  others-touchable =
      let at = (block + 2) % 1048576 in
      all_append (touchable_at m) (span false at 4 ++ span false pb 4) (span false ((block + 1) % 1048576) 1)
      ∙ ap₂ ◌&&◌
      (all_append (touchable_at m) (span false at 4) (span false pb 4)
      ∙ ap₂ ◌&&◌ (span-touchable m false at 4 (span-reduced m false (block + 2) 4 k.parameters_lent)) (span-touchable m false pb 4 k.task_lent))
      (rw (lent-reduced m false (block + 1), k.busy_lent))

  -- no number refuses it
  accepted : (attention_of s m (channel_number b)).number ≡ 0
  unfolding order command_number is_known mode_number first unless
  accepted = accepts b s m lines a.entered (rw (order_is, idle)) (rw order_is block-touchable) (rw order_is others-touchable)

  -- the channel that it leaves has pointers of 20 bits
  sound-is : sound_channel (channel_ordered m order c) ≡ true
  unfolding order channel_ordered commanded started with_control sound_channel
  sound-is =
      let pp : pb < 1048576 = subst (λ (x : ℕ). x < 1048576) k.parameters (doubleword-fits m (block + 2)) in
      let sounds = sound-channel-of s b (entry-sound s m lines a.entered) in
      controlled-sound c (pointer (doubleword_at m false pb) false) pb 0 Running false sounds (doubleword-fits m pb) pp

  -- and memory is this
  memory-is : ordered_memory s m b ≡ store_byte m false (block + 1) 255
  unfolding order ordered_memory stored_memory marked busy_in
  memory-is = ap (λ (o : Order). stored_memory o.command m o.block o.pb c) order_is ∙ store-reduced m false (block + 1) 255

  -- so it does what the order says
  pub begun : Begun s b m lines program
  unfolding order channel_attended channel_ordered commanded started with_control
  begun =
      let is : channel_attended s m b ≡ channel_ordered m order c = ap (λ (o : Order). channel_ordered m o c) order_is in
      let given =
      accepted-order s m (channel_number b) accepted
      ∙ ap (λ (x : Bool). outcome 0 (with_channel s x (channel_attended s m x)) (ordered_memory s m x)) (named b)
      ∙ ap₂ (λ (d : Channel) (n : Buffers). outcome 0 (with_channel s b d) n) is memory-is in
      let attended = alone-attended b s m accepted a (ap sound_channel (ordered-channel b s m accepted ∙ is) ∙ sound-is) in
      record {
        channel = channel_ordered m order c;
        given = given;
        seen = ap (started_view c) k.task;
        parameters = sym k.parameters;
        alone = subst (λ (o : Outcome). RunsAlone b o.state o.memory lines) given attended;
      }

  -- ---- HLT alone

  -- where the program is HLT, and BUSY is no byte of it, the next step halts the channel
  pub halts-at-once : Stand m (pointer program false) (0x20 ∷ 0x48 ∷ []) → ((i : ℕ) → i < 2 → Apart false (block + 1) false (program + i))
      → HaltsAtOnce s b m lines (block + 1)
  unfolding is_running busy_in
  halts-at-once there far =
      let g = begun in
      let s₂ = with_channel s b g.channel in
      let m₂ = store_byte m false (block + 1) 255 in
      let put = put_same s b g.channel in
      let busy = busy-same s s₂ b (put-cp s b g.channel) in
      let tp = ap (λ (d : Channel). d.tp) put ∙ ap (λ (v : View). v.tp) g.seen in
      let runs = ap (λ (d : Channel). is_running d.mode) put ∙ ap (λ (v : View). is_running v.mode) g.seen in
      let off = ap (λ (d : Channel). transferring d.psw) put ∙ ap (λ (v : View). transferring v.psw) g.seen ∙ started-off c.psw in
      let stands = stand-kept there m₂ (λ u x. store-lent m false u (block + 1) x 255) (λ i h. read-other m false (block + 1) 255 false _ (far i h)) in
      let lent = ap (lent_at m₂ false) busy ∙ lent-reduced m₂ false (block + 1) ∙ store-lent m false false (block + 1) (block + 1) 255 ∙ k.busy_lent in
      let h = halts g.alone runs off (subst (λ (p : Pointer). Stand m₂ p (0x20 ∷ 0x48 ∷ [])) (sym tp) stands) lent in
      let cleared = h.memory ∙ ap (λ (x : ℕ). store_byte m₂ false x 0) busy ∙ store-reduced m₂ false (block + 1) 0 in
      let marked = ap (λ (o : Outcome). o.memory) g.given in
      record { marked = marked; cleared = rw g.given cleared; entered = rw g.given h.entered; still = rw g.given h.still }
