-- Suspend and resume: what is saved comes back.
-- Assumes nothing.
use Prim.Native.Nat.{ℕ, ◌+◌, ◌%◌, ◌<◌}
use lib.Dec.{eqb, lit<}
use mathlib.Core.Bool.{Bool, true, false}
use mathlib.Core.List.{◌++◌}
use mathlib.Core.Path.{◌≡◌, refl, sym, ap, ◌∙◌}
use native.Mathlib.Nat.{mod-eq_of_lt, add-zero}
use native.Mathlib.Omega.{arith}
use Rattle.ground_rules.proofs.ChannelLaws.{put_same, sound-channel-of, sound-tp}
use Rattle.ground_rules.specs.Outcomes.{Outcome}
use Rattle.ground_rules.specs.Psw.{with_psw}
use Rattle.ground_rules.specs.States.{channel_of, sound_channel, is_second, block_of, busy_in}
use Rattle.ground_rules.specs.declared.Channel.{Channel}
use Rattle.ground_rules.specs.declared.Mode.{Mode}
use Rattle.ground_rules.specs.declared.Mode.TheVariants.{Running, Suspended}
use Rattle.ground_rules.specs.declared.State.{State}
use Rattle.ground_rules.proofs.PlaceLaws.{later, after}
use Rattle.ground_rules.proofs.SpanLaws.{span-at, span-first, all_append, span-system, apart-at}
use Rattle.ground_rules.proofs.StoreLaws.{store-lent, read_same, read-other, pointer_back}
use Rattle.ground_rules.specs.Buffers.{Buffers, lent_at, touchable_at, byte_at, store_byte}
use Rattle.ground_rules.specs.Places.{span, all_lent, all_touchable}
use Rattle.ground_rules.specs.Values.{pointer, pointer_at, store_pointer}
use Rattle.ground_rules.proofs.BitLaws.{bit-other}
use Rattle.ground_rules.proofs.ChoiceLaws.{both_left}
use Rattle.ground_rules.specs.Bits.{field_of, bit_of, with_bit}
use Rattle.ground_rules.specs.Choice.{pick}
use Rattle.ground_rules.proofs.ConditionLaws.{first-none-right, unless-none, running-is}
use Rattle.attention_rules.specs.Attention.{order_to, channel_attended, ordered_memory, attention_of}
use Rattle.attention_rules.specs.Blocks.{parameter_block, order_of}
use Rattle.attention_rules.specs.Commands.{is_known, mode_number, command_number, copied, obeyed, ordered}
use Rattle.attention_rules.specs.Effects.{only_psw, suspended, resumed, commanded, channel_ordered, saved, marked, stored_memory}
use Rattle.ground_rules.specs.Updates.{with_control, stopped_psw}
use Rattle.attention_rules.specs.Pauses.{Pause}
use Rattle.attention_rules.specs.Touched.{read_by, stored_by, others}
use Rattle.attention_rules.specs.declared.Command.TheVariants.{Suspend, Resume}
use Rattle.attention_rules.proofs.Outcomes.{accepted-order, passed-sound, passed-command, passed-others}

-- ---- what the saved bytes read

-- the four bytes at an address are lent
module _ (m : Buffers) (pp : ℕ) (c : Channel) (lent : all_lent m (span false pp 4) ≡ true) where
  at : (k : ℕ) → k < 4 → lent_at m false (pp + k) ≡ true
  at k = span-at (lent_at m) false pp 4 k lent

  -- the fourth holds PSW
  psw-back : byte_at (saved m pp c.tp c.psw) false (pp + 3) ≡ c.psw
  unfolding saved store_pointer
  psw-back =
      read_same (store_pointer m false pp c.tp) false (pp + 3) c.psw (simp store-lent (at 3 (lit< tt)))

  -- the first three hold TP
  tp-back : pointer_at (saved m pp c.tp c.psw) false pp ≡ pointer (c.tp.address % 1048576) c.tp.tag
  unfolding saved pointer_at
  tp-back =
      let m₁ = store_pointer m false pp c.tp in
      let kept : (k : ℕ) → k < 3 → byte_at (store_byte m₁ false (pp + 3) c.psw) false (pp + k) ≡ byte_at m₁ false (pp + k) =
      λ k h. read-other m₁ false (pp + 3) c.psw false (pp + k) (later false pp k 3 h (lit< tt)) in
      rw (read-other m₁ false (pp + 3) c.psw false pp (after false pp 3 (lit< tt) (lit< tt)), kept 1 (lit< tt), kept 2 (lit< tt))
      (pointer_back m false pp c.tp (span-first (lent_at m) false pp 4 lent (lit< tt)) (at 1 (lit< tt)) (at 2 (lit< tt)))

-- two memories alike in three bytes hold the same pointer there
pointer-same : (m n : Buffers) (t : Bool) (a : ℕ) → ((k : ℕ) → k < 3 → byte_at m t (a + k) ≡ byte_at n t (a + k)) → pointer_at m t a ≡ pointer_at n t a
unfolding pointer_at
pointer-same m n t a e = rw (rw add-zero at (e 0 (lit< tt)), e 1 (lit< tt), e 2 (lit< tt))

-- ---- what the two commands do

module _ (s : State) (m : Buffers) (b : Bool) where
  suspend-channel : (order_to s m b).command ≡ Suspend
      → channel_attended s m b ≡ with_control (channel_of s b) (channel_of s b).tp (channel_of s b).pp (ordered (order_to s m b).ccw (stopped_psw (channel_of s b).psw)) Suspended (channel_of s b).armed
  unfolding channel_attended channel_ordered order_to order_of commanded suspended with_control parameter_block
  suspend-channel e = rw e

  suspend-memory : (order_to s m b).command ≡ Suspend → ordered_memory s m b ≡ marked (saved m (channel_of s b).pp (channel_of s b).tp (channel_of s b).psw) (block_of s b) 0
  unfolding ordered_memory order_to order_of stored_memory parameter_block
  suspend-memory e = rw e

  suspend-lent : (order_to s m b).command ≡ Suspend → all_touchable m (others (order_to s m b)) ≡ true → all_lent m (span false (channel_of s b).pp 4) ≡ true
  unfolding others order_to order_of parameter_block read_by stored_by
  suspend-lent e h =
      let pp = (channel_of s b).pp in
      let busy = span false (busy_in (block_of s b)) 1 in
      let both : all_touchable m (span false pp 4 ++ busy) ≡ true = rw e at h in
      sym (span-system m pp 4)
      ∙ both_left (all_touchable m (span false pp 4)) (all_touchable m busy) (sym (all_append (touchable_at m) (span false pp 4) busy) ∙ both)

  resume-channel : (order_to s m b).command ≡ Resume
      → channel_attended s m b ≡ with_control (channel_of s b) (pointer_at m false (channel_of s b).pp) (channel_of s b).pp (ordered (order_to s m b).ccw (with_psw (byte_at m false ((channel_of s b).pp + 3)) 2 true)) Running (channel_of s b).armed
  unfolding channel_attended channel_ordered order_to order_of commanded resumed with_control parameter_block
  resume-channel e = rw e

-- only a running channel can be suspended
suspends-running : (mode : Mode) → command_number Suspend mode ≡ 0 → mode ≡ Running
unfolding command_number is_known mode_number
suspends-running mode e = running-is mode (unless-none 9 refl (first-none-right _ _ e))

-- of PSW a CCW reaches only bits 3, 4, 5 and 7
pub ordered-else : (ccw psw j : ℕ) → ¬ (j ≡ 3) → ¬ (j ≡ 4) → ¬ (j ≡ 5) → ¬ (j ≡ 7) → bit_of (ordered ccw psw) j ≡ bit_of psw j
unfolding ordered obeyed copied with_psw
ordered-else ccw psw j h₃ h₄ h₅ h₇ = go (eqb (field_of ccw 3 2) 1) (eqb (field_of ccw 3 2) 2) (eqb (field_of ccw 3 2) 3) ∙ bit-other (with_bit psw 5 (bit_of ccw 5)) 7 j (bit_of ccw 7) h₇ ∙ bit-other psw 5 j (bit_of ccw 5) h₅
  where
    x : ℕ
    x = with_bit (with_bit psw 5 (bit_of ccw 5)) 7 (bit_of ccw 7)

    go : (a b d : Bool) → bit_of (pick a (with_bit x 4 false) (pick b (with_bit x 3 true) (pick d (with_bit (with_bit x 4 false) 3 false) x))) j ≡ bit_of x j
    go true b d = bit-other x 4 j false h₄
    go false true d = bit-other x 3 j true h₃
    go false false true = bit-other (with_bit x 4 false) 3 j false h₃ ∙ bit-other x 4 j false h₄
    go false false false = refl

module _ (s : State) (m : Buffers) (s' : State) (m' : Buffers) (channel : ℕ) (p : Pause s m s' m' channel) where
  -- the channel before suspend
  before : Channel
  before = channel_of s (is_second channel)

  -- and after it
  between : channel_of s' (is_second channel) ≡ with_control before before.tp before.pp (ordered (order_to s m (is_second channel)).ccw (stopped_psw before.psw)) Suspended before.armed
  unfolding before
  between =
      let b = is_second channel in
      p.registers
      ∙ ap (λ (r : Outcome). channel_of r.state b) (accepted-order s m channel p.accepted)
      ∙ put_same s b (channel_attended s m b)
      ∙ suspend-channel s m b p.suspends

  -- the four bytes that resume reads are those that suspend saved
  same_bytes : (k : ℕ) → k < 4 → byte_at m' false (before.pp + k) ≡ byte_at (saved m before.pp before.tp before.psw) false (before.pp + k)
  unfolding before marked
  same_bytes k h =
      let b = is_second channel in
      p.bytes k h
      ∙ ap (λ (r : Outcome). byte_at r.memory false (before.pp + k)) (accepted-order s m channel p.accepted)
      ∙ ap (λ (n : Buffers). byte_at n false (before.pp + k)) (suspend-memory s m b p.suspends)
      ∙ read-other (saved m before.pp before.tp before.psw) false (busy_in (block_of s b)) 0 false (before.pp + k)
      (λ e i. apart-at false before.pp 4 k false (busy_in (block_of s b)) p.busy h refl (sym i))

  saved-lent : all_lent m (span false before.pp 4) ≡ true
  unfolding before
  saved-lent = suspend-lent s m (is_second channel) p.suspends (passed-others s m channel p.accepted)

  tp-same : pointer_at m' false before.pp ≡ before.tp
  unfolding before sound_channel
  tp-same =
      pointer-same m' (saved m before.pp before.tp before.psw) false before.pp (λ k h. same_bytes k (omega arith))
      ∙ tp-back m before.pp before saved-lent
      ∙ ap (λ (a : ℕ). pointer a before.tp.tag) (mod-eq_of_lt (sound-tp before (sound-channel-of s (is_second channel) (passed-sound s m channel p.accepted))))

  psw-same : byte_at m' false (before.pp + 3) ≡ before.psw
  psw-same = same_bytes 3 (lit< tt) ∙ psw-back m before.pp before saved-lent

  was-running : before.mode ≡ Running
  unfolding before
  was-running = suspends-running before.mode (rw p.suspends at (passed-command s m channel p.accepted))

  -- a suspended channel that is resumed, with nothing in between that changed its registers or the four bytes at PP, goes on as it was: TP, its tag and
  -- every other register are those before suspend, and so is PSW but that TB is 1, bits 5 and 7 are the second CCW's, and that one's ICF is obeyed
  pub suspend-resume : channel_of (attention_of s' m' channel).state (is_second channel)
      ≡ only_psw (channel_of s (is_second channel)) (ordered (order_to s' m' (is_second channel)).ccw (with_psw (channel_of s (is_second channel)).psw 2 true))
  unfolding before with_control
  suspend-resume =
      let b = is_second channel in
      ap (λ (r : Outcome). channel_of r.state b) (accepted-order s' m' channel p.accepted')
      ∙ put_same s' b (channel_attended s' m' b)
      ∙ resume-channel s' m' b p.resumes
      ∙ rw (between, tp-same, psw-same, ← was-running)
