-- The sheet of attention, from the definitions of its commands.
-- Assumes nothing.
use Rattle.std.proofs.Common.{Option, ℕ}
use Prim.Native.Nat.{ℕ, zero, suc, ◌+◌, ◌*◌, ◌/◌, ◌%◌, ◌^◌, ◌<◌}
use borrow.Author.Tests.{eqb-false}
use lib.Dec.{eqb, lit<}
use lib.ListN.{get_or}
use mathlib.Core.Bool.{Bool, true, false, ◌&&◌}
use mathlib.Core.List.{[], ◌∷◌, ◌++◌}
use mathlib.Core.Path.{◌≡◌, refl, sym, subst, ap, ◌∙◌}
use native.Mathlib.Nat.{add-zero}
use native.Mathlib.Omega.{arith}
use Rattle.attention_rules.proofs.Outcomes.{accepted-order, passed-command, passed-others}
use Rattle.attention_rules.proofs.Pauses.{ordered-else}
use Rattle.attention_rules.specs.Attention.{order_to, channel_attended, ordered_memory}
use Rattle.attention_rules.specs.Blocks.{ccw_of, parameter_block, order_of}
use Rattle.attention_rules.specs.Commands.{command_coded, is_known, command_number, copied, obeyed, ordered}
use Rattle.attention_rules.specs.Effects.{only_psw, started, suspended, resumed, commanded, channel_ordered, saved, marked, stored_memory}
use Rattle.attention_rules.specs.Touched.{read_by, stored_by, others}
use Rattle.attention_rules.specs.declared.Command.{Command}
use Rattle.attention_rules.specs.declared.Command.TheVariants.{Update, StartLocal, StartSystem, Suspend, Resume, Halt, Unknown}
use Rattle.ground_rules.proofs.ChannelLaws.{put_same, named}
use Rattle.ground_rules.specs.Outcomes.{Outcome, outcome, unless, first}
use Rattle.ground_rules.specs.Psw.{with_psw}
use Rattle.ground_rules.specs.States.{channel_of, with_channel, block_of, busy_in, channel_number}
use Rattle.ground_rules.specs.Updates.{with_control, stopped_psw, halted}
use Rattle.ground_rules.specs.declared.Channel.{Channel}
use Rattle.ground_rules.specs.declared.Mode.{Mode}
use Rattle.ground_rules.specs.declared.State.{State}
use Rattle.ground_rules.proofs.PlaceLaws.{store-index, index-reduced, later, after}
use Rattle.ground_rules.proofs.SpanLaws.{span-at, span-first, all_append, span-system}
use Rattle.ground_rules.proofs.StoreLaws.{store-lent, read_same, read-other, pointer-bytes}
use Rattle.ground_rules.specs.Buffers.{Buffers, index_of, lent_at, touchable_at, byte_at, store_byte}
use Rattle.ground_rules.specs.Places.{span, all_lent, all_touchable, Apart}
use Rattle.ground_rules.specs.Values.{word_at, doubleword_at, pointer, pointer_at, store_pointer}
use Rattle.ground_rules.specs.declared.Pointer.{Pointer}
use Rattle.ground_rules.proofs.ChoiceLaws.{both_left, both_right}
use Rattle.ground_rules.specs.Bits.{field_of, bit_of, with_bit}
use Rattle.ground_rules.specs.Choice.{pick}
use Rattle.promises.specs.SheetWords.{bit, form_of}
use Rattle.promises_sheet.specs.SheetAttention.{block_in, ccw_at, busy_place, pb_at, outcome_to, channel_after, Attends, by_icf, StatusLeft, ControlLeft, BusyLeft, SavedLeft, AttentionSheet}
use Rattle.promises.proofs.SheetLaws.{digit-of, bit-alike, bit-made, bit_kept, byte-alike, lent_alike, word-alike, far-alike}

-- ---- PSW

-- what every command does last
ordered-left : (ccw x : ℕ) → StatusLeft ccw x (bit x 2) (bit x 6) (ordered ccw x)
unfolding ordered obeyed copied with_psw field_of
ordered-left ccw x = record {
  destination = plain 0 (eqb-false 0 3 refl) (eqb-false 0 4 refl) (eqb-false 0 5 refl) (eqb-false 0 7 refl);
  source = plain 1 (eqb-false 1 3 refl) (eqb-false 1 4 refl) (eqb-false 1 5 refl) (eqb-false 1 7 refl);
  running = plain 2 (eqb-false 2 3 refl) (eqb-false 2 4 refl) (eqb-false 2 5 refl) (eqb-false 2 7 refl);
  control = third (icf 1) (icf 2) (icf 3);
  service = fourth (icf 1) (icf 2) (icf 3);
  load = else 5 (eqb-false 5 3 refl) (eqb-false 5 4 refl) (icf 1) (icf 2) (icf 3)
      ∙ bit_kept z 7 5 (bit_of ccw 7) (eqb-false 5 7 refl) ∙ bit-made x 5 (bit_of ccw 5) ∙ sym (digit-of ccw 5);
  transfer = plain 6 (eqb-false 6 3 refl) (eqb-false 6 4 refl) (eqb-false 6 5 refl) (eqb-false 6 7 refl);
  priority = else 7 (eqb-false 7 3 refl) (eqb-false 7 4 refl) (icf 1) (icf 2) (icf 3) ∙ bit-made z 7 (bit_of ccw 7) ∙ sym (digit-of ccw 7);
}
  where
    icf : ℕ → Bool
    icf k = eqb (ccw / 8 % 4) k

    z : ℕ
    z = with_bit x 5 (bit_of ccw 5)

    y : ℕ
    y = with_bit z 7 (bit_of ccw 7)

    out : Bool → Bool → Bool → ℕ
    out a b d = pick a (with_bit y 4 false) (pick b (with_bit y 3 true) (pick d (with_bit (with_bit y 4 false) 3 false) y))

    -- a bit that none of them reaches
    plain : (j : ℕ) → ¬ (j ≡ 3) → ¬ (j ≡ 4) → ¬ (j ≡ 5) → ¬ (j ≡ 7) → bit (ordered ccw x) j ≡ bit x j
    plain j h₃ h₄ h₅ h₇ = bit-alike (ordered ccw x) x j j (ordered-else ccw x j h₃ h₄ h₅ h₇)

    -- one that ICF does not
    else : (j : ℕ) → ¬ (j ≡ 3) → ¬ (j ≡ 4) → (a b d : Bool) → bit (out a b d) j ≡ bit y j
    else j h₃ h₄ true b d = bit_kept y 4 j false h₄
    else j h₃ h₄ false true d = bit_kept y 3 j true h₃
    else j h₃ h₄ false false true = bit_kept (with_bit y 4 false) 3 j false h₃ ∙ bit_kept y 4 j false h₄
    else j h₃ h₄ false false false = refl

    -- bits 3 and 4 before it
    under : (j : ℕ) → ¬ (j ≡ 5) → ¬ (j ≡ 7) → bit y j ≡ bit x j
    under j h₅ h₇ = bit_kept z 7 j (bit_of ccw 7) h₇ ∙ bit_kept x 5 j (bit_of ccw 5) h₅

    under₃ : bit y 3 ≡ bit x 3
    under₃ = under 3 (eqb-false 3 5 refl) (eqb-false 3 7 refl)

    under₄ : bit y 4 ≡ bit x 4
    under₄ = under 4 (eqb-false 4 5 refl) (eqb-false 4 7 refl)

    third : (a b d : Bool) → bit (out a b d) 3 ≡ pick a (bit x 3) (pick b 1 (pick d 0 (bit x 3)))
    third true b d = bit_kept y 4 3 false (eqb-false 3 4 refl) ∙ under₃
    third false true d = bit-made y 3 true
    third false false true = bit-made (with_bit y 4 false) 3 false
    third false false false = under₃

    fourth : (a b d : Bool) → bit (out a b d) 4 ≡ pick a 0 (pick b (bit x 4) (pick d 0 (bit x 4)))
    fourth true b d = bit-made y 4 false
    fourth false true d = bit_kept y 3 4 true (eqb-false 4 3 refl) ∙ under₄
    fourth false false true = bit_kept (with_bit y 4 false) 3 4 false (eqb-false 4 3 refl) ∙ bit-made y 4 false
    fourth false false false = under₄

-- what a command itself makes of a PSW: TB and XF, and no other bit that counts afterwards
record Made (psw tb xf x : ℕ) : Type 0 where
  destination : bit x 0 ≡ bit psw 0
  source : bit x 1 ≡ bit psw 1
  running : bit x 2 ≡ tb
  control : bit x 3 ≡ bit psw 3
  service : bit x 4 ≡ bit psw 4
  transfer : bit x 6 ≡ xf

-- TB and XF set so or so
made-both : (psw : ℕ) (tb xf : Bool) → Made psw (pick tb 1 0) (pick xf 1 0) (with_bit (with_bit psw 2 tb) 6 xf)
made-both psw tb xf = record {
  destination = kept 0 (eqb-false 0 2 refl) (eqb-false 0 6 refl);
  source = kept 1 (eqb-false 1 2 refl) (eqb-false 1 6 refl);
  running = bit_kept (with_bit psw 2 tb) 6 2 xf (eqb-false 2 6 refl) ∙ bit-made psw 2 tb;
  control = kept 3 (eqb-false 3 2 refl) (eqb-false 3 6 refl);
  service = kept 4 (eqb-false 4 2 refl) (eqb-false 4 6 refl);
  transfer = bit-made (with_bit psw 2 tb) 6 xf;
}
  where
    kept : (j : ℕ) → ¬ (j ≡ 2) → ¬ (j ≡ 6) → bit (with_bit (with_bit psw 2 tb) 6 xf) j ≡ bit psw j
    kept j h₂ h₆ = bit_kept (with_bit psw 2 tb) 6 j xf h₆ ∙ bit_kept psw 2 j tb h₂

-- TB alone
made_one : (psw : ℕ) (tb : Bool) → Made psw (pick tb 1 0) (bit psw 6) (with_bit psw 2 tb)
made_one psw tb = record {
  destination = bit_kept psw 2 0 tb (eqb-false 0 2 refl);
  source = bit_kept psw 2 1 tb (eqb-false 1 2 refl);
  running = bit-made psw 2 tb;
  control = bit_kept psw 2 3 tb (eqb-false 3 2 refl);
  service = bit_kept psw 2 4 tb (eqb-false 4 2 refl);
  transfer = bit_kept psw 2 6 tb (eqb-false 6 2 refl);
}

-- neither
made_none : (psw : ℕ) → Made psw (bit psw 2) (bit psw 6) psw
made_none psw = record { destination = refl; source = refl; running = refl; control = refl; service = refl; transfer = refl }

-- and then what every command does
status-left : {psw tb xf x : ℕ} (ccw : ℕ) → Made psw tb xf x → StatusLeft ccw psw tb xf (ordered ccw x)
status-left {psw} {tb} {xf} {x} ccw h =
    let o = ordered-left ccw x in
    record {
      destination = o.destination ∙ h.destination;
      source = o.source ∙ h.source;
      running = o.running ∙ h.running;
      control = o.control ∙ ap (λ (n : ℕ). by_icf ccw n 1 0 n) h.control;
      service = o.service ∙ ap (λ (n : ℕ). by_icf ccw 0 n 0 n) h.service;
      load = o.load;
      transfer = o.transfer ∙ h.transfer;
      priority = o.priority;
    }

-- ---- the block

module _ (s : State) (b : Bool) where
  -- a block begins where the sheet says, in 20 bits
  block-is : block_of s b % 1048576 ≡ block_in s b % 1048576
  unfolding block_of
  block-is = go b
    where
      go : (b : Bool) → pick b ((s.cp + 8) % 1048576) s.cp % 1048576 ≡ pick b (s.cp + 8) s.cp % 1048576
      go true = omega arith
      go false = refl

  -- and so do its parts
  pub busy-is : busy_in (block_of s b) % 1048576 ≡ busy_place s b % 1048576
  unfolding busy_in
  busy-is = omega (arith, block-is)

  pb-is : (m : Buffers) → doubleword_at m false ((block_of s b + 2) % 1048576) ≡ pb_at s m b
  pb-is m = far-alike m false ((block_of s b + 2) % 1048576) (block_in s b + 2) (omega (arith, block-is))

-- ---- an attention that is done

module _ (b : Bool) (s : State) (m : Buffers) {code : ℕ} (x : Attends b s m code) (k : Command) (coded : command_coded code ≡ k) where
  -- what it leaves is its order's
  whole : outcome_to s m b ≡ outcome 0 (with_channel s b (channel_attended s m b)) (ordered_memory s m b)
  whole =
      subst (λ (d : Bool). outcome_to s m b ≡ outcome 0 (with_channel s d (channel_attended s m d)) (ordered_memory s m d)) (named b)
      (accepted-order s m (channel_number b) x.done)

  -- the order is the command
  command-is : (order_to s m b).command ≡ k
  unfolding order_to order_of ccw_of field_of
  command-is =
      let e : byte_at m false (block_of s b) ≡ ccw_at s m b = byte-alike m false (block_of s b) (block_in s b) (block-is s b) in
      let h : byte_at m false (block_of s b) / 2 ^ 0 % 2 ^ 3 ≡ code = omega (arith, e, x.code) in
      ap command_coded h ∙ coded

  -- where PB is for it
  pb : ℕ
  pb = parameter_block k m (block_of s b) (channel_of s b).pp

  -- what it makes of the channel
  made : Channel
  made = commanded k m pb (channel_of s b)

  channel-is : channel_after s m b ≡ only_psw made (ordered (ccw_at s m b) made.psw)
  unfolding channel_attended channel_ordered order_to order_of ccw_of pb made
  channel-is =
      ap (λ (o : Outcome). channel_of o.state b) whole
      ∙ put_same s b (channel_attended s m b)
      ∙ rw command-is
      (ap (λ (n : ℕ). only_psw made (ordered n made.psw)) (byte-alike m false (block_of s b) (block_in s b) (block-is s b)))

  -- and of memory
  memory-is : (outcome_to s m b).memory ≡ stored_memory k m (block_of s b) pb (channel_of s b)
  unfolding ordered_memory order_to order_of pb
  memory-is = ap (λ (o : Outcome). o.memory) whole ∙ rw command-is

  -- the bytes that it stores may be touched
  touchable-is : all_touchable m (stored_by k (block_of s b) pb) ≡ true
  unfolding others order_to order_of pb
  touchable-is =
      let all : all_touchable m (others (order_to s m b)) ≡ true =
      subst (λ (d : Bool). all_touchable m (others (order_to s m d)) ≡ true) (named b) (passed-others s m (channel_number b) x.done) in
      let both : all_touchable m (read_by k (block_of s b) pb ++ stored_by k (block_of s b) pb) ≡ true = rw command-is at all in
      both_right (all_touchable m (read_by k (block_of s b) pb)) (all_touchable m (stored_by k (block_of s b) pb))
      (sym (all_append (touchable_at m) (read_by k (block_of s b) pb) (stored_by k (block_of s b) pb)) ∙ both)

  -- the channel by its fields
  control-left : {tp : Pointer} {pp psw tb xf : ℕ} {mode : Mode} {armed : Bool} {byte : Option ℕ} → made.tp ≡ tp → made.pp ≡ pp → Made psw tb xf made.psw
      → made.mode ≡ mode → made.armed ≡ armed → made.held ≡ byte → ControlLeft (ccw_at s m b) (channel_after s m b) tp pp psw tb xf mode armed byte
  unfolding with_control
  control-left {tp} {pp} {psw} {tb} {xf} {mode} {armed} {byte} h₁ h₂ h₃ h₄ h₅ h₆ = record {
    tp = ap (λ (c : Channel). c.tp) channel-is ∙ h₁;
    pp = ap (λ (c : Channel). c.pp) channel-is ∙ h₂;
    status = subst (λ (n : ℕ). StatusLeft (ccw_at s m b) psw tb xf n) (sym (ap (λ (c : Channel). c.psw) channel-is)) (status-left (ccw_at s m b) h₃);
    mode = ap (λ (c : Channel). c.mode) channel-is ∙ h₄;
    mark = ap (λ (c : Channel). c.armed) channel-is ∙ h₅;
    held = ap (λ (c : Channel). c.held) channel-is ∙ h₆;
  }

-- ---- memory

module _ (s : State) (b : Bool) (m : Buffers) where
  -- BUSY stored where the definition puts it is BUSY stored where the sheet does
  busy-stored : (v : ℕ) → marked m (block_of s b) v ≡ store_byte m false (busy_place s b) v
  unfolding marked
  busy-stored v =
      store-index m false (busy_in (block_of s b)) (busy_place s b) v
      (sym (index-reduced false (busy_in (block_of s b))) ∙ ap (index_of false) (busy-is s b) ∙ index-reduced false (busy_place s b))

  busy-lent : all_touchable m (span false (busy_in (block_of s b)) 1) ≡ true → lent_at m false (busy_place s b) ≡ true
  busy-lent h =
      sym (lent_alike m false (busy_in (block_of s b)) (busy_place s b) (busy-is s b)) ∙ span-first (lent_at m) false (busy_in (block_of s b)) 1 (sym (span-system m (busy_in (block_of s b)) 1) ∙ h) (lit< tt)

  -- BUSY alone
  busy-left : (v : ℕ) (m' : Buffers) → m' ≡ marked m (block_of s b) v → all_touchable m (span false (busy_in (block_of s b)) 1) ≡ true → BusyLeft s b v m m'
  busy-left v m' e h =
      let e' = e ∙ busy-stored v in
      record {
        busy = ap (λ (n : Buffers). byte_at n false (busy_place s b)) e' ∙ read_same m false (busy_place s b) v (busy-lent h);
        others = λ tag a ne. ap (λ (n : Buffers). byte_at n tag a) e' ∙ read-other m false (busy_place s b) v tag a ne;
      }

-- TP and PSW saved at an address
module _ (m : Buffers) (pp : ℕ) (tp : Pointer) (psw : ℕ) where
  saved-bytes : all_lent m (span false pp 4) ≡ true → (i : ℕ) → i < 4
      → byte_at (saved m pp tp psw) false (pp + i) ≡ get_or (form_of tp.address tp.tag ++ (psw ∷ [])) i 0
  unfolding saved store_pointer
  saved-bytes h = go
    where
      n : Buffers
      n = store_pointer m false pp tp

      three : (byte_at n false pp ≡ tp.address % 256) × (byte_at n false (pp + 1) ≡ tp.address / 256 % 256) × (byte_at n false (pp + 2) ≡ tp.address / 65536 % 16 * 16 + pick tp.tag 8 0)
      three = pointer-bytes m false pp tp (span-first (lent_at m) false pp 4 h (lit< tt)) (span-at (lent_at m) false pp 4 1 h (lit< tt)) (span-at (lent_at m) false pp 4 2 h (lit< tt))

      go : (i : ℕ) → i < 4 → byte_at (store_byte n false (pp + 3) psw) false (pp + i) ≡ get_or (form_of tp.address tp.tag ++ (psw ∷ [])) i 0
      go zero k = ap (byte_at (store_byte n false (pp + 3) psw) false) (add-zero pp) ∙ read-other n false (pp + 3) psw false pp (after false pp 3 (lit< tt) (lit< tt)) ∙ three.0
      go (suc zero) k = read-other n false (pp + 3) psw false (pp + 1) (later false pp 1 3 (lit< tt) (lit< tt)) ∙ three.1
      go (suc (suc zero)) k = read-other n false (pp + 3) psw false (pp + 2) (later false pp 2 3 (lit< tt) (lit< tt)) ∙ three.2
      go (suc (suc (suc zero))) k = read_same n false (pp + 3) psw (simp store-lent (span-at (lent_at m) false pp 4 3 h (lit< tt)))
      go (suc (suc (suc (suc i)))) k = absurd (omega arith)

  saved-others : (tag : Bool) (a : ℕ) → ((i : ℕ) → i < 4 → Apart false (pp + i) tag a) → byte_at (saved m pp tp psw) tag a ≡ byte_at m tag a
  unfolding saved store_pointer
  saved-others tag a ne =
      read-other (store_pointer m false pp tp) false (pp + 3) psw tag a (ne 3 (lit< tt))
      ∙ read-other _ false (pp + 2) _ tag a (ne 2 (lit< tt))
      ∙ read-other _ false (pp + 1) _ tag a (ne 1 (lit< tt))
      ∙ read-other m false pp _ tag a (subst (λ (n : ℕ). Apart false n tag a) (add-zero pp) (ne 0 (lit< tt)))

  saved-lent : (tag : Bool) (a : ℕ) → lent_at (saved m pp tp psw) tag a ≡ lent_at m tag a
  unfolding saved store_pointer
  saved-lent tag a = simp store-lent

-- then BUSY
saved-left : (s : State) (b : Bool) (m m' : Buffers)
    → m' ≡ marked (saved m (channel_of s b).pp (channel_of s b).tp (channel_of s b).psw) (block_of s b) 0
    → all_touchable m (span false (channel_of s b).pp 4 ++ span false (busy_in (block_of s b)) 1) ≡ true → SavedLeft s b m m'
saved-left s b m m' e h = record {
  busy = ap (λ (k : Buffers). byte_at k false (busy_place s b)) e' ∙ read_same n false (busy_place s b) 0 (saved-lent m pp tp psw false (busy_place s b) ∙ busy-lent s b m last);
  saved = λ i hi ne. ap (λ (k : Buffers). byte_at k false (pp + i)) e' ∙ read-other n false (busy_place s b) 0 false (pp + i) ne ∙ saved-bytes m pp tp psw four i hi;
  others = λ tag a ne nes. ap (λ (k : Buffers). byte_at k tag a) e' ∙ read-other n false (busy_place s b) 0 tag a ne ∙ saved-others m pp tp psw tag a nes;
}
  where
    pp : ℕ
    pp = (channel_of s b).pp

    tp : Pointer
    tp = (channel_of s b).tp

    psw : ℕ
    psw = (channel_of s b).psw

    n : Buffers
    n = saved m pp tp psw

    e' : m' ≡ store_byte n false (busy_place s b) 0
    e' = e ∙ busy-stored s b n 0

    both : all_touchable m (span false pp 4) && all_touchable m (span false (busy_in (block_of s b)) 1) ≡ true
    both = sym (all_append (touchable_at m) (span false pp 4) (span false (busy_in (block_of s b)) 1)) ∙ h

    four : all_lent m (span false pp 4) ≡ true
    four = sym (span-system m pp 4) ∙ both_left (all_touchable m (span false pp 4)) (all_touchable m (span false (busy_in (block_of s b)) 1)) both

    last : all_touchable m (span false (busy_in (block_of s b)) 1) ≡ true
    last = both_right (all_touchable m (span false pp 4)) (all_touchable m (span false (busy_in (block_of s b)) 1)) both

-- ---- the sheet

-- 010 and 100 are refused
no-command : (b : Bool) (s : State) (m : Buffers) (code : ℕ) → Attends b s m code → command_coded code ≡ Unknown → ⊥
unfolding command_number is_known first unless
no-command b s m code x coded =
    let z : command_number (order_to s m b).command (channel_of s b).mode ≡ 0 =
    subst (λ (d : Bool). command_number (order_to s m d).command (channel_of s d).mode ≡ 0) (named b) (passed-command s m (channel_number b) x.done) in
    eqb-false 6 0 refl (rw (command-is b s m x Unknown coded) at z)

pub attention-sheet : (second : Bool) (s : State) (m : Buffers) → AttentionSheet second s m
unfolding command_coded commanded started suspended resumed halted stopped_psw with_psw with_control parameter_block stored_memory stored_by pointer_at bit_of pb made
attention-sheet b s m = record {
  update = λ x. control-left b s m x Update refl refl refl (made_none (channel_of s b).psw) refl refl refl;
  update_memory = λ x. memory-is b s m x Update refl;
  start_local = λ x. control-left b s m x StartLocal refl
      (ap (λ (a : ℕ). pointer a true) (ap (word_at m false) (pb-is s b m) ∙ word-alike m false (pb_at s m b) (pb_at s m b) refl)) (pb-is s b m) (made-both (channel_of s b).psw true false) refl refl refl;
  start_local_memory = λ x. busy-left s b m 255 (outcome_to s m b).memory (memory-is b s m x StartLocal refl) (touchable-is b s m x StartLocal refl);
  start_system = λ x. control-left b s m x StartSystem refl
      (ap (λ (a : ℕ). pointer a false) (ap (doubleword_at m false) (pb-is s b m) ∙ far-alike m false (pb_at s m b) (pb_at s m b) refl)) (pb-is s b m) (made-both (channel_of s b).psw true false) refl refl refl;
  start_system_memory = λ x. busy-left s b m 255 (outcome_to s m b).memory (memory-is b s m x StartSystem refl) (touchable-is b s m x StartSystem refl);
  suspend = λ x. control-left b s m x Suspend refl refl refl (made-both (channel_of s b).psw false false) refl refl refl;
  suspend_memory = λ x. saved-left s b m (outcome_to s m b).memory (memory-is b s m x Suspend refl) (touchable-is b s m x Suspend refl);
  resume = λ x. control-left b s m x Resume refl refl refl (made_one (byte_at m false ((channel_of s b).pp + 3)) true) refl refl refl;
  resume_memory = λ x. busy-left s b m 255 (outcome_to s m b).memory (memory-is b s m x Resume refl) (touchable-is b s m x Resume refl);
  halt = λ x. control-left b s m x Halt refl refl refl (made-both (channel_of s b).psw false false) refl refl refl;
  halt_memory = λ x. busy-left s b m 0 (outcome_to s m b).memory (memory-is b s m x Halt refl) (touchable-is b s m x Halt refl);
  none = (λ x. no-command b s m 2 x refl, λ x. no-command b s m 4 x refl);
}
