-- A whole row with two pauses: fresh, a start attention and a program; a pause before the first transfer step and one at an odd byte between words, in each of
-- which the other channel is started and steps; and the end.
-- Assumes nothing.
use Prim.Native.Nat.{ℕ, suc, ◌+◌, ◌<◌, ◌≤◌}
use borrow.Author.Tests.{eqb-false}
use lib.{Dec.lit<, Dec.lit≤, ListN.length}
use mathlib.Core.{Bool.Bool, Bool.true, Bool.false, List.List, List.[], List.◌∷◌, List.◌++◌}
use mathlib.Core.Path.{◌≡◌, refl, sym, ap, subst, ◌∙◌}
use native.Mathlib.Omega.{arith}
use Rattle.ground_rules.specs.{Bits.field_of, Bits.bit_of, Bits.with_bit, Cc.split, Conditions.TooLong, Outcomes.unless, Outcomes.first, Values.pointer, Values.onward}
use Rattle.ground_rules.specs.{declared.Channel.Channel, declared.State.State, Places.span, Places.ApartFrom, Psw.with_psw}
use Rattle.ground_rules.specs.Buffers.{Buffers, space_of, limit_of, index_of, byte_at, store_byte}
use Rattle.ground_rules.specs.States.{channel_of, channel_number, block_of, busy_in, is_running, is_suspended, sound_channel}
use Rattle.ground_rules.specs.Updates.{with_control, with_transfer, stopped_psw}
use Rattle.ground_rules.proofs.{ChannelLaws.sound-channel-of, ConditionLaws.told-limits, StoreLaws.store_length}
use Rattle.attention_rules.specs.{declared.Command.Command, Attention.order_to, Attention.attention_of, Blocks.ccw_of, Blocks.order_of, Effects.suspended}
use Rattle.attention_rules.specs.Commands.{command_coded, is_known, mode_number, command_number}
use Rattle.attention_rules.proofs.Stores.{lengths-kept}
use Rattle.turn_rules.proofs.{SoundLaws.entry-sound, TouchedLaws.lengths-kept as step-lengths}
use Rattle.transfer_rules.specs.Sides.{source, destination, word_side}
use Rattle.block_rules.specs.{Rows.Left, Stages.midway, Totals.narrow, Totals.alone, Totals.total, Totals.moved_after}
use Rattle.promises.{specs.Witness.running_with, proofs.StandLaws.stand-on}
use Rattle.promises_blocks.specs.{Joined.RunsAlone, Met.zeros, Met.copying, Program.Job, Program.busy_at, Program.JobReady}
use Rattle.promises_blocks.specs.Image.{put, WholeSystem, layout_of, copy_of, image_in}
use Rattle.promises_blocks.proofs.AloneLaws.{going-turn, alone-next, alone-written, accepts, alone-attended}
use Rattle.promises_blocks.proofs.{CopyWitness.zeros_within, ProgramStart.Starts, ProgramStart.starts-given, ProgramStart.halts-at-once, ProgramSteps.View}
use Rattle.promises_blocks.proofs.ImageLaws.{put-length, put_other, differ, whole-lent, whole-touchable, whole-put, whole-stand, zeros-whole, ready-met}
use Rattle.promises_blocks.proofs.Showpiece.{come, copy, comes, source-at, destination-at, control-at, parameters-at, program-at, total-at, moved_at}
use Rattle.promises_sheet.specs.SheetAttention.{outcome_to, channel_after}
use Rattle.promises_pauses.specs.Pausing.{Quietly, PauseApart, Spared, PausedCalls, EndsPaused, PausedMet, pauses_of, begin, transfer, step, attention, host, suspend, resume}
use Rattle.promises_pauses.proofs.PausedRows.{suspend-only, demand13, places-stay, off-registers}

-- both blocks, with this CCW in channel 1's. Channel 2's has CCW 03h and PB at 2, where its program's address is, 0Eh, where HLT stands
abbrev blocks : ℕ → List ℕ
blocks ccw = ccw ∷ 0 ∷ 0x0E ∷ 0 ∷ 0 ∷ 0 ∷ 0 ∷ 0 ∷ 0x03 ∷ 0 ∷ 0x02 ∷ 0 ∷ 0 ∷ 0 ∷ 0x20 ∷ 0x48 ∷ []

-- five bytes by words from 41h to 10051h
abbrev job : Job
job = copy_of true true true true 5

module _ (given : Buffers) (full : WholeSystem given) (fit : ¬ (TooLong given)) where
  -- the image is ready for the program
  ready : JobReady job (layout_of false) (image_in given job (layout_of false)) 0 65535
  ready = ready-met given full fit false true true true true 5 0 (lit≤ tt) (lit≤ tt) (lit< tt)

  -- where it has come to: the state and memory
  abbrev s₁ : State
  s₁ = (come ready).state

  abbrev m₁ : Buffers
  m₁ = store_byte (image_in given job (layout_of false)) false (busy_at (layout_of false)) 255

  -- neither PB nor BUSY has a byte in a range
  far : PauseApart false 5 s₁
  unfolding channel_of busy_in block_of span index_of limit_of
  far =
      record {
        busy = rw (parameters-at ready, control-at ready) (λ e z. omega arith, (λ e z. omega arith, (λ e z. omega arith, (λ e z. omega arith, tt))));
        source = rw (parameters-at ready, control-at ready, source-at ready) (λ i h. clear (0x41 + i) (omega arith) (omega arith));
        destination = rw (parameters-at ready, control-at ready, destination-at ready) (λ i h. clear (0x10051 + i) (omega arith) (omega arith));
      }
    where
      clear : (a : ℕ) → 0x14 ≤ a → a < 1048576 → ApartFrom (span false 0x10 4 ++ span false 1 1) false a
      clear a h l = (λ e z. omega arith, (λ e z. omega arith, (λ e z. omega arith, (λ e z. omega arith, (λ e z. omega arith, tt)))))

  -- the transfer ends at the third of its steps: one byte, two and two
  ends : EndsPaused false 5 s₁ m₁ 3
  unfolding total narrow alone copying running_with source destination bit_of word_side split
  ends = subst (EndsPaused false 5 s₁ m₁) (total-at ready) (demand13 (copy ready) (program-at ready) far)

  -- a row so far from which a call more can be made: the other channel does not run, and all of system memory is lent
  record RowSoFar (k : ℕ) (paused : Bool) : Type 0 where
    pub state : State
    pub memory : Buffers
    pub calls : PausedCalls false 5 s₁ m₁ k paused state memory
    pub lone : RunsAlone false state memory 0
    pub whole : WholeSystem memory

  -- made of its calls, whose last state and memory they are
  abbrev so_far : {k : ℕ} {p : Bool} {s : State} {m : Buffers} → PausedCalls false 5 s₁ m₁ k p s m → RunsAlone false s m 0 → WholeSystem m → RowSoFar k p
  so_far calls lone whole = record { state = _; memory = _; calls = calls; lone = lone; whole = whole }

  -- bytes put below 10h leave both ranges and PB alone
  low-spared : {paused : Bool} (m : Buffers) (a : ℕ) (vs : List ℕ) → a + length vs ≤ 16 → WholeSystem m → Spared false 5 s₁ paused m (put m a vs)
  low-spared m a vs low whole =
      record {
        ranges = record { from_left = rw (source-at ready) (left 0x41 (lit≤ tt) (lit≤ tt)); into_left = rw (destination-at ready) (left 0x10051 (lit≤ tt) (lit≤ tt)) };
        block = λ _ i h. rw (parameters-at ready) (kept (0x10 + i) (omega arith) (omega arith));
      }
    where
      kept : (x : ℕ) → 16 ≤ x → x < 1048576 → byte_at (put m a vs) false x ≡ byte_at m false x
      kept x h g = put_other m a vs false x (λ i l. differ (a + i) x (omega arith) g (λ e. omega arith))

      left : (x : ℕ) → 16 ≤ x → x + 5 ≤ 1048576 → Left (pointer x false) 5 m (put m a vs)
      left x h g = record { bytes = λ i l. kept (x + i) (omega arith) (omega arith); lent = λ i l. whole-lent _ (x + i) (whole-put m a vs whole) }

  module _ {k : ℕ} {paused : Bool} (w : RowSoFar k paused) (ccw : ℕ) where
    -- the host writes both blocks anew
    abbrev anew : Buffers
    anew = put w.memory 0 (blocks ccw)

    hosted : RowSoFar k paused
    hosted =
        so_far (host w.calls (low-spared w.memory 0 (blocks ccw) (lit≤ tt) w.whole))
        (alone-written anew w.lone (put-length w.memory 0 (blocks ccw))) (whole-put w.memory 0 (blocks ccw) w.whole)

    -- an attention with such a CCW is quiet, and leaves the other channel
    attended : {next : Bool} {c : Command} {psw : ℕ} → command_coded (field_of ccw 0 3) ≡ c → command_number c (channel_of w.state false).mode ≡ 0
        → (channel_of w.state false).psw ≡ psw → (field_of ccw 3 2 ≡ 0) × (bit_of ccw 5 ≡ bit_of psw 5) × (bit_of ccw 7 ≡ bit_of psw 7)
        → (Quietly false c w.state anew → PausedCalls false 5 s₁ m₁ k next (outcome_to w.state anew false).state (outcome_to w.state anew false).memory)
        → (Quietly false c w.state anew → sound_channel (channel_after w.state anew false) ≡ sound_channel (channel_of w.state false)) → RowSoFar k next
    unfolding order_to order_of ccw_of block_of channel_number hosted
    attended {c = c} code fits e bits calls fit =
        let s = w.state in
        let cp = (places-stay (copy ready) (program-at ready) far w.calls).1 ∙ control-at ready in
        let is : (order_to s anew false).ccw ≡ ccw = rw cp ((whole-stand w.memory 0 (blocks ccw) (lit≤ tt) w.whole).read 0 (lit< tt)) in
        let commands : (order_to s anew false).command ≡ c = ap (λ (x : ℕ). command_coded (field_of x 0 3)) is ∙ code in
        let sounds = sound-channel-of s false (entry-sound s anew 0 hosted.lone.entered) in
        let touched = whole-touchable anew hosted.whole in
        let q : Quietly false c s anew = record {
          accepted = accepts false s anew 0 hosted.lone.entered (rw commands fits) (touched _) (touched _);
          commands = commands;
          interrupts = ap (λ (x : ℕ). field_of x 3 2) is ∙ bits.0;
          limit = ap (λ (x : ℕ). bit_of x 5) is ∙ bits.1 ∙ sym (ap (λ (x : ℕ). bit_of x 5) e);
          ranked = ap (λ (x : ℕ). bit_of x 7) is ∙ bits.2 ∙ sym (ap (λ (x : ℕ). bit_of x 7) e);
        } in
        so_far (calls q) (alone-attended false s anew q.accepted hosted.lone (fit q ∙ sounds))
        (omega (arith, hosted.whole, lengths-kept s anew 1 false))

  -- suspend, and resume
  suspends : {k : ℕ} → RowSoFar k false → k < 3 → RowSoFar k true
  unfolding hosted command_coded field_of bit_of command_number is_known mode_number first unless midway with_transfer suspended with_control sound_channel
  suspends w h =
      let g = ends.before w.calls h in
      let e = ap (λ (c : Channel). c.psw) g.registers ∙ ap (λ (v : View). v.psw) (come ready).seen in
      attended w 0x06 refl (rw g.runs) e (refl, refl, refl) (suspend (hosted w 0x06).calls g.transfers) (λ q. ap sound_channel (suspend-only false _ _ q))

  resumes : {k : ℕ} → RowSoFar k true → RowSoFar k false
  unfolding hosted command_coded field_of bit_of with_bit with_psw stopped_psw command_number is_known mode_number is_suspended first unless midway with_transfer suspended with_control sound_channel
  resumes w =
      let o = off-registers (copy ready) (program-at ready) far w.calls in
      let e = ap (λ (c : Channel). c.psw) o ∙ ap (λ (v : View). stopped_psw v.psw) (come ready).seen in
      let v = (hosted w 0x05).calls in
      attended w 0x05 refl (rw o) e (refl, refl, refl) (resume v) (λ q. ap sound_channel (ends.back v q) ∙ ap sound_channel (sym o))

  -- one of the channel's transfer steps
  advances : {k : ℕ} → RowSoFar k false → k < 3 → RowSoFar (suc k) false
  advances w h =
      let g = ends.before w.calls h in
      let turn = going-turn (copy ready) g w.lone in
      let v = ends.turns w.calls h 0 turn in
      so_far (transfer w.calls 0 turn g.transfers) (alone-next false w.state w.memory 0 w.lone v.done v.channel)
      (omega (arith, w.whole, v.spares.lengths false))

  -- meanwhile the other channel is started, and steps: its program halts
  other-steps : {k : ℕ} → RowSoFar k true → RowSoFar k true
  unfolding hosted put channel_number is_running onward
  other-steps w =
      let m = anew w 0x05 in
      let v = hosted w 0x05 in
      let at = whole-stand w.memory 0 (blocks 0x05) (lit≤ tt) w.whole in
      let block : block_of w.state true ≡ 8 = unfold block_of in rw ((places-stay (copy ready) (program-at ready) far w.calls).1 ∙ control-at ready) in
      let starts : Starts m (block_of w.state true) 2 0x0E = rw block (starts-given (stand-on at 8) (stand-on at 2) refl) in
      let waits : RunsAlone true w.state m 0 = record { entered = v.lone.entered; idle = ap is_running (ends.waits w.calls).0 } in
      let halts = halts-at-once waits w.lone.idle starts (stand-on at 14) in
      let x = rw block at (halts (rw block (λ i h. differ 9 (0x0E + i) (lit< tt) (omega arith) (λ e. omega arith)))) in
      let o = attention_of w.state m 2 in
      let whole : WholeSystem o.memory = omega (arith, v.whole, lengths-kept w.state m 2 false) in
      let calls = attention v.calls 2 (eqb-false 2 1 refl) (rw x.marked (low-spared m 9 (255 ∷ []) (lit≤ tt) v.whole)) in
      so_far (step calls 0 ((ends.waits calls).1 0) (rw x.cleared (low-spared o.memory 9 (0 ∷ []) (lit≤ tt) whole)))
      (record { entered = x.entered; idle = x.still true }) (omega (arith, whole, step-lengths o.state o.memory 0 false))

  -- from where the program has come to: one pause, two transfer steps, another, and the last step
  whole_row : RowSoFar 3 false
  unfolding image_in
  whole_row =
      let lengths : length (space_of m₁ false) ≡ length (space_of given false) = simp (store_length, put-length) in
      let first = resumes (other-steps (suspends (so_far begin (come ready).lonely (omega arith)) (lit< tt))) in
      let second = resumes (other-steps (suspends (advances (advances first (lit< tt)) (lit< tt)) (lit< tt))) in
      advances second (lit< tt)

  -- so in any such memory there is one
  pub paused-row : PausedMet (image_in given job (layout_of false))
  unfolding channel_number pauses_of whole_row hosted attended suspends resumes advances other-steps
  paused-row =
      let r = whole_row.calls in
      let tb = program-at ready in
      let e : moved_after (channel_of s₁ false) 5 2 ≡ 3 =
      unfold moved_after narrow alone copying running_with source destination split word_side bit_of in moved_at ready 2 in
      let end = ends.then r in
      record { state = _; memory = _; comes = comes ready; program = tb; apart = far; last = _; last_memory = _; row = r; pauses = refl; moved = e; ended = end }

-- there is such a memory: zeros
pub paused-met : PausedMet (image_in zeros job (layout_of false))
paused-met = paused-row zeros (omega (arith, zeros-whole 1048576)) ((told-limits zeros).holds zeros_within)
