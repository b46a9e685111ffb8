-- The sheet of NOP, SINTR, XFER, WID and HLT.
-- Assumes nothing.
use Rattle.std.proofs.Common.{Ok}
use Prim.Native.Nat.{ℕ, ◌+◌, ◌<◌}
use borrow.Author.Tests.{eq-eqb, ne_eqb}
use lib.Dec.{eqb, lit<}
use mathlib.Core.Bool.{Bool, true, false, not, ◌&&◌, ◌||◌}
use mathlib.Core.List.{[], ◌∷◌}
use mathlib.Core.Path.{◌≡◌, refl, sym, subst, ap, ap₂, ◌∙◌}
use native.Mathlib.Decide.{ℕ_discrete}
use Rattle.instruction_rules.specs.Lengths.{data_length, displacement_length, length_of}
use Rattle.instruction_rules.specs.Reading.{lookup}
use Rattle.instruction_rules.specs.Table.{table}
use Rattle.instruction_rules.specs.declared.Shape.{Shape}
use Rattle.instruction_rules.specs.declared.Shape.TheVariants.{Nop, Sintr, Xfer, Wid, Hlt}
use Rattle.instruction_rules.specs.Execute.{performed, deed_of}
use Rattle.instruction_rules.specs.Control.{with_status, nop_deed, sintr_deed, xfer_deed, wid_deed, hlt_deed}
use Rattle.instruction_rules.specs.Changes.{places_of, changed}
use Rattle.instruction_rules.specs.Marks.{used_up, past_instruction, mark_set}
use Rattle.ground_rules.specs.Psw.{with_psw}
use Rattle.ground_rules.specs.States.{channel_of, block_of, busy_in}
use Rattle.ground_rules.specs.Updates.{renewed, with_control, stopped_psw, halted}
use Rattle.ground_rules.specs.declared.Channel.{Channel}
use Rattle.ground_rules.specs.declared.Mode.{Mode}
use Rattle.ground_rules.specs.declared.Mode.TheVariants.{Idle}
use Rattle.ground_rules.specs.declared.State.{State}
use Rattle.ground_rules.proofs.PlaceLaws.{store-index, index-reduced}
use Rattle.ground_rules.specs.Buffers.{Buffers, index_of, touchable_at, store_byte}
use Rattle.ground_rules.specs.Places.{all_pass, all_touchable, span}
use Rattle.turn_rules.specs.Step.{step_of}
use Rattle.ground_rules.specs.Bits.{bit_of, with_bit}
use Rattle.ground_rules.specs.Choice.{pick}
use Rattle.promises.specs.SheetWords.{bit, register_values, tags_of}
use Rattle.promises_sheet.specs.SheetAttention.{busy_place}
use Rattle.promises_sheet.specs.SheetOperands.{PairRan, ran_channel, registers_at, past_by, RegistersLeft, BytesLeft}
use Rattle.promises_sheet.specs.SheetControl.{ControlDone, marks_up, ControlSheet}
use Rattle.promises.proofs.SheetLaws.{bit-made, bit_kept, lent_alike}
use Rattle.promises_sheet.proofs.SheetAttention.{busy-is}
use Rattle.promises_sheet.proofs.SheetOperands.{pair_with, deed_in, channel-left, memory-left, places-touchable, past-left}
use Rattle.promises_sheet.proofs.SheetMemory.{one_left}

-- one bit made, and every other as it was
pub bit-set : (psw at : ℕ) (on : Bool) (k : ℕ) → bit (with_bit psw at on) k ≡ pick (eqb k at) (pick on 1 0) (bit psw k)
bit-set psw at on k = go (ℕ_discrete k at)
  where
    go : Dec (k ≡ at) → bit (with_bit psw at on) k ≡ pick (eqb k at) (pick on 1 0) (bit psw k)
    go (yes e) = rw (e, eq-eqb at at refl) (bit-made psw at on)
    go (no ne) = rw (ne_eqb k at ne) (bit_kept psw at k on ne)

-- BUSY stored by HLT
module _ (s : State) (b : Bool) (m : Buffers) where
  busy-put : store_byte m false (busy_in (block_of s b)) 0 ≡ store_byte m false (busy_place s b) 0
  busy-put =
      store-index m false (busy_in (block_of s b)) (busy_place s b) 0
      (sym (index-reduced false (busy_in (block_of s b))) ∙ ap (index_of false) (busy-is s b) ∙ index-reduced false (busy_place s b))

  busy-there : all_touchable m (span false (busy_in (block_of s b)) 1) ≡ true → all_touchable m (span false (busy_place s b) 1) ≡ true
  unfolding all_pass span touchable_at
  busy-there h = sym (ap (λ (t : Bool). t && true) (lent_alike m false (busy_in (block_of s b)) (busy_place s b) (busy-is s b))) ∙ h

-- the parts that no instruction here changes
done-left : {c k : Channel} {status : ℕ → ℕ} {mode : Mode} {armed : Bool} → RegistersLeft c k (registers_at c (past_by c 2) c.ix) (tags_of c) → (psw : ℕ)
    → ((i : ℕ) → bit psw i ≡ status i) → (k' : Channel) → k' ≡ renewed k k.tp k.ix psw mode armed → ControlDone c k' status mode armed
unfolding renewed
done-left l psw h k' e = record {
  values = ap register_values e ∙ l.values;
  tags = ap tags_of e ∙ l.tags;
  pp = ap (λ (c : Channel). c.pp) e ∙ l.pp;
  status = λ i. ap (λ (c : Channel). bit c.psw i) e ∙ h i;
  mode = ap (λ (c : Channel). c.mode) e;
  mark = ap (λ (c : Channel). c.armed) e;
}

module _ {b : Bool} {s : State} {m : Buffers} {lines : ℕ} where
  module _ {r op : ℕ} (x : PairRan b s m lines r 0 0 0 op 0) (shape : Shape) (small : op < 64) (reads : lookup table (pair_with r 0 0 0 op 0) ≡ Ok shape) where
    -- the channel after it
    control : (psw : ℕ) (mode : Mode) (armed : Bool) {status : ℕ → ℕ} → ((i : ℕ) → bit psw i ≡ status i)
        → (deed_in s m b shape).channel ≡ renewed (past_instruction (channel_of s b) 2) (past_instruction (channel_of s b) 2).tp (past_instruction (channel_of s b) 2).ix psw mode armed
        → ControlDone (channel_of s b) (ran_channel b s m lines) status mode armed
    control psw mode armed h e = done-left (past-left (channel_of s b) 2) psw h (ran_channel b s m lines) (channel-left x shape small reads ∙ e)

    -- no byte changes
    still : changed m (deed_in s m b shape).change ≡ m → (step_of s m lines).memory ≡ m
    still e = memory-left x shape small reads ∙ e

-- the bits of the PSW that an instruction finds
found-status : (c : Channel) (i : ℕ) → bit (used_up c.armed c.psw) i ≡ marks_up c i
unfolding past_instruction renewed
found-status c i = (past-left c 2).status i

-- IC is as it was
found-control : (c : Channel) → bit_of (used_up c.armed c.psw) 3 ≡ eqb (bit c.psw 3) 1
unfolding bit_of
found-control c = ap (λ (n : ℕ). eqb n 1) (found-status c 3 ∙ go c.armed)
  where
    go : (a : Bool) → pick (a && eqb 3 6) 1 (bit c.psw 3) ≡ bit c.psw 3
    go true = refl
    go false = refl

-- IS by IC
sintr-status : (on : Bool) (p i : ℕ) → bit (pick on (with_bit p 4 true) p) i ≡ pick (on && eqb i 4) 1 (bit p i)
sintr-status true p i = bit-set p 4 true i
sintr-status false p i = refl

-- TB and XF of a channel that stops
stop-status : (c : Channel) (i : ℕ) → bit (with_bit (with_bit (used_up c.armed c.psw) 2 false) 6 false) i ≡ pick (eqb i 2 || eqb i 6) 0 (bit c.psw i)
stop-status c i = bit-set (with_bit p 2 false) 6 false i ∙ ap (λ (n : ℕ). pick (eqb i 6) 0 n) (bit-set p 2 false i ∙ ap (λ (n : ℕ). pick (eqb i 2) 0 n) (found-status c i)) ∙ go (eqb i 2) (eqb i 6) c.armed
  where
    p : ℕ
    p = used_up c.armed c.psw

    go : (x y a : Bool) → pick y 0 (pick x 0 (pick (a && y) 1 (bit c.psw i))) ≡ pick (x || y) 0 (bit c.psw i)
    go true true a = refl
    go true false a = refl
    go false true a = refl
    go false false true = refl
    go false false false = refl

pub control-sheet : (second : Bool) (s : State) (m : Buffers) (lines : ℕ) → ControlSheet second s m lines
unfolding lookup table deed_of performed nop_deed sintr_deed xfer_deed wid_deed hlt_deed with_status mark_set halted stopped_psw with_control with_psw changed places_of length_of data_length displacement_length past_instruction renewed bit_of
control-sheet b s m lines = record {
  nop = λ x. (control x Nop (lit< tt) refl p₀ c.mode false (found-status c) refl, still x Nop (lit< tt) refl refl);
  sintr = λ x. (
    control x Sintr (lit< tt) refl (pick (bit_of p₀ 3) (with_bit p₀ 4 true) p₀) c.mode false
        (λ i. sintr-status (bit_of p₀ 3) p₀ i ∙ ap₂ (λ (t : Bool) (n : ℕ). pick (t && eqb i 4) 1 n) (found-control c) (found-status c i)) refl,
    still x Sintr (lit< tt) refl refl,
  );
  xfer = λ x. (control x Xfer (lit< tt) refl p₀ c.mode (not c.armed) (found-status c) refl, still x Xfer (lit< tt) refl refl);
  wid = λ source destination x. (
    control x (Wid source destination) (lit< tt) (widths source destination) (with_bit (with_bit p₀ 1 source) 0 destination) c.mode false
        (λ i. bit-set (with_bit p₀ 1 source) 0 destination i ∙ ap (λ (n : ℕ). pick (eqb i 0) (pick destination 1 0) n) (bit-set p₀ 1 source i ∙ ap (λ (n : ℕ). pick (eqb i 1) (pick source 1 0) n) (found-status c i))) refl,
    still x (Wid source destination) (lit< tt) (widths source destination) refl,
  );
  hlt = λ x. (
    control x Hlt (lit< tt) refl (with_bit (with_bit p₀ 2 false) 6 false) Idle false (stop-status c) refl,
    subst (λ (m' : Buffers). BytesLeft false (busy_place s b) (0 ∷ []) m m')
        (sym (memory-left x Hlt (lit< tt) refl ∙ busy-put s b m))
        (one_left m false (busy_place s b) 0 (busy-there s b m (places-touchable x Hlt (lit< tt) refl))),
  );
}
  where
    c : Channel
    c = channel_of s b

    p₀ : ℕ
    p₀ = used_up c.armed c.psw

    widths : (source destination : Bool) → lookup table (pair_with (4 + pick source 2 0 + pick destination 1 0) 0 0 0 0x00 0) ≡ Ok (Wid source destination)
    widths true true = refl
    widths true false = refl
    widths false true = refl
    widths false false = refl
