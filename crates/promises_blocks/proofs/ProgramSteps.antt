-- The instructions of a copying program, each from its bytes at TP to what it leaves: LPDI, MOVI R, XFER, WID and HLT.
-- Assumes nothing.
use Rattle.std.proofs.Common.{Ok}
use Prim.Native.Nat.{ℕ, ◌+◌, ◌*◌, ◌%◌}
use lib.Dec.{ltb}
use mathlib.Core.Bool.{Bool, true, false, not}
use mathlib.Core.List.{List, ◌∷◌}
use mathlib.Core.Path.{◌≡◌, refl, sym, ap, ap₂, subst, ◌∙◌}
use native.Mathlib.Nat.{mod-mod}
use native.Mathlib.Omega.{arith}
use Rattle.ground_rules.specs.Updates.{renewed, with_control, halted}
use Rattle.instruction_rules.specs.Lengths.{data_length, displacement_length, length_of}
use Rattle.instruction_rules.specs.Reading.{lookup, decode_of}
use Rattle.instruction_rules.specs.Table.{table}
use Rattle.instruction_rules.specs.Control.{with_status, xfer_deed, wid_deed, hlt_deed}
use Rattle.instruction_rules.specs.RegisterForms.{register_written, lpdi_deed}
use Rattle.instruction_rules.proofs.OutcomeLaws.{done-where}
use Rattle.instruction_rules.specs.Execute.{performed, deed_of, later_bytes, executed, execute_of}
use Rattle.ground_rules.specs.Psw.{with_psw}
use Rattle.ground_rules.specs.Registers.{with_register, moved, loaded}
use Rattle.ground_rules.specs.States.{is_running}
use Rattle.ground_rules.specs.declared.Channel.{Channel}
use Rattle.ground_rules.specs.declared.Mode.{Mode}
use Rattle.ground_rules.specs.declared.Mode.TheVariants.{Running}
use Rattle.ground_rules.specs.Buffers.{Buffers, lent_at, touchable_at, store_byte}
use Rattle.ground_rules.specs.Places.{span, all_pass, all_touchable}
use Rattle.ground_rules.specs.Values.{pointer, onward}
use Rattle.ground_rules.specs.declared.Pointer.{Pointer}
use Rattle.instruction_rules.specs.Changes.{places_of, changed}
use Rattle.instruction_rules.specs.Marks.{used_up, past_instruction, mark_set}
use Rattle.instruction_rules.specs.Operands.{work_of, is_move}
use Rattle.instruction_rules.specs.Pairs.{pair_of}
use Rattle.instruction_rules.specs.declared.Shape.{Shape}
use Rattle.instruction_rules.specs.declared.Shape.TheVariants.{Lpdi, RegisterImmediate, Xfer, Wid, Hlt}
use Rattle.instruction_rules.specs.declared.Work.TheVariants.{Mov}
use Rattle.ground_rules.specs.Bits.{field_of, bit_of, with_bit}
use Rattle.ground_rules.specs.Bytes.{word_of}
use Rattle.ground_rules.specs.Choice.{pick}
use Rattle.ground_rules.specs.Signs.{extended}
use Rattle.ground_rules.specs.Sums.{address_of}
use Rattle.promises.specs.Cases.{Stand}
use Rattle.promises_blocks.specs.Met.{psw_of}
use Rattle.promises_blocks.specs.Program.{wid_of}
use Rattle.promises.proofs.CaseLaws.{pointer-given}
use Rattle.promises.proofs.InstructionLaws.{decoded, pair-touchable, immediate_done, immediate-executed}
use Rattle.promises.proofs.StandLaws.{stand-on, rest-touchable}

-- the registers that the program has to do with
pub record View : Type 0 where
  pub ga : Pointer
  pub gb : Pointer
  pub tp : Pointer
  pub bc : ℕ
  pub cc : ℕ
  pub psw : ℕ
  pub mode : Mode
  pub armed : Bool

abbrev pub view : Pointer → Pointer → Pointer → ℕ → ℕ → ℕ → Mode → Bool → View
view ga gb tp bc cc psw mode armed = record { ga = ga; gb = gb; tp = tp; bc = bc; cc = cc; psw = psw; mode = mode; armed = armed }

-- those of a channel
abbrev pub view_of : Channel → View
view_of c = view c.ga c.gb c.tp c.bc c.cc c.psw c.mode c.armed

-- a done instruction: the channel that it leaves with the registers that it has, and the memory
pub record After (m : Buffers) (c : Channel) (busy : ℕ) (v : View) (m' : Buffers) : Type 0 where
  pub channel : Channel
  pub step : execute_of c busy m ≡ executed 0 channel m'
  pub seen : view_of channel ≡ v

-- a done HLT: the channel that it leaves does not run, and BUSY is 0
pub record Stopped (m : Buffers) (c : Channel) (busy : ℕ) : Type 0 where
  pub channel : Channel
  pub step : execute_of c busy m ≡ executed 0 channel (store_byte m false busy 0)
  pub still : is_running channel.mode ≡ false

-- ---- what the pairs are

-- LPDI GA and LPDI GB
lpdi-codes : (decode_of 0x11 0x08 ≡ Ok (Lpdi 0)) × (decode_of 0x31 0x08 ≡ Ok (Lpdi 1))
unfolding decode_of lookup table pair_of field_of
lpdi-codes = (refl, refl)

-- MOVI BC and MOVI CC, of a word
movi-codes : (decode_of 0x71 0x30 ≡ Ok (RegisterImmediate Mov 3 true)) × (decode_of 0xD1 0x30 ≡ Ok (RegisterImmediate Mov 6 true))
unfolding decode_of lookup table pair_of field_of
movi-codes = (refl, refl)

-- XFER and HLT
control-codes : (decode_of 0x60 0x00 ≡ Ok Xfer) × (decode_of 0x20 0x48 ≡ Ok Hlt)
unfolding decode_of lookup table pair_of field_of
control-codes = (refl, refl)

-- WID of each two widths
wid-code : (source destination : Bool) → decode_of (wid_of source destination) 0x00 ≡ Ok (Wid source destination)
unfolding decode_of lookup table pair_of field_of bit_of
wid-code true true = refl
wid-code true false = refl
wid-code false true = refl
wid-code false false = refl

-- ---- what they do

-- a word that is sign-extended keeps its low sixteen bits
extended-low : (w : ℕ) → extended 16 w % 65536 ≡ w % 65536
unfolding extended
extended-low w = go (ltb w 32768)
  where
    go : (b : Bool) → pick b w (w + 983040) % 65536 ≡ w % 65536
    go true = refl
    go false = omega arith

-- PSW of a program with XF and its widths
wid-psw : (source destination : Bool) → with_psw (with_psw (used_up true 4) 1 source) 0 destination ≡ psw_of source destination
unfolding with_psw with_bit used_up
wid-psw true true = refl
wid-psw true false = refl
wid-psw false true = refl
wid-psw false false = refl

module _ (m : Buffers) (c : Channel) (busy : ℕ) where
  -- an instruction of which all may be touched is what its shape does
  shape-executed : (shape : Shape) {one two : ℕ} {rest : List ℕ} → Stand m c.tp (one ∷ two ∷ rest) → decode_of one two ≡ Ok shape
      → all_touchable m (later_bytes shape c) ≡ true → (deed_of shape m c busy).second ≡ 0 → all_touchable m (deed_of shape m c busy).reads ≡ true
      → all_touchable m (places_of (deed_of shape m c busy).change) ≡ true
      → execute_of c busy m ≡ executed 0 (deed_of shape m c busy).channel (changed m (deed_of shape m c busy).change)
  shape-executed shape there e = done-where c busy m shape (decoded there (omega arith) ∙ e) (pair-touchable there (omega arith))

  -- LPDI of a register
  lpdi-executed : (r : ℕ) {one lo hi lo' hi' : ℕ} {rest : List ℕ} → Stand m c.tp (one ∷ 0x08 ∷ lo ∷ hi ∷ lo' ∷ hi' ∷ rest)
      → decode_of one 0x08 ≡ Ok (Lpdi r) → execute_of c busy m ≡ executed 0 (loaded (past_instruction c 6) r (address_of (word_of lo hi) (word_of lo' hi'))) m
  unfolding changed deed_of performed lpdi_deed places_of later_bytes span all_pass length_of data_length displacement_length onward
  lpdi-executed r there e =
      shape-executed (Lpdi r) there e (rest-touchable there 2 4 (omega arith)) refl refl refl
      ∙ ap (λ (a : ℕ). executed 0 (loaded (past_instruction c 6) r a) m) (pointer-given m (onward c.tp 2) _ (stand-on there 2) (omega arith))

  -- bytes that stand where TP is known to be
  here : {v : View} {code : List ℕ} → view_of c ≡ v → Stand m v.tp code → Stand m c.tp code
  here {code = code} s there = subst (λ (v : View). Stand m v.tp code) (sym s) there

  module _ {ga gb tp : Pointer} {bc cc psw : ℕ} (s : view_of c ≡ view ga gb tp bc cc psw Running false) where
    -- TP past an instruction
    seen-on : (n : ℕ) → view_of (past_instruction c n) ≡ view ga gb (onward tp n) bc cc psw Running false
    unfolding past_instruction renewed onward used_up
    seen-on n = ap (λ (v : View). view v.ga v.gb (onward v.tp n) v.bc v.cc (used_up v.armed v.psw) v.mode false) s

    -- LPDI of a register, by what it puts into the view
    lpdi-to : (r : ℕ) (into : Pointer → View → View) {one lo hi lo' hi' : ℕ} {rest : List ℕ} → decode_of one 0x08 ≡ Ok (Lpdi r)
        → ((d : Channel) (a : ℕ) → view_of (loaded d r a) ≡ into (pointer (a % 1048576) false) (view_of d)) → Stand m tp (one ∷ 0x08 ∷ lo ∷ hi ∷ lo' ∷ hi' ∷ rest)
        → After m c busy (into (pointer (address_of (word_of lo hi) (word_of lo' hi')) false) (view ga gb (onward tp 6) bc cc psw Running false)) m
    lpdi-to r into {lo = lo} {hi} {lo'} {hi'} code puts there =
        let address = address_of (word_of lo hi) (word_of lo' hi') in
        record {
          channel = loaded (past_instruction c 6) r address;
          step = lpdi-executed r (here s there) code;
          seen =
              puts (past_instruction c 6) address
              ∙ ap₂ (λ (a : ℕ) (v : View). into (pointer a false) v) (mod-mod (word_of lo' hi' * 16 + word_of lo hi) 1048576) (seen-on 6);
        }

    -- MOVI of a word to a register, so too
    movi-to : (r : ℕ) (into : ℕ → View → View) {one lo hi : ℕ} {rest : List ℕ} → decode_of one 0x30 ≡ Ok (RegisterImmediate Mov r true)
        → ((d : Channel) (a : ℕ) → view_of (moved d r a) ≡ into (a % 65536) (view_of d)) → Stand m tp (one ∷ 0x30 ∷ lo ∷ hi ∷ rest)
        → After m c busy (into (word_of lo hi % 65536) (view ga gb (onward tp 4) bc cc psw Running false)) m
    unfolding register_written is_move work_of length_of data_length displacement_length
    movi-to r into {one} {lo} {hi} {rest} code puts there =
        record {
          channel = immediate_done Mov r true c (one ∷ 0x30 ∷ lo ∷ hi ∷ rest);
          step = immediate-executed Mov r true m c _ (here s there) (omega arith) code busy;
          seen = puts (past_instruction c 4) (extended 16 (word_of lo hi)) ∙ ap₂ into (extended-low (word_of lo hi)) (seen-on 4);
        }

    -- LPDI GA
    pub lpdi-ga : {lo hi lo' hi' : ℕ} {rest : List ℕ} → Stand m tp (0x11 ∷ 0x08 ∷ lo ∷ hi ∷ lo' ∷ hi' ∷ rest)
        → After m c busy (view (pointer (address_of (word_of lo hi) (word_of lo' hi')) false) gb (onward tp 6) bc cc psw Running false) m
    unfolding with_register
    lpdi-ga = lpdi-to 0 (λ p v. view p v.gb v.tp v.bc v.cc v.psw v.mode v.armed) lpdi-codes.0 (λ d a. refl)

    -- LPDI GB
    pub lpdi-gb : {lo hi lo' hi' : ℕ} {rest : List ℕ} → Stand m tp (0x31 ∷ 0x08 ∷ lo ∷ hi ∷ lo' ∷ hi' ∷ rest)
        → After m c busy (view ga (pointer (address_of (word_of lo hi) (word_of lo' hi')) false) (onward tp 6) bc cc psw Running false) m
    unfolding with_register
    lpdi-gb = lpdi-to 1 (λ p v. view v.ga p v.tp v.bc v.cc v.psw v.mode v.armed) lpdi-codes.1 (λ d a. refl)

    -- MOVI BC
    pub movi-bc : {lo hi : ℕ} {rest : List ℕ} → Stand m tp (0x71 ∷ 0x30 ∷ lo ∷ hi ∷ rest)
        → After m c busy (view ga gb (onward tp 4) (word_of lo hi % 65536) cc psw Running false) m
    unfolding with_register
    movi-bc = movi-to 3 (λ x v. view v.ga v.gb v.tp x v.cc v.psw v.mode v.armed) movi-codes.0 (λ d a. refl)

    -- MOVI CC
    pub movi-cc : {lo hi : ℕ} {rest : List ℕ} → Stand m tp (0xD1 ∷ 0x30 ∷ lo ∷ hi ∷ rest)
        → After m c busy (view ga gb (onward tp 4) bc (word_of lo hi % 65536) psw Running false) m
    unfolding with_register
    movi-cc = movi-to 6 (λ x v. view v.ga v.gb v.tp v.bc x v.psw v.mode v.armed) movi-codes.1 (λ d a. refl)

    -- XFER
    pub xfer-arms : {rest : List ℕ} → Stand m tp (0x60 ∷ 0x00 ∷ rest) → After m c busy (view ga gb (onward tp 2) bc cc psw Running true) m
    unfolding changed deed_of performed xfer_deed mark_set places_of later_bytes all_pass length_of data_length displacement_length span past_instruction renewed onward used_up
    xfer-arms there =
        record {
          channel = (deed_of Xfer m c busy).channel;
          step = shape-executed Xfer (here s there) control-codes.0 refl refl refl refl;
          seen = ap (λ (v : View). view v.ga v.gb (onward v.tp 2) v.bc v.cc (used_up v.armed v.psw) v.mode (not v.armed)) s;
        }

  -- WID as the instruction after XFER, of a program with TB alone in PSW: the transfer begins
  pub wid-begins : {ga gb tp : Pointer} {bc cc : ℕ} (source destination : Bool) {rest : List ℕ} → view_of c ≡ view ga gb tp bc cc 4 Running true
      → Stand m tp (wid_of source destination ∷ 0x00 ∷ rest) → After m c busy (view ga gb (onward tp 2) bc cc (psw_of source destination) Running false) m
  unfolding changed deed_of performed wid_deed with_status places_of later_bytes all_pass length_of data_length displacement_length span past_instruction renewed onward
  wid-begins {ga} {gb} {tp} {bc} {cc} source destination s there =
      record {
        channel = (deed_of (Wid source destination) m c busy).channel;
        step = shape-executed (Wid source destination) (here s there) (wid-code source destination) refl refl refl refl;
        seen =
            ap (λ (v : View). view v.ga v.gb (onward v.tp 2) v.bc v.cc (with_psw (with_psw (used_up v.armed v.psw) 1 source) 0 destination) v.mode false) s
            ∙ ap (λ (psw : ℕ). view ga gb (onward tp 2) bc cc psw Running false) (wid-psw source destination);
      }

  -- HLT: BUSY is 0, and the channel does not run
  pub hlt-stops : {rest : List ℕ} → Stand m c.tp (0x20 ∷ 0x48 ∷ rest) → lent_at m false busy ≡ true → Stopped m c busy
  unfolding changed deed_of performed hlt_deed halted with_control places_of later_bytes all_pass touchable_at length_of data_length displacement_length span is_running
  hlt-stops there l =
      record {
        channel = (deed_of Hlt m c busy).channel;
        step = shape-executed Hlt there control-codes.1 refl refl refl (rw l);
        still = refl;
      }
