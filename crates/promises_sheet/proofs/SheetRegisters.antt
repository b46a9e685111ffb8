-- The sheet of the register instructions: LPD, LPDI, MOVP P,M, moves and work into a register, and jumps on one.
-- Assumes nothing.
use Rattle.std.proofs.Common.{Ok}
use Prim.Native.Nat.{ℕ, zero, suc, ◌+◌, ◌%◌, ◌<◌}
use lib.Dec.{eqb, lit<}
use lib.ListN.{get_or}
use mathlib.Core.Bool.{Bool, true, false}
use mathlib.Core.List.{[], ◌∷◌}
use mathlib.Core.Path.{◌≡◌, refl, ap, ap₂, ◌∙◌}
use native.Mathlib.Omega.{arith}
use Rattle.instruction_rules.specs.Lengths.{data_length, displacement_length, length_of}
use Rattle.instruction_rules.specs.Reading.{lookup}
use Rattle.instruction_rules.specs.Table.{table}
use Rattle.instruction_rules.specs.declared.Memory.{Memory}
use Rattle.instruction_rules.specs.declared.Shape.{Shape}
use Rattle.instruction_rules.specs.declared.Shape.TheVariants.{Lpdi, RegisterImmediate, Register, JumpRegister, RegisterMemory, Lpd, MovpLoad}
use Rattle.instruction_rules.specs.declared.Single.{Single}
use Rattle.instruction_rules.specs.declared.Work.{Work}
use Rattle.instruction_rules.specs.declared.Work.TheVariants.{Mov, Add, Or, And}
use Rattle.instruction_rules.specs.Execute.{performed, deed_of}
use Rattle.instruction_rules.specs.JumpForms.{jump_register_deed}
use Rattle.instruction_rules.specs.RegisterForms.{register_written, register_immediate_deed, register_deed, register_memory_deed, lpdi_deed, lpd_deed, movp_load_deed}
use Rattle.instruction_rules.specs.Changes.{changed}
use Rattle.instruction_rules.specs.Marks.{past_instruction}
use Rattle.instruction_rules.specs.Operands.{size_of, grown, operand_at, jumped_if, work_of, single_of, is_move}
use Rattle.ground_rules.specs.Registers.{register_of, tag_of, with_register}
use Rattle.ground_rules.specs.States.{channel_of}
use Rattle.ground_rules.specs.Updates.{renewed}
use Rattle.ground_rules.specs.declared.Channel.{Channel}
use Rattle.ground_rules.specs.declared.State.{State}
use Rattle.ground_rules.specs.Buffers.{Buffers}
use Rattle.ground_rules.specs.Values.{onward, doubleword_at, pointer_at}
use Rattle.ground_rules.specs.declared.Pointer.{Pointer}
use Rattle.ground_rules.specs.Bits.{bit_of}
use Rattle.ground_rules.specs.Choice.{pick}
use Rattle.promises.specs.SheetWords.{far_in, stored_in, stored_tag_in, tags_of, tag_in, pointing}
use Rattle.promises_sheet.specs.SheetOperands.{PairRan, base_tag, operand_address, offset_bytes, grown_by, operand_in, dd_of, displacement_in, whether, works_of, singles_of, registers_at, past_by, jumped_by, value_past, RegistersLeft}
use Rattle.promises_sheet.specs.SheetRegisters.{Loads, Goes, RegisterSheet}
use Rattle.promises.proofs.SheetLaws.{far-alike}
use Rattle.promises_sheet.proofs.SheetOperands.{pair_with, deed_in, registers-left, memory-left, memory_with, place_is, operand-is, value-is, tag_is, past-left, grown-left, written-left, jumped-left}

-- three equations under a function
pub ap₃ : {A B C D : Type 0} (f : A → B → C → D) {a a' : A} {b b' : B} {c c' : C} → a ≡ a' → b ≡ b' → c ≡ c' → f a b c ≡ f a' b' c'
ap₃ {A} {B} {C} {D} f {a} {a'} {b} {b'} {c} {c'} p q r = ap₂ (λ (x : A) (y : B). f x y c) p q ∙ ap (f a' b') r

-- a pair with its offset byte, and nothing behind it
pub pair-length : (aa : ℕ) → aa < 4 → 2 + pick (eqb aa 1) 1 0 + 0 + 0 ≡ 2 + offset_bytes aa
pair-length zero h = refl
pair-length (suc zero) h = refl
pair-length (suc (suc zero)) h = refl
pair-length (suc (suc (suc zero))) h = refl
pair-length (suc (suc (suc (suc k)))) h = absurd (omega arith)

-- a byte or a word
pub size_is : (w : ℕ) → w < 2 → size_of (eqb w 1) ≡ w + 1
size_is zero h = refl
size_is (suc zero) h = refl
size_is (suc (suc k)) h = absurd (omega arith)

-- the register that an instruction finds, and the tag
pub found : (c : Channel) (n r : ℕ) → r < 8 → register_of (past_instruction c n) r ≡ value_past c n r
unfolding past_instruction renewed onward
found c n r h = value-is (past_instruction c n) r h

pub tag-past : (c : Channel) (n r : ℕ) → r < 8 → tag_of (past_instruction c n) r ≡ tag_in c r
unfolding past_instruction renewed onward
tag-past c n r h = tag_is (past_instruction c n) r h

tag-grown : (c : Channel) (n : ℕ) (o : Memory) (by r : ℕ) → r < 8 → tag_of (grown (past_instruction c n) o by) r ≡ tag_in c r
unfolding grown past_instruction renewed onward
tag-grown c n o by r h = tag_is (grown (past_instruction c n) o by) r h

module _ {b : Bool} {s : State} {m : Buffers} {lines r dd aa w op mm : ℕ} (x : PairRan b s m lines r dd aa w op mm) (shape : Shape) (small : op < 64)
    (reads : lookup table (pair_with r dd aa w op mm) ≡ Ok shape) where
  -- a deed that writes a register and no byte
  loads : {k : Channel} (n : ℕ) {ix : ℕ} (v : ℕ) (tag : Bool) → RegistersLeft (channel_of s b) k (registers_at (channel_of s b) (past_by (channel_of s b) n) ix) (tags_of (channel_of s b))
      → (deed_in s m b shape).channel ≡ with_register k r v tag → changed m (deed_in s m b shape).change ≡ m → Loads b s m lines r v tag n ix
  loads {k} n {ix} v tag l e f = (
    registers-left x shape small reads e (written-left (channel_of s b) r v tag x.rrr l),
    memory-left x shape small reads ∙ f,
  )

  -- one that writes none
  pub goes : {tp ix : ℕ} {k : Channel} → RegistersLeft (channel_of s b) k (registers_at (channel_of s b) tp ix) (tags_of (channel_of s b))
      → (deed_in s m b shape).channel ≡ k → changed m (deed_in s m b shape).change ≡ m → Goes b s m lines tp ix
  goes {tp} {ix} l e f = (
    registers-left x shape small reads e l,
    memory-left x shape small reads ∙ f,
  )

module _ {b : Bool} {s : State} {m : Buffers} {lines : ℕ} where
  -- LPD
  lpd : (r aa mm : ℕ) → pointing r ≡ true → PairRan b s m lines r 0 aa 1 0x22 mm
      → Loads b s m lines r (far_in m (base_tag (channel_of s b) mm) (operand_address m (channel_of s b) mm aa)) false
      (2 + offset_bytes aa) (grown_by (channel_of s b).ix aa 4)
  unfolding lookup table deed_of performed lpd_deed changed length_of data_length displacement_length
  lpd r aa mm p x =
      let c = channel_of s b in
      let o = memory_with mm aa 1 in
      loads x (Lpd r o) (lit< tt) (rw p) (2 + offset_bytes aa) (far_in m (base_tag c mm) (operand_address m c mm aa)) false (grown-left c (2 + offset_bytes aa) mm aa 1 4 x.mode)
      (ap₂ (λ (n : ℕ) (q : Pointer). with_register (grown (past_instruction c n) o 4) r (doubleword_at m q.tag q.address) false)
      (pair-length aa x.mode) (place_is m c (length_of (Lpd r o)) mm aa 1 x.mode x.base)
      ∙ ap (λ (v : ℕ). with_register (grown (past_instruction c (2 + offset_bytes aa)) o 4) r v false)
      (far-alike m (base_tag c mm) (operand_address m c mm aa) (operand_address m c mm aa) refl))
      refl

  -- LPDI
  lpdi : (r : ℕ) → pointing r ≡ true → PairRan b s m lines r 2 0 1 0x02 0
      → Loads b s m lines r (far_in m (channel_of s b).tp.tag ((channel_of s b).tp.address + 2)) false 6 (channel_of s b).ix
  unfolding lookup table deed_of performed lpdi_deed changed length_of data_length displacement_length onward
  lpdi r p x =
      let c = channel_of s b in
      let same : (c.tp.address + 2) % 1048576 % 1048576 ≡ (c.tp.address + 2) % 1048576 = omega arith in
      loads x (Lpdi r) (lit< tt) (rw p) 6 (far_in m c.tp.tag (c.tp.address + 2)) false (past-left c 6)
      (ap (λ (v : ℕ). with_register (past_instruction c 6) r v false) (far-alike m c.tp.tag ((c.tp.address + 2) % 1048576) (c.tp.address + 2) same))
      refl

  -- MOVP P,M
  movp : (r aa mm : ℕ) → pointing r ≡ true → PairRan b s m lines r 0 aa 1 0x23 mm
      → Loads b s m lines r (stored_in m (base_tag (channel_of s b) mm) (operand_address m (channel_of s b) mm aa))
      (stored_tag_in m (base_tag (channel_of s b) mm) (operand_address m (channel_of s b) mm aa))
      (2 + offset_bytes aa) (grown_by (channel_of s b).ix aa 3)
  unfolding lookup table deed_of performed movp_load_deed changed length_of data_length displacement_length pointer_at bit_of
  movp r aa mm p x =
      let c = channel_of s b in
      let o = memory_with mm aa 1 in
      loads x (MovpLoad r o) (lit< tt) (rw p) (2 + offset_bytes aa) (stored_in m (base_tag c mm) (operand_address m c mm aa)) (stored_tag_in m (base_tag c mm) (operand_address m c mm aa))
      (grown-left c (2 + offset_bytes aa) mm aa 1 3 x.mode)
      (ap₂ (λ (n : ℕ) (q : Pointer). with_register (grown (past_instruction c n) o 3) r (pointer_at m q.tag q.address).address (pointer_at m q.tag q.address).tag)
      (pair-length aa x.mode) (place_is m c (length_of (MovpLoad r o)) mm aa 1 x.mode x.base))
      refl

  -- MOV R,M
  move-memory : (r aa w mm : ℕ) → PairRan b s m lines r 0 aa w 0x20 mm
      → Loads b s m lines r (operand_in m (base_tag (channel_of s b) mm) (operand_address m (channel_of s b) mm aa) w) true
      (2 + offset_bytes aa) (grown_by (channel_of s b).ix aa (w + 1))
  unfolding lookup table deed_of performed register_memory_deed register_written is_move work_of changed length_of data_length displacement_length
  move-memory r aa w mm x =
      let c = channel_of s b in
      let o = memory_with mm aa w in
      loads x (RegisterMemory Mov r o) (lit< tt) refl (2 + offset_bytes aa) (operand_in m (base_tag c mm) (operand_address m c mm aa) w) true
      (grown-left c (2 + offset_bytes aa) mm aa w (w + 1) x.mode)
      (ap₃ (λ (n by : ℕ) (q : Pointer). with_register (grown (past_instruction c n) o by) r (operand_at m q (eqb w 1)) true)
      (pair-length aa x.mode) (size_is w x.wide) (place_is m c (length_of (RegisterMemory Mov r o)) mm aa w x.mode x.base)
      ∙ ap (λ (v : ℕ). with_register (grown (past_instruction c (2 + offset_bytes aa)) o (w + 1)) r v true)
      (operand-is m (base_tag c mm) (operand_address m c mm aa) (operand_address m c mm aa) w x.wide refl))
      refl

  -- ADD, OR, AND, NOT R,M
  module _ (work : Work) (j : ℕ) (kept : is_move work ≡ false) (works : (x y : ℕ) → work_of work x y ≡ get_or (works_of x y) j 0) where
    work-memory : (r aa w op mm : ℕ) → op < 64 → lookup table (pair_with r 0 aa w op mm) ≡ Ok (RegisterMemory work r (memory_with mm aa w)) → PairRan b s m lines r 0 aa w op mm
        → Loads b s m lines r
        (get_or (works_of (value_past (channel_of s b) (2 + offset_bytes aa) r) (operand_in m (base_tag (channel_of s b) mm) (operand_address m (channel_of s b) mm aa) w)) j 0)
        (tag_in (channel_of s b) r) (2 + offset_bytes aa) (grown_by (channel_of s b).ix aa (w + 1))
    unfolding deed_of performed register_memory_deed register_written changed length_of data_length displacement_length
    work-memory r aa w op mm small reads x =
        let c = channel_of s b in
        let o = memory_with mm aa w in
        let n = 2 + offset_bytes aa in
        let y = operand_in m (base_tag c mm) (operand_address m c mm aa) w in
        loads x (RegisterMemory work r o) small reads n (get_or (works_of (value_past c n r) y) j 0) (tag_in c r) (grown-left c n mm aa w (w + 1) x.mode)
        (rw kept
        (ap₃ (λ (k by : ℕ) (q : Pointer). with_register (grown (past_instruction c k) o by) r (work_of work (register_of (past_instruction c k) r) (operand_at m q (eqb w 1))) (tag_of (grown (past_instruction c k) o by) r))
        (pair-length aa x.mode) (size_is w x.wide) (place_is m c (length_of (RegisterMemory work r o)) mm aa w x.mode x.base)
        ∙ ap₃ (λ (f e : ℕ) (t : Bool). with_register (grown (past_instruction c n) o (w + 1)) r (work_of work f e) t)
        (found c n r x.rrr) (operand-is m (base_tag c mm) (operand_address m c mm aa) (operand_address m c mm aa) w x.wide refl) (tag-grown c n o (w + 1) r x.rrr)
        ∙ ap (λ (v : ℕ). with_register (grown (past_instruction c n) o (w + 1)) r v (tag_in c r)) (works (value_past c n r) y)))
        refl

    -- ADDI, ORI, ANDI R,I
    work-data : (r w op : ℕ) → op < 64 → lookup table (pair_with r (w + 1) 0 w op 0) ≡ Ok (RegisterImmediate work r (eqb w 1)) → length_of (RegisterImmediate work r (eqb w 1)) ≡ 3 + w
        → PairRan b s m lines r (w + 1) 0 w op 0
        → Loads b s m lines r
        (get_or (works_of (value_past (channel_of s b) (3 + w) r) (operand_in m (channel_of s b).tp.tag ((channel_of s b).tp.address + 2) w)) j 0)
        (tag_in (channel_of s b) r) (3 + w) (channel_of s b).ix
    unfolding deed_of performed register_immediate_deed register_written changed onward
    work-data r w op small reads long x =
        let c = channel_of s b in
        let y = operand_in m c.tp.tag (c.tp.address + 2) w in
        let same : (c.tp.address + 2) % 1048576 % 1048576 ≡ (c.tp.address + 2) % 1048576 = omega arith in
        loads x (RegisterImmediate work r (eqb w 1)) small reads (3 + w) (get_or (works_of (value_past c (3 + w) r) y) j 0) (tag_in c r) (past-left c (3 + w))
        (rw kept
        (ap (λ (k : ℕ). with_register (past_instruction c k) r (work_of work (register_of (past_instruction c k) r) (operand_at m (onward c.tp 2) (eqb w 1))) (tag_of (past_instruction c k) r)) long
        ∙ ap₃ (λ (f e : ℕ) (t : Bool). with_register (past_instruction c (3 + w)) r (work_of work f e) t)
        (found c (3 + w) r x.rrr) (operand-is m c.tp.tag ((c.tp.address + 2) % 1048576) (c.tp.address + 2) w x.wide same) (tag-past c (3 + w) r x.rrr)
        ∙ ap (λ (v : ℕ). with_register (past_instruction c (3 + w)) r v (tag_in c r)) (works (value_past c (3 + w) r) y)))
        refl

  -- MOVI R,I
  move-data : (r w : ℕ) → lookup table (pair_with r (w + 1) 0 w 0x0C 0) ≡ Ok (RegisterImmediate Mov r (eqb w 1)) → length_of (RegisterImmediate Mov r (eqb w 1)) ≡ 3 + w
      → PairRan b s m lines r (w + 1) 0 w 0x0C 0
      → Loads b s m lines r (operand_in m (channel_of s b).tp.tag ((channel_of s b).tp.address + 2) w) true (3 + w) (channel_of s b).ix
  unfolding deed_of performed register_immediate_deed register_written is_move work_of changed onward
  move-data r w reads long x =
      let c = channel_of s b in
      let same : (c.tp.address + 2) % 1048576 % 1048576 ≡ (c.tp.address + 2) % 1048576 = omega arith in
      loads x (RegisterImmediate Mov r (eqb w 1)) (lit< tt) reads (3 + w) (operand_in m c.tp.tag (c.tp.address + 2) w) true (past-left c (3 + w))
      (ap₂ (λ (k v : ℕ). with_register (past_instruction c k) r v true) long
      (operand-is m c.tp.tag ((c.tp.address + 2) % 1048576) (c.tp.address + 2) w x.wide same))
      refl

  -- NOT, INC, DEC R
  alone : (single : Single) (j r op : ℕ) → op < 64 → ((a : ℕ) → single_of single a ≡ get_or (singles_of a) j 0)
      → lookup table (pair_with r 0 0 0 op 0) ≡ Ok (Register single r) → PairRan b s m lines r 0 0 0 op 0
      → Loads b s m lines r (get_or (singles_of (value_past (channel_of s b) 2 r)) j 0) (tag_in (channel_of s b) r) 2 (channel_of s b).ix
  unfolding deed_of performed register_deed changed length_of data_length displacement_length
  alone single j r op small gives reads x =
      let c = channel_of s b in
      loads x (Register single r) small reads 2 (get_or (singles_of (value_past c 2 r)) j 0) (tag_in c r) (past-left c 2)
      (ap₂ (λ (f : ℕ) (t : Bool). with_register (past_instruction c 2) r (single_of single f) t) (found c 2 r x.rrr) (tag-past c 2 r x.rrr)
      ∙ ap (λ (v : ℕ). with_register (past_instruction c 2) r v (tag_in c r)) (gives (value_past c 2 r)))
      refl

  -- JZ R, JNZ R
  jump : (z two : Bool) (r op : ℕ) → op < 64 → lookup table (pair_with r (dd_of two) 0 0 op 0) ≡ Ok (JumpRegister z r two)
      → length_of (JumpRegister z r two) ≡ 2 + dd_of two → PairRan b s m lines r (dd_of two) 0 0 op 0
      → Goes b s m lines
      (pick (whether z (eqb (value_past (channel_of s b) (2 + dd_of two) r % 65536) 0))
      (jumped_by (channel_of s b) (2 + dd_of two) (displacement_in m (channel_of s b) 2 two))
      (past_by (channel_of s b) (2 + dd_of two)))
      (channel_of s b).ix
  unfolding deed_of performed jump_register_deed changed past_instruction renewed
  jump z two r op small reads long x =
      let c = channel_of s b in
      let n = 2 + dd_of two in
      goes x (JumpRegister z r two) small reads
      (jumped-left m c (past_instruction c n) n c.ix 2 two
      (whether z (eqb (register_of (past_instruction c n) r % 65536) 0)) (whether z (eqb (value_past c n r % 65536) 0))
      (ap (λ (v : ℕ). whether z (eqb (v % 65536) 0)) (found c n r x.rrr)) refl (past-left c n))
      (ap (λ (k : ℕ). jumped_if (whether z (eqb (register_of (past_instruction c k) r % 65536) 0)) m (past_instruction c k) (onward c.tp 2) two) long)
      refl

-- ---- the sheet

pub register-sheet : (second : Bool) (s : State) (m : Buffers) (lines : ℕ) → RegisterSheet second s m lines
unfolding lookup table length_of data_length displacement_length work_of single_of is_move
register-sheet b s m lines = record {
  lpd = lpd;
  lpdi = lpdi;
  movp = movp;
  move_memory = move-memory;
  work_memory = works;
  move_data = moves;
  work_data = datas;
  alone = alones;
  jump = jumps;
}
  where
    works : (k r aa w mm : ℕ) → k < 4 → eqb r 6 ≡ false → PairRan b s m lines r 0 aa w (0x28 + k) mm
        → Loads b s m lines r
        (get_or (works_of (value_past (channel_of s b) (2 + offset_bytes aa) r) (operand_in m (base_tag (channel_of s b) mm) (operand_address m (channel_of s b) mm aa) w)) (1 + k) 0)
        (tag_in (channel_of s b) r) (2 + offset_bytes aa) (grown_by (channel_of s b).ix aa (w + 1))
    works zero r aa w mm h ne x = work-memory Add 1 refl (λ x y. refl) r aa w 0x28 mm (lit< tt) (rw ne) x
    works (suc zero) r aa w mm h ne x = work-memory Or 2 refl (λ x y. refl) r aa w 0x29 mm (lit< tt) (rw ne) x
    works (suc (suc zero)) r aa w mm h ne x = work-memory And 3 refl (λ x y. refl) r aa w 0x2A mm (lit< tt) (rw ne) x
    works (suc (suc (suc zero))) r aa w mm h ne x = work-memory Work.Not 4 refl (λ x y. refl) r aa w 0x2B mm (lit< tt) (rw ne) x
    works (suc (suc (suc (suc k)))) r aa w mm h ne x = absurd (omega arith)

    moves : (r w : ℕ) → PairRan b s m lines r (w + 1) 0 w 0x0C 0
        → Loads b s m lines r (operand_in m (channel_of s b).tp.tag ((channel_of s b).tp.address + 2) w) true (3 + w) (channel_of s b).ix
    moves r zero x = move-data r 0 refl refl x
    moves r (suc zero) x = move-data r 1 refl refl x
    moves r (suc (suc w)) x = let h = x.wide in absurd (omega arith)

    datas : (k r w : ℕ) → k < 3 → eqb r 6 ≡ false → PairRan b s m lines r (w + 1) 0 w (0x08 + k) 0
        → Loads b s m lines r
        (get_or (works_of (value_past (channel_of s b) (3 + w) r) (operand_in m (channel_of s b).tp.tag ((channel_of s b).tp.address + 2) w)) (1 + k) 0)
        (tag_in (channel_of s b) r) (3 + w) (channel_of s b).ix
    datas zero r zero h ne x = work-data Add 1 refl (λ x y. refl) r 0 0x08 (lit< tt) (rw ne) refl x
    datas zero r (suc zero) h ne x = work-data Add 1 refl (λ x y. refl) r 1 0x08 (lit< tt) (rw ne) refl x
    datas (suc zero) r zero h ne x = work-data Or 2 refl (λ x y. refl) r 0 0x09 (lit< tt) (rw ne) refl x
    datas (suc zero) r (suc zero) h ne x = work-data Or 2 refl (λ x y. refl) r 1 0x09 (lit< tt) (rw ne) refl x
    datas (suc (suc zero)) r zero h ne x = work-data And 3 refl (λ x y. refl) r 0 0x0A (lit< tt) (rw ne) refl x
    datas (suc (suc zero)) r (suc zero) h ne x = work-data And 3 refl (λ x y. refl) r 1 0x0A (lit< tt) (rw ne) refl x
    datas (suc (suc (suc k))) r w h ne x = absurd (omega arith)
    datas zero r (suc (suc w)) h ne x = let g = x.wide in absurd (omega arith)
    datas (suc zero) r (suc (suc w)) h ne x = let g = x.wide in absurd (omega arith)
    datas (suc (suc zero)) r (suc (suc w)) h ne x = let g = x.wide in absurd (omega arith)

    alones : (k r : ℕ) → k < 3 → eqb r 6 ≡ false → PairRan b s m lines r 0 0 0 (get_or (0x0B ∷ 0x0E ∷ 0x0F ∷ []) k 0) 0
        → Loads b s m lines r (get_or (singles_of (value_past (channel_of s b) 2 r)) k 0) (tag_in (channel_of s b) r) 2 (channel_of s b).ix
    alones zero r h ne x = alone Single.Not 0 r 0x0B (lit< tt) (λ a. refl) (rw ne) x
    alones (suc zero) r h ne x = alone Single.Inc 1 r 0x0E (lit< tt) (λ a. refl) (rw ne) x
    alones (suc (suc zero)) r h ne x = alone Single.Dec 2 r 0x0F (lit< tt) (λ a. refl) (rw ne) x
    alones (suc (suc (suc k))) r h ne x = absurd (omega arith)

    jumps : (z two : Bool) (r : ℕ) → eqb r 6 ≡ false → PairRan b s m lines r (dd_of two) 0 0 (pick z 0x11 0x10) 0
        → Goes b s m lines
        (pick (whether z (eqb (value_past (channel_of s b) (2 + dd_of two) r % 65536) 0))
        (jumped_by (channel_of s b) (2 + dd_of two) (displacement_in m (channel_of s b) 2 two))
        (past_by (channel_of s b) (2 + dd_of two)))
        (channel_of s b).ix
    jumps true true r ne x = jump true true r 0x11 (lit< tt) (rw ne) refl x
    jumps true false r ne x = jump true false r 0x11 (lit< tt) (rw ne) refl x
    jumps false true r ne x = jump false true r 0x10 (lit< tt) (rw ne) refl x
    jumps false false r ne x = jump false false r 0x10 (lit< tt) (rw ne) refl x
