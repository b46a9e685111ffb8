-- What an instruction does depends on no byte but its own and those that its deed reads: shape by shape.
-- Assumes nothing.
use Rattle.std.proofs.Common.{Option, Some, None}
use Prim.Native.Nat.{ℕ, ◌+◌, ◌-◌, ◌%◌, ◌≤◌}
use lib.Dec.{eqb, lit<}
use mathlib.Core.Bool.{Bool, true, false}
use mathlib.Core.List.{List, []}
use mathlib.Core.Path.{◌≡◌, refl, ap₂, subst}
use native.Mathlib.Omega.{arith}
use Rattle.ground_rules.proofs.PlaceLaws.{onward-twice}
use Rattle.ground_rules.specs.Bits.{bit_of}
use Rattle.ground_rules.specs.Choice.{pick}
use Rattle.ground_rules.specs.Compare.{match_of}
use Rattle.ground_rules.specs.Buffers.{Buffers}
use Rattle.ground_rules.specs.Places.{Place}
use Rattle.ground_rules.specs.Values.{onward}
use Rattle.ground_rules.specs.declared.Pointer.{Pointer}
use Rattle.ground_rules.specs.Registers.{register_of}
use Rattle.ground_rules.specs.declared.Channel.{Channel}
use Rattle.instruction_rules.specs.Lengths.{one_or_two, offset_length, data_length, displacement_length, length_of}
use Rattle.instruction_rules.specs.Reading.{second_of}
use Rattle.instruction_rules.specs.declared.Memory.{Memory}
use Rattle.instruction_rules.specs.declared.Shape.{Shape}
use Rattle.instruction_rules.specs.declared.Shape.TheVariants.{Nop, Sintr, Xfer, Wid, Hlt, Lpdi, RegisterImmediate, Register, JumpRegister, RegisterMemory, MemoryRegister, MemoryImmediate, MemoryAlone, JumpMemory, Lpd, MovpLoad, MovpStore, MovMemory, Tsl, Call, JumpMasked, JumpBit, Bit}
use Rattle.instruction_rules.specs.declared.Single.{Single}
use Rattle.instruction_rules.specs.declared.Work.{Work}
use Rattle.instruction_rules.specs.declared.Work.TheVariants.{Mov, Add, Or, And}
use Rattle.instruction_rules.specs.Operands.{byte_here, bytes_at, size_of, effective, grown, operand_at, work_of, is_move, after_pair}
use Rattle.instruction_rules.specs.declared.Change.{Change}
use Rattle.instruction_rules.specs.Deeds.{Deed, deed}
use Rattle.instruction_rules.specs.RegisterForms.{register_immediate_deed, register_memory_deed, lpdi_deed, lpd_deed, movp_load_deed}
use Rattle.instruction_rules.specs.MemoryForms.{read_first, worked_back, memory_work_deed, memory_register_deed, memory_immediate_deed, memory_alone_deed, movp_store_deed, bit_deed, mov_operand_deed, mov_second_deed, second_at, mov_memory_deed}
use Rattle.instruction_rules.specs.JumpForms.{agrees, jump_register_deed, jump_memory_deed, jump_byte_deed, jump_masked_deed, jump_bit_deed, tsl_deed, call_deed}
use Rattle.instruction_rules.specs.Execute.{performed}
use Rattle.promises_counts.specs.Complete.{AgreeOn}
use Rattle.promises_counts.proofs.AgreeLaws.{agree_left, agree_right, agree-part, agree-first, byte-same, byte-on, doubleword-same, pointer-same, operand_same, jumped-same, effective-same}

-- a byte or a word is one byte or two
size_is : (b : Bool) → size_of b ≡ one_or_two b
size_is true = refl
size_is false = refl

-- what a deed reads, where its second pair is not refused
abbrev pub ReadsAgree : Deed → Buffers → Buffers → Type 0
ReadsAgree d m n = AgreeOn (pick (eqb d.second 0) d.reads []) m n

module _ (m n : Buffers) (c : Channel) (tp : Pointer) (k : ℕ) (later : AgreeOn (bytes_at (onward tp 2) k) m n) where
  -- ---- the instruction's own bytes

  -- its offset byte
  pub offset-same : (o : Memory) → offset_length o ≤ k → effective n c o tp ≡ effective m c o tp
  offset-same o fits = effective-same m n c o tp (agree-first m n (onward tp 2) k (offset_length o) fits later)

  -- what follows the offset byte
  after_same : (o : Memory) (l : ℕ) → offset_length o + l ≤ k → AgreeOn (bytes_at (after_pair tp o) l) m n
  after_same o l fits =
      subst (λ (p : Pointer). AgreeOn (bytes_at p l) m n) (onward-twice tp 2 (offset_length o)) (agree-part m n (onward tp 2) k (offset_length o) l fits later)

  -- ---- results into registers

  register-immediate : (work : Work) (r : ℕ) (wide : Bool) → size_of wide ≤ k → register_immediate_deed n c tp work r wide ≡ register_immediate_deed m c tp work r wide
  unfolding register_immediate_deed
  register-immediate work r wide fits = rw (operand_same m n (onward tp 2) wide (agree-first m n (onward tp 2) k (size_of wide) fits later))

  register-memory : (work : Work) (r : ℕ) (o : Memory) → offset_length o ≤ k → ReadsAgree (register_memory_deed m c tp work r o) m n
      → register_memory_deed n c tp work r o ≡ register_memory_deed m c tp work r o
  unfolding register_memory_deed
  register-memory work r o fits reads = rw (offset-same o fits, operand_same m n (effective m c o tp) o.wide reads)

  lpdi : (r : ℕ) → 4 ≤ k → lpdi_deed n c tp r ≡ lpdi_deed m c tp r
  unfolding lpdi_deed
  lpdi r fits = rw (doubleword-same m n (onward tp 2).tag (onward tp 2).address (agree-first m n (onward tp 2) k 4 fits later))

  lpd : (r : ℕ) (o : Memory) → offset_length o ≤ k → ReadsAgree (lpd_deed m c tp r o) m n → lpd_deed n c tp r o ≡ lpd_deed m c tp r o
  unfolding lpd_deed
  lpd r o fits reads = rw (offset-same o fits, doubleword-same m n (effective m c o tp).tag (effective m c o tp).address reads)

  movp-load : (r : ℕ) (o : Memory) → offset_length o ≤ k → ReadsAgree (movp_load_deed m c tp r o) m n → movp_load_deed n c tp r o ≡ movp_load_deed m c tp r o
  unfolding movp_load_deed
  movp-load r o fits reads = rw (offset-same o fits, pointer-same m n (effective m c o tp).tag (effective m c o tp).address 3 (lit< tt) reads)

  -- ---- results into memory

  -- work that is no move reads its operand, a move does not look at it
  worked_same : (work : Work) (at : Pointer) (wide : Bool) (v : ℕ) → AgreeOn (bytes_at at (read_first work wide)) m n → worked_back n at work wide v ≡ worked_back m at work wide v
  unfolding worked_back read_first is_move work_of
  worked_same Mov at wide v h = refl
  worked_same Add at wide v h = rw (operand_same m n at wide h)
  worked_same Or at wide v h = rw (operand_same m n at wide h)
  worked_same And at wide v h = rw (operand_same m n at wide h)
  worked_same Work.Not at wide v h = refl

  memory-work : (work : Work) (o : Memory) (v : ℕ) → offset_length o ≤ k → ReadsAgree (memory_work_deed m c tp work o v) m n
      → memory_work_deed n c tp work o v ≡ memory_work_deed m c tp work o v
  unfolding memory_work_deed
  memory-work work o v fits reads = rw (offset-same o fits, worked_same work (effective m c o tp) o.wide v reads)

  memory-register : (work : Work) (r : ℕ) (o : Memory) → offset_length o ≤ k → ReadsAgree (memory_register_deed m c tp work r o) m n
      → memory_register_deed n c tp work r o ≡ memory_register_deed m c tp work r o
  unfolding memory_register_deed
  memory-register work r o fits reads = memory-work work o (register_of c r) fits reads

  memory-immediate : (work : Work) (o : Memory) → offset_length o + size_of o.wide ≤ k → ReadsAgree (memory_immediate_deed m c tp work o) m n
      → memory_immediate_deed n c tp work o ≡ memory_immediate_deed m c tp work o
  unfolding memory_immediate_deed
  memory-immediate work o fits reads =
      rw (operand_same m n (after_pair tp o) o.wide (after_same o (size_of o.wide) fits))
      (memory-work work o (operand_at m (after_pair tp o) o.wide) (omega arith) reads)

  memory-alone : (single : Single) (o : Memory) → offset_length o ≤ k → ReadsAgree (memory_alone_deed m c tp single o) m n
      → memory_alone_deed n c tp single o ≡ memory_alone_deed m c tp single o
  unfolding memory_alone_deed
  memory-alone single o fits reads = rw (offset-same o fits, operand_same m n (effective m c o tp) o.wide reads)

  movp-store : (r : ℕ) (o : Memory) → offset_length o ≤ k → movp_store_deed n c tp r o ≡ movp_store_deed m c tp r o
  unfolding movp_store_deed
  movp-store r o fits = rw (offset-same o fits)

  bit : (on : Bool) (b : ℕ) (o : Memory) → offset_length o ≤ k → ReadsAgree (bit_deed m c tp on b o) m n → bit_deed n c tp on b o ≡ bit_deed m c tp on b o
  unfolding bit_deed
  bit on b o fits reads = rw (offset-same o fits, byte-same m n (effective m c o tp) 1 (lit< tt) reads)

  -- MOV M,M: its second pair, then the offset byte of that and the operand
  pub second-same : (o : Memory) → offset_length o + 2 ≤ k → second_at n tp o ≡ second_at m tp o
  unfolding second_at
  second-same o fits =
      let pair = after_same o 2 fits in
      ap₂ (λ (x y : ℕ). second_of x y o.wide) (byte-same m n (after_pair tp o) 2 (lit< tt) pair) (byte-on m n (after_pair tp o) 2 1 (lit< tt) pair)

  mov-second : (o : Memory) (x : Option Memory) → offset_length o ≤ k → ReadsAgree (mov_second_deed m c tp o x) m n → mov_second_deed n c tp o x ≡ mov_second_deed m c tp o x
  unfolding mov_second_deed mov_operand_deed
  mov-second o None fits reads = refl
  mov-second o (Some q) fits reads =
      let offset = agree_left m n (bytes_at (onward (after_pair tp o) 2) (offset_length q)) (bytes_at (effective m c o tp) (size_of o.wide)) reads in
      let operand = agree_right m n (bytes_at (onward (after_pair tp o) 2) (offset_length q)) (bytes_at (effective m c o tp) (size_of o.wide)) reads in
      rw (offset-same o fits, operand_same m n (effective m c o tp) o.wide operand, effective-same m n (grown c o (size_of o.wide)) q (after_pair tp o) offset)

  mov-memory : (o : Memory) → offset_length o + 2 ≤ k → ReadsAgree (mov_memory_deed m c tp o) m n → mov_memory_deed n c tp o ≡ mov_memory_deed m c tp o
  unfolding mov_memory_deed
  mov-memory o fits reads = rw (second-same o fits) (mov-second o (second_at m tp o) (omega arith) reads)

  -- ---- jumps

  jump-register : (zero : Bool) (r : ℕ) (two : Bool) → one_or_two two ≤ k → jump_register_deed n c tp zero r two ≡ jump_register_deed m c tp zero r two
  unfolding jump_register_deed
  jump-register zero r two fits = rw (jumped-same m n (agrees zero (eqb (register_of c r % 65536) 0)) c (onward tp 2) two (agree-first m n (onward tp 2) k (one_or_two two) fits later))

  jump-memory : (zero : Bool) (o : Memory) (two : Bool) → offset_length o + one_or_two two ≤ k → ReadsAgree (jump_memory_deed m c tp zero o two) m n
      → jump_memory_deed n c tp zero o two ≡ jump_memory_deed m c tp zero o two
  unfolding jump_memory_deed
  jump-memory zero o two fits reads =
      rw (
        offset-same o (omega arith),
        operand_same m n (effective m c o tp) o.wide reads,
        jumped-same m n (agrees zero (eqb (operand_at m (effective m c o tp) o.wide) 0)) (grown c o (size_of o.wide)) (after_pair tp o) two (after_same o (one_or_two two) fits),
      )

  jump-byte : (at : Pointer) (taken : Bool) (o : Memory) (two : Bool) → offset_length o + one_or_two two ≤ k
      → jump_byte_deed n c tp at taken o two ≡ jump_byte_deed m c tp at taken o two
  unfolding jump_byte_deed
  jump-byte at taken o two fits = rw (jumped-same m n taken (grown c o 1) (after_pair tp o) two (after_same o (one_or_two two) fits))

  jump-masked : (equal : Bool) (o : Memory) (two : Bool) → offset_length o + one_or_two two ≤ k → ReadsAgree (jump_masked_deed m c tp equal o two) m n
      → jump_masked_deed n c tp equal o two ≡ jump_masked_deed m c tp equal o two
  unfolding jump_masked_deed jump_byte_deed
  jump-masked equal o two fits reads =
      rw (offset-same o (omega arith), byte-same m n (effective m c o tp) 1 (lit< tt) reads)
      (jump-byte (effective m c o tp) (agrees equal (match_of (byte_here m (effective m c o tp)) c.mc)) o two fits)

  jump-bit : (set : Bool) (b : ℕ) (o : Memory) (two : Bool) → offset_length o + one_or_two two ≤ k → ReadsAgree (jump_bit_deed m c tp set b o two) m n
      → jump_bit_deed n c tp set b o two ≡ jump_bit_deed m c tp set b o two
  unfolding jump_bit_deed jump_byte_deed
  jump-bit set b o two fits reads =
      rw (offset-same o (omega arith), byte-same m n (effective m c o tp) 1 (lit< tt) reads)
      (jump-byte (effective m c o tp) (agrees set (bit_of (byte_here m (effective m c o tp)) b)) o two fits)

  call : (o : Memory) (two : Bool) → offset_length o + one_or_two two ≤ k → call_deed n c tp o two ≡ call_deed m c tp o two
  unfolding call_deed
  call o two fits = rw (offset-same o (omega arith), jumped-same m n true (grown c o 3) (after_pair tp o) two (after_same o (one_or_two two) fits))

  -- TSL reads its byte on either way
  tsl-reads : (x : Bool) (ps : List Place) (a b : Channel) (e f : Change) → ReadsAgree (pick x (deed ps a e) (deed ps b f)) m n → AgreeOn ps m n
  tsl-reads true ps a b e f h = h
  tsl-reads false ps a b e f h = h

  tsl : (o : Memory) → offset_length o + 2 ≤ k → ReadsAgree (tsl_deed m c tp o) m n → tsl_deed n c tp o ≡ tsl_deed m c tp o
  unfolding tsl_deed
  tsl o fits reads =
      let at = effective m c o tp in
      let behind = after_same o 2 fits in
      rw (
        offset-same o (omega arith),
        byte-same m n at 1 (lit< tt) (tsl-reads (eqb (byte_here m at) 0) (bytes_at at 1) _ _ _ _ reads),
        byte-same m n (after_pair tp o) 2 (lit< tt) behind,
        jumped-same m n true (grown c o 1) (onward (after_pair tp o) 1) false (agree-part m n (after_pair tp o) 2 1 1 (omega arith) behind),
      )

  -- ---- every shape

  -- k being how many bytes follow the pair
  performed-at : (s : Shape) (armed : Bool) (busy : ℕ) → k ≡ length_of s - 2 → ReadsAgree (performed s m c tp armed busy) m n
      → performed s n c tp armed busy ≡ performed s m c tp armed busy
  unfolding performed length_of data_length displacement_length offset_length
  performed-at Nop armed busy e r = refl
  performed-at Sintr armed busy e r = refl
  performed-at Xfer armed busy e r = refl
  performed-at (Wid source destination) armed busy e r = refl
  performed-at Hlt armed busy e r = refl
  performed-at (Lpdi ppp) armed busy e r = lpdi ppp (omega arith)
  performed-at (RegisterImmediate work rrr wide) armed busy e r = register-immediate work rrr wide (omega (arith, size_is wide))
  performed-at (Register single rrr) armed busy e r = refl
  performed-at (JumpRegister zero rrr two) armed busy e r = jump-register zero rrr two (omega arith)
  performed-at (RegisterMemory work rrr o) armed busy e r = register-memory work rrr o (omega arith) r
  performed-at (MemoryRegister work rrr o) armed busy e r = memory-register work rrr o (omega arith) r
  performed-at (MemoryImmediate work o) armed busy e r = memory-immediate work o (omega (arith, size_is o.wide)) r
  performed-at (MemoryAlone single o) armed busy e r = memory-alone single o (omega arith) r
  performed-at (JumpMemory zero o two) armed busy e r = jump-memory zero o two (omega arith) r
  performed-at (Lpd ppp o) armed busy e r = lpd ppp o (omega arith) r
  performed-at (MovpLoad ppp o) armed busy e r = movp-load ppp o (omega arith) r
  performed-at (MovpStore ppp o) armed busy e r = movp-store ppp o (omega arith)
  performed-at (MovMemory o) armed busy e r = mov-memory o (omega arith) r
  performed-at (Tsl o) armed busy e r = tsl o (omega arith) r
  performed-at (Call o two) armed busy e r = call o two (omega arith)
  performed-at (JumpMasked equal o two) armed busy e r = jump-masked equal o two (omega arith) r
  performed-at (JumpBit set bit' o two) armed busy e r = jump-bit set bit' o two (omega arith) r
  performed-at (Bit on bit' o) armed busy e r = bit on bit' o (omega arith) r

-- memories that agree on an instruction's bytes after the pair and on what its deed reads give the same deed
pub performed-same : (s : Shape) (m n : Buffers) (c : Channel) (tp : Pointer) (armed : Bool) (busy : ℕ)
    → AgreeOn (bytes_at (onward tp 2) (length_of s - 2)) m n → ReadsAgree (performed s m c tp armed busy) m n
    → performed s n c tp armed busy ≡ performed s m c tp armed busy
performed-same s m n c tp armed busy later reads = performed-at m n c tp (length_of s - 2) later s armed busy refl reads
