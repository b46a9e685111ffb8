-- How long the list of an instruction is: its own bytes, the operand bytes that it reads and those that it stores, at most ten.
-- Assumes nothing.
use Rattle.std.proofs.Common.{Ok, Err, Option, Some, None}
use Prim.Native.Nat.{ℕ, ◌+◌, ◌-◌, ◌≤◌}
use borrow.Author.Tests.{eqb-false, eq-eqb}
use lib.Dec.{eqb, lit≤}
use lib.ListN.{length, length-append}
use mathlib.Core.Bool.{Bool, true, false}
use mathlib.Core.List.{[], ◌++◌}
use mathlib.Core.Path.{◌≡◌, refl, sym, ap, ap₂, subst, ◌∙◌}
use native.Mathlib.Nat.{add-zero}
use native.Mathlib.Omega.{arith}
use Rattle.ground_rules.specs.Choice.{pick}
use Rattle.ground_rules.proofs.SpanLaws.{span-length}
use Rattle.ground_rules.specs.Buffers.{Buffers}
use Rattle.ground_rules.specs.Places.{span}
use Rattle.ground_rules.specs.Values.{onward}
use Rattle.ground_rules.specs.declared.Pointer.{Pointer}
use Rattle.ground_rules.specs.Registers.{base_of}
use Rattle.ground_rules.specs.Stages.{stages_touched}
use Rattle.ground_rules.specs.Updates.{renewed}
use Rattle.ground_rules.specs.declared.Channel.{Channel}
use Rattle.instruction_rules.proofs.LengthLaws.{more-small, offset-small, bounded}
use Rattle.instruction_rules.specs.Lengths.{offset_length, data_length, displacement_length, length_of}
use Rattle.instruction_rules.specs.Reading.{decoded_number}
use Rattle.instruction_rules.specs.Decoded.{Decoded}
use Rattle.instruction_rules.specs.declared.Unread.TheVariants.{NoInstruction, ControlUsed}
use Rattle.instruction_rules.specs.declared.Memory.{Memory}
use Rattle.instruction_rules.specs.declared.Shape.{Shape}
use Rattle.instruction_rules.specs.declared.Shape.TheVariants.{Nop, Sintr, Xfer, Wid, Hlt, Lpdi, RegisterImmediate, Register, JumpRegister, RegisterMemory, MemoryRegister, MemoryImmediate, MemoryAlone, JumpMemory, Lpd, MovpLoad, MovpStore, MovMemory, Tsl, Call, JumpMasked, JumpBit, Bit}
use Rattle.instruction_rules.specs.declared.Work.{Work}
use Rattle.instruction_rules.proofs.OperandLaws.{size_small}
use Rattle.instruction_rules.specs.Changes.{places_of}
use Rattle.instruction_rules.specs.Marks.{past_instruction}
use Rattle.instruction_rules.specs.Operands.{byte_here, bytes_at, size_of, indexed, effective, after_pair, is_move}
use Rattle.instruction_rules.specs.declared.Change.{Change}
use Rattle.instruction_rules.specs.Deeds.{Deed, deed}
use Rattle.instruction_rules.specs.Control.{nop_deed, sintr_deed, xfer_deed, wid_deed, hlt_deed}
use Rattle.instruction_rules.specs.RegisterForms.{register_immediate_deed, register_deed, register_memory_deed, lpdi_deed, lpd_deed, movp_load_deed}
use Rattle.instruction_rules.specs.MemoryForms.{read_first, worked_back, memory_work_deed, memory_register_deed, memory_immediate_deed, memory_alone_deed, movp_store_deed, bit_deed, mov_operand_deed, mov_second_deed, second_at, mov_memory_deed}
use Rattle.instruction_rules.specs.JumpForms.{jump_register_deed, jump_memory_deed, jump_byte_deed, jump_masked_deed, jump_bit_deed, tsl_deed, call_deed}
use Rattle.instruction_rules.specs.Counts.{second_count, access_count, instruction_count}
use Rattle.instruction_rules.specs.Execute.{decoded_at, performed, deed_of, later_bytes, deed_from, later_from, length_from, stages_from, instruction_stages, execute_number, touched_by_instruction}
use Rattle.instruction_rules.specs.Kept.{deed_at}
use Rattle.instruction_rules.proofs.OutcomeLaws.{pair-passed, second-passed}

-- what a deed reads and stores
deed-length : Deed → ℕ
deed-length d = length d.reads + d.change.count

-- bytes in a row, and others after them
row-and : (p : Pointer) (k j : ℕ) → length (bytes_at p k) + j ≡ k + j
row-and p k j = ap (λ (x : ℕ). x + j) (span-length p.tag p.address k)

mov-length : (m : Buffers) (c : Channel) (tp : Pointer) (o : Memory) (x : Option Memory) → deed-length (mov_second_deed m c tp o x) ≡ second_count x o.wide
unfolding deed-length mov_second_deed mov_operand_deed second_count
mov-length m c tp o None = refl
mov-length m c tp o (Some q) =
    ap (λ (x : ℕ). x + size_of o.wide)
    (length-append (bytes_at (onward (after_pair tp o) 2) (offset_length q)) (bytes_at (effective m c o tp) (size_of o.wide))
    ∙ ap₂ ◌+◌ (span-length _ _ (offset_length q)) (span-length _ _ (size_of o.wide)))

tsl-length : (x : Bool) (p : Pointer) (a b : Channel) (e f : Change) → e.count ≡ 1 → f.count ≡ 0
    → deed-length (pick x (deed (bytes_at p 1) a e) (deed (bytes_at p 1) b f)) ≡ 1 + pick x 1 0
unfolding deed-length span
tsl-length true p a b e f h k = ap (λ (y : ℕ). 1 + y) h
tsl-length false p a b e f h k = ap (λ (y : ℕ). 1 + y) k

-- where an operand lies does not depend on TP and the mark
effective-past : (m : Buffers) (c : Channel) (n : ℕ) (o : Memory) (p : Pointer) → effective m (past_instruction c n) o p ≡ effective m c o p
unfolding effective indexed base_of past_instruction renewed
effective-past m c n o p = refl

module _ (m : Buffers) (c : Channel) (busy : ℕ) where
  shape-length : (s : Shape) → deed-length (deed_of s m c busy) ≡ access_count s m c
  unfolding deed_of performed deed-length span access_count nop_deed sintr_deed xfer_deed wid_deed hlt_deed register_immediate_deed register_deed register_memory_deed lpdi_deed lpd_deed movp_load_deed worked_back memory_work_deed memory_register_deed memory_immediate_deed memory_alone_deed movp_store_deed bit_deed mov_memory_deed jump_register_deed jump_memory_deed jump_byte_deed jump_masked_deed jump_bit_deed tsl_deed call_deed
  shape-length Nop = refl
  shape-length Sintr = refl
  shape-length Xfer = refl
  shape-length (Wid wide_from wide_into) = refl
  shape-length Hlt = refl
  shape-length (Lpdi ppp) = refl
  shape-length (RegisterImmediate work rrr wide) = refl
  shape-length (Register single rrr) = refl
  shape-length (JumpRegister zero rrr two) = refl
  shape-length (RegisterMemory work rrr o) = row-and _ (size_of o.wide) 0 ∙ add-zero (size_of o.wide)
  shape-length (MemoryRegister work rrr o) = row-and _ (read_first work o.wide) (size_of o.wide)
  shape-length (MemoryImmediate work o) = row-and _ (read_first work o.wide) (size_of o.wide)
  shape-length (MemoryAlone single o) = row-and _ (size_of o.wide) (size_of o.wide)
  shape-length (JumpMemory zero o two) = row-and _ (size_of o.wide) 0 ∙ add-zero (size_of o.wide)
  shape-length (Lpd ppp o) = refl
  shape-length (MovpLoad ppp o) = refl
  shape-length (MovpStore ppp o) = refl
  shape-length (MovMemory o) = mov-length m (past_instruction c (length_of (MovMemory o))) c.tp o (second_at m c.tp o)
  shape-length (Tsl o) =
      tsl-length (eqb (byte_here m (effective m (past_instruction c (length_of (Tsl o))) o c.tp)) 0) (effective m (past_instruction c (length_of (Tsl o))) o c.tp) _ _ _ _ refl refl
      ∙ ap (λ (p : Pointer). 1 + pick (eqb (byte_here m p) 0) 1 0) (effective-past m c (length_of (Tsl o)) o c.tp)
  shape-length (Call o two) = refl
  shape-length (JumpMasked equal o two) = refl
  shape-length (JumpBit set bit o two) = refl
  shape-length (Bit on bit o) = refl

  -- the pair, the bytes after it, and what the deed reads and stores
  stages-length : (s : Shape) → (deed_of s m c busy).second ≡ 0
      → length (stages_touched (stages_from (Ok s) m c busy)) ≡ length_of s + deed-length (deed_of s m c busy)
  unfolding stages_touched stages_from later_from deed_from later_bytes places_of deed-length
  stages-length s h =
      let d = deed_of s m c busy in
      let later = bytes_at (onward c.tp 2) (length_of s - 2) in
      let stored = bytes_at d.change.at d.change.count in
      let e₀ : length (bytes_at c.tp 2) ≡ 2 = span-length c.tp.tag c.tp.address 2 in
      let e₁ : length later ≡ length_of s - 2 = span-length (onward c.tp 2).tag (onward c.tp 2).address (length_of s - 2) in
      let e₂ : length stored ≡ d.change.count = span-length d.change.at.tag d.change.at.address d.change.count in
      let two : 2 ≤ length_of s = (bounded s).0 in
      rw (eq-eqb d.second 0 h)
      (length-append (bytes_at c.tp 2) (later ++ ((d.reads ++ stored) ++ []))
      ∙ ap₂ ◌+◌ e₀ (length-append later ((d.reads ++ stored) ++ []) ∙ ap₂ ◌+◌ e₁ (length-append (d.reads ++ stored) [] ∙ ap₂ ◌+◌ (length-append d.reads stored ∙ ap (λ (x : ℕ). length d.reads + x) e₂) refl))
      ∙ sum (length_of s) (length d.reads) d.change.count two)
    where
      sum : (l r w : ℕ) → 2 ≤ l → 2 + (l - 2 + (r + w + 0)) ≡ l + (r + w)
      sum l r w h = omega arith

-- ---- at most ten

read_small : (work : Work) (wide : Bool) → read_first work wide ≤ 2
unfolding read_first
read_small work wide = go (is_move work)
  where
    go : (x : Bool) → pick x 0 (size_of wide) ≤ 2
    go true = lit≤ tt
    go false = size_small wide

second-small : (x : Option Memory) (wide : Bool) → second_count x wide ≤ 5
unfolding second_count offset_length
second-small (Some q) wide = omega (arith, offset-small q.aa, size_small wide)
second-small None wide = lit≤ tt

shape-most : (s : Shape) (m : Buffers) (c : Channel) → instruction_count s m c ≤ 10
unfolding instruction_count access_count length_of data_length displacement_length
shape-most Nop m c = omega arith
shape-most Sintr m c = omega arith
shape-most Xfer m c = omega arith
shape-most (Wid wide_from wide_into) m c = omega arith
shape-most Hlt m c = omega arith
shape-most (Lpdi ppp) m c = omega arith
shape-most (RegisterImmediate work rrr wide) m c = omega (arith, more-small wide)
shape-most (Register single rrr) m c = omega arith
shape-most (JumpRegister zero rrr two) m c = omega (arith, more-small two)
shape-most (RegisterMemory work rrr o) m c = omega (arith, offset-small o.aa, size_small o.wide)
shape-most (MemoryRegister work rrr o) m c = omega (arith, offset-small o.aa, size_small o.wide, read_small work o.wide)
shape-most (MemoryImmediate work o) m c = omega (arith, offset-small o.aa, more-small o.wide, size_small o.wide, read_small work o.wide)
shape-most (MemoryAlone single o) m c = omega (arith, offset-small o.aa, size_small o.wide)
shape-most (JumpMemory zero o two) m c = omega (arith, offset-small o.aa, more-small two, size_small o.wide)
shape-most (Lpd ppp o) m c = omega (arith, offset-small o.aa)
shape-most (MovpLoad ppp o) m c = omega (arith, offset-small o.aa)
shape-most (MovpStore ppp o) m c = omega (arith, offset-small o.aa)
shape-most (MovMemory o) m c = omega (arith, offset-small o.aa, second-small (second_at m c.tp o) o.wide)
shape-most (Tsl o) m c = omega (arith, offset-small o.aa, more-small (eqb (byte_here m (effective m c o c.tp)) 0))
shape-most (Call o two) m c = omega (arith, offset-small o.aa, more-small two)
shape-most (JumpMasked equal o two) m c = omega (arith, offset-small o.aa, more-small two)
shape-most (JumpBit set bit o two) m c = omega (arith, offset-small o.aa, more-small two)
shape-most (Bit on bit o) m c = omega (arith, offset-small o.aa)

module _ (m : Buffers) (c : Channel) (busy : ℕ) where
  -- so the bytes of a deed, with those of its instruction, are at most ten, refused or not
  pub deed-most : (d : Decoded) → length_from d + length (deed_from d m c busy).reads + (deed_from d m c busy).change.count ≤ 10
  unfolding length_from deed_from deed-length instruction_count
  deed-most (Ok s) = omega (arith, shape-length m c busy s, shape-most s m c)
  deed-most (Err NoInstruction) = lit≤ tt
  deed-most (Err ControlUsed) = lit≤ tt

  pub reads-most : (s : Shape) → length_of s + length (deed_of s m c busy).reads ≤ 10
  unfolding length_from deed_from
  reads-most s = omega (arith, deed-most (Ok s))

  -- the list of what is not refused, by what its first two bytes are
  touched-from : (d : Decoded) → decoded_number d ≡ 0 → (deed_from d m c busy).second ≡ 0
      → length (stages_touched (stages_from d m c busy)) ≡ length_from d + length (deed_from d m c busy).reads + (deed_from d m c busy).change.count
  unfolding length_from deed_from deed-length
  touched-from (Ok s) z h = stages-length m c busy s h ∙ omega arith
  touched-from (Err NoInstruction) z h = absurd (eqb-false 3 0 refl z)
  touched-from (Err ControlUsed) z h = absurd (eqb-false 4 0 refl z)

  pub touched-length : execute_number m c busy ≡ 0
      → length (touched_by_instruction m c busy) ≡ length_from (decoded_at m c.tp) + length (deed_at m c busy).reads + (deed_at m c busy).change.count
  unfolding touched_by_instruction instruction_stages
  touched-length z = touched-from (decoded_at m c.tp) (pair-passed c busy m z) (second-passed c busy m z)

  -- exactly what its shape does, and never more than ten
  pub touched-exact : (s : Shape) → decoded_at m c.tp ≡ Ok s → execute_number m c busy ≡ 0 → length (touched_by_instruction m c busy) ≡ instruction_count s m c
  unfolding length_from deed_from deed-length instruction_count
  touched-exact s e z =
      touched-length z
      ∙ ap (λ (d : Decoded). length_from d + length (deed_from d m c busy).reads + (deed_from d m c busy).change.count) e
      ∙ omega (arith, shape-length m c busy s)

  pub touched-most : execute_number m c busy ≡ 0 → length (touched_by_instruction m c busy) ≤ 10
  touched-most z = subst (λ (k : ℕ). k ≤ 10) (sym (touched-length z)) (deed-most (decoded_at m c.tp))

-- an instruction has its pair and the bytes after it, and what is none has no bytes
pub length-from : (s : Shape) (c : Channel) → (length_from (Ok s) ≡ 2 + length (later_from (Ok s) c)) × ((length_from (Err NoInstruction) ≡ 0) × (length_from (Err ControlUsed) ≡ 0))
unfolding length_from later_from later_bytes
length-from s c = (omega (arith, span-length (onward c.tp 2).tag (onward c.tp 2).address (length_of s - 2), (bounded s).0), (refl, refl))
