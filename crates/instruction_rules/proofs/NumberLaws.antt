-- The number of an instruction: 2, 3, 4 and 0, each exactly under its own condition and no earlier one; 2 by the bytes that it touches.
-- Assumes nothing.
use Rattle.std.proofs.Common.{Ok, Err, Option, Some, None}
use Prim.Native.Nat.{ℕ}
use borrow.Author.Tests.{eqb-false}
use denote.Enum.Declared.{tag_of as variant}
use lib.Dec.{eqb}
use mathlib.Core.Bool.{Bool, true, false}
use mathlib.Core.List.{[], ◌∷◌}
use mathlib.Core.Logic.{⊎_elim, inl, inr, ◌⊎◌, ◌↔◌}
use mathlib.Core.Path.{◌≡◌, refl, sym, ap, ◌∙◌}
use native.Mathlib.Omega.{arith}
use Rattle.instruction_rules.specs.contracts.Shape.{the_type as shapes}
use Rattle.instruction_rules.specs.Lengths.{length_of}
use Rattle.instruction_rules.specs.Reading.{decoded_number}
use Rattle.instruction_rules.specs.Decoded.{Decoded}
use Rattle.instruction_rules.specs.declared.Unread.TheVariants.{NoInstruction, ControlUsed}
use Rattle.instruction_rules.specs.declared.Memory.{Memory}
use Rattle.instruction_rules.specs.declared.Shape.TheVariants.{Nop, Sintr, Xfer, Wid, Hlt, Lpdi, RegisterImmediate, Register, JumpRegister, RegisterMemory, MemoryRegister, MemoryImmediate, MemoryAlone, JumpMemory, Lpd, MovpLoad, MovpStore, MovMemory, Tsl, Call, JumpMasked, JumpBit, Bit}
use Rattle.ground_rules.proofs.OutcomeLaws.{unless-true, both-tested}
use Rattle.ground_rules.proofs.StageLaws.{two-exactly, none-refused}
use Rattle.ground_rules.specs.Outcomes.{unless, first}
use Rattle.ground_rules.specs.Stages.{stages_number, JudgedElse}
use Rattle.ground_rules.specs.declared.Channel.{Channel}
use Rattle.ground_rules.specs.declared.Pointer.{Pointer}
use Rattle.ground_rules.specs.Buffers.{Buffers, touchable_at}
use Rattle.ground_rules.proofs.SpanLaws.{all_append}
use Rattle.ground_rules.specs.Places.{all_touchable}
use Rattle.ground_rules.proofs.ChoiceLaws.{apart}
use Rattle.instruction_rules.specs.Changes.{places_of}
use Rattle.instruction_rules.specs.Control.{nop_deed, sintr_deed, xfer_deed, wid_deed, hlt_deed}
use Rattle.instruction_rules.specs.JumpForms.{jump_register_deed, jump_memory_deed, jump_byte_deed, jump_masked_deed, jump_bit_deed, tsl_deed, call_deed}
use Rattle.instruction_rules.specs.MemoryForms.{memory_work_deed, memory_register_deed, memory_immediate_deed, memory_alone_deed, movp_store_deed, bit_deed, mov_operand_deed, mov_second_deed, second_at, mov_memory_deed}
use Rattle.instruction_rules.specs.Operands.{byte_here, bytes_at, effective, read_number}
use Rattle.instruction_rules.specs.Marks.{past_instruction}
use Rattle.instruction_rules.specs.RegisterForms.{register_immediate_deed, register_deed, register_memory_deed, lpdi_deed, lpd_deed, movp_load_deed}
use Rattle.ground_rules.proofs.ConditionLaws.{Told, step, last, rewritten, worded, told-true, told-false, told-touchable}
use Rattle.ground_rules.specs.Conditions.{Beyond, check, Given, Exactly}
use Rattle.instruction_rules.specs.Conditions.{NoCode, ControlTouched, NoSecondPair, checks_from, instruction_checks}
use Rattle.instruction_rules.specs.Execute.{decoded_at, performed, deed_of, later_from, deed_from, stages_from, instruction_stages, execute_number, touched_by_instruction, execute_of}
use Rattle.instruction_rules.proofs.OutcomeLaws.{number_is}

-- ---- what each test tells

-- the first two bytes are an instruction: else 3
is_code : Decoded → Bool
is_code (Ok s) = true
is_code (Err NoInstruction) = false
is_code (Err ControlUsed) = true

told-code : (d : Decoded) → Told (is_code d) (NoCode d)
unfolding is_code
told-code (Ok s) = told-true (λ h. apart (ap is_code h))
told-code (Err NoInstruction) = told-false refl
told-code (Err ControlUsed) = told-true (λ h. apart (ap is_code h))

-- they use CC by MOV and MOVI alone: else 4
is_free : Decoded → Bool
is_free (Ok s) = true
is_free (Err NoInstruction) = true
is_free (Err ControlUsed) = false

told_free : (d : Decoded) → Told (is_free d) (ControlTouched d)
unfolding is_free
told_free (Ok s) = told-true (λ h. apart (ap is_free h))
told_free (Err NoInstruction) = told-true (λ h. apart (ap is_free h))
told_free (Err ControlUsed) = told-false refl

-- the number of a second pair: 3 where it is none, and 0 for every other shape
record Paired (d : Decoded) (m : Buffers) (c : Channel) (busy : ℕ) : Type 0 where
  ok : Bool
  chain : (deed_from d m c busy).second ≡ unless ok 3
  told : Told ok (NoSecondPair d m c)

shape_in : Decoded → ℕ
shape_in (Ok s) = variant shapes s
shape_in (Err NoInstruction) = 0
shape_in (Err ControlUsed) = 0

-- one memory operand has not both kinds of a second pair
clash : (f : Memory → Option Memory) (o o' q : Memory) → f o ≡ Some q → ◌≡◌ {A = Decoded} (Ok (MovMemory o)) (Ok (MovMemory o')) → f o' ≡ None → ⊥
clash f o o' q e i n = let z : ◌≡◌ {A = ℕ} 0 1 = cc in omega arith

module _ (m : Buffers) (c : Channel) (busy : ℕ) where
  alone : (d : Decoded) → (deed_from d m c busy).second ≡ 0 → eqb (shape_in d) 17 ≡ false → Paired d m c busy
  unfolding shape_in
  alone d e ne = record { ok = true; chain = e ∙ sym (unless-true 3); told = told-true (λ h. eqb-false (shape_in d) 17 ne (ap shape_in h.1.0)) }

  paired : (o : Memory) → Paired (Ok (MovMemory o)) m c busy
  unfolding deed_from deed_of performed mov_memory_deed mov_second_deed mov_operand_deed unless
  paired o = go (second_at m c.tp o) refl
    where
      go : (q : Option Memory) → second_at m c.tp o ≡ q → Paired (Ok (MovMemory o)) m c busy
      go (Some q) e = record { ok = true; chain = rw e; told = told-true (λ h. clash (second_at m c.tp) o h.0 q e h.1.0 h.1.1) }
      go None e = record { ok = false; chain = rw e; told = told-false (o, (refl, e)) }

  tsl-alone : (x : Channel) (o : Memory) (b : Bool) → eqb (byte_here m (effective m x o c.tp)) 0 ≡ b → (tsl_deed m x c.tp o).second ≡ 0
  unfolding tsl_deed
  tsl-alone x o true e = rw e
  tsl-alone x o false e = rw e

  paired-of : (d : Decoded) → Paired d m c busy
  unfolding deed_from deed_of performed nop_deed sintr_deed xfer_deed wid_deed hlt_deed lpdi_deed register_immediate_deed register_deed jump_register_deed register_memory_deed memory_register_deed memory_immediate_deed memory_work_deed memory_alone_deed jump_memory_deed lpd_deed movp_load_deed movp_store_deed call_deed jump_masked_deed jump_bit_deed jump_byte_deed bit_deed shape_in
  paired-of (Err NoInstruction) = alone (Err NoInstruction) refl refl
  paired-of (Err ControlUsed) = alone (Err ControlUsed) refl refl
  paired-of (Ok Nop) = alone (Ok Nop) refl refl
  paired-of (Ok Sintr) = alone (Ok Sintr) refl refl
  paired-of (Ok Xfer) = alone (Ok Xfer) refl refl
  paired-of (Ok (Wid source destination)) = alone (Ok (Wid source destination)) refl refl
  paired-of (Ok Hlt) = alone (Ok Hlt) refl refl
  paired-of (Ok (Lpdi ppp)) = alone (Ok (Lpdi ppp)) refl refl
  paired-of (Ok (RegisterImmediate work rrr wide)) = alone (Ok (RegisterImmediate work rrr wide)) refl refl
  paired-of (Ok (Register single rrr)) = alone (Ok (Register single rrr)) refl refl
  paired-of (Ok (JumpRegister test rrr two)) = alone (Ok (JumpRegister test rrr two)) refl refl
  paired-of (Ok (RegisterMemory work rrr o)) = alone (Ok (RegisterMemory work rrr o)) refl refl
  paired-of (Ok (MemoryRegister work rrr o)) = alone (Ok (MemoryRegister work rrr o)) refl refl
  paired-of (Ok (MemoryImmediate work o)) = alone (Ok (MemoryImmediate work o)) refl refl
  paired-of (Ok (MemoryAlone single o)) = alone (Ok (MemoryAlone single o)) refl refl
  paired-of (Ok (JumpMemory test o two)) = alone (Ok (JumpMemory test o two)) refl refl
  paired-of (Ok (Lpd ppp o)) = alone (Ok (Lpd ppp o)) refl refl
  paired-of (Ok (MovpLoad ppp o)) = alone (Ok (MovpLoad ppp o)) refl refl
  paired-of (Ok (MovpStore ppp o)) = alone (Ok (MovpStore ppp o)) refl refl
  paired-of (Ok (MovMemory o)) = paired o
  paired-of (Ok (Tsl o)) = alone (Ok (Tsl o)) (tsl-alone (past_instruction c (length_of (Tsl o))) o (eqb (byte_here m (effective m (past_instruction c (length_of (Tsl o))) o c.tp)) 0) refl) refl
  paired-of (Ok (Call o two)) = alone (Ok (Call o two)) refl refl
  paired-of (Ok (JumpMasked equal o two)) = alone (Ok (JumpMasked equal o two)) refl refl
  paired-of (Ok (JumpBit test bit o two)) = alone (Ok (JumpBit test bit o two)) refl refl
  paired-of (Ok (Bit on bit o)) = alone (Ok (Bit on bit o)) refl refl

  -- ---- the chain of checks

  -- what is judged of the first two bytes, as two tests
  coded : (d : Decoded) (rest : ℕ) → first (decoded_number d) rest ≡ first (unless (is_code d) 3) (first (unless (is_free d) 4) rest)
  unfolding first unless is_code is_free
  coded (Ok s) rest = refl
  coded (Err NoInstruction) rest = refl
  coded (Err ControlUsed) rest = refl

  -- the number of the stages, as the chain of its tests
  chain-of : (d : Decoded) → stages_number m (stages_from d m c busy)
      ≡ first (unless (all_touchable m (bytes_at c.tp 2)) 2)
      (first (unless (is_code d) 3)
      (first (unless (is_free d) 4)
      (first (unless (all_touchable m (later_from d c)) 2)
      (first (unless (paired-of d).ok 3)
      (first (unless (all_touchable m (deed_from d m c busy).reads) 2) (unless (all_touchable m (places_of (deed_from d m c busy).change)) 2))))))
  unfolding stages_number stages_from
  chain-of d =
      let done = deed_from d m c busy in
      rw (coded d, (paired-of d).chain, all_append (touchable_at m) done.reads (places_of done.change), both-tested (all_touchable m done.reads) (all_touchable m (places_of done.change)))

  given-from : (d : Decoded) (n : ℕ) → (stages_number m (stages_from d m c busy) ≡ n) ↔ Given (checks_from d m c busy) n
  given-from d n =
      rewritten (chain-of d)
      (step 2 refl (told-touchable m (bytes_at c.tp 2))
      (step 3 refl (told-code d)
      (step 4 refl (told_free d)
      (step 2 refl (told-touchable m (later_from d c))
      (step 3 refl (paired-of d).told
      (step 2 refl (told-touchable m (deed_from d m c busy).reads) (last n 2 refl (told-touchable m (places_of (deed_from d m c busy).change)))))))))

  -- the number handed back is that of the first check that applies, and 0 where none does
  pub number-given : (n : ℕ) → (execute_of c busy m).number ≡ n ↔ Given (instruction_checks m c busy) n
  unfolding execute_number instruction_stages
  number-given n = rewritten (number_is c busy m) (given-from (decoded_at m c.tp) n)

  -- in words: 2, 3 and 4 where their own condition holds and no earlier one, 0 where none does
  pub number-exactly : (n : ℕ) → (execute_of c busy m).number ≡ n ↔ Exactly (instruction_checks m c busy) n
  number-exactly n = worded (instruction_checks m c busy) n (number-given n)

  -- and there is no other number
  pub one-of-four : (((execute_of c busy m).number ≡ 0) ⊎ ((execute_of c busy m).number ≡ 2)) ⊎ (((execute_of c busy m).number ≡ 3) ⊎ ((execute_of c busy m).number ≡ 4))
  one-of-four = go (execute_of c busy m).number ((number-given (execute_of c busy m).number).0 refl)
    where
      go : (n : ℕ) → Given (instruction_checks m c busy) n → ((n ≡ 0) ⊎ (n ≡ 2)) ⊎ ((n ≡ 3) ⊎ (n ≡ 4))
      go n =
          ⊎_elim (λ h. inl (inr h.1))
          (λ h. ⊎_elim (λ k. inr (inl k.1))
          (λ k. ⊎_elim (λ j. inr (inr j.1))
          (λ j. ⊎_elim (λ i. inl (inr i.1))
          (λ i. ⊎_elim (λ l. inr (inl l.1))
          (λ l. ⊎_elim (λ r. inl (inr r.1)) (λ r. ⊎_elim (λ s. inl (inr s.1)) (λ s. inl (inl s.1)) r.1) l.1) i.1) j.1) k.1) h.1)

  -- ---- the bytes that it touches

  -- no stage judges 2
  coded-else : (d : Decoded) → eqb (decoded_number d) 2 ≡ false
  coded-else (Ok s) = refl
  coded-else (Err NoInstruction) = refl
  coded-else (Err ControlUsed) = refl

  paired-else : (ok : Bool) → eqb (unless ok 3) 2 ≡ false
  unfolding unless
  paired-else true = refl
  paired-else false = refl

  judged-else : (d : Decoded) → JudgedElse (stages_from d m c busy)
  unfolding stages_from
  judged-else d = (coded-else d, (ap (λ (n : ℕ). eqb n 2) (paired-of d).chain ∙ paired-else (paired-of d).ok, (refl, tt)))

  -- 2 exactly where a byte that the instruction would touch, up to the stage where it stops, may not be touched
  pub two-where : (execute_of c busy m).number ≡ 2 ↔ all_touchable m (touched_by_instruction m c busy) ≡ false
  unfolding execute_number touched_by_instruction instruction_stages
  two-where = rewritten (number_is c busy m) (two-exactly m (stages_from (decoded_at m c.tp) m c busy) (judged-else (decoded_at m c.tp)))

  -- and a done one touches no byte that it may not
  pub done-touchable : (execute_of c busy m).number ≡ 0 → all_touchable m (touched_by_instruction m c busy) ≡ true
  unfolding execute_number touched_by_instruction
  done-touchable z = none-refused m (instruction_stages m c busy) (sym (number_is c busy m) ∙ z)

-- bytes that are read have 2 exactly where one of them lies beyond what is lent of system space
pub read-given : (m : Buffers) (p : Pointer) (n k : ℕ) → (read_number m p n ≡ k) ↔ Given (check 2 (Beyond m (bytes_at p n)) ∷ []) k
unfolding read_number
read-given m p n k = last k 2 refl (told-touchable m (bytes_at p n))
