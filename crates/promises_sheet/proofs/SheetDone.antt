-- Which instructions are done, and which refused, by the codes of the data sheet in numbers.
-- Assumes nothing.
use Rattle.std.proofs.Common.{Ok, Err}
use Prim.Native.Nat.{ℕ, zero, suc, ◌+◌, ◌<◌}
use borrow.Author.Tests.{eqb-false, eqb-true, ne_eqb}
use lib.Dec.{eqb, lit<, eqb-suc-zero}
use lib.ListN.{get_or, length}
use mathlib.Core.Bool.{Bool, true, false, ◌&&◌, ◌||◌}
use mathlib.Core.List.{List, [], ◌∷◌}
use mathlib.Core.Logic.{⊎_elim, inl}
use mathlib.Core.Path.{◌≡◌, refl, sym, ap, ◌∙◌}
use native.Mathlib.Omega.{arith}
use Rattle.ground_rules.proofs.ChoiceLaws.{apart, both_left, both_right}
use Rattle.ground_rules.proofs.ConditionLaws.{told-exactly, told-touchable}
use Rattle.ground_rules.specs.Buffers.{Buffers}
use Rattle.ground_rules.specs.Choice.{pick}
use Rattle.ground_rules.specs.States.{channel_of, block_of, busy_in}
use Rattle.ground_rules.specs.declared.State.{State}
use Rattle.instruction_rules.proofs.NumberLaws.{number-exactly, one-of-four, two-where}
use Rattle.instruction_rules.specs.Conditions.{PairBeyond, NoSecondPair}
use Rattle.instruction_rules.specs.Execute.{decoded_at, Executed}
use Rattle.instruction_rules.specs.MemoryForms.{second_at}
use Rattle.instruction_rules.specs.Operands.{bytes_at}
use Rattle.instruction_rules.specs.Pairs.{columns}
use Rattle.instruction_rules.specs.Reading.{fits, lookup, decode_of, decoded_number, second_number_of}
use Rattle.instruction_rules.specs.Rows.{is_control}
use Rattle.instruction_rules.specs.Table.{SummaryRow, table}
use Rattle.instruction_rules.specs.Decoded.{Decoded}
use Rattle.instruction_rules.specs.declared.Unread.TheVariants.{NoInstruction, ControlUsed}
use Rattle.instruction_rules.specs.declared.Memory.{Memory}
use Rattle.instruction_rules.specs.declared.Pair.{Pair}
use Rattle.instruction_rules.specs.declared.Shape.{Shape}
use Rattle.instruction_rules.specs.declared.Shape.TheVariants.{Nop, Sintr, Xfer, Wid, Hlt, Lpdi, RegisterImmediate, Register, JumpRegister, RegisterMemory, MemoryRegister, MemoryImmediate, MemoryAlone, JumpMemory, Lpd, MovpLoad, MovpStore, MovMemory, Tsl, Call, JumpMasked, JumpBit, Bit}
use Rattle.turn_rules.specs.Step.{Step, settled_step, instruction_step, step_of}
use Rattle.turn_rules.specs.declared.Kind.{Kind}
use Rattle.promises.proofs.InstructionLaws.{decoded, pair-touchable, turn-executes}
use Rattle.promises_codes.proofs.CodeNumbers.{decoder-codes}
use Rattle.promises_sheet.specs.SheetDone.{PairTurn, Free, pair_number, DoneSheet}
use Rattle.promises_sheet.specs.SheetOperands.{PairRan, dd_of}
use Rattle.promises_sheet.proofs.SheetMemory.{second_is}
use Rattle.promises_sheet.proofs.SheetOperands.{pair_with, pair_is, memory_with, executed_in}

-- ---- MOV M,M has opcode 24h alone

-- the operand of MOV M,M, and of no other shape
moved : Shape → List Memory
moved (MovMemory o) = o ∷ []
moved Nop = []
moved Sintr = []
moved Xfer = []
moved (Wid a b) = []
moved Hlt = []
moved (Lpdi r) = []
moved (RegisterImmediate k r w) = []
moved (Register k r) = []
moved (JumpRegister z r t) = []
moved (RegisterMemory k r o) = []
moved (MemoryRegister k r o) = []
moved (MemoryImmediate k o) = []
moved (MemoryAlone k o) = []
moved (JumpMemory z o t) = []
moved (Lpd r o) = []
moved (MovpLoad r o) = []
moved (MovpStore r o) = []
moved (Tsl o) = []
moved (Call o t) = []
moved (JumpMasked e o t) = []
moved (JumpBit e b o t) = []
moved (Bit e b o) = []

moved_in : Decoded → List Memory
moved_in (Ok s) = moved s
moved_in (Err NoInstruction) = []
moved_in (Err ControlUsed) = []

-- whether of the rows with another opcode none makes it of a pair
others : List SummaryRow → Pair → Bool
others [] p = true
others (r ∷ rs) p = (eqb r.opcode 0x24 || eqb (length (moved (r.shape p))) 0) && others rs p

whole : (p : Pair) → others table p ≡ true
unfolding others moved table
whole p = refl

-- so a pair with another opcode is none
no_move : (rs : List SummaryRow) (p : Pair) → others rs p ≡ true → ¬ (p.opcode ≡ 0x24) → length (moved_in (lookup rs p)) ≡ 0
unfolding others lookup moved_in
no_move [] p t n = refl
no_move (r ∷ rs) p t n = go (fits r p) refl (r.control && is_control p) (no_move rs p (both_right (eqb r.opcode 0x24 || eqb (length (moved (r.shape p))) 0) (others rs p) t) n)
  where
    go : (f : Bool) → fits r p ≡ f → (u : Bool) → length (moved_in (lookup rs p)) ≡ 0 → length (moved_in (pick f (pick u (Err ControlUsed) (Ok (r.shape p))) (lookup rs p))) ≡ 0
    go false h u rest = rest
    go true h true rest = refl
    go true h false rest =
        let same : p.opcode ≡ r.opcode = eqb-true p.opcode r.opcode (both_left _ (columns r.rrr r.dd r.aa r.w r.mm p) h) in
        let none = eqb (length (moved (r.shape p))) 0 in
        eqb-true (length (moved (r.shape p))) 0 (ap (λ (o : Bool). o || none) (sym (ne_eqb r.opcode 0x24 (λ z. n (same ∙ z)))) ∙ both_left (eqb r.opcode 0x24 || none) (others rs p) t)

-- ---- the step

module _ {b : Bool} {s : State} {m : Buffers} {lines r dd aa w op mm : ℕ} (x : PairTurn b s m lines r dd aa w op mm) where
  abbrev pair : Pair
  pair = pair_with r dd aa w op mm

  -- the pair at TP is what the table says of its fields
  reads : decoded_at m (channel_of s b).tp ≡ lookup table pair
  unfolding decode_of
  reads = decoded x.executes.there (lit< tt) ∙ ap (lookup table) (pair_is r dd aa w op mm x.rrr x.two x.mode x.wide x.code x.base)

  -- its number is that of the codes
  told : decoded_number (decoded_at m (channel_of s b).tp) ≡ pair_number b s m lines r dd aa w op mm
  told =
      let h₁ = x.rrr in
      let h₂ = x.two in
      let h₃ = x.mode in
      let h₄ = x.wide in
      let h₅ = x.code in
      let h₆ = x.base in
      ap decoded_number (decoded x.executes.there (lit< tt)) ∙ decoder-codes.first-pairs _ _ (omega arith) (omega arith)

  settled : (n : ℕ) (o : Executed) → (settled_step n s m b o.channel o.memory Kind.Instruction).number ≡ n
  unfolding settled_step
  settled zero o = refl
  settled (suc n) o = rw (eqb-suc-zero n)

  -- the step has its instruction's number
  own : (step_of s m lines).number ≡ (executed_in s m b).number
  unfolding instruction_step
  own = ap (λ (o : Step). o.number) (turn-executes b s m lines x.executes.turn x.executes.program) ∙ settled (executed_in s m b).number (executed_in s m b)

  there : PairBeyond m (channel_of s b) → ⊥
  there h = apart (sym (pair-touchable x.executes.there (lit< tt)) ∙ (told-exactly (told-touchable m (bytes_at (channel_of s b).tp 2))).1 h)

  -- what the pair is refused with
  refuses : (d : Decoded) → decoded_at m (channel_of s b).tp ≡ d → ¬ (decoded_number d ≡ 0) → (step_of s m lines).number ≡ decoded_number d
  refuses (Ok shape) e ne = absurd (ne refl)
  refuses (Err NoInstruction) e ne = own ∙ (number-exactly m (channel_of s b) (busy_in (block_of s b)) 3).1 (there, inl e)
  refuses (Err ControlUsed) e ne =
      own ∙ (number-exactly m (channel_of s b) (busy_in (block_of s b)) 4).1 (there, (λ n. eqb-false 4 3 refl (ap decoded_number (sym e ∙ n)), e))

  -- what refuses neither itself nor its second pair is done, where its bytes may be touched
  does : decoded_number (decoded_at m (channel_of s b).tp) ≡ 0 → ¬ (NoSecondPair (decoded_at m (channel_of s b).tp) m (channel_of s b)) → Free b s m lines → PairRan b s m lines r dd aa w op mm
  does z second free = record { executes = x.executes; done = own ∙ zero-only; rrr = x.rrr; two = x.two; mode = x.mode; wide = x.wide; base = x.base }
    where
      zero-only : (executed_in s m b).number ≡ 0
      zero-only =
          let c = channel_of s b in
          let busy = busy_in (block_of s b) in
          ⊎_elim
          (⊎_elim (λ e. e) (λ e. apart (sym free ∙ (two-where m c busy).0 e)))
          (⊎_elim
          (λ e. absurd (⊎_elim (λ n. eqb-false 3 0 refl (sym (ap decoded_number n) ∙ z)) (λ h. second h.1.1.1) ((number-exactly m c busy 3).0 e).1))
          (λ e. absurd (eqb-false 4 0 refl (sym (ap decoded_number ((number-exactly m c busy 4).0 e).1.1) ∙ z))))
          (one-of-four m c busy)

  -- CC used
  control : lookup table pair ≡ Err ControlUsed → (step_of s m lines).number ≡ 4
  control e = refuses (Err ControlUsed) (reads ∙ e) (eqb-false 4 0 refl)

pub done-sheet : (second : Bool) (s : State) (m : Buffers) (lines : ℕ) → DoneSheet second s m lines
unfolding lookup table moved_in moved
done-sheet b s m lines = record {
  done = λ r dd aa w op mm x z ne free.
      does x (told x ∙ z)
      (λ h. eqb-false 1 0 refl (sym (ap (λ (d : Decoded). length (moved_in d)) (sym (reads x) ∙ h.1.0)) ∙ no_move table (pair_with r dd aa w op mm) (whole (pair_with r dd aa w op mm)) ne)) free;
  move_between = λ aa w mm aa₂ mm₂ ha hm x e f free.
      does x (ap decoded_number (reads x)) (λ h. eqb-false 0 3 refl (ap second_number_of (sym (second_is m (channel_of s b) mm aa w aa₂ mm₂ x.mode x.wide ha hm e f) ∙ operand x h.0 h.1.0 ∙ h.1.1))) free;
  refused = λ r dd aa w op mm x ne. refuses x (decoded_at m (channel_of s b).tp) refl (λ z. ne (sym (told x) ∙ z)) ∙ told x;
  control_memory = memories;
  control_stored = stored;
  control_data = datas;
  control_alone = alones;
  control_jump = jumps;
}
  where
    operand : {aa w mm : ℕ} → PairTurn b s m lines 0 0 aa w 0x24 mm → (o : Memory) → decoded_at m (channel_of s b).tp ≡ Ok (MovMemory o)
        → second_at m (channel_of s b).tp (memory_with mm aa w) ≡ second_at m (channel_of s b).tp o
    operand {aa} {w} {mm} x o e = ap (λ (l : List Memory). second_at m (channel_of s b).tp (get_or l 0 o)) (ap moved_in (sym (reads x) ∙ e))

    memories : (k aa w mm : ℕ) → k < 4 → PairTurn b s m lines 6 0 aa w (0x28 + k) mm → (step_of s m lines).number ≡ 4
    memories zero aa w mm h x = control x refl
    memories (suc zero) aa w mm h x = control x refl
    memories (suc (suc zero)) aa w mm h x = control x refl
    memories (suc (suc (suc zero))) aa w mm h x = control x refl
    memories (suc (suc (suc (suc k)))) aa w mm h x = absurd (omega arith)

    stored : (k aa w mm : ℕ) → k < 3 → PairTurn b s m lines 6 0 aa w (0x34 + k) mm → (step_of s m lines).number ≡ 4
    stored zero aa w mm h x = control x refl
    stored (suc zero) aa w mm h x = control x refl
    stored (suc (suc zero)) aa w mm h x = control x refl
    stored (suc (suc (suc k))) aa w mm h x = absurd (omega arith)

    datas : (k w : ℕ) → k < 3 → PairTurn b s m lines 6 (w + 1) 0 w (0x08 + k) 0 → (step_of s m lines).number ≡ 4
    datas zero zero h x = control x refl
    datas zero (suc zero) h x = control x refl
    datas (suc zero) zero h x = control x refl
    datas (suc zero) (suc zero) h x = control x refl
    datas (suc (suc zero)) zero h x = control x refl
    datas (suc (suc zero)) (suc zero) h x = control x refl
    datas zero (suc (suc w)) h x = let g = x.wide in absurd (omega arith)
    datas (suc zero) (suc (suc w)) h x = let g = x.wide in absurd (omega arith)
    datas (suc (suc zero)) (suc (suc w)) h x = let g = x.wide in absurd (omega arith)
    datas (suc (suc (suc k))) w h x = absurd (omega arith)

    alones : (k : ℕ) → k < 3 → PairTurn b s m lines 6 0 0 0 (get_or (0x0B ∷ 0x0E ∷ 0x0F ∷ []) k 0) 0 → (step_of s m lines).number ≡ 4
    alones zero h x = control x refl
    alones (suc zero) h x = control x refl
    alones (suc (suc zero)) h x = control x refl
    alones (suc (suc (suc k))) h x = absurd (omega arith)

    jumps : (z two : Bool) → PairTurn b s m lines 6 (dd_of two) 0 0 (pick z 0x11 0x10) 0 → (step_of s m lines).number ≡ 4
    jumps true true x = control x refl
    jumps true false x = control x refl
    jumps false true x = control x refl
    jumps false false x = control x refl
