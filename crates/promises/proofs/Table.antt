-- The table of twelve cases, in its order and with its own words.
-- Assumes nothing.
use Prim.Native.Nat.{ℕ}
use lib.Dec.{lit<}
use mathlib.Core.Bool.{true, false}
use mathlib.Core.List.{[], ◌∷◌}
use mathlib.Core.Path.{◌≡◌, refl, ap, ◌∙◌}
use native.Mathlib.Omega.{arith}
use Rattle.instruction_rules.specs.Lengths.{data_length, displacement_length, length_of}
use Rattle.instruction_rules.specs.Pairs.{pair_of}
use Rattle.instruction_rules.specs.Reading.{lookup, decode_of}
use Rattle.instruction_rules.specs.Table.{table}
use Rattle.instruction_rules.specs.declared.Work.TheVariants.{Mov, Add}
use Rattle.instruction_rules.specs.RegisterForms.{register_written}
use Rattle.ground_rules.specs.Registers.{by_rrr, register_of, tag_of, with_register}
use Rattle.ground_rules.specs.States.{channel_number}
use Rattle.ground_rules.specs.declared.Channel.{Channel}
use Rattle.ground_rules.specs.declared.State.{State}
use Rattle.ground_rules.specs.Buffers.{Buffers}
use Rattle.ground_rules.specs.Values.{pointer, onward}
use Rattle.instruction_rules.specs.Marks.{past_instruction}
use Rattle.instruction_rules.specs.Operands.{work_of, is_move}
use Rattle.ground_rules.specs.Updates.{renewed}
use Rattle.ground_rules.specs.Bits.{field_of}
use Rattle.ground_rules.specs.Compare.{match_of}
use Rattle.ground_rules.specs.Signs.{extended}
use Rattle.ground_rules.specs.Sums.{address_of}
use Rattle.promises.specs.Cases.{Does, IsStored, Gives, Both8, Both16Even, Both16Odd, From16OddInto8, Takes, Fresh, Turns, started_both}
use Rattle.promises.proofs.CaseLaws.{stored-stands, pointer-given, total-8, total-even, total-odd, total-mixed, takes}
use Rattle.promises.proofs.InstructionLaws.{immediate-step}
use Rattle.promises.proofs.TurnLaws.{turns-alternate, fresh-last}
use Rattle.promises.proofs.TurnWitness.{started-turns}

-- 1. MOVI GA with the byte 80h
pub case-1 : Does (0x08 ∷ 0x30 ∷ 0x80 ∷ []) (λ c c'. c'.ga ≡ pointer 0xFFF80 true)
unfolding decode_of lookup table pair_of field_of register_written is_move work_of with_register extended
case-1 b s m lines x = let d = immediate-step b s m lines Mov 0 false (lit< tt) refl x in (d.0, ap (λ (c : Channel). c.ga) d.1)

-- 2. MOVI BC with a word
pub case-2 : Does (0x71 ∷ 0x30 ∷ 0x34 ∷ 0x12 ∷ []) (λ c c'. c'.bc ≡ 0x1234)
unfolding decode_of lookup table pair_of field_of register_written is_move work_of with_register extended
case-2 b s m lines x = let d = immediate-step b s m lines Mov 3 true (lit< tt) refl x in (d.0, ap (λ (c : Channel). c.bc) d.1)

-- 3. JMP back by two
pub case-3 : Does (0x88 ∷ 0x20 ∷ 0xFE ∷ []) (λ c c'. c.tp.address ≡ 0x100 → c'.tp ≡ pointer 0x101 c.tp.tag)
unfolding decode_of lookup table pair_of field_of register_written is_move work_of with_register extended register_of tag_of by_rrr past_instruction renewed onward length_of data_length displacement_length
case-3 b s m lines x = let d = immediate-step b s m lines Add 4 false (lit< tt) refl x in (d.0, λ e. ap (λ (c : Channel). c.tp) d.1 ∙ rw e)

-- 4. ADDI GA with the byte FFh
pub case-4 : Does (0x08 ∷ 0x20 ∷ 0xFF ∷ []) (λ c c'. c.ga.address ≡ 0 → c'.ga ≡ pointer 0xFFFFF c.ga.tag)
unfolding decode_of lookup table pair_of field_of register_written is_move work_of with_register extended register_of tag_of by_rrr past_instruction renewed
case-4 b s m lines x = let d = immediate-step b s m lines Add 0 false (lit< tt) refl x in (d.0, λ e. ap (λ (c : Channel). c.ga) d.1 ∙ rw e)

-- 5. a pointer in its three bytes
pub case-5 : IsStored (pointer 0x12345 true) (0x45 ∷ 0x23 ∷ 0x18 ∷ []) × IsStored (pointer 0x12345 false) (0x45 ∷ 0x23 ∷ 0x10 ∷ [])
case-5 = ((refl, λ m at. stored-stands m at (pointer 0x12345 true)), (refl, λ m at. stored-stands m at (pointer 0x12345 false)))

-- 6. an address that wraps
pub case-6 : (address_of 0x10 0xFFFF ≡ 0) × Gives (0x10 ∷ 0x00 ∷ 0xFF ∷ 0xFF ∷ []) 0
case-6 = (refl, λ m at there. pointer-given m at _ there (lit< tt))

-- 7. the masked compare
pub case-7 : (match_of 0x4F 0xF041 ≡ true) × (match_of 0x5F 0xF041 ≡ false)
unfolding match_of
case-7 = (refl, refl)

-- 8. five bytes
pub case-8 : Takes Both8 5 5 × Takes Both16Even 5 3
case-8 = (takes total-8 (λ n l h e. omega arith), takes total-even (λ n l h e. omega arith))

-- 9. odd word sides
pub case-9 : Takes Both16Odd 1 1 × Takes Both16Odd 4 3
case-9 = (takes total-odd (λ n l h e. omega arith), takes total-odd (λ n l h e. omega arith))

-- 10. a count of 0
pub case-10 : Takes Both16Even 0 32768 × Takes Both16Odd 0 32769
case-10 = (takes total-even (λ n l h e. omega arith), takes total-odd (λ n l h e. omega arith))

-- 11. an odd word source
pub case-11 : Takes From16OddInto8 2 2
case-11 = takes total-mixed (λ n l h e. omega arith)

-- 12. turns
pub case-12 : ((s : State) (m : Buffers) (w x y z : ℕ) → Fresh s → Turns s m (w ∷ x ∷ y ∷ z ∷ []) → w ∷ x ∷ y ∷ z ∷ [] ≡ 1 ∷ 2 ∷ 1 ∷ 2 ∷ [])
    × Turns started_both.state started_both.memory (1 ∷ 2 ∷ 1 ∷ 2 ∷ [])
unfolding channel_number
case-12 = (λ s m w x y z f t. turns-alternate true (fresh-last f) t, started-turns)
