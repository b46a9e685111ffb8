-- Operands and lines of the notation, worked out: each line at address 1000h.
-- Assumes nothing.
use mathlib.Core.Path.{◌≡◌, refl}
use mathlib.Core.Bool.{true, false}
use mathlib.Core.List.{[], ◌∷◌, map}
use Prim.Native.Nat.{ℕ}
use Rattle.ground_rules.specs.Signs.{extended}
use Rattle.instruction_rules.specs.declared.Memory.{Memory}
use Rattle.instruction_rules.specs.declared.Work.{Work}
use Rattle.instruction_rules.specs.declared.Shape.TheVariants.{Wid, Lpdi, RegisterImmediate, JumpRegister, JumpMemory, MovMemory, Tsl, JumpBit}
use Rattle.instruction_rules.specs.Lengths.{offset_length}
use Rattle.listing_rules.specs.Characters.{ascii, hex_glyph, hex_digits, number_text, digit_text}
use Rattle.listing_rules.specs.Mnemonics.{is_jump, mnemonic_of}
use Rattle.listing_rules.specs.Forms.{after_offset, slots_of, target_of, filled, register_name, base_name, mode_text, spelled, following}
use Rattle.listing_rules.specs.Forms.Operand.{register, memory}
use Rattle.listing_rules.specs.Lines.{line_with, instruction_line, data_items, data_line}

abbrev pub none : Memory
none = record { mm = 0; aa = 0; wide = false }

-- the registers by RRR, 0 to 7
pub register-names : map (λ (rrr : ℕ). spelled (register rrr)) (0 ∷ 1 ∷ 2 ∷ 3 ∷ 4 ∷ 5 ∷ 6 ∷ 7 ∷ [])
    ≡ ascii "GA" ∷ ascii "GB" ∷ ascii "GC" ∷ ascii "BC" ∷ ascii "TP" ∷ ascii "IX" ∷ ascii "CC" ∷ ascii "MC" ∷ []
unfolding register_name spelled
register-names = refl

-- memory by MM, 0 to 3
pub base-names : map (λ (mm : ℕ). spelled (memory mm 0 [])) (0 ∷ 1 ∷ 2 ∷ 3 ∷ []) ≡ ascii "[GA]" ∷ ascii "[GB]" ∷ ascii "[GC]" ∷ ascii "[PP]" ∷ []
unfolding base_name mode_text spelled
base-names = refl

-- memory by AA, 0 to 3; AA 1 has an offset byte
pub mode-texts : spelled (memory 0 0 []) ∷ spelled (memory 0 1 (0xEF ∷ [])) ∷ spelled (memory 0 2 []) ∷ spelled (memory 0 3 []) ∷ []
    ≡ ascii "[GA]" ∷ ascii "[GA].0EFH" ∷ ascii "[GA+IX]" ∷ ascii "[GA+IX+]" ∷ []
unfolding hex_glyph hex_digits number_text base_name mode_text spelled
mode-texts = refl

-- destination first, though its pair is the second; offsets unsigned
pub movb : instruction_line (0x02 ∷ 0x93 ∷ 0x08 ∷ 0x02 ∷ 0xCE ∷ 0x01 ∷ []) 0x1006 (MovMemory (record { mm = 3; aa = 1; wide = false })) (record { mm = 2; aa = 1; wide = false }) ≡ ascii "MOVB [GC].001H,[PP].008H\n"
unfolding extended offset_length hex_glyph hex_digits number_text digit_text is_jump mnemonic_of after_offset slots_of target_of filled register_name base_name mode_text spelled following line_with instruction_line
movb = refl

-- offset, then segment
pub lpdi : instruction_line (0x91 ∷ 0x08 ∷ 0x00 ∷ 0x20 ∷ 0x00 ∷ 0x00 ∷ []) 0x1006 (Lpdi 4) none ≡ ascii "LPDI TP,02000H,00000H\n"
unfolding extended offset_length hex_glyph hex_digits number_text digit_text is_jump mnemonic_of after_offset slots_of target_of filled register_name base_name mode_text spelled following line_with instruction_line
lpdi = refl

-- source, then destination
pub wid : instruction_line (0xA0 ∷ 0x00 ∷ []) 0x1002 (Wid false true) none ≡ ascii "WID 8,16\n"
unfolding extended offset_length hex_glyph hex_digits number_text digit_text is_jump mnemonic_of after_offset slots_of target_of filled register_name base_name mode_text spelled following line_with instruction_line
wid = refl

-- B before I
pub addbi : instruction_line (0xE8 ∷ 0x20 ∷ 0x0A ∷ []) 0x1003 (RegisterImmediate Work.Add 7 false) none ≡ ascii "ADDBI MC,00AH\n"
unfolding extended offset_length hex_glyph hex_digits number_text digit_text is_jump mnemonic_of after_offset slots_of target_of filled register_name base_name mode_text spelled following line_with instruction_line
addbi = refl

-- two bytes of displacement: L; a byte: B
pub ljnzb : instruction_line (0x16 ∷ 0xE1 ∷ 0x00 ∷ 0x80 ∷ []) 0x1004 (JumpMemory false (record { mm = 1; aa = 3; wide = false }) true) none ≡ ascii "LJNZB [GB+IX+],09004H\n"
unfolding extended offset_length hex_glyph hex_digits number_text digit_text is_jump mnemonic_of after_offset slots_of target_of filled register_name base_name mode_text spelled following line_with instruction_line
ljnzb = refl

-- one byte of displacement: no L; the target from the instruction's end
pub jnz : instruction_line (0xA8 ∷ 0x40 ∷ 0xFD ∷ []) 0x1003 (JumpRegister false 5 false) none ≡ ascii "JNZ IX,01000H\n"
unfolding extended offset_length hex_glyph hex_digits number_text digit_text is_jump mnemonic_of after_offset slots_of target_of filled register_name base_name mode_text spelled following line_with instruction_line
jnz = refl

-- data as stored
pub tsl : instruction_line (0x1A ∷ 0x94 ∷ 0x04 ∷ 0xFF ∷ 0xFB ∷ []) 0x1005 (Tsl (record { mm = 0; aa = 1; wide = false })) none ≡ ascii "TSL [GA].004H,0FFH,01000H\n"
unfolding extended offset_length hex_glyph hex_digits number_text digit_text is_jump mnemonic_of after_offset slots_of target_of filled register_name base_name mode_text spelled following line_with instruction_line
tsl = refl

-- ADDI to TP; the target wraps
pub jump : instruction_line (0x91 ∷ 0x20 ∷ 0xFC ∷ 0xEF ∷ []) 0x1004 (RegisterImmediate Work.Add 4 true) none ≡ ascii "LJMP 00000H\n"
unfolding extended offset_length hex_glyph hex_digits number_text digit_text is_jump mnemonic_of after_offset slots_of target_of filled register_name base_name mode_text spelled following line_with instruction_line
jump = refl

-- the bit between
pub test : instruction_line (0x6A ∷ 0xBE ∷ 0x01 ∷ 0x05 ∷ []) 0x1004 (JumpBit true 3 (record { mm = 2; aa = 1; wide = false }) false) none ≡ ascii "JBT [GC].001H,3,01009H\n"
unfolding extended offset_length hex_glyph hex_digits number_text digit_text is_jump mnemonic_of after_offset slots_of target_of filled register_name base_name mode_text spelled following line_with instruction_line
test = refl

-- bytes of a CALL with W 0
pub data-call : data_line (0x88 ∷ 0x9C ∷ 0x05 ∷ []) ≡ ascii "DB 088H,09CH,005H\n"
unfolding hex_glyph hex_digits number_text data_items data_line
data-call = refl
