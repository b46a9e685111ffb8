-- Listings worked out: each from address 1000h.
-- Assumes nothing.
use mathlib.Core.Path.{◌≡◌, refl}
use mathlib.Core.List.{[], ◌∷◌}
use Rattle.ground_rules.specs.Bits.{field_of, bit_of}
use Rattle.ground_rules.specs.Signs.{extended}
use Rattle.instruction_rules.specs.Pairs.{pair_of}
use Rattle.instruction_rules.specs.Table.{table}
use Rattle.instruction_rules.specs.Reading.{lookup, decode_of, second_of}
use Rattle.instruction_rules.specs.Lengths.{offset_length, data_length, displacement_length, length_of}
use Rattle.listing_rules.specs.Characters.{ascii, hex_glyph, hex_digits, number_text, digit_text}
use Rattle.listing_rules.specs.Mnemonics.{is_jump, mnemonic_of}
use Rattle.listing_rules.specs.Forms.{after_offset, slots_of, target_of, filled, register_name, base_name, mode_text, spelled, following}
use Rattle.listing_rules.specs.Lines.{line_with, instruction_line, data_items, data_line}
use Rattle.listing_rules.specs.Items.{to_of, whole_of, read_of, item_of}
use Rattle.listing_rules.specs.Listings.{chars_of, line_at, lines_by, lines_of, all_chars, all_bytes, kept_in, listing, placed, listing_of}

-- two jumps, the second from its own end
pub jumps : all_chars (lines_of 0x1000 (0xA8 ∷ 0x40 ∷ 0xFD ∷ 0x88 ∷ 0x20 ∷ 0xFE ∷ [])) ≡ ascii "JNZ IX,01000H\nJMP 01004H\n"
unfolding field_of bit_of extended pair_of table lookup decode_of second_of offset_length data_length displacement_length length_of hex_glyph hex_digits number_text digit_text is_jump mnemonic_of after_offset slots_of target_of filled register_name base_name mode_text spelled following line_with instruction_line data_items data_line to_of whole_of read_of item_of chars_of line_at lines_by lines_of all_chars
jumps = refl

-- MOV R,M with each register, base and mode, by RRR, MM and AA
pub all-names : all_chars (lines_of 0x1000
    (0x01 ∷ 0x80 ∷ 0x21 ∷ 0x81 ∷ 0x41 ∷ 0x82 ∷ 0x61 ∷ 0x83 ∷ 0x81 ∷ 0x80 ∷ 0xA3 ∷ 0x80 ∷ 0xEF ∷ 0xC5 ∷ 0x80 ∷ 0xE7 ∷ 0x80 ∷ []))
    ≡ ascii "MOV GA,[GA]\nMOV GB,[GB]\nMOV GC,[GC]\nMOV BC,[PP]\nMOV TP,[GA]\nMOV IX,[GA].0EFH\nMOV CC,[GA+IX]\nMOV MC,[GA+IX+]\n"
unfolding jumps
all-names = refl

-- a second pair with its offset byte, and what follows it
pub mov : all_chars (lines_of 0x1000 (0x02 ∷ 0x93 ∷ 0x08 ∷ 0x02 ∷ 0xCE ∷ 0x01 ∷ 0x20 ∷ 0x48 ∷ [])) ≡ ascii "MOVB [GC].001H,[PP].008H\nHLT\n"
unfolding field_of bit_of extended pair_of table lookup decode_of second_of offset_length data_length displacement_length length_of hex_glyph hex_digits number_text digit_text is_jump mnemonic_of after_offset slots_of target_of filled register_name base_name mode_text spelled following line_with instruction_line data_items data_line to_of whole_of read_of item_of chars_of line_at lines_by lines_of all_chars
mov = refl

-- CC used: one byte as data, then on at the next
pub refused : all_chars (lines_of 0x1000 (0xC0 ∷ 0x38 ∷ 0x00 ∷ 0x00 ∷ [])) ≡ ascii "DB 0C0H\nDB 038H\nNOP\n"
unfolding field_of bit_of extended pair_of table lookup decode_of second_of offset_length data_length displacement_length length_of hex_glyph hex_digits number_text digit_text is_jump mnemonic_of after_offset slots_of target_of filled register_name base_name mode_text spelled following line_with instruction_line data_items data_line to_of whole_of read_of item_of chars_of line_at lines_by lines_of all_chars
refused = refl

-- cut off behind the pair
pub cut_off : all_chars (lines_of 0x1000 (0x08 ∷ 0x30 ∷ [])) ≡ ascii "DB 008H\nDB 030H\n"
unfolding field_of bit_of extended pair_of table lookup decode_of second_of offset_length data_length displacement_length length_of hex_glyph hex_digits number_text digit_text is_jump mnemonic_of after_offset slots_of target_of filled register_name base_name mode_text spelled following line_with instruction_line data_items data_line to_of whole_of read_of item_of chars_of line_at lines_by lines_of all_chars
cut_off = refl

-- a second pair of the other width
pub unpaired : all_chars (lines_of 0x1000 (0x00 ∷ 0x90 ∷ 0x01 ∷ 0xCC ∷ [])) ≡ ascii "DB 000H\nDB 090H\nDB 001H\nDB 0CCH\n"
unfolding field_of bit_of extended pair_of table lookup decode_of second_of offset_length data_length displacement_length length_of hex_glyph hex_digits number_text digit_text is_jump mnemonic_of after_offset slots_of target_of filled register_name base_name mode_text spelled following line_with instruction_line data_items data_line to_of whole_of read_of item_of chars_of line_at lines_by lines_of all_chars
unpaired = refl

-- CALL with W 0 as data, with W 1 as a word
pub call : all_chars (lines_of 0x1000 (0x92 ∷ 0x9D ∷ 0x04 ∷ 0x00 ∷ 0x01 ∷ 0x89 ∷ 0x9E ∷ 0x05 ∷ [])) ≡ ascii "DB 092H,09DH,004H,000H,001H\nCALL [GC],0100DH\n"
unfolding field_of bit_of extended pair_of table lookup decode_of second_of offset_length data_length displacement_length length_of hex_glyph hex_digits number_text digit_text is_jump mnemonic_of after_offset slots_of target_of filled register_name base_name mode_text spelled following line_with instruction_line data_items data_line to_of whole_of read_of item_of chars_of line_at lines_by lines_of all_chars
call = refl

-- a buffer of nine characters has room for HLT and not for the line after it, of which nothing is written
pub stopped : listing_of (0x20 ∷ 0x48 ∷ 0xE0 ∷ 0x2C ∷ []) 0x1000 (1 ∷ 2 ∷ 3 ∷ 4 ∷ 5 ∷ 6 ∷ 7 ∷ 8 ∷ 9 ∷ []) ≡ listing 4 2 (0x48 ∷ 0x4C ∷ 0x54 ∷ 0x0A ∷ 5 ∷ 6 ∷ 7 ∷ 8 ∷ 9 ∷ [])
unfolding field_of bit_of extended pair_of table lookup decode_of second_of offset_length data_length displacement_length length_of hex_glyph hex_digits number_text digit_text is_jump mnemonic_of after_offset slots_of target_of filled register_name base_name mode_text spelled following line_with instruction_line data_items data_line to_of whole_of read_of item_of chars_of line_at lines_by lines_of all_chars all_bytes kept_in placed listing_of
stopped = refl
