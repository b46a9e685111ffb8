-- Whole texts assembled: lines of the listing at 1000h, labels, each number with its line.
-- Assumes nothing.
use mathlib.Core.Bool.{Bool, true, false}
use mathlib.Core.Path.{◌≡◌, refl}
use mathlib.Core.List.{List, [], ◌∷◌}
use Prim.Native.String.{String}
use Rattle.listing_rules.specs.Characters.{ascii, same_text}
use Rattle.listing_rules.specs.Entries.{OperandKind, entries}
use Rattle.listing_rules.specs.Entries.OperandKind.{'R, 'G, 'P}
use Rattle.listing_rules.specs.Back.{digits_in, rrr_in, mm_in, aa_in, pair_from}
use Rattle.assembly_rules.specs.Text.{capital_of, is_digit, is_capital, is_run, is_blank, ends_line, in_front_of, begun_by, tokens_of, cut_at, lines_in}
use Rattle.assembly_rules.specs.Numbers.{digit_value, is_radix, radix_of, last_of, but_last, digits_from, constant_digits, constant_of}
use Rattle.assembly_rules.specs.Sums.{Label, label, index_in, register_number, is_term, role_of, scanned, scan_from, is_sum, depth_of, label_worth, combined_worth, rest_with, sum_with, run_read, term_by, term_of, sum_within, sum_worth}
use Rattle.assembly_rules.specs.Operands.{closed_memory, ended_memory, indexed_memory, memory_behind, memory_from, operand_from, operands_from, takes, takes_all, has_word, entry_in, is_shallow, all_shallow}
use Rattle.assembly_rules.specs.Operands.Written.{register}
use Rattle.assembly_rules.specs.Statements.{headed_by, all_sums, all_low, items_from, word_statement, statement_of, kinds_size, offsets_size, memories_in, statement_size, is_byte, reach_to, may_stand, operand_worth, names_known, all_stand, items_known, items_stand, statement_number, pair_bytes, listed_as, listed_all, all_offsets, all_numbers, move_bytes, instruction_bytes, items_bytes, statement_bytes}
use Rattle.assembly_rules.specs.Assembly.{said_by, said_in, is_reserved, may_keep, kept_with, labels_from, label_stands, line_number, Assembled, assembled, assembled_from, assemble_of}

abbrev from1000 : String → Assembled
from1000 text = assemble_of (ascii text) 0x1000 100

lines-told :
    (from1000 "NOP\nwid 8,16" ≡ assembled 0 0 (0x00 ∷ 0x00 ∷ 0xA0 ∷ 0x00 ∷ []))
    × (from1000 "MOVB [GC].001H,[PP].008H" ≡ assembled 0 0 (0x02 ∷ 0x93 ∷ 0x08 ∷ 0x02 ∷ 0xCE ∷ 0x01 ∷ []))
    × (from1000 "LPDI TP,02000H,0" ≡ assembled 0 0 (0x91 ∷ 0x08 ∷ 0x00 ∷ 0x20 ∷ 0x00 ∷ 0x00 ∷ []))
    × (from1000 "TSL [GA].4,0FFH,01000H" ≡ assembled 0 0 (0x1A ∷ 0x94 ∷ 0x04 ∷ 0xFF ∷ 0xFB ∷ []))
    × (from1000 "X: JNZ IX,X" ≡ assembled 0 0 (0xA8 ∷ 0x40 ∷ 0xFD ∷ []))
    × (from1000 "LCALL [GC].4,01105H" ≡ assembled 0 0 (0x93 ∷ 0x9E ∷ 0x04 ∷ 0x00 ∷ 0x01 ∷ []))
    × (from1000 "DB 1,-1\nA:DW A" ≡ assembled 0 0 (0x01 ∷ 0xFF ∷ 0x02 ∷ 0x10 ∷ []))
unfolding assemble_of assembled_from line_number label_stands labels_from kept_with may_keep is_reserved said_in said_by statement_bytes items_bytes instruction_bytes move_bytes all_numbers all_offsets listed_all listed_as pair_bytes statement_number items_stand items_known all_stand names_known operand_worth may_stand reach_to is_byte statement_size memories_in offsets_size kinds_size statement_of word_statement items_from all_low all_sums headed_by all_shallow is_shallow entry_in has_word takes_all takes operands_from operand_from memory_from memory_behind indexed_memory ended_memory closed_memory sum_worth sum_within term_of term_by run_read sum_with rest_with combined_worth label_worth depth_of is_sum scan_from scanned role_of is_term register_number index_in constant_of constant_digits digits_from but_last last_of radix_of is_radix digit_value lines_in cut_at tokens_of begun_by in_front_of ends_line is_blank is_run is_capital is_digit capital_of pair_from aa_in mm_in rrr_in digits_in entries same_text
lines-told = (refl, refl, refl, refl, refl, refl, refl)

-- each number at its line; nothing is stored before it
numbers-told :
    (from1000 "NOP\nFOO" ≡ assembled 30 2 [])
    × (from1000 "X: Y: NOP" ≡ assembled 30 1 [])
    × (from1000 "2ND: NOP" ≡ assembled 30 1 [])
    × (from1000 "MOV CC,0C208H" ≡ assembled 31 1 [])
    × (from1000 "ADD CC,[GA]" ≡ assembled 31 1 [])
    × (from1000 "MOV [TP],GA" ≡ assembled 31 1 [])
    × (from1000 "MOV GA,[GA+IX].5" ≡ assembled 31 1 [])
    × (from1000 "DB" ≡ assembled 31 1 [])
    × (from1000 "DB (((((((((1" ≡ assembled 31 1 [])
    × (from1000 "DB (((((((((1)))))))))" ≡ assembled 32 1 [])
    × (from1000 "JMP Q\nFOO" ≡ assembled 33 1 [])
    × (from1000 "X: NOP\nX: NOP\nDW X" ≡ assembled 33 2 [])
    × (from1000 "NOP: HLT" ≡ assembled 33 1 [])
    × (from1000 "A123456789ABC: NOP" ≡ assembled 33 1 [])
    × (from1000 "DB Q,300" ≡ assembled 33 1 [])
    × (from1000 "DB 0FF7FH" ≡ assembled 34 1 [])
    × (from1000 "DB 256" ≡ assembled 34 1 [])
    × (from1000 "CLR [GA],8" ≡ assembled 34 1 [])
    × (from1000 "WID 8,9" ≡ assembled 34 1 [])
    × (from1000 "JMP 01083H" ≡ assembled 34 1 [])
    × (from1000 "JMP 00F82H" ≡ assembled 34 1 [])
    × (assemble_of (ascii "NOP\nNOP") 0 3 ≡ assembled 35 2 [])
unfolding assemble_of assembled_from line_number label_stands labels_from kept_with may_keep is_reserved said_in said_by statement_bytes items_bytes instruction_bytes move_bytes all_numbers all_offsets listed_all listed_as pair_bytes statement_number items_stand items_known all_stand names_known operand_worth may_stand reach_to is_byte statement_size memories_in offsets_size kinds_size statement_of word_statement items_from all_low all_sums headed_by all_shallow is_shallow entry_in has_word takes_all takes operands_from operand_from memory_from memory_behind indexed_memory ended_memory closed_memory sum_worth sum_within term_of term_by run_read sum_with rest_with combined_worth label_worth depth_of is_sum scan_from scanned role_of is_term register_number index_in constant_of constant_digits digits_from but_last last_of radix_of is_radix digit_value lines_in cut_at tokens_of begun_by in_front_of ends_line is_blank is_run is_capital is_digit capital_of pair_from aa_in mm_in rrr_in digits_in entries same_text
numbers-told = (refl, refl, refl, refl, refl, refl, refl, refl, refl, refl, refl, refl, refl, refl, refl, refl, refl, refl, refl, refl, refl, refl)

-- and what is just allowed
borders-told :
    (from1000 "DB 0FF80H,255" ≡ assembled 0 0 (0x80 ∷ 0xFF ∷ []))
    × (from1000 "JMP 01082H" ≡ assembled 0 0 (0x88 ∷ 0x20 ∷ 0x7F ∷ []))
    × (from1000 "JMP 00F83H" ≡ assembled 0 0 (0x88 ∷ 0x20 ∷ 0x80 ∷ []))
    × (assemble_of (ascii "JMP 5") 65535 3 ≡ assembled 0 0 (0x88 ∷ 0x20 ∷ 0x03 ∷ []))
    × (from1000 "A123456789AB: DW A123456789AB" ≡ assembled 0 0 (0x00 ∷ 0x10 ∷ []))
    × (from1000 "; nothing\r\n\n X :" ≡ assembled 0 0 [])
    × (from1000 "ADDBI tp,5" ≡ from1000 "JMP 01008H")
unfolding assemble_of assembled_from line_number label_stands labels_from kept_with may_keep is_reserved said_in said_by statement_bytes items_bytes instruction_bytes move_bytes all_numbers all_offsets listed_all listed_as pair_bytes statement_number items_stand items_known all_stand names_known operand_worth may_stand reach_to is_byte statement_size memories_in offsets_size kinds_size statement_of word_statement items_from all_low all_sums headed_by all_shallow is_shallow entry_in has_word takes_all takes operands_from operand_from memory_from memory_behind indexed_memory ended_memory closed_memory sum_worth sum_within term_of term_by run_read sum_with rest_with combined_worth label_worth depth_of is_sum scan_from scanned role_of is_term register_number index_in constant_of constant_digits digits_from but_last last_of radix_of is_radix digit_value lines_in cut_at tokens_of begun_by in_front_of ends_line is_blank is_run is_capital is_digit capital_of pair_from aa_in mm_in rrr_in digits_in entries same_text
borders-told = (refl, refl, refl, refl, refl, refl, refl)

-- the labels of a text: a line that 30 to 32 refuse has no bytes, one that 33 or 34 refuse has them all
abbrev labels_at_zero : String → List Label
labels_at_zero text = labels_from [] 0 (said_in (lines_in (ascii text)))

addresses-told :
    (labels_at_zero "FOO\nX:" ≡ label (ascii "X") 0 ∷ [])
    × (labels_at_zero "DB (((((((((1)))))))))\nX:" ≡ label (ascii "X") 0 ∷ [])
    × (labels_at_zero "JMP Q\nX: WID 9,9\nY:" ≡ label (ascii "X") 3 ∷ label (ascii "Y") 5 ∷ [])
    × (labels_at_zero "X: FOO\nX: NOP\nY:" ≡ label (ascii "X") 0 ∷ label (ascii "Y") 2 ∷ [])
unfolding assemble_of assembled_from line_number label_stands labels_from kept_with may_keep is_reserved said_in said_by statement_bytes items_bytes instruction_bytes move_bytes all_numbers all_offsets listed_all listed_as pair_bytes statement_number items_stand items_known all_stand names_known operand_worth may_stand reach_to is_byte statement_size memories_in offsets_size kinds_size statement_of word_statement items_from all_low all_sums headed_by all_shallow is_shallow entry_in has_word takes_all takes operands_from operand_from memory_from memory_behind indexed_memory ended_memory closed_memory sum_worth sum_within term_of term_by run_read sum_with rest_with combined_worth label_worth depth_of is_sum scan_from scanned role_of is_term register_number index_in constant_of constant_digits digits_from but_last last_of radix_of is_radix digit_value lines_in cut_at tokens_of begun_by in_front_of ends_line is_blank is_run is_capital is_digit capital_of pair_from aa_in mm_in rrr_in digits_in entries same_text
addresses-told = (refl, refl, refl, refl)

-- the registers GA GB GC BC TP IX CC MC that R, G and P take
abbrev taken_by : OperandKind → List Bool
taken_by k = takes k (register 0) ∷ takes k (register 1) ∷ takes k (register 2) ∷ takes k (register 3) ∷ takes k (register 4) ∷ takes k (register 5) ∷ takes k (register 6) ∷ takes k (register 7) ∷ []

registers-taken :
    (taken_by 'R ≡ true ∷ true ∷ true ∷ true ∷ true ∷ true ∷ true ∷ true ∷ [])
    × (taken_by 'G ≡ true ∷ true ∷ true ∷ true ∷ true ∷ true ∷ false ∷ true ∷ [])
    × (taken_by 'P ≡ true ∷ true ∷ true ∷ false ∷ true ∷ false ∷ false ∷ false ∷ [])
unfolding takes
registers-taken = (refl, refl, refl)
