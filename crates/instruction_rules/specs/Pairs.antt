-- The six fields of a pair of bytes, and what a column of the instruction summary asks of a field.
use Rattle.std.specs.Prelude.{Bool, true, ◌&&◌, ◌||◌, ℕ, eqb, ltb, leb}
use Rattle.ground_rules.specs.Bits.{field_of}
use Rattle.instruction_rules.specs.declared.Memory.{Memory}
use Rattle.instruction_rules.specs.declared.Pair.{Pair}

-- the first byte is RRR, dd, AA and W, the second the opcode and MM, from the highest bit down (§6.1)
unfoldable pub pair_of : ℕ → ℕ → Pair
pair_of first second =
    record {
      rrr = field_of first 5 3;
      dd = field_of first 3 2;
      aa = field_of first 1 2;
      w = field_of first 0 1;
      opcode = field_of second 2 6;
      mm = field_of second 0 2;
    }

-- W: 1 for a word
abbrev pub wide_of : Pair → Bool
wide_of p = eqb p.w 1

-- dd: 10 for two bytes
abbrev pub two_of : Pair → Bool
two_of p = eqb p.dd 2

-- the memory operand that a pair gives
abbrev pub memory_of : Pair → Memory
memory_of p = record { mm = p.mm; aa = p.aa; wide = wide_of p }

-- what the summary prints in a column: bits, or a mark. 1SD is WID's RRR
pub data Column : Type 0 where
  '0 '1 : Column
  '00 '10 '11 : Column
  '000 '001 '010 '011 '100 '1SD : Column
  'RRR 'PPP 'BBB 'dd 'wb 'AA 'W 'MM : Column

-- whether a field, beside W, is as its column asks (§6.2): bits that are printed must be there; PPP is a pointer; dd is 01 or 10, and wb is the one of them that W asks for
abbrev pub meets : Column → ℕ → ℕ → Bool
meets '0 w field = eqb field 0b0
meets '1 w field = eqb field 0b1
meets '00 w field = eqb field 0b00
meets '10 w field = eqb field 0b10
meets '11 w field = eqb field 0b11
meets '000 w field = eqb field 0b000
meets '001 w field = eqb field 0b001
meets '010 w field = eqb field 0b010
meets '011 w field = eqb field 0b011
meets '100 w field = eqb field 0b100
meets '1SD w field = leb 0b100 field && leb field 0b111
meets 'RRR w field = true
meets 'PPP w field = ltb field 3 || eqb field 4
meets 'BBB w field = true
meets 'dd w field = eqb field 0b01 || eqb field 0b10
meets 'wb w field = eqb w 0 && eqb field 0b01 || eqb w 1 && eqb field 0b10
meets 'AA w field = true
meets 'W w field = true
meets 'MM w field = true

-- whether RRR, dd, AA, W and MM are as their columns print them
abbrev pub columns : Column → Column → Column → Column → Column → Pair → Bool
columns r d a w m p =
    meets r p.w p.rrr && (meets m p.w p.mm && (meets a p.w p.aa && (meets w p.w p.w && meets d p.w p.dd)))
