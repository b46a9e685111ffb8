-- What a pair of bytes is by the table, and the number that is handed back for each answer.
use Rattle.std.specs.Prelude.{Bool, false, ◌&&◌, ◌||◌, List, [], ◌∷◌, ℕ, eqb, Ok, Err, Option, Some, None}
use Rattle.ground_rules.specs.Choice.{pick}
use Rattle.ground_rules.specs.Refusals.{number_of}
use Rattle.instruction_rules.specs.declared.Memory.{Memory}
use Rattle.instruction_rules.specs.Pairs.{pair_of, memory_of, columns}
use Rattle.instruction_rules.specs.Pairs.Column.{'0, '1, '00, '000, 'AA, 'MM}
use Rattle.instruction_rules.specs.Rows.{is_control}
use Rattle.instruction_rules.specs.declared.Pair.{Pair}
use Rattle.instruction_rules.specs.Decoded.{Decoded}
use Rattle.instruction_rules.specs.Unread.{refusal_of}
use Rattle.instruction_rules.specs.declared.Unread.TheVariants.{NoInstruction, ControlUsed}
use Rattle.instruction_rules.specs.Table.{SummaryRow, table}

-- whether a pair is of a row: it has the row's opcode, and its other fields are as the columns print them
abbrev pub fits : SummaryRow → Pair → Bool
fits r p = eqb p.opcode r.opcode && columns r.rrr r.dd r.aa r.w r.mm p

-- the answer of the row that a pair is of, and 3 where it is of none
unfoldable pub lookup : List SummaryRow → Pair → Decoded
lookup [] p = Err NoInstruction
lookup (r ∷ rs) p = pick (fits r p) (pick (r.control && is_control p) (Err ControlUsed) (Ok (r.shape p))) (lookup rs p)

-- what the first two bytes of an instruction are
unfoldable pub decode_of : ℕ → ℕ → Decoded
decode_of first second = lookup table (pair_of first second)

-- the number for each answer to a first pair
abbrev pub decoded_number : Decoded → ℕ
decoded_number (Ok shape) = 0
decoded_number (Err unread) = number_of (refusal_of unread)

-- whether some of the rows fits a pair
unfoldable pub fits_some : List SummaryRow → Pair → Bool
fits_some [] p = false
fits_some (r ∷ rs) p = fits r p || fits_some rs p

-- whether some of the rows that fit a pair is one at which RRR 6 is a use of CC
unfoldable pub uses_control : List SummaryRow → Pair → Bool
uses_control [] p = false
uses_control (r ∷ rs) p = fits r p && r.control || uses_control rs p

-- the second pair of MOV M,M: opcode 33h, the W of the first pair, RRR and dd 0 (§6.5)
unfoldable pub second_of : ℕ → ℕ → Bool → Option Memory
second_of first second wide =
    let p = pair_of first second in
    pick (eqb p.opcode 0x33 && columns '000 '00 'AA (pick wide '1 '0) 'MM p) (Some (memory_of p)) None

-- the number for each answer to a second pair
abbrev pub second_number_of : Option Memory → ℕ
second_number_of (Some m) = 0
second_number_of None = 3
