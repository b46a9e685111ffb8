-- The way back: the entry of a word with operands, and the first pair that they stand for (§14.8).
use Rattle.std.specs.Prelude.{Bool, true, false, ◌&&◌, List, [], ◌∷◌, ℕ, ◌+◌, eqb}
use Rattle.ground_rules.specs.Choice.{pick}
use Rattle.instruction_rules.specs.declared.Memory.{Memory}
use Rattle.instruction_rules.specs.declared.Pair.{Pair}
use Rattle.instruction_rules.specs.declared.Shape.{Shape}
use Rattle.listing_rules.specs.Characters.{same_text}
use Rattle.listing_rules.specs.Forms.{Operand, slots_of, filled}
use Rattle.listing_rules.specs.Forms.Operand.{none, register, memory, number, digit}
use Rattle.listing_rules.specs.Entries.{OperandKind, Entry, entry, entries}
use Rattle.listing_rules.specs.Entries.OperandKind.{'R, 'G, 'P, 'M, 'byte, 'word, 'bit, 'width, 'short, 'long}

-- what kind of operand fits a place, and what an operand is: 1 register, 2 memory, 3 number, 4 digit
unfoldable pub asked : OperandKind → ℕ
asked 'R = 1
asked 'G = 1
asked 'P = 1
asked 'M = 2
asked 'byte = 3
asked 'word = 3
asked 'bit = 4
asked 'width = 4
asked 'short = 3
asked 'long = 3

unfoldable pub offered : Operand → ℕ
offered none = 0
offered (register r) = 1
offered (memory m a o) = 2
offered (number b) = 3
offered (digit n) = 4

unfoldable pub fits_form : List OperandKind → List Operand → Bool
fits_form [] [] = true
fits_form [] (o ∷ os) = false
fits_form (k ∷ ks) [] = false
fits_form (k ∷ ks) (o ∷ os) = eqb (asked k) (offered o) && fits_form ks os

-- the entry of a word with these operands
unfoldable pub entry_for : List Entry → List ℕ → List Operand → Entry
entry_for [] word os = entry [] [] 0 0 0 0
entry_for (e ∷ es) word os = pick (same_text e.word word && fits_form e.kinds os) e (entry_for es word os)

-- RRR: the register, the bit, the widths, or what the entry says
unfoldable pub digits_in : ℕ → List Operand → ℕ
digits_in n [] = n
digits_in n (none ∷ os) = n
digits_in n (register r ∷ os) = n
digits_in n (memory m a o ∷ os) = n
digits_in n (number b ∷ os) = n
digits_in n (digit k ∷ os) = 4 + pick (eqb n 16) 2 0 + pick (eqb k 16) 1 0

unfoldable pub rrr_in : ℕ → List Operand → ℕ
rrr_in d [] = d
rrr_in d (none ∷ os) = rrr_in d os
rrr_in d (register r ∷ os) = r
rrr_in d (memory m a o ∷ os) = rrr_in d os
rrr_in d (number b ∷ os) = rrr_in d os
rrr_in d (digit n ∷ os) = digits_in n os

-- MM and AA: those of the last memory operand, which is the source of MOV M,M
unfoldable pub mm_in : ℕ → List Operand → ℕ
mm_in d [] = d
mm_in d (none ∷ os) = mm_in d os
mm_in d (register r ∷ os) = mm_in d os
mm_in d (memory m a o ∷ os) = mm_in m os
mm_in d (number b ∷ os) = mm_in d os
mm_in d (digit n ∷ os) = mm_in d os

unfoldable pub aa_in : ℕ → List Operand → ℕ
aa_in d [] = d
aa_in d (none ∷ os) = aa_in d os
aa_in d (register r ∷ os) = aa_in d os
aa_in d (memory m a o ∷ os) = aa_in a os
aa_in d (number b ∷ os) = aa_in d os
aa_in d (digit n ∷ os) = aa_in d os

unfoldable pub pair_from : Entry → List Operand → Pair
pair_from e os = record { rrr = rrr_in e.rrr os; dd = e.dd; aa = aa_in 0 os; w = e.w; opcode = e.opcode; mm = mm_in 0 os }

-- the first pair of a word with operands
unfoldable pub pair_back : List ℕ → List Operand → Pair
pair_back word os = pair_from (entry_for entries word os) os

-- the operands of an instruction
unfoldable pub operands_of : Shape → Memory → List ℕ → ℕ → List Operand
operands_of s to bytes end =
    let p = slots_of s to in
    filled bytes end p.first ∷ filled bytes end p.second ∷ filled bytes end p.third ∷ []
