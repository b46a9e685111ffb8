-- The decoder's table as the code has it: a cell for each opcode, and the rows of the instruction summary that a cell stands for.
use Rattle.std.specs.Prelude.{Bool, List, [], ◌∷◌, ℕ, ◌+◌, ◌/◌, ◌%◌, eqb, leb, get_or}
use Rattle.ground_rules.specs.Bits.{field_of, bit_of}
use Rattle.ground_rules.specs.Choice.{pick}
use Rattle.instruction_rules.specs.Pairs.{wide_of, two_of, memory_of}
use Rattle.instruction_rules.specs.Pairs.Column.{'0, '1, '00, '10, '11, '000, '001, '010, '011, '100, '1SD, 'RRR, 'PPP, 'BBB, 'dd, 'wb, 'AA, 'W, 'MM}
use Rattle.instruction_rules.specs.declared.Memory.{Memory}
use Rattle.instruction_rules.specs.declared.Pair.{Pair}
use Rattle.instruction_rules.specs.declared.Work.{Work}
use Rattle.instruction_rules.specs.declared.Single.{Single}
use Rattle.instruction_rules.specs.declared.Shape.{Shape}
use Rattle.instruction_rules.specs.declared.Shape.TheVariants.{Nop, Sintr, Xfer, Wid, Hlt, Lpdi, RegisterImmediate, Register, JumpRegister, RegisterMemory, MemoryRegister, MemoryImmediate, MemoryAlone, JumpMemory, Lpd, MovpLoad, MovpStore, MovMemory, Tsl, Call, JumpMasked, JumpBit, Bit}
use Rattle.instruction_rules.specs.Lengths.{offset_by, more_by, two_by}
use Rattle.instruction_rules.specs.Table.{SummaryRow, row, refuses, accepts}

-- the cells of the opcodes 00 to 3F: the first digit is the form of a row, the second what rows of one form differ in
unfoldable pub cells : List ℕ
cells =
    0x10 ∷ 0x01 ∷ 0xF0 ∷ 0x03 ∷ 0x04 ∷ 0x05 ∷ 0x06 ∷ 0x07
    ∷ 0x21 ∷ 0x22 ∷ 0x23 ∷ 0x30 ∷ 0x20 ∷ 0x0D ∷ 0x31 ∷ 0x32
    ∷ 0x40 ∷ 0x41 ∷ 0x11 ∷ 0x50 ∷ 0x04 ∷ 0x05 ∷ 0x06 ∷ 0x07
    ∷ 0x08 ∷ 0x09 ∷ 0x0A ∷ 0x0B ∷ 0x0C ∷ 0x0D ∷ 0x0E ∷ 0x0F
    ∷ 0x60 ∷ 0x70 ∷ 0x90 ∷ 0x91 ∷ 0xF1 ∷ 0xE1 ∷ 0x92 ∷ 0xE0
    ∷ 0x61 ∷ 0x62 ∷ 0x63 ∷ 0x64 ∷ 0xB1 ∷ 0xB0 ∷ 0xC0 ∷ 0xC1
    ∷ 0x51 ∷ 0x52 ∷ 0x53 ∷ 0x03 ∷ 0x71 ∷ 0x72 ∷ 0x73 ∷ 0x80
    ∷ 0xA0 ∷ 0xA1 ∷ 0x81 ∷ 0x82 ∷ 0x0C ∷ 0xD1 ∷ 0xD0 ∷ 0x0F
    ∷ []

-- the cell of the opcode in the second byte of a pair
unfoldable pub cell_of : ℕ → ℕ
cell_of second = get_or cells (field_of second 2 6) 0

-- the work that a second digit stands for
abbrev pub work_by : ℕ → Work
work_by n = pick (eqb n 0) Work.Mov (pick (eqb n 1) Work.Add (pick (eqb n 2) Work.Or (pick (eqb n 3) Work.And Work.Not)))

-- the work on one operand that a second digit stands for
abbrev pub single_by : ℕ → Single
single_by n = pick (eqb n 0) Single.Not (pick (eqb n 1) Single.Inc Single.Dec)

-- LPD, MOVP P,M or MOVP M,P, as a second digit says
abbrev pub pointer_by : ℕ → ℕ → Memory → Shape
pointer_by n ppp m = pick (eqb n 0) (Lpd ppp m) (pick (eqb n 1) (MovpLoad ppp m) (MovpStore ppp m))

-- the control codes at an opcode: RRR says which one, and WID has a range of it
unfoldable pub control_rows : ℕ → List SummaryRow
control_rows k =
    row '010 '00 '00 '0 k '00 accepts (λ p. Sintr)
    ∷ row '000 '00 '00 '0 k '00 accepts (λ p. Nop)
    ∷ row '011 '00 '00 '0 k '00 accepts (λ p. Xfer)
    ∷ row '1SD '00 '00 '0 k '00 accepts (λ p. Wid (bit_of p.rrr 1) (bit_of p.rrr 0))
    ∷ []

-- the rows of each form at an opcode, by the second digit; work other than MOV refuses CC
unfoldable pub form_rows : ℕ → ℕ → List (List SummaryRow)
form_rows k n =
    []
    ∷ pick (eqb n 0) (control_rows k) (row '001 '00 '00 '0 k '00 accepts (λ p. Hlt) ∷ [])
    ∷ (row 'RRR 'wb '00 'W k '00 (leb 1 n) (λ p. RegisterImmediate (work_by n) p.rrr (wide_of p)) ∷ [])
    ∷ (row 'RRR '00 '00 '0 k '00 refuses (λ p. Register (single_by n) p.rrr) ∷ [])
    ∷ (row 'RRR 'dd '00 '0 k '00 refuses (λ p. JumpRegister (eqb n 1) p.rrr (two_of p)) ∷ [])
    ∷ (row '000 'wb 'AA 'W k 'MM accepts (λ p. MemoryImmediate (work_by n) (memory_of p)) ∷ [])
    ∷ (row 'RRR '00 'AA 'W k 'MM (leb 1 n) (λ p. RegisterMemory (work_by n) p.rrr (memory_of p)) ∷ [])
    ∷ (row 'RRR '00 'AA 'W k 'MM (leb 1 n) (λ p. MemoryRegister (work_by n) p.rrr (memory_of p)) ∷ [])
    ∷ (row '000 '00 'AA 'W k 'MM accepts (λ p. MemoryAlone (single_by n) (memory_of p)) ∷ [])
    ∷ (row 'PPP '00 'AA '1 k 'MM accepts (λ p. pointer_by n p.rrr (memory_of p)) ∷ [])
    ∷ (row '000 'dd 'AA 'W k 'MM accepts (λ p. JumpMemory (eqb n 1) (memory_of p) (two_of p)) ∷ [])
    ∷ (row '000 'dd 'AA '0 k 'MM accepts (λ p. JumpMasked (eqb n 1) (memory_of p) (two_of p)) ∷ [])
    ∷ (row 'BBB 'dd 'AA '0 k 'MM accepts (λ p. JumpBit (eqb n 1) p.rrr (memory_of p) (two_of p)) ∷ [])
    ∷ (row 'BBB '00 'AA '0 k 'MM accepts (λ p. Bit (eqb n 1) p.rrr (memory_of p)) ∷ [])
    ∷ (pick (eqb n 0) (row '100 'dd 'AA 'W k 'MM accepts (λ p. Call (memory_of p) (two_of p))) (row '000 '11 'AA '0 k 'MM accepts (λ p. Tsl (memory_of p))) ∷ [])
    ∷ (pick (eqb n 0) (row 'PPP '10 '00 '1 k '00 accepts (λ p. Lpdi p.rrr)) (row '000 '00 'AA 'W k 'MM accepts (λ p. MovMemory (memory_of p))) ∷ [])
    ∷ []

-- the rows that a cell stands for at an opcode
unfoldable pub cell_rows : ℕ → ℕ → List SummaryRow
cell_rows k cell = get_or (form_rows k (cell % 16)) (cell / 16) []

-- the forms with two bytes more than dd announces
abbrev pub long_cell : ℕ → Bool
long_cell cell = leb 0xF0 cell

-- the bytes of the instruction that a pair begins, by the cell of its opcode
unfoldable pub cell_length : ℕ → Pair → ℕ
cell_length cell p = 2 + offset_by p.aa + (more_by (eqb p.dd 1) + two_by (leb 2 p.dd)) + two_by (long_cell cell)
