-- The instruction summary, row by row: the first byte RRR dd AA W, the second opcode and MM (§6.3).
use Rattle.std.specs.Prelude.{Bool, true, false, List, [], ◌∷◌, ℕ}
use Rattle.ground_rules.specs.Bits.{bit_of}
use Rattle.instruction_rules.specs.Pairs.{Column, wide_of, two_of, memory_of}
use Rattle.instruction_rules.specs.Pairs.Column.{'0, '1, '00, '10, '11, '000, '001, '010, '011, '100, '1SD, 'RRR, 'PPP, 'BBB, 'dd, 'wb, 'AA, 'W, 'MM}
use Rattle.instruction_rules.specs.declared.Pair.{Pair}
use Rattle.instruction_rules.specs.declared.Work.{Work}
use Rattle.instruction_rules.specs.declared.Single.{Single}
use Rattle.instruction_rules.specs.declared.Shape.{Shape}
use Rattle.instruction_rules.specs.declared.Shape.TheVariants.{Nop, Sintr, Xfer, Wid, Hlt, Lpdi, RegisterImmediate, Register, JumpRegister, RegisterMemory, MemoryRegister, MemoryImmediate, MemoryAlone, JumpMemory, Lpd, MovpLoad, MovpStore, MovMemory, Tsl, Call, JumpMasked, JumpBit, Bit}

-- a row: its columns, whether RRR 6 is a use of CC that 4 refuses, and the shape that it makes of a pair
pub record SummaryRow : Type 0 where
  pub rrr : Column
  pub dd : Column
  pub aa : Column
  pub w : Column
  pub opcode : ℕ
  pub mm : Column
  pub control : Bool
  pub shape : Pair → Shape

-- a row from its columns, in the order in which the summary prints them
abbrev pub row : Column → Column → Column → Column → ℕ → Column → Bool → (Pair → Shape) → SummaryRow
row r d a w o m c s = record { rrr = r; dd = d; aa = a; w = w; opcode = o; mm = m; control = c; shape = s }

-- RRR 6 is a use of CC that 4 refuses
abbrev pub refuses : Bool
refuses = true

-- RRR 6 is no use of CC, or one by MOV or MOVI
abbrev pub accepts : Bool
accepts = false

-- the instruction summary, in its own order
unfoldable pub table : List SummaryRow
table =
    --    RRR  dd  AA  W  op   MM  CC       instruction  shape
    -- Data Transfers: pointer instructions
    row 'PPP '00 'AA '1 0x22 'MM accepts {- LPD P,M  -} (λ p. Lpd p.rrr (memory_of p))
    ∷ row 'PPP '10 '00 '1 0x02 '00 accepts {- LPDI P,I -} (λ p. Lpdi p.rrr)
    ∷ row 'PPP '00 'AA '1 0x26 'MM accepts {- MOVP M,P -} (λ p. MovpStore p.rrr (memory_of p))
    ∷ row 'PPP '00 'AA '1 0x23 'MM accepts {- MOVP P,M -} (λ p. MovpLoad p.rrr (memory_of p))
    -- Data Transfers: move data. The second pair of MOV M,M is no first pair: `second_of` reads it
    ∷ row '000 '00 'AA 'W 0x24 'MM accepts {- MOV M,M  -} (λ p. MovMemory (memory_of p))
    ∷ row 'RRR '00 'AA 'W 0x20 'MM accepts {- MOV R,M  -} (λ p. RegisterMemory Work.Mov p.rrr (memory_of p))
    ∷ row 'RRR '00 'AA 'W 0x21 'MM accepts {- MOV M,R  -} (λ p. MemoryRegister Work.Mov p.rrr (memory_of p))
    ∷ row 'RRR 'wb '00 'W 0x0C '00 accepts {- MOVI R   -} (λ p. RegisterImmediate Work.Mov p.rrr (wide_of p))
    ∷ row '000 'wb 'AA 'W 0x13 'MM accepts {- MOVI M   -} (λ p. MemoryImmediate Work.Mov (memory_of p))
    -- Control Transfer. CALL's W is free, and its AA may be 11; JMP is ADDI to TP
    ∷ row '100 'dd 'AA 'W 0x27 'MM accepts {- CALL     -} (λ p. Call (memory_of p) (two_of p))
    ∷ row '000 'dd 'AA 'W 0x39 'MM accepts {- JZ M     -} (λ p. JumpMemory true (memory_of p) (two_of p))
    ∷ row 'RRR 'dd '00 '0 0x11 '00 refuses {- JZ R     -} (λ p. JumpRegister true p.rrr (two_of p))
    ∷ row '000 'dd 'AA 'W 0x38 'MM accepts {- JNZ M    -} (λ p. JumpMemory false (memory_of p) (two_of p))
    ∷ row 'RRR 'dd '00 '0 0x10 '00 refuses {- JNZ R    -} (λ p. JumpRegister false p.rrr (two_of p))
    ∷ row 'BBB 'dd 'AA '0 0x2F 'MM accepts {- JBT      -} (λ p. JumpBit true p.rrr (memory_of p) (two_of p))
    ∷ row 'BBB 'dd 'AA '0 0x2E 'MM accepts {- JNBT     -} (λ p. JumpBit false p.rrr (memory_of p) (two_of p))
    ∷ row '000 'dd 'AA '0 0x2C 'MM accepts {- JMCE     -} (λ p. JumpMasked true (memory_of p) (two_of p))
    ∷ row '000 'dd 'AA '0 0x2D 'MM accepts {- JMCNE    -} (λ p. JumpMasked false (memory_of p) (two_of p))
    -- Arithmetic and Logic: increment, decrement
    ∷ row '000 '00 'AA 'W 0x3A 'MM accepts {- INC M    -} (λ p. MemoryAlone Single.Inc (memory_of p))
    ∷ row 'RRR '00 '00 '0 0x0E '00 refuses {- INC R    -} (λ p. Register Single.Inc p.rrr)
    ∷ row '000 '00 'AA 'W 0x3B 'MM accepts {- DEC M    -} (λ p. MemoryAlone Single.Dec (memory_of p))
    ∷ row 'RRR '00 '00 '0 0x0F '00 refuses {- DEC R    -} (λ p. Register Single.Dec p.rrr)
    -- Arithmetic and Logic: ADD
    ∷ row '000 'wb 'AA 'W 0x30 'MM accepts {- ADDI M,I -} (λ p. MemoryImmediate Work.Add (memory_of p))
    ∷ row 'RRR 'wb '00 'W 0x08 '00 refuses {- ADDI R,I -} (λ p. RegisterImmediate Work.Add p.rrr (wide_of p))
    ∷ row 'RRR '00 'AA 'W 0x34 'MM refuses {- ADD M,R  -} (λ p. MemoryRegister Work.Add p.rrr (memory_of p))
    ∷ row 'RRR '00 'AA 'W 0x28 'MM refuses {- ADD R,M  -} (λ p. RegisterMemory Work.Add p.rrr (memory_of p))
    -- Arithmetic and Logic: AND
    ∷ row '000 'wb 'AA 'W 0x32 'MM accepts {- ANDI M,I -} (λ p. MemoryImmediate Work.And (memory_of p))
    ∷ row 'RRR 'wb '00 'W 0x0A '00 refuses {- ANDI R,I -} (λ p. RegisterImmediate Work.And p.rrr (wide_of p))
    ∷ row 'RRR '00 'AA 'W 0x36 'MM refuses {- AND M,R  -} (λ p. MemoryRegister Work.And p.rrr (memory_of p))
    ∷ row 'RRR '00 'AA 'W 0x2A 'MM refuses {- AND R,M  -} (λ p. RegisterMemory Work.And p.rrr (memory_of p))
    -- Arithmetic and Logic: OR. ORI R,I has AA 00 as its sisters have
    ∷ row '000 'wb 'AA 'W 0x31 'MM accepts {- ORI M,I  -} (λ p. MemoryImmediate Work.Or (memory_of p))
    ∷ row 'RRR 'wb '00 'W 0x09 '00 refuses {- ORI R,I  -} (λ p. RegisterImmediate Work.Or p.rrr (wide_of p))
    ∷ row 'RRR '00 'AA 'W 0x35 'MM refuses {- OR M,R   -} (λ p. MemoryRegister Work.Or p.rrr (memory_of p))
    ∷ row 'RRR '00 'AA 'W 0x29 'MM refuses {- OR R,M   -} (λ p. RegisterMemory Work.Or p.rrr (memory_of p))
    -- Arithmetic and Logic: NOT
    ∷ row 'RRR '00 '00 '0 0x0B '00 refuses {- NOT R    -} (λ p. Register Single.Not p.rrr)
    ∷ row '000 '00 'AA 'W 0x37 'MM accepts {- NOT M    -} (λ p. MemoryAlone Single.Not (memory_of p))
    ∷ row 'RRR '00 'AA 'W 0x2B 'MM refuses {- NOT R,M  -} (λ p. RegisterMemory Work.Not p.rrr (memory_of p))
    -- Bit Manipulation and Test
    ∷ row 'BBB '00 'AA '0 0x3D 'MM accepts {- SETB     -} (λ p. Bit true p.rrr (memory_of p))
    ∷ row 'BBB '00 'AA '0 0x3E 'MM accepts {- CLR      -} (λ p. Bit false p.rrr (memory_of p))
    ∷ row '000 '11 'AA '0 0x25 'MM accepts {- TSL      -} (λ p. Tsl (memory_of p))
    -- Control
    ∷ row '001 '00 '00 '0 0x12 '00 accepts {- HLT      -} (λ p. Hlt)
    ∷ row '010 '00 '00 '0 0x00 '00 accepts {- SINTR    -} (λ p. Sintr)
    ∷ row '000 '00 '00 '0 0x00 '00 accepts {- NOP      -} (λ p. Nop)
    ∷ row '011 '00 '00 '0 0x00 '00 accepts {- XFER     -} (λ p. Xfer)
    ∷ row '1SD '00 '00 '0 0x00 '00 accepts {- WID      -} (λ p. Wid (bit_of p.rrr 1) (bit_of p.rrr 0))
    ∷ []
