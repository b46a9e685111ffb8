-- The codes of the data sheet in numbers: for each opcode the fields that a pair may have, and how many pairs there are.
use Rattle.std.specs.Prelude.{Bool, true, false, ◌&&◌, List, [], ◌∷◌, ◌≡◌, ℕ, zero, suc, ◌+◌, ◌/◌, ◌%◌, ◌<◌, eqb, ltb, get_or}
use Rattle.ground_rules.specs.Bits.{bit_of}
use Rattle.ground_rules.specs.Choice.{pick}
use Rattle.instruction_rules.specs.Reading.{decode_of, decoded_number, second_of, second_number_of}

-- the fields that a pair with some opcode may have, each set a number with a bit for each value: RRR; dd where W is 0, and where it is 1; AA; MM; and whether RRR 6 is refused by 4
pub record Code : Type 0 where
  pub rrr : ℕ
  pub narrow : ℕ
  pub wide : ℕ
  pub aa : ℕ
  pub mm : ℕ
  pub control : Bool

abbrev pub code : ℕ → ℕ → ℕ → ℕ → ℕ → Bool → Code
code r n w a m c = record { rrr = r; narrow = n; wide = w; aa = a; mm = m; control = c }

-- an opcode of no instruction
abbrev pub none : Code
none = code 0 0 0 0 0 false

-- with a memory operand all four AA and all four MM may stand, without one both are 00
abbrev pub on_memory : ℕ → ℕ → ℕ → Bool → Code
on_memory r n w c = code r n w 0b1111 0b1111 c

abbrev pub on_register : ℕ → ℕ → ℕ → Bool → Code
on_register r n w c = code r n w 0b0001 0b0001 c

-- the codes of the opcodes 00 to 3F
unfoldable pub codes : List Code
codes =
    --          RRR        dd, W 0 dd, W 1 CC
    {- 00 NOP, SINTR, XFER, WID   -}
    on_register 0b11111101 0b0001 0b0000 false
    ∷ {- 01                       -} none
    ∷ {- 02 LPDI P,I              -} on_register 0b00010111 0b0000 0b0100 false
    ∷ none ∷ none ∷ none ∷ none ∷ none
    ∷ {- 08 ADDI R,I              -} on_register 0b11111111 0b0010 0b0100 true
    ∷ {- 09 ORI R,I               -} on_register 0b11111111 0b0010 0b0100 true
    ∷ {- 0A ANDI R,I              -} on_register 0b11111111 0b0010 0b0100 true
    ∷ {- 0B NOT R                 -} on_register 0b11111111 0b0001 0b0000 true
    ∷ {- 0C MOVI R,I              -} on_register 0b11111111 0b0010 0b0100 false
    ∷ {- 0D                       -} none
    ∷ {- 0E INC R                 -} on_register 0b11111111 0b0001 0b0000 true
    ∷ {- 0F DEC R                 -} on_register 0b11111111 0b0001 0b0000 true
    ∷ {- 10 JNZ R                 -} on_register 0b11111111 0b0110 0b0000 true
    ∷ {- 11 JZ R                  -} on_register 0b11111111 0b0110 0b0000 true
    ∷ {- 12 HLT                   -} on_register 0b00000010 0b0001 0b0000 false
    ∷ {- 13 MOVI M,I              -} on_memory 0b00000001 0b0010 0b0100 false
    ∷ none ∷ none ∷ none ∷ none ∷ none ∷ none ∷ none ∷ none ∷ none ∷ none ∷ none ∷ none
    ∷ {- 20 MOV R,M               -} on_memory 0b11111111 0b0001 0b0001 false
    ∷ {- 21 MOV M,R               -} on_memory 0b11111111 0b0001 0b0001 false
    ∷ {- 22 LPD P,M               -} on_memory 0b00010111 0b0000 0b0001 false
    ∷ {- 23 MOVP P,M              -} on_memory 0b00010111 0b0000 0b0001 false
    ∷ {- 24 MOV M,M               -} on_memory 0b00000001 0b0001 0b0001 false
    ∷ {- 25 TSL                   -} on_memory 0b00000001 0b1000 0b0000 false
    ∷ {- 26 MOVP M,P              -} on_memory 0b00010111 0b0000 0b0001 false
    ∷ {- 27 CALL                  -} on_memory 0b00010000 0b0110 0b0110 false
    ∷ {- 28 ADD R,M               -} on_memory 0b11111111 0b0001 0b0001 true
    ∷ {- 29 OR R,M                -} on_memory 0b11111111 0b0001 0b0001 true
    ∷ {- 2A AND R,M               -} on_memory 0b11111111 0b0001 0b0001 true
    ∷ {- 2B NOT R,M               -} on_memory 0b11111111 0b0001 0b0001 true
    ∷ {- 2C JMCE                  -} on_memory 0b00000001 0b0110 0b0000 false
    ∷ {- 2D JMCNE                 -} on_memory 0b00000001 0b0110 0b0000 false
    ∷ {- 2E JNBT                  -} on_memory 0b11111111 0b0110 0b0000 false
    ∷ {- 2F JBT                   -} on_memory 0b11111111 0b0110 0b0000 false
    ∷ {- 30 ADDI M,I              -} on_memory 0b00000001 0b0010 0b0100 false
    ∷ {- 31 ORI M,I               -} on_memory 0b00000001 0b0010 0b0100 false
    ∷ {- 32 ANDI M,I              -} on_memory 0b00000001 0b0010 0b0100 false
    ∷ {- 33                       -} none
    ∷ {- 34 ADD M,R               -} on_memory 0b11111111 0b0001 0b0001 true
    ∷ {- 35 OR M,R                -} on_memory 0b11111111 0b0001 0b0001 true
    ∷ {- 36 AND M,R               -} on_memory 0b11111111 0b0001 0b0001 true
    ∷ {- 37 NOT M                 -} on_memory 0b00000001 0b0001 0b0001 false
    ∷ {- 38 JNZ M                 -} on_memory 0b00000001 0b0110 0b0110 false
    ∷ {- 39 JZ M                  -} on_memory 0b00000001 0b0110 0b0110 false
    ∷ {- 3A INC M                 -} on_memory 0b00000001 0b0001 0b0001 false
    ∷ {- 3B DEC M                 -} on_memory 0b00000001 0b0001 0b0001 false
    ∷ {- 3C                       -} none
    ∷ {- 3D SETB                  -} on_memory 0b11111111 0b0001 0b0000 false
    ∷ {- 3E CLR                   -} on_memory 0b11111111 0b0001 0b0000 false
    ∷ {- 3F                       -} none
    ∷ []

-- the number of a pair of bytes by the code of its opcode: 3 where a field is none of its set, 4 where CC is used, else 0
unfoldable pub code_number : Code → ℕ → ℕ → ℕ
code_number c first second =
    pick (bit_of c.rrr (first / 32) && (bit_of c.mm (second % 4) && (bit_of c.aa (first / 2 % 4) && bit_of (pick (eqb (first % 2) 1) c.wide c.narrow) (first / 8 % 4))))
    (pick (c.control && eqb (first / 32) 6) 4 0) 3

unfoldable pub number_by_codes : ℕ → ℕ → ℕ
number_by_codes first second = code_number (get_or codes (second / 4) none) first second

-- the number of a second pair of MOV M,M: opcode 33h, RRR and dd 0, and the W of the first pair
unfoldable pub second_by_codes : ℕ → ℕ → Bool → ℕ
second_by_codes first second wide = pick (eqb (second / 4) 0x33 && (ltb first 8 && eqb (first % 2) (pick wide 1 0))) 0 3

-- the sum of what a rule gives for the numbers below n
unfoldable pub sum_below : ℕ → (ℕ → ℕ) → ℕ
sum_below zero f = 0
sum_below (suc n) f = sum_below n f + f n

-- how many pairs of bytes a rule gives a number
unfoldable pub pairs_given : (ℕ → ℕ → ℕ) → ℕ → ℕ
pairs_given f number = sum_below 256 (λ (second : ℕ). sum_below 256 (λ (first : ℕ). pick (eqb (f first second) number) 1 0))

-- what is promised of the decoder
pub record DecoderCodes : Type 0 where
  -- every pair of bytes has the number that its code says
  pub first-pairs : (first second : ℕ) → first < 256 → second < 256 → decoded_number (decode_of first second) ≡ number_by_codes first second
  -- and as a second pair that of opcode 33h
  pub second-pairs : (wide : Bool) (first second : ℕ) → first < 256 → second < 256 → second_number_of (second_of first second wide) ≡ second_by_codes first second wide
  -- 3,687 are instructions, 237 use CC, and 61,612 are none
  pub instructions : pairs_given (λ (first second : ℕ). decoded_number (decode_of first second)) 0 ≡ 3687
  pub control-used : pairs_given (λ (first second : ℕ). decoded_number (decode_of first second)) 4 ≡ 237
  pub no-instructions : pairs_given (λ (first second : ℕ). decoded_number (decode_of first second)) 3 ≡ 61612
