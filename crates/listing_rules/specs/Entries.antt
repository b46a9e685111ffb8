-- The words with their forms, as data: what may stand behind a word, and the fields that it fixes in the first pair (§13.2).
use Rattle.std.specs.Prelude.{List, [], ◌∷◌, ℕ}
use Rattle.listing_rules.specs.Characters.{ascii}

-- what may stand in a place: any register, any but CC, a pointer register; memory; a byte or a word of data; a bit's number, a width; a target that one byte reaches, or two
pub data OperandKind : Type 0 where
  'R 'G 'P : OperandKind
  'M : OperandKind
  'byte 'word : OperandKind
  'bit 'width : OperandKind
  'short 'long : OperandKind

-- a word with one of its forms, and the fields of its pair. Those that an operand gives are 0; RRR 4 is TP of JMP and the fixed bit of WID
pub record Entry : Type 0 where
  pub word : List ℕ
  pub kinds : List OperandKind
  pub rrr : ℕ
  pub dd : ℕ
  pub w : ℕ
  pub opcode : ℕ

abbrev pub entry : List ℕ → List OperandKind → ℕ → ℕ → ℕ → ℕ → Entry
entry word kinds rrr dd w opcode = record { word = word; kinds = kinds; rrr = rrr; dd = dd; w = w; opcode = opcode }

-- every word with every form (§13.2)
unfoldable pub entries : List Entry
entries =
    --    word, form, RRR, dd, W, opcode
    -- control
    entry (ascii "NOP") [] 0 0 0 0x00
    ∷ entry (ascii "SINTR") [] 2 0 0 0x00
    ∷ entry (ascii "XFER") [] 3 0 0 0x00
    ∷ entry (ascii "WID") ('width ∷ 'width ∷ []) 4 0 0 0x00
    ∷ entry (ascii "HLT") [] 1 0 0 0x12
    -- pointers
    ∷ entry (ascii "LPDI") ('P ∷ 'word ∷ 'word ∷ []) 0 2 1 0x02
    ∷ entry (ascii "LPD") ('P ∷ 'M ∷ []) 0 0 1 0x22
    ∷ entry (ascii "MOVP") ('P ∷ 'M ∷ []) 0 0 1 0x23
    ∷ entry (ascii "MOVP") ('M ∷ 'P ∷ []) 0 0 1 0x26
    -- moves
    ∷ entry (ascii "MOV") ('R ∷ 'M ∷ []) 0 0 1 0x20
    ∷ entry (ascii "MOV") ('M ∷ 'R ∷ []) 0 0 1 0x21
    ∷ entry (ascii "MOV") ('M ∷ 'M ∷ []) 0 0 1 0x24
    ∷ entry (ascii "MOVB") ('R ∷ 'M ∷ []) 0 0 0 0x20
    ∷ entry (ascii "MOVB") ('M ∷ 'R ∷ []) 0 0 0 0x21
    ∷ entry (ascii "MOVB") ('M ∷ 'M ∷ []) 0 0 0 0x24
    ∷ entry (ascii "MOVI") ('R ∷ 'word ∷ []) 0 2 1 0x0C
    ∷ entry (ascii "MOVI") ('M ∷ 'word ∷ []) 0 2 1 0x13
    ∷ entry (ascii "MOVBI") ('R ∷ 'byte ∷ []) 0 1 0 0x0C
    ∷ entry (ascii "MOVBI") ('M ∷ 'byte ∷ []) 0 1 0 0x13
    -- arithmetic and logic
    ∷ entry (ascii "ADD") ('G ∷ 'M ∷ []) 0 0 1 0x28
    ∷ entry (ascii "ADD") ('M ∷ 'G ∷ []) 0 0 1 0x34
    ∷ entry (ascii "ADDI") ('G ∷ 'word ∷ []) 0 2 1 0x08
    ∷ entry (ascii "ADDI") ('M ∷ 'word ∷ []) 0 2 1 0x30
    ∷ entry (ascii "ADDB") ('G ∷ 'M ∷ []) 0 0 0 0x28
    ∷ entry (ascii "ADDB") ('M ∷ 'G ∷ []) 0 0 0 0x34
    ∷ entry (ascii "ADDBI") ('G ∷ 'byte ∷ []) 0 1 0 0x08
    ∷ entry (ascii "ADDBI") ('M ∷ 'byte ∷ []) 0 1 0 0x30
    ∷ entry (ascii "OR") ('G ∷ 'M ∷ []) 0 0 1 0x29
    ∷ entry (ascii "OR") ('M ∷ 'G ∷ []) 0 0 1 0x35
    ∷ entry (ascii "ORI") ('G ∷ 'word ∷ []) 0 2 1 0x09
    ∷ entry (ascii "ORI") ('M ∷ 'word ∷ []) 0 2 1 0x31
    ∷ entry (ascii "ORB") ('G ∷ 'M ∷ []) 0 0 0 0x29
    ∷ entry (ascii "ORB") ('M ∷ 'G ∷ []) 0 0 0 0x35
    ∷ entry (ascii "ORBI") ('G ∷ 'byte ∷ []) 0 1 0 0x09
    ∷ entry (ascii "ORBI") ('M ∷ 'byte ∷ []) 0 1 0 0x31
    ∷ entry (ascii "AND") ('G ∷ 'M ∷ []) 0 0 1 0x2A
    ∷ entry (ascii "AND") ('M ∷ 'G ∷ []) 0 0 1 0x36
    ∷ entry (ascii "ANDI") ('G ∷ 'word ∷ []) 0 2 1 0x0A
    ∷ entry (ascii "ANDI") ('M ∷ 'word ∷ []) 0 2 1 0x32
    ∷ entry (ascii "ANDB") ('G ∷ 'M ∷ []) 0 0 0 0x2A
    ∷ entry (ascii "ANDB") ('M ∷ 'G ∷ []) 0 0 0 0x36
    ∷ entry (ascii "ANDBI") ('G ∷ 'byte ∷ []) 0 1 0 0x0A
    ∷ entry (ascii "ANDBI") ('M ∷ 'byte ∷ []) 0 1 0 0x32
    ∷ entry (ascii "NOT") ('G ∷ []) 0 0 0 0x0B
    ∷ entry (ascii "INC") ('G ∷ []) 0 0 0 0x0E
    ∷ entry (ascii "DEC") ('G ∷ []) 0 0 0 0x0F
    ∷ entry (ascii "NOT") ('M ∷ []) 0 0 1 0x37
    ∷ entry (ascii "NOT") ('G ∷ 'M ∷ []) 0 0 1 0x2B
    ∷ entry (ascii "INC") ('M ∷ []) 0 0 1 0x3A
    ∷ entry (ascii "DEC") ('M ∷ []) 0 0 1 0x3B
    ∷ entry (ascii "NOTB") ('M ∷ []) 0 0 0 0x37
    ∷ entry (ascii "NOTB") ('G ∷ 'M ∷ []) 0 0 0 0x2B
    ∷ entry (ascii "INCB") ('M ∷ []) 0 0 0 0x3A
    ∷ entry (ascii "DECB") ('M ∷ []) 0 0 0 0x3B
    -- jumps. CALL as a word means W 1
    ∷ entry (ascii "JMP") ('short ∷ []) 4 1 0 0x08
    ∷ entry (ascii "JZ") ('G ∷ 'short ∷ []) 0 1 0 0x11
    ∷ entry (ascii "JNZ") ('G ∷ 'short ∷ []) 0 1 0 0x10
    ∷ entry (ascii "JZ") ('M ∷ 'short ∷ []) 0 1 1 0x39
    ∷ entry (ascii "JNZ") ('M ∷ 'short ∷ []) 0 1 1 0x38
    ∷ entry (ascii "JZB") ('M ∷ 'short ∷ []) 0 1 0 0x39
    ∷ entry (ascii "JNZB") ('M ∷ 'short ∷ []) 0 1 0 0x38
    ∷ entry (ascii "JMCE") ('M ∷ 'short ∷ []) 0 1 0 0x2C
    ∷ entry (ascii "JMCNE") ('M ∷ 'short ∷ []) 0 1 0 0x2D
    ∷ entry (ascii "CALL") ('M ∷ 'short ∷ []) 4 1 1 0x27
    ∷ entry (ascii "JBT") ('M ∷ 'bit ∷ 'short ∷ []) 0 1 0 0x2F
    ∷ entry (ascii "JNBT") ('M ∷ 'bit ∷ 'short ∷ []) 0 1 0 0x2E
    ∷ entry (ascii "LJMP") ('long ∷ []) 4 2 1 0x08
    ∷ entry (ascii "LJZ") ('G ∷ 'long ∷ []) 0 2 0 0x11
    ∷ entry (ascii "LJNZ") ('G ∷ 'long ∷ []) 0 2 0 0x10
    ∷ entry (ascii "LJZ") ('M ∷ 'long ∷ []) 0 2 1 0x39
    ∷ entry (ascii "LJNZ") ('M ∷ 'long ∷ []) 0 2 1 0x38
    ∷ entry (ascii "LJZB") ('M ∷ 'long ∷ []) 0 2 0 0x39
    ∷ entry (ascii "LJNZB") ('M ∷ 'long ∷ []) 0 2 0 0x38
    ∷ entry (ascii "LJMCE") ('M ∷ 'long ∷ []) 0 2 0 0x2C
    ∷ entry (ascii "LJMCNE") ('M ∷ 'long ∷ []) 0 2 0 0x2D
    ∷ entry (ascii "LCALL") ('M ∷ 'long ∷ []) 4 2 1 0x27
    ∷ entry (ascii "LJBT") ('M ∷ 'bit ∷ 'long ∷ []) 0 2 0 0x2F
    ∷ entry (ascii "LJNBT") ('M ∷ 'bit ∷ 'long ∷ []) 0 2 0 0x2E
    -- bits
    ∷ entry (ascii "TSL") ('M ∷ 'byte ∷ 'short ∷ []) 0 3 0 0x25
    ∷ entry (ascii "SETB") ('M ∷ 'bit ∷ []) 0 0 0 0x3D
    ∷ entry (ascii "CLR") ('M ∷ 'bit ∷ []) 0 0 0 0x3E
    ∷ []
