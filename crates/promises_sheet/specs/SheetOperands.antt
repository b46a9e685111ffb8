-- The sheet of instructions, what all its rows share (§6.1, §6.6 to §6.11): the pair, operands, data and displacements, and what a channel and memory are left as.
use Rattle.std.specs.Prelude.{Bool, false, not, ◌&&◌, List, [], ◌∷◌, ◌≡◌, ℕ, ◌+◌, ◌-◌, ◌*◌, ◌/◌, ◌%◌, ◌<◌, eqb, ltb, get_or, length}
use Rattle.std.specs.Int.Bits.{bit_and, bit_or}
use Rattle.ground_rules.specs.Choice.{pick}
use Rattle.ground_rules.specs.Buffers.{Buffers, lent_at, byte_at}
use Rattle.ground_rules.specs.Places.{Apart}
use Rattle.ground_rules.specs.States.{channel_of}
use Rattle.ground_rules.specs.declared.Channel.{Channel}
use Rattle.ground_rules.specs.declared.State.{State}
use Rattle.turn_rules.specs.Step.{step_of}
use Rattle.promises.specs.Cases.{Executes}
use Rattle.promises.specs.SheetWords.{bit, word_in, register_values, tags_of}

-- ---- the call

-- a step call is a channel's turn to execute and is done, and the pair at TP has these fields: RRR, dd, AA, W, opcode, MM (§6.1)
pub record PairRan (second : Bool) (s : State) (m : Buffers) (lines r dd aa w opcode mm : ℕ) : Type 0 where
  pub executes : Executes second s m lines ((r * 32 + dd * 8 + aa * 2 + w) ∷ (opcode * 4 + mm) ∷ [])
  pub done : (step_of s m lines).number ≡ 0
  pub rrr : r < 8
  pub two : dd < 4
  pub mode : aa < 4
  pub wide : w < 2
  pub base : mm < 4

-- the channel after it
abbrev pub ran_channel : Bool → State → Buffers → ℕ → Channel
ran_channel second s m lines = channel_of (step_of s m lines).state second

-- ---- operands

-- the byte some places after TP
abbrev pub code_byte : Buffers → Channel → ℕ → ℕ
code_byte m c k = byte_at m c.tp.tag (c.tp.address + k)

-- the base by MM: GA, GB, GC or PP, which is of system space (§6.7)
abbrev pub base_address : Channel → ℕ → ℕ
base_address c mm = get_or (c.ga.address ∷ c.gb.address ∷ c.gc.address ∷ c.pp ∷ []) mm 0

abbrev pub base_tag : Channel → ℕ → Bool
base_tag c mm = get_or (c.ga.tag ∷ c.gb.tag ∷ c.gc.tag ∷ false ∷ []) mm false

-- what is added to it by AA: nothing, the byte at a place, IX, IX
abbrev pub added_by : ℕ → ℕ → ℕ → ℕ
added_by offset ix aa = get_or (0 ∷ offset ∷ ix ∷ ix ∷ []) aa 0

-- where the operand lies, its offset byte standing after the pair
abbrev pub operand_address : Buffers → Channel → ℕ → ℕ → ℕ
operand_address m c mm aa = (base_address c mm + added_by (code_byte m c 2) c.ix aa) % 1048576

-- how many offset bytes there are by AA
abbrev pub offset_bytes : ℕ → ℕ
offset_bytes aa = get_or (0 ∷ 1 ∷ 0 ∷ 0 ∷ []) aa 0

-- IX by AA: it grows with 11 alone (§6.8)
abbrev pub grown_by : ℕ → ℕ → ℕ → ℕ
grown_by ix aa by = get_or (ix ∷ ix ∷ ix ∷ (ix + by) % 65536 ∷ []) aa 0

-- a byte and a word in 20 bits, by their signs (§6.9)
abbrev pub byte_by_sign : ℕ → ℕ
byte_by_sign x = pick (ltb x 128) x (x + 1048320)

abbrev pub word_by_sign : ℕ → ℕ
word_by_sign x = pick (ltb x 32768) x (x + 983040)

-- the byte or word at a place by W, as it is and in 20 bits
abbrev pub raw_in : Buffers → Bool → ℕ → ℕ → ℕ
raw_in m tag a w = get_or (byte_at m tag a ∷ word_in m tag a ∷ []) w 0

abbrev pub operand_in : Buffers → Bool → ℕ → ℕ → ℕ
operand_in m tag a w = get_or (byte_by_sign (byte_at m tag a) ∷ word_by_sign (word_in m tag a) ∷ []) w 0

-- dd of a displacement of two bytes or one: 10 or 01, and so many bytes it has (§6.2)
abbrev pub dd_of : Bool → ℕ
dd_of two = pick two 2 1

-- a displacement of a byte or a word in 20 bits, by its sign: one of the upper half leads back, by 20 ones less the bits that it has not set (§6.11)
abbrev pub by_byte : ℕ → ℕ
by_byte x = pick (ltb x 128) x (1048575 - (255 - x))

abbrev pub by_word : ℕ → ℕ
by_word x = pick (ltb x 32768) x (1048575 - (65535 - x))

-- the displacement some places after TP
abbrev pub displacement_in : Buffers → Channel → ℕ → Bool → ℕ
displacement_in m c k two = pick two (by_word (word_in m c.tp.tag (c.tp.address + k))) (by_byte (code_byte m c k))

-- a test, or its opposite
abbrev pub whether : Bool → Bool → Bool
whether wanted found = pick wanted found (not found)

-- ---- what is worked out (§6.9, §6.14)

-- of two operands: MOV, ADD, OR, AND, NOT
abbrev pub works_of : ℕ → ℕ → List ℕ
works_of a b = b ∷ (a + b) % 1048576 ∷ bit_or a b ∷ bit_and a b ∷ (1048575 - b % 1048576) ∷ []

-- of one: NOT, INC, DEC
abbrev pub singles_of : ℕ → List ℕ
singles_of a = (1048575 - a % 1048576) ∷ (a + 1) % 1048576 ∷ (a + 1048575) % 1048576 ∷ []

-- the bytes of a result by W
abbrev pub result_bytes : ℕ → ℕ → List ℕ
result_bytes v w = get_or ((v % 256 ∷ []) ∷ (v % 256 ∷ v / 256 % 256 ∷ []) ∷ []) w []

-- ---- what is left

-- the registers by RRR with TP and IX as given, and no other changed
abbrev pub registers_at : Channel → ℕ → ℕ → List ℕ
registers_at c tp ix = c.ga.address ∷ c.gb.address ∷ c.gc.address ∷ c.bc ∷ tp ∷ ix ∷ c.cc ∷ c.mc ∷ []

-- TP past n bytes
abbrev pub past_by : Channel → ℕ → ℕ
past_by c n = (c.tp.address + n) % 1048576

-- the same, and a displacement from there
abbrev pub jumped_by : Channel → ℕ → ℕ → ℕ
jumped_by c n d = (c.tp.address + n + d) % 1048576

-- what register r holds while an instruction of n bytes is carried out: TP is past it (§6.10)
abbrev pub value_past : Channel → ℕ → ℕ → ℕ
value_past c n r = get_or (registers_at c (past_by c n) c.ix) r 0

-- the channel after an instruction: its registers and tags, and what the mark does (§6.20)
pub record RegistersLeft (before after : Channel) (numbers : List ℕ) (spaces : List Bool) : Type 0 where
  pub values : register_values after ≡ numbers
  pub tags : tags_of after ≡ spaces
  pub pp : after.pp ≡ before.pp
  pub mode : after.mode ≡ before.mode
  pub mark : after.armed ≡ false
  pub status : (k : ℕ) → bit after.psw k ≡ pick (before.armed && eqb k 6) 1 (bit before.psw k)

-- a byte as it reads where it was stored: an empty slot of I/O space keeps nothing and reads FFh (§1.3)
abbrev pub stored_there : Buffers → Bool → ℕ → ℕ → ℕ
stored_there m tag a v = pick (tag && not (lent_at m tag a)) 0xFF v

-- memory after bytes were stored from a place on: those, and every other as it was
pub record BytesLeft (tag : Bool) (a : ℕ) (bytes : List ℕ) (m m' : Buffers) : Type 0 where
  pub stored : (i : ℕ) → i < length bytes → byte_at m' tag (a + i) ≡ stored_there m tag (a + i) (get_or bytes i 0)
  pub others : (u : Bool) (b : ℕ) → ((i : ℕ) → i < length bytes → Apart tag (a + i) u b) → byte_at m' u b ≡ byte_at m u b
