-- The sheet of instructions whose result goes into memory, and of those that jump on memory (§6.12 to §6.18), one statement a family.
use Rattle.std.specs.Prelude.{Bool, true, false, List, [], ◌∷◌, ◌≡◌, ℕ, ◌+◌, ◌*◌, ◌/◌, ◌%◌, ◌^◌, ◌<◌, eqb, get_or}
use Rattle.std.specs.Int.Bits.{bit_and, bit_xor}
use Rattle.ground_rules.specs.Choice.{pick}
use Rattle.ground_rules.specs.Buffers.{Buffers, byte_at}
use Rattle.ground_rules.specs.States.{channel_of}
use Rattle.ground_rules.specs.declared.Channel.{Channel}
use Rattle.ground_rules.specs.declared.State.{State}
use Rattle.turn_rules.specs.Step.{step_of}
use Rattle.promises.specs.SheetWords.{bit, form_of, tags_of, tag_in, pointing}
use Rattle.promises_sheet.specs.SheetOperands.{PairRan, ran_channel, code_byte, base_address, base_tag, added_by, operand_address, offset_bytes, grown_by, raw_in, operand_in, dd_of, displacement_in, whether, works_of, singles_of, result_bytes, registers_at, past_by, jumped_by, value_past, RegistersLeft, BytesLeft}
use Rattle.promises_sheet.specs.SheetRegisters.{Goes}

module _ (second : Bool) (s : State) (m : Buffers) (lines : ℕ) where
  -- the channel before; the space and the place of the operand
  abbrev was : Channel
  was = channel_of s second

  abbrev pub operand_tag : ℕ → Bool
  operand_tag mm = base_tag was mm

  abbrev pub operand_place : ℕ → ℕ → ℕ
  operand_place mm aa = operand_address m was mm aa

  -- bytes go to the operand of MM and AA, TP and IX are as given, and no other register changes
  abbrev pub Stores : ℕ → ℕ → List ℕ → ℕ → ℕ → Type 0
  Stores mm aa bytes tp ix =
      RegistersLeft was (ran_channel second s m lines) (registers_at was tp ix) (tags_of was)
      × BytesLeft (operand_tag mm) (operand_place mm aa) bytes m (step_of s m lines).memory

  -- TP past the pair, its offset byte and n bytes more; the operand's byte
  abbrev pub past_pair : ℕ → ℕ → ℕ
  past_pair aa n = past_by was (2 + offset_bytes aa + n)

  abbrev pub byte_operand : ℕ → ℕ → ℕ
  byte_operand mm aa = byte_at m (operand_tag mm) (operand_place mm aa)

  -- TP after a jump whose displacement stands behind the pair and its offset byte, taken or not
  abbrev pub landed : Bool → ℕ → Bool → ℕ
  landed taken aa two =
      pick taken (jumped_by was (2 + offset_bytes aa + dd_of two) (displacement_in m was (2 + offset_bytes aa) two)) (past_pair aa (dd_of two))

  -- a done instruction of a channel
  pub record MemorySheet : Type 0 where
    -- MOVP M,P: the pointer in its three bytes, IX by 3
    pub movp : (r aa mm : ℕ) → pointing r ≡ true → PairRan second s m lines r 0 aa 1 0x26 mm
        → Stores mm aa (form_of (value_past was (2 + offset_bytes aa) r) (tag_in was r))
        (past_by was (2 + offset_bytes aa)) (grown_by was.ix aa 3)
    -- MOV M,R: any register; it is read before IX grows
    pub move : (r aa w mm : ℕ) → PairRan second s m lines r 0 aa w 0x21 mm
        → Stores mm aa (result_bytes (value_past was (2 + offset_bytes aa) r) w)
        (past_by was (2 + offset_bytes aa)) (grown_by was.ix aa (w + 1))
    -- ADD, OR, AND M,R: any register but CC
    pub work : (k r aa w mm : ℕ) → k < 3 → eqb r 6 ≡ false → PairRan second s m lines r 0 aa w (0x34 + k) mm
        → Stores mm aa
        (result_bytes (get_or (works_of (operand_in m (operand_tag mm) (operand_place mm aa) w) (value_past was (2 + offset_bytes aa) r)) (1 + k) 0) w)
        (past_by was (2 + offset_bytes aa)) (grown_by was.ix aa (w + 1))
    -- MOVI M,I: the data stands behind the pair and its offset byte
    pub move_data : (aa w mm : ℕ) → PairRan second s m lines 0 (w + 1) aa w 0x13 mm
        → Stores mm aa
        (result_bytes (operand_in m was.tp.tag (was.tp.address + (2 + offset_bytes aa)) w) w)
        (past_pair aa (w + 1)) (grown_by was.ix aa (w + 1))
    -- ADDI, ORI, ANDI M,I
    pub work_data : (k aa w mm : ℕ) → k < 3 → PairRan second s m lines 0 (w + 1) aa w (0x30 + k) mm
        → Stores mm aa
        (result_bytes (get_or (works_of (operand_in m (operand_tag mm) (operand_place mm aa) w)
        (operand_in m was.tp.tag (was.tp.address + (2 + offset_bytes aa)) w)) (1 + k) 0) w)
        (past_pair aa (w + 1)) (grown_by was.ix aa (w + 1))
    -- NOT, INC, DEC M
    pub alone : (k aa w mm : ℕ) → k < 3 → PairRan second s m lines 0 0 aa w (get_or (0x37 ∷ 0x3A ∷ 0x3B ∷ []) k 0) mm
        → Stores mm aa
        (result_bytes (get_or (singles_of (operand_in m (operand_tag mm) (operand_place mm aa) w)) k 0) w)
        (past_by was (2 + offset_bytes aa)) (grown_by was.ix aa (w + 1))
    -- SETB, CLR: bit BBB of the byte becomes 1 or 0
    pub set_bit : (on : Bool) (r aa mm : ℕ) → PairRan second s m lines r 0 aa 0 (pick on 0x3D 0x3E) mm
        → Stores mm aa
        ((byte_operand mm aa / 2 ^ (r + 1) * 2 ^ (r + 1) + pick on (2 ^ r) 0 + byte_operand mm aa % 2 ^ r) % 256 ∷ [])
        (past_by was (2 + offset_bytes aa)) (grown_by was.ix aa 1)
    -- JZ M, JNZ M: the byte or word decides
    pub jump : (zero two : Bool) (aa w mm : ℕ) → PairRan second s m lines 0 (dd_of two) aa w (pick zero 0x39 0x38) mm
        → Goes second s m lines
        (landed (whether zero (eqb (raw_in m (operand_tag mm) (operand_place mm aa) w) 0)) aa two)
        (grown_by was.ix aa (w + 1))
    -- JMCE, JMCNE: ((byte xor low byte of MC) and high byte of MC) is 0, or not
    pub jump_masked : (equal two : Bool) (aa mm : ℕ) → PairRan second s m lines 0 (dd_of two) aa 0 (pick equal 0x2C 0x2D) mm
        → Goes second s m lines
        (landed (whether equal (eqb (bit_and (bit_xor (byte_operand mm aa) (was.mc % 256)) (was.mc / 256 % 256)) 0)) aa two)
        (grown_by was.ix aa 1)
    -- JBT, JNBT: bit BBB is 1, or 0
    pub jump_bit : (set two : Bool) (r aa mm : ℕ) → PairRan second s m lines r (dd_of two) aa 0 (pick set 0x2F 0x2E) mm
        → Goes second s m lines
        (landed (whether set (eqb (bit (byte_operand mm aa) r) 1)) aa two)
        (grown_by was.ix aa 1)
    -- TSL: a byte that is 0 becomes the data and the program goes on
    pub tsl_free : (aa mm : ℕ) → byte_operand mm aa ≡ 0 → PairRan second s m lines 0 3 aa 0 0x25 mm
        → Stores mm aa (code_byte m was (2 + offset_bytes aa) % 256 ∷ [])
        (past_pair aa 2) (grown_by was.ix aa 1)
    -- any other jumps, and nothing is stored
    pub tsl_taken : (aa mm : ℕ) → ¬ (byte_operand mm aa ≡ 0) → PairRan second s m lines 0 3 aa 0 0x25 mm
        → Goes second s m lines
        (jumped_by was (2 + offset_bytes aa + 2) (displacement_in m was (2 + offset_bytes aa + 1) false))
        (grown_by was.ix aa 1)
    -- CALL: TP past the instruction, with its tag, in three bytes; then the jump; IX by 3
    pub call : (two : Bool) (aa w mm : ℕ) → PairRan second s m lines 4 (dd_of two) aa w 0x27 mm
        → Stores mm aa (form_of (past_pair aa (dd_of two)) was.tp.tag)
        (landed true aa two) (grown_by was.ix aa 3)
    -- MOV M,M: its second pair has opcode 33h and the same W; the second address is formed with the IX that the first has grown, and may grow it again
    pub move_between : (aa w mm aa₂ mm₂ : ℕ) → aa₂ < 4 → mm₂ < 4 → PairRan second s m lines 0 0 aa w 0x24 mm
        → code_byte m was (2 + offset_bytes aa) ≡ aa₂ * 2 + w → code_byte m was (2 + offset_bytes aa + 1) ≡ 0x33 * 4 + mm₂
        → RegistersLeft was (ran_channel second s m lines)
        (registers_at was (past_pair aa (2 + offset_bytes aa₂)) (grown_by (grown_by was.ix aa (w + 1)) aa₂ (w + 1)))
        (tags_of was)
        × BytesLeft (base_tag was mm₂)
        ((base_address was mm₂ + added_by (code_byte m was (2 + offset_bytes aa + 2)) (grown_by was.ix aa (w + 1)) aa₂) % 1048576)
        (result_bytes (operand_in m (operand_tag mm) (operand_place mm aa) w) w) m (step_of s m lines).memory
