-- Which instructions are done: every pair that the codes take, wherever its bytes may be touched; and which are refused, with the number of the codes.
use Rattle.std.specs.Prelude.{Bool, true, [], ◌∷◌, ◌≡◌, ℕ, ◌+◌, ◌*◌, ◌<◌, get_or}
use Rattle.ground_rules.specs.Buffers.{Buffers}
use Rattle.ground_rules.specs.Choice.{pick}
use Rattle.ground_rules.specs.Places.{all_touchable}
use Rattle.ground_rules.specs.States.{channel_of, block_of, busy_in}
use Rattle.ground_rules.specs.declared.State.{State}
use Rattle.instruction_rules.specs.Execute.{touched_by_instruction}
use Rattle.turn_rules.specs.Step.{step_of}
use Rattle.promises.specs.Cases.{Executes}
use Rattle.promises_codes.specs.Codes.{number_by_codes}
use Rattle.promises_sheet.specs.SheetOperands.{PairRan, code_byte, offset_bytes, dd_of}

-- a step call is a channel's turn to execute, and the pair at TP has these fields, each in its range; whether it is done is not said
pub record PairTurn (second : Bool) (s : State) (m : Buffers) (lines r dd aa w opcode mm : ℕ) : Type 0 where
  pub executes : Executes second s m lines ((r * 32 + dd * 8 + aa * 2 + w) ∷ (opcode * 4 + mm) ∷ [])
  pub rrr : r < 8
  pub two : dd < 4
  pub mode : aa < 4
  pub wide : w < 2
  pub code : opcode < 64
  pub base : mm < 4

module _ (second : Bool) (s : State) (m : Buffers) (lines : ℕ) where
  -- every byte on the instruction's list may be touched
  abbrev pub Free : Type 0
  Free = all_touchable m (touched_by_instruction m (channel_of s second) (busy_in (block_of s second))) ≡ true

  -- the number of the pair by the codes of the data sheet
  abbrev pub pair_number : ℕ → ℕ → ℕ → ℕ → ℕ → ℕ → ℕ
  pair_number r dd aa w opcode mm = number_by_codes (r * 32 + dd * 8 + aa * 2 + w) (opcode * 4 + mm)

  pub record DoneSheet : Type 0 where
    -- a pair that the codes take, MOV M,M aside, is done, so that the row of its family tells what it leaves
    pub done : (r dd aa w opcode mm : ℕ) → PairTurn second s m lines r dd aa w opcode mm → pair_number r dd aa w opcode mm ≡ 0 → ¬ (opcode ≡ 0x24) → Free
        → PairRan second s m lines r dd aa w opcode mm
    -- and so is MOV M,M with a second pair of opcode 33h and the same W, whatever its AA and MM
    pub move_between : (aa w mm aa₂ mm₂ : ℕ) → aa₂ < 4 → mm₂ < 4 → PairTurn second s m lines 0 0 aa w 0x24 mm
        → code_byte m (channel_of s second) (2 + offset_bytes aa) ≡ aa₂ * 2 + w → code_byte m (channel_of s second) (2 + offset_bytes aa + 1) ≡ 0x33 * 4 + mm₂ → Free
        → PairRan second s m lines 0 0 aa w 0x24 mm
    -- a pair that the codes refuse is refused with their number: 3, or 4 where CC is used by anything but MOV or MOVI
    pub refused : (r dd aa w opcode mm : ℕ) → PairTurn second s m lines r dd aa w opcode mm → ¬ (pair_number r dd aa w opcode mm ≡ 0)
        → (step_of s m lines).number ≡ pair_number r dd aa w opcode mm
    -- so CC in the five families of registers: ADD, OR, AND, NOT R,M; ADD, OR, AND M,R; ADDI, ORI, ANDI; NOT, INC, DEC; JZ, JNZ
    pub control_memory : (k aa w mm : ℕ) → k < 4 → PairTurn second s m lines 6 0 aa w (0x28 + k) mm → (step_of s m lines).number ≡ 4
    pub control_stored : (k aa w mm : ℕ) → k < 3 → PairTurn second s m lines 6 0 aa w (0x34 + k) mm → (step_of s m lines).number ≡ 4
    pub control_data : (k w : ℕ) → k < 3 → PairTurn second s m lines 6 (w + 1) 0 w (0x08 + k) 0 → (step_of s m lines).number ≡ 4
    pub control_alone : (k : ℕ) → k < 3 → PairTurn second s m lines 6 0 0 0 (get_or (0x0B ∷ 0x0E ∷ 0x0F ∷ []) k 0) 0 → (step_of s m lines).number ≡ 4
    pub control_jump : (zero two : Bool) → PairTurn second s m lines 6 (dd_of two) 0 0 (pick zero 0x11 0x10) 0 → (step_of s m lines).number ≡ 4
