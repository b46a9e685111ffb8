-- Demand 2, no pointer loses anything in its three stored bytes: as numbers, through memory, by MOVP and CALL, by suspend and resume.
use Rattle.std.specs.Prelude.{Bool, true, false, ◌≡◌, ℕ, ◌+◌, ◌*◌, ◌/◌, ◌<◌, Ok}
use Rattle.ground_rules.specs.Stored.{stored_low, stored_middle, stored_high, stored_address, stored_tag}
use Rattle.ground_rules.specs.declared.Pointer.{Pointer}
use Rattle.ground_rules.specs.Buffers.{Buffers, byte_at}
use Rattle.ground_rules.specs.Places.{span, all_lent}
use Rattle.ground_rules.specs.Values.{pointer_at, store_pointer}
use Rattle.ground_rules.specs.declared.Channel.{Channel}
use Rattle.ground_rules.specs.declared.State.{State}
use Rattle.ground_rules.specs.Psw.{destination_wide, source_wide, transferring, with_psw}
use Rattle.ground_rules.specs.Registers.{register_of, tag_of}
use Rattle.ground_rules.specs.States.{channel_of, is_second}
use Rattle.attention_rules.specs.Attention.{order_to, attention_of}
use Rattle.attention_rules.specs.Commands.{ordered}
use Rattle.ground_rules.specs.Updates.{with_control}
use Rattle.attention_rules.specs.Pauses.{Pause}
use Rattle.instruction_rules.specs.declared.Memory.{Memory}
use Rattle.instruction_rules.specs.declared.Shape.{Shape}
use Rattle.instruction_rules.specs.declared.Shape.TheVariants.{MovpLoad, MovpStore, Call}
use Rattle.instruction_rules.specs.Lengths.{length_of}
use Rattle.instruction_rules.specs.Marks.{past_instruction}
use Rattle.instruction_rules.specs.Operands.{effective}
use Rattle.instruction_rules.specs.Execute.{decoded_at}
use Rattle.turn_rules.specs.declared.Choice.TheVariants.{Steps}
use Rattle.turn_rules.specs.Choosing.{choice_of}
use Rattle.turn_rules.specs.Step.{Step, step_of}
use Rattle.block_rules.specs.Premises.{Lent}

-- the stored form of an address with its tag, read back, is that address and that tag
pub record FormKept (address : ℕ) (tag : Bool) : Type 0 where
  pub same_address : stored_address (stored_low address) (stored_middle address) (stored_high address tag) ≡ address
  pub same_tag : stored_tag (stored_high address tag) ≡ tag

-- three bytes read as a pointer and stored again are those bytes, but for the three bits that are disregarded (§1.6)
pub record BytesAgain (low middle high : ℕ) : Type 0 where
  pub first : stored_low (stored_address low middle high) ≡ low
  pub second : stored_middle (stored_address low middle high) ≡ middle
  pub third : stored_high (stored_address low middle high) (stored_tag high) ≡ high / 8 * 8

-- register r of a channel holds an address, with a tag
pub record Holds (c : Channel) (r address : ℕ) (tag : Bool) : Type 0 where
  pub value : register_of c r ≡ address
  pub space : tag_of c r ≡ tag

-- a step call: the state and the memories that it is given, its lines, and a channel
pub record StepCall : Type 0 where
  pub state : State
  pub memory : Buffers
  pub lines : ℕ
  pub second : Bool

-- what it leaves, and the channel before it
abbrev pub left_by : StepCall → Step
left_by k = step_of k.state k.memory k.lines

abbrev pub channel_on : StepCall → Channel
channel_on k = channel_of k.state k.second

-- it is done, and carries out an instruction of some shape for that channel
pub record Executes (k : StepCall) (shape : Shape) : Type 0 where
  pub done : (left_by k).number ≡ 0
  pub chosen : choice_of k.state k.lines ≡ Steps k.second
  pub program : transferring (channel_on k).psw ≡ false
  pub reads : decoded_at k.memory (channel_on k).tp ≡ Ok shape

-- the channel as the instruction finds it, with TP past it
abbrev pub found : StepCall → Shape → Channel
found k shape = past_instruction (channel_on k) (length_of shape)

-- the place of its memory operand
abbrev pub operand_of : StepCall → Shape → Memory → Pointer
operand_of k shape o = effective k.memory (found k shape) o (channel_on k).tp

-- the three bytes at a place are in m' as they are in m
abbrev pub SameThree : Pointer → Buffers → Buffers → Type 0
SameThree at m m' = (i : ℕ) → i < 3 → byte_at m' at.tag (at.address + i) ≡ byte_at m at.tag (at.address + i)

-- a step k stores a pointer at the place `at`; a later one, k', is MOVP P,M from there into register r
pub record LoadsFrom (k : StepCall) (at : Pointer) (k' : StepCall) (r : ℕ) (o : Memory) : Type 0 where
  pub loads : Executes k' (MovpLoad r o)
  pub place : operand_of k' (MovpLoad r o) o ≡ at
  -- the three bytes there are lent: an empty slot keeps nothing (§1.3)
  pub lent : Lent k.memory at 3
  -- in between nothing wrote there
  pub bytes : SameThree at (left_by k).memory k'.memory

-- a channel that was suspended and is resumed by a CCW goes on as it was before
pub record GoesOn (before after : Channel) (ccw : ℕ) : Type 0 where
  -- TP and its tag come back
  pub task : after.tp ≡ before.tp
  -- PSW comes back with TB 1; then the CCW's bits 5 and 7 and its ICF count
  pub status : after.psw ≡ ordered ccw (with_psw before.psw 2 true)
  -- so the widths and XF are as they were
  pub destination_back : destination_wide after.psw ≡ destination_wide before.psw
  pub source_back : source_wide after.psw ≡ source_wide before.psw
  pub transfer_back : transferring after.psw ≡ transferring before.psw
  -- every other register is as it was
  pub others : after ≡ with_control before before.tp before.pp after.psw before.mode before.armed

-- pointers survive their three stored bytes
pub record PointersKept : Type 0 where
  -- every address of 20 bits with either tag
  pub form : (address : ℕ) (tag : Bool) → address < 1048576 → FormKept address tag
  -- every three bytes
  pub bytes : (low middle high : ℕ) → low < 256 → middle < 256 → high < 256 → BytesAgain low middle high
  -- every pointer, through three lent bytes of either space
  pub memory : (m : Buffers) (tag : Bool) (at : ℕ) (p : Pointer) → p.address < 1048576 → all_lent m (span tag at 3) ≡ true → pointer_at (store_pointer m tag at p) tag at ≡ p
  -- MOVP M,P of register r, and MOVP P,M from there: the pointer and the tag that went
  pub movp : {k : StepCall} {r : ℕ} {o : Memory} {k' : StepCall} {r' : ℕ} {o' : Memory} → Executes k (MovpStore r o)
      → LoadsFrom k (operand_of k (MovpStore r o) o) k' r' o'
      → Holds (channel_of (left_by k').state k'.second) r' (register_of (found k (MovpStore r o)) r) (tag_of (found k (MovpStore r o)) r)
  -- CALL stores TP (§6.17), and MOVP P,M from there: TP past the CALL, with its tag
  pub call : {k : StepCall} {o : Memory} {two : Bool} {k' : StepCall} {r' : ℕ} {o' : Memory} → Executes k (Call o two)
      → LoadsFrom k (operand_of k (Call o two) o) k' r' o'
      → Holds (channel_of (left_by k').state k'.second) r' (found k (Call o two)).tp.address (found k (Call o two)).tp.tag
  -- suspend, and later resume with the channel's registers and the four bytes at PP as suspend left them
  pub pause : {s : State} {m : Buffers} {s' : State} {m' : Buffers} {channel : ℕ} → Pause s m s' m' channel
      → GoesOn (channel_of s (is_second channel)) (channel_of (attention_of s' m' channel).state (is_second channel)) (order_to s' m' (is_second channel)).ccw
