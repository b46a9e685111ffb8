-- Demand 2: what an attention and a step do, what they leave alone, and that no pointer loses anything on its way to memory and back.
use Rattle.std.specs.Prelude.{Bool, true, false, not, List, ◌⊎◌, ◌≡◌, ℕ, length}
use Rattle.ground_rules.specs.Buffers.{Buffers, space_of, byte_at}
use Rattle.ground_rules.specs.Places.{Place, ApartFrom}
use Rattle.ground_rules.specs.declared.Channel.{Channel}
use Rattle.ground_rules.specs.declared.State.{State}
use Rattle.ground_rules.specs.Outcomes.{outcome}
use Rattle.ground_rules.specs.Psw.{transferring}
use Rattle.ground_rules.specs.States.{channel_of, with_channel, block_of, busy_in, is_second, channel_number}
use Rattle.attention_rules.specs.Attention.{order_to, channel_attended, ordered_memory, attention_of}
use Rattle.attention_rules.specs.Touched.{stored_by}
use Rattle.transfer_rules.specs.Ends.{externally_ended}
use Rattle.transfer_rules.specs.Steps.{transfer_of}
use Rattle.instruction_rules.specs.Execute.{execute_of}
use Rattle.turn_rules.specs.declared.Choice.TheVariants.{Ends, Steps}
use Rattle.turn_rules.specs.declared.Kind.TheVariants.{Instruction, Transfer, External}
use Rattle.turn_rules.specs.Choosing.{choice_of}
use Rattle.turn_rules.specs.Step.{done_step, step_of}
use Rattle.turn_rules.specs.Touched.{touched_by_step}
use Rattle.promises.specs.Pointers.{PointersKept}

-- the bytes that the order in a channel's block stores
abbrev pub stored_by_order : State → Buffers → ℕ → List Place
stored_by_order s m channel =
    stored_by (order_to s m (is_second channel)).command (order_to s m (is_second channel)).block (order_to s m (is_second channel)).pb

-- no register but TP, PP, PSW, the mode, the armed mark and the held byte has changed
pub record OnlyControl (before after : Channel) : Type 0 where
  pub ga : after.ga ≡ before.ga
  pub gb : after.gb ≡ before.gb
  pub gc : after.gc ≡ before.gc
  pub bc : after.bc ≡ before.bc
  pub ix : after.ix ≡ before.ix
  pub cc : after.cc ≡ before.cc
  pub mc : after.mc ≡ before.mc
  pub fields : after.fields ≡ before.fields

-- an attention, to any channel in any state and memories
pub record AttentionDoes (s : State) (m : Buffers) (channel : ℕ) : Type 0 where
  -- an accepted one does what the order in its channel's block says, to that channel and to memory
  pub obeys : (attention_of s m channel).number ≡ 0
      → attention_of s m channel ≡ outcome 0 (with_channel s (is_second channel) (channel_attended s m (is_second channel))) (ordered_memory s m (is_second channel))
  -- no register of the other channel changes
  pub other : (second : Bool) → channel ≡ channel_number second → channel_of (attention_of s m channel).state (not second) ≡ channel_of s (not second)
  -- of its own channel it changes no register but TP, PP, PSW, the mode, the armed mark and the held byte (SheetAttention says which command keeps it)
  pub own : OnlyControl (channel_of s (is_second channel)) (channel_of (attention_of s m channel).state (is_second channel))
  -- of what the channels share it changes nothing
  pub control_block : (attention_of s m channel).state.cp ≡ s.cp
  pub last : (attention_of s m channel).state.last ≡ s.last
  pub board : (attention_of s m channel).state.board ≡ s.board
  -- every byte that its order does not store is as it was
  pub bytes : (tag : Bool) (address : ℕ) → ApartFrom (stored_by_order s m channel) tag address → byte_at (attention_of s m channel).memory tag address ≡ byte_at m tag address
  -- and so is the length of either memory
  pub lengths : (tag : Bool) → length (space_of (attention_of s m channel).memory tag) ≡ length (space_of m tag)

-- a step, of any state and memories, with any lines
pub record StepDoes (s : State) (m : Buffers) (lines : ℕ) : Type 0 where
  -- a done step is of the channel that was chosen
  pub chosen : (second : Bool) → (step_of s m lines).channel ≡ channel_number second → (choice_of s lines ≡ Ends second) ⊎ (choice_of s lines ≡ Steps second)
  -- an external end moves TP on by the offset of TX and clears XF, and no byte moves (§5.2)
  pub ends : (second : Bool) → (step_of s m lines).number ≡ 0 → choice_of s lines ≡ Ends second
      → step_of s m lines ≡ done_step s second (externally_ended (channel_of s second)) m External
  -- with XF it is a transfer step of the chosen channel
  pub moves : (second : Bool) → (step_of s m lines).number ≡ 0 → choice_of s lines ≡ Steps second → transferring (channel_of s second).psw ≡ true
      → step_of s m lines ≡ done_step s second (transfer_of (channel_of s second) m).channel (transfer_of (channel_of s second) m).memory Transfer
  -- without XF it is an instruction of the chosen channel
  pub executes : (second : Bool) → (step_of s m lines).number ≡ 0 → choice_of s lines ≡ Steps second → transferring (channel_of s second).psw ≡ false
      → step_of s m lines
      ≡ done_step s second (execute_of (channel_of s second) (busy_in (block_of s second)) m).channel (execute_of (channel_of s second) (busy_in (block_of s second)) m).memory Instruction
  -- no register of the other channel changes
  pub other : (second : Bool) → (step_of s m lines).channel ≡ channel_number second → channel_of (step_of s m lines).state (not second) ≡ channel_of s (not second)
  -- of what the channels share only the last to step changes, and only where the step is done
  pub control_block : (step_of s m lines).state.cp ≡ s.cp
  pub board : (step_of s m lines).state.board ≡ s.board
  pub last : (step_of s m lines).number ≡ 0 → (step_of s m lines).channel ≡ channel_number (step_of s m lines).state.last
  pub refused_last : ¬ ((step_of s m lines).number ≡ 0) → (step_of s m lines).state.last ≡ s.last
  -- every byte outside the places that it touches is as it was
  pub bytes : (tag : Bool) (address : ℕ) → ApartFrom (touched_by_step s m lines) tag address → byte_at (step_of s m lines).memory tag address ≡ byte_at m tag address
  -- and so is the length of either memory
  pub lengths : (tag : Bool) → length (space_of (step_of s m lines).memory tag) ≡ length (space_of m tag)

-- the demand
pub record Demand2 : Type 0 where
  -- what the two calls do to registers, tags, status and memory, and what they leave alone (§4, §5)
  pub attention : (s : State) (m : Buffers) (channel : ℕ) → AttentionDoes s m channel
  pub step : (s : State) (m : Buffers) (lines : ℕ) → StepDoes s m lines
  -- no pointer loses anything on its way through its three stored bytes (§1.6)
  pub pointers : PointersKept
