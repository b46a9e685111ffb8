-- Why each premise of demand 3 with pauses is there, in numbers: two bytes are moved, undisturbed and with a pause between that breaks one premise.
-- Assumes nothing.
use Prim.Native.Nat.{ℕ}
use lib.ListN.{replicate}
use mathlib.Core.{Bool.true, Bool.false, List.[], List.◌∷◌, Path.◌≡◌, Path.refl}
use Rattle.ground_rules.specs.Buffers.{Buffers, buffers, store_byte}
use Rattle.ground_rules.specs.States.{idle_channel, board_with, block_of, busy_in, is_channel, is_second, is_suspended}
use Rattle.ground_rules.specs.{declared.Pointer.Pointer, Places.span, Values.pointer, Values.pointer_at, Values.store_pointer, declared.Mode.TheVariants.Running}
use Rattle.ground_rules.specs.{declared.State.State, Outcomes.Outcome, Outcomes.settled, Updates.with_control, Updates.stopped_psw}
use Rattle.attention_rules.specs.Attention.{order_to, order_number, channel_attended, ordered_memory, given_to, attention_number, attention_of}
use Rattle.attention_rules.specs.Commands.{command_coded, is_known, mode_number, command_number, copied, obeyed, ordered}
use Rattle.attention_rules.specs.Effects.{suspended, resumed, commanded, channel_ordered, saved, marked, stored_memory}
use Rattle.attention_rules.specs.{Blocks.ccw_of, Blocks.parameter_block, Blocks.order_of, Touched.read_by, Touched.stored_by, Touched.others, Touched.order_stages}
use Rattle.turn_rules.specs.Step.{Step, step_of}
use Rattle.promises.{specs.Witness.running_with, proofs.CallWitness.step_open}

-- channel 1 of a board with CP 8, CCW at 8 and BUSY at 9, that moves two bytes from I/O address 0 on, by bytes, TBC 01; TP is 101h
abbrev pub moving : Pointer → ℕ → ℕ → State
moving into pp psw =
    let c = with_control (running_with (pointer 0 true) into 0x101 2 0xC008 psw) (pointer 0x101 false) pp psw Running false in
    record { first = c; second = idle_channel; cp = 8; last = true; board = board_with true false false false }

-- with destination and PB elsewhere
abbrev pub usual : ℕ → State
usual psw = moving (pointer 2 true) 0 psw

-- an attention to it with this CCW
noticed : State → Buffers → ℕ → Outcome
unfolding attention_of attention_number given_to is_channel is_second settled order_number order_stages order_to order_of ccw_of command_coded parameter_block command_number is_known mode_number is_suspended block_of busy_in others read_by stored_by span ordered_memory stored_memory marked saved store_pointer pointer_at channel_attended channel_ordered commanded suspended resumed ordered copied obeyed with_control stopped_psw
noticed s m ccw = attention_of s (store_byte m false 8 ccw) 1

-- what its two steps leave, undisturbed, and with a pause between them: CCW 06h, whatever else happens while it is suspended, and this CCW to resume
pub leave : State → (Buffers → Buffers) → ℕ → Step × Step
unfolding step_open noticed running_with idle_channel
leave s between ccw =
    let o = step_of s (buffers (replicate 16 0) (5 ∷ 6 ∷ 0 ∷ 0 ∷ [])) 0 in
    let a = noticed o.state o.memory 0x06 in
    let b = noticed a.state (between a.memory) ccw in
    (step_of o.state o.memory 0, step_of b.state b.memory 0)

-- PSW after both, and TP
abbrev pub psws : Step × Step → ℕ × ℕ
psws o = (o.0.state.first.psw, o.1.state.first.psw)

abbrev pub tps : Step × Step → Pointer × Pointer
tps o = (o.0.state.first.tp, o.1.state.first.tp)

pub record Needed : Type 0 where
  -- no premise broken: the same registers
  pub none : (leave (usual 0x44) (λ m. m) 0x05).1.state.first ≡ (leave (usual 0x44) (λ m. m) 0x05).0.state.first
  -- TB 0 at the start: resume sets it
  pub program : psws (leave (usual 0x40) (λ m. m) 0x05) ≡ (0x00, 0x04)
  -- ICF 10 at the resume: IC is set
  pub interrupts : psws (leave (usual 0x44) (λ m. m) 0x15) ≡ (0x04, 0x0C)
  -- bit 7 at the resume is not PSW's: so is priority then
  pub ranked : psws (leave (usual 0x44) (λ m. m) 0x85) ≡ (0x04, 0x84)
  -- PB's third byte is overwritten while it is suspended: TP is elsewhere
  pub block : tps (leave (usual 0x44) (λ m. store_byte m false 2 0x18) 0x05) ≡ (pointer 0x101 false, pointer 0x10101 true)
  -- BUSY is the first of PB's bytes: its store hits the TP that was saved
  pub busy : tps (leave (moving (pointer 2 true) 9 0x44) (λ m. m) 0x05) ≡ (pointer 0x101 false, pointer 0x100 false)
  -- PB in the destination: suspend runs over the byte that had arrived, and over the next, which is moved again
  pub destination : (leave (moving (pointer 0 false) 0 0x44) (λ m. m) 0x05).0.memory.sys ≡ 5 ∷ 6 ∷ replicate 14 0
  pub overrun : (leave (moving (pointer 0 false) 0 0x44) (λ m. m) 0x05).1.memory.sys ≡ 1 ∷ 6 ∷ 0 ∷ 0x44 ∷ 0 ∷ 0 ∷ 0 ∷ 0 ∷ 5 ∷ 0xFF ∷ replicate 6 0

pub needed : Needed
unfolding leave
needed = record { none = refl; program = refl; interrupts = refl; ranked = refl; block = refl; busy = refl; destination = refl; overrun = refl }
