-- An instruction with an immediate to a register: from its bytes at TP to the end of its step.
-- Assumes nothing.
use Rattle.std.proofs.Common.{Ok}
use Prim.Native.Nat.{ℕ, ◌+◌, ◌-◌, ◌%◌, ◌<◌}
use borrow.Author.Tests.{eq-eqb}
use lib.ListN.{length, get_or}
use mathlib.Core.Bool.{Bool, true, false}
use mathlib.Core.List.{List}
use mathlib.Core.Path.{◌≡◌, refl, sym, ap, ap₂, ◌∙◌}
use native.Mathlib.Nat.{add-zero, add_assoc}
use native.Mathlib.Omega.{arith}
use Rattle.instruction_rules.specs.Lengths.{data_length, displacement_length, length_of}
use Rattle.instruction_rules.specs.Reading.{decode_of}
use Rattle.instruction_rules.specs.declared.Shape.TheVariants.{RegisterImmediate}
use Rattle.instruction_rules.specs.declared.Work.{Work}
use Rattle.instruction_rules.specs.RegisterForms.{register_written, register_immediate_deed}
use Rattle.instruction_rules.proofs.OutcomeLaws.{done-where}
use Rattle.instruction_rules.specs.Execute.{decoded_at, performed, deed_of, later_bytes, Executed, executed, execute_of}
use Rattle.ground_rules.proofs.ChannelLaws.{put_same, last-channel}
use Rattle.ground_rules.specs.Psw.{transferring}
use Rattle.ground_rules.specs.Registers.{register_of}
use Rattle.ground_rules.specs.States.{channel_of, with_channel, block_of, busy_in}
use Rattle.ground_rules.specs.declared.Channel.{Channel}
use Rattle.ground_rules.specs.declared.State.{State}
use Rattle.ground_rules.proofs.PlaceLaws.{byte-reduced, word-reduced}
use Rattle.ground_rules.specs.Buffers.{Buffers, byte_at}
use Rattle.ground_rules.specs.Places.{span, all_pass, all_touchable}
use Rattle.ground_rules.specs.Values.{word_at, onward}
use Rattle.ground_rules.specs.declared.Pointer.{Pointer}
use Rattle.instruction_rules.specs.Changes.{places_of, changed}
use Rattle.instruction_rules.specs.Marks.{past_instruction}
use Rattle.instruction_rules.specs.Operands.{bytes_at, size_of, operand_at, work_of}
use Rattle.turn_rules.specs.Step.{Step, done_step, settled_step, instruction_step, channel_step, chosen_step, entry_number, step_of}
use Rattle.turn_rules.specs.declared.Kind.TheVariants.{Instruction as AnInstruction}
use Rattle.ground_rules.specs.Bytes.{word_of}
use Rattle.ground_rules.specs.Choice.{pick}
use Rattle.ground_rules.specs.Signs.{extended}
use Rattle.promises.specs.Calls.{HasTurn}
use Rattle.promises.specs.Cases.{Stand, Executes}
use Rattle.promises.proofs.StandLaws.{span-touchable, rest-touchable}

-- ---- bytes that stand at a place

-- the immediate of an instruction, in its bytes
abbrev pub immediate_of : List ℕ → Bool → ℕ
immediate_of code wide = pick wide (extended 16 (word_of (get_or code 2 0) (get_or code 3 0))) (extended 8 (get_or code 2 0))

module _ {m : Buffers} {p : Pointer} {bytes : List ℕ} (there : Stand m p bytes) where
  -- the first byte stands at the place itself
  first_byte : 0 < length bytes → byte_at m p.tag p.address ≡ get_or bytes 0 0
  first_byte h = ap (byte_at m p.tag) (sym (add-zero p.address)) ∙ there.read 0 h

  -- the others at the addresses after it, reduced or not
  pub byte-on : (i : ℕ) → i < length bytes → byte_at m p.tag ((p.address + i) % 1048576) ≡ get_or bytes i 0
  byte-on i h = byte-reduced m p.tag (p.address + i) ∙ there.read i h

  -- and so do words
  pub word-at : (i : ℕ) → i + 1 < length bytes → word_at m p.tag (p.address + i) ≡ word_of (get_or bytes i 0) (get_or bytes (i + 1) 0)
  unfolding word_at
  word-at i h = ap₂ word_of (there.read i (omega arith)) (ap (byte_at m p.tag) (add_assoc p.address i 1) ∙ there.read (i + 1) h)

  -- the first two are what is decoded
  pub decoded : 1 < length bytes → decoded_at m p ≡ decode_of (get_or bytes 0 0) (get_or bytes 1 0)
  unfolding decoded_at onward
  decoded h = ap₂ decode_of (first_byte (omega arith)) (byte-on 1 h)

  -- they may be touched
  pub pair-touchable : 1 < length bytes → all_touchable m (bytes_at p 2) ≡ true
  pair-touchable h = span-touchable m p.tag p.address 2 (λ i l. there.lent i (omega arith))

  -- and so may the data after them
  pub data-touchable : (wide : Bool) → 1 + size_of wide < length bytes → all_touchable m (bytes_at (onward p 2) (size_of wide)) ≡ true
  unfolding onward
  data-touchable wide h = rest-touchable there 2 (size_of wide) (omega arith)

  -- which is the immediate
  pub immediate-read : (wide : Bool) → 1 + size_of wide < length bytes → operand_at m (onward p 2) wide ≡ immediate_of bytes wide
  unfolding operand_at onward
  immediate-read false h = ap (extended 8) (byte-on 2 h)
  immediate-read true h = ap (extended 16) (word-reduced m p.tag (p.address + 2) ∙ word-at 2 h)

-- ---- the instruction

-- the channel after it
abbrev pub immediate_done : Work → ℕ → Bool → Channel → List ℕ → Channel
immediate_done work r wide c code =
    let c' = past_instruction c (length_of (RegisterImmediate work r wide)) in
    register_written work c' r (work_of work (register_of c' r) (immediate_of code wide))

-- it has its pair and the data
data-length : (work : Work) (r : ℕ) (wide : Bool) → length_of (RegisterImmediate work r wide) - 2 ≡ size_of wide
unfolding length_of data_length displacement_length
data-length work r true = refl
data-length work r false = refl

-- so where all of it is there the pair is
pair-there : (wide : Bool) (n : ℕ) → 1 + size_of wide < n → 1 < n
pair-there false n h = omega arith
pair-there true n h = omega arith

-- it is done: the channel gets the immediate, no byte changes
pub immediate-executed : (work : Work) (r : ℕ) (wide : Bool) (m : Buffers) (c : Channel) (code : List ℕ) → Stand m c.tp code → 1 + size_of wide < length code
    → decode_of (get_or code 0 0) (get_or code 1 0) ≡ Ok (RegisterImmediate work r wide) → (busy : ℕ)
    → execute_of c busy m ≡ executed 0 (immediate_done work r wide c code) m
unfolding changed deed_of performed register_immediate_deed places_of later_bytes span all_pass
immediate-executed work r wide m c code there whole e busy =
    let pair = pair-there wide (length code) whole in
    let shape = RegisterImmediate work r wide in
    done-where c busy m shape (decoded there pair ∙ e) (pair-touchable there pair)
    (ap (λ (n : ℕ). all_touchable m (bytes_at (onward c.tp 2) n)) (data-length work r wide) ∙ data-touchable there wide whole) refl refl refl
    ∙ ap (λ (v : ℕ). executed 0 (register_written work (past_instruction c (length_of shape)) r (work_of work (register_of (past_instruction c (length_of shape)) r) v)) m) (immediate-read there wide whole)

-- ---- its step

-- a channel's turn without XF is its instruction
pub turn-executes : (b : Bool) (s : State) (m : Buffers) (lines : ℕ) → HasTurn b s m lines → transferring (channel_of s b).psw ≡ false → step_of s m lines ≡ instruction_step s m b
unfolding step_of chosen_step channel_step
turn-executes b s m lines t x = rw (eq-eqb (entry_number s m lines) 0 t.entered, t.chosen, x)

module _ (b : Bool) (s : State) (m : Buffers) (lines : ℕ) {code : List ℕ} (work : Work) (r : ℕ) (wide : Bool) where
  -- the step is done, and the channel is as the instruction leaves it
  pub immediate-step : 1 + size_of wide < length code → decode_of (get_or code 0 0) (get_or code 1 0) ≡ Ok (RegisterImmediate work r wide)
      → Executes b s m lines code
      → ((step_of s m lines).number ≡ 0) × (channel_of (step_of s m lines).state b ≡ immediate_done work r wide (channel_of s b) code)
  unfolding instruction_step settled_step
  immediate-step h e x = (ap (λ (o : Step). o.number) step, ap (λ (o : Step). channel_of o.state b) step ∙ last-channel (with_channel s b after) b b ∙ put_same s b after)
    where
      after : Channel
      after = immediate_done work r wide (channel_of s b) code

      step : step_of s m lines ≡ done_step s b after m AnInstruction
      step =
          turn-executes b s m lines x.turn x.program
          ∙ ap (λ (y : Executed). settled_step y.number s m b y.channel y.memory AnInstruction)
          (immediate-executed work r wide m (channel_of s b) code x.there h e (busy_in (block_of s b)))
