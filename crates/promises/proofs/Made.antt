-- Every state that calls make from a fresh one or from a power-up is sound, powered up and agrees, so none of them is ever refused by 10, 13 or 14; and 3 and 4 of an instruction by the rows of the table.
-- Assumes nothing.
use Rattle.std.proofs.Common.{Ok, Err}
use lib.Dec.{eqb}
use borrow.Author.Tests.{eqb-true, eqb-false}
use mathlib.Core.Bool.{Bool, true, false}
use mathlib.Core.Logic.Iff
use mathlib.Core.Logic.{◌↔◌}
use mathlib.Core.Path.{◌≡◌, refl, ap, ◌∙◌}
use Prim.Native.Nat.{ℕ, ◌≤◌}
use Rattle.attention_rules.proofs.Numbers.{attention-ready}
use Rattle.attention_rules.proofs.Outcomes.{refused-nothing, shared_kept}
use Rattle.attention_rules.proofs.SoundLaws.{attention-sound, attention-agree}
use Rattle.attention_rules.specs.Attention.{attention_of}
use Rattle.instruction_rules.proofs.Outcomes.{three-exactly, four-exactly}
use Rattle.instruction_rules.specs.Reading.{decoded_number}
use Rattle.instruction_rules.specs.Decoded.{Decoded}
use Rattle.instruction_rules.specs.declared.Unread.TheVariants.{NoInstruction, ControlUsed}
use Rattle.instruction_rules.specs.Conditions.{NoCode, ControlTouched}
use Rattle.instruction_rules.specs.Execute.{decoded_at}
use Rattle.instruction_rules.specs.Operands.{byte_here}
use Rattle.ground_rules.proofs.ChannelLaws.{fresh-sound, fresh-powered}
use Rattle.ground_rules.proofs.FieldLaws.{fresh-agree}
use Rattle.ground_rules.specs.Outcomes.{Outcome}
use Rattle.ground_rules.specs.States.{sound, agree}
use Rattle.ground_rules.specs.declared.Board.{Board}
use Rattle.ground_rules.specs.declared.Channel.{Channel}
use Rattle.ground_rules.specs.declared.State.{State}
use Rattle.ground_rules.specs.Buffers.{Buffers, AllBytes}
use Rattle.ground_rules.specs.Values.{onward}
use Rattle.attention_rules.proofs.PowerOutcomes.{power-accepted, found-sound, found-powered, found-agree}
use Rattle.turn_rules.proofs.NumberLaws.{step-ready}
use Rattle.turn_rules.proofs.OutcomeLaws.{refused, board-kept}
use Rattle.turn_rules.proofs.SoundLaws.{sound-kept, step-agree}
use Rattle.turn_rules.specs.Step.{Step, step_of}
use Rattle.promises.specs.Made.{MadeIn, MadeByCalls, MadeOfBytes, NoRow, RowUsesControl}
use Rattle.promises.specs.Made.MadeIn.{fresh, power, attention, step}

-- ---- sound states

-- an attention to a sound state leaves a sound one, accepted or refused
attention-either : (s : State) (m : Buffers) → AllBytes m → (channel : ℕ) → sound s ≡ true → sound (attention_of s m channel).state ≡ true
attention-either s m bytes channel h = go (eqb (attention_of s m channel).number 0) refl
  where
    go : (b : Bool) → eqb (attention_of s m channel).number 0 ≡ b → sound (attention_of s m channel).state ≡ true
    go true e = attention-sound s m channel bytes (eqb-true (attention_of s m channel).number 0 e)
    go false e = ap (λ (o : Outcome). sound o.state) (refused-nothing s m channel (eqb-false (attention_of s m channel).number 0 e)) ∙ h

-- a step of one too
step-either : (s : State) (m : Buffers) (lines : ℕ) → sound s ≡ true → sound (step_of s m lines).state ≡ true
step-either s m lines h = go (eqb (step_of s m lines).number 0) refl
  where
    go : (b : Bool) → eqb (step_of s m lines).number 0 ≡ b → sound (step_of s m lines).state ≡ true
    go true e = sound-kept s m lines (eqb-true (step_of s m lines).number 0 e)
    go false e = ap (λ (o : Step). sound o.state) (refused s m lines (eqb-false (step_of s m lines).number 0 e)) ∙ h

-- in memories of bytes every such state is sound
pub made-sound : {s : State} → MadeOfBytes s → sound s ≡ true
made-sound (fresh cp) = fresh-sound cp
made-sound (power s m e) = ap (λ (o : Outcome). sound o.state) (power-accepted s m e) ∙ found-sound m
made-sound (attention {s} made m bytes channel) = attention-either s m bytes channel (made-sound made)
made-sound (step {s} made m lines) = step-either s m lines (made-sound made)

-- ---- powered up

-- what is asked of memories may be left out
pub made-any : {asked : Buffers → Type 0} {s : State} → MadeIn asked s → MadeByCalls s
made-any (fresh cp) = fresh cp
made-any (power s m e) = power s m e
made-any (attention made m bytes channel) = attention (made-any made) m tt channel
made-any (step made m lines) = step (made-any made) m lines

-- in any memories every such state is powered up
pub made-powered : {s : State} → MadeByCalls s → s.board.powered ≡ true
made-powered (fresh cp) = fresh-powered cp
made-powered (power s m e) = ap (λ (o : Outcome). o.state.board.powered) (power-accepted s m e) ∙ found-powered m
made-powered (attention {s} made m bytes channel) = ap (λ (b : Board). b.powered) (shared_kept s m channel).2 ∙ made-powered made
made-powered (step {s} made m lines) = ap (λ (b : Board). b.powered) (board-kept s m lines) ∙ made-powered made

-- the fields of every such state are those of CC
pub made-agree : {s : State} → MadeByCalls s → agree s ≡ true
made-agree (fresh cp) = fresh-agree cp
made-agree (power s m e) = ap (λ (o : Outcome). agree o.state) (power-accepted s m e) ∙ found-agree m
made-agree (attention {s} made m bytes channel) = attention-agree s m channel (made-agree made)
made-agree (step {s} made m lines) = step-agree s m lines (made-agree made)

-- so no attention to it and no step of it is 13 or 14
pub made-attends : {s : State} → MadeByCalls s → (m : Buffers) (channel : ℕ) → (attention_of s m channel).number ≤ 12
made-attends {s} made m channel = attention-ready s m channel (made-powered made, made-agree made)

pub made-steps : {s : State} → MadeByCalls s → (m : Buffers) (lines : ℕ) → (step_of s m lines).number ≤ 12
made-steps {s} made m lines = step-ready s m lines (made-powered made, made-agree made)

-- ---- 3 and 4 in the rows' own words

-- an answer is no instruction, or a use of CC, by its number
none-by : (d : Decoded) → (d ≡ Err NoInstruction) ↔ (decoded_number d ≡ 3)
none-by (Ok s) = (λ e. ap decoded_number e, λ e. absurd (eqb-false 0 3 refl e))
none-by (Err NoInstruction) = (λ e. refl, λ e. refl)
none-by (Err ControlUsed) = (λ e. ap decoded_number e, λ e. absurd (eqb-false 4 3 refl e))

used-by : (d : Decoded) → (d ≡ Err ControlUsed) ↔ (decoded_number d ≡ 4)
used-by (Ok s) = (λ e. ap decoded_number e, λ e. absurd (eqb-false 0 4 refl e))
used-by (Err NoInstruction) = (λ e. ap decoded_number e, λ e. absurd (eqb-false 3 4 refl e))
used-by (Err ControlUsed) = (λ e. refl, λ e. refl)

module _ (m : Buffers) (c : Channel) where
  -- the condition of 3 in the chain of an instruction is that no row is met
  pub three-by-rows : NoCode (decoded_at m c.tp) ↔ NoRow m c
  unfolding decoded_at
  three-by-rows = Iff.trans (none-by _) (three-exactly (byte_here m c.tp) (byte_here m (onward c.tp 1)))

  -- and that of 4 that a row is met which uses CC
  pub four-by-rows : ControlTouched (decoded_at m c.tp) ↔ RowUsesControl m c
  unfolding decoded_at
  four-by-rows = Iff.trans (used-by _) (four-exactly (byte_here m c.tp) (byte_here m (onward c.tp 1)))
