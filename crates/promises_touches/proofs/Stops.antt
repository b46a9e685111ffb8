-- Where the number is 2 the place at which the call stops is told and marked; where it is another, none is.
-- Assumes nothing.
use Prim.Native.Nat.{ℕ}
use borrow.Author.Tests.{ne_eqb}
use lib.Dec.{eqb}
use lib.ListN.{length, length-append}
use mathlib.Core.Bool.{Bool, true, false, ◌&&◌}
use mathlib.Core.List.{List, [], ◌++◌}
use mathlib.Core.Path.{◌≡◌, refl, ap, ◌∙◌}
use native.Mathlib.Omega.{arith}
use Rattle.ground_rules.proofs.ChoiceLaws.{and-false}
use Rattle.ground_rules.proofs.ConditionLaws.{told-exactly, told-touchable}
use Rattle.ground_rules.proofs.SpanLaws.{span-length}
use Rattle.ground_rules.specs.Buffers.{Buffers}
use Rattle.ground_rules.specs.Places.{Place, span, all_touchable}
use Rattle.ground_rules.specs.Stages.{stage}
use Rattle.ground_rules.specs.declared.Channel.{Channel}
use Rattle.ground_rules.specs.declared.Mode.{Mode}
use Rattle.attention_rules.specs.Commands.{command_number}
use Rattle.attention_rules.specs.declared.Order.{Order}
use Rattle.instruction_rules.specs.Execute.{decoded_at, later_from}
use Rattle.instruction_rules.specs.Operands.{bytes_at}
use Rattle.instruction_rules.specs.Reading.{decoded_number}
use Rattle.ground_rules.specs.declared.State.{State}
use Rattle.attention_rules.specs.Attention.{attention_of}
use Rattle.attention_rules.specs.Power.{power_up_of}
use Rattle.turn_rules.specs.Step.{step_of}
use Rattle.touch_rules.specs.Touches.{told_by_order, told_by_attention, told_by_power, told_by_instruction, told_by_step}
use Rattle.touch_rules.proofs.ToldLaws.{told_up_to, beyond-length, reads-length}
use Rattle.touch_rules.proofs.TouchesLaws.{order-told, instruction-told}
use Rattle.touch_rules.specs.Told.{Told, told_reads, first_beyond}
use Rattle.promises_touches.specs.Stops.{StopTold, OrderStops, InstructionStops, TransferStops}
use Rattle.promises_touches.proofs.Calls.{attention-staged, power-staged, step-staged}
use Rattle.instruction_rules.specs.Conditions.{PairBeyond}
use Rattle.promises_touches.proofs.Instructions.{later-stops}
use Rattle.promises_touches.proofs.Staged.{staged-stop}
use Rattle.promises_touches.proofs.Transfers.{bad-told}

pub attention-stop : (s : State) (m : Buffers) (channel : ℕ) → StopTold (attention_of s m channel).number m (told_by_attention s m channel)
attention-stop s m channel = staged-stop (attention-staged s m channel)

pub power-stop : (s : State) (m : Buffers) → StopTold (power_up_of s m).number m (told_by_power m)
power-stop s m = staged-stop (power-staged s m)

pub step-stop : (s : State) (m : Buffers) (lines : ℕ) → StopTold (step_of s m lines).number m (told_by_step s m lines)
step-stop s m lines = staged-stop (step-staged s m lines)

-- ---- no further than the stage where it stops

-- so many places that are read and no more
front_length : (m : Buffers) (ts : List Told) (ps : List Place) → ts ≡ first_beyond m (told_reads ps ++ []) → length ts ≡ length ps
front_length m ts ps e = ap length e ∙ beyond-length m (told_reads ps ++ []) ∙ length-append (told_reads ps) [] ∙ omega (arith, reads-length ps)

pub order-stops : (m : Buffers) (o : Order) (mode : Mode) → OrderStops m o mode
unfolding told_up_to
order-stops m o mode =
    record {
      ccw = λ h. short (ap (λ (b : Bool). b && eqb (command_number o.command mode) 0) ((told-exactly (told-touchable m (span false o.block 1))).1 h));
      command = λ ne. short (ap (λ (b : Bool). all_touchable m (span false o.block 1) && b) (ne_eqb (command_number o.command mode) 0 ne) ∙ and-false (all_touchable m (span false o.block 1)));
    }
  where
    short : all_touchable m (span false o.block 1) && eqb (command_number o.command mode) 0 ≡ false → length (told_by_order m o mode) ≡ 1
    short e = front_length m (told_by_order m o mode) (span false o.block 1) (order-told m o mode ∙ rw e) ∙ span-length false o.block 1

pub instruction-stops : (m : Buffers) (c : Channel) (busy : ℕ) → InstructionStops m c busy
unfolding told_up_to
instruction-stops m c busy =
    record {
      pair = λ h. short (ap (λ (b : Bool). b && eqb (decoded_number (decoded_at m c.tp)) 0) ((told-exactly (told-touchable m (bytes_at c.tp 2))).1 h));
      code = λ ne. short (ap (λ (b : Bool). all_touchable m (bytes_at c.tp 2) && b) (ne_eqb (decoded_number (decoded_at m c.tp)) 0 ne) ∙ and-false (all_touchable m (bytes_at c.tp 2)));
      later = λ free z h.
          ap length (later-stops c busy m (decoded_at m c.tp) (passes free) refl z ((told-exactly (told-touchable m (later_from (decoded_at m c.tp) c))).1 h)).1
          ∙ beyond-length m _
          ∙ length-append (told_reads (bytes_at c.tp 2)) (told_reads (later_from (decoded_at m c.tp) c) ++ [])
          ∙ omega (
            arith,
            reads-length (bytes_at c.tp 2),
            span-length c.tp.tag c.tp.address 2,
            length-append (told_reads (later_from (decoded_at m c.tp) c)) [],
            reads-length (later_from (decoded_at m c.tp) c),
          );
    }
  where
    short : all_touchable m (bytes_at c.tp 2) && eqb (decoded_number (decoded_at m c.tp)) 0 ≡ false → length (told_by_instruction m c busy) ≡ 2
    short e = front_length m (told_by_instruction m c busy) (bytes_at c.tp 2) (instruction-told m c busy ∙ rw e) ∙ span-length c.tp.tag c.tp.address 2

    passes : ¬ (PairBeyond m c) → all_touchable m (bytes_at c.tp 2) ≡ true
    passes free = go (all_touchable m (bytes_at c.tp 2)) refl
      where
        go : (b : Bool) → all_touchable m (bytes_at c.tp 2) ≡ b → all_touchable m (bytes_at c.tp 2) ≡ true
        go true e = e
        go false e = absurd (free ((told-exactly (told-touchable m (bytes_at c.tp 2))).0 e))

pub transfer-stops : (m : Buffers) (c : Channel) → TransferStops m c
transfer-stops m c = record { mode = λ e. ap length (bad-told c m e) }
