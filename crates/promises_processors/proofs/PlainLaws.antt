-- A sweep of one of two processors is the plain steps of that one in a row.
-- Assumes nothing.
use Prim.Native.Nat.{ℕ, zero, suc, ◌+◌}
use lib.Dec.{eqb}
use mathlib.Core.Bool.{Bool, true, false}
use mathlib.Core.Path.{◌≡◌, refl, sym, ap, ap₂, ◌∙◌}
use Rattle.ground_rules.specs.Choice.{pick}
use Rattle.ground_rules.specs.Buffers.{Buffers}
use Rattle.ground_rules.specs.Psw.{transferring}
use Rattle.ground_rules.specs.States.{channel_of, channel_number}
use Rattle.ground_rules.specs.declared.State.{State}
use Rattle.turn_rules.specs.Step.{Step, step_of}
use Rattle.turn_rules.specs.Touched.{step_count}
use Rattle.turn_rules.specs.declared.Kind.TheVariants.{Nothing}
use Rattle.sweep_rules.specs.Plainly.{plainly}
use Rattle.sweep_rules.specs.Sweep.{Sweep, swept_to}
use Rattle.promises_blocks.proofs.Sweeps.{sweeps}
use Rattle.processor_rules.proofs.LiftLaws.{called-back, called-again, lifted-named}
use Rattle.processor_rules.specs.Calls.{StepAnswer, SweepAnswer, step_answer, sweep_answer, step_gives, sweep_gives, step_on, sweep_on}
use Rattle.processor_rules.specs.Lifting.{Called, called_with, Lifted, lifted_to, called_on}
use Rattle.processor_rules.specs.Processors.{Processors, Memories, processor_number, processor_of, buffers_of}
use Rattle.promises_processors.specs.Plainly.{plainly_on, SweepIsPlain}

-- what a sweep's outcome gives
abbrev swept : Sweep → Called State SweepAnswer
swept o = called_with (sweep_answer o.number o.steps o.count) o.state o.memory

-- the plain steps of one processor, as the lifting takes them
abbrev plain_gives : ℕ → Bool → ℕ → State → Buffers → Called State SweepAnswer
plain_gives left second lines s m = swept (plainly left s m second lines)

module _ (b second : Bool) (lines : ℕ) where
  -- a step and the rest put together, where XF is set and the step is done
  joined : Processors State → Memories → Bool → Bool → StepAnswer → Lifted State SweepAnswer → Lifted State SweepAnswer
  joined p m set done a rest =
      pick set
      (pick done
      (lifted_to (sweep_answer rest.answer.number (suc rest.answer.steps) (a.count + rest.answer.count)) rest.both rest.memory)
      (lifted_to (sweep_answer a.number 0 0) p m))
      (lifted_to (sweep_answer 0 0 0) p m)

  -- plain steps on two processors are the one's own, put back under its name
  plain-called : (left : ℕ) (p : Processors State) (m : Memories) → plainly_on left p m b second lines ≡ called_on (plain_gives left second lines) p m b
  unfolding plainly_on plainly step_on called_on joined
  plain-called zero p m = sym (called-back (plain_gives zero second lines) p m b (refl, refl))
  plain-called (suc left) p m =
      ap₂ (λ (a : StepAnswer) (r : Lifted State SweepAnswer). joined p m set (eqb a.number 0) a r) (ap (λ (o : Lifted State StepAnswer). o.answer) one)
      (plain-called left _ _ ∙ ap (λ (o : Lifted State StepAnswer). called_on (plain_gives left second lines) o.both o.memory b) one
      ∙ called-again (step_gives lines) (plain_gives left second lines) p m b)
      ∙ same set (eqb t.number 0)
    where
      t : Step
      t = step_of (processor_of p b) (buffers_of m b) lines

      set : Bool
      set = transferring (channel_of (processor_of p b) second).psw

      one : step_on p m (processor_number b) lines ≡ called_on (step_gives lines) p m b
      one = lifted-named (step_gives lines) (step_answer 12 0 0 Nothing) p m b

      rest : Sweep
      rest = plainly left t.state t.memory second lines

      count : ℕ
      count = step_count (processor_of p b) (buffers_of m b) lines

      whole : Bool → Bool → State → Buffers → Called State SweepAnswer
      whole x y s n =
          swept (pick x
          (pick y (swept_to rest.number rest.state rest.memory (suc rest.steps) (count + rest.count)) (swept_to t.number s n 0 0))
          (swept_to 0 s n 0 0))

      same : (x y : Bool)
          → joined p m x y (step_answer t.number count t.channel t.kind) (called_on (λ _ _. swept rest) p m b) ≡ called_on (whole x y) p m b
      same true true = refl
      same true false = sym (called-back (whole true false) p m b (refl, refl))
      same false y = sym (called-back (whole false y) p m b (refl, refl))

pub sweep-is-plain : SweepIsPlain
unfolding sweep_on called_on
sweep-is-plain b second lines p m left z small enough =
    let named = lifted-named (sweep_gives (channel_number second) lines) (sweep_answer 12 0 0) p m b in
    let seen = ap (λ (o : Lifted State SweepAnswer). o.answer) named in
    let d = sweeps.does (processor_of p b) (buffers_of m b) second lines (sym (ap (λ (a : SweepAnswer). a.number) seen) ∙ z) small in
    let plain = d.plain left (rw seen at enough) in
    named ∙ ap (λ (o : Sweep). called_on (λ _ _. swept o) p m b) plain ∙ sym (plain-called b second lines left p m)
