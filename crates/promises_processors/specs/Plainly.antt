-- The plain steps that a sweep of one processor stands for, by step calls on the two: nothing here knows of a single processor's steps.
use Rattle.std.specs.Prelude.{Bool, ◌≡◌, ℕ, zero, suc, ◌+◌, ◌<◌, ◌≤◌, eqb}
use Rattle.ground_rules.specs.Choice.{pick}
use Rattle.ground_rules.specs.Psw.{transferring}
use Rattle.ground_rules.specs.States.{channel_of, channel_number}
use Rattle.ground_rules.specs.declared.State.{State}
use Rattle.processor_rules.specs.Calls.{SweepAnswer, sweep_answer, step_on, sweep_on}
use Rattle.processor_rules.specs.Lifting.{Lifted, lifted_to}
use Rattle.processor_rules.specs.Processors.{Processors, Memories, processor_number, processor_of}

-- step calls on a processor with the same lines, one after the other, until its channel's XF is clear or one is refused, at most `left` of them
unfoldable pub plainly_on : ℕ → Processors State → Memories → Bool → Bool → ℕ → Lifted State SweepAnswer
plainly_on zero p m which second lines = lifted_to (sweep_answer 0 0 0) p m
plainly_on (suc left) p m which second lines =
    let o = step_on p m (processor_number which) lines in
    let rest = plainly_on left o.both o.memory which second lines in
    pick (transferring (channel_of (processor_of p which) second).psw)
    (pick (eqb o.answer.number 0)
    (lifted_to (sweep_answer rest.answer.number (suc rest.answer.steps) (o.answer.count + rest.answer.count)) rest.both rest.memory)
    (lifted_to (sweep_answer o.answer.number 0 0) p m))
    (lifted_to (sweep_answer 0 0 0) p m)

-- an accepted sweep of a processor's channel whose BC has 16 bits is these steps: the answer, both states and all three memories; `left` is any number of
-- steps that is enough
abbrev pub SweepIsPlain : Type 0
SweepIsPlain =
    (which second : Bool) (lines : ℕ) (p : Processors State) (m : Memories) (left : ℕ)
    → let o = sweep_on p m (processor_number which) (channel_number second) lines in
    o.answer.number ≡ 0 → (channel_of (processor_of p which) second).bc < 65536 → o.answer.steps ≤ left → o ≡ plainly_on left p m which second lines
