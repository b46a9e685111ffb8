-- The plain steps that a sweep stands for, by step calls alone: nothing here knows how many they will be (§7.15).
use Rattle.std.specs.Prelude.{Bool, ℕ, zero, suc, ◌+◌, eqb}
use Rattle.ground_rules.specs.Choice.{pick}
use Rattle.ground_rules.specs.Buffers.{Buffers}
use Rattle.ground_rules.specs.Psw.{transferring}
use Rattle.ground_rules.specs.States.{channel_of}
use Rattle.ground_rules.specs.declared.State.{State}
use Rattle.turn_rules.specs.Step.{step_of}
use Rattle.turn_rules.specs.Touched.{step_count}
use Rattle.sweep_rules.specs.Sweep.{Sweep, swept_to}

-- step calls with the same lines, one after the other, until the channel's XF is clear or one is refused, at most `left` of them: the number, what they
-- leave, how many they are, and how many bytes they read and stored together
unfoldable pub plainly : ℕ → State → Buffers → Bool → ℕ → Sweep
plainly zero s m second lines = swept_to 0 s m 0 0
plainly (suc left) s m second lines =
    let o = step_of s m lines in
    let rest = plainly left o.state o.memory second lines in
    pick (transferring (channel_of s second).psw)
    (pick (eqb o.number 0)
    (swept_to rest.number rest.state rest.memory (suc rest.steps) (step_count s m lines + rest.count))
    (swept_to o.number s m 0 0))
    (swept_to 0 s m 0 0)
