-- `attention::effects::commanded` meets its contract.
-- Assumes nothing.
use mathlib.Core.Path.{◌∙◌}
use Rattle.ground_rules.proofs.PlaceLaws.{byte-reduced}
use Rattle.attention_rules.specs.Effects.{commanded}
use Rattle.attention.proofs.effects.commanded.Goals as goal

pub returns-in-Update : goal.returns-in-Update
unfolding commanded
returns-in-Update c = simp (c.in-Update.is, c.in-Update.in-Update-own.keys1)

pub returns-in-StartLocal : goal.returns-in-StartLocal
unfolding commanded
returns-in-StartLocal c = simp (← c.started.ensures, ← c.word-address.ensures, c.in-StartLocal.is, c.in-StartLocal.in-StartLocal-own.keys2)

pub returns-in-StartSystem : goal.returns-in-StartSystem
unfolding commanded
returns-in-StartSystem c = simp (← c.started-in-StartSystem.ensures, ← c.doubleword-address.ensures, c.in-StartSystem.is, c.in-StartSystem.in-StartSystem-own.keys3)

pub returns-in-Suspend : goal.returns-in-Suspend
unfolding commanded
returns-in-Suspend c = simp (← c.suspended.ensures, c.in-Suspend.is, c.in-Suspend.in-Suspend-own.keys4)

pub returns-in-Resume : goal.returns-in-Resume
unfolding commanded
returns-in-Resume c =
    c.resumed.ensures
    ∙ rw (c.stored_pointer.ensures, c.byte-saved.ensures, c.sum20.ensures, c.in-Resume.is, byte-reduced)

pub returns-in-Halt : goal.returns-in-Halt
unfolding commanded
returns-in-Halt c = simp (← c.halted.ensures, c.in-Halt.is, c.in-Halt.in-Halt-own.keys6)

pub returns-in-Unknown : goal.returns-in-Unknown
unfolding commanded
returns-in-Unknown c = simp (c.in-Unknown.is, c.in-Unknown.in-Unknown-own.keys7)
