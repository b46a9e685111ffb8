-- The refusal of a first pair that is no instruction that can be done.
use Rattle.ground_rules.specs.declared.Refusal.{Refusal}
use Rattle.ground_rules.specs.declared.Refusal.TheVariants.{NotAnInstruction, ControlNamed}
use Rattle.instruction_rules.specs.declared.Unread.{Unread}
use Rattle.instruction_rules.specs.declared.Unread.TheVariants.{NoInstruction, ControlUsed}

-- 3 where it is of no row, 4 where it uses CC
abbrev pub refusal_of : Unread → Refusal
refusal_of NoInstruction = NotAnInstruction
refusal_of ControlUsed = ControlNamed
