-- What a first pair is.
use Rattle.std.specs.Prelude.{Result}
use Rattle.instruction_rules.specs.declared.Shape.{Shape}
use Rattle.instruction_rules.specs.declared.Unread.{Unread}

-- an instruction, or why it is none
abbrev pub Decoded : Type 0
Decoded = Result Shape Unread
