-- What an instruction does once it is read: what its second pair is, what it reads, what the channel becomes and what it stores.
use Rattle.std.specs.Prelude.{List, ℕ}
use Rattle.ground_rules.specs.Places.{Place}
use Rattle.ground_rules.specs.declared.Channel.{Channel}
use Rattle.instruction_rules.specs.declared.Change.{Change}

-- `second` is the number of the second pair, 0 where there is none to refuse; `reads` are the offset byte of a second pair and the operand bytes read
pub record Deed : Type 0 where
  pub second : ℕ
  pub reads : List Place
  pub channel : Channel
  pub change : Change

-- the deed of an instruction without a second pair, or with one that is as it must be
abbrev pub deed : List Place → Channel → Change → Deed
deed reads c ch = record { second = 0; reads = reads; channel = c; change = ch }
