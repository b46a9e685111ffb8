-- The number of an instruction before its stores are tested.
use Rattle.std.specs.Prelude.{ℕ}
use Rattle.ground_rules.specs.Buffers.{Buffers}
use Rattle.ground_rules.specs.Places.{all_touchable}
use Rattle.ground_rules.specs.Outcomes.{first, unless}
use Rattle.ground_rules.specs.declared.Channel.{Channel}
use Rattle.instruction_rules.specs.Decoded.{Decoded}
use Rattle.instruction_rules.specs.Reading.{decoded_number}
use Rattle.instruction_rules.specs.Operands.{bytes_at}
use Rattle.execute.specs.Effects.{deed_number}
use Rattle.instruction_rules.specs.Execute.{decoded_at, deed_from, later_from}

-- the number from the later bytes on, but for the stores
unfoldable pub later_number : Decoded → Buffers → Channel → ℕ → ℕ
later_number d m c busy = first (unless (all_touchable m (later_from d c)) 2) (deed_number m (deed_from d m c busy))

-- the number of an instruction, but for the stores, d being what its first two bytes are
unfoldable pub plan_from : Decoded → Buffers → Channel → ℕ → ℕ
plan_from d m c busy = first (unless (all_touchable m (bytes_at c.tp 2)) 2) (first (decoded_number d) (later_number d m c busy))

unfoldable pub plan_number : Buffers → Channel → ℕ → ℕ
plan_number m c busy = plan_from (decoded_at m c.tp) m c busy
