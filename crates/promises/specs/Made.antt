-- The states that calls make from a fresh one or from a power-up, and the conditions of 3 and 4 in the words of the table of codes.
use Rattle.std.specs.Prelude.{true, false, ◌≡◌, ℕ}
use Rattle.ground_rules.specs.Buffers.{Buffers, AllBytes}
use Rattle.ground_rules.specs.Values.{onward}
use Rattle.ground_rules.specs.States.{fresh_of}
use Rattle.ground_rules.specs.declared.Channel.{Channel}
use Rattle.ground_rules.specs.declared.State.{State}
use Rattle.attention_rules.specs.Attention.{attention_of}
use Rattle.attention_rules.specs.Power.{power_up_of}
use Rattle.turn_rules.specs.Step.{step_of}
use Rattle.instruction_rules.specs.Reading.{fits_some, uses_control}
use Rattle.instruction_rules.specs.Table.{table}
use Rattle.instruction_rules.specs.Pairs.{pair_of}
use Rattle.instruction_rules.specs.declared.Pair.{Pair}
use Rattle.instruction_rules.specs.Operands.{byte_here}

-- a fresh state of any CP, what an accepted power-up leaves, and what any attention or step, refused or not, makes of such a state, where the memory of each attention is as asked
pub data MadeIn (asked : Buffers → Type 0) : State → Type 0 where
  fresh : (cp : ℕ) → MadeIn asked (fresh_of cp).state
  power : (s : State) (m : Buffers) → (power_up_of s m).number ≡ 0 → MadeIn asked (power_up_of s m).state
  attention : {s : State} → MadeIn asked s → (m : Buffers) → asked m → (channel : ℕ) → MadeIn asked (attention_of s m channel).state
  step : {s : State} → MadeIn asked s → (m : Buffers) (lines : ℕ) → MadeIn asked (step_of s m lines).state

-- in any memories
abbrev pub MadeByCalls : State → Type 0
MadeByCalls s = MadeIn (λ m. Unit {0}) s

-- in memories of bytes
abbrev pub MadeOfBytes : State → Type 0
MadeOfBytes s = MadeIn AllBytes s

-- the fields of the two bytes at a channel's TP
abbrev pub pair_at : Buffers → Channel → Pair
pair_at m c = pair_of (byte_here m c.tp) (byte_here m (onward c.tp 1))

-- 3, of the first pair: no row of the table of codes is met by its fields (§6.4)
abbrev pub NoRow : Buffers → Channel → Type 0
NoRow m c = fits_some table (pair_at m c) ≡ false

-- 4: RRR names CC, and the row that is met does something else to its register than a move (§6.4)
abbrev pub RowUsesControl : Buffers → Channel → Type 0
RowUsesControl m c = ((pair_at m c).rrr ≡ 6) × (uses_control table (pair_at m c) ≡ true)
