-- The laws of a step that is refused or done: a refusal of a transfer step or of an instruction leaves memory as it was, so the whole step is settled; and what it counts.
-- Assumes nothing.
use Prim.Native.Nat.{ℕ}
use borrow.Author.Tests.{eq-eqb, ne_eqb}
use lib.Dec.{eqb}
use mathlib.Core.Bool.{Bool, true, false}
use mathlib.Core.List.{List, []}
use mathlib.Core.Path.{◌≡◌, refl, sym, ap, ◌∙◌}
use native.Mathlib.Decide.{ℕ_discrete}
use Rattle.instruction_rules.proofs.OutcomeLaws.{refused}
use Rattle.instruction_rules.specs.Execute.{Executed, execute_of}
use Rattle.ground_rules.proofs.OutcomeLaws.{refused-counts}
use Rattle.ground_rules.specs.Outcomes.{counted}
use Rattle.ground_rules.specs.declared.Channel.{Channel}
use Rattle.ground_rules.specs.declared.State.{State}
use Rattle.ground_rules.specs.Buffers.{Buffers}
use Rattle.ground_rules.specs.Places.{Place}
use Rattle.transfer_rules.proofs.StepLaws.{refused as transfer-refused}
use Rattle.transfer_rules.specs.Steps.{Transfer, transfer_of}
use Rattle.ground_rules.specs.Choice.{pick}
use Rattle.turn_rules.specs.declared.Kind.{Kind}

-- a refused transfer step changes no byte
pub transfer-kept : (c : Channel) (m : Buffers) → ((transfer_of c m).number ≡ 0 → ⊥) → (transfer_of c m).memory ≡ m
transfer-kept c m ne = ap (λ (o : Transfer). o.memory) (transfer-refused c m ne)

-- a refused instruction changes no byte
pub execute-kept : (c : Channel) (busy : ℕ) (m : Buffers) → ((execute_of c busy m).number ≡ 0 → ⊥) → (execute_of c busy m).memory ≡ m
execute-kept c busy m ne = ap (λ (o : Executed). o.memory) (refused c busy m ne)

-- where nothing is touched, nothing is counted
pub counts-none : (number : ℕ) → counted number [] ≡ 0
unfolding counted
counts-none number = go (eqb number 0)
  where
    go : (x : Bool) → pick {A = ℕ} x 0 0 ≡ 0
    go true = refl
    go false = refl
