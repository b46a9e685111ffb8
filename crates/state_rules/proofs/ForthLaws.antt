-- Bytes to a state and back: bytes that are a state come back the same.
-- Assumes nothing.
use Prim.Native.Nat.{ℕ}
use lib.Dec.{eqb}
use lib.ListN.{length}
use lib.Seq.{take_all}
use mathlib.Core.Bool.{true}
use mathlib.Core.List.{List}
use mathlib.Core.Path.{◌≡◌, refl, ◌∙◌}
use native.Mathlib.Omega.{arith}
use Rattle.ground_rules.proofs.ChoiceLaws.{both_right}
use Rattle.state_rules.specs.Conditions.{Bytes}
use Rattle.state_rules.specs.Layout.{state_rows, bytes_of, state_in, is_state, state_length}
use Rattle.state_rules.specs.Tables.{are_by}
use Rattle.state_rules.proofs.CallLaws.{state-length}
use Rattle.state_rules.proofs.FormLaws.{state-laws}
use Rattle.state_rules.proofs.TableLaws.{forth-by}

-- bytes that are a state come back the same
pub bytes_back : (b : List ℕ) → Bytes b → is_state b ≡ true → bytes_of (state_in b) ≡ b
unfolding bytes_of state_in is_state
bytes_back b byte h =
    let n = state-length b h in
    forth-by state_rows state-laws (state_in b) b 0 0 (refl, (refl, (refl, (refl, (refl, (refl, tt)))))) byte (omega arith) (both_right (eqb (length b) state_length) (are_by state_rows b 0 0) h)
    ∙ take_all state_length b (omega arith)
