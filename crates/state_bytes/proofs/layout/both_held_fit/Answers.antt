-- `state_bytes::layout::both_held_fit` meets its contract.
-- Assumes nothing.
use Prim.Native.Nat.{ℕ}
use mathlib.Core.Bool.{◌&&◌}
use mathlib.Core.Path.{sym, ap₂, ◌∙◌}
use Rattle.ground_rules.specs.Holdings.{is_held_number}
use Rattle.state_bytes.proofs.TestLaws.{none-held}
use Rattle.state_bytes.proofs.layout.both_held_fit.Goals as goal

pub returns-then-word : goal.returns-then-word
returns-then-word c = sym (none-held _ _ c.if-word.true) ∙ ap₂ (λ (x y : ℕ). is_held_number x && is_held_number y) c.word.ensures c.word-2.ensures

pub returns : goal.returns
returns c = ap₂ ◌&&◌ c.held_fits.ensures c.held_fits-2.ensures
