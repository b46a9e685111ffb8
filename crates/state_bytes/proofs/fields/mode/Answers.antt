-- `state_bytes::fields::mode` meets its contract.
-- Assumes nothing.
use borrow.Author.Tests.{ne_eqb}
use mathlib.Core.Path.{◌≡◌, sym, ◌∙◌}
use Rattle.std.proofs.Common.{rules}
use Rattle.state_rules.specs.Fields.{mode_in}
use Rattle.state_bytes.proofs.fields.mode.Goals as goal

pub returns-in-0 : goal.returns-in-0
unfolding mode_in
returns-in-0 c = rw (sym c.byte.ensures ∙ c.in-0.is)

pub returns-in-1 : goal.returns-in-1
unfolding mode_in
returns-in-1 c = rw (sym c.byte.ensures ∙ c.in-1.is)

pub returns-in_default : goal.returns-in_default
unfolding mode_in
returns-in_default c =
    let zero : c.byte.result ≡ 0 → ⊥ = search rules in
    let one : c.byte.result ≡ 1 → ⊥ = search rules in
    rw (← c.byte.ensures, ne_eqb c.byte.result 0 zero, ne_eqb c.byte.result 1 one)
