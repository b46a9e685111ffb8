-- `sweep::bytes_to_go` meets its contract: BC 0 stands for 65,536.
-- Assumes nothing.
use borrow.Author.Rules.{rules}
use borrow.Author.Tests.{eq-eqb, ne_eqb}
use mathlib.Core.Path.{refl}
use native.Mathlib.Omega.{arith}
use Rattle.sweep_rules.specs.Sweep.{bytes_to_go}
use Rattle.sweep.proofs.bytes_to_go.Goals as goal

pub returns-then-c-eq0 : goal.returns-then-c-eq0
unfolding bytes_to_go
returns-then-c-eq0 c = rw (eq-eqb c.args.c.bc 0 c.if-c-eq0.true) (refl, omega arith, omega arith)

pub returns : goal.returns
unfolding bytes_to_go
returns c = rw (ne_eqb c.args.c.bc 0 c.if-c-eq0.false) (refl, search rules, search rules)
