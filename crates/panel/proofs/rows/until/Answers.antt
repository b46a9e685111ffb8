-- `panel::rows::until` meets its contract.
-- Assumes nothing.
use borrow.Author.Rules.{rules}
use native.Mathlib.Omega.{arith}
use Rattle.panel.proofs.rows.until.Goals as goal

pub overflow_add-result : goal.overflow_add-result
overflow_add-result c = search rules

pub returns-then-s-d : goal.returns-then-s-d
returns-then-s-d c = (omega arith, omega arith)

pub returns : goal.returns
returns c = (omega arith, omega arith)
