-- `assembler_text::sums::register_number` meets its contract.
-- Assumes nothing.
use native.Mathlib.Omega.{arith}
use mathlib.Core.Path.{sym}
use Rattle.assembler_text.proofs.NameLaws.{register-length, register-none}
use Rattle.assembler_text.proofs.sums.register_number.Goals as goal

pub returns-in_default : goal.returns-in_default
returns-in_default c = sym (register-length c.args.run.now (λ e. omega (arith, c.in_default.len_below, e)))

pub returns-in_default-3 : goal.returns-in_default-3
returns-in_default-3 c = sym (register-length c.args.run.now (λ e. omega (arith, c.in_default.len_at_least, e)))

pub returns-in_default-2-8 : goal.returns-in_default-2-8
returns-in_default-2-8 c =
    let n = c.in_default-2.is-0 in
    sym (register-none c.args.run.now c.capital.result c.capital-2.result (omega (arith, c.in-len2.len_at_least, c.in-len2.len_below)) c.capital.ensures c.capital-2.ensures n.0.0.0.0.0.0.1 n.0.0.0.0.0.1 n.0.0.0.0.1 n.0.0.0.1 n.0.0.1 n.0.1 n.1)
