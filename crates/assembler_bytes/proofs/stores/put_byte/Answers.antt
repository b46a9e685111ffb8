-- `assembler_bytes::stores::put_byte` meets its contract.
-- Assumes nothing.
use mathlib.Core.Path.{sym, ◌∙◌}
use Rattle.assembler_bytes.proofs.LaidLaws.{laid_one, laid-past}
use Rattle.assembler_bytes.proofs.stores.put_byte.Goals as goal

pub returns-then-at-code : goal.returns-then-at-code
returns-then-at-code c bs = laid_one c.args.code.now c.args.at c.args.n bs

pub returns : goal.returns
returns c bs = laid-past c.args.code.now c.args.at bs c.if-at-code.false ∙ sym (laid-past c.args.code.now c.args.at _ c.if-at-code.false)
