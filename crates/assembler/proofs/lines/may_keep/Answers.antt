-- `assembler::lines::may_keep` meets its contract.
-- Assumes nothing.
use native.Mathlib.Omega.{arith}
use mathlib.Core.Path.{sym, ◌∙◌}
use Rattle.assembler.proofs.WalkLaws.{labels-many, name-length, keep-long, keep_known, keep-reserved, keep-may}
use Rattle.assembler.proofs.lines.may_keep.Goals as goal

pub returns-then-name-gt12 : goal.returns-then-name-gt12
returns-then-name-gt12 c = keep-long _ _ (omega (arith, c.if-name-gt12.true, name-length c.args.text.now c.args.name.from c.args.name.to c.requires.0.some c.requires.0.inside))

pub returns-then-is_some : goal.returns-then-is_some
returns-then-is_some c = keep_known _ _ _ c.address_of.ensures (sym c.is_some.ensures ∙ c.if-is_some.true)

pub returns-then-is_reserved : goal.returns-then-is_reserved
returns-then-is_reserved c = keep-reserved _ _ (sym c.is_reserved.ensures ∙ c.if-is_reserved.true)

pub returns : goal.returns
returns c = keep-may _ _ (omega (arith, c.if-name-gt12.false, name-length c.args.text.now c.args.name.from c.args.name.to c.requires.0.some c.requires.0.inside)) _ c.address_of.ensures (sym c.is_some.ensures ∙ c.if-is_some.false) (sym c.is_reserved.ensures ∙ c.if-is_reserved.false) _ (sym (labels-many _ _ _ c.requires.1))
