-- `Moving::part` meets its contract.
-- Assumes nothing.
use Rattle.std.proofs.Common.{Err, refl, sym, ◌∙◌}
use Rattle.ground_rules.specs.Buffers.{buffers}
use Rattle.ground_rules.specs.declared.Refusal.TheVariants.{BadTransferMode}
use Rattle.transfer_rules.proofs.PartLaws.{not-half}
use Rattle.transfer_rules.specs.Parts.{Whole, part_of}
use Rattle.transfer.proofs.HalfLaws.{bad-left, due-is}
use Rattle.transfer.proofs.moving.Moving.part.Goals as goal

pub returns-then-bad_mode : goal.returns-then-bad_mode
returns-then-bad_mode c =
    let a = c.args in
    let x = a.self.channel in
    let m = buffers a.sys.now a.io.now in
    let both = due-is x (Err BadTransferMode) m m (part_of x) refl (bad-left (part_of x) x m (sym c.bad_mode.ensures ∙ c.if-bad_mode.true)) in
    record { left = both.0; count = both.1 }

pub half-requires : goal.half-requires
half-requires c = (sym c.bad_mode.ensures ∙ c.if-bad_mode.false, sym c.is_half.ensures ∙ c.if-is_half.true)

pub whole-requires : goal.whole-requires
whole-requires c = sym c.bad_mode.ensures ∙ c.if-bad_mode.false

pub returns : goal.returns
returns c =
    let a = c.args in
    let x = a.self.channel in
    let both = due-is x c.whole.result (buffers a.sys.now a.io.now) _ Whole (not-half x (sym c.is_half.ensures ∙ c.if-is_half.false)) (c.whole.ensures.left, c.whole.ensures.count) in
    record { left = both.0; count = both.1 }
