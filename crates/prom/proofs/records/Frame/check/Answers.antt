-- `prom::records::Frame::check` meets its contract.
-- Assumes nothing.
use mathlib.Core.Path.{◌≡◌, sym, ap, ◌∙◌}
use Rattle.prom.specs.Parts.{type_number}
use Rattle.prom.specs.Refusals.{reason_number}
use Rattle.prom.proofs.CheckLaws.{check-none, check-some, check-sum, check-type, check-size, kind-typed}
use Rattle.prom.proofs.records.Frame.check.Goals as goal

pub returns-in_default : goal.returns-in_default
returns-in_default c = (ap reason_number c.refused.ensures.0 ∙ check-none c.args.self.digits.now (sym c.in_default.is ∙ c.sum_of.ensures), c.refused.ensures.1)

pub returns-then-sum-ne0 : goal.returns-then-sum-ne0
returns-then-sum-ne0 c =
    (ap reason_number c.refused-then-sum-ne0.ensures.0 ∙ check-sum c.args.self.digits.now c.args.self.long c.in-Some.sum (sym c.in-Some.is ∙ c.sum_of.ensures) c.if-sum-ne0.true, c.refused-then-sum-ne0.ensures.1)

pub byte_of-requires-clause-all : goal.byte_of-requires-clause-all
byte_of-requires-clause-all c = (check-some c.args.self.digits.now c.in-Some.sum (sym c.in-Some.is ∙ c.sum_of.ensures)).0

pub byte_of-requires-2-clause-all : goal.byte_of-requires-2-clause-all
byte_of-requires-2-clause-all c = (check-some c.args.self.digits.now c.in-Some.sum (sym c.in-Some.is ∙ c.sum_of.ensures)).0

pub returns-in-Err : goal.returns-in-Err
returns-in-Err c =
    let h = rw c.in-Err.is at c.try_from.ensures in (
      ap reason_number (c.refused-in-Err.ensures.0 ∙ h.1)
          ∙ check-type c.args.self.digits.now c.args.self.long c.in-Some.sum (sym c.in-Some.is ∙ c.sum_of.ensures) c.if-sum-ne0.false (rw c.byte_of.ensures at h.0),
      c.refused-in-Err.ensures.1,
    )

pub returns-then-not-takes : goal.returns-then-not-takes
returns-then-not-takes c =
    let k : type_number c.in-Ok.kind ≡ c.byte_of.result = rw c.in-Ok.is at c.try_from.ensures in
    let n = check-size c.args.self.digits.now c.args.self.long c.in-Some.sum (sym c.in-Some.is ∙ c.sum_of.ensures) c.if-sum-ne0.false
    (type_number c.in-Ok.kind) c.byte_of-2.result c.takes.result (k ∙ c.byte_of.ensures) c.byte_of-2.ensures c.takes.ensures in
    (ap reason_number c.refused-then-not-takes.ensures.0 ∙ (rw c.if-not-takes.true at n), c.refused-then-not-takes.ensures.1)

pub invariant_of-result : goal.invariant_of-result
invariant_of-result c =
    let k : type_number c.in-Ok.kind ≡ c.byte_of.result = rw c.in-Ok.is at c.try_from.ensures in
    let n = check-size c.args.self.digits.now c.args.self.long c.in-Some.sum (sym c.in-Some.is ∙ c.sum_of.ensures) c.if-sum-ne0.false
    (type_number c.in-Ok.kind) c.byte_of-2.result c.takes.result (k ∙ c.byte_of.ensures) c.byte_of-2.ensures c.takes.ensures in
    record {
      good = sym (rw c.if-not-takes.false at n);
      typed = kind-typed c.args.self.digits.now c.byte_of.result c.byte_of.ensures c.try_from.result c.try_from.ensures c.in-Ok.kind c.in-Ok.is;
    }
