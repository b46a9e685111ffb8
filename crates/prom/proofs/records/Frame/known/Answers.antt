-- `prom::records::Frame::known` meets its contract.
-- Assumes nothing.
use Rattle.prom.proofs.CheckLaws.{kind-fits, kind-typed}
use Rattle.prom.proofs.RecordLaws.{record-digits}
use Rattle.prom.proofs.records.Frame.known.Goals as goal

pub byte_of-requires-clause-all : goal.byte_of-requires-clause-all
byte_of-requires-clause-all c = record-digits c.args.self.digits.now c.requires

pub unwrap-kind-requires : goal.unwrap-kind-requires
unwrap-kind-requires c = kind-fits c.args.self.digits.now c.requires c.byte_of.result c.byte_of.ensures c.try_from.result c.try_from.ensures

pub invariant_of-result : goal.invariant_of-result
invariant_of-result c =
    record { good = c.requires; typed = kind-typed c.args.self.digits.now c.byte_of.result c.byte_of.ensures c.try_from.result c.try_from.ensures c.unwrap-kind.result c.unwrap-kind.ensures }
