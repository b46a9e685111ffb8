-- `prom::records::Record::word` meets its contract.
-- Assumes nothing.
use Rattle.prom.proofs.RecordLaws.{record-digits}
use Rattle.prom.proofs.records.Record.word.Goals as goal

pub byte_of-requires-clause-all : goal.byte_of-requires-clause-all
byte_of-requires-clause-all c = record-digits c.args.self.now.digits.now c.args.self.now.good

pub byte_of-requires-2-clause-all : goal.byte_of-requires-2-clause-all
byte_of-requires-2-clause-all c = record-digits c.args.self.now.digits.now c.args.self.now.good
