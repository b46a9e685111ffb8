-- `prom::records::Record::segment_after` meets its contract.
-- Assumes nothing.
use borrow.Author.Tests.{eq-eqb, ne_eqb}
use denote.Enum.Bare.{same_true, same_false}
use mathlib.Core.Path.{sym}
use native.Mathlib.Omega.{arith}
use Rattle.std.proofs.Common.{rules}
use Rattle.prom.specs.contracts.records.RecordKind.{the_type}
use Rattle.prom.specs.declared.records.RecordKind.TheVariants.{Segment}
use Rattle.prom_rules.specs.Records.{hex_bytes, hex_size, type_of}
use Rattle.prom.proofs.RecordLaws.{record_length, record-known}
use Rattle.prom_rules.specs.File.{segment_after}
use Rattle.prom_rules.specs.Records.{segment_of}
use Rattle.prom_rules.proofs.RecordLaws.{fits-two}
use Rattle.prom.proofs.KindLaws.{kind-of, not-kind}
use Rattle.prom.proofs.records.Record.segment_after.Goals as goal

pub word-requires : goal.word-requires
word-requires c = let r = c.args.self.now in
    let k = kind-of r Segment (same_true the_type (search rules) _ _ (sym c.if-eq.ensures)) in
    omega (arith, fits-two (type_of (hex_bytes r.digits.now)) (hex_size (hex_bytes r.digits.now)) k (record-known r.digits.now r.good), record_length r.digits.now r.good)

pub returns-then-eq-clause-value : goal.returns-then-eq-clause-value
unfolding segment_after segment_of
returns-then-eq-clause-value c = let r = c.args.self.now in
    let k = kind-of r Segment (same_true the_type (search rules) _ _ (sym c.if-eq.ensures)) in
    rw (eq-eqb (type_of (hex_bytes r.digits.now)) 2 k) c.word.ensures.value

pub returns-else-eq-clause-value : goal.returns-else-eq-clause-value
unfolding segment_after
returns-else-eq-clause-value c = let r = c.args.self.now in
    rw (ne_eqb (type_of (hex_bytes r.digits.now)) 2 (not-kind r Segment (same_false the_type _ _ (sym c.if-eq.ensures))))
