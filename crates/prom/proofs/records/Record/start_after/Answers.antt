-- `prom::records::Record::start_after` meets its contract.
-- Assumes nothing.
use borrow.Author.Tests.{eq-eqb, ne_eqb}
use denote.Enum.Bare.{same_true, same_false}
use mathlib.Core.Path.{sym}
use native.Mathlib.Omega.{arith}
use Rattle.std.proofs.Common.{rules}
use Rattle.prom.specs.contracts.records.RecordKind.{the_type}
use Rattle.prom.specs.declared.records.RecordKind.TheVariants.{Start}
use Rattle.prom_rules.specs.Records.{hex_bytes, hex_size, type_of}
use Rattle.prom.proofs.RecordLaws.{record_length, record-known}
use Rattle.prom_rules.specs.File.{start_after}
use Rattle.prom_rules.specs.Records.{start_of}
use Rattle.prom_rules.proofs.RecordLaws.{fits-four}
use Rattle.prom.proofs.KindLaws.{kind-of, not-kind}
use Rattle.prom.proofs.records.Record.start_after.Goals as goal

pub word-requires : goal.word-requires
word-requires c = let r = c.args.self.now in
    let k = kind-of r Start (same_true the_type (search rules) _ _ (sym c.if-eq.ensures)) in
    omega (arith, fits-four (type_of (hex_bytes r.digits.now)) (hex_size (hex_bytes r.digits.now)) k (record-known r.digits.now r.good), record_length r.digits.now r.good)

pub word-requires-then-eq : goal.word-requires-then-eq
word-requires-then-eq c = let r = c.args.self.now in
    let k = kind-of r Start (same_true the_type (search rules) _ _ (sym c.if-eq.ensures)) in
    omega (arith, fits-four (type_of (hex_bytes r.digits.now)) (hex_size (hex_bytes r.digits.now)) k (record-known r.digits.now r.good), record_length r.digits.now r.good)

pub returns-then-eq : goal.returns-then-eq
unfolding start_after start_of
returns-then-eq c = let r = c.args.self.now in
    let k = kind-of r Start (same_true the_type (search rules) _ _ (sym c.if-eq.ensures)) in
    rw (eq-eqb (type_of (hex_bytes r.digits.now)) 3 k, c.word.ensures.value, c.word-then-eq.ensures.value)

pub returns-else-eq : goal.returns-else-eq
unfolding start_after
returns-else-eq c = let r = c.args.self.now in
    rw (ne_eqb (type_of (hex_bytes r.digits.now)) 3 (not-kind r Start (same_false the_type _ _ (sym c.if-eq.ensures))))
