-- `prom::records::Record::store` meets its contract.
-- Assumes nothing.
use borrow.Author.Tests.{eq-eqb, ne_eqb}
use denote.Enum.Bare.{same_true, same_false}
use mathlib.Core.Path.{sym}
use native.Mathlib.Omega.{arith}
use Rattle.std.proofs.Common.{rules}
use Rattle.prom.specs.contracts.records.RecordKind.{the_type}
use Rattle.prom.specs.declared.records.RecordKind.TheVariants.{Data}
use Rattle.prom_rules.specs.Records.{hex_bytes, type_of, address_field}
use Rattle.prom.proofs.RecordLaws.{record_length}
use Rattle.prom_rules.specs.File.{stores_of}
use Rattle.prom_rules.specs.Load.{store_all}
use Rattle.prom.proofs.KindLaws.{kind-of, not-kind}
use Rattle.prom.proofs.records.Record.store.Goals as goal

pub word-requires : goal.word-requires
word-requires c = omega (arith, record_length c.args.self.now.digits.now c.args.self.now.good)

pub returns-then-eq : goal.returns-then-eq
unfolding stores_of address_field
returns-then-eq c = let r = c.args.self.now in
    let k = kind-of r Data (same_true the_type (search rules) _ _ (sym c.if-eq.ensures)) in
    rw (eq-eqb (type_of (hex_bytes r.digits.now)) 0 k, sym c.data.ensures.value, sym c.word.ensures.value) c.store_row.ensures

pub returns-else-eq : goal.returns-else-eq
unfolding stores_of store_all
returns-else-eq c = let r = c.args.self.now in
    rw (ne_eqb (type_of (hex_bytes r.digits.now)) 0 (not-kind r Data (same_false the_type _ _ (sym c.if-eq.ensures))))
