-- `prom::records::Record::is_lent` meets its contract.
-- Assumes nothing.
use Prim.Native.Nat.{ℕ, ◌+◌, ◌-◌, ◌/◌}
use borrow.Author.Tests.{eq-eqb, ne_eqb}
use denote.Enum.Bare.{differs_true, differs_false}
use lib.ListN.{length}
use mathlib.Core.Bool.{◌&&◌}
use mathlib.Core.List.{[]}
use mathlib.Core.Path.{◌≡◌, sym, ap, ap₂, ◌∙◌}
use native.Mathlib.Omega.{arith}
use Rattle.std.proofs.Common.{rules}
use Rattle.prom.specs.contracts.records.RecordKind.{the_type}
use Rattle.prom.specs.declared.records.RecordKind.TheVariants.{Data}
use Rattle.prom_rules.specs.Records.{hex_bytes, hex_size, type_of, address_field}
use Rattle.prom.proofs.RecordLaws.{record_length}
use Rattle.ground_rules.specs.Buffers.{buffers}
use Rattle.ground_rules.specs.Places.{all_lent}
use Rattle.prom.specs.Parts.{record_lent, places_from}
use Rattle.prom.proofs.KindLaws.{kind-of, not-kind}
use Rattle.prom.proofs.PlaceLaws.{places-span, places-spans}
use Rattle.prom.proofs.records.Record.is_lent.Goals as goal

pub returns-then-ne : goal.returns-then-ne
unfolding record_lent
returns-then-ne c = let r = c.args.self.now in
    rw (ne_eqb (type_of (hex_bytes r.digits.now)) 0 (not-kind r Data (differs_true the_type _ _ (sym c.if-ne.ensures))))

pub word-offset-requires : goal.word-offset-requires
word-offset-requires c = omega (arith, record_length c.args.self.now.digits.now c.args.self.now.good)

pub returns-then-offset-size-le65536 : goal.returns-then-offset-size-le65536
unfolding record_lent address_field
returns-then-offset-size-le65536 c = let r = c.args.self.now in
    let m = buffers c.args.sys.now [] in
    let k = kind-of r Data (differs_false the_type (search rules) _ _ (sym c.if-ne.ensures)) in
    let size : length c.data.result.now / 2 ≡ hex_size (hex_bytes r.digits.now) = omega (arith, c.data.ensures.count) in
    rw (eq-eqb (type_of (hex_bytes r.digits.now)) 0 k, sym size, sym c.word-offset.ensures.value)
    (c.span_lent.ensures ∙ sym (places-span m c.args.segment c.word-offset.result (length c.data.result.now / 2) c.if-offset-size-le65536.true))

pub returns : goal.returns
unfolding record_lent address_field
returns c = let r = c.args.self.now in
    let m = buffers c.args.sys.now [] in
    let k = kind-of r Data (differs_false the_type (search rules) _ _ (sym c.if-ne.ensures)) in
    let size : length c.data.result.now / 2 ≡ hex_size (hex_bytes r.digits.now) = omega (arith, c.data.ensures.count) in
    let before = 65536 - c.word-offset.result in
    let e : before + (length c.data.result.now / 2 - before) ≡ length c.data.result.now / 2 = omega (arith, c.if-offset-size-le65536.false) in
    rw (eq-eqb (type_of (hex_bytes r.digits.now)) 0 k, sym size, sym c.word-offset.ensures.value)
    (ap₂ ◌&&◌ c.span_lent-2.ensures c.span_lent-3.ensures
    ∙ sym (places-spans m c.args.segment c.word-offset.result before (length c.data.result.now / 2 - before) (omega (arith, c.word-offset.ensures.bound)) (omega (arith, c.data.ensures.few)))
    ∙ ap (λ (n : ℕ). all_lent m (places_from c.args.segment c.word-offset.result n)) e)
