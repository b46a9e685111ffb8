-- `lister::reading::item_of` meets its contract.
-- Assumes nothing.
use native.Mathlib.Omega.{arith}
use lib.ListN.{length, get_or}
use mathlib.Core.Path.{sym, ap, ◌∙◌}
use borrow.Author.Tests.{eq-eqb, ne_eqb}
use Rattle.instruction_rules.specs.declared.Shape.{Shape}
use Rattle.listing_rules.specs.Items.{to_of, whole_of, item_of}
use Rattle.listing_rules.proofs.ItemLaws.{one_left, looked-what, looked-length, pairs-there, whole-single, item-none, item-short, item-second}
use Rattle.lister.proofs.UnusedLaws.{item-unused}
use borrow.Enum.Refused.{opened}
use Rattle.lister.proofs.reading.item_of.Goals as goal

pub returns-then-bytes-eq0 : goal.returns-then-bytes-eq0
unfolding item_of
returns-then-bytes-eq0 c = rw (eq-eqb (length c.args.bytes.now) 0 c.if-bytes-eq0.true)

pub returns-then-bytes-lt2 : goal.returns-then-bytes-lt2
unfolding item_of
returns-then-bytes-lt2 c = rw (ne_eqb (length c.args.bytes.now) 0 c.if-bytes-eq0.false, eq-eqb (length c.args.bytes.now) 1 (one_left _ c.if-bytes-lt2.true c.if-bytes-eq0.false))

pub returns-then-unused : goal.returns-then-unused
returns-then-unused c = item-unused c.args.bytes.now (λ z. omega (arith, c.if-bytes-lt2.false, z)) (λ z. omega (arith, c.if-bytes-lt2.false, z)) (sym c.unused.ensures ∙ c.if-unused.true)

pub returns-in_default : goal.returns-in_default
returns-in_default c = item-none c.args.bytes.now (λ z. omega (arith, c.if-bytes-lt2.false, z)) (λ z. omega (arith, c.if-bytes-lt2.false, z)) _ (looked-what c.look_up-looked.ensures) c.in_default.not-Ok

pub returns-then-bytes-length : goal.returns-then-bytes-length
returns-then-bytes-length c = item-short c.args.bytes.now (λ z. omega (arith, c.if-bytes-lt2.false, z)) (λ z. omega (arith, c.if-bytes-lt2.false, z)) _ (looked-what c.look_up-looked.ensures) _ c.in-Ok.is _ (looked-length (get_or c.args.bytes.now 0 0) (get_or c.args.bytes.now 1 0) _ _ c.look_up-looked.ensures c.in-Ok.is) c.if-bytes-length.true

pub mov_memory-requires : goal.mov_memory-requires
mov_memory-requires c = pairs-there _ _ _ _ (looked-length (get_or c.args.bytes.now 0 0) (get_or c.args.bytes.now 1 0) _ _ c.look_up-looked.ensures c.in-Ok.is) c.if-bytes-length.false c.in-MovMemory.is

pub returns-in-MovMemory : goal.returns-in-MovMemory
returns-in-MovMemory c = c.mov_memory.ensures ∙ ap (λ (s : Shape). whole_of c.args.bytes.now s (to_of c.args.bytes.now s)) (sym c.in-MovMemory.is) ∙ item-second c.args.bytes.now (λ z. omega (arith, c.if-bytes-lt2.false, z)) (λ z. omega (arith, c.if-bytes-lt2.false, z)) _ (looked-what c.look_up-looked.ensures) _ c.in-Ok.is _ (looked-length (get_or c.args.bytes.now 0 0) (get_or c.args.bytes.now 1 0) _ _ c.look_up-looked.ensures c.in-Ok.is) c.if-bytes-length.false

pub returns : goal.returns
returns c = whole-single c.args.bytes.now _ _ (looked-length (get_or c.args.bytes.now 0 0) (get_or c.args.bytes.now 1 0) _ _ c.look_up-looked.ensures c.in-Ok.is) (opened c.in_default-shape.in_default-shape-own.keys2) c.if-bytes-length.false ∙ item-second c.args.bytes.now (λ z. omega (arith, c.if-bytes-lt2.false, z)) (λ z. omega (arith, c.if-bytes-lt2.false, z)) _ (looked-what c.look_up-looked.ensures) _ c.in-Ok.is _ (looked-length (get_or c.args.bytes.now 0 0) (get_or c.args.bytes.now 1 0) _ _ c.look_up-looked.ensures c.in-Ok.is) c.if-bytes-length.false
