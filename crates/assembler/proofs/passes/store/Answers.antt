-- `assembler::passes::store` meets its contract. The loop's invariant: the bytes of the lines so far stand in the buffer, and those of the others follow.
-- Assumes nothing.
use native.Mathlib.Omega.{arith}
use mathlib.Core.Path.{subst}
use Prim.Native.Nat.{ℕ}
use Rattle.std.specs.Prelude.{Option}
use Rattle.assembly_rules.proofs.PassLaws.{bytes_from}
use Rattle.assembler_text.specs.Places.{labels_of}
use Rattle.assembler.specs.Passes.{said_from, said_to}
use Rattle.assembler.proofs.WalkLaws.{LaidOn, line-stored, line-room, laid-all}
use Rattle.assembler.proofs.passes.store.Goals as goal

pub overflow_add-bytes : goal.overflow_add-bytes
overflow_add-bytes c =
    let a = c.args in
    let l = c.loop-place in
    let text = a.text.now in
    let labels = labels_of text a.labels.now in
    let whole = bytes_from labels a.first 0 (said_from text 0) in
    let on = subst (λ (p : Option ℕ). LaidOn whole a.code.now l.code (bytes_from labels a.first l.bytes (said_to text p)) l.bytes) c.in-Some.is l.invariant in
    omega (arith, line-room text c.in-Some.at _ c.line_at-line.ensures labels a.first l.bytes whole a.code.now l.code c.requires.0 c.requires.1 on, c.requires.0)

pub loop-place-preserved : goal.loop-place-preserved
loop-place-preserved c =
    let a = c.args in
    let l = c.loop-place in
    let text = a.text.now in
    let labels = labels_of text a.labels.now in
    let whole = bytes_from labels a.first 0 (said_from text 0) in
    let on = subst (λ (p : Option ℕ). LaidOn whole a.code.now l.code (bytes_from labels a.first l.bytes (said_to text p)) l.bytes) c.in-Some.is l.invariant in
    rw c.line_next-place.ensures (line-stored text c.in-Some.at _ c.line_at-line.ensures labels a.first l.bytes whole a.code.now l.code c.requires.0 c.requires.1 on _ _ c.behind.ensures (c.put.ensures _ c.line_at-line.ensures.body))

pub returns-clause-value : goal.returns-clause-value
returns-clause-value c =
    let a = c.args in
    let l = c.loop-place in
    let text = a.text.now in
    let labels = labels_of text a.labels.now in
    let whole = bytes_from labels a.first 0 (said_from text 0) in
    let on = subst (λ (p : Option ℕ). LaidOn whole a.code.now l.code (bytes_from labels a.first l.bytes (said_to text p)) l.bytes) c.in_default.is l.invariant in
    (laid-all labels a.first l.bytes whole a.code.now l.code l.bytes on).0

pub returns-clause-code_after : goal.returns-clause-code_after
returns-clause-code_after c =
    let a = c.args in
    let l = c.loop-place in
    let text = a.text.now in
    let labels = labels_of text a.labels.now in
    let whole = bytes_from labels a.first 0 (said_from text 0) in
    let on = subst (λ (p : Option ℕ). LaidOn whole a.code.now l.code (bytes_from labels a.first l.bytes (said_to text p)) l.bytes) c.in_default.is l.invariant in
    (laid-all labels a.first l.bytes whole a.code.now l.code l.bytes on).1
