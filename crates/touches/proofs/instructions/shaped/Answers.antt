-- `touches::instructions::shaped` meets its contract.
-- Assumes nothing.
use borrow.Author.Tests.{eq-eqb, ne_eqb}
use mathlib.Core.Bool.{true, false}
use mathlib.Core.Path.{◌≡◌, refl, sym, ap, ◌∙◌}
use Prim.Native.Nat.{ℕ}
use native.Mathlib.Omega.{arith}
use lib.Dec.{eqb}
use Rattle.ground_rules.specs.Buffers.{Buffers, buffers}
use Rattle.instruction_rules.proofs.LengthLaws.{bounded}
use Rattle.instruction_rules.specs.Changes.{places_of}
use Rattle.instruction_rules.specs.Execute.{later_bytes, later_from, deed_from, deed_of}
use Rattle.touches.specs.Accesses.{Accesses, of_access}
use Rattle.touches.specs.Tales.{Tale, tale, told_on, all_as, foreseen_at, ended_at}
use Rattle.touches.proofs.TaleLaws.{told-from, two-beyond, two-judged, two-done}
use Rattle.touches.proofs.instructions.shaped.Goals as goal

pub overflow_sub-count : goal.overflow_sub-count
overflow_sub-count c = omega (arith, c.requires.1, bounded c.args.shape)

pub returns-then-teller-clause-seen : goal.returns-then-teller-clause-seen
unfolding later_from later_bytes deed_from
returns-then-teller-clause-seen c =
    let a = c.args in
    let m = buffers a.sys.now a.io.now in
    let d = deed_of a.shape m a.c a.busy in
    let x = tale a.teller.now in
    let told : tale c.span.new.self ≡ told_on m (all_as false (later_bytes a.shape a.c)) x
    = told-from m _ x a.teller.now c.span.new.self c.requires.3 refl (simp (c.onward.ensures, c.requires.1) at c.span.ensures.told) in
    rw c.seen.ensures
    (ap (foreseen_at 2) told
    ∙ two-beyond m (later_bytes a.shape a.c) d.reads (places_of d.change) d.second x c.requires.0 (sym (ap (λ (y : Tale). y.beyond) told) ∙ c.if-teller.true))

pub returns-then-a-ne0-clause-seen : goal.returns-then-a-ne0-clause-seen
unfolding later_from later_bytes deed_from
returns-then-a-ne0-clause-seen c =
    let a = c.args in
    let m = buffers a.sys.now a.io.now in
    let d = deed_of a.shape m a.c a.busy in
    let x = tale a.teller.now in
    let told : tale c.span.new.self ≡ told_on m (all_as false (later_bytes a.shape a.c)) x
    = told-from m _ x a.teller.now c.span.new.self c.requires.3 refl (simp (c.onward.ensures, c.requires.1) at c.span.ensures.told) in
    let number : c.accessed-a.result.second ≡ d.second = ap (λ (y : Accesses). y.second) c.accessed-a.ensures in
    rw c.seen-then-a-ne0.ensures
    (ap (foreseen_at c.accessed-a.result.second) told
    ∙ ap (λ (n : ℕ). foreseen_at n (told_on m (all_as false (later_bytes a.shape a.c)) x)) number
    ∙ two-judged m (later_bytes a.shape a.c) d.reads (places_of d.change) d.second x c.requires.0 (sym (ap (λ (y : Tale). y.beyond) told) ∙ c.if-teller.false)
    (sym (ap (λ (n : ℕ). eqb n 0) number) ∙ ne_eqb _ _ c.if-a-ne0.true))

pub returns-clause-seen : goal.returns-clause-seen
unfolding later_from later_bytes deed_from
returns-clause-seen c =
    let a = c.args in
    let m = buffers a.sys.now a.io.now in
    let d = deed_of a.shape m a.c a.busy in
    let x = tale a.teller.now in
    let told : tale c.span.new.self ≡ told_on m (all_as false (later_bytes a.shape a.c)) x
    = told-from m _ x a.teller.now c.span.new.self c.requires.3 refl (simp (c.onward.ensures, c.requires.1) at c.span.ensures.told) in
    let number : c.accessed-a.result.second ≡ d.second = ap (λ (y : Accesses). y.second) c.accessed-a.ensures in
    c.ended.ensures
    ∙ ap ended_at
    (c.operands_told.ensures.told
    ∙ ap (λ (n : Buffers). told_on n (all_as true (of_access c.accessed-a.result).stores) (told_on n (all_as false (of_access c.accessed-a.result).reads) (tale c.span.new.self))) (c.span.ensures.lent ∙ c.requires.3)
    ∙ ap (λ (y : Accesses). told_on m (all_as true y.stores) (told_on m (all_as false y.reads) (tale c.span.new.self))) c.accessed-a.ensures
    ∙ ap (λ (y : Tale). told_on m (all_as true (places_of d.change)) (told_on m (all_as false d.reads) y)) told)
    ∙ two-done m (later_bytes a.shape a.c) d.reads (places_of d.change) d.second x c.requires.0 (sym (ap (λ (y : Tale). y.beyond) told) ∙ c.if-teller.false)
    (sym (ap (λ (n : ℕ). eqb n 0) number) ∙ eq-eqb _ _ c.if-a-ne0.false)
