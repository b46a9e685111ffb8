-- `lister::listings::list` meets its contract. The loop's invariant: what is written and what is ahead are the listing.
-- Assumes nothing.
use mathlib.Core.Path.{ap, ◌∙◌}
use mathlib.Core.List.{List}
use Prim.Native.Nat.{ℕ}
use native.Mathlib.Omega.{arith}
use lib.ListN.{length, length-take}
use Rattle.listing_rules.specs.Listings.{list_limit, lines_of, kept_in, placed, listing_of}
use Rattle.lister.proofs.ListLaws.{going_start, going-some, going_next, going-stop, going_end}
use Rattle.lister.proofs.listings.list.Goals as goal

pub loop-at-init : goal.loop-at-init
loop-at-init c =
    (going_start c.lent_part-part.result.now c.args.first c.args.text.now, omega (arith, ap length c.lent_part-part.ensures, length-take list_limit c.args.code.now))

pub returns-then-text-n : goal.returns-then-text-n
unfolding listing_of
returns-then-text-n c =
    let l = c.loop-at in
    going-stop c.lent_part-part.result.now c.args.first c.args.text.now l.text l.at l.n l.invariant.0 c.loop-at-test.true _ c.row_at-row.ensures (omega (arith, c.if-text-n.true, l.invariant.0.size))
    ∙ ap (λ (p : List ℕ). placed (kept_in (length c.args.text.now) (lines_of c.args.first p)) c.args.text.now) c.lent_part-part.ensures

pub overflow_add-at : goal.overflow_add-at
overflow_add-at c =
    let l = c.loop-at in
    omega (arith, (going_next c.lent_part-part.result.now c.args.first c.args.text.now l.text l.at l.n l.invariant.0 c.loop-at-test.true _ c.row_at-row.ensures (omega (arith, c.if-text-n.false, l.invariant.0.size))).place, l.invariant.1)

pub loop-at-smaller : goal.loop-at-smaller
loop-at-smaller c =
    let l = c.loop-at in
    omega (arith, going-some c.lent_part-part.result.now c.args.first c.args.text.now l.text l.at l.n l.invariant.0 c.loop-at-test.true _ c.row_at-row.ensures, c.loop-at-test.true)

pub loop-at-preserved : goal.loop-at-preserved
loop-at-preserved c =
    let l = c.loop-at in
    (rw c.place.ensures (going_next c.lent_part-part.result.now c.args.first c.args.text.now l.text l.at l.n l.invariant.0 c.loop-at-test.true _ c.row_at-row.ensures (omega (arith, c.if-text-n.false, l.invariant.0.size))), l.invariant.1)

pub returns : goal.returns
unfolding listing_of
returns c =
    let l = c.loop-at in
    going_end c.lent_part-part.result.now c.args.first c.args.text.now l.text l.at l.n l.invariant.0 c.loop-at-test.false
    ∙ ap (λ (p : List ℕ). placed (kept_in (length c.args.text.now) (lines_of c.args.first p)) c.args.text.now) c.lent_part-part.ensures
