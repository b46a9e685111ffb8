-- `memory::span_lent` meets its contract.
-- Assumes nothing.
use Prim.Native.Nat.{ℕ, ◌+◌, ◌<◌}
use borrow.Author.Rules.{rules}
use borrow.Author.Tests.{le-leb, lt-leb}
use lib.Dec.{leb}
use lib.ListN.{length}
use mathlib.Core.Bool.{Bool, true, false, ◌||◌}
use mathlib.Core.Path.{◌≡◌, sym, ap, ◌∙◌}
use native.Mathlib.Decide.{dec_lt}
use native.Mathlib.Omega.{arith}
use Rattle.ground_rules.specs.Buffers.{Buffers, buffers, space_of, limit_of, index_of}
use Rattle.ground_rules.specs.Choice.{pick}
use Rattle.ground_rules.specs.Places.{span, all_pass, all_lent}
use Rattle.ground_rules.proofs.ChoiceLaws.{or-true, or-false}
use Rattle.ground_rules.proofs.PlaceLaws.{index-small}
use Rattle.ground_rules.proofs.SpanLaws.{span-tests}
use Rattle.memory.proofs.span_lent.Goals as goal

-- one comparison with how far a row may reach is the two comparisons with the length
one-test : (end length most : ℕ) → end < 1099511627776 → leb end (pick (leb most length) 1099511627776 length) ≡ leb end length || leb most length
one-test end length most small = by (dec_lt length most)
  where
    by : Dec (length < most) → leb end (pick (leb most length) 1099511627776 length) ≡ leb end length || leb most length
    by (yes less) = rw (lt-leb most length less) (sym (or-false (leb end length)))
    by (no more) = rw (le-leb most length (omega arith), le-leb end 1099511627776 (omega arith)) (sym (or-true (leb end length)))

-- so it tells whether a row that is not empty is lent
row-lent : (m : Buffers) (t : Bool) (a n r : ℕ) → (n ≡ 0 → ⊥) → n < 4294967296 → r ≡ pick (leb (limit_of t) (length (space_of m t))) 1099511627776 (length (space_of m t))
    → leb (index_of t a + n) r ≡ all_lent m (span t a n)
row-lent m t a n r some small e =
    ap (leb (index_of t a + n)) e ∙ one-test (index_of t a + n) (length (space_of m t)) (limit_of t) (omega (arith, small, index-small t a)) ∙ span-tests m t a n some

pub returns-then-count-eq0 : goal.returns-then-count-eq0
unfolding span all_pass
returns-then-count-eq0 c = rw c.if-count-eq0.true

pub overflow_add-end : goal.overflow_add-end
overflow_add-end c = omega (arith, index-small c.args.tag c.args.address, c.index.ensures)

pub returns-then-tag : goal.returns-then-tag
unfolding space_of limit_of
returns-then-tag c =
    let a = c.args in
    let m = buffers a.sys.now a.io.now in
    rw (c.index.ensures, c.if-tag.true) (row-lent m true a.address a.count c.reach.result c.if-count-eq0.false (omega arith) c.reach.ensures)

pub returns-else-tag : goal.returns-else-tag
unfolding space_of limit_of
returns-else-tag c =
    let a = c.args in
    let m = buffers a.sys.now a.io.now in
    rw (c.index.ensures, c.if-tag.false) (row-lent m false a.address a.count c.reach-else-tag.result c.if-count-eq0.false (omega arith) c.reach-else-tag.ensures)
