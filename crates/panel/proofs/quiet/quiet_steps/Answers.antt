-- `panel::quiet::quiet_steps` meets its contract. The loop's invariant: the rest of the row from here is the row from the start.
-- Assumes nothing.
use lib.Dec.{eqb}
use Prim.Native.Nat.{ℕ, ◌-◌}
use borrow.Author.Tests.{not-true, not-false}
use mathlib.Core.Bool.{Bool, true, not}
use mathlib.Core.Path.{refl, sym, ap, ap₂, ◌∙◌}
use native.Mathlib.Omega.{arith}
use Rattle.ground_rules.specs.Buffers.{Buffers, buffers}
use Rattle.ground_rules.specs.Psw.{source_wide, destination_wide}
use Rattle.ground_rules.specs.Choice.{pick}
use Rattle.panel.specs.Bursts.{burst_from, moves, transfers_on, kept_at, word_side_at, fallen, by_of}
use Rattle.panel.proofs.QuietLaws.{quiet-fits, stands-small, gains, gained-small, word-stays, hop-on, hop-begins}
use Rattle.panel.proofs.quiet.quiet_steps.Goals as goal

pub reach-end-requires : goal.reach-end-requires
reach-end-requires g c = (c.requires.0, c.requires.1)

pub loop-done-init : goal.loop-done-init
loop-done-init g c =
    let a = c.args in
    let reach = c.reach-end in
    let first = c.stands-source in
    let second = c.stands-destination in (
      omega arith,
      reach.ensures.least,
      refl,
      refl,
      λ h.
          let fit = quiet-fits (eqb g.row.BY 2) a.c c.word_side_at-from_word.result c.word_side_at-into_word.result (sym c.is_quiet-quiet.ensures ∙ reach.ensures.some h) in
          (omega (arith, first.ensures, stands-small a.c fit a.c.fields.sourceIsGB), omega (arith, second.ensures, stands-small a.c fit (not a.c.fields.sourceIsGB))),
      hop-begins (eqb g.row.BY 2) a.c first.result second.result (fallen (eqb g.row.BY 2) a.c.bc (a.from - a.from)) (buffers a.sys.now a.io.now) a.from (a.stop - a.from) (omega (arith, c.ranges.bc.fits, c.requires.1)) first.ensures second.ensures refl,
      λ two. (
        c.word_side_at-from_word.ensures ∙ ap (λ (w : Bool). word_side_at w c.stands-source.result) c.source_wide.ensures,
        c.word_side_at-into_word.ensures ∙ ap (λ (w : Bool). word_side_at w c.stands-destination.result) c.destination_wide.ensures,
      ),
    )

pub hop_by-requires : goal.hop_by-requires
hop_by-requires g c = record { quiet = sym c.is_quiet-quiet.ensures ∙ c.reach-end.ensures.some (omega (arith, c.loop-done.invariant.0, c.loop-done-test.true)); words = c.loop-done.invariant.6 }

pub overflow_sub-done : goal.overflow_sub-done
overflow_sub-done g c = c.loop-done.invariant.0

pub returns-then-not-hop_by : goal.returns-then-not-hop_by
returns-then-not-hop_by g c =
    let l = c.loop-done in
    let a = c.args in
    let pre = c.requires in (
      omega (arith, l.invariant.1, c.reach-end.ensures.most),
      ap₂ (λ (x : ℕ) (y : Buffers). burst_from moves transfers_on (a.stop - l.done) (kept_at a.c l.source l.destination x) y l.done) (c.fallen.ensures ∙ ap (λ (n : ℕ). fallen (eqb g.row.BY 2) n (l.done - a.from)) pre.1) (c.hop_by.ensures.stayed (not-true _ c.if-not-hop_by.true-raw))
          ∙ l.invariant.5,
    )

pub overflow_add-done : goal.overflow_add-done
overflow_add-done g c = omega (arith, c.loop-done-test.true, c.reach-end.ensures.most, c.ranges.stop.fits)

pub loop-done-smaller : goal.loop-done-smaller
loop-done-smaller g c = omega (arith, c.loop-done-test.true)

pub loop-done-preserved : goal.loop-done-preserved
loop-done-preserved g c =
    let l = c.loop-done in
    let a = c.args in
    let hop = c.hop_by in
    let reach = c.reach-end in
    let h = c.loop-done-test.true in
    let small = l.invariant.4 (omega (arith, l.invariant.0, h)) in
    let from = c.gain-from_by in
    let into = c.gain-into_by in (
      omega (arith, l.invariant.0),
      omega (arith, h),
      hop.auto.sys ∙ l.invariant.2,
      hop.auto.io ∙ l.invariant.3,
      λ g. (gained-small l.source from.result c.sum20-source.result c.sum20-source.ensures, gained-small l.destination into.result c.sum20-destination.result c.sum20-destination.ensures),
      hop-on (eqb g.row.BY 2) c.is_quiet-quiet.result a.c l.source l.destination (buffers l.sys l.io) _ a.from a.stop reach.result l.done (omega (arith, c.ranges.stop.fits)) reach.ensures l.invariant.0 h c.requires.2 hop.result (not-false _ c.if-not-hop_by.false-raw) hop.ensures
          c.sum20-source.result c.sum20-destination.result (gains a.c.fields.sourceMoves l.source (by_of (eqb g.row.BY 2)) from.result c.sum20-source.result small.0 from.ensures c.sum20-source.ensures)
          (gains a.c.fields.destinationMoves l.destination (by_of (eqb g.row.BY 2)) into.result c.sum20-destination.result small.1 into.ensures c.sum20-destination.ensures)
          ∙ l.invariant.5,
      λ two. (
        (l.invariant.6 two).0 ∙ word-stays (source_wide a.c.psw) a.c.fields.sourceMoves l.source from.result c.sum20-source.result (from.ensures ∙ ap (λ (b : Bool). pick a.c.fields.sourceMoves (by_of b) 0) two) c.sum20-source.ensures,
        (l.invariant.6 two).1 ∙ word-stays (destination_wide a.c.psw) a.c.fields.destinationMoves l.destination into.result c.sum20-destination.result (into.ensures ∙ ap (λ (b : Bool). pick a.c.fields.destinationMoves (by_of b) 0) two) c.sum20-destination.ensures,
      ),
    )

pub overflow_sub-done-2 : goal.overflow_sub-done-2
overflow_sub-done-2 g c = c.loop-done.invariant.0

pub returns : goal.returns
returns g c =
    let l = c.loop-done in
    let a = c.args in
    let pre = c.requires in (
      omega (arith, l.invariant.1, c.reach-end.ensures.most),
      ap (λ (x : ℕ). burst_from moves transfers_on (a.stop - l.done) (kept_at a.c l.source l.destination x) (buffers l.sys l.io) l.done) (c.fallen-2.ensures ∙ ap (λ (n : ℕ). fallen (eqb g.row.BY 2) n (l.done - a.from)) pre.1)
          ∙ l.invariant.5,
    )
