-- `script::play` is safe and ends: what is lent lies within the buffers, each call takes it further in the text, and no line has a number past its place.
-- Assumes nothing.
use Prim.Native.Nat.{◌-◌}
use lib.ListN.{drop, length-take}
use lib.Seq.{length_front}
use mathlib.Core.Path.{refl, ◌∙◌}
use native.Mathlib.Omega.{arith}
use Rattle.script_text.proofs.CallLaws.{line-limited}
use Rattle.script.proofs.play.Goals as goal

pub loop-at-init : goal.loop-at-init
loop-at-init c = (refl, refl, omega arith, omega arith, omega arith)

pub content_end-content-requires : goal.content_end-content-requires
content_end-content-requires c = (c.line_end-end.ensures.lower_bound.0, c.line_end-end.ensures.lower_bound.1)

pub given_to-given-requires : goal.given_to-given-requires
given_to-given-requires c = record { at_le_content = (c.content_end-content.ensures.lower_bound.0, c.content_end-content.ensures.lower_bound.1, c.line_end-end.ensures.lower_bound.1); at_in_bounds = c.loop-at-test.true }

pub after-lent-requires : goal.after-lent-requires
after-lent-requires c = record { limited = rw c.call_of-call.ensures (line-limited _); sys_bound = (c.loop-at.invariant.2, c.loop-at.invariant.3) }

pub overflow_add-number : goal.overflow_add-number
overflow_add-number c =
    let l = c.loop-at in
    let g = c.given_to-given in
    omega (arith, c.feeds.ensures, length-take (g.result.next - l.at) (drop l.at c.args.text.now), l.invariant.4, g.ensures.2, g.ensures.3, c.requires.text_len_bound)

pub loop-at-smaller : goal.loop-at-smaller
loop-at-smaller c = omega (arith, c.given_to-given.ensures.2, c.given_to-given.ensures.3)

pub loop-at-preserved : goal.loop-at-preserved
loop-at-preserved c =
    let l = c.loop-at in
    let lent = c.after-lent in
    let p = c.perform-done in
    let g = c.given_to-given in (
      length_front l.sys p.new.sys lent.result.sys p.auto.sys ∙ l.invariant.0,
      length_front l.io p.new.io lent.result.io p.auto.io ∙ l.invariant.1,
      lent.ensures.sys_bound_2.0,
      lent.ensures.sys_bound_2.1,
      omega (arith, c.feeds.ensures, length-take (g.result.next - l.at) (drop l.at c.args.text.now), l.invariant.4, g.ensures.2),
    )
