-- `step::turns/choose` meets its contract.
-- Assumes nothing.
use mathlib.Core.Path.{sym, ap, ◌∙◌}
use Rattle.turn_rules.specs.Choosing.{ends_now, choice_of}
use Rattle.step.proofs.turns.choose.Goals as goal

pub returns-then-ends_now : goal.returns-then-ends_now
unfolding choice_of
returns-then-ends_now c =
    let a = c.args in
    simp (sym (c.ends_now.ensures ∙ ap (ends_now a.s.first) c.external.ensures) ∙ c.if-ends_now.true)

pub returns-then-ends_now-2 : goal.returns-then-ends_now-2
unfolding choice_of
returns-then-ends_now-2 c =
    let a = c.args in
    simp (sym (c.ends_now-2.ensures ∙ ap (ends_now a.s.second) c.external-2.ensures) ∙ c.if-ends_now-2.true, sym (c.ends_now.ensures ∙ ap (ends_now a.s.first) c.external.ensures) ∙ c.if-ends_now.false)

pub returns : goal.returns
unfolding choice_of
returns c =
    let a = c.args in
    simp (c.ranked.ensures, c.rank-2.ensures, c.request-2.ensures, c.rank.ensures, c.request.ensures, sym (c.ends_now-2.ensures ∙ ap (ends_now a.s.second) c.external-2.ensures) ∙ c.if-ends_now-2.false, sym (c.ends_now.ensures ∙ ap (ends_now a.s.first) c.external.ensures) ∙ c.if-ends_now.false)
