-- `panel::bursts::turn` meets its contract.
-- Assumes nothing.
use borrow.Author.Tests.{ne_eqb}
use mathlib.Core.Path.{sym, ap, ◌∙◌}
use native.Mathlib.Omega.{arith}
use Rattle.ground_rules.specs.Buffers.{buffers}
use Rattle.turn_rules.specs.Choosing.{requested, ends_now, rank_of}
use Rattle.panel.proofs.AloneLaws.{transfers-round, instructions-round, external-round, nobody-round}
use Rattle.panel.proofs.bursts.turn.Goals as goal

pub overflow_add-result : goal.overflow_add-result
overflow_add-result c = omega (arith, c.requires, c.ranges.limit.fits)

pub returns-then-ends_now : goal.returns-then-ends_now
returns-then-ends_now c =
    let a = c.args in
    rw c.external_end.ensures
    (external-round a.busy a.lines a.second a.c (buffers a.sys.now a.io.now) a.limit a.done c.requires
    (sym (ap (ends_now a.c) c.external.ensures) ∙ sym c.ends_now.ensures ∙ c.if-ends_now.true))

pub returns-then-rank-eq4 : goal.returns-then-rank-eq4
returns-then-rank-eq4 c =
    let a = c.args in
    nobody-round a.busy a.lines a.second a.c (buffers a.sys.now a.io.now) a.limit a.done c.requires
    (sym (ap (ends_now a.c) c.external.ensures) ∙ sym c.ends_now.ensures ∙ c.if-ends_now.false)
    (sym (ap (rank_of a.c) c.request.ensures) ∙ sym c.rank.ensures ∙ c.if-rank-eq4.true)

pub until-requires : goal.until-requires
until-requires c = c.requires

pub row-requires : goal.row-requires
row-requires c = (omega (arith, c.until.ensures.0), sym c.transferring.ensures ∙ c.if-transferring.true)

pub returns-then-transferring : goal.returns-then-transferring
returns-then-transferring c =
    let a = c.args in
    let stop = c.until in
    transfers-round a.busy a.lines a.second a.c (buffers a.sys.now a.io.now) a.limit a.done c.requires stop.result stop.ensures.0 stop.ensures.1 (
      sym (ap (ends_now a.c) c.external.ensures) ∙ sym c.ends_now.ensures ∙ c.if-ends_now.false,
      ne_eqb (rank_of a.c (requested a.lines a.second)) 4 (λ z. c.if-rank-eq4.false (c.rank.ensures ∙ ap (rank_of a.c) c.request.ensures ∙ z)),
      sym c.transferring.ensures ∙ c.if-transferring.true,
    ) c.row.result _ c.row.ensures

pub instructions-requires : goal.instructions-requires
instructions-requires c = omega (arith, c.requires)

pub returns : goal.returns
returns c =
    let a = c.args in
    instructions-round a.busy a.lines a.second a.c (buffers a.sys.now a.io.now) a.limit a.done c.requires (
      sym (ap (ends_now a.c) c.external.ensures) ∙ sym c.ends_now.ensures ∙ c.if-ends_now.false,
      ne_eqb (rank_of a.c (requested a.lines a.second)) 4 (λ z. c.if-rank-eq4.false (c.rank.ensures ∙ ap (rank_of a.c) c.request.ensures ∙ z)),
      sym c.transferring.ensures ∙ c.if-transferring.false,
    ) c.instructions.result _ c.instructions.ensures
