-- `prom::records::behind_end` meets its contract.
-- Assumes nothing.
use Rattle.prom.proofs.EndLaws.{end-none, end-feed, end-return, end-alone, end-broken, end-other}
use Rattle.prom.proofs.records.behind_end.Goals as goal

pub returns-in_default : goal.returns-in_default
returns-in_default c = end-none c.args.text.now c.in_default.ensures.cases

pub returns-then-first-eq10 : goal.returns-then-first-eq10
returns-then-first-eq10 c = end-feed c.args.text.now c.in-Some.field-0-0.now c.in-Some.rest.now c.in-Some.ensures.cases.0 c.if-first-eq10.true

pub returns-then-first-ne13 : goal.returns-then-first-ne13
returns-then-first-ne13 c =
    end-other c.args.text.now c.in-Some.field-0-0.now c.in-Some.rest.now c.in-Some.ensures.cases.0 c.if-first-eq10.false c.if-first-ne13.true

pub returns-in_err-feed : goal.returns-in_err-feed
returns-in_err-feed c =
    rw c.from_residual.ensures
    (end-alone c.args.text.now c.in-Some.field-0-0.now c.in-Some.rest.now c.in-Some.ensures.cases.0 c.if-first-ne13.false c.in_err-feed.ensures.cases)

pub returns-then-feed-eq10 : goal.returns-then-feed-eq10
returns-then-feed-eq10 c =
    end-return c.args.text.now c.in-Some.field-0-0.now c.in-Some.rest.now c.in-Some.ensures.cases.0 c.if-first-ne13.false _ _ c.in_ok-feed.ensures.cases.0 c.if-feed-eq10.true

pub returns-else-feed-eq10 : goal.returns-else-feed-eq10
returns-else-feed-eq10 c =
    end-broken c.args.text.now c.in-Some.field-0-0.now c.in-Some.rest.now c.in-Some.ensures.cases.0 c.if-first-ne13.false _ _ c.in_ok-feed.ensures.cases.0 c.if-feed-eq10.false
