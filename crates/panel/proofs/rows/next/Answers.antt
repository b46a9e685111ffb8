-- `rows::next` meets its contract.
-- Assumes nothing.
use Rattle.std.proofs.Common.{ℕ, ap, sym, ◌∙◌}
use Rattle.ground_rules.specs.Sums.{count_down}
use Rattle.ground_rules.specs.declared.Channel.{Channel}
use Rattle.transfer_rules.specs.Reads.{bytes_fetched}
use Rattle.panel.proofs.RowLaws.{next-holds, next-moves}
use Rattle.panel.proofs.rows.next.Goals as goal

pub returns-in-Holds : goal.returns-in-Holds
returns-in-Holds c = rw c.in-Holds.is (next-holds c.args.c c.args.p _)

pub returns-in-GoesOn : goal.returns-in-GoesOn
returns-in-GoesOn c = rw c.in-GoesOn.is (next-moves c.args.c c.args.p _ _ c.onward.result c.onward-in-GoesOn.result c.count_down.result c.onward.ensures c.onward-in-GoesOn.ensures
    (c.count_down.ensures ∙ ap (λ (n : ℕ). count_down c.args.p.bc n) (c.bytes_fetched.ensures ∙ ap (λ (x : Channel). bytes_fetched x) c.stood.ensures)))
