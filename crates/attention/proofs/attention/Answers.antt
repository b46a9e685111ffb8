-- `attention::attention` meets its contract.
-- Assumes nothing.
use mathlib.Core.Path.{sym, ◌∙◌}
use Rattle.std.proofs.lemmas.Result.{err_from_is_err_and}
use Rattle.ground_rules.proofs.RefusalLaws.{number-positive}
use Rattle.ground_rules.specs.Buffers.{buffers}
use Rattle.attention.proofs.PlanLaws.{given-settled, given-counts, order-settled, order-counts, planned-settled, planned-counts}
use Rattle.attention.proofs.attention.Goals as goal

pub returns-in_err-check_given-clause-left : goal.returns-in_err-check_given-clause-left
returns-in_err-check_given-clause-left c =
    let a = c.args in
    let p = err_from_is_err_and c.from_residual.result c.from_residual.ensures.1 in
    let given = c.in_err-check_given.ensures in
    rw (p.1, p.2, given) (given-settled a.s (buffers a.sys.now a.io.now) a.channel (λ z. number-positive _ (given ∙ z)))

pub returns-in_err-check_given-clause-count : goal.returns-in_err-check_given-clause-count
returns-in_err-check_given-clause-count c =
    let a = c.args in
    let p = err_from_is_err_and c.from_residual.result c.from_residual.ensures.1 in
    let given = c.in_err-check_given.ensures in
    rw p.1 (given-counts a.s (buffers a.sys.now a.io.now) a.channel (λ z. number-positive _ (given ∙ z)))

pub returns-in_err-upshot-clause-left : goal.returns-in_err-upshot-clause-left
returns-in_err-upshot-clause-left c =
    let a = c.args in
    let m = buffers a.sys.now a.io.now in
    let p = err_from_is_err_and c.from_residual-in_err-upshot.result c.from_residual-in_err-upshot.ensures.1 in
    let number = rw (c.block.ensures, c.channel.ensures, c.is_second-second.ensures) at c.in_err-upshot.ensures.number in
    rw (p.1, p.2, number) (order-settled a.s m a.channel (sym c.in_ok-check_given.ensures) (λ z. number-positive _ (number ∙ z)))

pub returns-in_err-upshot-clause-count : goal.returns-in_err-upshot-clause-count
returns-in_err-upshot-clause-count c =
    let a = c.args in
    let m = buffers a.sys.now a.io.now in
    let p = err_from_is_err_and c.from_residual-in_err-upshot.result c.from_residual-in_err-upshot.ensures.1 in
    let number = rw (c.block.ensures, c.channel.ensures, c.is_second-second.ensures) at c.in_err-upshot.ensures.number in
    rw p.1 (order-counts a.s m a.channel (sym c.in_ok-check_given.ensures) (λ z. number-positive _ (number ∙ z)))

pub returns-clause-left : goal.returns-clause-left
returns-clause-left c =
    let a = c.args in
    let m = buffers a.sys.now a.io.now in
    let free = sym (rw (c.block.ensures, c.channel.ensures, c.is_second-second.ensures) at c.in_ok-upshot.ensures.number) in
    let upshot = rw (c.block.ensures, c.channel.ensures, c.is_second-second.ensures) at c.in_ok-upshot.ensures.upshot in
    rw (c.with_channel.ensures, c.write.ensures, c.is_second-second.ensures) (planned-settled a.s m a.channel (sym c.in_ok-check_given.ensures) free _ upshot)

pub returns-clause-count : goal.returns-clause-count
returns-clause-count c =
    let a = c.args in
    let m = buffers a.sys.now a.io.now in
    let free = sym (rw (c.block.ensures, c.channel.ensures, c.is_second-second.ensures) at c.in_ok-upshot.ensures.number) in
    let upshot = rw (c.block.ensures, c.channel.ensures, c.is_second-second.ensures) at c.in_ok-upshot.ensures.upshot in
    planned-counts a.s m a.channel (sym c.in_ok-check_given.ensures) free _ upshot
