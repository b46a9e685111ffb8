-- `power::power_up` meets its contract.
-- Assumes nothing.
use mathlib.Core.Path.{sym, ◌∙◌}
use Rattle.std.proofs.lemmas.Result.{err_from_is_err_and}
use Rattle.ground_rules.proofs.OutcomeLaws.{refused, accepted, refused-counts, done-counts}
use Rattle.ground_rules.proofs.RefusalLaws.{number-positive}
use Rattle.ground_rules.specs.Buffers.{buffers}
use Rattle.attention_rules.specs.Power.{touched_by_power, power_number, found_state, found_memory, power_up_of, power_count}
use Rattle.attention_rules.proofs.PowerOutcomes.{power-touches}
use Rattle.power.proofs.power_up.Goals as goal

pub returns-in_err-check-clause-left : goal.returns-in_err-check-clause-left
unfolding power_up_of
returns-in_err-check-clause-left c s =
    let a = c.args in
    let m = buffers a.sys.now a.io.now in
    let p = err_from_is_err_and c.from_residual.result c.from_residual.ensures.1 in
    let n = c.in_err-check.ensures in
    rw (p.1, p.2, n) (sym (refused (power_number m) s m (found_state m) (found_memory m) (λ z. number-positive _ (n ∙ z))))

pub returns-in_err-check-clause-count : goal.returns-in_err-check-clause-count
unfolding power_count
returns-in_err-check-clause-count c =
    let a = c.args in
    let m = buffers a.sys.now a.io.now in
    let p = err_from_is_err_and c.from_residual.result c.from_residual.ensures.1 in
    let n = c.in_err-check.ensures in
    rw p.1 (sym (refused-counts (power_number m) (touched_by_power m) (λ z. number-positive _ (n ∙ z))))

pub returns-clause-left : goal.returns-clause-left
unfolding power_up_of found_state found_memory
returns-clause-left c s =
    let a = c.args in
    let m = buffers a.sys.now a.io.now in
    rw (c.store_byte.ensures, c.busy.ensures, c.blank-state.ensures, c.read_board.ensures, c.control-cp.ensures)
    (sym (accepted (power_number m) s m (found_state m) (found_memory m) (sym c.in_ok-check.ensures)))

pub returns-clause-count : goal.returns-clause-count
unfolding power_count
returns-clause-count c =
    let a = c.args in
    let m = buffers a.sys.now a.io.now in
    let z = sym c.in_ok-check.ensures in
    sym (done-counts (power_number m) (touched_by_power m) z ∙ power-touches m)
