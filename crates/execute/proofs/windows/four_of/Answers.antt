-- `execute::windows::four_of` meets its contract.
-- Assumes nothing.
use Rattle.std.proofs.Common.{◌+◌, refl, arith}
use Rattle.execute.specs.Bytes.{four_from}
use Rattle.execute.proofs.windows.four_of.Goals as goal

pub overflow_mul-result : goal.overflow_mul-result
overflow_mul-result c = omega (arith, c.shared_slice_known-2-1.given (c.args.at + 1))

pub overflow_add-result-2 : goal.overflow_add-result-2
overflow_add-result-2 c =
    let at = c.args.at in
    let small = c.shared_slice_known-2-1.given in
    omega (arith, small at, small (at + 1))

pub overflow_mul-result-2 : goal.overflow_mul-result-2
overflow_mul-result-2 c = omega (arith, c.shared_slice_known-3-1.given (c.args.at + 2))

pub overflow_add-result-4 : goal.overflow_add-result-4
overflow_add-result-4 c =
    let at = c.args.at in
    let small = c.shared_slice_known-3-1.given in
    omega (arith, small at, small (at + 1), small (at + 2))

pub overflow_mul-result-3 : goal.overflow_mul-result-3
overflow_mul-result-3 c = omega (arith, c.shared_slice_known-4-1.given (c.args.at + 3))

pub overflow_add-result-6 : goal.overflow_add-result-6
overflow_add-result-6 c =
    let at = c.args.at in
    let small = c.shared_slice_known-4-1.given in
    omega (arith, small at, small (at + 1), small (at + 2), small (at + 3))

pub returns : goal.returns
unfolding four_from
returns c = refl
