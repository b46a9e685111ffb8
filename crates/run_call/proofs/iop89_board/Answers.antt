-- `run_call::iop89_board` meets its contract.
-- Assumes nothing.
use Rattle.std.proofs.Common.{ℕ, ap, ◌∙◌}
use Rattle.ground_rules.specs.Buffers.{buffers}
use Rattle.run_rules.specs.Run.{Run, answer_of, called}
use Rattle.run_call.proofs.iop89_board.Goals as goal

pub returns : goal.returns
unfolding answer_of
returns c =
    ap (λ (n : ℕ). called n (buffers c.board_run.new.sys c.board_run.new.io)) c.answer.ensures
    ∙ ap (λ (x : Run). called (answer_of x) x.memory) c.board_run.ensures
