-- `run_call::iop89_run` meets its contract.
-- Assumes nothing.
use Rattle.std.proofs.Common.{ℕ, ap, ◌∙◌}
use Rattle.ground_rules.specs.Buffers.{buffers}
use Rattle.run_rules.specs.Run.{Run, answer_of, called}
use Rattle.run_call.proofs.iop89_run.Goals as goal

pub returns : goal.returns
unfolding answer_of
returns c =
    ap (λ (n : ℕ). called n (buffers c.run.new.sys c.run.new.io)) c.answer.ensures
    ∙ ap (λ (x : Run). called (answer_of x) x.memory) c.run.ensures
