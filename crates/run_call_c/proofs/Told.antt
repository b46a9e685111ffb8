-- What the exported runs answer and leave is the run of the rules, with each argument in its place: said of the exported functions' own contracts, those that the
-- prover made, by the theorems of run_call, whose functions have the same contracts.
-- Assumes nothing.
use borrow.Fn.Kinds.{Dens, res_t, ended_of}
use contract.Lifetimes.{Lfts}
use denote.Triple.Clauses.{AtExit}
use mathlib.Core.Path.{◌≡◌}
use Rattle.ground_rules.specs.Buffers.{lent}
use Rattle.run_rules.specs.Run.{run_of, answer_of, called}
use Rattle.run_rules.specs.Board.{board_run_of}
use Rattle.run_call.proofs.Told as of-library
use Rattle.run_call_c.proofs.iop89_run.Kinds as call-kinds
use Rattle.run_call_c.proofs.iop89_run.Reads as call-reads
use Rattle.run_call_c.proofs.iop89_board.Kinds as board-kinds
use Rattle.run_call_c.proofs.iop89_board.Reads as board-reads

-- both memories, CP, the channel, the lines and the limit
pub call-told : (κs : Lfts 2) (a : Dens κs call-kinds.ps) (r : (res_t call-kinds.r κs).Denot) (e : AtExit (ended_of 2 call-kinds.ps call-kinds.r) κs)
    → call-reads.Post κs a r e
    → let run = run_of (lent a.0.now a.1.0.now) a.1.1.0 a.1.1.1.0 a.1.1.1.1.0 a.1.1.1.1.1.0 in
    called r (lent e.0.now e.1.0.now) ≡ called (answer_of run) run.memory
call-told κs a r e p = of-library.call-told κs a r e p

-- both memories, the channel, the lines and the limit
pub board-told : (κs : Lfts 2) (a : Dens κs board-kinds.ps) (r : (res_t board-kinds.r κs).Denot) (e : AtExit (ended_of 2 board-kinds.ps board-kinds.r) κs)
    → board-reads.Post κs a r e
    → let run = board_run_of (lent a.0.now a.1.0.now) a.1.1.0 a.1.1.1.0 a.1.1.1.1.0 in
    called r (lent e.0.now e.1.0.now) ≡ called (answer_of run) run.memory
board-told κs a r e p = of-library.board-told κs a r e p
