-- The contracts of the exported runs, those that the prover made, determine their outcomes, so two outcomes that meet one are the same: by the theorems of run_call.
-- Assumes nothing.
use borrow.Fn.Kinds.{Dens, res_t, ended_of}
use contract.Lifetimes.{Lfts}
use denote.Triple.Clauses.{AtExit}
use mathlib.Core.Path.{◌≡◌}
use Rattle.ground_rules.specs.Buffers.{buffers}
use Rattle.run_rules.specs.Run.{called}
use Rattle.run_call.proofs.Determined as of-library
use Rattle.run_call_c.proofs.iop89_run.Kinds as call-kinds
use Rattle.run_call_c.proofs.iop89_run.Reads as call-reads
use Rattle.run_call_c.proofs.iop89_board.Kinds as board-kinds
use Rattle.run_call_c.proofs.iop89_board.Reads as board-reads

pub call-determined : (κs : Lfts 2) (a : Dens κs call-kinds.ps) (r q : (res_t call-kinds.r κs).Denot) (e f : AtExit (ended_of 2 call-kinds.ps call-kinds.r) κs)
    → call-reads.Post κs a r e → call-reads.Post κs a q f → called r (buffers e.0.now e.1.0.now) ≡ called q (buffers f.0.now f.1.0.now)
call-determined κs a r q e f p w = of-library.call-determined κs a r q e f p w

pub board-call-determined : (κs : Lfts 2) (a : Dens κs board-kinds.ps) (r q : (res_t board-kinds.r κs).Denot) (e f : AtExit (ended_of 2 board-kinds.ps board-kinds.r) κs)
    → board-reads.Post κs a r e → board-reads.Post κs a q f → called r (buffers e.0.now e.1.0.now) ≡ called q (buffers f.0.now f.1.0.now)
board-call-determined κs a r q e f p w = of-library.board-call-determined κs a r q e f p w
