-- The contracts of the calls here, as the code has them, determine their outcomes: two outcomes that meet one are the same.
-- Assumes nothing.
use borrow.Fn.Kinds.{Dens, res_t, ended_of}
use contract.Lifetimes.{Lfts}
use denote.Triple.Clauses.{AtExit}
use mathlib.Core.Path.{◌≡◌, sym, ◌∙◌}
use Rattle.ground_rules.specs.Buffers.{buffers}
use Rattle.run_rules.specs.Run.{called}
use Rattle.run_call.proofs.iop89_run.Kinds as call-kinds
use Rattle.run_call.proofs.iop89_run.Reads as call-reads
use Rattle.run_call.proofs.iop89_board.Kinds as board-kinds
use Rattle.run_call.proofs.iop89_board.Reads as board-reads

pub call-determined : (κs : Lfts 2) (a : Dens κs call-kinds.ps) (r q : (res_t call-kinds.r κs).Denot) (e f : AtExit (ended_of 2 call-kinds.ps call-kinds.r) κs)
    → call-reads.Post κs a r e → call-reads.Post κs a q f → called r (buffers e.0.now e.1.0.now) ≡ called q (buffers f.0.now f.1.0.now)
call-determined κs a r q e f p w = p ∙ sym w

pub board-call-determined : (κs : Lfts 2) (a : Dens κs board-kinds.ps) (r q : (res_t board-kinds.r κs).Denot) (e f : AtExit (ended_of 2 board-kinds.ps board-kinds.r) κs)
    → board-reads.Post κs a r e → board-reads.Post κs a q f → called r (buffers e.0.now e.1.0.now) ≡ called q (buffers f.0.now f.1.0.now)
board-call-determined κs a r q e f p w = p ∙ sym w
