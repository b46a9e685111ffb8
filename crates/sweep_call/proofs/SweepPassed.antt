-- The exported sweep keeps the equation of the one that it passes on, said of its own contract, the one that the prover made.
-- Assumes nothing.
use borrow.Fn.Kinds.{Dens, res_t, ended_of}
use contract.Lifetimes.{Lfts}
use denote.Triple.Clauses.{AtExit}
use mathlib.Core.Path.{◌≡◌}
use Rattle.ground_rules.specs.Buffers.{lent}
use Rattle.state_rules.specs.Calls.{served, sweep_served}
use Rattle.sweep_call.proofs.iop89_sweep.Kinds as sweep-kinds
use Rattle.sweep_call.proofs.iop89_sweep.Reads as sweep-reads

pub sweep-passed : (κs : Lfts 3) (a : Dens κs sweep-kinds.ps) (r : (res_t sweep-kinds.r κs).Denot) (e : AtExit (ended_of 3 sweep-kinds.ps sweep-kinds.r) κs)
    → sweep-reads.Post κs a r e
    → served r e.0.now (lent e.1.0.now e.1.1.0.now) ≡ sweep_served a.0.now (lent a.1.0.now a.1.1.0.now) a.1.1.1.0 a.1.1.1.1.0
sweep-passed κs a r e p = p
