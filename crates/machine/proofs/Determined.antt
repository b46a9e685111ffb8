-- The contract of each public call here, as the code has it, determines its outcome: two outcomes that meet it are the same.
-- Assumes nothing.
use borrow.Fn.Kinds.{Dens, res_t, ended_of}
use contract.Lifetimes.{Lfts}
use denote.Triple.Clauses.{AtExit}
use mathlib.Core.Path.{◌≡◌, sym, ◌∙◌}
use Rattle.machine.proofs.states.fresh.Kinds as fresh-kinds
use Rattle.machine.proofs.states.fresh.Reads as fresh-reads
use Rattle.machine.proofs.states.reset.Kinds as reset-kinds
use Rattle.machine.proofs.states.reset.Reads as reset-reads

pub fresh-determined : (κs : Lfts 0) (a : Dens κs fresh-kinds.ps) (r q : (res_t fresh-kinds.r κs).Denot) (e f : AtExit (ended_of 0 fresh-kinds.ps fresh-kinds.r) κs)
    → fresh-reads.Post κs a r e → fresh-reads.Post κs a q f → r ≡ q
fresh-determined κs a r q e f p w = p ∙ sym w

pub reset-determined : (κs : Lfts 0) (a : Dens κs reset-kinds.ps) (r q : (res_t reset-kinds.r κs).Denot) (e f : AtExit (ended_of 0 reset-kinds.ps reset-kinds.r) κs)
    → reset-reads.Post κs a r e → reset-reads.Post κs a q f → r ≡ q
reset-determined κs a r q e f p w = p ∙ sym w
