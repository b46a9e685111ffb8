-- The contract of the sweep, as the code has it, determines its outcome: two outcomes that meet it are the same.
-- Assumes nothing.
use borrow.Fn.Kinds.{Dens, res_t, ended_of}
use contract.Lifetimes.{Lfts}
use denote.Triple.Clauses.{AtExit}
use mathlib.Core.Path.{◌≡◌, sym, ◌∙◌}
use Rattle.ground_rules.specs.Buffers.{buffers}
use Rattle.sweep_rules.specs.Sweep.{swept_by}
use Rattle.sweep.proofs.sweep.Kinds as kinds
use Rattle.sweep.proofs.sweep.Reads as reads

pub sweep-determined : (κs : Lfts 2) (a : Dens κs kinds.ps) (r q : (res_t kinds.r κs).Denot) (e f : AtExit (ended_of 2 kinds.ps kinds.r) κs)
    → reads.Post κs a r e → reads.Post κs a q f → swept_by a.0 r (buffers e.1.0.now e.1.1.0.now) ≡ swept_by a.0 q (buffers f.1.0.now f.1.1.0.now)
sweep-determined κs a r q e f p w = p ∙ sym w
