-- The contracts of the public calls, as the code has them, determine their outcome: two outcomes that meet one are the same.
-- Assumes nothing.
use borrow.Fn.Kinds.{Dens, res_t, ended_of}
use contract.Lifetimes.{Lfts}
use denote.Triple.Clauses.{AtExit}
use mathlib.Core.Path.{◌≡◌, sym, ◌∙◌}
use Rattle.touch_rules.specs.TouchCalls.{telling}
use Rattle.touch_calls.proofs.iop89_touches_attention.Kinds as attention-kinds
use Rattle.touch_calls.proofs.iop89_touches_attention.Reads as attention-reads
use Rattle.touch_calls.proofs.iop89_touches_power_up.Kinds as power-up-kinds
use Rattle.touch_calls.proofs.iop89_touches_power_up.Reads as power-up-reads
use Rattle.touch_calls.proofs.iop89_touches_step.Kinds as step-kinds
use Rattle.touch_calls.proofs.iop89_touches_step.Reads as step-reads
use Rattle.touch_calls.proofs.iop89_touches_sweep.Kinds as sweep-kinds
use Rattle.touch_calls.proofs.iop89_touches_sweep.Reads as sweep-reads

pub touches-attention-determined : (κs : Lfts 4) (a : Dens κs attention-kinds.ps) (r q : (res_t attention-kinds.r κs).Denot) (e f : AtExit (ended_of 4 attention-kinds.ps attention-kinds.r) κs)
    → attention-reads.Post κs a r e → attention-reads.Post κs a q f → telling r e.1.1.1.1.0.now ≡ telling q f.1.1.1.1.0.now
touches-attention-determined κs a r q e f p w = p ∙ sym w

pub touches-power-up-determined : (κs : Lfts 4) (a : Dens κs power-up-kinds.ps) (r q : (res_t power-up-kinds.r κs).Denot) (e f : AtExit (ended_of 4 power-up-kinds.ps power-up-kinds.r) κs)
    → power-up-reads.Post κs a r e → power-up-reads.Post κs a q f → telling r e.1.1.1.0.now ≡ telling q f.1.1.1.0.now
touches-power-up-determined κs a r q e f p w = p ∙ sym w

pub touches-step-determined : (κs : Lfts 4) (a : Dens κs step-kinds.ps) (r q : (res_t step-kinds.r κs).Denot) (e f : AtExit (ended_of 4 step-kinds.ps step-kinds.r) κs)
    → step-reads.Post κs a r e → step-reads.Post κs a q f → telling r e.1.1.1.1.0.now ≡ telling q f.1.1.1.1.0.now
touches-step-determined κs a r q e f p w = p ∙ sym w

pub touches-sweep-determined : (κs : Lfts 4) (a : Dens κs sweep-kinds.ps) (r q : (res_t sweep-kinds.r κs).Denot) (e f : AtExit (ended_of 4 sweep-kinds.ps sweep-kinds.r) κs)
    → sweep-reads.Post κs a r e → sweep-reads.Post κs a q f → telling r e.1.1.1.1.1.0.now ≡ telling q f.1.1.1.1.1.0.now
touches-sweep-determined κs a r q e f p w = p ∙ sym w
