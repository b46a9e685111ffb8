-- What each call that tells beforehand answers and leaves is that of the rules, with each argument in its place: said of the contracts that the prover made.
-- Assumes nothing.
use borrow.Fn.Kinds.{Dens, res_t, ended_of}
use contract.Lifetimes.{Lfts}
use denote.Triple.Clauses.{AtExit}
use mathlib.Core.Path.{◌≡◌}
use Rattle.ground_rules.specs.Buffers.{buffers}
use Rattle.touch_rules.specs.TouchCalls.{telling, touches_attention, touches_power_up, touches_step, touches_sweep}
use Rattle.touch_calls.proofs.iop89_touches_attention.Kinds as attention-kinds
use Rattle.touch_calls.proofs.iop89_touches_attention.Reads as attention-reads
use Rattle.touch_calls.proofs.iop89_touches_power_up.Kinds as power-up-kinds
use Rattle.touch_calls.proofs.iop89_touches_power_up.Reads as power-up-reads
use Rattle.touch_calls.proofs.iop89_touches_step.Kinds as step-kinds
use Rattle.touch_calls.proofs.iop89_touches_step.Reads as step-reads
use Rattle.touch_calls.proofs.iop89_touches_sweep.Kinds as sweep-kinds
use Rattle.touch_calls.proofs.iop89_touches_sweep.Reads as sweep-reads

-- the state, both memories, the channel and the words
pub attention-told : (κs : Lfts 4) (a : Dens κs attention-kinds.ps) (r : (res_t attention-kinds.r κs).Denot) (e : AtExit (ended_of 4 attention-kinds.ps attention-kinds.r) κs)
    → attention-reads.Post κs a r e → telling r e.1.1.1.1.0.now ≡ touches_attention a.0.now (buffers a.1.0.now a.1.1.0.now) a.1.1.1.0 a.1.1.1.1.0.now
attention-told κs a r e p = p

-- the state, both memories and the words
pub power-up-told : (κs : Lfts 4) (a : Dens κs power-up-kinds.ps) (r : (res_t power-up-kinds.r κs).Denot) (e : AtExit (ended_of 4 power-up-kinds.ps power-up-kinds.r) κs)
    → power-up-reads.Post κs a r e → telling r e.1.1.1.0.now ≡ touches_power_up a.0.now (buffers a.1.0.now a.1.1.0.now) a.1.1.1.0.now
power-up-told κs a r e p = p

-- the state, both memories, the lines and the words
pub step-told : (κs : Lfts 4) (a : Dens κs step-kinds.ps) (r : (res_t step-kinds.r κs).Denot) (e : AtExit (ended_of 4 step-kinds.ps step-kinds.r) κs)
    → step-reads.Post κs a r e → telling r e.1.1.1.1.0.now ≡ touches_step a.0.now (buffers a.1.0.now a.1.1.0.now) a.1.1.1.0 a.1.1.1.1.0.now
step-told κs a r e p = p

-- the state, both memories, the channel, the lines and the words
pub sweep-told : (κs : Lfts 4) (a : Dens κs sweep-kinds.ps) (r : (res_t sweep-kinds.r κs).Denot) (e : AtExit (ended_of 4 sweep-kinds.ps sweep-kinds.r) κs)
    → sweep-reads.Post κs a r e → telling r e.1.1.1.1.1.0.now ≡ touches_sweep a.0.now (buffers a.1.0.now a.1.1.0.now) a.1.1.1.0 a.1.1.1.1.0 a.1.1.1.1.1.0.now
sweep-told κs a r e p = p
