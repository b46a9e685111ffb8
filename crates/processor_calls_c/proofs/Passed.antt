-- The exported calls on one processor keep the equations of service and schedule_calls: said of each exported function's own contract, the one that the prover made,
-- by the theorems of processor_calls, whose functions have the same contracts.
-- Assumes nothing.
use base.Logic.{SProp}
use borrow.Fn.Kinds.{Dens, res_t, ended_of}
use contract.Lifetimes.{Lfts}
use contract.Monad.{Fun, fact}
use denote.Triple.Clauses.{AtExit}
use denote.Triple.Entry.{Args, Res}
use types.Logic.{Logic}
use seplogic.Ra.Ura.{Ura}
use mathlib.Core.Bool.{true}
use mathlib.Core.Path.{◌≡◌}
use prog.Memory.{Memory}
use prog.Routine.{Routine}
use Rattle.ground_rules.specs.Buffers.{AllBytes, buffers}
use Rattle.state_rules.specs.Layout.{is_state}
use Rattle.state_rules.specs.Calls.{made, served, fresh_made, reset_made, power_served, attention_served, step_served}
use Rattle.schedule_calls.specs.Calls.{scheduled, schedule_served}
use Rattle.schedule_calls.specs.Turns.{standing}
use Rattle.processor_calls.proofs.Passed as of-library
use Rattle.processor_calls_c.proofs.single.iop89_fresh.Kinds as fresh-kinds
use Rattle.processor_calls_c.proofs.single.iop89_fresh.Reads as fresh-reads
use Rattle.processor_calls_c.proofs.single.iop89_reset.Kinds as reset-kinds
use Rattle.processor_calls_c.proofs.single.iop89_reset.Reads as reset-reads
use Rattle.processor_calls_c.proofs.single.iop89_power_up.Kinds as power-kinds
use Rattle.processor_calls_c.proofs.single.iop89_power_up.Reads as power-reads
use Rattle.processor_calls_c.proofs.single.iop89_attention.Kinds as attention-kinds
use Rattle.processor_calls_c.proofs.single.iop89_attention.Reads as attention-reads
use Rattle.processor_calls_c.proofs.single.iop89_step.Kinds as step-kinds
use Rattle.processor_calls_c.proofs.single.iop89_step.Reads as step-reads
use Rattle.processor_calls_c.proofs.single.iop89_schedule.Kinds as schedule-kinds
use Rattle.processor_calls_c.proofs.single.iop89_schedule.Reads as schedule-reads
use Rattle.processor_calls_c.specs.contracts.single.iop89_schedule as schedule

pub fresh-passed : (κs : Lfts 1) (a : Dens κs fresh-kinds.ps) (r : (res_t fresh-kinds.r κs).Denot) (e : AtExit (ended_of 1 fresh-kinds.ps fresh-kinds.r) κs) → fresh-reads.Post κs a r e
    → made r e.0.now
    ≡ fresh_made a.0.now a.1.0
fresh-passed κs a r e p = of-library.fresh-passed κs a r e p

pub reset-passed : (κs : Lfts 1) (a : Dens κs reset-kinds.ps) (r : (res_t reset-kinds.r κs).Denot) (e : AtExit (ended_of 1 reset-kinds.ps reset-kinds.r) κs) → reset-reads.Post κs a r e
    → made r e.0.now
    ≡ reset_made a.0.now
reset-passed κs a r e p = of-library.reset-passed κs a r e p

pub power-passed : (κs : Lfts 3) (a : Dens κs power-kinds.ps) (r : (res_t power-kinds.r κs).Denot) (e : AtExit (ended_of 3 power-kinds.ps power-kinds.r) κs) → power-reads.Post κs a r e
    → served r e.0.now (buffers e.1.0.now e.1.1.0.now)
    ≡ power_served a.0.now (buffers a.1.0.now a.1.1.0.now)
power-passed κs a r e p = of-library.power-passed κs a r e p

pub attention-passed : (κs : Lfts 3) (a : Dens κs attention-kinds.ps) (r : (res_t attention-kinds.r κs).Denot) (e : AtExit (ended_of 3 attention-kinds.ps attention-kinds.r) κs) → attention-reads.Post κs a r e
    → served r e.0.now (buffers e.1.0.now e.1.1.0.now)
    ≡ attention_served a.0.now (buffers a.1.0.now a.1.1.0.now) a.1.1.1.0
attention-passed κs a r e p = of-library.attention-passed κs a r e p

pub step-passed : (κs : Lfts 3) (a : Dens κs step-kinds.ps) (r : (res_t step-kinds.r κs).Denot) (e : AtExit (ended_of 3 step-kinds.ps step-kinds.r) κs) → step-reads.Post κs a r e
    → served r e.0.now (buffers e.1.0.now e.1.1.0.now)
    ≡ step_served a.0.now (buffers a.1.0.now a.1.1.0.now) a.1.1.1.0
step-passed κs a r e p = of-library.step-passed κs a r e p

-- what C lends to an attention or a step is of bytes
pub attention-lent : (κs : Lfts 3) (a : Dens κs attention-kinds.ps) (r : (res_t attention-kinds.r κs).Denot) (e : AtExit (ended_of 3 attention-kinds.ps attention-kinds.r) κs) → attention-reads.Post κs a r e
    → AllBytes (buffers a.1.0.now a.1.1.0.now)
attention-lent κs a r e p = of-library.attention-lent κs a r e p

pub step-lent : (κs : Lfts 3) (a : Dens κs step-kinds.ps) (r : (res_t step-kinds.r κs).Denot) (e : AtExit (ended_of 3 step-kinds.ps step-kinds.r) κs) → step-reads.Post κs a r e
    → AllBytes (buffers a.1.0.now a.1.1.0.now)
step-lent κs a r e p = of-library.step-lent κs a r e p

-- so a step that C gives a state leaves one
pub step-leaves : (κs : Lfts 3) (a : Dens κs step-kinds.ps) (r : (res_t step-kinds.r κs).Denot) (e : AtExit (ended_of 3 step-kinds.ps step-kinds.r) κs) → step-reads.Post κs a r e
    → is_state a.0.now ≡ true → is_state e.0.now ≡ true
step-leaves κs a r e p h = of-library.step-leaves κs a r e p h

-- the state, the rows, both memories and the words of the report
pub single-schedule-told : (κs : Lfts 5) (a : Dens κs schedule-kinds.ps) (r : (res_t schedule-kinds.r κs).Denot) (e : AtExit (ended_of 5 schedule-kinds.ps schedule-kinds.r) κs) → schedule-reads.Post κs a r e
    → scheduled r (standing e.0.now (buffers e.1.1.0.now e.1.1.1.0.now) e.1.1.1.1.0.now)
    ≡ schedule_served (standing a.0.now (buffers a.1.1.0.now a.1.1.1.0.now) a.1.1.1.1.0.now) a.1.0.now
single-schedule-told κs a r e p = p

-- the clause of a schedule is that equation
pub schedule-passed : {M : Type 1} {𝓤 : Ura M} (𝓛 : Logic 𝓤) (mem : Memory → SProp 𝓤) (run : Routine → Fun 𝓤) (κs : Lfts 5) (a : Args schedule.signature κs)
    (r : Res schedule.signature κs) (e : AtExit schedule.ended κs) → (schedule.clauses 𝓛 mem run κs a).ensures tt r e
    ≡ fact 𝓤 (scheduled r (standing e.0.now (buffers e.1.1.0.now e.1.1.1.0.now) e.1.1.1.1.0.now)
    ≡ schedule_served (standing a.0.now (buffers a.1.1.0.now a.1.1.1.0.now) a.1.1.1.1.0.now) a.1.0.now)
schedule-passed 𝓛 mem run κs a r e = of-library.schedule-passed 𝓛 mem run κs a r e
