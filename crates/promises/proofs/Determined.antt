-- The call from C, by the contract that the prover made of its source: it has one outcome, it meets the equation that is promised of it with each argument in its place, and its number and steps are those of the run.
-- Assumes nothing.
use borrow.Fn.Kinds.{Dens, res_t, ended_of}
use contract.Lifetimes.{Lfts}
use denote.Triple.Clauses.{AtExit}
use mathlib.Core.Path.{◌≡◌, refl, ap, ◌∙◌}
use Prim.Native.Nat.{ℕ, ◌/◌, ◌%◌}
use Rattle.ground_rules.specs.Buffers.{buffers}
use Rattle.run_call.proofs.Determined.{call-determined}
use Rattle.run_call.proofs.Told.{call-told}
use Rattle.run_call.proofs.iop89_run.Kinds as kinds
use Rattle.run_call.proofs.iop89_run.Reads as reads
use Rattle.run_rules.specs.Run.{run_of, Call, called}
use Rattle.promises.specs.Runs.{RunEnds}
use Rattle.promises.specs.Unique.{CallMeets}
use Rattle.promises.proofs.Demand1.{run-answers}

pub one-call : (κs : Lfts 2) (a : Dens κs kinds.ps) (r q : (res_t kinds.r κs).Denot) (e f : AtExit (ended_of 2 kinds.ps kinds.r) κs)
    → reads.Post κs a r e → reads.Post κs a q f
    → called r (buffers e.0.now e.1.0.now) ≡ called q (buffers f.0.now f.1.0.now)
one-call = call-determined

-- the equation, with both memories, CP, channel, lines and limit
pub call-meets : (κs : Lfts 2) (a : Dens κs kinds.ps) (r : (res_t kinds.r κs).Denot) (e : AtExit (ended_of 2 kinds.ps kinds.r) κs) → reads.Post κs a r e
    → CallMeets (buffers a.0.now a.1.0.now) a.1.1.0 a.1.1.1.0 a.1.1.1.1.0 a.1.1.1.1.1.0 r e.0.now e.1.0.now
call-meets κs a r e p = call-told κs a r e p

-- so the answer holds the number and the steps of the run, which ends as a run ends, and the memories are those that it leaves
pub call-answers : (κs : Lfts 2) (a : Dens κs kinds.ps) (r : (res_t kinds.r κs).Denot) (e : AtExit (ended_of 2 kinds.ps kinds.r) κs) → reads.Post κs a r e
    → let m = buffers a.0.now a.1.0.now in
    let run = run_of m a.1.1.0 a.1.1.1.0 a.1.1.1.1.0 a.1.1.1.1.1.0 in
    (r / 65536 ≡ run.number) × (r % 65536 ≡ run.steps) × (buffers e.0.now e.1.0.now ≡ run.memory)
    × RunEnds m a.1.1.0 a.1.1.1.0 a.1.1.1.1.0 a.1.1.1.1.1.0 run
call-answers κs a r e p =
    let m = buffers a.0.now a.1.0.now in
    let all = run-answers m a.1.1.0 a.1.1.1.0 a.1.1.1.1.0 a.1.1.1.1.1.0 in
    let answered = ap (λ (c : Call). c.answer) (call-meets κs a r e p) in
    (ap (λ (n : ℕ). n / 65536) answered ∙ all.number_back, ap (λ (n : ℕ). n % 65536) answered ∙ all.steps_back, ap (λ (c : Call). c.memory) (call-meets κs a r e p), (all.ends _).0 refl)
