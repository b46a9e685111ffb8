-- What is promised of the calls on two processors, of each exported function's own contract, the one that the prover made: it is the single call of the one named,
-- and its numbers are that call's behind 12 for the processor. By the theorems of processor_calls, whose functions have the same contracts.
-- Assumes nothing.
use Prim.Native.Nat.{ℕ}
use base.Logic.{SProp}
use borrow.Fn.Kinds.{p_num, Dens, res_t, ended_of}
use contract.Lifetimes.{Lfts}
use contract.Monad.{Fun, fact}
use denote.Triple.Clauses.{AtExit}
use denote.Triple.Entry.{Args, Res}
use types.Logic.{Logic}
use seplogic.Ra.Ura.{Ura}
use mathlib.Core.List.{List, [], ◌∷◌}
use mathlib.Core.Path.{◌≡◌}
use mir.Syntax.{w32, w64}
use prog.Memory.{Memory}
use prog.Routine.{Routine}
use Rattle.state_rules.specs.Conditions.{Bytes, reset_checks_on, power_checks_on, attention_checks_on, step_checks_on, sweep_checks_on}
use Rattle.schedule_rules.specs.declared.ScheduleRow.{ScheduleRow}
use Rattle.processor_rules.specs.Lifting.{lifted_to}
use Rattle.processor_rules.specs.Processors.{processors, Memories, memories}
use Rattle.processor_calls.specs.Calls.{Reported, reported, attention_on_bytes, step_on_bytes, power_up_on_bytes, sweep_on_bytes, reset_on_bytes, schedule_on_bytes, pair_schedule}
use Rattle.processor_calls.specs.PairContracts.{PairContract, GoesToOne, NumbersOfOne}
use Rattle.processor_calls.proofs.Theorems as of-library
use Rattle.processor_calls.proofs.Theorems.{contract_of, number_of_answer, twelve_reported, schedule_checks_on}
use Rattle.processor_calls_c.proofs.iop89_pair_reset.Kinds as reset-kinds
use Rattle.processor_calls_c.proofs.iop89_pair_reset.Reads as reset-reads
use Rattle.processor_calls_c.proofs.iop89_pair_power_up.Reads as power-reads
use Rattle.processor_calls_c.proofs.iop89_pair_attention.Reads as attention-reads
use Rattle.processor_calls_c.proofs.iop89_pair_step.Reads as step-reads
use Rattle.processor_calls_c.proofs.iop89_pair_sweep.Reads as sweep-reads
use Rattle.processor_calls_c.proofs.iop89_pair_schedule.Kinds as schedule-kinds
use Rattle.processor_calls_c.proofs.iop89_pair_schedule.Reads as schedule-reads
use Rattle.processor_calls_c.specs.contracts.iop89_pair_schedule as schedule

-- ---- the contracts of the exported functions

abbrev pub power_contract : PairContract (List ℕ) ℕ
power_contract = contract_of [] w32 power-reads.Post (Unit {0}) (λ κs a. tt)

abbrev pub attention_contract : PairContract (List ℕ) ℕ
attention_contract = contract_of (p_num w32 ∷ []) w32 attention-reads.Post ℕ (λ κs a. a.0)

abbrev pub step_contract : PairContract (List ℕ) ℕ
step_contract = contract_of (p_num w32 ∷ []) w32 step-reads.Post ℕ (λ κs a. a.0)

abbrev pub sweep_contract : PairContract (List ℕ) ℕ
sweep_contract = contract_of (p_num w32 ∷ p_num w32 ∷ []) w64 sweep-reads.Post (ℕ × ℕ) (λ κs a. (a.0, a.1.0))

-- a reset that met its contract, beside any memories
pub record ResetMet : Type 0 where
  pub κs : Lfts 2
  pub a : Dens κs reset-kinds.ps
  pub r : (res_t reset-kinds.r κs).Denot
  pub e : AtExit (ended_of 2 reset-kinds.ps reset-kinds.r) κs
  pub met : reset-reads.Post κs a r e
  pub beside : Memories

abbrev pub reset_contract : PairContract (List ℕ) ℕ
reset_contract =
    record {
      Met = ResetMet;
      Rest = Unit {0};
      processor = λ x. x.a.0;
      states = λ x. processors x.a.1.0.now x.a.1.1.0.now;
      memory = λ x. x.beside;
      rest = λ x. tt;
      left = λ x. lifted_to x.r (processors x.e.1.0.now x.e.1.1.0.now) x.beside;
    }

-- a schedule that met its contract
pub record ScheduleMet : Type 0 where
  pub κs : Lfts 7
  pub a : Dens κs schedule-kinds.ps
  pub r : (res_t schedule-kinds.r κs).Denot
  pub e : AtExit (ended_of 7 schedule-kinds.ps schedule-kinds.r) κs
  pub met : schedule-reads.Post κs a r e

abbrev pub schedule_contract : PairContract (List ℕ) Reported
schedule_contract =
    record {
      Met = ScheduleMet;
      Rest = List ℕ × List ScheduleRow;
      processor = λ x. x.a.0;
      states = λ x. processors x.a.1.0.now x.a.1.1.0.now;
      memory = λ x. memories x.a.1.1.1.0.now x.a.1.1.1.1.0.now x.a.1.1.1.1.1.0.now;
      rest = λ x. (x.a.1.1.1.1.1.1.1.0.now, x.a.1.1.1.1.1.1.0.now);
      left = λ x.
          lifted_to (reported x.r x.e.1.1.1.1.1.1.1.0.now) (processors x.e.1.0.now x.e.1.1.0.now) (memories x.e.1.1.1.0.now x.e.1.1.1.1.0.now x.e.1.1.1.1.1.0.now);
    }

-- ---- each is the single call of the one named

pub power-goes : GoesToOne power_contract (λ _. 12) (λ _. power_up_on_bytes)
power-goes = of-library.power-goes

pub attention-goes : GoesToOne attention_contract (λ _. 12) attention_on_bytes
attention-goes = of-library.attention-goes

pub step-goes : GoesToOne step_contract (λ _. 12) step_on_bytes
step-goes = of-library.step-goes

pub sweep-goes : GoesToOne sweep_contract (λ _. 12) (λ c. sweep_on_bytes c.0 c.1)
sweep-goes = of-library.sweep-goes

-- a reset that met its contract met the library's
abbrev reset_met : ResetMet → of-library.ResetMet
reset_met x = record { κs = x.κs; a = x.a; r = x.r; e = x.e; met = x.met; beside = x.beside }

pub reset-goes : GoesToOne reset_contract (λ _. 12) (λ _. reset_on_bytes)
reset-goes =
    let all = of-library.reset-goes in
    record {
      kept = λ x. all.kept (reset_met x);
      own = λ x. all.own (reset_met x);
      same = λ x y. all.same (reset_met x) (reset_met y);
      none = λ x. all.none (reset_met x);
      one = λ x y. all.one (reset_met x) (reset_met y);
    }

-- what a schedule that met its contract left is the schedule of the rules, with each argument in its place
pub pair-schedule-told : (x : ScheduleMet)
    → schedule_contract.left x ≡ pair_schedule (schedule_contract.states x) (schedule_contract.memory x) (schedule_contract.rest x).0 (schedule_contract.processor x) (schedule_contract.rest x).1
pair-schedule-told x = x.met

-- and such a call is one of those that the library's theorems are about
abbrev schedule_met : ScheduleMet → of-library.PairScheduleMet
schedule_met x =
    record {
      processor = schedule_contract.processor x;
      states = schedule_contract.states x;
      memory = schedule_contract.memory x;
      words = (schedule_contract.rest x).0;
      rows = (schedule_contract.rest x).1;
      left = schedule_contract.left x;
      met = pair-schedule-told x;
    }

pub schedule-goes : GoesToOne schedule_contract twelve_reported (λ c. schedule_on_bytes c.0 c.1)
schedule-goes =
    let all = of-library.schedule-goes in
    record {
      kept = λ x. all.kept (schedule_met x);
      own = λ x. all.own (schedule_met x);
      same = λ x y. all.same (schedule_met x) (schedule_met y);
      none = λ x. all.none (schedule_met x);
      one = λ x y. all.one (schedule_met x) (schedule_met y);
    }

-- the clause of a schedule is that equation
pub schedule-clause : {M : Type 1} {𝓤 : Ura M} (𝓛 : Logic 𝓤) (mem : Memory → SProp 𝓤) (run : Routine → Fun 𝓤) (κs : Lfts 7) (a : Args schedule.signature κs)
    (r : Res schedule.signature κs) (e : AtExit schedule.ended κs) → (schedule.clauses 𝓛 mem run κs a).ensures tt r e
    ≡ fact 𝓤 (lifted_to (reported r e.1.1.1.1.1.1.1.0.now) (processors e.1.0.now e.1.1.0.now)
    (memories e.1.1.1.0.now e.1.1.1.1.0.now e.1.1.1.1.1.0.now)
    ≡ pair_schedule (processors a.1.0.now a.1.1.0.now) (memories a.1.1.1.0.now a.1.1.1.1.0.now a.1.1.1.1.1.0.now)
    a.1.1.1.1.1.1.1.0.now a.0 a.1.1.1.1.1.1.0.now)
schedule-clause 𝓛 mem run κs a r e = of-library.schedule-clause 𝓛 mem run κs a r e

-- ---- and has its numbers

pub power-numbers : NumbersOfOne power_contract number_of_answer (λ _ b m. power_checks_on b m) Bytes
power-numbers = of-library.power-numbers

pub attention-numbers : NumbersOfOne attention_contract number_of_answer (λ channel b m. attention_checks_on b m channel) Bytes
attention-numbers = of-library.attention-numbers

pub step-numbers : NumbersOfOne step_contract number_of_answer (λ lines b m. step_checks_on b m lines) Bytes
step-numbers = of-library.step-numbers

pub sweep-numbers : NumbersOfOne sweep_contract number_of_answer (λ c b m. sweep_checks_on b m c.0 c.1) Bytes
sweep-numbers = of-library.sweep-numbers

pub reset-numbers : NumbersOfOne reset_contract number_of_answer (λ _ b m. reset_checks_on b) (λ _. Unit {0})
reset-numbers =
    let all = of-library.reset-numbers in
    record { exactly = λ x. all.exactly (reset_met x); refused = λ x. all.refused (reset_met x) }

pub schedule-numbers : NumbersOfOne schedule_contract (λ (a : Reported). a.number) (λ c b m. schedule_checks_on b c.1) Bytes
schedule-numbers =
    let all = of-library.schedule-numbers in
    record { exactly = λ x. all.exactly (schedule_met x); refused = λ x. all.refused (schedule_met x) }
