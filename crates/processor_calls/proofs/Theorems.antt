-- What is promised of the calls on two processors, of each function's own contract, the one that the prover made: it is the single call of the one named, and its
-- numbers are that call's behind 12 for the processor.
-- Assumes nothing.
use Prim.Native.Nat.{ℕ, ◌%◌}
use base.Logic.{SProp}
use borrow.Fn.Kinds.{ParamKind, p_num, r_num, Out, Dens, res_t, ended_of}
use borrow.Kind.MutSlice.{p_mut_s}
use borrow.Table.Referent.{rt_f, f_int}
use contract.Lifetimes.{Lfts}
use contract.Monad.{Fun, fact}
use denote.Triple.Clauses.{AtExit}
use denote.Triple.Entry.{Args, Res}
use types.Logic.{Logic}
use seplogic.Ra.Ura.{Ura}
use lib.Dec.{eqb}
use lib.ListN.{length}
use mathlib.Core.Bool.{Bool, true, false}
use mathlib.Core.List.{List, [], ◌∷◌}
use mathlib.Core.Logic.{◌↔◌}
use mathlib.Core.Path.{◌≡◌, refl, ap, ◌∙◌}
use mir.Syntax.{Width, w8, w32, w64}
use prog.Memory.{Memory}
use prog.Routine.{Routine}
use Rattle.ground_rules.specs.Choice.{pick}
use Rattle.ground_rules.specs.Buffers.{Buffers}
use Rattle.ground_rules.specs.Conditions.{Check, check, Given}
use Rattle.ground_rules.specs.States.{reset_state}
use Rattle.state_rules.proofs.ForthLaws.{bytes_back}
use Rattle.state_rules.proofs.NumberLaws.{told-state, told-17, reset-given, power-given-on, attention-given, step_given, sweep-given-on}
use Rattle.service.proofs.OutcomeLaws.{Kept, power-kept, attention-kept, step_kept, sweep-kept}
use Rattle.state_rules.specs.Calls.{made, answer_from, reset_made}
use Rattle.state_rules.specs.Conditions.{NoState, Bytes, reset_checks_on, power_checks_on, attention_checks_on, step_checks_on, sweep_checks_on}
use Rattle.state_rules.specs.Layout.{bytes_of, state_in, is_state, state_length}
use Rattle.schedule_rules.specs.Conditions.{schedule_checks}
use Rattle.schedule_rules.specs.Reports.{Scheduled, schedule_of}
use Rattle.schedule_rules.specs.Rows.{Bench, bench}
use Rattle.schedule_rules.specs.declared.ScheduleRow.{ScheduleRow}
use Rattle.schedule_calls.specs.Calls.{schedule_left, no_schedule, schedule_served}
use Rattle.schedule_calls.specs.Turns.{standing}
use Rattle.processor_rules.proofs.LiftLaws.{Stays}
use Rattle.processor_rules.proofs.SixLaws.{schedule-stays}
use Rattle.schedule_rules.proofs.ScheduleLaws.{schedule-given}
use Rattle.processor_rules.specs.Lifting.{Lifted, lifted_to}
use Rattle.processor_rules.specs.Processors.{Processors, processors, Memories, memories}
use Rattle.processor_calls.specs.Calls.{Reported, reported, zeros_over, attention_on_bytes, step_on_bytes, power_up_on_bytes, sweep_on_bytes, reset_on_bytes, schedule_on_bytes, pair_reset, pair_power_up, pair_attention, pair_step, pair_sweep, pair_schedule}
use Rattle.processor_calls.specs.PairContracts.{PairContract, IsLifted, GoesToOne, NumbersOfOne}
use Rattle.processor_calls.proofs.ContractLaws.{goes-to-one, numbers-of-one}
use Rattle.processor_calls.proofs.iop89_pair_reset.Kinds as reset-kinds
use Rattle.processor_calls.proofs.iop89_pair_reset.Reads as reset-reads
use Rattle.processor_calls.proofs.iop89_pair_power_up.Reads as power-reads
use Rattle.processor_calls.proofs.iop89_pair_attention.Reads as attention-reads
use Rattle.processor_calls.proofs.iop89_pair_step.Reads as step-reads
use Rattle.processor_calls.proofs.iop89_pair_sweep.Reads as sweep-reads
use Rattle.processor_calls.specs.contracts.iop89_pair_schedule as schedule

-- ---- the contracts of the calls that take all five slices, and what else they take

-- the parameters: the processor, both states, system memory, both I/O memories, and the rest
abbrev pub with-five : List (ParamKind 5) → List (ParamKind 5)
with-five rest =
    p_num w32 ∷ p_mut_s (rt_f (f_int w8)) 0 tt ∷ p_mut_s (rt_f (f_int w8)) 1 tt ∷ p_mut_s (rt_f (f_int w8)) 2 tt ∷ p_mut_s (rt_f (f_int w8)) 3 tt ∷ p_mut_s (rt_f (f_int w8)) 4 tt ∷ rest

module _ (rest : List (ParamKind 5)) (w : Width) (post : Out 5 (with-five rest) (r_num w)) (X : Type 0) (read : (κs : Lfts 5) → Dens κs rest → X) where
  -- a call that met the contract
  pub record CallMet : Type 0 where
    pub κs : Lfts 5
    pub a : Dens κs (with-five rest)
    pub r : (res_t {n = 5} (r_num w) κs).Denot
    pub e : AtExit (ended_of 5 (with-five rest) (r_num w)) κs
    pub met : post κs a r e

  -- the contract, with what is read of such a call
  abbrev pub contract_of : PairContract (List ℕ) ℕ
  contract_of =
      record {
        Met = CallMet;
        Rest = X;
        processor = λ x. x.a.0;
        states = λ x. processors x.a.1.0.now x.a.1.1.0.now;
        memory = λ x. memories x.a.1.1.1.0.now x.a.1.1.1.1.0.now x.a.1.1.1.1.1.0.now;
        rest = λ x. read x.κs x.a.1.1.1.1.1.1;
        left = λ x.
            lifted_to x.r (processors x.e.1.0.now x.e.1.1.0.now) (memories x.e.1.1.1.0.now x.e.1.1.1.1.0.now x.e.1.1.1.1.1.0.now);
      }

abbrev pub power_contract : PairContract (List ℕ) ℕ
power_contract = contract_of [] w32 power-reads.Post (Unit {0}) (λ κs a. tt)

abbrev pub attention_contract : PairContract (List ℕ) ℕ
attention_contract = contract_of (p_num w32 ∷ []) w32 attention-reads.Post ℕ (λ κs a. a.0)

abbrev pub step_contract : PairContract (List ℕ) ℕ
step_contract = contract_of (p_num w32 ∷ []) w32 step-reads.Post ℕ (λ κs a. a.0)

abbrev pub sweep_contract : PairContract (List ℕ) ℕ
sweep_contract = contract_of (p_num w32 ∷ p_num w32 ∷ []) w64 sweep-reads.Post (ℕ × ℕ) (λ κs a. (a.0, a.1.0))

-- ---- that of a reset, which takes the states alone

-- a call that met it, beside any memories
pub record ResetMet : Type 0 where
  pub κs : Lfts 2
  pub a : Dens κs reset-kinds.ps
  pub r : (res_t reset-kinds.r κs).Denot
  pub e : AtExit (ended_of 2 reset-kinds.ps reset-kinds.r) κs
  pub met : reset-reads.Post κs a r e
  pub beside : Memories

abbrev pub reset_contract : PairContract (List ℕ) ℕ
reset_contract =
    record {
      Met = ResetMet;
      Rest = Unit {0};
      processor = λ x. x.a.0;
      states = λ x. processors x.a.1.0.now x.a.1.1.0.now;
      memory = λ x. x.beside;
      rest = λ x. tt;
      left = λ x. lifted_to x.r (processors x.e.1.0.now x.e.1.1.0.now) x.beside;
    }

-- ---- each is the single call of the one named

power-lifted : IsLifted power_contract (λ _. 12) (λ _. power_up_on_bytes)
unfolding pair_power_up
power-lifted = record { is = λ x. x.met }

pub power-goes : GoesToOne power_contract (λ _. 12) (λ _. power_up_on_bytes)
power-goes = goes-to-one power-lifted

attention-lifted : IsLifted attention_contract (λ _. 12) attention_on_bytes
unfolding pair_attention
attention-lifted = record { is = λ x. x.met }

pub attention-goes : GoesToOne attention_contract (λ _. 12) attention_on_bytes
attention-goes = goes-to-one attention-lifted

step-lifted : IsLifted step_contract (λ _. 12) step_on_bytes
unfolding pair_step
step-lifted = record { is = λ x. x.met }

pub step-goes : GoesToOne step_contract (λ _. 12) step_on_bytes
step-goes = goes-to-one step-lifted

sweep-lifted : IsLifted sweep_contract (λ _. 12) (λ c. sweep_on_bytes c.0 c.1)
unfolding pair_sweep
sweep-lifted = record { is = λ x. x.met }

pub sweep-goes : GoesToOne sweep_contract (λ _. 12) (λ c. sweep_on_bytes c.0 c.1)
sweep-goes = goes-to-one sweep-lifted

reset-lifted : IsLifted reset_contract (λ _. 12) (λ _. reset_on_bytes)
unfolding pair_reset
reset-lifted = record { is = λ x. x.met x.beside }

pub reset-goes : GoesToOne reset_contract (λ _. 12) (λ _. reset_on_bytes)
reset-goes = goes-to-one reset-lifted

-- ---- and has its numbers

-- the number in an answer: its bits 0 to 7
abbrev pub number_of_answer : ℕ → ℕ
number_of_answer answer = answer % 256

pub power-numbers : NumbersOfOne power_contract number_of_answer (λ _ b m. power_checks_on b m) Bytes
unfolding Kept
power-numbers =
    numbers-of-one power-lifted number_of_answer (λ _ b m. power_checks_on b m) Bytes (λ _. refl)
    (λ _ b m n. power-given-on b m n) (λ _ b m byte. power-kept b byte m)

pub attention-numbers : NumbersOfOne attention_contract number_of_answer (λ channel b m. attention_checks_on b m channel) Bytes
unfolding Kept
attention-numbers =
    numbers-of-one attention-lifted number_of_answer (λ channel b m. attention_checks_on b m channel) Bytes (λ _. refl)
    (λ channel b m n. attention-given b m channel n) (λ channel b m byte. attention-kept b byte m channel)

pub step-numbers : NumbersOfOne step_contract number_of_answer (λ lines b m. step_checks_on b m lines) Bytes
unfolding Kept
step-numbers =
    numbers-of-one step-lifted number_of_answer (λ lines b m. step_checks_on b m lines) Bytes (λ _. refl)
    (λ lines b m n. step_given b m lines n) (λ lines b m byte. step_kept b byte m lines)

pub sweep-numbers : NumbersOfOne sweep_contract number_of_answer (λ c b m. sweep_checks_on b m c.0 c.1) Bytes
unfolding Kept
sweep-numbers =
    numbers-of-one sweep-lifted number_of_answer (λ c b m. sweep_checks_on b m c.0 c.1) Bytes (λ _. refl)
    (λ c b m n. sweep-given-on b m c.0 c.1 n) (λ c b m byte. sweep-kept b byte m c.0 c.1)

-- a reset that gives a number leaves any bytes
reset-stays : (b : List ℕ) (m : Buffers) → ¬ (number_of_answer (reset_made b).answer ≡ 0) → Stays reset_on_bytes b m
unfolding reset_made answer_from
reset-stays b m = go (eqb (length b) state_length)
  where
    go : (ok : Bool) → let o = pick ok (made 0 (bytes_of reset_state)) (made 17 b) in ¬ (number_of_answer o.answer ≡ 0) → (o.bytes ≡ b) × (m ≡ m)
    go true h = absurd (h refl)
    go false h = (refl, refl)

pub reset-numbers : NumbersOfOne reset_contract number_of_answer (λ _ b m. reset_checks_on b) (λ _. Unit {0})
reset-numbers =
    numbers-of-one reset-lifted number_of_answer (λ _ b m. reset_checks_on b) (λ _. Unit {0}) (λ _. refl)
    (λ _ b m n. reset-given b n) (λ _ b m _. reset-stays b m)

-- ---- a schedule: what its contract says of a call is an equation, and that is what is read of it

-- a call that met it
pub record PairScheduleMet : Type 0 where
  pub processor : ℕ
  pub states : Processors (List ℕ)
  pub memory : Memories
  pub words : List ℕ
  pub rows : List ScheduleRow
  pub left : Lifted (List ℕ) Reported
  pub met : left ≡ pair_schedule states memory words processor rows

-- what the contract says of a call is that equation
pub schedule-clause : {M : Type 1} {𝓤 : Ura M} (𝓛 : Logic 𝓤) (mem : Memory → SProp 𝓤) (run : Routine → Fun 𝓤) (κs : Lfts 7) (a : Args schedule.signature κs)
    (r : Res schedule.signature κs) (e : AtExit schedule.ended κs) → (schedule.clauses 𝓛 mem run κs a).ensures tt r e
    ≡ fact 𝓤 (lifted_to (reported r e.1.1.1.1.1.1.1.0.now) (processors e.1.0.now e.1.1.0.now)
    (memories e.1.1.1.0.now e.1.1.1.1.0.now e.1.1.1.1.1.0.now)
    ≡ pair_schedule (processors a.1.0.now a.1.1.0.now) (memories a.1.1.1.0.now a.1.1.1.1.0.now a.1.1.1.1.1.0.now)
    a.1.1.1.1.1.1.1.0.now a.0 a.1.1.1.1.1.1.0.now)
schedule-clause 𝓛 mem run κs a r e = refl

abbrev pub schedule_contract : PairContract (List ℕ) Reported
schedule_contract =
    record {
      Met = PairScheduleMet;
      Rest = List ℕ × List ScheduleRow;
      processor = λ x. x.processor;
      states = λ x. x.states;
      memory = λ x. x.memory;
      rest = λ x. (x.words, x.rows);
      left = λ x. x.left;
    }

-- the answer that stands for 12: a report of zeros
abbrev pub twelve_reported : List ℕ × List ScheduleRow → Reported
twelve_reported c = reported 12 (zeros_over c.0)

schedule-lifted : IsLifted schedule_contract twelve_reported (λ c. schedule_on_bytes c.0 c.1)
unfolding pair_schedule
schedule-lifted = record { is = λ x. x.met }

pub schedule-goes : GoesToOne schedule_contract twelve_reported (λ c. schedule_on_bytes c.0 c.1)
schedule-goes = goes-to-one schedule-lifted

-- the checks of a schedule on bytes: 17, then 16
abbrev pub schedule_checks_on : List ℕ → List ScheduleRow → List Check
schedule_checks_on b rows = check 17 (NoState b) ∷ schedule_checks rows

module _ (words : List ℕ) (rows : List ScheduleRow) (b : List ℕ) (m : Buffers) where
  -- the schedule of the state that the bytes stand for
  abbrev ran : Scheduled
  ran = schedule_of (bench (state_in b) m) rows

  schedule-given-on : (n : ℕ) → ((schedule_on_bytes words rows b m).answer.number ≡ n) ↔ Given (schedule_checks_on b rows) n
  unfolding schedule_served
  schedule-given-on n =
      told-17 (is_state b) n ran.number (schedule_on_bytes words rows b m).answer.number (told-state b) (part (is_state b)) (schedule-given (bench (state_in b) m) rows n)
    where
      part : (ok : Bool) → (pick ok (schedule_left ran words) (no_schedule (standing b m words))).answer ≡ pick ok ran.number 17
      part true = refl
      part false = refl

  -- one that gives a number leaves bytes that are such
  schedule-stays-on : Bytes b → ¬ ((schedule_on_bytes words rows b m).answer.number ≡ 0) → Stays (schedule_on_bytes words rows) b m
  unfolding schedule_served
  schedule-stays-on byte = go (is_state b) refl
    where
      go : (ok : Bool) → is_state b ≡ ok → let o = pick ok (schedule_left ran words) (no_schedule (standing b m words)) in
          ¬ (o.answer ≡ 0) → (o.left.bytes ≡ b) × (o.left.memory ≡ m)
      go true is h =
          let same = schedule-stays (bench (state_in b) m) rows h in
          (ap (λ (x : Bench). bytes_of x.state) same ∙ bytes_back b byte is, ap (λ (x : Bench). x.memory) same)
      go false is h = (refl, refl)

pub schedule-numbers : NumbersOfOne schedule_contract (λ (a : Reported). a.number) (λ c b m. schedule_checks_on b c.1) Bytes
schedule-numbers =
    numbers-of-one schedule-lifted (λ (a : Reported). a.number) (λ c b m. schedule_checks_on b c.1) Bytes (λ _. refl)
    (λ c b m n. schedule-given-on c.0 c.1 b m n) (λ c b m. schedule-stays-on c.0 c.1 b m)
