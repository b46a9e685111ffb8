-- The bytes of a state as rows of calls from C leave them.
use borrow.Fn.Kinds.{Dens, res_t, ended_of}
use contract.Lifetimes.{Lfts}
use denote.Triple.Clauses.{AtExit}
use Rattle.std.specs.Prelude.{length, List, ◌≡◌, ℕ, ◌%◌}
use Rattle.state_rules.specs.Layout.{state_length}
use Rattle.processor_calls.proofs.single.iop89_fresh.Kinds as fresh-kinds
use Rattle.processor_calls.proofs.single.iop89_fresh.Reads as fresh-reads
use Rattle.processor_calls.proofs.single.iop89_power_up.Kinds as power-kinds
use Rattle.processor_calls.proofs.single.iop89_power_up.Reads as power-reads
use Rattle.processor_calls.proofs.single.iop89_attention.Kinds as attention-kinds
use Rattle.processor_calls.proofs.single.iop89_attention.Reads as attention-reads
use Rattle.processor_calls.proofs.single.iop89_step.Kinds as step-kinds
use Rattle.processor_calls.proofs.single.iop89_step.Reads as step-reads

-- what `iop89_fresh` leaves in a buffer of a state's length, what a done `iop89_power_up` leaves, and what any `iop89_attention` or `iop89_step`, refused or not, leaves of such bytes: each by
-- its own contract, whatever memories it was lent
pub data LeftByCalls : List ℕ → Type 0 where
  fresh : (κs : Lfts 1) (a : Dens κs fresh-kinds.ps) (r : (res_t fresh-kinds.r κs).Denot) (e : AtExit (ended_of 1 fresh-kinds.ps fresh-kinds.r) κs) → fresh-reads.Post κs a r e
      → length a.0.now ≡ state_length → LeftByCalls e.0.now
  power : (κs : Lfts 3) (a : Dens κs power-kinds.ps) (r : (res_t power-kinds.r κs).Denot) (e : AtExit (ended_of 3 power-kinds.ps power-kinds.r) κs) → power-reads.Post κs a r e
      → r % 256 ≡ 0 → LeftByCalls e.0.now
  attention : (κs : Lfts 3) (a : Dens κs attention-kinds.ps) (r : (res_t attention-kinds.r κs).Denot) (e : AtExit (ended_of 3 attention-kinds.ps attention-kinds.r) κs) → attention-reads.Post κs a r e
      → LeftByCalls a.0.now → LeftByCalls e.0.now
  step : (κs : Lfts 3) (a : Dens κs step-kinds.ps) (r : (res_t step-kinds.r κs).Denot) (e : AtExit (ended_of 3 step-kinds.ps step-kinds.r) κs) → step-reads.Post κs a r e
      → LeftByCalls a.0.now → LeftByCalls e.0.now
