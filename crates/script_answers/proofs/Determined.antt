-- The contract of `perform`, as the code has it, determines the machine that a line's call leaves, whether it was made and why not, and the buffer with the text.
-- Assumes nothing.
use Prim.Native.Nat.{ℕ}
use borrow.Fn.Kinds.{Dens, res_t, ended_of}
use contract.Lifetimes.{Lfts}
use denote.Triple.Clauses.{AtExit}
use mathlib.Core.List.{List}
use mathlib.Core.Path.{◌≡◌, sym, ◌∙◌}
use Rattle.ground_rules.specs.declared.State.{State}
use Rattle.ground_rules.specs.Buffers.{Buffers, buffers}
use Rattle.script_answers.specs.Machine.{machine}
use Rattle.script_answers.specs.declared.Performed.{Performed}
use Rattle.script_answers.proofs.perform.Kinds as perform-kinds
use Rattle.script_answers.proofs.perform.Reads as perform-reads

-- the machines, whether the call was made or why not, and the texts of two outcomes are the same
pub record SamePerformed (r q : Performed) (s s' : State) (m m' : Buffers) (out out' : List ℕ) : Type 0 where
  pub machines : machine s m ≡ machine s' m'
  pub made : r.made ≡ q.made
  pub count : r.count ≡ q.count
  pub text : out ≡ out'

pub perform-determined : (κs : Lfts 5) (a : Dens κs perform-kinds.ps) (r q : (res_t perform-kinds.r κs).Denot) (e f : AtExit (ended_of 5 perform-kinds.ps perform-kinds.r) κs)
    → perform-reads.Post κs a r e → perform-reads.Post κs a q f
    → SamePerformed r q e.0.now f.0.now (buffers e.1.1.1.0.now e.1.1.1.1.0.now) (buffers f.1.1.1.0.now f.1.1.1.1.0.now) e.1.1.1.1.1.0.now f.1.1.1.1.1.0.now
perform-determined κs a r q e f p w =
    record { machines = p.0 ∙ sym w.0; made = p.1.0 ∙ sym w.1.0; count = p.1.1.size ∙ sym w.1.1.size; text = p.1.1.bytes ∙ sym w.1.1.bytes }
