-- The contract of `trace`, as the code has it, determines its answer, the buffer with the text and the memory that it leaves.
-- Assumes nothing.
use Prim.Native.Nat.{ℕ}
use borrow.Fn.Kinds.{Dens, res_t, ended_of}
use contract.Lifetimes.{Lfts}
use denote.Triple.Clauses.{AtExit}
use mathlib.Core.List.{List}
use mathlib.Core.Path.{◌≡◌, refl, sym, ap, ◌∙◌}
use Rattle.std.proofs.Common.{Result, Ok, Err}
use Rattle.ground_rules.proofs.RefusalLaws.{number-positive, one-refusal}
use Rattle.ground_rules.specs.declared.Refusal.{Refusal}
use Rattle.ground_rules.specs.Refusals.{answered}
use Rattle.trace_text.proofs.trace.Kinds as trace-kinds
use Rattle.trace_text.proofs.trace.Reads as trace-reads
use Rattle.trace_text.specs.declared.Traced.{Traced}

-- two ends with one number are the same
one-end : (r q : Result Unit Refusal) → answered r ≡ answered q → r ≡ q
one-end (Ok done) (Ok done') e = refl
one-end (Ok done) (Err f) e = absurd (number-positive f (sym e))
one-end (Err f) (Ok done) e = absurd (number-positive f e)
one-end (Err f) (Err g) e = ap Err (one-refusal f g e)

-- the answers, the buffers and the memories of two outcomes are the same
pub record SameTrace (r q : Traced) (out out' sys sys' : List ℕ) : Type 0 where
  pub end : r.end ≡ q.end
  pub steps : r.steps ≡ q.steps
  pub count : r.count ≡ q.count
  pub text : out ≡ out'
  pub memory : sys ≡ sys'

pub trace-determined : (κs : Lfts 2) (a : Dens κs trace-kinds.ps) (r q : (res_t trace-kinds.r κs).Denot) (e f : AtExit (ended_of 2 trace-kinds.ps trace-kinds.r) κs)
    → trace-reads.Post κs a r e → trace-reads.Post κs a q f → SameTrace r q e.1.0.now f.1.0.now e.0.now f.0.now
trace-determined κs a r q e f p w =
    record {
      end = one-end r.end q.end (p.1.0 ∙ sym w.1.0);
      steps = p.1.1 ∙ sym w.1.1;
      count = p.0.size ∙ sym w.0.size;
      text = p.0.bytes ∙ sym w.0.bytes;
      memory = p.1.2 ∙ sym w.1.2;
    }
