-- The outcome of each call is one: two that meet its contract, as the prover reads it from the source, are equal.
-- Assumes nothing.
use borrow.Fn.Kinds.{Dens, ended_of, res_t}
use contract.Lifetimes.{Lfts}
use denote.Triple.Clauses.{AtExit}
use mathlib.Core.Path.{◌≡◌, sym, ◌∙◌}
use Rattle.text_calls.proofs.iop89_load.Kinds as word-kinds
use Rattle.text_calls.proofs.iop89_load.Reads as word-reads

-- of the call for C: the word and every byte of system memory
pub word-one : (κs : Lfts 2) (a : Dens κs word-kinds.ps) (r s : (res_t word-kinds.r κs).Denot) (x y : AtExit (ended_of 2 word-kinds.ps word-kinds.r) κs)
    → word-reads.Post κs a r x → word-reads.Post κs a s y → (r ≡ s) × (x.1.0.now ≡ y.1.0.now)
word-one κs a r s x y p q =
    let e = p ∙ sym q in
    (λ i. (e i).answer, λ i. (e i).memory.sys)
