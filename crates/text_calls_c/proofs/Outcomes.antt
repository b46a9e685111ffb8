-- The outcome of the exported load is one, so two that meet its contract, the one that the prover made, are equal: by the theorem of text_calls.
-- Assumes nothing.
use borrow.Fn.Kinds.{Dens, ended_of, res_t}
use contract.Lifetimes.{Lfts}
use denote.Triple.Clauses.{AtExit}
use mathlib.Core.Path.{◌≡◌}
use Rattle.text_calls.proofs.Outcomes as of-library
use Rattle.text_calls_c.proofs.iop89_load.Kinds as word-kinds
use Rattle.text_calls_c.proofs.iop89_load.Reads as word-reads

-- of the call for C: the word and every byte of system memory
pub word-one : (κs : Lfts 2) (a : Dens κs word-kinds.ps) (r s : (res_t word-kinds.r κs).Denot) (x y : AtExit (ended_of 2 word-kinds.ps word-kinds.r) κs)
    → word-reads.Post κs a r x → word-reads.Post κs a s y → (r ≡ s) × (x.1.0.now ≡ y.1.0.now)
word-one κs a r s x y p q = of-library.word-one κs a r s x y p q
