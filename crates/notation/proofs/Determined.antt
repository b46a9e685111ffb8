-- The contract of each public function here, as the prover made it of the source, determines what it answers: two answers that meet it are the same, of a line its length and its characters up to there.
-- Assumes nothing.
use borrow.Fn.Kinds.{Dens, res_t, ended_of}
use contract.Lifetimes.{Lfts}
use denote.Triple.Clauses.{AtExit}
use mathlib.Core.Path.{◌≡◌, sym, ap, ◌∙◌}
use lib.ListN.{length}
use Rattle.notation.specs.Writing.{text_in}
use Rattle.notation.proofs.lines.listed.Kinds as listed-kinds
use Rattle.notation.proofs.lines.listed.Reads as listed-reads
use Rattle.notation.proofs.lines.instruction_line.Kinds as instruction-line-kinds
use Rattle.notation.proofs.lines.instruction_line.Reads as instruction-line-reads
use Rattle.notation.proofs.lines.data_line.Kinds as data-line-kinds
use Rattle.notation.proofs.lines.data_line.Reads as data-line-reads

pub listed-determined : (κs : Lfts 0) (a : Dens κs listed-kinds.ps) (r q : (res_t listed-kinds.r κs).Denot) (e f : AtExit (ended_of 0 listed-kinds.ps listed-kinds.r) κs)
    → listed-reads.Post κs a r e → listed-reads.Post κs a q f → r ≡ q
listed-determined κs a r q e f p w = p ∙ sym w

pub instruction-line-determined : (κs : Lfts 1) (a : Dens κs instruction-line-kinds.ps) (r q : (res_t instruction-line-kinds.r κs).Denot) (e f : AtExit (ended_of 1 instruction-line-kinds.ps instruction-line-kinds.r) κs)
    → instruction-line-reads.Post κs a r e → instruction-line-reads.Post κs a q f → (text_in r ≡ text_in q) × (r.len ≡ q.len)
instruction-line-determined κs a r q e f p w = let t = p.0 ∙ sym w.0 in (t, p.1 ∙ ap length t ∙ sym w.1)

pub data-line-determined : (κs : Lfts 1) (a : Dens κs data-line-kinds.ps) (r q : (res_t data-line-kinds.r κs).Denot) (e f : AtExit (ended_of 1 data-line-kinds.ps data-line-kinds.r) κs)
    → data-line-reads.Post κs a r e → data-line-reads.Post κs a q f → (text_in r ≡ text_in q) × (r.len ≡ q.len)
data-line-determined κs a r q e f p w = let t = p.0 ∙ sym w.0 in (t, p.1 ∙ ap length t ∙ sym w.1)
