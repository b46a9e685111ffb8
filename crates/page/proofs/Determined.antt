-- The contracts of the public functions, as the code has them, determine the buffer and how much of it is text.
-- Assumes nothing.
use borrow.Fn.Kinds.{Dens, res_t, ended_of}
use contract.Lifetimes.{Lfts}
use denote.Triple.Clauses.{AtExit}
use mathlib.Core.Path.{◌≡◌, sym, ◌∙◌}
use Rattle.page.specs.Pages.{sheet}
use Rattle.page.proofs.Page.append.Kinds as append-kinds
use Rattle.page.proofs.Page.append.Reads as append-reads
use Rattle.page.proofs.Page.append_decimal.Kinds as decimal-kinds
use Rattle.page.proofs.Page.append_decimal.Reads as decimal-reads
use Rattle.page.proofs.Page.append_hex.Kinds as hex-kinds
use Rattle.page.proofs.Page.append_hex.Reads as hex-reads

pub append-determined : (κs : Lfts 3) (a : Dens κs append-kinds.ps) (r q : (res_t append-kinds.r κs).Denot) (e f : AtExit (ended_of 3 append-kinds.ps append-kinds.r) κs)
    → append-reads.Post κs a r e → append-reads.Post κs a q f → sheet e.0.now ≡ sheet f.0.now
append-determined κs a r q e f p w = p.0 ∙ sym w.0

pub append-hex-determined : (κs : Lfts 2) (a : Dens κs hex-kinds.ps) (r q : (res_t hex-kinds.r κs).Denot) (e f : AtExit (ended_of 2 hex-kinds.ps hex-kinds.r) κs)
    → hex-reads.Post κs a r e → hex-reads.Post κs a q f → sheet e.0.now ≡ sheet f.0.now
append-hex-determined κs a r q e f p w = p.0 ∙ sym w.0

pub append-decimal-determined : (κs : Lfts 2) (a : Dens κs decimal-kinds.ps) (r q : (res_t decimal-kinds.r κs).Denot) (e f : AtExit (ended_of 2 decimal-kinds.ps decimal-kinds.r) κs)
    → decimal-reads.Post κs a r e → decimal-reads.Post κs a q f → sheet e.0.now ≡ sheet f.0.now
append-decimal-determined κs a r q e f p w = p.0 ∙ sym w.0
