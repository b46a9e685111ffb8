-- The contract of the version, as the code has it, determines its answer.
-- Assumes nothing.
use borrow.Fn.Kinds.{Dens, res_t, ended_of}
use contract.Lifetimes.{Lfts}
use denote.Triple.Clauses.{AtExit}
use mathlib.Core.Path.{◌≡◌, sym, ◌∙◌}
use Rattle.version_call.proofs.iop89_version.Kinds as version-kinds
use Rattle.version_call.proofs.iop89_version.Reads as version-reads

pub version-determined : (κs : Lfts 0) (a : Dens κs version-kinds.ps) (r q : (res_t version-kinds.r κs).Denot) (e f : AtExit (ended_of 0 version-kinds.ps version-kinds.r) κs)
    → version-reads.Post κs a r e → version-reads.Post κs a q f → r ≡ q
version-determined κs a r q e f p w = p ∙ sym w
