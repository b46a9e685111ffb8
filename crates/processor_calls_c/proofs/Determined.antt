-- The contract of the exported version, the one that the prover made, determines its answer: by the theorem of processor_calls.
-- Assumes nothing.
use borrow.Fn.Kinds.{Dens, res_t, ended_of}
use contract.Lifetimes.{Lfts}
use denote.Triple.Clauses.{AtExit}
use mathlib.Core.Path.{◌≡◌}
use Rattle.processor_calls.proofs.Determined as of-library
use Rattle.processor_calls_c.proofs.iop89_service_version.Kinds as version-kinds
use Rattle.processor_calls_c.proofs.iop89_service_version.Reads as version-reads

pub version-determined : (κs : Lfts 0) (a : Dens κs version-kinds.ps) (r q : (res_t version-kinds.r κs).Denot) (e f : AtExit (ended_of 0 version-kinds.ps version-kinds.r) κs)
    → version-reads.Post κs a r e → version-reads.Post κs a q f → r ≡ q
version-determined κs a r q e f p w = of-library.version-determined κs a r q e f p w
