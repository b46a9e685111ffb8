-- The contract of each public call here, as the code has it, determines its outcome: two outcomes that meet it are the same.
-- Assumes nothing.
use borrow.Fn.Kinds.{Dens, res_t, ended_of}
use contract.Lifetimes.{Lfts}
use denote.Triple.Clauses.{AtExit}
use Rattle.std.proofs.Common.{◌≡◌, sym, ◌∙◌}
use Rattle.ground_rules.specs.Buffers.{buffers}
use Rattle.ground_rules.specs.Refusals.{done_count}
use Rattle.execute.specs.Answers.{executed_by}
use Rattle.execute.proofs.execute.Kinds as execute-kinds
use Rattle.execute.proofs.execute.Reads as execute-reads

pub execute-determined : (κs : Lfts 2) (a : Dens κs execute-kinds.ps) (r q : (res_t execute-kinds.r κs).Denot) (e f : AtExit (ended_of 2 execute-kinds.ps execute-kinds.r) κs)
    → execute-reads.Post κs a r e → execute-reads.Post κs a q f → (executed_by a.0 r (buffers e.1.1.0.now e.1.1.1.0.now) ≡ executed_by a.0 q (buffers f.1.1.0.now f.1.1.1.0.now)) × (done_count r ≡ done_count q)
execute-determined κs a r q e f p w = (p.0 ∙ sym w.0, p.1 ∙ sym w.1)
