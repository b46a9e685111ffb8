-- The contract of each public call here, as the code has it, determines its outcome: two outcomes that meet it are the same.
-- Assumes nothing.
use borrow.Fn.Kinds.{Dens, res_t, ended_of}
use contract.Lifetimes.{Lfts}
use denote.Triple.Clauses.{AtExit}
use mathlib.Core.Path.{◌≡◌, sym, ◌∙◌}
use Rattle.ground_rules.specs.Buffers.{buffers}
use Rattle.ground_rules.specs.Refusals.{outcome_by, answer_count}
use Rattle.attention.proofs.attention.Kinds as attention-kinds
use Rattle.attention.proofs.attention.Reads as attention-reads

pub attention-determined : (κs : Lfts 2) (a : Dens κs attention-kinds.ps) (r q : (res_t attention-kinds.r κs).Denot) (e f : AtExit (ended_of 2 attention-kinds.ps attention-kinds.r) κs)
    → attention-reads.Post κs a r e → attention-reads.Post κs a q f → (outcome_by a.0 r (buffers e.1.0.now e.1.1.0.now) ≡ outcome_by a.0 q (buffers f.1.0.now f.1.1.0.now)) × (answer_count r ≡ answer_count q)
attention-determined κs a r q e f p w = (p.0 ∙ sym w.0, p.1 ∙ sym w.1)
