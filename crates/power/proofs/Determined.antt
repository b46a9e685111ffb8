-- The contract of the public call, as the code has it, determines its outcome: two outcomes that meet it are the same.
-- Assumes nothing.
use borrow.Fn.Kinds.{Dens, res_t, ended_of}
use contract.Lifetimes.{Lfts}
use denote.Triple.Clauses.{AtExit}
use mathlib.Core.Path.{◌≡◌, sym, ◌∙◌}
use Rattle.ground_rules.specs.Refusals.{outcome_by, answer_count}
use Rattle.ground_rules.specs.declared.State.{State}
use Rattle.ground_rules.specs.Buffers.{buffers}
use Rattle.power.proofs.power_up.Kinds as kinds
use Rattle.power.proofs.power_up.Reads as reads

pub power-determined : (κs : Lfts 2) (a : Dens κs kinds.ps) (r q : (res_t kinds.r κs).Denot) (e f : AtExit (ended_of 2 kinds.ps kinds.r) κs)
    → reads.Post κs a r e → reads.Post κs a q f
    → ((s : State) → outcome_by s r (buffers e.0.now e.1.0.now) ≡ outcome_by s q (buffers f.0.now f.1.0.now)) × (answer_count r ≡ answer_count q)
power-determined κs a r q e f p w = (λ s. p.0 s ∙ sym (w.0 s), p.1 ∙ sym w.1)
