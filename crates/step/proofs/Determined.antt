-- The contract of each public call here, as the code has it, determines its outcome: two outcomes that meet it are the same.
-- Assumes nothing.
use borrow.Fn.Kinds.{Dens, res_t, ended_of}
use contract.Lifetimes.{Lfts}
use denote.Triple.Clauses.{AtExit}
use Rattle.std.proofs.Common.{◌≡◌, ℕ, refl, sym, ap, ◌∙◌, Result, Ok, Err}
use Rattle.ground_rules.specs.Buffers.{Buffers, buffers, lent}
use Rattle.ground_rules.specs.declared.Channel.{Channel}
use Rattle.step.specs.declared.Turn.{Turn}
use Rattle.step.specs.declared.RefusedTurn.{RefusedTurn}
use Rattle.ground_rules.specs.Outcomes.{counted}
use Rattle.turn_rules.specs.Step.{stepped_by, stepped_count}
use Rattle.step.specs.Turns.{Taken, taken, turn_count, turn_number, turn_touched}
use Rattle.step.proofs.channel_turn.Kinds as turn-kinds
use Rattle.step.proofs.channel_turn.Reads as turn-reads
use Rattle.step.proofs.turns.choose.Kinds as choose-kinds
use Rattle.step.proofs.turns.choose.Reads as choose-reads
use Rattle.step.proofs.step.Kinds as step-kinds
use Rattle.step.proofs.step.Reads as step-reads

pub choose-determined : (κs : Lfts 0) (a : Dens κs choose-kinds.ps) (r q : (res_t choose-kinds.r κs).Denot) (e f : AtExit (ended_of 0 choose-kinds.ps choose-kinds.r) κs)
    → choose-reads.Post κs a r e → choose-reads.Post κs a q f → r ≡ q
choose-determined κs a r q e f p w = p ∙ sym w

pub step-determined : (κs : Lfts 2) (a : Dens κs step-kinds.ps) (r q : (res_t step-kinds.r κs).Denot) (e f : AtExit (ended_of 2 step-kinds.ps step-kinds.r) κs)
    → step-reads.Post κs a r e → step-reads.Post κs a q f → (stepped_by a.0 r (buffers e.1.0.now e.1.1.0.now) ≡ stepped_by a.0 q (buffers f.1.0.now f.1.1.0.now)) × (stepped_count r ≡ stepped_count q)
step-determined κs a r q e f p w = (p.0 ∙ sym w.0, p.1 ∙ sym w.1)

-- the number of a turn is that of what it leaves
numbered : (c : Channel) (r : Result Turn RefusedTurn) (m : Buffers) → turn_number r ≡ (taken c r m).number
numbered c (Ok t) m = refl
numbered c (Err refused) m = refl

pub channel-turn-determined : (κs : Lfts 2) (a : Dens κs turn-kinds.ps) (r q : (res_t turn-kinds.r κs).Denot) (e f : AtExit (ended_of 2 turn-kinds.ps turn-kinds.r) κs)
    → turn-reads.Post κs a r e → turn-reads.Post κs a q f → (taken a.1.1.0 r (buffers e.1.1.1.0.now e.1.1.1.1.0.now) ≡ taken a.1.1.0 q (buffers f.1.1.1.0.now f.1.1.1.1.0.now)) × (turn_count r ≡ turn_count q)
channel-turn-determined κs a r q e f p w =
    let same = p.0 ∙ sym w.0 in (
      same,
      p.1 ∙ ap (λ (n : ℕ). counted n (turn_touched a.1.1.0 a.0 (lent a.1.1.1.0.now a.1.1.1.1.0.now) a.1.0))
          (numbered a.1.1.0 r (buffers e.1.1.1.0.now e.1.1.1.1.0.now) ∙ ap (λ (x : Taken). x.number) same ∙ sym (numbered a.1.1.0 q (buffers f.1.1.1.0.now f.1.1.1.1.0.now)))
          ∙ sym w.1,
    )
