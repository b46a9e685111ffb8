-- The outcome of each call is one: two that meet its contract, as the prover reads it from the source, are equal.
-- Assumes nothing.
use Prim.Native.Nat.{ℕ}
use borrow.Fn.Kinds.{Dens, ended_of, res_t}
use contract.Lifetimes.{Lfts}
use denote.Triple.Clauses.{AtExit}
use lib.Dec.{eqb}
use mathlib.Core.Path.{◌≡◌, refl, sym, ap, ◌∙◌}
use Rattle.std.specs.Prelude.{Result, Ok, Err}
use Rattle.ground_rules.specs.Buffers.{Buffers}
use Rattle.ground_rules.specs.Choice.{pick}
use Rattle.prom_rules.specs.Load.{Loading}
use Rattle.prom.specs.Refusals.{reason_number, loading_by}
use Rattle.prom.specs.declared.refusals.LoadRefusal.{LoadRefusal}
use Rattle.prom.specs.declared.refusals.Reason.{Reason}
use Rattle.prom.specs.declared.refusals.Reason.TheVariants.{BeyondMemory, LongMemory, NoRecord, WrongSum, WrongType, NoEnd}
use Rattle.prom.proofs.loads.load.Kinds as load-kinds
use Rattle.prom.proofs.loads.load.Reads as load-reads

-- the reason with a number
reason : ℕ → Reason
reason n = pick (eqb n 2) BeyondMemory (pick (eqb n 11) LongMemory (pick (eqb n 20) NoRecord (pick (eqb n 21) WrongSum (pick (eqb n 22) WrongType NoEnd))))

-- the answer that tells so
answer : Loading → Result ℕ LoadRefusal
answer l = pick (eqb l.number 0) (Ok l.start) (Err (record { why = reason l.number; line = l.line }))

answer-back : (r : Result ℕ LoadRefusal) (m : Buffers) → answer (loading_by r m) ≡ r
unfolding reason answer
answer-back (Ok start) m = refl
answer-back (Err refused) m = go refused.why refused.line
  where
    go : (why : Reason) (line : ℕ) → ◌≡◌ {A = Result ℕ LoadRefusal} (pick (eqb (reason_number why) 0) (Ok 0) (Err (record { why = reason (reason_number why); line = line }))) (Err (record { why = why; line = line }))
    go BeyondMemory line = refl
    go LongMemory line = refl
    go NoRecord line = refl
    go WrongSum line = refl
    go WrongType line = refl
    go NoEnd line = refl

-- and its memory
memory-back : (r : Result ℕ LoadRefusal) (m : Buffers) → (loading_by r m).memory ≡ m
memory-back (Ok start) m = refl
memory-back (Err refused) m = refl

-- of `load`: the answer and every byte of system memory
pub load_one : (κs : Lfts 2) (a : Dens κs load-kinds.ps) (r s : (res_t load-kinds.r κs).Denot) (x y : AtExit (ended_of 2 load-kinds.ps load-kinds.r) κs)
    → load-reads.Post κs a r x → load-reads.Post κs a s y → (r ≡ s) × (x.1.0.now ≡ y.1.0.now)
load_one κs a r s x y p q =
    let e = p ∙ sym q in (
      sym (answer-back r _) ∙ ap answer e ∙ answer-back s _,
      sym (ap (λ (b : Buffers). b.sys) (memory-back r _)) ∙ ap (λ (l : Loading). l.memory.sys) e ∙ ap (λ (b : Buffers). b.sys) (memory-back s _),
    )
