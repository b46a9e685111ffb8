-- No two outcomes meet the contract of a public call together: both are what its definition gives.
-- Assumes nothing.
use Prim.Native.Nat.{ℕ}
use Rattle.std.proofs.Common.{◌≡◌, refl, sym, ap, ap₂, ◌∙◌, Option, Some, None, Result, Ok, Err}
use Rattle.ground_rules.specs.Buffers.{Buffers}
use Rattle.ground_rules.specs.Refusals.{outcome_by}
use Rattle.ground_rules.specs.declared.Answer.{Answer}
use Rattle.ground_rules.specs.declared.Refusal.{Refusal}
use Rattle.ground_rules.specs.declared.State.{State}
use Rattle.ground_rules.specs.Outcomes.{Outcome}
use Rattle.ground_rules.proofs.RefusalLaws.{one-answer, one-refusal, number-positive}
use Rattle.run_rules.specs.Run.{Run, Call, ran, stop_number}
use Rattle.run_rules.specs.declared.Ran.{Ran}
use Rattle.turn_rules.specs.Step.{Step, stepped_by, stepped_count}
use Rattle.turn_rules.specs.declared.Stepped.{Stepped}
use Rattle.promises.specs.Unique.{OneOutcome}

-- two steps that leave the same and count the same are the same
one-stepped : (s : State) (r r' : Result Stepped Refusal) (m m' : Buffers) → stepped_by s r m ≡ stepped_by s r' m' → stepped_count r ≡ stepped_count r' → r ≡ r'
one-stepped s (Ok a) (Ok b) m m' e n = ap₂ (λ (o : Step) (k : ℕ). Ok (record { count = k; state = o.state; channel = o.channel; kind = o.kind })) e n
one-stepped s (Ok a) (Err f) m m' e n = absurd (number-positive f (sym (ap (λ (o : Step). o.number) e)))
one-stepped s (Err f) (Ok b) m m' e n = absurd (number-positive f (ap (λ (o : Step). o.number) e))
one-stepped s (Err f) (Err g) m m' e n = ap Err (one-refusal f g (ap (λ (o : Step). o.number) e))

-- what a call leaves has the memories that it is given
left-memory : (s : State) (r : Result Stepped Refusal) (m : Buffers) → (stepped_by s r m).memory ≡ m
left-memory s (Ok a) m = refl
left-memory s (Err e) m = refl

outcome-memory : (s : State) (r : Result Answer Refusal) (m : Buffers) → (outcome_by s r m).memory ≡ m
outcome-memory s (Ok a) m = refl
outcome-memory s (Err e) m = refl

-- so are two runs that end the same
one-stop : (x y : Option Refusal) → stop_number x ≡ stop_number y → x ≡ y
one-stop None None e = refl
one-stop None (Some g) e = absurd (number-positive g (sym e))
one-stop (Some f) None e = absurd (number-positive f e)
one-stop (Some f) (Some g) e = ap Some (one-refusal f g e)

one-ran : (r r' : Ran) (m m' : Buffers) → ran (stop_number r.stopped) r.steps m ≡ ran (stop_number r'.stopped) r'.steps m' → r ≡ r'
one-ran r r' m m' e = ap₂ (λ (x : Option Refusal) (k : ℕ). record { stopped = x; steps = k }) (one-stop r.stopped r'.stopped (ap (λ (o : Run). o.number) e)) (ap (λ (o : Run). o.steps) e)

pub one-outcome : OneOutcome
one-outcome = record {
  fresh = λ cp r r' p q. p ∙ sym q;
  reset = λ r r' p q. p ∙ sym q;
  power = λ s m r r' sys sys' io io' p q.
      let e = p.0 ∙ sym q.0 in
      record { answer = one-answer s r r' _ _ e (p.1 ∙ sym q.1); system = sym (ap (λ (b : Buffers). b.sys) (outcome-memory s r _)) ∙ ap (λ (o : Outcome). o.memory.sys) e ∙ ap (λ (b : Buffers). b.sys) (outcome-memory s r' _); input_output = sym (ap (λ (b : Buffers). b.io) (outcome-memory s r _)) ∙ ap (λ (o : Outcome). o.memory.io) e ∙ ap (λ (b : Buffers). b.io) (outcome-memory s r' _) };
  attention = λ s m channel r r' sys sys' io io' p q.
      let e = p.0 ∙ sym q.0 in
      record { answer = one-answer s r r' _ _ e (p.1 ∙ sym q.1); system = sym (ap (λ (b : Buffers). b.sys) (outcome-memory s r _)) ∙ ap (λ (o : Outcome). o.memory.sys) e ∙ ap (λ (b : Buffers). b.sys) (outcome-memory s r' _); input_output = sym (ap (λ (b : Buffers). b.io) (outcome-memory s r _)) ∙ ap (λ (o : Outcome). o.memory.io) e ∙ ap (λ (b : Buffers). b.io) (outcome-memory s r' _) };
  choose = λ s lines r r' p q. p ∙ sym q;
  step = λ s m lines r r' sys sys' io io' p q.
      let e = p.0 ∙ sym q.0 in
      record { answer = one-stepped s r r' _ _ e (p.1 ∙ sym q.1); system = sym (ap (λ (b : Buffers). b.sys) (left-memory s r _)) ∙ ap (λ (o : Step). o.memory.sys) e ∙ ap (λ (b : Buffers). b.sys) (left-memory s r' _); input_output = sym (ap (λ (b : Buffers). b.io) (left-memory s r _)) ∙ ap (λ (o : Step). o.memory.io) e ∙ ap (λ (b : Buffers). b.io) (left-memory s r' _) };
  run = λ m cp channel lines limit r r' sys sys' io io' p q.
      let e = p ∙ sym q in
      record { answer = one-ran r r' _ _ e; system = ap (λ (o : Run). o.memory.sys) e; input_output = ap (λ (o : Run). o.memory.io) e };
  call = λ m cp channel lines limit r r' sys sys' io io' p q.
      let e = p ∙ sym q in
      record { answer = ap (λ (o : Call). o.answer) e; system = ap (λ (o : Call). o.memory.sys) e; input_output = ap (λ (o : Call). o.memory.io) e };
  board = λ m channel lines limit r r' sys sys' io io' p q.
      let e = p ∙ sym q in
      record { answer = one-ran r r' _ _ e; system = ap (λ (o : Run). o.memory.sys) e; input_output = ap (λ (o : Run). o.memory.io) e };
  board_call = λ m channel lines limit r r' sys sys' io io' p q.
      let e = p ∙ sym q in
      record { answer = ap (λ (o : Call). o.answer) e; system = ap (λ (o : Call). o.memory.sys) e; input_output = ap (λ (o : Call). o.memory.io) e };
}
