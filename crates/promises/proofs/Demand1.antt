-- Demand 1, from the theorems of the crates below.
-- Assumes nothing.
use Prim.Native.Nat.{ℕ, ◌<◌, ◌≤◌}
use mathlib.Core.Bool.{Bool, true, false}
use mathlib.Core.Path.{◌≡◌, refl, subst, ap}
use native.Mathlib.Decide.{dec_lt}
use native.Mathlib.Omega.{arith}
use Rattle.attention_rules.proofs.Numbers.{given-exactly, attention-most}
use Rattle.attention_rules.proofs.Outcomes.{refused-nothing}
use Rattle.ground_rules.proofs.ConditionLaws.{last, rewritten, told-ltb}
use Rattle.ground_rules.specs.Outcomes.{Outcome}
use Rattle.ground_rules.specs.States.{board_with, idle_channel, fresh_state, fresh_of, channel_of}
use Rattle.ground_rules.specs.declared.Made.{Made}
use Rattle.ground_rules.specs.declared.State.{State}
use Rattle.ground_rules.specs.Buffers.{Buffers}
use Rattle.run_rules.proofs.Bounds.{number-most, steps-most, steps-below, answer-is, number-back, steps_back}
use Rattle.turn_rules.proofs.NumberLaws.{number-given, step-most}
use Rattle.turn_rules.proofs.OutcomeLaws.{refused}
use Rattle.turn_rules.specs.Step.{Step}
use Rattle.promises.specs.Demand1.{Blank, FreshAnswers, AttentionAnswers, StepAnswers, RunAnswers, Demand1}
use Rattle.promises.specs.Runs.{RunEnds}
use Rattle.promises.proofs.RunLaws.{fresh-good, fresh-bad, fresh-number, run-so, run_only}

-- a fresh state of 20 bits of CP has blank channels, and channel 2 as the last
blank : (cp : ℕ) (second : Bool) → Blank (channel_of (fresh_state cp) second)
unfolding channel_of fresh_state idle_channel
blank cp true = record { ga = refl; gb = refl; gc = refl; tp = refl; pp = refl; bc = refl; ix = refl; cc = refl; mc = refl; psw = refl; mode = refl; armed = refl; fields = refl; held = refl }
blank cp false = record { ga = refl; gb = refl; gc = refl; tp = refl; pp = refl; bc = refl; ix = refl; cc = refl; mc = refl; psw = refl; mode = refl; armed = refl; fields = refl; held = refl }

-- every answer has a state made of some CP
made : (cp : ℕ) (P : State → Type 0) → ((k : ℕ) → P (fresh_state k)) → P (fresh_of cp).state
made cp P p = go (dec_lt cp 1048576)
  where
    go : Dec (cp < 1048576) → P (fresh_of cp).state
    go (yes h) = rw (fresh-good cp h) (p cp)
    go (no h) = let past : 1048576 ≤ cp = omega arith in rw (fresh-bad cp past) (p 0)

pub fresh-answers : (cp : ℕ) → FreshAnswers cp
unfolding fresh_state
fresh-answers cp = record {
  numbers = λ n. rewritten (fresh-number cp) (last n 10 refl (told-ltb cp 1048576));
  takes_cp = λ h. ap (λ (a : Made). a.state.cp) (fresh-good cp h);
  channels = λ second. made cp (λ s. Blank (channel_of s second)) (λ k. blank k second);
  last = made cp (λ s. s.last ≡ true) (λ k. refl);
  board = made cp (λ s. s.board ≡ board_with true false false false) (λ k. refl);
  bad_cp = λ h. ap (λ (a : Made). a.state.cp) (fresh-bad cp h);
}

pub attention-answers : (s : State) (m : Buffers) (channel : ℕ) → AttentionAnswers s m channel
attention-answers s m channel = record {
  numbers = given-exactly s m channel;
  same_state = λ ne. ap (λ (o : Outcome). o.state) (refused-nothing s m channel ne);
  same_memory = λ ne. ap (λ (o : Outcome). o.memory) (refused-nothing s m channel ne);
  bound = attention-most s m channel;
}

pub step-answers : (s : State) (m : Buffers) (lines : ℕ) → StepAnswers s m lines
step-answers s m lines = record {
  numbers = number-given s m lines;
  same_state = λ ne. ap (λ (o : Step). o.state) (refused s m lines ne);
  same_memory = λ ne. ap (λ (o : Step). o.memory) (refused s m lines ne);
  no_channel = λ ne. ap (λ (o : Step). o.channel) (refused s m lines ne);
  no_kind = λ ne. ap (λ (o : Step). o.kind) (refused s m lines ne);
  bound = step-most s m lines;
}

pub run-answers : (m : Buffers) (cp channel lines limit : ℕ) → RunAnswers m cp channel lines limit
run-answers m cp channel lines limit = record {
  ends = λ r. (λ e. subst (RunEnds m cp channel lines limit) e (run-so m cp channel lines limit), run_only m cp channel lines limit);
  bound = number-most m cp channel lines limit;
  steps_bound = steps-most m cp channel lines limit;
  steps_small = steps-below m cp channel lines limit;
  answer = answer-is m cp channel lines limit;
  number_back = number-back m cp channel lines limit;
  steps_back = steps_back m cp channel lines limit;
}

-- the demand
pub demand1 : Demand1
demand1 = record { fresh = fresh-answers; attention = attention-answers; step = step-answers; run = run-answers }
