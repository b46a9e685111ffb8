-- An attention to one channel of a state's bytes: what is answered of it, and what it leaves of them.
-- Assumes nothing.
use Prim.Native.Nat.{ℕ}
use borrow.Author.Tests.{eqb-false}
use lib.Seq.{sets}
use mathlib.Core.Bool.{true, false}
use mathlib.Core.List.{List}
use mathlib.Core.Path.{◌≡◌, refl, sym, ap, ◌∙◌}
use Rattle.ground_rules.specs.Buffers.{Buffers}
use Rattle.ground_rules.specs.Outcomes.{Outcome, outcome, first, unless, given_number}
use Rattle.ground_rules.specs.States.{is_channel}
use Rattle.ground_rules.specs.declared.State.{State}
use Rattle.attention_rules.specs.Attention.{given_to, attention_of, attention_count}
use Rattle.attention.proofs.PlanLaws.{given-settled, given-counts}
use Rattle.state_rules.specs.Calls.{served, answer_from, attention_served}
use Rattle.state_rules.specs.Conditions.{Bytes}
use Rattle.state_rules.specs.Layout.{bytes_of, state_in, is_state}
use Rattle.state_rules.proofs.CallLaws.{state-length, put_whole, attention-served}
use Rattle.state_rules.proofs.ForthLaws.{bytes_back}

-- what it is given, where a number names a channel and where it names none
pub channel-given : (s : State) (m : Buffers) (channel : ℕ) → is_channel channel ≡ true → given_to s m channel ≡ given_number s m
unfolding given_to first unless
channel-given s m channel h = rw h

channel-none : (s : State) (m : Buffers) (channel : ℕ) → is_channel channel ≡ false → given_to s m channel ≡ 12
unfolding given_to first unless
channel-none s m channel h = rw h

module _ (b : List ℕ) (m : Buffers) (h : is_state b ≡ true) (channel : ℕ) where
  -- bytes that became those of its outcome are what the call leaves
  pub order-served : (o : Outcome) (k : ℕ) → o ≡ attention_of (state_in b) m channel → k ≡ attention_count (state_in b) m channel
      → (x : List ℕ) → x ≡ bytes_of o.state → state_in x ≡ o.state → (r : ℕ) → r ≡ answer_from o.number 0 0 k
      → (served r x o.memory ≡ attention_served b m channel) × (is_state b ≡ true → state_in x ≡ (attention_of (state_in b) m channel).state)
  order-served o k is count x put whole r e =
      let there : x ≡ sets b 0 (bytes_of o.state) = put ∙ sym (put_whole b o.state (state-length b h)) in
      rw (e, there) (attention-served b m h channel o k is count (ap state_in (sym put) ∙ whole))

  -- what was given is refused
  pub given-served : Bytes b → ¬ (given_to (state_in b) m channel ≡ 0) → (r : ℕ) → r ≡ answer_from (given_to (state_in b) m channel) 0 0 0
      → (served r b m ≡ attention_served b m channel) × (is_state b ≡ true → state_in b ≡ (attention_of (state_in b) m channel).state)
  given-served byte ne =
      order-served (outcome (given_to (state_in b) m channel) (state_in b) m) 0 (given-settled (state_in b) m channel ne) (given-counts (state_in b) m channel ne) b (sym (bytes_back b byte h)) refl

  -- by 12 first
  pub none-served : Bytes b → is_channel channel ≡ false
      → (served 12 b m ≡ attention_served b m channel) × (is_state b ≡ true → state_in b ≡ (attention_of (state_in b) m channel).state)
  unfolding answer_from
  none-served byte none =
      let twelve = channel-none (state_in b) m channel none in
      given-served byte (λ z. absurd (eqb-false 12 0 refl (sym twelve ∙ z))) 12 (ap (λ (k : ℕ). answer_from k 0 0 0) (sym twelve))
