-- What a sweep on a state in bytes leaves, from what its parts leave.
-- Assumes nothing.
use Prim.Native.Nat.{ℕ}
use mathlib.Core.Bool.{true, false}
use mathlib.Core.List.{List}
use mathlib.Core.Path.{◌≡◌, sym, ap, ◌∙◌}
use Rattle.ground_rules.proofs.ChoiceLaws.{apart}
use Rattle.ground_rules.specs.Buffers.{Buffers}
use Rattle.ground_rules.specs.States.{channel_of, with_channel, with_last, is_second}
use Rattle.ground_rules.specs.declared.State.{State}
use Rattle.sweep_rules.proofs.LeftLaws.{swept-again}
use Rattle.sweep_rules.proofs.PassedLaws.{accepted-sweep, refused-sweep, number_is}
use Rattle.sweep_rules.specs.Sweep.{Sweep, swept_to, refused_sweep, sweep_number, sweep_of}
use Rattle.state_rules.specs.Calls.{served, sweep_answer_from, sweep_served}
use Rattle.state_rules.specs.Conditions.{Bytes}
use Rattle.state_rules.specs.Layout.{bytes_of, state_in, is_state}
use Rattle.state_rules.proofs.ForthLaws.{bytes_back}

module _ (b : List ℕ) (m : Buffers) (channel lines : ℕ) where
  -- what is to be shown of an answer, the bytes and the memories that are left
  abbrev pub Leaves : ℕ → List ℕ → Buffers → Type 0
  Leaves answer bytes m' =
      (served answer bytes m' ≡ sweep_served b m channel lines) × (is_state b ≡ true → state_in bytes ≡ (sweep_of (state_in b) m channel lines).state)

  -- bytes that are no state are left, with both memories
  pub sweep-none : is_state b ≡ false → Leaves 17 b m
  unfolding sweep_served
  sweep-none h = (rw h, λ e. apart (sym e ∙ h))

  module _ (h : is_state b ≡ true) (number : ℕ) (s' : State) (steps count : ℕ) (m' : Buffers) (left : swept_to number s' m' steps count ≡ sweep_of (state_in b) m channel lines) where
    number_same : number ≡ sweep_number (state_in b) m channel lines
    number_same = ap (λ (o : Sweep). o.number) left ∙ number_is (state_in b) m channel lines

    -- where it is refused too
    pub sweep-refused : Bytes b → ¬ (number ≡ 0) → Leaves (sweep_answer_from number 0 0) b m'
    unfolding sweep_served
    sweep-refused byte ne =
        let same = refused-sweep (state_in b) m channel lines (λ z. ne (number_same ∙ z)) in
        let back : swept_to number s' m' steps count ≡ refused_sweep (sweep_number (state_in b) m channel lines) (state_in b) m = left ∙ same in (
          rw (h, same)
              (λ i. served (sweep_answer_from (back i).number 0 0) (sym (bytes_back b byte h) i) (back i).memory),
          λ e. sym (ap (λ (o : Sweep). o.state) same),
        )

    -- where it is done its channel is put
    pub sweep-done : number ≡ 0 → (bytes : List ℕ)
        → bytes ≡ bytes_of (with_last (with_channel (state_in b) (is_second channel) (channel_of s' (is_second channel))) (is_second channel))
        → state_in bytes ≡ with_last (with_channel (state_in b) (is_second channel) (channel_of s' (is_second channel))) (is_second channel)
        → Leaves (sweep_answer_from 0 steps count) bytes m'
    unfolding sweep_served
    sweep-done z bytes put whole =
        let second = is_second channel in
        let done = accepted-sweep (state_in b) m channel lines (sym number_same ∙ z) in
        let after : State → State = λ s. with_last (with_channel (state_in b) second (channel_of s second)) second in
        let all : after s' ≡ (sweep_of (state_in b) m channel lines).state =
        ap (λ (o : Sweep). after o.state) (left ∙ done) ∙ swept-again (state_in b) m second ∙ ap (λ (o : Sweep). o.state) (sym done) in (
          rw h (λ i. served (sweep_answer_from ((sym z ∙ ap (λ (o : Sweep). o.number) left) i) (left i).steps (left i).count) ((put ∙ ap bytes_of all) i) (left i).memory),
          λ e. whole ∙ all,
        )
