-- Calls in a row, in numbers: both channels transfer, each in its turn, and each leaves the other's ranges alone.
-- Assumes nothing.
use Prim.Native.Nat.{ℕ, zero, suc, ◌<◌}
use mathlib.Core.Bool.{Bool, true, false, not}
use mathlib.Core.List.{List}
use mathlib.Core.Path.{◌≡◌, refl, sym, ap, subst, ◌∙◌}
use native.Mathlib.Omega.{arith}
use Rattle.ground_rules.specs.Cc.{split, same_flag, same_fields}
use Rattle.ground_rules.specs.Outcomes.{given_number}
use Rattle.ground_rules.specs.Psw.{transferring}
use Rattle.ground_rules.specs.States.{channel_of, with_channel, with_last, sound_channel, sound, is_running, channel_number, fields_agree, agree}
use Rattle.ground_rules.specs.declared.State.{State}
use Rattle.ground_rules.proofs.SpanLaws.{span-at}
use Rattle.ground_rules.specs.Buffers.{Buffers, space_of, limit_of, index_of, lent_at, beyond_in, byte_at, within_limits}
use Rattle.ground_rules.specs.Places.{span}
use Rattle.ground_rules.specs.Values.{pointer}
use Rattle.turn_rules.specs.Choosing.{requested, external, ends_now, transfer_rank, rank_of, second_wins, ranked, choice_of}
use Rattle.turn_rules.specs.Step.{Step, stepped, settled_step, transfer_step, channel_step, chosen_step, entry_number, step_of}
use Rattle.turn_rules.specs.declared.Choice.{Choice}
use Rattle.turn_rules.specs.declared.Choice.TheVariants.{Nobody, Ends, Steps}
use Rattle.turn_rules.specs.declared.Kind.TheVariants.{Transfer}
use Rattle.transfer_rules.specs.Sides.{source, destination}
use Rattle.ground_rules.proofs.ChoiceLaws.{apart}
use Rattle.ground_rules.specs.Bits.{bit_of, field_of}
use Rattle.promises.specs.Calls.{Calls, EndsAtCall, begin, transfer, step}
use Rattle.block_rules.specs.Premises.{Lent}
use Rattle.block_rules.specs.Rows.{Untouched}
use Rattle.block_rules.specs.Stages.{Ended}
use Rattle.promises.specs.Witness.{running_with, narrow_at, narrow_end, wide_at, wide_end, memory_with, six, both_with}
use Rattle.promises.proofs.MachineLaws.{demand3-calls}
use Rattle.promises.proofs.WitnessLaws.{narrow-met, transfer_open, narrow-total}

-- five bytes, each by itself
five : (P : ℕ → Type 0) → P 0 → P 1 → P 2 → P 3 → P 4 → (i : ℕ) → i < 5 → P i
five P a b c d e zero h = a
five P a b c d e (suc zero) h = b
five P a b c d e (suc (suc zero)) h = c
five P a b c d e (suc (suc (suc zero))) h = d
five P a b c d e (suc (suc (suc (suc zero)))) h = e
five P a b c d e (suc (suc (suc (suc (suc i))))) h = absurd (omega arith)

-- the state and the memory at the start, and after each of eight calls
abbrev s₀ : State
s₀ = both_with (narrow_at 0 16 5) (wide_at 8 0 5) true

abbrev m₀ : Buffers
m₀ = memory_with (six 0 0 0 0 0) (six 0 0 0 0 0)

abbrev s₁ : State
s₁ = both_with (narrow_at 1 17 4) (wide_at 8 0 5) false

abbrev m₁ : Buffers
m₁ = memory_with (six 0 0 0 0 0) (six 1 0 0 0 0)

abbrev s₂ : State
s₂ = both_with (narrow_at 1 17 4) (wide_at 10 2 3) true

abbrev m₂ : Buffers
m₂ = memory_with (six 1 2 0 0 0) (six 1 0 0 0 0)

abbrev s₃ : State
s₃ = both_with (narrow_at 2 18 3) (wide_at 10 2 3) false

abbrev m₃ : Buffers
m₃ = memory_with (six 1 2 0 0 0) (six 1 2 0 0 0)

abbrev s₄ : State
s₄ = both_with (narrow_at 2 18 3) (wide_at 12 4 1) true

abbrev m₄ : Buffers
m₄ = memory_with (six 1 2 3 4 0) (six 1 2 0 0 0)

abbrev s₅ : State
s₅ = both_with (narrow_at 3 19 2) (wide_at 12 4 1) false

abbrev m₅ : Buffers
m₅ = memory_with (six 1 2 3 4 0) (six 1 2 3 0 0)

abbrev s₆ : State
s₆ = both_with (narrow_at 3 19 2) wide_end true

abbrev m₆ : Buffers
m₆ = memory_with (six 1 2 3 4 5) (six 1 2 3 0 0)

abbrev s₇ : State
s₇ = both_with (narrow_at 4 20 1) wide_end false

abbrev m₇ : Buffers
m₇ = memory_with (six 1 2 3 4 5) (six 1 2 3 4 0)

abbrev s₈ : State
s₈ = both_with narrow_end wide_end false

abbrev m₈ : Buffers
m₈ = memory_with (six 1 2 3 4 5) (six 1 2 3 4 5)

-- a step call that is computed to be channel 1's transfer step
ours : {k : ℕ} (s : State) (m : Buffers) (s' : State) (m' : Buffers) → Calls false 5 s₀ m₀ k s m → entry_number s m 0 ≡ 0 → choice_of s 0 ≡ Steps false
    → transferring (channel_of s false).psw ≡ true → step_of s m 0 ≡ stepped 0 s' m' 1 Transfer → Calls false 5 s₀ m₀ (suc k) s' m'
ours {k} s m s' m' r a b x e =
    subst (λ (o : Step). Calls false 5 s₀ m₀ (suc k) o.state o.memory) e (transfer r 0 (record { entered = a; chosen = b }) x)

-- whether a choice is channel 1's turn
turns_first : Choice → Bool
turns_first Nobody = false
turns_first (Ends d) = false
turns_first (Steps d) = not d

-- one that is computed to be channel 2's
theirs : {k : ℕ} (s : State) (m : Buffers) (s' : State) (m' : Buffers) → Calls false 5 s₀ m₀ k s m → choice_of s 0 ≡ Steps true
    → Untouched (narrow_at 0 16 5) 5 m m' → step_of s m 0 ≡ stepped 0 s' m' 2 Transfer → Calls false 5 s₀ m₀ k s' m'
unfolding turns_first channel_of both_with
theirs {k} s m s' m' r b u e =
    subst (λ (o : Step). Calls false 5 s₀ m₀ k o.state o.memory) e
    (step r 0 (λ t. apart (ap turns_first (sym t.chosen ∙ b))) (subst (λ (o : Step). Untouched (narrow_at 0 16 5) 5 m o.memory) (sym e) u))

-- what channel 2's steps leave alone
spared : (a b c d e a' b' c' d' e' : ℕ) (io : List ℕ) → Lent (memory_with (six a' b' c' d' e') io) (pointer 16 true) 5
    → Untouched (narrow_at 0 16 5) 5 (memory_with (six a b c d e) io) (memory_with (six a' b' c' d' e') io)
unfolding running_with memory_with source destination bit_of byte_at beyond_in lent_at space_of index_of limit_of split
spared a b c d e a' b' c' d' e' io l =
    record {
      from_left = record { bytes = five (λ i. _) refl refl refl refl refl; lent = five (λ i. _) refl refl refl refl refl };
      into_left = record { bytes = λ i h. refl; lent = l };
    }

-- a step call with all that it is made of laid open, so that it computes
unfoldable pub step_open : State → Buffers → ℕ → Step
unfolding step_of chosen_step channel_step transfer_step settled_step choice_of ends_now external requested rank_of transfer_rank second_wins ranked is_running entry_number given_number within_limits sound sound_channel agree fields_agree same_fields same_flag split channel_of with_channel with_last channel_number both_with transfer_open bit_of field_of
step_open s m lines = step_of s m lines

-- each call, computed: channel 1 and channel 2 take turns, and channel 1 goes on when channel 2's transfer has ended
call1 : step_of s₀ m₀ 0 ≡ stepped 0 s₁ m₁ 1 Transfer
unfolding step_open
call1 = refl

call2 : step_of s₁ m₁ 0 ≡ stepped 0 s₂ m₂ 2 Transfer
unfolding step_open
call2 = refl

call3 : step_of s₂ m₂ 0 ≡ stepped 0 s₃ m₃ 1 Transfer
unfolding step_open
call3 = refl

call4 : step_of s₃ m₃ 0 ≡ stepped 0 s₄ m₄ 2 Transfer
unfolding step_open
call4 = refl

call5 : step_of s₄ m₄ 0 ≡ stepped 0 s₅ m₅ 1 Transfer
unfolding step_open
call5 = refl

call6 : step_of s₅ m₅ 0 ≡ stepped 0 s₆ m₆ 2 Transfer
unfolding step_open
call6 = refl

call7 : step_of s₆ m₆ 0 ≡ stepped 0 s₇ m₇ 1 Transfer
unfolding step_open
call7 = refl

call8 : step_of s₇ m₇ 0 ≡ stepped 0 s₈ m₈ 1 Transfer
unfolding step_open
call8 = refl

-- the row of them, to channel 1: five of its transfer steps, and three calls between that are not its turn
pub calls-met : Calls false 5 s₀ m₀ 5 s₈ m₈
unfolding step_open span lent_at space_of index_of limit_of
calls-met =
    let r1 : Calls false 5 s₀ m₀ 1 s₁ m₁ = ours s₀ m₀ s₁ m₁ begin refl refl refl call1 in
    let r2 : Calls false 5 s₀ m₀ 1 s₂ m₂ = theirs s₁ m₁ s₂ m₂ r1 refl (spared 0 0 0 0 0 1 2 0 0 0 (six 1 0 0 0 0) (λ i h. span-at (lent_at m₂) true 16 5 i refl h)) call2 in
    let r3 : Calls false 5 s₀ m₀ 2 s₃ m₃ = ours s₂ m₂ s₃ m₃ r2 refl refl refl call3 in
    let r4 : Calls false 5 s₀ m₀ 2 s₄ m₄ = theirs s₃ m₃ s₄ m₄ r3 refl (spared 1 2 0 0 0 1 2 3 4 0 (six 1 2 0 0 0) (λ i h. span-at (lent_at m₄) true 16 5 i refl h)) call4 in
    let r5 : Calls false 5 s₀ m₀ 3 s₅ m₅ = ours s₄ m₄ s₅ m₅ r4 refl refl refl call5 in
    let r6 : Calls false 5 s₀ m₀ 3 s₆ m₆ = theirs s₅ m₅ s₆ m₆ r5 refl (spared 1 2 3 4 0 1 2 3 4 5 (six 1 2 3 0 0) (λ i h. span-at (lent_at m₆) true 16 5 i refl h)) call6 in
    let r7 : Calls false 5 s₀ m₀ 4 s₇ m₇ = ours s₆ m₆ s₇ m₇ r6 refl refl refl call7 in
    ours s₇ m₇ s₈ m₈ r7 refl refl refl call8

-- so channel 1's transfer ends at the fifth of its steps, by demand 3
pub calls-end : EndsAtCall false 5 s₀ m₀ 5
unfolding channel_of both_with
calls-end = subst (EndsAtCall false 5 s₀ m₀) narrow-total (demand3-calls narrow-met)

-- and has ended after the eighth call
pub calls-ended : Ended 5 (narrow_at 0 16 5) m₀ narrow_end m₈
unfolding channel_of both_with
calls-ended = calls-end.then calls-met
