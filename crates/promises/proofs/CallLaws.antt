-- One call of the machine, seen from one channel: its transfer step is the step of the channel alone, and every other call leaves it alone.
-- Assumes nothing.
use Prim.Native.Nat.{ℕ}
use borrow.Author.Tests.{eq-eqb, ne_eqb}
use lib.Dec.{eqb}
use mathlib.Core.Bool.{Bool, true, false, not, ◌&&◌}
use mathlib.Core.Path.{◌≡◌, refl, sym, ap, subst, ◌∙◌}
use native.Mathlib.Decide.{ℕ_discrete}
use Rattle.attention_rules.specs.Attention.{given_to, attention_number, attention_of, channel_attended as attended, ordered_memory as attended_memory}
use Rattle.instruction_rules.specs.Execute.{execute_of}
use Rattle.ground_rules.proofs.ChannelLaws.{put_same, put_other, last-channel}
use Rattle.ground_rules.specs.Outcomes.{outcome, unless, first, settled}
use Rattle.ground_rules.specs.Psw.{transferring, priority}
use Rattle.ground_rules.specs.States.{channel_of, with_channel, with_last, block_of, busy_in, is_channel, is_second, channel_number}
use Rattle.ground_rules.specs.declared.Channel.{Channel}
use Rattle.ground_rules.specs.declared.State.{State}
use Rattle.ground_rules.specs.Buffers.{Buffers}
use Rattle.turn_rules.proofs.OutcomeLaws.{by-step}
use Rattle.turn_rules.specs.Choosing.{requested, external, ends_now, no_rank, rank_of, second_wins, ranked, choice_of}
use Rattle.turn_rules.specs.Step.{refused_step, done_step, settled_step, transfer_step, instruction_step, external_step, channel_step, chosen_step, entry_number, step_of}
use Rattle.turn_rules.specs.declared.Choice.{Choice}
use Rattle.turn_rules.specs.declared.Choice.TheVariants.{Nobody, Ends, Steps}
use Rattle.turn_rules.specs.declared.Kind.{Kind}
use Rattle.turn_rules.specs.declared.Kind.TheVariants.{Transfer, Instruction}
use Rattle.transfer_rules.proofs.StepLaws.{refused}
use Rattle.ground_rules.proofs.ChoiceLaws.{and-false, apart}
use Rattle.transfer_rules.specs.Ends.{externally_ended}
use Rattle.transfer_rules.specs.Steps.{transfer_of, Transfer as Taken}
use Rattle.ground_rules.specs.Choice.{pick}
use Rattle.promises.specs.Calls.{HasTurn}

-- ---- this channel's transfer step

-- its turn with XF is its transfer step
pub turn_is : (b : Bool) (s : State) (m : Buffers) (lines : ℕ) → HasTurn b s m lines → transferring (channel_of s b).psw ≡ true → step_of s m lines ≡ transfer_step s m b
unfolding step_of chosen_step channel_step
turn_is b s m lines t x = rw (eq-eqb (entry_number s m lines) 0 t.entered, t.chosen, x)

-- done, it puts the channel back
pub settled-done : (b : Bool) (s : State) (m : Buffers) → (transfer_of (channel_of s b) m).number ≡ 0
    → transfer_step s m b ≡ done_step s b (transfer_of (channel_of s b) m).channel (transfer_of (channel_of s b) m).memory Transfer
unfolding transfer_step settled_step
settled-done b s m e = rw (eq-eqb (transfer_of (channel_of s b) m).number 0 e)

-- refused, it is the given state and memory
settled-refused : (b : Bool) (s : State) (m : Buffers) → ((transfer_of (channel_of s b) m).number ≡ 0 → ⊥)
    → transfer_step s m b ≡ refused_step (transfer_of (channel_of s b) m).number s m
unfolding transfer_step settled_step
settled-refused b s m ne = rw (ne_eqb (transfer_of (channel_of s b) m).number 0 ne)

-- what it makes of the channel, done or refused
pub transfer-channel : (b : Bool) (s : State) (m : Buffers) → channel_of (transfer_step s m b).state b ≡ (transfer_of (channel_of s b) m).channel
transfer-channel b s m = go (ℕ_discrete (transfer_of (channel_of s b) m).number 0)
  where
    go : Dec ((transfer_of (channel_of s b) m).number ≡ 0) → channel_of (transfer_step s m b).state b ≡ (transfer_of (channel_of s b) m).channel
    go (yes e) = rw (settled-done b s m e) (last-channel (with_channel s b (transfer_of (channel_of s b) m).channel) b b ∙ put_same s b (transfer_of (channel_of s b) m).channel)
    go (no ne) = rw (settled-refused b s m ne) (sym (ap (λ (o : Taken). o.channel) (refused (channel_of s b) m ne)))

-- and of memory
pub transfer-memory : (b : Bool) (s : State) (m : Buffers) → (transfer_step s m b).memory ≡ (transfer_of (channel_of s b) m).memory
transfer-memory b s m = go (ℕ_discrete (transfer_of (channel_of s b) m).number 0)
  where
    go : Dec ((transfer_of (channel_of s b) m).number ≡ 0) → (transfer_step s m b).memory ≡ (transfer_of (channel_of s b) m).memory
    go (yes e) = rw (settled-done b s m e)
    go (no ne) = rw (settled-refused b s m ne) (sym (ap (λ (o : Taken). o.memory) (refused (channel_of s b) m ne)))

-- ---- the other channel's steps

-- a channel's own step, refused or done, leaves the other channel alone
settled-other : (d : Bool) (number : ℕ) (s : State) (m : Buffers) (c : Channel) (m' : Buffers) (kind : Kind)
    → channel_of (settled_step number s m d c m' kind).state (not d) ≡ channel_of s (not d)
unfolding settled_step
settled-other d number s m c m' kind = go (eqb number 0)
  where
    go : (z : Bool) → channel_of (pick z (done_step s d c m' kind) (refused_step number s m)).state (not d) ≡ channel_of s (not d)
    go true = last-channel (with_channel s d c) d (not d) ∙ put_other s d c
    go false = refl

-- so does a transfer step or an instruction
step_other : (d : Bool) (s : State) (m : Buffers) → channel_of (channel_step s m d).state (not d) ≡ channel_of s (not d)
unfolding channel_step transfer_step instruction_step
step_other d s m = go (transferring (channel_of s d).psw)
  where
    go : (z : Bool) → channel_of (pick z (transfer_step s m d) (instruction_step s m d)).state (not d) ≡ channel_of s (not d)
    go true = let t = transfer_of (channel_of s d) m in settled-other d t.number s m t.channel t.memory Transfer
    go false = let e = execute_of (channel_of s d) (busy_in (block_of s d)) m in settled-other d e.number s m e.channel e.memory Instruction

-- and an external end
end-other : (d : Bool) (s : State) (m : Buffers) → channel_of (external_step s m d).state (not d) ≡ channel_of s (not d)
unfolding external_step
end-other d s m = last-channel (with_channel s d (externally_ended (channel_of s d))) d (not d) ∙ put_other s d (externally_ended (channel_of s d))

-- a choice that is neither this channel's turn nor its end leaves it alone
chosen-other : (b : Bool) (x : Choice) (s : State) (m : Buffers) → (x ≡ Steps b → ⊥) → (x ≡ Ends b → ⊥) → channel_of (chosen_step x s m).state b ≡ channel_of s b
unfolding chosen_step
chosen-other b Nobody s m ne ne' = refl
chosen-other true (Ends true) s m ne ne' = absurd (ne' refl)
chosen-other true (Ends false) s m ne ne' = end-other false s m
chosen-other false (Ends true) s m ne ne' = end-other true s m
chosen-other false (Ends false) s m ne ne' = absurd (ne' refl)
chosen-other true (Steps true) s m ne ne' = absurd (ne refl)
chosen-other true (Steps false) s m ne ne' = step_other false s m
chosen-other false (Steps true) s m ne ne' = step_other true s m
chosen-other false (Steps false) s m ne ne' = absurd (ne refl)

-- ---- no external end

-- whether a choice is a channel's end
ends_it : Choice → Bool → Bool
ends_it Nobody b = false
ends_it (Ends d) b = pick d b (not b)
ends_it (Steps d) b = false

-- a channel's end is its own
ends-self : (b : Bool) → ends_it (Ends b) b ≡ true
unfolding ends_it
ends-self true = refl
ends-self false = refl

-- a choice by rank ends nothing
ranked-none : (s : State) (r₁ r₂ : ℕ) (b : Bool) → ends_it (ranked s r₁ r₂) b ≡ false
unfolding ranked ends_it
ranked-none s r₁ r₂ b = go (eqb r₁ no_rank && eqb r₂ no_rank)
  where
    go : (z : Bool) → ends_it (pick z Nobody (Steps (second_wins r₁ r₂ (priority s.first.psw) (priority s.second.psw) s.last))) b ≡ false
    go true = refl
    go false = refl

-- with TX off no external end is due
ends-not : (c : Channel) (ext : Bool) → c.fields.externalEnd ≡ 0 → ends_now c ext ≡ false
unfolding ends_now
ends-not c ext e = rw (eq-eqb c.fields.externalEnd 0 e, and-false)

-- with TX off no end is a channel's
choice-not : (s : State) (lines : ℕ) (b : Bool) → (channel_of s b).fields.externalEnd ≡ 0 → ends_it (choice_of s lines) b ≡ false
unfolding choice_of channel_of
choice-not s lines true e = rw (ends-not s.second (external lines true) e) (go (ends_now s.first (external lines false)))
  where
    r : Choice
    r = ranked s (rank_of s.first (requested lines false)) (rank_of s.second (requested lines true))

    go : (z : Bool) → ends_it (pick z (Ends false) r) true ≡ false
    go true = unfold ends_it in refl
    go false = ranked-none s (rank_of s.first (requested lines false)) (rank_of s.second (requested lines true)) true
choice-not s lines false e = rw (ends-not s.first (external lines false) e) (go (ends_now s.second (external lines true)))
  where
    r : Choice
    r = ranked s (rank_of s.first (requested lines false)) (rank_of s.second (requested lines true))

    go : (z : Bool) → ends_it (pick z (Ends true) r) false ≡ false
    go true = unfold ends_it in refl
    go false = ranked-none s (rank_of s.first (requested lines false)) (rank_of s.second (requested lines true)) false

-- so a step call that is not the channel's turn leaves it alone
pub step_kept : (b : Bool) (s : State) (m : Buffers) (lines : ℕ) → (channel_of s b).fields.externalEnd ≡ 0 → (HasTurn b s m lines → ⊥)
    → channel_of (step_of s m lines).state b ≡ channel_of s b
unfolding step_of
step_kept b s m lines e ne = go (ℕ_discrete (entry_number s m lines) 0)
  where
    go : Dec (entry_number s m lines ≡ 0) → channel_of (step_of s m lines).state b ≡ channel_of s b
    go (yes z) =
        rw (eq-eqb (entry_number s m lines) 0 z)
        (chosen-other b (choice_of s lines) s m (λ x. ne (record { entered = z; chosen = x }))
        (λ x. apart (sym (ends-self b) ∙ ap (λ (y : Choice). ends_it y b) (sym x) ∙ choice-not s lines b e)))
    go (no z) = rw (ne_eqb (entry_number s m lines) 0 z)

-- ---- attention to the other channel

-- an attention to one channel leaves the other alone
settled-channel : (b : Bool) (d : Bool) (number : ℕ) (s : State) (m : Buffers) (c : Channel) (m' : Buffers) → d ≡ not b
    → channel_of (settled number s m (with_channel s d c) m').state b ≡ channel_of s b
unfolding settled
settled-channel b d number s m c m' e = go (eqb number 0)
  where
    twice : (x : Bool) → not (not x) ≡ x
    twice true = refl
    twice false = refl

    back : channel_of (with_channel s d c) b ≡ channel_of s b
    back = subst (λ (x : Bool). channel_of (with_channel s d c) x ≡ channel_of s x) (ap not e ∙ twice b) (put_other s d c)

    go : (z : Bool) → channel_of (pick z (outcome 0 (with_channel s d c) m') (outcome number s m)).state b ≡ channel_of s b
    go true = back
    go false = refl

-- an attention that is not to the channel leaves it alone
pub attention-kept : (b : Bool) (s : State) (m : Buffers) (channel : ℕ) → (channel ≡ channel_number b → ⊥) → channel_of (attention_of s m channel).state b ≡ channel_of s b
unfolding attention_of channel_number is_second is_channel attention_number given_to first unless settled
attention-kept true s m channel ne =
    settled-channel true (is_second channel) (attention_number s m channel) s m (attended s m (is_second channel))
    (attended_memory s m (is_second channel)) (ne_eqb channel 2 ne)
attention-kept false s m channel ne = go (ℕ_discrete channel 2)
  where
    go : Dec (channel ≡ 2) → channel_of (attention_of s m channel).state false ≡ channel_of s false
    go (yes e) =
        settled-channel false (is_second channel) (attention_number s m channel) s m (attended s m (is_second channel))
        (attended_memory s m (is_second channel)) (eq-eqb channel 2 e)
    go (no ne') = rw (ne_eqb channel 1 ne, ne_eqb channel 2 ne') refl

-- a step that is not of a channel leaves it alone
pub not-of : (b : Bool) (s : State) (m : Buffers) (lines : ℕ) → ((step_of s m lines).channel ≡ channel_number b → ⊥)
    → channel_of (step_of s m lines).state b ≡ channel_of s b
not-of b s m lines =
    by-step s m lines (λ o. (o.channel ≡ channel_number b → ⊥) → channel_of o.state b ≡ channel_of s b)
    (λ k ne x. refl) (λ a z e x. other a b _ x) (λ a z e f x. other a b _ x) (λ a z e f x. other a b _ x)
  where
    other : (a b : Bool) (c : Channel) → (channel_number a ≡ channel_number b → ⊥) → channel_of (with_last (with_channel s a c) a) b ≡ channel_of s b
    other true true c x = absurd (x refl)
    other true false c x = last-channel (with_channel s true c) true false ∙ put_other s true c
    other false true c x = last-channel (with_channel s false c) false true ∙ put_other s false c
    other false false c x = absurd (x refl)
