-- The outcome of a step: it is unique, a refused step changes nothing, and a done step is of the chosen channel and leaves the other alone.
-- Assumes nothing.
use Prim.Native.Nat.{ℕ}
use borrow.Author.Tests.{eqb-false, eq-eqb, ne_eqb}
use mathlib.Core.Bool.{Bool, true, false, not}
use mathlib.Core.Logic.{inl, inr, ◌⊎◌}
use mathlib.Core.Path.{◌≡◌, refl, sym, ap, ◌∙◌}
use native.Mathlib.Decide.{ℕ_discrete}
use Rattle.instruction_rules.specs.Execute.{execute_of}
use Rattle.ground_rules.proofs.ChannelLaws.{put_other, put-cp, put-board, last-channel, named}
use Rattle.ground_rules.specs.Psw.{transferring}
use Rattle.ground_rules.specs.States.{channel_of, block_of, busy_in, with_channel, with_last, is_second, channel_number}
use Rattle.ground_rules.specs.declared.Channel.{Channel}
use Rattle.ground_rules.specs.declared.State.{State}
use Rattle.ground_rules.specs.Buffers.{Buffers}
use Rattle.transfer_rules.specs.Ends.{externally_ended}
use Rattle.transfer_rules.specs.Steps.{transfer_of}
use Rattle.ground_rules.specs.Choice.{pick}
use Rattle.turn_rules.specs.Choosing.{choice_of}
use Rattle.turn_rules.specs.declared.Choice.{Choice}
use Rattle.turn_rules.specs.declared.Choice.TheVariants.{Nobody, Ends, Steps}
use Rattle.turn_rules.specs.Conditions.{ByChoice}
use Rattle.turn_rules.specs.Step.{Step, refused_step, done_step, settled_step, transfer_step, instruction_step, external_step, channel_step, chosen_step, entry_number, step_of}
use Rattle.turn_rules.specs.declared.Kind.{Kind}
use Rattle.turn_rules.specs.declared.Kind.TheVariants.{Transfer, Instruction, External}

-- no two outcomes meet the contract of a step
pub unique : (s : State) (m : Buffers) (lines : ℕ) (o o' : Step) → o ≡ step_of s m lines → o' ≡ step_of s m lines → o ≡ o'
unique s m lines o o' e e' = e ∙ sym e'

-- nor that of the choice
pub unique-choice : (s : State) (lines : ℕ) (x x' : Choice) → x ≡ choice_of s lines → x' ≡ choice_of s lines → x ≡ x'
unique-choice s lines x x' e e' = e ∙ sym e'

-- the cases of a step: what holds of a refusal, an external end, a transfer step and an instruction holds of the step
pub by-step : (s : State) (m : Buffers) (lines : ℕ) (P : Step → Type 0)
    → ((k : ℕ) → ¬ (k ≡ 0) → P (refused_step k s m))
    → ((b : Bool) → entry_number s m lines ≡ 0 → choice_of s lines ≡ Ends b → P (done_step s b (externally_ended (channel_of s b)) m External))
    → ((b : Bool) → entry_number s m lines ≡ 0 → choice_of s lines ≡ Steps b → transferring (channel_of s b).psw ≡ true
    → P (done_step s b (transfer_of (channel_of s b) m).channel (transfer_of (channel_of s b) m).memory Transfer))
    → ((b : Bool) → entry_number s m lines ≡ 0 → choice_of s lines ≡ Steps b → transferring (channel_of s b).psw ≡ false
    → P (done_step s b (execute_of (channel_of s b) (busy_in (block_of s b)) m).channel (execute_of (channel_of s b) (busy_in (block_of s b)) m).memory Instruction))
    → P (step_of s m lines)
unfolding step_of chosen_step channel_step transfer_step instruction_step external_step settled_step
by-step s m lines P refused ended moved executed = go (ℕ_discrete (entry_number s m lines) 0)
  where
    settle : (number : ℕ) (b : Bool) (c : Channel) (m' : Buffers) (kind : Kind) → P (done_step s b c m' kind) → P (settled_step number s m b c m' kind)
    settle number b c m' kind p = pick_one (ℕ_discrete number 0)
      where
        pick_one : Dec (number ≡ 0) → P (settled_step number s m b c m' kind)
        pick_one (yes z) = rw (eq-eqb number 0 z) p
        pick_one (no ne) = rw (ne_eqb number 0 ne) (refused number ne)

    turn : (b : Bool) → entry_number s m lines ≡ 0 → choice_of s lines ≡ Steps b → (x : Bool) → transferring (channel_of s b).psw ≡ x
        → P (pick x (transfer_step s m b) (instruction_step s m b))
    turn b z e true f =
        let t = transfer_of (channel_of s b) m in
        settle t.number b t.channel t.memory Transfer (moved b z e f)
    turn b z e false f =
        let x = execute_of (channel_of s b) (busy_in (block_of s b)) m in
        settle x.number b x.channel x.memory Instruction (executed b z e f)

    own : entry_number s m lines ≡ 0 → (x : Choice) → choice_of s lines ≡ x → P (chosen_step x s m)
    own z Nobody e = refused 1 (eqb-false 1 0 refl)
    own z (Ends b) e = ended b z e
    own z (Steps b) e = turn b z e (transferring (channel_of s b).psw) refl

    go : Dec (entry_number s m lines ≡ 0) → P (step_of s m lines)
    go (yes z) = rw (eq-eqb (entry_number s m lines) 0 z) (own z (choice_of s lines) refl)
    go (no ne) = rw (ne_eqb (entry_number s m lines) 0 ne) (refused (entry_number s m lines) ne)

-- a refused step is the given state and both memories, of no channel and no kind
pub refused : (s : State) (m : Buffers) (lines : ℕ) → ¬ ((step_of s m lines).number ≡ 0) → step_of s m lines ≡ refused_step (step_of s m lines).number s m
refused s m lines =
    by-step s m lines (λ o. ¬ (o.number ≡ 0) → o ≡ refused_step o.number s m)
    (λ k ne h. refl) (λ b z e h. absurd (h refl)) (λ b z e f h. absurd (h refl)) (λ b z e f h. absurd (h refl))

-- a done step is of the channel that was chosen, and its kind is what that channel did
pub done : (s : State) (m : Buffers) (lines : ℕ) → (step_of s m lines).number ≡ 0
    → ByChoice (choice_of s lines) s
    (λ b. step_of s m lines ≡ done_step s b (externally_ended (channel_of s b)) m External)
    (λ b. step_of s m lines ≡ done_step s b (transfer_of (channel_of s b) m).channel (transfer_of (channel_of s b) m).memory Transfer)
    (λ b. step_of s m lines ≡ done_step s b (execute_of (channel_of s b) (busy_in (block_of s b)) m).channel (execute_of (channel_of s b) (busy_in (block_of s b)) m).memory Instruction)
done s m lines =
    by-step s m lines
    (λ o. o.number ≡ 0
    → ByChoice (choice_of s lines) s
    (λ b. o ≡ done_step s b (externally_ended (channel_of s b)) m External)
    (λ b. o ≡ done_step s b (transfer_of (channel_of s b) m).channel (transfer_of (channel_of s b) m).memory Transfer)
    (λ b. o ≡ done_step s b (execute_of (channel_of s b) (busy_in (block_of s b)) m).channel (execute_of (channel_of s b) (busy_in (block_of s b)) m).memory Instruction))
    (λ k ne e. absurd (ne e))
    (λ b z e h. rw e refl)
    (λ b z e f h. rw (e, f) refl)
    (λ b z e f h. rw (e, f) refl)

-- the number names the channel
same_name : (a b : Bool) → channel_number a ≡ channel_number b → a ≡ b
same_name a b e = sym (named a) ∙ ap is_second e ∙ named b

done-other : (s : State) (a b : Bool) (c : Channel) → channel_number a ≡ channel_number b → channel_of (with_last (with_channel s a c) a) (not b) ≡ channel_of s (not b)
done-other s a b c e =
    last-channel (with_channel s a c) a (not b)
    ∙ ap (λ (x : Bool). channel_of (with_channel s x c) (not b)) (same_name a b e)
    ∙ put_other s b c

-- a step of one channel changes no register of the other
pub other-kept : (s : State) (m : Buffers) (lines : ℕ) (b : Bool) → (step_of s m lines).channel ≡ channel_number b → channel_of (step_of s m lines).state (not b) ≡ channel_of s (not b)
other-kept s m lines b =
    by-step s m lines (λ o. o.channel ≡ channel_number b → channel_of o.state (not b) ≡ channel_of s (not b))
    (λ k ne e. refl)
    (λ a z e h. done-other s a b _ h)
    (λ a z e f h. done-other s a b _ h)
    (λ a z e f h. done-other s a b _ h)

-- CP never changes
pub cp-kept : (s : State) (m : Buffers) (lines : ℕ) → (step_of s m lines).state.cp ≡ s.cp
unfolding with_last
cp-kept s m lines =
    by-step s m lines (λ o. o.state.cp ≡ s.cp) (λ k ne. refl)
    (λ b z e. put-cp s b _) (λ b z e f. put-cp s b _) (λ b z e f. put-cp s b _)

-- nor does what the board set up
pub board-kept : (s : State) (m : Buffers) (lines : ℕ) → (step_of s m lines).state.board ≡ s.board
unfolding with_last
board-kept s m lines =
    by-step s m lines (λ o. o.state.board ≡ s.board) (λ k ne. refl)
    (λ b z e. put-board s b _) (λ b z e f. put-board s b _) (λ b z e f. put-board s b _)

-- a done step makes its channel last, a refused one does not (§5.6)
pub last_set : (s : State) (m : Buffers) (lines : ℕ) → (step_of s m lines).number ≡ 0 → (step_of s m lines).channel ≡ channel_number (step_of s m lines).state.last
unfolding with_last
last_set s m lines =
    by-step s m lines (λ o. o.number ≡ 0 → o.channel ≡ channel_number o.state.last) (λ k ne e. absurd (ne e))
    (λ b z e h. refl) (λ b z e f h. refl) (λ b z e f h. refl)

pub last-kept : (s : State) (m : Buffers) (lines : ℕ) → ¬ ((step_of s m lines).number ≡ 0) → (step_of s m lines).state.last ≡ s.last
last-kept s m lines ne = ap (λ (o : Step). o.state.last) (refused s m lines ne)

-- who stepped is who was chosen
pub chosen-steps : (s : State) (m : Buffers) (lines : ℕ) (b : Bool) → (step_of s m lines).channel ≡ channel_number b → (choice_of s lines ≡ Ends b) ⊎ (choice_of s lines ≡ Steps b)
unfolding channel_number
chosen-steps s m lines b =
    by-step s m lines (λ o. o.channel ≡ channel_number b → (choice_of s lines ≡ Ends b) ⊎ (choice_of s lines ≡ Steps b))
    (λ k ne e. none b e)
    (λ a z e h. inl (e ∙ ap Ends (same_name a b h)))
    (λ a z e f h. inr (e ∙ ap Steps (same_name a b h)))
    (λ a z e f h. inr (e ∙ ap Steps (same_name a b h)))
  where
    none : (b : Bool) → 0 ≡ channel_number b → (choice_of s lines ≡ Ends b) ⊎ (choice_of s lines ≡ Steps b)
    none true e = absurd (eqb-false 0 2 refl e)
    none false e = absurd (eqb-false 0 1 refl e)
