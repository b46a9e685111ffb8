-- A done step leaves a sound state of the same board that agrees, so that what a run is given need be tested once.
-- Assumes nothing.
use Prim.Native.Nat.{ℕ}
use lib.Dec.{ltb, leb}
use lib.ListN.{length}
use mathlib.Core.Bool.{Bool, true, false, ◌&&◌}
use mathlib.Core.Path.{◌≡◌, refl, ap₂, ◌∙◌}
use Rattle.instruction_rules.proofs.ChannelLaws.{execute-sound, execute-agree}
use Rattle.ground_rules.proofs.ChannelLaws.{sound-channel-of, put-board, last-board}
use Rattle.ground_rules.proofs.ConditionLaws.{first-none-left, first-none-right, unless-none}
use Rattle.ground_rules.proofs.FieldLaws.{agree-channel-of, put-agree, last-agree}
use Rattle.ground_rules.proofs.GivenLaws.{given-sound, given-agree, given-again}
use Rattle.ground_rules.specs.Outcomes.{first, unless, given_number}
use Rattle.ground_rules.specs.States.{channel_of, with_channel, with_last, sound_channel, sound, fields_agree, agree}
use Rattle.ground_rules.specs.declared.Channel.{Channel}
use Rattle.ground_rules.specs.declared.State.{State}
use Rattle.ground_rules.specs.Buffers.{Buffers, space_of, limit_of, within_limits}
use Rattle.transfer_rules.proofs.KeptLaws.{external-sound, transfer-sound, external-agree, transfer-agree}
use Rattle.ground_rules.proofs.ChoiceLaws.{both_left, both_right}
use Rattle.turn_rules.specs.Step.{entry_number, step_of}
use Rattle.turn_rules.proofs.OutcomeLaws.{by-step}

-- a sound state with a sound channel put back is sound
pub done-sound : (s : State) (b : Bool) (c : Channel) → sound s ≡ true → sound_channel c ≡ true → sound (with_last (with_channel s b c) b) ≡ true
unfolding sound with_last with_channel
done-sound s true c h k =
    let both = sound_channel s.first && sound_channel s.second in
    rw (both_left (sound_channel s.first) (sound_channel s.second) (both_left both (ltb s.cp 1048576) h), k, both_right both (ltb s.cp 1048576) h)
done-sound s false c h k =
    let both = sound_channel s.first && sound_channel s.second in
    rw (k, both_right (sound_channel s.first) (sound_channel s.second) (both_left both (ltb s.cp 1048576) h), both_right both (ltb s.cp 1048576) h)

-- one that agrees with a channel put back that does agrees
pub done-agree : (s : State) (b : Bool) (c : Channel) → agree s ≡ true → fields_agree c ≡ true → agree (with_last (with_channel s b c) b) ≡ true
done-agree s b c h k = last-agree (with_channel s b c) b ∙ put-agree s b c h k

-- and of the same board
pub done-board : (s : State) (b : Bool) (c : Channel) → (with_last (with_channel s b c) b).board ≡ s.board
done-board s b c = last-board (with_channel s b c) b ∙ put-board s b c

-- a step that is not refused by 12, 11, 10, 13 and 14 was given what no call refuses, a sound state that agrees among it
entry-given : (s : State) (m : Buffers) (lines : ℕ) → entry_number s m lines ≡ 0 → given_number s m ≡ 0
unfolding entry_number
entry-given s m lines z = first-none-right (unless (ltb lines 16) 12) (given_number s m) z

pub entry-sound : (s : State) (m : Buffers) (lines : ℕ) → entry_number s m lines ≡ 0 → sound s ≡ true
entry-sound s m lines z = given-sound s m (entry-given s m lines z)

pub entry-agree : (s : State) (m : Buffers) (lines : ℕ) → entry_number s m lines ≡ 0 → agree s ≡ true
entry-agree s m lines z = given-agree s m (entry-given s m lines z)

-- so is the next step given, of a sound state of the same board that agrees, in memories of the same lengths
pub entry-again : (s s' : State) (m m' : Buffers) (lines : ℕ) → entry_number s m lines ≡ 0 → sound s' ≡ true → agree s' ≡ true → s'.board ≡ s.board → within_limits m' ≡ within_limits m
    → entry_number s' m' lines ≡ 0
unfolding entry_number first unless
entry-again s s' m m' lines z h a b e =
    let low : ltb lines 16 ≡ true = unless-none 12 refl (first-none-left (unless (ltb lines 16) 12) (given_number s m) z) in
    rw (low, given-again s s' m m' (entry-given s m lines z) h a b e)

-- a memory whose lengths stay is as long as it was
pub limits-kept : (m m' : Buffers) → ((u : Bool) → length (space_of m' u) ≡ length (space_of m u)) → within_limits m' ≡ within_limits m
unfolding within_limits space_of
limits-kept m m' h = ap₂ (λ (x y : ℕ). leb x (limit_of false) && leb y (limit_of true)) (h false) (h true)

-- a done step leaves a sound state, so the next is not refused by 10
pub sound-kept : (s : State) (m : Buffers) (lines : ℕ) → (step_of s m lines).number ≡ 0 → sound (step_of s m lines).state ≡ true
sound-kept s m lines =
    by-step s m lines (λ o. o.number ≡ 0 → sound o.state ≡ true) (λ k ne e. absurd (ne e))
    (λ b z e h. let q = entry-sound s m lines z in done-sound s b _ q (external-sound (channel_of s b) (sound-channel-of s b q)))
    (λ b z e f h. let q = entry-sound s m lines z in done-sound s b _ q (transfer-sound (channel_of s b) m (sound-channel-of s b q)))
    (λ b z e f h. let q = entry-sound s m lines z in done-sound s b _ q (execute-sound (channel_of s b) _ m (sound-channel-of s b q)))

-- whatever comes of a step, a state that agrees still does, so the next is not refused by 14
pub step-agree : (s : State) (m : Buffers) (lines : ℕ) → agree s ≡ true → agree (step_of s m lines).state ≡ true
step-agree s m lines h =
    by-step s m lines (λ o. agree o.state ≡ true) (λ k ne. h)
    (λ b z e. done-agree s b _ h (external-agree (channel_of s b) (agree-channel-of s b h)))
    (λ b z e f. done-agree s b _ h (transfer-agree (channel_of s b) m (agree-channel-of s b h)))
    (λ b z e f. done-agree s b _ h (execute-agree (channel_of s b) _ m (agree-channel-of s b h)))
