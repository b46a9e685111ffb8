-- The choice stays with a channel while the other does not run and nothing that the choice looks at changes.
-- Assumes nothing.
use Prim.Native.Nat.{ℕ, ◌<◌}
use mathlib.Core.Bool.{Bool, true, false, not}
use mathlib.Core.Logic.{⊎_elim, inl, inr}
use mathlib.Core.Path.{◌≡◌, refl, sym, ap, ◌∙◌}
use native.Mathlib.Omega.{arith}
use Rattle.ground_rules.proofs.ChannelLaws.{put_same, put_other, last-channel}
use Rattle.ground_rules.proofs.ConditionLaws.{says-running}
use Rattle.ground_rules.specs.Psw.{transferring}
use Rattle.ground_rules.specs.States.{channel_of, with_channel, with_last, is_running}
use Rattle.ground_rules.specs.declared.Channel.{Channel}
use Rattle.ground_rules.specs.declared.Mode.TheVariants.{Running}
use Rattle.ground_rules.specs.declared.State.{State}
use Rattle.ground_rules.proofs.ChoiceLaws.{apart}
use Rattle.turn_rules.specs.Choosing.{requested, external, no_rank, choice_of}
use Rattle.turn_rules.specs.Ranks.{EndsNow, HasRank, ExternalAt, RankedAt, rank_at, NoneEnds}
use Rattle.turn_rules.specs.declared.Choice.{Choice}
use Rattle.turn_rules.specs.declared.Choice.TheVariants.{Steps}
use Rattle.turn_rules.proofs.ChoosingLaws.{rank-one, rank-three, rank-none, steps-chosen, lower-rank-wins}

-- what holds of one channel and of the other holds of each
both : (P : Bool → Type 0) (b : Bool) → P b → P (not b) → (x : Bool) → P x
both P true p q true = p
both P true p q false = q
both P false p q true = q
both P false p q false = p

-- where the other channel does not run, one that has a rank and no external end has its turn
pub alone-steps : (s : State) (lines : ℕ) (b : Bool) → is_running (channel_of s (not b)).mode ≡ false → ¬ (ExternalAt s lines b) → RankedAt s lines b → choice_of s lines ≡ Steps b
alone-steps s lines b off ends ranked =
    lower-rank-wins s lines b (both (λ x. ¬ (ExternalAt s lines x)) b ends (λ h. idle h.0))
    (⊎_elim
    (λ h. omega (arith, (rank-one (channel_of s b) (requested lines b)).1 h, other))
    (λ h. omega (arith, (rank-three (channel_of s b) (requested lines b)).1 h, other)) ranked)
  where
    idle : ¬ ((channel_of s (not b)).mode ≡ Running)
    idle = (says-running (channel_of s (not b)).mode).fails off

    other : rank_at s lines (not b) ≡ no_rank
    other = (rank-none (channel_of s (not b)) (requested lines (not b))).1 (⊎_elim (λ h. idle h.0) (λ h. idle h.0))

-- a running channel without XF has a rank
executing : (c : Channel) (drq : Bool) → c.mode ≡ Running → transferring c.psw ≡ false → HasRank c drq
executing c drq r f = go c.fields.chained refl
  where
    go : (x : Bool) → c.fields.chained ≡ x → HasRank c drq
    go true e = inl (r, inr (f, e))
    go false e = inr (r, f, e)

-- a done step leaves its channel as it says
pub mine-after : (s : State) (b : Bool) (c : Channel) → channel_of (with_last (with_channel s b c) b) b ≡ c
mine-after s b c = last-channel (with_channel s b c) b b ∙ put_same s b c

module _ (s : State) (lines : ℕ) (b : Bool) (c : Channel) (idle : is_running (channel_of s (not b)).mode ≡ false) where
  -- and the other as it was
  pub idle-after : is_running (channel_of (with_last (with_channel s b c) b) (not b)).mode ≡ false
  idle-after = ap (λ (x : Channel). is_running x.mode) (last-channel (with_channel s b c) b (not b) ∙ put_other s b c) ∙ idle

  -- after a step that changes neither mode, the fields of CC nor XF the choice is the same
  pub transfer-stays : choice_of s lines ≡ Steps b → c.mode ≡ (channel_of s b).mode → c.fields ≡ (channel_of s b).fields → transferring c.psw ≡ transferring (channel_of s b).psw
      → choice_of (with_last (with_channel s b c) b) lines ≡ Steps b
  transfer-stays e mode fields xf =
      let was = steps-chosen s lines b e in
      let ends : ¬ (EndsNow c (external lines b)) = λ h. was.0 b (rw (mode, fields, xf) at h) in
      let ranked : HasRank c (requested lines b) = rw (mode, fields, xf) was.1 in
      alone-steps (with_last (with_channel s b c) b) lines b idle-after (rw (mine-after s b c) ends) (rw (mine-after s b c) ranked)

  -- after one that leaves a channel that runs without XF it has its turn
  pub instruction-stays : c.mode ≡ Running → transferring c.psw ≡ false → choice_of (with_last (with_channel s b c) b) lines ≡ Steps b
  instruction-stays r f =
      let ends : ¬ (EndsNow c (external lines b)) = λ h. apart (sym h.1 ∙ f) in
      alone-steps (with_last (with_channel s b c) b) lines b idle-after (rw (mine-after s b c) ends) (rw (mine-after s b c) (executing c (requested lines b) r f))
