-- What an accepted sweep has passed, and the whole outcome by its number.
-- Assumes nothing.
use Prim.Native.Nat.{ℕ, ◌<◌, ◌≤◌}
use borrow.Author.Tests.{ltb-true, leb-true, eq-eqb, ne_eqb}
use lib.Dec.{ltb, leb}
use lib.ListN.{length}
use mathlib.Core.Bool.{Bool, true, false, ◌&&◌}
use mathlib.Core.Path.{◌≡◌, refl, sym, ap, ◌∙◌}
use native.Mathlib.Decide.{ℕ_discrete}
use Rattle.ground_rules.proofs.ChoiceLaws.{both_left, both_right}
use Rattle.ground_rules.specs.Buffers.{Buffers, space_of, limit_of, within_limits}
use Rattle.ground_rules.proofs.ConditionLaws.{says-yes, given-most, unless-none, first-none-left, first-none-right}
use Rattle.ground_rules.proofs.GivenLaws.{given-within}
use Rattle.ground_rules.specs.Outcomes.{first, unless, given_number}
use Rattle.ground_rules.specs.States.{channel_of, is_channel, is_second}
use Rattle.ground_rules.specs.declared.State.{State}
use Rattle.block_rules.specs.Premises.{from, into}
use Rattle.sweep_rules.specs.Conditions.{Sweepable, sweep_checks}
use Rattle.sweep_rules.specs.Ranges.{range_lent}
use Rattle.sweep_rules.specs.Sweep.{Sweep, bytes_to_go, refused_sweep, done_sweep, sweepable, sweep_number, sweep_of}
use Rattle.sweep_rules.proofs.ConditionLaws.{says-lent, says-sweepable, sweep-given}

-- no buffer is longer than its space
pub length_most : (m : Buffers) (t : Bool) → within_limits m ≡ true → length (space_of m t) ≤ limit_of t
unfolding within_limits space_of
length_most m t h = go t
  where
    go : (t : Bool) → length (space_of m t) ≤ limit_of t
    go true = leb-true (length m.io) (limit_of true) (both_right (leb (length m.sys) (limit_of false)) (leb (length m.io) (limit_of true)) h)
    go false = leb-true (length m.sys) (limit_of false) (both_left (leb (length m.sys) (limit_of false)) (leb (length m.io) (limit_of true)) h)

module _ (s : State) (m : Buffers) (channel lines : ℕ) (z : sweep_number s m channel lines ≡ 0) where
  called : is_channel channel && ltb lines 16 ≡ true
  unfolding sweep_number
  called = unless-none 12 refl (first-none-left _ _ z)

  after_call : first (given_number s m) (unless (sweepable s m (is_second channel) lines) 15) ≡ 0
  unfolding sweep_number
  after_call = first-none-right (unless (is_channel channel && ltb lines 16) 12) _ z

  -- the channel is 1 or 2, and the line number at most 15
  pub channel-named : is_channel channel ≡ true
  channel-named = both_left (is_channel channel) (ltb lines 16) called

  pub lines-few : lines < 16
  lines-few = ltb-true lines 16 (both_right (is_channel channel) (ltb lines 16) called)

  -- 11, 10, 13 and 14 do not apply
  pub passed-given : given_number s m ≡ 0
  passed-given = first-none-left (given_number s m) _ after_call

  pub passed-limits : within_limits m ≡ true
  passed-limits = given-within s m passed-given

  -- and the conditions are met
  pub passed-conditions : Sweepable s m (is_second channel) lines
  passed-conditions =
      (says-sweepable s m (is_second channel) lines).holds (unless-none 15 refl (first-none-right (given_number s m) _ after_call))

  -- both ranges are lent, by their tests
  pub passed-ranges : (range_lent m (from (channel_of s (is_second channel))) (bytes_to_go (channel_of s (is_second channel))) ≡ true)
      × (range_lent m (into (channel_of s (is_second channel))) (bytes_to_go (channel_of s (is_second channel))) ≡ true)
  passed-ranges =
      let c = channel_of s (is_second channel) in
      (says-yes (says-lent m (from c) (bytes_to_go c)) passed-conditions.from_lent, says-yes (says-lent m (into c) (bytes_to_go c)) passed-conditions.into_lent)

  -- it is done
  pub accepted-sweep : sweep_of s m channel lines ≡ done_sweep s m (is_second channel)
  unfolding sweep_of
  accepted-sweep = rw (eq-eqb (sweep_number s m channel lines) 0 z)

-- a refused sweep leaves what was given
pub refused-sweep : (s : State) (m : Buffers) (channel lines : ℕ) → ¬ (sweep_number s m channel lines ≡ 0)
    → sweep_of s m channel lines ≡ refused_sweep (sweep_number s m channel lines) s m
unfolding sweep_of
refused-sweep s m channel lines ne = rw (ne_eqb (sweep_number s m channel lines) 0 ne)

-- its number is the chain's
pub number_is : (s : State) (m : Buffers) (channel lines : ℕ) → (sweep_of s m channel lines).number ≡ sweep_number s m channel lines
unfolding done_sweep
number_is s m channel lines = go (ℕ_discrete (sweep_number s m channel lines) 0)
  where
    go : Dec (sweep_number s m channel lines ≡ 0) → (sweep_of s m channel lines).number ≡ sweep_number s m channel lines
    go (yes z) = ap (λ (o : Sweep). o.number) (accepted-sweep s m channel lines z) ∙ sym z
    go (no ne) = ap (λ (o : Sweep). o.number) (refused-sweep s m channel lines ne)

-- and at most 15
pub number-most : (s : State) (m : Buffers) (channel lines : ℕ) → sweep_number s m channel lines ≤ 15
number-most s m channel lines =
    given-most 15 (sweep_checks s m channel lines) refl ((sweep-given s m channel lines (sweep_number s m channel lines)).0 refl)
