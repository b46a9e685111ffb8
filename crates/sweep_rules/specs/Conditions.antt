-- The numbers of a sweep: each condition, and the checks in their order (§3.9).
use Rattle.std.specs.Prelude.{Bool, true, false, not, List, [], ◌∷◌, ◌⊎◌, ◌≡◌, ℕ, ◌+◌, ◌%◌, ◌≤◌, length}
use Rattle.ground_rules.specs.Buffers.{Buffers, space_of}
use Rattle.ground_rules.specs.declared.Pointer.{Pointer}
use Rattle.ground_rules.specs.Conditions.{Check, check, given_checks}
use Rattle.ground_rules.specs.Psw.{transferring}
use Rattle.ground_rules.specs.States.{channel_of, is_second}
use Rattle.ground_rules.specs.declared.Fields.{Fields}
use Rattle.ground_rules.specs.declared.Mode.TheVariants.{Running}
use Rattle.ground_rules.specs.declared.State.{State}
use Rattle.block_rules.specs.Premises.{from, into}
use Rattle.turn_rules.specs.Choosing.{external}
use Rattle.turn_rules.specs.Conditions.{LinesOver}
use Rattle.sweep_rules.specs.Ranges.{place_of}
use Rattle.sweep_rules.specs.Sweep.{bytes_to_go}

-- a range of n bytes is lent and does not wrap (§7.15)
abbrev pub RangeLent : Buffers → Pointer → ℕ → Type 0
RangeLent m p n = place_of p + n ≤ length (space_of m p.tag)

-- two such ranges share no byte (§7.15)
abbrev pub RangesApart : Pointer → Pointer → ℕ → Type 0
RangesApart p q n = ¬ (p.tag ≡ q.tag) ⊎ ((place_of p + n ≤ place_of q) ⊎ (place_of q + n ≤ place_of p))

-- what is asked of a channel's fields (§7.15)
pub record PlainFields (f : Fields) : Type 0 where
  -- both sides move on
  pub leaves : f.sourceMoves ≡ true
  pub enters : f.destinationMoves ≡ true
  -- SYN 00, no translation
  pub unsynchronised : f.synchronised ≡ 0
  pub untranslated : f.translates ≡ false
  -- the byte count alone can end it: TBC on, TMC's low two bits 00, TX 00, TS 0
  pub counts : ¬ (f.countEnd ≡ 0)
  pub unmatched : f.matchEnd % 4 ≡ 0
  pub unended : f.externalEnd ≡ 0
  pub ongoing : f.singleTransfer ≡ false

-- all that a sweep asks of channel, lines and memory (§7.15)
pub record Sweepable (s : State) (m : Buffers) (second : Bool) (lines : ℕ) : Type 0 where
  -- no EXT is up, neither channel's
  pub quiet : (b : Bool) → external lines b ≡ false
  -- the other channel does not run: it is idle or suspended
  pub still : ¬ ((channel_of s (not second)).mode ≡ Running)
  -- the named channel runs, with XF set
  pub runs : (channel_of s second).mode ≡ Running
  pub transfers : transferring (channel_of s second).psw ≡ true
  pub plain : PlainFields (channel_of s second).fields
  -- both ranges are lent, do not wrap, and share no byte
  pub from_lent : RangeLent m (from (channel_of s second)) (bytes_to_go (channel_of s second))
  pub into_lent : RangeLent m (into (channel_of s second)) (bytes_to_go (channel_of s second))
  pub parted : RangesApart (from (channel_of s second)) (into (channel_of s second)) (bytes_to_go (channel_of s second))

-- 12: the channel is neither 1 nor 2, or the line number is over 15 (§3.9)
abbrev pub BadCall : ℕ → ℕ → Type 0
BadCall channel lines = (¬ (channel ≡ 1) × ¬ (channel ≡ 2)) ⊎ LinesOver lines

-- 12, those of what it is given, then 15 (§3.9)
abbrev pub sweep_checks : State → Buffers → ℕ → ℕ → List Check
sweep_checks s m channel lines =
    check 12 (BadCall channel lines)
    ∷ given_checks s m (check 15 (¬ (Sweepable s m (is_second channel) lines)) ∷ [])
