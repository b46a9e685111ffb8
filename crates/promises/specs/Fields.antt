-- The fields of CC beside CC (§2.12): which bits each is, that no call leaves a state in which they are not those of CC, that a register written renews them where it is CC, and that they stay where CC does.
use Rattle.std.specs.Prelude.{Bool, false, not, List, [], ◌∷◌, ◌≡◌, ℕ, ◌+◌, ◌^◌, eqb}
use Rattle.ground_rules.specs.Buffers.{Buffers}
use Rattle.ground_rules.specs.Cc.{split, same_fields}
use Rattle.ground_rules.specs.Registers.{with_register}
use Rattle.ground_rules.specs.States.{fresh_of, reset_state, channel_of, channel_number}
use Rattle.ground_rules.specs.declared.Channel.{Channel}
use Rattle.ground_rules.specs.declared.Fields.{Fields}
use Rattle.ground_rules.specs.declared.State.{State}
use Rattle.attention_rules.specs.Attention.{attention_of}
use Rattle.attention_rules.specs.Power.{power_up_of}
use Rattle.turn_rules.specs.Step.{step_of}
use Rattle.promises.specs.SheetWords.{bit, field}

-- ---- which bits

-- the fields of a CC by the numbers of its bits (§2.4)
pub record ByBits (cc : ℕ) (f : Fields) : Type 0 where
  pub destinationMoves : f.destinationMoves ≡ eqb (bit cc 15) 1
  pub sourceMoves : f.sourceMoves ≡ eqb (bit cc 14) 1
  pub translates : f.translates ≡ eqb (bit cc 13) 1
  pub synchronised : f.synchronised ≡ field cc 11 2
  pub sourceIsGB : f.sourceIsGB ≡ eqb (bit cc 10) 1
  pub chained : f.chained ≡ eqb (bit cc 8) 1
  pub singleTransfer : f.singleTransfer ≡ eqb (bit cc 7) 1
  pub externalEnd : f.externalEnd ≡ field cc 5 2
  pub countEnd : f.countEnd ≡ field cc 3 2
  pub matchEnd : f.matchEnd ≡ field cc 0 3

-- whether the fields tell a CC of which only one bit is 1 from CC 0, for each of some bits
unfoldable pub told : List ℕ → List Bool
told [] = []
told (k ∷ ks) = not (same_fields (split (2 ^ k)) (split 0)) ∷ told ks

-- ---- what calls leave

-- the fields of both channels are those of their CC
abbrev pub Agree : State → Type 0
Agree s = (second : Bool) → (channel_of s second).fields ≡ split (channel_of s second).cc

pub record FieldsKept : Type 0 where
  pub bits : (cc : ℕ) → ByBits cc (split cc)
  -- bit 9 is in no field, and CC may differ there
  pub ninth : (cc : ℕ) → bit cc 9 ≡ 0 → split (cc + 512) ≡ split cc
  -- a state that calls make agrees: a fresh one, one after reset, and what a done power-up, attention or step leaves
  pub fresh : (cp : ℕ) → Agree (fresh_of cp).state
  pub reset : Agree reset_state
  pub power : (s : State) (m : Buffers) → (power_up_of s m).number ≡ 0 → Agree (power_up_of s m).state
  pub attention : (s : State) (m : Buffers) (channel : ℕ) → (attention_of s m channel).number ≡ 0 → Agree (attention_of s m channel).state
  pub step : (s : State) (m : Buffers) (lines : ℕ) → (step_of s m lines).number ≡ 0 → Agree (step_of s m lines).state
  -- the fields of the other channel stay
  pub other_attended : (s : State) (m : Buffers) (channel : ℕ) (second : Bool) → channel ≡ channel_number second
      → (channel_of (attention_of s m channel).state (not second)).fields ≡ (channel_of s (not second)).fields
  pub other_stepped : (s : State) (m : Buffers) (lines : ℕ) (second : Bool) → (step_of s m lines).channel ≡ channel_number second
      → (channel_of (step_of s m lines).state (not second)).fields ≡ (channel_of s (not second)).fields
  -- and so do a channel's own where a done step leaves its CC
  pub same_control : (s : State) (m : Buffers) (lines : ℕ) (second : Bool) → (step_of s m lines).number ≡ 0
      → (channel_of (step_of s m lines).state second).cc ≡ (channel_of s second).cc
      → (channel_of (step_of s m lines).state second).fields ≡ (channel_of s second).fields
  -- a register written renews them where it is CC, RRR 6, and leaves them where it is another
  pub renews : (c : Channel) (v : ℕ) (tag : Bool) → (with_register c 6 v tag).fields ≡ split (with_register c 6 v tag).cc
  pub leaves : (c : Channel) (r v : ℕ) (tag : Bool) → eqb r 6 ≡ false → (with_register c r v tag).fields ≡ c.fields
