-- The numbers of an attention: the condition of each check, and their order (§3.5).
use Rattle.std.specs.Prelude.{false, List, [], ◌∷◌, ◌⊎◌, ◌≡◌, ℕ}
use Rattle.ground_rules.specs.Buffers.{Buffers}
use Rattle.ground_rules.specs.Places.{span}
use Rattle.ground_rules.specs.Conditions.{Check, check, Beyond, given_checks}
use Rattle.ground_rules.specs.States.{channel_of, is_second, block_of}
use Rattle.ground_rules.specs.declared.Mode.{Mode}
use Rattle.ground_rules.specs.declared.Mode.TheVariants.{Running, Suspended}
use Rattle.ground_rules.specs.declared.State.{State}
use Rattle.attention_rules.specs.Attention.{order_to}
use Rattle.attention_rules.specs.Commands.{code_of}
use Rattle.attention_rules.specs.Touched.{others}

-- 12: the channel is neither 1 nor 2
abbrev pub NoChannel : ℕ → Type 0
NoChannel channel = ¬ (channel ≡ 1) × ¬ (channel ≡ 2)

-- 2, of CCW
abbrev pub CcwBeyond : State → Buffers → ℕ → Type 0
CcwBeyond s m channel = Beyond m (span false (block_of s (is_second channel)) 1)

-- 2, of the other bytes
abbrev pub OthersBeyond : State → Buffers → ℕ → Type 0
OthersBeyond s m channel = Beyond m (others (order_to s m (is_second channel)))

-- 6: command 010 or 100
abbrev pub NoCommand : ℕ → Type 0
NoCommand code = (code ≡ 2) ⊎ (code ≡ 4)

-- 7: resume of a channel that is not suspended
abbrev pub ResumesOther : ℕ → Mode → Type 0
ResumesOther code mode = (code ≡ 5) × ¬ (mode ≡ Suspended)

-- 8: start of a running channel
abbrev pub StartsRunning : ℕ → Mode → Type 0
StartsRunning code mode = ((code ≡ 1) ⊎ (code ≡ 3)) × (mode ≡ Running)

-- 9: suspend of a channel that is not running
abbrev pub SuspendsOther : ℕ → Mode → Type 0
SuspendsOther code mode = (code ≡ 6) × ¬ (mode ≡ Running)

-- bits 2-0 of the CCW in a channel's block
abbrev pub code_to : State → Buffers → ℕ → ℕ
code_to s m channel = code_of (order_to s m (is_second channel)).ccw

-- a channel's mode
abbrev pub mode_to : State → ℕ → Mode
mode_to s channel = (channel_of s (is_second channel)).mode

-- the order's own checks
abbrev pub order_checks : State → Buffers → ℕ → List Check
order_checks s m channel =
    check 2 (CcwBeyond s m channel)
    ∷ check 6 (NoCommand (code_to s m channel))
    ∷ check 7 (ResumesOther (code_to s m channel) (mode_to s channel))
    ∷ check 8 (StartsRunning (code_to s m channel) (mode_to s channel))
    ∷ check 9 (SuspendsOther (code_to s m channel) (mode_to s channel))
    ∷ check 2 (OthersBeyond s m channel)
    ∷ []

-- the checks of an attention, in their order: 12, those of what it is given, then the order's own
abbrev pub attention_checks : State → Buffers → ℕ → List Check
attention_checks s m channel = check 12 (NoChannel channel) ∷ given_checks s m (order_checks s m channel)
