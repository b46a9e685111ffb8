-- The numbers of attention, power-up, step, transfer step and instruction in words of their own: what each is given for, and after the denial of what. A list of checks in another order, or with another condition, is refused here, also where the definition follows it.
-- Assumes nothing.
use Prim.Native.Nat.{ℕ, ◌<◌, ◌≤◌}
use lib.ListN.{length}
use mathlib.Core.Bool.{true, false}
use mathlib.Core.Logic.{◌⊎◌, ◌↔◌}
use mathlib.Core.Path.{◌≡◌, refl}
use Rattle.ground_rules.specs.Buffers.{Buffers}
use Rattle.ground_rules.specs.Conditions.{NotSound, FieldsDisagree, Beyond}
use Rattle.ground_rules.specs.Psw.{source_wide, destination_wide}
use Rattle.ground_rules.specs.declared.Channel.{Channel}
use Rattle.ground_rules.specs.declared.Mode.TheVariants.{Running, Suspended}
use Rattle.ground_rules.specs.declared.State.{State}
use Rattle.attention_rules.specs.Attention.{attention_of}
use Rattle.attention_rules.specs.Conditions.{CcwBeyond, OthersBeyond, code_to, mode_to}
use Rattle.attention_rules.specs.Power.{power_places, power_up_of}
use Rattle.attention_rules.proofs.Numbers as Attention
use Rattle.attention_rules.proofs.PowerNumbers as Power
use Rattle.instruction_rules.specs.Conditions.{PairBeyond, NoCode, ControlTouched, LaterBeyond, NoSecondPair, ReadsBeyond, StoresBeyond}
use Rattle.instruction_rules.specs.Execute.{decoded_at, execute_of}
use Rattle.instruction_rules.proofs.NumberLaws as Instruction
use Rattle.transfer_rules.specs.Steps.{touched_by_transfer, transfer_of}
use Rattle.transfer_rules.proofs.NumberLaws as Transfer
use Rattle.turn_rules.specs.Ranks.{NoneRuns}
use Rattle.turn_rules.specs.Step.{step_of}
use Rattle.turn_rules.proofs.NumberLaws as Turn

-- 11: a buffer is longer than its limit
abbrev LongBuffer : Buffers → Type 0
LongBuffer m = (1048576 < length m.sys) ⊎ (65536 < length m.io)

-- 13: the processor is not powered up
abbrev Unpowered : State → Type 0
Unpowered s = s.board.powered ≡ false

-- what counts where none of 11, 10, 13 and 14 is given
abbrev PastGiven : State → Buffers → Type 0 → Type 0
PastGiven s m next = ¬ (LongBuffer m) × (¬ (NotSound s) × (¬ (Unpowered s) × (¬ (FieldsDisagree s) × next)))

-- the end of a list of checks, of which none applied
abbrev NoMore : Type 0
NoMore = ◌≡◌ {A = ℕ} 0 0

module _ (s : State) (m : Buffers) (channel : ℕ) where
  -- 12: the channel is neither 1 nor 2
  abbrev Nobody : Type 0
  Nobody = ¬ (channel ≡ 1) × ¬ (channel ≡ 2)

  -- bits 2-0 of CCW, by which 6 to 9 go
  abbrev Code : ℕ → Type 0
  Code n = code_to s m channel ≡ n

  -- 6: command 010 or 100; 7: resume unless suspended; 8: start while running; 9: suspend unless running
  abbrev Six : Type 0
  Six = Code 2 ⊎ Code 4

  abbrev Seven : Type 0
  Seven = Code 5 × ¬ (mode_to s channel ≡ Suspended)

  abbrev Eight : Type 0
  Eight = (Code 1 ⊎ Code 3) × (mode_to s channel ≡ Running)

  abbrev Nine : Type 0
  Nine = Code 6 × ¬ (mode_to s channel ≡ Running)

  -- what counts where CCW can be read, besides
  abbrev PastCcw : Type 0 → Type 0
  PastCcw next = ¬ Nobody × PastGiven s m (¬ (CcwBeyond s m channel) × next)

  -- what counts where the command fits, besides
  abbrev PastCommand : Type 0 → Type 0
  PastCommand next = ¬ Six × (¬ Seven × (¬ Eight × (¬ Nine × next)))

  -- an attention (§3.5)
  pub attention-words : (((attention_of s m channel).number ≡ 12) ↔ Nobody)
      × (((attention_of s m channel).number ≡ 11) ↔ (¬ Nobody × LongBuffer m))
      × (((attention_of s m channel).number ≡ 10) ↔ (¬ Nobody × (¬ (LongBuffer m) × NotSound s)))
      × (((attention_of s m channel).number ≡ 13) ↔ (¬ Nobody × (¬ (LongBuffer m) × (¬ (NotSound s) × Unpowered s))))
      × (((attention_of s m channel).number ≡ 14) ↔ (¬ Nobody × (¬ (LongBuffer m) × (¬ (NotSound s) × (¬ (Unpowered s) × FieldsDisagree s)))))
      × (((attention_of s m channel).number ≡ 6) ↔ PastCcw Six)
      × (((attention_of s m channel).number ≡ 7) ↔ PastCcw (¬ Six × Seven))
      × (((attention_of s m channel).number ≡ 8) ↔ PastCcw (¬ Six × (¬ Seven × Eight)))
      × (((attention_of s m channel).number ≡ 9) ↔ PastCcw (¬ Six × (¬ Seven × (¬ Eight × Nine))))
      × (((attention_of s m channel).number ≡ 2) ↔ (¬ Nobody × PastGiven s m (CcwBeyond s m channel ⊎ (¬ (CcwBeyond s m channel) × PastCommand (OthersBeyond s m channel)))))
      × (((attention_of s m channel).number ≡ 0) ↔ PastCcw (PastCommand (¬ (OthersBeyond s m channel) × NoMore)))
  attention-words =
      let by = Attention.number-exactly s m channel in
      (by 12, by 11, by 10, by 13, by 14, by 6, by 7, by 8, by 9, by 2, by 0)

-- a power-up: 11, then 2; neither 10 nor 13 nor 14 (§4.12)
pub power-words : (s : State) (m : Buffers) → (((power_up_of s m).number ≡ 11) ↔ LongBuffer m)
    × (((power_up_of s m).number ≡ 2) ↔ (¬ (LongBuffer m) × Beyond m (power_places m)))
    × (((power_up_of s m).number ≡ 0) ↔ (¬ (LongBuffer m) × (¬ (Beyond m (power_places m)) × NoMore)))
power-words s m = let by = Power.power-exactly s m in (by 11, by 2, by 0)

-- what a step is given, and whether anybody can step (§3.6)
pub step_words : (s : State) (m : Buffers) (lines : ℕ) → (((step_of s m lines).number ≡ 12) ↔ (16 ≤ lines))
    × (((step_of s m lines).number ≡ 11) ↔ (¬ (16 ≤ lines) × LongBuffer m))
    × (((step_of s m lines).number ≡ 10) ↔ (¬ (16 ≤ lines) × (¬ (LongBuffer m) × NotSound s)))
    × (((step_of s m lines).number ≡ 13) ↔ (¬ (16 ≤ lines) × (¬ (LongBuffer m) × (¬ (NotSound s) × Unpowered s))))
    × (((step_of s m lines).number ≡ 14) ↔ (¬ (16 ≤ lines) × (¬ (LongBuffer m) × (¬ (NotSound s) × (¬ (Unpowered s) × FieldsDisagree s)))))
    × (((step_of s m lines).number ≡ 1) ↔ (¬ (16 ≤ lines) × PastGiven s m (NoneRuns s lines)))
step_words s m lines =
    let by = Turn.entry-exactly s m lines in
    (by 12 refl, by 11 refl, by 10 refl, by 13 refl, by 14 refl, by 1 refl)

module _ (c : Channel) (m : Buffers) where
  -- 5: SYN 11, or translation with a side of 16 bits
  abbrev Five : Type 0
  Five = (c.fields.synchronised ≡ 3) ⊎ ((c.fields.translates ≡ true) × ((source_wide c.psw ≡ true) ⊎ (destination_wide c.psw ≡ true)))

  -- a transfer step: 5, then 2 (§7.11)
  pub transfer-words : (((transfer_of c m).number ≡ 5) ↔ Five) × (((transfer_of c m).number ≡ 2) ↔ (¬ Five × Beyond m (touched_by_transfer c m)))
  transfer-words = (Transfer.number-exactly c m 5, Transfer.number-exactly c m 2)

  -- an instruction: 4 for a pair that may be read and is an instruction on CC; 3 for a pair that is none, or later for a second pair; 2 for each byte in its turn (§6.22)
  pub instruction-words : (busy : ℕ) → let d = decoded_at m c.tp in
      (((execute_of c busy m).number ≡ 4) ↔ (¬ (PairBeyond m c) × (¬ (NoCode d) × ControlTouched d)))
      × (((execute_of c busy m).number ≡ 3) ↔ (¬ (PairBeyond m c) × (NoCode d ⊎ (¬ (NoCode d) × (¬ (ControlTouched d) × (¬ (LaterBeyond d m c) × NoSecondPair d m c))))))
      × (((execute_of c busy m).number ≡ 2)
      ↔ (PairBeyond m c
      ⊎ (¬ (PairBeyond m c) × (¬ (NoCode d) × (¬ (ControlTouched d)
      × (LaterBeyond d m c ⊎ (¬ (LaterBeyond d m c) × (¬ (NoSecondPair d m c) × (ReadsBeyond d m c busy ⊎ (¬ (ReadsBeyond d m c busy) × StoresBeyond d m c busy))))))))))
  instruction-words busy =
      let by = Instruction.number-exactly m c busy in
      (by 4, by 3, by 2)
