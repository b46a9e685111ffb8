-- The sheet of turns (§5): external ends, ranks and the choice by bits of CC, PSW and the line number, and what an external end leaves.
use Rattle.std.specs.Prelude.{Bool, true, false, not, ◌&&◌, [], ◌∷◌, ◌≡◌, ℕ, ◌/◌, ◌%◌, eqb, ltb, get_or, None}
use Rattle.ground_rules.specs.Choice.{pick}
use Rattle.ground_rules.specs.Buffers.{Buffers}
use Rattle.ground_rules.specs.Conditions.{FieldsDisagree}
use Rattle.ground_rules.specs.States.{channel_of}
use Rattle.ground_rules.specs.declared.Channel.{Channel}
use Rattle.ground_rules.specs.declared.Mode.{Mode}
use Rattle.ground_rules.specs.declared.Mode.TheVariants.{Idle, Running, Suspended}
use Rattle.ground_rules.specs.declared.State.{State}
use Rattle.turn_rules.specs.declared.Choice.{Choice}
use Rattle.turn_rules.specs.declared.Choice.TheVariants.{Nobody, Ends, Steps}
use Rattle.turn_rules.specs.Choosing.{choice_of}
use Rattle.turn_rules.specs.Step.{step_of}
use Rattle.promises.specs.SheetWords.{bit, pointer_on}
use Rattle.promises_sheet.specs.SheetOperands.{ran_channel}

-- a channel runs
abbrev pub runs_in : Mode → Bool
runs_in Idle = false
runs_in Running = true
runs_in Suspended = false

-- it has an external end: XF, TX (bits 6-5 of CC) other than 00, and its EXT up (§5.2)
abbrev pub ends_in : Channel → ℕ → Bool
ends_in c ext = runs_in c.mode && eqb (bit c.psw 6) 1 && not (eqb (c.cc / 32 % 4) 0) && eqb ext 1

-- its rank, 4 for none (§5.3): with XF by SYN, bits 12-11 of CC, and its DRQ; without, by bit 8 of CC
abbrev pub rank_in : Channel → ℕ → ℕ
rank_in c drq =
    pick (runs_in c.mode)
    (pick (eqb (bit c.psw 6) 1)
    (get_or (1 ∷ pick (eqb drq 1) 1 4 ∷ pick (eqb drq 1) 1 4 ∷ 1 ∷ []) (c.cc / 2048 % 4) 4)
    (pick (eqb (bit c.cc 8) 1) 1 3))
    4

-- whether channel 2 goes, by ranks, priorities (bit 7 of PSW) and the last (§5.4)
abbrev pub second_goes : ℕ → ℕ → ℕ → ℕ → Bool → Bool
second_goes rank₁ rank₂ psw₁ psw₂ last =
    pick (ltb rank₁ rank₂) false
    (pick (ltb rank₂ rank₁) true
    (pick (eqb (bit psw₁ 7) 1 && not (eqb (bit psw₂ 7) 1)) false
    (pick (eqb (bit psw₂ 7) 1 && not (eqb (bit psw₁ 7) 1)) true (not last))))

-- the choice: bits 2 and 3 of the line number are the EXT of the channels, bits 0 and 1 their DRQ (§5.1)
abbrev pub choice_in : State → ℕ → Choice
choice_in s lines =
    pick (ends_in s.first (bit lines 2)) (Ends false)
    (pick (ends_in s.second (bit lines 3)) (Ends true)
    (pick (eqb (rank_in s.first (bit lines 0)) 4 && eqb (rank_in s.second (bit lines 1)) 4) Nobody
    (Steps (second_goes (rank_in s.first (bit lines 0)) (rank_in s.second (bit lines 1)) s.first.psw s.second.psw s.last))))

-- the offset of an end's code: 01, 10, 11 are 0, 4, 8 (§2.4)
abbrev pub offset_in : ℕ → ℕ
offset_in code = get_or (0 ∷ 0 ∷ 4 ∷ 8 ∷ []) code 0

-- the channel after an external end (§5.2); a held byte is dropped
pub record ExternalLeft (before after : Channel) : Type 0 where
  pub tp : after.tp ≡ pointer_on before.tp (offset_in (before.cc / 32 % 4))
  pub status : (k : ℕ) → bit after.psw k ≡ pick (eqb k 6) 0 (bit before.psw k)
  pub ga : after.ga ≡ before.ga
  pub gb : after.gb ≡ before.gb
  pub gc : after.gc ≡ before.gc
  pub pp : after.pp ≡ before.pp
  pub bc : after.bc ≡ before.bc
  pub ix : after.ix ≡ before.ix
  pub cc : after.cc ≡ before.cc
  pub fields : after.fields ≡ before.fields
  pub mc : after.mc ≡ before.mc
  pub mode : after.mode ≡ before.mode
  pub mark : after.armed ≡ before.armed
  pub held : after.held ≡ None

-- a step call; where the fields are not those of CC no choice is made, since 14 refuses it
pub record TurnSheet (s : State) (m : Buffers) (lines : ℕ) : Type 0 where
  pub choice : ¬ (FieldsDisagree s) → choice_of s lines ≡ choice_in s lines
  pub external : (second : Bool) → (step_of s m lines).number ≡ 0 → choice_of s lines ≡ Ends second
      → ExternalLeft (channel_of s second) (ran_channel second s m lines) × ((step_of s m lines).memory ≡ m)
