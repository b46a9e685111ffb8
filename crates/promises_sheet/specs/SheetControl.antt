-- The sheet of NOP, SINTR, XFER, WID and HLT (§6.19 to §6.21), bit by bit.
use Rattle.std.specs.Prelude.{Bool, false, not, ◌&&◌, ◌||◌, [], ◌∷◌, ◌≡◌, ℕ, ◌+◌, eqb}
use Rattle.ground_rules.specs.Choice.{pick}
use Rattle.ground_rules.specs.Buffers.{Buffers}
use Rattle.ground_rules.specs.States.{channel_of}
use Rattle.ground_rules.specs.declared.Channel.{Channel}
use Rattle.ground_rules.specs.declared.Mode.{Mode}
use Rattle.ground_rules.specs.declared.Mode.TheVariants.{Idle}
use Rattle.ground_rules.specs.declared.State.{State}
use Rattle.turn_rules.specs.Step.{step_of}
use Rattle.promises.specs.SheetWords.{bit, register_values, tags_of}
use Rattle.promises_sheet.specs.SheetAttention.{busy_place}
use Rattle.promises_sheet.specs.SheetOperands.{PairRan, ran_channel, registers_at, past_by, BytesLeft}

-- TP is past the pair and no other register changes; PSW bit by bit, mode and mark as given
pub record ControlDone (before after : Channel) (bits : ℕ → ℕ) (state : Mode) (armed : Bool) : Type 0 where
  pub values : register_values after ≡ registers_at before (past_by before 2) before.ix
  pub tags : tags_of after ≡ tags_of before
  pub pp : after.pp ≡ before.pp
  pub status : (k : ℕ) → bit after.psw k ≡ bits k
  pub mode : after.mode ≡ state
  pub mark : after.armed ≡ armed

-- PSW once a mark is used up: XF is 1, every other bit as it was
abbrev pub marks_up : Channel → ℕ → ℕ
marks_up c k = pick (c.armed && eqb k 6) 1 (bit c.psw k)

module _ (second : Bool) (s : State) (m : Buffers) (lines : ℕ) where
  -- the channel before
  abbrev was : Channel
  was = channel_of s second

  -- PSW, mode and mark become these
  abbrev pub Controls : (ℕ → ℕ) → Mode → Bool → Type 0
  Controls bits mode armed = ControlDone was (ran_channel second s m lines) bits mode armed

  -- no byte changes
  abbrev pub Still : Type 0
  Still = (step_of s m lines).memory ≡ m

  -- a done instruction of a channel
  pub record ControlSheet : Type 0 where
    -- NOP
    pub nop : PairRan second s m lines 0 0 0 0 0x00 0
        → Controls (marks_up was) was.mode false
        × Still
    -- SINTR: IS, bit 4, is 1 where IC, bit 3, is
    pub sintr : PairRan second s m lines 2 0 0 0 0x00 0
        → Controls
        (λ k. pick (eqb (bit was.psw 3) 1 && eqb k 4) 1 (marks_up was k)) was.mode false
        × Still
    -- XFER sets the mark; with the mark already there it uses it up
    pub xfer : PairRan second s m lines 3 0 0 0 0x00 0
        → Controls (marks_up was) was.mode (not was.armed)
        × Still
    -- WID: S, bit 1 of RRR, is bit 1 of PSW, and D, bit 0, is bit 0
    pub wid : (source destination : Bool) → PairRan second s m lines (4 + pick source 2 0 + pick destination 1 0) 0 0 0 0x00 0
        → Controls
        (λ k. pick (eqb k 0) (pick destination 1 0) (pick (eqb k 1) (pick source 1 0) (marks_up was k))) was.mode false
        × Still
    -- HLT: TB, bit 2, and XF, bit 6, are 0 and the channel is idle; its BUSY is 0
    pub hlt : PairRan second s m lines 1 0 0 0 0x12 0
        → Controls
        (λ k. pick (eqb k 2 || eqb k 6) 0 (bit was.psw k)) Idle false
        × BytesLeft false (busy_place s second) (0 ∷ []) m (step_of s m lines).memory
