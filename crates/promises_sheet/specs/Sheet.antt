-- The sheet of the machine: what each command of attention, each family of rows of the table of codes, a choice, a transfer step, each half of a
-- pair and the calls between the halves leave, by fields and numbers. It says again what the definitions of the crates below say, in other words, so
-- that a wrong rule meets a theorem here.
use Rattle.std.specs.Prelude.{Bool, ℕ}
use Rattle.ground_rules.specs.Buffers.{Buffers}
use Rattle.ground_rules.specs.declared.State.{State}
use Rattle.promises.specs.SheetWords.{Names}
use Rattle.promises_sheet.specs.SheetAttention.{AttentionSheet}
use Rattle.promises_sheet.specs.SheetRegisters.{RegisterSheet}
use Rattle.promises_sheet.specs.SheetMemory.{MemorySheet}
use Rattle.promises_sheet.specs.SheetControl.{ControlSheet}
use Rattle.promises_sheet.specs.SheetDone.{DoneSheet}
use Rattle.promises_sheet.specs.SheetTurns.{TurnSheet}
use Rattle.promises_sheet.specs.SheetTransfer.{TransferSheet}
use Rattle.promises_sheet.specs.SheetHalves.{HalfSheet}
use Rattle.promises_sheet.specs.SheetBetween.{BetweenSheet}

pub record Sheet : Type 0 where
  pub names : Names
  pub attention : (second : Bool) (s : State) (m : Buffers) → AttentionSheet second s m
  pub registers : (second : Bool) (s : State) (m : Buffers) (lines : ℕ) → RegisterSheet second s m lines
  pub memory : (second : Bool) (s : State) (m : Buffers) (lines : ℕ) → MemorySheet second s m lines
  pub control : (second : Bool) (s : State) (m : Buffers) (lines : ℕ) → ControlSheet second s m lines
  pub done : (second : Bool) (s : State) (m : Buffers) (lines : ℕ) → DoneSheet second s m lines
  pub turns : (s : State) (m : Buffers) (lines : ℕ) → TurnSheet s m lines
  pub transfer : (second : Bool) (s : State) (m : Buffers) (lines : ℕ) → TransferSheet second s m lines
  pub halves : (second : Bool) (s : State) (m : Buffers) (lines : ℕ) → HalfSheet second s m lines
  pub between : BetweenSheet
