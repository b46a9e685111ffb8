-- The sheet of the machine, from its parts.
-- Assumes nothing.
use Rattle.promises_sheet.specs.Sheet.{Sheet}
use Rattle.promises_sheet.proofs.SheetAttention.{attention-sheet}
use Rattle.promises_sheet.proofs.SheetControl.{control-sheet}
use Rattle.promises_sheet.proofs.SheetDone.{done-sheet}
use Rattle.promises.proofs.SheetLaws.{names}
use Rattle.promises_sheet.proofs.SheetMemory.{memory-sheet}
use Rattle.promises_sheet.proofs.SheetRegisters.{register-sheet}
use Rattle.promises_sheet.proofs.SheetHalves.{half-sheet}
use Rattle.promises_sheet.proofs.SheetBetween.{between-sheet}
use Rattle.promises_sheet.proofs.SheetTransfer.{transfer-sheet}
use Rattle.promises_sheet.proofs.SheetTurns.{turn-sheet}

pub sheet : Sheet
sheet = record {
  names = names;
  attention = attention-sheet;
  registers = register-sheet;
  memory = memory-sheet;
  control = control-sheet;
  done = done-sheet;
  turns = turn-sheet;
  transfer = transfer-sheet;
  halves = half-sheet;
  between = between-sheet;
}
