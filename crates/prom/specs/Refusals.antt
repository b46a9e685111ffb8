-- Why a file is not read, in the numbers of the call.
use Rattle.std.specs.Prelude.{ℕ, eqb, Option, Some, None, Result, Ok, Err}
use Rattle.ground_rules.specs.Buffers.{Buffers}
use Rattle.ground_rules.specs.Choice.{pick}
use Rattle.prom_rules.specs.File.{File}
use Rattle.prom_rules.specs.Load.{Loading, loading, beyond_line}
use Rattle.prom.specs.declared.refusals.LoadRefusal.{LoadRefusal}
use Rattle.prom.specs.declared.refusals.Reason.{Reason}
use Rattle.prom.specs.declared.refusals.Reason.TheVariants.{BeyondMemory, LongMemory, NoRecord, WrongSum, WrongType, NoEnd}

-- the number of a refusal (§12.3)
abbrev pub reason_number : Reason → ℕ
reason_number BeyondMemory = 2
reason_number LongMemory = 11
reason_number NoRecord = 20
reason_number WrongSum = 21
reason_number WrongType = 22
reason_number NoEnd = 23

-- what a call leaves, told by its answer: a start address, or a refusal
abbrev pub loading_by : Result ℕ LoadRefusal → Buffers → Loading
loading_by (Ok start) m = loading 0 start 0 m
loading_by (Err r) m = loading (reason_number r.why) 0 r.line m

-- a good file judged: its start address, or 2 where a line reaches beyond memory, one found before or its own first
abbrev pub placed_of : Buffers → Option ℕ → File → Loading
placed_of m None f = pick (eqb (beyond_line m f.stores) 0) (loading 0 f.start 0 m) (loading 2 0 (beyond_line m f.stores) m)
placed_of m (Some line) f = loading 2 0 line m

-- a file judged before a byte is stored: its own number comes first (§12.3)
unfoldable pub judged_of : Buffers → Option ℕ → File → Loading
judged_of m before f = pick (eqb f.number 0) (placed_of m before f) (loading f.number 0 f.line m)
