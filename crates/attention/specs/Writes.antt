-- What an attention stores, worked out before anything is stored.
use Rattle.std.specs.Prelude.{ℕ, Option, Some, None}
use Rattle.ground_rules.specs.Buffers.{Buffers}
use Rattle.ground_rules.specs.declared.Channel.{Channel}
use Rattle.attention_rules.specs.declared.Command.{Command}
use Rattle.attention_rules.specs.declared.Command.TheVariants.{Update, StartLocal, StartSystem, Suspend, Resume, Halt, Unknown}
use Rattle.attention_rules.specs.Effects.{saved, marked}
use Rattle.attention.specs.declared.Saved.{Saved}
use Rattle.attention.specs.declared.Writes.{Writes}

-- BUSY alone, or not even that
abbrev pub marks_only : ℕ → Option ℕ → Writes
marks_only block busy = record { saved = None; block = block; busy = busy }

-- what a command stores
unfoldable pub writes_of : Command → ℕ → ℕ → Channel → Writes
writes_of Update block pb c = marks_only block None
writes_of StartLocal block pb c = marks_only block (Some 255)
writes_of StartSystem block pb c = marks_only block (Some 255)
writes_of Suspend block pb c = record { saved = Some (record { pb = pb; tp = c.tp; psw = c.psw }); block = block; busy = Some 0 }
writes_of Resume block pb c = marks_only block (Some 255)
writes_of Halt block pb c = marks_only block (Some 0)
writes_of Unknown block pb c = marks_only block None

-- memory after what is saved, if anything is
unfoldable pub saved_by : Buffers → Option Saved → Buffers
saved_by m None = m
saved_by m (Some s) = saved m s.pb s.tp s.psw

-- memory after BUSY, if it is stored
unfoldable pub marked_by : Buffers → ℕ → Option ℕ → Buffers
marked_by m block None = m
marked_by m block (Some busy) = marked m block busy

-- memory after both
unfoldable pub writes_made : Buffers → Writes → Buffers
writes_made m w = marked_by (saved_by m w.saved) w.block w.busy
