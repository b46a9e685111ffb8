-- What an accepted command makes of the channel and of memory (§4.3 to §4.9).
use Rattle.std.specs.Prelude.{true, false, ℕ, ◌+◌}
use Rattle.ground_rules.specs.Buffers.{Buffers, byte_at, store_byte}
use Rattle.ground_rules.specs.Values.{word_at, doubleword_at, pointer, pointer_at, store_pointer}
use Rattle.ground_rules.specs.declared.Pointer.{Pointer}
use Rattle.ground_rules.specs.Updates.{with_control, dropped, stopped_psw, halted}
use Rattle.ground_rules.specs.Psw.{with_psw}
use Rattle.ground_rules.specs.declared.Channel.{Channel}
use Rattle.ground_rules.specs.States.{busy_in}
use Rattle.ground_rules.specs.declared.Mode.TheVariants.{Running, Suspended}
use Rattle.attention_rules.specs.declared.Command.{Command}
use Rattle.attention_rules.specs.declared.Command.TheVariants.{Update, StartLocal, StartSystem, Suspend, Resume, Halt, Unknown}
use Rattle.attention_rules.specs.declared.Order.{Order}
use Rattle.attention_rules.specs.Commands.{ordered}

-- a channel with another PSW, and no other change
abbrev pub only_psw : Channel → ℕ → Channel
only_psw c psw = with_control c c.tp c.pp psw c.mode c.armed

-- start: PP and TP are new; running, TB 1, XF 0, without the mark; a held byte is dropped
unfoldable pub started : Channel → ℕ → Pointer → Channel
started c pp tp = dropped (with_control c tp pp (with_psw (with_psw c.psw 2 true) 6 false) Running false)

-- suspend: TB and XF 0, the mark stays, and so does a held byte
unfoldable pub suspended : Channel → Channel
suspended c = with_control c c.tp c.pp (stopped_psw c.psw) Suspended c.armed

-- resume: TP and PSW as they were saved, but that TB is 1; running, the mark stays, and so does a held byte
unfoldable pub resumed : Channel → Pointer → ℕ → Channel
resumed c tp psw = with_control c tp c.pp (with_psw psw 2 true) Running c.armed

-- what each command makes of its channel: 000 leaves it, a held byte too; 001 takes TP from PB's first word, with tag 1, and 011 from its first two as a doubleword pointer, with tag 0
unfoldable pub commanded : Command → Buffers → ℕ → Channel → Channel
commanded Update m pb c = c
commanded StartLocal m pb c = started c pb (pointer (word_at m false pb) true)
commanded StartSystem m pb c = started c pb (pointer (doubleword_at m false pb) false)
commanded Suspend m pb c = suspended c
commanded Resume m pb c = resumed c (pointer_at m false pb) (byte_at m false (pb + 3))
commanded Halt m pb c = halted c
commanded Unknown m pb c = c

-- the channel after an accepted order: what every command does to PSW comes last (§4.3)
unfoldable pub channel_ordered : Buffers → Order → Channel → Channel
channel_ordered m o c =
    let k = commanded o.command m o.pb c in
    only_psw k (ordered o.ccw k.psw)

-- TP in its stored form and then PSW, as they were before this command, in PB's first four bytes (§4.6)
unfoldable pub saved : Buffers → ℕ → Pointer → ℕ → Buffers
saved m pb tp psw = store_byte (store_pointer m false pb tp) false (pb + 3) psw

-- BUSY stored
unfoldable pub marked : Buffers → ℕ → ℕ → Buffers
marked m block busy = store_byte m false (busy_in block) busy

-- memory after each command: suspend saves; BUSY is FFh after a start and resume, 0 after suspend and halt; 000 stores nothing
unfoldable pub stored_memory : Command → Buffers → ℕ → ℕ → Channel → Buffers
stored_memory Update m block pb c = m
stored_memory StartLocal m block pb c = marked m block 255
stored_memory StartSystem m block pb c = marked m block 255
stored_memory Suspend m block pb c = marked (saved m pb c.tp c.psw) block 0
stored_memory Resume m block pb c = marked m block 255
stored_memory Halt m block pb c = marked m block 0
stored_memory Unknown m block pb c = m
