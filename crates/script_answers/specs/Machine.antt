-- What a call makes of the machine: its state and the bytes that are lent.
use Rattle.std.specs.Prelude.{Bool, true, false, List, [], ℕ, ◌+◌, leb, length, replicate}
use Rattle.ground_rules.specs.Choice.{pick}
use Rattle.ground_rules.specs.Buffers.{Buffers, buffers}
use Rattle.ground_rules.specs.declared.State.{State}
use Rattle.ground_rules.specs.States.{reset_state, fresh_of}
use Rattle.attention_rules.specs.Attention.{attention_of}
use Rattle.attention_rules.specs.Power.{power_up_of}
use Rattle.turn_rules.specs.Step.{step_of}
use Rattle.sweep_rules.specs.Sweep.{sweep_of}
use Rattle.prom_rules.specs.Load.{load_of}
use Rattle.script_text.specs.declared.text.ScriptCall.{ScriptCall}
use Rattle.script_text.specs.declared.text.ScriptCall.TheVariants.{Nothing, Unknown, Make, Put, Set, Attention, Step, Dump, Show, Listing, Load, Reset, PowerUp, Sweep}
use Rattle.script_answers.specs.declared.NotMade.{NotMade}
use Rattle.script_answers.specs.declared.NotMade.TheVariants.{NoCall, PastTheEnd, NoPart}
use Rattle.script_text.specs.Text.{spanned, fourth_span}
use Rattle.script_text.specs.Registers.{with_named}
use Rattle.script_text.specs.Buffers.{bytes_written, has_room}

-- the state and both memories
pub record Machine : Type 0 where
  pub state : State
  pub memory : Buffers

abbrev pub machine : State → Buffers → Machine
machine s m = record { state = s; memory = m }

-- `make`, in buffers that have their new lengths: all bytes 0, and a fresh state
unfoldable pub remade : Buffers → ℕ → Machine
remade m cp = machine (fresh_of cp).state (buffers (replicate (length m.sys) 0) (replicate (length m.io) 0))

-- a buffer after `put`; as it was where a byte would lie past its end
unfoldable pub put_of : List ℕ → ℕ → List ℕ → List ℕ
put_of s at digits = pick (has_room s at digits) (bytes_written s at digits) s

-- both memories after `put`: SPACE 1 is I/O memory, 0 system memory
unfoldable pub put_into : Buffers → Bool → ℕ → List ℕ → Buffers
put_into m io at digits = pick io (buffers m.sys (put_of m.io at digits)) (buffers (put_of m.sys at digits) m.io)

-- `ca`
unfoldable pub machine_attended : State → Buffers → ℕ → Machine
machine_attended s m channel = machine (attention_of s m channel).state (attention_of s m channel).memory

-- `step`
unfoldable pub machine_advanced : State → Buffers → ℕ → Machine
machine_advanced s m lines = machine (step_of s m lines).state (step_of s m lines).memory

-- `prom`: the file goes into system memory, whole or not at all
unfoldable pub machine_loaded : State → Buffers → List ℕ → Machine
machine_loaded s m file = machine s (buffers (load_of file (buffers m.sys [])).memory.sys m.io)

-- `power`
unfoldable pub machine_powered : State → Buffers → Machine
machine_powered s m = machine (power_up_of s m).state (power_up_of s m).memory

-- `sweep`
unfoldable pub machine_swept : State → Buffers → ℕ → ℕ → Machine
machine_swept s m channel lines = machine (sweep_of s m channel lines).state (sweep_of s m channel lines).memory

-- a part of a buffer that `list` lists: one byte to 1,024, none past the end
unfoldable pub is_part : List ℕ → ℕ → ℕ → Bool
is_part s at count = pick (leb 1 count) (pick (leb count 1024) (leb (at + count) (length s)) false) false

-- what the call of a line makes of the machine; `line` is its line, for `prom` the file that follows it
unfoldable pub call_performed : ScriptCall → List ℕ → State → Buffers → Machine
call_performed Nothing line s m = machine s m
call_performed Unknown line s m = machine s m
call_performed (Make sys io cp) line s m = remade m cp
call_performed (Put space address) line s m = machine s (put_into m space address (spanned line (fourth_span line)))
call_performed (Set channel register value) line s m = machine (with_named s channel register value) m
call_performed (Attention channel) line s m = machine_attended s m channel
call_performed (Step lines) line s m = machine_advanced s m lines
call_performed Dump line s m = machine s m
call_performed (Show space address) line s m = machine s m
call_performed (Listing space address count) line s m = machine s m
call_performed Load line s m = machine_loaded s m line
call_performed Reset line s m = machine reset_state m
call_performed PowerUp line s m = machine_powered s m
call_performed (Sweep channel lines) line s m = machine_swept s m channel lines

-- whether a line's call was made: no call at all was not, no `put` past its buffer's end, and no `list` of what is no part
unfoldable pub call_made : ScriptCall → List ℕ → Buffers → Bool
call_made Nothing line m = true
call_made Unknown line m = false
call_made (Make sys io cp) line m = true
call_made (Put space address) line m = has_room (pick space m.io m.sys) address (spanned line (fourth_span line))
call_made (Set channel register value) line m = true
call_made (Attention channel) line m = true
call_made (Step lines) line m = true
call_made Dump line m = true
call_made (Show space address) line m = true
call_made (Listing space address count) line m = is_part (pick space m.io m.sys) address count
call_made Load line m = true
call_made Reset line m = true
call_made PowerUp line m = true
call_made (Sweep channel lines) line m = true

-- why it was not, where it was not
unfoldable pub not_made : ScriptCall → NotMade
not_made (Put space address) = PastTheEnd
not_made (Listing space address count) = NoPart
not_made call = NoCall
