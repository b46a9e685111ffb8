-- CCW (§4.2): its command, what that asks of the channel's mode (§3.5), and what every accepted command does to PSW (§4.3).
use Rattle.std.specs.Prelude.{Bool, true, false, not, ℕ, eqb}
use Rattle.ground_rules.specs.Choice.{pick}
use Rattle.ground_rules.specs.Bits.{field_of, bit_of}
use Rattle.ground_rules.specs.Outcomes.{unless, first}
use Rattle.ground_rules.specs.Psw.{with_psw}
use Rattle.ground_rules.specs.States.{is_running, is_suspended}
use Rattle.ground_rules.specs.declared.Mode.{Mode}
use Rattle.attention_rules.specs.declared.Command.{Command}
use Rattle.attention_rules.specs.declared.Command.TheVariants.{Update, StartLocal, StartSystem, Suspend, Resume, Halt, Unknown}

-- bits 2-0
abbrev pub code_of : ℕ → ℕ
code_of ccw = field_of ccw 0 3

-- 000 changes PSW alone, 001 and 011 start, 101 resume, 110 suspend, 111 halt; 010 and 100 are none
unfoldable pub command_coded : ℕ → Command
command_coded code =
    pick (eqb code 0) Update
    (pick (eqb code 1) StartLocal
    (pick (eqb code 3) StartSystem
    (pick (eqb code 5) Resume
    (pick (eqb code 6) Suspend
    (pick (eqb code 7) Halt Unknown)))))

-- the command of a CCW
abbrev pub command_of : ℕ → Command
command_of ccw = command_coded (code_of ccw)

-- a code that is a command (else 6)
unfoldable pub is_known : Command → Bool
is_known Update = true
is_known StartLocal = true
is_known StartSystem = true
is_known Suspend = true
is_known Resume = true
is_known Halt = true
is_known Unknown = false

-- 7 for resume unless the channel is suspended, 8 for a start while it runs, 9 for suspend unless it runs
unfoldable pub mode_number : Command → Mode → ℕ
mode_number Update mode = 0
mode_number StartLocal mode = unless (not (is_running mode)) 8
mode_number StartSystem mode = unless (not (is_running mode)) 8
mode_number Suspend mode = unless (is_running mode) 9
mode_number Resume mode = unless (is_suspended mode) 7
mode_number Halt mode = 0
mode_number Unknown mode = 0

-- the refusal of a command: 6, then 7, 8 or 9
unfoldable pub command_number : Command → Mode → ℕ
command_number command mode = first (unless (is_known command) 6) (mode_number command mode)

-- first bits 5 and 7 of CCW are copied into PSW
unfoldable pub copied : ℕ → ℕ → ℕ
copied ccw psw = with_psw (with_psw psw 5 (bit_of ccw 5)) 7 (bit_of ccw 7)

-- then ICF is obeyed: 01 clears IS, 10 sets IC, 11 clears both
unfoldable pub obeyed : ℕ → ℕ → ℕ
obeyed ccw psw =
    pick (eqb (field_of ccw 3 2) 1) (with_psw psw 4 false)
    (pick (eqb (field_of ccw 3 2) 2) (with_psw psw 3 true)
    (pick (eqb (field_of ccw 3 2) 3) (with_psw (with_psw psw 4 false) 3 false) psw))

-- what every accepted command does to PSW, after all that it does itself
unfoldable pub ordered : ℕ → ℕ → ℕ
ordered ccw psw = obeyed ccw (copied ccw psw)
