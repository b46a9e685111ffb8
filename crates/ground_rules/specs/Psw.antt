-- PSW (§2.3): 0 destination width, 1 source width (1 = 16 bits), 2 TB program running, 3 IC, 4 IS, 5 load limit, 6 XF transfer, 7 priority.
use Rattle.std.specs.Prelude.{Bool, ◌&&◌, ℕ, ltb}
use Rattle.ground_rules.specs.Choice.{pick}
use Rattle.ground_rules.specs.Bits.{bit_of, with_bit}

-- bit 0: the destination is 16 bits wide
abbrev pub destination_wide : ℕ → Bool
destination_wide psw = bit_of psw 0

-- bit 1: the source is 16 bits wide
abbrev pub source_wide : ℕ → Bool
source_wide psw = bit_of psw 1

-- bit 2, TB: the task block program is running
abbrev pub program_running : ℕ → Bool
program_running psw = bit_of psw 2

-- bit 3, IC: interrupts are allowed
abbrev pub interrupt_control : ℕ → Bool
interrupt_control psw = bit_of psw 3

-- bit 4, IS: an interrupt is asked for
abbrev pub interrupt_service : ℕ → Bool
interrupt_service psw = bit_of psw 4

-- bit 5: the load limit, stored only
abbrev pub load_limit : ℕ → Bool
load_limit psw = bit_of psw 5

-- bit 6, XF: a transfer is under way
abbrev pub transferring : ℕ → Bool
transferring psw = bit_of psw 6

-- bit 7: priority
abbrev pub priority : ℕ → Bool
priority psw = bit_of psw 7

-- the interrupt line that a host reads (§10.2): up while IS, bit 4, and IC, bit 3, are both 1
unfoldable pub interrupt_line : ℕ → Bool
interrupt_line psw = interrupt_service psw && interrupt_control psw

-- PSW with one bit as `on` says; it has eight
unfoldable pub with_psw : ℕ → ℕ → Bool → ℕ
with_psw psw at on = pick (ltb at 8) (with_bit psw at on) psw
