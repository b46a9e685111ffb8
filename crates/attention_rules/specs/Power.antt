-- Power-up: what the processor reads of its board in system memory, the bytes that it touches, and its whole outcome (§4.12).
use Rattle.std.specs.Prelude.{true, false, List, [], ◌∷◌, ◌++◌, ℕ}
use Rattle.ground_rules.specs.Bits.{bit_of}
use Rattle.ground_rules.specs.Sums.{sum20}
use Rattle.ground_rules.specs.Buffers.{Buffers, byte_at, store_byte, within_limits}
use Rattle.ground_rules.specs.Places.{Place, span}
use Rattle.ground_rules.specs.Values.{doubleword_at}
use Rattle.ground_rules.specs.Outcomes.{Outcome, unless, first, settled, counted}
use Rattle.ground_rules.specs.Stages.{Stage, stage, stages_number, stages_touched}
use Rattle.ground_rules.specs.States.{board_with, blank_state, busy_in}
use Rattle.ground_rules.specs.declared.Board.{Board}
use Rattle.ground_rules.specs.declared.State.{State}

-- where SYSBUS stands (§4.12)
abbrev pub sysbus_place : ℕ
sysbus_place = 0xFFFF6

-- where the pointer to the configuration block stands (§4.12)
abbrev pub configuration_place : ℕ
configuration_place = 0xFFFF8

-- the configuration block; SOC is its first byte (§4.12)
unfoldable pub configuration_of : Buffers → ℕ
configuration_of m = doubleword_at m false configuration_place

-- where it holds the pointer to the control block (§4.12)
abbrev pub control_place : Buffers → ℕ
control_place m = sum20 (configuration_of m) 2

-- the control block, which is CP (§4.12)
unfoldable pub control_of : Buffers → ℕ
control_of m = doubleword_at m false (control_place m)

-- what the board set up: SYSBUS bit 0, SOC bit 0 and SOC bit 1 (§2.10)
unfoldable pub board_of : Buffers → Board
board_of m =
    board_with true
    (bit_of (byte_at m false sysbus_place) 0)
    (bit_of (byte_at m false (configuration_of m)) 0)
    (bit_of (byte_at m false (configuration_of m)) 1)

-- its eleven bytes: SYSBUS, the two pointers and SOC are read, then BUSY of channel 1, whose block the control block begins with, is stored (§4.12)
unfoldable pub power_places : Buffers → List Place
power_places m =
    span false sysbus_place 1
    ++ (span false configuration_place 4
    ++ (span false (configuration_of m) 1
    ++ (span false (control_place m) 4
    ++ span false (busy_in (control_of m)) 1)))

-- all of them are asked for at once, and nothing else is judged
unfoldable pub power_stages : Buffers → List Stage
power_stages m = stage (power_places m) 0 ∷ []

-- the bytes that a power-up touches, each access once (§3.8)
unfoldable pub touched_by_power : Buffers → List Place
touched_by_power m = stages_touched (power_stages m)

-- its number: 11, then 2; the given state is not looked at (§4.12)
unfoldable pub power_number : Buffers → ℕ
power_number m = first (unless (within_limits m) 11) (stages_number m (power_stages m))

-- the state that it leaves: the fresh one of the CP found, with what the board set up (§4.12)
unfoldable pub found_state : Buffers → State
found_state m = blank_state (control_of m) (board_of m)

-- and memory, with BUSY of channel 1 cleared (§4.12)
unfoldable pub found_memory : Buffers → Buffers
found_memory m = store_byte m false (busy_in (control_of m)) 0

-- what a power-up leaves
unfoldable pub power_up_of : State → Buffers → Outcome
power_up_of s m = settled (power_number m) s m (found_state m) (found_memory m)

-- how many bytes it reads and stores; none where it is refused (§3.8)
unfoldable pub power_count : Buffers → ℕ
power_count m = counted (power_number m) (touched_by_power m)
