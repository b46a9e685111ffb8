-- The whole state (§2.7): a fresh one, one after reset, a sound one, and its channels, channel 1 named by false and channel 2 by true.
use Rattle.std.specs.Prelude.{Bool, true, false, ◌&&◌, ◌||◌, ℕ, ltb, eqb, None}
use Rattle.ground_rules.specs.Choice.{pick}
use Rattle.ground_rules.specs.Sums.{sum20}
use Rattle.ground_rules.specs.Values.{pointer}
use Rattle.ground_rules.specs.Cc.{split, same_fields}
use Rattle.ground_rules.specs.declared.Mode.{Mode}
use Rattle.ground_rules.specs.declared.Mode.TheVariants.{Idle, Running, Suspended}
use Rattle.ground_rules.specs.declared.Channel.{Channel}
use Rattle.ground_rules.specs.declared.State.{State}
use Rattle.ground_rules.specs.declared.Made.{Made}
use Rattle.ground_rules.specs.declared.Board.{Board}

-- a channel with all at 0 and idle; the fields are those of CC 0, and no byte is held
unfoldable pub idle_channel : Channel
idle_channel =
    record {
      ga = pointer 0 false;
      gb = pointer 0 false;
      gc = pointer 0 false;
      tp = pointer 0 false;
      pp = 0;
      bc = 0;
      ix = 0;
      cc = 0;
      mc = 0;
      psw = 0;
      mode = Idle;
      armed = false;
      fields = split 0;
      held = None;
    }

-- what the board set up: powered up or not, SYSBUS bit 0 and SOC bit 0, the physical widths of the system and of the I/O bus, and SOC bit 1
abbrev pub board_with : Bool → Bool → Bool → Bool → Board
board_with powered sysbus soc grant = record { powered = powered; sysbus = sysbus; soc = soc; grant = grant }

-- a state of which only CP and what the board set up are known (§2.8): all else is 0 or idle, and channel 2 is last
abbrev pub blank_state : ℕ → Board → State
blank_state cp set = record { first = idle_channel; second = idle_channel; cp = cp; last = true; board = set }

-- a fresh state, made from a CP: it counts as powered up, and the three bits are 0
unfoldable pub fresh_state : ℕ → State
fresh_state cp = blank_state cp (board_with true false false false)

-- the state after reset: that of CP 0, not powered up
unfoldable pub reset_state : State
reset_state = blank_state 0 (board_with false false false false)

-- a CP of more than 20 bits is answered by 10 and the fresh state of CP 0
unfoldable pub fresh_of : ℕ → Made
fresh_of cp = pick (ltb cp 1048576) (record { number = 0; state = fresh_state cp }) (record { number = 10; state = fresh_state 0 })

-- the channel of a name
unfoldable pub channel_of : State → Bool → Channel
channel_of s second = pick second s.second s.first

-- the state with a channel put back under its name
unfoldable pub with_channel : State → Bool → Channel → State
with_channel s second c =
    record { first = pick second s.first c; second = pick second c s.second; cp = s.cp; last = s.last; board = s.board }

-- the state with the channel that stepped last
unfoldable pub with_last : State → Bool → State
with_last s second = record { first = s.first; second = s.second; cp = s.cp; last = second; board = s.board }

-- no pointer, nor PP, of a channel is 1,048,576 or more
unfoldable pub sound_channel : Channel → Bool
sound_channel c =
    ltb c.ga.address 1048576
    && ltb c.gb.address 1048576
    && ltb c.gc.address 1048576
    && ltb c.tp.address 1048576
    && ltb c.pp 1048576

-- a sound state (§2.9): both channels are, and CP is below 1,048,576
unfoldable pub sound : State → Bool
sound s = sound_channel s.first && sound_channel s.second && ltb s.cp 1048576

-- the fields of a channel are those of its CC
unfoldable pub fields_agree : Channel → Bool
fields_agree c = same_fields c.fields (split c.cc)

-- a state that agrees (§2.12): both channels do, whatever their modes
unfoldable pub agree : State → Bool
agree s = fields_agree s.first && fields_agree s.second

-- the channel is running; the mode alone says so (§2.6)
unfoldable pub is_running : Mode → Bool
is_running Idle = false
is_running Running = true
is_running Suspended = false

-- the channel is suspended
unfoldable pub is_suspended : Mode → Bool
is_suspended Idle = false
is_suspended Running = false
is_suspended Suspended = true

-- the number of a mode, where states are stored and written
abbrev pub mode_code : Mode → ℕ
mode_code Idle = 0
mode_code Running = 1
mode_code Suspended = 2

-- the mode of a number
abbrev pub mode_coded : ℕ → Mode
mode_coded n = pick (eqb n 0) Idle (pick (eqb n 1) Running Suspended)

-- where a channel's control block begins: at CP, for channel 2 at CP + 8 (§4.1)
unfoldable pub block_of : State → Bool → ℕ
block_of s second = pick second (sum20 s.cp 8) s.cp

-- BUSY is the second byte of a block (§4.1)
unfoldable pub busy_in : ℕ → ℕ
busy_in block = sum20 block 1

-- the numbers 1 and 2 name a channel (else 12)
unfoldable pub is_channel : ℕ → Bool
is_channel number = eqb number 1 || eqb number 2

-- channel 2's number names it
unfoldable pub is_second : ℕ → Bool
is_second number = eqb number 2

-- the number of a channel
unfoldable pub channel_number : Bool → ℕ
channel_number second = pick second 2 1
