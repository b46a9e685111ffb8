-- Transfers that meet every premise of demand 3, for every n, at odd and even addresses and by all widths: what shows that no case is empty.
use Rattle.std.specs.Prelude.{Bool, false, [], ◌≡◌, ℕ, ◌+◌, ◌%◌, replicate}
use Rattle.ground_rules.specs.Choice.{pick}
use Rattle.ground_rules.specs.Buffers.{Buffers, buffers}
use Rattle.ground_rules.specs.Values.{pointer}
use Rattle.ground_rules.specs.declared.Channel.{Channel}
use Rattle.ground_rules.specs.declared.State.{State}
use Rattle.ground_rules.specs.States.{fresh_state, channel_of, with_channel}
use Rattle.promises.specs.Cases.{Both8, Both16Even, Both16Odd, From16OddInto8}
use Rattle.promises_blocks.specs.Joined.{Through}
use Rattle.block_rules.specs.Premises.{Copy}
use Rattle.promises.specs.Witness.{running_with}

-- PSW of a running program with XF and these widths, source then destination
abbrev pub psw_of : Bool → Bool → ℕ
psw_of source destination = 0x44 + pick source 2 0 + pick destination 1 0

-- a transfer of n bytes between two addresses of system memory, from GA to GB, CC C008h: both sides move on, TBC 01 (offset 0)
unfoldable pub copying : ℕ → ℕ → Bool → Bool → ℕ → Channel
copying from into from_wide into_wide n = running_with (pointer from false) (pointer into false) 0 (n % 65536) 0xC008 (psw_of from_wide into_wide)

-- so many bytes of system memory, at 0
unfoldable pub zeros_of : ℕ → Buffers
zeros_of size = buffers (replicate size 0) []

-- all of it
abbrev pub zeros : Buffers
zeros = zeros_of 1048576

-- a state with such a channel under its name, the other idle
abbrev pub only_in : Bool → Channel → State
only_in second c = with_channel (fresh_state 0) second c

-- the premises of a case about a transfer can be met: a state, a memory and an n with that first count in BC and such sides; and so can its calls be
-- made, as many transfer steps in a row as the case says
pub record Met (sides : Channel → Type 0) (count steps : ℕ) (second : Bool) : Type 0 where
  pub state : State
  pub memory : Buffers
  pub n : ℕ
  pub copy : Copy n (channel_of state second) memory
  pub first : (channel_of state second).bc ≡ count
  pub such : sides (channel_of state second)
  pub row : Through second n state memory 0 steps

-- those of cases 8 to 11 of the table, of either channel
pub record CasesMet (second : Bool) : Type 0 where
  pub case8 : Met Both8 5 5 second × Met Both16Even 5 3 second
  pub case9 : Met Both16Odd 1 1 second × Met Both16Odd 4 3 second
  pub case10 : Met Both16Even 0 32768 second × Met Both16Odd 0 32769 second
  pub case11 : Met From16OddInto8 2 2 second
