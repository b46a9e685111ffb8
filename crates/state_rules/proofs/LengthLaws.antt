-- How long each part of a state is in bytes.
-- Assumes nothing.
use Prim.Native.Nat.{ℕ, zero, suc, ◌/◌}
use lib.ListN.{length}
use mathlib.Core.Path.{◌≡◌, refl, ap}
use Rattle.ground_rules.specs.declared.Pointer.{Pointer}
use Rattle.ground_rules.specs.declared.Board.{Board}
use Rattle.ground_rules.specs.declared.Channel.{Channel}
use Rattle.ground_rules.specs.declared.State.{State}
use Rattle.state_rules.specs.Fields.{little_end}
use Rattle.state_rules.specs.Layout.{pointer_bytes, fields_bytes, channel_bytes, board_bytes, bytes_of, state_length}

-- a number has as many bytes as its width says
pub length-little : (width n : ℕ) → length (little_end width n) ≡ width
unfolding little_end
length-little zero n = refl
length-little (suc width) n = ap suc (length-little width (n / 256))

pub length-pointer : (p : Pointer) → length (pointer_bytes p) ≡ 5
unfolding pointer_bytes little_end
length-pointer p = refl

pub length-channel : (c : Channel) → length (channel_bytes c) ≡ 47
unfolding channel_bytes pointer_bytes fields_bytes little_end
length-channel c = refl

pub length-board : (b : Board) → length (board_bytes b) ≡ 4
unfolding board_bytes
length-board b = refl

pub length-state : (s : State) → length (bytes_of s) ≡ state_length
unfolding bytes_of board_bytes channel_bytes pointer_bytes fields_bytes little_end
length-state s = refl
