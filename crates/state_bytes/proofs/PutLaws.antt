-- A block whose fields of CC are put only where CC changed is the whole block, where they agree with CC before and after.
-- Assumes nothing.
use Prim.Native.Nat.{ℕ}
use lib.Seq.{sets}
use mathlib.Core.Bool.{Bool, true}
use mathlib.Core.List.{List, [], ◌∷◌}
use mathlib.Core.Path.{◌≡◌}
use Rattle.ground_rules.specs.States.{agree, fields_agree, with_channel, with_last}
use Rattle.ground_rules.specs.declared.Channel.{Channel}
use Rattle.state_rules.specs.Conditions.{Bytes, ChannelFits}
use Rattle.state_rules.specs.Fields.{flag_of}
use Rattle.state_rules.specs.Layout.{last_place, bytes_of, state_in, is_state, block_from}
use Rattle.state_rules.proofs.BlockLaws.{put-turned}
use Rattle.state_bytes.specs.Puts.{front_bytes, put_agreeing}

pub turned-put : (b : List ℕ) (byte : Bytes b) (h : is_state b ≡ true) (second : Bool) (c : Channel) → ChannelFits c → agree (state_in b) ≡ true → fields_agree c ≡ true
    → (x : List ℕ) → x ≡ sets (put_agreeing b (block_from second) c) last_place (flag_of second ∷ [])
    → (x ≡ bytes_of (with_last (with_channel (state_in b) second c) second)) × (state_in x ≡ with_last (with_channel (state_in b) second c) second)
unfolding put_agreeing front_bytes
turned-put = put-turned
