-- The mark of XFER: an instruction sets it, and the next one that is done uses it up and so starts the transfer (§6.20).
use Rattle.std.specs.Prelude.{Bool, true, false, not, ℕ}
use Rattle.ground_rules.specs.Choice.{pick}
use Rattle.ground_rules.specs.Values.{onward}
use Rattle.ground_rules.specs.declared.Channel.{Channel}
use Rattle.ground_rules.specs.Psw.{with_psw}
use Rattle.ground_rules.specs.Updates.{renewed, dropped}

-- PSW once a mark is used up: XF is 1
unfoldable pub used_up : Bool → ℕ → ℕ
used_up armed psw = pick armed (with_psw psw 6 true) psw

-- a channel as each instruction finds it, n being its bytes: TP is past it, the mark that was there is used up, and a held byte is dropped (§7.14)
unfoldable pub past_instruction : Channel → ℕ → Channel
past_instruction c n = dropped (renewed c (onward c.tp n) c.ix (used_up c.armed c.psw) c.mode false)

-- what XFER then makes of it: it sets the mark, unless it was itself the instruction that used one up
unfoldable pub mark_set : Channel → Bool → Channel
mark_set c armed = renewed c c.tp c.ix c.psw c.mode (not armed)
