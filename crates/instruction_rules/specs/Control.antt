-- NOP, SINTR, XFER, WID and HLT.
use Rattle.std.specs.Prelude.{Bool, true, false, [], ℕ}
use Rattle.ground_rules.specs.Choice.{pick}
use Rattle.ground_rules.specs.Values.{pointer}
use Rattle.ground_rules.specs.declared.Channel.{Channel}
use Rattle.ground_rules.specs.Psw.{interrupt_control, with_psw}
use Rattle.ground_rules.specs.Updates.{renewed, halted}
use Rattle.instruction_rules.specs.Marks.{mark_set}
use Rattle.instruction_rules.specs.Changes.{nothing, byte_to}
use Rattle.instruction_rules.specs.Deeds.{Deed, deed}

-- a channel with another PSW
unfoldable pub with_status : Channel → ℕ → Channel
with_status c psw = renewed c c.tp c.ix psw c.mode c.armed

-- NOP
unfoldable pub nop_deed : Channel → Deed
nop_deed c = deed [] c nothing

-- SINTR sets IS where IC is 1 (§6.19)
unfoldable pub sintr_deed : Channel → Deed
sintr_deed c = deed [] (with_status c (pick (interrupt_control c.psw) (with_psw c.psw 4 true) c.psw)) nothing

-- XFER sets the mark, by the rule of marks; `armed` is whether there was one
unfoldable pub xfer_deed : Channel → Bool → Deed
xfer_deed c armed = deed [] (mark_set c armed) nothing

-- WID puts S into PSW bit 1 and D into bit 0 (§6.19)
unfoldable pub wid_deed : Channel → Bool → Bool → Deed
wid_deed c source destination = deed [] (with_status c (with_psw (with_psw c.psw 1 source) 0 destination)) nothing

-- HLT halts as the command does, and BUSY is stored as 0 (§6.21)
unfoldable pub hlt_deed : Channel → ℕ → Deed
hlt_deed c busy = deed [] (halted c) (byte_to (pointer busy false) 0)
