-- How many bytes of each buffer a call leaves lent.
use Rattle.script_text.specs.declared.text.ScriptCall.{ScriptCall}
use Rattle.script_text.specs.declared.text.ScriptCall.TheVariants.{Nothing, Unknown, Make, Put, Set, Attention, Step, Dump, Show, Listing, Load, Reset, PowerUp, Sweep}
use Rattle.script.specs.declared.LentLengths.{LentLengths}

-- how many bytes are lent after a call: `make` lends buffers of the lengths that it names, no other call changes them
unfoldable pub lent_after : ScriptCall → LentLengths → LentLengths
lent_after (Make sys io cp) lent = record { sys = sys; io = io }
lent_after Nothing lent = lent
lent_after Unknown lent = lent
lent_after (Put space address) lent = lent
lent_after (Set channel register value) lent = lent
lent_after (Attention channel) lent = lent
lent_after (Step lines) lent = lent
lent_after Dump lent = lent
lent_after (Show space address) lent = lent
lent_after (Listing space address count) lent = lent
lent_after Load lent = lent
lent_after Reset lent = lent
lent_after PowerUp lent = lent
lent_after (Sweep channel lines) lent = lent
