-- The text that a line shows: what its call answered.
use Rattle.std.specs.Prelude.{Bool, List, [], ℕ, take, drop}
use Rattle.ground_rules.specs.Choice.{pick}
use Rattle.ground_rules.specs.Buffers.{Buffers, buffers}
use Rattle.ground_rules.specs.declared.State.{State}
use Rattle.ground_rules.specs.States.{fresh_of}
use Rattle.attention_rules.specs.Attention.{attention_of, attention_count}
use Rattle.attention_rules.specs.Power.{power_up_of, power_count}
use Rattle.turn_rules.specs.Step.{step_of}
use Rattle.turn_rules.specs.Touched.{step_count}
use Rattle.sweep_rules.specs.Sweep.{sweep_of}
use Rattle.listing_rules.specs.Listings.{lines_of, all_chars}
use Rattle.listing_rules.specs.Characters.{ascii}
use Rattle.prom_rules.specs.Load.{Loading, load_of}
use Rattle.script_text.specs.declared.text.ScriptCall.{ScriptCall}
use Rattle.script_text.specs.declared.text.ScriptCall.TheVariants.{Nothing, Unknown, Make, Put, Set, Attention, Step, Dump, Show, Listing, Load, Reset, PowerUp, Sweep}
use Rattle.script_lines.specs.Lines.{refused_line, answer_line, counted_line, stepped_line, swept_line, loaded_line, dump_text, shown_line}
use Rattle.script_answers.specs.Machine.{is_part, call_made}

-- the line of what a step answered
unfoldable pub advanced_line : State → Buffers → ℕ → List ℕ
advanced_line s m lines = stepped_line (step_of s m lines).number (step_of s m lines).channel (step_of s m lines).kind (step_count s m lines)

-- the line of what a sweep answered
unfoldable pub sweep_text : State → Buffers → ℕ → ℕ → List ℕ
sweep_text s m channel lines =
    swept_line (sweep_of s m channel lines).number (sweep_of s m channel lines).steps (sweep_of s m channel lines).count

-- the line of `put`: that of a call that was shut out where a byte would lie past the buffer's end
unfoldable pub put_line : Bool → List ℕ
put_line made = pick made (answer_line (ascii "put ") 0) refused_line

-- the lines of a listing: those of the part, whose first byte has its own address, or that of a call that was shut out
unfoldable pub listed_text : List ℕ → ℕ → ℕ → List ℕ
listed_text s at count = pick (is_part s at count) (all_chars (lines_of at (take count (drop at s)))) refused_line

-- the line of what a load answered
unfoldable pub load_text : Loading → List ℕ
load_text l = loaded_line l.number l.line l.start

-- the text that the call of a line shows; a line that is passed over shows none
unfoldable pub call_text : ScriptCall → List ℕ → State → Buffers → List ℕ
call_text Nothing line s m = []
call_text Unknown line s m = refused_line
call_text (Make sys io cp) line s m = answer_line (ascii "make ") (fresh_of cp).number
call_text (Put space address) line s m = put_line (call_made (Put space address) line m)
call_text (Set channel register value) line s m = answer_line (ascii "set ") 0
call_text (Attention channel) line s m = counted_line (ascii "ca ") (attention_of s m channel).number (attention_count s m channel)
call_text (Step lines) line s m = advanced_line s m lines
call_text Dump line s m = dump_text s m
call_text (Show space address) line s m = shown_line (pick space m.io m.sys) address
call_text (Listing space address count) line s m = listed_text (pick space m.io m.sys) address count
call_text Load line s m = load_text (load_of line (buffers m.sys []))
call_text Reset line s m = answer_line (ascii "reset ") 0
call_text PowerUp line s m = counted_line (ascii "power ") (power_up_of s m).number (power_count m)
call_text (Sweep channel lines) line s m = sweep_text s m channel lines
