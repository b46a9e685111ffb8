-- The text of every call has room in 32,768 bytes; that of a listing is the longest.
-- Assumes nothing.
use mathlib.Core.Bool.{Bool, true, false}
use mathlib.Core.List.{List, []}
use Prim.Native.Nat.{ℕ, ◌≤◌}
use native.Mathlib.Omega.{arith}
use lib.ListN.{length}
use Rattle.ground_rules.specs.Choice.{pick}
use Rattle.ground_rules.specs.Buffers.{Buffers, buffers}
use Rattle.ground_rules.specs.declared.State.{State}
use Rattle.ground_rules.specs.States.{fresh_of}
use Rattle.attention_rules.specs.Attention.{attention_of, attention_count}
use Rattle.attention_rules.specs.Power.{power_up_of, power_count}
use Rattle.turn_rules.specs.Step.{step_of}
use Rattle.turn_rules.specs.Touched.{step_count}
use Rattle.sweep_rules.specs.Sweep.{sweep_of}
use Rattle.listing_rules.specs.Characters.{ascii}
use Rattle.prom_rules.specs.Load.{load_of}
use Rattle.script_text.specs.declared.text.ScriptCall.{ScriptCall}
use Rattle.script_text.specs.declared.text.ScriptCall.TheVariants.{Nothing, Unknown, Make, Put, Set, Attention, Step, Dump, Show, Listing, Load, Reset, PowerUp, Sweep}
use Rattle.script_lines.proofs.LengthLaws.{answer-short, counted-short, stepped-short, swept-short, loaded-short, dump-short, shown-short}
use Rattle.script_answers.specs.Machine.{call_made}
use Rattle.script_answers.specs.Shown.{advanced_line, sweep_text, put_line, load_text, call_text}
use Rattle.script_answers.proofs.ListingLaws.{listed-short}

put-short : (made : Bool) → length (put_line made) ≤ 15
unfolding put_line
put-short true = answer-short (ascii "put ") 0
put-short false = omega arith

-- no call's text is longer than a listing's can be
pub call-short : (call : ScriptCall) (line : List ℕ) (s : State) (m : Buffers) → length (call_text call line s m) ≤ 28672
unfolding call_text advanced_line sweep_text load_text
call-short Nothing line s m = omega arith
call-short Unknown line s m = omega arith
call-short (Make sys io cp) line s m = omega (arith, answer-short (ascii "make ") (fresh_of cp).number)
call-short (Put space address) line s m = omega (arith, put-short (call_made (Put space address) line m))
call-short (Set channel register value) line s m = omega (arith, answer-short (ascii "set ") 0)
call-short (Attention channel) line s m = omega (arith, counted-short (ascii "ca ") (attention_of s m channel).number (attention_count s m channel))
call-short (Step lines) line s m = omega (arith, stepped-short (step_of s m lines).number (step_of s m lines).channel (step_of s m lines).kind (step_count s m lines))
call-short Dump line s m = omega (arith, dump-short s m)
call-short (Show space address) line s m = omega (arith, shown-short (pick space m.io m.sys) address)
call-short (Listing space address count) line s m = listed-short (pick space m.io m.sys) address count
call-short Load line s m =
    let l = load_of line (buffers m.sys []) in
    omega (arith, loaded-short l.number l.line l.start)
call-short Reset line s m = omega (arith, answer-short (ascii "reset ") 0)
call-short PowerUp line s m = omega (arith, counted-short (ascii "power ") (power_up_of s m).number (power_count m))
call-short (Sweep channel lines) line s m =
    omega (arith, swept-short (sweep_of s m channel lines).number (sweep_of s m channel lines).steps (sweep_of s m channel lines).count)
