-- No line calls for buffers longer than `make` allows.
-- Assumes nothing.
use mathlib.Core.Bool.{Bool, true, false}
use mathlib.Core.List.{List}
use mathlib.Core.Path.{◌≡◌, refl}
use Prim.Native.Nat.{ℕ, ◌≤◌}
use borrow.Author.Tests.{leb-true}
use lib.Dec.{leb, ltb, eqb}
use lib.ListN.{get_or}
use Rattle.ground_rules.specs.Choice.{pick}
use Rattle.script_text.specs.declared.text.ScriptCall.{ScriptCall}
use Rattle.script_text.specs.declared.text.ScriptCall.TheVariants.{Nothing, Unknown, Make, Put, Set, Attention, Step, Dump, Show, Listing, Load, Reset, PowerUp, Sweep}
use Rattle.script_text.specs.declared.text.Words.{Words}
use Rattle.script_text.specs.Names.{'none, 'make, 'put, 'set, 'ca, 'step, 'dump, 'show, 'list, 'prom, 'reset, 'power, 'sweep}
use Rattle.script_text.specs.Text.{no_number, number_in, words_of}
use Rattle.script_text.specs.Registers.{fits_register}
use Rattle.script_text.specs.Calls.{only, make_call, put_call, set_call, attention_call, step_call, bare_call, show_call, list_call, sweep_call, call_from, call_of, Limited}

-- of two calls that keep the limits either one does
either : (t : Bool) (a b : ScriptCall) → Limited a → Limited b → Limited (pick t a b)
either true a b p q = p
either false a b p q = q

make-limited : (sys io cp after : ℕ) → Limited (make_call sys io cp after)
unfolding make_call
make-limited sys io cp after =
    either (eqb after 'none) _ Unknown (go (leb sys 0x100001) (leb io 0x10001) (ltb cp no_number) (leb-true sys 0x100001) (leb-true io 0x10001)) tt
  where
    go : (x y z : Bool) → (x ≡ true → sys ≤ 0x100001) → (y ≡ true → io ≤ 0x10001) → Limited (only x (only y (only z (Make sys io cp))))
    go true true true p q = (p refl, q refl)
    go true true false p q = tt
    go true false z p q = tt
    go false y z p q = tt

put-limited : (space address : ℕ) (pairs : Bool) (after : ℕ) → Limited (put_call space address pairs after)
unfolding put_call
put-limited space address pairs after =
    either (eqb after 'none) _ Unknown (either pairs _ Unknown (either (ltb space 2) _ Unknown (either (ltb address no_number) (Put (eqb space 1) address) Unknown tt tt) tt) tt) tt

set-limited : (channel register value after : ℕ) → Limited (set_call channel register value after)
unfolding set_call
set-limited channel register value after =
    either (eqb after 'none) _ Unknown
    (either (ltb channel no_number) _ Unknown
    (either (ltb value no_number) _ Unknown (either (fits_register channel register value) (Set channel register value) Unknown tt tt) tt) tt)
    tt

attention-limited : (channel after : ℕ) → Limited (attention_call channel after)
unfolding attention_call
attention-limited channel after =
    either (eqb after 'none) _ Unknown (either (ltb channel no_number) (Attention channel) Unknown tt tt) tt

step-limited : (lines after : ℕ) → Limited (step_call lines after)
unfolding step_call
step-limited lines after = either (eqb after 'none) _ Unknown (either (ltb lines no_number) (Step lines) Unknown tt tt) tt

bare-limited : (call : ScriptCall) (after : ℕ) → Limited call → Limited (bare_call call after)
unfolding bare_call
bare-limited call after limited = either (eqb after 'none) call Unknown limited tt

show-limited : (space address after : ℕ) → Limited (show_call space address after)
unfolding show_call
show-limited space address after =
    either (eqb after 'none) _ Unknown (either (ltb space 2) _ Unknown (either (ltb address no_number) (Show (eqb space 1) address) Unknown tt tt) tt) tt

list-limited : (space address length after : ℕ) → Limited (list_call space address length after)
unfolding list_call
list-limited space address length after =
    either (eqb after 'none) _ Unknown
    (either (ltb space 2) _ Unknown
    (either (ltb address no_number) _ Unknown (either (ltb length no_number) (Listing (eqb space 1) address length) Unknown tt tt) tt) tt)
    tt

sweep-limited : (channel lines after : ℕ) → Limited (sweep_call channel lines after)
unfolding sweep_call
sweep-limited channel lines after =
    either (eqb after 'none) _ Unknown (either (ltb channel no_number) _ Unknown (either (ltb lines no_number) (Sweep channel lines) Unknown tt tt) tt) tt

words-limited : (w : Words) → Limited (call_from w)
unfolding call_from
words-limited w =
    let name = w.first.name in
    either (eqb name 'none) Nothing _ tt
    (either (eqb name 'make) _ _ (make-limited (number_in w.second.number) (number_in w.third.number) (number_in w.fourth.number) w.fifth.name)
    (either (eqb name 'put) _ _ (put-limited (number_in w.second.number) (number_in w.third.number) w.fourth.pairs w.fifth.name)
    (either (eqb name 'set) _ _ (set-limited (number_in w.second.number) w.third.name (number_in w.fourth.number) w.fifth.name)
    (either (eqb name 'ca) _ _ (attention-limited (number_in w.second.number) w.third.name)
    (either (eqb name 'step) _ _ (step-limited (number_in w.second.number) w.third.name)
    (either (eqb name 'dump) _ _ (bare-limited Dump w.second.name tt)
    (either (eqb name 'show) _ _ (show-limited (number_in w.second.number) (number_in w.third.number) w.fourth.name)
    (either (eqb name 'list) _ _ (list-limited (number_in w.second.number) (number_in w.third.number) (number_in w.fourth.number) w.fifth.name)
    (either (eqb name 'prom) _ _ (bare-limited Load w.second.name tt)
    (either (eqb name 'reset) _ _ (bare-limited Reset w.second.name tt)
    (either (eqb name 'power) _ _ (bare-limited PowerUp w.second.name tt)
    (either (eqb name 'sweep) _ Unknown (sweep-limited (number_in w.second.number) (number_in w.third.number) w.fourth.name) tt))))))))))))

-- the call of a line lends no more than `make` allows
pub line-limited : (line : List ℕ) → Limited (call_of line)
unfolding call_of
line-limited line = either (eqb (get_or line 0 0) 35) Nothing _ tt (words-limited (words_of line))
