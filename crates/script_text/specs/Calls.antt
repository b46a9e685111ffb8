-- The call that a line is: nothing where it is passed over, unknown where it is no call, or one that its words alone shut out.
use Rattle.std.specs.Prelude.{Bool, List, ℕ, ◌≤◌, ltb, leb, eqb, get_or}
use Rattle.ground_rules.specs.Choice.{pick}
use Rattle.script_text.specs.declared.text.ScriptCall.{ScriptCall}
use Rattle.script_text.specs.declared.text.ScriptCall.TheVariants.{Nothing, Unknown, Make, Put, Set, Attention, Step, Dump, Show, Listing, Load, Reset, PowerUp, Sweep}
use Rattle.script_text.specs.declared.text.Words.{Words}
use Rattle.script_text.specs.Names.{'none, 'make, 'put, 'set, 'ca, 'step, 'dump, 'show, 'list, 'prom, 'reset, 'power, 'sweep}
use Rattle.script_text.specs.Text.{no_number, number_in, words_of}
use Rattle.script_text.specs.Registers.{fits_register}

-- a call where a test holds
abbrev pub only : Bool → ScriptCall → ScriptCall
only test call = pick test call Unknown

-- `make SYS IO CP`
unfoldable pub make_call : ℕ → ℕ → ℕ → ℕ → ScriptCall
make_call sys io cp after =
    only (eqb after 'none) (only (leb sys 0x100001) (only (leb io 0x10001) (only (ltb cp no_number) (Make sys io cp))))

-- `put SPACE ADDRESS BYTES`, with `pairs` whether BYTES are pairs of digits
unfoldable pub put_call : ℕ → ℕ → Bool → ℕ → ScriptCall
put_call space address pairs after =
    only (eqb after 'none) (only pairs (only (ltb space 2) (only (ltb address no_number) (Put (eqb space 1) address))))

-- `set CHANNEL REGISTER VALUE`
unfoldable pub set_call : ℕ → ℕ → ℕ → ℕ → ScriptCall
set_call channel register value after =
    only (eqb after 'none)
    (only (ltb channel no_number)
    (only (ltb value no_number) (only (fits_register channel register value) (Set channel register value))))

-- `ca CHANNEL`
unfoldable pub attention_call : ℕ → ℕ → ScriptCall
attention_call channel after = only (eqb after 'none) (only (ltb channel no_number) (Attention channel))

-- `step LINES`
unfoldable pub step_call : ℕ → ℕ → ScriptCall
step_call lines after = only (eqb after 'none) (only (ltb lines no_number) (Step lines))

-- a call of one word: `dump`, `prom`, which the lines of a file follow, `reset` and `power`
unfoldable pub bare_call : ScriptCall → ℕ → ScriptCall
bare_call call after = only (eqb after 'none) call

-- `show SPACE ADDRESS`
unfoldable pub show_call : ℕ → ℕ → ℕ → ScriptCall
show_call space address after =
    only (eqb after 'none) (only (ltb space 2) (only (ltb address no_number) (Show (eqb space 1) address)))

-- `list SPACE ADDRESS LENGTH`
unfoldable pub list_call : ℕ → ℕ → ℕ → ℕ → ScriptCall
list_call space address length after =
    only (eqb after 'none)
    (only (ltb space 2) (only (ltb address no_number) (only (ltb length no_number) (Listing (eqb space 1) address length))))

-- `sweep CHANNEL LINES`
unfoldable pub sweep_call : ℕ → ℕ → ℕ → ScriptCall
sweep_call channel lines after =
    only (eqb after 'none) (only (ltb channel no_number) (only (ltb lines no_number) (Sweep channel lines)))

-- the call that words are: the first is its name, and none stands behind those it has
unfoldable pub call_from : Words → ScriptCall
call_from w =
    let name = w.first.name in
    pick (eqb name 'none) Nothing
    (pick (eqb name 'make) (make_call (number_in w.second.number) (number_in w.third.number) (number_in w.fourth.number) w.fifth.name)
    (pick (eqb name 'put) (put_call (number_in w.second.number) (number_in w.third.number) w.fourth.pairs w.fifth.name)
    (pick (eqb name 'set) (set_call (number_in w.second.number) w.third.name (number_in w.fourth.number) w.fifth.name)
    (pick (eqb name 'ca) (attention_call (number_in w.second.number) w.third.name)
    (pick (eqb name 'step) (step_call (number_in w.second.number) w.third.name)
    (pick (eqb name 'dump) (bare_call Dump w.second.name)
    (pick (eqb name 'show) (show_call (number_in w.second.number) (number_in w.third.number) w.fourth.name)
    (pick (eqb name 'list) (list_call (number_in w.second.number) (number_in w.third.number) (number_in w.fourth.number) w.fifth.name)
    (pick (eqb name 'prom) (bare_call Load w.second.name)
    (pick (eqb name 'reset) (bare_call Reset w.second.name)
    (pick (eqb name 'power) (bare_call PowerUp w.second.name)
    (pick (eqb name 'sweep) (sweep_call (number_in w.second.number) (number_in w.third.number) w.fourth.name) Unknown))))))))))))

-- the call that a line is; one that has no word or begins with `#` is passed over
unfoldable pub call_of : List ℕ → ScriptCall
call_of line = pick (eqb (get_or line 0 0) 35) Nothing (call_from (words_of line))

-- what `make` can lend: one byte more than each limit
abbrev pub Limited : ScriptCall → Type 0
Limited (Make sys io cp) = (sys ≤ 0x100001) × (io ≤ 0x10001)
Limited Nothing = Unit {0}
Limited Unknown = Unit {0}
Limited (Put space address) = Unit {0}
Limited (Set channel register value) = Unit {0}
Limited (Attention channel) = Unit {0}
Limited (Step lines) = Unit {0}
Limited Dump = Unit {0}
Limited (Show space address) = Unit {0}
Limited (Listing space address length) = Unit {0}
Limited Load = Unit {0}
Limited Reset = Unit {0}
Limited PowerUp = Unit {0}
Limited (Sweep channel lines) = Unit {0}
