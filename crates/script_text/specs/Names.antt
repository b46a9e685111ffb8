-- Names of calls and registers, up to six characters, as numbers: 1, then each character's ASCII code in two hexadecimal digits.
use Rattle.std.specs.Prelude.{List, [], ◌∷◌, ℕ, ◌+◌, ◌*◌, leb, length}
use Rattle.ground_rules.specs.Choice.{pick}

-- the characters of a word behind those that `n` already has
unfoldable pub packed : ℕ → List ℕ → ℕ
packed n [] = n
packed n (b ∷ w) = packed (n * 256 + b) w

-- the name that a word makes; 0, which is no name, for more than six characters
unfoldable pub name_of : List ℕ → ℕ
name_of w = pick (leb (length w) 6) (packed 1 w) 0

-- the name of no word at all
abbrev pub 'none : ℕ
'none = 1

-- `make`
abbrev pub 'make : ℕ
'make = 0x16d616b65

-- `put`
abbrev pub 'put : ℕ
'put = 0x1707574

-- `set`
abbrev pub 'set : ℕ
'set = 0x1736574

-- `ca`
abbrev pub 'ca : ℕ
'ca = 0x16361

-- `step`
abbrev pub 'step : ℕ
'step = 0x173746570

-- `dump`
abbrev pub 'dump : ℕ
'dump = 0x164756d70

-- `show`
abbrev pub 'show : ℕ
'show = 0x173686f77

-- `list`
abbrev pub 'list : ℕ
'list = 0x16c697374

-- `prom`
abbrev pub 'prom : ℕ
'prom = 0x170726f6d

-- `reset`
abbrev pub 'reset : ℕ
'reset = 0x17265736574

-- `power`
abbrev pub 'power : ℕ
'power = 0x1706f776572

-- `sweep`
abbrev pub 'sweep : ℕ
'sweep = 0x17377656570

-- `ga`
abbrev pub 'ga : ℕ
'ga = 0x16761

-- `gb`
abbrev pub 'gb : ℕ
'gb = 0x16762

-- `gc`
abbrev pub 'gc : ℕ
'gc = 0x16763

-- `tp`
abbrev pub 'tp : ℕ
'tp = 0x17470

-- `pp`
abbrev pub 'pp : ℕ
'pp = 0x17070

-- `bc`
abbrev pub 'bc : ℕ
'bc = 0x16263

-- `ix`
abbrev pub 'ix : ℕ
'ix = 0x16978

-- `cc`
abbrev pub 'cc : ℕ
'cc = 0x16363

-- `fields`
abbrev pub 'fields : ℕ
'fields = 0x16669656c6473

-- `mc`
abbrev pub 'mc : ℕ
'mc = 0x16d63

-- `psw`
abbrev pub 'psw : ℕ
'psw = 0x1707377

-- `ga.t`
abbrev pub 'ga-t : ℕ
'ga-t = 0x167612e74

-- `gb.t`
abbrev pub 'gb-t : ℕ
'gb-t = 0x167622e74

-- `gc.t`
abbrev pub 'gc-t : ℕ
'gc-t = 0x167632e74

-- `tp.t`
abbrev pub 'tp-t : ℕ
'tp-t = 0x174702e74

-- `arm`
abbrev pub 'arm : ℕ
'arm = 0x161726d

-- `mode`
abbrev pub 'mode : ℕ
'mode = 0x16d6f6465

-- `held`
abbrev pub 'held : ℕ
'held = 0x168656c64

-- `cp`
abbrev pub 'cp : ℕ
'cp = 0x16370

-- `last`
abbrev pub 'last : ℕ
'last = 0x16c617374

-- `up`
abbrev pub 'up : ℕ
'up = 0x17570

-- `sysbus`
abbrev pub 'sysbus : ℕ
'sysbus = 0x1737973627573

-- `soc`
abbrev pub 'soc : ℕ
'soc = 0x1736f63

-- `grant`
abbrev pub 'grant : ℕ
'grant = 0x16772616e74
