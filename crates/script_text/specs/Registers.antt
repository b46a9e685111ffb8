-- Registers by their names: what fits them, and a state with one of them set as it stands.
use Rattle.std.specs.Prelude.{Bool, true, false, ◌&&◌, ◌||◌, ℕ, ◌%◌, ltb, eqb}
use Rattle.ground_rules.specs.Choice.{pick}
use Rattle.ground_rules.specs.declared.Pointer.{Pointer}
use Rattle.ground_rules.specs.Values.{pointer}
use Rattle.ground_rules.specs.declared.Mode.{Mode}
use Rattle.ground_rules.specs.declared.Mode.TheVariants.{Idle, Running, Suspended}
use Rattle.ground_rules.specs.declared.Board.{Board}
use Rattle.ground_rules.specs.declared.Channel.{Channel}
use Rattle.ground_rules.specs.declared.State.{State}
use Rattle.ground_rules.specs.Cc.{split}
use Rattle.ground_rules.specs.Holdings.{held_from, is_held_number}
use Rattle.ground_rules.specs.States.{board_with, channel_of, with_channel, is_second}
use Rattle.script_text.specs.Names.{'ga, 'gb, 'gc, 'tp, 'pp, 'bc, 'ix, 'cc, 'fields, 'mc, 'psw, 'ga-t, 'gb-t, 'gc-t, 'tp-t, 'arm, 'mode, 'held, 'cp, 'last, 'up, 'sysbus, 'soc, 'grant}

-- how many values, from 0 on, fit a channel's register other than `held`: 8 digits, 4, 2, a tag or mark, a mode; 0 where there is no such register
unfoldable pub values_of : ℕ → ℕ
values_of r =
    pick (eqb r 'ga || eqb r 'gb || eqb r 'gc || eqb r 'tp || eqb r 'pp) 4294967296
    (pick (eqb r 'bc || eqb r 'ix || eqb r 'cc || eqb r 'fields || eqb r 'mc) 65536
    (pick (eqb r 'psw) 256
    (pick (eqb r 'ga-t || eqb r 'gb-t || eqb r 'gc-t || eqb r 'tp-t || eqb r 'arm) 2 (pick (eqb r 'mode) 3 0))))

-- what fits a channel's register: `held` the numbers that stand for a byte or none
unfoldable pub fits_own : ℕ → ℕ → Bool
fits_own r v = pick (eqb r 'held) (is_held_number v) (ltb v (values_of r))

-- the marks of the board: powered up, SYSBUS bit 0, SOC bit 0 and SOC bit 1
unfoldable pub is_board_mark : ℕ → Bool
is_board_mark r = eqb r 'up || eqb r 'sysbus || eqb r 'soc || eqb r 'grant

-- what fits a shared register: any number `cp`, 1 or 2 `last`, 0 or 1 a mark of the board
unfoldable pub fits_shared : ℕ → ℕ → Bool
fits_shared r v = pick (eqb r 'cp) true (pick (eqb r 'last) (eqb v 1 || eqb v 2) (is_board_mark r && ltb v 2))

-- there is such a register of channel 1 or 2, or a shared one for channel 0, and the value fits it
unfoldable pub fits_register : ℕ → ℕ → ℕ → Bool
fits_register channel r v =
    pick (eqb channel 0) (fits_shared r v) (pick (eqb channel 1) (fits_own r v) (pick (eqb channel 2) (fits_own r v) false))

-- the mode of a number: 0 idle, 1 running, 2 suspended
unfoldable pub mode_numbered : ℕ → Mode
mode_numbered v = pick (eqb v 0) Idle (pick (eqb v 1) Running Suspended)

-- a pointer whose address, or whose tag, is the register that is set
unfoldable pub pointer_set : Bool → Bool → Pointer → ℕ → Pointer
pointer_set address tag p v = pointer (pick address v p.address) (pick tag (eqb v 1) p.tag)

-- a channel with a register set as it stands: CC without its fields, and these, as those of a CC value, without CC
unfoldable pub with_raw : Channel → ℕ → ℕ → Channel
with_raw c r v =
    record {
      ga = pointer_set (eqb r 'ga) (eqb r 'ga-t) c.ga v;
      gb = pointer_set (eqb r 'gb) (eqb r 'gb-t) c.gb v;
      gc = pointer_set (eqb r 'gc) (eqb r 'gc-t) c.gc v;
      tp = pointer_set (eqb r 'tp) (eqb r 'tp-t) c.tp v;
      pp = pick (eqb r 'pp) v c.pp;
      bc = pick (eqb r 'bc) (v % 65536) c.bc;
      ix = pick (eqb r 'ix) (v % 65536) c.ix;
      cc = pick (eqb r 'cc) (v % 65536) c.cc;
      mc = pick (eqb r 'mc) (v % 65536) c.mc;
      psw = pick (eqb r 'psw) (v % 256) c.psw;
      mode = pick (eqb r 'mode) (mode_numbered v) c.mode;
      armed = pick (eqb r 'arm) (eqb v 1) c.armed;
      fields = pick (eqb r 'fields) (split (v % 65536)) c.fields;
      held = pick (eqb r 'held) (held_from v) c.held;
    }

-- what the board set up, with one of its marks set
unfoldable pub board_marked : Board → ℕ → Bool → Board
board_marked b r on =
    board_with (pick (eqb r 'up) on b.powered) (pick (eqb r 'sysbus) on b.sysbus) (pick (eqb r 'soc) on b.soc) (pick (eqb r 'grant) on b.grant)

-- a state with a shared register set as it stands
unfoldable pub with_shared : State → ℕ → ℕ → State
with_shared s r v =
    record {
      first = s.first;
      second = s.second;
      cp = pick (eqb r 'cp) v s.cp;
      last = pick (eqb r 'last) (eqb v 2) s.last;
      board = board_marked s.board r (eqb v 1);
    }

-- a state with a register of channel 1 or 2, or a shared one for channel 0, set as it stands
unfoldable pub with_named : State → ℕ → ℕ → ℕ → State
with_named s channel r v =
    pick (eqb channel 0) (with_shared s r v)
    (with_channel s (is_second channel) (with_raw (channel_of s (is_second channel)) r v))
