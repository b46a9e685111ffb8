-- A channel with some of its registers changed and every other as it was; a new register is carried on here and nowhere else.
use Rattle.std.specs.Prelude.{Bool, false, ℕ, Option, None}
use Rattle.ground_rules.specs.declared.Pointer.{Pointer}
use Rattle.ground_rules.specs.Psw.{with_psw}
use Rattle.ground_rules.specs.declared.Channel.{Channel}
use Rattle.ground_rules.specs.declared.Mode.{Mode}
use Rattle.ground_rules.specs.declared.Mode.TheVariants.{Idle}

-- TP, PP, PSW, mode and mark, which are all that a command can change besides the held byte
unfoldable pub with_control : Channel → Pointer → ℕ → ℕ → Mode → Bool → Channel
with_control c tp pp psw mode armed =
    record {
      ga = c.ga;
      gb = c.gb;
      gc = c.gc;
      tp = tp;
      pp = pp;
      bc = c.bc;
      ix = c.ix;
      cc = c.cc;
      mc = c.mc;
      psw = psw;
      mode = mode;
      armed = armed;
      fields = c.fields;
      held = c.held;
    }

-- TP, IX, PSW, mode and mark, which are all that an instruction can change besides the register that it writes and the held byte
unfoldable pub renewed : Channel → Pointer → ℕ → ℕ → Mode → Bool → Channel
renewed c tp ix psw mode armed =
    record {
      ga = c.ga;
      gb = c.gb;
      gc = c.gc;
      tp = tp;
      pp = c.pp;
      bc = c.bc;
      ix = ix;
      cc = c.cc;
      mc = c.mc;
      psw = psw;
      mode = mode;
      armed = armed;
      fields = c.fields;
      held = c.held;
    }

-- GA, GB, TP, BC and PSW, which are all that a transfer can change besides the held byte
unfoldable pub with_transfer : Channel → Pointer → Pointer → Pointer → ℕ → ℕ → Channel
with_transfer c ga gb tp bc psw =
    record {
      ga = ga;
      gb = gb;
      gc = c.gc;
      tp = tp;
      pp = c.pp;
      bc = bc;
      ix = c.ix;
      cc = c.cc;
      mc = c.mc;
      psw = psw;
      mode = c.mode;
      armed = c.armed;
      fields = c.fields;
      held = c.held;
    }

-- the byte that a channel holds between two halves of a pair of transfer steps (§7.14), or none: all else stays
abbrev pub holding : Channel → Option ℕ → Channel
holding c held =
    record {
      ga = c.ga;
      gb = c.gb;
      gc = c.gc;
      tp = c.tp;
      pp = c.pp;
      bc = c.bc;
      ix = c.ix;
      cc = c.cc;
      mc = c.mc;
      psw = c.psw;
      mode = c.mode;
      armed = c.armed;
      fields = c.fields;
      held = held;
    }

-- a channel that drops the byte that it may hold
abbrev pub dropped : Channel → Channel
dropped c = holding c None

-- PSW of a channel that stops: TB and XF are 0
unfoldable pub stopped_psw : ℕ → ℕ
stopped_psw psw = with_psw (with_psw psw 2 false) 6 false

-- a channel that halts, by its command (§4.8) or by HLT (§6.21): idle, TB and XF 0, without the mark; a held byte is dropped
unfoldable pub halted : Channel → Channel
halted c = dropped (with_control c c.tp c.pp (stopped_psw c.psw) Idle false)
