-- The registers of a channel by RRR (§2.1), with the rules of the tags (§6.10); the bases by MM (§6.7).
use Rattle.std.specs.Prelude.{Bool, true, false, ℕ, ◌%◌, eqb, leb}
use Rattle.ground_rules.specs.Choice.{pick}
use Rattle.ground_rules.specs.declared.Pointer.{Pointer}
use Rattle.ground_rules.specs.Values.{pointer}
use Rattle.ground_rules.specs.Cc.{split}
use Rattle.ground_rules.specs.declared.Channel.{Channel}

-- one of eight by RRR: 0 is the first, and 7 and more the last
unfoldable pub by_rrr {ℓ} : {A : Type ℓ} → ℕ → A → A → A → A → A → A → A → A → A
by_rrr r ga gb gc bc tp ix cc mc =
    pick (eqb r 0) ga (pick (eqb r 1) gb (pick (eqb r 2) gc (pick (eqb r 3) bc (pick (eqb r 4) tp (pick (eqb r 5) ix (pick (eqb r 6) cc mc))))))

-- the value of a register: a pointer's address, or 16 bits
unfoldable pub register_of : Channel → ℕ → ℕ
register_of c r = by_rrr r c.ga.address c.gb.address c.gc.address c.bc c.tp.address c.ix c.cc c.mc

-- the tag of a register that is a pointer
unfoldable pub tag_of : Channel → ℕ → Bool
tag_of c r = by_rrr r c.ga.tag c.gb.tag c.gc.tag false c.tp.tag false false false

-- a register written, with as many low bits as it has (§6.9); a pointer takes the tag too, and CC renews its fields (§2.12)
unfoldable pub with_register : Channel → ℕ → ℕ → Bool → Channel
with_register c r v tag =
    record {
      ga = pick (eqb r 0) (pointer (v % 1048576) tag) c.ga;
      gb = pick (eqb r 1) (pointer (v % 1048576) tag) c.gb;
      gc = pick (eqb r 2) (pointer (v % 1048576) tag) c.gc;
      tp = pick (eqb r 4) (pointer (v % 1048576) tag) c.tp;
      pp = c.pp;
      bc = pick (eqb r 3) (v % 65536) c.bc;
      ix = pick (eqb r 5) (v % 65536) c.ix;
      cc = pick (eqb r 6) (v % 65536) c.cc;
      mc = pick (leb 7 r) (v % 65536) c.mc;
      psw = c.psw;
      mode = c.mode;
      armed = c.armed;
      fields = pick (eqb r 6) (split (v % 65536)) c.fields;
      held = c.held;
    }

-- MOV and MOVI set the tag of a pointer
abbrev pub moved : Channel → ℕ → ℕ → Channel
moved c r v = with_register c r v true

-- arithmetic and logic keep it
abbrev pub worked : Channel → ℕ → ℕ → Channel
worked c r v = with_register c r v (tag_of c r)

-- LPD and LPDI clear it
abbrev pub loaded : Channel → ℕ → ℕ → Channel
loaded c r v = with_register c r v false

-- the base of an operand: GA, GB, GC, or PP, which is of system space
unfoldable pub base_of : Channel → ℕ → Pointer
base_of c mm = pick (eqb mm 0) c.ga (pick (eqb mm 1) c.gb (pick (eqb mm 2) c.gc (pointer c.pp false)))
