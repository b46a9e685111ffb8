-- Demand 3, what holds on the way and at the end: the channel's registers and the bytes of both ranges.
use Rattle.std.specs.Prelude.{Bool, true, false, ◌≡◌, ℕ, ◌+◌, ◌-◌, ◌%◌, ◌<◌, ◌≤◌, length, eqb, Option, None}
use Rattle.ground_rules.specs.declared.Pointer.{Pointer}
use Rattle.ground_rules.specs.Values.{onward}
use Rattle.ground_rules.specs.Buffers.{Buffers, space_of, byte_at}
use Rattle.ground_rules.specs.Places.{Apart}
use Rattle.ground_rules.specs.declared.Channel.{Channel}
use Rattle.ground_rules.specs.Psw.{transferring, with_psw}
use Rattle.ground_rules.specs.States.{is_running}
use Rattle.transfer_rules.specs.Ends.{offset_of}
use Rattle.ground_rules.specs.Updates.{with_transfer, holding, dropped}
use Rattle.ground_rules.specs.Choice.{pick}
use Rattle.transfer_rules.specs.Steps.{transfer_of}
use Rattle.block_rules.specs.Premises.{from, into, Lent}
use Rattle.block_rules.specs.Totals.{moved_after}

-- what the channel holds when j bytes have moved: what it held at the start, which the first step drops
abbrev pub held_on : Channel → ℕ → Option ℕ
held_on c j = pick (eqb j 0) c.held None

-- the channel when j of n bytes have moved: GA and GB on by j, BC n - j, a held byte dropped, every other register as at the start
unfoldable pub midway : Channel → ℕ → ℕ → Channel
midway c n j = holding (with_transfer c (onward c.ga j) (onward c.gb j) c.tp ((n - j) % 65536) c.psw) (held_on c j)

-- the channel at the end: GA and GB on by n, BC 0, XF clear, TP on by the offset of TBC, nothing held, every other register as at the start
unfoldable pub finished : Channel → ℕ → Channel
finished c n =
    dropped (with_transfer c (onward c.ga n) (onward c.gb n) (onward c.tp (offset_of c.fields.countEnd)) 0 (with_psw c.psw 6 false))

-- the ranges of n bytes from p and into q when j bytes have moved, m₀ being memory as it was at the start: the first j bytes of the source have
-- arrived in order, the others have not, the source is as it was, and all is lent
pub record RangesHeld (p q : Pointer) (n : ℕ) (m₀ : Buffers) (j : ℕ) (m : Buffers) : Type 0 where
  pub arrived : (i : ℕ) → i < j → byte_at m q.tag (q.address + i) ≡ byte_at m₀ p.tag (p.address + i)
  pub waiting : (i : ℕ) → j ≤ i → i < n → byte_at m q.tag (q.address + i) ≡ byte_at m₀ q.tag (q.address + i)
  pub kept : (i : ℕ) → i < n → byte_at m p.tag (p.address + i) ≡ byte_at m₀ p.tag (p.address + i)
  pub from_lent : Lent m p n
  pub into_lent : Lent m q n

-- a byte that is none of a range of n
abbrev pub Outside : Pointer → ℕ → Bool → ℕ → Type 0
Outside q n u b = (i : ℕ) → i < n → Apart q.tag (q.address + i) u b

-- m' has each byte outside a range as m has it, and the same lengths
pub record Within (q : Pointer) (n : ℕ) (m m' : Buffers) : Type 0 where
  pub others : (u : Bool) (b : ℕ) → Outside q n u b → byte_at m' u b ≡ byte_at m u b
  pub lengths : (u : Bool) → length (space_of m' u) ≡ length (space_of m u)

-- after k of the channel's transfer steps, short of the last: it still runs and transfers, its registers, the bytes, and of the next such step that
-- it is not refused and changes no byte but the destination's
pub record Going (n : ℕ) (c₀ : Channel) (m₀ : Buffers) (k : ℕ) (c : Channel) (m : Buffers) : Type 0 where
  pub runs : is_running c.mode ≡ true
  pub transfers : transferring c.psw ≡ true
  pub registers : c ≡ midway c₀ n (moved_after c₀ n k)
  pub short : moved_after c₀ n k < n
  pub bytes : RangesHeld (from c₀) (into c₀) n m₀ (moved_after c₀ n k) m
  pub done : (transfer_of c m).number ≡ 0
  pub spares : Within (into c₀) n m (transfer_of c m).memory

-- at the last: the destination holds the bytes of the source in their order, and the channel has ended
pub record Ended (n : ℕ) (c₀ : Channel) (m₀ : Buffers) (c : Channel) (m : Buffers) : Type 0 where
  pub registers : c ≡ finished c₀ n
  pub copied : (i : ℕ) → i < n → byte_at m (into c₀).tag ((into c₀).address + i) ≡ byte_at m₀ (from c₀).tag ((from c₀).address + i)
  pub kept : (i : ℕ) → i < n → byte_at m (from c₀).tag ((from c₀).address + i) ≡ byte_at m₀ (from c₀).tag ((from c₀).address + i)
  pub count : c.bc ≡ 0
  pub over : transferring c.psw ≡ false
  pub runs : is_running c.mode ≡ true
  pub pointer : c.tp ≡ onward c₀.tp (offset_of c₀.fields.countEnd)
