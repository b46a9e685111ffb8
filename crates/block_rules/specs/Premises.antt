-- Demand 3, what is asked of the start: a plain block transfer of n bytes that only its byte count ends.
use Rattle.std.specs.Prelude.{true, false, ◌≡◌, ℕ, ◌+◌, ◌%◌, ◌<◌, ◌≤◌}
use Rattle.ground_rules.specs.declared.Pointer.{Pointer}
use Rattle.ground_rules.specs.Buffers.{Buffers, lent_at}
use Rattle.ground_rules.specs.Places.{Apart}
use Rattle.ground_rules.specs.declared.Channel.{Channel}
use Rattle.ground_rules.specs.Psw.{transferring}
use Rattle.ground_rules.specs.States.{is_running, sound_channel, fields_agree}
use Rattle.transfer_rules.specs.Sides.{source, destination}

-- where the source's bytes begin
abbrev pub from : Channel → Pointer
from c = (source c).pointer

-- where the destination's bytes begin
abbrev pub into : Channel → Pointer
into c = (destination c).pointer

-- a range of n bytes, from a pointer on, lies in lent memory
abbrev pub Lent : Buffers → Pointer → ℕ → Type 0
Lent m p n = (i : ℕ) → i < n → lent_at m p.tag (p.address + i) ≡ true

-- two ranges of n bytes share no byte
abbrev pub ShareNone : Pointer → Pointer → ℕ → Type 0
ShareNone p q n = (i j : ℕ) → i < n → j < n → Apart q.tag (q.address + j) p.tag (p.address + i)

-- the channel: how its transfer goes, and how it may end
pub record Plain (c : Channel) : Type 0 where
  -- the channel runs
  pub runs : is_running c.mode ≡ true
  -- and transfers: XF is set
  pub transfers : transferring c.psw ≡ true
  -- both sides move on
  pub leaves : c.fields.sourceMoves ≡ true
  pub enters : c.fields.destinationMoves ≡ true
  -- no synchronisation: SYN 00
  pub unsynchronised : c.fields.synchronised ≡ 0
  -- no translation
  pub untranslated : c.fields.translates ≡ false
  -- the byte count alone can end it: TBC on, TMC off, TX off, TS 0
  pub counts : c.fields.countEnd ≡ 0 → ⊥
  pub unmatched : c.fields.matchEnd % 4 ≡ 0
  pub unended : c.fields.externalEnd ≡ 0
  pub ongoing : c.fields.singleTransfer ≡ false
  -- its pointers are of 20 bits; with any other every step is refused by 10
  pub sound : sound_channel c ≡ true
  -- its fields are those of its CC; with any other every step is refused by 14
  pub agree : fields_agree c ≡ true

-- the start: the channel, n bytes to go (BC 0 stands for 65,536), and both ranges. That a range does not wrap is not asked: a range that wraps
-- is copied just so
pub record Copy (n : ℕ) (c : Channel) (m : Buffers) : Type 0 where
  pub plain : Plain c
  -- BC is n in 16 bits, with 0 for 65,536
  pub some : 1 ≤ n
  pub most : n ≤ 65536
  pub count : c.bc ≡ n % 65536
  -- both ranges are lent and share no byte
  pub from_lent : Lent m (from c) n
  pub into_lent : Lent m (into c) n
  pub apart : ShareNone (from c) (into c) n
