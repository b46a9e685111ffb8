-- The words of the sheet of the machine: bits, bytes, places and registers as numbers and fields.
use Rattle.std.specs.Prelude.{Bool, true, false, ◌||◌, List, [], ◌∷◌, ◌≡◌, ℕ, ◌+◌, ◌*◌, ◌/◌, ◌%◌, ◌^◌, eqb, ltb, length, get_or, set}
use Rattle.ground_rules.specs.Choice.{pick}
use Rattle.ground_rules.specs.Buffers.{Buffers, buffers, index_of, lent_at, byte_at, store_byte}
use Rattle.ground_rules.specs.Values.{pointer}
use Rattle.ground_rules.specs.declared.Pointer.{Pointer}
use Rattle.ground_rules.specs.Psw.{transferring}
use Rattle.ground_rules.specs.States.{channel_of, channel_number}
use Rattle.ground_rules.specs.declared.Channel.{Channel}
use Rattle.ground_rules.specs.declared.State.{State}

-- the names that the sheet takes from the floors below, in fields and numbers: where bytes lie, which are lent, what a read gives and a store
-- leaves (§1.2, §1.3), which channel is which (§2.7), and XF (§2.3)
pub record Names : Type 0 where
  pub system_index : (a : ℕ) → index_of false a ≡ a % 1048576
  pub io_index : (a : ℕ) → index_of true a ≡ a % 65536
  pub system_read : (m : Buffers) (a : ℕ) → byte_at m false a ≡ get_or m.sys (a % 1048576) 0
  pub io_read : (m : Buffers) (a : ℕ) → byte_at m true a ≡ get_or m.io (a % 65536) 0xFF
  pub system_lent : (m : Buffers) (a : ℕ) → lent_at m false a ≡ ltb (a % 1048576) (length m.sys)
  pub io_lent : (m : Buffers) (a : ℕ) → lent_at m true a ≡ ltb (a % 65536) (length m.io)
  pub system_store : (m : Buffers) (a v : ℕ) → store_byte m false a v ≡ buffers (set m.sys (a % 1048576) v) m.io
  pub io_store : (m : Buffers) (a v : ℕ) → store_byte m true a v ≡ buffers m.sys (set m.io (a % 65536) v)
  pub first : (s : State) → channel_of s false ≡ s.first
  pub second : (s : State) → channel_of s true ≡ s.second
  pub one : channel_number false ≡ 1
  pub two : channel_number true ≡ 2
  pub transfers : (psw : ℕ) → transferring psw ≡ eqb (psw / 64 % 2) 1

-- ---- numbers in bits and bytes

-- bit k of a number, 0 or 1
abbrev pub bit : ℕ → ℕ → ℕ
bit x k = x / 2 ^ k % 2

-- the bits from some bit upwards, as a number
abbrev pub field : ℕ → ℕ → ℕ → ℕ
field x at width = x / 2 ^ at % 2 ^ width

-- the word at an address, low byte first (§1.4)
abbrev pub word_in : Buffers → Bool → ℕ → ℕ
word_in m tag a = byte_at m tag a + byte_at m tag (a + 1) * 256

-- the address that a doubleword pointer gives, offset and then segment (§1.5)
abbrev pub far_in : Buffers → Bool → ℕ → ℕ
far_in m tag a = (word_in m tag (a + 2) * 16 + word_in m tag a) % 1048576

-- the address of a stored pointer (§1.6)
abbrev pub stored_in : Buffers → Bool → ℕ → ℕ
stored_in m tag a = byte_at m tag a + byte_at m tag (a + 1) * 256 + byte_at m tag (a + 2) / 16 * 65536

-- and its tag, bit 3 of the third byte
abbrev pub stored_tag_in : Buffers → Bool → ℕ → Bool
stored_tag_in m tag a = eqb (bit (byte_at m tag (a + 2)) 3) 1

-- the three bytes of an address with a tag (§1.6)
abbrev pub form_of : ℕ → Bool → List ℕ
form_of a tag = a % 256 ∷ a / 256 % 256 ∷ (a / 65536 % 16 * 16 + pick tag 8 0) ∷ []

-- a pointer some bytes on, in the same space (§1.2)
abbrev pub pointer_on : Pointer → ℕ → Pointer
pointer_on p n = pointer ((p.address + n) % 1048576) p.tag

-- ---- the registers of a channel by RRR (§2.1)

-- GA, GB, GC, BC, TP, IX, CC, MC
abbrev pub register_values : Channel → List ℕ
register_values c = c.ga.address ∷ c.gb.address ∷ c.gc.address ∷ c.bc ∷ c.tp.address ∷ c.ix ∷ c.cc ∷ c.mc ∷ []

-- how many values each has: 20 bits and 16
abbrev pub sizes : List ℕ
sizes = 1048576 ∷ 1048576 ∷ 1048576 ∷ 65536 ∷ 1048576 ∷ 65536 ∷ 65536 ∷ 65536 ∷ []

-- the tags of GA, GB, GC and TP; the others have none
abbrev pub tags_of : Channel → List Bool
tags_of c = c.ga.tag ∷ c.gb.tag ∷ c.gc.tag ∷ false ∷ c.tp.tag ∷ false ∷ false ∷ false ∷ []

-- RRR is GA, GB, GC or TP
abbrev pub pointing : ℕ → Bool
pointing r = ltb r 3 || eqb r 4

-- register r gets the low bits of a value
abbrev pub set_value : List ℕ → ℕ → ℕ → List ℕ
set_value values r v = set values r (v % get_or sizes r 1)

-- and, where it is a pointer, a tag
abbrev pub set_tag : List Bool → ℕ → Bool → List Bool
set_tag tags r tag = pick (pointing r) (set tags r tag) tags

-- what register r holds
abbrev pub value_in : Channel → ℕ → ℕ
value_in c r = get_or (register_values c) r 0

-- its tag
abbrev pub tag_in : Channel → ℕ → Bool
tag_in c r = get_or (tags_of c) r false
