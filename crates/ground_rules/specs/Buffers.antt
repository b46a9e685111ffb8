-- The two lent buffers (§1), and all that is decided about a single byte: where it lies, whether it is lent, whether a call may touch it, what a
-- read gives and what a store does.
use Rattle.std.specs.Prelude.{Bool, true, false, ◌&&◌, ◌||◌, ◌≡◌, List, ℕ, ◌%◌, ◌<◌, length, get_or, set, ltb, leb}
use Rattle.ground_rules.specs.Choice.{pick}

-- system memory and I/O memory as they are lent, byte by byte
pub record Buffers : Type 0 where
  pub sys : List ℕ
  pub io : List ℕ

abbrev pub buffers : List ℕ → List ℕ → Buffers
buffers sys io = record { sys = sys; io = io }

-- what two lent buffers hold, as a contract speaks of them: at entry, at exit
abbrev pub lent : List ℕ → List ℕ → Buffers
lent sys io = buffers sys io

-- the buffer that a tag names: 0 system memory, 1 I/O memory (§1.2)
unfoldable pub space_of : Buffers → Bool → List ℕ
space_of m tag = pick tag m.io m.sys

-- the most bytes that a space has (§1.1)
unfoldable pub limit_of : Bool → ℕ
limit_of tag = pick tag 65536 1048576

-- where an address lies in its buffer: it counts in 20 bits, and in I/O space by its low 16 alone (§1.2)
unfoldable pub index_of : Bool → ℕ → ℕ
index_of tag address = address % limit_of tag

-- whether the byte at an address is lent: it is there (§1.3)
unfoldable pub lent_at : Buffers → Bool → ℕ → Bool
lent_at m tag address = ltb (index_of tag address) (length (space_of m tag))

-- whether a call may touch the byte at an address, lent or not: in I/O space always, in system space where it is lent (else 2, §1.3)
unfoldable pub touchable_at : Buffers → Bool → ℕ → Bool
touchable_at m tag address = tag || lent_at m tag address

-- an empty card slot: an address of I/O space at which no byte is lent (§1.3)
abbrev pub EmptySlot : Buffers → ℕ → Type 0
EmptySlot m address = lent_at m true address ≡ false

-- what a read beyond the lent end gives: FFh in I/O space, from an empty slot; 0 in system space, of which no call asks (§1.3)
unfoldable pub beyond_in : Bool → ℕ
beyond_in tag = pick tag 255 0

-- what a read of the byte at an address gives
unfoldable pub byte_at : Buffers → Bool → ℕ → ℕ
byte_at m tag address = get_or (space_of m tag) (index_of tag address) (beyond_in tag)

-- every read gives a byte, as it does of every buffer that a caller lends: its elements are bytes
abbrev pub AllBytes : Buffers → Type 0
AllBytes m = (tag : Bool) (address : ℕ) → byte_at m tag address < 256

-- what a store of a byte at an address leaves; nothing happens beyond the lent end (`set` past a list's end is the list)
unfoldable pub store_byte : Buffers → Bool → ℕ → ℕ → Buffers
store_byte m tag address v =
    pick tag
    (buffers m.sys (set m.io (index_of tag address) v))
    (buffers (set m.sys (index_of tag address) v) m.io)

-- no buffer is longer than its limit (else 11)
unfoldable pub within_limits : Buffers → Bool
within_limits m = leb (length m.sys) (limit_of false) && leb (length m.io) (limit_of true)
