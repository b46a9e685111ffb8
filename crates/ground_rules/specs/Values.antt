-- What stands in memory: words, doubleword pointers and stored pointers, each byte at its own address.
use Rattle.std.specs.Prelude.{Bool, ℕ, ◌+◌}
use Rattle.ground_rules.specs.Bytes.{low_byte, high_byte, word_of}
use Rattle.ground_rules.specs.Sums.{sum20, address_of}
use Rattle.ground_rules.specs.Stored.{stored_low, stored_middle, stored_high, stored_address, stored_tag}
use Rattle.ground_rules.specs.declared.Pointer.{Pointer}
use Rattle.ground_rules.specs.Buffers.{Buffers, byte_at, store_byte}

-- a word, low byte first, at any address (§1.4)
unfoldable pub word_at : Buffers → Bool → ℕ → ℕ
word_at m tag address = word_of (byte_at m tag address) (byte_at m tag (address + 1))

-- the address that a doubleword pointer gives: offset, then segment (§1.5)
unfoldable pub doubleword_at : Buffers → Bool → ℕ → ℕ
doubleword_at m tag address = address_of (word_at m tag address) (word_at m tag (address + 2))

-- a pointer, its address and its tag
abbrev pub pointer : ℕ → Bool → Pointer
pointer address tag = record { address = address; tag = tag }

-- a place n bytes on, in the same space
unfoldable pub onward : Pointer → ℕ → Pointer
onward p n = pointer (sum20 p.address n) p.tag

-- the pointer that three stored bytes give (§1.6)
unfoldable pub pointer_at : Buffers → Bool → ℕ → Pointer
pointer_at m tag address =
    pointer
    (stored_address (byte_at m tag address) (byte_at m tag (address + 1)) (byte_at m tag (address + 2)))
    (stored_tag (byte_at m tag (address + 2)))

-- a word stored, low byte first
unfoldable pub store_word : Buffers → Bool → ℕ → ℕ → Buffers
store_word m tag address v = store_byte (store_byte m tag address (low_byte v)) tag (address + 1) (high_byte v)

-- a doubleword pointer stored: offset, then segment
unfoldable pub store_doubleword : Buffers → Bool → ℕ → ℕ → ℕ → Buffers
store_doubleword m tag address offset segment = store_word (store_word m tag address offset) tag (address + 2) segment

-- a pointer stored in its three bytes
unfoldable pub store_pointer : Buffers → Bool → ℕ → Pointer → Buffers
store_pointer m tag address p =
    store_byte
    (store_byte (store_byte m tag address (stored_low p.address)) tag (address + 1) (stored_middle p.address))
    tag (address + 2) (stored_high p.address p.tag)
