-- Ranges of bytes that do not wrap: where they begin, whether they are lent, whether two of them share a byte (§7.15).
use Rattle.std.specs.Prelude.{Bool, not, ◌||◌, ℕ, ◌+◌, leb, length}
use Rattle.ground_rules.specs.Buffers.{Buffers, space_of, index_of}
use Rattle.ground_rules.specs.declared.Pointer.{Pointer}
use Rattle.ground_rules.specs.Cc.{same_flag}

-- where the byte that a pointer points to lies in its space: in I/O space by the low 16 bits of the address (§1.2)
abbrev pub place_of : Pointer → ℕ
place_of p = index_of p.tag p.address

-- n bytes from a pointer on are lent, without wrapping: the last of them may be the top of the space (§7.15)
unfoldable pub range_lent : Buffers → Pointer → ℕ → Bool
range_lent m p n = leb (place_of p + n) (length (space_of m p.tag))

-- two ranges of n bytes that do not wrap share no byte: they lie in two spaces, or one behind the other (§7.15)
unfoldable pub ranges_apart : Pointer → Pointer → ℕ → Bool
ranges_apart p q n = not (same_flag p.tag q.tag) || (leb (place_of p + n) (place_of q) || leb (place_of q + n) (place_of p))
