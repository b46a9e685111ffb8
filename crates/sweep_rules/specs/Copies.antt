-- A block of bytes put elsewhere, one byte after the other in ascending order (§7.15).
use Rattle.std.specs.Prelude.{ℕ, zero, suc, ◌+◌}
use Rattle.ground_rules.specs.Buffers.{Buffers, byte_at, store_byte}
use Rattle.ground_rules.specs.declared.Pointer.{Pointer}

-- n bytes from one pointer on put where another points, each read when its turn comes
unfoldable pub copied_on : Buffers → Pointer → Pointer → ℕ → Buffers
copied_on m p q zero = m
copied_on m p q (suc n) =
    let k = copied_on m p q n in
    store_byte k q.tag (q.address + n) (byte_at k p.tag (p.address + n))
