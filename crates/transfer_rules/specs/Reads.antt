-- What a transfer step reads, before it stores (§7.5, §7.6).
use Rattle.std.specs.Prelude.{Bool, List, [], ◌∷◌, ℕ}
use Rattle.ground_rules.specs.Choice.{pick}
use Rattle.ground_rules.specs.Sums.{sum20}
use Rattle.ground_rules.specs.Buffers.{Buffers, byte_at}
use Rattle.ground_rules.specs.Places.{Place}
use Rattle.ground_rules.specs.declared.Channel.{Channel}
use Rattle.transfer_rules.specs.declared.Data.{Data}
use Rattle.transfer_rules.specs.Sides.{source, second_address, two_move}

-- the byte at the source's address
unfoldable pub fetched : Channel → Buffers → ℕ
fetched c m = byte_at m (source c).pointer.tag (source c).pointer.address

-- where two move, the second of them; else 0
unfoldable pub fetched_second : Channel → Buffers → ℕ
fetched_second c m = pick (two_move c) (byte_at m (source c).pointer.tag (second_address (source c))) 0

-- where the byte that stands for the one read lies: so far past GC as that one says (§7.6)
unfoldable pub entry_of : Channel → Buffers → ℕ
entry_of c m = sum20 c.gc.address (fetched c m)

-- the first byte to be stored: the one read, or with translation the one that stands for it, in GC's space (§7.6)
unfoldable pub delivered : Channel → Buffers → ℕ
delivered c m = pick c.fields.translates (byte_at m c.gc.tag (entry_of c m)) (fetched c m)

-- how many bytes are fetched from the source: two where two move, whether the second is then stored or not
abbrev pub bytes_fetched : Channel → ℕ
bytes_fetched c = pick (two_move c) 2 1

-- the bytes to be stored, all of them read before the first store (§7.5)
unfoldable pub data_of : Channel → Buffers → Data
data_of c m = record { first = delivered c m; second = fetched_second c m }

-- a place, where a test holds, before others
unfoldable pub also : Bool → Place → List Place → List Place
also on p ps = pick on (p ∷ ps) ps

-- the bytes that are read: the source's one or two and the translated one (§7.11)
unfoldable pub read_places : Channel → Buffers → List Place
read_places c m =
    record { tag = (source c).pointer.tag; address = (source c).pointer.address }
    ∷ also (two_move c) (record { tag = (source c).pointer.tag; address = second_address (source c) })
    (also c.fields.translates (record { tag = c.gc.tag; address = entry_of c m }) [])
