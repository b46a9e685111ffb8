-- The halves of a pair of transfer steps (§7.14): the bytes of the second fetch, and the places of one byte.
use Rattle.std.specs.Prelude.{ℕ}
use Rattle.ground_rules.specs.Buffers.{Buffers}
use Rattle.ground_rules.specs.Places.{Place}
use Rattle.ground_rules.specs.declared.Channel.{Channel}
use Rattle.transfer_rules.specs.declared.Data.{Data}
use Rattle.transfer_rules.specs.declared.Side.{Side}
use Rattle.transfer_rules.specs.Sides.{second_address}
use Rattle.transfer_rules.specs.Reads.{fetched_second}

-- where a side's first byte lies, and where its second does
abbrev pub first_place : Side → Place
first_place s = record { tag = s.pointer.tag; address = s.pointer.address }

abbrev pub second_place : Side → Place
second_place s = record { tag = s.pointer.tag; address = second_address s }

-- the word that a second fetch completes: below the byte that was held, above the one that it reads
unfoldable pub word_with : ℕ → Channel → Buffers → Data
word_with byte c m = record { first = byte; second = fetched_second c m }
