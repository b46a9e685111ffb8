-- Bytes at a place as one number, the lowest first, and what instructions take from such a number.
use Rattle.std.specs.Prelude.{ℕ, ◌+◌, ◌-◌, ◌*◌, ◌/◌, ◌%◌, ◌^◌, Bool, ◌&&◌, List, length, ◌==◌, nat_le, nat_lt, slice_index}
use Rattle.ground_rules.specs.Buffers.{Buffers, byte_at}
use Rattle.ground_rules.specs.Choice.{pick}
use Rattle.ground_rules.specs.Signs.{signed_of, extended, displaced_by}
use Rattle.instruction_rules.specs.declared.Memory.{Memory}

-- four bytes of a buffer, and eight
unfoldable pub four_from : List ℕ → ℕ → ℕ
four_from xs at = slice_index xs at + slice_index xs (at + 1) * 256 + slice_index xs (at + 2) * 65536 + slice_index xs (at + 3) * 16777216

unfoldable pub eight_from : List ℕ → ℕ → ℕ
eight_from xs at = four_from xs at + four_from xs (at + 4) * 4294967296

-- how many bytes of a buffer addresses reach, `most` at the most
unfoldable pub reachable : List ℕ → ℕ → ℕ
reachable xs most = pick (nat_lt (length xs) most) (length xs) most

-- eight digits: those of a number without its lowest `by`, and above them the lowest of another
unfoldable pub over_by : ℕ → ℕ → ℕ → ℕ
over_by low high by = low / 2 ^ (8 * by) + high * 2 ^ (64 - 8 * by) % 18446744073709551616

-- eight bytes behind the end of a buffer of which addresses reach `most`: what reads beyond it give, up to the top, and its first ones from there on
unfoldable pub behind_end : List ℕ → ℕ → ℕ → ℕ
behind_end xs most beyond =
    pick (nat_lt (length xs) most && nat_lt most (length xs + 8)) (over_by beyond (eight_from xs 0) (length xs + 8 - most))
    (pick (nat_le most (length xs)) (eight_from xs 0) beyond)

-- four bytes at a place, and eight
unfoldable pub four_at : Buffers → Bool → ℕ → ℕ
four_at m tag address = byte_at m tag address + byte_at m tag (address + 1) * 256 + byte_at m tag (address + 2) * 65536 + byte_at m tag (address + 3) * 16777216

unfoldable pub eight_at : Buffers → Bool → ℕ → ℕ
eight_at m tag address = four_at m tag address + four_at m tag (address + 4) * 4294967296

-- the operand that four bytes begin with, a byte or a word, extended by its sign to 20 bits
unfoldable pub operand_of_four : ℕ → Bool → ℕ
operand_of_four bytes wide = pick wide (extended 16 (bytes % 65536)) (extended 8 (bytes % 256))

-- where a jump leads by the displacement that four bytes begin with, of a byte or a word
unfoldable pub landing_by : ℕ → ℕ → Bool → ℕ
landing_by tp bytes two = displaced_by tp (pick two (signed_of 16 (bytes % 65536)) (signed_of 8 (bytes % 256)))

-- IX once an operand of some bytes was used: it grows where AA is 11
unfoldable pub grown_ix : Memory → ℕ → ℕ → ℕ
grown_ix o ix by = pick (o.aa == 3) ((ix + by) % 65536) ix
