-- The stored form of a pointer (§1.6), three bytes: address bits 7-0; bits 15-8; bits 19-16 in the high half, tag in bit 3, zeros below.
use Rattle.std.specs.Prelude.{Bool, ℕ, ◌+◌, ◌*◌, ◌/◌, ◌%◌}
use Rattle.ground_rules.specs.Choice.{pick}
use Rattle.ground_rules.specs.Bits.{bit_of}

-- the first stored byte
abbrev pub stored_low : ℕ → ℕ
stored_low address = address % 256

-- the second stored byte
abbrev pub stored_middle : ℕ → ℕ
stored_middle address = address / 256 % 256

-- the third stored byte
abbrev pub stored_high : ℕ → Bool → ℕ
stored_high address tag = address / 65536 % 16 * 16 + pick tag 8 0

-- the address that three stored bytes give
abbrev pub stored_address : ℕ → ℕ → ℕ → ℕ
stored_address low middle high = low + middle * 256 + high / 16 * 65536

-- the tag that the third stored byte gives
abbrev pub stored_tag : ℕ → Bool
stored_tag high = bit_of high 3
