-- What an instruction stores: the lowest bytes of a value, at one place (§6.22).
use Rattle.std.specs.Prelude.{Bool, false, List, ℕ, ◌+◌, ◌*◌, ◌/◌, ◌%◌, eqb}
use Rattle.ground_rules.specs.Choice.{pick}
use Rattle.ground_rules.specs.Stored.{stored_low, stored_middle, stored_high}
use Rattle.ground_rules.specs.Buffers.{Buffers, store_byte}
use Rattle.ground_rules.specs.Values.{pointer}
use Rattle.ground_rules.specs.Places.{Place}
use Rattle.ground_rules.specs.declared.Pointer.{Pointer}
use Rattle.instruction_rules.specs.declared.Change.{Change}
use Rattle.instruction_rules.specs.Operands.{bytes_at, size_of}

-- `count` bytes of a value at a place
abbrev pub change : ℕ → Pointer → ℕ → Change
change count at value = record { count = count; at = at; value = value }

-- the places that a change stores to
unfoldable pub places_of : Change → List Place
places_of ch = bytes_at ch.at ch.count

-- the memory after a change: as many bytes of the value as it counts, at most three, the lowest first
unfoldable pub changed : Buffers → Change → Buffers
changed m ch =
    let tag = ch.at.tag in
    let address = ch.at.address in
    let one = store_byte m tag address (ch.value % 256) in
    let two = store_byte one tag (address + 1) (ch.value / 256 % 256) in
    let three = store_byte two tag (address + 2) (ch.value / 65536 % 256) in
    pick (eqb ch.count 0) m (pick (eqb ch.count 1) one (pick (eqb ch.count 2) two three))

-- no change
abbrev pub nothing : Change
nothing = change 0 (pointer 0 false) 0

-- a byte
abbrev pub byte_to : Pointer → ℕ → Change
byte_to at v = change 1 at v

-- a result as a byte or a word: it loses its high bits (§6.9)
abbrev pub result_to : Pointer → Bool → ℕ → Change
result_to at wide v = change (size_of wide) at v

-- the three stored bytes of a pointer as one number (§1.6)
unfoldable pub stored_value : Pointer → ℕ
stored_value p = stored_low p.address + stored_middle p.address * 256 + stored_high p.address p.tag * 65536

-- a pointer in its stored form
abbrev pub pointer_to : Pointer → Pointer → Change
pointer_to at p = change 3 at (stored_value p)
