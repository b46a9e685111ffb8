-- What one part of a state is in bytes: a number of some width, little end first; a truth value; a mode; a code of CC; the number of what is held (§11.1).
use Rattle.std.specs.Prelude.{Bool, List, [], ◌∷◌, ◌⊎◌, ◌≡◌, ℕ, zero, suc, ◌+◌, ◌*◌, ◌/◌, ◌%◌, ◌<◌, ◌≤◌, eqb, ltb, get_or}
use Rattle.ground_rules.specs.Choice.{pick}
use Rattle.ground_rules.specs.declared.Mode.{Mode}
use Rattle.ground_rules.specs.declared.Mode.TheVariants.{Idle, Running, Suspended}

-- the `width` bytes of a number, little end first
unfoldable pub little_end : ℕ → ℕ → List ℕ
little_end zero n = []
little_end (suc width) n = n % 256 ∷ little_end width (n / 256)

-- the number that the `width` bytes from `at` on stand for
unfoldable pub little_in : ℕ → List ℕ → ℕ → ℕ
little_in zero b at = 0
little_in (suc width) b at = get_or b at 0 + 256 * little_in width b (at + 1)

-- a truth value as a byte
unfoldable pub flag_of : Bool → ℕ
flag_of on = pick on 1 0

-- the truth value that a byte stands for
unfoldable pub flag_in : List ℕ → ℕ → Bool
flag_in b at = eqb (get_or b at 0) 1

-- a byte stands for a truth value (else 17)
unfoldable pub is_flag : List ℕ → ℕ → Bool
is_flag b at = ltb (get_or b at 0) 2

-- it stands for none
abbrev pub NoFlag : List ℕ → ℕ → Type 0
NoFlag b at = 2 ≤ get_or b at 0

-- a mode as a byte
unfoldable pub mode_byte : Mode → ℕ
mode_byte Idle = 0
mode_byte Running = 1
mode_byte Suspended = 2

-- the mode that a byte stands for
unfoldable pub mode_in : List ℕ → ℕ → Mode
mode_in b at = pick (eqb (get_or b at 0) 0) Idle (pick (eqb (get_or b at 0) 1) Running Suspended)

-- a byte stands for a mode (else 17)
unfoldable pub is_mode : List ℕ → ℕ → Bool
is_mode b at = ltb (get_or b at 0) 3

-- it stands for none
abbrev pub NoMode : List ℕ → ℕ → Type 0
NoMode b at = 3 ≤ get_or b at 0

-- a byte stands for a field of CC that has so many values (else 17)
unfoldable pub is_code : List ℕ → ℕ → ℕ → Bool
is_code b at values = ltb (get_or b at 0) values

-- it stands for none
abbrev pub PastWidth : List ℕ → ℕ → ℕ → Type 0
PastWidth b at values = values ≤ get_or b at 0

-- two bytes are no held number: neither 0 nor 256 to 511
abbrev pub NoHeld : List ℕ → ℕ → Type 0
NoHeld b at = ¬ (little_in 2 b at ≡ 0) × (little_in 2 b at < 256 ⊎ 512 ≤ little_in 2 b at)
