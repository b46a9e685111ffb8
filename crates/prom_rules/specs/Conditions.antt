-- When each number is given, in words of lines and records: what makes a line no record, its sum wrong or its type unknown; which record decides; what lies beyond memory (§12.3).
use Rattle.std.specs.Prelude.{ℕ, ◌+◌, ◌*◌, ◌%◌, ◌<◌, ◌≤◌, length, List, [], ◌∷◌, ◌⊎◌, ◌≡◌}
use Rattle.ground_rules.specs.Conditions.{Check, check, Exactly}
use Rattle.prom_rules.specs.File.{FileStore, next_line}
use Rattle.prom_rules.specs.Records.{digits_of, record_of, hex_size, type_of, sum_of}

-- a hexadecimal digit, 0-9, A-F or a-f (§12.1)
abbrev pub Hexadecimal : ℕ → Type 0
Hexadecimal b = ((48 ≤ b) × (b ≤ 57)) ⊎ (((65 ≤ b) × (b ≤ 70)) ⊎ ((97 ≤ b) × (b ≤ 102)))

-- some byte is none
abbrev pub SomeOther : List ℕ → Type 0
SomeOther [] = ⊥
SomeOther (b ∷ bs) = ¬ (Hexadecimal b) ⊎ SomeOther bs

-- a line that is blank or without its colon
abbrev pub NoColon : List ℕ → Type 0
NoColon [] = Unit {0}
NoColon (b ∷ bs) = ¬ (b ≡ 58)

-- more or fewer digits than its length says: two for each data byte, and ten
abbrev pub OtherCount : List ℕ → Type 0
OtherCount line = ¬ (length (digits_of line) ≡ 2 * (hex_size (record_of line) + 5))

-- 20: not a record (§12.3)
abbrev pub NotRecord : List ℕ → Type 0
NotRecord line = NoColon line ⊎ (SomeOther (digits_of line) ⊎ OtherCount line)

-- 21: its bytes do not sum to 0 mod 256 (§12.3)
abbrev pub WrongSum : List ℕ → Type 0
WrongSum line = ¬ (sum_of (record_of line) % 256 ≡ 0)

-- a type over 03, or a length that does not fit types 01, 02 and 03
abbrev pub Unfit : ℕ → ℕ → Type 0
Unfit kind size = (4 ≤ kind) ⊎ (((kind ≡ 1) × ¬ (size ≡ 0)) ⊎ (((kind ≡ 2) × ¬ (size ≡ 2)) ⊎ ((kind ≡ 3) × ¬ (size ≡ 4))))

-- 22: another type, or a length that does not fit its type (§12.3)
abbrev pub WrongType : List ℕ → Type 0
WrongType line = Unfit (type_of (record_of line)) (hex_size (record_of line))

-- the checks of a line, in their order
abbrev pub line_checks : List ℕ → List Check
line_checks line = check 20 (NotRecord line) ∷ check 21 (WrongSum line) ∷ check 22 (WrongType line) ∷ []

-- a good record: none of them applies
abbrev pub GoodRecord : List ℕ → Type 0
GoodRecord line = Exactly (line_checks line) 0

-- a good record of type 01
abbrev pub EndRecord : List ℕ → Type 0
EndRecord line = GoodRecord line × (type_of (record_of line) ≡ 1)

-- a good record after which the file goes on
abbrev pub Passes : List ℕ → Type 0
Passes line = GoodRecord line × ¬ (type_of (record_of line) ≡ 1)

-- line k is the first that does not pass, and its number is n; `before` lines stand before
abbrev pub Decides : ℕ → List (List ℕ) → ℕ → ℕ → Type 0
Decides n [] before k = ⊥
Decides n (line ∷ lines) before k = (Exactly (line_checks line) n × (k ≡ next_line before)) ⊎ (Passes line × Decides n lines (next_line before) k)

-- 23: every line passes, and k were read (§12.3)
abbrev pub NoEnd : List (List ℕ) → ℕ → ℕ → Type 0
NoEnd [] before k = k ≡ before
NoEnd (line ∷ lines) before k = Passes line × NoEnd lines (next_line before) k

-- the file reaches its end record
abbrev pub Ends : List (List ℕ) → Type 0
Ends [] = ⊥
Ends (line ∷ lines) = EndRecord line ⊎ (Passes line × Ends lines)

-- 11: system memory is longer than 1,048,576 bytes (§12.3)
abbrev pub OverLong : List ℕ → Type 0
OverLong sys = 1048576 < length sys

-- 2: a byte to be stored lies beyond lent memory, and line k holds the first (§12.3)
abbrev pub FirstBeyond : List ℕ → List FileStore → ℕ → Type 0
FirstBeyond sys [] k = ⊥
FirstBeyond sys (s ∷ ss) k =
    ((length sys ≤ s.address % 1048576) × (k ≡ s.line)) ⊎ ((s.address % 1048576 < length sys) × FirstBeyond sys ss k)

-- every byte to be stored is lent
abbrev pub AllWithin : List ℕ → List FileStore → Type 0
AllWithin sys [] = Unit {0}
AllWithin sys (s ∷ ss) = (s.address % 1048576 < length sys) × AllWithin sys ss
