-- The places of operands: where bytes lie, and the last of some names.
-- Assumes nothing.
use mathlib.Core.Path.{◌≡◌, refl}
use mathlib.Core.Bool.{true}
use mathlib.Core.List.{List, [], ◌∷◌}
use Prim.Native.Nat.{ℕ, zero, suc, ◌≤◌}
use native.Mathlib.Omega.{arith}
use lib.ListN.{get_or}
use denote.Enum.Declared.{tag_of as variant}
use types.Run.{OneOf, miss}
use Rattle.instruction_rules.specs.declared.Memory.{Memory}
use Rattle.instruction_rules.specs.declared.Shape.{Shape}
use Rattle.instruction_rules.specs.declared.Shape.TheVariants.{Nop, Sintr, Xfer, Wid, Hlt, Lpdi, RegisterImmediate, Register, JumpRegister, RegisterMemory, MemoryRegister, MemoryImmediate, MemoryAlone, JumpMemory, Lpd, MovpLoad, MovpStore, MovMemory, Tsl, Call, JumpMasked, JumpBit, Bit}
use Rattle.instruction_rules.specs.contracts.Shape.{the_type}
use Rattle.instruction_rules.specs.Lengths.{offset_length}
use Rattle.instruction_rules.proofs.TableLaws.{Avoids}
use Rattle.instruction_rules.proofs.LengthLaws.{offset-small}
use Rattle.listing_rules.specs.Characters.{ascii}
use Rattle.listing_rules.specs.Mnemonics.{is_listed}
use Rattle.listing_rules.specs.Forms.{after_offset, register_name}

-- an operand has at most one offset byte
pub offset-short : (m : Memory) → offset_length m ≤ 1
unfolding offset_length
offset-short m = offset-small m.aa

pub after-short : (m : Memory) → after_offset m ≤ 3
unfolding after_offset
after-short m = omega (arith, offset-short m)

pub after-fits : (r : ℕ) (m : Memory) → r ≡ after_offset m → r ≤ 3
after-fits r m e = omega (arith, e, after-short m)

-- a number that is none of the first three, or of the first seven, has the last name
pub past_three : (a b c d : List ℕ) (n : ℕ) → Avoids n (2 ∷ 1 ∷ 0 ∷ []) → get_or (a ∷ b ∷ c ∷ []) n d ≡ d
past_three a b c d zero h = absurd (h.0.0.1 refl)
past_three a b c d (suc zero) h = absurd (h.0.1 refl)
past_three a b c d (suc (suc zero)) h = absurd (h.1 refl)
past_three a b c d (suc (suc (suc n))) h = refl

pub past-seven : (n : ℕ) → Avoids n (6 ∷ 5 ∷ 4 ∷ 3 ∷ 2 ∷ 1 ∷ 0 ∷ []) → register_name n ≡ ascii "MC"
unfolding register_name
past-seven zero h = absurd (h.0.0.0.0.0.0.1 refl)
past-seven (suc zero) h = absurd (h.0.0.0.0.0.1 refl)
past-seven (suc (suc zero)) h = absurd (h.0.0.0.0.1 refl)
past-seven (suc (suc (suc zero))) h = absurd (h.0.0.0.1 refl)
past-seven (suc (suc (suc (suc zero)))) h = absurd (h.0.0.1 refl)
past-seven (suc (suc (suc (suc (suc zero))))) h = absurd (h.0.1 refl)
past-seven (suc (suc (suc (suc (suc (suc zero)))))) h = absurd (h.1 refl)
past-seven (suc (suc (suc (suc (suc (suc (suc n))))))) h = refl

-- the variants other than CALL
abbrev others : List ℕ
others = 0 ∷ 1 ∷ 2 ∷ 3 ∷ 4 ∷ 5 ∷ 6 ∷ 7 ∷ 8 ∷ 9 ∷ 10 ∷ 11 ∷ 12 ∷ 13 ∷ 14 ∷ 15 ∷ 16 ∷ 17 ∷ 18 ∷ 20 ∷ 21 ∷ 22 ∷ []

-- an instruction other than CALL has a line of its own
pub other-listed : (s : Shape) → OneOf others (variant the_type s) → true ≡ is_listed s
other-listed Nop h = refl
other-listed Sintr h = refl
other-listed Xfer h = refl
other-listed (Wid a b) h = refl
other-listed Hlt h = refl
other-listed (Lpdi a) h = refl
other-listed (RegisterImmediate a b c) h = refl
other-listed (Register a b) h = refl
other-listed (JumpRegister a b c) h = refl
other-listed (RegisterMemory a b c) h = refl
other-listed (MemoryRegister a b c) h = refl
other-listed (MemoryImmediate a b) h = refl
other-listed (MemoryAlone a b) h = refl
other-listed (JumpMemory a b c) h = refl
other-listed (Lpd a b) h = refl
other-listed (MovpLoad a b) h = refl
other-listed (MovpStore a b) h = refl
other-listed (MovMemory a) h = refl
other-listed (Tsl a) h = refl
other-listed (Call a b) h = absurd (miss others 19 tt h)
other-listed (JumpMasked a b c) h = refl
other-listed (JumpBit a b c d) h = refl
other-listed (Bit a b c) h = refl
