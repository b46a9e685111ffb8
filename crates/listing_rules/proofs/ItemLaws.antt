-- What some bytes begin with, test by test.
-- Assumes nothing.
use Rattle.std.proofs.Common.{Ok, Err, Option, Some, None}
use mathlib.Core.Path.{◌≡◌, refl, sym, ap, ◌∙◌}
use mathlib.Core.List.{List, [], ◌∷◌}
use Prim.Native.Nat.{ℕ, zero, suc, ◌+◌, ◌≤◌, ◌<◌}
use native.Mathlib.Omega.{arith}
use lib.ListN.{length, get_or}
use borrow.Author.Tests.{ne_eqb, lt-ltb, le-ltb}
use Rattle.instruction_rules.specs.Pairs.{pair_of}
use denote.Enum.Declared.{tag_of as variant}
use types.Run.{OneOf, miss}
use Rattle.instruction_rules.specs.declared.Memory.{Memory}
use Rattle.instruction_rules.specs.declared.Shape.{Shape}
use Rattle.instruction_rules.specs.declared.Shape.TheVariants.{Nop, Sintr, Xfer, Wid, Hlt, Lpdi, RegisterImmediate, Register, JumpRegister, RegisterMemory, MemoryRegister, MemoryImmediate, MemoryAlone, JumpMemory, Lpd, MovpLoad, MovpStore, MovMemory, Tsl, Call, JumpMasked, JumpBit, Bit}
use Rattle.instruction_rules.specs.Decoded.{Decoded}
use Rattle.instruction_rules.specs.declared.Unread.TheVariants.{NoInstruction, ControlUsed}
use Rattle.instruction_rules.specs.contracts.Shape as Shapes
use Rattle.instruction_rules.specs.Reading.{decode_of, second_of}
use Rattle.instruction_rules.specs.declared.Looked.{Looked}
use Rattle.instruction_rules.specs.Lengths.{offset_length, data_length, displacement_length, length_of, pair_length}
use Rattle.instruction_rules.proofs.LengthRule.{pair-rule}
use Rattle.listing_rules.proofs.FormLaws.{offset-short}
use Rattle.listing_rules.specs.declared.Item.TheVariants.{Whole, Byte}
use Rattle.listing_rules.specs.Items.{nowhere, to_of, whole_of, read_of, item_of}

-- what is less than two and not none is one
pub one_left : (n : ℕ) → n < 2 → (n ≡ 0 → ⊥) → n ≡ 1
one_left zero h z = absurd (z refl)
one_left (suc zero) h z = refl
one_left (suc (suc n)) h z = omega (arith, h)

-- what was looked up is what the pair is
pub looked-what : {l : Looked} {d : Decoded} {n : ℕ} → l ≡ record { decoded = d; length = n } → l.decoded ≡ d
looked-what e = ap (λ (l : Looked). l.decoded) e

-- and has the instruction's length
pub looked-length : (first second : ℕ) (l : Looked) (s : Shape) → l ≡ record { decoded = decode_of first second; length = pair_length (pair_of first second) } → l.decoded ≡ Ok s → l.length ≡ length_of s
looked-length first second l s e d = ap (λ (l : Looked). l.length) e ∙ sym (pair-rule first second s (sym (looked-what e) ∙ d))

-- MOV M,M has two pairs
pub mov-length : (m : Memory) → length_of (MovMemory m) ≡ 4 + offset_length m
unfolding length_of data_length displacement_length offset_length
mov-length m = omega arith

-- so both bytes of its second pair are there
pub pairs-there : (n k : ℕ) (s : Shape) (m : Memory) → k ≡ length_of s → k ≤ n → s ≡ MovMemory m → 4 + offset_length m ≤ n
pairs-there n k s m f h e = omega (arith, f, h, ap length_of e, mov-length m)

-- and its length by the number of its offset bytes
pub mov-size : (k : ℕ) (m : Memory) → k ≡ offset_length m → 4 + k ≡ length_of (MovMemory m)
mov-size k m e = omega (arith, e, mov-length m)

-- an operand has at most one offset byte
pub offset-small : (k : ℕ) (m : Memory) → k ≡ offset_length m → k ≤ 1
offset-small k m e = omega (arith, e, offset-short m)

-- the pair behind the first operand of MOV M,M is its second one
pub second-read : (bytes : List ℕ) (m : Memory) (k : ℕ) (t : Option Memory) → k ≡ offset_length m → t ≡ second_of (get_or bytes (2 + k) 0) (get_or bytes (3 + k) 0) m.wide → t ≡ to_of bytes (MovMemory m)
unfolding to_of
second-read bytes m k t e h = h ∙ rw e

-- the variants other than MOV M,M
abbrev others : List ℕ
others = 0 ∷ 1 ∷ 2 ∷ 3 ∷ 4 ∷ 5 ∷ 6 ∷ 7 ∷ 8 ∷ 9 ∷ 10 ∷ 11 ∷ 12 ∷ 13 ∷ 14 ∷ 15 ∷ 16 ∷ 18 ∷ 19 ∷ 20 ∷ 21 ∷ 22 ∷ []

-- an instruction other than MOV M,M has no second pair
pub no_second : (bytes : List ℕ) (s : Shape) → OneOf others (variant Shapes.the_type s) → Some nowhere ≡ to_of bytes s
unfolding to_of
no_second bytes Nop h = refl
no_second bytes Sintr h = refl
no_second bytes Xfer h = refl
no_second bytes (Wid a b) h = refl
no_second bytes Hlt h = refl
no_second bytes (Lpdi a) h = refl
no_second bytes (RegisterImmediate a b c) h = refl
no_second bytes (Register a b) h = refl
no_second bytes (JumpRegister a b c) h = refl
no_second bytes (RegisterMemory a b c) h = refl
no_second bytes (MemoryRegister a b c) h = refl
no_second bytes (MemoryImmediate a b) h = refl
no_second bytes (MemoryAlone a b) h = refl
no_second bytes (JumpMemory a b c) h = refl
no_second bytes (Lpd a b) h = refl
no_second bytes (MovpLoad a b) h = refl
no_second bytes (MovpStore a b) h = refl
no_second bytes (MovMemory a) h = absurd (miss others 17 tt h)
no_second bytes (Tsl a) h = refl
no_second bytes (Call a b) h = refl
no_second bytes (JumpMasked a b c) h = refl
no_second bytes (JumpBit a b c d) h = refl
no_second bytes (Bit a b c) h = refl

read_none : (bytes : List ℕ) (d : Decoded) → ((s : Shape) → d ≡ Ok s → ⊥) → read_of bytes d ≡ Byte
unfolding read_of
read_none bytes (Ok s) none = absurd (none s refl)
read_none bytes (Err NoInstruction) none = refl
read_none bytes (Err ControlUsed) none = refl

module _ (bytes : List ℕ) (s : Shape) (t : Option Memory) (second : t ≡ to_of bytes s) where
  -- the second pair is none
  pub whole-none : t ≡ None → Byte ≡ whole_of bytes s (to_of bytes s)
  unfolding whole_of
  whole-none h =
      let e : whole_of bytes s (to_of bytes s) ≡ Byte = ap (whole_of bytes s) (sym second ∙ h) in
      sym e

  module _ (n : ℕ) (size : n ≡ length_of s) (m : Memory) (to : t ≡ Some m) (k : ℕ) (offset : k ≡ offset_length m) where
    -- its offset byte is not there
    pub whole-cut : length bytes < n + k → Byte ≡ whole_of bytes s (to_of bytes s)
    unfolding whole_of
    whole-cut h =
        let e : whole_of bytes s (to_of bytes s) ≡ Byte = ap (whole_of bytes s) (sym second ∙ to) ∙ rw (lt-ltb (length bytes) (length_of s + offset_length m) (omega (arith, h, size, offset))) in
        sym e

    -- all is there
    pub whole-there : n + k ≤ length bytes → Whole s m (n + k) ≡ whole_of bytes s (to_of bytes s)
    unfolding whole_of
    whole-there h =
        let e : whole_of bytes s (to_of bytes s) ≡ Whole s m (n + k) =
        ap (whole_of bytes s) (sym second ∙ to) ∙ rw (le-ltb (length bytes) (length_of s + offset_length m) (omega (arith, h, size, offset)), size, offset) in
        sym e

-- an instruction without a second pair is there by its length
pub whole-single : (bytes : List ℕ) (s : Shape) (n : ℕ) → n ≡ length_of s → OneOf others (variant Shapes.the_type s) → n ≤ length bytes → Whole s nowhere n ≡ whole_of bytes s (to_of bytes s)
unfolding offset_length
whole-single bytes s n size h there =
    let e : n ≡ n + 0 = omega arith in
    ap (Whole s nowhere) e ∙ whole-there bytes s (Some nowhere) (no_second bytes s h) n size nowhere refl 0 refl (omega (arith, there))

module _ (bytes : List ℕ) (some : length bytes ≡ 0 → ⊥) (more : length bytes ≡ 1 → ⊥) where
  pub item-read : (d : Decoded) → d ≡ decode_of (get_or bytes 0 0) (get_or bytes 1 0) → read_of bytes d ≡ item_of bytes
  unfolding item_of
  item-read d read = rw (ne_eqb (length bytes) 0 some, ne_eqb (length bytes) 1 more, read)

  module _ (d : Decoded) (read : d ≡ decode_of (get_or bytes 0 0) (get_or bytes 1 0)) where
    -- the pair is no instruction
    pub item-none : ((s : Shape) → d ≡ Ok s → ⊥) → Byte ≡ item_of bytes
    item-none h = sym (read_none bytes d h) ∙ item-read d read

    module _ (s : Shape) (shape : d ≡ Ok s) (n : ℕ) (size : n ≡ length_of s) where
      -- its bytes are not all there
      pub item-short : length bytes < n → Byte ≡ item_of bytes
      unfolding read_of
      item-short h =
          let e : read_of bytes d ≡ Byte = ap (read_of bytes) shape ∙ rw (lt-ltb (length bytes) (length_of s) (omega (arith, h, size))) in
          sym e ∙ item-read d read

      -- they are there up to a second pair
      pub item-second : n ≤ length bytes → whole_of bytes s (to_of bytes s) ≡ item_of bytes
      unfolding read_of
      item-second h =
          let e : read_of bytes d ≡ whole_of bytes s (to_of bytes s) = ap (read_of bytes) shape ∙ rw (le-ltb (length bytes) (length_of s) (omega (arith, h, size))) in
          sym e ∙ item-read d read
