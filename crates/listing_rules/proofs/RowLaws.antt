-- What a whole instruction is made of, and how many bytes a line lists.
-- Assumes nothing.
use Rattle.std.proofs.Common.{Ok, Err, Option, Some, None}
use mathlib.Core.Path.{◌≡◌, refl, sym, ap, ◌∙◌}
use mathlib.Core.Bool.{Bool, true, false, false≢true}
use mathlib.Core.List.{List}
use Prim.Native.Nat.{ℕ, ◌+◌, ◌≤◌}
use native.Mathlib.Omega.{arith}
use lib.Dec.{eqb, ltb}
use lib.ListN.{length, get_or}
use borrow.Author.Tests.{ltb-false, eqb-false, ne_eqb}
use Rattle.ground_rules.specs.Choice.{pick}
use Rattle.instruction_rules.specs.declared.Memory.{Memory}
use Rattle.instruction_rules.specs.declared.Shape.{Shape}
use Rattle.instruction_rules.specs.declared.Shape.TheVariants.{Nop, Sintr, Xfer, Wid, Hlt, Lpdi, RegisterImmediate, Register, JumpRegister, RegisterMemory, MemoryRegister, MemoryImmediate, MemoryAlone, JumpMemory, Lpd, MovpLoad, MovpStore, MovMemory, Tsl, Call, JumpMasked, JumpBit, Bit}
use Rattle.instruction_rules.specs.Decoded.{Decoded}
use Rattle.instruction_rules.specs.declared.Unread.TheVariants.{NoInstruction, ControlUsed}
use Rattle.instruction_rules.specs.Reading.{decode_of}
use Rattle.instruction_rules.specs.Lengths.{offset_by, offset_length, data_length, displacement_length, length_of}
use Rattle.instruction_rules.proofs.LengthLaws.{bounded, more-small, offset-small}
use Rattle.listing_rules.specs.Mnemonics.{is_listed}
use Rattle.listing_rules.specs.declared.Item.{Item}
use Rattle.listing_rules.specs.declared.Item.TheVariants.{Whole, Byte, End}
use Rattle.listing_rules.specs.Items.{nowhere, to_of, whole_of, read_of, item_of, count_of}

-- a whole instruction: the shape that its first pair decodes to, the operand of its second pair, its bytes
pub record WholeAt (bytes : List ℕ) (s : Shape) (to : Memory) (n : ℕ) : Type 0 where
  pub pair : decode_of (get_or bytes 0 0) (get_or bytes 1 0) ≡ Ok s
  pub second : to_of bytes s ≡ Some to
  pub size : n ≡ length_of s + offset_length to
  pub there : n ≤ length bytes

end_whole : {A : Type 0} {s : Shape} {to : Memory} {n : ℕ} → End ≡ Whole s to n → A
end_whole h = let z : ◌≡◌ {A = ℕ} 0 1 = cc in absurd (eqb-false 0 1 refl z)

byte-whole : {A : Type 0} {s : Shape} {to : Memory} {n : ℕ} → Byte ≡ Whole s to n → A
byte-whole h = let z : ◌≡◌ {A = ℕ} 0 1 = cc in absurd (eqb-false 0 1 refl z)

module _ (bytes : List ℕ) (s : Shape) (to : Memory) (n : ℕ) where
  whole-second : (r : Shape) (t : Option Memory) → decode_of (get_or bytes 0 0) (get_or bytes 1 0) ≡ Ok r → to_of bytes r ≡ t → whole_of bytes r t ≡ Whole s to n → WholeAt bytes s to n
  unfolding whole_of
  whole-second r None p q h = byte-whole h
  whole-second r (Some m) p q h = go (ltb (length bytes) (length_of r + offset_length m)) refl h
    where
      go : (b : Bool) → ltb (length bytes) (length_of r + offset_length m) ≡ b → pick b Byte (Whole r m (length_of r + offset_length m)) ≡ Whole s to n → WholeAt bytes s to n
      go true e t = byte-whole t
      go false e t =
          let e1 : r ≡ s = cc in
          let e2 : m ≡ to = cc in
          let e3 : length_of r + offset_length m ≡ n = cc in
          record {
            pair = rw e1 at p;
            second = rw (e1, e2) at q;
            size = sym e3 ∙ rw (e1, e2);
            there = omega (arith, e3, ltb-false (length bytes) (length_of r + offset_length m) e);
          }

  whole-read : (d : Decoded) → decode_of (get_or bytes 0 0) (get_or bytes 1 0) ≡ d → read_of bytes d ≡ Whole s to n → WholeAt bytes s to n
  unfolding read_of
  whole-read (Err NoInstruction) p h = byte-whole h
  whole-read (Err ControlUsed) p h = byte-whole h
  whole-read (Ok r) p h = go (ltb (length bytes) (length_of r)) h
    where
      go : (b : Bool) → pick b Byte (whole_of bytes r (to_of bytes r)) ≡ Whole s to n → WholeAt bytes s to n
      go true t = byte-whole t
      go false t = whole-second r (to_of bytes r) p refl t

  -- what the reader hands out as an instruction is the one that the pair decodes to, whole
  pub whole-at : item_of bytes ≡ Whole s to n → WholeAt bytes s to n
  unfolding item_of
  whole-at h = go (eqb (length bytes) 0) (eqb (length bytes) 1) h
    where
      go : (a b : Bool) → pick a End (pick b Byte (read_of bytes (decode_of (get_or bytes 0 0) (get_or bytes 1 0)))) ≡ Whole s to n → WholeAt bytes s to n
      go true b t = end_whole t
      go false true t = byte-whole t
      go false false t = whole-read (decode_of (get_or bytes 0 0) (get_or bytes 1 0)) refl t

wholes : (bytes : List ℕ) (t : Option Memory) (r : Shape) → whole_of bytes r t ≡ End → ⊥
unfolding whole_of
wholes bytes None r e = let z : ◌≡◌ {A = ℕ} 0 1 = cc in eqb-false 0 1 refl z
wholes bytes (Some m) r e = go (ltb (length bytes) (length_of r + offset_length m)) e
  where
    go : (b : Bool) → pick b Byte (Whole r m (length_of r + offset_length m)) ≡ End → ⊥
    go true t = let z : ◌≡◌ {A = ℕ} 0 1 = cc in eqb-false 0 1 refl z
    go false t = let z : ◌≡◌ {A = ℕ} 0 1 = cc in eqb-false 0 1 refl z

reads : (bytes : List ℕ) (d : Decoded) → read_of bytes d ≡ End → ⊥
unfolding read_of
reads bytes (Err NoInstruction) e = let z : ◌≡◌ {A = ℕ} 0 1 = cc in eqb-false 0 1 refl z
reads bytes (Err ControlUsed) e = let z : ◌≡◌ {A = ℕ} 0 1 = cc in eqb-false 0 1 refl z
reads bytes (Ok r) e = go (ltb (length bytes) (length_of r)) e
  where
    go : (b : Bool) → pick b Byte (whole_of bytes r (to_of bytes r)) ≡ End → ⊥
    go true t = let z : ◌≡◌ {A = ℕ} 0 1 = cc in eqb-false 0 1 refl z
    go false t = wholes bytes (to_of bytes r) r t

-- there is nothing only where there is no byte
pub not-ended : (bytes : List ℕ) → (length bytes ≡ 0 → ⊥) → item_of bytes ≡ End → ⊥
unfolding item_of
not-ended bytes some h = go (eqb (length bytes) 1) (rw (ne_eqb (length bytes) 0 some) at h)
  where
    go : (b : Bool) → pick b Byte (read_of bytes (decode_of (get_or bytes 0 0) (get_or bytes 1 0))) ≡ End → ⊥
    go true e = let z : ◌≡◌ {A = ℕ} 0 1 = cc in eqb-false 0 1 refl z
    go false e = reads bytes (decode_of (get_or bytes 0 0) (get_or bytes 1 0)) e

-- a line takes a byte at least
pub count-some : (bytes : List ℕ) → (length bytes ≡ 0 → ⊥) → 1 ≤ count_of (item_of bytes)
count-some bytes some = go (item_of bytes) refl
  where
    go : (i : Item) → item_of bytes ≡ i → 1 ≤ count_of i
    go (Whole s to n) e = let w = whole-at bytes s to n e in omega (arith, w.size, bounded s)
    go Byte e = omega arith
    go End e = absurd (not-ended bytes some e)

-- and no more than there are
pub count-there : (bytes : List ℕ) → (length bytes ≡ 0 → ⊥) → count_of (item_of bytes) ≤ length bytes
count-there bytes some = go (item_of bytes) refl
  where
    go : (i : Item) → item_of bytes ≡ i → count_of i ≤ length bytes
    go (Whole s to n) e = (whole-at bytes s to n e).there
    go Byte e = omega (arith, some)
    go End e = omega arith

-- the instruction without a line of its own has at most five bytes
pub call-size : (bytes : List ℕ) (s : Shape) (to : Memory) → is_listed s ≡ false → to_of bytes s ≡ Some to → length_of s + offset_length to ≤ 5
unfolding to_of length_of data_length displacement_length offset_length
call-size bytes Nop to h e = absurd (false≢true (sym h))
call-size bytes Sintr to h e = absurd (false≢true (sym h))
call-size bytes Xfer to h e = absurd (false≢true (sym h))
call-size bytes (Wid a b) to h e = absurd (false≢true (sym h))
call-size bytes Hlt to h e = absurd (false≢true (sym h))
call-size bytes (Lpdi a) to h e = absurd (false≢true (sym h))
call-size bytes (RegisterImmediate a b c) to h e = absurd (false≢true (sym h))
call-size bytes (Register a b) to h e = absurd (false≢true (sym h))
call-size bytes (JumpRegister a b c) to h e = absurd (false≢true (sym h))
call-size bytes (RegisterMemory a b c) to h e = absurd (false≢true (sym h))
call-size bytes (MemoryRegister a b c) to h e = absurd (false≢true (sym h))
call-size bytes (MemoryImmediate a b) to h e = absurd (false≢true (sym h))
call-size bytes (MemoryAlone a b) to h e = absurd (false≢true (sym h))
call-size bytes (JumpMemory a b c) to h e = absurd (false≢true (sym h))
call-size bytes (Lpd a b) to h e = absurd (false≢true (sym h))
call-size bytes (MovpLoad a b) to h e = absurd (false≢true (sym h))
call-size bytes (MovpStore a b) to h e = absurd (false≢true (sym h))
call-size bytes (MovMemory a) to h e = absurd (false≢true (sym h))
call-size bytes (Tsl a) to h e = absurd (false≢true (sym h))
call-size bytes (Call m two) to h e =
    let z : nowhere ≡ to = cc in
    omega (arith, ap (λ (o : Memory). offset_by o.aa) z, offset-small m.aa, more-small two)
call-size bytes (JumpMasked a b c) to h e = absurd (false≢true (sym h))
call-size bytes (JumpBit a b c d) to h e = absurd (false≢true (sym h))
call-size bytes (Bit a b c) to h e = absurd (false≢true (sym h))
