-- The laws of bytes as one number: the digits of four and of eight bytes at a place are those bytes, what instructions take from them is what the rules read there, and bytes in one piece are those of the buffer.
-- Assumes nothing.
use Rattle.std.proofs.Common.{◌≡◌, ℕ, ◌+◌, ◌*◌, ◌/◌, ◌%◌, ◌<◌, Bool, eqb, sym, ap, ◌∙◌, add_assoc, arith, eq-eqb, ne_eqb}
use Rattle.ground_rules.specs.Buffers.{Buffers, byte_at, AllBytes}
use Rattle.ground_rules.specs.Choice.{pick}
use Rattle.ground_rules.specs.Stored.{stored_address, stored_tag}
use Rattle.ground_rules.specs.Sums.{sum20, address_of}
use Rattle.ground_rules.specs.Values.{word_at, doubleword_at, pointer, onward, pointer_at}
use Rattle.ground_rules.specs.declared.Channel.{Channel}
use Rattle.ground_rules.specs.declared.Pointer.{Pointer}
use Rattle.ground_rules.proofs.PlaceLaws.{index-after, byte-index, byte-reduced}
use Rattle.instruction_rules.specs.Lengths.{offset_by}
use Rattle.instruction_rules.specs.Operands.{operand_at, displacement_at, landing}
use Rattle.execute.specs.Bytes.{four_at, eight_at, operand_of_four, landing_by}
use Rattle.execute.specs.Findings.{behind_at, index_named}

-- ---- digits of numbers

-- four digits as one number, and back
one-back : (x y z u : ℕ) → x < 256 → (x + y * 256 + z * 65536 + u * 16777216) % 256 ≡ x
one-back x y z u h = omega arith

two_back : (x y z u : ℕ) → x < 256 → y < 256 → (x + y * 256 + z * 65536 + u * 16777216) / 256 % 256 ≡ y
two_back x y z u h k = omega arith

three_back : (x y z u : ℕ) → x < 256 → y < 256 → z < 256 → (x + y * 256 + z * 65536 + u * 16777216) / 65536 % 256 ≡ z
three_back x y z u h k l = omega arith

low-back : (x y z u : ℕ) → x < 256 → y < 256 → (x + y * 256 + z * 65536 + u * 16777216) % 65536 ≡ x + y * 256
low-back x y z u h k = omega arith

high-back : (x y z u : ℕ) → x < 256 → y < 256 → (x + y * 256 + z * 65536 + u * 16777216) / 65536 ≡ z + u * 256
high-back x y z u h k = omega arith

fits : (x y z u : ℕ) → x < 256 → y < 256 → z < 256 → u < 256 → x + y * 256 + z * 65536 + u * 16777216 < 4294967296
fits x y z u h k l j = omega arith

-- the low digits of two numbers of 32 bits as one
lower-one : (l h : ℕ) → (l + h * 4294967296) % 256 ≡ l % 256
lower-one l h = omega arith

lower-two : (l h : ℕ) → (l + h * 4294967296) / 256 % 256 ≡ l / 256 % 256
lower-two l h = omega arith

lower-three : (l h : ℕ) → (l + h * 4294967296) / 65536 % 256 ≡ l / 65536 % 256
lower-three l h = omega arith

-- four of eight digits from the third on, and from the fourth on
from-two : (x y z u a b c d : ℕ) → x < 256 → y < 256 → z < 256 → u < 256 → a < 256 → b < 256
    → (x + y * 256 + z * 65536 + u * 16777216 + (a + b * 256 + c * 65536 + d * 16777216) * 4294967296) / 65536 % 4294967296 ≡ z + u * 256 + a * 65536 + b * 16777216
from-two x y z u a b c d h₁ h₂ h₃ h₄ h₅ h₆ = omega arith

from-three : (x y z u a b c d : ℕ) → x < 256 → y < 256 → z < 256 → u < 256 → a < 256 → b < 256 → c < 256
    → (x + y * 256 + z * 65536 + u * 16777216 + (a + b * 256 + c * 65536 + d * 16777216) * 4294967296) / 16777216 % 4294967296 ≡ u + a * 256 + b * 65536 + c * 16777216
from-three x y z u a b c d h₁ h₂ h₃ h₄ h₅ h₆ h₇ = omega arith

-- ---- bytes at a place

-- a place n bytes on lies where its sum does
pub byte-sum : (m : Buffers) (t : Bool) (a n : ℕ) → byte_at m t (sum20 a n) ≡ byte_at m t (a + n)
byte-sum m t a n = byte-reduced m t (a + n)

pub four-sum : (m : Buffers) (t : Bool) (a n : ℕ) → four_at m t (sum20 a n) ≡ four_at m t (a + n)
unfolding four_at
four-sum m t a n = rw (byte-reduced m t (a + n), on 1, on 2, on 3)
  where
    on : (k : ℕ) → byte_at m t (sum20 a n + k) ≡ byte_at m t (a + n + k)
    on k = byte-index m t (sum20 a n + k) (a + n + k) (index-after t (a + n) k)

-- a byte k after the j-th is the byte j + k on
byte-further : (m : Buffers) (t : Bool) (a j k : ℕ) → byte_at m t (a + j + k) ≡ byte_at m t (a + (j + k))
byte-further m t a j k = ap (byte_at m t) (add_assoc a j k)

module _ (m : Buffers) (known : AllBytes m) (t : Bool) (a : ℕ) where
  -- the k-th byte from here on
  abbrev byte : ℕ → ℕ
  byte k = byte_at m t (a + k)

  -- the bytes of four
  pub four-first : four_at m t a % 256 ≡ byte_at m t a
  unfolding four_at
  four-first = one-back (byte_at m t a) (byte 1) (byte 2) (byte 3) (known t a)

  pub four-second : four_at m t a / 256 % 256 ≡ byte_at m t (a + 1)
  unfolding four_at
  four-second = two_back (byte_at m t a) (byte 1) (byte 2) (byte 3) (known t a) (known t (a + 1))

  pub four-third : four_at m t a / 65536 % 256 ≡ byte_at m t (a + 2)
  unfolding four_at
  four-third = three_back (byte_at m t a) (byte 1) (byte 2) (byte 3) (known t a) (known t (a + 1)) (known t (a + 2))

  -- their two words
  pub four-word : four_at m t a % 65536 ≡ word_at m t a
  unfolding four_at word_at
  four-word = low-back (byte_at m t a) (byte 1) (byte 2) (byte 3) (known t a) (known t (a + 1))

  pub four-high : four_at m t a / 65536 ≡ word_at m t (a + 2)
  unfolding four_at word_at
  four-high = high-back (byte_at m t a) (byte 1) (byte 2) (byte 3) (known t a) (known t (a + 1)) ∙ ap (λ (x : ℕ). byte 2 + x * 256) (sym (byte-further m t a 2 1))

  -- four bytes are a number of 32 bits
  pub four-fits : four_at m t a < 4294967296
  unfolding four_at
  four-fits = fits (byte_at m t a) (byte 1) (byte 2) (byte 3) (known t a) (known t (a + 1)) (known t (a + 2)) (known t (a + 3))

  -- the first bytes of eight
  pub eight-first : eight_at m t a % 256 ≡ byte_at m t a
  unfolding eight_at
  eight-first = lower-one (four_at m t a) (four_at m t (a + 4)) ∙ four-first

  pub eight-second : eight_at m t a / 256 % 256 ≡ byte_at m t (a + 1)
  unfolding eight_at
  eight-second = lower-two (four_at m t a) (four_at m t (a + 4)) ∙ four-second

  pub eight-third : eight_at m t a / 65536 % 256 ≡ byte_at m t (a + 2)
  unfolding eight_at
  eight-third = lower-three (four_at m t a) (four_at m t (a + 4)) ∙ four-third

  -- four of eight, from the third on and from the fourth on
  pub eight-two : eight_at m t a / 65536 % 4294967296 ≡ four_at m t (a + 2)
  unfolding eight_at four_at
  eight-two =
      rw (byte-further m t a 4 1, byte-further m t a 4 2, byte-further m t a 4 3, byte-further m t a 2 1, byte-further m t a 2 2, byte-further m t a 2 3)
      (from-two (byte_at m t a) (byte 1) (byte 2) (byte 3) (byte 4) (byte 5) (byte 6) (byte 7) (known t a) (known t (a + 1)) (known t (a + 2)) (known t (a + 3)) (known t (a + 4)) (known t (a + 5)))

  pub eight-three : eight_at m t a / 16777216 % 4294967296 ≡ four_at m t (a + 3)
  unfolding eight_at four_at
  eight-three =
      rw (byte-further m t a 4 1, byte-further m t a 4 2, byte-further m t a 4 3, byte-further m t a 3 1, byte-further m t a 3 2, byte-further m t a 3 3)
      (from-three (byte_at m t a) (byte 1) (byte 2) (byte 3) (byte 4) (byte 5) (byte 6) (byte 7) (known t a) (known t (a + 1)) (known t (a + 2)) (known t (a + 3)) (known t (a + 4)) (known t (a + 5)) (known t (a + 6)))

  -- the address that four bytes give as a doubleword, and the pointer that they begin with
  pub four-doubleword : address_of (four_at m t a % 65536) (four_at m t a / 65536) ≡ doubleword_at m t a
  unfolding doubleword_at
  four-doubleword = rw (four-word, four-high)

  pub four-pointer : pointer (stored_address (four_at m t a % 256) (four_at m t a / 256 % 256) (four_at m t a / 65536 % 256)) (stored_tag (four_at m t a / 65536 % 256)) ≡ pointer_at m t a
  unfolding pointer_at
  four-pointer = rw (four-first, four-second, four-third)

-- ---- what instructions take

module _ (m : Buffers) (known : AllBytes m) where
  -- the operand that four bytes begin with stands at their place
  pub operand-is : (p : Pointer) (wide : Bool) → operand_of_four (four_at m p.tag p.address) wide ≡ operand_at m p wide
  unfolding operand_of_four operand_at
  operand-is p wide = rw (four-word m known p.tag p.address, four-first m known p.tag p.address)

  -- what stands behind a pair and its offset byte: an operand
  pub behind-operand : (p : Pointer) (aa : ℕ) (wide : Bool) → operand_of_four (behind_at m p aa) wide ≡ operand_at m (onward p (2 + offset_by aa)) wide
  unfolding behind_at onward
  behind-operand p aa wide = rw (← (four-sum m p.tag p.address (2 + offset_by aa))) (operand-is (onward p (2 + offset_by aa)) wide)

  -- or a displacement
  pub behind-landing : (tp p : Pointer) (aa : ℕ) (two : Bool) → pointer (landing_by tp.address (behind_at m p aa) two) tp.tag ≡ landing m tp (onward p (2 + offset_by aa)) two
  unfolding behind_at onward landing_by landing displacement_at
  behind-landing tp p aa two =
      let a = sum20 p.address (2 + offset_by aa) in
      rw (← (four-sum m p.tag p.address (2 + offset_by aa)), four-word m known p.tag a, four-first m known p.tag a)

  -- of the eight that begin with a pair, with an offset byte and without one
  pub behind-offset : (p : Pointer) (aa bytes : ℕ) → bytes ≡ eight_at m p.tag p.address → aa ≡ 1 → bytes / 16777216 % 4294967296 ≡ behind_at m p aa
  unfolding behind_at
  behind-offset p aa bytes e one = ap (λ (n : ℕ). n / 16777216 % 4294967296) e ∙ rw (eq-eqb aa 1 one) (eight-three m known p.tag p.address)

  pub behind-pair : (p : Pointer) (aa bytes : ℕ) → bytes ≡ eight_at m p.tag p.address → (aa ≡ 1 → ⊥) → bytes / 65536 % 4294967296 ≡ behind_at m p aa
  unfolding behind_at
  behind-pair p aa bytes e none = ap (λ (n : ℕ). n / 65536 % 4294967296) e ∙ rw (ne_eqb aa 1 none) (eight-two m known p.tag p.address)

  -- what AA adds to the base, the offset byte being the third of them
  pub index_in : (c : Channel) (aa bytes : ℕ) → bytes ≡ eight_at m c.tp.tag c.tp.address
      → pick (eqb aa 0) 0 (pick (eqb aa 1) (bytes / 65536 % 256) c.ix) ≡ index_named m c aa
  unfolding index_named onward
  index_in c aa bytes e =
      ap (λ (n : ℕ). pick (eqb aa 0) 0 (pick (eqb aa 1) n c.ix))
      (ap (λ (n : ℕ). n / 65536 % 256) e ∙ eight-third m known c.tp.tag c.tp.address ∙ sym (byte-sum m c.tp.tag c.tp.address 2))
