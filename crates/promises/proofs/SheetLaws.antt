-- What the sheet of the machine rests on: bits as numbers, and bytes at addresses that are alike in 20 bits.
-- Assumes nothing.
use Prim.Native.Nat.{ℕ, ◌+◌, ◌/◌, ◌%◌, ◌^◌}
use borrow.Author.Tests.{eqb-true, eqb-false}
use lib.Dec.{eqb}
use mathlib.Core.Bool.{Bool, true, false}
use mathlib.Core.Path.{◌≡◌, refl, sym, ap, ap₂, ◌∙◌}
use native.Mathlib.Omega.{arith}
use Rattle.ground_rules.specs.States.{channel_of, channel_number}
use Rattle.ground_rules.proofs.PlaceLaws.{byte-reduced, lent-index, index-reduced}
use Rattle.ground_rules.specs.Buffers.{Buffers, space_of, limit_of, index_of, lent_at, beyond_in, byte_at, store_byte}
use Rattle.ground_rules.specs.Values.{word_at, doubleword_at}
use Rattle.ground_rules.proofs.BitLaws.{bit-same, bit-other}
use Rattle.ground_rules.specs.Bits.{bit_of, with_bit}
use Rattle.ground_rules.specs.Bytes.{word_of}
use Rattle.ground_rules.specs.Choice.{pick}
use Rattle.ground_rules.specs.Sums.{address_of}
use Rattle.promises.specs.SheetWords.{Names, bit, word_in, far_in}

-- ---- the names

pub names : Names
unfolding byte_at beyond_in lent_at store_byte index_of limit_of space_of channel_of channel_number bit_of
names = record {
  system_index = λ a. refl;
  io_index = λ a. refl;
  system_read = λ m a. refl;
  io_read = λ m a. refl;
  system_lent = λ m a. refl;
  io_lent = λ m a. refl;
  system_store = λ m a v. refl;
  io_store = λ m a v. refl;
  first = λ s. refl;
  second = λ s. refl;
  one = refl;
  two = refl;
  transfers = λ psw. refl;
}

-- ---- bits

-- what is not 1 is 0
not-one : (n : ℕ) → (n % 2 ≡ 1 → ⊥) → n % 2 ≡ 0
not-one n h = omega arith

-- a bit as a number and as a test
pub digit-of : (x k : ℕ) → bit x k ≡ pick (bit_of x k) 1 0
unfolding bit_of
digit-of x k = go (eqb (x / 2 ^ k % 2) 1) refl
  where
    go : (b : Bool) → eqb (x / 2 ^ k % 2) 1 ≡ b → x / 2 ^ k % 2 ≡ pick b 1 0
    go true e = eqb-true (x / 2 ^ k % 2) 1 e
    go false e = not-one (x / 2 ^ k) (eqb-false (x / 2 ^ k % 2) 1 e)

-- bits that test alike are alike
pub bit-alike : (x y j k : ℕ) → bit_of x j ≡ bit_of y k → bit x j ≡ bit y k
bit-alike x y j k e = digit-of x j ∙ ap (λ (b : Bool). pick b 1 0) e ∙ sym (digit-of y k)

-- a changed bit is as it was made
pub bit-made : (x k : ℕ) (on : Bool) → bit (with_bit x k on) k ≡ pick on 1 0
bit-made x k on = digit-of (with_bit x k on) k ∙ ap (λ (b : Bool). pick b 1 0) (bit-same x k on)

-- every other as it was
pub bit_kept : (x k j : ℕ) (on : Bool) → (j ≡ k → ⊥) → bit (with_bit x k on) j ≡ bit x j
bit_kept x k j on ne = bit-alike (with_bit x k on) x j j (bit-other x k j on ne)

-- ---- bytes at addresses alike in 20 bits

module _ (m : Buffers) (t : Bool) where
  pub byte-alike : (a b : ℕ) → a % 1048576 ≡ b % 1048576 → byte_at m t a ≡ byte_at m t b
  byte-alike a b e = sym (byte-reduced m t a) ∙ ap (byte_at m t) e ∙ byte-reduced m t b

  pub lent_alike : (a b : ℕ) → a % 1048576 ≡ b % 1048576 → lent_at m t a ≡ lent_at m t b
  lent_alike a b e = lent-index m t a b (sym (index-reduced t a) ∙ ap (index_of t) e ∙ index-reduced t b)

  pub word-alike : (a b : ℕ) → a % 1048576 ≡ b % 1048576 → word_at m t a ≡ word_in m t b
  unfolding word_at
  word-alike a b e = ap₂ word_of (byte-alike a b e) (byte-alike (a + 1) (b + 1) (omega arith))

  pub far-alike : (a b : ℕ) → a % 1048576 ≡ b % 1048576 → doubleword_at m t a ≡ far_in m t b
  unfolding doubleword_at
  far-alike a b e = ap₂ address_of (word-alike a b e) (word-alike (a + 2) (b + 2) (omega arith))
