-- A word as a number, character by character.
-- Assumes nothing.
use mathlib.Core.Path.{◌≡◌, refl, sym, ap, ◌∙◌}
use mathlib.Core.Bool.{Bool, true, false, ◌&&◌}
use mathlib.Core.List.{List, [], ◌∷◌, ◌++◌, append_assoc, append-nil}
use Rattle.std.specs.List.{push}
use Prim.Native.Nat.{ℕ, suc, ◌+◌, ◌*◌, ◌-◌, ◌%◌, ◌≤◌, ◌<◌}
use native.Mathlib.Nat.{mod-eq_of_lt, mod-lt}
use native.Mathlib.Omega.{arith}
use lib.Dec.{ltb, leb, lit<}
use lib.ListN.{length, get_or, length-append}
use borrow.Author.Tests.{lt-ltb, le-ltb}
use Rattle.ground_rules.specs.Choice.{pick}
use Rattle.assembly_rules.specs.Text.{capital_of, capitals}
use Rattle.assembler_text.proofs.NameLaws.{capitals-length}
use Rattle.assembler_forms.specs.Table.{packed_word, word_number, in_bytes, NumberIs}

small : (c : ℕ) → c % 256 < 256
small c = mod-lt c (lit< tt)

-- up to five characters stay below 2 ^ 41
pub packed-small : (cs : List ℕ) → length cs ≤ 5 → packed_word cs < 2199023255552
unfolding packed_word
packed-small [] h = omega arith
packed-small (a ∷ []) h = omega (arith, small a)
packed-small (a ∷ b ∷ []) h = omega (arith, small a, small b)
packed-small (a ∷ b ∷ c ∷ []) h = omega (arith, small a, small b, small c)
packed-small (a ∷ b ∷ c ∷ d ∷ []) h = omega (arith, small a, small b, small c, small d)
packed-small (a ∷ b ∷ c ∷ d ∷ e ∷ []) h = omega (arith, small a, small b, small c, small d, small e)
packed-small (a ∷ b ∷ c ∷ d ∷ e ∷ f ∷ cs) h = absurd (omega arith)

packed-cons : (c : ℕ) (cs : List ℕ) → packed_word (c ∷ cs) ≡ c % 256 + 256 * packed_word cs
unfolding packed_word
packed-cons c cs = refl

-- a run of which so much is not yet read, from its end on, and the number of the rest
pub record Read (run left : List ℕ) (n : ℕ) : Type 0 where
  pub tail : List ℕ
  pub split : left ++ tail ≡ run
  pub number : n ≡ packed_word (capitals tail)

pub read-none : (run : List ℕ) → Read run run 1
unfolding packed_word capitals
read-none run = record { tail = []; split = append-nil run; number = refl }

-- one more character in front
pub read-next : (run old left : List ℕ) (c x n : ℕ) → old ≡ push left c → x ≡ capital_of c → x < 256 → Read run old n → Read run left (n * 256 + x)
unfolding capitals
read-next run old left c x n o e l r =
    let y : capital_of c % 256 ≡ x = ap (λ (m : ℕ). m % 256) (sym e) ∙ mod-eq_of_lt l in
    record {
      tail = c ∷ r.tail;
      split = sym (append_assoc left (c ∷ []) r.tail) ∙ ap (λ (l : List ℕ). l ++ r.tail) (sym o) ∙ r.split;
      number = omega (arith, packed-cons (capital_of c) (capitals r.tail), y, r.number);
    }

-- up to five characters read
pub read-small : (run left : List ℕ) (n : ℕ) → Read run left n → 0 < length left → length run ≤ 6 → n < 2199023255552
read-small run left n r l k = omega (arith, r.number, packed-small (capitals r.tail) (omega (arith, capitals-length r.tail, ap length r.split, length-append left r.tail)))

pub read-all : (run left : List ℕ) (n : ℕ) → Read run left n → length left ≡ 0 → n ≡ packed_word (capitals run)
read-all run [] n r l = r.number ∙ ap (λ (x : List ℕ). packed_word (capitals x)) r.split
read-all run (c ∷ left) n r l = absurd (omega arith)

-- a run of bytes is told by its number
small-capital : (c : ℕ) → c < 256 → ltb (capital_of c) 256 ≡ true
unfolding capital_of
small-capital c h = go (leb 97 c && leb c 122)
  where
    go : (b : Bool) → ltb (pick b (c - 32) c) 256 ≡ true
    go true = lt-ltb (c - 32) 256 (omega arith)
    go false = lt-ltb c 256 h

capitals-bytes : (cs : List ℕ) → ((i : ℕ) → get_or cs i 0 < 256) → in_bytes (capitals cs) ≡ true
unfolding in_bytes capitals
capitals-bytes [] h = refl
capitals-bytes (c ∷ cs) h = rw (small-capital c (h 0)) (capitals-bytes cs (λ i. h (suc i)))

module _ (run : List ℕ) (n : ℕ) (bytes : (i : ℕ) → get_or run i 0 < 256) where
  pub number-long : 6 < length run → n ≡ 0 → NumberIs n (capitals run)
  unfolding word_number
  number-long h e = record { number = e ∙ sym (rw (capitals-length run, lt-ltb 6 (length run) h)); bytes = capitals-bytes run bytes }

  pub number_short : length run ≤ 6 → n ≡ packed_word (capitals run) → NumberIs n (capitals run)
  unfolding word_number
  number_short h e = record { number = e ∙ sym (rw (capitals-length run, le-ltb 6 (length run) h)); bytes = capitals-bytes run bytes }
