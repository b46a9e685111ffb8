-- Characters held in a number: what is put in comes out, one after the other. What is written into a line, and that it fits.
-- Assumes nothing.
use mathlib.Core.Path.{◌≡◌, refl, sym, ap, ◌∙◌}
use mathlib.Core.List.{List, [], ◌∷◌, ◌++◌, append-nil, append_assoc}
use Prim.Native.Nat.{ℕ, zero, suc, ◌+◌, ◌*◌, ◌/◌, ◌%◌, ◌^◌, ◌<◌, ◌≤◌}
use native.Mathlib.Omega.{arith}
use native.Mathlib.Numerals.{add-one}
use native.Mathlib.Nat.{pow-suc}
use lib.ListN.{length, take, set, length-set, length-append}
use lib.Seq.{take-suc-set, append_snoc}
use borrow.Author.Tests.{ne_eqb}
use Rattle.instruction_rules.specs.declared.Memory.{Memory}
use Rattle.instruction_rules.specs.declared.Shape.{Shape}
use Rattle.listing_rules.specs.Characters.{ascii}
use Rattle.listing_rules.specs.Mnemonics.{mnemonic_of}
use Rattle.listing_rules.specs.Forms.{slots_of}
use Rattle.listing_rules.specs.Lines.{line_with, instruction_line}
use Rattle.listing_rules.specs.declared.Slots.{Slots}
use Rattle.listing_rules.proofs.LineLaws.{line-short}
use Rattle.notation.specs.Writing.{held_by, held_in, held_in4, Fits, Wrote}
use Rattle.notation.specs.declared.lines.Line.{Line}
use Rattle.notation.specs.declared.pieces.Pieces.{Pieces}

-- the number that holds some characters
abbrev pub packed : List ℕ → ℕ
packed [] = 0
packed (c ∷ []) = c
packed (c ∷ d ∷ cs) = c + 256 * packed (d ∷ cs)

-- each of them is a byte other than 0
abbrev pub Visible : List ℕ → Type 0
Visible [] = Unit
Visible (c ∷ cs) = (0 < c) × (c < 256) × Visible cs

pub held_none : (k : ℕ) → held_by k 0 ≡ []
unfolding held_by
held_none zero = refl
held_none (suc k) = refl

-- the first character of a number that is not 0, and the others
pub held-step : (k n : ℕ) → (n ≡ 0 → ⊥) → held_by (suc k) n ≡ n % 256 ∷ held_by k (n / 256)
unfolding held_by
held-step k n h = rw (ne_eqb n 0 h)

pub held-packed : (k : ℕ) (cs : List ℕ) → length cs ≤ k → Visible cs → held_by k (packed cs) ≡ cs
held-packed k [] h v = held_none k
held-packed zero (c ∷ []) h v = absurd (omega arith)
held-packed zero (c ∷ d ∷ cs) h v = absurd (omega arith)
held-packed (suc k) (c ∷ []) h v =
    let low : c % 256 ≡ c = omega arith in
    let high : c / 256 ≡ 0 = omega arith in
    held-step k c (λ e. omega arith) ∙ rw (low, high, held_none k)
held-packed (suc k) (c ∷ d ∷ cs) h v =
    let n = c + 256 * packed (d ∷ cs) in
    let low : n % 256 ≡ c = omega arith in
    let high : n / 256 ≡ packed (d ∷ cs) = omega arith in
    held-step k n (λ e. omega arith) ∙ rw (low, high, held-packed k (d ∷ cs) (omega arith) v.2)

-- no character, and the mark of an immediate
pub held-zero : held_in 0 ≡ []
unfolding held_in held_by
held-zero = refl

pub held-I : held_in 0x49 ≡ ascii "I"
unfolding held_in held_by
held-I = refl

-- the characters of four numbers, by those of each
pub four : {a b c d : List ℕ} (p : Pieces) → held_in p.0 ≡ a → held_in p.1 ≡ b → held_in p.2 ≡ c → held_in p.3 ≡ d → held_in4 p ≡ a ++ (b ++ (c ++ d))
unfolding held_in4
four p e f g h = rw (e, f, g, h)

-- the same where only the second is there, or the first two are
pub lone : {b : List ℕ} (p : Pieces) → held_in p.0 ≡ [] → held_in p.1 ≡ b → held_in p.2 ≡ [] → held_in p.3 ≡ [] → held_in4 p ≡ b
lone {b} p e f g h = four p e f g h ∙ append-nil b

pub led : {a b : List ℕ} (p : Pieces) → held_in p.0 ≡ a → held_in p.1 ≡ b → held_in p.2 ≡ [] → held_in p.3 ≡ [] → held_in4 p ≡ a ++ b
led {a} {b} p e f g h = four p e f g h ∙ ap (λ (l : List ℕ). a ++ l) (append-nil b)

-- where the writing of some characters has come to: what is left of the number, and what stands written
pub record Left (line : List ℕ) (rest i n : ℕ) (total : List ℕ) : Type 0 where
  pub count : ℕ
  pub small : rest < 256 ^ count
  pub size : length line ≡ 28
  pub index : i + length (held_by count rest) ≡ n
  pub chars : take i line ++ held_by count rest ≡ total

-- one character more
pub left-next : (line : List ℕ) (rest i n : ℕ) (total : List ℕ) → (rest ≡ 0 → ⊥) → n ≤ 28 → Left line rest i n total → (i < 28) × Left (set line i (rest % 256)) (rest / 256) (i + 1) n total
left-next line rest i n total h room l = go l.count l.small l.index l.chars
  where
    go : (k : ℕ) → rest < 256 ^ k → i + length (held_by k rest) ≡ n → take i line ++ held_by k rest ≡ total → (i < 28) × Left (set line i (rest % 256)) (rest / 256) (i + 1) n total
    go zero small e t = absurd (h (omega arith))
    go (suc k) small e t =
        let s = held-step k rest h in
        let e2 : i + suc (length (held_by k (rest / 256))) ≡ n = rw s at e in
        let here : i < length line = omega (arith, l.size) in
        let small2 : rest < 256 ^ k * 256 = rw (pow-suc 256 k) at small in
        let t2 : take i line ++ (rest % 256 ∷ held_by k (rest / 256)) ≡ total = rw s at t in (
          omega arith,
          record {
            count = k;
            small = omega arith;
            size = length-set line i (rest % 256) ∙ l.size;
            index = omega arith;
            chars = rw (add-one i, take-suc-set line i (rest % 256) here, append_snoc (take i line) (rest % 256) (held_by k (rest / 256))) t2;
          },
        )

-- none left
pub left_end : (line : List ℕ) (rest i n : ℕ) (total : List ℕ) → rest ≡ 0 → Left line rest i n total → (i ≡ n) × (take i line ≡ total)
left_end line rest i n total h l =
    let none : held_by l.count rest ≡ [] = ap (held_by l.count) h ∙ held_none l.count in
    let e : i + 0 ≡ n = rw none at l.index in
    let t : take i line ++ [] ≡ total = rw none at l.chars in
    (omega arith, sym (append-nil (take i line)) ∙ t)

-- what fits as a whole fits at its beginning
pub fits_head : {line : List ℕ} {at : ℕ} (cs ds : List ℕ) → Fits line at (cs ++ ds) → Fits line at cs
fits_head cs ds f = record { size = f.size; room = omega (arith, f.room, length-append cs ds) }

-- and its end behind that beginning
pub fits_next : {line after : List ℕ} {at next : ℕ} (cs ds : List ℕ) → Fits line at (cs ++ ds) → Wrote line after at next cs → Fits after next ds
fits_next cs ds f w = record { size = w.size; room = omega (arith, f.room, w.index, length-append cs ds) }

-- two writings, one behind the other
pub wrote-both : {a b c : List ℕ} {at i j : ℕ} (cs ds : List ℕ) → Wrote a b at i cs → Wrote b c i j ds → Wrote a c at j (cs ++ ds)
wrote-both {a} {b} {c} {at} {i} {j} cs ds v w =
    record {
      size = w.size;
      index = omega (arith, v.index, w.index, length-append cs ds);
      chars = w.chars ∙ ap (λ (l : List ℕ). l ++ ds) v.chars ∙ append_assoc (take at a) cs ds;
    }

-- the same of equal texts
pub same-fits : {line x cs : List ℕ} {at : ℕ} → x ≡ cs → Fits line at cs → Fits line at x
same-fits e f = rw e f

pub same-wrote : {a b x cs : List ℕ} {at next : ℕ} → x ≡ cs → Wrote a b at next x → Wrote a b at next cs
same-wrote e w = rw e at w

-- a line that was written from its beginning
pub wrote-line : {a b text : List ℕ} {n : ℕ} → Wrote a b 0 n text → (take n b ≡ text) × (n ≡ length (take n b))
wrote-line {a} {b} {text} {n} w =
    let e : length (take n b) ≡ length text = ap length w.chars in
    (w.chars, omega (arith, w.index, e))

-- all of an instruction's line fits
pub line-fits : (chars bytes : List ℕ) (end : ℕ) (s : Shape) (to : Memory) (places : Slots) → length chars ≡ 28 → places ≡ slots_of s to → Fits chars 0 (line_with (mnemonic_of s) places bytes end)
unfolding instruction_line
line-fits chars bytes end s to places size e = rw e (record { size = size; room = omega (arith, line-short bytes end s to) })

-- the same of a line that is begun
pub line-begun : (line : Line) (bytes : List ℕ) (end : ℕ) (s : Shape) (to : Memory) (places : Slots) → (length line.chars ≡ 28) × (line.len ≡ 0) → places ≡ slots_of s to
    → Fits line.chars line.len (line_with (mnemonic_of s) places bytes end)
line-begun line bytes end s to places new e = rw new.1 (line-fits line.chars bytes end s to places new.0 e)

pub line-written : {a b text : List ℕ} {at n : ℕ} → at ≡ 0 → Wrote a b at n text → (take n b ≡ text) × (n ≡ length (take n b))
line-written z w = wrote-line (rw z at w)
