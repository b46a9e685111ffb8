-- When a line is a DB line, and when the reader finds no instruction.
-- Assumes nothing.
use Rattle.std.proofs.Common.{Ok, Err, Option, Some, None}
use mathlib.Core.Path.{◌≡◌, refl, sym, ap, ◌∙◌}
use mathlib.Core.Bool.{Bool, true, false, not, false≢true}
use mathlib.Core.List.{List, [], ◌∷◌, ◌++◌, append_assoc}
use mathlib.Core.Logic.{◌↔◌}
use Prim.Native.Nat.{ℕ, ◌+◌, ◌≤◌, ◌<◌}
use native.Mathlib.Omega.{arith}
use lib.Dec.{T, eqb, ltb}
use lib.ListN.{length, get_or, take}
use borrow.Author.Tests.{eqb-true, eqb-false, ltb-true, ltb-false}
use Rattle.ground_rules.specs.Choice.{pick}
use Rattle.instruction_rules.specs.Pairs.{pair_of}
use Rattle.instruction_rules.specs.declared.Memory.{Memory}
use Rattle.instruction_rules.specs.declared.Shape.{Shape}
use Rattle.instruction_rules.specs.Decoded.{Decoded}
use Rattle.instruction_rules.specs.declared.Unread.TheVariants.{NoInstruction, ControlUsed}
use Rattle.instruction_rules.specs.Reading.{decode_of, decoded_number}
use Rattle.instruction_rules.specs.Lengths.{offset_length, length_of}
use Rattle.listing_rules.specs.Characters.{ascii}
use Rattle.listing_rules.specs.Mnemonics.{is_listed}
use Rattle.listing_rules.specs.Forms.{following}
use Rattle.listing_rules.specs.Forms.Operand.{none, register, memory, number, digit}
use Rattle.listing_rules.specs.Forms as Forms
use Rattle.listing_rules.specs.Lines.{instruction_line, data_line}
use Rattle.listing_rules.proofs.LineLaws.{and_left, and_right}
use Rattle.listing_rules.proofs.SpellingLaws.{is_mark, clean, marks, Bytes, not-mark}
use Rattle.listing_rules.proofs.EntryLaws.{known}
use Rattle.listing_rules.specs.declared.Item.{Item}
use Rattle.listing_rules.specs.declared.Item.TheVariants.{Whole, Byte, End}
use Rattle.listing_rules.specs.Items.{to_of, whole_of, read_of, item_of}
use Rattle.listing_rules.specs.Listings.{chars_of, line_at}
use Rattle.listing_rules.proofs.ItemLaws.{whole-none, whole-cut, item-read, item-short, item-second}
use Rattle.listing_rules.proofs.RowLaws.{whole-at}
use Rattle.listing_rules.proofs.Unlisting.{Spoken, spoken-line, spoken-data, placed-to, bytes_take, no_word}

-- the word of a line: what stands before its first mark
pub word_in : List ℕ → List ℕ
word_in [] = []
word_in (c ∷ cs) = pick (is_mark c) [] (c ∷ word_in cs)

word-before : (w rest : List ℕ) (m : ℕ) → T (clean w) → is_mark m ≡ true → word_in (w ++ (m ∷ rest)) ≡ w
unfolding word_in clean
word-before [] rest m t h = rw h
word-before (c ∷ w) rest m t h = rw (not-mark c (and_left (not (is_mark c)) (clean w) t), word-before w rest m (and_right (not (is_mark c)) (clean w) t) h)

-- what follows a word begins with a mark
word_of : (w : List ℕ) (m : ℕ) (os : List Forms.Operand) → T (clean w) → is_mark m ≡ true → word_in (w ++ (marks m os ++ (10 ∷ []))) ≡ w
unfolding marks following is_mark
word_of w m [] t h = word-before w [] 10 t refl
word_of w m (none ∷ os) t h = word_of w 44 os t refl
word_of w m (register a ∷ os) t h = word-before w _ m t h
word_of w m (memory a b c ∷ os) t h = word-before w _ m t h
word_of w m (number a ∷ os) t h = word-before w _ m t h
word_of w m (digit a ∷ os) t h = word-before w _ m t h

spoken-word : (chars w : List ℕ) (os : List Forms.Operand) → Spoken chars w os → word_in chars ≡ w
unfolding is_mark
spoken-word chars w os s = ap word_in (s.text ∙ append_assoc w (marks 32 os) (10 ∷ [])) ∙ word_of w 32 os s.plain refl

-- an instruction without a line of its own, or none
pub Unlisted : Item → Type 0
Unlisted (Whole s to n) = is_listed s ≡ false
Unlisted Byte = Unit
Unlisted End = Unit

word-at : (address : ℕ) (x : List ℕ) (i : Item) → item_of x ≡ i → Bytes x → (word_in (chars_of address x i) ≡ ascii "DB") ↔ Unlisted i
unfolding chars_of Unlisted
word-at address x Byte e h = (λ t. tt, λ t. spoken-word _ _ _ (spoken-data (take 1 x) (bytes_take 1 x h)))
word-at address x End e h = (λ t. tt, λ t. spoken-word _ _ _ (spoken-data (take 0 x) (bytes_take 0 x h)))
word-at address x (Whole s to n) e h = go (is_listed s) refl
  where
    go : (b : Bool) → is_listed s ≡ b → (word_in (pick b (instruction_line x (address + n) s to) (data_line (take n x))) ≡ ascii "DB") ↔ (is_listed s ≡ false)
    go true l =
        let w = whole-at x s to n e in
        let k = known (get_or x 0 0) (get_or x 1 0) s to w.pair (placed-to x s to w.second) l in
        (λ t. no_word (pair_of (get_or x 0 0) (get_or x 1 0)) s to k (sym (spoken-word _ _ _ (spoken-line x (address + n) (pair_of (get_or x 0 0) (get_or x 1 0)) s to k h)) ∙ t), λ t. absurd (false≢true (sym t ∙ l)))
    go false l = (λ t. l, λ t. spoken-word _ _ _ (spoken-data (take n x) (bytes_take n x h)))

-- a line is a DB line exactly where no whole instruction starts at its first byte, or it is CALL with W 0
pub data-exactly : (address : ℕ) (x : List ℕ) → Bytes x → (word_in (line_at address x).chars ≡ ascii "DB") ↔ Unlisted (item_of x)
unfolding line_at
data-exactly address x h = word-at address x (item_of x) refl h

-- why no instruction starts at a byte: it is the last; 3 or 4 is given; the code is cut off; the second pair is none; the code is cut off behind that
pub data Unread (x : List ℕ) : Type 0 where
  last : length x ≡ 1 → Unread x
  refused : 1 < length x → (decoded_number (decode_of (get_or x 0 0) (get_or x 1 0)) ≡ 0 → ⊥) → Unread x
  short : {s : Shape} → 1 < length x → decode_of (get_or x 0 0) (get_or x 1 0) ≡ Ok s → length x < length_of s → Unread x
  unpaired : {s : Shape} → 1 < length x → decode_of (get_or x 0 0) (get_or x 1 0) ≡ Ok s → length_of s ≤ length x → to_of x s ≡ None → Unread x
  shorter : {s : Shape} {to : Memory} → 1 < length x → decode_of (get_or x 0 0) (get_or x 1 0) ≡ Ok s → length_of s ≤ length x → to_of x s ≡ Some to → length x < length_of s + offset_length to → Unread x

whole-byte : {A : Type 0} {s : Shape} {to : Memory} {n : ℕ} → Whole s to n ≡ Byte → A
whole-byte h = let z : ◌≡◌ {A = ℕ} 0 1 = cc in absurd (eqb-false 0 1 refl z)

end-byte : {A : Type 0} → End ≡ Byte → A
end-byte h = let z : ◌≡◌ {A = ℕ} 0 1 = cc in absurd (eqb-false 0 1 refl z)

unread-second : (x : List ℕ) (s : Shape) (t : Option Memory) → 1 < length x → decode_of (get_or x 0 0) (get_or x 1 0) ≡ Ok s → length_of s ≤ length x → to_of x s ≡ t → whole_of x s t ≡ Byte → Unread x
unfolding whole_of
unread-second x s None h d l e b = unpaired h d l e
unread-second x s (Some m) h d l e b = go (ltb (length x) (length_of s + offset_length m)) refl b
  where
    go : (t : Bool) → ltb (length x) (length_of s + offset_length m) ≡ t → pick t Byte (Whole s m (length_of s + offset_length m)) ≡ Byte → Unread x
    go true f c = shorter h d l e (ltb-true (length x) (length_of s + offset_length m) f)
    go false f c = whole-byte c

unread-read : (x : List ℕ) (d : Decoded) → 1 < length x → decode_of (get_or x 0 0) (get_or x 1 0) ≡ d → read_of x d ≡ Byte → Unread x
unfolding read_of
unread-read x (Err NoInstruction) h e b = refused h (λ z. eqb-false 3 0 refl (sym (ap decoded_number e) ∙ z))
unread-read x (Err ControlUsed) h e b = refused h (λ z. eqb-false 4 0 refl (sym (ap decoded_number e) ∙ z))
unread-read x (Ok s) h e b = go (ltb (length x) (length_of s)) refl b
  where
    go : (t : Bool) → ltb (length x) (length_of s) ≡ t → pick t Byte (whole_of x s (to_of x s)) ≡ Byte → Unread x
    go true f c = short h e (ltb-true (length x) (length_of s) f)
    go false f c = unread-second x s (to_of x s) h e (ltb-false (length x) (length_of s) f) refl c

unread-item : (x : List ℕ) → item_of x ≡ Byte → Unread x
unfolding item_of
unread-item x h = go (eqb (length x) 0) refl (eqb (length x) 1) refl h
  where
    go : (a : Bool) → eqb (length x) 0 ≡ a → (b : Bool) → eqb (length x) 1 ≡ b → pick a End (pick b Byte (read_of x (decode_of (get_or x 0 0) (get_or x 1 0)))) ≡ Byte → Unread x
    go true e b f t = end-byte t
    go false e true f t = last (eqb-true (length x) 1 f)
    go false e false f t =
        let n0 = eqb-false (length x) 0 e in
        let n1 = eqb-false (length x) 1 f in
        unread-read x (decode_of (get_or x 0 0) (get_or x 1 0)) (omega arith) refl t

read-refused : (x : List ℕ) (d : Decoded) → (decoded_number d ≡ 0 → ⊥) → read_of x d ≡ Byte
unfolding read_of
read-refused x (Ok s) h = absurd (h refl)
read-refused x (Err NoInstruction) h = refl
read-refused x (Err ControlUsed) h = refl

item-last : (x : List ℕ) → length x ≡ 1 → item_of x ≡ Byte
unfolding item_of
item-last x e = rw e

item-unread : (x : List ℕ) → Unread x → item_of x ≡ Byte
item-unread x (last e) = item-last x e
item-unread x (refused h n) =
    let d = decode_of (get_or x 0 0) (get_or x 1 0) in
    sym (item-read x (λ z. omega arith) (λ z. omega arith) d refl) ∙ read-refused x d n
item-unread x (short {s = s} h d l) = sym (item-short x (λ z. omega arith) (λ z. omega arith) (decode_of (get_or x 0 0) (get_or x 1 0)) refl s d (length_of s) refl l)
item-unread x (unpaired {s = s} h d l t) = sym (whole-none x s (to_of x s) refl t ∙ item-second x (λ z. omega arith) (λ z. omega arith) (decode_of (get_or x 0 0) (get_or x 1 0)) refl s d (length_of s) refl l)
item-unread x (shorter {s = s} {to = to} h d l t c) = sym (whole-cut x s (to_of x s) refl (length_of s) refl to t (offset_length to) refl c ∙ item-second x (λ z. omega arith) (λ z. omega arith) (decode_of (get_or x 0 0) (get_or x 1 0)) refl s d (length_of s) refl l)

-- the reader finds no instruction exactly for one of these
pub unread-exactly : (x : List ℕ) → (item_of x ≡ Byte) ↔ Unread x
unread-exactly x = (unread-item x, item-unread x)
