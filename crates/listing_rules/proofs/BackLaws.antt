-- The bytes of an instruction from its places: equal operands stand for equal bytes, and with the pairs they are all its bytes.
-- Assumes nothing.
use Rattle.std.proofs.Common.{Some, None}
use mathlib.Core.Path.{◌≡◌, refl, sym, ap, ◌∙◌}
use mathlib.Core.Bool.{Bool, true, false, ◌&&◌, false≢true}
use mathlib.Core.List.{List, [], ◌∷◌, ◌++◌, append_assoc, append-nil}
use Prim.Native.Nat.{ℕ, ◌+◌, ◌*◌, ◌/◌, ◌%◌, ◌≤◌, ◌<◌}
use native.Mathlib.Numerals.{add-one}
use native.Mathlib.Omega.{arith}
use lib.Dec.{eqb, ltb}
use lib.ListN.{length, get_or, take}
use lib.Seq.{take-suc}
use borrow.Author.Tests.{eqb-true, eqb-false, ltb-true, ltb-false}
use Rattle.ground_rules.specs.Bits.{field_of}
use Rattle.ground_rules.specs.Choice.{pick}
use Rattle.ground_rules.specs.Signs.{extended}
use Rattle.instruction_rules.specs.Pairs.{pair_of, memory_of, columns, meets}
use Rattle.instruction_rules.specs.Pairs.Column.{'0, '1, '00, '000, 'AA, 'MM}
use Rattle.instruction_rules.specs.declared.Memory.{Memory}
use Rattle.instruction_rules.specs.declared.Pair.{Pair}
use Rattle.instruction_rules.specs.declared.Shape.{Shape}
use Rattle.instruction_rules.specs.declared.Shape.TheVariants.{Nop, Sintr, Xfer, Wid, Hlt, Lpdi, RegisterImmediate, Register, JumpRegister, RegisterMemory, MemoryRegister, MemoryImmediate, MemoryAlone, JumpMemory, Lpd, MovpLoad, MovpStore, MovMemory, Tsl, Call, JumpMasked, JumpBit, Bit}
use Rattle.instruction_rules.specs.Reading.{second_of}
use Rattle.instruction_rules.specs.Lengths.{more_by, offset_by, offset_length, data_length, displacement_length, length_of}
use Rattle.listing_rules.specs.Mnemonics.{is_jump}
use Rattle.listing_rules.specs.Forms.{slots_of, after_offset, data_from, reach_from, target_of, word_bytes, filled}
use Rattle.listing_rules.specs.Forms.Operand.{none, register, memory, number, digit}
use Rattle.listing_rules.specs.Forms as Forms
use Rattle.listing_rules.specs.declared.Slot.{Slot}
use Rattle.listing_rules.specs.declared.Slot.TheVariants.{Empty, Name, Place, Number, Target, Digit}
use Rattle.listing_rules.specs.declared.Slots.{Slots}
use Rattle.listing_rules.proofs.SpellingLaws.{present, Bytes}
use Rattle.listing_rules.specs.Items.{nowhere, to_of}

unlike : {A : Type 0} → false ≡ true → A
unlike e = absurd (false≢true e)

-- the bytes of a place
unfoldable pub slot_bytes : List ℕ → Slot → List ℕ
slot_bytes bytes Empty = []
slot_bytes bytes (Name r) = []
slot_bytes bytes (Place m at) = pick (eqb m.aa 1) (get_or bytes at 0 ∷ []) []
slot_bytes bytes (Number at two) = data_from bytes at two
slot_bytes bytes (Target at two) = data_from bytes at two
slot_bytes bytes (Digit n) = []

-- a signed byte or word is told by where it leads from one address
reach-byte : (end x y : ℕ) → x < 256 → y < 256 → (end + extended 8 x) % 65536 ≡ (end + extended 8 y) % 65536 → x ≡ y
unfolding extended
reach-byte end x y hx hy e = go (ltb x 128) refl (ltb y 128) refl e
  where
    go : (a : Bool) → ltb x 128 ≡ a → (b : Bool) → ltb y 128 ≡ b → (end + pick a x (x + 1048320)) % 65536 ≡ (end + pick b y (y + 1048320)) % 65536 → x ≡ y
    go true p true q t = omega arith
    go true p false q t = let l = ltb-true x 128 p in let m = ltb-false y 128 q in omega arith
    go false p true q t = let l = ltb-false x 128 p in let m = ltb-true y 128 q in omega arith
    go false p false q t = omega arith

reach-word : (end x y : ℕ) → x < 65536 → y < 65536 → (end + extended 16 x) % 65536 ≡ (end + extended 16 y) % 65536 → x ≡ y
unfolding extended
reach-word end x y hx hy e = go (ltb x 32768) refl (ltb y 32768) refl e
  where
    go : (a : Bool) → ltb x 32768 ≡ a → (b : Bool) → ltb y 32768 ≡ b → (end + pick a x (x + 983040)) % 65536 ≡ (end + pick b y (y + 983040)) % 65536 → x ≡ y
    go true p true q t = omega arith
    go true p false q t = omega arith
    go false p true q t = omega arith
    go false p false q t = omega arith

-- equal targets from one end have equal displacement bytes
same_target : (x y : List ℕ) (end at : ℕ) (two : Bool) → Bytes x → Bytes y → target_of end (reach_from x at two) ≡ target_of end (reach_from y at two) → data_from x at two ≡ data_from y at two
unfolding target_of Bytes
same_target x y end at false hx hy e = ap (λ (b : ℕ). b ∷ []) (reach-byte end (get_or x at 0) (get_or y at 0) (hx at) (hy at) e)
same_target x y end at true hx hy e =
    let l = get_or x at 0 in
    let h = get_or x (at + 1) 0 in
    let l2 = get_or y at 0 in
    let h2 = get_or y (at + 1) 0 in
    let a = hx at in
    let b = hx (at + 1) in
    let c = hy at in
    let d = hy (at + 1) in
    let w : l + h * 256 ≡ l2 + h2 * 256 = reach-word end (l + h * 256) (l2 + h2 * 256) (omega arith) (omega arith) e in
    let low : l ≡ l2 = omega arith in
    let high : h ≡ h2 = omega arith in
    rw (low, high)

small : (end r s : ℕ) → target_of end r % 256 ≡ target_of end s % 256 → target_of end r / 256 % 256 ≡ target_of end s / 256 % 256 → target_of end r ≡ target_of end s
unfolding target_of
small end r s low high = omega arith

-- equal operands of one place have equal bytes
same-slot : (x y : List ℕ) (end : ℕ) (a : Slot) → Bytes x → Bytes y → filled x end a ≡ filled y end a → slot_bytes x a ≡ slot_bytes y a
unfolding slot_bytes filled
same-slot x y end Empty hx hy e = refl
same-slot x y end (Name r) hx hy e = refl
same-slot x y end (Place m at) hx hy e = cc
same-slot x y end (Number at two) hx hy e = cc
same-slot x y end (Target at two) hx hy e =
    let s = target_of end (reach_from x at two) in
    let t = target_of end (reach_from y at two) in
    let low : s % 256 ≡ t % 256 = cc in
    let high : s / 256 % 256 ≡ t / 256 % 256 = cc in
    same_target x y end at two hx hy (small end (reach_from x at two) (reach_from y at two) low high)
same-slot x y end (Digit n) hx hy e = refl

-- the bytes of some places
unfoldable pub spread : List ℕ → List Slot → List ℕ
spread bytes [] = []
spread bytes (a ∷ rest) = slot_bytes bytes a ++ spread bytes rest

unfoldable pub fill : List ℕ → ℕ → List Slot → List Forms.Operand
fill bytes end [] = []
fill bytes end (a ∷ rest) = filled bytes end a ∷ fill bytes end rest

heads : {A : Type 0} {x y : A} {xs ys : List A} → x ∷ xs ≡ y ∷ ys → x ≡ y
heads e = cc

tails : {A : Type 0} {x y : A} {xs ys : List A} → x ∷ xs ≡ y ∷ ys → xs ≡ ys
tails e = cc

same-slots-next : (x y : List ℕ) (end : ℕ) (a : Slot) (rest : List Slot) → Bytes x → Bytes y → filled x end a ≡ filled y end a → spread x rest ≡ spread y rest → spread x (a ∷ rest) ≡ spread y (a ∷ rest)
unfolding spread
same-slots-next x y end a rest hx hy e later = rw (same-slot x y end a hx hy e, later)

pub same-slots : (x y : List ℕ) (end : ℕ) (rest : List Slot) → Bytes x → Bytes y → present (fill x end rest) ≡ present (fill y end rest) → spread x rest ≡ spread y rest
unfolding spread fill present filled
same-slots x y end [] hx hy e = refl
same-slots x y end (Empty ∷ rest) hx hy e = same-slots-next x y end Empty rest hx hy refl (same-slots x y end rest hx hy e)
same-slots x y end (Name r ∷ rest) hx hy e = same-slots-next x y end (Name r) rest hx hy refl (same-slots x y end rest hx hy (tails e))
same-slots x y end (Place m at ∷ rest) hx hy e = same-slots-next x y end (Place m at) rest hx hy (heads e) (same-slots x y end rest hx hy (tails e))
same-slots x y end (Number at two ∷ rest) hx hy e = same-slots-next x y end (Number at two) rest hx hy (heads e) (same-slots x y end rest hx hy (tails e))
same-slots x y end (Target at two ∷ rest) hx hy e = same-slots-next x y end (Target at two) rest hx hy (heads e) (same-slots x y end rest hx hy (tails e))
same-slots x y end (Digit n ∷ rest) hx hy e = same-slots-next x y end (Digit n) rest hx hy refl (same-slots x y end rest hx hy (tails e))

-- a place takes up where the one before it ended
unfoldable pub Follows : ℕ → Slot → ℕ → Type 0
Follows k Empty j = j ≡ k
Follows k (Name r) j = j ≡ k
Follows k (Place m at) j = (at ≡ k) × (j ≡ k + offset_length m)
Follows k (Number at two) j = (at ≡ k) × (j ≡ k + (1 + more_by two))
Follows k (Target at two) j = (at ≡ k) × (j ≡ k + (1 + more_by two))
Follows k (Digit n) j = j ≡ k

-- one byte more, and two
one_more : (bytes : List ℕ) (k : ℕ) → k < length bytes → take k bytes ++ (get_or bytes k 0 ∷ []) ≡ take (k + 1) bytes
one_more bytes k h = sym (take-suc bytes k 0 h) ∙ ap (λ (j : ℕ). take j bytes) (sym (add-one k))

pub two-more : (bytes : List ℕ) (k : ℕ) → k + 1 < length bytes → take k bytes ++ (get_or bytes k 0 ∷ get_or bytes (k + 1) 0 ∷ []) ≡ take (k + 2) bytes
two-more bytes k h =
    let e : k + 1 + 1 ≡ k + 2 = omega arith in
    sym (append_assoc (take k bytes) (get_or bytes k 0 ∷ []) (get_or bytes (k + 1) 0 ∷ []))
    ∙ ap (λ (l : List ℕ). l ++ (get_or bytes (k + 1) 0 ∷ [])) (one_more bytes k (omega arith))
    ∙ one_more bytes (k + 1) h
    ∙ ap (λ (j : ℕ). take j bytes) e

from_place : (bytes : List ℕ) (k : ℕ) (two : Bool) (j : ℕ) → j ≡ k + (1 + more_by two) → j ≤ length bytes → take k bytes ++ data_from bytes k two ≡ take j bytes
from_place bytes k true j e h = two-more bytes k (omega arith) ∙ ap (λ (i : ℕ). take i bytes) (sym e)
from_place bytes k false j e h = one_more bytes k (omega arith) ∙ ap (λ (i : ℕ). take i bytes) (sym e)

pub covered : (bytes : List ℕ) (k : ℕ) (a : Slot) (j : ℕ) → Follows k a j → j ≤ length bytes → take k bytes ++ slot_bytes bytes a ≡ take j bytes
unfolding Follows slot_bytes offset_length
covered bytes k Empty j f h = append-nil (take k bytes) ∙ rw f
covered bytes k (Name r) j f h = append-nil (take k bytes) ∙ rw f
covered bytes k (Place m at) j f h = rw f.0 (go (eqb m.aa 1) f.1)
  where
    go : (b : Bool) → j ≡ k + more_by b → take k bytes ++ pick b (get_or bytes k 0 ∷ []) [] ≡ take j bytes
    go true e = one_more bytes k (omega arith) ∙ ap (λ (i : ℕ). take i bytes) (sym e)
    go false e = let z : k ≡ j = omega arith in append-nil (take k bytes) ∙ ap (λ (i : ℕ). take i bytes) z
covered bytes k (Number at two) j f h = rw f.0 (from_place bytes k two j f.1 h)
covered bytes k (Target at two) j f h = rw f.0 (from_place bytes k two j f.1 h)
covered bytes k (Digit n) j f h = append-nil (take k bytes) ∙ rw f

grows : (k : ℕ) (a : Slot) (j : ℕ) → Follows k a j → k ≤ j
unfolding Follows
grows k Empty j f = omega arith
grows k (Name r) j f = omega arith
grows k (Place m at) j f = omega (arith, f.1)
grows k (Number at two) j f = omega (arith, f.1)
grows k (Target at two) j f = omega (arith, f.1)
grows k (Digit n) j f = omega arith

-- places one behind the other, from a place to a place
pub Chain : ℕ → List Slot → ℕ → Type 0
Chain k [] n = n ≡ k
Chain k (a ∷ rest) n = (j : ℕ) × Follows k a j × Chain j rest n

chain-grows : (k n : ℕ) (rest : List Slot) → Chain k rest n → k ≤ n
unfolding Chain
chain-grows k n [] c = omega arith
chain-grows k n (a ∷ rest) c = omega (arith, grows k a c.0 c.1, chain-grows c.0 n rest c.2)

pub all-covered : (bytes : List ℕ) (k n : ℕ) (rest : List Slot) → Chain k rest n → n ≤ length bytes → take k bytes ++ spread bytes rest ≡ take n bytes
unfolding spread Chain
all-covered bytes k n [] c h = append-nil (take k bytes) ∙ ap (λ (i : ℕ). take i bytes) (sym c)
all-covered bytes k n (a ∷ rest) c h =
    sym (append_assoc (take k bytes) (slot_bytes bytes a) (spread bytes rest))
    ∙ ap (λ (l : List ℕ). l ++ spread bytes rest) (covered bytes k a c.0 c.1 (omega (arith, h, chain-grows c.0 n rest c.2)))
    ∙ all-covered bytes c.0 n rest c.2 h

-- the places of a line, in a list
unfoldable pub listed : Slots → List Slot
listed p = p.first ∷ p.second ∷ p.third ∷ []

-- the places of an instruction without a second pair are all its bytes behind the first
pub chained : (bytes : List ℕ) (s : Shape) (to : Memory) → to_of bytes s ≡ Some to → ((m : Memory) → s ≡ MovMemory m → ⊥) → Chain 2 (listed (slots_of s to)) (length_of s + offset_length to)
unfolding listed Chain slots_of to_of Follows length_of data_length displacement_length offset_length after_offset
chained bytes Nop to q h = let z : nowhere ≡ to = cc in let e : length_of Nop + offset_length to ≡ 2 = omega (arith, ap (λ (o : Memory). offset_by o.aa) z) in (2, refl, (2, refl, (2, refl, e)))
chained bytes Sintr to q h = let z : nowhere ≡ to = cc in let e : length_of Sintr + offset_length to ≡ 2 = omega (arith, ap (λ (o : Memory). offset_by o.aa) z) in (2, refl, (2, refl, (2, refl, e)))
chained bytes Xfer to q h = let z : nowhere ≡ to = cc in let e : length_of Xfer + offset_length to ≡ 2 = omega (arith, ap (λ (o : Memory). offset_by o.aa) z) in (2, refl, (2, refl, (2, refl, e)))
chained bytes (Wid a b) to q h = let z : nowhere ≡ to = cc in let e : length_of (Wid a b) + offset_length to ≡ 2 = omega (arith, ap (λ (o : Memory). offset_by o.aa) z) in (2, refl, (2, refl, (2, refl, e)))
chained bytes Hlt to q h = let z : nowhere ≡ to = cc in let e : length_of Hlt + offset_length to ≡ 2 = omega (arith, ap (λ (o : Memory). offset_by o.aa) z) in (2, refl, (2, refl, (2, refl, e)))
chained bytes (Lpdi a) to q h = let z : nowhere ≡ to = cc in let e : length_of (Lpdi a) + offset_length to ≡ ((2 + (1 + more_by true)) + (1 + more_by true)) = omega (arith, ap (λ (o : Memory). offset_by o.aa) z) in (2, refl, ((2 + (1 + more_by true)), (refl, refl), (((2 + (1 + more_by true)) + (1 + more_by true)), (refl, refl), e)))
chained bytes (RegisterImmediate a b c) to q h = go (is_jump a b)
  where
    go : (t : Bool) → Chain 2 (listed (pick t (Forms.slots (Target 2 c) Empty Empty) (Forms.slots (Name b) (Number 2 c) Empty))) (length_of (RegisterImmediate a b c) + offset_length to)
    go true = let z : nowhere ≡ to = cc in let e : length_of (RegisterImmediate a b c) + offset_length to ≡ (2 + (1 + more_by c)) = omega (arith, ap (λ (o : Memory). offset_by o.aa) z) in ((2 + (1 + more_by c)), (refl, refl), ((2 + (1 + more_by c)), refl, ((2 + (1 + more_by c)), refl, e)))
    go false = let z : nowhere ≡ to = cc in let e : length_of (RegisterImmediate a b c) + offset_length to ≡ (2 + (1 + more_by c)) = omega (arith, ap (λ (o : Memory). offset_by o.aa) z) in (2, refl, ((2 + (1 + more_by c)), (refl, refl), ((2 + (1 + more_by c)), refl, e)))
chained bytes (Register a b) to q h = let z : nowhere ≡ to = cc in let e : length_of (Register a b) + offset_length to ≡ 2 = omega (arith, ap (λ (o : Memory). offset_by o.aa) z) in (2, refl, (2, refl, (2, refl, e)))
chained bytes (JumpRegister a b c) to q h = let z : nowhere ≡ to = cc in let e : length_of (JumpRegister a b c) + offset_length to ≡ (2 + (1 + more_by c)) = omega (arith, ap (λ (o : Memory). offset_by o.aa) z) in (2, refl, ((2 + (1 + more_by c)), (refl, refl), ((2 + (1 + more_by c)), refl, e)))
chained bytes (RegisterMemory a b c) to q h = let z : nowhere ≡ to = cc in let e : length_of (RegisterMemory a b c) + offset_length to ≡ (2 + offset_by c.aa) = omega (arith, ap (λ (o : Memory). offset_by o.aa) z) in (2, refl, ((2 + offset_by c.aa), (refl, refl), ((2 + offset_by c.aa), refl, e)))
chained bytes (MemoryRegister a b c) to q h = let z : nowhere ≡ to = cc in let e : length_of (MemoryRegister a b c) + offset_length to ≡ (2 + offset_by c.aa) = omega (arith, ap (λ (o : Memory). offset_by o.aa) z) in ((2 + offset_by c.aa), (refl, refl), ((2 + offset_by c.aa), refl, ((2 + offset_by c.aa), refl, e)))
chained bytes (MemoryImmediate a b) to q h = let z : nowhere ≡ to = cc in let e : length_of (MemoryImmediate a b) + offset_length to ≡ ((2 + offset_by b.aa) + (1 + more_by b.wide)) = omega (arith, ap (λ (o : Memory). offset_by o.aa) z) in ((2 + offset_by b.aa), (refl, refl), (((2 + offset_by b.aa) + (1 + more_by b.wide)), (refl, refl), (((2 + offset_by b.aa) + (1 + more_by b.wide)), refl, e)))
chained bytes (MemoryAlone a b) to q h = let z : nowhere ≡ to = cc in let e : length_of (MemoryAlone a b) + offset_length to ≡ (2 + offset_by b.aa) = omega (arith, ap (λ (o : Memory). offset_by o.aa) z) in ((2 + offset_by b.aa), (refl, refl), ((2 + offset_by b.aa), refl, ((2 + offset_by b.aa), refl, e)))
chained bytes (JumpMemory a b c) to q h = let z : nowhere ≡ to = cc in let e : length_of (JumpMemory a b c) + offset_length to ≡ ((2 + offset_by b.aa) + (1 + more_by c)) = omega (arith, ap (λ (o : Memory). offset_by o.aa) z) in ((2 + offset_by b.aa), (refl, refl), (((2 + offset_by b.aa) + (1 + more_by c)), (refl, refl), (((2 + offset_by b.aa) + (1 + more_by c)), refl, e)))
chained bytes (Lpd a b) to q h = let z : nowhere ≡ to = cc in let e : length_of (Lpd a b) + offset_length to ≡ (2 + offset_by b.aa) = omega (arith, ap (λ (o : Memory). offset_by o.aa) z) in (2, refl, ((2 + offset_by b.aa), (refl, refl), ((2 + offset_by b.aa), refl, e)))
chained bytes (MovpLoad a b) to q h = let z : nowhere ≡ to = cc in let e : length_of (MovpLoad a b) + offset_length to ≡ (2 + offset_by b.aa) = omega (arith, ap (λ (o : Memory). offset_by o.aa) z) in (2, refl, ((2 + offset_by b.aa), (refl, refl), ((2 + offset_by b.aa), refl, e)))
chained bytes (MovpStore a b) to q h = let z : nowhere ≡ to = cc in let e : length_of (MovpStore a b) + offset_length to ≡ (2 + offset_by b.aa) = omega (arith, ap (λ (o : Memory). offset_by o.aa) z) in ((2 + offset_by b.aa), (refl, refl), ((2 + offset_by b.aa), refl, ((2 + offset_by b.aa), refl, e)))
chained bytes (MovMemory a) to e h = absurd (h a refl)
chained bytes (Tsl a) to q h = let z : nowhere ≡ to = cc in let e : length_of (Tsl a) + offset_length to ≡ (((2 + offset_by a.aa) + (1 + more_by false)) + (1 + more_by false)) = omega (arith, ap (λ (o : Memory). offset_by o.aa) z) in ((2 + offset_by a.aa), (refl, refl), (((2 + offset_by a.aa) + (1 + more_by false)), (refl, refl), ((((2 + offset_by a.aa) + (1 + more_by false)) + (1 + more_by false)), (refl, refl), e)))
chained bytes (Call a b) to q h = let z : nowhere ≡ to = cc in let e : length_of (Call a b) + offset_length to ≡ ((2 + offset_by a.aa) + (1 + more_by b)) = omega (arith, ap (λ (o : Memory). offset_by o.aa) z) in ((2 + offset_by a.aa), (refl, refl), (((2 + offset_by a.aa) + (1 + more_by b)), (refl, refl), (((2 + offset_by a.aa) + (1 + more_by b)), refl, e)))
chained bytes (JumpMasked a b c) to q h = let z : nowhere ≡ to = cc in let e : length_of (JumpMasked a b c) + offset_length to ≡ ((2 + offset_by b.aa) + (1 + more_by c)) = omega (arith, ap (λ (o : Memory). offset_by o.aa) z) in ((2 + offset_by b.aa), (refl, refl), (((2 + offset_by b.aa) + (1 + more_by c)), (refl, refl), (((2 + offset_by b.aa) + (1 + more_by c)), refl, e)))
chained bytes (JumpBit a b c d) to q h = let z : nowhere ≡ to = cc in let e : length_of (JumpBit a b c d) + offset_length to ≡ ((2 + offset_by c.aa) + (1 + more_by d)) = omega (arith, ap (λ (o : Memory). offset_by o.aa) z) in ((2 + offset_by c.aa), (refl, refl), ((2 + offset_by c.aa), refl, (((2 + offset_by c.aa) + (1 + more_by d)), (refl, refl), e)))
chained bytes (Bit a b c) to q h = let z : nowhere ≡ to = cc in let e : length_of (Bit a b c) + offset_length to ≡ (2 + offset_by c.aa) = omega (arith, ap (λ (o : Memory). offset_by o.aa) z) in ((2 + offset_by c.aa), (refl, refl), ((2 + offset_by c.aa), refl, ((2 + offset_by c.aa), refl, e)))

two-and-four : (x : ℕ) → x % 8 ≡ x / 2 % 4 * 2 + x / 1 % 2
two-and-four x = let e : x / 1 ≡ x = omega arith in rw e (omega arith)

low_bits : (x y : ℕ) → x / 1 % 2 ≡ y / 1 % 2 → x / 2 % 4 ≡ y / 2 % 4 → x % 8 ≡ y % 8
low_bits x y e f = two-and-four x ∙ rw (e, f) (sym (two-and-four y))

middle-bits : (x y : ℕ) → x % 8 ≡ y % 8 → x / 8 % 4 ≡ y / 8 % 4 → x % 32 ≡ y % 32
middle-bits x y e f = omega arith

high_bits : (x y : ℕ) → x < 256 → y < 256 → x % 32 ≡ y % 32 → x / 32 % 8 ≡ y / 32 % 8 → x ≡ y
high_bits x y hx hy e f = omega arith

second-bits : (x y : ℕ) → x < 256 → y < 256 → x / 1 % 4 ≡ y / 1 % 4 → x / 4 % 64 ≡ y / 4 % 64 → x ≡ y
second-bits x y hx hy e f = omega arith

-- a byte is told by its fields
pub pair-bytes : (a b c d : ℕ) → a < 256 → b < 256 → c < 256 → d < 256 → pair_of a b ≡ pair_of c d → (a ≡ c) × (b ≡ d)
unfolding pair_of field_of
pair-bytes a b c d ha hb hc hd e =
    let r : a / 32 % 8 ≡ c / 32 % 8 = ap (λ (p : Pair). p.rrr) e in
    let s : a / 8 % 4 ≡ c / 8 % 4 = ap (λ (p : Pair). p.dd) e in
    let t : a / 2 % 4 ≡ c / 2 % 4 = ap (λ (p : Pair). p.aa) e in
    let u : a / 1 % 2 ≡ c / 1 % 2 = ap (λ (p : Pair). p.w) e in
    let v : b / 4 % 64 ≡ d / 4 % 64 = ap (λ (p : Pair). p.opcode) e in
    let w : b / 1 % 4 ≡ d / 1 % 4 = ap (λ (p : Pair). p.mm) e in
    (high_bits a c ha hc (middle-bits a c (low_bits a c u t) s) r, second-bits b d hb hd w v)

-- the fields of a second pair, from its operand and W
unfoldable pub second_pair : Bool → Memory → Pair
second_pair wide m = record { rrr = 0; dd = 0; aa = m.aa; w = pick wide 1 0; opcode = 0x33; mm = m.mm }

no_operand : {A : Type 0} {m : Memory} → None ≡ Some m → A
no_operand h = let z : ◌≡◌ {A = ℕ} 0 1 = cc in absurd (eqb-false 0 1 refl z)

second-of : (p : Pair) (wide : Bool) (m : Memory) → pick (eqb p.opcode 0x33 && columns '000 '00 'AA (pick wide '1 '0) 'MM p) (Some (memory_of p)) None ≡ Some m → p ≡ second_pair wide m
unfolding second_pair
second-of p wide m h = go (eqb p.opcode 0x33) refl (eqb p.rrr 0) refl (meets (pick wide '1 '0) p.w p.w) refl (eqb p.dd 0) refl h
  where
    width : (w : Bool) → meets (pick w '1 '0) p.w p.w ≡ true → p.w ≡ pick w 1 0
    width true e = eqb-true p.w 1 e
    width false e = eqb-true p.w 0 e

    go : (a : Bool) → eqb p.opcode 0x33 ≡ a → (b : Bool) → eqb p.rrr 0 ≡ b → (c : Bool) → meets (pick wide '1 '0) p.w p.w ≡ c → (d : Bool) → eqb p.dd 0 ≡ d → pick (a && (b && (true && (true && (c && d))))) (Some (memory_of p)) None ≡ Some m → p ≡ second_pair wide m
    go true a true b true c true d t =
        let e : memory_of p ≡ m = cc in
        rw (sym e, eqb-true p.opcode 0x33 a, eqb-true p.rrr 0 b, width wide c, eqb-true p.dd 0 d)
    go true a true b true c false d t = no_operand t
    go true a true b false c x d t = no_operand t
    go true a false b y c x d t = no_operand t
    go false a z b y c x d t = no_operand t

pub second-fields : (x y : ℕ) (wide : Bool) (m : Memory) → second_of x y wide ≡ Some m → pair_of x y ≡ second_pair wide m
unfolding second_of second_pair
second-fields x y wide m h = second-of (pair_of x y) wide m h

pub second-memory : (x y : ℕ) (wide : Bool) (m : Memory) → second_of x y wide ≡ Some m → m ≡ memory_of (pair_of x y)
unfolding second_of
second-memory x y wide m h = go (eqb (pair_of x y).opcode 0x33 && columns '000 '00 'AA (pick wide '1 '0) 'MM (pair_of x y)) h
  where
    go : (b : Bool) → pick b (Some (memory_of (pair_of x y))) None ≡ Some m → m ≡ memory_of (pair_of x y)
    go true t = cc
    go false t = no_operand t

pub second-placed : (x y : ℕ) (wide : Bool) (m : Memory) → second_of x y wide ≡ Some m → (m.mm < 4) × (m.aa < 4)
unfolding second_pair pair_of field_of
second-placed x y wide m h =
    let e = second-fields x y wide m h in
    let a : x / 2 % 4 ≡ m.aa = ap (λ (p : Pair). p.aa) e in
    let b : y / 1 % 4 ≡ m.mm = ap (λ (p : Pair). p.mm) e in
    (omega arith, omega arith)

-- MOV M,M has a second pair, and no other instruction has one
unfoldable pub is_move : Shape → Bool
is_move Nop = false
is_move Sintr = false
is_move Xfer = false
is_move (Wid a b) = false
is_move Hlt = false
is_move (Lpdi a) = false
is_move (RegisterImmediate a b c) = false
is_move (Register a b) = false
is_move (JumpRegister a b c) = false
is_move (RegisterMemory a b c) = false
is_move (MemoryRegister a b c) = false
is_move (MemoryImmediate a b) = false
is_move (MemoryAlone a b) = false
is_move (JumpMemory a b c) = false
is_move (Lpd a b) = false
is_move (MovpLoad a b) = false
is_move (MovpStore a b) = false
is_move (MovMemory a) = true
is_move (Tsl a) = false
is_move (Call a b) = false
is_move (JumpMasked a b c) = false
is_move (JumpBit a b c d) = false
is_move (Bit a b c) = false

pub other-shape : (s : Shape) → is_move s ≡ false → (m : Memory) → s ≡ MovMemory m → ⊥
unfolding is_move
other-shape s h m e = false≢true (sym h ∙ ap is_move e)

pub to_none : (s : Shape) → is_move s ≡ false → (bytes : List ℕ) (to : Memory) → to_of bytes s ≡ Some to → to ≡ nowhere
unfolding is_move to_of
to_none Nop h bytes to e = cc
to_none Sintr h bytes to e = cc
to_none Xfer h bytes to e = cc
to_none (Wid a b) h bytes to e = cc
to_none Hlt h bytes to e = cc
to_none (Lpdi a) h bytes to e = cc
to_none (RegisterImmediate a b c) h bytes to e = cc
to_none (Register a b) h bytes to e = cc
to_none (JumpRegister a b c) h bytes to e = cc
to_none (RegisterMemory a b c) h bytes to e = cc
to_none (MemoryRegister a b c) h bytes to e = cc
to_none (MemoryImmediate a b) h bytes to e = cc
to_none (MemoryAlone a b) h bytes to e = cc
to_none (JumpMemory a b c) h bytes to e = cc
to_none (Lpd a b) h bytes to e = cc
to_none (MovpLoad a b) h bytes to e = cc
to_none (MovpStore a b) h bytes to e = cc
to_none (MovMemory a) h bytes to e = unlike (sym h)
to_none (Tsl a) h bytes to e = cc
to_none (Call a b) h bytes to e = cc
to_none (JumpMasked a b c) h bytes to e = cc
to_none (JumpBit a b c d) h bytes to e = cc
to_none (Bit a b c) h bytes to e = cc

-- an instruction is MOV M,M, or it has no second pair
pub data Pairs : Shape → Type 0 where
  two : (m : Memory) → Pairs (MovMemory m)
  one : {s : Shape} → is_move s ≡ false → Pairs s

pub pairs : (s : Shape) → Pairs s
unfolding is_move
pairs Nop = one refl
pairs Sintr = one refl
pairs Xfer = one refl
pairs (Wid a b) = one refl
pairs Hlt = one refl
pairs (Lpdi a) = one refl
pairs (RegisterImmediate a b c) = one refl
pairs (Register a b) = one refl
pairs (JumpRegister a b c) = one refl
pairs (RegisterMemory a b c) = one refl
pairs (MemoryRegister a b c) = one refl
pairs (MemoryImmediate a b) = one refl
pairs (MemoryAlone a b) = one refl
pairs (JumpMemory a b c) = one refl
pairs (Lpd a b) = one refl
pairs (MovpLoad a b) = one refl
pairs (MovpStore a b) = one refl
pairs (MovMemory a) = two a
pairs (Tsl a) = one refl
pairs (Call a b) = one refl
pairs (JumpMasked a b c) = one refl
pairs (JumpBit a b c d) = one refl
pairs (Bit a b c) = one refl
