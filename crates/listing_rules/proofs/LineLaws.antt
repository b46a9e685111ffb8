-- How long a line is: at most 28 characters.
-- Assumes nothing.
use mathlib.Core.Path.{◌≡◌, refl}
use mathlib.Core.Bool.{Bool, true, false, ◌&&◌}
use mathlib.Core.List.{List, [], ◌∷◌, ◌++◌}
use Prim.Native.Nat.{ℕ, zero, suc, ◌+◌, ◌*◌, ◌/◌, ◌%◌, ◌≤◌}
use native.Mathlib.Nat.{le_of_eq}
use native.Mathlib.Omega.{arith}
use lib.Dec.{T, eqb, ltb, leb, leb→le, lit≤}
use lib.ListN.{length, get_or, length-append}
use borrow.Author.Tests.{eqb-true}
use Rattle.ground_rules.specs.Choice.{pick}
use Rattle.instruction_rules.specs.declared.Memory.{Memory}
use Rattle.instruction_rules.specs.declared.Work.{Work}
use Rattle.instruction_rules.specs.declared.Single.{Single}
use Rattle.instruction_rules.specs.declared.Shape.{Shape}
use Rattle.instruction_rules.specs.declared.Shape.TheVariants.{Nop, Sintr, Xfer, Wid, Hlt, Lpdi, RegisterImmediate, Register, JumpRegister, RegisterMemory, MemoryRegister, MemoryImmediate, MemoryAlone, JumpMemory, Lpd, MovpLoad, MovpStore, MovMemory, Tsl, Call, JumpMasked, JumpBit, Bit}
use Rattle.listing_rules.specs.Characters.{ascii, hex_digits, number_text, digit_text}
use Rattle.listing_rules.specs.Mnemonics.{long_mark, byte_mark, work_stem, single_stem, is_jump, mnemonic_of}
use Rattle.listing_rules.specs.Forms.{slots, slots_of, after_offset, filled, register_names, register_name, base_names, base_name, mode_texts, mode_text, offset_text, spelled, following}
use Rattle.listing_rules.specs.Lines.{line_with, instruction_line, data_items, data_line, 'blank, 'comma}
use Rattle.listing_rules.specs.declared.Slot.{Slot}
use Rattle.listing_rules.specs.declared.Slot.TheVariants.{Empty, Name, Place, Number, Target, Digit}

joined-short : {n m : ℕ} (a b : List ℕ) → length a ≤ n → length b ≤ m → length (a ++ b) ≤ n + m
joined-short a b h k = omega (arith, length-append a b)

picked-short : (t : Bool) (a b : List ℕ) (n : ℕ) → length a ≤ n → length b ≤ n → length (pick t a b) ≤ n
picked-short true a b n h k = h
picked-short false a b n h k = k

-- whether each of some texts has at most so many characters
all_short : ℕ → List (List ℕ) → Bool
all_short n [] = true
all_short n (text ∷ texts) = leb (length text) n && all_short n texts

pub and_left : (a b : Bool) → T (a && b) → T a
and_left true b t = tt
and_left false b t = t

pub and_right : (a b : Bool) → T (a && b) → T b
and_right true b t = t
and_right false b t = absurd t

chosen-short : (n : ℕ) (texts : List (List ℕ)) (other : List ℕ) (i : ℕ) → T (all_short n texts) → length other ≤ n → length (get_or texts i other) ≤ n
unfolding all_short
chosen-short n [] other i t h = h
chosen-short n (text ∷ texts) other zero t h = leb→le (length text) n (and_left (leb (length text) n) (all_short n texts) t)
chosen-short n (text ∷ texts) other (suc i) t h = chosen-short n texts other i (and_right (leb (length text) n) (all_short n texts) t) h

-- how many characters an operand takes, with the separator before it
room : Slot → ℕ
room Empty = 0
room (Name rrr) = 3
room (Place m at) = 10
room (Number at two) = 7
room (Target at two) = 7
room (Digit n) = 3

mode-short : (aa b : ℕ) → length (mode_text aa ++ offset_text (pick (eqb aa 1) (b ∷ []) [])) ≤ 6
unfolding mode_text number_text hex_digits all_short
mode-short aa b = go (eqb aa 1) refl
  where
    go : (t : Bool) → eqb aa 1 ≡ t → length (mode_text aa ++ offset_text (pick t (b ∷ []) [])) ≤ 6
    go true e = rw (eqb-true aa 1 e) (lit≤ tt)
    go false e = joined-short (mode_text aa) [] (chosen-short 5 mode_texts (ascii "+IX+]") aa tt (lit≤ tt)) (lit≤ {m = 0} {n = 1} tt)

operand_short : (separator : ℕ) (bytes : List ℕ) (end : ℕ) (a : Slot) → length (following separator (filled bytes end a)) ≤ room a
unfolding following filled spelled room register_name base_name number_text hex_digits digit_text all_short
operand_short separator bytes end Empty = lit≤ tt
operand_short separator bytes end (Name rrr) = omega (arith, chosen-short 2 register_names (ascii "MC") rrr tt (lit≤ tt))
operand_short separator bytes end (Place m at) =
    let base = base_name m.mm in
    let rest = mode_text m.aa ++ offset_text (pick (eqb m.aa 1) (get_or bytes at 0 ∷ []) []) in
    let h : length (base ++ rest) ≤ 3 + 6 = joined-short base rest (chosen-short 3 base_names (ascii "[PP") m.mm tt (lit≤ tt)) (mode-short m.aa (get_or bytes at 0)) in
    omega arith
operand_short separator bytes end (Number at true) = lit≤ tt
operand_short separator bytes end (Number at false) = lit≤ tt
operand_short separator bytes end (Target at two) = lit≤ tt
operand_short separator bytes end (Digit n) = go (ltb n 10)
  where
    go : (t : Bool) → suc (length (pick t ((48 + n) ∷ []) ((48 + n / 10 % 10) ∷ (48 + n % 10) ∷ []))) ≤ 3
    go true = lit≤ tt
    go false = lit≤ tt

line-room : (word bytes : List ℕ) (end : ℕ) (a b c : Slot) → length word + room a + room b + room c ≤ 27 → length (line_with word (slots a b c) bytes end) ≤ 28
unfolding line_with
line-room word bytes end a b c h =
    let x = following 'blank (filled bytes end a) in
    let y = following 'comma (filled bytes end b) in
    let z = following 'comma (filled bytes end c) in
    let t : length (word ++ (x ++ (y ++ (z ++ (10 ∷ []))))) ≤ length word + (room a + (room b + (room c + 1))) =
    joined-short word _ (omega arith) (joined-short x _ (operand_short 'blank bytes end a) (joined-short y _ (operand_short 'comma bytes end b) (joined-short z (10 ∷ []) (operand_short 'comma bytes end c) (lit≤ tt)))) in
    omega arith

work-short : (work : Work) → length (work_stem work) ≤ 3
work-short Work.Mov = lit≤ tt
work-short Work.Add = lit≤ tt
work-short Work.Or = lit≤ tt
work-short Work.And = lit≤ tt
work-short Work.Not = lit≤ tt

single-short : (single : Single) → length (single_stem single) ≤ 3
single-short Single.Not = lit≤ tt
single-short Single.Inc = lit≤ tt
single-short Single.Dec = lit≤ tt

long-short : (two : Bool) → length (long_mark two) ≤ 1
long-short true = lit≤ tt
long-short false = lit≤ tt

byte-short : (wide : Bool) → length (byte_mark wide) ≤ 1
byte-short true = lit≤ tt
byte-short false = lit≤ tt

-- a line that its instruction's word and operands make has at most 28 characters
pub line-short : (bytes : List ℕ) (end : ℕ) (s : Shape) (to : Memory) → length (instruction_line bytes end s to) ≤ 28
unfolding instruction_line mnemonic_of slots_of room
line-short bytes end Nop to = line-room _ bytes end Empty Empty Empty (lit≤ tt)
line-short bytes end Sintr to = line-room _ bytes end Empty Empty Empty (lit≤ tt)
line-short bytes end Xfer to = line-room _ bytes end Empty Empty Empty (lit≤ tt)
line-short bytes end (Wid a b) to = line-room _ bytes end (Digit _) (Digit _) Empty (lit≤ tt)
line-short bytes end Hlt to = line-room _ bytes end Empty Empty Empty (lit≤ tt)
line-short bytes end (Lpdi p) to = line-room _ bytes end (Name p) (Number 2 true) (Number 4 true) (lit≤ tt)
line-short bytes end (RegisterImmediate w r wide) to = go (is_jump w r)
  where
    go : (t : Bool) → length (line_with (pick t (long_mark wide ++ ascii "JMP") (work_stem w ++ (byte_mark wide ++ ascii "I"))) (pick t (slots (Target 2 wide) Empty Empty) (slots (Name r) (Number 2 wide) Empty)) bytes end) ≤ 28
    go true = line-room _ bytes end (Target 2 wide) Empty Empty (omega (arith, joined-short (long_mark wide) (ascii "JMP") (long-short wide) (lit≤ {m = 3} {n = 3} tt)))
    go false = line-room _ bytes end (Name r) (Number 2 wide) Empty (omega (arith, joined-short (work_stem w) (byte_mark wide ++ ascii "I") (work-short w) (joined-short (byte_mark wide) (ascii "I") (byte-short wide) (lit≤ {m = 1} {n = 1} tt))))
line-short bytes end (Register w r) to = line-room _ bytes end (Name r) Empty Empty (omega (arith, single-short w))
line-short bytes end (JumpRegister z r two) to = line-room _ bytes end (Name r) (Target 2 two) Empty (omega (arith, joined-short (long_mark two) (pick z (ascii "JZ") (ascii "JNZ")) (long-short two) (picked-short z (ascii "JZ") (ascii "JNZ") 3 (lit≤ tt) (lit≤ tt))))
line-short bytes end (RegisterMemory w r m) to = line-room _ bytes end (Name r) (Place m 2) Empty (omega (arith, joined-short (work_stem w) (byte_mark m.wide) (work-short w) (byte-short m.wide)))
line-short bytes end (MemoryRegister w r m) to = line-room _ bytes end (Place m 2) (Name r) Empty (omega (arith, joined-short (work_stem w) (byte_mark m.wide) (work-short w) (byte-short m.wide)))
line-short bytes end (MemoryImmediate w m) to = line-room _ bytes end (Place m 2) (Number (after_offset m) m.wide) Empty (omega (arith, joined-short (work_stem w) (byte_mark m.wide ++ ascii "I") (work-short w) (joined-short (byte_mark m.wide) (ascii "I") (byte-short m.wide) (lit≤ {m = 1} {n = 1} tt))))
line-short bytes end (MemoryAlone w m) to = line-room _ bytes end (Place m 2) Empty Empty (omega (arith, joined-short (single_stem w) (byte_mark m.wide) (single-short w) (byte-short m.wide)))
line-short bytes end (JumpMemory z m two) to = line-room _ bytes end (Place m 2) (Target (after_offset m) two) Empty (omega (arith, joined-short (long_mark two) (pick z (ascii "JZ") (ascii "JNZ") ++ byte_mark m.wide) (long-short two) (joined-short (pick z (ascii "JZ") (ascii "JNZ")) (byte_mark m.wide) (picked-short z (ascii "JZ") (ascii "JNZ") 3 (lit≤ tt) (lit≤ tt)) (byte-short m.wide))))
line-short bytes end (Lpd p m) to = line-room _ bytes end (Name p) (Place m 2) Empty (lit≤ tt)
line-short bytes end (MovpLoad p m) to = line-room _ bytes end (Name p) (Place m 2) Empty (lit≤ tt)
line-short bytes end (MovpStore p m) to = line-room _ bytes end (Place m 2) (Name p) Empty (lit≤ tt)
line-short bytes end (MovMemory m) to = line-room _ bytes end (Place to (after_offset m + 2)) (Place m 2) Empty (omega (arith, joined-short (ascii "MOV") (byte_mark m.wide) (lit≤ {m = 3} {n = 3} tt) (byte-short m.wide)))
line-short bytes end (Tsl m) to = line-room _ bytes end (Place m 2) (Number (after_offset m) false) (Target (after_offset m + 1) false) (lit≤ tt)
line-short bytes end (Call m two) to = line-room _ bytes end (Place m 2) (Target (after_offset m) two) Empty (omega (arith, joined-short (long_mark two) (ascii "CALL") (long-short two) (lit≤ {m = 4} {n = 4} tt)))
line-short bytes end (JumpMasked e m two) to = line-room _ bytes end (Place m 2) (Target (after_offset m) two) Empty (omega (arith, joined-short (long_mark two) (pick e (ascii "JMCE") (ascii "JMCNE")) (long-short two) (picked-short e (ascii "JMCE") (ascii "JMCNE") 5 (lit≤ tt) (lit≤ tt))))
line-short bytes end (JumpBit t b m two) to = line-room _ bytes end (Place m 2) (Digit b) (Target (after_offset m) two) (omega (arith, joined-short (long_mark two) (pick t (ascii "JBT") (ascii "JNBT")) (long-short two) (picked-short t (ascii "JBT") (ascii "JNBT") 4 (lit≤ tt) (lit≤ tt))))
line-short bytes end (Bit o b m) to = line-room _ bytes end (Place m 2) (Digit b) Empty (omega (arith, picked-short o (ascii "SETB") (ascii "CLR") 4 (lit≤ tt) (lit≤ tt)))

items-length : (separator : ℕ) (bytes : List ℕ) → length (data_items separator bytes) ≡ 5 * length bytes
unfolding data_items number_text hex_digits
items-length separator [] = refl
items-length separator (b ∷ bytes) = omega (arith, items-length 'comma bytes)

-- a DB line of at most five bytes has at most 28 characters
pub data-short : (bytes : List ℕ) → length bytes ≤ 5 → length (data_line bytes) ≤ 28
unfolding data_line
data-short bytes h = omega (arith, joined-short (ascii "DB") (data_items 'blank bytes ++ (10 ∷ [])) (lit≤ {m = 2} {n = 2} tt) (joined-short (data_items 'blank bytes) (10 ∷ []) (le_of_eq (items-length 'blank bytes)) (lit≤ {m = 1} {n = 1} tt)))
