-- What a line that no number refuses stores are bytes.
-- Assumes nothing.
use mathlib.Core.Path.{◌≡◌, refl, sym, ◌∙◌}
use mathlib.Core.Bool.{Bool, true, false, not, ◌&&◌, ◌||◌, false≢true}
use mathlib.Core.List.{List, [], ◌∷◌, ◌++◌}
use Prim.Native.Nat.{ℕ, suc, ◌+◌, ◌*◌, ◌/◌, ◌%◌, ◌<◌}
use native.Mathlib.Omega.{arith}
use native.Mathlib.Nat.{mod-lt}
use lib.Dec.{eqb, ltb, leb}
use borrow.Author.Tests.{eqb-true, eqb-false, ltb-true, lt-ltb}
use Rattle.ground_rules.specs.Choice.{pick}
use Rattle.instruction_rules.specs.declared.Pair.{Pair}
use Rattle.listing_rules.specs.Characters.{ascii, same_text}
use Rattle.listing_rules.specs.Forms.{Operand}
use Rattle.listing_rules.specs.Entries.{OperandKind, Entry, entries}
use Rattle.listing_rules.specs.Entries.OperandKind.{'R, 'G, 'P, 'M, 'byte, 'word, 'bit, 'width, 'short, 'long}
use Rattle.listing_rules.specs.Back.{digits_in, rrr_in, mm_in, aa_in, pair_from}
use Rattle.assembly_rules.specs.Text.{Token, tokens_of}
use Rattle.assembly_rules.specs.Text.Token.{run, mark}
use Rattle.assembly_rules.specs.Sums.{Label, register_number, is_sum, sum_worth}
use Rattle.assembly_rules.specs.Operands.{Written, closed_memory, ended_memory, indexed_memory, memory_behind, base_number, memory_from, alone_number, sum_from, operand_from, operands_from, takes, takes_all, Chosen, entry_in, has_word, all_shallow}
use Rattle.assembly_rules.specs.Operands.Written.{register, memory, value, nothing}
use Rattle.assembly_rules.specs.Operands.Chosen.{taken, untaken}
use Rattle.assembly_rules.specs.Statements.{headed_by, Statement, operand_parts, all_sums, all_low, items_from, formed_by, word_statement, statement_of, statement_size, may_stand, operand_worth, names_known, all_stand, statement_number, pair_bytes, listed_as, listed_all, written_offset, all_offsets, number_bytes, all_numbers, second_bytes, move_bytes, instruction_bytes, items_bytes, statement_bytes, memories_in}
use Rattle.assembly_rules.specs.Statements.Statement.{instruction, refused}
use Rattle.assembly_rules.specs.Assembly.{Said, said_by, said_in, kept_with, label_stands, line_number}
use Rattle.assembly_rules.proofs.WritingLaws.{both_left, both_right}
use Rattle.assembly_rules.proofs.SizeLaws.{pass_each, entry-tested}
use Rattle.assembly_rules.proofs.PassLaws.{failed, failed_from, bytes_from}

unfoldable pub are_bytes : List ℕ → Bool
are_bytes [] = true
are_bytes (b ∷ bs) = ltb b 256 && are_bytes bs

both_true : (a b : Bool) → a ≡ true → b ≡ true → a && b ≡ true
both_true true b h k = k
both_true false b h k = h

bytes-append : (xs ys : List ℕ) → are_bytes xs ≡ true → are_bytes ys ≡ true → are_bytes (xs ++ ys) ≡ true
unfolding are_bytes
bytes-append [] ys h k = k
bytes-append (x ∷ xs) ys h k = both_true (ltb x 256) (are_bytes (xs ++ ys)) (both_left (ltb x 256) (are_bytes xs) h) (bytes-append xs ys (both_right (ltb x 256) (are_bytes xs) h) k)

low-bytes : (n : ℕ) → are_bytes (n % 256 ∷ []) ≡ true
unfolding are_bytes
low-bytes n = rw (lt-ltb (n % 256) 256 (mod-lt n (omega arith)))

two_bytes : (n : ℕ) → are_bytes (n % 256 ∷ n / 256 % 256 ∷ []) ≡ true
unfolding are_bytes
two_bytes n = rw (lt-ltb (n % 256) 256 (mod-lt n (omega arith)), lt-ltb (n / 256 % 256) 256 (mod-lt (n / 256) (omega arith)))

either-bytes : (b : Bool) (xs ys : List ℕ) → are_bytes xs ≡ true → are_bytes ys ≡ true → are_bytes (pick b xs ys) ≡ true
either-bytes true xs ys h k = h
either-bytes false xs ys h k = k

no_bytes : are_bytes [] ≡ true
unfolding are_bytes
no_bytes = refl

items-bytes : (labels : List Label) (two : Bool) (parts : List (List Token)) → are_bytes (items_bytes labels two parts) ≡ true
unfolding items_bytes
items-bytes labels two [] = no_bytes
items-bytes labels two (part ∷ parts) = bytes-append _ _ (either-bytes two _ _ (two_bytes (sum_worth labels part).value) (low-bytes (sum_worth labels part).value)) (items-bytes labels two parts)

offset-bytes : (labels : List Label) (w : Written) → are_bytes (written_offset labels w) ≡ true
offset-bytes labels (register r) = no_bytes
offset-bytes labels (memory mm aa ts) = either-bytes (eqb aa 1) _ _ (low-bytes (sum_worth labels ts).value) no_bytes
offset-bytes labels (value ts) = no_bytes
offset-bytes labels nothing = no_bytes

offsets-bytes : (labels : List Label) (ws : List Written) → are_bytes (all_offsets labels ws) ≡ true
unfolding all_offsets
offsets-bytes labels [] = no_bytes
offsets-bytes labels (w ∷ ws) = bytes-append (written_offset labels w) _ (offset-bytes labels w) (offsets-bytes labels ws)

number-bytes : (k : OperandKind) (end n : ℕ) → are_bytes (number_bytes k end n) ≡ true
number-bytes 'R end n = no_bytes
number-bytes 'G end n = no_bytes
number-bytes 'P end n = no_bytes
number-bytes 'M end n = no_bytes
number-bytes 'byte end n = low-bytes n
number-bytes 'word end n = two_bytes n
number-bytes 'bit end n = no_bytes
number-bytes 'width end n = no_bytes
number-bytes 'short end n = low-bytes _
number-bytes 'long end n = two_bytes _

numbers-bytes : (labels : List Label) (end : ℕ) (ks : List OperandKind) (ws : List Written) → are_bytes (all_numbers labels end ks ws) ≡ true
unfolding all_numbers
numbers-bytes labels end [] ws = no_bytes
numbers-bytes labels end (k ∷ ks) [] = no_bytes
numbers-bytes labels end (k ∷ ks) (w ∷ ws) = bytes-append (number_bytes k end (operand_worth labels w).value) _ (number-bytes k end (operand_worth labels w).value) (numbers-bytes labels end ks ws)

-- registers by RRR, bases by MM and modes by AA, as operands have them
small_written : Written → Bool
small_written (register r) = ltb r 8
small_written (memory mm aa ts) = ltb mm 4 && ltb aa 4
small_written (value ts) = true
small_written nothing = true

either-small : (b : Bool) (v w : Written) → small_written v ≡ true → small_written w ≡ true → small_written (pick b v w) ≡ true
either-small true v w h k = h
either-small false v w h k = k

module _ (mm : ℕ) (small : ltb mm 4 ≡ true) where
  memory-small : (aa : ℕ) (ts : List Token) → ltb aa 4 ≡ true → small_written (memory mm aa ts) ≡ true
  unfolding small_written
  memory-small aa ts h = both_true (ltb mm 4) (ltb aa 4) small h

  none-small : small_written nothing ≡ true
  unfolding small_written
  none-small = refl

  closed-small : (ts : List Token) → small_written (closed_memory mm ts) ≡ true
  unfolding closed_memory
  closed-small [] = memory-small 0 [] refl
  closed-small (run r ∷ ts) = none-small
  closed-small (mark c ∷ ts) = either-small (eqb c 46 && is_sum ts) _ _ (memory-small 1 ts refl) none-small

  ended-small : (ts : List Token) → small_written (ended_memory mm ts) ≡ true
  unfolding ended_memory
  ended-small [] = none-small
  ended-small (run r ∷ ts) = none-small
  ended-small (mark c ∷ []) = either-small (eqb c 93) _ _ (memory-small 2 [] refl) none-small
  ended-small (mark c ∷ run r ∷ ts) = none-small
  ended-small (mark c ∷ mark d ∷ []) = either-small (eqb c 43 && eqb d 93) _ _ (memory-small 3 [] refl) none-small
  ended-small (mark c ∷ mark d ∷ t ∷ ts) = none-small

  indexed-small : (ts : List Token) → small_written (indexed_memory mm ts) ≡ true
  unfolding indexed_memory
  indexed-small [] = none-small
  indexed-small (mark c ∷ ts) = none-small
  indexed-small (run r ∷ ts) = either-small (eqb (register_number r) 5) _ _ (ended-small ts) none-small

  behind-small : (ts : List Token) → small_written (memory_behind mm ts) ≡ true
  unfolding memory_behind
  behind-small [] = none-small
  behind-small (run r ∷ ts) = none-small
  behind-small (mark c ∷ ts) = either-small (eqb c 93) _ _ (closed-small ts) (either-small (eqb c 43) _ _ (indexed-small ts) none-small)

no-small : small_written nothing ≡ true
unfolding small_written
no-small = refl

from-small : (ts : List Token) → small_written (memory_from ts) ≡ true
unfolding memory_from
from-small [] = no-small
from-small (mark c ∷ ts) = no-small
from-small (run r ∷ ts) = go (ltb (base_number (register_number r)) 4) refl
  where
    go : (b : Bool) → ltb (base_number (register_number r)) 4 ≡ b → small_written (pick b (memory_behind (base_number (register_number r)) ts) nothing) ≡ true
    go true h = behind-small (base_number (register_number r)) h ts
    go false h = no-small

sum-small : (ts : List Token) → small_written (sum_from ts) ≡ true
unfolding small_written
sum-small ts = go (ltb (alone_number ts) 8) refl (is_sum ts)
  where
    go : (b : Bool) → ltb (alone_number ts) 8 ≡ b → (c : Bool) → small_written (pick b (register (alone_number ts)) (pick c (value ts) nothing)) ≡ true
    go true h c = h
    go false h true = refl
    go false h false = refl

operand_small : (ts : List Token) → small_written (operand_from ts) ≡ true
unfolding operand_from
operand_small [] = no-small
operand_small (run r ∷ ts) = sum-small (run r ∷ ts)
operand_small (mark c ∷ ts) = either-small (eqb c 91) _ _ (from-small ts) (sum-small (mark c ∷ ts))

all_small : List Written → Bool
all_small [] = true
all_small (w ∷ ws) = small_written w && all_small ws

operands-small : (parts : List (List Token)) → all_small (operands_from parts) ≡ true
unfolding operands_from all_small
operands-small [] = refl
operands-small (part ∷ parts) = both_true (small_written (operand_from part)) _ (operand_small part) (operands-small parts)

-- RRR of the operands of a line: a register, a bit, or widths, which stand in twos
is_digit_operand : List Operand → Bool
is_digit_operand [] = false
is_digit_operand (Operand.none ∷ os) = false
is_digit_operand (Operand.register r ∷ os) = false
is_digit_operand (Operand.memory m a o ∷ os) = false
is_digit_operand (Operand.number b ∷ os) = false
is_digit_operand (Operand.digit n ∷ os) = true

small_operands : List Operand → Bool
small_operands [] = true
small_operands (Operand.none ∷ os) = small_operands os
small_operands (Operand.register r ∷ os) = ltb r 8
small_operands (Operand.memory m a o ∷ os) = small_operands os
small_operands (Operand.number b ∷ os) = small_operands os
small_operands (Operand.digit n ∷ os) = is_digit_operand os || ltb n 8

digits-small : (n : ℕ) (os : List Operand) → is_digit_operand os || ltb n 8 ≡ true → digits_in n os < 8
unfolding digits_in is_digit_operand
digits-small n [] h = ltb-true n 8 h
digits-small n (Operand.none ∷ os) h = ltb-true n 8 h
digits-small n (Operand.register r ∷ os) h = ltb-true n 8 h
digits-small n (Operand.memory m a o ∷ os) h = ltb-true n 8 h
digits-small n (Operand.number b ∷ os) h = ltb-true n 8 h
digits-small n (Operand.digit k ∷ os) h = go (eqb n 16) (eqb k 16)
  where
    go : (a b : Bool) → 4 + pick a 2 0 + pick b 1 0 < 8
    go true true = omega arith
    go true false = omega arith
    go false true = omega arith
    go false false = omega arith

rrr-small : (d : ℕ) (os : List Operand) → d < 8 → small_operands os ≡ true → rrr_in d os < 8
unfolding rrr_in small_operands
rrr-small d [] l h = l
rrr-small d (Operand.none ∷ os) l h = rrr-small d os l h
rrr-small d (Operand.register r ∷ os) l h = ltb-true r 8 h
rrr-small d (Operand.memory m a o ∷ os) l h = rrr-small d os l h
rrr-small d (Operand.number b ∷ os) l h = rrr-small d os l h
rrr-small d (Operand.digit n ∷ os) l h = digits-small n os h

-- MM and AA of the memory operands
small_memories : List Operand → Bool
small_memories [] = true
small_memories (Operand.none ∷ os) = small_memories os
small_memories (Operand.register r ∷ os) = small_memories os
small_memories (Operand.memory m a o ∷ os) = (ltb m 4 && ltb a 4) && small_memories os
small_memories (Operand.number b ∷ os) = small_memories os
small_memories (Operand.digit n ∷ os) = small_memories os

fields-small : (c d : ℕ) (os : List Operand) → c < 4 → d < 4 → small_memories os ≡ true → (mm_in c os < 4) × (aa_in d os < 4)
unfolding mm_in aa_in small_memories
fields-small c d [] l k h = (l, k)
fields-small c d (Operand.none ∷ os) l k h = fields-small c d os l k h
fields-small c d (Operand.register r ∷ os) l k h = fields-small c d os l k h
fields-small c d (Operand.memory m a o ∷ os) l k h = let f = both_left (ltb m 4 && ltb a 4) (small_memories os) h in fields-small m a os (ltb-true m 4 (both_left (ltb m 4) (ltb a 4) f)) (ltb-true a 4 (both_right (ltb m 4) (ltb a 4) f)) (both_right (ltb m 4 && ltb a 4) (small_memories os) h)
fields-small c d (Operand.number b ∷ os) l k h = fields-small c d os l k h
fields-small c d (Operand.digit n ∷ os) l k h = fields-small c d os l k h

listed-memories : (labels : List Label) (ks : List OperandKind) (ws : List Written) → all_small ws ≡ true → small_memories (listed_all labels ks ws) ≡ true
unfolding listed_all listed_as all_small small_memories small_written
listed-memories labels [] ws h = refl
listed-memories labels (k ∷ ks) [] h = refl
listed-memories labels (k ∷ ks) (register r ∷ ws) h = listed-memories labels ks ws (both_right (ltb r 8) (all_small ws) h)
listed-memories labels (k ∷ ks) (memory mm aa ts ∷ ws) h = both_true (ltb mm 4 && ltb aa 4) _ (both_left (ltb mm 4 && ltb aa 4) (all_small ws) h) (listed-memories labels ks ws (both_right (ltb mm 4 && ltb aa 4) (all_small ws) h))
listed-memories labels ('R ∷ ks) (value ts ∷ ws) h = listed-memories labels ks ws h
listed-memories labels ('G ∷ ks) (value ts ∷ ws) h = listed-memories labels ks ws h
listed-memories labels ('P ∷ ks) (value ts ∷ ws) h = listed-memories labels ks ws h
listed-memories labels ('M ∷ ks) (value ts ∷ ws) h = listed-memories labels ks ws h
listed-memories labels ('byte ∷ ks) (value ts ∷ ws) h = listed-memories labels ks ws h
listed-memories labels ('word ∷ ks) (value ts ∷ ws) h = listed-memories labels ks ws h
listed-memories labels ('bit ∷ ks) (value ts ∷ ws) h = listed-memories labels ks ws h
listed-memories labels ('width ∷ ks) (value ts ∷ ws) h = listed-memories labels ks ws h
listed-memories labels ('short ∷ ks) (value ts ∷ ws) h = listed-memories labels ks ws h
listed-memories labels ('long ∷ ks) (value ts ∷ ws) h = listed-memories labels ks ws h
listed-memories labels (k ∷ ks) (nothing ∷ ws) h = listed-memories labels ks ws h

-- places without a width, or two widths alone
is_width : OperandKind → Bool
is_width 'R = false
is_width 'G = false
is_width 'P = false
is_width 'M = false
is_width 'byte = false
is_width 'word = false
is_width 'bit = false
is_width 'width = true
is_width 'short = false
is_width 'long = false

no_width : List OperandKind → Bool
no_width [] = true
no_width (k ∷ ks) = not (is_width k) && no_width ks

both-none : (b : Bool) → b && false ≡ false
both-none true = refl
both-none false = refl

two_widths : List OperandKind → Bool
two_widths [] = false
two_widths (k ∷ []) = false
two_widths (k ∷ l ∷ []) = is_width k && is_width l
two_widths (k ∷ l ∷ m ∷ ks) = false

or_right : (a b : Bool) → b ≡ true → a || b ≡ true
or_right true b h = refl
or_right false b h = h

one-stands : (labels : List Label) (end : ℕ) (k : OperandKind) (ks : List OperandKind) (w : Written) (ws : List Written) → all_stand labels end (k ∷ ks) (w ∷ ws) ≡ true → (may_stand k end (operand_worth labels w).value ≡ true) × (all_stand labels end ks ws ≡ true)
unfolding all_stand
one-stands labels end k ks w ws h = (both_left (may_stand k end (operand_worth labels w).value) (all_stand labels end ks ws) h, both_right (may_stand k end (operand_worth labels w).value) (all_stand labels end ks ws) h)

listed_plain : (labels : List Label) (end : ℕ) (ks : List OperandKind) (ws : List Written) → no_width ks ≡ true → all_small ws ≡ true → all_stand labels end ks ws ≡ true → small_operands (listed_all labels ks ws) ≡ true
unfolding listed_all listed_as all_small small_operands small_written no_width is_width may_stand operand_worth
listed_plain labels end [] ws n h s = refl
listed_plain labels end (k ∷ ks) [] n h s = refl
listed_plain labels end (k ∷ ks) (register r ∷ ws) n h s = both_left (ltb r 8) (all_small ws) h
listed_plain labels end (k ∷ ks) (memory mm aa ts ∷ ws) n h s = listed_plain labels end ks ws (both_right (not (is_width k)) (no_width ks) n) (both_right (ltb mm 4 && ltb aa 4) (all_small ws) h) (one-stands labels end k ks (memory mm aa ts) ws s).1
listed_plain labels end (k ∷ ks) (nothing ∷ ws) n h s = listed_plain labels end ks ws (both_right (not (is_width k)) (no_width ks) n) h (one-stands labels end k ks nothing ws s).1
listed_plain labels end ('R ∷ ks) (value ts ∷ ws) n h s = listed_plain labels end ks ws n h (one-stands labels end 'R ks (value ts) ws s).1
listed_plain labels end ('G ∷ ks) (value ts ∷ ws) n h s = listed_plain labels end ks ws n h (one-stands labels end 'G ks (value ts) ws s).1
listed_plain labels end ('P ∷ ks) (value ts ∷ ws) n h s = listed_plain labels end ks ws n h (one-stands labels end 'P ks (value ts) ws s).1
listed_plain labels end ('M ∷ ks) (value ts ∷ ws) n h s = listed_plain labels end ks ws n h (one-stands labels end 'M ks (value ts) ws s).1
listed_plain labels end ('byte ∷ ks) (value ts ∷ ws) n h s = listed_plain labels end ks ws n h (one-stands labels end 'byte ks (value ts) ws s).1
listed_plain labels end ('word ∷ ks) (value ts ∷ ws) n h s = listed_plain labels end ks ws n h (one-stands labels end 'word ks (value ts) ws s).1
listed_plain labels end ('bit ∷ ks) (value ts ∷ ws) n h s = or_right (is_digit_operand (listed_all labels ks ws)) (ltb (sum_worth labels ts).value 8) (one-stands labels end 'bit ks (value ts) ws s).0
listed_plain labels end ('width ∷ ks) (value ts ∷ ws) n h s = absurd (false≢true n)
listed_plain labels end ('short ∷ ks) (value ts ∷ ws) n h s = listed_plain labels end ks ws n h (one-stands labels end 'short ks (value ts) ws s).1
listed_plain labels end ('long ∷ ks) (value ts ∷ ws) n h s = listed_plain labels end ks ws n h (one-stands labels end 'long ks (value ts) ws s).1

width-digit : (labels : List Label) (k : OperandKind) (w : Written) (os : List Operand) → is_width k ≡ true → takes k w ≡ true → is_digit_operand (listed_as labels k w ∷ os) ≡ true
unfolding takes listed_as is_digit_operand is_width
width-digit labels 'width (value ts) os h t = refl
width-digit labels 'width (register r) os h t = absurd (false≢true t)
width-digit labels 'width (memory mm aa ts) os h t = absurd (false≢true t)
width-digit labels 'width nothing os h t = absurd (false≢true t)
width-digit labels 'R w os h t = absurd (false≢true h)
width-digit labels 'G w os h t = absurd (false≢true h)
width-digit labels 'P w os h t = absurd (false≢true h)
width-digit labels 'M w os h t = absurd (false≢true h)
width-digit labels 'byte w os h t = absurd (false≢true h)
width-digit labels 'word w os h t = absurd (false≢true h)
width-digit labels 'bit w os h t = absurd (false≢true h)
width-digit labels 'short w os h t = absurd (false≢true h)
width-digit labels 'long w os h t = absurd (false≢true h)

digit-small : (os : List Operand) (o : Operand) → is_digit_operand (o ∷ []) ≡ true → is_digit_operand os ≡ true → small_operands (o ∷ os) ≡ true
unfolding is_digit_operand small_operands
digit-small os Operand.none h k = absurd (false≢true h)
digit-small os (Operand.register r) h k = absurd (false≢true h)
digit-small os (Operand.memory m a o) h k = absurd (false≢true h)
digit-small os (Operand.number b) h k = absurd (false≢true h)
digit-small os (Operand.digit n) h k = rw k

listed-widths : (labels : List Label) (ks : List OperandKind) (ws : List Written) → two_widths ks ≡ true → takes_all ks ws ≡ true → small_operands (listed_all labels ks ws) ≡ true
unfolding two_widths takes_all listed_all
listed-widths labels [] ws n t = absurd (false≢true n)
listed-widths labels (k ∷ []) ws n t = absurd (false≢true n)
listed-widths labels (k ∷ l ∷ m ∷ ks) ws n t = absurd (false≢true n)
listed-widths labels (k ∷ l ∷ []) [] n t = absurd (false≢true t)
listed-widths labels (k ∷ l ∷ []) (v ∷ []) n t = absurd (false≢true (sym (both-none (takes k v)) ∙ t))
listed-widths labels (k ∷ l ∷ []) (v ∷ w ∷ ws) n t =
    let later = both_right (takes k v) (takes l w && takes_all [] ws) t in
    digit-small (listed_as labels l w ∷ []) (listed_as labels k v) (width-digit labels k v [] (both_left (is_width k) (is_width l) n) (both_left (takes k v) _ t)) (width-digit labels l w [] (both_right (is_width k) (is_width l) n) (both_left (takes l w) (takes_all [] ws) later))

-- the fields that entries fix
fit_entry : Entry → Bool
fit_entry e = (ltb e.rrr 8 && (ltb e.dd 4 && (ltb e.w 2 && ltb e.opcode 64))) && (no_width e.kinds || two_widths e.kinds)

entries_fit : pass_each fit_entry entries ≡ true
unfolding pass_each fit_entry entries no_width two_widths is_width
entries_fit = refl

pair-bytes : (p : Pair) → p.rrr < 8 → p.dd < 4 → p.aa < 4 → p.w < 2 → p.opcode < 64 → p.mm < 4 → are_bytes (pair_bytes p) ≡ true
unfolding pair_bytes are_bytes
pair-bytes p r d a w o m = rw (lt-ltb (p.rrr * 32 + p.dd * 8 + p.aa * 2 + p.w) 256 (omega arith), lt-ltb (p.opcode * 4 + p.mm) 256 (omega arith))

second-bytes : (w : ℕ) (to : Written) → w < 2 → small_written to ≡ true → are_bytes (second_bytes w to) ≡ true
unfolding small_written are_bytes
second-bytes w (register r) l h = refl
second-bytes w (memory mm aa ts) l h =
    let a = ltb-true mm 4 (both_left (ltb mm 4) (ltb aa 4) h) in
    let b = ltb-true aa 4 (both_right (ltb mm 4) (ltb aa 4) h) in
    rw (lt-ltb (aa * 2 + w) 256 (omega arith), lt-ltb (0xCC + mm) 256 (omega arith))
second-bytes w (value ts) l h = refl
second-bytes w nothing l h = refl

module _ (labels : List Label) (end : ℕ) (e : Entry) (ws : List Written) (fit : fit_entry e ≡ true) (small : all_small ws ≡ true) (fits : takes_all e.kinds ws ≡ true) (stand : all_stand labels end e.kinds ws ≡ true) where
  fixed : ltb e.rrr 8 && (ltb e.dd 4 && (ltb e.w 2 && ltb e.opcode 64)) ≡ true
  unfolding fit_entry
  fixed = both_left _ (no_width e.kinds || two_widths e.kinds) fit

  after-rrr : ltb e.dd 4 && (ltb e.w 2 && ltb e.opcode 64) ≡ true
  after-rrr = both_right (ltb e.rrr 8) _ fixed

  after-dd : ltb e.w 2 && ltb e.opcode 64 ≡ true
  after-dd = both_right (ltb e.dd 4) _ after-rrr

  w-small : e.w < 2
  w-small = ltb-true e.w 2 (both_left (ltb e.w 2) (ltb e.opcode 64) after-dd)

  operands : small_operands (listed_all labels e.kinds ws) ≡ true
  unfolding fit_entry
  operands = go (no_width e.kinds) refl (both_right (ltb e.rrr 8 && (ltb e.dd 4 && (ltb e.w 2 && ltb e.opcode 64))) _ fit)
    where
      go : (b : Bool) → no_width e.kinds ≡ b → b || two_widths e.kinds ≡ true → small_operands (listed_all labels e.kinds ws) ≡ true
      go true n k = listed_plain labels end e.kinds ws n small stand
      go false n k = listed-widths labels e.kinds ws k fits

  first-bytes : are_bytes (pair_bytes (pair_from e (listed_all labels e.kinds ws))) ≡ true
  unfolding pair_from
  first-bytes =
      let f = fields-small 0 0 (listed_all labels e.kinds ws) (omega arith) (omega arith) (listed-memories labels e.kinds ws small) in
      pair-bytes (pair_from e (listed_all labels e.kinds ws)) (rrr-small e.rrr (listed_all labels e.kinds ws) (ltb-true e.rrr 8 (both_left (ltb e.rrr 8) _ fixed)) operands) (ltb-true e.dd 4 (both_left (ltb e.dd 4) _ after-rrr)) f.1 w-small (ltb-true e.opcode 64 (both_right (ltb e.w 2) (ltb e.opcode 64) after-dd)) f.0

  move-bytes : are_bytes (move_bytes labels e ws) ≡ true
  unfolding move_bytes all_small
  move-bytes = go ws small first-bytes
    where
      go : (vs : List Written) → all_small vs ≡ true → are_bytes (pair_bytes (pair_from e (listed_all labels e.kinds vs))) ≡ true → are_bytes (move_bytes labels e vs) ≡ true
      go [] h b = no_bytes
      go (to ∷ vs) h b = bytes-append _ _ b (bytes-append (all_offsets labels vs) _ (offsets-bytes labels vs) (bytes-append (second_bytes e.w to) _ (second-bytes e.w to w-small (both_left (small_written to) (all_small vs) h)) (offset-bytes labels to)))

  instruction-bytes : are_bytes (instruction_bytes labels end e ws) ≡ true
  unfolding instruction_bytes
  instruction-bytes = either-bytes (ltb 1 (memories_in e.kinds)) _ _ move-bytes (bytes-append _ _ first-bytes (bytes-append (all_offsets labels ws) _ (offsets-bytes labels ws) (numbers-bytes labels end e.kinds ws)))

-- lines that store bytes where no number refuses them
pub record StoresBytes (s : Statement) : Type 0 where
  pub stores : (labels : List Label) (address : ℕ) → statement_number labels address s ≡ 0 → are_bytes (statement_bytes labels address s) ≡ true

number-stands : (known stands : Bool) → ◌≡◌ {A = ℕ} (pick known (pick stands 0 34) 33) 0 → stands ≡ true
number-stands true true h = refl
number-stands true false h = absurd (omega arith)
number-stands false b h = absurd (omega arith)

instruction-stores : (e : Entry) (ws : List Written) → fit_entry e ≡ true → all_small ws ≡ true → takes_all e.kinds ws ≡ true → StoresBytes (instruction e ws)
unfolding statement_number statement_bytes
instruction-stores e ws f s t = record { stores = λ labels address h. instruction-bytes labels (address + statement_size (instruction e ws)) e ws f s t (number-stands (names_known labels ws) (all_stand labels (address + statement_size (instruction e ws)) e.kinds ws) h) }

refused-stores : (n : ℕ) → StoresBytes (refused n)
unfolding statement_bytes
refused-stores n = record { stores = λ labels address h. no_bytes }

either-stores : (b : Bool) (s t : Statement) → StoresBytes s → StoresBytes t → StoresBytes (pick b s t)
either-stores true s t h k = h
either-stores false s t h k = k

items-stores : (two : Bool) (parts : List (List Token)) → StoresBytes (items_from two parts)
unfolding items_from statement_bytes
items-stores two [] = refused-stores 31
items-stores two (part ∷ parts) = either-stores (all_sums (part ∷ parts)) _ _ (either-stores (all_low (part ∷ parts)) _ _ (record { stores = λ labels address h. items-bytes labels two (part ∷ parts) }) (refused-stores 32)) (refused-stores 31)

word-stores : (word : List ℕ) (parts : List (List Token)) → StoresBytes (word_statement word (operands_from parts))
unfolding word_statement
word-stores word parts = either-stores (has_word entries word) _ _ (formed (entry_in entries word (operands_from parts)) refl) (refused-stores 30)
  where
    formed : (c : Chosen) → entry_in entries word (operands_from parts) ≡ c → StoresBytes (formed_by c (operands_from parts))
    formed (taken e) h = let p = entry-tested fit_entry entries word (operands_from parts) e entries_fit h in either-stores (all_shallow (operands_from parts)) _ _ (instruction-stores e (operands_from parts) p.0 (operands-small parts) p.1) (refused-stores 32)
    formed untaken h = refused-stores 31

-- what a line stores are bytes, whatever it says, where no number refuses it
pub statement-stores : (ts : List Token) → StoresBytes (statement_of ts)
unfolding statement_of statement_bytes
statement-stores [] = record { stores = λ labels address h. no_bytes }
statement-stores (mark c ∷ ts) = refused-stores 30
statement-stores (run r ∷ ts) = either-stores (same_text r (ascii "DB")) _ _ (items-stores false (operand_parts ts)) (either-stores (same_text r (ascii "DW")) _ _ (items-stores true (operand_parts ts)) (word-stores r (operand_parts ts)))

-- parts of what are bytes
pub bytes-parts : (xs ys : List ℕ) → are_bytes (xs ++ ys) ≡ true → (are_bytes xs ≡ true) × (are_bytes ys ≡ true)
unfolding are_bytes
bytes-parts [] ys h = (refl, h)
bytes-parts (x ∷ xs) ys h =
    let later = bytes-parts xs ys (both_right (ltb x 256) (are_bytes (xs ++ ys)) h) in
    (both_true (ltb x 256) (are_bytes xs) (both_left (ltb x 256) (are_bytes (xs ++ ys)) h) later.0, later.1)

-- a line without a number says what has none
line_clear : (labels kept : List Label) (address before room : ℕ) (s : Said) → line_number labels kept address before room s ≡ 0 → statement_number labels address s.statement ≡ 0
unfolding line_number
line_clear labels kept address before room s h = go (statement_number labels address s.statement) (leb 30 (statement_number labels address s.statement)) refl _ (label_stands kept address s.name) (eqb (statement_number labels address s.statement) 0) refl _ h
  where
    go : (n : ℕ) (a : Bool) → leb 30 n ≡ a → (c b d : Bool) → eqb n 0 ≡ d → (other : ℕ) → pick (a && c) n (pick b (pick d other n) 33) ≡ 0 → n ≡ 0
    go n true q true b d e other k = k
    go n true q false true true e other k = eqb-true n 0 e
    go n true q false true false e other k = k
    go n true q false false d e other k = absurd (omega arith)
    go n false q c true true e other k = eqb-true n 0 e
    go n false q c true false e other k = k
    go n false q c false d e other k = absurd (omega arith)

-- all that a text stores are bytes, where no number refuses it
pub said-stores : (lines : List (List ℕ)) (labels kept : List Label) (first room line before : ℕ) → (failed_from labels kept first room line before (said_in lines)).number ≡ 0 → are_bytes (bytes_from labels first before (said_in lines)) ≡ true
unfolding said_in said_by failed_from bytes_from
said-stores [] labels kept first room line before h = no_bytes
said-stores (l ∷ lines) labels kept first room line before h =
    go (eqb n 0) refl h (said-stores lines labels (kept_with kept address s.name) first room (suc line) (before + statement_size s.statement))
  where
    s : Said
    s = record { name = (headed_by (tokens_of l)).name; statement = statement_of (headed_by (tokens_of l)).body }

    address : ℕ
    address = (first + before) % 65536

    n : ℕ
    n = line_number labels kept address before room s

    go : (b : Bool) → eqb n 0 ≡ b → (pick b (failed_from labels (kept_with kept address s.name) first room (suc line) (before + statement_size s.statement) (said_in lines)) (failed n line)).number ≡ 0
        → ((failed_from labels (kept_with kept address s.name) first room (suc line) (before + statement_size s.statement) (said_in lines)).number ≡ 0 → are_bytes (bytes_from labels first (before + statement_size s.statement) (said_in lines)) ≡ true)
        → are_bytes (statement_bytes labels address s.statement ++ bytes_from labels first (before + statement_size s.statement) (said_in lines)) ≡ true
    go true e k later = bytes-append (statement_bytes labels address s.statement) _ ((statement-stores (headed_by (tokens_of l)).body).stores labels address (line_clear labels kept address before room s (eqb-true n 0 e))) (later k)
    go false e k later = absurd (eqb-false n 0 e k)
