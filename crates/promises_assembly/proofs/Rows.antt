-- Every instruction that has a line has an entry that the assembler takes for its word and places, with the fields of its pair.
-- Assumes nothing.
use Rattle.std.proofs.Common.{Ok, Err}
use mathlib.Core.{Path.◌≡◌, Path.refl, Path.sym, Path.ap, Path.subst, Path.◌∙◌, Bool.Bool, Bool.true, Bool.false, Bool.not, Bool.◌&&◌, Bool.◌||◌, Bool.false≢true, List.List, List.[], List.◌∷◌}
use Prim.Native.Nat.{ℕ, zero, suc, ◌<◌}
use native.Mathlib.Omega.{arith}
use lib.{Dec.eqb, Dec.ltb, ListN.get_or}
use borrow.Author.Tests.{not-true, eqb-true, eqb-false}
use Rattle.ground_rules.specs.{Bits.bit_of, Bits.field_of, Choice.pick}
use Rattle.instruction_rules.specs.{declared.Memory.Memory, declared.Pair.Pair, declared.Shape.Shape, declared.Unread.TheVariants.ControlUsed, Pairs.meets, Pairs.pair_of, Rows.is_control, Table.SummaryRow, Table.table, Reading.fits, Reading.lookup, Reading.decode_of}
use Rattle.listing_rules.specs.{declared.Slot.Slot, declared.Slot.TheVariants.Empty, declared.Slot.TheVariants.Name, declared.Slot.TheVariants.Place, declared.Slot.TheVariants.Number, declared.Slot.TheVariants.Target, declared.Slot.TheVariants.Digit, Characters.ascii, Characters.same_text, Mnemonics.is_jump, Mnemonics.is_listed, Mnemonics.mnemonic_of, Forms.Operand, Forms.after_offset, Forms.filled, Forms.slots_of, Back.digits_in, Back.rrr_in, Entries.OperandKind}
use Rattle.listing_rules.specs.{Entries.Entry, Entries.entries, Entries.OperandKind.'R, Entries.OperandKind.'G, Entries.OperandKind.'P, Entries.OperandKind.'M, Entries.OperandKind.'byte, Entries.OperandKind.'word, Entries.OperandKind.'bit, Entries.OperandKind.'width, Entries.OperandKind.'short, Entries.OperandKind.'long, Back.mm_in, Back.aa_in, Forms.Operand.none, Forms.Operand.register, Forms.Operand.memory, Forms.Operand.number, Forms.Operand.digit}
use Rattle.listing_rules.proofs.{SpellingLaws.present, BackLaws.fill, BackLaws.listed, BackLaws.is_move, EntryLaws.fitting}
use Rattle.assembly_rules.specs.{Text.capital_of, Text.capitals, Text.is_digit, Text.is_capital, Text.is_run, Text.ends_line, Operands.is_memory_kind, Operands.takes_register, Operands.takes, Operands.takes_all, Operands.Chosen, Operands.Chosen.taken, Operands.Chosen.untaken, Operands.entry_in, Operands.has_word, Statements.kind_size, Statements.memories_in, Operands.Written}
use Rattle.assembly_rules.proofs.{ScanLaws.all_fail, WritingLaws.all_run, WritingLaws.both_left, WritingLaws.both_right}
use Rattle.promises_codes.proofs.CodeNumbers.{all_below, of-all}
use Rattle.promises_assembly.proofs.Texts.{is_name}

-- an operand as one that is written, without its numbers
unfoldable pub draw : Operand → Written
draw none = Written.nothing
draw (register r) = Written.register r
draw (memory m a o) = Written.memory m a []
draw (number b) = Written.value []
draw (digit n) = Written.value []

unfoldable pub draws : List Operand → List Written
draws [] = []
draws (o ∷ os) = draw o ∷ draws os

-- operands that differ in their numbers alone
pub data Alike : List Operand → List Operand → Type 0 where
  nothing : Alike [] []
  registers : {os ps : List Operand} (r : ℕ) → Alike os ps → Alike (register r ∷ os) (register r ∷ ps)
  memories : {os ps : List Operand} (m a : ℕ) (o q : List ℕ) → Alike os ps → Alike (memory m a o ∷ os) (memory m a q ∷ ps)
  numbers : {os ps : List Operand} (b c : List ℕ) → Alike os ps → Alike (number b ∷ os) (number c ∷ ps)
  digits : {os ps : List Operand} (n : ℕ) → Alike os ps → Alike (digit n ∷ os) (digit n ∷ ps)

-- they make one pair, and are drawn alike
pub alike-fields : (d m a : ℕ) {os ps : List Operand} → Alike os ps → (rrr_in d os ≡ rrr_in d ps) × (mm_in m os ≡ mm_in m ps) × (aa_in a os ≡ aa_in a ps) × (draws os ≡ draws ps) × (digits_in d os ≡ digits_in d ps)
unfolding rrr_in mm_in aa_in draws draw digits_in
alike-fields d m a nothing = (refl, refl, refl, refl, refl)
alike-fields d m a (registers r later) = let i = alike-fields d m a later in (refl, i.1, i.2, ap (λ (l : List Written). Written.register r ∷ l) i.3, refl)
alike-fields d m a (memories n b o q later) = let i = alike-fields d n b later in (i.0, i.1, i.2, ap (λ (l : List Written). Written.memory n b [] ∷ l) i.3, refl)
alike-fields d m a (numbers b c later) = let i = alike-fields d m a later in (i.0, i.1, i.2, ap (λ (l : List Written). Written.value [] ∷ l) i.3, refl)
alike-fields d m a (digits n later) = let i = alike-fields n m a later in (i.4, i.1, i.2, ap (λ (l : List Written). Written.value [] ∷ l) i.3, refl)

-- the operands of some places, with numbers that do not count
unfoldable pub sketch : List Slot → List Operand
sketch places = present (fill [] 0 places)

pub sketched : (bytes : List ℕ) (end : ℕ) (places : List Slot) → Alike (present (fill bytes end places)) (sketch places)
unfolding sketch present fill filled
sketched bytes end [] = nothing
sketched bytes end (Empty ∷ places) = sketched bytes end places
sketched bytes end (Name r ∷ places) = registers r (sketched bytes end places)
sketched bytes end (Place m at ∷ places) = memories m.mm m.aa _ _ (sketched bytes end places)
sketched bytes end (Number at two ∷ places) = numbers _ _ (sketched bytes end places)
sketched bytes end (Target at two ∷ places) = numbers _ _ (sketched bytes end places)
sketched bytes end (Digit n ∷ places) = digits n (sketched bytes end places)

-- the entry that is taken
pub entry-taken : (es : List Entry) (word : List ℕ) (ws vs : List Written) → ((ks : List OperandKind) → takes_all ks ws ≡ takes_all ks vs) → entry_in es word ws ≡ entry_in es word vs
unfolding entry_in
entry-taken [] word ws vs h = refl
entry-taken (e ∷ es) word ws vs h = rw (h e.kinds, entry-taken es word ws vs h)

-- the kinds by number
unfoldable pub kind_number : OperandKind → ℕ
kind_number 'R = 0
kind_number 'G = 1
kind_number 'P = 2
kind_number 'M = 3
kind_number 'byte = 4
kind_number 'word = 5
kind_number 'bit = 6
kind_number 'width = 7
kind_number 'short = 8
kind_number 'long = 9

kind_at : ℕ → OperandKind
kind_at n = get_or ('R ∷ 'G ∷ 'P ∷ 'M ∷ 'byte ∷ 'word ∷ 'bit ∷ 'width ∷ 'short ∷ 'long ∷ []) n 'R

kind-back : (k : OperandKind) → kind_at (kind_number k) ≡ k
unfolding kind_at kind_number
kind-back 'R = refl
kind-back 'G = refl
kind-back 'P = refl
kind-back 'M = refl
kind-back 'byte = refl
kind-back 'word = refl
kind-back 'bit = refl
kind-back 'width = refl
kind-back 'short = refl
kind-back 'long = refl

unfoldable pub same_kind : OperandKind → OperandKind → Bool
same_kind k l = eqb (kind_number k) (kind_number l)

pub same-kind : (k l : OperandKind) → same_kind k l ≡ true → k ≡ l
unfolding same_kind
same-kind k l h = sym (kind-back k) ∙ ap kind_at (eqb-true (kind_number k) (kind_number l) h) ∙ kind-back l

-- whether a place is of a kind: a register that it takes, memory, a number of its width, a bit or a width
unfoldable pub agrees : OperandKind → Slot → Bool
agrees k Empty = false
agrees k (Name r) = takes_register k r
agrees k (Place m at) = same_kind k 'M
agrees k (Number at two) = same_kind k (pick two 'word 'byte)
agrees k (Target at two) = same_kind k (pick two 'long 'short)
agrees k (Digit n) = pick (ltb n 8) (same_kind k 'bit) (same_kind k 'width && (eqb n 8 || eqb n 16))

unfoldable pub is_none : List Operand → Bool
is_none [] = true
is_none (o ∷ os) = false

-- places of these kinds, and empty ones behind them
unfoldable pub agrees_all : List OperandKind → List Slot → Bool
agrees_all [] places = is_none (sketch places)
agrees_all (k ∷ ks) [] = false
agrees_all (k ∷ ks) (a ∷ places) = agrees k a && agrees_all ks places

-- no memory behind a number
unfoldable pub orderly : List OperandKind → Bool
orderly [] = true
orderly (k ∷ ks) = (eqb (kind_size k) 0 || all_fail is_memory_kind ks) && orderly ks

all_true : List Bool → Bool
all_true [] = true
all_true (b ∷ bs) = b && all_true bs

each-true : (bs : List Bool) (i : ℕ) → all_true bs ≡ true → get_or bs i true ≡ true
unfolding all_true
each-true [] i h = refl
each-true (b ∷ bs) zero h = both_left b (all_true bs) h
each-true (b ∷ bs) (suc i) h = each-true bs i (both_right b (all_true bs) h)

-- what is asked of the entry that is taken for an instruction with some pair
asks : Pair → Shape → List Slot → Entry → List Bool
asks p s places e =
    is_name (mnemonic_of s)
    ∷ not (same_text (mnemonic_of s) (ascii "DB"))
    ∷ not (same_text (mnemonic_of s) (ascii "DW"))
    ∷ has_word entries (mnemonic_of s)
    ∷ agrees_all e.kinds places
    ∷ orderly e.kinds
    ∷ pick (is_move s) (ltb 1 (memories_in e.kinds)) (not (ltb 1 (memories_in e.kinds)))
    ∷ eqb (rrr_in e.rrr (sketch places)) p.rrr
    ∷ eqb e.dd p.dd
    ∷ eqb e.w p.w
    ∷ eqb e.opcode p.opcode
    ∷ []

regular_by : Pair → Shape → List Slot → Chosen → Bool
regular_by p s places (taken e) = all_true (asks p s places e)
regular_by p s places untaken = false

regular : Pair → Shape → Memory → Bool
regular p s to = let places = listed (slots_of s to) in regular_by p s places (entry_in entries (mnemonic_of s) (draws (sketch places)))

pair_at : ℕ → ℕ → ℕ → ℕ → ℕ → ℕ → Pair
pair_at x d a w o m = record { rrr = x; dd = d; aa = a; w = w; opcode = o; mm = m }

-- a row: for each W, dd and RRR that it may have
row_regular : ℕ → ℕ → Memory → SummaryRow → Bool
row_regular a m to r =
    all_below 2 (λ (w : ℕ). all_below 4 (λ (d : ℕ). all_below 8 (λ (x : ℕ). not (meets r.rrr w x && (meets r.w w w && (meets r.dd w d && (not (r.control && eqb x 6) && is_listed (r.shape (pair_at x d a w r.opcode m)))))) || regular (pair_at x d a w r.opcode m) (r.shape (pair_at x d a w r.opcode m)) to)))

rows_regular : ℕ → ℕ → Memory → List SummaryRow → Bool
rows_regular a m to [] = true
rows_regular a m to (r ∷ rs) = row_regular a m to r && rows_regular a m to rs

table-regular : (a m : ℕ) (to : Memory) → rows_regular a m to table ≡ true
unfolding rows_regular row_regular all_below table pair_at regular regular_by asks all_true entries entry_in has_word takes takes_all agrees agrees_all is_none orderly same_kind kind_number all_fail memories_in is_move mnemonic_of slots_of is_jump listed sketch draws draw present fill filled rrr_in digits_in same_text is_name all_run capitals is_run is_digit is_capital capital_of ends_line bit_of after_offset
table-regular a m to = refl

-- the entry of an instruction with some pair: the assembler takes it, its kinds are the places', and its fields the pair's
pub record Regular (p : Pair) (s : Shape) (to : Memory) : Type 0 where
  pub entry : Entry
  pub chosen : entry_in entries (mnemonic_of s) (draws (sketch (listed (slots_of s to)))) ≡ taken entry
  pub letters : is_name (mnemonic_of s) ≡ true
  pub no_bytes : same_text (mnemonic_of s) (ascii "DB") ≡ false
  pub no_words : same_text (mnemonic_of s) (ascii "DW") ≡ false
  pub has : has_word entries (mnemonic_of s) ≡ true
  pub kinds : agrees_all entry.kinds (listed (slots_of s to)) ≡ true
  pub order : orderly entry.kinds ≡ true
  pub move : pick (is_move s) (ltb 1 (memories_in entry.kinds)) (not (ltb 1 (memories_in entry.kinds))) ≡ true
  pub rrr : rrr_in entry.rrr (sketch (listed (slots_of s to))) ≡ p.rrr
  pub dd : entry.dd ≡ p.dd
  pub w : entry.w ≡ p.w
  pub opcode : entry.opcode ≡ p.opcode

regularly : (p : Pair) (s : Shape) (to : Memory) → regular p s to ≡ true → Regular p s to
unfolding regular regular_by asks
regularly p s to h = go (entry_in entries (mnemonic_of s) (draws (sketch (listed (slots_of s to))))) refl h
  where
    go : (c : Chosen) → entry_in entries (mnemonic_of s) (draws (sketch (listed (slots_of s to)))) ≡ c → regular_by p s (listed (slots_of s to)) c ≡ true → Regular p s to
    go untaken e t = absurd (false≢true t)
    go (taken e) c t =
        let yes : (i : ℕ) → get_or (asks p s (listed (slots_of s to)) e) i true ≡ true = λ i. each-true _ i t in
        record { entry = e; chosen = c; letters = yes 0; no_bytes = not-true _ (yes 1); no_words = not-true _ (yes 2); has = yes 3; kinds = yes 4; order = yes 5; move = yes 6; rrr = eqb-true _ _ (yes 7); dd = eqb-true _ _ (yes 8); w = eqb-true _ _ (yes 9); opcode = eqb-true _ _ (yes 10) }

row-regular : (r : SummaryRow) (p : Pair) (to : Memory) → is_listed (r.shape p) ≡ true → fits r p ≡ true → r.control && is_control p ≡ false → p.w < 2 → p.dd < 4 → p.rrr < 8 → row_regular p.aa p.mm to r ≡ true → Regular p (r.shape p) to
unfolding row_regular pair_at
row-regular r p to l f c hw hd hr h =
    let k = fitting r p f in
    let q : ℕ → Pair = λ o. pair_at p.rrr p.dd p.aa p.w o p.mm in
    let here = of-all 8 _ (of-all 4 _ (of-all 2 _ h p.w hw) p.dd hd) p.rrr hr in
    let own = subst (λ (o : ℕ). not (meets r.rrr p.w p.rrr && (meets r.w p.w p.w && (meets r.dd p.w p.dd && (not (r.control && is_control p) && is_listed (r.shape (q o)))))) || regular (q o) (r.shape (q o)) to ≡ true) (sym k.opcode) here in
    regularly p (r.shape p) to (rw (k.rrr, k.w, k.dd, c, l) at own)

rows-regular : (rs : List SummaryRow) (p : Pair) (s : Shape) (to : Memory) → is_listed s ≡ true → p.w < 2 → p.dd < 4 → p.rrr < 8 → rows_regular p.aa p.mm to rs ≡ true → lookup rs p ≡ Ok s → Regular p s to
unfolding lookup rows_regular
rows-regular [] p s to l hw hd hr h e = let z : ◌≡◌ {A = ℕ} 0 1 = cc in absurd (eqb-false 0 1 refl z)
rows-regular (r ∷ rs) p s to l hw hd hr h e = go (fits r p) refl (r.control && is_control p) refl e (rows-regular rs p s to l hw hd hr (both_right (row_regular p.aa p.mm to r) _ h))
  where
    go : (f : Bool) → fits r p ≡ f → (c : Bool) → r.control && is_control p ≡ c → pick f (pick c (Err ControlUsed) (Ok (r.shape p))) (lookup rs p) ≡ Ok s → (lookup rs p ≡ Ok s → Regular p s to) → Regular p s to
    go true f true c t later = let z : ◌≡◌ {A = ℕ} 0 1 = cc in absurd (eqb-false 0 1 refl z)
    go true f false c t later =
        let shape : r.shape p ≡ s = cc in
        subst (λ (x : Shape). Regular p x to) shape (row-regular r p to (ap is_listed shape ∙ l) f c hw hd hr (both_left (row_regular p.aa p.mm to r) _ h))
    go false f c d t later = later t

-- an instruction that has a line is regular
pub decoded-regular : (first second : ℕ) (s : Shape) (to : Memory) → decode_of first second ≡ Ok s → is_listed s ≡ true → Regular (pair_of first second) s to
unfolding decode_of pair_of field_of
decoded-regular first second s to e l = let p = pair_of first second in rows-regular table p s to l (omega arith) (omega arith) (omega arith) (table-regular p.aa p.mm to) e
