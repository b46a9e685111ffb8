-- A line has as many bytes as its size says, whatever its names are worth.
-- Assumes nothing.
use mathlib.Core.Path.{◌≡◌, refl, sym, ap, ◌∙◌}
use mathlib.Core.Bool.{Bool, true, false, not, ◌&&◌, ◌||◌, false≢true}
use mathlib.Core.List.{List, [], ◌∷◌, ◌++◌}
use Prim.Native.Nat.{ℕ, ◌+◌, ◌*◌, ◌%◌}
use native.Mathlib.Omega.{arith}
use lib.Dec.{eqb, ltb}
use borrow.Author.Tests.{eqb-false}
use lib.ListN.{length, length-append}
use Rattle.ground_rules.specs.Choice.{pick}
use Rattle.listing_rules.specs.Characters.{ascii, same_text}
use Rattle.listing_rules.specs.Entries.{OperandKind, Entry, entries}
use Rattle.listing_rules.specs.Entries.OperandKind.{'R, 'G, 'P, 'M, 'byte, 'word, 'bit, 'width, 'short, 'long}
use Rattle.listing_rules.specs.Back.{pair_from}
use Rattle.assembly_rules.specs.Text.{Token}
use Rattle.assembly_rules.specs.Sums.{Label, sum_worth}
use Rattle.assembly_rules.specs.Text.Token.{run, mark}
use Rattle.assembly_rules.specs.Operands.{Written, takes, takes_all, is_memory_kind, takes_register, Chosen, entry_in, has_word, all_shallow, operands_from}
use Rattle.assembly_rules.specs.Operands.Written.{register, memory, value, nothing}
use Rattle.assembly_rules.specs.Operands.Chosen.{taken, untaken}
use Rattle.assembly_rules.specs.Statements.{Statement, all_sums, all_low, items_from, operand_parts, formed_by, word_statement, statement_of, kind_size, kinds_size, offsets_size, memories_in, statement_size, operand_worth, pair_bytes, listed_all, written_offset, all_offsets, number_bytes, all_numbers, second_bytes, move_bytes, instruction_bytes, items_bytes, statement_bytes}
use Rattle.assembly_rules.specs.Statements.Statement.{blank, items, instruction, refused}
use Rattle.assembly_rules.proofs.WritingLaws.{both_left, both_right}

items-size : (labels : List Label) (two : Bool) (parts : List (List Token)) → length (items_bytes labels two parts) ≡ pick two 2 1 * length parts
unfolding items_bytes
items-size labels two [] = go two
  where
    go : (two : Bool) → 0 ≡ pick two 2 1 * 0
    go true = refl
    go false = refl
items-size labels true (part ∷ parts) = let l = items-size labels true parts in omega arith
items-size labels false (part ∷ parts) = let l = items-size labels false parts in omega arith

offsets-size : (labels : List Label) (ws : List Written) → length (all_offsets labels ws) ≡ offsets_size ws
unfolding all_offsets offsets_size
offsets-size labels [] = refl
offsets-size labels (register r ∷ ws) = offsets-size labels ws
offsets-size labels (value ts ∷ ws) = offsets-size labels ws
offsets-size labels (nothing ∷ ws) = offsets-size labels ws
offsets-size labels (memory mm aa ts ∷ ws) = go (eqb aa 1) (offsets-size labels ws)
  where
    go : (b : Bool) → length (all_offsets labels ws) ≡ offsets_size ws → length (pick b ((sum_worth labels ts).value % 256 ∷ []) [] ++ all_offsets labels ws) ≡ pick b 1 0 + offsets_size ws
    go true l = omega arith
    go false l = omega arith

pub number_size : (k : OperandKind) (end n : ℕ) → length (number_bytes k end n) ≡ kind_size k
number_size 'R end n = refl
number_size 'G end n = refl
number_size 'P end n = refl
number_size 'M end n = refl
number_size 'byte end n = refl
number_size 'word end n = refl
number_size 'bit end n = refl
number_size 'width end n = refl
number_size 'short end n = refl
number_size 'long end n = refl

numbers-size : (labels : List Label) (end : ℕ) (ks : List OperandKind) (ws : List Written) → takes_all ks ws ≡ true → length (all_numbers labels end ks ws) ≡ kinds_size ks
unfolding all_numbers kinds_size takes_all
numbers-size labels end [] ws h = refl
numbers-size labels end (k ∷ ks) [] h = absurd (false≢true h)
numbers-size labels end (k ∷ ks) (w ∷ ws) h =
    let later = numbers-size labels end ks ws (both_right (takes k w) (takes_all ks ws) h) in
    length-append (number_bytes k end (operand_worth labels w).value) (all_numbers labels end ks ws) ∙ rw (number_size k end (operand_worth labels w).value, later)

-- only MOV M,M has two memory operands, and nothing else
is_move : List OperandKind → Bool
is_move [] = false
is_move (k ∷ []) = false
is_move (k ∷ l ∷ []) = is_memory_kind k && is_memory_kind l
is_move (k ∷ l ∷ m ∷ ks) = false

pub plain_entry : Entry → Bool
plain_entry e = not (ltb 1 (memories_in e.kinds)) || is_move e.kinds

-- entries that all pass a test: so does the one of a word with its operands
unfoldable pub pass_each : (Entry → Bool) → List Entry → Bool
pass_each test [] = true
pass_each test (e ∷ es) = test e && pass_each test es

pub entry-tested : (test : Entry → Bool) (es : List Entry) (word : List ℕ) (ws : List Written) (e : Entry) → pass_each test es ≡ true → entry_in es word ws ≡ taken e → (test e ≡ true) × (takes_all e.kinds ws ≡ true)
unfolding pass_each entry_in
entry-tested test [] word ws e h k = no-entry k
  where
    no-entry : {A : Type 0} → untaken ≡ taken e → A
    no-entry z = let q : ◌≡◌ {A = ℕ} 0 1 = cc in absurd (eqb-false 0 1 refl q)
entry-tested test (f ∷ es) word ws e h k = go (same_text f.word word) (takes_all f.kinds ws) refl k (entry-tested test es word ws e (both_right (test f) (pass_each test es) h))
  where
    go : (a b : Bool) → takes_all f.kinds ws ≡ b → pick (a && b) (taken f) (entry_in es word ws) ≡ taken e → (entry_in es word ws ≡ taken e → (test e ≡ true) × (takes_all e.kinds ws ≡ true)) → (test e ≡ true) × (takes_all e.kinds ws ≡ true)
    go true true p q later = let z : f ≡ e = cc in (ap test (sym z) ∙ both_left (test f) (pass_each test es) h, ap (λ (x : Entry). takes_all x.kinds ws) (sym z) ∙ p)
    go true false p q later = later q
    go false b p q later = later q

pub entries-plain : pass_each plain_entry entries ≡ true
unfolding pass_each plain_entry is_move entries memories_in
entries-plain = refl

pub entry-plain : (es : List Entry) (word : List ℕ) (ws : List Written) (e : Entry) → pass_each plain_entry es ≡ true → entry_in es word ws ≡ taken e → (plain_entry e ≡ true) × (takes_all e.kinds ws ≡ true)
entry-plain = entry-tested plain_entry

pair_size : (labels : List Label) (w : ℕ) (k : OperandKind) (to : Written) → is_memory_kind k ≡ true → takes k to ≡ true → length (second_bytes w to) ≡ 2
unfolding takes
pair_size labels w k (memory mm aa ts) h t = refl
pair_size labels w k nothing h t = absurd (false≢true t)
pair_size labels w k (register r) h t = no_register k h t
  where
    no_register : {A : Type 0} (k : OperandKind) → is_memory_kind k ≡ true → takes_register k r ≡ true → A
    no_register 'M h t = absurd (false≢true t)
    no_register 'R h t = absurd (false≢true h)
    no_register 'G h t = absurd (false≢true h)
    no_register 'P h t = absurd (false≢true h)
    no_register 'byte h t = absurd (false≢true h)
    no_register 'word h t = absurd (false≢true h)
    no_register 'bit h t = absurd (false≢true h)
    no_register 'width h t = absurd (false≢true h)
    no_register 'short h t = absurd (false≢true h)
    no_register 'long h t = absurd (false≢true h)
pair_size labels w k (value ts) h t = no_value (is_memory_kind k) (takes_register k 0) h t
  where
    no_value : {A : Type 0} (a b : Bool) → a ≡ true → not (a || b) ≡ true → A
    no_value true b h t = absurd (false≢true t)
    no_value false b h t = absurd (false≢true h)

memory-size : (k : OperandKind) → is_memory_kind k ≡ true → kind_size k ≡ 0
memory-size 'M h = refl
memory-size 'R h = refl
memory-size 'G h = refl
memory-size 'P h = refl
memory-size 'byte h = absurd (false≢true h)
memory-size 'word h = absurd (false≢true h)
memory-size 'bit h = refl
memory-size 'width h = refl
memory-size 'short h = absurd (false≢true h)
memory-size 'long h = absurd (false≢true h)

offsets-one : (labels : List Label) (to : Written) (ws : List Written) → length (all_offsets labels (to ∷ ws)) ≡ length (written_offset labels to ++ all_offsets labels ws)
unfolding all_offsets
offsets-one labels to ws = refl

both-sizes : (labels : List Label) (to : Written) (ws : List Written) → offsets_size (to ∷ ws) ≡ length (written_offset labels to) + length (all_offsets labels ws)
both-sizes labels to ws = sym (offsets-size labels (to ∷ ws)) ∙ first-offset labels to ws
  where
    first-offset : (labels : List Label) (to : Written) (ws : List Written) → length (all_offsets labels (to ∷ ws)) ≡ length (written_offset labels to) + length (all_offsets labels ws)
    first-offset labels to ws = offsets-one labels to ws ∙ length-append (written_offset labels to) (all_offsets labels ws)

move-size : (labels : List Label) (e : Entry) (ks : List OperandKind) (ws : List Written) → is_move ks ≡ true → takes_all ks ws ≡ true → length (move_bytes labels e ws) ≡ 4 + (offsets_size ws + kinds_size ks)
unfolding is_move takes_all move_bytes pair_bytes kinds_size
move-size labels e [] ws h t = absurd (false≢true h)
move-size labels e (k ∷ []) ws h t = absurd (false≢true h)
move-size labels e (k ∷ l ∷ m ∷ ks) ws h t = absurd (false≢true h)
move-size labels e (k ∷ l ∷ []) [] h t = absurd (false≢true t)
move-size labels e (k ∷ l ∷ []) (to ∷ ws) h t =
    let hk = both_left (is_memory_kind k) (is_memory_kind l) h in
    let hl = both_right (is_memory_kind k) (is_memory_kind l) h in
    let p = pair_size labels e.w k to hk (both_left (takes k to) _ t) in
    let o = both-sizes labels to ws in
    let a = length-append (all_offsets labels ws) (second_bytes e.w to ++ written_offset labels to) in
    let b = length-append (second_bytes e.w to) (written_offset labels to) in
    let c = memory-size k hk in
    let d = memory-size l hl in
    omega (arith, p, o, a, b, c, d)

-- the bytes of a statement: of one that statement_of gives, as many as its size
pub record Sized (s : Statement) : Type 0 where
  pub sized : (labels : List Label) (address : ℕ) → length (statement_bytes labels address s) ≡ statement_size s

-- the bytes of an instruction are as many wherever it ends
pub instruction-size : (labels : List Label) (end : ℕ) (e : Entry) (ws : List Written) → plain_entry e ≡ true → takes_all e.kinds ws ≡ true → length (instruction_bytes labels end e ws) ≡ statement_size (instruction e ws)
unfolding instruction_bytes statement_size plain_entry pair_bytes
instruction-size labels end e ws h t = go (ltb 1 (memories_in e.kinds)) h
  where
    go : (b : Bool) → not b || is_move e.kinds ≡ true
        → length (pick b (move_bytes labels e ws) (pair_bytes (pair_from e (listed_all labels e.kinds ws)) ++ (all_offsets labels ws ++ all_numbers labels end e.kinds ws))) ≡ pick b 4 2 + (offsets_size ws + kinds_size e.kinds)
    go true k = move-size labels e e.kinds ws k t
    go false k = omega (arith, length-append (all_offsets labels ws) (all_numbers labels end e.kinds ws), offsets-size labels ws, numbers-size labels end e.kinds ws t)

instruction-sized : (e : Entry) (ws : List Written) → plain_entry e ≡ true → takes_all e.kinds ws ≡ true → Sized (instruction e ws)
unfolding statement_bytes
instruction-sized e ws h t = record { sized = λ labels address. instruction-size labels (address + statement_size (instruction e ws)) e ws h t }

refused-sized : (n : ℕ) → Sized (refused n)
unfolding statement_bytes statement_size
refused-sized n = record { sized = λ labels address. refl }

either-sized : (b : Bool) (s t : Statement) → Sized s → Sized t → Sized (pick b s t)
either-sized true s t h k = h
either-sized false s t h k = k

blank-sized : Sized blank
unfolding statement_bytes statement_size
blank-sized = record { sized = λ labels address. refl }

items-bytes : (labels : List Label) (address : ℕ) (two : Bool) (parts : List (List Token)) → length (statement_bytes labels address (items two parts)) ≡ length (items_bytes labels two parts)
unfolding statement_bytes
items-bytes labels address two parts = refl

items-sizes : (two : Bool) (parts : List (List Token)) → pick two 2 1 * length parts ≡ statement_size (items two parts)
unfolding statement_size
items-sizes two parts = refl

items-sized : (two : Bool) (parts : List (List Token)) → Sized (items_from two parts)
unfolding items_from
items-sized two [] = refused-sized 31
items-sized two (part ∷ parts) =
    either-sized (all_sums (part ∷ parts)) _ _ (either-sized (all_low (part ∷ parts)) _ _ (these two (part ∷ parts)) (refused-sized 32)) (refused-sized 31)
  where
    these : (two : Bool) (parts : List (List Token)) → Sized (items two parts)
    these two parts = record { sized = λ labels address. items-bytes labels address two parts ∙ items-size labels two parts ∙ items-sizes two parts }

word-sized : (word : List ℕ) (ws : List Written) → Sized (word_statement word ws)
unfolding word_statement
word-sized word ws = either-sized (has_word entries word) _ _ (formed (entry_in entries word ws) refl) (refused-sized 30)
  where
    formed : (c : Chosen) → entry_in entries word ws ≡ c → Sized (formed_by c ws)
    formed (taken e) h = let p = entry-plain entries word ws e entries-plain h in either-sized (all_shallow ws) _ _ (instruction-sized e ws p.0 p.1) (refused-sized 32)
    formed untaken h = refused-sized 31

-- a line has as many bytes as its size, whatever its labels and its address are
pub statement-sized : (ts : List Token) → Sized (statement_of ts)
unfolding statement_of
statement-sized [] = blank-sized
statement-sized (mark c ∷ ts) = refused-sized 30
statement-sized (run r ∷ ts) =
    either-sized (same_text r (ascii "DB")) _ _ (items-sized false (operand_parts ts))
    (either-sized (same_text r (ascii "DW")) _ _ (items-sized true (operand_parts ts)) (word-sized r (operands_from (operand_parts ts))))
