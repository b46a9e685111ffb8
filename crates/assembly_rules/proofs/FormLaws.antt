-- The forms of a line behind its label, as relations: no word, no form of the word, or a form; and what the line says in each case.
-- Assumes nothing.
use mathlib.Core.Path.{◌≡◌, refl, sym, ap, subst, ◌∙◌}
use mathlib.Core.Bool.{Bool, true, false, not, ◌&&◌, ◌||◌, false≢true}
use mathlib.Core.List.Memᴰ.{head as here}
use mathlib.Core.List.Memᴰ.{tail as later}
use mathlib.Core.List.{List, [], ◌∷◌, ◌++◌, Memᴰ as In}
use mathlib.Core.Logic.{◌⊎◌, inl, inr, ◌↔◌}
use Prim.Native.Nat.{ℕ, ◌<◌}
use native.Mathlib.Omega.{arith}
use lib.Dec.{eqb, ltb, leb}
use lib.ListN.{length}
use borrow.Author.Tests.{leb-false, lt-leb, eq-eqb, eqb-true, eqb-false, not-true, not-false}
use Rattle.ground_rules.specs.Choice.{pick}
use Rattle.listing_rules.specs.Characters.{ascii, same_text}
use Rattle.listing_rules.specs.Entries.{OperandKind, Entry, entries}
use Rattle.listing_rules.specs.Entries.OperandKind.{'R, 'G, 'P, 'M, 'byte, 'word, 'bit, 'width, 'short, 'long}
use Rattle.assembly_rules.specs.Text.{Token, is_comma, cut_at, ahead}
use Rattle.assembly_rules.specs.Text.Token.{run, mark}
use Rattle.assembly_rules.specs.Sums.{begins_digit, is_sum, scan_from, depth_of, most_open}
use Rattle.assembly_rules.specs.Trees.{Sum, sum_tokens, sum_depth}
use Rattle.assembly_rules.specs.Operands.{Written, operand_from, operands_from, is_memory_kind, takes_register, takes, takes_all, has_word, entry_in, is_shallow, all_shallow}
use Rattle.assembly_rules.specs.Operands.Written.{register, memory, value, nothing}
use Rattle.assembly_rules.specs.Operands.Chosen.{taken, untaken}
use Rattle.assembly_rules.specs.Statements.{headed, headed_by, Statement, operand_parts, all_sums, all_low, items_from, formed_by, word_statement, statement_of}
use Rattle.assembly_rules.specs.Statements.Statement.{blank, items, instruction, refused}
use Rattle.assembly_rules.proofs.TestLaws.{holds, fails, not-both, every, every-fails, every-both, as_some}
use Rattle.assembly_rules.proofs.WritingLaws.{both_left, both_right}
use Rattle.assembly_rules.proofs.ScanLaws.{sum-exactly, tree-sum, tree-depth, same-is, is_same}
use Rattle.assembly_rules.proofs.OperandLaws.{OperandOf, operand-exactly, operand-is}
use Rattle.assembly_rules.proofs.OperandLaws.OperandOf.{alone, based, offset, indexed, stepped, summed}

-- a label in front: a name that begins with no digit, and a colon
pub data HeadedAs : List Token → List ℕ → List Token → Type 0 where
  labelled : (r : List ℕ) (ts : List Token) → begins_digit r ≡ false → HeadedAs (run r ∷ mark 58 ∷ ts) r ts
  unlabelled : (ts : List Token) → ((r : List ℕ) (us : List Token) → ts ≡ run r ∷ mark 58 ∷ us → begins_digit r ≡ true) → HeadedAs ts [] ts

pub head-told : (ts : List Token) → HeadedAs ts (headed_by ts).name (headed_by ts).body
unfolding headed_by
head-told [] = unlabelled [] (λ r us e. cc)
head-told (mark c ∷ ts) = unlabelled (mark c ∷ ts) (λ r us e. cc)
head-told (run q ∷ []) = unlabelled (run q ∷ []) (λ r us e. cc)
head-told (run q ∷ run s ∷ ts) = unlabelled (run q ∷ run s ∷ ts) (λ r us e. cc)
head-told (run q ∷ mark c ∷ ts) = go (eqb c 58) refl (begins_digit q) refl
  where
    go : (a : Bool) → eqb c 58 ≡ a → (b : Bool) → begins_digit q ≡ b → let h = pick (a && not b) (headed q ts) (headed [] (run q ∷ mark c ∷ ts)) in HeadedAs (run q ∷ mark c ∷ ts) h.name h.body
    go true p false d = rw (eqb-true c 58 p) (labelled q ts d)
    go true p true d = unlabelled (run q ∷ mark c ∷ ts) (λ r us e. let z : q ≡ r = cc in ap begins_digit (sym z) ∙ d)
    go false p b d = unlabelled (run q ∷ mark c ∷ ts) (λ r us e. let z : c ≡ 58 = cc in absurd (eqb-false c 58 p z))

-- parts with a cut behind each but the last; no part has a place to cut at
pub data CutInto {A : Type 0} (test : A → Bool) : List A → List (List A) → Type 0 where
  last_part : (part : List A) → ((a : A) → In a part → test a ≡ false) → CutInto test part (part ∷ [])
  next_part : (part : List A) (c : A) {l : List A} {parts : List (List A)} → ((a : A) → In a part → test a ≡ false) → test c ≡ true → CutInto test l parts → CutInto test (part ++ (c ∷ l)) (part ∷ parts)

pub cut-told : {A : Type 0} (test : A → Bool) (l : List A) → CutInto test l (cut_at test l)
unfolding cut_at
cut-told test [] = last_part [] (λ a m. elim m [ ])
cut-told {A} test (a ∷ l) = go (test a) refl (cut-told test l)
  where
    one : test a ≡ false → (part : List A) → ((c : A) → In c part → test c ≡ false) → (c : A) → In c (a ∷ part) → test c ≡ false
    one e part h c (here p) = ap test p ∙ e
    one e part h c (later m) = h c m

    longer : test a ≡ false → {l : List A} {parts : List (List A)} → CutInto test l parts → CutInto test (a ∷ l) (ahead a parts)
    longer e (last_part part h) = last_part (a ∷ part) (one e part h)
    longer e (next_part part c h k more) = next_part (a ∷ part) c (one e part h) k more

    go : (b : Bool) → test a ≡ b → CutInto test l (cut_at test l) → CutInto test (a ∷ l) (pick b ([] ∷ cut_at test l) (ahead a (cut_at test l)))
    go true e more = next_part [] a (λ c m. elim m [ ]) e more
    go false e more = longer e more

-- which operands the places take: R G P, M, byte word bit width short long
abbrev taken_in : Written → List Bool
taken_in w = takes 'R w ∷ takes 'G w ∷ takes 'P w ∷ takes 'M w ∷ takes 'byte w ∷ takes 'word w ∷ takes 'bit w ∷ takes 'width w ∷ takes 'short w ∷ takes 'long w ∷ []

pub places-take : (r mm aa : ℕ) (ts : List Token) →
    (taken_in (register r) ≡ true ∷ not (eqb r 6) ∷ (ltb r 3 || eqb r 4) ∷ false ∷ false ∷ false ∷ false ∷ false ∷ false ∷ false ∷ [])
    × (taken_in (memory mm aa ts) ≡ false ∷ false ∷ false ∷ true ∷ false ∷ false ∷ false ∷ false ∷ false ∷ false ∷ [])
    × (taken_in (value ts) ≡ false ∷ false ∷ false ∷ false ∷ true ∷ true ∷ true ∷ true ∷ true ∷ true ∷ [])
    × (taken_in nothing ≡ false ∷ false ∷ false ∷ false ∷ false ∷ false ∷ false ∷ false ∷ false ∷ false ∷ [])
unfolding takes
places-take r mm aa ts = (refl, refl, refl, refl)

-- operands one by one, and places that take them one by one
pub data AllOperands : List (List Token) → List Written → Type 0 where
  no_operand : AllOperands [] []
  one_operand : {part : List Token} {w : Written} {parts : List (List Token)} {ws : List Written} → OperandOf part w → AllOperands parts ws → AllOperands (part ∷ parts) (w ∷ ws)

pub data AllTake : List OperandKind → List Written → Type 0 where
  no_place : AllTake [] []
  one_place : {k : OperandKind} {w : Written} {ks : List OperandKind} {ws : List Written} → takes k w ≡ true → AllTake ks ws → AllTake (k ∷ ks) (w ∷ ws)

abbrev pub data_word : Bool → List ℕ
data_word two = pick two (ascii "DW") (ascii "DB")

-- no word stands in front
pub data NoWord : List Token → Type 0 where
  no_run : (c : ℕ) (ts : List Token) → NoWord (mark c ∷ ts)
  no_such : (r : List ℕ) (ts : List Token) → ((two : Bool) → r ≡ data_word two → ⊥) → ((e : Entry) → In e entries → e.word ≡ r → ⊥) → NoWord (run r ∷ ts)

-- the numbers that stand in a line, each with its place: sums, and the offsets of memory
abbrev pub number_in : OperandKind → Written → List (OperandKind × List Token)
number_in k (register r) = []
number_in k (memory mm aa ts) = pick (eqb aa 1) ((k, ts) ∷ []) []
number_in k (value ts) = (k, ts) ∷ []
number_in k nothing = []

abbrev pub numbers_in : List OperandKind → List Written → List (OperandKind × List Token)
numbers_in [] ws = []
numbers_in (k ∷ ks) [] = []
numbers_in (k ∷ ks) (w ∷ ws) = number_in k w ++ numbers_in ks ws

-- items stand like data of a byte or a word
abbrev pub items_in : Bool → List (List Token) → List (OperandKind × List Token)
items_in two [] = []
items_in two (part ∷ parts) = (pick two 'word 'byte, part) ∷ items_in two parts

abbrev pub sums_in : Statement → List (OperandKind × List Token)
sums_in blank = []
sums_in (items two parts) = items_in two parts
sums_in (instruction e ws) = numbers_in e.kinds ws
sums_in (refused n) = []

-- each of them is a tree's
abbrev pub AllTrees : Statement → Type 0
AllTrees st = (p : OperandKind × List Token) → In p (sums_in st) → (s : Sum) × (sum_tokens s ≡ p.1)

-- a form: nothing at all; DB or DW with one tree or more; an entry's word with operands that its places take
pub data FormOf : List Token → Statement → Type 0 where
  empty : FormOf [] blank
  listed : (two : Bool) (t : Token) (ts : List Token) → AllTrees (items two (operand_parts (t ∷ ts))) → FormOf (run (data_word two) ∷ t ∷ ts) (items two (operand_parts (t ∷ ts)))
  coded : (e : Entry) (ts : List Token) (ws : List Written) → In e entries → AllOperands (operand_parts ts) ws → AllTake e.kinds ws → FormOf (run e.word ∷ ts) (instruction e ws)

-- a tree in a form, in its place, of which something holds
abbrev pub SomeTree : Statement → (OperandKind → Sum → Type 0) → Type 0
SomeTree st P = (k : OperandKind) × ((s : Sum) × (In (k, sum_tokens s) (sums_in st) × P k s))

-- one has more than eight parentheses open at once
abbrev pub Deep : Statement → Type 0
Deep st = SomeTree st (λ k s. 8 < sum_depth s)

-- a test of all numbers fails exactly where it fails of a tree
pub trees-fail : (st : Statement) → AllTrees st → (test : OperandKind × List Token → Bool) → (every test (sums_in st) ≡ false) ↔ SomeTree st (λ k s. test (k, sum_tokens s) ≡ false)
trees-fail st trees test = (finds, λ x. (every-fails test (sums_in st)).1 ((x.0, sum_tokens x.1.0), x.1.1))
  where
    finds : every test (sums_in st) ≡ false → SomeTree st (λ k s. test (k, sum_tokens s) ≡ false)
    finds h =
        let x = (every-fails test (sums_in st)).0 h in
        let s = trees x.0 x.1.0 in
        let e : (x.0.0, sum_tokens s.0) ≡ x.0 = ap (λ (ts : List Token). (x.0.0, ts)) s.1 in
        (x.0.0, (s.0, (subst (λ (p : OperandKind × List Token). In p (sums_in st)) (sym e) x.1.0, ap test e ∙ x.1.1)))

-- a test of operands one by one is one of the numbers in them, where it holds of a register and of memory without an offset
module _ (own : OperandKind → Written → Bool) (test : OperandKind × List Token → Bool) (f : List OperandKind → List Written → Bool) (none : f [] [] ≡ true) (one : (k : OperandKind) (w : Written) (ks : List OperandKind) (ws : List Written) → f (k ∷ ks) (w ∷ ws) ≡ own k w && f ks ws)
    (plain : (k : OperandKind) (r : ℕ) → takes k (register r) ≡ true → own k (register r) ≡ true) (near : (k : OperandKind) (mm aa : ℕ) → eqb aa 1 ≡ false → is_memory_kind k ≡ true → own k (memory mm aa []) ≡ true)
    (far : (k : OperandKind) (mm : ℕ) (ts : List Token) → own k (memory mm 1 ts) ≡ test (k, ts)) (sum : (k : OperandKind) (ts : List Token) → own k (value ts) ≡ test (k, ts)) where
  and-true : (b : Bool) → b && true ≡ b
  and-true true = refl
  and-true false = refl

  own-every : {part : List Token} {w : Written} → OperandOf part w → (k : OperandKind) → takes k w ≡ true → own k w ≡ every test (number_in k w)
  unfolding takes
  own-every (alone n h) k t = plain k n t
  own-every (based mm h) k t = near k mm 0 refl t
  own-every (offset mm h s) k t = far k mm (sum_tokens s) ∙ sym (and-true (test (k, sum_tokens s)))
  own-every (indexed mm h) k t = near k mm 2 refl t
  own-every (stepped mm h) k t = near k mm 3 refl t
  own-every (summed s) k t = sum k (sum_tokens s) ∙ sym (and-true (test (k, sum_tokens s)))

  pub operands-every : {parts : List (List Token)} {ks : List OperandKind} {ws : List Written} → AllOperands parts ws → AllTake ks ws → f ks ws ≡ every test (numbers_in ks ws)
  operands-every no_operand no_place = none
  operands-every (one_operand {w = w} {ws = ws} o os) (one_place {k = k} {ks = ks} t ts) =
      one k w ks ws ∙ ap (λ (b : Bool). b && f ks ws) (own-every o k t) ∙ ap (λ (b : Bool). every test (number_in k w) && b) (operands-every os ts) ∙ sym (every-both test (number_in k w) (numbers_in ks ws))

-- a test of items likewise
pub items_every : (two : Bool) (test : OperandKind × List Token → Bool) (f : List (List Token) → Bool) → f [] ≡ true → ((part : List Token) (parts : List (List Token)) → f (part ∷ parts) ≡ test (pick two 'word 'byte, part) && f parts)
    → (parts : List (List Token)) → f parts ≡ every test (items_in two parts)
items_every two test f h k [] = h
items_every two test f h k (part ∷ parts) = k part parts ∙ ap (λ (b : Bool). test (pick two 'word 'byte, part) && b) (items_every two test f h k parts)

-- a word is an entry's exactly where the test says so
pub word-exactly : (es : List Entry) (word : List ℕ) → (has_word es word ≡ true) ↔ ((e : Entry) × (In e es × (e.word ≡ word)))
unfolding has_word
word-exactly es word =
    let s = as_some (λ e. same_text e.word word) (λ es. has_word es word) refl (λ e es. refl) es in
    (λ h. let x = s.0 h in (x.0, (x.1.0, same-is x.0.word word x.1.1)), λ x. s.1 (x.0, (x.1.0, rw x.1.1 (is_same word))))

pub all_take : (ks : List OperandKind) (ws : List Written) → takes_all ks ws ≡ true → AllTake ks ws
unfolding takes_all
all_take [] [] h = no_place
all_take [] (w ∷ ws) h = absurd (false≢true h)
all_take (k ∷ ks) [] h = absurd (false≢true h)
all_take (k ∷ ks) (w ∷ ws) h = one_place (both_left (takes k w) (takes_all ks ws) h) (all_take ks ws (both_right (takes k w) (takes_all ks ws) h))

take_all : {ks : List OperandKind} {ws : List Written} → AllTake ks ws → takes_all ks ws ≡ true
unfolding takes_all
take_all no_place = refl
take_all (one_place h hs) = rw (h, take_all hs)

-- what a place takes: memory, a register or a number; so no two entries of one word take the same operands
abbrev pub sort_of : OperandKind → ℕ
sort_of k = pick (is_memory_kind k) 1 (pick (takes_register k 0) 0 2)

abbrev pub sort_written : Written → ℕ
sort_written (register r) = 0
sort_written (memory mm aa ts) = 1
sort_written (value ts) = 2
sort_written nothing = 3

pub takes-sort : (k : OperandKind) (w : Written) → takes k w ≡ true → sort_of k ≡ sort_written w
unfolding takes
takes-sort k (register r) h =
    (elim k as (λ j. takes_register j r ≡ true → sort_of j ≡ 0) [
      | 'R ↦ λ h. refl
      | 'G ↦ λ h. refl
      | 'P ↦ λ h. refl
      | 'M ↦ λ h. not-both h refl
      | 'byte ↦ λ h. not-both h refl
      | 'word ↦ λ h. not-both h refl
      | 'bit ↦ λ h. not-both h refl
      | 'width ↦ λ h. not-both h refl
      | 'short ↦ λ h. not-both h refl
      | 'long ↦ λ h. not-both h refl
    ]) h
takes-sort k (memory mm aa ts) h = rw h
takes-sort k (value ts) h = go (is_memory_kind k) (takes_register k 0) h
  where
    go : (m r : Bool) → not (m || r) ≡ true → ◌≡◌ {A = ℕ} (pick m 1 (pick r 0 2)) 2
    go true r h = absurd (false≢true h)
    go false true h = absurd (false≢true h)
    go false false h = refl
takes-sort k nothing h = absurd (false≢true h)

overlap : List OperandKind → List OperandKind → Bool
overlap [] [] = true
overlap [] (j ∷ js) = false
overlap (k ∷ ks) [] = false
overlap (k ∷ ks) (j ∷ js) = eqb (sort_of k) (sort_of j) && overlap ks js

clash : Entry → Entry → Bool
clash e f = same_text e.word f.word && overlap e.kinds f.kinds

sole : List Entry → Bool
sole [] = true
sole (e ∷ es) = every (λ f. not (clash e f)) es && sole es

entries-sole : sole entries ≡ true
unfolding sole clash overlap entries same_text
entries-sole = refl

both-take : {ks js : List OperandKind} {ws : List Written} → AllTake ks ws → AllTake js ws → overlap ks js ≡ true
unfolding overlap
both-take no_place no_place = refl
both-take (one_place {k = k} {w = w} h hs) (one_place {k = j} g gs) = rw (eq-eqb (sort_of k) (sort_of j) (takes-sort k w h ∙ sym (takes-sort j w g)), both-take hs gs)

entry-only : (es : List Entry) → sole es ≡ true → (e : Entry) → In e es → (ws : List Written) → AllTake e.kinds ws → entry_in es e.word ws ≡ taken e
unfolding entry_in sole clash
entry-only [] h e x ws t = elim x [ ]
entry-only (f ∷ es) h e (here p) ws t = rw (← p, is_same e.word, take_all t)
entry-only (f ∷ es) h e (later m) ws t = go (same_text f.word e.word) refl (takes_all f.kinds ws) refl (entry-only es (both_right (every (λ g. not (clash f g)) es) (sole es) h) e m ws t)
  where
    go : (a : Bool) → same_text f.word e.word ≡ a → (b : Bool) → takes_all f.kinds ws ≡ b → entry_in es e.word ws ≡ taken e → pick (a && b) (taken f) (entry_in es e.word ws) ≡ taken e
    go true p true q k = not-both (both_left (every (λ g. not (clash f g)) es) (sole es) h) ((every-fails (λ g. not (clash f g)) es).1 (e, (m, rw (p, both-take (all_take f.kinds ws q) t))))
    go true p false q k = k
    go false p b q k = k

-- whether an entry has a word and takes some operands
abbrev fitting : List ℕ → List Written → Entry → Bool
fitting word ws e = same_text e.word word && takes_all e.kinds ws

entry-none : (es : List Entry) (word : List ℕ) (ws : List Written) → every (λ e. not (fitting word ws e)) es ≡ true → entry_in es word ws ≡ untaken
unfolding entry_in
entry-none [] word ws h = refl
entry-none (e ∷ es) word ws h =
    rw (not-true (fitting word ws e) (both_left (not (fitting word ws e)) (every (λ e. not (fitting word ws e)) es) h)) (entry-none es word ws (both_right (not (fitting word ws e)) (every (λ e. not (fitting word ws e)) es) h))

-- operands that places take are of some form each, and no other
operands-all : (ks : List OperandKind) (parts : List (List Token)) → takes_all ks (operands_from parts) ≡ true → AllOperands parts (operands_from parts)
unfolding takes_all operands_from takes
operands-all [] [] h = no_operand
operands-all [] (part ∷ parts) h = absurd (false≢true h)
operands-all (k ∷ ks) [] h = absurd (false≢true h)
operands-all (k ∷ ks) (part ∷ parts) h =
    let l = both_left (takes k (operand_from part)) (takes_all ks (operands_from parts)) h in
    let n : operand_from part ≡ nothing → ⊥ = λ e. not-both l (ap (takes k) e) in
    one_operand ((operand-exactly part (operand_from part) n).0 refl) (operands-all ks parts (both_right (takes k (operand_from part)) (takes_all ks (operands_from parts)) h))

operands-are : {parts : List (List Token)} {ws : List Written} → AllOperands parts ws → operands_from parts ≡ ws
unfolding operands_from
operands-are no_operand = refl
operands-are (one_operand {parts = parts} {ws = ws} o os) = rw (operand-is o, operands-are os)

-- how deep the trees are
low_tree : OperandKind × List Token → Bool
low_tree p = leb (depth_of p.1) most_open

low-items : (two : Bool) (parts : List (List Token)) → all_low parts ≡ every low_tree (items_in two parts)
unfolding all_low low_tree
low-items two = items_every two low_tree all_low refl (λ part parts. refl)

low-operands : {parts : List (List Token)} {ks : List OperandKind} {ws : List Written} → AllOperands parts ws → AllTake ks ws → all_shallow ws ≡ every low_tree (numbers_in ks ws)
unfolding all_shallow is_shallow low_tree depth_of scan_from
low-operands = operands-every (λ k w. is_shallow w) low_tree (λ ks ws. all_shallow ws) refl (λ k w ks ws. refl) (λ k r t. refl) (λ k mm aa z t. refl) (λ k mm ts. refl) (λ k ts. refl)

coded-trees : {parts : List (List Token)} {ks : List OperandKind} {ws : List Written} → AllOperands parts ws → AllTake ks ws → (p : OperandKind × List Token) → In p (numbers_in ks ws) → (s : Sum) × (sum_tokens s ≡ p.1)
coded-trees no_operand no_place p m = elim m [ ]
coded-trees (one_operand {ws = ws} o os) (one_place {k = k} {ks = ks} t ts) p m = first o k (numbers_in ks ws) (coded-trees os ts p) m
  where
    first : {part : List Token} {w : Written} → OperandOf part w → (k : OperandKind) (rest : List (OperandKind × List Token)) → (In p rest → (s : Sum) × (sum_tokens s ≡ p.1)) → In p (number_in k w ++ rest) → (s : Sum) × (sum_tokens s ≡ p.1)
    first (alone n h) k rest g m = g m
    first (based mm h) k rest g m = g m
    first (indexed mm h) k rest g m = g m
    first (stepped mm h) k rest g m = g m
    first (offset mm h s) k rest g m = elim m [ here e ↦ (s, sym (ap (λ (q : OperandKind × List Token). q.1) e)) | later i ↦ g i ]
    first (summed s) k rest g m = elim m [ here e ↦ (s, sym (ap (λ (q : OperandKind × List Token). q.1) e)) | later i ↦ g i ]

pub form-trees : {body : List Token} {st : Statement} → FormOf body st → AllTrees st
form-trees empty p m = elim m [ ]
form-trees (listed two t ts trees) p m = trees p m
form-trees (coded e ts ws i os take) p m = coded-trees os take p m

-- what a form comes to: 32 where it is too deep, and else what it says
abbrev Goes : Statement → Statement → Type 0
Goes st result = (Deep st × (result ≡ refused 32)) ⊎ ((Deep st → ⊥) × (result ≡ st))

goes_by : (st : Statement) (b : Bool) → AllTrees st → b ≡ every low_tree (sums_in st) → Goes st (pick b st (refused 32))
unfolding low_tree
goes_by st true trees e = inr (λ d. not-both (sym e) ((trees-fail st trees low_tree).1 (d.0, (d.1.0, (d.1.1.0, lt-leb (depth_of (sum_tokens d.1.0)) 8 (rw (tree-depth d.1.0) d.1.1.1))))), refl)
goes_by st false trees e = let x = (trees-fail st trees low_tree).0 (sym e) in inl ((x.0, (x.1.0, (x.1.1.0, rw (tree-depth x.1.0) at (leb-false (depth_of (sum_tokens x.1.0)) 8 x.1.1.1)))), refl)

cut-some : {A : Type 0} {test : A → Bool} {l : List A} {parts : List (List A)} → CutInto test l parts → parts ≡ [] → ⊥
cut-some (last_part part h) e = absurd (omega (arith, ap length e))
cut-some (next_part part c h k more) e = absurd (omega (arith, ap length e))

no-data-word : (two : Bool) → has_word entries (data_word two) ≡ false
unfolding has_word entries same_text
no-data-word true = refl
no-data-word false = refl

data-says : (two : Bool) (ts : List Token) → statement_of (run (data_word two) ∷ ts) ≡ items_from two (operand_parts ts)
unfolding statement_of same_text
data-says true ts = refl
data-says false ts = refl

items-says : (two : Bool) (parts : List (List Token)) → (parts ≡ [] → ⊥) → items_from two parts ≡ pick (all_sums parts) (pick (all_low parts) (items two parts) (refused 32)) (refused 31)
unfolding items_from
items-says two [] h = absurd (h refl)
items-says two (part ∷ parts) h = refl

word-says : (r : List ℕ) (ts : List Token) → ((two : Bool) → r ≡ data_word two → ⊥) → statement_of (run r ∷ ts) ≡ word_statement r (operands_from (operand_parts ts))
unfolding statement_of
word-says r ts d = rw (fails (same_text r (data_word false)) (λ e. d false (same-is r (data_word false) e)), fails (same_text r (data_word true)) (λ e. d true (same-is r (data_word true) e)))

-- a line that begins with no word
pub no-word-is : {body : List Token} → NoWord body → statement_of body ≡ refused 30
unfolding statement_of word_statement
no-word-is (no_run c ts) = refl
no-word-is (no_such r ts d n) = word-says r ts d ∙ rw (fails (has_word entries r) (λ e. let x = (word-exactly entries r).0 e in n x.0 x.1.0 x.1.1))

coded-says : (e : Entry) (ws : List Written) → In e entries → AllTake e.kinds ws → word_statement e.word ws ≡ pick (all_shallow ws) (instruction e ws) (refused 32)
unfolding word_statement
coded-says e ws i t = rw ((word-exactly entries e.word).1 (e, (i, refl)), entry-only entries entries-sole e i ws t)

-- items that are all sums are those of trees
sums-items : (two : Bool) (parts : List (List Token)) → all_sums parts ≡ every (λ p. is_sum p.1) (items_in two parts)
unfolding all_sums
sums-items two = items_every two (λ p. is_sum p.1) all_sums refl (λ part parts. refl)

blank-says : statement_of [] ≡ blank
unfolding statement_of
blank-says = refl

pub form-goes : {body : List Token} {st : Statement} → FormOf body st → Goes st (statement_of body)
form-goes empty = inr (λ d. elim d.1.1.0 [ ], blank-says)
form-goes (listed two t ts trees) =
    let parts = operand_parts (t ∷ ts) in
    let sums : all_sums parts ≡ true = holds (all_sums parts) (λ h. let x = (trees-fail (items two parts) trees (λ p. is_sum p.1)).0 (sym (sums-items two parts) ∙ h) in not-both (tree-sum x.1.0) x.1.1.1) in
    rw (data-says two (t ∷ ts) ∙ items-says two parts (cut-some (cut-told is_comma (t ∷ ts))), sums) (goes_by (items two parts) (all_low parts) trees (low-items two parts))
form-goes (coded e ts ws i os take) =
    let e1 = word-says e.word ts (λ two q. not-both ((word-exactly entries (data_word two)).1 (e, (i, q))) (no-data-word two)) in
    rw (e1 ∙ ap (word_statement e.word) (operands-are os) ∙ coded-says e ws i take) (goes_by (instruction e ws) (all_shallow ws) (coded-trees os take) (low-operands os take))

-- a form that is not too deep is what its line says
pub form-is : {body : List Token} {st : Statement} → FormOf body st → (Deep st → ⊥) → statement_of body ≡ st
form-is f n = elim (form-goes f) [ inl x ↦ absurd (n x.0) | inr x ↦ x.1 ]

-- a line has no word, or no form, or a form
abbrev Formed : List Token → Type 0
Formed body = (statement_of body ≡ refused 31) ⊎ ((st : Statement) × FormOf body st)

no_items : (two : Bool) → items_from two [] ≡ refused 31
unfolding items_from
no_items two = refl

data-formed : (two : Bool) (ts : List Token) → Formed (run (data_word two) ∷ ts)
data-formed two [] = inl (data-says two [] ∙ no_items two)
data-formed two (t ∷ ts) =
    let parts = operand_parts (t ∷ ts) in
    (elim (all_sums parts) as (λ b. all_sums parts ≡ b → Formed (run (data_word two) ∷ t ∷ ts)) [
      | true ↦ λ e. inr (items two parts, listed two t ts (λ p m. (sum-exactly p.1).0 (holds (is_sum p.1) (λ f. not-both e (sums-items two parts ∙ (every-fails (λ p. is_sum p.1) (items_in two parts)).1 (p, (m, f)))))))
      | false ↦ λ e. inl (data-says two (t ∷ ts) ∙ items-says two parts (cut-some (cut-told is_comma (t ∷ ts))) ∙ rw e)
    ]) refl

word-formed : (r : List ℕ) (ts : List Token) → ((two : Bool) → r ≡ data_word two → ⊥) → NoWord (run r ∷ ts) ⊎ Formed (run r ∷ ts)
unfolding word_statement
word-formed r ts d = go (has_word entries r) refl (every (λ e. not (fitting r ws e)) entries) refl (word-says r ts d)
  where
    ws : List Written
    ws = operands_from (operand_parts ts)

    go : (b : Bool) → has_word entries r ≡ b → (c : Bool) → every (λ e. not (fitting r ws e)) entries ≡ c → statement_of (run r ∷ ts) ≡ pick (has_word entries r) (formed_by (entry_in entries r ws) ws) (refused 30) → NoWord (run r ∷ ts) ⊎ Formed (run r ∷ ts)
    go false p c q k = inl (no_such r ts d (λ e i s. not-both ((word-exactly entries r).1 (e, (i, s))) p))
    go true p true q k = inr (inl (k ∙ rw (p, entry-none entries r ws q)))
    go true p false q k =
        let x = (every-fails (λ e. not (fitting r ws e)) entries).0 q in
        let e = x.0 in
        let f = not-false (fitting r ws e) x.1.1 in
        let t = both_right (same_text e.word r) (takes_all e.kinds ws) f in
        inr (inr (instruction e ws, subst (λ (y : List ℕ). FormOf (run y ∷ ts) (instruction e ws)) (same-is e.word r (both_left (same_text e.word r) (takes_all e.kinds ws) f)) (coded e ts ws x.1.0 (operands-all e.kinds (operand_parts ts) t) (all_take e.kinds ws t))))

data-or-not : (r : List ℕ) → ((two : Bool) × (r ≡ data_word two)) ⊎ ((two : Bool) → r ≡ data_word two → ⊥)
data-or-not r = go (same_text r (data_word false)) refl (same_text r (data_word true)) refl
  where
    go : (a : Bool) → same_text r (data_word false) ≡ a → (b : Bool) → same_text r (data_word true) ≡ b → ((two : Bool) × (r ≡ data_word two)) ⊎ ((two : Bool) → r ≡ data_word two → ⊥)
    go true p b q = inl (false, same-is r (data_word false) p)
    go false p true q = inl (true, same-is r (data_word true) q)
    go false p false q = inr (λ two e. not-both (is_same r) (ap (same_text r) e ∙ elim two as (λ x. same_text r (data_word x) ≡ false) [ true ↦ q | false ↦ p ]))

pub line-formed : (body : List Token) → NoWord body ⊎ Formed body
line-formed [] = inr (inr (blank, empty))
line-formed (mark c ∷ ts) = inl (no_run c ts)
line-formed (run r ∷ ts) = elim (data-or-not r) [ inl x ↦ inr (subst (λ (y : List ℕ). Formed (run y ∷ ts)) (sym x.1) (data-formed x.0 ts)) | inr d ↦ word-formed r ts d ]
