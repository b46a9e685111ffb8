-- A line has each number exactly where what it says of itself in words holds, and none of the lower ones does.
-- Assumes nothing.
use mathlib.Core.Path.{◌≡◌, refl, sym, ap, subst, ◌∙◌}
use mathlib.Core.Bool.{Bool, true, false, not, ◌&&◌, ◌||◌, false≢true}
use mathlib.Core.List.{List, [], ◌∷◌, Memᴰ as In}
use mathlib.Core.Logic.{◌⊎◌, inl, inr, ◌↔◌}
use Prim.Native.Nat.{ℕ, ◌+◌, ◌-◌, ◌%◌, ◌≤◌, ◌<◌}
use native.Mathlib.Omega.{arith}
use native.Mathlib.Nat.{mod-lt}
use lib.Dec.{eqb, ltb, leb, lit<}
use lib.ListN.{length}
use borrow.Author.Tests.{ltb-true, ltb-false, leb-true, leb-false, lt-ltb}
use Rattle.ground_rules.specs.Choice.{pick}
use Rattle.listing_rules.specs.Characters.{ascii, same_text}
use Rattle.listing_rules.specs.Entries.{OperandKind, Entry, entries}
use Rattle.listing_rules.specs.Entries.OperandKind.{'R, 'G, 'P, 'M, 'byte, 'word, 'bit, 'width, 'short, 'long}
use Rattle.assembly_rules.specs.declared.Worth.{Worth}
use Rattle.assembly_rules.specs.Text.{Token, tokens_of}
use Rattle.assembly_rules.specs.Sums.{index_in, register_number, is_register, Label, label_worth, worth, sum_worth}
use Rattle.assembly_rules.specs.Trees.{Sum, sum_tokens, sum_depth, sum_added, sum_taken, sum_known}
use Rattle.assembly_rules.specs.Operands.{takes, has_word}
use Rattle.assembly_rules.specs.Operands.Written.{register, memory}
use Rattle.assembly_rules.specs.Statements.{headed_by, operand_parts, Statement, statement_of, statement_size, is_byte, may_stand, operand_worth, names_known, all_stand, items_known, items_stand, statement_number}
use Rattle.assembly_rules.specs.Statements.Statement.{blank, items, instruction, refused}
use Rattle.assembly_rules.specs.Assembly.{Said, said_by, is_reserved, may_keep, label_stands, past_room, line_number}
use Rattle.assembly_rules.proofs.WritingLaws.{both_left, both_right}
use Rattle.assembly_rules.proofs.LabelLaws.{known-exactly, may-parts}
use Rattle.assembly_rules.proofs.TestLaws.{holds, fails, not-both, either_true, both_false, every, every-fails}
use Rattle.assembly_rules.proofs.FormLaws.{data_word, word-exactly, sort_of, takes-sort, NoWord, sums_in, FormOf, SomeTree, Deep, trees-fail, operands-every, items_every, form-trees, no-word-is, form-goes, form-is, line-formed}
use Rattle.assembly_rules.proofs.FormLaws.FormOf.{empty, listed, coded}
use Rattle.assembly_rules.proofs.ScanLaws.{same-is, is_same}
use Rattle.assembly_rules.proofs.OperandLaws.{register_text, number-named, text-named, register-named}
use Rattle.assembly_rules.proofs.ValueLaws.{tree_value, tree-worth, sum_names, names-known, FitsPlace, fits-exactly}

-- a name in one of a form's trees that is the name of no label
abbrev pub Unknown : List Label → Statement → Type 0
Unknown labels st = SomeTree st (λ k s. (r : List ℕ) × (In r (sum_names s) × ((l : Label) → In l labels → l.name ≡ r → ⊥)))

-- a value that does not fit its place
abbrev pub Unfit : List Label → ℕ → Statement → Type 0
Unfit labels address st = SomeTree st (λ k s. FitsPlace k (address + statement_size st) (tree_value labels s) → ⊥)

-- the two tests of a form
abbrev known_in : List Label → Statement → Bool
known_in labels blank = true
known_in labels (items two parts) = items_known labels parts
known_in labels (instruction e ws) = names_known labels ws
known_in labels (refused n) = true

abbrev stand_in : List Label → ℕ → Statement → Bool
stand_in labels address blank = true
stand_in labels address (items two parts) = two || items_stand labels parts
stand_in labels address (instruction e ws) = all_stand labels (address + statement_size (instruction e ws)) e.kinds ws
stand_in labels address (refused n) = true

-- and of the numbers in it
abbrev known_tree : List Label → OperandKind × List Token → Bool
known_tree labels p = (sum_worth labels p.1).known

abbrev stand_tree : List Label → ℕ → OperandKind × List Token → Bool
stand_tree labels end p = may_stand p.0 end (sum_worth labels p.1).value

memory-known : (labels : List Label) (mm aa : ℕ) → eqb aa 1 ≡ false → operand_worth labels (memory mm aa []) ≡ worth 0 true
unfolding operand_worth
memory-known labels mm aa z = rw z

form-known : (labels : List Label) {body : List Token} {st : Statement} → FormOf body st → known_in labels st ≡ every (known_tree labels) (sums_in st)
unfolding items_known names_known operand_worth
form-known labels empty = refl
form-known labels (listed two t ts trees) = items_every two (known_tree labels) (items_known labels) refl (λ part parts. refl) (operand_parts (t ∷ ts))
form-known labels (coded e ts ws i os take) =
    operands-every (λ k w. (operand_worth labels w).known) (known_tree labels) (λ ks ws. names_known labels ws) refl (λ k w ks ws. refl) (λ k r t. refl) (λ k mm aa z t. ap (λ (x : Worth). x.known) (memory-known labels mm aa z)) (λ k mm ts. refl) (λ k ts. refl) os take

-- a place that takes no number has none that does not fit
zero-stands : (end : ℕ) (k : OperandKind) → (sort_of k ≡ 2 → ⊥) → may_stand k end 0 ≡ true
unfolding may_stand is_byte
zero-stands end k =
    elim k as (λ j. (sort_of j ≡ 2 → ⊥) → may_stand j end 0 ≡ true) [
      | 'R ↦ λ n. refl
      | 'G ↦ λ n. refl
      | 'P ↦ λ n. refl
      | 'M ↦ λ n. refl
      | 'byte ↦ λ n. absurd (n refl)
      | 'word ↦ λ n. absurd (n refl)
      | 'bit ↦ λ n. absurd (n refl)
      | 'width ↦ λ n. absurd (n refl)
      | 'short ↦ λ n. absurd (n refl)
      | 'long ↦ λ n. absurd (n refl)
    ]

form-stands : (labels : List Label) (address : ℕ) {body : List Token} {st : Statement} → FormOf body st → stand_in labels address st ≡ every (stand_tree labels (address + statement_size st)) (sums_in st)
unfolding items_stand all_stand operand_worth may_stand takes
form-stands labels address empty = refl
form-stands labels address (listed true t ts trees) = items_every true (stand_tree labels (address + statement_size (items true (operand_parts (t ∷ ts))))) (λ parts. true) refl (λ part parts. refl) (operand_parts (t ∷ ts))
form-stands labels address (listed false t ts trees) = items_every false (stand_tree labels (address + statement_size (items false (operand_parts (t ∷ ts))))) (items_stand labels) refl (λ part parts. refl) (operand_parts (t ∷ ts))
form-stands labels address (coded e ts ws i os take) =
    let end = address + statement_size (instruction e ws) in
    operands-every (λ k w. may_stand k end (operand_worth labels w).value) (stand_tree labels end) (all_stand labels end) refl (λ k w ks ws. refl)
    (λ k r t. zero-stands end k (λ z. absurd (omega (arith, takes-sort k (register r) t)))) (λ k mm aa z t. ap (λ (w : Worth). may_stand k end w.value) (memory-known labels mm aa z) ∙ zero-stands end k (λ q. absurd (omega (arith, takes-sort k (memory mm aa []) t)))) (λ k mm ts. refl) (λ k ts. refl) os take

-- trees that are not too deep
shallow : (st : Statement) → (Deep st → ⊥) → (k : OperandKind) (s : Sum) → In (k, sum_tokens s) (sums_in st) → sum_depth s ≤ 8
shallow st n k s m = leb-true (sum_depth s) 8 (holds (leb (sum_depth s) 8) (λ e. n (k, (s, (m, leb-false (sum_depth s) 8 e)))))

-- a tree with an unknown name
tree-unknown : (labels : List Label) (s : Sum) → (sum_known labels s ≡ false) ↔ ((r : List ℕ) × (In r (sum_names s) × ((l : Label) → In l labels → l.name ≡ r → ⊥)))
tree-unknown labels s = (
  λ h. let x = (every-fails (λ r. (label_worth labels r).known) (sum_names s)).0 (sym (names-known labels s) ∙ h) in (x.0, (x.1.0, λ l m e. not-both ((known-exactly labels x.0).1 (l, (m, e))) x.1.1)),
  λ x. names-known labels s ∙ (every-fails (λ r. (label_worth labels r).known) (sum_names s)).1 (x.0, (x.1.0, fails (label_worth labels x.0).known (λ h. let l = (known-exactly labels x.0).0 h in x.1.1 l.0 l.1.0 l.1.1))),
)

-- a form has an unknown name, and an unfit value, exactly where the tests fail
known-fails : (labels : List Label) {body : List Token} {st : Statement} → FormOf body st → (Deep st → ⊥) → (known_in labels st ≡ false) ↔ Unknown labels st
known-fails labels {st = st} f n =
    let t = trees-fail st (form-trees f) (known_tree labels) in
    let same : (k : OperandKind) (s : Sum) → In (k, sum_tokens s) (sums_in st) → known_tree labels (k, sum_tokens s) ≡ sum_known labels s = λ k s m. ap (λ (w : Worth). w.known) (tree-worth labels s (shallow st n k s m)) in (
      λ h. let x = t.0 (sym (form-known labels f) ∙ h) in (x.0, (x.1.0, (x.1.1.0, (tree-unknown labels x.1.0).0 (sym (same x.0 x.1.0 x.1.1.0) ∙ x.1.1.1)))),
      λ x. form-known labels f ∙ t.1 (x.0, (x.1.0, (x.1.1.0, same x.0 x.1.0 x.1.1.0 ∙ (tree-unknown labels x.1.0).1 x.1.1.1))),
    )

stand-fails : (labels : List Label) (address : ℕ) {body : List Token} {st : Statement} → FormOf body st → (Deep st → ⊥) → (stand_in labels address st ≡ false) ↔ Unfit labels address st
stand-fails labels address {st = st} f n =
    let end = address + statement_size st in
    let t = trees-fail st (form-trees f) (stand_tree labels end) in
    let same : (k : OperandKind) (s : Sum) → In (k, sum_tokens s) (sums_in st) → stand_tree labels end (k, sum_tokens s) ≡ may_stand k end (tree_value labels s) = λ k s m. ap (λ (w : Worth). may_stand k end w.value) (tree-worth labels s (shallow st n k s m)) in
    let fit : (k : OperandKind) (s : Sum) → (may_stand k end (tree_value labels s) ≡ true) ↔ FitsPlace k end (tree_value labels s) = λ k s. fits-exactly k end (tree_value labels s) (mod-lt (sum_added labels s + (65536 - sum_taken labels s % 65536)) (lit< tt)) in (
      λ h. let x = t.0 (sym (form-stands labels address f) ∙ h) in (x.0, (x.1.0, (x.1.1.0, λ b. not-both ((fit x.0 x.1.0).1 b) (sym (same x.0 x.1.0 x.1.1.0) ∙ x.1.1.1)))),
      λ x. form-stands labels address f ∙ t.1 (x.0, (x.1.0, (x.1.1.0, same x.0 x.1.0 x.1.1.0 ∙ fails (may_stand x.0 end (tree_value labels x.1.0)) (λ y. x.1.1.1 ((fit x.0 x.1.0).0 y))))),
    )

-- the names that are no labels
pub data Reserved : List ℕ → Type 0 where
  word_reserved : (e : Entry) → In e entries → Reserved e.word
  data_reserved : (two : Bool) → Reserved (data_word two)
  register_reserved : (n : ℕ) → n < 8 → Reserved (register_text n)
  pointer_reserved : Reserved (ascii "PP")

-- a label that is not kept: over 12 characters, reserved, the name of one that is kept, or one too many
pub data Unkept (kept : List Label) : List ℕ → Type 0 where
  too_long : (c : ℕ) (cs : List ℕ) → 12 < length (c ∷ cs) → Unkept kept (c ∷ cs)
  no_name : (c : ℕ) (cs : List ℕ) → Reserved (c ∷ cs) → Unkept kept (c ∷ cs)
  again : (c : ℕ) (cs : List ℕ) (l : Label) → In l kept → l.name ≡ c ∷ cs → Unkept kept (c ∷ cs)
  too_many : (c : ℕ) (cs : List ℕ) → 64 ≤ length kept → Unkept kept (c ∷ cs)

pointer-number : register_number (ascii "PP") ≡ 8
unfolding register_number index_in same_text
pointer-number = refl

register-reserved : (name : List ℕ) → register_number name < 9 → Reserved name
register-reserved name h =
    (elim (ltb (register_number name) 8) as (λ b. ltb (register_number name) 8 ≡ b → Reserved name) [
      | true ↦ λ e. let l = ltb-true (register_number name) 8 e in subst Reserved (sym (text-named name l)) (register_reserved (register_number name) l)
      | false ↦ λ e. let l = ltb-false (register_number name) 8 e in subst Reserved (sym (register-named name 8 (omega arith) (omega arith))) pointer_reserved
    ]) refl

reserved-exactly : (name : List ℕ) → (is_reserved name ≡ true) ↔ Reserved name
unfolding is_reserved
reserved-exactly name = (λ h. finds (has_word entries name) refl (same_text name (data_word false)) refl (same_text name (data_word true)) refl h, λ x. has x)
  where
    finds : (a : Bool) → has_word entries name ≡ a → (b : Bool) → same_text name (data_word false) ≡ b → (c : Bool) → same_text name (data_word true) ≡ c → a || (b || (c || is_register name)) ≡ true → Reserved name
    finds true p b q c r h = let x = (word-exactly entries name).0 p in subst Reserved x.1.1 (word_reserved x.0 x.1.0)
    finds false p true q c r h = subst Reserved (sym (same-is name (data_word false) q)) (data_reserved false)
    finds false p false q true r h = subst Reserved (sym (same-is name (data_word true) r)) (data_reserved true)
    finds false p false q false r h = register-reserved name (ltb-true (register_number name) 9 h)

    some : (name : List ℕ) → (has_word entries name ≡ true) ⊎ ((same_text name (ascii "DB") ≡ true) ⊎ ((same_text name (ascii "DW") ≡ true) ⊎ (is_register name ≡ true))) → is_reserved name ≡ true
    some name x =
        (either_true (has_word entries name) (same_text name (ascii "DB") || (same_text name (ascii "DW") || is_register name))).1
        (elim x [ inl e ↦ inl e | inr y ↦ inr ((either_true (same_text name (ascii "DB")) (same_text name (ascii "DW") || is_register name)).1 (elim y [ inl e ↦ inl e | inr z ↦ inr ((either_true (same_text name (ascii "DW")) (is_register name)).1 z) ])) ])

    has : {name : List ℕ} → Reserved name → is_reserved name ≡ true
    has (word_reserved e i) = some e.word (inl ((word-exactly entries e.word).1 (e, (i, refl))))
    has (data_reserved false) = some (ascii "DB") (inr (inl (is_same (ascii "DB"))))
    has (data_reserved true) = some (ascii "DW") (inr (inr (inl (is_same (ascii "DW")))))
    has (register_reserved n h) = some (register_text n) (inr (inr (inr (lt-ltb (register_number (register_text n)) 9 (rw (number-named n h) (omega arith))))))
    has pointer_reserved = some (ascii "PP") (inr (inr (inr (lt-ltb (register_number (ascii "PP")) 9 (rw pointer-number (omega arith))))))

-- whether a line's own label is kept
stands-exactly : (kept : List Label) (address : ℕ) (name : List ℕ) → (label_stands kept address name ≡ false) ↔ Unkept kept name
unfolding label_stands may_keep
stands-exactly kept address [] = (λ h. not-both refl h, λ x. elim x [ ])
stands-exactly kept address (c ∷ cs) =
    (finds (leb (length (c ∷ cs)) 12) refl (label_worth kept (c ∷ cs)).known refl (is_reserved (c ∷ cs)) refl (ltb (length kept) 64) refl, λ x. fails (may_keep kept (c ∷ cs)) (λ h. none x (may-parts kept (c ∷ cs) h)))
  where
    finds : (a : Bool) → leb (length (c ∷ cs)) 12 ≡ a → (b : Bool) → (label_worth kept (c ∷ cs)).known ≡ b → (d : Bool) → is_reserved (c ∷ cs) ≡ d → (e : Bool) → ltb (length kept) 64 ≡ e → a && (not b && (not d && e)) ≡ false → Unkept kept (c ∷ cs)
    finds false p b q d r e s h = too_long c cs (leb-false (length (c ∷ cs)) 12 p)
    finds true p true q d r e s h = let x = (known-exactly kept (c ∷ cs)).0 q in again c cs x.0 x.1.0 x.1.1
    finds true p false q true r e s h = no_name c cs ((reserved-exactly (c ∷ cs)).0 r)
    finds true p false q false r false s h = too_many c cs (ltb-false (length kept) 64 s)
    finds true p false q false r true s h = not-both refl h

    none : {name : List ℕ} → Unkept kept name → (length name ≤ 12) × (((label_worth kept name).known ≡ false) × ((is_reserved name ≡ false) × (length kept < 64))) → ⊥
    none (too_long c cs l) m = absurd (omega (arith, m.0))
    none (no_name c cs r) m = not-both ((reserved-exactly (c ∷ cs)).1 r) m.1.1.0
    none (again c cs l i e) m = not-both ((known-exactly kept (c ∷ cs)).1 (l, (i, e))) m.1.0
    none (too_many c cs l) m = absurd (omega (arith, m.1.1.1))

-- a line with bytes that end past the room
abbrev pub Past : ℕ → ℕ → Statement → Type 0
Past before room st = (0 < statement_size st) × (room < before + statement_size st)

-- what a line has: the lowest number that applies
pub data Verdict (labels kept : List Label) (address before room : ℕ) (name : List ℕ) (body : List Token) : ℕ → Type 0 where
  no_word : NoWord body → Verdict labels kept address before room name body 30
  no-form : (NoWord body → ⊥) → ((st : Statement) → FormOf body st → ⊥) → Verdict labels kept address before room name body 31
  too-deep : (st : Statement) → FormOf body st → Deep st → Verdict labels kept address before room name body 32
  no_label : (st : Statement) → FormOf body st → (Deep st → ⊥) → Unkept kept name ⊎ Unknown labels st → Verdict labels kept address before room name body 33
  no-fit : (st : Statement) → FormOf body st → (Deep st → ⊥) → (Unkept kept name ⊎ Unknown labels st → ⊥) → Unfit labels address st → Verdict labels kept address before room name body 34
  no_room : (st : Statement) → FormOf body st → (Deep st → ⊥) → (Unkept kept name ⊎ Unknown labels st → ⊥) → (Unfit labels address st → ⊥) → Past before room st → Verdict labels kept address before room name body 35
  is-done : (st : Statement) → FormOf body st → (Deep st → ⊥) → (Unkept kept name ⊎ Unknown labels st → ⊥) → (Unfit labels address st → ⊥) → (Past before room st → ⊥) → Verdict labels kept address before room name body 0

-- a line by its label's name and its statement
abbrev saying : List ℕ → Statement → Said
saying name st = record { name = name; statement = st }

-- a line's number by its tests
module _ (labels kept : List Label) (address before room : ℕ) (name : List ℕ) where
  abbrev number_of : Statement → ℕ
  number_of st = line_number labels kept address before room (saying name st)

  abbrev by_tests : Bool → Bool → Bool → Bool → ℕ
  by_tests label known stand past = pick (label && known) (pick stand (pick past 35 0) 34) 33

  refused-number : (number_of (refused 30) ≡ 30) × ((number_of (refused 31) ≡ 31) × (number_of (refused 32) ≡ 32))
  unfolding line_number statement_number
  refused-number = (refl, (refl, refl))

  form-number : {body : List Token} {st : Statement} → FormOf body st → statement_number labels address st ≡ pick (known_in labels st) (pick (stand_in labels address st) 0 34) 33
  unfolding statement_number
  form-number empty = refl
  form-number (listed two t ts trees) = refl
  form-number (coded e ts ws i os take) = refl

  formed-number : {body : List Token} {st : Statement} → FormOf body st → number_of st ≡ by_tests (label_stands kept address name) (known_in labels st) (stand_in labels address st) (past_room (statement_size st) before room)
  unfolding line_number
  formed-number {st = st} f = rw (form-number f) (go (label_stands kept address name) (known_in labels st) (stand_in labels address st) (past_room (statement_size st) before room))
    where
      go : (b k f p : Bool) → let n : ℕ = pick k (pick f 0 34) 33 in pick (leb 30 n && leb n 32) n (pick b (pick (eqb n 0) (pick p 35 0) n) 33) ≡ by_tests b k f p
      go true true true p = refl
      go true true false p = refl
      go true false f p = refl
      go false true true p = refl
      go false true false p = refl
      go false false f p = refl

  label-fails : {body : List Token} {st : Statement} → FormOf body st → (Deep st → ⊥) → (label_stands kept address name && known_in labels st ≡ false) ↔ (Unkept kept name ⊎ Unknown labels st)
  label-fails {st = st} f n =
      let b = both_false (label_stands kept address name) (known_in labels st) in
      let l = stands-exactly kept address name in
      let k = known-fails labels f n in
      (λ h. elim (b.0 h) [ inl e ↦ inl (l.0 e) | inr e ↦ inr (k.0 e) ], λ x. b.1 (elim x [ inl u ↦ inl (l.1 u) | inr u ↦ inr (k.1 u) ]))

  past-exactly : (size : ℕ) → (past_room size before room ≡ true) ↔ ((0 < size) × (room < before + size))
  past-exactly size = (
    λ h. (ltb-true 0 size (both_left (ltb 0 size) (ltb room (before + size)) h), ltb-true room (before + size) (both_right (ltb 0 size) (ltb room (before + size)) h)),
    λ x. rw (lt-ltb 0 size x.0, lt-ltb room (before + size) x.1),
  )

  -- the number that a line has by its verdict
  as-formed : {body : List Token} {st : Statement} → FormOf body st → (Deep st → ⊥) → (b c d : Bool) → label_stands kept address name && known_in labels st ≡ b → stand_in labels address st ≡ c → past_room (statement_size st) before room ≡ d
      → number_of (statement_of body) ≡ pick b (pick c (pick d 35 0) 34) 33
  as-formed f n b c d p q r = ap number_of (form-is f n) ∙ formed-number f ∙ rw (p, q, r)

  verdict-number : {body : List Token} {n : ℕ} → Verdict labels kept address before room name body n → number_of (statement_of body) ≡ n
  verdict-number (no_word h) = ap number_of (no-word-is h) ∙ refused-number.0
  verdict-number {body} (no-form h k) = ap number_of (elim (line-formed body) [ inl x ↦ absurd (h x) | inr (inl e) ↦ e | inr (inr x) ↦ absurd (k x.0 x.1) ]) ∙ refused-number.1.0
  verdict-number (too-deep st f d) = ap number_of (elim (form-goes f) [ inl x ↦ x.1 | inr x ↦ absurd (x.0 d) ]) ∙ refused-number.1.1
  verdict-number (no_label st f n u) = as-formed f n false (stand_in labels address st) (past_room (statement_size st) before room) ((label-fails f n).1 u) refl refl
  verdict-number (no-fit st f n u v) = as-formed f n true false (past_room (statement_size st) before room) (holds _ (λ h. u ((label-fails f n).0 h))) ((stand-fails labels address f n).1 v) refl
  verdict-number (no_room st f n u v p) = as-formed f n true true true (holds _ (λ h. u ((label-fails f n).0 h))) (holds _ (λ h. v ((stand-fails labels address f n).0 h))) ((past-exactly (statement_size st)).1 p)
  verdict-number (is-done st f n u v p) = as-formed f n true true false (holds _ (λ h. u ((label-fails f n).0 h))) (holds _ (λ h. v ((stand-fails labels address f n).0 h))) (fails _ (λ h. p ((past-exactly (statement_size st)).0 h)))

  formed-unlike : {body : List Token} {st : Statement} (n : ℕ) → FormOf body st → st ≡ refused n → false ≡ true
  formed-unlike n empty e = cc
  formed-unlike n (listed two t ts trees) e = cc
  formed-unlike n (coded f ts ws i os take) e = cc

  verdict-of : (body : List Token) → Verdict labels kept address before room name body (number_of (statement_of body))
  verdict-of body = go (line-formed body)
    where
      by : {n : ℕ} → Verdict labels kept address before room name body n → Verdict labels kept address before room name body (number_of (statement_of body))
      by v = subst (Verdict labels kept address before room name body) (sym (verdict-number v)) v

      formless : statement_of body ≡ refused 31 → (st : Statement) → FormOf body st → ⊥
      formless e st f = elim (form-goes f) [
        | inl x ↦ absurd (omega (arith, sym refused-number.1.1 ∙ ap number_of (sym x.1 ∙ e) ∙ refused-number.1.0))
        | inr x ↦ false≢true (formed-unlike 31 f (sym x.1 ∙ e))
      ]

      form : (st : Statement) → FormOf body st → (Deep st → ⊥) → (b : Bool) → label_stands kept address name && known_in labels st ≡ b → (c : Bool) → stand_in labels address st ≡ c → (d : Bool) → past_room (statement_size st) before room ≡ d
          → Verdict labels kept address before room name body (number_of (statement_of body))
      form st f n false p c q d r = by (no_label st f n ((label-fails f n).0 p))
      form st f n true p false q d r = by (no-fit st f n (λ x. not-both p ((label-fails f n).1 x)) ((stand-fails labels address f n).0 q))
      form st f n true p true q true r = by (no_room st f n (λ x. not-both p ((label-fails f n).1 x)) (λ x. not-both q ((stand-fails labels address f n).1 x)) ((past-exactly (statement_size st)).0 r))
      form st f n true p true q false r = by (is-done st f n (λ x. not-both p ((label-fails f n).1 x)) (λ x. not-both q ((stand-fails labels address f n).1 x)) (λ x. not-both ((past-exactly (statement_size st)).1 x) r))

      go : NoWord body ⊎ ((statement_of body ≡ refused 31) ⊎ ((st : Statement) × FormOf body st)) → Verdict labels kept address before room name body (number_of (statement_of body))
      go (inl x) = by (no_word x)
      go (inr (inl e)) = by (no-form (λ x. absurd (omega (arith, sym refused-number.0 ∙ ap number_of (sym (no-word-is x) ∙ e) ∙ refused-number.1.0))) (formless e))
      go (inr (inr (st, f))) = elim (form-goes f) [ inl x ↦ by (too-deep st f x.0) | inr x ↦ form st f x.0 _ refl _ refl _ refl ]

-- a line has a number exactly by what it says
pub line-exactly : (labels kept : List Label) (address before room : ℕ) (line : List ℕ) (n : ℕ)
    → (line_number labels kept address before room (said_by line) ≡ n) ↔ Verdict labels kept address before room (headed_by (tokens_of line)).name (headed_by (tokens_of line)).body n
unfolding said_by
line-exactly labels kept address before room line n =
    let h = headed_by (tokens_of line) in
    (λ e. subst (Verdict labels kept address before room h.name h.body) e (verdict-of labels kept address before room h.name h.body), λ v. verdict-number labels kept address before room h.name v)
