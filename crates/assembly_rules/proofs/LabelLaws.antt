-- The labels of a text: lines add labels behind those that are kept; each is kept by a line at its address, mod 65,536; no two have one name.
-- Assumes nothing.
use mathlib.Core.Path.{◌≡◌, refl, sym, ap, ◌∙◌}
use mathlib.Core.Bool.{Bool, true, false, not, ◌||◌, false≢true}
use mathlib.Core.List.Memᴰ.{head as here}
use mathlib.Core.List.Memᴰ.{tail as later}
use mathlib.Core.List.{List, [], ◌∷◌, ◌++◌, append_assoc, append-nil, Memᴰ as In}
use mathlib.Core.Logic.{◌⊎◌, inl, inr, ◌↔◌}
use Prim.Native.Nat.{ℕ, zero, suc, ◌+◌, ◌%◌, ◌≤◌, ◌<◌}
use native.Mathlib.Omega.{arith}
use native.Mathlib.Nat.{mod-mod, mod-add-mod, add-zero, add_assoc}
use lib.Dec.{ltb, leb}
use lib.ListN.{length, length-append, get_or, take, get_or-append}
use borrow.Author.Tests.{leb-true, ltb-true, ltb-false, not-true}
use Rattle.ground_rules.specs.Choice.{pick}
use Rattle.listing_rules.specs.Characters.{same_text}
use Rattle.assembly_rules.specs.declared.Worth.{Worth}
use Rattle.assembly_rules.specs.Sums.{Label, label, label_worth, worth}
use Rattle.assembly_rules.specs.Statements.{Statement, statement_size}
use Rattle.assembly_rules.specs.Assembly.{Said, is_reserved, may_keep, kept_with, labels_from}
use Rattle.assembly_rules.proofs.TestLaws.{as_some}
use Rattle.assembly_rules.proofs.WritingLaws.{both_left, both_right}
use Rattle.assembly_rules.proofs.ScanLaws.{same-is, is_same}

-- a list that goes on behind another
abbrev pub KeptFirst : List Label → List Label → Type 0
KeptFirst kept labels = (more : List Label) × (labels ≡ kept ++ more)

kept-grows : (kept : List Label) (address : ℕ) (name : List ℕ) → KeptFirst kept (kept_with kept address name)
unfolding kept_with
kept-grows kept address [] = ([], sym (append-nil kept))
kept-grows kept address (c ∷ cs) =
    elim (may_keep kept (c ∷ cs)) as (λ b. KeptFirst kept (pick b (kept ++ (label (c ∷ cs) address ∷ [])) kept)) [ true ↦ (label (c ∷ cs) address ∷ [], refl) | false ↦ ([], sym (append-nil kept)) ]

-- the labels of some lines begin with those that were kept before
pub labels-grow : (said : List Said) (kept : List Label) (address : ℕ) → KeptFirst kept (labels_from kept address said)
unfolding labels_from
labels-grow [] kept address = ([], sym (append-nil kept))
labels-grow (s ∷ more) kept address =
    let one = kept-grows kept (address % 65536) s.name in
    let rest = labels-grow more (kept_with kept (address % 65536) s.name) (address + statement_size s.statement) in
    (one.0 ++ rest.0, rest.1 ∙ ap (λ (x : List Label). x ++ rest.0) one.1 ∙ append_assoc kept one.0 rest.0)

-- equal addresses mod 65,536 have the same labels
pub labels-mod : (said : List Said) (kept : List Label) (a b : ℕ) → a % 65536 ≡ b % 65536 → labels_from kept a said ≡ labels_from kept b said
unfolding labels_from
labels-mod [] kept a b e = refl
labels-mod (s ∷ more) kept a b e =
    let n = statement_size s.statement in
    let later : (a + n) % 65536 ≡ (b + n) % 65536 = sym (mod-add-mod a 65536 n) ∙ ap (λ (x : ℕ). (x + n) % 65536) e ∙ mod-add-mod b 65536 n in
    ap (λ (x : ℕ). labels_from (kept_with kept x s.name) (a + n) more) e ∙ labels-mod more (kept_with kept (b % 65536) s.name) (a + n) (b + n) later

pub labels-reduced : (said : List Said) (kept : List Label) (address : ℕ) → labels_from kept (address % 65536) said ≡ labels_from kept address said
labels-reduced said kept address = labels-mod said kept (address % 65536) address (mod-mod address 65536)

-- how many bytes some lines have
unfoldable pub sizes_of : List Said → ℕ
sizes_of [] = 0
sizes_of (s ∷ more) = statement_size s.statement + sizes_of more

-- a line that says nothing
abbrev pub quiet : Said
quiet = record { name = []; statement = Statement.blank }

-- the label of a line, by its place: one that may be kept behind those of the lines before it, at first and their bytes
abbrev pub KeptAt : List Label → ℕ → List Said → Label → ℕ → Type 0
KeptAt kept first said l i =
    let name = (get_or said i quiet).name in
    (name ≡ [] → ⊥) × ((may_keep (labels_from kept first (take i said)) name ≡ true) × (l ≡ label name ((first + sizes_of (take i said)) % 65536)))

-- one of some and one more
in-last : {A : Type 0} {a b : A} (l : List A) → In a (l ++ (b ∷ [])) → In a l ⊎ (a ≡ b)
in-last [] (here e) = inr e
in-last [] (later m) = elim m [ ]
in-last (x ∷ l) (here e) = inl (here e)
in-last (x ∷ l) (later m) = elim (in-last l m) [ inl k ↦ inl (later k) | inr e ↦ inr e ]

in-front : {A : Type 0} {a : A} {l : List A} (more : List A) → In a l → In a (l ++ more)
in-front more (here e) = here e
in-front more (later m) = later (in-front more m)

in_end : {A : Type 0} (a : A) (l : List A) → In a (l ++ (a ∷ []))
in_end a [] = here refl
in_end a (x ∷ l) = later (in_end a l)

-- a label that is one of those kept and a line's own: kept before, or the line's
kept-or-new : (kept : List Label) (address : ℕ) (name : List ℕ) (l : Label) → In l (kept_with kept address name) → In l kept ⊎ ((name ≡ [] → ⊥) × ((may_keep kept name ≡ true) × (l ≡ label name address)))
unfolding kept_with
kept-or-new kept address [] l m = inl m
kept-or-new kept address (c ∷ cs) l m =
    (elim (may_keep kept (c ∷ cs)) as (λ b. may_keep kept (c ∷ cs) ≡ b → In l (pick b (kept ++ (label (c ∷ cs) address ∷ [])) kept) → In l kept ⊎ ((c ∷ cs ≡ [] → ⊥) × ((may_keep kept (c ∷ cs) ≡ true) × (l ≡ label (c ∷ cs) address)))) [
      | true ↦ λ e k. elim (in-last kept k) [ inl i ↦ inl i | inr s ↦ inr (λ z. absurd (omega (arith, ap length z)), (e, s)) ]
      | false ↦ λ e k. inl k
    ]) refl m

labels-told : (said : List Said) (kept : List Label) (first : ℕ) (l : Label) → In l (labels_from kept first said) → In l kept ⊎ ((i : ℕ) × KeptAt kept first said l i)
unfolding labels_from sizes_of
labels-told [] kept first l m = inl m
labels-told (s ∷ more) kept first l m =
    let size = statement_size s.statement in
    elim (labels-told more (kept_with kept (first % 65536) s.name) (first + size) l m) [
      | inl i ↦ elim (kept-or-new kept (first % 65536) s.name l i) [ inl m ↦ inl m | inr n ↦ inr (0, (n.0, (n.1.0, n.1.1 ∙ ap (λ (x : ℕ). label s.name (x % 65536)) (sym (add-zero first))))) ]
      | inr k ↦ inr (suc k.0, (k.1.0, (k.1.1.0, k.1.1.1 ∙ ap (λ (x : ℕ). label (get_or more k.0 quiet).name (x % 65536)) (add_assoc first size (sizes_of (take k.0 more))))))
    ]

new-kept : (kept : List Label) (address : ℕ) (name : List ℕ) → (name ≡ [] → ⊥) → may_keep kept name ≡ true → In (label name address) (kept_with kept address name)
unfolding kept_with
new-kept kept address [] n h = absurd (n refl)
new-kept kept address (c ∷ cs) n h = rw h (in_end (label (c ∷ cs) address) kept)

line-keeps : (said : List Said) (kept : List Label) (first : ℕ) (l : Label) (i : ℕ) → KeptAt kept first said l i → In l (labels_from kept first said)
unfolding labels_from sizes_of
line-keeps [] kept first l i k = absurd (k.0 refl)
line-keeps (s ∷ more) kept first l zero k =
    let g = labels-grow more (kept_with kept (first % 65536) s.name) (first + statement_size s.statement) in
    rw (k.1.1, add-zero first, g.1) (in-front g.0 (new-kept kept (first % 65536) s.name k.0 k.1.0))
line-keeps (s ∷ more) kept first l (suc i) k =
    line-keeps more (kept_with kept (first % 65536) s.name) (first + statement_size s.statement) l i (k.0, (k.1.0, k.1.1 ∙ ap (λ (x : ℕ). label (get_or more i quiet).name (x % 65536)) (sym (add_assoc first (statement_size s.statement) (sizes_of (take i more))))))

-- the labels of a text are those that a line keeps, each at first and the bytes of the lines before it
pub labels-exactly : (said : List Said) (first : ℕ) (l : Label) → In l (labels_from [] first said) ↔ ((i : ℕ) × KeptAt [] first said l i)
labels-exactly said first l = (λ m. elim (labels-told said [] first l m) [ inl i ↦ elim i [ ] | inr k ↦ k ], λ k. line-keeps said [] first l k.0 k.1)

-- a name is known exactly where it is that of a label
pub known-exactly : (labels : List Label) (name : List ℕ) → ((label_worth labels name).known ≡ true) ↔ ((l : Label) × (In l labels × (l.name ≡ name)))
unfolding label_worth
known-exactly labels name =
    let s = as_some (λ l. same_text l.name name) (λ ls. (label_worth ls name).known) refl (λ l ls. next (same_text l.name name) l.address (label_worth ls name)) labels in
    (λ h. let x = s.0 h in (x.0, (x.1.0, same-is x.0.name name x.1.1)), λ x. s.1 (x.0, (x.1.0, rw x.1.1 (is_same name))))
  where
    next : (b : Bool) (a : ℕ) (w : Worth) → (pick b (worth a true) w).known ≡ b || w.known
    next true a w = refl
    next false a w = refl

-- and then it is worth that label's address
worth-told : (labels : List Label) (name : List ℕ) → (label_worth labels name).known ≡ true → (l : Label) × (In l labels × ((l.name ≡ name) × ((label_worth labels name).value ≡ l.address)))
unfolding label_worth
worth-told [] name h = absurd (false≢true h)
worth-told (l ∷ ls) name h =
    let one : Bool → Worth = λ b. pick b (worth l.address true) (label_worth ls name) in
    (elim (same_text l.name name) as (λ b. same_text l.name name ≡ b → (one b).known ≡ true → (m : Label) × (In m (l ∷ ls) × ((m.name ≡ name) × ((one b).value ≡ m.address)))) [
      | true ↦ λ e k. (l, (here refl, (same-is l.name name e, refl)))
      | false ↦ λ e k. let x = worth-told ls name k in (x.0, (later x.1.0, x.1.1))
    ]) refl h

-- so a name that is known is that of a line, and worth first and the bytes of the lines before it
pub name-worth : (said : List Said) (first : ℕ) (name : List ℕ) → let w = label_worth (labels_from [] first said) name in w.known ≡ true → (i : ℕ) × (((get_or said i quiet).name ≡ name) × (w.value ≡ (first + sizes_of (take i said)) % 65536))
name-worth said first name h =
    let x = worth-told (labels_from [] first said) name h in
    let k = (labels-exactly said first x.0).0 x.1.0 in
    let e = k.1.1.1 in
    (k.0, (sym (ap (λ (l : Label). l.name) e) ∙ x.1.1.0, x.1.1.1 ∙ ap (λ (l : Label). l.address) e))

-- the name at a place of a list of labels; two places never have one name
abbrev pub label_named : List Label → ℕ → List ℕ
label_named labels i = (get_or labels i (label [] 0)).name

abbrev pub NamesApart : List Label → Type 0
NamesApart labels = (i j : ℕ) → i < j → j < length labels → label_named labels i ≡ label_named labels j → ⊥

in-at : (labels : List Label) (i : ℕ) (d : Label) → i < length labels → In (get_or labels i d) labels
in-at [] i d h = absurd (omega arith)
in-at (l ∷ ls) zero d h = here refl
in-at (l ∷ ls) (suc i) d h = later (in-at ls i d (omega arith))

at-end : (labels : List Label) (l d : Label) → get_or (labels ++ (l ∷ [])) (length labels) d ≡ l
at-end [] l d = refl
at-end (m ∷ ls) l d = at-end ls l d

new_apart : (kept : List Label) (name : List ℕ) (address : ℕ) → (label_worth kept name).known ≡ false → NamesApart kept → NamesApart (kept ++ (label name address ∷ []))
new_apart kept name address h k i j l m e = go (ltb j (length kept)) refl
  where
    new : List Label
    new = label name address ∷ []

    before : (n : ℕ) → n < length kept → label_named (kept ++ new) n ≡ label_named kept n
    before n b = ap (λ (x : Label). x.name) (get_or-append kept new (label [] 0) n b)

    go : (b : Bool) → ltb j (length kept) ≡ b → ⊥
    go true t = let b = ltb-true j (length kept) t in k i j l b (sym (before i (omega arith)) ∙ e ∙ before j b)
    go false t =
        let b = ltb-false j (length kept) t in
        let z : j ≡ length kept = omega (arith, length-append kept new) in
        let n : label_named kept i ≡ name = sym (before i (omega arith)) ∙ e ∙ ap (label_named (kept ++ new)) z ∙ ap (λ (x : Label). x.name) (at-end kept (label name address) (label [] 0)) in
        false≢true (sym h ∙ (known-exactly kept name).1 (get_or kept i (label [] 0), (in-at kept i (label [] 0) (omega arith), n)))

-- a label that may be kept
pub may-parts : (kept : List Label) (name : List ℕ) → may_keep kept name ≡ true → (length name ≤ 12) × (((label_worth kept name).known ≡ false) × ((is_reserved name ≡ false) × (length kept < 64)))
unfolding may_keep
may-parts kept name h =
    let a = both_right (leb (length name) 12) _ h in
    let b = both_right (not (label_worth kept name).known) _ a in (
      leb-true (length name) 12 (both_left (leb (length name) 12) _ h),
      (not-true (label_worth kept name).known (both_left (not (label_worth kept name).known) _ a), (not-true (is_reserved name) (both_left (not (is_reserved name)) _ b), ltb-true (length kept) 64 (both_right (not (is_reserved name)) _ b))),
    )

kept-apart : (kept : List Label) (address : ℕ) (name : List ℕ) → NamesApart kept → NamesApart (kept_with kept address name)
unfolding kept_with
kept-apart kept address [] h = h
kept-apart kept address (c ∷ cs) h =
    (elim (may_keep kept (c ∷ cs)) as (λ b. may_keep kept (c ∷ cs) ≡ b → NamesApart (pick b (kept ++ (label (c ∷ cs) address ∷ [])) kept)) [ true ↦ λ e. new_apart kept (c ∷ cs) address (may-parts kept (c ∷ cs) e).1.0 h | false ↦ λ e. h ]) refl

-- no two labels of a text have one name
pub labels_apart : (said : List Said) (kept : List Label) (first : ℕ) → NamesApart kept → NamesApart (labels_from kept first said)
unfolding labels_from
labels_apart [] kept first h = h
labels_apart (s ∷ more) kept first h = labels_apart more (kept_with kept (first % 65536) s.name) (first + statement_size s.statement) (kept-apart kept (first % 65536) s.name h)
