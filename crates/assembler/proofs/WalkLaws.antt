-- Lines by their places, labels in two arrays, and what the passes come to.
-- Assumes nothing.
use Rattle.std.specs.Prelude.{Option, Some, None, IfSome, Result, is_some}
use mathlib.Core.Path.{◌≡◌, refl, sym, ap, subst, ◌∙◌}
use mathlib.Core.Bool.{Bool, true, false, not, ◌&&◌, false≢true}
use mathlib.Core.List.{List, [], ◌∷◌, ◌++◌, append_assoc, append-nil}
use mathlib.Core.Logic.{⊎_elim}
use Prim.Native.Nat.{ℕ, zero, suc, ◌+◌, ◌*◌, ◌-◌, ◌%◌, ◌≤◌, ◌<◌}
use native.Mathlib.Omega.{arith}
use native.Mathlib.Numerals.{add-one}
use native.Mathlib.Nat.{mod-eq_of_lt, mod-lt, mod-add-mod, add_assoc, min-eq_left, le_refl}
use lib.Dec.{eqb, ltb, leb}
use lib.ListN.{length, take, drop, set, length-drop, length-take, length-append, drop_of_length-le}
use lib.Seq.{take_at, drop_at, take-suc-set, drop-drop}
use borrow.Author.Tests.{eqb-true, eq-eqb, ne_eqb, le-leb, lt-leb, leb-true, ltb-true, ltb-false, lt-ltb, le-ltb}
use borrow.Author.Rules.{part_to_end}
use borrow.Rule.Slice.PartMut.{put_mid, Post-is}
use Rattle.ground_rules.specs.Choice.{pick}
use Rattle.assembly_rules.specs.Text.{capital_of, capitals, is_digit, is_capital, is_run, ends_line, Begun, begun, in_front_of, begun_by, tokens_of, all_of, ahead, cut_at, lines_in}
use Rattle.assembly_rules.specs.Sums.{Label, label, label_worth}
use Rattle.assembly_rules.specs.Statements.{Headed, Statement, statement_of, statement_size, statement_number, statement_bytes, items_known, names_known}
use Rattle.assembly_rules.specs.Statements.Statement.{refused}
use Rattle.assembly_rules.specs.Assembly.{Said, said_by, said_in, is_reserved, may_keep, kept_with, labels_from, label_stands, past_room, line_number, assemble_of, assembled_into}
use Rattle.assembly_rules.proofs.WholeLaws.{kept-once}
use Rattle.assembly_rules.proofs.LabelLaws.{labels-reduced, labels-grow}
use Rattle.assembly_rules.proofs.PassLaws.{Failed, failed, failed_from, bytes_from, line-inside, passed, passes, said-sized, bytes_inside}
use Rattle.assembly_rules.proofs.ByteLaws.{are_bytes, bytes-parts, said-stores}
use Rattle.assembly_rules.proofs.WritingLaws.{both_left, both_right}
use Rattle.assembly_rules.proofs.SizeLaws.{statement-sized}
use Rattle.assembler_text.specs.Places.{leading, between, name_at, labels_at, address_worth}
use Rattle.assembly_rules.specs.declared.Worth.{Worth}
use Rattle.assembler_text.proofs.PlaceLaws.{from-here}
use Rattle.assembler_text.proofs.NameLaws.{capitals-length}
use Rattle.assembler_forms.specs.Rows.{left_behind}
use Rattle.assembler_lines.specs.declared.bodies.NameSpan.{NameSpan}
use Rattle.assembler_lines.specs.declared.bodies.Head.{Head}
use Rattle.assembler_lines.specs.declared.bodies.Body.{Body}
use Rattle.assembler_lines.specs.declared.bodies.Body.TheVariants.{Blank, Items, Instruction}
use Rattle.assembler_lines.specs.declared.bodies.LineRefusal.{LineRefusal}
use Rattle.assembler_lines.specs.declared.bodies.LineRefusal.TheVariants.{UnknownWord, UnknownForm, TooDeep, UnknownName, OutOfRange, NoRoom}
use Rattle.assembler_lines.specs.Bodies.{line_refusal_number, span_name, SpanIs, HeadIs, Says, BodyIs}
use Rattle.assembler_bytes.specs.Laid.{bytes_laid}
use Rattle.assembler_bytes.proofs.PlacedLaws.{refused-number}
use Rattle.assembler.specs.declared.lines.LineRead.{LineRead}
use Rattle.assembler.specs.declared.passes.Refused.{Refused}
use Rattle.assembler.specs.Passes.{in_line, line_stop, line_next, said_at, said_from, said_to, LineIs, labels_in, behind, capped_count, assembly_word}

-- a line feed ends a line
front-feed : (c : ℕ) (b : Begun) → c ≡ 10 → in_front_of c b ≡ begun [] []
unfolding in_front_of is_run is_digit is_capital capital_of ends_line
front-feed c b e = rw e

-- what a line begins with is what its characters up to the line feed begin with
begun-line : (cs : List ℕ) → begun_by (take (leading in_line cs) cs) ≡ begun_by cs
unfolding leading begun_by
begun-line [] = refl
begun-line (c ∷ cs) = go (eqb c 10) refl (begun-line cs)
  where
    go : (b : Bool) → eqb c 10 ≡ b → begun_by (take (leading in_line cs) cs) ≡ begun_by cs → begun_by (take (pick (not b) (suc (leading in_line cs)) 0) (c ∷ cs)) ≡ in_front_of c (begun_by cs)
    go true e later = sym (front-feed c (begun_by cs) (eqb-true c 10 e))
    go false e later = ap (in_front_of c) later

tokens-line : (cs : List ℕ) → tokens_of (take (leading in_line cs) cs) ≡ tokens_of cs
unfolding tokens_of
tokens-line cs = ap all_of (begun-line cs)

-- the first line, and the lines behind its line feed
abbrev lines_past : List ℕ → List (List ℕ)
lines_past [] = []
lines_past (c ∷ cs) = lines_in cs

lines_cut : (cs : List ℕ) → lines_in cs ≡ take (leading in_line cs) cs ∷ lines_past (drop (leading in_line cs) cs)
unfolding lines_in cut_at leading
lines_cut [] = refl
lines_cut (c ∷ cs) = go (eqb c 10) (lines_cut cs)
  where
    go : (b : Bool) → lines_in cs ≡ take (leading in_line cs) cs ∷ lines_past (drop (leading in_line cs) cs)
        → pick b ([] ∷ lines_in cs) (ahead c (lines_in cs)) ≡ take (pick (not b) (suc (leading in_line cs)) 0) (c ∷ cs) ∷ lines_past (drop (pick (not b) (suc (leading in_line cs)) 0) (c ∷ cs))
    go true later = refl
    go false later = ap (ahead c) later

-- what the line at a place says, and the lines behind it
said-line : (cs : List ℕ) → said_by (take (leading in_line cs) cs) ≡ said_by cs
unfolding said_by
said-line cs = rw (tokens-line cs)

pub said-cut : (text : List ℕ) (at : ℕ) → said_from text at ≡ said_at text at ∷ said_in (lines_past (drop (line_stop text at) text))
unfolding said_from said_at said_in said_by line_stop
said-cut text at =
    ap said_in (lines_cut (drop at text))
    ∙ ap (λ (s : Said). s ∷ said_in (lines_past (drop (leading in_line (drop at text)) (drop at text)))) (said-line (drop at text))
    ∙ ap (λ (x : List ℕ). said_by (drop at text) ∷ said_in (lines_past x)) (drop-drop (leading in_line (drop at text)) at text)

module _ (text : List ℕ) (at end : ℕ) (e : end ≡ line_stop text at) where
  pub said-last : length text ≤ end → said_from text at ≡ said_at text at ∷ []
  unfolding said_in
  said-last h = said-cut text at ∙ rw (← e, drop_of_length-le text h)

  pub said-next : end < length text → said_from text at ≡ said_at text at ∷ said_from text (end + 1)
  unfolding said_from
  said-next h = said-cut text at ∙ rw (← e, from-here text end h)

pub end-behind : (text : List ℕ) (at : ℕ) → at ≤ line_stop text at
unfolding line_stop
end-behind text at = omega arith

-- one more label behind others, in both arrays
labels-more : (text places addresses : List ℕ) (place address : ℕ) → length places ≡ length addresses → labels_at text (places ++ (place ∷ [])) (addresses ++ (address ∷ [])) ≡ labels_at text places addresses ++ (label (name_at text place) address ∷ [])
unfolding labels_at
labels-more text [] [] place address h = refl
labels-more text [] (a ∷ addresses) place address h = absurd (omega arith)
labels-more text (p ∷ places) [] place address h = absurd (omega arith)
labels-more text (p ∷ places) (a ∷ addresses) place address h = ap (λ (l : List Label). label (name_at text p) a ∷ l) (labels-more text places addresses place address (omega arith))

pub labels-kept : (text places addresses : List ℕ) (count place address : ℕ) → length places ≡ 64 → length addresses ≡ 64 → count < 64 → labels_in text (set places count place) (set addresses count address) (count + 1) ≡ labels_in text places addresses count ++ (label (name_at text place) address ∷ [])
labels-kept text places addresses count place address h k l =
    let p = take-suc-set places count place (omega arith) in
    let a = take-suc-set addresses count address (omega arith) in
    rw (add-one count, p, a) (labels-more text (take count places) (take count addresses) place address (simp length-take (omega arith)))

-- as many labels as places
pub labels-many : (text places addresses : List ℕ) → length places ≡ length addresses → length (labels_at text places addresses) ≡ length places
unfolding labels_at
labels-many text [] addresses h = refl
labels-many text (p ∷ places) [] h = absurd (omega arith)
labels-many text (p ∷ places) (a ∷ addresses) h = ap suc (labels-many text places addresses (omega arith))

pub labels-count : (text places addresses : List ℕ) (count : ℕ) → length places ≡ length addresses → count ≤ length places → length (labels_in text places addresses count) ≡ count
labels-count text places addresses count h l = labels-many text (take count places) (take count addresses) (simp length-take (omega arith)) ∙ simp length-take (omega arith)

-- how long a name is
pub name-length : (text : List ℕ) (from to : ℕ) → from < to → to ≤ length text → length (capitals (between text from to)) ≡ to - from
name-length text from to h k = capitals-length (between text from to) ∙ simp (length-take, length-drop) (omega arith)

-- when a label may be kept
module _ (kept : List Label) (name : List ℕ) where
  pub keep-long : 12 < length name → false ≡ may_keep kept name
  unfolding may_keep
  keep-long h = rw (lt-leb (length name) 12 h)

  -- a name with an address is a label's
  address-known : (a : Option ℕ) → address_worth a ≡ label_worth kept name → is_some a ≡ (label_worth kept name).known
  unfolding address_worth
  address-known None e = ap (λ (w : Worth). w.known) e
  address-known (Some n) e = ap (λ (w : Worth). w.known) e

  pub keep_known : (a : Option ℕ) → address_worth a ≡ label_worth kept name → is_some a ≡ true → false ≡ may_keep kept name
  keep_known a e h = sym (kept-once kept name (sym (address-known a e) ∙ h))

  pub keep-reserved : is_reserved name ≡ true → false ≡ may_keep kept name
  unfolding may_keep
  keep-reserved h = rw h (go (leb (length name) 12) (label_worth kept name).known)
    where
      go : (a b : Bool) → false ≡ a && (not b && false)
      go true true = refl
      go true false = refl
      go false b = refl

  pub keep-may : length name ≤ 12 → (a : Option ℕ) → address_worth a ≡ label_worth kept name → is_some a ≡ false → is_reserved name ≡ false → (n : ℕ) → n ≡ length kept → ltb n 64 ≡ may_keep kept name
  unfolding may_keep
  keep-may h a k o r n e = rw (le-leb (length name) 12 h, sym (address-known a k) ∙ o, r, e)

-- the labels with one that may be kept, and without
pub keep-not : (kept : List Label) (address : ℕ) (name : List ℕ) → may_keep kept name ≡ false → kept_with kept address name ≡ kept
unfolding kept_with
keep-not kept address [] h = refl
keep-not kept address (c ∷ cs) h = rw h

pub keep_one : (kept : List Label) (address : ℕ) (name : List ℕ) → 0 < length name → may_keep kept name ≡ true → kept_with kept address name ≡ kept ++ (label name address ∷ [])
unfolding kept_with
keep_one kept address [] h k = absurd (omega arith)
keep_one kept address (c ∷ cs) h k = rw k

-- a label that a line has, in the arrays
module _ (text : List ℕ) (name : NameSpan) (fits : SpanIs text name) (kept : List Label) (address : ℕ) where
  pub kept_same : may_keep kept (capitals (between text name.from name.to)) ≡ false → kept ≡ kept_with kept address (capitals (between text name.from name.to))
  kept_same e = sym (keep-not kept address (capitals (between text name.from name.to)) e)

  pub kept_more : may_keep kept (capitals (between text name.from name.to)) ≡ true → kept ++ (label (name_at text name.from) address ∷ []) ≡ kept_with kept address (capitals (between text name.from name.to))
  kept_more e = rw fits.name (sym (keep_one kept address (capitals (between text name.from name.to)) (omega (arith, name-length text name.from name.to fits.some fits.inside, fits.some)) e))

-- what is read of a line's front is what it says
said-head : (text : List ℕ) (at : ℕ) (h : Head) → HeadIs text at h → said_at text at ≡ record { name = span_name text h.label; statement = statement_of (tokens_of (drop h.body text)) }
unfolding said_at
said-head text at h is = ap (λ (x : Headed). record { name = x.name; statement = statement_of x.body }) is.line

-- the lines from a place on: the first, and those behind it
said-split : (text : List ℕ) (at : ℕ) → said_from text at ≡ said_at text at ∷ said_to text (line_next text at)
unfolding line_next
said-split text at = go (ltb (line_stop text at) (length text)) refl
  where
    go : (b : Bool) → ltb (line_stop text at) (length text) ≡ b → said_from text at ≡ said_at text at ∷ said_to text (pick b (Some (line_stop text at + 1)) None)
    go true e = said-next text at _ refl (ltb-true (line_stop text at) (length text) e)
    go false e = said-last text at _ refl (ltb-false (line_stop text at) (length text) e)

next-behind : (text : List ℕ) (at : ℕ) → left_behind text (line_next text at) < 1 + (length text - at)
unfolding line_next
next-behind text at = go (ltb (line_stop text at) (length text)) refl
  where
    go : (b : Bool) → ltb (line_stop text at) (length text) ≡ b → left_behind text (pick b (Some (line_stop text at + 1)) None) < 1 + (length text - at)
    go true e = omega (arith, end-behind text at, ltb-true (line_stop text at) (length text) e)
    go false e = omega arith

pub line-is : (text : List ℕ) (at : ℕ) (h : Head) → HeadIs text at h → (b : Result Body LineRefusal) → BodyIs text b (statement_of (tokens_of (drop h.body text))) → (size : ℕ) → size ≡ statement_size (statement_of (tokens_of (drop h.body text)))
    → LineIs text at (record { label = h.label; said = b; size = size })
line-is text at h is b body size sized =
    record {
      tokens = tokens_of (drop h.body text);
      says = said-split text at ∙ ap (λ (s : Said). s ∷ said_to text (line_next text at)) (said-head text at h is);
      body = body;
      label = is.label;
      size = sized;
      behind = next-behind text at;
    }

-- one line of the first pass
pub labels-step : (kept : List Label) (address : ℕ) → address < 65536 → (s : Said) (more all : List Said) → all ≡ s ∷ more → (size : ℕ) → size ≡ statement_size s.statement
    → (grown : List Label) → grown ≡ kept_with kept address s.name → (next : ℕ) → next ≡ behind address size → labels_from grown next more ≡ labels_from kept address all
unfolding labels_from
labels-step kept address small s more all e size n grown g next a =
    rw (g, a, n) (labels-reduced more (kept_with kept address s.name) (address + statement_size s.statement))
    ∙ ap (λ (x : ℕ). labels_from (kept_with kept x s.name) (address + statement_size s.statement) more) (sym (mod-eq_of_lt small))
    ∙ sym (ap (labels_from kept address) e)

pub labels-none : (kept : List Label) (address : ℕ) → labels_from kept address [] ≡ kept
unfolding labels_from
labels-none kept address = refl

-- a label that stands
pub stands-none : (kept : List Label) (address : ℕ) → true ≡ label_stands kept address []
unfolding label_stands
stands-none kept address = refl

stands-name : (kept : List Label) (address : ℕ) (name : List ℕ) → 0 < length name → label_stands kept address name ≡ may_keep kept name
unfolding label_stands
stands-name kept address [] h = absurd (omega arith)
stands-name kept address (c ∷ cs) h = refl

pub stands-may : (text : List ℕ) (name : NameSpan) → SpanIs text name → (kept : List Label) (address : ℕ) → may_keep kept (capitals (between text name.from name.to)) ≡ label_stands kept address (capitals (between text name.from name.to))
stands-may text name fits kept address = sym (stands-name kept address (capitals (between text name.from name.to)) (omega (arith, name-length text name.from name.to fits.some fits.inside, fits.some)))

-- the first so many labels of those in two arrays
pub stands-first : (text places addresses : List ℕ) (count : ℕ) (ps qs : List ℕ) → ps ≡ take count places → qs ≡ take count addresses → (b : Bool) (address : ℕ) (name : List ℕ) → b ≡ label_stands (labels_at text ps qs) address name → b ≡ label_stands (labels_in text places addresses count) address name
stands-first text places addresses count ps qs p q b address name e = e ∙ ap (λ (x : List ℕ). label_stands (labels_at text x qs) address name) p ∙ ap (λ (x : List ℕ). label_stands (labels_at text (take count places) x) address name) q

-- how many labels are kept behind a line whose label stands
stands-count : (text : List ℕ) (l : Option NameSpan) → IfSome l (SpanIs text) → (kept : List Label) (address : ℕ) → label_stands kept address (span_name text l) ≡ true → length (kept_with kept address (span_name text l)) ≡ pick (is_some l) (length kept + 1) (length kept)
unfolding kept_with
stands-count text None fits kept address e = refl
stands-count text (Some name) fits kept address e = ap length (sym (kept_more text name fits kept address (stands-may text name fits kept address ∙ e))) ∙ length-append kept (label (name_at text name.from) address ∷ [])

-- some labels of those in two arrays
labels-taken : (text places addresses : List ℕ) (n : ℕ) → take n (labels_at text places addresses) ≡ labels_in text places addresses n
unfolding labels_at
labels-taken text places addresses zero = refl
labels-taken text [] addresses (suc n) = refl
labels-taken text (p ∷ places) [] (suc n) = refl
labels-taken text (p ∷ places) (a ∷ addresses) (suc n) = ap (λ (l : List Label). label (name_at text p) a ∷ l) (labels-taken text places addresses n)

-- labels that lines only add to are the first in the arrays
module _ (text places addresses : List ℕ) (same : length places ≡ length addresses) (kept : List Label) (address : ℕ) (said : List Said) (all : labels_from kept address said ≡ labels_at text places addresses) where
  grown : (more : List Label) × (labels_at text places addresses ≡ kept ++ more)
  grown = let g = labels-grow said kept address in (g.0, sym all ∙ g.1)

  pub kept-first : kept ≡ labels_in text places addresses (length kept)
  kept-first = sym (take_at kept grown.0 (length kept) refl) ∙ ap (take (length kept)) (sym grown.1) ∙ labels-taken text places addresses (length kept)

  pub kept-inside : length kept ≤ length places
  kept-inside = omega (arith, ap length grown.1, length-append kept grown.0, labels-many text places addresses same)

-- the number of a line
both_false : (b : Bool) → b && false ≡ false
both_false true = refl
both_false false = refl

past-left : (size before left : ℕ) → past_room size before (before + left) ≡ ltb left size
past-left size before left = go (ltb left size) refl
  where
    go : (b : Bool) → ltb left size ≡ b → past_room size before (before + left) ≡ b
    go true e = let l = ltb-true left size e in rw (lt-ltb 0 size (omega arith), lt-ltb (before + left) (before + size) (omega arith))
    go false e = let l = ltb-false left size e in rw (le-ltb (before + left) (before + size) (omega arith)) (both_false (ltb 0 size))

module _ (labels kept : List Label) (address before left : ℕ) (s : Said) (n : ℕ) (is : n ≡ statement_number labels address s.statement) where
  pub line-told : (shown stands none past : Bool) → leb 30 n && leb n 32 ≡ shown → stands ≡ label_stands kept address s.name → eqb n 0 ≡ none → ltb left (statement_size s.statement) ≡ past
      → pick shown n (pick stands (pick none (pick past 35 0) n) 33) ≡ line_number labels kept address before (before + left) s
  unfolding line_number
  line-told shown stands none past a b c d = rw (← is, past-left (statement_size s.statement) before left, a, ← b, c, d)

-- a line that is no refusal has no number that the line itself shows
numbers : (a b : Bool) → leb 30 (pick a (pick b 0 34) 33) && leb (pick a (pick b 0 34) 33) 32 ≡ false
numbers true true = refl
numbers true false = refl
numbers false b = refl

says-plain : (labels : List Label) (address : ℕ) (text : List ℕ) (b : Body) (s : Statement) → Says text b s → leb 30 (statement_number labels address s) && leb (statement_number labels address s) 32 ≡ false
unfolding statement_number
says-plain labels address text Blank s h = rw h
says-plain labels address text (Items two place size) s h = rw h.same (numbers (items_known labels _) _)
says-plain labels address text (Instruction code o) s h = rw h.same (numbers (names_known labels h.written) _)

pub least : (e : LineRefusal) → 30 ≤ line_refusal_number e
least UnknownWord = omega arith
least UnknownForm = omega arith
least TooDeep = omega arith
least UnknownName = omega arith
least OutOfRange = omega arith
least NoRoom = omega arith

module _ (labels kept : List Label) (address before left : ℕ) (text : List ℕ) (name : List ℕ) (s : Statement) where
  -- the number of a line: as it shows itself
  pub line-shows : (e : LineRefusal) → (s ≡ refused (line_refusal_number e)) × (line_refusal_number e ≤ 32) → line_refusal_number e ≡ line_number labels kept address before (before + left) (record { name = name; statement = s })
  line-shows e h =
      line-told labels kept address before left (record { name = name; statement = s }) (line_refusal_number e) (refused-number labels address (line_refusal_number e) ∙ ap (statement_number labels address) (sym h.0)) true _ _ _
      (rw (le-leb 30 (line_refusal_number e) (least e), le-leb (line_refusal_number e) 32 h.1)) refl refl refl

  module _ (b : Body) (says : Says text b s) where
    plain : (n : ℕ) → n ≡ statement_number labels address s → leb 30 n && leb n 32 ≡ false
    plain n e = rw e (says-plain labels address text b s says)

    -- by its label
    pub line-unkept : false ≡ label_stands kept address name → 33 ≡ line_number labels kept address before (before + left) (record { name = name; statement = s })
    line-unkept h = line-told labels kept address before left (record { name = name; statement = s }) _ refl false false _ _ (plain _ refl) h refl refl

    module _ (h : true ≡ label_stands kept address name) where
      -- by its operands or items
      pub line-wrong : (e : LineRefusal) → line_refusal_number e ≡ statement_number labels address s → line_refusal_number e ≡ line_number labels kept address before (before + left) (record { name = name; statement = s })
      line-wrong e n = line-told labels kept address before left (record { name = name; statement = s }) _ n false true false _ (plain _ n) h (ne_eqb (line_refusal_number e) 0 (λ z. omega (arith, least e, z))) refl

      -- by its room
      pub line-room-none : 0 ≡ statement_number labels address s → left < statement_size s → 35 ≡ line_number labels kept address before (before + left) (record { name = name; statement = s })
      line-room-none n l = line-told labels kept address before left (record { name = name; statement = s }) 0 n false true true true refl h refl (lt-ltb left (statement_size s) l)

      -- or none
      pub line-right : 0 ≡ statement_number labels address s → statement_size s ≤ left → 0 ≡ line_number labels kept address before (before + left) (record { name = name; statement = s })
      line-right n l = line-told labels kept address before left (record { name = name; statement = s }) 0 n false true true false refl h refl (le-ltb left (statement_size s) l)

-- a line without a number has a label that stands
pub line-stands : (labels kept : List Label) (address before room : ℕ) (s : Said) → line_number labels kept address before room s ≡ 0 → label_stands kept address s.name ≡ true
unfolding line_number
line-stands labels kept address before room s h = go (statement_number labels address s.statement) (leb 30 (statement_number labels address s.statement)) refl _ (label_stands kept address s.name) _ h
  where
    go : (n : ℕ) (a : Bool) → leb 30 n ≡ a → (c b : Bool) (other : ℕ) → pick (a && c) n (pick b other 33) ≡ 0 → b ≡ true
    go n a q c true other k = refl
    go n true q true false other k = let l = leb-true 30 n q in absurd (omega arith)
    go n true q false false other k = absurd (omega arith)
    go n false q c false other k = absurd (omega arith)

-- one line of the second pass: it fails, or the lines behind it go on
module _ (labels kept : List Label) (first room line before : ℕ) (s : Said) (more : List Said) where
  pub failed-here : (n : ℕ) → n ≡ line_number labels kept (behind first before) before room s → (n ≡ 0 → ⊥) → failed_from labels kept first room line before (s ∷ more) ≡ failed n line
  unfolding failed_from
  failed-here n e k = rw (← e, ne_eqb n 0 k)

  pub failed-next : line_number labels kept (behind first before) before room s ≡ 0 → failed_from labels kept first room line before (s ∷ more) ≡ failed_from labels (kept_with kept (behind first before) s.name) first room (line + 1) (before + statement_size s.statement) more
  unfolding failed_from
  failed-next e = rw (e, add-one line)

-- the number of a line by what is left of the room
pub number-left : (labels kept : List Label) (first bytes room address : ℕ) (s : Said) (n : ℕ) → n ≡ line_number labels kept address bytes (bytes + (room - bytes)) s → address ≡ behind first bytes → bytes ≤ room
    → n ≡ line_number labels kept (behind first bytes) bytes room s
number-left labels kept first bytes room address s n e a l = let r : bytes + (room - bytes) ≡ room = omega arith in e ∙ rw (a, r)

-- where the second pass stands: at a line, with labels kept and bytes before it, all labels being those of the arrays
behind_more : (first bytes size : ℕ) → behind (behind first bytes) size ≡ behind first (bytes + size)
behind_more first bytes size = mod-add-mod (first + bytes) 65536 size ∙ ap (λ (n : ℕ). n % 65536) (add_assoc first bytes size)

-- where it goes on: at the next line, if there is one
pub record Goes (text places addresses : List ℕ) (first room line count bytes : ℕ) (next : Option ℕ) (before : Failed) : Type 0 where
  pub inside : count ≤ length places
  pub fits : bytes ≤ room
  pub lines : line + left_behind text next ≤ length text + 2
  pub all : labels_from (labels_in text places addresses count) (behind first bytes) (said_to text next) ≡ labels_at text places addresses
  pub fails : failed_from (labels_at text places addresses) (labels_in text places addresses count) first room line bytes (said_to text next) ≡ before

pub nothing-fails : (labels kept : List Label) (first room line bytes : ℕ) → failed_from labels kept first room line bytes [] ≡ failed 0 0
unfolding failed_from
nothing-fails labels kept first room line bytes = refl

module _ (text places addresses : List ℕ) (first room at line count bytes : ℕ) (before : Failed) (on : Goes text places addresses first room line count bytes (Some at) before) (l : LineRead) (is : LineIs text at l) (n : ℕ)
    (number : n ≡ line_number (labels_at text places addresses) (labels_in text places addresses count) (behind first bytes) bytes room (record { name = span_name text l.label; statement = statement_of is.tokens })) where
  pub line-fails : (n ≡ 0 → ⊥) → before ≡ failed n line
  line-fails k = sym on.fails ∙ ap (failed_from (labels_at text places addresses) (labels_in text places addresses count) first room line bytes) is.says ∙ failed-here (labels_at text places addresses) (labels_in text places addresses count) first room line bytes (record { name = span_name text l.label; statement = statement_of is.tokens }) _ n number k

  pub line-inside-room : n ≡ 0 → bytes + l.size ≤ room
  line-inside-room z = rw is.size (go (ltb 0 (statement_size (statement_of is.tokens))) (ltb room (bytes + statement_size (statement_of is.tokens))) refl refl (line-inside (labels_at text places addresses) (labels_in text places addresses count) (behind first bytes) bytes room (record { name = span_name text l.label; statement = statement_of is.tokens }) (sym number ∙ z)))
    where
      go : (a b : Bool) → ltb 0 (statement_size (statement_of is.tokens)) ≡ a → ltb room (bytes + statement_size (statement_of is.tokens)) ≡ b → a && b ≡ false → bytes + statement_size (statement_of is.tokens) ≤ room
      go true true p q r = absurd (false≢true (sym r))
      go a false p q r = ltb-false room (bytes + statement_size (statement_of is.tokens)) q
      go false true p q r = let l = ltb-false 0 (statement_size (statement_of is.tokens)) p in omega (arith, on.fits)

  pub line-goes : length places ≡ length addresses → n ≡ 0 → (more : ℕ) → more ≡ pick (is_some l.label) (count + 1) count → Goes text places addresses first room (line + 1) more (bytes + l.size) (line_next text at) before
  line-goes same z more m = record { inside = rw many at (kept-inside text places addresses same grows _ (said_to text (line_next text at)) alls); fits = line-inside-room z; lines = omega (arith, on.lines, is.behind); all = rw (← now, ← behind_more first bytes l.size) alls; fails = rw (← now) (sym goes) ∙ on.fails }
    where
      a : ℕ
      a = behind first bytes

      grows : List Label
      grows = kept_with (labels_in text places addresses count) a (span_name text l.label)

      alls : labels_from grows (behind a l.size) (said_to text (line_next text at)) ≡ (labels_at text places addresses)
      alls = labels-step (labels_in text places addresses count) a (mod-lt (first + bytes) (omega arith)) (record { name = span_name text l.label; statement = statement_of is.tokens }) (said_to text (line_next text at)) (said_from text at) is.says l.size is.size grows refl (behind a l.size) refl ∙ on.all

      many : length grows ≡ more
      many = stands-count text l.label is.label (labels_in text places addresses count) a (line-stands (labels_at text places addresses) (labels_in text places addresses count) a bytes room (record { name = span_name text l.label; statement = statement_of is.tokens }) (sym number ∙ z)) ∙ ap (λ (k : ℕ). pick (is_some l.label) (k + 1) k) (labels-count text places addresses count same on.inside) ∙ sym m

      now : grows ≡ labels_in text places addresses more
      now = kept-first text places addresses same grows _ (said_to text (line_next text at)) alls ∙ ap (labels_in text places addresses) many

      goes : failed_from (labels_at text places addresses) (labels_in text places addresses count) first room line bytes (said_from text at) ≡ failed_from (labels_at text places addresses) grows first room (line + 1) (bytes + l.size) (said_to text (line_next text at))
      goes = ap (failed_from (labels_at text places addresses) (labels_in text places addresses count) first room line bytes) is.says ∙ failed-next (labels_at text places addresses) (labels_in text places addresses count) first room line bytes (record { name = span_name text l.label; statement = statement_of is.tokens }) (said_to text (line_next text at)) (sym number ∙ z) ∙ ap (λ (k : ℕ). failed_from (labels_at text places addresses) grows first room (line + 1) (bytes + k) (said_to text (line_next text at))) (sym is.size)

-- bytes laid where there is room for them
laid-fits : (bs code : List ℕ) → are_bytes bs ≡ true → length bs ≤ length code → bytes_laid bs code ≡ bs ++ drop (length bs) code
unfolding bytes_laid are_bytes
laid-fits [] code b h = refl
laid-fits (x ∷ bs) [] b h = absurd (omega arith)
laid-fits (x ∷ bs) (c ∷ code) b h =
    ap (λ (n : ℕ). n ∷ bytes_laid bs code) (mod-eq_of_lt (ltb-true x 256 (both_left (ltb x 256) (are_bytes bs) b)))
    ∙ ap (λ (l : List ℕ). x ∷ l) (laid-fits bs code (both_right (ltb x 256) (are_bytes bs) b) (omega arith))

-- a line's bytes laid behind those before it
pub record LaidOn (whole code next rest : List ℕ) (bytes : ℕ) : Type 0 where
  pub split : take bytes whole ++ rest ≡ whole
  pub inside : bytes ≤ length whole
  pub now : next ≡ take bytes whole ++ drop bytes code

pub here-inside : (whole code here rest : List ℕ) (bytes : ℕ) → length whole ≤ length code → LaidOn whole code here rest bytes → (bytes ≤ length here) × (length here ≡ length code)
here-inside whole code here rest bytes room is =
    let i = is.inside in
    let parts : length (take bytes whole) + length (drop bytes code) ≡ length code = simp (length-take, length-drop) (omega arith) in
    let long = ap length is.now ∙ length-append (take bytes whole) (drop bytes code) ∙ parts in
    (omega arith, long)

module _ (whole code here line rest : List ℕ) (bytes : ℕ) (room : length whole ≤ length code) (all : are_bytes whole ≡ true) (is : LaidOn whole code here (line ++ rest) bytes) where
  front : List ℕ
  front = take bytes whole

  front_long : length front ≡ bytes
  unfolding front
  front_long = length-take bytes whole ∙ min-eq_left is.inside

  both_long : length (front ++ line) ≡ bytes + length line
  both_long = length-append front line ∙ ap (λ (n : ℕ). n + length line) front_long

  line-are : are_bytes line ≡ true
  line-are = (bytes-parts line rest (bytes-parts (take bytes whole) (line ++ rest) (ap are_bytes is.split ∙ all)).1).0

  split-more : (front ++ line) ++ rest ≡ whole
  unfolding front
  split-more = append_assoc front line rest ∙ is.split

  taken_more : take (bytes + length line) whole ≡ front ++ line
  taken_more = ap (take (bytes + length line)) (sym split-more) ∙ take_at (front ++ line) rest (bytes + length line) both_long

  pub laid_more : (size : ℕ) → size ≡ length line → LaidOn whole code (take bytes here ++ bytes_laid line (drop bytes here)) rest (bytes + size)
  unfolding front
  laid_more size e =
      let long : bytes + length line ≤ length whole = omega (arith, ap length split-more, length-append (front ++ line) rest, both_long) in
      let old = ap (take bytes) is.now ∙ take_at front (drop bytes code) bytes front_long in
      let new = ap (drop bytes) is.now ∙ drop_at front (drop bytes code) bytes front_long in
      let laid-new = ap (bytes_laid line) new ∙ laid-fits line (drop bytes code) line-are (simp length-drop (omega arith)) ∙ ap (λ (l : List ℕ). line ++ l) (drop-drop (length line) bytes code) in
      rw e (record { split = ap (λ (l : List ℕ). l ++ rest) taken_more ∙ split-more; inside = long; now = ap (λ (l : List ℕ). l ++ bytes_laid line (drop bytes here)) old ∙ ap (λ (l : List ℕ). front ++ l) laid-new ∙ sym (append_assoc front line (drop (bytes + length line) code)) ∙ ap (λ (l : List ℕ). l ++ drop (bytes + length line) code) (sym taken_more) })

-- the buffer when the part from a place on is back
pub part-back : (here line part : List ℕ) (bytes : ℕ) → bytes ≤ length here → part ≡ bytes_laid line (take (length here - bytes) (drop bytes here)) → put_mid bytes (length here - bytes) here part ≡ take bytes here ++ bytes_laid line (drop bytes here)
part-back here line part bytes h e =
    let behind-part = Post-is bytes (length here) here h ∙ drop_of_length-le here (le_refl (length here)) in
    let now = e ∙ ap (bytes_laid line) (part_to_end here bytes) in
    ap (λ (l : List ℕ). take bytes here ++ (part ++ l)) behind-part ∙ ap (λ (l : List ℕ). take bytes here ++ l) (append-nil part) ∙ ap (λ (l : List ℕ). take bytes here ++ l) now

-- one line of the third pass, when its part of the buffer is back
module _ (text : List ℕ) (at : ℕ) (l : LineRead) (is : LineIs text at l) (labels : List Label) (first bytes : ℕ) (whole code here : List ℕ) (room : length whole ≤ length code) (all : are_bytes whole ≡ true)
    (on : LaidOn whole code here (bytes_from labels first bytes (said_from text at)) bytes) where
  line-bytes : LaidOn whole code here (statement_bytes labels (behind first bytes) (statement_of is.tokens) ++ bytes_from labels first (bytes + l.size) (said_to text (line_next text at))) bytes
  unfolding bytes_from
  line-bytes =
      let next = ap (bytes_from labels first bytes) is.says ∙ ap (λ (n : ℕ). statement_bytes labels (behind first bytes) (statement_of is.tokens) ++ bytes_from labels first (bytes + n) (said_to text (line_next text at))) (sym is.size) in
      subst (λ (b : List ℕ). LaidOn whole code here b bytes) next on

  pub line-stored : (address : ℕ) (part : List ℕ) → address ≡ behind first bytes → part ≡ bytes_laid (statement_bytes labels address (statement_of is.tokens)) (take (length here - bytes) (drop bytes here))
      → LaidOn whole code (put_mid bytes (length here - bytes) here part) (bytes_from labels first (bytes + l.size) (said_to text (line_next text at))) (bytes + l.size)
  line-stored address part a p =
      let line = statement_bytes labels (behind first bytes) (statement_of is.tokens) in
      let long = is.size ∙ sym ((statement-sized is.tokens).sized labels (behind first bytes)) in
      let back = part-back here line part bytes (here-inside whole code here _ bytes room on).0 (p ∙ ap (λ (n : ℕ). bytes_laid (statement_bytes labels n (statement_of is.tokens)) (take (length here - bytes) (drop bytes here))) a) in
      subst (λ (b : List ℕ). LaidOn whole code b (bytes_from labels first (bytes + l.size) (said_to text (line_next text at))) (bytes + l.size)) (sym back) (laid_more whole code here line _ bytes room all line-bytes l.size long)

  pub line-room : bytes + l.size ≤ length whole
  line-room = (line-stored (behind first bytes) _ refl refl).inside

-- behind the last line all bytes are laid
pub laid-all : (labels : List Label) (first before : ℕ) (whole code now : List ℕ) (bytes : ℕ) → LaidOn whole code now (bytes_from labels first before []) bytes → (bytes ≡ length whole) × (now ≡ whole ++ drop bytes code)
unfolding bytes_from
laid-all labels first before whole code now bytes on =
    let all = sym (append-nil (take bytes whole)) ∙ on.split in
    let i = on.inside in
    let long : length (take bytes whole) ≡ bytes = length-take bytes whole ∙ min-eq_left i in
    (sym long ∙ ap length all, on.now ∙ ap (λ (l : List ℕ). l ++ drop bytes code) all)

pub taken-long : (l : List ℕ) (n : ℕ) → length l ≡ 64 → n ≤ 64 → n ≡ length (take n l)
taken-long l n e h = simp length-take (omega arith)

-- what assembling comes to by the three passes
module _ (text code : List ℕ) (first : ℕ) (labels : List Label) (all : labels ≡ labels_from [] first (said_from text 0)) where
  by-passes : assemble_of text first (length code) ≡ passed (failed_from labels [] first (length code) 1 0 (said_from text 0)) (bytes_from labels first 0 (said_from text 0))
  unfolding assemble_of said_from
  by-passes = passes (said-sized (lines_in text)) (labels_from [] first (said_in (lines_in text))) [] first (length code) 1 [] ∙ ap (λ (l : List Label). passed (failed_from l [] first (length code) 1 0 (said_from text 0)) (bytes_from l first 0 (said_from text 0))) (sym all)

  -- a text that is refused
  pub text-refused : (f : Refused) → (line_refusal_number f.refusal ≡ (failed_from labels [] first (length code) 1 0 (said_from text 0)).number) × (f.line + 1 ≡ (failed_from labels [] first (length code) 1 0 (said_from text 0)).line) → (line : ℕ) → capped_count line ≡ capped_count (f.line + 1)
      → (line_refusal_number f.refusal + capped_count line * 4294967296 ≡ assembly_word (assemble_of text first (length code))) × (code ≡ assembled_into code (assemble_of text first (length code)))
  unfolding assembly_word assembled_into
  text-refused f is line e =
      let n : eqb (failed_from labels [] first (length code) 1 0 (said_from text 0)).number 0 ≡ false = ne_eqb (failed_from labels [] first (length code) 1 0 (said_from text 0)).number 0 (λ z. omega (arith, least f.refusal, is.0, z)) in
      rw (by-passes, n) (rw n (ap (λ (x : ℕ). x + capped_count line * 4294967296) is.0 ∙ ap (λ (x : ℕ). (failed_from labels [] first (length code) 1 0 (said_from text 0)).number + x * 4294967296) (e ∙ ap capped_count is.1)), refl)

  module _ (z : 0 ≡ (failed_from labels [] first (length code) 1 0 (said_from text 0)).number) where
    pub text-room : length (bytes_from labels first 0 (said_from text 0)) ≤ length code
    unfolding said_from
    text-room = ⊎_elim (λ (e : length (bytes_from labels first 0 (said_from text 0)) ≡ 0). omega arith) (λ (l : 0 + length (bytes_from labels first 0 (said_from text 0)) ≤ length code). omega arith) (bytes_inside (said-sized (lines_in text)) labels [] first (length code) 1 0 (sym z))

    pub text-bytes : are_bytes (bytes_from labels first 0 (said_from text 0)) ≡ true
    unfolding said_from
    text-bytes = said-stores (lines_in text) labels [] first (length code) 1 0 (sym z)

    pub text-done : (stored : ℕ) (now : List ℕ) → stored ≡ length (bytes_from labels first 0 (said_from text 0)) → now ≡ bytes_from labels first 0 (said_from text 0) ++ drop stored code
        → (0 + capped_count stored * 4294967296 ≡ assembly_word (assemble_of text first (length code))) × (now ≡ assembled_into code (assemble_of text first (length code)))
    unfolding assembly_word assembled_into
    text-done stored now e g =
        let n : eqb (failed_from labels [] first (length code) 1 0 (said_from text 0)).number 0 ≡ true = eq-eqb (failed_from labels [] first (length code) 1 0 (said_from text 0)).number 0 (sym z) in
        rw (by-passes, n) (ap (λ (x : ℕ). 0 + capped_count x * 4294967296) e, g ∙ ap (λ (x : ℕ). bytes_from labels first 0 (said_from text 0) ++ drop x code) e)
