-- Assembling a listing gives back the listed bytes.
-- Assumes nothing.
use mathlib.Core.{Path.◌≡◌, Path.refl, Path.sym, Path.ap, Path.subst, Path.◌∙◌, Bool.Bool, Bool.true, Bool.false, Bool.◌&&◌, List.List, List.[], List.◌∷◌, List.◌++◌, List.append_assoc, List.append-nil}
use Prim.Native.Nat.{ℕ, zero, suc, ◌+◌, ◌-◌, ◌%◌, ◌≤◌}
use native.Mathlib.Nat.{mod-mod, add-zero}
use native.Mathlib.Omega.{arith}
use lib.{Dec.T, Dec.eqb, Dec.ltb, Dec.leb, ListN.length, ListN.take, ListN.drop, ListN.length-take, ListN.length-append, ListN.take-append-drop, Seq.take_at, Ieee.Bits.is_true}
use borrow.Author.Tests.{le-ltb, lt-ltb}
use Rattle.ground_rules.specs.Choice.{pick}
use Rattle.listing_rules.specs.{Characters.ascii, Characters.same_text, Forms.spelled, Forms.following, Forms.Operand.number, Lines.data_line, Items.item_of, Items.count_of, Listings.TextLine, Listings.chars_of, Listings.line_at, Listings.lines_by, Listings.lines_of, Listings.all_chars, Listings.all_bytes, Listings.kept_in, Listings.list_limit, Listings.placed, Listings.listing_of}
use Rattle.listing_rules.proofs.{SpellingLaws.marks, SpellingLaws.present, SpellingLaws.Bytes, RowLaws.whole-at, RowLaws.count-some, RowLaws.count-there, Theorems.all_listed, Theorems.bytes-append, Theorems.placed-text, Unlisting.numbers, Unlisting.spoken-data, Unlisting.spoken-free, Unlisting.free, Unlisting.numbers-present, Unlisting.Line, Unlisting.Line.words, Unlisting.Line.raw, Unlisting.line_of, Unlisting.bytes_take, Unlisting.bytes_drop}
use Rattle.assembly_rules.specs.{Text.capitals, Text.is_run, Text.is_digit, Text.is_capital, Text.capital_of, Text.ends_line, Text.begun_by, Text.tokens_of, Text.cut_at, Text.lines_in, Statements.Statement.items, Statements.headed_by, Statements.all_sums, Statements.all_low, Statements.items_from, Statements.statement_of, Statements.statement_size, Statements.is_byte, Statements.items_known, Statements.items_stand, Statements.statement_number, Statements.items_bytes}
use Rattle.assembly_rules.specs.{Statements.statement_bytes, Sums.Label, Assembly.Said, Assembly.said_by, Assembly.said_in, Assembly.kept_with, Assembly.labels_from, Assembly.label_stands, Assembly.line_number, Assembly.assembled, Assembly.assembled_from, Assembly.assemble_of}
use Rattle.assembly_rules.proofs.{ScanLaws.all_fail, WritingLaws.all_run, WritingLaws.written, WholeLaws.SameTokens, WholeLaws.SameTokens.no_line, WholeLaws.SameTokens.one_more, WholeLaws.same-said}
use Rattle.promises_assembly.specs.Returning.{Respelled, Returns}
use Rattle.promises_assembly.proofs.{Texts.cut-first, Texts.is_name, Texts.byte-constant, Texts.opens, Instructions.Assembles, Instructions.instruction-assembles, Texts.spoken_parts, Texts.Parted, Texts.parted-none, Texts.parted-next, Texts.line-said}

-- the items of a DB line: numbers of one byte
record Items (bytes : List ℕ) : Type 0 where
  parted : Parted (numbers bytes)
  sums : all_sums (spoken_parts (numbers bytes)) ≡ true
  low : all_low (spoken_parts (numbers bytes)) ≡ true
  size : length (spoken_parts (numbers bytes)) ≡ length bytes
  known : (labels : List Label) → items_known labels (spoken_parts (numbers bytes)) ≡ true
  stand : (labels : List Label) → items_stand labels (spoken_parts (numbers bytes)) ≡ true
  same : (labels : List Label) → items_bytes labels false (spoken_parts (numbers bytes)) ≡ bytes

items_of : (bytes : List ℕ) → Bytes bytes → Items bytes
unfolding numbers spoken_parts all_sums all_low items_known items_stand items_bytes marks present Bytes following spelled all_fail opens is_byte
items_of [] h = record { parted = parted-none [] (λ m. refl) refl; sums = refl; low = refl; size = refl; known = λ labels. refl; stand = λ labels. refl; same = λ labels. refl }
items_of (b ∷ bytes) h =
    let c = byte-constant b (h 0) in
    let t = c.tokens in
    let later = items_of bytes (λ i. h (suc i)) in
    let low : b % 256 ≡ b = omega (arith, h 0) in
    record {
      parted = parted-next (number (b ∷ [])) (numbers bytes) (record { there = λ os. refl; behind = λ m. refl; free = c.free; uncut = rw t; begins = rw t }) later.parted;
      sums = rw (t, c.sum, later.sums);
      low = rw (t, c.shallow, later.low);
      size = ap suc later.size;
      known = λ labels. rw (t, c.worths labels, later.known labels);
      stand = λ labels. rw (t, c.worths labels, lt-ltb b 256 (h 0), later.stand labels);
      same = λ labels. rw (t, c.worths labels, low, later.same labels);
    }

data-said : (b : ℕ) (bytes : List ℕ) → Bytes (b ∷ bytes) → said_by (ascii "DB" ++ marks 32 (numbers (b ∷ bytes))) ≡ record { name = []; statement = items false (spoken_parts (numbers (b ∷ bytes))) }
unfolding statement_of items_from same_text is_name all_run capitals all_fail is_run is_digit is_capital capital_of ends_line numbers spoken_parts
data-said b bytes h =
    let i = items_of (b ∷ bytes) h in
    line-said (ascii "DB") (numbers (b ∷ bytes)) refl i.parted ∙ rw (i.parted.lead, numbers-present (b ∷ bytes), i.sums, i.low)

-- a DB line assembles to its bytes
data-assembles : (bytes : List ℕ) → (length bytes ≡ 0 → ⊥) → Bytes bytes → (address : ℕ) → Assembles (data_line bytes) address bytes
unfolding statement_size statement_number statement_bytes
data-assembles [] some h address = absurd (some refl)
data-assembles (b ∷ bytes) some h address =
    let i = items_of (b ∷ bytes) h in
    let sp = spoken-data (b ∷ bytes) h in
    let said = data-said b bytes h in
    record {
      front = ascii "DB" ++ marks 32 (numbers (b ∷ bytes));
      ends = sp.text;
      whole = spoken-free sp;
      unnamed = rw said;
      size = rw said (omega (arith, i.size));
      accepted = λ labels at k. rw said (rw (i.known labels, i.stand labels));
      stored = λ labels at k. rw said (i.same labels);
    }

-- every line of a listing assembles to the bytes that it lists
line-assembles : (address : ℕ) (x : List ℕ) → (length x ≡ 0 → ⊥) → Bytes x → Assembles (line_at address x).chars address (line_at address x).bytes
unfolding line_at
line-assembles address x some h = go (line_of address x)
  where
    go : Line address x → Assembles (chars_of address x (item_of x)) address (take (count_of (item_of x)) x)
    go (words s to n i l e) = rw (e, i) (instruction-assembles x h address s to n (whole-at x s to n i) l)
    go (raw e) =
        let n = count_of (item_of x) in
        rw e (data-assembles (take n x) (λ z. omega (arith, z, length-take n x, count-some x some, count-there x some)) (bytes_take n x h) address)

-- lines one behind the other, each of which assembles to its bytes
pub data AllAssemble : ℕ → List TextLine → Type 0 where
  none : {address : ℕ} → AllAssemble address []
  more : {address : ℕ} {line : TextLine} {lines : List TextLine} → Assembles line.chars address line.bytes → AllAssemble (address + length line.bytes) lines → AllAssemble address (line ∷ lines)

lines-assemble : (most address : ℕ) (x : List ℕ) → Bytes x → AllAssemble address (lines_by most address x)
unfolding lines_by line_at
lines-assemble zero address x h = none
lines-assemble (suc most) address [] h = none
lines-assemble (suc most) address (b ∷ x) h =
    let all = b ∷ x in
    let n = count_of (item_of all) in
    let some : length all ≡ 0 → ⊥ = λ z. omega arith in
    let size : n ≡ length (take n all) = omega (arith, length-take n all, count-there all some) in
    more (line-assembles address all some h) (subst (λ (k : ℕ). AllAssemble (address + k) (lines_by most (address + n) (drop n all))) size (lines-assemble most (address + n) (drop n all) (bytes_drop n all h)))

-- so do the first of such lines
first-assemble : (address : ℕ) (lines rest : List TextLine) → AllAssemble address (lines ++ rest) → AllAssemble address lines
first-assemble address [] rest all = none
first-assemble address (line ∷ lines) rest (more a later) = more a (first-assemble (address + length line.bytes) lines rest later)

-- the lines of a text: up to its first line feed, and from there on
feeds : (text : List ℕ) → all_fail (λ c. eqb c 10) text ≡ free text
unfolding free all_fail
feeds [] = refl
feeds (c ∷ text) = rw (feeds text)

first-line : (front rest : List ℕ) → T (free front) → lines_in ((front ++ (10 ∷ [])) ++ rest) ≡ front ∷ lines_in rest
unfolding lines_in
first-line front rest t = ap (cut_at (λ c. eqb c 10)) (append_assoc front (10 ∷ []) rest) ∙ cut-first (λ c. eqb c 10) front rest 10 (feeds front ∙ is_true (free front) t) refl

-- what follows the last line feed says nothing
last_line : (labels kept : List Label) (first room line : ℕ) (done : List ℕ) → assembled_from labels kept first room line done (said_in (lines_in [])) ≡ assembled 0 0 done
unfolding assembled_from said_in lines_in cut_at said_by tokens_of begun_by headed_by statement_of line_number statement_number label_stands statement_size statement_bytes
last_line labels kept first room line done = ap (assembled 0 0) (append-nil done)

line-number : (labels kept : List Label) (at before room size : ℕ) (s : Said) → s.name ≡ [] → statement_number labels at s.statement ≡ 0 → statement_size s.statement ≡ size → before + size ≤ room → line_number labels kept at before room s ≡ 0
unfolding line_number label_stands
line-number labels kept at before room size s n e z h = rw (e, n, z, le-ltb room (before + size) h) (go (ltb 0 size))
  where
    go : (b : Bool) → ◌≡◌ {A = ℕ} (pick (b && false) 35 0) 0
    go true = refl
    go false = refl

-- a line that assembles to its bytes stores them, and the next line follows
line-done : (labels kept : List Label) (first room line : ℕ) (done : List ℕ) (s : Said) (later : List Said) (bytes : List ℕ) → s.name ≡ [] → statement_size s.statement ≡ length bytes
    → statement_number labels ((first + length done) % 65536) s.statement ≡ 0 → statement_bytes labels ((first + length done) % 65536) s.statement ≡ bytes → length done + length bytes ≤ room
    → assembled_from labels kept first room line done (s ∷ later) ≡ assembled_from labels kept first room (suc line) (done ++ bytes) later
unfolding assembled_from kept_with
line-done labels kept first room line done s later bytes n z e b h = rw (line-number labels kept ((first + length done) % 65536) (length done) room (length bytes) s n e z h, b, n)

-- lines that assemble to their bytes one by one do so together
lines-done : (labels kept : List Label) (first room line address : ℕ) (done : List ℕ) (lines : List TextLine) → AllAssemble address lines → address ≡ first + length done → length done + length (all_bytes lines) ≤ room
    → assembled_from labels kept first room line done (said_in (lines_in (all_chars lines))) ≡ assembled 0 0 (done ++ all_bytes lines)
unfolding all_chars all_bytes said_in
lines-done labels kept first room line address done lines none e h = last_line labels kept first room line done ∙ ap (assembled 0 0) (sym (append-nil done))
lines-done labels kept first room line address done lines (more {line = this} {lines = rest} a later) e h =
    let at = (first + length done) % 65536 in
    let own : at % 65536 ≡ address % 65536 = mod-mod (first + length done) 65536 ∙ ap (λ (x : ℕ). x % 65536) (sym e) in
    let more_bytes = length-append this.bytes (all_bytes rest) in
    let more-done = length-append done this.bytes in
    let text : lines_in (this.chars ++ all_chars rest) ≡ a.front ∷ lines_in (all_chars rest) = ap (λ (c : List ℕ). lines_in (c ++ all_chars rest)) a.ends ∙ first-line a.front (all_chars rest) a.whole in
    ap (λ (l : List (List ℕ)). assembled_from labels kept first room line done (said_in l)) text
    ∙ line-done labels kept first room line done (said_by a.front) (said_in (lines_in (all_chars rest))) this.bytes a.unnamed a.size (a.accepted labels at own) (a.stored labels at own) (omega arith)
    ∙ lines-done labels kept first room (suc line) (address + length this.bytes) (done ++ this.bytes) rest later (omega arith) (omega arith)
    ∙ ap (assembled 0 0) (append_assoc done this.bytes (all_bytes rest))

-- a text of such lines, from the address of the first
pub text-done : (first room : ℕ) (lines : List TextLine) → AllAssemble first lines → length (all_bytes lines) ≤ room → assemble_of (all_chars lines) first room ≡ assembled 0 0 (all_bytes lines)
unfolding assemble_of
text-done first room lines a h = lines-done (labels_from [] first (said_in (lines_in (all_chars lines)))) [] first room 1 first [] lines a (sym (add-zero first)) (omega arith)

-- assembling a listing, from the same first address and into any room that is large enough, gives back the listed bytes
pub round_trip : (x : List ℕ) (first room : ℕ) → Bytes x → length x ≤ room → assemble_of (all_chars (lines_of first x)) first room ≡ assembled 0 0 x
unfolding lines_of
round_trip x first room h k =
    let e = all_listed first x in
    text-done first room (lines_of first x) (lines-assemble (length x) first x h) (rw e k) ∙ ap (assembled 0 0) e

same-tokens : {lines others : List (List ℕ)} → Respelled lines others → SameTokens others lines
same-tokens Respelled.finished = no_line
same-tokens (Respelled.another w later) = one_more (written w) (same-tokens later)

-- a listing gives its bytes back however it is spelled
pub however-spelled : (x text : List ℕ) (first room : ℕ) → Bytes x → length x ≤ room → Respelled (lines_in (all_chars (lines_of first x))) (lines_in text) → assemble_of text first room ≡ assembled 0 0 x
unfolding assemble_of
however-spelled x text first room h k r = ap (λ (said : List Said). assembled_from (labels_from [] first said) [] first room 1 [] said) (same-said (same-tokens r)) ∙ round_trip x first room h k

kept-rest : (room : ℕ) (lines : List TextLine) → (rest : List TextLine) × (lines ≡ kept_in room lines ++ rest)
unfolding kept_in
kept-rest room [] = ([], refl)
kept-rest room (line ∷ lines) = go (leb (length line.chars) room) (kept-rest (room - length line.chars) lines)
  where
    go : (b : Bool) → (rest : List TextLine) × (lines ≡ kept_in (room - length line.chars) lines ++ rest) → (rest : List TextLine) × (line ∷ lines ≡ pick b (line ∷ kept_in (room - length line.chars) lines) [] ++ rest)
    go true (rest, e) = (rest, ap (λ (l : List TextLine). line ∷ l) e)
    go false later = (line ∷ lines, refl)

-- so does a listing as it is made, in a buffer of any length: the characters written give back the bytes before its stop
pub listing-back : (code buffer : List ℕ) (first room : ℕ) → Bytes code → (listing_of code first buffer).stop ≤ room
    → assemble_of (take (listing_of code first buffer).characters (listing_of code first buffer).buffer) first room ≡ assembled 0 0 (take (listing_of code first buffer).stop code)
unfolding listing_of lines_of placed
listing-back code buffer first room h k =
    let part = take list_limit code in
    let lines = kept_in (length buffer) (lines_of first part) in
    let cut = kept-rest (length buffer) (lines_of first part) in
    let more_bytes = all_bytes cut.0 ++ drop list_limit code in
    let whole : code ≡ all_bytes lines ++ more_bytes =
    sym (take-append-drop list_limit code) ∙ ap (λ (l : List ℕ). l ++ drop list_limit code) (sym (all_listed first part) ∙ ap all_bytes cut.1 ∙ bytes-append lines cut.0) ∙ append_assoc (all_bytes lines) (all_bytes cut.0) (drop list_limit code) in
    let before : take (length (all_bytes lines)) code ≡ all_bytes lines = ap (take (length (all_bytes lines))) whole ∙ take_at (all_bytes lines) more_bytes (length (all_bytes lines)) refl in
    ap (λ (text : List ℕ). assemble_of text first room) (placed-text lines buffer)
    ∙ text-done first room lines (first-assemble first lines cut.0 (subst (AllAssemble first) cut.1 (lines-assemble (length part) first part (bytes_take list_limit code h)))) k
    ∙ ap (assembled 0 0) (sym before)

pub returns : Returns
returns = record { whole = round_trip; spelled = however-spelled; made = listing-back }
