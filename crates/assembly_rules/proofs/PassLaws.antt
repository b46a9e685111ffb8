-- Assembling in passes: the first line that has a number, found from the count of bytes before alone; then the bytes.
-- Assumes nothing.
use mathlib.Core.Path.{◌≡◌, refl, sym, ap, ◌∙◌}
use mathlib.Core.Bool.{Bool, true, false, ◌&&◌}
use mathlib.Core.List.{List, [], ◌∷◌, ◌++◌, append_assoc, append-nil}
use mathlib.Core.Logic.{◌⊎◌, inl, inr}
use Prim.Native.Nat.{ℕ, suc, ◌+◌, ◌%◌, ◌≤◌}
use native.Mathlib.Omega.{arith}
use native.Mathlib.Nat.{add-zero, add_assoc}
use lib.Dec.{eqb, ltb, leb}
use lib.ListN.{length, length-append}
use borrow.Author.Tests.{eqb-true, eqb-false, ltb-false, leb-true}
use Rattle.ground_rules.specs.Choice.{pick}
use Rattle.assembly_rules.specs.Text.{tokens_of}
use Rattle.assembly_rules.specs.Sums.{Label}
use Rattle.assembly_rules.specs.Statements.{headed_by, statement_size, statement_number, statement_bytes}
use Rattle.assembly_rules.specs.Assembly.{Said, said_by, said_in, kept_with, label_stands, past_room, line_number, Assembled, assembled, assembled_from}
use Rattle.assembly_rules.proofs.TestLaws.{both_false}
use Rattle.assembly_rules.proofs.LabelLaws.{sizes_of}
use Rattle.assembly_rules.proofs.SizeLaws.{Sized, statement-sized}

-- the number of the first line that has one, and that line; 0 and 0 where none has
pub record Failed : Type 0 where
  pub number : ℕ
  pub line : ℕ

abbrev pub failed : ℕ → ℕ → Failed
failed number line = record { number = number; line = line }

unfoldable pub failed_from : List Label → List Label → ℕ → ℕ → ℕ → ℕ → List Said → Failed
failed_from labels kept first room line before [] = failed 0 0
failed_from labels kept first room line before (s ∷ more) =
    let address = (first + before) % 65536 in
    let n = line_number labels kept address before room s in
    pick (eqb n 0) (failed_from labels (kept_with kept address s.name) first room (suc line) (before + statement_size s.statement) more) (failed n line)

-- the bytes of the lines from one on, one line after the other
unfoldable pub bytes_from : List Label → ℕ → ℕ → List Said → List ℕ
bytes_from labels first before [] = []
bytes_from labels first before (s ∷ more) = statement_bytes labels ((first + before) % 65536) s.statement ++ bytes_from labels first (before + statement_size s.statement) more

-- lines that each have as many bytes as their size
pub data AllSized : List Said → Type 0 where
  none_sized : AllSized []
  more_sized : {s : Said} {more : List Said} → Sized s.statement → AllSized more → AllSized (s ∷ more)

-- as all lines of a text have
pub said-sized : (lines : List (List ℕ)) → AllSized (said_in lines)
unfolding said_in said_by
said-sized [] = none_sized
said-sized (line ∷ lines) = more_sized (statement-sized (headed_by (tokens_of line)).body) (said-sized lines)

-- what assembling comes to by the passes
abbrev pub passed : Failed → List ℕ → Assembled
passed f bytes = pick (eqb f.number 0) (assembled 0 0 bytes) (assembled f.number f.line [])

pub passes : {said : List Said} → AllSized said → (labels kept : List Label) (first room line : ℕ) (done : List ℕ)
    → assembled_from labels kept first room line done said ≡ passed (failed_from labels kept first room line (length done) said) (done ++ bytes_from labels first (length done) said)
unfolding assembled_from failed_from bytes_from
passes none_sized labels kept first room line done = ap (assembled 0 0) (sym (append-nil done))
passes (more_sized {s = s} {more = more} size sizes) labels kept first room line done =
    let address = (first + length done) % 65536 in
    let n = line_number labels kept address (length done) room s in
    let bytes = statement_bytes labels address s.statement in
    let before = length done + statement_size s.statement in
    let after : ℕ → Failed = λ count. failed_from labels (kept_with kept address s.name) first room (suc line) count more in
    let rest = bytes_from labels first before more in
    let grown : length (done ++ bytes) ≡ before = length-append done bytes ∙ ap (λ (x : ℕ). length done + x) (size.sized labels address) in
    let later = passes sizes labels (kept_with kept address s.name) first room (suc line) (done ++ bytes) in
    (elim (eqb n 0) as (λ b. eqb n 0 ≡ b → pick b (assembled_from labels (kept_with kept address s.name) first room (suc line) (done ++ bytes) more) (assembled n line []) ≡ passed (pick b (after before) (failed n line)) (done ++ (bytes ++ rest))) [
      | true ↦ λ e. later ∙ ap (λ (x : ℕ). passed (after x) ((done ++ bytes) ++ bytes_from labels first x more)) grown ∙ ap (passed (after before)) (append_assoc done bytes rest)
      | false ↦ λ e. rw e
    ]) refl

-- a line without a number does not end past the room
pub line-inside : (labels kept : List Label) (address before room : ℕ) (s : Said) → line_number labels kept address before room s ≡ 0 → past_room (statement_size s.statement) before room ≡ false
unfolding line_number
line-inside labels kept address before room s h = go (statement_number labels address s.statement) (leb 30 (statement_number labels address s.statement)) refl _ (label_stands kept address s.name) _ refl (past_room (statement_size s.statement) before room) h
  where
    go : (n : ℕ) (a : Bool) → leb 30 n ≡ a → (c b d : Bool) → eqb n 0 ≡ d → (p : Bool) → pick (a && c) n (pick b (pick d (pick p 35 0) n) 33) ≡ 0 → p ≡ false
    go n a q c b d e false h = refl
    go n true q true b d e true h = let l = leb-true 30 n q in absurd (omega arith)
    go n true q false false d e true h = absurd (omega arith)
    go n true q false true true e true h = absurd (omega arith)
    go n true q false true false e true h = absurd (eqb-false n 0 e h)
    go n false q c false d e true h = absurd (omega arith)
    go n false q c true true e true h = absurd (omega arith)
    go n false q c true false e true h = absurd (eqb-false n 0 e h)

-- where no line has a number the bytes lie inside the room, or there are none
pub bytes_inside : {said : List Said} → AllSized said → (labels kept : List Label) (first room line before : ℕ) → (failed_from labels kept first room line before said).number ≡ 0
    → (length (bytes_from labels first before said) ≡ 0) ⊎ (before + length (bytes_from labels first before said) ≤ room)
unfolding failed_from bytes_from
bytes_inside none_sized labels kept first room line before h = inl refl
bytes_inside (more_sized {s = s} {more = more} size sizes) labels kept first room line before h =
    let address = (first + before) % 65536 in
    let n = line_number labels kept address before room s in
    let bytes = statement_bytes labels address s.statement in
    let count = statement_size s.statement in
    let after = failed_from labels (kept_with kept address s.name) first room (suc line) (before + count) more in
    let rest = bytes_from labels first (before + count) more in
    let whole : length (bytes ++ rest) ≡ count + length rest = length-append bytes rest ∙ ap (λ (x : ℕ). x + length rest) (size.sized labels address) in
    let later = bytes_inside sizes labels (kept_with kept address s.name) first room (suc line) (before + count) in
    (elim (eqb n 0) as (λ b. eqb n 0 ≡ b → (pick b after (failed n line)).number ≡ 0 → (length (bytes ++ rest) ≡ 0) ⊎ (before + length (bytes ++ rest) ≤ room)) [
      | true ↦ λ e k. elim (later k) [
        | inl none ↦ elim ((both_false (ltb 0 count) (ltb room (before + count))).0 (line-inside labels kept address before room s (eqb-true n 0 e))) [
          | inl z ↦ inl (omega (arith, whole, none, ltb-false 0 count z))
          | inr z ↦ inr (omega (arith, whole, none, ltb-false room (before + count) z))
        ]
        | inr l ↦ inr (omega (arith, whole, l))
      ]
      | false ↦ λ e k. absurd (eqb-false n 0 e k)
    ]) refl h

-- lines have as many bytes as their sizes, and those behind some others stand behind their bytes
pub bytes-length : {said : List Said} → AllSized said → (labels : List Label) (first before : ℕ) → length (bytes_from labels first before said) ≡ sizes_of said
unfolding bytes_from sizes_of
bytes-length none_sized labels first before = refl
bytes-length (more_sized {s = s} {more = more} size sizes) labels first before =
    let count = before + statement_size s.statement in
    length-append (statement_bytes labels ((first + before) % 65536) s.statement) (bytes_from labels first count more) ∙ rw (size.sized labels ((first + before) % 65536), bytes-length sizes labels first count)

pub bytes-split : (ahead after : List Said) (labels : List Label) (first before : ℕ) → bytes_from labels first before (ahead ++ after) ≡ bytes_from labels first before ahead ++ bytes_from labels first (before + sizes_of ahead) after
unfolding bytes_from sizes_of
bytes-split [] after labels first before = ap (λ (x : ℕ). bytes_from labels first x after) (sym (add-zero before))
bytes-split (s ∷ ahead) after labels first before =
    let count = before + statement_size s.statement in
    let bytes = statement_bytes labels ((first + before) % 65536) s.statement in
    ap (λ (x : List ℕ). bytes ++ x) (bytes-split ahead after labels first count ∙ ap (λ (x : ℕ). bytes_from labels first count ahead ++ bytes_from labels first x after) (add_assoc before (statement_size s.statement) (sizes_of ahead)))
    ∙ sym (append_assoc bytes (bytes_from labels first count ahead) (bytes_from labels first (before + (statement_size s.statement + sizes_of ahead)) after))
