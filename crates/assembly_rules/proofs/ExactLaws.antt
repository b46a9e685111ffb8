-- A whole text: it has a number and a line exactly where that line has the number and no line before it has one, each told by the line's tokens.
-- Assumes nothing.
use mathlib.Core.Path.{◌≡◌, refl, ap}
use mathlib.Core.List.{List, [], ◌∷◌}
use mathlib.Core.Logic.{◌↔◌}
use Prim.Native.Nat.{ℕ, zero, suc, ◌+◌, ◌%◌, ◌<◌}
use lib.ListN.{length, get_or, take}
use Rattle.assembly_rules.specs.Text.{begun_by, tokens_of, lines_in}
use Rattle.assembly_rules.specs.Statements.{headed_by, statement_of}
use Rattle.assembly_rules.specs.Assembly.{said_by, said_in, labels_from, assemble_of}
use Rattle.assembly_rules.proofs.LabelLaws.{sizes_of, quiet}
use Rattle.assembly_rules.proofs.FirstLaws.{said_of, labels_of, text_number, text-number, text-refused, text-done}
use Rattle.assembly_rules.proofs.LineLaws.{Verdict, line-exactly}

-- what the line at a place has: under the labels of the text, those kept of the lines before it, and at first and their bytes
abbrev pub LineHas : List ℕ → ℕ → ℕ → ℕ → ℕ → Type 0
LineHas text first room i n =
    let ahead = take i (said_of text) in
    let h = headed_by (tokens_of (get_or (lines_in text) i [])) in
    Verdict (labels_of text first) (labels_from [] first ahead) ((first + sizes_of ahead) % 65536) (sizes_of ahead) room h.name h.body n

said_at : (lines : List (List ℕ)) (i : ℕ) → get_or (said_in lines) i quiet ≡ said_by (get_or lines i [])
unfolding said_in said_by tokens_of begun_by headed_by statement_of
said_at [] i = refl
said_at (line ∷ lines) zero = refl
said_at (line ∷ lines) (suc i) = said_at lines i

said-length : (lines : List (List ℕ)) → length (said_in lines) ≡ length lines
unfolding said_in
said-length [] = refl
said-length (line ∷ lines) = ap suc (said-length lines)

line-has : (text : List ℕ) (first room i n : ℕ) → (text_number text first room i ≡ n) ↔ LineHas text first room i n
line-has text first room i n =
    let ahead = take i (said_of text) in
    rw (text-number text first room i, said_at (lines_in text) i) (line-exactly (labels_of text first) (labels_from [] first ahead) ((first + sizes_of ahead) % 65536) (sizes_of ahead) room (get_or (lines_in text) i []) n)

-- a number and its line, from 1
pub text-exactly : (text : List ℕ) (first room n k : ℕ) → (n ≡ 0 → ⊥)
    → (((assemble_of text first room).number ≡ n) × ((assemble_of text first room).line ≡ suc k)) ↔ ((k < length (lines_in text)) × (LineHas text first room k n × ((i : ℕ) → i < k → LineHas text first room i 0)))
text-exactly text first room n k z =
    let r = text-refused text first room n k z in
    let has = line-has text first room in
    let same = said-length (lines_in text) in (
      λ h. let x = r.0 h in (rw same at x.0, ((has k n).0 x.1.0, λ i l. (has i 0).0 (x.1.1 i l))),
      λ x. r.1 (rw same x.0, ((has k n).1 x.1.0, λ i l. (has i 0).1 (x.1.1 i l))),
    )

-- 0 exactly where each line has 0
pub done-exactly : (text : List ℕ) (first room : ℕ) → ((assemble_of text first room).number ≡ 0) ↔ ((i : ℕ) → i < length (lines_in text) → LineHas text first room i 0)
done-exactly text first room =
    let r = text-done text first room in
    let same = said-length (lines_in text) in
    (λ h i l. (line-has text first room i 0).0 (r.0 h i (rw same l)), λ c. r.1 (λ i l. (line-has text first room i 0).1 (c i (rw same at l))))
