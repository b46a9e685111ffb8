-- A text has the number and the line of the first line that has a number, and is done exactly where no line has one.
-- Assumes nothing.
use mathlib.Core.Path.{◌≡◌, refl, sym, ap, ◌∙◌}
use mathlib.Core.Bool.{true, false}
use mathlib.Core.List.{List, [], ◌∷◌}
use mathlib.Core.Logic.{◌↔◌}
use Prim.Native.Nat.{ℕ, zero, suc, ◌+◌, ◌%◌, ◌<◌}
use native.Mathlib.Omega.{arith}
use native.Mathlib.Nat.{add-zero, add_assoc, zero-add}
use lib.Dec.{eqb}
use lib.ListN.{length, get_or, take, drop}
use lib.Seq.{take-append_seam, drop-append_seam}
use borrow.Author.Tests.{eqb-true, eqb-false, ne_eqb}
use Rattle.ground_rules.specs.Choice.{pick}
use Rattle.assembly_rules.specs.Text.{lines_in}
use Rattle.assembly_rules.specs.Sums.{Label}
use Rattle.assembly_rules.specs.Statements.{statement_size}
use Rattle.assembly_rules.specs.Assembly.{Said, said_in, kept_with, labels_from, line_number, Assembled, assembled, assemble_of, assembled_into}
use Rattle.assembly_rules.proofs.LabelLaws.{sizes_of, quiet}
use Rattle.assembly_rules.proofs.PassLaws.{Failed, failed, failed_from, bytes_from, said-sized, passed, passes}

-- lines one behind the other, from some kept labels and a count of bytes on
module _ (labels : List Label) (first room : ℕ) where
  -- the number of the line at a place: under the labels kept of the lines before it and at the address behind their bytes
  unfoldable pub number_at : List Label → ℕ → List Said → ℕ → ℕ
  number_at kept before said i =
      let count = before + sizes_of (take i said) in
      line_number labels (labels_from kept (first + before) (take i said)) ((first + count) % 65536) count room (get_or said i quiet)

  -- no line has a number
  abbrev pub Clear : List Label → ℕ → List Said → Type 0
  Clear kept before said = (i : ℕ) → i < length said → number_at kept before said i ≡ 0

  -- the line at a place has one, and none before it
  abbrev pub FirstAt : List Label → ℕ → List Said → ℕ → ℕ → Type 0
  FirstAt kept before said n k = (k < length said) × ((number_at kept before said k ≡ n) × ((i : ℕ) → i < k → number_at kept before said i ≡ 0))

  number-here : (kept : List Label) (before : ℕ) (s : Said) (more : List Said) → number_at kept before (s ∷ more) 0 ≡ line_number labels kept ((first + before) % 65536) before room s
  unfolding number_at labels_from sizes_of
  number-here kept before s more = ap (λ (x : ℕ). line_number labels kept ((first + x) % 65536) x room s) (add-zero before)

  -- behind one line
  abbrev kept_past : List Label → ℕ → Said → List Label
  kept_past kept before s = kept_with kept ((first + before) % 65536) s.name

  number-next : (kept : List Label) (before : ℕ) (s : Said) (more : List Said) (i : ℕ) → number_at kept before (s ∷ more) (suc i) ≡ number_at (kept_past kept before s) (before + statement_size s.statement) more i
  unfolding number_at labels_from sizes_of
  number-next kept before s more i = rw (← (add_assoc first before (statement_size s.statement)), add_assoc before (statement_size s.statement) (sizes_of (take i more)))

  -- the walk past a line that has no number, and at one that has
  past-line : (kept : List Label) (line before : ℕ) (s : Said) (more : List Said) → number_at kept before (s ∷ more) 0 ≡ 0
      → failed_from labels kept first room line before (s ∷ more) ≡ failed_from labels (kept_past kept before s) first room (suc line) (before + statement_size s.statement) more
  unfolding failed_from
  past-line kept line before s more h = rw (sym (number-here kept before s more) ∙ h)

  at-line : (kept : List Label) (line before : ℕ) (s : Said) (more : List Said) (n : ℕ) → (n ≡ 0 → ⊥) → number_at kept before (s ∷ more) 0 ≡ n → failed_from labels kept first room line before (s ∷ more) ≡ failed n line
  unfolding failed_from
  at-line kept line before s more n z h = rw (sym (number-here kept before s more) ∙ h, ne_eqb n 0 z)

  first-failed : (said : List Said) (kept : List Label) (line before n k : ℕ) → (n ≡ 0 → ⊥) → FirstAt kept before said n k → failed_from labels kept first room line before said ≡ failed n (line + k)
  first-failed [] kept line before n k z f = absurd (omega (arith, f.0))
  first-failed (s ∷ more) kept line before n zero z f = at-line kept line before s more n z f.1.0 ∙ ap (failed n) (sym (add-zero line))
  first-failed (s ∷ more) kept line before n (suc k) z f =
      let up : suc line + k ≡ line + suc k = omega arith in
      past-line kept line before s more (f.1.1 0 (omega arith))
      ∙ first-failed more (kept_past kept before s) (suc line) (before + statement_size s.statement) n k z (omega (arith, f.0), (sym (number-next kept before s more k) ∙ f.1.0, λ i l. sym (number-next kept before s more i) ∙ f.1.1 (suc i) (omega arith)))
      ∙ ap (failed n) up

  none-failed : (said : List Said) (kept : List Label) (line before : ℕ) → Clear kept before said → failed_from labels kept first room line before said ≡ failed 0 0
  unfolding failed_from
  none-failed [] kept line before h = refl
  none-failed (s ∷ more) kept line before h =
      past-line kept line before s more (h 0 (omega arith)) ∙ none-failed more (kept_past kept before s) (suc line) (before + statement_size s.statement) (λ i l. sym (number-next kept before s more i) ∙ h (suc i) (omega arith))

  -- numbers of the first line and of those behind it
  zero-or-next : (kept : List Label) (before : ℕ) (s : Said) (more : List Said) (n : ℕ) → number_at kept before (s ∷ more) 0 ≡ 0 → ((i : ℕ) → i < n → number_at (kept_past kept before s) (before + statement_size s.statement) more i ≡ 0)
      → (i : ℕ) → i < suc n → number_at kept before (s ∷ more) i ≡ 0
  zero-or-next kept before s more n z h zero l = z
  zero-or-next kept before s more n z h (suc i) l = number-next kept before s more i ∙ h i (omega arith)

  -- what the walk comes to: no line with a number, or the first
  abbrev Told : List Label → ℕ → ℕ → List Said → Failed → Type 0
  Told kept line before said f = (f.number ≡ 0 → Clear kept before said) × ((f.number ≡ 0 → ⊥) → (k : ℕ) × ((f.line ≡ line + k) × FirstAt kept before said f.number k))

  told : (said : List Said) (kept : List Label) (line before : ℕ) → Told kept line before said (failed_from labels kept first room line before said)
  unfolding failed_from
  told [] kept line before = (λ z i l. absurd (omega arith), λ h. absurd (h refl))
  told (s ∷ more) kept line before =
      let n = line_number labels kept ((first + before) % 65536) before room s in
      let rest = failed_from labels (kept_past kept before s) first room (suc line) (before + statement_size s.statement) more in
      let later = told more (kept_past kept before s) (suc line) (before + statement_size s.statement) in
      (elim (eqb n 0) as (λ b. eqb n 0 ≡ b → Told kept line before (s ∷ more) (pick b rest (failed n line))) [
        | true ↦ λ e. let z = number-here kept before s more ∙ eqb-true n 0 e in (
          λ h. zero-or-next kept before s more (length more) z (later.0 h),
          λ h. let x = later.1 h in (suc x.0, (omega (arith, x.1.0), (omega (arith, x.1.1.0), (number-next kept before s more x.0 ∙ x.1.1.1.0, zero-or-next kept before s more x.0 z x.1.1.1.1)))),
        )
        | false ↦ λ e. (λ h. absurd (eqb-false n 0 e h), λ h. (0, (sym (add-zero line), (omega arith, (number-here kept before s more, λ i l. absurd (omega arith))))))
      ]) refl

-- what a text says, and its labels
abbrev pub said_of : List ℕ → List Said
said_of text = said_in (lines_in text)

abbrev pub labels_of : List ℕ → ℕ → List Label
labels_of text first = labels_from [] first (said_of text)

-- the number of a line of a text: of all the labels of the text, behind the lines before it
abbrev pub text_number : List ℕ → ℕ → ℕ → ℕ → ℕ
text_number text first room i = number_at (labels_of text first) first room [] 0 (said_of text) i

pub text-number : (text : List ℕ) (first room i : ℕ)
    → let ahead = take i (said_of text) in
    text_number text first room i ≡ line_number (labels_of text first) (labels_from [] first ahead) ((first + sizes_of ahead) % 65536) (sizes_of ahead) room (get_or (said_of text) i quiet)
unfolding number_at
text-number text first room i = rw (add-zero first, zero-add (sizes_of (take i (said_of text))))

pub text-passes : (text : List ℕ) (first room : ℕ) → assemble_of text first room ≡ passed (failed_from (labels_of text first) [] first room 1 0 (said_of text)) (bytes_from (labels_of text first) first 0 (said_of text))
unfolding assemble_of
text-passes text first room = passes (said-sized (lines_in text)) (labels_of text first) [] first room 1 []

passed-number : (f : Failed) (bytes : List ℕ) → (passed f bytes).number ≡ f.number
passed-number f bytes =
    (elim (eqb f.number 0) as (λ b. eqb f.number 0 ≡ b → (pick b (assembled 0 0 bytes) (assembled f.number f.line [])).number ≡ f.number) [ true ↦ λ e. sym (eqb-true f.number 0 e) | false ↦ λ e. refl ]) refl

passed-line : (f : Failed) (bytes : List ℕ) → (f.number ≡ 0 → ⊥) → (passed f bytes).line ≡ f.line
passed-line f bytes h = rw (ne_eqb f.number 0 h)

-- a text has a number and a line exactly where that line is the first with a number, and has this one; lines count from 1
pub text-refused : (text : List ℕ) (first room n k : ℕ) → (n ≡ 0 → ⊥) → (((assemble_of text first room).number ≡ n) × ((assemble_of text first room).line ≡ suc k)) ↔ FirstAt (labels_of text first) first room [] 0 (said_of text) n k
text-refused text first room n k z =
    let labels = labels_of text first in
    let f = failed_from labels [] first room 1 0 (said_of text) in
    let bytes = bytes_from labels first 0 (said_of text) in
    let number : (assemble_of text first room).number ≡ f.number = ap (λ (a : Assembled). a.number) (text-passes text first room) ∙ passed-number f bytes in
    let line : (f.number ≡ 0 → ⊥) → (assemble_of text first room).line ≡ f.line = λ h. ap (λ (a : Assembled). a.line) (text-passes text first room) ∙ passed-line f bytes h in (
      λ h.
          let e : f.number ≡ n = sym number ∙ h.0 in
          let some : f.number ≡ 0 → ⊥ = λ q. z (sym e ∙ q) in
          let x = (told labels first room (said_of text) [] 1 0).1 some in
          let same : x.0 ≡ k = omega (arith, sym (line some) ∙ h.1, x.1.0) in
          rw (← e, ← same) x.1.1,
      λ x.
          let e = first-failed labels first room (said_of text) [] 1 0 n k z x in
          let same = ap (λ (y : Failed). y.number) e in
          let up : 1 + k ≡ suc k = omega arith in
          (number ∙ same, line (λ q. z (sym same ∙ q)) ∙ ap (λ (y : Failed). y.line) e ∙ up),
    )

-- it has 0 exactly where no line has a number
pub text-done : (text : List ℕ) (first room : ℕ) → ((assemble_of text first room).number ≡ 0) ↔ Clear (labels_of text first) first room [] 0 (said_of text)
text-done text first room =
    let f = failed_from (labels_of text first) [] first room 1 0 (said_of text) in
    let e : (assemble_of text first room).number ≡ f.number = ap (λ (a : Assembled). a.number) (text-passes text first room) ∙ passed-number f (bytes_from (labels_of text first) first 0 (said_of text)) in
    (λ h. (told (labels_of text first) first room (said_of text) [] 1 0).0 (sym e ∙ h), λ c. e ∙ ap (λ (y : Failed). y.number) (none-failed (labels_of text first) first room (said_of text) [] 1 0 c))

-- and then line 0, and the bytes of its lines, one after the other
pub text-bytes : (text : List ℕ) (first room : ℕ) → (assemble_of text first room).number ≡ 0 → assemble_of text first room ≡ assembled 0 0 (bytes_from (labels_of text first) first 0 (said_of text))
text-bytes text first room h =
    text-passes text first room ∙ ap (λ (y : Failed). passed y (bytes_from (labels_of text first) first 0 (said_of text))) (none-failed (labels_of text first) first room (said_of text) [] 1 0 ((text-done text first room).0 h))

-- ---- the buffer afterwards

-- the bytes stand in front, and behind them what stood there
pub into-front : (buffer : List ℕ) (a : Assembled) → (take (length a.bytes) (assembled_into buffer a) ≡ a.bytes) × (drop (length a.bytes) (assembled_into buffer a) ≡ drop (length a.bytes) buffer)
unfolding assembled_into
into-front buffer a = (take-append_seam a.bytes (drop (length a.bytes) buffer), drop-append_seam a.bytes (drop (length a.bytes) buffer))

-- a text with a number leaves the buffer as it was
pub into-refused : (buffer text : List ℕ) (first room : ℕ) → ((assemble_of text first room).number ≡ 0 → ⊥) → assembled_into buffer (assemble_of text first room) ≡ buffer
unfolding assembled_into
into-refused buffer text first room h =
    let f = failed_from (labels_of text first) [] first room 1 0 (said_of text) in
    let bytes = bytes_from (labels_of text first) first 0 (said_of text) in
    let some : f.number ≡ 0 → ⊥ = λ e. h (ap (λ (a : Assembled). a.number) (text-passes text first room) ∙ passed-number f bytes ∙ e) in
    rw (text-passes text first room, ne_eqb f.number 0 some)
