-- Each number is given exactly when: of a file, with the line that decides, and of the call.
-- Assumes nothing.
use Prim.Native.Nat.{ℕ, ◌+◌, ◌%◌, ◌<◌, ◌≤◌}
use borrow.Author.Tests.{leb-false, lt-leb, lt-ltb, le-ltb}
use lib.Dec.{leb, eqb, lit≤}
use lib.ListN.{length}
use mathlib.Core.Bool.{Bool, true, false}
use mathlib.Core.List.{List, [], ◌∷◌, ◌++◌}
use mathlib.Core.Logic.{⊎_elim, inl, inr, ◌↔◌}
use mathlib.Core.Path.{◌≡◌, refl, sym, ◌∙◌}
use native.Mathlib.Decide.{ℕ_discrete, dec_lt}
use native.Mathlib.Omega.{arith}
use Rattle.ground_rules.specs.Buffers.{buffers, space_of, limit_of, index_of, lent_at, within_limits}
use Rattle.ground_rules.proofs.ChoiceLaws.{apart, and-true}
use Rattle.ground_rules.specs.Choice.{pick}
use Rattle.prom_rules.specs.Conditions.{Decides, NoEnd, Ends, OverLong, FirstBeyond, AllWithin}
use Rattle.prom_rules.specs.File.{FileStore, File, next_line, segment_after, start_after, stores_from, stores_of, file_of}
use Rattle.prom_rules.specs.Load.{Loading, beyond_line, text_file, load_of}
use Rattle.prom_rules.specs.Records.{record_of, address_field, type_of, data_bytes, line_refusal}
use Rattle.prom_rules.specs.Text.{hex_lines}
use Rattle.prom_rules.proofs.Bounds.{line-most, line-least}
use Rattle.prom_rules.proofs.FileLaws.{next-some, file-bad, file-end, file-more}
use Rattle.prom_rules.proofs.LoadLaws.{load-by}
use Rattle.prom_rules.proofs.TestLaws.{line-exactly}

-- ---- the file

-- the three ways of a line: bad, the end, or on to the next
data Way (this : List ℕ) : Type 0 where
  bad : (line_refusal this ≡ 0 → ⊥) → Way this
  end : line_refusal this ≡ 0 → type_of (record_of this) ≡ 1 → Way this
  on : line_refusal this ≡ 0 → (type_of (record_of this) ≡ 1 → ⊥) → Way this

way : (this : List ℕ) → Way this
way this = go (ℕ_discrete (line_refusal this) 0) (ℕ_discrete (type_of (record_of this)) 1)
  where
    go : Dec (line_refusal this ≡ 0) → Dec (type_of (record_of this) ≡ 1) → Way this
    go (no e) d = bad e
    go (yes e) (yes k) = end e k
    go (yes e) (no k) = on e k

-- a number of its own and a line
abbrev Was : File → ℕ → ℕ → Type 0
Was f n k = (f.number ≡ n) × (f.line ≡ k)

-- a number that one line gives is the file's where that line decides
decides : (n : ℕ) → (n ≡ 0 → ⊥) → (n ≡ 23 → ⊥) → (lines : List (List ℕ)) (segment start before k : ℕ) → Was (file_of lines segment start before) n k ↔ Decides n lines before k
unfolding file_of
decides n ne nn [] segment start before k = (λ h. absurd (nn (sym h.0)), λ h. absurd h)
decides n ne nn (this ∷ lines) segment start before k =
    go (way this) (decides n ne nn lines (segment_after (record_of this) segment) (start_after (record_of this) start) (next_line before) k)
  where
    go : Way this → Was (file_of lines (segment_after (record_of this) segment) (start_after (record_of this) start) (next_line before)) n k ↔ Decides n lines (next_line before) k
        → Was (file_of (this ∷ lines) segment start before) n k ↔ Decides n (this ∷ lines) before k
    go (bad e) ih =
        rw (file-bad this lines segment start before e)
        (λ h. inl ((line-exactly this n).0 h.0, sym h.1), ⊎_elim (λ h. ((line-exactly this n).1 h.0, sym h.1)) (λ h. absurd (e ((line-exactly this 0).1 h.0.0))))
    go (end e q) ih =
        rw (file-end this lines segment start before e q)
        (λ h. absurd (ne (sym h.0)), ⊎_elim (λ h. absurd (ne (sym ((line-exactly this n).1 h.0) ∙ e))) (λ h. absurd (h.0.1 q)))
    go (on e q) ih =
        rw (file-more this lines segment start before e q)
        (λ h. inr (((line-exactly this 0).0 e, q), ih.0 h), ⊎_elim (λ h. absurd (ne (sym ((line-exactly this n).1 h.0) ∙ e))) (λ h. ih.1 h.1))

-- 23 where every line passes
no_end : (lines : List (List ℕ)) (segment start before k : ℕ) → Was (file_of lines segment start before) 23 k ↔ NoEnd lines before k
unfolding file_of
no_end [] segment start before k = (λ h. sym h.1, λ h. (refl, sym h))
no_end (this ∷ lines) segment start before k =
    go (way this) (no_end lines (segment_after (record_of this) segment) (start_after (record_of this) start) (next_line before) k)
  where
    go : Way this → Was (file_of lines (segment_after (record_of this) segment) (start_after (record_of this) start) (next_line before)) 23 k ↔ NoEnd lines (next_line before) k
        → Was (file_of (this ∷ lines) segment start before) 23 k ↔ NoEnd (this ∷ lines) before k
    go (bad e) ih =
        rw (file-bad this lines segment start before e) (λ h. absurd (omega (arith, h.0, line-most this)), λ h. absurd (e ((line-exactly this 0).1 h.0.0)))
    go (end e q) ih = rw (file-end this lines segment start before e q) (λ h. absurd (omega (arith, h.0)), λ h. absurd (h.0.1 q))
    go (on e q) ih =
        rw (file-more this lines segment start before e q) (λ h. (((line-exactly this 0).0 e, q), ih.0 h), λ h. ih.1 h.1)

-- none where it reaches its end record
ends : (lines : List (List ℕ)) (segment start before : ℕ) → ((file_of lines segment start before).number ≡ 0) ↔ Ends lines
unfolding file_of
ends [] segment start before = (λ h. omega (arith, h), λ h. absurd h)
ends (this ∷ lines) segment start before =
    go (way this) (ends lines (segment_after (record_of this) segment) (start_after (record_of this) start) (next_line before))
  where
    go : Way this → ((file_of lines (segment_after (record_of this) segment) (start_after (record_of this) start) (next_line before)).number ≡ 0) ↔ Ends lines
        → ((file_of (this ∷ lines) segment start before).number ≡ 0) ↔ Ends (this ∷ lines)
    go (bad e) ih =
        rw (file-bad this lines segment start before e)
        (λ h. absurd (e h), ⊎_elim (λ h. absurd (e ((line-exactly this 0).1 h.0))) (λ h. absurd (e ((line-exactly this 0).1 h.0.0))))
    go (end e q) ih = rw (file-end this lines segment start before e q) (λ h. inl ((line-exactly this 0).0 e, q), λ h. refl)
    go (on e q) ih =
        rw (file-more this lines segment start before e q)
        (λ h. inr (((line-exactly this 0).0 e, q), ih.0 h), ⊎_elim (λ h. absurd (q h.1)) (λ h. ih.1 h.1))

-- a file's own number is 0 or 20 and more
file-least : (lines : List (List ℕ)) (segment start before : ℕ) → ((file_of lines segment start before).number ≡ 0 → ⊥) → 20 ≤ (file_of lines segment start before).number
unfolding file_of
file-least [] segment start before = λ ne. lit≤ tt
file-least (this ∷ lines) segment start before =
    go (way this) (file-least lines (segment_after (record_of this) segment) (start_after (record_of this) start) (next_line before))
  where
    rest : File
    rest = file_of lines (segment_after (record_of this) segment) (start_after (record_of this) start) (next_line before)

    go : Way this → ((rest.number ≡ 0 → ⊥) → 20 ≤ rest.number) → ((file_of (this ∷ lines) segment start before).number ≡ 0 → ⊥) → 20 ≤ (file_of (this ∷ lines) segment start before).number
    go (bad e) ih = rw (file-bad this lines segment start before e) (λ ne. line-least this ne)
    go (end e q) ih = rw (file-end this lines segment start before e q) (λ ne. absurd (ne refl))
    go (on e q) ih = rw (file-more this lines segment start before e q) ih

-- ---- what lies beyond

-- every store has a line
Lined : List FileStore → Type 0
Lined [] = Unit {0}
Lined (s ∷ ss) = (s.line ≡ 0 → ⊥) × Lined ss

lined-append : (a b : List FileStore) → Lined a → Lined b → Lined (a ++ b)
unfolding Lined
lined-append [] b p q = q
lined-append (s ∷ a) b p q = (p.0, lined-append a b p.1 q)

lined-from : (line segment offset : ℕ) (vs : List ℕ) → (line ≡ 0 → ⊥) → Lined (stores_from line segment offset vs)
unfolding Lined stores_from
lined-from line segment offset [] ne = tt
lined-from line segment offset (v ∷ vs) ne = (ne, lined-from line segment (offset + 1) vs ne)

lined-of : (line segment : ℕ) (bytes : List ℕ) → (line ≡ 0 → ⊥) → Lined (stores_of line segment bytes)
unfolding Lined stores_of
lined-of line segment bytes ne = go (eqb (type_of bytes) 0)
  where
    go : (x : Bool) → Lined (pick x (stores_from line segment (address_field bytes) (data_bytes bytes)) [])
    go true = lined-from line segment (address_field bytes) (data_bytes bytes) ne
    go false = tt

lined-file : (lines : List (List ℕ)) (segment start before : ℕ) → Lined (file_of lines segment start before).stores
unfolding Lined file_of
lined-file [] segment start before = tt
lined-file (this ∷ lines) segment start before =
    go (way this) (lined-file lines (segment_after (record_of this) segment) (start_after (record_of this) start) (next_line before))
  where
    go : Way this → Lined (file_of lines (segment_after (record_of this) segment) (start_after (record_of this) start) (next_line before)).stores → Lined (file_of (this ∷ lines) segment start before).stores
    go (bad e) ih = rw (file-bad this lines segment start before e) tt
    go (end e q) ih = rw (file-end this lines segment start before e q) tt
    go (on e q) ih =
        rw (file-more this lines segment start before e q)
        (lined-append (stores_of (next_line before) segment (record_of this)) _ (lined-of (next_line before) segment (record_of this) (next-some before)) ih)

module _ (sys : List ℕ) where
  -- a store is lent, or not
  lent_is : (a : ℕ) → a % 1048576 < length sys → lent_at (buffers sys []) false a ≡ true
  unfolding lent_at space_of index_of limit_of
  lent_is a h = lt-ltb (a % 1048576) (length sys) h

  lent-not : (a : ℕ) → length sys ≤ a % 1048576 → lent_at (buffers sys []) false a ≡ false
  unfolding lent_at space_of index_of limit_of
  lent-not a h = le-ltb (a % 1048576) (length sys) h

  first-beyond : (ss : List FileStore) (k : ℕ) → Lined ss → ((beyond_line (buffers sys []) ss ≡ k) × (k ≡ 0 → ⊥)) ↔ FirstBeyond sys ss k
  unfolding Lined beyond_line
  first-beyond [] k l = (λ h. absurd (h.1 (sym h.0)), λ h. absurd h)
  first-beyond (s ∷ ss) k l = go (dec_lt (s.address % 1048576) (length sys)) (first-beyond ss k l.1)
    where
      go : Dec (s.address % 1048576 < length sys) → ((beyond_line (buffers sys []) ss ≡ k) × (k ≡ 0 → ⊥)) ↔ FirstBeyond sys ss k
          → ((pick (lent_at (buffers sys []) false s.address) (beyond_line (buffers sys []) ss) s.line ≡ k) × (k ≡ 0 → ⊥)) ↔ FirstBeyond sys (s ∷ ss) k
      go (yes h) ih = rw (lent_is s.address h) (λ g. inr (h, ih.0 g), ⊎_elim (λ g. absurd (omega (arith, g.0))) (λ g. ih.1 g.1))
      go (no h) ih =
          rw (lent-not s.address (omega arith))
          (λ g. inl (omega arith, sym g.0), ⊎_elim (λ g. (sym g.1, λ z. l.0 (sym g.1 ∙ z))) (λ g. absurd (h g.0)))

  none-beyond : (ss : List FileStore) → Lined ss → (beyond_line (buffers sys []) ss ≡ 0) ↔ AllWithin sys ss
  unfolding Lined beyond_line
  none-beyond [] l = (λ h. tt, λ h. refl)
  none-beyond (s ∷ ss) l = go (dec_lt (s.address % 1048576) (length sys)) (none-beyond ss l.1)
    where
      go : Dec (s.address % 1048576 < length sys) → (beyond_line (buffers sys []) ss ≡ 0) ↔ AllWithin sys ss
          → (pick (lent_at (buffers sys []) false s.address) (beyond_line (buffers sys []) ss) s.line ≡ 0) ↔ AllWithin sys (s ∷ ss)
      go (yes h) ih = rw (lent_is s.address h) (λ g. (h, ih.0 g), λ g. ih.1 g.1)
      go (no h) ih = rw (lent-not s.address (omega arith)) (λ g. absurd (l.0 g), λ g. absurd (h g.0))

-- ---- the call

module _ (t sys : List ℕ) where
  -- the limit, tested
  within : within_limits (buffers sys []) ≡ true → ¬ (OverLong sys)
  unfolding within_limits limit_of
  within e h = apart (sym e ∙ rw (lt-leb (length sys) 1048576 h))

  over : within_limits (buffers sys []) ≡ false → OverLong sys
  unfolding within_limits limit_of
  over e = leb-false (length sys) 1048576 (sym (and-true (leb (length sys) 1048576)) ∙ e)

  abbrev Stored : List FileStore
  Stored = (text_file t).stores

  least : ((text_file t).number ≡ 0 → ⊥) → 20 ≤ (text_file t).number
  unfolding text_file
  least = file-least (hex_lines t) 0 0 0

  lined : Lined Stored
  unfolding text_file
  lined = lined-file (hex_lines t) 0 0 0

  -- 11 exactly when memory is too long
  pub given-11 : ((load_of t (buffers sys [])).number ≡ 11) ↔ OverLong sys
  given-11 =
      load-by t (buffers sys []) (λ (r : Loading). (r.number ≡ 11) ↔ OverLong sys)
      (λ h. (λ e. over h, λ o. refl)) (λ h ne. (λ e. absurd (omega (arith, least ne, e)), λ o. absurd (within h o)))
      (λ h e z. (λ q. absurd (omega (arith, q)), λ o. absurd (within h o))) (λ h e z. (λ q. absurd (omega (arith, q)), λ o. absurd (within h o)))

  -- a number of the file's own is the call's, with its line
  of-file : (n k : ℕ) → 20 ≤ n → (((load_of t (buffers sys [])).number ≡ n) × ((load_of t (buffers sys [])).line ≡ k)) ↔ (¬ (OverLong sys) × Was (text_file t) n k)
  of-file n k h =
      load-by t (buffers sys []) (λ (r : Loading). ((r.number ≡ n) × (r.line ≡ k)) ↔ (¬ (OverLong sys) × Was (text_file t) n k))
      (λ l. (λ q. absurd (omega (arith, q.0)), λ q. absurd (q.0 (over l)))) (λ l ne. (λ q. (within l, q), λ q. q.1))
      (λ l e z. (λ q. absurd (omega (arith, q.0)), λ q. absurd (omega (arith, q.1.0, e)))) (λ l e z. (λ q. absurd (omega (arith, q.0)), λ q. absurd (omega (arith, q.1.0, e))))

  -- 20, 21 and 22 exactly when the first record that does not pass is no record, has a wrong sum, or a wrong type; the line is its line
  pub given-line : (n k : ℕ) → 20 ≤ n → (n ≡ 23 → ⊥)
      → (((load_of t (buffers sys [])).number ≡ n) × ((load_of t (buffers sys [])).line ≡ k)) ↔ (¬ (OverLong sys) × Decides n (hex_lines t) 0 k)
  unfolding text_file
  given-line n k h nn =
      let f = of-file n k h in
      let d = decides n (λ e. omega (arith, e)) nn (hex_lines t) 0 0 0 k in
      (λ q. let p = f.0 q in (p.0, d.0 p.1), λ q. f.1 (q.0, d.1 q.1))

  -- 23 exactly when every line passes; the line is the number of lines
  pub given-23 : (k : ℕ) → (((load_of t (buffers sys [])).number ≡ 23) × ((load_of t (buffers sys [])).line ≡ k)) ↔ (¬ (OverLong sys) × NoEnd (hex_lines t) 0 k)
  unfolding text_file
  given-23 k =
      let f = of-file 23 k (lit≤ tt) in
      let d = no_end (hex_lines t) 0 0 0 k in
      (λ q. let p = f.0 q in (p.0, d.0 p.1), λ q. f.1 (q.0, d.1 q.1))

  reaches : ((text_file t).number ≡ 0) ↔ Ends (hex_lines t)
  unfolding text_file
  reaches = ends (hex_lines t) 0 0 0

  -- 2 exactly when a file that reaches its end record stores a byte beyond memory; the line holds the first
  pub given-2 : (k : ℕ) → (((load_of t (buffers sys [])).number ≡ 2) × ((load_of t (buffers sys [])).line ≡ k))
      ↔ (¬ (OverLong sys) × (Ends (hex_lines t) × FirstBeyond sys (text_file t).stores k))
  given-2 k =
      load-by t (buffers sys []) (λ (r : Loading). ((r.number ≡ 2) × (r.line ≡ k)) ↔ (¬ (OverLong sys) × (Ends (hex_lines t) × FirstBeyond sys Stored k)))
      (λ l. (λ q. absurd (omega (arith, q.0)), λ q. absurd (q.0 (over l))))
      (λ l ne. (λ q. absurd (omega (arith, q.0, least ne)), λ q. absurd (ne (reaches.1 q.1.0))))
      (λ l e z. (λ q. (within l, (reaches.0 e, (first-beyond sys Stored k lined).0 (q.1, λ y. z (q.1 ∙ y)))), λ q. (refl, ((first-beyond sys Stored k lined).1 q.1.1).0)))
      (λ l e z. (λ q. absurd (omega (arith, q.0)), λ q. let p = (first-beyond sys Stored k lined).1 q.1.1 in absurd (p.1 (sym p.0 ∙ z))))

  -- 0 exactly when such a file stores none
  pub given-0 : ((load_of t (buffers sys [])).number ≡ 0) ↔ (¬ (OverLong sys) × (Ends (hex_lines t) × AllWithin sys (text_file t).stores))
  given-0 =
      load-by t (buffers sys []) (λ (r : Loading). (r.number ≡ 0) ↔ (¬ (OverLong sys) × (Ends (hex_lines t) × AllWithin sys Stored)))
      (λ l. (λ q. absurd (omega (arith, q)), λ q. absurd (q.0 (over l))))
      (λ l ne. (λ q. absurd (ne q), λ q. absurd (ne (reaches.1 q.1.0))))
      (λ l e z. (λ q. absurd (omega (arith, q)), λ q. absurd (z ((none-beyond sys Stored lined).1 q.1.1))))
      (λ l e z. (λ q. (within l, (reaches.0 e, (none-beyond sys Stored lined).0 z)), λ q. refl))
