-- The laws of a record's places: how their offset wraps, when they are all lent, which line reaches beyond memory first, record by record, and what the call makes of it.
-- Assumes nothing.
use Prim.Native.Nat.{ℕ, zero, suc, ◌+◌, ◌*◌, ◌%◌, ◌≤◌}
use borrow.Author.Tests.{eq-eqb, ne_eqb}
use lib.Dec.{eqb}
use lib.ListN.{length}
use mathlib.Core.Bool.{Bool, true, false, ◌&&◌}
use mathlib.Core.List.{List, [], ◌∷◌, ◌++◌}
use mathlib.Core.Path.{◌≡◌, refl, sym, ap, ap₂, ◌∙◌}
use native.Mathlib.Decide.{ℕ_discrete}
use native.Mathlib.Nat.{zero-add, suc-add, add-zero, mod-eq_of_lt}
use native.Mathlib.Omega.{arith}
use Rattle.ground_rules.proofs.PlaceLaws.{index-reduced, lent-index}
use Rattle.ground_rules.proofs.SpanLaws.{all_append}
use Rattle.ground_rules.specs.Buffers.{Buffers, lent_at, within_limits}
use Rattle.ground_rules.specs.Places.{span, all_pass, all_lent}
use Rattle.ground_rules.specs.Choice.{pick}
use Rattle.ground_rules.specs.Sums.{address_of}
use Rattle.prom_rules.specs.File.{FileStore, File, file, stores_from, stores_of, storing}
use Rattle.prom_rules.specs.Load.{Loading, loading, beyond_line, text_file, load_of}
use Rattle.prom_rules.specs.Records.{record_of, hex_size, address_field, type_of, data_bytes, line_refusal}
use Rattle.prom_rules.proofs.FileLaws.{data-length}
use Rattle.prom_rules.proofs.LoadLaws.{load-bad, load-beyond}
use Rattle.prom_rules.proofs.RecordLaws.{good}
use Rattle.std.specs.Prelude.{Option, Some, None}
use Rattle.std.specs.Option.{option_or}
use Rattle.prom.specs.Parts.{places_from, record_lent}
use Rattle.prom.specs.Refusals.{reason_number, placed_of, judged_of}
use Rattle.prom.specs.declared.refusals.Reason.{Reason}
use Rattle.prom.specs.declared.refusals.Reason.TheVariants.{BeyondMemory, LongMemory, NoRecord, WrongSum, WrongType, NoEnd}

-- an offset counts mod 65,536
pub places-wrap : (segment o p n : ℕ) → o % 65536 ≡ p % 65536 → places_from segment o n ≡ places_from segment p n
unfolding places_from
places-wrap segment o p zero e = refl
places-wrap segment o p (suc n) e = rw (e, places-wrap segment (o + 1) (p + 1) n (omega arith))

-- places in a row are some and then the others
places-append : (segment offset k n : ℕ) → places_from segment offset (k + n) ≡ places_from segment offset k ++ places_from segment (offset + k) n
unfolding places_from
places-append segment offset zero n = rw (zero-add n, add-zero offset)
places-append segment offset (suc k) n =
    let e : offset + 1 + k ≡ offset + suc k = omega arith in
    rw (suc-add k n, places-append segment (offset + 1) k n, e)

-- short of the wrap they are a span
pub places-span : (m : Buffers) (segment offset n : ℕ) → offset + n ≤ 65536 → all_lent m (places_from segment offset n) ≡ all_lent m (span false (segment * 16 + offset) n)
unfolding places_from span all_pass
places-span m segment offset zero h = refl
places-span m segment offset (suc n) h =
    let e : segment * 16 + (offset + 1) ≡ segment * 16 + offset + 1 = omega arith in
    let here : offset % 65536 ≡ offset = mod-eq_of_lt (omega arith) in
    let first : lent_at m false (address_of (offset % 65536) segment) ≡ lent_at m false (segment * 16 + offset) =
    rw here (lent-index m false ((segment * 16 + offset) % 1048576) (segment * 16 + offset) (index-reduced false (segment * 16 + offset))) in
    let rest : all_lent m (places_from segment (offset + 1) n) ≡ all_lent m (span false (segment * 16 + offset + 1) n) =
    rw e at (places-span m segment (offset + 1) n (omega arith)) in
    ap₂ ◌&&◌ first rest

-- past it they are two
pub places-spans : (m : Buffers) (segment offset k n : ℕ) → offset + k ≡ 65536 → n ≤ 65536
    → all_lent m (places_from segment offset (k + n)) ≡ (all_lent m (span false (segment * 16 + offset) k) && all_lent m (span false (segment * 16) n))
places-spans m segment offset k n e h =
    let z : segment * 16 + 0 ≡ segment * 16 = omega arith in
    ap (all_lent m) (places-append segment offset k n)
    ∙ all_append (lent_at m) (places_from segment offset k) (places_from segment (offset + k) n)
    ∙ ap₂ ◌&&◌ (places-span m segment offset k (omega arith))
    (ap (all_lent m) (places-wrap segment (offset + k) 0 n (omega arith)) ∙ (rw z at (places-span m segment 0 n (omega arith))))

-- a record reaches beyond memory where not all its places are lent
pub beyond-stores : (m : Buffers) (line segment offset : ℕ) (vs : List ℕ) (ss : List FileStore)
    → beyond_line m (stores_from line segment offset vs ++ ss) ≡ pick (all_lent m (places_from segment offset (length vs))) (beyond_line m ss) line
unfolding beyond_line stores_from places_from all_pass
beyond-stores m line segment offset [] ss = refl
beyond-stores m line segment offset (v ∷ vs) ss = go (lent_at m false (address_of (offset % 65536) segment)) (beyond-stores m line segment (offset + 1) vs ss)
  where
    go : (x : Bool) → beyond_line m (stores_from line segment (offset + 1) vs ++ ss) ≡ pick (all_lent m (places_from segment (offset + 1) (length vs))) (beyond_line m ss) line
        → pick x (beyond_line m (stores_from line segment (offset + 1) vs ++ ss)) line
        ≡ pick (x && all_lent m (places_from segment (offset + 1) (length vs))) (beyond_line m ss) line
    go true e = e
    go false e = refl

-- so of a good record of a file
record-beyond : (m : Buffers) (n segment : ℕ) (line : List ℕ) (ss : List FileStore) → line_refusal line ≡ 0
    → beyond_line m (stores_of n segment (record_of line) ++ ss) ≡ pick (record_lent m segment (record_of line)) (beyond_line m ss) n
unfolding stores_of record_lent
record-beyond m n segment line ss e = go (eqb (type_of (record_of line)) 0)
  where
    bytes : List ℕ
    bytes = record_of line

    go : (x : Bool)
        → beyond_line m (pick x (stores_from n segment (address_field bytes) (data_bytes bytes)) [] ++ ss)
        ≡ pick (pick x (all_lent m (places_from segment (address_field bytes) (hex_size bytes))) true) (beyond_line m ss) n
    go true =
        beyond-stores m n segment (address_field bytes) (data_bytes bytes) ss
        ∙ ap (λ (k : ℕ). pick (all_lent m (places_from segment (address_field bytes) k)) (beyond_line m ss) n) (data-length line (good line e))
    go false = refl

-- a file judged, one good record on
pub judged-record : (m : Buffers) (before : Option ℕ) (n segment : ℕ) (line : List ℕ) (f : File) → line_refusal line ≡ 0 → (n ≡ 0 → ⊥)
    → judged_of m before (storing (stores_of n segment (record_of line)) f)
    ≡ judged_of m (option_or before (pick (record_lent m segment (record_of line)) None (Some n))) f
unfolding judged_of
judged-record m (Some k) n segment line f e ne = refl
judged-record m None n segment line f e ne = go (record_lent m segment (record_of line)) (record-beyond m n segment line f.stores e)
  where
    before : ℕ
    before = beyond_line m (stores_of n segment (record_of line) ++ f.stores)

    go : (x : Bool) → before ≡ pick x (beyond_line m f.stores) n
        → pick (eqb f.number 0) (pick (eqb before 0) (loading 0 f.start 0 m) (loading 2 0 before m)) (loading f.number 0 f.line m)
        ≡ pick (eqb f.number 0) (placed_of m (pick x None (Some n)) f) (loading f.number 0 f.line m)
    go true b = rw b
    go false b = rw (b, ne_eqb n 0 ne)

-- a bad file, and one that ends
pub judged-bad : (m : Buffers) (before : Option ℕ) (number line : ℕ) → (number ≡ 0 → ⊥) → judged_of m before (file number line 0 []) ≡ loading number 0 line m
unfolding judged_of
judged-bad m before number line ne = rw (ne_eqb number 0 ne)

pub judged-end : (m : Buffers) (start : ℕ) → judged_of m None (file 0 0 start []) ≡ loading 0 start 0 m
unfolding judged_of beyond_line
judged-end m start = refl

pub judged-beyond : (m : Buffers) (start line : ℕ) → judged_of m (Some line) (file 0 0 start []) ≡ loading 2 0 line m
unfolding judged_of
judged-beyond m start line = refl

-- ---- the call

-- no reason has the number 0
pub number-some : (why : Reason) → reason_number why ≡ 0 → ⊥
number-some BeyondMemory e = omega (arith, e)
number-some LongMemory e = omega (arith, e)
number-some NoRecord e = omega (arith, e)
number-some WrongSum e = omega (arith, e)
number-some WrongType e = omega (arith, e)
number-some NoEnd e = omega (arith, e)

-- the ways of a file that is judged: bad, beyond memory, or to be stored
pub judged-by : (P : Loading → Type 0) (m : Buffers) (f : File)
    → ((f.number ≡ 0 → ⊥) → P (loading f.number 0 f.line m))
    → (f.number ≡ 0 → (beyond_line m f.stores ≡ 0 → ⊥) → P (loading 2 0 (beyond_line m f.stores) m))
    → (f.number ≡ 0 → beyond_line m f.stores ≡ 0 → P (loading 0 f.start 0 m))
    → P (judged_of m None f)
unfolding judged_of
judged-by P m f bad beyond done = go (ℕ_discrete f.number 0) (ℕ_discrete (beyond_line m f.stores) 0)
  where
    go : Dec (f.number ≡ 0) → Dec (beyond_line m f.stores ≡ 0)
        → P (pick (eqb f.number 0) (pick (eqb (beyond_line m f.stores) 0) (loading 0 f.start 0 m) (loading 2 0 (beyond_line m f.stores) m)) (loading f.number 0 f.line m))
    go (no e) d = rw (ne_eqb f.number 0 e) (bad e)
    go (yes e) (no b) = rw (eq-eqb f.number 0 e, ne_eqb (beyond_line m f.stores) 0 b) (beyond e b)
    go (yes e) (yes b) = rw (eq-eqb f.number 0 e, eq-eqb (beyond_line m f.stores) 0 b) (done e b)

-- a file judged good has no number, and nothing beyond memory
pub judged-good : (m : Buffers) (f : File) (start : ℕ) → loading 0 start 0 m ≡ judged_of m None f → (f.number ≡ 0) × (beyond_line m f.stores ≡ 0) × (start ≡ f.start)
judged-good m f start =
    judged-by (λ (l : Loading). loading 0 start 0 m ≡ l → (f.number ≡ 0) × (beyond_line m f.stores ≡ 0) × (start ≡ f.start)) m f
    (λ ne e. absurd (ne (sym (ap (λ (l : Loading). l.number) e))))
    (λ z ne e. absurd (let two : ◌≡◌ {A = ℕ} 0 2 = ap (λ (l : Loading). l.number) e in omega (arith, two)))
    (λ z b e. (z, b, ap (λ (l : Loading). l.start) e))

-- a call that refuses leaves what the file is judged as
pub load-refused : (t : List ℕ) (m : Buffers) (why : Reason) (line : ℕ) → within_limits m ≡ true → loading (reason_number why) 0 line m ≡ judged_of m None (text_file t)
    → loading (reason_number why) 0 line m ≡ load_of t m
load-refused t m why line h =
    judged-by (λ (l : Loading). loading (reason_number why) 0 line m ≡ l → loading (reason_number why) 0 line m ≡ load_of t m) m (text_file t)
    (λ ne e. e ∙ sym (load-bad t m h ne))
    (λ z ne e. e ∙ sym (load-beyond t m h z ne))
    (λ z b e. absurd (number-some why (ap (λ (l : Loading). l.number) e)))
