-- The laws of a file, one line at a time, and what of it does not depend on the lines and the start address before.
-- Assumes nothing.
use Prim.Native.Nat.{ℕ, ◌+◌, ◌%◌, ◌≤◌}
use borrow.Author.Tests.{eq-eqb, ne_eqb, ltb-false}
use lib.Dec.{eqb, ltb}
use lib.ListN.{length, drop, length-take, length-drop}
use mathlib.Core.Bool.{Bool, true, false}
use mathlib.Core.List.{List, [], ◌∷◌, ◌++◌}
use mathlib.Core.Path.{◌≡◌, refl, sym, ap, ◌∙◌}
use native.Mathlib.Omega.{arith}
use Rattle.ground_rules.specs.Buffers.{Buffers, store_byte}
use Rattle.ground_rules.specs.Choice.{pick}
use Rattle.prom_rules.specs.File.{FileStore, File, file, next_line, stores_from, stores_of, segment_after, start_after, storing, file_of}
use Rattle.prom_rules.specs.Load.{store_all}
use Rattle.prom_rules.specs.Records.{record_of, hex_size, address_field, type_of, data_bytes, digits_of, line_refusal}
use Rattle.prom_rules.proofs.DigitLaws.{byte-count}
use Rattle.prom_rules.proofs.RecordLaws.{Good}

-- a line's number is never 0
pub next-some : (line : ℕ) → next_line line ≡ 0 → ⊥
unfolding next_line
next-some line = go (ltb line 4294967295) (ltb-case line)
  where
    ltb-case : (line : ℕ) → ltb line 4294967295 ≡ false → 4294967295 ≤ line
    ltb-case line e = ltb-false line 4294967295 e

    go : (x : Bool) → (x ≡ false → 4294967295 ≤ line) → pick x (line + 1) line ≡ 0 → ⊥
    go true h e = omega (arith, e)
    go false h e = omega (arith, h refl, e)

module _ (this : List ℕ) (lines : List (List ℕ)) (segment start line : ℕ) where
  -- the first bad record decides
  pub file-bad : (line_refusal this ≡ 0 → ⊥) → file_of (this ∷ lines) segment start line ≡ file (line_refusal this) (next_line line) 0 []
  unfolding file_of
  file-bad ne = rw (ne_eqb (line_refusal this) 0 ne)

  module _ (e : line_refusal this ≡ 0) where
    -- the end record ends the file
    pub file-end : type_of (record_of this) ≡ 1 → file_of (this ∷ lines) segment start line ≡ file 0 0 start []
    unfolding file_of
    file-end k = rw (eq-eqb (line_refusal this) 0 e, eq-eqb (type_of (record_of this)) 1 k)

    -- any other good record goes on to the next line
    pub file-more : (type_of (record_of this) ≡ 1 → ⊥)
        → file_of (this ∷ lines) segment start line
        ≡ storing (stores_of (next_line line) segment (record_of this)) (file_of lines (segment_after (record_of this) segment) (start_after (record_of this) start) (next_line line))
    unfolding file_of
    file-more k = rw (eq-eqb (line_refusal this) 0 e, ne_eqb (type_of (record_of this)) 1 k)

-- a good record has as many data bytes as it says
pub data-length : (line : List ℕ) → Good line → length (data_bytes (record_of line)) ≡ hex_size (record_of line)
unfolding data_bytes
data-length line g =
    length-take (hex_size (record_of line)) (drop 4 (record_of line))
    ∙ omega (arith, length-drop 4 (record_of line), byte-count (digits_of line) (hex_size (record_of line) + 5) g.count)

-- an offset counts mod 65,536
pub stores-wrap : (line segment o p : ℕ) (vs : List ℕ) → o % 65536 ≡ p % 65536 → stores_from line segment o vs ≡ stores_from line segment p vs
unfolding stores_from
stores-wrap line segment o p [] e = refl
stores-wrap line segment o p (v ∷ vs) e = rw (e, stores-wrap line segment (o + 1) (p + 1) vs (omega arith))

-- ---- what is stored does not depend on lines and start address

pub store-append : (m : Buffers) (a b : List FileStore) → store_all m (a ++ b) ≡ store_all (store_all m a) b
unfolding store_all
store-append m [] b = refl
store-append m (s ∷ a) b = store-append (store_byte m false s.address s.value) a b

store-from : (m : Buffers) (l k segment offset : ℕ) (vs : List ℕ) → store_all m (stores_from l segment offset vs) ≡ store_all m (stores_from k segment offset vs)
unfolding store_all stores_from
store-from m l k segment offset [] = refl
store-from m l k segment offset (v ∷ vs) = store-from (store_byte m false _ v) l k segment (offset + 1) vs

store_of : (m : Buffers) (l k segment : ℕ) (bytes : List ℕ) → store_all m (stores_of l segment bytes) ≡ store_all m (stores_of k segment bytes)
unfolding stores_of
store_of m l k segment bytes = go (eqb (type_of bytes) 0)
  where
    go : (x : Bool) → store_all m (pick x (stores_from l segment (address_field bytes) (data_bytes bytes)) []) ≡ store_all m (pick x (stores_from k segment (address_field bytes) (data_bytes bytes)) [])
    go true = store-from m l k segment (address_field bytes) (data_bytes bytes)
    go false = refl

-- nor does the number
pub number-any : (lines : List (List ℕ)) (segment s t l k : ℕ) → (file_of lines segment s l).number ≡ (file_of lines segment t k).number
unfolding file_of
number-any [] segment s t l k = refl
number-any (this ∷ lines) segment s t l k =
    go (eqb (line_refusal this) 0) (eqb (type_of (record_of this)) 1)
    (number-any lines (segment_after (record_of this) segment) (start_after (record_of this) s) (start_after (record_of this) t) (next_line l) (next_line k))
  where
    rest : ℕ → ℕ → File
    rest s l = file_of lines (segment_after (record_of this) segment) (start_after (record_of this) s) (next_line l)

    made : Bool → Bool → ℕ → ℕ → File
    made x y s l =
        pick x (pick y (file 0 0 s []) (storing (stores_of (next_line l) segment (record_of this)) (rest s l))) (file (line_refusal this) (next_line l) 0 [])

    go : (x y : Bool) → (rest s l).number ≡ (rest t k).number → (made x y s l).number ≡ (made x y t k).number
    go true true e = refl
    go true false e = e
    go false y e = refl

pub stores-any : (m : Buffers) (lines : List (List ℕ)) (segment s t l k : ℕ) → store_all m (file_of lines segment s l).stores ≡ store_all m (file_of lines segment t k).stores
unfolding file_of
stores-any m [] segment s t l k = refl
stores-any m (this ∷ lines) segment s t l k =
    go (eqb (line_refusal this) 0) (eqb (type_of (record_of this)) 1)
    (λ (m : Buffers). stores-any m lines (segment_after (record_of this) segment) (start_after (record_of this) s) (start_after (record_of this) t) (next_line l) (next_line k))
  where
    bytes : List ℕ
    bytes = record_of this

    rest : ℕ → ℕ → File
    rest s l = file_of lines (segment_after (record_of this) segment) (start_after (record_of this) s) (next_line l)

    made : Bool → Bool → ℕ → ℕ → File
    made x y s l =
        pick x (pick y (file 0 0 s []) (storing (stores_of (next_line l) segment (record_of this)) (rest s l))) (file (line_refusal this) (next_line l) 0 [])

    go : (x y : Bool) → ((m : Buffers) → store_all m (rest s l).stores ≡ store_all m (rest t k).stores) → store_all m (made x y s l).stores ≡ store_all m (made x y t k).stores
    go true true e = refl
    go true false e =
        store-append m (stores_of (next_line l) segment bytes) (rest s l).stores
        ∙ ap (λ (n : Buffers). store_all n (rest s l).stores) (store_of m (next_line l) (next_line k) segment bytes)
        ∙ e (store_all m (stores_of (next_line k) segment bytes))
        ∙ sym (store-append m (stores_of (next_line k) segment bytes) (rest t k).stores)
    go false y e = refl

-- so the rest of a good file stores and is judged as it is from its own first line
pub stored_more : (m : Buffers) (this : List ℕ) (lines : List (List ℕ)) (segment : ℕ) → line_refusal this ≡ 0 → (type_of (record_of this) ≡ 1 → ⊥)
    → store_all m (file_of (this ∷ lines) segment 0 0).stores
    ≡ store_all (store_all m (stores_of 0 segment (record_of this))) (file_of lines (segment_after (record_of this) segment) 0 0).stores
stored_more m this lines segment e k =
    ap (λ (f : File). store_all m f.stores) (file-more this lines segment 0 0 e k)
    ∙ store-append m (stores_of (next_line 0) segment (record_of this)) rest.stores
    ∙ ap (λ (n : Buffers). store_all n rest.stores) (store_of m (next_line 0) 0 segment (record_of this))
    ∙ stores-any (store_all m (stores_of 0 segment (record_of this))) lines (segment_after (record_of this) segment) (start_after (record_of this) 0) 0 (next_line 0) 0
  where
    rest : File
    rest = file_of lines (segment_after (record_of this) segment) (start_after (record_of this) 0) (next_line 0)

pub number_more : (this : List ℕ) (lines : List (List ℕ)) (segment : ℕ) → line_refusal this ≡ 0 → (type_of (record_of this) ≡ 1 → ⊥)
    → (file_of (this ∷ lines) segment 0 0).number ≡ (file_of lines (segment_after (record_of this) segment) 0 0).number
number_more this lines segment e k =
    ap (λ (f : File). f.number) (file-more this lines segment 0 0 e k)
    ∙ number-any lines (segment_after (record_of this) segment) (start_after (record_of this) 0) 0 (next_line 0) 0
