-- The segment that a data record is stored under: that of the last record of type 02 before it, 0 where none is (§12.2).
-- Assumes nothing.
use Prim.Native.Nat.{ℕ, zero, suc, ◌+◌, ◌*◌, ◌%◌, ◌<◌}
use borrow.Author.Tests.{eq-eqb, ne_eqb}
use lib.ListN.{length, get_or}
use mathlib.Core.List.{List, [], ◌∷◌, ◌++◌, map, append_assoc}
use mathlib.Core.Path.{◌≡◌, refl, sym, ap, subst, ◌∙◌}
use native.Mathlib.Nat.{add-zero}
use native.Mathlib.Omega.{arith}
use Rattle.prom_rules.specs.Conditions.{GoodRecord, Passes}
use Rattle.prom_rules.specs.File.{FileStore, File, next_line, stores_from, stores_of, segment_after, start_after, file_of}
use Rattle.prom_rules.specs.Load.{text_file}
use Rattle.prom_rules.specs.Records.{record_of, address_field, type_of, data_bytes, segment_of}
use Rattle.prom_rules.specs.Text.{hex_lines}
use Rattle.prom_rules.proofs.FileLaws.{file-more}
use Rattle.prom_rules.proofs.TestLaws.{line-exactly}

-- each of some lines is of a kind
abbrev pub EachLine : (List ℕ → Type 0) → List (List ℕ) → Type 0
EachLine Kind [] = Unit {0}
EachLine Kind (line ∷ lines) = Kind line × EachLine Kind lines

-- a good record of type 02, of whose two bytes of data v is made, the high one first
abbrev pub SetsSegment : ℕ → List ℕ → Type 0
SetsSegment v line = GoodRecord line × ((type_of (record_of line) ≡ 2) × (get_or (record_of line) 4 0 * 256 + get_or (record_of line) 5 0 ≡ v))

-- a good record that is neither of type 02 nor the end
abbrev pub KeepsSegment : List ℕ → Type 0
KeepsSegment line = Passes line × ¬ (type_of (record_of line) ≡ 2)

-- a good record of type 00
abbrev pub DataRecord : List ℕ → Type 0
DataRecord line = GoodRecord line × (type_of (record_of line) ≡ 0)

-- among some stores, in a row, those of a record's data: byte i at v × 16 + ((offset + i) mod 65,536), mod 1,048,576
pub record StoredUnder (v : ℕ) (bytes : List ℕ) (stores : List FileStore) : Type 0 where
  pub earlier : List FileStore
  pub row : List FileStore
  pub later : List FileStore
  pub whole : stores ≡ earlier ++ (row ++ later)
  pub values : map (λ (s : FileStore). s.value) row ≡ data_bytes bytes
  pub places : (i : ℕ) → i < length row
      → get_or (map (λ (s : FileStore). s.address) row) i 0 ≡ (v * 16 + (get_or bytes 1 0 * 256 + get_or bytes 2 0 + i) % 65536) % 1048576

-- ---- one record's row

-- its bytes are the data
row-bytes : (line v o : ℕ) (bytes : List ℕ) → map (λ (s : FileStore). s.value) (stores_from line v o bytes) ≡ bytes
unfolding stores_from
row-bytes line v o [] = refl
row-bytes line v o (b ∷ bytes) = ap (λ (l : List ℕ). b ∷ l) (row-bytes line v (o + 1) bytes)

-- each at its offset
row-addresses : (line v o p : ℕ) (bytes : List ℕ) → o ≡ p → (i : ℕ) → i < length (stores_from line v o bytes)
    → get_or (map (λ (s : FileStore). s.address) (stores_from line v o bytes)) i 0 ≡ (v * 16 + (p + i) % 65536) % 1048576
unfolding stores_from
row-addresses line v o p [] e i h = absurd (omega arith)
row-addresses line v o p (b ∷ bytes) e zero h = ap (λ (n : ℕ). (v * 16 + n % 65536) % 1048576) (e ∙ sym (add-zero p))
row-addresses line v o p (b ∷ bytes) e (suc i) h =
    let on : p + 1 + i ≡ p + suc i = omega arith in
    row-addresses line v (o + 1) (p + 1) bytes (ap (λ (n : ℕ). n + 1) e) i (omega arith) ∙ ap (λ (n : ℕ). (v * 16 + n % 65536) % 1048576) on

-- the offset is made of the second and third byte
offset-bytes : (bytes : List ℕ) → address_field bytes ≡ get_or bytes 1 0 * 256 + get_or bytes 2 0
unfolding address_field
offset-bytes bytes = omega arith

-- a data record's own stores are its row
first-row : (line v : ℕ) (bytes : List ℕ) (later : List FileStore) → type_of bytes ≡ 0 → StoredUnder v bytes (stores_of line v bytes ++ later)
unfolding stores_of
first-row line v bytes later t =
    rw (eq-eqb (type_of bytes) 0 t)
    record {
      earlier = [];
      row = stores_from line v (address_field bytes) (data_bytes bytes);
      later = later;
      whole = refl;
      values = row-bytes line v (address_field bytes) (data_bytes bytes);
      places = row-addresses line v (address_field bytes) (get_or bytes 1 0 * 256 + get_or bytes 2 0) (data_bytes bytes) (offset-bytes bytes);
    }

-- a row stands there too where more is stored before
later-row : {v : ℕ} {bytes : List ℕ} {stores : List FileStore} (before : List FileStore) → StoredUnder v bytes stores → StoredUnder v bytes (before ++ stores)
later-row before s =
    record {
      earlier = before ++ s.earlier;
      row = s.row;
      later = s.later;
      whole = ap (λ (l : List FileStore). before ++ l) s.whole ∙ sym (append_assoc before s.earlier (s.row ++ s.later));
      values = s.values;
      places = s.places;
    }

-- ---- the lines before it

-- the segment after a record of type 02
as-set : (bytes : List ℕ) (segment v : ℕ) → type_of bytes ≡ 2 → get_or bytes 4 0 * 256 + get_or bytes 5 0 ≡ v → segment_after bytes segment ≡ v
unfolding segment_after segment_of
as-set bytes segment v t e = rw (eq-eqb (type_of bytes) 2 t) (omega (arith, e))

-- and after one of another type
as-kept : (bytes : List ℕ) (v : ℕ) → ¬ (type_of bytes ≡ 2) → segment_after bytes v ≡ v
unfolding segment_after
as-kept bytes v ne = rw (ne_eqb (type_of bytes) 2 ne)

module _ (this : List ℕ) (rest : List (List ℕ)) (d : DataRecord this) where
  -- some lines, read under a segment, store its data under v
  abbrev Under : ℕ → List (List ℕ) → ℕ → ℕ → ℕ → Type 0
  Under v lines segment start line = StoredUnder v (record_of this) (file_of lines segment start line).stores

  -- they do where the lines behind the first do, and the first passes
  one-past : (v w segment start line : ℕ) (one : List ℕ) (lines : List (List ℕ)) → Passes one → segment_after (record_of one) segment ≡ w
      → Under v lines w (start_after (record_of one) start) (next_line line) → Under v (one ∷ lines) segment start line
  one-past v w segment start line one lines p e s =
      subst (λ (f : File). StoredUnder v (record_of this) f.stores) (sym (file-more one lines segment start line ((line-exactly one 0).1 p.0) p.1))
      (later-row (stores_of (next_line line) segment (record_of one)) (rw e s))

  -- under the segment given, where no line before sets one
  under-kept : (v start line : ℕ) (lines : List (List ℕ)) → EachLine KeepsSegment lines → Under v (lines ++ (this ∷ rest)) v start line
  under-kept v start line [] h =
      subst (λ (f : File). StoredUnder v (record_of this) f.stores)
      (sym (file-more this rest v start line ((line-exactly this 0).1 d.0) (λ z. omega (arith, d.1, z))))
      (first-row (next_line line) v (record_of this)
      (file_of rest (segment_after (record_of this) v) (start_after (record_of this) start) (next_line line)).stores d.1)
  under-kept v start line (one ∷ lines) h =
      one-past v v v start line one (lines ++ (this ∷ rest)) h.0.0 (as-kept (record_of one) v h.0.1)
      (under-kept v (start_after (record_of one) start) (next_line line) lines h.1)

  -- under that of the last line before that sets one
  under-set : (v segment start line : ℕ) (before between : List (List ℕ)) (set : List ℕ) → EachLine Passes before → SetsSegment v set
      → EachLine KeepsSegment between → Under v (before ++ (set ∷ (between ++ (this ∷ rest)))) segment start line
  under-set v segment start line [] between set p s h =
      one-past v v segment start line set (between ++ (this ∷ rest)) (s.0, λ z. omega (arith, s.1.0, z))
      (as-set (record_of set) segment v s.1.0 s.1.1)
      (under-kept v (start_after (record_of set) start) (next_line line) between h)
  under-set v segment start line (one ∷ before) between set p s h =
      one-past v (segment_after (record_of one) segment) segment start line one (before ++ (set ∷ (between ++ (this ∷ rest)))) p.0 refl
      (under-set v (segment_after (record_of one) segment) (start_after (record_of one) start) (next_line line) before between set p.1 s h)

  module _ (text : List ℕ) where
    -- before the first record of type 02 data are stored under segment 0
    pub segment-none : (before : List (List ℕ)) → hex_lines text ≡ before ++ (this ∷ rest) → EachLine KeepsSegment before
        → StoredUnder 0 (record_of this) (text_file text).stores
    unfolding text_file
    segment-none before e h = rw e (under-kept 0 0 0 before h)

    -- behind one they are stored under its segment, whatever stands before it and however many records of other types between
    pub segment-last : (before between : List (List ℕ)) (set : List ℕ) (v : ℕ) → hex_lines text ≡ before ++ (set ∷ (between ++ (this ∷ rest)))
        → EachLine Passes before → SetsSegment v set → EachLine KeepsSegment between → StoredUnder v (record_of this) (text_file text).stores
    unfolding text_file
    segment-last before between set v e p s h = rw e (under-set v 0 0 0 before between set p s h)
