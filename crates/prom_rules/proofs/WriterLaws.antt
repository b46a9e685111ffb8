-- What the writer writes, the reader reads: those bytes at those addresses, with number 0, and no other byte changed.
-- Assumes nothing.
use Prim.Native.Nat.{ℕ, zero, suc, ◌+◌, ◌-◌, ◌*◌, ◌/◌, ◌%◌, ◌<◌, ◌≤◌, min}
use borrow.Author.Tests.{lt-ltb, le-ltb, le-leb, lt-leb, eq-eqb}
use lib.Dec.{ltb, eqb, lit<}
use lib.ListN.{length, get_or, take, drop, length-append, length-take, length-drop, take-append-drop}
use lib.Seq.{take-append_seam}
use mathlib.Core.Bool.{true, false}
use mathlib.Core.List.{List, [], ◌∷◌, ◌++◌}
use mathlib.Core.Logic.{⊎_elim, inl, inr, ◌⊎◌}
use mathlib.Core.Path.{◌≡◌, refl, sym, ap, subst, ◌∙◌}
use native.Mathlib.Decide.{dec_lt}
use native.Mathlib.Omega.{arith}
use Rattle.ground_rules.proofs.StoreLaws.{store_length, read_same, read-other}
use Rattle.ground_rules.specs.Buffers.{Buffers, buffers, space_of, limit_of, index_of, lent_at, byte_at, store_byte, within_limits}
use Rattle.ground_rules.proofs.ChoiceLaws.{both_left, both_right}
use Rattle.ground_rules.specs.Bytes.{low_byte, high_byte}
use Rattle.ground_rules.specs.Choice.{pick}
use Rattle.prom_rules.specs.File.{FileStore, File, file, next_line, stores_from, stores_of, segment_after, start_after, storing, file_of}
use Rattle.prom_rules.specs.Load.{loading, beyond_line, store_all, text_file, load_of}
use Rattle.prom_rules.specs.Records.{hex_value, all_hex, hex_bytes, record_of, hex_size, address_field, type_of, data_bytes, segment_of, sum_of, is_record, sums_to_zero, fits_type, line_refusal}
use Rattle.prom_rules.specs.Text.{in_front, hex_lines}
use Rattle.prom_rules.specs.Writer.{digit_for, digits_for, check_for, unchecked_for, line_for, records_for, file_for, store_row}
use Rattle.prom_rules.proofs.DigitLaws.{no_digit}
use Rattle.prom_rules.proofs.FileLaws.{store-append, file-end, file-more}
use Rattle.prom_rules.proofs.LoadLaws.{load-done}

-- every one of some numbers is a byte
abbrev pub Bytes : List ℕ → Type 0
Bytes [] = Unit {0}
Bytes (b ∷ bs) = (b < 256) × Bytes bs

-- ---- digits

-- a value below 16 comes back from its digit
digit-back : (v : ℕ) → v < 16 → hex_value (digit_for v) ≡ v
unfolding digit_for hex_value
digit-back v h = go (dec_lt v 10)
  where
    go : Dec (v < 10) → hex_value (pick (ltb v 10) (v + 48) (v + 55)) ≡ v
    go (yes k) = rw (lt-ltb v 10 k, le-leb 48 (v + 48) (omega arith), le-leb (v + 48) 57 (omega arith)) (omega arith)
    go (no k) =
        rw (le-ltb v 10 (omega arith), lt-leb (v + 55) 57 (omega arith), le-leb 48 (v + 55) (omega arith), le-leb 65 (v + 55) (omega arith), le-leb (v + 55) 70 (omega arith)) (omega arith)

digits-all : (bs : List ℕ) → Bytes bs → all_hex (digits_for bs) ≡ true
unfolding all_hex digits_for
digits-all [] h = refl
digits-all (b ∷ bs) h =
    let high : b / 16 < 16 = omega (arith, h.0) in
    let low : b % 16 < 16 = omega arith in
    rw (digit-back (b / 16) high, digit-back (b % 16) low, lt-ltb (b / 16) 16 high, lt-ltb (b % 16) 16 low) (digits-all bs h.1)

digits-back : (bs : List ℕ) → Bytes bs → hex_bytes (digits_for bs) ≡ bs
unfolding hex_bytes digits_for
digits-back [] h = refl
digits-back (b ∷ bs) h =
    let high : b / 16 < 16 = omega (arith, h.0) in
    let low : b % 16 < 16 = omega arith in
    let byte : b / 16 * 16 + b % 16 ≡ b = omega arith in
    rw (digit-back (b / 16) high, digit-back (b % 16) low, byte, digits-back bs h.1)

digits-length : (bs : List ℕ) → length (digits_for bs) ≡ 2 * length bs
unfolding digits_for
digits-length [] = refl
digits-length (b ∷ bs) = omega (arith, digits-length bs)

-- ---- a record's line

total-append : (a b : List ℕ) → sum_of (a ++ b) ≡ sum_of a + sum_of b
unfolding sum_of
total-append [] b = omega arith
total-append (x ∷ a) b = omega (arith, total-append a b)

bytes-append : (a b : List ℕ) → Bytes a → Bytes b → Bytes (a ++ b)
bytes-append [] b p q = q
bytes-append (x ∷ a) b p q = (p.0, bytes-append a b p.1 q)

-- a byte that is neither LF nor CR is its line's
plain : (b : ℕ) (bs : List ℕ) → eqb b 10 ≡ false → eqb b 13 ≡ false → hex_lines (b ∷ bs) ≡ in_front b (hex_lines bs)
unfolding hex_lines
plain b bs p q = rw (p, q)

-- so is a digit
digit-plain : (b : ℕ) (bs : List ℕ) → ltb (hex_value b) 16 ≡ true → hex_lines (b ∷ bs) ≡ in_front b (hex_lines bs)
unfolding hex_value
digit-plain b bs h = plain b bs (no_digit b 10 refl h) (no_digit b 13 refl h)

-- digits up to an LF are one line
line_of : (ds rest : List ℕ) → all_hex ds ≡ true → hex_lines (ds ++ 10 ∷ rest) ≡ ds ∷ hex_lines rest
unfolding hex_lines in_front
line_of [] rest h = refl
line_of (d ∷ ds) rest h =
    digit-plain d (ds ++ 10 ∷ rest) (both_left (ltb (hex_value d) 16) (all_hex ds) (unfold all_hex in h))
    ∙ ap (in_front d) (line_of ds rest (both_right (ltb (hex_value d) 16) (all_hex ds) (unfold all_hex in h)))

module _ (offset kind : ℕ) (vs : List ℕ) (o : offset < 65536) (f : fits_type kind (length vs) ≡ true) (n : length vs < 256) (k : kind < 256) (b : Bytes vs) where
  abbrev whole : List ℕ
  whole = unchecked_for offset kind vs ++ check_for (unchecked_for offset kind vs) ∷ []

  whole-bytes : Bytes whole
  unfolding check_for
  whole-bytes = (n, (omega arith, (omega arith, (k, bytes-append vs (check_for (unchecked_for offset kind vs) ∷ []) b (omega arith, tt)))))

  -- it is one line of the text
  pub line-lines : (rest : List ℕ) → hex_lines (line_for offset kind vs ++ 10 ∷ rest) ≡ line_for offset kind vs ∷ hex_lines rest
  unfolding line_for in_front
  line-lines rest = plain 58 (digits_for whole ++ 10 ∷ rest) refl refl ∙ ap (in_front 58) (line_of (digits_for whole) rest (digits-all whole whole-bytes))

  -- whose bytes come back
  pub line-record : record_of (line_for offset kind vs) ≡ whole
  unfolding line_for
  line-record = digits-back whole whole-bytes

  sum-right : sum_of whole % 256 ≡ 0
  unfolding check_for sum_of
  sum-right =
      let u = unchecked_for offset kind vs in
      let e = total-append u (check_for u ∷ []) in
      omega (arith, e)

  -- and which is a good record
  pub line-good : line_refusal (line_for offset kind vs) ≡ 0
  unfolding line_refusal is_record sums_to_zero type_of hex_size line_for
  line-good =
      let c : length (digits_for whole) ≡ 2 * (length vs + 5) = omega (arith, digits-length whole, length-append vs (check_for (unchecked_for offset kind vs) ∷ [])) in
      rw (digits-all whole whole-bytes, digits-back whole whole-bytes, eq-eqb (length (digits_for whole)) (2 * (length vs + 5)) c, eq-eqb (sum_of whole % 256) 0 sum-right, f)

-- ---- the bytes in memory

-- a row cut in two
row-append : (m : Buffers) (a : ℕ) (xs ys : List ℕ) → store_row m a (xs ++ ys) ≡ store_row (store_row m a xs) (a + length xs) ys
unfolding store_row
row-append m a [] ys = let e : a + 0 ≡ a = omega arith in rw e
row-append m a (x ∷ xs) ys = let e : a + suc (length xs) ≡ a + 1 + length xs = omega arith in rw e (row-append (store_byte m false a x) (a + 1) xs ys)

-- where an empty row begins does not matter
row-empty : (m : Buffers) (a b : ℕ) (ys : List ℕ) → (0 < length ys → a ≡ b) → store_row m a ys ≡ store_row m b ys
unfolding store_row
row-empty m a b [] h = refl
row-empty m a b (y ∷ ys) h = rw (h (omega arith))

-- a data record's bytes are a row
row-stores : (m : Buffers) (line segment offset : ℕ) (vs : List ℕ) → offset + length vs ≤ 65536 → segment * 16 + offset + length vs ≤ 1048576
    → store_all m (stores_from line segment offset vs) ≡ store_row m (segment * 16 + offset) vs
unfolding store_all stores_from store_row
row-stores m line segment offset [] h k = refl
row-stores m line segment offset (v ∷ vs) h k =
    let here : (segment * 16 + offset % 65536) % 1048576 ≡ segment * 16 + offset = omega arith in
    let next : segment * 16 + (offset + 1) ≡ segment * 16 + offset + 1 = omega arith in
    rw (here, ← next) (row-stores (store_byte m false (segment * 16 + offset) v) line segment (offset + 1) vs (omega arith) (omega arith))

-- and none of them lies beyond where the row is lent
row-lent : (m : Buffers) (line segment offset : ℕ) (vs : List ℕ) (ss : List FileStore) → length m.sys ≤ 1048576 → offset + length vs ≤ 65536
    → segment * 16 + offset + length vs ≤ length m.sys → beyond_line m (stores_from line segment offset vs ++ ss) ≡ beyond_line m ss
unfolding beyond_line stores_from lent_at space_of index_of limit_of
row-lent m line segment offset [] ss l h k = refl
row-lent m line segment offset (v ∷ vs) ss l h k =
    rw (lt-ltb ((segment * 16 + offset % 65536) % 1048576 % 1048576) (length m.sys) (omega arith))
    (row-lent m line segment (offset + 1) vs ss l (omega arith) (omega arith))

-- ---- the file

-- a file of no number that stores a row
record Rows (m : Buffers) (a : ℕ) (bs : List ℕ) (start : ℕ) (f : File) : Type 0 where
  pub number : f.number ≡ 0
  pub begins : f.start ≡ start
  pub lent : beyond_line m f.stores ≡ 0
  pub stored : (m' : Buffers) → store_all m' f.stores ≡ store_row m' a bs

-- a record of type 02 for an address sets its segment and stores nothing
module _ (a : ℕ) (h : a < 1048576) where
  abbrev segment_line : List ℕ
  segment_line = line_for 0 2 (high_byte (a / 16) ∷ low_byte (a / 16) ∷ [])

  segment-bytes : record_of segment_line ≡ unchecked_for 0 2 (high_byte (a / 16) ∷ low_byte (a / 16) ∷ []) ++ check_for (unchecked_for 0 2 (high_byte (a / 16) ∷ low_byte (a / 16) ∷ [])) ∷ []
  unfolding fits_type
  segment-bytes = line-record 0 2 (high_byte (a / 16) ∷ low_byte (a / 16) ∷ []) (lit< tt) refl (lit< tt) (lit< tt) (omega arith, (omega arith, tt))

  segment-file : (rest : List ℕ) (segment start line : ℕ) → file_of (hex_lines (segment_line ++ 10 ∷ rest)) segment start line ≡ file_of (hex_lines rest) (a / 16) start (next_line line)
  unfolding fits_type type_of stores_of segment_after start_after segment_of
  segment-file rest segment start line =
      let hs = high_byte (a / 16) ∷ low_byte (a / 16) ∷ [] in
      let b : Bytes hs = (omega arith, (omega arith, tt)) in
      let s : a / 16 % 256 + a / 16 / 256 % 256 * 256 ≡ a / 16 = omega arith in
      ap (λ (ls : List (List ℕ)). file_of ls segment start line) (line-lines 0 2 hs (lit< tt) refl (lit< tt) (lit< tt) b rest)
      ∙ file-more segment_line (hex_lines rest) segment start line (line-good 0 2 hs (lit< tt) refl (lit< tt) (lit< tt) b) (λ e. omega (arith, sym (ap type_of segment-bytes) ∙ e))
      ∙ rw (segment-bytes, s)

-- a data record stores its row
module _ (o : ℕ) (vs : List ℕ) (h : o < 65536) (few : length vs < 256) (b : Bytes vs) where
  abbrev data_line : List ℕ
  data_line = line_for o 0 vs

  data-bytes : record_of data_line ≡ unchecked_for o 0 vs ++ check_for (unchecked_for o 0 vs) ∷ []
  unfolding fits_type
  data-bytes = line-record o 0 vs h refl few (lit< tt) b

  data-file : (rest : List ℕ) (segment start line : ℕ) → file_of (hex_lines (data_line ++ 10 ∷ rest)) segment start line
      ≡ storing (stores_from (next_line line) segment o vs) (file_of (hex_lines rest) segment start (next_line line))
  unfolding fits_type type_of stores_of segment_after start_after address_field data_bytes hex_size
  data-file rest segment start line =
      let s : o % 256 + o / 256 % 256 * 256 ≡ o = omega arith in
      ap (λ (ls : List (List ℕ)). file_of ls segment start line) (line-lines o 0 vs h refl few (lit< tt) b rest)
      ∙ file-more data_line (hex_lines rest) segment start line (line-good o 0 vs h refl few (lit< tt) b) (λ e. omega (arith, sym (ap type_of data-bytes) ∙ e))
      ∙ rw (data-bytes, s, take-append_seam vs (check_for (unchecked_for o 0 vs) ∷ []))

-- the end record ends it
end-file : (segment start line : ℕ) → file_of (hex_lines (line_for 0 1 [] ++ 10 ∷ [])) segment start line ≡ file 0 0 start []
unfolding fits_type type_of
end-file segment start line =
    let t = line-record 0 1 [] (lit< tt) refl (lit< tt) (lit< tt) tt in
    ap (λ (ls : List (List ℕ)). file_of ls segment start line) (line-lines 0 1 [] (lit< tt) refl (lit< tt) (lit< tt) tt [])
    ∙ file-end (line_for 0 1 []) (hex_lines []) segment start line (line-good 0 1 [] (lit< tt) refl (lit< tt) (lit< tt) tt) (ap type_of t)

bytes_take : (n : ℕ) (bs : List ℕ) → Bytes bs → Bytes (take n bs)
bytes_take zero bs h = tt
bytes_take (suc n) [] h = tt
bytes_take (suc n) (b ∷ bs) h = (h.0, bytes_take n bs h.1)

bytes_drop : (n : ℕ) (bs : List ℕ) → Bytes bs → Bytes (drop n bs)
bytes_drop zero bs h = h
bytes_drop (suc n) [] h = tt
bytes_drop (suc n) (b ∷ bs) h = bytes_drop n bs h.1

-- all of them
rows : (m : Buffers) → length m.sys ≤ 1048576 → (n a : ℕ) (bs : List ℕ) (segment start line : ℕ) → n ≡ (length bs + 15) / 16 → Bytes bs
    → (0 < length bs → a + length bs ≤ length m.sys) → Rows m a bs start (file_of (hex_lines (records_for n a bs)) segment start line)
unfolding records_for store_row beyond_line store_all
rows m l zero a [] segment start line e b h =
    subst (Rows m a [] start) (sym (end-file segment start line)) record { number = refl; begins = refl; lent = refl; stored = λ m'. refl }
rows m l zero a (x ∷ bs) segment start line e b h = absurd (omega arith)
rows m l (suc n) a bs segment start line e b h =
    let f = h (omega arith) in
    let vs = take 16 bs in
    let ys = drop 16 bs in
    let k = next_line (next_line line) in
    let cut : length vs ≡ min 16 (length bs) = length-take 16 bs in
    let left : length ys ≡ length bs - 16 = length-drop 16 bs in
    let at : a / 16 * 16 + a % 16 ≡ a = omega arith in
    let ih = rows m l n (a + 16) ys (a / 16) start k (omega arith) (bytes_drop 16 bs b) (λ z. omega arith) in
    subst (Rows m a bs start)
    (sym
    (segment-file a (omega arith) (data_line (a % 16) vs (omega arith) (omega arith) (bytes_take 16 bs b) ++ 10 ∷ records_for n (a + 16) ys) segment start line
    ∙ data-file (a % 16) vs (omega arith) (omega arith) (bytes_take 16 bs b) (records_for n (a + 16) ys) (a / 16) start (next_line line)))
    record {
      number = ih.number;
      begins = ih.begins;
      lent =
          row-lent m k (a / 16) (a % 16) vs (file_of (hex_lines (records_for n (a + 16) ys)) (a / 16) start k).stores l (omega arith) (omega arith)
          ∙ ih.lent;
      stored =
          λ m'. store-append m' (stores_from k (a / 16) (a % 16) vs) (file_of (hex_lines (records_for n (a + 16) ys)) (a / 16) start k).stores
          ∙ ih.stored (store_all m' (stores_from k (a / 16) (a % 16) vs))
          ∙ ap (λ (x : Buffers). store_row x (a + 16) ys) (row-stores m' k (a / 16) (a % 16) vs (omega arith) (omega arith) ∙ rw at)
          ∙ row-empty (store_row m' a vs) (a + 16) (a + length vs) ys (λ z. omega arith)
          ∙ sym (row-append m' a vs ys) ∙ ap (store_row m' a) (take-append-drop 16 bs);
    }

-- ---- the row in memory

-- another byte is as it was
row_other : (m : Buffers) (a : ℕ) (bs : List ℕ) (p : ℕ) → a + length bs ≤ 1048576 → p < 1048576 → (p < a) ⊎ (a + length bs ≤ p) → byte_at (store_row m a bs) false p ≡ byte_at m false p
unfolding store_row index_of limit_of
row_other m a [] p h k o = refl
row_other m a (b ∷ bs) p h k o =
    row_other (store_byte m false a b) (a + 1) bs p (omega arith) k (⊎_elim (λ z. inl (omega arith)) (λ z. inr (omega arith)) o)
    ∙ read-other m false a b false p (λ z e. ⊎_elim (λ y. omega (arith, e)) (λ y. omega (arith, e)) o)

-- each of its bytes is there
row_at : (m : Buffers) (a : ℕ) (bs : List ℕ) (i : ℕ) → a + length bs ≤ 1048576 → a + length bs ≤ length (space_of m false) → i < length bs
    → byte_at (store_row m a bs) false (a + i) ≡ get_or bs i 0
unfolding store_row
row_at m a [] i h l k = absurd (omega arith)
row_at m a (b ∷ bs) zero h l k =
    let e : a + 0 ≡ a = omega arith in
    rw e (row_other (store_byte m false a b) (a + 1) bs a (omega arith) (omega arith) (inl (omega arith)) ∙ read_same m false a b lent)
  where
    lent : lent_at m false a ≡ true
    lent = unfold lent_at index_of limit_of in lt-ltb (a % 1048576) (length (space_of m false)) (omega arith)
row_at m a (b ∷ bs) (suc i) h l k =
    let e : a + suc i ≡ a + 1 + i = omega arith in
    rw e (row_at (store_byte m false a b) (a + 1) bs i (omega arith) (omega (arith, store_length m false false a b)) (omega arith))

-- ---- the round trip

module _ (sys : List ℕ) (a : ℕ) (bs : List ℕ) (limit : length sys ≤ 1048576) (b : Bytes bs) (h : a + length bs ≤ length sys) where
  -- what the writer wrote is read back: number 0, and memory with those bytes stored
  pub comes_back : load_of (file_for a bs) (buffers sys []) ≡ loading 0 0 0 (store_row (buffers sys []) a bs)
  unfolding file_for text_file within_limits limit_of
  comes_back =
      let m = buffers sys [] in
      let r = rows m limit ((length bs + 15) / 16) a bs 0 0 0 refl b (λ z. h) in
      load-done (file_for a bs) m (rw (le-leb (length sys) 1048576 limit)) r.number r.lent ∙ rw (r.begins, r.stored m)

  -- each byte at its address
  pub bytes_back : (i : ℕ) → i < length bs → byte_at (load_of (file_for a bs) (buffers sys [])).memory false (a + i) ≡ get_or bs i 0
  unfolding space_of
  bytes_back i k = rw comes_back (row_at (buffers sys []) a bs i (omega arith) h k)

  -- and no other byte changed
  pub others-kept : (p : ℕ) → p < 1048576 → (p < a) ⊎ (a + length bs ≤ p) → byte_at (load_of (file_for a bs) (buffers sys [])).memory false p ≡ byte_at (buffers sys []) false p
  others-kept p k o = rw comes_back (row_other (buffers sys []) a bs p (omega arith) k o)
