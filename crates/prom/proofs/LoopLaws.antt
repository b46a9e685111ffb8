-- The laws of a turn of each loop: over the frames of a text, and over the digits of a record, two at a time.
-- Assumes nothing.
use Prim.Native.Nat.{ℕ, ◌+◌, ◌*◌, ◌%◌, ◌<◌}
use lib.Dec.{ltb}
use lib.ListN.{length, get_or}
use mathlib.Core.Bool.{Bool, true, false, ◌&&◌}
use mathlib.Core.List.{List, [], ◌∷◌, ◌++◌}
use mathlib.Core.Path.{◌≡◌, refl, sym, ap, ap₂, ◌∙◌}
use native.Mathlib.Decide.{ℕ_discrete}
use native.Mathlib.Nat.{mod-eq_of_lt}
use native.Mathlib.Omega.{arith}
use Rattle.std.specs.Prelude.{Option, Some, None, Result, Ok, Err}
use Rattle.std.specs.Result.{MatchResult}
use Rattle.std.specs.Option.{option_or}
use Rattle.ground_rules.specs.Buffers.{Buffers, store_byte}
use Rattle.ground_rules.specs.Choice.{pick}
use Rattle.prom_rules.specs.File.{File, file, next_line, stores_from, stores_of, segment_after, start_after, file_of}
use Rattle.prom_rules.specs.Load.{loading, store_all}
use Rattle.prom_rules.specs.Records.{hex_value, all_hex, hex_byte, hex_bytes, type_of, sum_of, line_refusal}
use Rattle.prom_rules.specs.Text.{hex_lines}
use Rattle.prom_rules.proofs.FileLaws.{next-some, stores-wrap, file-bad, file-end, file-more, stored_more, number_more}
use Rattle.prom.specs.Frames.{Framed, frame_line}
use Rattle.prom.specs.Parts.{first_line, byte_in, sum_in, record_lent}
use Rattle.prom.specs.Refusals.{reason_number, judged_of}
use Rattle.prom.specs.declared.records.Frame.{Frame}
use Rattle.prom.proofs.LineLaws.{others_of, lines-some}
use Rattle.prom.specs.declared.refusals.LoadRefusal.{LoadRefusal}
use Rattle.prom.proofs.PlaceLaws.{judged-record, judged-bad, number-some}

-- ---- two digits at a time

-- two digits add their byte
pub sum-more : (x ds : List ℕ) (sum v : ℕ) → length x ≡ 2 → byte_in x 0 ≡ Some v → sum_in sum (x ++ ds) ≡ sum_in ((sum + v) % 256) ds
unfolding byte_in sum_in all_hex hex_bytes sum_of
sum-more [] ds sum v n e = absurd (omega (arith, n))
sum-more (a ∷ []) ds sum v n e = absurd (omega (arith, n))
sum-more (a ∷ b ∷ c ∷ x) ds sum v n e = absurd (omega (arith, n))
sum-more (a ∷ b ∷ []) ds sum v n e = go (ltb (hex_value a) 16) (ltb (hex_value b) 16) e
  where
    rest : ℕ
    rest = sum_of (hex_bytes ds)

    go : (y z : Bool) → pick (y && z) (Some (hex_byte a b)) None ≡ Some v
        → pick (y && (z && all_hex ds)) (Some ((sum + (hex_byte a b + rest)) % 256)) None ≡ pick (all_hex ds) (Some (((sum + v) % 256 + rest) % 256)) None
    go true true e =
        let v-is : v ≡ hex_byte a b = value e in
        let same : (sum + (hex_byte a b + rest)) % 256 ≡ ((sum + v) % 256 + rest) % 256 = omega (arith, v-is) in
        ap (λ (k : ℕ). pick (all_hex ds) (Some k) None) same
      where
        value : ◌≡◌ {A = Option ℕ} (Some (hex_byte a b)) (Some v) → v ≡ hex_byte a b
        value e = cc
    go true false e = absurd (nothing e)
      where
        nothing : ◌≡◌ {A = Option ℕ} None (Some v) → ⊥
        nothing e = cc
    go false z e = absurd (nothing e)
      where
        nothing : ◌≡◌ {A = Option ℕ} None (Some v) → ⊥
        nothing e = cc

-- two bytes that are not both digits end it
pub sum-none : (x ds : List ℕ) (sum : ℕ) → length x ≡ 2 → byte_in x 0 ≡ None → sum_in sum (x ++ ds) ≡ None
unfolding byte_in sum_in all_hex hex_bytes
sum-none [] ds sum n e = absurd (omega (arith, n))
sum-none (a ∷ []) ds sum n e = absurd (omega (arith, n))
sum-none (a ∷ b ∷ c ∷ x) ds sum n e = absurd (omega (arith, n))
sum-none (a ∷ b ∷ []) ds sum n e = go (ltb (hex_value a) 16) (ltb (hex_value b) 16) e
  where
    go : (y z : Bool) → pick (y && z) (Some (hex_byte a b)) None ≡ None
        → ◌≡◌ {A = Option ℕ} (pick (y && (z && all_hex ds)) (Some ((sum + sum_of (hex_byte a b ∷ hex_bytes ds)) % 256)) None) None
    go true true e = absurd (some e)
      where
        some : ◌≡◌ {A = Option ℕ} (Some (hex_byte a b)) None → ⊥
        some e = cc
    go true false e = refl
    go false z e = refl

-- where none is left, that is all
pub sum-all : (ds : List ℕ) (sum : ℕ) → length ds < 2 → length ds % 2 ≡ 0 → sum < 256 → sum_in sum ds ≡ Some sum
unfolding sum_in all_hex hex_bytes sum_of
sum-all [] sum n e h = let same : (sum + 0) % 256 ≡ sum = omega (arith, h) in ap (λ (k : ℕ). Some k) same
sum-all (a ∷ []) sum n e h = absurd (omega (arith, e))
sum-all (a ∷ b ∷ ds) sum n e h = absurd (omega (arith, n))

-- two digits store their byte
pub put-more : (m : Buffers) (segment to : ℕ) (x ds : List ℕ) → length x ≡ 2 → to < 65536
    → store_all m (stores_from 0 segment to (hex_bytes (x ++ ds)))
    ≡ store_all (store_byte m false ((segment * 16 + to) % 1048576) (get_or (hex_bytes x) 0 0)) (stores_from 0 segment ((to + 1) % 65536) (hex_bytes ds))
unfolding store_all stores_from hex_bytes
put-more m segment to [] ds n h = absurd (omega (arith, n))
put-more m segment to (a ∷ []) ds n h = absurd (omega (arith, n))
put-more m segment to (a ∷ b ∷ c ∷ x) ds n h = absurd (omega (arith, n))
put-more m segment to (a ∷ b ∷ []) ds n h =
    let here : to % 65536 ≡ to = mod-eq_of_lt h in
    rw (here, stores-wrap 0 segment (to + 1) ((to + 1) % 65536) (hex_bytes ds) (omega arith))

-- with fewer than two digits left there is none
pub put-last : (m : Buffers) (segment to : ℕ) (ds : List ℕ) → length ds < 2 → store_all m (stores_from 0 segment to (hex_bytes ds)) ≡ m
unfolding store_all stores_from hex_bytes
put-last m segment to [] h = refl
put-last m segment to (a ∷ []) h = refl
put-last m segment to (a ∷ b ∷ ds) h = absurd (omega (arith, h))

-- ---- frame by frame

-- at the end of a text there is no line
pub text-end : (t : List ℕ) (segment start line : ℕ) → length t ≡ 0 → file_of (hex_lines t) segment start line ≡ file 23 line 0 []
unfolding file_of hex_lines
text-end [] segment start line n = refl
text-end (b ∷ bs) segment start line n = absurd (omega (arith, n))

-- a first line that is none decides
pub text-bad : (t : List ℕ) (segment start line : ℕ) → 0 < length t → (line_refusal (first_line t) ≡ 0 → ⊥)
    → file_of (hex_lines t) segment start line ≡ file (line_refusal (first_line t)) (next_line line) 0 []
text-bad t segment start line n ne = rw (lines-some t n) (file-bad (first_line t) (others_of (hex_lines t)) segment start line ne)

-- a file with no number begins with a good record
pub text-good : (t : List ℕ) (segment start line : ℕ) → 0 < length t → (file_of (hex_lines t) segment start line).number ≡ 0 → (line_refusal (first_line t) ≡ 0 → ⊥) → ⊥
text-good t segment start line n z ne = ne (sym (ap (λ (f : File). f.number) (text-bad t segment start line n ne)) ∙ z)

-- so does its frame
pub framed-good : (t : List ℕ) (f : Frame) (rest : List ℕ) → Framed t f rest → (segment start line : ℕ) → (file_of (hex_lines t) segment start line).number ≡ 0 → line_refusal (frame_line f) ≡ 0
framed-good t f rest g segment start line z = sym g.same ∙ go (ℕ_discrete (line_refusal (first_line t)) 0)
  where
    go : Dec (line_refusal (first_line t) ≡ 0) → line_refusal (first_line t) ≡ 0
    go (yes e) = e
    go (no ne) = absurd (text-good t segment start line (omega (arith, g.shorter)) z ne)

-- and there is one
pub framed-some : (t : List ℕ) (read : Result Frame LoadRefusal) (rest : List ℕ) (line segment : ℕ)
    → MatchResult read (λ frame. (frame.line ≡ line) × Framed t frame rest) (λ refused. (refused.line ≡ line) × (0 < length t) × (reason_number refused.why ≡ line_refusal (first_line t)))
    → (file_of (hex_lines t) segment 0 0).number ≡ 0 → ((x : Frame) → read ≡ Ok x → ⊥) → ⊥
framed-some t (Ok frame) rest line segment h z ne = ne frame refl
framed-some t (Err refused) rest line segment h z ne = text-good t segment 0 0 h.1 z (λ e. number-some refused.why (h.2 ∙ e))

module _ (t : List ℕ) (f : Frame) (rest : List ℕ) (g : Framed t f rest) (e : line_refusal (frame_line f) ≡ 0) where
  -- the end record ends it
  pub frame-end : (segment start line : ℕ) → type_of (hex_bytes f.digits.now) ≡ 1 → file_of (hex_lines t) segment start line ≡ file 0 0 start []
  frame-end segment start line k = rw (g.lines e) (file-end (frame_line f) (hex_lines rest) segment start line e k)

  module _ (k : type_of (hex_bytes f.digits.now) ≡ 1 → ⊥) where
    -- a turn of the judging loop
    pub frame-judged : (m : Buffers) (before : Option ℕ) (segment start line : ℕ)
        → judged_of m before (file_of (hex_lines t) segment start line)
        ≡ judged_of m (option_or before (pick (record_lent m segment (hex_bytes f.digits.now)) None (Some (next_line line))))
        (file_of (hex_lines rest) (segment_after (hex_bytes f.digits.now) segment) (start_after (hex_bytes f.digits.now) start) (next_line line))
    frame-judged m before segment start line =
        rw (g.lines e, file-more (frame_line f) (hex_lines rest) segment start line e k)
        (judged-record m before (next_line line) segment (frame_line f)
        (file_of (hex_lines rest) (segment_after (hex_bytes f.digits.now) segment) (start_after (hex_bytes f.digits.now) start) (next_line line)) e (next-some line))

    -- a turn of the storing loop
    pub frame-stored : (m : Buffers) (segment : ℕ)
        → store_all m (file_of (hex_lines t) segment 0 0).stores
        ≡ store_all (store_all m (stores_of 0 segment (hex_bytes f.digits.now))) (file_of (hex_lines rest) (segment_after (hex_bytes f.digits.now) segment) 0 0).stores
    frame-stored m segment = rw (g.lines e) (stored_more m (frame_line f) (hex_lines rest) segment e k)

    pub frame-number : (segment : ℕ)
        → (file_of (hex_lines t) segment 0 0).number ≡ (file_of (hex_lines rest) (segment_after (hex_bytes f.digits.now) segment) 0 0).number
    frame-number segment = rw (g.lines e) (number_more (frame_line f) (hex_lines rest) segment e k)

-- a refusal by a line that is none is what the file is judged as
pub judged-refused : (m : Buffers) (before : Option ℕ) (t : List ℕ) (segment start line : ℕ) (refused : LoadRefusal) → 0 < length t
    → reason_number refused.why ≡ line_refusal (first_line t) → refused.line ≡ next_line line
    → loading (reason_number refused.why) 0 refused.line m ≡ judged_of m before (file_of (hex_lines t) segment start line)
judged-refused m before t segment start line refused n why at =
    let ne : line_refusal (first_line t) ≡ 0 → ⊥ = λ e. number-some refused.why (why ∙ e) in
    ap₂ (λ (k l : ℕ). loading k 0 l m) why at
    ∙ sym (ap (judged_of m before) (text-bad t segment start line n ne) ∙ judged-bad m before (line_refusal (first_line t)) (next_line line) ne)
