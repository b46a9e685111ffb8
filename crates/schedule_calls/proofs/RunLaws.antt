-- What the loop over a schedule's rows holds after some of them, what those rows left and counted: from the start, one row on, and at the end; and what stands where none is run.
-- Assumes nothing.
use mathlib.Core.{Bool.Bool, Bool.true, Bool.false, Bool.◌||◌, Bool.◌&&◌, List.List, List.[], List.◌∷◌, List.◌++◌, List.map}
use mathlib.Core.{Path.◌≡◌, Path.refl, Path.sym, Path.ap, Path.ap₂, Path.◌∙◌}
use Rattle.std.proofs.Common.{ℕ, ◌+◌, ◌<◌, ◌≤◌}
use native.Mathlib.{Numerals.add-one, Omega.arith}
use lib.{ListN.length, ListN.get_or, ListN.take, Seq.take-suc, Seq.take-length, Seq.length-take-le}
use Rattle.ground_rules.{proofs.ChoiceLaws.apart, specs.Choice.pick}
use Rattle.state_rules.specs.Layout.{bytes_of, state_in, is_state}
use Rattle.schedule_rules.specs.Reports.{all_counts, no_report, report_of, schedule_of, put_over}
use Rattle.schedule_rules.specs.{Rows.Bench, Rows.all_known, Rows.is_attention, Rows.is_step, Rows.row_left, Rows.rows_left, declared.ScheduleRow.ScheduleRow, Counts.RowCount, Counts.over_rows}
use Rattle.schedule_rules.proofs.{RowLaws.known_at, RowLaws.left_cut, ScheduleLaws.MostTwo, ScheduleLaws.counts-two, ScheduleLaws.over-most, RowLaws.over-cut}
use Rattle.std.specs.List.{list_all}
use Rattle.ground_rules.specs.Refusals.{number_of}
use Rattle.ground_rules.specs.declared.Refusal.{Refusal}
use Rattle.ground_rules.specs.declared.Refusal.TheVariants.{NothingSteps, BeyondMemory, NotAnInstruction, ControlNamed, BadTransferMode, BadCommand, NotSuspended, AlreadyRunning, NotRunning, UnsoundState, BufferTooLong, OutOfRange, NotPoweredUp, FieldsDiffer, NotSweepable, UnknownRow, NotAState}
use Rattle.schedule_calls.specs.Asked.{is_known_row}
use Rattle.schedule_calls.specs.Turns.{Standing, standing, bench_in, StateBytes, RowRun}
use Rattle.schedule_calls.specs.{Calls.scheduled, Calls.schedule_served, Calls.ScheduleMet, Words.added_on}

-- in place of a row past the last
abbrev pub no_row : ScheduleRow
no_row = record { kind = 0; value = 0 }

-- what stands where every count is 0
abbrev pub cleared_at : Standing → Standing
cleared_at x = standing x.bytes x.memory (put_over no_report x.words)

-- the number before the first row
abbrev pub first_number : Standing → List ScheduleRow → ℕ
first_number x rows = pick (is_state x.bytes) (pick (all_known rows) 0 16) 17

-- the bytes of a state are what it is put as
abbrev pub Back : Standing → Type 0
Back x = is_state x.bytes ≡ true → bytes_of (state_in x.bytes) ≡ x.bytes

-- what some rows leave and count
pub record Ran (x : Standing) (rows : List ScheduleRow) (y : Standing) : Type 0 where
  pub bench : bench_in y ≡ rows_left (bench_in x) rows
  pub words : y.words ≡ put_over (report_of (bench_in x) rows) x.words
  pub state : StateBytes y.bytes

-- no lent slice has more rows
abbrev pub most_rows : ℕ
most_rows = 1152921504606846976

-- what more rows count, added over what some counted, is put as what all count: none of these words wraps
counted-on : (fs : List RowCount) → MostTwo fs → (p : Bench) (a b : List ScheduleRow) → length (a ++ b) ≤ most_rows → (xs : List ℕ)
    → added_on (map (λ f. over_rows f (rows_left p a) b) fs) (put_over (map (λ f. over_rows f p a) fs) xs) ≡ put_over (map (λ f. over_rows f p (a ++ b)) fs) xs
unfolding added_on put_over
counted-on [] h p a b few xs = refl
counted-on (f ∷ fs) h p a b few [] = refl
counted-on (f ∷ fs) h p a b few (x ∷ xs) = ap₂ ◌∷◌ (omega (arith, over-cut f p a b, over-most f h.0 p (a ++ b))) (counted-on fs h.1 p a b few xs)

-- a refusal has a number
pub refusal-number : (r : Refusal) → ¬ (number_of r ≡ 0)
refusal-number NothingSteps e = omega (arith, e)
refusal-number BeyondMemory e = omega (arith, e)
refusal-number NotAnInstruction e = omega (arith, e)
refusal-number ControlNamed e = omega (arith, e)
refusal-number BadTransferMode e = omega (arith, e)
refusal-number BadCommand e = omega (arith, e)
refusal-number NotSuspended e = omega (arith, e)
refusal-number AlreadyRunning e = omega (arith, e)
refusal-number NotRunning e = omega (arith, e)
refusal-number UnsoundState e = omega (arith, e)
refusal-number BufferTooLong e = omega (arith, e)
refusal-number OutOfRange e = omega (arith, e)
refusal-number NotPoweredUp e = omega (arith, e)
refusal-number FieldsDiffer e = omega (arith, e)
refusal-number NotSweepable e = omega (arith, e)
refusal-number UnknownRow e = omega (arith, e)
refusal-number NotAState e = omega (arith, e)

-- every row is of a known kind where each is
pub known-listed : (rows : List ScheduleRow) → list_all is_known_row rows ≡ all_known rows
unfolding all_known
known-listed [] = refl
known-listed (r ∷ rows) = ap (λ (b : Bool). is_known_row r && b) (known-listed rows)

-- rows are run from a state where each is of a known kind
pub admits : (x : Standing) (rows : List ScheduleRow) → first_number x rows ≡ 0 → (is_state x.bytes ≡ true) × (all_known rows ≡ true)
admits x rows = go (is_state x.bytes) (all_known rows)
  where
    go : (b k : Bool) → ◌≡◌ {A = ℕ} (pick b (pick k 0 16) 17) 0 → (b ≡ true) × (k ≡ true)
    go true true h = (refl, refl)
    go true false h = absurd (omega arith)
    go false k h = absurd (omega arith)

module _ (x : Standing) (rows : List ScheduleRow) (back : Back x) where
  -- before the first row
  pub ran_start : first_number x rows ≡ 0 → Ran x [] (cleared_at x)
  unfolding rows_left report_of over_rows
  ran_start z =
      let is = (admits x rows z).0 in
      record { bench = refl; words = refl; state = record { is = is; back = back is } }

  -- one row on
  pub ran-next : (i : ℕ) (y z : Standing) → i < length rows → length rows ≤ most_rows → Ran x (take i rows) y
      → RowRun (get_or rows i no_row) y z → Ran x (take (i + 1) rows) z
  unfolding rows_left report_of
  ran-next i y z l few h t =
      let a = take i rows in
      let r = get_or rows i no_row in
      let on : take (i + 1) rows ≡ a ++ (r ∷ []) = ap (λ (k : ℕ). take k rows) (add-one i) ∙ take-suc rows i no_row l in
      let short : length (a ++ (r ∷ [])) ≤ most_rows = omega (arith, ap length on, length-take-le (i + 1) rows (omega arith)) in
      let counts = counted-on all_counts counts-two (bench_in x) a (r ∷ []) short x.words in
      rw on (record {
        bench = t.bench ∙ ap (λ (p : Bench). row_left p r) h.bench ∙ sym (left_cut (bench_in x) a (r ∷ []));
        words = t.words ∙ ap₂ (λ (p : Bench) (ws : List ℕ). added_on (report_of p (r ∷ [])) ws) h.bench h.words ∙ counts;
        state = t.state;
      })

  -- the next row is of a known kind
  pub row_known : (i : ℕ) → first_number x rows ≡ 0 → i < length rows → (is_attention (get_or rows i no_row) || is_step (get_or rows i no_row)) ≡ true
  row_known i z l = known_at rows i no_row (admits x rows z).1 l

  -- the end: all rows were run
  pub ran-end : (i : ℕ) (y : Standing) → first_number x rows ≡ 0 → i ≡ length rows → Ran x (take i rows) y → ScheduleMet 0 y x rows
  unfolding schedule_served schedule_of
  ran-end i y z end h =
      let is = (admits x rows z).0 in
      let known = (admits x rows z).1 in
      let ran : Ran x rows y = rw (end, take-length) at h in
      let bytes = ap (λ (b : List ℕ). scheduled 0 (standing b y.memory y.words)) (sym ran.state.back) in
      let left = ap₂ (λ (q : Bench) (ws : List ℕ). scheduled 0 (standing (bytes_of q.state) q.memory ws)) ran.bench ran.words in
      (rw (is, known) (bytes ∙ left), λ st. (ran.state.is, rw known (ap (λ (q : Bench). q.state) ran.bench)))

  -- or none was
  pub ran_none : (number : ℕ) → number ≡ first_number x rows → ¬ (number ≡ 0) → ScheduleMet number (cleared_at x) x rows
  unfolding schedule_served schedule_of
  ran_none number first ne = go (is_state x.bytes) refl (all_known rows) refl
    where
      go : (b : Bool) → is_state x.bytes ≡ b → (k : Bool) → all_known rows ≡ k → ScheduleMet number (cleared_at x) x rows
      go true is true known = absurd (ne (first ∙ rw (is, known)))
      go true is false known =
          let sixteen : number ≡ 16 = first ∙ rw (is, known) in
          let bytes = ap (λ (b : List ℕ). scheduled 16 (standing b x.memory (put_over no_report x.words))) (sym (back is)) in
          rw (sixteen, is, known) (bytes, λ st. (st, refl))
      go false is k known =
          let seventeen : number ≡ 17 = first ∙ rw is in
          rw (seventeen, is) (refl, λ st. apart (sym st))
