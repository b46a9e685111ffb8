-- The theorems of a schedule: accepted and refused rows add up to the rows given, one cut into two gives the same, 16 is given exactly for a row of no known kind and then nothing is run, what the accepted rows are, what is stored, and how large a count can be.
-- Assumes nothing.
use mathlib.Core.Bool.{Bool, true, false, ◌&&◌, ◌||◌}
use mathlib.Core.{List.List, List.[], List.◌∷◌, List.◌++◌, List.map, Logic.◌↔◌, Path.◌≡◌, Path.refl, Path.sym, Path.ap, Path.ap₂, Path.◌∙◌}
use Prim.Native.Nat.{ℕ, ◌+◌, ◌*◌, ◌≤◌}
use native.Mathlib.Omega.{arith}
use lib.{Dec.ltb, ListN.length, ListN.get_or, ListN.replicate, ListN.take, ListN.drop}
use Rattle.ground_rules.proofs.{ConditionLaws.told-exactly, ConditionLaws.picked, ConditionLaws.rewritten, ConditionLaws.worded, ChoiceLaws.both_left, ChoiceLaws.both_right}
use Rattle.ground_rules.specs.{Conditions.Given, States.channel_of, Choice.pick}
use Rattle.turn_rules.specs.{Choosing.requested, declared.Kind.Kind}
use Rattle.schedule_rules.specs.Counts.{RowCount, once_if, over_rows, accepted_at, refused_at, is_attention_to, attended_at, rejected_at, is_instruction, is_transfer, is_external, done_at, instruction_at, transfer_at, stored_at, end_at, waits_for_drq, wait_at}
use Rattle.schedule_rules.specs.Rows.{Bench, is_attention, is_step, all_known, row_left, rows_left}
use Rattle.schedule_rules.specs.Reports.{channel_counts, all_counts, report_of, both_reports, all_run, none_run, schedule_of, put_over}
use Rattle.schedule_rules.specs.{Conditions.UnknownIn, Conditions.schedule_checks, declared.ScheduleRow.ScheduleRow}
use Rattle.schedule_rules.proofs.RowLaws.{once-one, accepted-or-refused, attentions-of, accepted-is, told-known, known-cut, left_cut, over-cut}
use Rattle.schedule_rules.proofs.StoreLaws.{stored-most, stored-two}

-- ---- 16

-- of known kinds every row is run
pub known-runs : (p : Bench) (rows : List ScheduleRow) → all_known rows ≡ true → schedule_of p rows ≡ all_run p rows
unfolding schedule_of
known-runs p rows h = rw h

-- with a row of another kind none is, also not those before it
pub unknown-stays : (p : Bench) (rows : List ScheduleRow) → UnknownIn rows → schedule_of p rows ≡ record { number = 16; bench = p; report = replicate 16 0 }
unfolding schedule_of
unknown-stays p rows u = rw ((told-exactly (told-known rows)).1 u)

-- its number is that of its check, else 0
pub schedule-given : (p : Bench) (rows : List ScheduleRow) (n : ℕ) → ((schedule_of p rows).number ≡ n) ↔ Given (schedule_checks rows) n
unfolding schedule_of
schedule-given p rows n = rewritten (chain (all_known rows)) (picked 16 (told-known rows) (sym, sym))
  where
    chain : (b : Bool) → (pick b (all_run p rows) (none_run p)).number ≡ pick b 0 16
    chain true = refl
    chain false = refl

-- 16 is given exactly then
pub gives-16 : (p : Bench) (rows : List ScheduleRow) → ((schedule_of p rows).number ≡ 16) ↔ UnknownIn rows
gives-16 p rows = worded (schedule_checks rows) 16 (schedule-given p rows 16)

-- no row leaves everything and counts nothing
pub none-given : (p : Bench) → schedule_of p [] ≡ record { number = 0; bench = p; report = replicate 16 0 }
unfolding schedule_of all_known rows_left report_of over_rows
none-given p = refl

-- ---- sums

-- accepted and refused rows add up to the rows given
pub rows-add-up : (p : Bench) (rows : List ScheduleRow) → over_rows accepted_at p rows + over_rows refused_at p rows ≡ length rows
unfolding over_rows
rows-add-up p [] = refl
rows-add-up p (r ∷ rows) = let k = rows-add-up (row_left p r) rows in omega (arith, accepted-or-refused p r)

-- so do the first two words of the report of known kinds
pub add-up : (p : Bench) (rows : List ScheduleRow) → all_known rows ≡ true → get_or (schedule_of p rows).report 0 0 + get_or (schedule_of p rows).report 1 0 ≡ length rows
unfolding report_of
add-up p rows h = rw (known-runs p rows h) (rows-add-up p rows)

-- a channel's attentions, accepted and refused, are the rows that are attentions to it
pub attentions-add-up : (second : Bool) (p : Bench) (rows : List ScheduleRow)
    → over_rows (attended_at second) p rows + over_rows (rejected_at second) p rows ≡ over_rows (λ q r. once_if (is_attention_to second r)) p rows
unfolding over_rows
attentions-add-up second p [] = refl
attentions-add-up second p (r ∷ rows) = let k = attentions-add-up second (row_left p r) rows in omega (arith, attentions-of second p r)

-- of known kinds the accepted rows are the attentions accepted, instructions, transfer steps and external ends of both channels together
pub accepted-are : (p : Bench) (rows : List ScheduleRow) → all_known rows ≡ true
    → let total : (Bool → RowCount) → ℕ = λ f. over_rows (f false) p rows + over_rows (f true) p rows in
    over_rows accepted_at p rows ≡ total attended_at + (total instruction_at + total transfer_at + total end_at)
unfolding over_rows all_known
accepted-are p [] h = refl
accepted-are p (r ∷ rows) h =
    let k = accepted-are (row_left p r) rows (both_right (is_attention r || is_step r) (all_known rows) h) in
    omega (arith, accepted-is p r (both_left (is_attention r || is_step r) (all_known rows) h))

-- ---- bounds

-- a channel's stored bytes are at most twice its transfer steps
pub stored_bytes : (second : Bool) (p : Bench) (rows : List ScheduleRow) → over_rows (stored_at second) p rows ≤ 2 * over_rows (transfer_at second) p rows
unfolding over_rows
stored_bytes second p [] = omega arith
stored_bytes second p (r ∷ rows) = let k = stored_bytes second (row_left p r) rows in omega (arith, stored-most second p r)

-- a row adds at most 2 to each of some counts
abbrev pub MostTwo : List RowCount → Type 0
MostTwo [] = Unit {0}
MostTwo (f ∷ fs) = ((q : Bench) (r : ScheduleRow) → f q r ≤ 2) × MostTwo fs

-- so does it to those of a channel, and to more
channel-two : (second : Bool) (fs : List RowCount) → MostTwo fs → MostTwo (channel_counts second ++ fs)
unfolding instruction_at transfer_at end_at wait_at
channel-two second fs h =
    let most : (f : Bench → ScheduleRow → Bool) (q : Bench) (r : ScheduleRow) → once_if (f q r) ≤ 2 = λ f q r. omega (arith, once-one (f q r)) in
    let two : (q : Bench) (r : ScheduleRow) → attended_at second q r + rejected_at second q r ≤ 2 =
    λ q r. omega (arith, attentions-of second q r, once-one (is_attention_to second r)) in
    let wait = most (λ q r. is_step r && ltb r.value 16 && waits_for_drq (channel_of q.state second) (requested r.value second)) in
    let done : (k : Kind → Bool) (q : Bench) (r : ScheduleRow) → once_if (done_at k second q r) ≤ 2 = λ k. most (done_at k second) in
    (λ q r. omega (arith, two q r), (λ q r. omega (arith, two q r), (done is_instruction, (done is_transfer, (stored-two second, (done is_external, (wait, h)))))))

-- so does it to every count
pub counts-two : MostTwo all_counts
counts-two =
    let both = channel-two false (channel_counts true) (channel-two true [] tt) in
    (λ q r. omega (arith, accepted-or-refused q r), (λ q r. omega (arith, accepted-or-refused q r), both))

-- so a count is at most twice the rows
pub over-most : (f : RowCount) → ((q : Bench) (r : ScheduleRow) → f q r ≤ 2) → (p : Bench) (rows : List ScheduleRow) → over_rows f p rows ≤ 2 * length rows
unfolding over_rows
over-most f h p [] = omega arith
over-most f h p (r ∷ rows) = let k = over-most f h (row_left p r) rows in omega (arith, h p r)

-- ---- a schedule cut into two

-- each of some counts is the sum of the two counts
sums-cut : (fs : List RowCount) (p : Bench) (a b : List ScheduleRow)
    → map (λ f. over_rows f p (a ++ b)) fs ≡ both_reports (map (λ f. over_rows f p a) fs) (map (λ f. over_rows f (rows_left p a) b) fs)
unfolding both_reports
sums-cut [] p a b = refl
sums-cut (f ∷ fs) p a b = ap₂ ◌∷◌ (over-cut f p a b) (sums-cut fs p a b)

-- of known kinds: the end is the second part's from the first's end, and the counts add
pub schedule-cut : (p : Bench) (a b : List ScheduleRow) → all_known (a ++ b) ≡ true
    → let x = schedule_of p a in let y = schedule_of x.bench b in
    schedule_of p (a ++ b) ≡ record { number = 0; bench = y.bench; report = both_reports x.report y.report }
unfolding report_of
schedule-cut p a b h =
    let parts = sym (known-cut a b) ∙ h in
    let one = known-runs p a (both_left (all_known a) (all_known b) parts) in
    let two = known-runs (rows_left p a) b (both_right (all_known a) (all_known b) parts) in
    rw (known-runs p (a ++ b) h, one, two, left_cut p a b, sums-cut all_counts p a b)

-- ---- lent words

-- as many words of a report as have room, and behind them the words that stood there
pub put-over : (report words : List ℕ) → put_over report words ≡ take (length words) report ++ drop (length report) words
unfolding put_over
put-over [] [] = refl
put-over [] (y ∷ words) = refl
put-over (x ∷ report) [] = refl
put-over (x ∷ report) (y ∷ words) = ap (λ (l : List ℕ). x ∷ l) (put-over report words)
