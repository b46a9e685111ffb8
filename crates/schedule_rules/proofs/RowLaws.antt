-- The laws of rows: which are known, what rows cut into two leave and count, that a refused row leaves everything, and what is counted of a row.
-- Assumes nothing.
use mathlib.Core.Bool.{true, ◌||◌, Bool, false, ◌&&◌, and_assoc, not}
use mathlib.Core.{List.List, List.[], List.◌∷◌, List.◌++◌, Path.◌≡◌, Path.refl, Path.sym, Path.ap, Path.◌∙◌, Logic.⊎_elim, Logic.◌↔◌}
use Prim.Native.Nat.{ℕ, ◌+◌, zero, suc, ◌<◌, ◌≤◌}
use native.Mathlib.Omega.{arith}
use borrow.Author.Tests.{eqb-true, eqb-false, ne_eqb}
use lib.{ListN.length, ListN.get_or, Dec.eqb}
use Rattle.ground_rules.proofs.ChoiceLaws.{both_left, both_right, and-true, and-false}
use Rattle.ground_rules.proofs.ConditionLaws.{Told, told-true, told-eqb, told_and, told-or, Says, says-eqb, says-or}
use Rattle.ground_rules.specs.{Outcomes.Outcome, Choice.pick, States.channel_number, declared.State.State, Buffers.Buffers}
use Rattle.attention_rules.{proofs.Outcomes.refused-nothing, specs.Attention.attention_of, proofs.Numbers.number-exactly}
use Rattle.turn_rules.{proofs.OutcomeLaws.refused, specs.Step.Step, specs.Step.step_of, proofs.OutcomeLaws.by-step}
use Rattle.schedule_rules.specs.Counts.{RowCount, over_rows, once_if, accepted_at, refused_at, is_attention_to, attended_at, rejected_at, is_instruction, is_transfer}
use Rattle.schedule_rules.specs.Counts.{is_external, is_done, done_at, instruction_at, transfer_at, end_at, stored_at, wait_at}
use Rattle.schedule_rules.specs.Rows.{Bench, is_attention, is_step, all_known, row_left, rows_left, bench, row_number}
use Rattle.schedule_rules.specs.{declared.ScheduleRow.ScheduleRow, Conditions.UnknownIn, Reports.report_of}

-- any count of rows cut into two is the sum of the two counts
pub over-cut : (f : RowCount) (p : Bench) (a b : List ScheduleRow) → over_rows f p (a ++ b) ≡ over_rows f p a + over_rows f (rows_left p a) b
unfolding over_rows rows_left
over-cut f p [] b = omega arith
over-cut f p (r ∷ a) b = let h = over-cut f (row_left p r) a b in omega arith

-- the test for known kinds fails exactly where a kind is neither 1 nor 2
pub told-known : (rows : List ScheduleRow) → Told (all_known rows) (UnknownIn rows)
unfolding all_known
told-known [] = told-true (λ h. h)
told-known (r ∷ rows) = told_and (told-or (told-eqb r.kind 1) (told-eqb r.kind 2)) (told-known rows)

-- of known kinds each row is of one
pub known_at : (rows : List ScheduleRow) (i : ℕ) (d : ScheduleRow) → all_known rows ≡ true → i < length rows
    → (is_attention (get_or rows i d) || is_step (get_or rows i d)) ≡ true
unfolding all_known
known_at [] i d h l = absurd (omega arith)
known_at (r ∷ rows) zero d h l = both_left (is_attention r || is_step r) (all_known rows) h
known_at (r ∷ rows) (suc i) d h l = known_at rows i d (both_right (is_attention r || is_step r) (all_known rows) h) (omega arith)

-- two runs of rows are of known kinds together exactly where each is
pub known-cut : (a b : List ScheduleRow) → all_known (a ++ b) ≡ (all_known a && all_known b)
unfolding all_known
known-cut [] b = refl
known-cut (r ∷ a) b =
    ap (λ (k : Bool). (is_attention r || is_step r) && k) (known-cut a b) ∙ sym (and_assoc (is_attention r || is_step r) (all_known a) (all_known b))

-- rows cut into two leave what the second part leaves of the first's end
pub left_cut : (p : Bench) (a b : List ScheduleRow) → rows_left p (a ++ b) ≡ rows_left (rows_left p a) b
unfolding rows_left
left_cut p [] b = refl
left_cut p (r ∷ a) b = left_cut (row_left p r) a b

-- a refused row leaves the state and both memories as they were
pub refused-row : (p : Bench) (r : ScheduleRow) → ¬ (row_number p r ≡ 0) → row_left p r ≡ p
unfolding row_number row_left
refused-row p r =
    let a = attention_of p.state p.memory r.value in
    let t = step_of p.state p.memory r.value in
    elim (is_attention r) as (λ b. ¬ (pick b a.number t.number ≡ 0) → pick b (bench a.state a.memory) (bench t.state t.memory) ≡ p) [
      | true ↦ λ ne. ap (λ (o : Outcome). bench o.state o.memory) (refused-nothing p.state p.memory r.value ne)
      | false ↦ λ ne. ap (λ (o : Step). bench o.state o.memory) (refused p.state p.memory r.value ne)
    ]

-- ---- what is counted of a row

-- a report with its counts laid open
unfoldable pub counts_open : Bench → List ScheduleRow → List ℕ
unfolding report_of over_rows accepted_at refused_at row_number attended_at rejected_at instruction_at transfer_at stored_at end_at wait_at done_at channel_number
counts_open p rows = report_of p rows

-- a test holds or does not, beside another: once together
once-each : (a b : Bool) → once_if (a && b) + once_if (a && not b) ≡ once_if a
once-each true true = refl
once-each true false = refl
once-each false b = refl

pub once-one : (b : Bool) → once_if b ≤ 1
once-one true = omega arith
once-one false = omega arith

-- a test counts once exactly where it holds
pub once-exactly : {a : Bool} {A : Type 0} → Says a A → (once_if a ≡ 1) ↔ A
once-exactly {a = true} says = (λ e. says.holds refl, λ h. refl)
once-exactly {a = false} says = (λ e. absurd (omega arith), λ h. absurd (says.fails refl h))

-- a row is accepted or refused
pub accepted-or-refused : (p : Bench) (r : ScheduleRow) → accepted_at p r + refused_at p r ≡ 1
unfolding accepted_at refused_at
accepted-or-refused p r = once-each true (eqb (row_number p r) 0)

-- an attention to a channel is accepted or refused, and no other row counts for its attentions
pub attentions-of : (second : Bool) (p : Bench) (r : ScheduleRow) → attended_at second p r + rejected_at second p r ≡ once_if (is_attention_to second r)
unfolding attended_at rejected_at
attentions-of second p r = once-each (is_attention_to second r) (eqb (attention_of p.state p.memory r.value).number 0)

-- an attention that is done counts for the one channel that it is to
attention-once : (s : State) (m : Buffers) (channel : ℕ) → let done = eqb (attention_of s m channel).number 0 in
    once_if done ≡ once_if (eqb channel (channel_number false) && done) + once_if (eqb channel (channel_number true) && done)
unfolding channel_number
attention-once s m channel = go (eqb channel 1) refl (eqb channel 2) refl
  where
    done : Bool
    done = eqb (attention_of s m channel).number 0

    go : (a : Bool) → eqb channel 1 ≡ a → (b : Bool) → eqb channel 2 ≡ b → once_if done ≡ once_if (a && done) + once_if (b && done)
    go true h true k = absurd (omega (arith, eqb-true channel 1 h, eqb-true channel 2 k))
    go true h false k = omega arith
    go false h true k = omega arith
    go false h false k = rw ((number-exactly s m channel 12).1 (eqb-false channel 1 h, eqb-false channel 2 k))

-- a step is an instruction, a transfer step or an external end of a channel
abbrev work_of : Bool → Step → ℕ
work_of second t = once_if (is_done is_instruction second t) + once_if (is_done is_transfer second t) + once_if (is_done is_external second t)

-- one that is done is, of one channel
step-once : (s : State) (m : Buffers) (lines : ℕ) → once_if (eqb (step_of s m lines).number 0) ≡ work_of false (step_of s m lines) + work_of true (step_of s m lines)
unfolding channel_number
step-once s m lines =
    let one : (b : Bool) → once_if (eqb (channel_number b) 1) + once_if (eqb (channel_number b) 2) ≡ 1 = elim [ true ↦ refl | false ↦ refl ] in
    by-step s m lines (λ (t : Step). once_if (eqb t.number 0) ≡ work_of false t + work_of true t) (λ k ne. rw (ne_eqb k 0 ne))
    (λ b z e. simp (and-true, and-false) (omega (arith, one b))) (λ b z e f. simp (and-true, and-false) (omega (arith, one b)))
    (λ b z e f. simp (and-true, and-false) (omega (arith, one b)))

-- an accepted row of a known kind is an attention, an instruction, a transfer step or an external end, of one channel
pub accepted-is : (p : Bench) (r : ScheduleRow) → (is_attention r || is_step r) ≡ true
    → accepted_at p r ≡ (attended_at false p r + attended_at true p r)
    + ((instruction_at false p r + transfer_at false p r + end_at false p r) + (instruction_at true p r + transfer_at true p r + end_at true p r))
unfolding accepted_at row_number attended_at instruction_at transfer_at end_at done_at
accepted-is p r h =
    ⊎_elim (λ one. rw one (omega (arith, attention-once p.state p.memory r.value)))
    (λ two. rw two (omega (arith, step-once p.state p.memory r.value)))
    ((says-or (says-eqb r.kind 1) (says-eqb r.kind 2)).holds h)
