-- The laws of a row: what a call of the service comes to as a row, and what is counted of it.
-- Assumes nothing.
use Rattle.std.proofs.Common.{◌≡◌, ℕ, ◌+◌, ◌-◌, ◌/◌, ◌%◌, ◌<◌, ◌≤◌, sym, refl, ap, ◌∙◌, subst, ap₂, ne_eqb}
use mathlib.Core.{Bool.Bool, Bool.true, Bool.false, Bool.not, Bool.◌&&◌, List.List, List.[], List.◌∷◌, List.◌++◌}
use native.Mathlib.{Nat.add-zero, Nat.zero-add, Omega.arith}
use lib.{Dec.eqb, Dec.ltb, Dec.lit<, ListN.length, ListN.replicate}
use Rattle.ground_rules.specs.Buffers.{Buffers, AllBytes}
use Rattle.ground_rules.specs.{Psw.transferring, States.channel_of, States.channel_number, declared.State.State, Choice.pick}
use Rattle.ground_rules.proofs.{ChoiceLaws.and-true, ChoiceLaws.and-false, ConditionLaws.says-true, ConditionLaws.says-eqb, ConditionLaws.says-and}
use Rattle.attention_rules.{proofs.Numbers.attention-most, specs.Attention.attention_of, specs.Attention.attention_count}
use Rattle.transfer_rules.{proofs.CountLaws.reads-most, specs.Parts.part_of, specs.Steps.reads_by}
use Rattle.turn_rules.proofs.{NumberLaws.step-most, OutcomeLaws.by-step}
use Rattle.turn_rules.specs.declared.Kind.{Kind, TheVariants.Nothing, TheVariants.Instruction, TheVariants.Transfer, TheVariants.External}
use Rattle.turn_rules.specs.{Choosing.requested, Step.Step, Step.stepped, Step.step_of, Touched.step_count}
use Rattle.state_rules.proofs.NumberLaws.{number-part, channel-part, kind-part, count-part}
use Rattle.state_rules.specs.Calls.{Service, served, kind_number, answer_from, attention_served, step_left, step_served}
use Rattle.state_rules.specs.{Conditions.Bytes, Layout.bytes_of, Layout.state_in, Layout.is_state}
use Rattle.service.proofs.OutcomeLaws.{attention-stays, step_stays}
use Rattle.schedule_rules.specs.Counts.{once_if, is_instruction, is_transfer, is_external, is_done, stores_by, waits_for_drq}
use Rattle.schedule_rules.specs.{Reports.report_of, Rows.Bench, Rows.bench, Rows.row_left, declared.ScheduleRow.ScheduleRow}
use Rattle.schedule_rules.proofs.{RowLaws.counts_open, StoreLaws.transfer-chosen, StoreLaws.transfer-count, StoreLaws.stores-most}
use Rattle.schedule_calls.specs.Turns.{Standing, standing, RowRun, attention_row, step_row}
use Rattle.schedule_calls.specs.{Words.added_all, Words.attention_adds, Words.step_adds, declared.finding.Found.Found}
use Rattle.schedule_calls.proofs.WordLaws.{FitWords, CountedAs, adds-are}

-- ---- an attention

-- what the code adds for an attention row is that row's report
attention-adds : (p : Bench) (channel : ℕ)
    → CountedAs (report_of p (attention_row channel ∷ [])) (attention_adds (eqb (attention_of p.state p.memory channel).number 0) channel)
unfolding counts_open
attention-adds p channel =
    let two : ℕ → Bool → List ℕ = λ n d. (once_if (eqb channel n && d) + 0) ∷ (once_if (eqb channel n && not d) + 0) ∷ replicate 5 0 in
    elim (eqb (attention_of p.state p.memory channel).number 0)
    as (λ d. CountedAs ((once_if d + 0) ∷ (once_if (not d) + 0) ∷ two 1 d ++ two 2 d) (attention_adds d channel)) [
      | true ↦ (refl, simp (and-true, and-false, add-zero, zero-add))
      | false ↦ (refl, simp (and-true, and-false, add-zero, zero-add))
    ]

-- what the attention call leaves of a state's bytes is what the row leaves
pub attention-row : (b : List ℕ) (m : Buffers) (w : List ℕ) (channel answer : ℕ) (b' : List ℕ) (m' : Buffers) (w' : List ℕ) → is_state b ≡ true → Bytes b → FitWords w
    → served answer b' m' ≡ attention_served b m channel → state_in b' ≡ (attention_of (state_in b) m channel).state → w' ≡ added_all (attention_adds (eqb (answer % 256) 0) channel) w
    → RowRun (attention_row channel) (standing b m w) (standing b' m' w')
unfolding row_left attention_served
attention-row b m w channel answer b' m' w' is byte small e whole counts =
    let o = attention_of (state_in b) m channel in
    let left : served answer b' m' ≡ served (answer_from o.number 0 0 (attention_count (state_in b) m channel)) (bytes_of o.state) o.memory = rw is at e in
    let number = ap (λ (x : Service). x.answer % 256) left ∙ number-part o.number 0 0 (attention_count (state_in b) m channel) (omega (arith, attention-most (state_in b) m channel)) in
    let stays = ap (λ (x : Service). is_state x.bytes) e ∙ attention-stays b byte m is channel in
    record {
      bench = ap₂ bench whole (ap (λ (x : Service). x.memory) left);
      words = counts ∙ rw number (adds-are _ _ w small (attention-adds (bench (state_in b) m) channel));
      state = record { is = stays; back = ap bytes_of whole ∙ sym (ap (λ (x : Service). x.bytes) left) };
    }

-- ---- a step

-- what a row found of a channel: whether it waits, and what its next transfer step reads
abbrev FoundOf : State → ℕ → Bool → Found → Type 0
FoundOf s lines second f =
    let c = channel_of s second in
    (f.waits ≡ (ltb lines 16 && waits_for_drq c (requested lines second)))
    × (transferring c.psw ≡ true → (m : Buffers) → f.reads ≡ length (reads_by (part_of c) c m))

module _ (s : State) (m : Buffers) (lines : ℕ) where
  abbrev took : Step
  took = step_of s m lines

  -- a step's channel and kind have two bits each
  few : (took.channel < 4) × (kind_number took.kind < 4)
  unfolding channel_number kind_number
  few =
      let channel : (b : Bool) → channel_number b < 4 = λ b. elim b as (λ v. channel_number v < 4) [ true ↦ lit< tt | false ↦ lit< tt ] in
      let kind : (k : Kind) → kind_number k < 4 = λ k. elim k as (λ v. kind_number v < 4) [ Nothing ↦ lit< tt | Instruction ↦ lit< tt | Transfer ↦ lit< tt | External ↦ lit< tt ] in
      (by-step s m lines (λ (t : Step). t.channel < 4) (λ k ne. lit< tt) (λ b z e. channel b) (λ b z e f. channel b) (λ b z e f. channel b), kind took.kind)

  -- the bytes that a channel's next transfer step stores, and whether it waits
  abbrev storing : Bool → ℕ
  storing second = length (stores_by (part_of (channel_of s second)) (channel_of s second) m)

  abbrev waiting : Bool → Bool
  waiting second = ltb lines 16 && waits_for_drq (channel_of s second) (requested lines second)

  -- what a step row counts of a channel by what the step answers
  abbrev counted_of : Step → Bool → List ℕ
  counted_of t b =
      0 ∷ 0 ∷ (once_if (is_done is_instruction b t) + 0) ∷ (once_if (is_done is_transfer b t) + 0) ∷ (pick (is_done is_transfer b t) (storing b) 0 + 0)
      ∷ (once_if (is_done is_external b t) + 0) ∷ (once_if (waiting b) + 0) ∷ []

  -- what the code adds for a step row, by what the step answers, is what is counted of it
  abbrev AddsFor : ℕ → Step → Type 0
  AddsFor n t =
      ((second : Bool) → is_done is_transfer second t ≡ true → n ≡ storing second)
      → CountedAs ((once_if (eqb t.number 0) + 0) ∷ (once_if (not (eqb t.number 0)) + 0) ∷ counted_of t false ++ counted_of t true)
      (step_adds (waiting false) (waiting true) (eqb t.number 0) (eqb t.channel 2) (kind_number t.kind) n)

  -- a done step of a channel and a kind: its state and memory are not looked at
  abbrev done_of : Bool → Kind → Step
  done_of second kind = stepped 0 s m (channel_number second) kind

  -- what the code adds for a step row is that row's report
  step-adds : (n : ℕ) → ((second : Bool) → is_done is_transfer second took ≡ true → n ≡ storing second)
      → CountedAs (report_of (bench s m) (step_row lines ∷ []))
      (step_adds (waiting false) (waiting true) (eqb took.number 0) (eqb took.channel 2) (kind_number took.kind) n)
  unfolding counts_open kind_number
  step-adds n =
      by-step s m lines (AddsFor n)
      (λ k ne h. rw (ne_eqb k 0 ne) (refl, simp (add-zero, zero-add)))
      (λ b z e. elim b as (λ v. AddsFor n (done_of v External)) [ true ↦ λ h. (refl, simp (add-zero, zero-add)) | false ↦ λ h. (refl, simp (add-zero, zero-add)) ])
      (λ b z e f. elim b as (λ v. AddsFor n (done_of v Transfer)) [
        | true ↦ λ h. rw (h true refl) (refl, simp (add-zero, zero-add))
        | false ↦ λ h. rw (h false refl) (refl, simp (add-zero, zero-add))
      ])
      (λ b z e f. elim b as (λ v. AddsFor n (done_of v Instruction)) [ true ↦ λ h. (refl, simp (add-zero, zero-add)) | false ↦ λ h. (refl, simp (add-zero, zero-add)) ])

  -- the bytes that a transfer step touched are those that its channel was to read and those that it stored
  abbrev Parted : Found → Found → ℕ → Type 0
  Parted f g count = (second : Bool) → is_done is_transfer second took ≡ true → count ≡ pick (eqb took.channel 2) g.reads f.reads + storing second

  parted : (f g : Found) (count : ℕ) → FoundOf s lines false f → FoundOf s lines true g → (step_count s m lines < 16 → count ≡ step_count s m lines) → Parted f g count
  unfolding channel_number
  parted f g count one two counts second h =
      let c = channel_of s second in
      let says = says-and (says-and (says-eqb took.number 0) (says-eqb took.channel (channel_number second))) (says-true (is_transfer took.kind)) in
      let n = transfer-count s m lines second h in
      let all = counts (omega (arith, reads-most c m (part_of c), stores-most (part_of c) c m)) in
      let read : (b : Bool) → let c = channel_of s b in
      transferring c.psw ≡ true → pick (eqb (channel_number b) 2) g.reads f.reads ≡ length (reads_by (part_of c) c m) =
      λ b. elim b as (λ v. transferring (channel_of s v).psw ≡ true → pick (eqb (channel_number v) 2) g.reads f.reads ≡ length (reads_by (part_of (channel_of s v)) (channel_of s v) m))
      [ true ↦ λ on. two.1 on m | false ↦ λ on. one.1 on m ] in
      rw (says.holds h).0.1 (omega (arith, read second (transfer-chosen s m lines second h).2))

  -- so no more were read than were touched
  abbrev Within : (Bool → ℕ) → ℕ → Step → Type 0
  Within reads count t =
      ((second : Bool) → is_done is_transfer second t ≡ true → reads (eqb t.channel 2) ≤ count) → t.number ≡ 0 → kind_number t.kind ≡ 2 → reads (eqb t.channel 2) ≤ count

  read-within : (reads : Bool → ℕ) (count : ℕ) → ((second : Bool) → is_done is_transfer second took ≡ true → reads (eqb took.channel 2) ≤ count)
      → took.number ≡ 0 → kind_number took.kind ≡ 2 → reads (eqb took.channel 2) ≤ count
  unfolding kind_number channel_number
  read-within reads count =
      by-step s m lines (Within reads count)
      (λ k ne h z two. absurd (ne z))
      (λ b z e h y two. absurd (omega (arith, two)))
      (λ b z e f. elim b as (λ v. Within reads count (done_of v Transfer)) [ true ↦ λ h y two. h true refl | false ↦ λ h y two. h false refl ])
      (λ b z e f h y two. absurd (omega (arith, two)))

-- an answer of the step call by its parts
step-parts : (b : List ℕ) (m : Buffers) (lines answer : ℕ) (b' : List ℕ) (m' : Buffers) → is_state b ≡ true → served answer b' m' ≡ step_served b m lines
    → let t = step_of (state_in b) m lines in
    let n = step_count (state_in b) m lines in
    (answer % 256 ≡ t.number) × (answer / 256 % 4 ≡ t.channel) × (answer / 1024 % 4 ≡ kind_number t.kind) × (n < 16 → answer / 4096 ≡ n)
unfolding step_served
step-parts b m lines answer b' m' is e =
    let s = state_in b in
    let left : served answer b' m' ≡ step_left (step_of s m lines) (step_count s m lines) = rw is at e in
    rw (ap (λ (x : Service). x.answer) left) (
      number-part _ _ _ _ (omega (arith, step-most s m lines)),
      channel-part _ _ _ _ (few s m lines).0,
      kind-part _ _ _ _ (few s m lines).1,
      count-part _ _ _ _,
    )

-- a transfer step that was done has read no more bytes than it touched
pub step-reads : (b : List ℕ) (m : Buffers) (lines answer : ℕ) (b' : List ℕ) (m' : Buffers) (f g : Found) → is_state b ≡ true → served answer b' m' ≡ step_served b m lines
    → FoundOf (state_in b) lines false f → FoundOf (state_in b) lines true g
    → answer % 256 ≡ 0 → answer / 1024 % 4 ≡ 2 → pick (eqb (answer / 256 % 4) 2) g.reads f.reads ≤ answer / 4096
step-reads b m lines answer b' m' f g is e one two done moved =
    let s = state_in b in
    let parts = step-parts b m lines answer b' m' is e in
    let all = parted s m lines f g (answer / 4096) one two parts.3 in
    rw parts.1 (read-within s m lines (λ (second : Bool). pick second g.reads f.reads) (answer / 4096) (λ second h. omega (arith, all second h)) (sym parts.0 ∙ done) (sym parts.2 ∙ moved))

-- what the step call leaves of a state's bytes is what the row leaves
pub step-row : (b : List ℕ) (m : Buffers) (w : List ℕ) (lines answer : ℕ) (b' : List ℕ) (m' : Buffers) (w' : List ℕ) (f g : Found) → is_state b ≡ true → Bytes b → AllBytes m → FitWords w
    → served answer b' m' ≡ step_served b m lines → state_in b' ≡ (step_of (state_in b) m lines).state
    → FoundOf (state_in b) lines false f → FoundOf (state_in b) lines true g
    → w' ≡ added_all (step_adds f.waits g.waits (eqb (answer % 256) 0) (eqb (answer / 256 % 4) 2) (answer / 1024 % 4) (answer / 4096 - pick (eqb (answer / 256 % 4) 2) g.reads f.reads)) w
    → RowRun (step_row lines) (standing b m w) (standing b' m' w')
unfolding row_left step_served
step-row b m w lines answer b' m' w' f g is byte all small e whole one two counts =
    let s = state_in b in
    let parts = step-parts b m lines answer b' m' is e in
    let left : served answer b' m' ≡ step_left (step_of s m lines) (step_count s m lines) = rw is at e in
    let touched = parted s m lines f g (answer / 4096) one two parts.3 in
    let stays = ap (λ (x : Service). is_state x.bytes) e ∙ step_stays b byte m is all lines in
    record {
      bench = ap₂ bench whole (ap (λ (x : Service). x.memory) left);
      words = counts ∙ rw (one.0, two.0, parts.0, parts.1, parts.2) (adds-are _ _ w small (step-adds s m lines _ (λ second h. omega (arith, touched second h))));
      state = record { is = stays; back = ap bytes_of whole ∙ sym (ap (λ (x : Service). x.bytes) left) };
    }

-- ---- the turn of a row

-- what is run as a row of a kind is run as the row that is of it
pub run-as : {x y : Standing} (r : ScheduleRow) (kind : ℕ) → r.kind ≡ kind → RowRun (record { kind = kind; value = r.value }) x y → RowRun r x y
run-as {x} {y} r kind e h = subst (λ (k : ℕ). RowRun (record { kind = k; value = r.value }) x y) (sym e) h
