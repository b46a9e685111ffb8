-- The laws of the bytes that transfer steps store: with those that they read they are the touched ones, and a step stores two at most.
-- Assumes nothing.
use mathlib.Core.{Bool.Bool, Bool.true, Bool.false, Bool.◌&&◌, List.◌++◌, Path.◌≡◌, Path.refl, Path.sym, Path.ap, Path.◌∙◌}
use Prim.Native.Nat.{ℕ, ◌+◌, ◌*◌, ◌≤◌}
use native.Mathlib.Omega.{arith}
use borrow.Author.Tests.{eqb-true}
use lib.ListN.{length, length-append}
use Rattle.ground_rules.specs.States.{channel_of, channel_number, is_second}
use Rattle.ground_rules.specs.{Outcomes.counted, Psw.transferring, declared.Channel.Channel, declared.State.State, Buffers.Buffers, Choice.pick}
use Rattle.ground_rules.proofs.{ChoiceLaws.apart, ChoiceLaws.both_right, ChoiceLaws.and-true, ChoiceLaws.and-false, ChannelLaws.named, ConditionLaws.says-true}
use Rattle.transfer_rules.specs.Parts.{Part, Whole, FirstFetch, SecondFetch, FirstStore, SecondStore, part_of}
use Rattle.transfer_rules.specs.Stores.{stores_two, places_on, stored_places}
use Rattle.transfer_rules.specs.{Reads.data_of, Reads.also, Sides.destination, Steps.touched_by, Steps.reads_by, Steps.touched_by_transfer}
use Rattle.turn_rules.{proofs.OutcomeLaws.by-step, specs.Choosing.choice_of, specs.Step.Step, specs.Step.entry_number, specs.Step.step_of, specs.Touched.touched_in}
use Rattle.turn_rules.specs.{Touched.touched_by_step, Touched.step_count, declared.Choice.TheVariants.Steps}
use Rattle.schedule_rules.specs.Counts.{once_if, is_transfer, is_done, done_at, transfer_at, stores_by, stored_at}
use Rattle.schedule_rules.specs.{Rows.Bench, Rows.is_step, declared.ScheduleRow.ScheduleRow}
use Rattle.schedule_rules.proofs.RowLaws.{once-one, once-exactly}

-- what a transfer step touches is what it reads and then what it stores
pub touched-apart : (k : Part) (c : Channel) (m : Buffers) → touched_by k c m ≡ reads_by k c m ++ stores_by k c m
unfolding touched_by reads_by stores_by
touched-apart Whole c m = refl
touched-apart FirstFetch c m = refl
touched-apart (SecondFetch byte) c m = refl
touched-apart FirstStore c m = refl
touched-apart (SecondStore byte) c m = refl

-- no part stores more than two bytes
pub stores-most : (k : Part) (c : Channel) (m : Buffers) → length (stores_by k c m) ≤ 2
unfolding stores_by stored_places places_on also
stores-most k c m =
    let side : (two : Bool) → length (places_on (destination c) two) ≤ 2 = elim [ true ↦ omega arith | false ↦ omega arith ] in
    let one : 1 ≤ 2 = omega arith in
    elim k as (λ k. length (stores_by k c m) ≤ 2) [ Whole ↦ side (stores_two c (data_of c m)) | FirstFetch ↦ omega arith | SecondFetch byte ↦ side true | FirstStore ↦ one | SecondStore byte ↦ one ]

-- a row stores at most two bytes for a transfer step, and nothing else does
pub stored-most : (second : Bool) (p : Bench) (r : ScheduleRow) → stored_at second p r ≤ 2 * transfer_at second p r
unfolding stored_at transfer_at
stored-most second p r =
    let c = channel_of p.state second in
    elim (done_at is_transfer second p r) as (λ b. pick b (length (stores_by (part_of c) c p.memory)) 0 ≤ 2 * once_if b) [
      | true ↦ stores-most (part_of c) c p.memory
      | false ↦ omega arith
    ]

pub stored-two : (second : Bool) (p : Bench) (r : ScheduleRow) → stored_at second p r ≤ 2
unfolding transfer_at
stored-two second p r = omega (arith, stored-most second p r, once-one (done_at is_transfer second p r))

-- a transfer step that a channel did was its turn, and XF was set
pub transfer-chosen : (s : State) (m : Buffers) (lines : ℕ) (second : Bool) → is_done is_transfer second (step_of s m lines) ≡ true
    → ((step_of s m lines).number ≡ 0) × (choice_of s lines ≡ Steps second) × (transferring (channel_of s second).psw ≡ true) × (entry_number s m lines ≡ 0)
transfer-chosen s m lines second =
    by-step s m lines
    (λ (t : Step). is_done is_transfer second t ≡ true → (t.number ≡ 0) × (choice_of s lines ≡ Steps second) × (transferring (channel_of s second).psw ≡ true) × (entry_number s m lines ≡ 0))
    (λ k ne h. apart (sym (simp and-false at h))) (λ b z e h. apart (sym (simp and-false at h)))
    (λ b z e f h. let q = sym (named b) ∙ ap is_second (eqb-true (channel_number b) (channel_number second) (simp and-true at h)) ∙ named second in
    (refl, e ∙ ap Steps q, rw q at f, z)) (λ b z e f h. apart (sym (simp and-false at h)))

-- it touches what its part reads and what that stores
pub transfer-count : (s : State) (m : Buffers) (lines : ℕ) (second : Bool) → is_done is_transfer second (step_of s m lines) ≡ true
    → let c = channel_of s second in step_count s m lines ≡ length (reads_by (part_of c) c m) + length (stores_by (part_of c) c m)
unfolding step_count touched_by_step touched_in counted touched_by_transfer
transfer-count s m lines second h =
    let o = transfer-chosen s m lines second h in
    let c = channel_of s second in
    rw (o.0, o.1, o.2) (ap length (touched-apart (part_of c) c m) ∙ length-append (reads_by (part_of c) c m) (stores_by (part_of c) c m))

-- so what a step answers for it that it read and stored is what its part reads, and what is counted here as stored
pub counts-agree : (second : Bool) (p : Bench) (r : ScheduleRow) → transfer_at second p r ≡ 1
    → let c = channel_of p.state second in
    step_count p.state p.memory r.value ≡ length (reads_by (part_of c) c p.memory) + stored_at second p r
unfolding transfer_at stored_at done_at
counts-agree second p r z =
    let t = step_of p.state p.memory r.value in
    let done = (once-exactly (says-true (is_step r && is_done is_transfer second t))).0 z in
    rw done (transfer-count p.state p.memory r.value second (both_right (is_step r) (is_done is_transfer second t) done))
