-- When a row counts for a channel, in its kind, its value, the channel before it and what its own call answers: waiting rows, attentions, and steps of each kind.
-- Assumes nothing.
use mathlib.Core.{Bool.◌&&◌, Bool.Bool, Bool.true, Bool.false, Logic.⊎_elim, Logic.◌↔◌, Path.◌≡◌, Path.refl, Path.sym, Path.ap, Path.◌∙◌}
use Prim.Native.Nat.{◌<◌}
use native.Mathlib.Omega.{arith}
use borrow.Author.Tests.{ltb-true, ltb-false}
use lib.Dec.{ltb}
use Rattle.ground_rules.proofs.ConditionLaws.{Says, says-true, says-false, says-eqb, says-running, says-and, says-or, says-not}
use Rattle.ground_rules.proofs.ChoiceLaws.{both_right, apart}
use Rattle.ground_rules.specs.{Psw.transferring, States.channel_of, States.is_running, States.channel_number}
use Rattle.attention_rules.specs.Attention.{attention_of}
use Rattle.turn_rules.{specs.Choosing.choice_of, specs.declared.Choice.TheVariants.Steps, proofs.ChoosingLaws.rank-none, proofs.ChoosingLaws.steps-chosen}
use Rattle.turn_rules.specs.declared.Kind.{Kind, TheVariants.Nothing, TheVariants.Instruction, TheVariants.Transfer, TheVariants.External}
use Rattle.turn_rules.specs.{Choosing.requested, Choosing.no_rank, Choosing.transfer_rank, Choosing.rank_of, Step.step_of}
use Rattle.schedule_rules.specs.Counts.{once_if, is_transfer, is_done, done_at, transfer_at, waits_for_drq, wait_at, attended_at, rejected_at, is_instruction, is_external, instruction_at, end_at}
use Rattle.schedule_rules.specs.Conditions.{FoundWaiting, AttentionRow, StepRow}
use Rattle.schedule_rules.specs.{Rows.Bench, Rows.is_step, declared.ScheduleRow.ScheduleRow}
use Rattle.schedule_rules.proofs.{RowLaws.once-exactly, StoreLaws.transfer-chosen}

-- a row counts for a channel exactly where it found it waiting, whatever became of the row
pub wait-exactly : (second : Bool) (p : Bench) (r : ScheduleRow) → wait_at second p r ≡ 1 ↔ FoundWaiting second p r
unfolding wait_at waits_for_drq
wait-exactly second p r =
    let c = channel_of p.state second in
    let low : Says (ltb r.value 16) (r.value < 16) = record { holds = ltb-true r.value 16; fails = λ e h. omega (arith, ltb-false r.value 16 e) } in
    let all = once-exactly
    (says-and (says-and (says-eqb r.kind 2) low) (says-and (says-and (says-and (says-running c.mode) (says-true (transferring c.psw)))
    (says-or (says-eqb c.fields.synchronised 1) (says-eqb c.fields.synchronised 2))) (says-false (requested r.value second)))) in (
      λ e. let h = all.0 e in record { steps = h.0.0; lines = h.0.1; runs = h.1.0.0.0; transfers = h.1.0.0.1; synchronised = h.1.0.1; request = h.1.1 },
      λ h. all.1 ((h.steps, h.lines), (((h.runs, h.transfers), h.synchronised), h.request)),
    )

-- a channel that waits in a row makes no transfer step in it
pub waiting-still : (second : Bool) (p : Bench) (r : ScheduleRow) → wait_at second p r ≡ 1 → transfer_at second p r ≡ 0
unfolding transfer_at done_at rank_of is_running transfer_rank
waiting-still second p r w =
    let s = p.state in
    let found = (wait-exactly second p r).0 w in
    let unranked : rank_of (channel_of s second) (requested r.value second) ≡ no_rank =
    rw (found.request, found.runs, found.transfers) (⊎_elim (λ e. rw e) (λ e. rw e) found.synchronised) in
    let moves = is_done is_transfer second (step_of s p.memory r.value) in
    elim (is_step r && moves) as (λ b. (b ≡ true → choice_of s r.value ≡ Steps second) → once_if b ≡ 0) [
      | true ↦ λ h. absurd ((rank-none (channel_of s second) (requested r.value second)).0 unranked (steps-chosen s r.value second (h refl)).1)
      | false ↦ λ h. refl
    ] (λ h. (transfer-chosen s p.memory r.value second (both_right (is_step r) moves h)).1)

-- ---- attentions

-- one that is accepted: of kind 1, to this channel, and done
pub attended-exactly : (second : Bool) (p : Bench) (r : ScheduleRow)
    → attended_at second p r ≡ 1 ↔ (AttentionRow second r × ((attention_of p.state p.memory r.value).number ≡ 0))
unfolding attended_at
attended-exactly second p r =
    once-exactly (says-and (says-and (says-eqb r.kind 1) (says-eqb r.value (channel_number second))) (says-eqb (attention_of p.state p.memory r.value).number 0))

-- one that is refused
pub rejected-exactly : (second : Bool) (p : Bench) (r : ScheduleRow)
    → rejected_at second p r ≡ 1 ↔ (AttentionRow second r × ¬ ((attention_of p.state p.memory r.value).number ≡ 0))
unfolding rejected_at
rejected-exactly second p r =
    once-exactly
    (says-and (says-and (says-eqb r.kind 1) (says-eqb r.value (channel_number second))) (says-not (says-eqb (attention_of p.state p.memory r.value).number 0)))

-- ---- steps

-- a test that fails does not hold
none : {A : Type 0} → false ≡ true → A
none e = apart (sym e)

-- a row is a done step of this channel and of a kind, where a test passes that kind alone
says-done : (f : Kind → Bool) (k : Kind) → f k ≡ true → (f Nothing ≡ true → Nothing ≡ k) → (f Instruction ≡ true → Instruction ≡ k)
    → (f Transfer ≡ true → Transfer ≡ k) → (f External ≡ true → External ≡ k) → (second : Bool) (p : Bench) (r : ScheduleRow)
    → Says (done_at f second p r) (StepRow k second p r)
unfolding done_at
says-done f k own n i m e second p r =
    let t = step_of p.state p.memory r.value in
    let holds = elim t.kind as (λ x. f x ≡ true → x ≡ k) [ Nothing ↦ n | Instruction ↦ i | Transfer ↦ m | External ↦ e ] in
    let kinds : Says (f t.kind) (t.kind ≡ k) = record { holds = holds; fails = λ h g. apart (sym (sym h ∙ ap f g ∙ own)) } in
    let says = says-and (says-eqb r.kind 2) (says-and (says-and (says-eqb t.number 0) (says-eqb t.channel (channel_number second))) kinds) in
    record {
      holds = λ e. let h = says.holds e in record { steps = h.0; done = h.1.0.0; channel = h.1.0.1; of = h.1.1 };
      fails = λ e h. says.fails e (h.steps, ((h.done, h.channel), h.of));
    }

pub instruction-exactly : (second : Bool) (p : Bench) (r : ScheduleRow) → instruction_at second p r ≡ 1 ↔ StepRow Instruction second p r
unfolding instruction_at
instruction-exactly second p r = once-exactly (says-done is_instruction Instruction refl none (λ e. refl) none none second p r)

pub transfer-exactly : (second : Bool) (p : Bench) (r : ScheduleRow) → transfer_at second p r ≡ 1 ↔ StepRow Transfer second p r
unfolding transfer_at
transfer-exactly second p r = once-exactly (says-done is_transfer Transfer refl none none (λ e. refl) none second p r)

pub end-exactly : (second : Bool) (p : Bench) (r : ScheduleRow) → end_at second p r ≡ 1 ↔ StepRow External second p r
unfolding end_at
end-exactly second p r = once-exactly (says-done is_external External refl none none none (λ e. refl) second p r)
