-- `panel::run` meets its contract.
-- Assumes nothing.
use Prim.Native.Nat.{ℕ}
use borrow.Author.Tests.{ne_eqb}
use mathlib.Core.Bool.{true, false}
use mathlib.Core.Path.{refl, sym, ap, ◌∙◌}
use native.Mathlib.Nat.{mod-eq_of_lt}
use Rattle.attention_rules.specs.Attention.{attention_of}
use Rattle.ground_rules.specs.States.{board_with, fresh_state}
use Rattle.ground_rules.proofs.RefusalLaws.{number-positive}
use Rattle.ground_rules.specs.Buffers.{buffers}
use Rattle.run_rules.specs.Run.{ran, attended_run, call_number, run_of}
use Rattle.run_rules.proofs.Outcomes.{refused-cp, attends}
use Rattle.run_rules.proofs.RunLaws.{call-limit}
use Rattle.panel.proofs.run.Goals as goal

pub returns-in-Err : goal.returns-in-Err
unfolding run_of
returns-in-Err c =
    let a = c.args in
    let m = buffers a.sys.now a.io.now in
    let n = c.in-Err.ensures in
    rw c.refused.ensures (ap (λ (x : ℕ). ran x 0 m) n ∙ rw (ne_eqb (call_number m a.channel a.lines a.limit) 0 (λ z. number-positive _ (n ∙ z))))

pub returns-then-cp-ge1048576 : goal.returns-then-cp-ge1048576
returns-then-cp-ge1048576 c =
    let a = c.args in
    rw c.refused-then-cp-ge1048576.ensures (sym (refused-cp (buffers a.sys.now a.io.now) a.cp a.channel a.lines a.limit (sym c.in_default.ensures) c.if-cp-ge1048576.true))

pub start-requires : goal.start-requires
start-requires c =
    let a = c.args in
    let m = buffers a.sys.now a.io.now in
    let n = sym c.in_default.ensures in
    (c.if-cp-ge1048576.false, ap (λ (k : ℕ). call_number m a.channel a.lines k) (mod-eq_of_lt (call-limit m a.channel a.lines a.limit n)) ∙ n)

pub returns : goal.returns
unfolding fresh_state
returns c =
    let a = c.args in
    let m = buffers a.sys.now a.io.now in
    let n = sym c.in_default.ensures in
    c.start.ensures (board_with true false false false) refl
    ∙ ap (λ (k : ℕ). attended_run (attention_of (fresh_state a.cp) m a.channel) a.lines k) (mod-eq_of_lt (call-limit m a.channel a.lines a.limit n))
    ∙ sym (attends m a.cp a.channel a.lines a.limit n c.if-cp-ge1048576.false)
