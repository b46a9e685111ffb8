-- `sweep::check_sweep` meets its contract: 12, then what every call is given, then 15.
-- Assumes nothing.
use Prim.Native.Nat.{ℕ}
use borrow.Author.Tests.{eq-eqb, ne_eqb}
use lib.Dec.{ltb}
use mathlib.Core.Bool.{Bool, true, false, not, ◌&&◌}
use mathlib.Core.Path.{◌≡◌, refl, sym, ap, ◌∙◌}
use Rattle.std.proofs.lemmas.Result.{err_from_is_err_and}
use Rattle.ground_rules.proofs.RefusalLaws.{number-positive}
use Rattle.ground_rules.specs.Buffers.{buffers}
use Rattle.ground_rules.specs.Outcomes.{first, unless, given_number}
use Rattle.ground_rules.specs.States.{is_channel}
use Rattle.sweep_rules.specs.Sweep.{sweep_number}
use Rattle.sweep.proofs.check_sweep.Goals as goal

-- the test of channel and lines, by what the call of `is_channel` answered
tested : (channel lines : ℕ) (named : Bool) (x : Bool) → named ≡ is_channel channel → not (named && ltb lines 16) ≡ not x → is_channel channel && ltb lines 16 ≡ x
tested channel lines named x e h = ap (λ (y : Bool). y && ltb lines 16) (sym e) ∙ not_same (named && ltb lines 16) x h
  where
    not_same : (a b : Bool) → not a ≡ not b → a ≡ b
    not_same true true h = refl
    not_same true false h = sym h
    not_same false true h = sym h
    not_same false false h = refl

pub returns-then-not-is_channel-lines : goal.returns-then-not-is_channel-lines
unfolding sweep_number first unless
returns-then-not-is_channel-lines c =
    let a = c.args in
    rw (tested a.channel a.lines c.is_channel.result false c.is_channel.ensures c.if-not-is_channel-lines.true-raw)

pub returns-in_err-check_given : goal.returns-in_err-check_given
unfolding sweep_number first unless
returns-in_err-check_given c =
    let a = c.args in
    let m = buffers a.sys.now a.io.now in
    let p = err_from_is_err_and c.from_residual.result c.from_residual.ensures.1 in
    let given = c.in_err-check_given.ensures in
    rw (p.1, p.2) (given ∙ rw (
      tested a.channel a.lines c.is_channel.result true c.is_channel.ensures c.if-not-is_channel-lines.false-raw,
      ne_eqb (given_number a.s m) 0 (λ z. number-positive _ (given ∙ z)),
    ))

pub returns-then-sweepable : goal.returns-then-sweepable
unfolding sweep_number first unless
returns-then-sweepable c =
    let a = c.args in
    let m = buffers a.sys.now a.io.now in
    rw (
      tested a.channel a.lines c.is_channel.result true c.is_channel.ensures c.if-not-is_channel-lines.false-raw,
      eq-eqb (given_number a.s m) 0 (sym c.in_ok-check_given.ensures),
      ← c.is_second.ensures,
      ← c.sweepable.ensures,
      c.if-sweepable.true,
    )

pub returns-else-sweepable : goal.returns-else-sweepable
unfolding sweep_number first unless
returns-else-sweepable c =
    let a = c.args in
    let m = buffers a.sys.now a.io.now in
    rw (
      tested a.channel a.lines c.is_channel.result true c.is_channel.ensures c.if-not-is_channel-lines.false-raw,
      eq-eqb (given_number a.s m) 0 (sym c.in_ok-check_given.ensures),
      ← c.is_second.ensures,
      ← c.sweepable.ensures,
      c.if-sweepable.false,
    )
