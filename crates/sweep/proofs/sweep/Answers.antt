-- `sweep::sweep` meets its contract: a refused one leaves what was given; a done one has passed all that its copy asks for.
-- Assumes nothing.
use Prim.Native.Nat.{ℕ}
use mathlib.Core.Path.{◌≡◌, sym, ap, ◌∙◌}
use Rattle.std.proofs.lemmas.Result.{err_from_is_err_and}
use Rattle.ground_rules.proofs.RefusalLaws.{number-positive}
use Rattle.ground_rules.specs.Buffers.{buffers}
use Rattle.ground_rules.specs.States.{channel_of, is_second}
use Rattle.sweep_rules.proofs.PassedLaws.{passed-limits, passed-ranges, accepted-sweep, refused-sweep}
use Rattle.sweep_rules.specs.Sweep.{refused_sweep, sweep_number, done_sweep}
use Rattle.sweep.specs.Remainders.{remainder_of}
use Rattle.sweep.proofs.sweep.Goals as goal

pub returns-in_err-check_sweep : goal.returns-in_err-check_sweep
returns-in_err-check_sweep c =
    let a = c.args in
    let m = buffers a.sys.now a.io.now in
    let told = c.in_err-check_sweep.ensures in
    let p = err_from_is_err_and c.from_residual.result c.from_residual.ensures.1 in
    rw (p.1, p.2)
    (ap (λ (k : ℕ). refused_sweep k a.s m) told
    ∙ sym (refused-sweep a.s m a.channel a.lines (λ z. number-positive _ (told ∙ z))))

pub copy-requires : goal.copy-requires
copy-requires c =
    let a = c.args in
    let m = buffers a.sys.now a.io.now in
    let z : sweep_number a.s m a.channel a.lines ≡ 0 = sym c.in_ok-check_sweep.ensures in
    let fit = passed-ranges a.s m a.channel a.lines z in
    let same : c.remainder_of-rest.result ≡ remainder_of (channel_of a.s (is_second a.channel)) =
    c.remainder_of-rest.ensures.0 ∙ ap remainder_of (c.channel-c.ensures ∙ ap (channel_of a.s) c.is_second-second.ensures) in
    (passed-limits a.s m a.channel a.lines z, rw same fit.0, rw same fit.1)

pub returns : goal.returns
unfolding done_sweep
returns c =
    let a = c.args in
    let m = buffers a.sys.now a.io.now in
    let z : sweep_number a.s m a.channel a.lines ≡ 0 = sym c.in_ok-check_sweep.ensures in
    simp (
      c.with_last.ensures,
      c.with_channel.ensures,
      c.finished.ensures,
      c.total.ensures,
      c.copy.ensures,
      c.remainder_of-rest.ensures.0,
      c.channel-c.ensures,
      c.is_second-second.ensures,
    )
    (sym (accepted-sweep a.s m a.channel a.lines z))
