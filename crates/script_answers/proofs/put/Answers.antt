-- `script_answers::put` meets its contract.
-- Assumes nothing.
use Prim.Native.Nat.{ℕ}
use mathlib.Core.Bool.{Bool}
use mathlib.Core.List.{List}
use mathlib.Core.Path.{ap, ◌∙◌}
use Rattle.ground_rules.specs.Choice.{pick}
use Rattle.ground_rules.specs.Buffers.{buffers}
use Rattle.script_text.specs.Buffers.{bytes_written}
use Rattle.script_text.specs.Text.{spanned}
use Rattle.script_answers.specs.Machine.{put_of, put_into}
use Rattle.script_answers.proofs.put.Goals as goal

pub returns-then-io_space : goal.returns-then-io_space
unfolding put_into put_of
returns-then-io_space c =
    let a = c.args in
    let p = c.put in
    let w = c.fourth_word-span in
    let test = c.if-io_space.true in
    let digits = spanned a.line.now w.result in record {
      value = p.ensures.value ∙ rw (test, w.ensures.value);
      io_value = ap (buffers a.sys.now) (p.ensures.s_after ∙ ap (λ (t : Bool). pick t (bytes_written a.io.now a.address digits) a.io.now) p.ensures.value)
          ∙ rw (test, w.ensures.value);
    }

pub returns : goal.returns
unfolding put_into put_of
returns c =
    let a = c.args in
    let p = c.put-2 in
    let w = c.fourth_word-span in
    let test = c.if-io_space.false in
    let digits = spanned a.line.now w.result in record {
      value = p.ensures.value ∙ rw (test, w.ensures.value);
      io_value = ap (λ (l : List ℕ). buffers l a.io.now) (p.ensures.s_after ∙ ap (λ (t : Bool). pick t (bytes_written a.sys.now a.address digits) a.sys.now) p.ensures.value)
          ∙ rw (test, w.ensures.value);
    }
