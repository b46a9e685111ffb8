-- `script_answers::make` meets its contract.
-- Assumes nothing.
use Prim.Native.Nat.{ℕ}
use lib.ListN.{length, replicate}
use mathlib.Core.List.{List}
use mathlib.Core.Path.{ap, ap₂, ◌∙◌}
use Rattle.ground_rules.specs.declared.Made.{Made}
use Rattle.ground_rules.specs.Buffers.{buffers}
use Rattle.listing_rules.specs.Characters.{ascii}
use Rattle.page.specs.Pages.{sheet, written}
use Rattle.script_lines.specs.Lines.{answer_line}
use Rattle.script_answers.specs.Machine.{machine, remade}
use Rattle.script_answers.proofs.make.Goals as goal

pub returns : goal.returns
unfolding remade
returns c =
    let a = c.args in
    let f = c.fresh-fresh in
    let made =
    ap₂ (λ (s i : List ℕ). machine f.result.state (buffers s i)) (c.fill.ensures.after (λ y h. h)) (c.fill-2.ensures.after (λ y h. h))
    ∙ ap (λ (x : Made). machine x.state (buffers (replicate (length a.sys.now) 0) (replicate (length a.io.now) 0))) f.ensures in
    record { io_value = made; same = c.answer_line.ensures.same; behind = c.answer_line.ensures.put ∙ ap (λ (x : Made). written (sheet a.page.now) (answer_line (ascii "make ") x.number)) f.ensures }
