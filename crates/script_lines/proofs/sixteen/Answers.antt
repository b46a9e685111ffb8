-- `script_lines::sixteen` meets its contract.
-- Assumes nothing.
use Prim.Native.Nat.{ℕ, ◌+◌, ◌-◌}
use mathlib.Core.List.{◌++◌}
use mathlib.Core.Path.{◌≡◌, refl, sym, ap, ap₂, ◌∙◌}
use native.Mathlib.Omega.{arith}
use Rattle.page.specs.Pages.{PageBytes, sheet, written}
use Rattle.page.proofs.PageLaws.{written_both, nothing_written}
use Rattle.script_lines.specs.Lines.{byte_text, bytes_text}
use Rattle.script_lines.proofs.LineLaws.{bytes_next, bytes-none}
use Rattle.script_lines.proofs.sixteen.Goals as goal

pub loop-offset-init : goal.loop-offset-init
loop-offset-init c =
    let a = c.args in
    let e : a.from + 0 ≡ a.from = omega arith in
    record { put = ap (λ (n : ℕ). written (sheet a.page.now) (bytes_text 16 a.bytes.now n)) e; same = refl }

pub loop-offset-preserved : goal.loop-offset-preserved
loop-offset-preserved c =
    let l = c.loop-offset in
    let bytes = c.args.bytes.now in
    let from = c.args.from in
    let i = l.offset in
    let rest = bytes_text (16 - (i + 1)) bytes (from + (i + 1)) in
    let fewer : 16 - i - 1 ≡ 16 - (i + 1) = omega arith in
    let on : from + i + 1 ≡ from + (i + 1) = omega arith in
    let next = bytes_next (16 - i) bytes (from + i) (omega arith) ∙ ap₂ (λ (k n : ℕ). byte_text bytes (from + i) ++ bytes_text k bytes n) fewer on in record {
      put = ap (λ (p : PageBytes). written p rest) c.byte.ensures.put
          ∙ sym (written_both (sheet l.page) (byte_text bytes (from + i)) rest)
          ∙ ap (written (sheet l.page)) (sym next)
          ∙ l.invariant.put;
      same = c.byte.ensures.same ∙ l.invariant.same;
    }

pub returns-clause-put : goal.returns-clause-put
returns-clause-put c =
    let l = c.loop-offset in
    let none : 16 - l.offset ≡ 0 = omega arith in
    sym (nothing_written (sheet l.page)) ∙ ap (written (sheet l.page)) (sym (bytes-none (16 - l.offset) c.args.bytes.now (c.args.from + l.offset) none)) ∙ l.invariant.put
