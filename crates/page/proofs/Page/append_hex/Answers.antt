-- `Page::append_hex` meets its contract.
-- Assumes nothing.
use Prim.Native.Nat.{ℕ, ◌+◌, ◌-◌, ◌*◌, ◌/◌, ◌%◌, ◌^◌}
use mathlib.Core.List.{[], ◌∷◌}
use mathlib.Core.Path.{◌≡◌, refl, sym, ap, ap₂, ◌∙◌}
use native.Mathlib.Omega.{arith}
use lib.ListN.{drop}
use Rattle.page.specs.Numbers.{eight_digits, hex, glyph}
use Rattle.page.specs.Pages.{PageBytes, sheet, written}
use Rattle.page.proofs.NumberLaws.{hex_next, hex_none}
use Rattle.page.proofs.PageLaws.{written_both, nothing_written}
use Rattle.page.proofs.Page.append_hex.Goals as goal

pub loop-i-init : goal.loop-i-init
loop-i-init c =
    let e : c.min-shown.result - 0 ≡ c.min-shown.result = omega arith in
    record { put = ap (λ (k : ℕ). written (sheet c.args.self.now) (hex c.args.small k c.args.n)) e; same = refl }

pub loop-i-preserved : goal.loop-i-preserved
loop-i-preserved c =
    let l = c.loop-i in
    let a = c.args in
    let k = c.min-shown.result - 1 - l.i in
    let more : k + 1 ≡ c.min-shown.result - l.i = omega arith in
    let less : k ≡ c.min-shown.result - (l.i + 1) = omega arith in
    let rest = hex a.small (c.min-shown.result - (l.i + 1)) a.n in
    let here : c.glyph.result ≡ glyph a.small (a.n / 2 ^ (4 * k % 64) % 16) = c.glyph.ensures ∙ rw c.wrapping_shr.ensures in
    let next : c.glyph.result ∷ rest ≡ hex a.small (c.min-shown.result - l.i) a.n
    = ap₂ (λ (g j : ℕ). g ∷ hex a.small j a.n) here (sym less) ∙ sym (hex_next a.small a.n k (omega arith)) ∙ ap (λ (j : ℕ). hex a.small j a.n) more in record {
      put = ap (λ (p : PageBytes). written p rest) c.append.ensures.put
          ∙ sym (written_both (sheet l.self) (c.glyph.result ∷ []) rest)
          ∙ ap (written (sheet l.self)) next
          ∙ l.invariant.put;
      same = c.append.ensures.same ∙ l.invariant.same;
    }

pub returns-clause-put : goal.returns-clause-put
unfolding hex
returns-clause-put c =
    let l = c.loop-i in
    let a = c.args in
    let none : c.min-shown.result - l.i ≡ 0 = omega arith in
    let from : 8 - c.min-shown.result ≡ 8 - a.width = omega arith in
    sym (nothing_written (sheet l.self))
    ∙ ap (written (sheet l.self)) (sym (hex_none a.small a.n) ∙ ap (λ (k : ℕ). hex a.small k a.n) (sym none))
    ∙ l.invariant.put
    ∙ ap (λ (k : ℕ). written (sheet a.self.now) (drop k (eight_digits a.small a.n))) from
