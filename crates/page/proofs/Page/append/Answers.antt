-- `Page::append` meets its contract: the loop ends where no byte is left of the text, or no room on the page.
-- Assumes nothing.
use Prim.Native.Nat.{◌≤◌, ◌<◌}
use mathlib.Core.Path.{◌≡◌, sym, ◌∙◌}
use lib.ListN.{length, drop}
use native.Mathlib.Omega.{arith}
use Rattle.std.proofs.Common.{◌⊎◌, inl, inr}
use Rattle.std.proofs.lemmas.Bool.{cases_lt}
use Rattle.page.specs.Pages.{page, sheet, written}
use Rattle.page.proofs.PageLaws.{all_typed, next-typed, full_typed}
use Rattle.page.proofs.Page.append.Goals as goal

pub loop-byte-preserved : goal.loop-byte-preserved
loop-byte-preserved c =
    let l = c.loop-byte in
    record { put = sym (next-typed l.self.bytes.now c.args.text.now l.count l.byte-index (omega arith) (omega arith)) ∙ l.invariant.put; same = l.invariant.same }

pub returns-clause-put : goal.returns-clause-put
returns-clause-put c = go (cases_lt c.loop-byte.byte-index (length c.args.text.now)) (cases_lt c.loop-byte.count (length c.loop-byte.self.bytes.now))
  where
    go : (c.loop-byte.byte-index < length c.args.text.now) ⊎ (length c.args.text.now ≤ c.loop-byte.byte-index)
        → (c.loop-byte.count < length c.loop-byte.self.bytes.now) ⊎ (length c.loop-byte.self.bytes.now ≤ c.loop-byte.count)
        → page c.loop-byte.self.bytes.now c.loop-byte.count ≡ written (sheet c.args.self.now) c.args.text.now
    go (inr h) k = sym (all_typed (page c.loop-byte.self.bytes.now c.loop-byte.count) c.args.text.now c.loop-byte.byte-index h) ∙ c.loop-byte.invariant.put
    go (inl h) (inr k) = sym (full_typed (page c.loop-byte.self.bytes.now c.loop-byte.count) (drop c.loop-byte.byte-index c.args.text.now) k) ∙ c.loop-byte.invariant.put
    go (inl h) (inl k) = absurd (omega (arith, h, k))
