-- `assembler_bytes::stores::put_value` meets its contract.
-- Assumes nothing.
use Prim.Native.Nat.{◌/◌}
use mathlib.Core.List.{[], ◌∷◌, ◌++◌}
use mathlib.Core.Path.{sym, ap, ◌∙◌}
use mathlib.Core.Bool.{Bool}
use Rattle.ground_rules.specs.Choice.{pick}
use Rattle.assembler_bytes.specs.Laid.{laid_at}
use Rattle.assembler_bytes.proofs.LaidLaws.{laid-value}
use Rattle.assembler_bytes.proofs.stores.put_value.Goals as goal

pub returns-then-two : goal.returns-then-two
returns-then-two c bs =
    let a = c.args in
    let n = a.n in
    c.put_byte.ensures bs ∙ c.put_byte-next.ensures (n / 256 ∷ bs) ∙ ap (λ (x : Bool). laid_at a.code.now a.at (n ∷ (pick x (n / 256 ∷ []) [] ++ bs))) (sym c.if-two.true) ∙ laid-value a.code.now a.at n a.two bs

pub returns : goal.returns
returns c bs =
    let a = c.args in
    let n = a.n in
    c.put_byte-next.ensures bs ∙ ap (λ (x : Bool). laid_at a.code.now a.at (n ∷ (pick x (n / 256 ∷ []) [] ++ bs))) (sym c.if-two.false) ∙ laid-value a.code.now a.at n a.two bs
