-- `text_calls::iop89_load` meets its contract.
-- Assumes nothing.
use Prim.Native.Nat.{ℕ, ◌+◌, ◌*◌}
use mathlib.Core.List.{[]}
use mathlib.Core.Path.{◌≡◌, ap, ◌∙◌}
use native.Mathlib.Omega.{arith}
use Rattle.ground_rules.specs.Buffers.{buffers}
use Rattle.prom_rules.specs.Load.{Loading, word_for_c, packed_with}
use Rattle.prom.specs.Refusals.{reason_number}
use Rattle.text_calls.proofs.iop89_load.Goals as goal

pub returns-in-Ok : goal.returns-in-Ok
unfolding word_for_c
returns-in-Ok c =
    let word : c.in-Ok.start * 256 ≡ 0 + c.in-Ok.start * 256 + 0 * 4294967296 = omega arith in
    ap (λ (n : ℕ). packed_with n (buffers c.load.new.sys [])) word
    ∙ ap (λ (r : Loading). packed_with (word_for_c r) r.memory) (rw c.in-Ok.is at c.load.ensures)

pub returns-in-Err : goal.returns-in-Err
unfolding word_for_c
returns-in-Err c =
    let refused = c.in-Err.refused in
    let word : c.number.result + refused.line * 4294967296 ≡ reason_number refused.why + 0 * 256 + refused.line * 4294967296 = omega (arith, c.number.ensures) in
    ap (λ (n : ℕ). packed_with n (buffers c.load.new.sys [])) word
    ∙ ap (λ (r : Loading). packed_with (word_for_c r) r.memory) (rw c.in-Err.is at c.load.ensures)
