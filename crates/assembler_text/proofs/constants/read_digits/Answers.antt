-- `assembler_text::constants::read_digits` meets its contract. The loop's invariant: what is left gives what the whole gives.
-- Assumes nothing.
use Prim.Native.Nat.{ℕ, ◌+◌, ◌*◌, ◌%◌, ◌<◌}
use native.Mathlib.Nat.{mod-lt}
use native.Mathlib.Omega.{arith}
use mathlib.Core.Path.{sym, ap, subst, ◌∙◌}
use lib.Dec.{lit<}
use lib.ListN.{drop, get_or}
use Rattle.assembly_rules.specs.Text.{capitals}
use Rattle.assembly_rules.specs.Numbers.{digits_from}
use Rattle.assembler_text.proofs.NameLaws.{digit-over, digit-under, times-small, digits-stop, digits-next, digits-end}
use Rattle.assembler_text.proofs.constants.read_digits.Goals as goal

pub returns-in_err-value : goal.returns-in_err-value
returns-in_err-value c =
    let l = c.loop-c in
    c.from_residual.ensures ∙ sym (digits-stop c.args.radix l.value c.args.digits.now l.c-index c.loop-c-test.true (digit-over _ _ (omega (arith, c.type_inv.digits l.c-index)) c.requires.1 c.in_err-value.ensures.value)) ∙ l.invariant.0

pub loop-c-preserved : goal.loop-c-preserved
loop-c-preserved c =
    let l = c.loop-c in
    let cs = c.args.digits.now in
    let told = c.in_ok-value.ensures.value in
    let same = digit-under c.args.radix (get_or cs l.c-index 0) (omega (arith, c.type_inv.digits l.c-index)) c.requires.1 told.0 in
    let next = digits-next c.args.radix l.value cs l.c-index c.loop-c-test.true (subst (λ (n : ℕ). n < c.args.radix) (sym same) told.0) in
    (ap (λ (d : ℕ). digits_from c.args.radix ((l.value * c.args.radix + d) % 65536) (capitals (drop (l.c-index + 1) cs))) (told.1 ∙ sym same) ∙ sym next ∙ l.invariant.0, mod-lt _ (lit< tt))

pub overflow_mul-value : goal.overflow_mul-value
overflow_mul-value c = let l = c.loop-c in omega (arith, times-small l.value c.args.radix l.invariant.1 c.requires.1)

pub returns : goal.returns
returns c =
    let l = c.loop-c in
    sym (digits-end c.args.radix l.value c.args.digits.now l.c-index c.loop-c-test.false) ∙ l.invariant.0
