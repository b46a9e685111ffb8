-- `assembler_text::constants::constant` meets its contract.
-- Assumes nothing.
use Prim.Native.Nat.{ℕ, ◌≤◌}
use mathlib.Core.Path.{sym, ap, subst, ◌∙◌}
use Rattle.assembly_rules.specs.Text.{capitals}
use Rattle.assembly_rules.specs.Numbers.{is_radix, radix_of, digits_from}
use Rattle.assembler_text.proofs.NameLaws.{constant-empty, constant-lettered, constant-plain, radix_some, radix_none, radix-within}
use Rattle.assembler_text.proofs.constants.constant.Goals as goal

pub returns-in_default : goal.returns-in_default
returns-in_default c = sym (constant-empty c.args.run.now c.in_default.ensures.cases)

pub read_digits-requires : goal.read_digits-requires
read_digits-requires c = subst (λ (r : ℕ). (2 ≤ r) × (r ≤ 16)) (sym (radix_some _ _ c.in-Some-radix.ensures).1) (radix-within c.capital.result)

pub returns-in-Some-radix : goal.returns-in-Some-radix
returns-in-Some-radix c =
    let told = radix_some _ _ c.in-Some-radix.ensures in
    let letter = c.capital.ensures in
    c.read_digits.ensures ∙ ap (λ (r : ℕ). digits_from r 0 (capitals c.in-Some.front.now)) (told.1 ∙ ap radix_of letter) ∙ sym (constant-lettered c.args.run.now c.in-Some.front.now c.in-Some.last.now c.in-Some.ensures.cases.0 (sym (ap is_radix letter) ∙ told.0))

pub returns-in-None : goal.returns-in-None
returns-in-None c = c.read_digits-in-None.ensures ∙ sym (constant-plain c.args.run.now c.in-Some.front.now c.in-Some.last.now c.in-Some.ensures.cases.0 (sym (ap is_radix c.capital.ensures) ∙ radix_none _ c.in-None.ensures))
