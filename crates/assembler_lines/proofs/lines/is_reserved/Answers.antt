-- `assembler_lines::lines::is_reserved` meets its contract.
-- Assumes nothing.
use mathlib.Core.Bool.{Bool, true, false, not, ◌||◌}
use mathlib.Core.Path.{◌≡◌, refl, ◌∙◌}
use lib.Dec.{eqb}
use lib.ListN.{length}
use Rattle.assembly_rules.specs.Text.{capitals}
use Rattle.std.specs.Prelude.{is_some}
use Rattle.assembler_text.specs.Places.{register_named}
use Rattle.assembler_lines.proofs.BodyLaws.{reserved-told}
use Rattle.assembler_lines.proofs.lines.is_reserved.Goals as goal

-- tests in a row
in_row : (a b c d : Bool) → ((a || b) || c) || d ≡ a || (b || (c || d))
in_row true b c d = refl
in_row false true c d = refl
in_row false false c d = refl

pub returns : goal.returns
returns c = rw (c.is_some-is_register.ensures, c.register_number.ensures, c.is_empty-is_word.ensures) (in_row (not (eqb (length c.codes_of.result.now) 0)) (eqb c.run_number-word.result 0x14244) (eqb c.run_number-word.result 0x15744) (is_some (register_named (capitals c.args.run.now))) ∙ reserved-told (capitals c.args.run.now) _ c.run_number-word.ensures _ c.codes_of.ensures)
