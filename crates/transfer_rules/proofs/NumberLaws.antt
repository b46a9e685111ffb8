-- The number of a transfer step: 5, 2 and 0, each exactly under its own condition and no earlier one.
-- Assumes nothing.
use Prim.Native.Nat.{ℕ}
use mathlib.Core.Bool.{not}
use mathlib.Core.Logic.{◌↔◌}
use mathlib.Core.Path.{◌≡◌, refl, ◌∙◌}
use Rattle.ground_rules.proofs.ConditionLaws.{Told, step, last, rewritten, worded, told-touchable, told-by, says-true, says-eqb, says-and, says-or}
use Rattle.ground_rules.specs.Buffers.{Buffers}
use Rattle.ground_rules.specs.Conditions.{Given, Exactly}
use Rattle.ground_rules.specs.Psw.{source_wide, destination_wide}
use Rattle.ground_rules.specs.declared.Channel.{Channel}
use Rattle.transfer_rules.specs.Conditions.{BadTransfer, transfer_checks}
use Rattle.transfer_rules.specs.Sides.{source, destination}
use Rattle.transfer_rules.specs.Steps.{touched_by_transfer, bad_mode, transfer_of}
use Rattle.transfer_rules.proofs.StepLaws.{chain, number_is}

-- what the test of 5 tells
told-bad : (c : Channel) → Told (not (bad_mode c)) (BadTransfer c)
unfolding bad_mode source destination
told-bad c = told-by (says-or (says-eqb c.fields.synchronised 3) (says-and (says-true c.fields.translates) (says-or (says-true (source_wide c.psw)) (says-true (destination_wide c.psw)))))

module _ (c : Channel) (m : Buffers) (n : ℕ) where
  -- the number is that of the first check that applies, and 0 where none does
  pub number-given : ((transfer_of c m).number ≡ n) ↔ Given (transfer_checks c m) n
  number-given = rewritten (number_is c m ∙ chain c m) (step 5 refl (told-bad c) (last n 2 refl (told-touchable m (touched_by_transfer c m))))

  -- in words: 5 of a bad mode, 2 of none such where a byte to be read or stored lies beyond, 0 where neither holds
  pub number-exactly : ((transfer_of c m).number ≡ n) ↔ Exactly (transfer_checks c m) n
  number-exactly = worded (transfer_checks c m) n number-given
