-- The numbers of a transfer step: each condition, and the checks in their order (§7.11).
use Rattle.std.specs.Prelude.{true, List, [], ◌∷◌, ◌⊎◌, ◌≡◌}
use Rattle.ground_rules.specs.Buffers.{Buffers}
use Rattle.ground_rules.specs.Conditions.{Check, check, Beyond}
use Rattle.ground_rules.specs.Psw.{source_wide, destination_wide}
use Rattle.ground_rules.specs.declared.Channel.{Channel}
use Rattle.transfer_rules.specs.Steps.{touched_by_transfer}

-- 5: SYN 11, or translation with a side of 16 bits
abbrev pub BadTransfer : Channel → Type 0
BadTransfer c = (c.fields.synchronised ≡ 3) ⊎ ((c.fields.translates ≡ true) × ((source_wide c.psw ≡ true) ⊎ (destination_wide c.psw ≡ true)))

-- 5, then 2
abbrev pub transfer_checks : Channel → Buffers → List Check
transfer_checks c m = check 5 (BadTransfer c) ∷ check 2 (Beyond m (touched_by_transfer c m)) ∷ []
