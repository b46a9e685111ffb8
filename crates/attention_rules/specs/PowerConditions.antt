-- The numbers of a power-up: the condition of each check, and their order (§4.12).
use Rattle.std.specs.Prelude.{List, [], ◌∷◌}
use Rattle.ground_rules.specs.Buffers.{Buffers}
use Rattle.ground_rules.specs.Conditions.{Check, check, TooLong, Beyond}
use Rattle.attention_rules.specs.Power.{power_places}

-- 11, then 2; there is no 10, no 13 and no 14 (§4.12)
abbrev pub power_checks : Buffers → List Check
power_checks m = check 11 (TooLong m) ∷ check 2 (Beyond m (power_places m)) ∷ []
