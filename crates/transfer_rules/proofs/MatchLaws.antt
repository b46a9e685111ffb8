-- The laws of the masked compare: what is off is met by no byte, and of a word only the low byte counts.
-- Assumes nothing.
use Prim.Native.Nat.{ℕ, ◌%◌}
use borrow.Author.Tests.{eq-eqb}
use mathlib.Core.Bool.{true, false}
use mathlib.Core.Path.{◌≡◌}
use Rattle.ground_rules.specs.declared.Channel.{Channel}
use Rattle.ground_rules.proofs.ChoiceLaws.{and-true, and-false, or-false}
use Rattle.transfer_rules.specs.Ends.{meets_tmc}
use Rattle.transfer_rules.specs.Sides.{destination, word_side, two_move, stored_singly}
use Rattle.transfer_rules.specs.Stores.{first_meets, match_met, cut_short, stores_two}
use Rattle.transfer_rules.specs.declared.Data.{Data}

-- no byte meets a TMC that is off
off : (tmc mc byte : ℕ) → tmc % 4 ≡ 0 → meets_tmc tmc mc byte ≡ false
unfolding meets_tmc
off tmc mc byte h = rw (eq-eqb (tmc % 4) 0 h)

-- so no store is prevented
pub off-whole : (c : Channel) (d : Data) → c.fields.matchEnd % 4 ≡ 0 → cut_short c d ≡ false
unfolding cut_short first_meets
off-whole c d h = rw (off c.fields.matchEnd c.mc d.first h) (and-false (stored_singly c))

-- and all bytes that move are stored
pub off-stores : (c : Channel) (d : Data) → c.fields.matchEnd % 4 ≡ 0 → stores_two c d ≡ two_move c
unfolding stores_two
off-stores c d h = rw (off-whole c d h) (and-true (two_move c))

-- and no end comes of it
pub off-unmet : (c : Channel) (d : Data) → c.fields.matchEnd % 4 ≡ 0 → match_met c d ≡ false
unfolding match_met first_meets
off-unmet c d h = rw (off c.fields.matchEnd c.mc d.first h, off c.fields.matchEnd c.mc d.second h, and-false)

-- of a word that is stored only the low byte is compared (§7.7)
pub low-compared : (c : Channel) (d : Data) → word_side (destination c) ≡ true → match_met c d ≡ first_meets c d
unfolding match_met stored_singly
low-compared c d h = rw (h, and-false) (or-false (first_meets c d))
