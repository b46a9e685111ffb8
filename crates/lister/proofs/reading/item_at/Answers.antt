-- `lister::reading::item_at` meets its contract.
-- Assumes nothing.
use Prim.Native.Nat.{◌≤◌}
use native.Mathlib.Omega.{arith}
use lib.ListN.{length, drop_of_length-le}
use Rattle.listing_rules.specs.Items.{item_of}
use Rattle.lister.proofs.reading.item_at.Goals as goal

pub returns-then-code-at-clause-value : goal.returns-then-code-at-clause-value
unfolding item_of
returns-then-code-at-clause-value c = let h : length c.args.code.now ≤ c.args.at = omega arith in rw (drop_of_length-le c.args.code.now h)
