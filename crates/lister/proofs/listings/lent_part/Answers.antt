-- `lister::listings::lent_part` meets its contract.
-- Assumes nothing.
use mathlib.Core.Path.{sym}
use native.Mathlib.Omega.{arith}
use lib.Seq.{take_all}
use Rattle.listing_rules.specs.Listings.{list_limit}
use Rattle.lister.proofs.listings.lent_part.Goals as goal

pub returns-then-code-lt1048576 : goal.returns-then-code-lt1048576
returns-then-code-lt1048576 c = sym (take_all list_limit c.args.code.now (omega arith))
