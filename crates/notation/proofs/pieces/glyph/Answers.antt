-- `notation::pieces::glyph` meets its contract.
-- Assumes nothing.
use native.Mathlib.Omega.{arith}
use borrow.Author.Tests.{lt-ltb, le-ltb, lt-leb, le-leb}
use Rattle.listing_rules.specs.Characters.{hex_glyph}
use Rattle.notation.proofs.pieces.glyph.Goals as goal

pub returns-then-d-lt10 : goal.returns-then-d-lt10
unfolding hex_glyph
returns-then-d-lt10 c = record { value = simp (lt-ltb _ _ c.if-d-lt10.true, lt-leb _ _ c.if-d-lt10.true); lower_bound = omega arith }

pub returns-else-d-lt10 : goal.returns-else-d-lt10
unfolding hex_glyph
returns-else-d-lt10 c = record { value = simp (le-ltb _ _ c.if-d-lt10.false, le-leb _ _ c.if-d-lt10.false); lower_bound = omega arith }
