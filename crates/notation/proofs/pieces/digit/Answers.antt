-- `notation::pieces::digit` meets its contract.
-- Assumes nothing.
use mathlib.Core.List.{[], ◌∷◌}
use Prim.Native.Nat.{◌+◌, ◌/◌, ◌%◌}
use native.Mathlib.Omega.{arith}
use lib.Dec.{lit≤}
use borrow.Author.Tests.{lt-ltb, le-ltb}
use Rattle.listing_rules.specs.Characters.{digit_text}
use Rattle.notation.specs.Writing.{held_in}
use Rattle.notation.proofs.PieceLaws.{held-packed}
use Rattle.notation.proofs.pieces.digit.Goals as goal

pub returns-then-n-lt10 : goal.returns-then-n-lt10
unfolding held_in digit_text
returns-then-n-lt10 c = rw (lt-ltb _ 10 c.if-n-lt10.true) (held-packed 8 ((48 + c.args.n) ∷ []) (lit≤ tt) (omega arith, omega arith, tt))

pub returns : goal.returns
unfolding held_in digit_text
returns c =
    let n = c.args.n in
    rw (le-ltb n 10 c.if-n-lt10.false) (held-packed 8 ((48 + n / 10 % 10) ∷ (48 + n % 10) ∷ []) (lit≤ tt) (omega arith, omega arith, (omega arith, omega arith, tt)))
