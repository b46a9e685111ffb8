-- `state_bytes::fields::long` meets its contract.
-- Assumes nothing.
use Prim.Native.Nat.{◌+◌}
use mathlib.Core.Path.{◌≡◌}
use native.Mathlib.Omega.{arith}
use Rattle.state_rules.specs.Fields.{little_in}
use Rattle.state_bytes.proofs.fields.long.Goals as goal

pub returns : goal.returns
unfolding little_in
returns c = rw (c.word.ensures, c.word-2.ensures) (let e : c.args.at + 1 + 1 ≡ c.args.at + 2 = omega arith in rw e (omega arith))
