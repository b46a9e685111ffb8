use Rattle.std.proofs.Common.{◌≡◌, ℕ, Bool, ◌+◌, drop}
use Rattle.assembler_text.specs.Places.{leading}
use Rattle.assembler_text.proofs.tokens.skip_while.Given as goal

abbrev pub invariant-loop-i : goal.invariant-loop-i
invariant-loop-i g l = (test : ℕ → Bool) → ((c : ℕ) (b : Bool) → goal.F-post g l.passes c b → b ≡ test c) → l.i + leading test (drop l.i l.text) ≡ l.at + leading test (drop l.at l.text)
