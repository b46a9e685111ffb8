-- `state_bytes::given::check_entry` meets its contract.
-- Assumes nothing.
use borrow.Author.Tests.{lt-ltb, le-ltb, le-leb, not-true, not-false}
use mathlib.Core.Path.{sym, ap, ◌∙◌}
use Rattle.ground_rules.specs.Outcomes.{unless, first, given_number}
use Rattle.ground_rules.specs.States.{agree}
use Rattle.turn_rules.specs.Step.{entry_number}
use Rattle.state_bytes.proofs.given.check_entry.Goals as goal

pub returns-then-lines-ge16 : goal.returns-then-lines-ge16
unfolding entry_number first unless
returns-then-lines-ge16 c = simp (le-ltb _ _ c.if-lines-ge16.true, le-leb _ _ c.if-lines-ge16.true)

pub returns-then-not-within_limits : goal.returns-then-not-within_limits
unfolding entry_number given_number first unless
returns-then-not-within_limits c = simp (c.if-not-within_limits.true, ← c.within_limits.ensures, lt-ltb _ _ c.if-lines-ge16.false)

pub returns-then-not-sound : goal.returns-then-not-sound
unfolding entry_number given_number first unless
returns-then-not-sound c = simp (c.if-not-sound.true, ← c.sound.ensures, c.if-not-within_limits.false, ← c.within_limits.ensures, lt-ltb _ _ c.if-lines-ge16.false)

pub returns-then-not-s : goal.returns-then-not-s
unfolding entry_number given_number first unless
returns-then-not-s c = simp (not-true c.args.s.board.powered c.if-not-s.true, c.if-not-sound.false, ← c.sound.ensures, c.if-not-within_limits.false, ← c.within_limits.ensures, lt-ltb _ _ c.if-lines-ge16.false)

pub agree-requires : goal.agree-requires
agree-requires c = c.requires.0

pub returns : goal.returns
unfolding entry_number given_number first unless
returns c = simp (ap agree c.requires.1 ∙ sym c.agree.ensures ∙ c.if-not-agree.false, not-false c.args.s.board.powered c.if-not-s.false, c.if-not-sound.false, ← c.sound.ensures, c.if-not-within_limits.false, ← c.within_limits.ensures, lt-ltb _ _ c.if-lines-ge16.false)

pub returns-then-not-agree : goal.returns-then-not-agree
unfolding entry_number given_number first unless
returns-then-not-agree c = simp (ap agree c.requires.1 ∙ sym c.agree.ensures ∙ c.if-not-agree.true, not-false c.args.s.board.powered c.if-not-s.false, c.if-not-sound.false, ← c.sound.ensures, c.if-not-within_limits.false, ← c.within_limits.ensures, lt-ltb _ _ c.if-lines-ge16.false)
