-- `state_bytes::layout::is_state` meets its contract.
-- Assumes nothing.
use borrow.Author.Tests.{ne_eqb}
use mathlib.Core.Bool.{true, false}
use mathlib.Core.Path.{◌∙◌}
use Rattle.state_rules.specs.Layout.{is_state}
use Rattle.state_bytes.proofs.TestLaws.{held-last}
use Rattle.state_bytes.proofs.layout.is_state.Goals as goal

pub returns-then-bytes-ne104 : goal.returns-then-bytes-ne104
unfolding is_state
returns-then-bytes-ne104 c = rw (ne_eqb _ _ c.if-bytes-ne104.true)

pub returns-then-not-fit : goal.returns-then-not-fit
returns-then-not-fit c = held-last _ c.if-bytes-ne104.false false (rw (c.is_mode-2.ensures, c.is_mode.ensures, c.is_code-2.ensures, c.is_code.ensures, c.codes_fit-2.ensures, c.codes_fit.ensures, c.flags_fit-2.ensures, c.tags_fit-2.ensures, c.flags_fit.ensures, c.tags_fit.ensures, c.is_board.ensures, c.is_flag.ensures, c.byte.ensures) at c.if-not-fit.true)

pub returns : goal.returns
returns c = c.both_held_fit.ensures ∙ held-last _ c.if-bytes-ne104.false true (rw (c.is_mode-2.ensures, c.is_mode.ensures, c.is_code-2.ensures, c.is_code.ensures, c.codes_fit-2.ensures, c.codes_fit.ensures, c.flags_fit-2.ensures, c.tags_fit-2.ensures, c.flags_fit.ensures, c.tags_fit.ensures, c.is_board.ensures, c.is_flag.ensures, c.byte.ensures) at c.if-not-fit.false)
