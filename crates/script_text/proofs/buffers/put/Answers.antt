-- `script_text::buffers::put` meets its contract.
-- Assumes nothing.
use Rattle.std.proofs.Common.{◌+◌, ◌*◌, ◌/◌, ◌<◌, ◌∙◌, ℕ, sym, ap, length, drop, arith}
use borrow.Author.Tests.{le-leb, lt-leb}
use lib.ListN.{set, length-drop}
use Rattle.script_text.specs.Buffers.{bytes_written, has_room}
use Rattle.script_text.proofs.BufferLaws.{written_next, written-end}
use Rattle.script_text.proofs.buffers.put.Goals as goal
use Rattle.script_text.proofs.buffers.put.Goals.{then-s-at-via-then-s-at, then-s-at-via-else-s-at+then-s-at-2}

pub returns-then-s-at-clause-value : goal.returns-then-s-at-clause-value
unfolding has_room
returns-then-s-at-clause-value c =
    let a = c.args in
    let over : length a.s.now < a.at + length a.digits.now / 2 =
    elim c.then-s-at.branch [ then-s-at-via-then-s-at w ↦ omega arith | then-s-at-via-else-s-at+then-s-at-2 w ↦ omega arith ] in
    sym (lt-leb (a.at + length a.digits.now / 2) (length a.s.now) over)

pub loop-i-preserved : goal.loop-i-preserved
loop-i-preserved c =
    let l = c.loop-i in
    let a = c.args in
    let digits = a.digits.now in
    ap (λ (b : ℕ). bytes_written (set l.s (a.at + l.i) b) (a.at + (l.i + 1)) (drop (2 * (l.i + 1)) digits)) c.byte.ensures
    ∙ sym (written_next l.s a.at digits l.i (omega arith))
    ∙ l.invariant

pub returns-clause-value : goal.returns-clause-value
unfolding has_room
returns-clause-value c = let a = c.args in sym (le-leb (a.at + length a.digits.now / 2) (length a.s.now) (omega arith))

pub returns-clause-s_after : goal.returns-clause-s_after
returns-clause-s_after c =
    let l = c.loop-i in
    let digits = c.args.digits.now in
    sym (written-end l.s (c.args.at + l.i) (drop (2 * l.i) digits) (omega (arith, length-drop (2 * l.i) digits))) ∙ l.invariant
