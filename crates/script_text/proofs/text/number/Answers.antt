-- `script_text::text::number` meets its contract.
-- Assumes nothing.
use Rattle.std.proofs.Common.{◌≡◌, ◌+◌, ◌*◌, ◌<◌, ◌∙◌, ℕ, sym, ap, length, drop, get_or, Some, None, true, false, arith}
use borrow.Author.Tests.{lt-leb, le-leb, lt-ltb}
use lib.Dec.{eqb}
use Rattle.script_text.specs.Text.{no_number, value_of, numeral_of, digit_told}
use Rattle.script_text.proofs.TextLaws.{value-end, value-next, value-stop, number_fits, number_room, number-grows, some_value, no_value}
use Rattle.script_text.proofs.text.number.Goals as goal
use Rattle.script_text.proofs.text.number.Goals.{then-is_empty-via-then-is_empty, then-is_empty-via-else-is_empty+then-w-gt8}

pub returns-then-is_empty : goal.returns-then-is_empty
unfolding numeral_of
returns-then-is_empty c = elim c.then-is_empty.branch [
  | then-is_empty-via-then-is_empty w ↦
      let none : eqb (length c.args.w.now) 0 ≡ true = sym c.is_empty.ensures ∙ w.if-is_empty.true in
      rw none
  | then-is_empty-via-else-is_empty+then-w-gt8 w ↦
      let some : eqb (length c.args.w.now) 0 ≡ false = sym c.is_empty.ensures ∙ w.if-is_empty.false in
      rw (some, lt-leb (length c.args.w.now) 8 w.if-w-gt8.true)
]

pub overflow_mul-number : goal.overflow_mul-number
overflow_mul-number c = let l = c.loop-byte in omega (arith, number_room l.number l.byte-index l.invariant.fits (omega arith))

pub overflow_add-number : goal.overflow_add-number
overflow_add-number c =
    let l = c.loop-byte in
    let b = get_or c.args.w.now l.byte-index 0 in
    let is : digit_told b ≡ Some c.in_ok-number.field-0 = sym c.digit.ensures ∙ c.in_ok-number.was in
    let value = some_value b c.in_ok-number.field-0 is in
    omega (arith, number_room l.number l.byte-index l.invariant.fits (omega arith), value.0, value.1)

pub returns-in_err-number : goal.returns-in_err-number
unfolding numeral_of
returns-in_err-number c =
    let l = c.loop-byte in
    let w = c.args.w.now in
    let b = get_or w l.byte-index 0 in
    let none : digit_told b ≡ None = sym c.digit.ensures ∙ c.in_err-number.was in
    let stop : value_of 0 w ≡ no_number = sym l.invariant.whole ∙ value-stop l.number w l.byte-index (omega arith) (no_value b none) in
    let some : eqb (length w) 0 ≡ false = sym c.is_empty.ensures ∙ c.if-is_empty.false in
    c.from_residual.ensures ∙ rw (some, le-leb (length w) 8 (omega arith), stop)

pub loop-byte-preserved : goal.loop-byte-preserved
loop-byte-preserved c =
    let l = c.loop-byte in
    let w = c.args.w.now in
    let b = get_or w l.byte-index 0 in
    let is : digit_told b ≡ Some c.in_ok-number.field-0 = sym c.digit.ensures ∙ c.in_ok-number.was in
    let value = some_value b c.in_ok-number.field-0 is in
    record {
      fits = number-grows l.number l.byte-index c.in_ok-number.field-0 l.invariant.fits (omega (arith, value.0, value.1));
      whole = ap (λ (d : ℕ). value_of (l.number * 16 + d) (drop (l.byte-index + 1) w)) (sym value.1) ∙ sym (value-next l.number w l.byte-index (omega arith) value.0) ∙ l.invariant.whole;
    }

pub returns : goal.returns
unfolding numeral_of
returns c =
    let l = c.loop-byte in
    let w = c.args.w.now in
    let all : value_of 0 w ≡ l.number = sym l.invariant.whole ∙ value-end l.number w l.byte-index (omega arith) in
    let some : eqb (length w) 0 ≡ false = sym c.is_empty.ensures ∙ c.if-is_empty.false in
    let fits : l.number < no_number = number_fits l.number l.byte-index l.invariant.fits (omega arith) in
    rw (some, le-leb (length w) 8 (omega arith), all, lt-ltb l.number no_number fits)
