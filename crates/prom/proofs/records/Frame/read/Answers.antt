-- `prom::records::Frame::read` meets its contract.
-- Assumes nothing.
use mathlib.Core.List.{◌∷◌}
use mathlib.Core.Path.{◌≡◌, refl, sym, ap, ◌∙◌}
use Rattle.prom.proofs.FrameLaws.{empty-line, other-byte, no-size, too-short, not-ended, frame-long, cut}
use Rattle.prom.proofs.records.Frame.read.Goals as goal

pub returns-in_err-colon : goal.returns-in_err-colon
returns-in_err-colon c = rw c.from_residual.ensures (empty-line c.args.text.now c.in_err-colon.ensures.cases)

pub returns-then-colon-ne58 : goal.returns-then-colon-ne58
returns-then-colon-ne58 c = other-byte c.args.text.now _ _ c.in_ok-colon.ensures.cases.0 c.if-colon-ne58.true

pub returns-in_err-size : goal.returns-in_err-size
returns-in_err-size c = let r = c.in_ok-colon.behind.now in
    let e : c.args.text.now ≡ 58 ∷ r = c.in_ok-colon.ensures.cases.0 ∙ ap (λ b. b ∷ r) c.if-colon-ne58.false in
    rw (c.from_residual-in_err-size.ensures, e) (no-size r (sym c.in_err-size.ensures))

pub returns-in_err-digits : goal.returns-in_err-digits
returns-in_err-digits c = let r = c.in_ok-colon.behind.now in
    let e : c.args.text.now ≡ 58 ∷ r = c.in_ok-colon.ensures.cases.0 ∙ ap (λ b. b ∷ r) c.if-colon-ne58.false in
    rw (c.from_residual-in_err-digits.ensures, e) (too-short r c.in_ok-size.size (sym c.in_ok-size.ensures) c.in_err-digits.ensures.cases)

pub returns-in_err-rest : goal.returns-in_err-rest
returns-in_err-rest c = let r = c.in_ok-colon.behind.now in
    let e : c.args.text.now ≡ 58 ∷ r = c.in_ok-colon.ensures.cases.0 ∙ ap (λ b. b ∷ r) c.if-colon-ne58.false in
    let ends = rw c.in_ok-digits.ensures.cases.2 at c.in_err-rest.ensures in
    rw (c.from_residual-in_err-rest.ensures, e) (not-ended r c.in_ok-size.size (sym c.in_ok-size.ensures) _ refl ends)

pub invariant_of-result : goal.invariant_of-result
invariant_of-result c = let r = c.in_ok-colon.behind.now in
    let split = c.in_ok-digits.ensures.cases in
    let ends = rw split.2 at c.in_ok-rest.ensures.0 in
    record { long = rw split.1 (frame-long r c.in_ok-size.size (sym c.in_ok-size.ensures) _ refl split.0 ends) }

pub returns : goal.returns
returns c = let r = c.in_ok-colon.behind.now in
    let split = c.in_ok-digits.ensures.cases in
    let e : c.args.text.now ≡ 58 ∷ r = c.in_ok-colon.ensures.cases.0 ∙ ap (λ b. b ∷ r) c.if-colon-ne58.false in
    let made = cut c.args.text.now r c.in_ok-digits.digits.now c.in_ok-digits.after.now c.in_ok-rest.rest.now c.in_ok-size.size e (sym c.in_ok-size.ensures) split.0 split.1 split.2
    c.in_ok-rest.ensures.0 c.in_ok-rest.ensures.1 in
    (record { same = made.0; lines = made.1; shorter = made.2 }, refl)
