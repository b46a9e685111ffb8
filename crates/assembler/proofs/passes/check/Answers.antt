-- `assembler::passes::check` meets its contract. The loop's invariant: the labels kept so far are the first of all, and what fails from here on is what fails first.
-- Assumes nothing.
use native.Mathlib.Omega.{arith}
use native.Mathlib.Nat.{add-zero}
use mathlib.Core.List.{[]}
use mathlib.Core.Path.{refl, sym, ap, subst, ◌∙◌}
use Prim.Native.Nat.{ℕ, ◌+◌, ◌%◌}
use Rattle.std.specs.Prelude.{Option}
use Rattle.assembly_rules.specs.Assembly.{labels_from}
use Rattle.assembly_rules.proofs.LabelLaws.{labels-reduced}
use Rattle.assembly_rules.proofs.PassLaws.{Failed, failed_from}
use Rattle.assembler_text.specs.Places.{labels_at}
use Rattle.assembler_lines.specs.Bodies.{line_answered}
use Rattle.assembler.specs.Passes.{said_from, labels_in}
use Rattle.assembler.proofs.WalkLaws.{Goes, least, number-left, nothing-fails, line-fails, line-inside-room, line-goes}
use Rattle.assembler.proofs.passes.check.Goals as goal
use Rattle.std.proofs.Common.{rules, tests, ◌≡◌}
use Rattle.std.specs.Prelude.{Result, Ok, Err, is_ok, MatchResult, IsErrAnd}
use mathlib.Core.Bool.{true, false≢true}
use Rattle.assembler_lines.specs.declared.bodies.LineRefusal.{LineRefusal}
use Rattle.assembler_lines.specs.Bodies.{line_refusal_number}
use Rattle.assembler.specs.declared.passes.Refused.{Refused}

-- a line that is not refused answers 0
not-refused : {A : Type 0} (r : Result A LineRefusal) → is_ok r ≡ true → 0 ≡ line_answered r
not-refused (Ok a) h = refl
not-refused (Err e) h = absurd (false≢true h)

-- a refusal handed on with how many lines are before it
handed-on : {A : Type 0} (before : ℕ) (z : Result A Refused) (x : Refused) → z ≡ Err x → (r : Result A LineRefusal) (P : LineRefusal → Refused → Type 0) → ((e : LineRefusal) (y : Refused) → P e y → y ≡ record { refusal = e; line = before }) → MatchResult r (λ a. z ≡ Ok a) (λ e. IsErrAnd z (P e)) → (line_refusal_number x.refusal ≡ line_answered r) × (x.line ≡ before)
handed-on before z x w (Ok a) P k m = absurd (false≢true (sym (ap is_ok w) ∙ ap is_ok m))
handed-on before z x w (Err e) P k m = let q = k e x (subst (λ (s : Result _ Refused). IsErrAnd s (P e)) w m) in (ap (λ (y : Refused). line_refusal_number y.refusal) q, ap (λ (y : Refused). y.line) q)

pub loop-place-init : goal.loop-place-init
unfolding labels_at
loop-place-init c =
    let text = c.args.text.now in
    let zero-labels = ap (λ (n : ℕ). labels_from [] (n % 65536) (said_from text 0)) (add-zero c.args.first) ∙ labels-reduced (said_from text 0) [] c.args.first ∙ sym c.requires.1.1 in
    record { inside = omega arith; fits = omega arith; lines = omega arith; all = zero-labels; fails = refl }

pub returns-in_err-map_err : goal.returns-in_err-map_err
returns-in_err-map_err c =
    let a = c.args in
    let l = c.loop-place in
    let text = a.text.now in
    let places = a.labels.now.places.now in
    let addresses = a.labels.now.addresses.now in
    let labels = labels_at text places addresses in
    let all = failed_from labels [] a.first a.room 1 0 (said_from text 0) in
    let on = subst (λ (p : Option ℕ). Goes text places addresses a.first a.room (l.before + 1) l.count l.bytes p all) c.in-Some.is l.invariant in
    let is = c.line_at-line.ensures in
    let number = number-left labels (labels_in text places addresses l.count) a.first l.bytes a.room _ _ _ (c.check_line.ensures _ is.body is.size l.bytes) c.behind.ensures on.fits in
    let x = c.in_err-map_err.field-0.0 in
    let h = handed-on l.before c.map_err.result x c.in_err-map_err.was c.check_line.result _ (λ e y k. search (rules, tests)) c.map_err.ensures.cases in
    let err : c.from_residual.result ≡ Err x = search (rules, tests) in
    let e = line-fails text places addresses a.first a.room c.in-Some.at (l.before + 1) l.count l.bytes all on _ is _ (h.0 ∙ number) (λ z. omega (arith, least x.refusal, z)) in
    rw err (sym (ap (λ (f : Failed). f.number) e), ap (λ (n : ℕ). n + 1) h.1 ∙ sym (ap (λ (f : Failed). f.line) e))

pub overflow_add-bytes : goal.overflow_add-bytes
overflow_add-bytes c =
    let a = c.args in
    let l = c.loop-place in
    let text = a.text.now in
    let places = a.labels.now.places.now in
    let addresses = a.labels.now.addresses.now in
    let labels = labels_at text places addresses in
    let all = failed_from labels [] a.first a.room 1 0 (said_from text 0) in
    let on = subst (λ (p : Option ℕ). Goes text places addresses a.first a.room (l.before + 1) l.count l.bytes p all) c.in-Some.is l.invariant in
    let is = c.line_at-line.ensures in
    let number = number-left labels (labels_in text places addresses l.count) a.first l.bytes a.room _ _ _ (c.check_line.ensures _ is.body is.size l.bytes) c.behind.ensures on.fits in
    omega (arith, line-inside-room text places addresses a.first a.room c.in-Some.at (l.before + 1) l.count l.bytes all on _ is _ (not-refused _ (sym c.map_err.ensures.variant ∙ ap is_ok c.in_ok-map_err.was) ∙ number) refl, c.ranges.room.fits)

pub overflow_add-before : goal.overflow_add-before
overflow_add-before c =
    let a = c.args in
    let l = c.loop-place in
    let text = a.text.now in
    let places = a.labels.now.places.now in
    let addresses = a.labels.now.addresses.now in
    let labels = labels_at text places addresses in
    let all = failed_from labels [] a.first a.room 1 0 (said_from text 0) in
    let on = subst (λ (p : Option ℕ). Goes text places addresses a.first a.room (l.before + 1) l.count l.bytes p all) c.in-Some.is l.invariant in
    omega (arith, on.lines, c.ranges)

pub loop-place-preserved : goal.loop-place-preserved
loop-place-preserved c =
    let a = c.args in
    let l = c.loop-place in
    let text = a.text.now in
    let places = a.labels.now.places.now in
    let addresses = a.labels.now.addresses.now in
    let labels = labels_at text places addresses in
    let all = failed_from labels [] a.first a.room 1 0 (said_from text 0) in
    let on = subst (λ (p : Option ℕ). Goes text places addresses a.first a.room (l.before + 1) l.count l.bytes p all) c.in-Some.is l.invariant in
    let is = c.line_at-line.ensures in
    let number = number-left labels (labels_in text places addresses l.count) a.first l.bytes a.room _ _ _ (c.check_line.ensures _ is.body is.size l.bytes) c.behind.ensures on.fits in
    rw c.line_next-place.ensures (line-goes text places addresses a.first a.room c.in-Some.at (l.before + 1) l.count l.bytes all on _ is _ (not-refused _ (sym c.map_err.ensures.variant ∙ ap is_ok c.in_ok-map_err.was) ∙ number) c.requires.0 refl _ c.and_its-count.ensures)

pub returns : goal.returns
returns c =
    let a = c.args in
    let l = c.loop-place in
    let text = a.text.now in
    let places = a.labels.now.places.now in
    let addresses = a.labels.now.addresses.now in
    let labels = labels_at text places addresses in
    let all = failed_from labels [] a.first a.room 1 0 (said_from text 0) in
    let on = subst (λ (p : Option ℕ). Goes text places addresses a.first a.room (l.before + 1) l.count l.bytes p all) c.in_default.is l.invariant in
    ap (λ (f : Failed). f.number) (sym (nothing-fails labels (labels_in text places addresses l.count) a.first a.room (l.before + 1) l.bytes) ∙ on.fails)
