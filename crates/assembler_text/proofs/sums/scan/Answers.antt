-- `assembler_text::sums::scan` meets its contract. The loop's invariant: the rest, scanned from here, gives what the whole gives.
-- Assumes nothing.
use native.Mathlib.Omega.{arith}
use mathlib.Core.Path.{sym, ap, ◌∙◌}
use Rattle.assembly_rules.specs.declared.Scan.{Scan}
use Rattle.assembler_text.proofs.PlaceLaws.{scan_at, part-stands, scan-stops, scan-goes, opened-most}
use Rattle.assembler_text.proofs.sums.scan.Goals as goal

pub after-scan-requires : goal.after-scan-requires
after-scan-requires c =
    let l = c.loop-role in
    let text = c.args.text.now in
    let g = scan-goes l.scan text l.i (part-stands text l.i) _ _ (sym c.in-Some.ensures) in
    omega (arith, l.invariant.1, g.more, g.inside)

pub loop-role-smaller : goal.loop-role-smaller
loop-role-smaller c =
    let l = c.loop-role in
    let text = c.args.text.now in
    let g = scan-goes l.scan text l.i (part-stands text l.i) _ _ (sym c.in-Some.ensures) in
    omega (arith, g.more, g.inside)

pub loop-role-preserved : goal.loop-role-preserved
loop-role-preserved c =
    let l = c.loop-role in
    let text = c.args.text.now in
    let g = scan-goes l.scan text l.i (part-stands text l.i) _ _ (sym c.in-Some.ensures) in
    let e = c.after-scan.ensures in
    (ap (λ (x : Scan). scan_at x text c.in-Some.next) e ∙ sym g.same ∙ l.invariant.0, omega (arith, ap (λ (x : Scan). x.opened) e, opened-most l.scan c.in-Some.role, l.invariant.1, g.more))

pub returns : goal.returns
returns c =
    let l = c.loop-role in
    let text = c.args.text.now in
    sym (scan-stops l.scan text l.i (part-stands text l.i) (sym c.in_default.ensures)) ∙ l.invariant.0
