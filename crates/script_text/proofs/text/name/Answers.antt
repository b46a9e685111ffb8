-- `script_text::text::name` meets its contract.
-- Assumes nothing.
use Rattle.std.proofs.Common.{◌≡◌, ◌+◌, ◌*◌, ◌<◌, ◌∙◌, ℕ, sym, ap, length, drop, get_or, arith}
use borrow.Author.Tests.{lt-leb, le-leb}
use Rattle.script_text.specs.Names.{packed, name_of}
use Rattle.script_text.proofs.TextLaws.{packed-end, packed-next, name-fits, name-grows}
use Rattle.script_text.proofs.text.name.Goals as goal

pub returns-then-w-gt6 : goal.returns-then-w-gt6
unfolding name_of
returns-then-w-gt6 c = simp (lt-leb _ _ c.if-w-gt6.true)

pub overflow_mul-name : goal.overflow_mul-name
overflow_mul-name c = let l = c.loop-byte in omega (arith, name-fits l.name l.byte-index l.invariant.fits (omega arith))

pub loop-byte-preserved : goal.loop-byte-preserved
loop-byte-preserved c =
    let l = c.loop-byte in
    let w = c.args.w.now in
    let b = get_or w l.byte-index 0 in
    let byte : b < 256 = omega (arith, c.type_inv.w l.byte-index) in
    let e : c.from.result ≡ b = c.from.ensures in
    record {
      fits = rw e (name-grows l.name l.byte-index b l.invariant.fits byte);
      whole = ap (λ (x : ℕ). packed (l.name * 256 + x) (drop (l.byte-index + 1) w)) e ∙ sym (packed-next l.name w l.byte-index (omega arith)) ∙ l.invariant.whole;
    }

pub returns : goal.returns
unfolding name_of
returns c =
    let l = c.loop-byte in
    let w = c.args.w.now in
    sym (packed-end l.name w l.byte-index (omega arith)) ∙ l.invariant.whole ∙ rw (le-leb (length w) 6 (omega arith))
