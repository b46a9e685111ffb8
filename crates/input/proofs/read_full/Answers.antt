-- A read puts what it took behind what stands, and one that failed took nothing.
use Rattle.std.proofs.Common.{◌-◌, ap, subst, sym, ◌∙◌, rules, length, take, le_refl}
use Rattle.std.proofs.lemmas.Slice.{take-put_mid_below}
use Rattle.std.proofs.KnownBytes.{Consumes-trans, Consumes-kept}
use Rattle.std.specs.Io.KnownBytes.{Consumes}
use borrow.Rule.Slice.PartMut.{put_mid}
use Rattle.input.proofs.Filled.{one_behind_other}
use Rattle.input.proofs.read_full.Goals as goal
use Rattle.input.proofs.read_full.Goals.{in-Ok, in-Err+else-ne}

pub loop-preserved : goal.loop-preserved
loop-preserved g c =
    let at = c.loop.at in
    let inside = c.loop.invariant.inside in
    elim c.match-read.branch [
      | in-Ok w ↦ record {
        kept = search rules;
        inside = search rules;
        read = subst (Consumes _ _) (sym (ap (λ n. take n (put_mid at (length c.loop.buffer - at) c.loop.buffer c.read.new.buf)) w.at-is ∙ one_behind_other at _ w.in-Ok.n c.loop.buffer c.read.new.buf inside w.in-Ok.ensures.bound.0)) (Consumes-trans _ _ _ _ _ c.loop.invariant.read w.in-Ok.ensures.bytes.0);
      }
      | in-Err+else-ne w ↦ record {
        kept = search rules;
        inside = search rules;
        read = subst (Consumes _ _) (sym (ap (λ n. take n (put_mid at (length c.loop.buffer - at) c.loop.buffer c.read.new.buf)) w.at-is ∙ take-put_mid_below _ _ _ _ _ (le_refl _) inside)) (Consumes-kept _ _ _ _ c.loop.invariant.read w.in-Err.ensures.bytes);
      }
    ]
