-- `quiet::hop_two` meets its contract.
-- Assumes nothing.
use Rattle.std.proofs.Common.{true, not, ◌&&◌, sym, ap, ◌∙◌}
use Rattle.ground_rules.specs.Buffers.{buffers}
use Rattle.panel.proofs.QuietLaws.{hop-none, pair_is}
use Rattle.panel.proofs.quiet.hop_two.Goals as goal

pub returns-in_default : goal.returns-in_default
returns-in_default c = let a = c.args in hop-none true a.c a.source a.destination (buffers a.sys.now a.io.now)

pub returns-then-met : goal.returns-then-met
returns-then-met c = let a = c.args in hop-none true a.c a.source a.destination (buffers a.sys.now a.io.now)

pub returns-then-into_word-met : goal.returns-then-into_word-met
returns-then-into_word-met c = let a = c.args in hop-none true a.c a.source a.destination (buffers a.sys.now a.io.now)

pub returns : goal.returns
returns c =
    let a = c.args in
    let p = c.requires in
    let found = c.in-Some-Some in
    let put = c.put_two in
    pair_is a.c a.source a.destination c.onward-next.result c.onward-behind.result (buffers a.sys.now a.io.now) _ a.from_word a.into_word c.source_tag-from.result c.destination_tag.result put.result found.first found.second
    p.0 p.1 p.2 c.source_tag-from.ensures c.destination_tag.ensures c.onward-next.ensures c.onward-behind.ensures (sym c.read-first.ensures ∙ found.is-0) (sym c.read-second.ensures ∙ found.is-1)
    (sym c.met.ensures ∙ c.if-met.false) (ap (◌&&◌ (not a.into_word)) (sym c.met-2.ensures) ∙ c.if-into_word-met.false) put.ensures.0 put.ensures.1
