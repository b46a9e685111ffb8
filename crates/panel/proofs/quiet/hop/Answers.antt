-- `quiet::hop` meets its contract.
-- Assumes nothing.
use Rattle.std.proofs.Common.{false, sym, ◌∙◌}
use Rattle.ground_rules.specs.Buffers.{buffers}
use Rattle.panel.proofs.QuietLaws.{hop-is, hop-none}
use Rattle.panel.proofs.quiet.hop.Goals as goal

pub returns-in_default : goal.returns-in_default
returns-in_default c = let a = c.args in hop-none false a.c a.source a.destination (buffers a.sys.now a.io.now)

pub returns-then-met : goal.returns-then-met
returns-then-met c = let a = c.args in hop-none false a.c a.source a.destination (buffers a.sys.now a.io.now)

pub returns : goal.returns
returns c =
    let a = c.args in
    let put = c.put_one in
    hop-is a.c a.source a.destination (buffers a.sys.now a.io.now) _ c.in-Some.byte c.destination_tag.result put.result c.requires (sym c.through.ensures ∙ c.in-Some.is) (sym c.met.ensures ∙ c.if-met.false) c.destination_tag.ensures put.ensures.0 put.ensures.1
