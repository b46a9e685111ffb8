use Rattle.std.specs.Io.KnownBytes.{Appends}
use Rattle.ground_rules.specs.Refusals.{answered}
use Rattle.trace_text.specs.Trace.{trace_of, traced_run}
use Rattle.trace.proofs.Image.{first_text, first_number}
use Rattle.trace.proofs.traced.Goals as goal

pub returns-clause-text : goal.returns-clause-text
returns-clause-text g c = first_text c.show.result (g.R.Read.remaining c.args.input) (λ bytes. Appends (g.W.Write.contents c.args.out.now) (g.W.Write.contents c.show.new.out) (trace_of bytes)) _ _ _ c.read_full.auto.buffer c.in_ok-count.ensures.bytes c.show.ensures.text

pub returns-clause-number : goal.returns-clause-number
returns-clause-number g c = first_number c.show.result (g.R.Read.remaining c.args.input) answered (λ bytes. (traced_run bytes).number) _ _ _ c.read_full.auto.buffer c.in_ok-count.ensures.bytes c.show.ensures.number
