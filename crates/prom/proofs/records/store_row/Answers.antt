-- `prom::records::store_row` meets its contract.
-- Assumes nothing.
use Prim.Native.Nat.{ℕ, ◌+◌, ◌%◌}
use mathlib.Core.List.{List, []}
use mathlib.Core.Path.{sym, ap, ◌∙◌}
use native.Mathlib.Omega.{arith}
use Rattle.std.specs.Slice.Iter.{chunks_exact_rest}
use Rattle.ground_rules.proofs.ChoiceLaws.{both_left, both_right}
use Rattle.ground_rules.specs.Buffers.{Buffers, buffers}
use Rattle.prom_rules.specs.File.{stores_from}
use Rattle.prom_rules.specs.Load.{store_all}
use Rattle.prom_rules.specs.Records.{all_hex, hex_bytes}
use Rattle.prom_rules.proofs.DigitLaws.{all_append}
use Rattle.prom.proofs.LoopLaws.{put-more, put-last}
use Rattle.prom.proofs.records.store_row.Goals as goal

pub byte_of-requires-clause-all : goal.byte_of-requires-clause-all
byte_of-requires-clause-all c = let x = c.in-Some.pair.now in
    let rest = chunks_exact_rest c.next.new.self in
    both_left (all_hex x) (all_hex rest) (sym (all_append x rest) ∙ ap all_hex (sym c.in-Some.ensures.steps.1.0) ∙ c.loop-pair.invariant.digits)

pub loop-pair-preserved : goal.loop-pair-preserved
loop-pair-preserved c = let l = c.loop-pair in
    let x = c.in-Some.pair.now in
    let rest = chunks_exact_rest c.next.new.self in
    let s = c.in-Some.ensures.steps.1 in
    record {
      size = c.in-Some.ensures.steps.0 ∙ l.invariant.size;
      digits = both_right (all_hex x) (all_hex rest) (sym (all_append x rest) ∙ ap all_hex (sym s.0) ∙ l.invariant.digits);
      place = omega arith;
      stored =
          ap (λ (m : Buffers). store_all m (stores_from 0 c.args.segment ((l.to + 1) % 65536) (hex_bytes rest)))
          (rw c.byte_of.ensures at c.store_at.ensures)
          ∙ sym (put-more (buffers l.sys []) c.args.segment l.to x rest (s.1 ∙ l.invariant.size) l.invariant.place)
          ∙ ap (λ (d : List ℕ). store_all (buffers l.sys []) (stores_from 0 c.args.segment l.to (hex_bytes d))) (sym s.0)
          ∙ l.invariant.stored;
    }

pub returns : goal.returns
returns c = let l = c.loop-pair in
    sym (put-last (buffers l.sys []) c.args.segment l.to (chunks_exact_rest l.pair-iterator) (omega (arith, c.in-None.ensures.steps.1.0, l.invariant.size)))
    ∙ l.invariant.stored
