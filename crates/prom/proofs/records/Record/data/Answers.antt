-- `prom::records::Record::data` meets its contract.
-- Assumes nothing.
use Prim.Native.Nat.{◌-◌}
use lib.ListN.{length, drop}
use mathlib.Core.Path.{◌∙◌}
use native.Mathlib.Omega.{arith}
use lib.ListN.{length-take, length-drop}
use Rattle.prom.proofs.RecordLaws.{record_length, size_below, data-digits, data-all}
use Rattle.prom.proofs.records.Record.data.Goals as goal

pub overflow_sub-result : goal.overflow_sub-result
overflow_sub-result c = omega (arith, record_length c.args.self.now.digits.now c.args.self.now.good)

pub slice_bounds-result-count : goal.slice_bounds-result-count
slice_bounds-result-count c = omega (arith, record_length c.args.self.now.digits.now c.args.self.now.good)

pub slice_bounds-result-start : goal.slice_bounds-result-start
slice_bounds-result-start c = omega (arith, record_length c.args.self.now.digits.now c.args.self.now.good)

pub returns-clause-value : goal.returns-clause-value
returns-clause-value c = let ds = c.args.self.now.digits.now in
    data-digits ds c.args.self.now.good _ (omega (arith, record_length ds c.args.self.now.good))

pub returns-clause-all : goal.returns-clause-all
returns-clause-all c = let ds = c.args.self.now.digits.now in
    data-all ds c.args.self.now.good _ (omega (arith, record_length ds c.args.self.now.good))

pub returns-clause-count : goal.returns-clause-count
returns-clause-count c = let ds = c.args.self.now.digits.now in
    length-take (length ds - 2 - 8) (drop 8 ds) ∙ omega (arith, length-drop 8 ds, record_length ds c.args.self.now.good)

pub returns-clause-few : goal.returns-clause-few
returns-clause-few c = let ds = c.args.self.now.digits.now in
    omega (arith, length-take (length ds - 2 - 8) (drop 8 ds), length-drop 8 ds, record_length ds c.args.self.now.good, size_below ds c.args.self.now.good)
