-- `prom::loads::load` meets its contract.
-- Assumes nothing.
use Prim.Native.Nat.{ℕ}
use mathlib.Core.List.{[]}
use mathlib.Core.Path.{sym, ap, ◌∙◌}
use Rattle.ground_rules.specs.Buffers.{Buffers, buffers}
use Rattle.prom_rules.specs.Load.{loading, store_all, text_file}
use Rattle.prom_rules.proofs.LoadLaws.{load-long, load-done}
use Rattle.prom.proofs.CheckLaws.{handed-loaded}
use Rattle.prom.proofs.PlaceLaws.{judged-good, load-refused}
use Rattle.prom.proofs.loads.load.Goals as goal

pub returns-then-not-within_limits : goal.returns-then-not-within_limits
returns-then-not-within_limits c = let a = c.args in
    sym (load-long a.text.now (buffers a.sys.now []) (sym c.within_limits.ensures ∙ c.if-not-within_limits.true))

pub returns-in_err-start : goal.returns-in_err-start
returns-in_err-start c = let a = c.args in
    let m = buffers a.sys.now [] in
    let w = c.in_err-start.field-0.0 in
    handed-loaded c.from_residual.result w m c.from_residual.ensures.1
    ∙ load-refused a.text.now m w.why w.line (sym c.within_limits.ensures ∙ c.if-not-within_limits.false) c.in_err-start.ensures

pub store-requires : goal.store-requires
store-requires c = let a = c.args in
    (judged-good (buffers a.sys.now []) (text_file a.text.now) c.in_ok-start.start c.in_ok-start.ensures).0

pub returns : goal.returns
returns c = let a = c.args in
    let m = buffers a.sys.now [] in
    let g = judged-good m (text_file a.text.now) c.in_ok-start.start c.in_ok-start.ensures in
    ap (λ (n : Buffers). loading 0 c.in_ok-start.start 0 n) c.store.ensures
    ∙ ap (λ (s : ℕ). loading 0 s 0 (store_all m (text_file a.text.now).stores)) g.2
    ∙ sym (load-done a.text.now m (sym c.within_limits.ensures ∙ c.if-not-within_limits.false) g.0 g.1)
