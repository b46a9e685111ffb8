-- `prom::records::store_at` meets its contract.
-- Assumes nothing.
use Prim.Native.Nat.{ℕ, ◌%◌}
use borrow.Author.Rules.{rules}
use lib.Seq.{set_out}
use mathlib.Core.List.{List, []}
use mathlib.Core.Path.{sym, ap}
use Rattle.ground_rules.specs.Buffers.{buffers, store_byte, index_of, limit_of}
use Rattle.prom.proofs.records.store_at.Goals as goal

pub returns-then-at-sys : goal.returns-then-at-sys
unfolding store_byte index_of limit_of
returns-then-at-sys c = search rules

pub returns-else-at-sys : goal.returns-else-at-sys
unfolding store_byte index_of limit_of
returns-else-at-sys c = let a = c.args in
    ap (λ (l : List ℕ). buffers l []) (sym (set_out a.sys.now (a.address % 1048576) a.v c.if-at-sys.false))
