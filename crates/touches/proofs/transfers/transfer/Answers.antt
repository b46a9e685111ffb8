-- `touches::transfers::transfer` meets its contract.
-- Assumes nothing.
use Rattle.std.proofs.Common.{rules}
use Rattle.ground_rules.specs.Buffers.{Buffers, buffers}
use Rattle.instruction_rules.specs.Operands.{bytes_at}
use Rattle.transfer_rules.specs.Steps.{transfer_number}
use Rattle.touch_rules.specs.Touches.{told_by_transfer}
use Rattle.touches.proofs.CallLaws.{transfer-bad, transfer-done}
use Rattle.touches.specs.Spots.{moving_of}
use Rattle.touches.specs.Tales.{Tale, untold, told_on, all_as, foreseen, foreseen_at, foretold, ended_at}
use Rattle.touches.specs.declared.transfers.MovePlaces.{MovePlaces}
use mathlib.Core.Bool.{true, false}
use mathlib.Core.List.{◌++◌}
use mathlib.Core.Path.{◌≡◌, sym, ap, ap₂, ◌∙◌}
use Rattle.touches.proofs.transfers.transfer.Goals as goal

pub returns-then-m : goal.returns-then-m
unfolding moving_of
returns-then-m c =
    let a = c.args in
    let m = buffers a.sys.now a.io.now in
    let whole : foreseen c.seen.result c.new-teller.result.places.now ≡ foretold (transfer_number a.c m) (told_by_transfer a.c m) a.places.now
    = rw c.seen.ensures (ap (foreseen_at 5) c.new-teller.ensures.told ∙ transfer-bad a.c m a.places.now (sym (ap (λ (v : MovePlaces). v.bad) c.ahead-m.ensures) ∙ c.if-m.true)) in
    search rules

pub returns : goal.returns
unfolding moving_of
returns c =
    let a = c.args in
    let m = buffers a.sys.now a.io.now in
    let x = untold a.places.now in
    let v = c.ahead-m.result in
    let whole : foreseen c.ended.result c.moves_told.new.teller.places.now ≡ foretold (transfer_number a.c m) (told_by_transfer a.c m) a.places.now
    = c.ended.ensures
    ∙ ap ended_at
    (c.moves_told.ensures.told
    ∙ ap₂ (λ (n : Buffers) (y : Tale). told_on n (all_as true (bytes_at v.into v.spots.into ++ bytes_at v.behind v.spots.behind))
    (told_on n (all_as false (bytes_at v.from v.spots.first ++ (bytes_at v.next v.spots.second ++ bytes_at v.entry v.spots.entry))) y)) c.new-teller.ensures.lent c.new-teller.ensures.told
    ∙ ap (λ (v : MovePlaces). told_on m (all_as true (bytes_at v.into v.spots.into ++ bytes_at v.behind v.spots.behind))
    (told_on m (all_as false (bytes_at v.from v.spots.first ++ (bytes_at v.next v.spots.second ++ bytes_at v.entry v.spots.entry))) x)) c.ahead-m.ensures)
    ∙ transfer-done a.c m a.places.now (sym (ap (λ (v : MovePlaces). v.bad) c.ahead-m.ensures) ∙ c.if-m.false) in
    search rules
