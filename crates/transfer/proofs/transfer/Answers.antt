-- `transfer::transfer` meets its contract.
-- Assumes nothing.
use Rattle.std.proofs.Common.{sym, ap, ap₂, ◌∙◌, ◌≡◌, Result, Ok, Err}
use Rattle.std.proofs.lemmas.Result.{err_from_is_err_and}
use Rattle.ground_rules.specs.Buffers.{Buffers, buffers}
use Rattle.ground_rules.specs.declared.Channel.{Channel}
use Rattle.ground_rules.specs.declared.Refusal.{Refusal}
use Rattle.ground_rules.specs.Refusals.{number_of}
use Rattle.transfer.specs.Moves.{left_by_move, moved_count, landed}
use Rattle.transfer.specs.declared.Moved.{Moved}
use Rattle.transfer_rules.specs.Steps.{transfer_of, transfer_count, transferred}
use Rattle.transfer.proofs.transfer.Goals as goal

-- what a part's result says of the channel that was given, by its variant
module _ (x c : Channel) (r : Result Moved Refusal) (m m' : Buffers) (ex : x ≡ c) (left : left_by_move x r m' ≡ transfer_of x m) (count : moved_count r ≡ transfer_count x m) where
  refused : (e : Refusal) → r ≡ Err e → (transferred (number_of e) c m' ≡ transfer_of c m) × (0 ≡ transfer_count c m)
  refused e h = (
    ap (λ (y : Channel). transferred (number_of e) y m') (sym ex) ∙ sym (ap (λ (v : Result Moved Refusal). left_by_move x v m') h) ∙ left ∙ ap (λ (y : Channel). transfer_of y m) ex,
    sym (ap moved_count h) ∙ count ∙ ap (λ (y : Channel). transfer_count y m) ex,
  )

  done : (d : Moved) → r ≡ Ok d → (transferred 0 (landed c d.then) m' ≡ transfer_of c m) × (d.count ≡ transfer_count c m)
  done d h = (
    ap (λ (y : Channel). transferred 0 (landed y d.then) m') (sym ex) ∙ sym (ap (λ (v : Result Moved Refusal). left_by_move x v m') h) ∙ left ∙ ap (λ (y : Channel). transfer_of y m) ex,
    sym (ap moved_count h) ∙ count ∙ ap (λ (y : Channel). transfer_count y m) ex,
  )

pub returns-in_err-moved : goal.returns-in_err-moved
returns-in_err-moved c =
    let a = c.args in
    let p = err_from_is_err_and c.from_residual.result c.from_residual.ensures.1 in
    let both = refused c.of-moving.result.channel a.c c.part.result (buffers a.sys.now a.io.now) _ c.of-moving.ensures c.part.ensures.left c.part.ensures.count _ c.in_err-moved.was in
    rw (p.1, p.2) (record { left = both.0; count = both.1 })

pub returns : goal.returns
returns c =
    let a = c.args in
    let both = done c.of-moving.result.channel a.c c.part.result (buffers a.sys.now a.io.now) _ c.of-moving.ensures c.part.ensures.left c.part.ensures.count _ c.in_ok-moved.was in
    rw (c.left.ensures, c.of-moving.ensures) (record { left = both.0; count = both.1 })
