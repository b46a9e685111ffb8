-- `touches::instructions::instruction` meets its contract.
-- Assumes nothing.
use mathlib.Core.Bool.{false}
use mathlib.Core.Path.{◌≡◌, refl, sym, ap, ◌∙◌}
use native.Mathlib.Omega.{arith}
use Rattle.ground_rules.specs.Buffers.{buffers}
use Rattle.ground_rules.specs.Values.{onward}
use Rattle.instruction_rules.proofs.LengthRule.{pair-rule}
use Rattle.instruction_rules.specs.Execute.{decoded_at}
use Rattle.instruction_rules.specs.Operands.{byte_here, bytes_at}
use Rattle.instruction_rules.specs.Reading.{decoded_number}
use Rattle.instruction_rules.specs.declared.Unread.{Unread}
use Rattle.instruction_rules.specs.declared.Unread.TheVariants.{NoInstruction, ControlUsed}
use Rattle.instruction_rules.specs.declared.Looked.{Looked}
use Rattle.touches.specs.Accesses.{behind_pair, reads_behind}
use Rattle.touches.specs.Tales.{Tale, tale, untold, told_on, all_as, foreseen, foreseen_at, foretold, walked}
use Rattle.instruction_rules.specs.Execute.{execute_number}
use Rattle.touch_rules.specs.Touches.{told_by_instruction}
use Rattle.touches.proofs.TaleLaws.{told-from}
use Rattle.std.proofs.Common.{rules, Ok, Err, eqb}
use Rattle.touches.proofs.InstructionLaws.{pair-beyond, pair-judged, pair-shaped}
use Rattle.touches.proofs.instructions.instruction.Goals as goal

-- what is no instruction has a number other than 0
judged : (unread : Unread) → eqb (decoded_number (Err unread)) 0 ≡ false
judged NoInstruction = refl
judged ControlUsed = refl

pub returns-then-teller : goal.returns-then-teller
returns-then-teller c =
    let a = c.args in
    let m = buffers a.sys.now a.io.now in
    let told : tale c.span.new.self ≡ told_on m (all_as false (bytes_at a.c.tp 2)) (untold a.places.now)
    = told-from m _ _ c.new-teller.result c.span.new.self c.new-teller.ensures.lent c.new-teller.ensures.told c.span.ensures.told in
    let whole : foreseen c.seen.result c.span.new.self.places.now ≡ foretold (execute_number m a.c a.busy) (told_by_instruction m a.c a.busy) a.places.now
    = rw c.seen.ensures (ap (foreseen_at 2) told ∙ pair-beyond m a.c a.busy a.places.now (sym (ap (λ (y : Tale). y.beyond) told) ∙ c.if-teller.true)) in
    search rules

pub shaped-requires : goal.shaped-requires
unfolding decoded_at
shaped-requires c =
    let a = c.args in
    let m = buffers a.sys.now a.io.now in
    let what : c.look-looked.result.decoded ≡ decoded_at m a.c.tp = ap (λ (l : Looked). l.decoded) c.look-looked.ensures in (
      c.if-teller.false,
      ap (λ (l : Looked). l.length) c.look-looked.ensures ∙ sym (pair-rule (byte_here m a.c.tp) (byte_here m (onward a.c.tp 1)) _ (sym what ∙ c.in-Ok.is)),
      omega (arith, c.span.ensures.few, ap (λ (y : Tale). y.count) c.new-teller.ensures.told),
      c.span.ensures.lent ∙ c.new-teller.ensures.lent,
    )

pub returns-in-Ok : goal.returns-in-Ok
returns-in-Ok c =
    let a = c.args in
    let m = buffers a.sys.now a.io.now in
    let told : tale c.span.new.self ≡ told_on m (all_as false (bytes_at a.c.tp 2)) (untold a.places.now)
    = told-from m _ _ c.new-teller.result c.span.new.self c.new-teller.ensures.lent c.new-teller.ensures.told c.span.ensures.told in
    let what : decoded_at m a.c.tp ≡ c.look-looked.result.decoded = sym (ap (λ (l : Looked). l.decoded) c.look-looked.ensures) in
    let whole : foreseen c.shaped.result c.shaped.new.teller.places.now ≡ foretold (execute_number m a.c a.busy) (told_by_instruction m a.c a.busy) a.places.now
    = c.shaped.ensures.seen
    ∙ ap (walked m (behind_pair (Ok _) m a.c a.busy) (reads_behind (Ok _) m a.c a.busy)) told
    ∙ pair-shaped m a.c a.busy a.places.now (Ok _) (what ∙ c.in-Ok.is) refl (sym (ap (λ (y : Tale). y.beyond) told) ∙ c.if-teller.false) in
    search rules

pub returns-in-Err : goal.returns-in-Err
returns-in-Err c =
    let a = c.args in
    let m = buffers a.sys.now a.io.now in
    let told : tale c.span.new.self ≡ told_on m (all_as false (bytes_at a.c.tp 2)) (untold a.places.now)
    = told-from m _ _ c.new-teller.result c.span.new.self c.new-teller.ensures.lent c.new-teller.ensures.told c.span.ensures.told in
    let what : decoded_at m a.c.tp ≡ c.look-looked.result.decoded = sym (ap (λ (l : Looked). l.decoded) c.look-looked.ensures) in
    let unread = c.in-Err.unread in
    let whole : foreseen c.seen-in-Err.result c.span.new.self.places.now ≡ foretold (execute_number m a.c a.busy) (told_by_instruction m a.c a.busy) a.places.now
    = rw (c.seen-in-Err.ensures, c.number.ensures)
    (ap (foreseen_at (decoded_number (Err unread))) told
    ∙ pair-judged m a.c a.busy a.places.now (Err unread) (what ∙ c.in-Err.is) (judged unread) (sym (ap (λ (y : Tale). y.beyond) told) ∙ c.if-teller.false)) in
    search rules
