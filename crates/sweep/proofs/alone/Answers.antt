-- `sweep::alone` meets its contract: by whether some side is a word side.
-- Assumes nothing.
use mathlib.Core.Bool.{Bool, not, ◌&&◌, ◌||◌}
use mathlib.Core.Path.{◌≡◌, sym, ap, ap₂, ◌∙◌}
use native.Mathlib.Omega.{arith}
use Rattle.ground_rules.specs.Bits.{bit_of}
use Rattle.ground_rules.specs.Psw.{source_wide, destination_wide}
use Rattle.ground_rules.specs.declared.Channel.{Channel}
use Rattle.transfer_rules.specs.Sides.{source, destination, word_side}
use Rattle.block_rules.specs.Premises.{from, into}
use Rattle.block_rules.specs.Totals.{alone}
use Rattle.sweep.specs.declared.Remainder.{Remainder}
use Rattle.sweep.proofs.alone.Goals as goal

-- the test of both sides, by what the calls answered
sides : (x y u v : Bool) (a : Channel) → x ≡ source_wide a.psw → u ≡ bit_of (from a).address 0 → y ≡ destination_wide a.psw → v ≡ bit_of (into a).address 0
    → word_side (source a) || word_side (destination a) ≡ (x && not u) || (y && not v)
unfolding source destination word_side
sides x y u v a ex eu ey ev = sym (ap₂ ◌||◌ (ap₂ (λ (b d : Bool). b && not d) ex eu) (ap₂ (λ (b d : Bool). b && not d) ey ev))

pub returns-then-from-into : goal.returns-then-from-into
unfolding alone
returns-then-from-into c =
    let a = c.args.c in
    let rest = c.remainder_of-rest.ensures.0 in (
      rw (
        sides c.source_wide.result c.destination_wide.result c.bit.result c.bit-2.result a
            c.source_wide.ensures (c.bit.ensures ∙ ap (λ (r : Remainder). bit_of r.from.address 0) rest)
            c.destination_wide.ensures (c.bit-2.ensures ∙ ap (λ (r : Remainder). bit_of r.into.address 0) rest),
        c.if-from-into.true,
      ),
      omega arith,
    )

pub returns-else-from-into : goal.returns-else-from-into
unfolding alone
returns-else-from-into c =
    let a = c.args.c in
    let rest = c.remainder_of-rest.ensures.0 in (
      rw (
        sides c.source_wide.result c.destination_wide.result c.bit.result c.bit-2.result a
            c.source_wide.ensures (c.bit.ensures ∙ ap (λ (r : Remainder). bit_of r.from.address 0) rest)
            c.destination_wide.ensures (c.bit-2.ensures ∙ ap (λ (r : Remainder). bit_of r.into.address 0) rest),
        c.if-from-into.false,
      ),
      omega arith,
    )
