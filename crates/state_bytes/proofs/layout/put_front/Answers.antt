-- `state_bytes::layout::put_front` meets its contract.
-- Assumes nothing.
use mathlib.Core.List.{List}
use mathlib.Core.Path.{◌∙◌}
use mir.Val.{Val}
use denote.Builtin.{u8}
use denote.Shadow.{shadow}
use Rattle.std.proofs.Common.{ℕ, Option, None, Some}
use Rattle.std.specs.contracts.option.Option.{the_field, the_type}
use Rattle.ground_rules.proofs.HoldingLaws.{HeldFits}
use native.Mathlib.Omega.{arith}
use Rattle.state_rules.proofs.HeldLaws.{held_small}
use Rattle.state_rules.proofs.GroupLaws.{front-put}
use Rattle.state_bytes.specs.Puts.{front_bytes}
use Rattle.state_bytes.proofs.layout.put_front.Goals as goal

-- what is held is a byte
good-fits : (h : Option ℕ) (vs : List Val) → shadow ((the_field u8).row.own_val ((the_type u8).to h) vs) → HeldFits h
good-fits None vs g = tt
good-fits (Some byte) vs g = omega (arith, g.1.1.1.1.0)

pub returns : goal.returns
unfolding front_bytes
returns c =
    let g = c.well_formed.1.1.0 in record { fits = record { ga = omega (arith, g.1.1.0.1.1.0); gb = omega (arith, g.1.1.1.0.1.1.0); gc = omega (arith, g.1.1.1.1.0.1.1.0); tp = omega (arith, g.1.1.1.1.1.0.1.1.0); pp = omega (arith, g.1.1.1.1.1.1.0); bc = omega (arith, g.1.1.1.1.1.1.1.0); ix = omega (arith, g.1.1.1.1.1.1.1.1.0); cc = omega (arith, g.1.1.1.1.1.1.1.1.1.0); mc = omega (arith, g.1.1.1.1.1.1.1.1.1.1.0); psw = omega (arith, g.1.1.1.1.1.1.1.1.1.1.1.1.0); held = held_small c.args.c.held (good-fits c.args.c.held _ g.1.1.1.1.1.1.1.1.1.1.1.0) }; put = c.put_marks.ensures ∙ rw (c.put_numbers.ensures, c.put_pointers.ensures) (front-put _ _ _) }
