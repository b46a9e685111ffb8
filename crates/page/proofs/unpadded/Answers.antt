-- `page::unpadded` meets its contract.
-- Assumes nothing.
use Rattle.std.proofs.Common.{◌∙◌, drop, arith}
use lib.ListN.{length-drop}
use lib.Seq.{take_all}
use Rattle.page.proofs.NumberLaws.{unpadded_from}
use Rattle.page.proofs.unpadded.Goals as goal

pub returns : goal.returns
returns c =
    let digits = c.args.digits.now in
    let from = c.unwrap_or.result in
    let e = unpadded_from digits c.told-digits in
    take_all _ (drop from digits) (omega (arith, length-drop from digits)) ∙ rw (c.unwrap_or.ensures, c.first_nonzero.ensures) e
