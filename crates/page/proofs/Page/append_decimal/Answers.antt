-- `Page::append_decimal` meets its contract.
-- Assumes nothing.
use Rattle.page.specs.Numbers.{ten_digits, decimal}
use mathlib.Core.Path.{ap, ◌∙◌}
use Rattle.page.specs.Pages.{sheet, written}
use Rattle.page.proofs.Page.append_decimal.Goals as goal

pub returns-clause-put : goal.returns-clause-put
unfolding decimal ten_digits
returns-clause-put c = c.append.ensures.put ∙ ap (written (sheet c.args.self.now)) c.unpadded.ensures
