-- `touches::transfers::ahead` meets its contract.
-- Assumes nothing.
use Rattle.ground_rules.specs.Buffers.{buffers}
use Rattle.ground_rules.specs.Values.{onward}
use Rattle.touches.specs.Spots.{moving_of}
use Rattle.transfer.specs.Setups.{setup_of}
use Rattle.transfer_rules.specs.Reads.{fetched, entry_of, delivered}
use mathlib.Core.Path.{◌≡◌}
use Rattle.touches.proofs.transfers.ahead.Goals as goal

pub returns : goal.returns
unfolding moving_of setup_of fetched entry_of delivered onward
returns c =
    let a = c.args in
    let m = buffers a.sys.now a.io.now in
    let stored : c.delivered-stored.result ≡ delivered a.c m = simp (c.delivered-stored.ensures, c.onward-entry.ensures, c.byte-byte.ensures, c.plan-p.ensures) in
    simp (c.second-2.ensures, c.second.ensures, c.due.ensures m stored, c.refused.ensures, c.onward-entry.ensures, c.byte-byte.ensures, c.plan-p.ensures)
