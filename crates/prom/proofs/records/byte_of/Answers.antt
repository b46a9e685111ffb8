-- `prom::records::byte_of` meets its contract.
-- Assumes nothing.
use Prim.Native.Nat.{ℕ, ◌*◌}
use lib.ListN.{get_or}
use mathlib.Core.Path.{◌≡◌, refl, sym, ◌∙◌}
use Rattle.std.proofs.Common.{rules}
use Rattle.std.specs.Prelude.{Option, Some}
use Rattle.prom_rules.specs.Records.{hex_bytes}
use Rattle.prom.proofs.DigitLaws.{byte-of}
use Rattle.prom.proofs.records.byte_of.Goals as goal

pub unwrap-requires : goal.unwrap-requires
unwrap-requires c = let e = c.byte_at.ensures ∙ byte-of c.args.digits.now c.args.at (c.args.at * 2) c.requires.all refl c.requires.inside in
    rw e (search rules)

pub returns : goal.returns
returns c = let e : ◌≡◌ {A = Option ℕ} (Some c.unwrap.result) (Some (get_or (hex_bytes c.args.digits.now) c.args.at 0)) =
    sym c.unwrap.ensures ∙ c.byte_at.ensures ∙ byte-of c.args.digits.now c.args.at (c.args.at * 2) c.requires.all refl c.requires.inside in
    cc
