-- What a reader hands out, and where it then stands.
use Rattle.std.specs.Prelude.{◌≡◌, drop, Option, Some, None}
use Rattle.listing_rules.specs.Items.{item_of, behind_of}
use Rattle.listing_rules.specs.declared.Item.{Item}
use Rattle.listing_rules.specs.declared.Item.TheVariants.{Whole, Byte, End}
use Rattle.lister.specs.declared.reading.Reader.{Reader}

-- what stands at a place, as it is handed out: nothing at the end
abbrev pub handed : Item → Option Item
handed (Whole shape to count) = Some (Whole shape to count)
handed Byte = Some Byte
handed End = None

-- a reader hands out what stands at its place, and then stands behind it
pub record HandsOut (before : Reader) (given : Option Item) (after : Reader) : Type 0 where
  pub item : given ≡ handed (item_of (drop before.at before.code.now))
  pub code : after.code ≡ before.code
  pub place : after.at ≡ behind_of before.code.now before.at
