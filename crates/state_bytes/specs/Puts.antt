-- What a done step puts of its channel's block, as the code puts it: the fields of CC only where CC changed.
use Rattle.std.specs.Prelude.{List, ℕ, ◌+◌, eqb}
use Rattle.std.proofs.lemmas.List.Edits.{sets}
use Rattle.ground_rules.specs.Cc.{split}
use Rattle.ground_rules.specs.Choice.{pick}
use Rattle.ground_rules.specs.declared.Channel.{Channel}
use Rattle.state_rules.specs.Layout.{front_rows, fields_place, held_place, fields_bytes, held_bytes, channel_in}
use Rattle.state_rules.specs.Tables.{bytes_by}

-- what a block has before the fields of CC
unfoldable pub front_bytes : Channel → List ℕ
front_bytes c = bytes_by front_rows c

-- the bytes with a channel's block put from an offset on, its fields only where another CC stands there
unfoldable pub put_agreeing : List ℕ → ℕ → Channel → List ℕ
put_agreeing b at c =
    let front = sets b at (front_bytes c) in
    sets (pick (eqb (channel_in b at).cc c.cc) front (sets front (at + fields_place) (fields_bytes (split c.cc)))) (at + held_place) (held_bytes c)
