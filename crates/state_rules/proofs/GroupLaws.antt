-- The groups of parts that the code puts one behind another are the whole: the fields of CC, what a block has before them, and the block.
-- Assumes nothing.
use Prim.Native.Nat.{ℕ, ◌+◌}
use lib.Seq.{sets}
use mathlib.Core.List.{List, ◌++◌}
use mathlib.Core.Path.{◌≡◌, refl, ap, ◌∙◌}
use Rattle.ground_rules.specs.declared.Channel.{Channel}
use Rattle.ground_rules.specs.declared.Fields.{Fields}
use Rattle.state_rules.specs.Fields.{little_end}
use Rattle.state_rules.specs.Layout.{sides_rows, pointers_rows, numbers_rows, front_rows, fields_place, held_place, pointer_bytes, sides_bytes, ends_bytes, fields_bytes, pointers_bytes, numbers_bytes, marks_bytes, held_bytes, channel_bytes}
use Rattle.state_rules.specs.Tables.{width_by, bytes_by}
use Rattle.state_rules.proofs.SetsLaws.{sets_then}

pub fields-put : (f : Fields) (b : List ℕ) (at : ℕ) → sets (sets b at (sides_bytes f)) (at + width_by sides_rows) (ends_bytes f) ≡ sets b at (fields_bytes f)
unfolding sides_bytes ends_bytes fields_bytes
fields-put f b at = sets_then (sides_bytes f) (ends_bytes f) b at (at + width_by sides_rows) refl

pub front-put : (c : Channel) (b : List ℕ) (at : ℕ)
    → sets (sets (sets b at (pointers_bytes c)) (at + width_by pointers_rows) (numbers_bytes c)) (at + width_by (pointers_rows ++ numbers_rows)) (marks_bytes c)
    ≡ sets b at (bytes_by front_rows c)
unfolding pointers_bytes numbers_bytes marks_bytes pointer_bytes little_end
front-put c b at =
    let marks = at + width_by (pointers_rows ++ numbers_rows) in
    ap (λ (l : List ℕ). sets l marks (marks_bytes c)) (sets_then (pointers_bytes c) (numbers_bytes c) b at (at + width_by pointers_rows) refl)
    ∙ sets_then (pointers_bytes c ++ numbers_bytes c) (marks_bytes c) b at marks refl

pub channel-put : (c : Channel) (b : List ℕ) (at : ℕ)
    → sets (sets (sets b at (bytes_by front_rows c)) (at + fields_place) (fields_bytes c.fields)) (at + held_place) (held_bytes c) ≡ sets b at (channel_bytes c)
unfolding fields_bytes held_bytes channel_bytes pointer_bytes little_end
channel-put c b at =
    let front = bytes_by front_rows c in
    ap (λ (l : List ℕ). sets l (at + held_place) (held_bytes c)) (sets_then front (fields_bytes c.fields) b at (at + fields_place) refl)
    ∙ sets_then (front ++ fields_bytes c.fields) (held_bytes c) b at (at + held_place) refl
