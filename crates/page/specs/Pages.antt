-- A page: a lent buffer of which the first bytes are text, and what more text makes of it.
use Rattle.std.specs.Prelude.{List, [], ◌∷◌, ◌++◌, ◌≡◌, ℕ, ◌+◌, ◌≤◌, ltb, length, set, drop}
use Rattle.ground_rules.specs.Choice.{pick}
use Rattle.page.specs.declared.Page.{Page}

-- the buffer's bytes, and how many of them are text
pub record PageBytes : Type 0 where
  pub bytes : List ℕ
  pub count : ℕ

abbrev pub page : List ℕ → ℕ → PageBytes
page bytes count = record { bytes = bytes; count = count }

-- what stands on a page
abbrev pub sheet : Page → PageBytes
sheet p = page p.bytes.now p.count

-- one character more; a full page stays as it is
unfoldable pub typed : PageBytes → ℕ → PageBytes
typed p b = pick (ltb p.count (length p.bytes)) (page (set p.bytes p.count b) (p.count + 1)) p

-- a text behind the text that stands, as much of it as there is room for
unfoldable pub written : PageBytes → List ℕ → PageBytes
written p [] = p
written p (b ∷ text) = written (typed p b) text

-- a buffer before and after a text was put at its start: it stands there whole, and no byte behind it has changed
pub record Printed (before after : List ℕ) (count : ℕ) (text : List ℕ) : Type 0 where
  pub bytes : after ≡ text ++ drop (length text) before
  pub size : count ≡ length text
  pub room : count ≤ length after
