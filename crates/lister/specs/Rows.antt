-- A row as the code holds it: a line, and how many bytes it lists; and a line that is being written.
use Rattle.std.specs.Prelude.{◌≡◌, List, ℕ, ◌≤◌, length}
use Rattle.std.proofs.Math.Seq.{paste}
use Rattle.listing_rules.specs.Items.{item_of, count_of}
use Rattle.listing_rules.specs.Listings.{line_at}
use Rattle.notation.specs.Writing.{text_in}
use Rattle.lister.specs.declared.listings.ListedRow.{ListedRow}

-- a row is the line that some bytes begin with
pub record Shown (row : ListedRow) (address : ℕ) (bytes : List ℕ) : Type 0 where
  pub chars : text_in row.line ≡ (line_at address bytes).chars
  pub size : row.line.len ≡ length (text_in row.line)
  pub short : row.line.len ≤ 28
  pub count : row.count ≡ count_of (item_of bytes)

-- the writing of a line goes on: where its first `i` characters stood from `at` on, its first `n` do
abbrev pub Onward : List ℕ → List ℕ → List ℕ → ℕ → ℕ → ℕ → Type 0
Onward before after chars at i n = (t : List ℕ) → before ≡ paste t at chars i → length t ≡ length before → after ≡ paste t at chars n
