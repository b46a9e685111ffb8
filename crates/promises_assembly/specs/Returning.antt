-- What is promised of assembling a listing: the listed bytes come back.
use mathlib.Core.{Path.◌≡◌, List.List, List.[], List.◌∷◌}
use Rattle.std.specs.Prelude.{ℕ, ◌≤◌, length, take}
use Rattle.listing_rules.specs.Listings.{lines_of, all_chars, listing_of}
use Rattle.listing_rules.proofs.SpellingLaws.{Bytes}
use Rattle.assembly_rules.specs.{Text.tokens_of, Text.lines_in, Assembly.assembled, Assembly.assemble_of}
use Rattle.assembly_rules.proofs.WritingLaws.{Writes}

-- lines whose tokens are written anew: in small letters or capitals, with blanks between tokens, with a comment behind them
pub data Respelled : List (List ℕ) → List (List ℕ) → Type 0 where
  finished : Respelled [] []
  another : {line other : List ℕ} {lines others : List (List ℕ)} → Writes (tokens_of line) other → Respelled lines others → Respelled (line ∷ lines) (other ∷ others)

pub record Returns : Type 0 where
  -- every listing, from its first address and into any room that is large enough
  pub whole : (x : List ℕ) (first room : ℕ) → Bytes x → length x ≤ room → assemble_of (all_chars (lines_of first x)) first room ≡ assembled 0 0 x
  -- however its lines are spelled
  pub spelled : (x text : List ℕ) (first room : ℕ) → Bytes x → length x ≤ room → Respelled (lines_in (all_chars (lines_of first x))) (lines_in text) → assemble_of text first room ≡ assembled 0 0 x
  -- and as it is made in a buffer of any length: the characters written give back the bytes before its stop
  pub made : (code buffer : List ℕ) (first room : ℕ) → Bytes code → (listing_of code first buffer).stop ≤ room
      → assemble_of (take (listing_of code first buffer).characters (listing_of code first buffer).buffer) first room ≡ assembled 0 0 (take (listing_of code first buffer).stop code)
