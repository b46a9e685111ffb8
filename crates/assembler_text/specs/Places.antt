-- Tokens and labels by their places in a text, as the code has them.
use Rattle.std.specs.Prelude.{Bool, true, false, ◌||◌, List, [], ◌∷◌, ℕ, suc, ◌+◌, ◌-◌, eqb, ltb, leb, length, get_or, take, drop, Option, None, Some}
use Rattle.ground_rules.specs.Choice.{pick}
use Rattle.assembly_rules.specs.declared.Role.{Role}
use Rattle.assembly_rules.specs.declared.Role.TheVariants.{Term, Other}
use Rattle.assembly_rules.specs.Text.{capitals, is_run, is_blank, ends_line, leading_run}
use Rattle.assembly_rules.specs.Numbers.{is_radix, radix_of}
use Rattle.assembly_rules.specs.Sums.{Label, label, worth, register_number, is_term, mark_role}
use Rattle.assembler_text.specs.declared.tokens.TokenFound.{TokenFound as Found}
use Rattle.assembler_text.specs.declared.tokens.TokenFound.TheVariants.{Run, Mark}
use Rattle.assembler_text.specs.declared.values.Sign.{Sign}
use Rattle.assembler_text.specs.declared.values.Sign.TheVariants.{Plus, Minus}
use Rattle.assembler_text.specs.declared.labels.Labels.{Labels}
use Rattle.assembly_rules.specs.declared.Worth.{Worth}

-- how many characters stand before the first that fails a test
unfoldable pub leading : (ℕ → Bool) → List ℕ → ℕ
leading test [] = 0
leading test (c ∷ cs) = pick (test c) (suc (leading test cs)) 0

-- the place of the next character that is no blank
unfoldable pub past_blanks : List ℕ → ℕ → ℕ
past_blanks text at = at + leading is_blank (drop at text)

-- the place behind the run at a place
unfoldable pub run_end : List ℕ → ℕ → ℕ
run_end text at = at + leading is_run (drop at text)

-- the characters from a place up to another
abbrev pub between : List ℕ → ℕ → ℕ → List ℕ
between text from to = take (to - from) (drop from text)

-- the token at a place that is no blank
unfoldable pub token_from : List ℕ → ℕ → Option Found
token_from text from =
    pick (leb (length text) from) None
    (pick (is_run (get_or text from 0)) (Some (Run from (run_end text from)))
    (pick (ends_line (get_or text from 0)) None (Some (Mark (get_or text from 0) (from + 1)))))

unfoldable pub token_at : List ℕ → ℕ → Option Found
token_at text at = token_from text (past_blanks text at)

-- neither a comma nor a line's end
abbrev pub goes_on : ℕ → Bool
goes_on c = pick (eqb c 44 || ends_line c) false true

-- the place of the comma that stands next in the line, or of the line's end
unfoldable pub stop_at : List ℕ → ℕ → ℕ
stop_at text at = at + leading goes_on (drop at text)

-- a register by its name, 0 to 7 by RRR and 8 for PP
abbrev pub register_told : ℕ → Option ℕ
register_told n = pick (ltb n 9) (Some n) None

abbrev pub register_named : List ℕ → Option ℕ
register_named r = register_told (register_number r)

-- the radix that a capital tells at a constant's end, if it tells one
abbrev pub radix_told : ℕ → Option ℕ
radix_told c = pick (is_radix c) (Some (radix_of c)) None

-- what a token is in a sum, with the place behind it; none at a comma or the line's end
abbrev pub ahead_by : List ℕ → Option Found → Option (Role × ℕ)
ahead_by text None = None
ahead_by text (Some (Run from to)) = Some (pick (is_term (capitals (between text from to))) Term Other, to)
ahead_by text (Some (Mark c next)) = pick (eqb c 44) None (Some (mark_role c, next))

unfoldable pub role_at : List ℕ → ℕ → Option (Role × ℕ)
role_at text at = ahead_by text (token_at text at)

-- a sign's character
abbrev pub mark_of : Sign → ℕ
mark_of Plus = 43
mark_of Minus = 45

-- the sign at a place, with the place behind it
abbrev pub sign_by : Option Found → Option (Sign × ℕ)
sign_by None = None
sign_by (Some (Run from to)) = None
sign_by (Some (Mark c next)) = pick (eqb c 43) (Some (Plus, next)) (pick (eqb c 45) (Some (Minus, next)) None)

unfoldable pub sign_at : List ℕ → ℕ → Option (Sign × ℕ)
sign_at text at = sign_by (token_at text at)

-- the sign before a sum's first term: a minus, or a plus where none stands there
abbrev pub lead_by : ℕ → Option (Sign × ℕ) → Sign × ℕ
lead_by at None = (Plus, at)
lead_by at (Some (Plus, next)) = (Plus, at)
lead_by at (Some (Minus, next)) = (Minus, next)

unfoldable pub lead_at : List ℕ → ℕ → Sign × ℕ
lead_at text at = lead_by at (sign_at text at)

-- a label's name by its place
unfoldable pub name_at : List ℕ → ℕ → List ℕ
name_at text place = leading_run (drop place text)

-- the labels by their places and addresses
unfoldable pub labels_at : List ℕ → List ℕ → List ℕ → List Label
labels_at text [] addresses = []
labels_at text (p ∷ places) [] = []
labels_at text (p ∷ places) (a ∷ addresses) = label (name_at text p) a ∷ labels_at text places addresses

abbrev pub labels_of : List ℕ → Labels → List Label
labels_of text labels = labels_at text labels.places.now labels.addresses.now

-- what a name with a label's address, or with none, is worth
unfoldable pub address_worth : Option ℕ → Worth
address_worth None = worth 0 false
address_worth (Some address) = worth address true
