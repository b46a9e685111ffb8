-- What the code read, with the tokens behind the place where it stands.
use Rattle.std.specs.Prelude.{List, ℕ, drop, Option, None, Some, Result, Ok, Err}
use Rattle.assembly_rules.specs.declared.Worth.{Worth}
use Rattle.assembly_rules.specs.Text.{Token, tokens_of}
use Rattle.assembly_rules.specs.Sums.{Read}
use Rattle.assembly_rules.specs.Sums.Read.{read, deep, wrong}
use Rattle.assembler_text.specs.declared.values.Unsummed.{Unsummed}
use Rattle.assembler_text.specs.declared.values.Unsummed.TheVariants.{TooDeep, NoSum}

abbrev pub unread : Unsummed → Read
unread TooDeep = deep
unread NoSum = wrong

-- a worth and the place behind it
unfoldable pub read_as : List ℕ → Result (Worth × ℕ) Unsummed → Read
read_as text (Ok (w, next)) = read w (tokens_of (drop next text))
read_as text (Err why) = unread why

-- a worth behind which a parenthesis is to close
unfoldable pub closed_as : List ℕ → Worth → Result ℕ Unsummed → Read
closed_as text w (Ok next) = read w (tokens_of (drop next text))
closed_as text w (Err why) = unread why

-- a worth in front of tokens, if there is one
unfoldable pub worth_before : List Token → Option Worth → Read
worth_before ts None = wrong
worth_before ts (Some w) = read w ts
