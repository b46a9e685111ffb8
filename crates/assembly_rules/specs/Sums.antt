-- Sums: which tokens are one, how deep its parentheses go, and what it is worth (§14.2).
use Rattle.std.specs.Prelude.{Bool, true, false, not, ◌&&◌, ◌||◌, List, [], ◌∷◌, ◌++◌, ℕ, zero, suc, ◌+◌, ◌-◌, ◌%◌, eqb, ltb, leb, length, get_or, drop}
use Rattle.ground_rules.specs.Choice.{pick}
use Rattle.listing_rules.specs.Characters.{ascii, same_text}
use Rattle.listing_rules.specs.Forms.{register_names}
use Rattle.std.specs.declared.option.Option.{Option}
use Rattle.std.specs.declared.option.Option.TheVariants.{None, Some}
use Rattle.assembly_rules.specs.declared.Role.{Role}
use Rattle.assembly_rules.specs.declared.Role.TheVariants.{Term, Plus, Minus, Opens, Closes, Other}
use Rattle.assembly_rules.specs.declared.Scan.{Scan}
use Rattle.assembly_rules.specs.declared.Worth.{Worth}
use Rattle.assembly_rules.specs.Text.{Token, is_digit}
use Rattle.assembly_rules.specs.Text.Token.{run, mark}
use Rattle.assembly_rules.specs.Numbers.{constant_of}

-- the place of a text in a list of texts, their number where it is none of them
unfoldable pub index_in : List (List ℕ) → List ℕ → ℕ
index_in [] text = 0
index_in (name ∷ names) text = pick (same_text name text) 0 (suc (index_in names text))

-- the registers by RRR, 0 to 7, and PP
abbrev pub registers_named : List (List ℕ)
registers_named = register_names ++ (ascii "MC" ∷ ascii "PP" ∷ [])

-- a register's number: RRR, 8 for PP, 9 for none
unfoldable pub register_number : List ℕ → ℕ
register_number r = index_in registers_named r

abbrev pub is_register : List ℕ → Bool
is_register r = ltb (register_number r) 9

-- a run that begins with a digit is a constant or nothing; any other is a name (§14.2)
abbrev pub begins_digit : List ℕ → Bool
begins_digit r = is_digit (get_or r 0 0)

abbrev pub is_value : Option ℕ → Bool
is_value (Some v) = true
is_value None = false

-- what a run may be in a sum: a constant, or a name that is no register (§14.2)
unfoldable pub is_term : List ℕ → Bool
is_term r = pick (begins_digit r) (is_value (constant_of r)) (not (is_register r))

-- + is 43, - 45, the parentheses are 40 and 41
abbrev pub mark_role : ℕ → Role
mark_role c = pick (eqb c 43) Plus (pick (eqb c 45) Minus (pick (eqb c 40) Opens (pick (eqb c 41) Closes Other)))

unfoldable pub role_of : Token → Role
role_of (run r) = pick (is_term r) Term Other
role_of (mark c) = mark_role c

abbrev pub scan : Bool → ℕ → ℕ → Bool → Bool → Scan
scan good opened most due begins = record { good = good; opened = opened; most = most; due = due; begins = begins }

-- at a sum's begin a term is due
abbrev pub scan_start : Scan
scan_start = scan true 0 0 true true

-- no sum, whatever follows
abbrev pub no_sum : Scan → Scan
no_sum s = scan false s.opened s.most s.due s.begins

abbrev pub greater : ℕ → ℕ → ℕ
greater a b = pick (leb a b) b a

-- a term, a sign, a parenthesis: each where it may stand
abbrev pub term? : Scan → Scan
term? s = pick s.due (scan s.good s.opened s.most false false) (no_sum s)

abbrev pub sign? : Scan → Scan
sign? s = pick s.due (no_sum s) (scan s.good s.opened s.most true false)

-- a minus also before a sum's first term (§14.2)
abbrev pub minus? : Scan → Scan
minus? s = pick (s.due && s.begins) (scan s.good s.opened s.most true false) (sign? s)

abbrev pub opens? : Scan → Scan
opens? s = pick s.due (scan s.good (s.opened + 1) (greater s.most (s.opened + 1)) true true) (no_sum s)

abbrev pub closes? : Scan → Scan
closes? s = pick (s.due || eqb s.opened 0) (no_sum s) (scan s.good (s.opened - 1) s.most false false)

-- the scan after one more token
unfoldable pub scanned : Scan → Role → Scan
scanned s Term = term? s
scanned s Plus = sign? s
scanned s Minus = minus? s
scanned s Opens = opens? s
scanned s Closes = closes? s
scanned s Other = no_sum s

unfoldable pub scan_from : Scan → List Token → Scan
scan_from s [] = s
scan_from s (t ∷ ts) = scan_from (scanned s (role_of t)) ts

-- at a sum's end no term is due and nothing is open
abbrev pub is_whole : Scan → Bool
is_whole s = s.good && (not s.due && eqb s.opened 0)

-- whether tokens are a sum, and how many parentheses are open at once (§14.2)
unfoldable pub is_sum : List Token → Bool
is_sum ts = is_whole (scan_from scan_start ts)

unfoldable pub depth_of : List Token → ℕ
depth_of ts = (scan_from scan_start ts).most

-- a label: its name, in capitals, and its address
pub record Label : Type 0 where
  pub name : List ℕ
  pub address : ℕ

abbrev pub label : List ℕ → ℕ → Label
label name address = record { name = name; address = address }

abbrev pub worth : ℕ → Bool → Worth
worth value known = record { value = value; known = known }

-- a name is worth its label's address, if it has one (§14.2)
unfoldable pub label_worth : List Label → List ℕ → Worth
label_worth [] name = worth 0 false
label_worth (l ∷ ls) name = pick (same_text l.name name) (worth l.address true) (label_worth ls name)

-- a worth with another one added, or taken away where the sign is a minus, mod 65,536 (§14.2)
unfoldable pub combined_worth : ℕ → Worth → Worth → Worth
combined_worth sign a b =
    worth (pick (eqb sign 45) (a.value % 65536 + 65536 - b.value % 65536) (a.value % 65536 + b.value % 65536) % 65536) (a.known && b.known)

-- what reading comes to: a worth and the tokens behind it; more parentheses than allowed; or no sum
pub data Read : Type 0 where
  read : Worth → List Token → Read
  deep : Read
  wrong : Read

-- what is done with a worth and the tokens behind it
abbrev pub and_then : Read → (Worth → List Token → Read) → Read
and_then (read w ts) next = next w ts
and_then deep next = deep
and_then wrong next = wrong

-- behind a sum in parentheses, the one that closes it
abbrev pub close_at : Worth → List Token → Read
close_at w [] = wrong
close_at w (run r ∷ ts) = wrong
close_at w (mark c ∷ ts) = pick (eqb c 41) (read w ts) wrong

-- whether a sign stands next
abbrev pub is_sign : ℕ → Bool
is_sign c = eqb c 43 || eqb c 45

abbrev pub begins_sign : List Token → Bool
begins_sign [] = false
begins_sign (run r ∷ ts) = false
begins_sign (mark c ∷ ts) = is_sign c

-- signs and terms behind a worth so far, `left` of them at the most; `term` reads one
unfoldable pub rest_with : (List Token → Read) → ℕ → Worth → List Token → Read
rest_with term zero w ts = read w ts
rest_with term (suc left) w [] = read w []
rest_with term (suc left) w (run r ∷ ts) = read w (run r ∷ ts)
rest_with term (suc left) w (mark c ∷ ts) =
    pick (is_sign c) (and_then (term ts) (λ x rest. rest_with term left (combined_worth c w x) rest)) (read w (mark c ∷ ts))

-- a minus may stand before a sum's first term
abbrev pub begins_minus : List Token → Bool
begins_minus [] = false
begins_minus (run r ∷ ts) = false
begins_minus (mark c ∷ ts) = eqb c 45

abbrev pub first_sign : List Token → ℕ
first_sign ts = pick (begins_minus ts) 45 43

abbrev pub past_minus : List Token → List Token
past_minus ts = pick (begins_minus ts) (drop 1 ts) ts

-- a sum whose terms are read by `term`, from left to right (§14.2)
unfoldable pub sum_with : (List Token → Read) → List Token → Read
sum_with term ts = and_then (term (past_minus ts)) (λ x rest. rest_with term (length rest) (combined_worth (first_sign ts) (worth 0 true) x) rest)

abbrev pub value_read : Option ℕ → List Token → Read
value_read (Some v) ts = read (worth v true) ts
value_read None ts = wrong

-- a constant or a name
unfoldable pub run_read : List Label → List ℕ → List Token → Read
run_read labels r ts = pick (begins_digit r) (value_read (constant_of r) ts) (pick (is_register r) wrong (read (label_worth labels r) ts))

-- one term: a constant, a name, or what `inside` reads behind an opening parenthesis
unfoldable pub term_by : (List Token → Read) → List Label → List Token → Read
term_by inside labels [] = wrong
term_by inside labels (run r ∷ ts) = run_read labels r ts
term_by inside labels (mark c ∷ ts) = pick (eqb c 40) (inside ts) wrong

-- one term, of whose parentheses `depth` may be open at once (§14.2)
unfoldable pub term_of : ℕ → List Label → List Token → Read
term_of zero labels = term_by (λ ts. deep) labels
term_of (suc depth) labels = term_by (λ ts. and_then (sum_with (term_of depth labels) ts) close_at) labels

unfoldable pub sum_within : ℕ → List Label → List Token → Read
sum_within depth labels ts = sum_with (term_of depth labels) ts

-- eight parentheses may be open at once (§14.2)
abbrev pub most_open : ℕ
most_open = 8

abbrev pub worth_in : Read → Worth
worth_in (read w ts) = w
worth_in deep = worth 0 false
worth_in wrong = worth 0 false

-- what the sum that some tokens begin with is worth (§14.2)
unfoldable pub sum_worth : List Label → List Token → Worth
sum_worth labels ts = worth_in (sum_within most_open labels ts)
