-- Names and constants character by character, as loops over them go.
-- Assumes nothing.
use mathlib.Core.Path.{◌≡◌, refl, sym, ap, subst, ◌∙◌}
use mathlib.Core.Bool.{Bool, true, false, cond, not, ◌&&◌, ◌||◌}
use mathlib.Core.List.{List, [], ◌∷◌, ◌++◌}
use Prim.Native.Nat.{ℕ, zero, suc, ◌+◌, ◌*◌, ◌-◌, ◌%◌, ◌≤◌, ◌<◌}
use native.Mathlib.Nat.{mul-le-mul}
use native.Mathlib.Omega.{arith}
use lib.Dec.{eqb, ltb, leb}
use lib.ListN.{length, get_or, take, drop, drop_of_length-le}
use borrow.Author.Tests.{leb-true, eqb-true, eqb-false, ne_eqb, lt-ltb, le-ltb, ltb-true, ltb-false, lt-leb}
use Rattle.ground_rules.specs.Choice.{pick}
use Rattle.listing_rules.specs.Characters.{same_text}
use Rattle.assembly_rules.specs.Text.{capital_of, capitals, is_digit, is_run, begun_by, leading_run}
use Rattle.assembly_rules.specs.Numbers.{digit_value, is_radix, radix_of, last_of, but_last, digits_from, constant_digits, constant_of}
use Rattle.assembly_rules.specs.Sums.{index_in, register_number, begins_digit, worth, label_worth}
use Rattle.assembly_rules.proofs.WritingLaws.{both_left, both_right}
use Rattle.assembly_rules.proofs.TextLaws.{run_none, run_more}
use Rattle.assembly_rules.proofs.NumberLaws.{radix-plain}
use Rattle.std.specs.List.{find, zip, list_all}
use Rattle.std.proofs.lemmas.Option.{none-some, same_Some}
use Rattle.std.specs.Option.{option_map}
use Rattle.std.specs.declared.option.Option.TheVariants.{None, Some}
use Rattle.std.specs.Char.{digit_value as digit_of}
use Rattle.assembler_text.specs.declared.labels.Labels.{Labels}
use Rattle.assembler_text.specs.Places.{between, name_at, labels_at, labels_of, address_worth, radix_told, register_told, register_named}
use Rattle.assembler_text.proofs.PlaceLaws.{from-here, part-some}

-- capitals of what is left
pub capitals-here : (cs : List ℕ) (i : ℕ) → i < length cs → capitals (drop i cs) ≡ capital_of (get_or cs i 0) ∷ capitals (drop (i + 1) cs)
unfolding capitals
capitals-here cs i h = ap capitals (from-here cs i h)

capitals-none : (cs : List ℕ) (i : ℕ) → length cs ≤ i → capitals (drop i cs) ≡ []
unfolding capitals
capitals-none cs i h = ap capitals (drop_of_length-le cs h)

-- a test of each number below some number
abbrev pub each_below : (ℕ → Bool) → ℕ → Bool
each_below test zero = true
each_below test (suc n) = each_below test n && test n

one-below : (test : ℕ → Bool) (n : ℕ) → each_below test n ≡ true → (i : ℕ) → i < n → test i ≡ true
one-below test zero h i l = absurd (omega arith)
one-below test (suc n) h i l = go (eqb i n) refl (one-below test n (both_left (each_below test n) (test n) h) i)
  where
    go : (b : Bool) → eqb i n ≡ b → (i < n → test i ≡ true) → test i ≡ true
    go true e lower = rw (eqb-true i n e) (both_right (each_below test n) (test n) h)
    go false e lower = let d = eqb-false i n e in lower (omega (arith, l, d))

-- a digit as the library has it is one of the rules up to 16
abbrev pub same_digit : ℕ → Bool
same_digit c = eqb (digit_value (capital_of c)) (pick (ltb (digit_of c) 16) (digit_of c) 16)

bytes-same : each_below same_digit 256 ≡ true
unfolding digit_value capital_of is_digit
bytes-same = refl

digit-same : (c : ℕ) → c < 256 → digit_value (capital_of c) ≡ pick (ltb (digit_of c) 16) (digit_of c) 16
digit-same c h = eqb-true _ _ (one-below same_digit 256 bytes-same c h)

pub digit-over : (radix c : ℕ) → c < 256 → radix ≤ 16 → (digit_of c < radix → ⊥) → radix ≤ digit_value (capital_of c)
digit-over radix c b h k = subst (λ (n : ℕ). radix ≤ n) (sym (digit-same c b)) (go (ltb (digit_of c) 16))
  where
    over : (x : Bool) → ltb (digit_of c) radix ≡ x → radix ≤ digit_of c
    over true e = absurd (k (ltb-true (digit_of c) radix e))
    over false e = ltb-false (digit_of c) radix e

    go : (x : Bool) → radix ≤ pick x (digit_of c) 16
    go true = over (ltb (digit_of c) radix) refl
    go false = h

pub digit-under : (radix c : ℕ) → c < 256 → radix ≤ 16 → digit_of c < radix → digit_value (capital_of c) ≡ digit_of c
digit-under radix c b h k = digit-same c b ∙ rw (lt-ltb (digit_of c) 16 (omega (arith, k, h)))

-- digits read one after the other
module _ (radix value : ℕ) (cs : List ℕ) (i : ℕ) where
  pub digits-stop : i < length cs → radix ≤ digit_value (capital_of (get_or cs i 0)) → digits_from radix value (capitals (drop i cs)) ≡ None
  unfolding digits_from
  digits-stop h k = ap (digits_from radix value) (capitals-here cs i h) ∙ rw (le-ltb (digit_value (capital_of (get_or cs i 0))) radix k)

  pub digits-next : i < length cs → digit_value (capital_of (get_or cs i 0)) < radix → digits_from radix value (capitals (drop i cs)) ≡ digits_from radix ((value * radix + digit_value (capital_of (get_or cs i 0))) % 65536) (capitals (drop (i + 1) cs))
  unfolding digits_from
  digits-next h k = ap (digits_from radix value) (capitals-here cs i h) ∙ rw (lt-ltb (digit_value (capital_of (get_or cs i 0))) radix k)

  pub digits-end : length cs ≤ i → digits_from radix value (capitals (drop i cs)) ≡ Some value
  unfolding digits_from
  digits-end h = ap (digits_from radix value) (capitals-none cs i h)

-- a name against the run that characters begin with: each character of both, and what stands behind
abbrev pub same_pair : ℕ × ℕ → Bool
same_pair p = is_run p.1 && eqb (capital_of p.1) (capital_of p.0)

abbrev pub run_there : List ℕ → Bool
run_there [] = false
run_there (c ∷ cs) = is_run c

run-over : (chars : List ℕ) (i : ℕ) → length chars ≤ i → leading_run (drop i chars) ≡ []
unfolding leading_run begun_by
run-over chars i h = ap leading_run (drop_of_length-le chars h)

pub same-name : (chars name : List ℕ) → length name ≤ length chars → same_text (leading_run chars) (capitals name) ≡ list_all same_pair (zip name chars) && not (run_there (drop (length name) chars))
unfolding same_text capitals
same-name [] [] l = ap (λ (x : List ℕ). same_text x []) (run-over [] 0 (omega arith))
same-name (c ∷ chars) [] l = go (is_run c) refl
  where
    go : (b : Bool) → is_run c ≡ b → same_text (leading_run (c ∷ chars)) [] ≡ not b
    go true e = ap (λ (x : List ℕ). same_text x []) (run_more c chars e)
    go false e = ap (λ (x : List ℕ). same_text x []) (run_none c chars e)
same-name [] (n ∷ name) l = absurd (omega arith)
same-name (c ∷ chars) (n ∷ name) l = go (is_run c) refl (same-name chars name (omega arith))
  where
    go : (b : Bool) → is_run c ≡ b → same_text (leading_run chars) (capitals name) ≡ list_all same_pair (zip name chars) && not (run_there (drop (length name) chars))
        → same_text (leading_run (c ∷ chars)) (capital_of n ∷ capitals name) ≡ (b && eqb (capital_of c) (capital_of n) && list_all same_pair (zip name chars)) && not (run_there (drop (length name) chars))
    go true e later = ap (λ (x : List ℕ). same_text x (capital_of n ∷ capitals name)) (run_more c chars e) ∙ both-again (eqb (capital_of c) (capital_of n)) (list_all same_pair (zip name chars)) (not (run_there (drop (length name) chars))) later
      where
        both-again : (x p q : Bool) {a : Bool} → a ≡ p && q → x && a ≡ (x && p) && q
        both-again true p q h = h
        both-again false p q h = refl
    go false e later = ap (λ (x : List ℕ). same_text x (capital_of n ∷ capitals name)) (run_none c chars e)

pub longer-name : (chars name : List ℕ) → length chars < length name → same_text (leading_run chars) (capitals name) ≡ false
unfolding same_text capitals
longer-name chars [] l = absurd (omega arith)
longer-name [] (n ∷ name) l = ap (λ (x : List ℕ). same_text x (capital_of n ∷ capitals name)) (run-over [] 0 (omega arith))
longer-name (c ∷ chars) (n ∷ name) l = go (is_run c) refl (longer-name chars name (omega arith))
  where
    go : (b : Bool) → is_run c ≡ b → same_text (leading_run chars) (capitals name) ≡ false → same_text (leading_run (c ∷ chars)) (capital_of n ∷ capitals name) ≡ false
    go true e later = ap (λ (x : List ℕ). same_text x (capital_of n ∷ capitals name)) (run_more c chars e) ∙ rw later (never (eqb (capital_of c) (capital_of n)))
      where
        never : (x : Bool) → x && false ≡ false
        never true = refl
        never false = refl
    go false e later = ap (λ (x : List ℕ). same_text x (capital_of n ∷ capitals name)) (run_none c chars e)

pub run-behind : (cs : List ℕ) (i : ℕ) → i < length cs → run_there (drop i cs) ≡ is_run (get_or cs i 0)
run-behind cs i h = ap run_there (from-here cs i h)

pub no-run-behind : (cs : List ℕ) (i : ℕ) → length cs ≤ i → run_there (drop i cs) ≡ false
no-run-behind cs i h = ap run_there (drop_of_length-le cs h)

-- the first label with a name
abbrev pub has_name : List ℕ → List ℕ → ℕ × ℕ → Bool
has_name text name l = same_text (name_at text l.0) name

label-found : (text places addresses name : List ℕ) → address_worth (option_map (λ (l : ℕ × ℕ). l.1) (find (has_name text name) (zip places addresses))) ≡ label_worth (labels_at text places addresses) name
unfolding labels_at label_worth address_worth
label-found text [] addresses name = refl
label-found text (p ∷ places) [] name = refl
label-found text (p ∷ places) (a ∷ addresses) name = go (has_name text name (p, a)) (label-found text places addresses name)
  where
    go : (b : Bool) → address_worth (option_map (λ (l : ℕ × ℕ). l.1) (find (has_name text name) (zip places addresses))) ≡ label_worth (labels_at text places addresses) name
        → address_worth (option_map (λ (l : ℕ × ℕ). l.1) (cond b (Some (p, a)) (find (has_name text name) (zip places addresses)))) ≡ pick b (worth a true) (label_worth (labels_at text places addresses) name)
    go true later = refl
    go false later = later

pub label-first : (text name : List ℕ) (labels : Labels) → address_worth (option_map (λ (l : ℕ × ℕ). l.1) (find (has_name text name) (zip labels.places.now labels.addresses.now))) ≡ label_worth (labels_of text labels) name
label-first text name labels = label-found text labels.places.now labels.addresses.now name

-- a run's last character, and those before it
last-behind : (front : List ℕ) (c : ℕ) → (last_of (capitals (front ++ (c ∷ []))) ≡ capital_of c) × (but_last (capitals (front ++ (c ∷ []))) ≡ capitals front)
unfolding capitals last_of but_last
last-behind [] c = (refl, refl)
last-behind (a ∷ []) c = (refl, refl)
last-behind (a ∷ b ∷ front) c = let later = last-behind (b ∷ front) c in (later.0, ap (λ (x : List ℕ). capital_of a ∷ x) later.1)

-- the constant of a run with a letter for its radix, and of one without
pub constant-lettered : (cs front : List ℕ) (c : ℕ) → cs ≡ front ++ (c ∷ []) → is_radix (capital_of c) ≡ true → constant_of (capitals cs) ≡ digits_from (radix_of (capital_of c)) 0 (capitals front)
unfolding constant_of constant_digits
constant-lettered cs front c e h = let l = last-behind front c in rw (e, l.0, h, l.1)

pub constant-plain : (cs front : List ℕ) (c : ℕ) → cs ≡ front ++ (c ∷ []) → is_radix (capital_of c) ≡ false → constant_of (capitals cs) ≡ digits_from 10 0 (capitals cs)
unfolding constant_of constant_digits
constant-plain cs front c e h = let l = last-behind front c in ap (λ (x : List ℕ). constant_of (capitals x)) e ∙ rw (l.0, h, radix-plain (capital_of c) h) (ap (λ (x : List ℕ). digits_from 10 0 (capitals x)) (sym e))

pub constant-empty : (cs : List ℕ) → length cs ≡ 0 → constant_of (capitals cs) ≡ Some 0
unfolding constant_of constant_digits last_of but_last capitals digits_from is_radix
constant-empty [] e = refl
constant-empty (c ∷ cs) e = absurd (omega arith)

-- a radix that is told, by the letter that tells it
pub radix_some : (c r : ℕ) → Some r ≡ radix_told c → (is_radix c ≡ true) × (r ≡ radix_of c)
radix_some c r e = go (is_radix c) refl e
  where
    go : (b : Bool) → is_radix c ≡ b → Some r ≡ pick b (Some (radix_of c)) None → (is_radix c ≡ true) × (r ≡ radix_of c)
    go true h k = (h, same_Some _ _ k)
    go false h k = absurd (none-some _ (sym k))

pub radix_none : (c : ℕ) → None ≡ radix_told c → is_radix c ≡ false
radix_none c e = go (is_radix c) refl e
  where
    go : (b : Bool) → is_radix c ≡ b → None ≡ pick b (Some (radix_of c)) None → is_radix c ≡ false
    go true h k = absurd (none-some _ k)
    go false h k = h

-- a value and a radix multiplied stay small
pub times-small : (v r : ℕ) → v < 65536 → r ≤ 16 → v * r ≤ 1048560
times-small v r h k = let l : v ≤ 65535 = omega arith in mul-le-mul l k

-- the radix is 2 at least and 16 at most
pub radix-within : (c : ℕ) → (2 ≤ radix_of c) × (radix_of c ≤ 16)
unfolding radix_of
radix-within c = go (eqb c 66) (eqb c 79 || eqb c 81) (eqb c 72)
  where
    go : (a b d : Bool) → (2 ≤ pick a 2 (pick b 8 (pick d 16 10))) × (pick a 2 (pick b 8 (pick d 16 10)) ≤ 16)
    go true b d = (omega arith, omega arith)
    go false true d = (omega arith, omega arith)
    go false false true = (omega arith, omega arith)
    go false false false = (omega arith, omega arith)

no_name : (name : List ℕ) → same_text [] (capitals name) ≡ eqb (length name) 0
unfolding same_text capitals
no_name [] = refl
no_name (c ∷ name) = sym (ne_eqb (length (c ∷ name)) 0 (λ e. omega arith))

-- a label past the text has no name
pub name-nowhere : (text : List ℕ) (place : ℕ) (name : List ℕ) → length text < place → eqb (length name) 0 ≡ same_text (name_at text place) (capitals name)
unfolding name_at
name-nowhere text place name h = sym (ap (λ (x : List ℕ). same_text x (capitals name)) (run-over text place (omega arith)) ∙ no_name name)

-- registers are named by two letters
no-two : (t : List ℕ) → (length t ≡ 2 → ⊥) → (x y : ℕ) → same_text (x ∷ y ∷ []) t ≡ false
unfolding same_text
no-two [] h x y = refl
no-two (a ∷ []) h x y = go (eqb x a)
  where
    go : (b : Bool) → b && false ≡ false
    go true = refl
    go false = refl
no-two (a ∷ b ∷ []) h x y = absurd (h refl)
no-two (a ∷ b ∷ d ∷ t) h x y = go (eqb x a) (eqb y b)
  where
    go : (p q : Bool) → p && (q && false) ≡ false
    go true true = refl
    go true false = refl
    go false q = refl

pub capitals-length : (cs : List ℕ) → length (capitals cs) ≡ length cs
unfolding capitals
capitals-length [] = refl
capitals-length (c ∷ cs) = ap suc (capitals-length cs)

pub register-length : (cs : List ℕ) → (length cs ≡ 2 → ⊥) → register_named (capitals cs) ≡ None
unfolding register_number index_in
register-length cs h = let e : register_number (capitals cs) ≡ 9 = simp (no-two (capitals cs) (λ e. h (sym (capitals-length cs) ∙ e))) in ap register_told e

pub two_capitals : (cs : List ℕ) → length cs ≡ 2 → capitals cs ≡ capital_of (get_or cs 0 0) ∷ capital_of (get_or cs 1 0) ∷ []
unfolding capitals
two_capitals [] e = absurd (omega arith)
two_capitals (a ∷ []) e = absurd (omega arith)
two_capitals (a ∷ b ∷ []) e = refl
two_capitals (a ∷ b ∷ d ∷ cs) e = absurd (omega arith)

-- and by none that begins with another letter
other-first : (x y a b : ℕ) → (a ≡ x → ⊥) → same_text (x ∷ y ∷ []) (a ∷ b ∷ []) ≡ false
unfolding same_text
other-first x y a b h = rw (ne_eqb x a (λ e. h (sym e)))

pub register-none : (cs : List ℕ) (a b : ℕ) → length cs ≡ 2 → a ≡ capital_of (get_or cs 0 0) → b ≡ capital_of (get_or cs 1 0)
    → (a ≡ 0x47 → ⊥) → (a ≡ 0x42 → ⊥) → (a ≡ 0x54 → ⊥) → (a ≡ 0x49 → ⊥) → (a ≡ 0x43 → ⊥) → (a ≡ 0x4D → ⊥) → (a ≡ 0x50 → ⊥) → register_named (capitals cs) ≡ None
unfolding register_number index_in
register-none cs a b e f g h0 h1 h2 h3 h4 h5 h6 =
    let t : capitals cs ≡ a ∷ b ∷ [] = two_capitals cs e ∙ rw (← f, ← g) in
    ap register_named t
    ∙ rw (other-first 0x47 0x41 a b h0, other-first 0x47 0x42 a b h0, other-first 0x47 0x43 a b h0, other-first 0x42 0x43 a b h1, other-first 0x54 0x50 a b h2, other-first 0x49 0x58 a b h3, other-first 0x43 0x43 a b h4, other-first 0x4D 0x43 a b h5, other-first 0x50 0x50 a b h6)

-- a digit is no letter
digit-capital : (c : ℕ) → is_digit (capital_of c) ≡ is_digit c
unfolding is_digit capital_of
digit-capital c = go (leb 97 c && leb c 122) refl
  where
    go : (b : Bool) → leb 97 c && leb c 122 ≡ b → leb 48 (pick b (c - 32) c) && leb (pick b (c - 32) c) 57 ≡ leb 48 c && leb c 57
    go true e =
        let l = leb-true 97 c (both_left (leb 97 c) (leb c 122) e) in
        rw (lt-leb (c - 32) 57 (omega arith), lt-leb c 57 (omega arith)) (ends (leb 48 (c - 32)) (leb 48 c))
      where
        ends : (x y : Bool) → x && false ≡ y && false
        ends true true = refl
        ends true false = refl
        ends false true = refl
        ends false false = refl
    go false e = refl

-- what a run begins with
pub begins-digit : (cs : List ℕ) → 0 < length cs → begins_digit (capitals cs) ≡ is_digit (get_or cs 0 0)
unfolding capitals
begins-digit [] h = absurd (omega arith)
begins-digit (c ∷ cs) h = digit-capital c

pub begins-none : (cs : List ℕ) → length cs ≤ 0 → begins_digit (capitals cs) ≡ false
unfolding capitals is_digit
begins-none [] h = refl
begins-none (c ∷ cs) h = absurd (omega arith)

-- the same of a part of a text
part-first : (n : ℕ) (text : List ℕ) (from : ℕ) → 0 < n → from < length text → get_or (take n (drop from text)) 0 0 ≡ get_or text from 0
part-first zero text from h l = absurd (omega arith)
part-first (suc n) text from h l = ap (λ (x : List ℕ). get_or (take (suc n) x) 0 0) (from-here text from l)

pub part-digit : (text : List ℕ) (from to : ℕ) (b : Bool) → from < to → to ≤ length text → is_digit (capital_of (get_or text from 0)) ≡ b → begins_digit (capitals (between text from to)) ≡ b
part-digit text from to b h k e = begins-digit (between text from to) (part-some text from to h k) ∙ sym (digit-capital (get_or (between text from to) 0 0)) ∙ ap (λ (c : ℕ). is_digit (capital_of c)) (part-first (to - from) text from (omega arith) (omega arith)) ∙ e
