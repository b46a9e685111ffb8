-- The text of a line as the assembler reads it: tokens, constants that are worth their bytes, and behind a word operands between commas, as they were listed.
-- Assumes nothing.
use mathlib.Core.{Path.◌≡◌, Path.refl, Path.sym, Path.ap, Path.subst, Path.◌∙◌, Bool.Bool, Bool.true, Bool.false, Bool.not, Bool.◌&&◌, Bool.false≢true, List.List, List.[], List.◌∷◌, List.◌++◌, List.append_assoc, List.append-nil, Bool.◌||◌}
use Prim.Native.Nat.{ℕ, ◌+◌, ◌*◌, ◌/◌, ◌%◌, ◌<◌}
use native.Mathlib.Omega.{arith}
use lib.{Dec.ltb, ListN.length, Dec.eqb}
use borrow.Author.Tests.{not-true, eqb-true, ltb-true, lt-ltb}
use Rattle.listing_rules.specs.{Characters.same_text, Characters.hex_glyph, Characters.hex_digits, Characters.number_text, Characters.digit_text, Forms.Operand, Forms.spelled, Forms.following}
use Rattle.listing_rules.proofs.SpellingLaws.{each, present, marks}
use Rattle.std.specs.declared.option.Option.TheVariants.{Some}
use Rattle.assembly_rules.specs.{Text.capitals, Text.ends_line, Text.Token, Text.Token.run, Text.tokens_of, Text.cut_at, Text.capital_of, Text.is_digit, Text.is_capital, Text.is_run, Numbers.digit_value, Numbers.is_radix, Numbers.radix_of, Numbers.last_of, Numbers.but_last, Numbers.digits_from, Numbers.constant_digits, Numbers.constant_of, Sums.Label, Sums.index_in, Sums.register_number, Sums.is_sum, Sums.depth_of, Sums.worth, Sums.combined_worth, Sums.rest_with, Sums.sum_with}
use Rattle.assembly_rules.specs.{Sums.run_read, Sums.term_by, Sums.term_of, Sums.sum_within, Sums.sum_worth, Trees.sum_tokens, Trees.term_tokens, Trees.sum_depth, Trees.term_depth, Trees.Sum.only, Trees.Term.constant, Operands.operand_from, Operands.Written.value, Text.is_blank, Text.Token.mark, Text.is_comma, Text.begun_by, Statements.headed, Statements.headed_by, Statements.operand_parts, Statements.statement_of, Assembly.said_by}
use Rattle.assembly_rules.proofs.{ScanLaws.same-is, ScanLaws.all_fail, WritingLaws.begins_run, WritingLaws.all_run, WritingLaws.Writes, WritingLaws.both_left, WritingLaws.both_right, WritingLaws.written, WritingLaws.all-written, WritingLaws.Writes.nothing, WritingLaws.Writes.comment, WritingLaws.Writes.blank, WritingLaws.Writes.single, WritingLaws.Writes.several, NumberLaws.all_below, NumberLaws.place_value, NumberLaws.lettered, NumberLaws.constant-small}
use Rattle.assembly_rules.proofs.{ScanLaws.tree-sum, ScanLaws.tree-depth, TextLaws.tokens-blank, TextLaws.tokens-mark}

-- the first part of a list, up to a cut, and its last part
pub cut-first : {A : Type 0} (test : A → Bool) (part rest : List A) (a : A) → all_fail test part ≡ true → test a ≡ true → cut_at test (part ++ (a ∷ rest)) ≡ part ∷ cut_at test rest
unfolding cut_at all_fail
cut-first test [] rest a h k = rw k
cut-first test (b ∷ part) rest a h k = rw (not-true (test b) (both_left (not (test b)) (all_fail test part) h), cut-first test part rest a (both_right (not (test b)) (all_fail test part) h) k)

pub cut-last : {A : Type 0} (test : A → Bool) (part : List A) → all_fail test part ≡ true → cut_at test part ≡ part ∷ []
unfolding cut_at all_fail
cut-last test [] h = refl
cut-last test (b ∷ part) h = rw (not-true (test b) (both_left (not (test b)) (all_fail test part) h), cut-last test part (both_right (not (test b)) (all_fail test part) h))

none-behind : {A : Type 0} (test : A → Bool) (a b : List A) → all_fail test (a ++ b) ≡ true → all_fail test b ≡ true
unfolding all_fail
none-behind test [] b h = h
none-behind test (c ∷ a) b h = none-behind test a b (both_right (not (test c)) _ h)

begins-behind : (a b : List ℕ) → begins_run a ≡ false → begins_run b ≡ false → begins_run (a ++ b) ≡ false
unfolding begins_run
begins-behind [] b h k = k
begins-behind (c ∷ a) b h k = h

writes-behind : {ts us : List Token} {a b : List ℕ} → Writes ts a → all_fail ends_line a ≡ true → begins_run b ≡ false → Writes us b → Writes (ts ++ us) (a ++ b)
unfolding all_fail
writes-behind nothing h k v = v
writes-behind (comment c cs p q) h k v = absurd (false≢true (rw q at (both_left (not (ends_line c)) _ h)))
writes-behind (blank c p w) h k v = blank c p (writes-behind w (both_right (not (ends_line c)) _ h) k v)
writes-behind (single c p q r w) h k v = single c p q r (writes-behind w (both_right (not (ends_line c)) _ h) k v)
writes-behind {us = us} {b = b} (several {cs = cs} c r p q w) h k v =
    subst (Writes _) (sym (append_assoc (c ∷ r) cs b)) (several c r p (begins-behind cs b q k) (writes-behind w (none-behind ends_line (c ∷ r) cs h) k v))

-- a text that ends no line, and behind it characters that begin no run: the tokens of both
pub tokens-apart : (text cs : List ℕ) → all_fail ends_line text ≡ true → begins_run cs ≡ false → tokens_of (text ++ cs) ≡ tokens_of text ++ tokens_of cs
tokens-apart text cs h k = written (writes-behind (all-written text) h k (all-written cs))

-- whether a text is a run in capitals
unfoldable pub is_name : List ℕ → Bool
is_name w = ltb 0 (length w) && (all_run w && (same_text (capitals w) w && all_fail ends_line w))

-- it is one token, and ends no line
pub name-tokens : (w : List ℕ) → is_name w ≡ true → (tokens_of w ≡ run w ∷ []) × (all_fail ends_line w ≡ true)
unfolding is_name begins_run
name-tokens [] h = absurd (false≢true h)
name-tokens (c ∷ r) h =
    let all = both_right (ltb 0 (length (c ∷ r))) _ h in
    let runs = both_left (all_run (c ∷ r)) _ all in
    let rest = both_right (all_run (c ∷ r)) _ all in
    let own = same-is (capitals (c ∷ r)) (c ∷ r) (both_left (same_text (capitals (c ∷ r)) (c ∷ r)) _ rest) in
    (sym (ap tokens_of (append-nil (c ∷ r))) ∙ written (several c r runs refl nothing) ∙ ap (λ (w : List ℕ). run w ∷ []) own, both_right (same_text (capitals (c ∷ r)) (c ∷ r)) _ rest)

-- a text that is a constant by itself, with its value
pub record Constantly (text : List ℕ) (v : ℕ) : Type 0 where
  pub tokens : tokens_of text ≡ run text ∷ []
  pub free : all_fail ends_line text ≡ true
  pub operand : operand_from (run text ∷ []) ≡ value (run text ∷ [])
  pub sum : is_sum (run text ∷ []) ≡ true
  pub shallow : depth_of (run text ∷ []) ≡ 0
  pub worths : (labels : List Label) → sum_worth labels (run text ∷ []) ≡ worth v true

constantly : (c : ℕ) (r : List ℕ) (v : ℕ) → is_digit c ≡ true → constant_of (c ∷ r) ≡ Some v → is_name (c ∷ r) ≡ true → register_number (c ∷ r) ≡ 9 → Constantly (c ∷ r) v
unfolding operand_from sum_tokens term_tokens sum_depth term_depth sum_worth sum_within sum_with term_of term_by run_read rest_with combined_worth
constantly c r v d e w n =
    let name = name-tokens (c ∷ r) w in
    let whole = tree-sum (only false (constant (c ∷ r) v d e)) in
    let small : (0 % 65536 + v % 65536) % 65536 ≡ v = omega (arith, constant-small (c ∷ r) v e) in
    record {
      tokens = name.0;
      free = name.1;
      operand = rw (n, whole);
      sum = whole;
      shallow = tree-depth (only false (constant (c ∷ r) v d e));
      worths = λ labels. rw (d, e) (ap (λ (x : ℕ). worth x true) small);
    }

-- a hexadecimal digit is one of a run, its own capital, ends no line, and is read back
abbrev Glyph : ℕ → Type 0
Glyph d = (is_run (hex_glyph d) ≡ true) × (eqb (capital_of (hex_glyph d)) (hex_glyph d) ≡ true) × (ends_line (hex_glyph d) ≡ false) × (digit_value (hex_glyph d) ≡ d)

glyph : (d : ℕ) → d < 16 → Glyph d
unfolding hex_glyph digit_value is_run is_digit is_capital capital_of ends_line
glyph d h = each 16 Glyph ((((((((((((((((tt, (refl, refl, refl, refl)), (refl, refl, refl, refl)), (refl, refl, refl, refl)), (refl, refl, refl, refl)), (refl, refl, refl, refl)), (refl, refl, refl, refl)), (refl, refl, refl, refl)), (refl, refl, refl, refl)), (refl, refl, refl, refl)), (refl, refl, refl, refl)), (refl, refl, refl, refl)), (refl, refl, refl, refl)), (refl, refl, refl, refl)), (refl, refl, refl, refl)), (refl, refl, refl, refl)), (refl, refl, refl, refl)) d h

two_digits : (b : ℕ) → b < 256 → b / 16 % 16 * 16 + b % 16 ≡ b
two_digits b h = omega arith

-- a byte and a word as they are listed
pub byte-constant : (b : ℕ) → b < 256 → Constantly (number_text (b ∷ [])) b
unfolding number_text hex_digits is_name all_run capitals all_fail is_run is_digit is_capital capital_of ends_line register_number index_in same_text is_radix radix_of all_below place_value digit_value
byte-constant b h =
    let u = b / 16 % 16 in
    let l = b % 16 in
    let x = glyph u (omega arith) in
    let y = glyph l (omega arith) in
    let e : (0 + (u * 16 + (l * 1 + 0))) % 65536 ≡ b = omega (arith, two_digits b h) in
    let told : constant_of (number_text (b ∷ [])) ≡ Some b = lettered (48 ∷ hex_glyph u ∷ hex_glyph l ∷ []) 72 refl (rw (x.3, y.3, lt-ltb u 16 (omega arith), lt-ltb l 16 (omega arith))) ∙ rw (x.3, y.3) (ap Some e) in
    constantly 48 (hex_glyph u ∷ hex_glyph l ∷ 72 ∷ []) b refl told (rw (x.0, y.0, x.1, y.1, x.2, y.2)) refl

pub word-constant : (l h : ℕ) → l < 256 → h < 256 → Constantly (number_text (l ∷ h ∷ [])) (l + h * 256)
unfolding number_text hex_digits is_name all_run capitals all_fail is_run is_digit is_capital capital_of ends_line register_number index_in same_text is_radix radix_of all_below place_value digit_value
word-constant l h k m =
    let a = h / 16 % 16 in
    let b = h % 16 in
    let c = l / 16 % 16 in
    let d = l % 16 in
    let x = glyph a (omega arith) in
    let y = glyph b (omega arith) in
    let z = glyph c (omega arith) in
    let w = glyph d (omega arith) in
    let e : 0 + (a * 4096 + (b * 256 + (c * 16 + (d * 1 + 0)))) ≡ l + h * 256 = omega (arith, two_digits h m, two_digits l k) in
    let f : (l + h * 256) % 65536 ≡ l + h * 256 = omega arith in
    let told : constant_of (number_text (l ∷ h ∷ [])) ≡ Some (l + h * 256) =
    lettered (48 ∷ hex_glyph a ∷ hex_glyph b ∷ hex_glyph c ∷ hex_glyph d ∷ []) 72 refl (rw (x.3, y.3, z.3, w.3, lt-ltb a 16 (omega arith), lt-ltb b 16 (omega arith), lt-ltb c 16 (omega arith), lt-ltb d 16 (omega arith)))
    ∙ rw (x.3, y.3, z.3, w.3) (ap (λ (n : ℕ). Some (n % 65536)) e ∙ ap Some f) in
    constantly 48 (hex_glyph a ∷ hex_glyph b ∷ hex_glyph c ∷ hex_glyph d ∷ 72 ∷ []) (l + h * 256) refl told (rw (x.0, y.0, z.0, w.0, x.1, y.1, z.1, w.1, x.2, y.2, z.2, w.2)) refl

-- a bit's number, a width
pub digit-constant : (n : ℕ) → ltb n 8 || (eqb n 8 || eqb n 16) ≡ true → Constantly (digit_text n) n
unfolding digit_text is_name all_run capitals all_fail is_run is_digit is_capital capital_of ends_line register_number index_in same_text is_radix radix_of digit_value constant_of constant_digits digits_from last_of but_last
digit-constant n h = go (ltb n 8) refl (eqb n 8) refl h
  where
    go : (a : Bool) → ltb n 8 ≡ a → (b : Bool) → eqb n 8 ≡ b → a || (b || eqb n 16) ≡ true → Constantly (digit_text n) n
    go true e b f t =
        each 8 (λ (k : ℕ). Constantly (digit_text k) k)
        ((((((((tt, constantly 48 [] 0 refl refl refl refl), constantly 49 [] 1 refl refl refl refl), constantly 50 [] 2 refl refl refl refl), constantly 51 [] 3 refl refl refl refl), constantly 52 [] 4 refl refl refl refl), constantly 53 [] 5 refl refl refl refl), constantly 54 [] 6 refl refl refl refl), constantly 55 [] 7 refl refl refl refl)
        n (ltb-true n 8 e)
    go false e true f t = rw (eqb-true n 8 f) (constantly 56 [] 8 refl refl refl refl)
    go false e false f t = rw (eqb-true n 16 t) (constantly 49 (54 ∷ []) 16 refl refl refl refl)

-- whether tokens begin as an operand: they make no label of the word before them
unfoldable pub opens : List Token → Bool
opens [] = false
opens (run r ∷ ts) = true
opens (mark c ∷ ts) = not (eqb c 58)

-- an operand that is there and whose tokens stay together: its text ends no line, its tokens have no comma
pub record Voiced (o : Operand) : Type 0 where
  pub there : (os : List Operand) → present (o ∷ os) ≡ o ∷ present os
  pub behind : (m : ℕ) → following m o ≡ m ∷ spelled o
  pub free : all_fail ends_line (spelled o) ≡ true
  pub uncut : all_fail is_comma (tokens_of (spelled o)) ≡ true
  pub begins : opens (tokens_of (spelled o)) ≡ true

-- the tokens of each operand that is there
unfoldable pub spoken_parts : List Operand → List (List Token)
spoken_parts [] = []
spoken_parts (o ∷ os) = tokens_of (spelled o) ∷ spoken_parts os

-- operands behind a word: they are found between commas, and make no label of the word
pub record Parted (os : List Operand) : Type 0 where
  pub begins : (m : ℕ) → is_run m ≡ false → begins_run (marks m os) ≡ false
  pub cuts : (part : List Token) → all_fail is_comma part ≡ true → cut_at is_comma (part ++ tokens_of (marks 44 os)) ≡ part ∷ spoken_parts (present os)
  pub lead : operand_parts (tokens_of (marks 32 os)) ≡ spoken_parts (present os)
  pub heads : (r : List ℕ) → headed_by (run r ∷ tokens_of (marks 32 os)) ≡ headed [] (run r ∷ tokens_of (marks 32 os))

pub parted-none : (os : List Operand) → ((m : ℕ) → marks m os ≡ []) → present os ≡ [] → Parted os
unfolding begins_run spoken_parts tokens_of begun_by headed_by
parted-none os h e =
    record {
      begins = λ m k. rw (h m);
      cuts = λ part k. rw (h 44, e, append-nil part) (cut-last is_comma part k);
      lead = rw (h 32, e);
      heads = λ r. rw (h 32);
    }

opened : (ts us : List Token) (r : List ℕ) → opens ts ≡ true → (operand_parts (ts ++ us) ≡ cut_at is_comma (ts ++ us)) × (headed_by (run r ∷ (ts ++ us)) ≡ headed [] (run r ∷ (ts ++ us)))
unfolding opens headed_by
opened [] us r h = absurd (false≢true h)
opened (run s ∷ ts) us r h = (refl, refl)
opened (mark c ∷ ts) us r h = (refl, rw (not-true (eqb c 58) h))

pub parted-next : (o : Operand) (os : List Operand) → Voiced o → Parted os → Parted (o ∷ os)
unfolding marks begins_run spoken_parts is_run is_digit is_capital capital_of is_blank ends_line
parted-next o os v p =
    let ts = tokens_of (spelled o) in
    let us = tokens_of (marks 44 os) in
    let text = spelled o ++ marks 44 os in
    let tokens : tokens_of text ≡ ts ++ us = tokens-apart (spelled o) (marks 44 os) v.free (p.begins 44 refl) in
    let behind : (m : ℕ) → following m o ++ marks 44 os ≡ m ∷ text = λ m. rw (v.behind m) in
    let first : tokens_of (following 32 o ++ marks 44 os) ≡ ts ++ us = ap tokens_of (behind 32) ∙ tokens-blank 32 text refl ∙ tokens in
    let later : tokens_of (following 44 o ++ marks 44 os) ≡ mark 44 ∷ (ts ++ us) = ap tokens_of (behind 44) ∙ tokens-mark 44 text refl refl refl ∙ ap (λ (l : List Token). mark 44 ∷ l) tokens in
    let all = v.there os in
    record {
      begins = λ m k. rw (behind m) k;
      cuts = λ part k. rw (later, all) (cut-first is_comma part (ts ++ us) (mark 44) k refl ∙ ap (λ (l : List (List Token)). part ∷ l) (p.cuts ts v.uncut));
      lead = rw (first, all) ((opened ts us [] v.begins).0 ∙ p.cuts ts v.uncut);
      heads = λ r. rw first (opened ts us r v.begins).1;
    }

-- so a line of a word and such operands says what the word and its tokens say, and has no label
pub line-said : (word : List ℕ) (os : List Operand) → is_name word ≡ true → Parted os → said_by (word ++ marks 32 os) ≡ record { name = []; statement = statement_of (run word ∷ tokens_of (marks 32 os)) }
unfolding said_by is_run is_digit is_capital capital_of
line-said word os h p =
    let n = name-tokens word h in
    let t : tokens_of (word ++ marks 32 os) ≡ run word ∷ tokens_of (marks 32 os) = tokens-apart word (marks 32 os) n.1 (p.begins 32 refl) ∙ ap (λ (l : List Token). l ++ tokens_of (marks 32 os)) n.0 in
    rw (t, p.heads word)
