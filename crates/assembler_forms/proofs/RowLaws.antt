-- Operands in a row: what stands between commas, by their places.
-- Assumes nothing.
use Rattle.std.specs.Prelude.{Option, Some, None}
use mathlib.Core.Path.{◌≡◌, refl, sym, ap, ◌∙◌}
use mathlib.Core.Bool.{Bool, true, false, ◌||◌, false≢true}
use mathlib.Core.List.{List, [], ◌∷◌}
use Prim.Native.Nat.{ℕ, ◌+◌, ◌-◌, ◌≤◌, ◌<◌}
use native.Mathlib.Omega.{arith}
use lib.Dec.{eqb, ltb}
use lib.ListN.{length, get_or, drop, drop_of_length-le, length-drop}
use lib.Seq.{drop-drop, get_or-drop}
use borrow.Author.Tests.{eqb-true, ltb-true, ltb-false, lt-ltb, le-ltb}
use Rattle.ground_rules.specs.Choice.{pick}
use Rattle.assembly_rules.specs.Text.{capital_of, is_digit, is_capital, is_run, is_blank, ends_line, Token, run_before, begun_by, tokens_of, ahead, cut_at, is_comma, before_comma, from_comma}
use Rattle.assembly_rules.specs.Text.Token.{mark}
use Rattle.assembly_rules.specs.Operands.{Written, operand_from, operands_from}
use Rattle.assembly_rules.specs.Statements.{operand_parts}
use Rattle.assembly_rules.proofs.TextLaws.{tokens-blank, tokens-end, tokens-mark, rest_more}
use Rattle.assembly_rules.proofs.WritingLaws.{both_left, both_right}
use Rattle.assembler_text.specs.declared.tokens.TokenFound.{TokenFound as Found}
use Rattle.assembler_text.specs.declared.tokens.TokenFound.TheVariants.{Run, Mark}
use Rattle.assembler_text.specs.Places.{leading, goes_on, stop_at, token_at}
use Rattle.assembler_text.proofs.PlaceLaws.{from-here, lead-fails, no-tokens-there, run-tokens, mark-tokens}
use Rattle.assembler_forms.specs.declared.operands.Form.{Form}
use Rattle.assembler_forms.specs.Forms.{operand_tokens, Formed}
use Rattle.assembler_forms.proofs.FormLaws.{no-some, some-same}
use Rattle.assembler_forms.specs.Rows.{comma_at, ends_by, ends_at, next_part, left_behind, RowIs}
use Rattle.assembler_forms.specs.Rows.RowIs.{one, two, three, more}

-- tokens from a comma on: a run in front of them does not matter
from-run : (front : List ℕ) (rest : List Token) → from_comma (run_before front rest) ≡ from_comma rest
unfolding from_comma
from-run [] rest = refl
from-run (c ∷ cs) rest = refl

run-goes : (c : ℕ) → is_run c ≡ true → goes_on c ≡ true
unfolding ends_line is_run is_digit is_capital capital_of
run-goes c h = go (eqb c 44) refl (eqb c 10) refl (eqb c 59) refl
  where
    go : (x : Bool) → eqb c 44 ≡ x → (y : Bool) → eqb c 10 ≡ y → (z : Bool) → eqb c 59 ≡ z → pick (x || (y || z)) false true ≡ true
    go true p y q z r = absurd (false≢true (sym (ap is_run (eqb-true c 44 p)) ∙ h))
    go false p true q z r = absurd (false≢true (sym (ap is_run (eqb-true c 10 q)) ∙ h))
    go false p false q true r = absurd (false≢true (sym (ap is_run (eqb-true c 59 r)) ∙ h))
    go false p false q false r = refl

blank-goes : (c : ℕ) → is_blank c ≡ true → goes_on c ≡ true
unfolding is_blank ends_line
blank-goes c h = go (eqb c 32) refl (eqb c 9) refl (eqb c 13) refl h
  where
    go : (x : Bool) → eqb c 32 ≡ x → (y : Bool) → eqb c 9 ≡ y → (z : Bool) → eqb c 13 ≡ z → x || (y || z) ≡ true → goes_on c ≡ true
    go true p y q z r k = ap goes_on (eqb-true c 32 p)
    go false p true q z r k = ap goes_on (eqb-true c 9 q)
    go false p false q true r k = ap goes_on (eqb-true c 13 r)
    go false p false q false r k = absurd (false≢true k)

goes-not : (c : ℕ) → ends_line c ≡ true → goes_on c ≡ false
goes-not c h = go (eqb c 44)
  where
    go : (x : Bool) → pick (x || ends_line c) false true ≡ false
    go true = refl
    go false = rw h

end-run : (c : ℕ) → ends_line c ≡ true → is_run c ≡ false
end-run c h = go (is_run c) refl
  where
    go : (b : Bool) → is_run c ≡ b → b ≡ false
    go true e = absurd (false≢true (sym (goes-not c h) ∙ run-goes c e))
    go false e = refl

from-none : from_comma [] ≡ []
unfolding from_comma
from-none = refl

from-mark : (c : ℕ) (ts : List Token) (b : Bool) → eqb c 44 ≡ b → from_comma (mark c ∷ ts) ≡ pick b (mark c ∷ ts) (from_comma ts)
unfolding from_comma
from-mark c ts b e = rw e

begun-from : (cs : List ℕ) → from_comma (tokens_of cs) ≡ from_comma (begun_by cs).rest
unfolding tokens_of
begun-from cs = from-run (begun_by cs).front (begun_by cs).rest

lead-more : (c : ℕ) (cs : List ℕ) → goes_on c ≡ true → drop (leading goes_on (c ∷ cs)) (c ∷ cs) ≡ drop (leading goes_on cs) cs
unfolding leading
lead-more c cs h = rw h

lead-stop : (c : ℕ) (cs : List ℕ) → goes_on c ≡ false → drop (leading goes_on (c ∷ cs)) (c ∷ cs) ≡ c ∷ cs
unfolding leading
lead-stop c cs h = rw h

lead-nothing : tokens_of (drop (leading goes_on []) []) ≡ from_comma (tokens_of [])
unfolding leading tokens_of begun_by from_comma
lead-nothing = refl

-- the tokens at the next comma or the line's end are those from the comma on
lead-tokens : (cs : List ℕ) → tokens_of (drop (leading goes_on cs) cs) ≡ from_comma (tokens_of cs)
lead-tokens [] = lead-nothing
lead-tokens (c ∷ cs) = go (is_run c) refl (ends_line c) refl (is_blank c) refl (eqb c 44) refl (lead-tokens cs)
  where
    goes : (x : Bool) → eqb c 44 ≡ x → (y : Bool) → ends_line c ≡ y → goes_on c ≡ pick (x || y) false true
    goes x p y q = rw (p, q)

    go : (a : Bool) → is_run c ≡ a → (b : Bool) → ends_line c ≡ b → (d : Bool) → is_blank c ≡ d → (x : Bool) → eqb c 44 ≡ x
        → tokens_of (drop (leading goes_on cs) cs) ≡ from_comma (tokens_of cs) → tokens_of (drop (leading goes_on (c ∷ cs)) (c ∷ cs)) ≡ from_comma (tokens_of (c ∷ cs))
    go true p b q d r x s later = ap tokens_of (lead-more c cs (run-goes c p)) ∙ later ∙ begun-from cs ∙ sym (begun-from (c ∷ cs) ∙ ap from_comma (rest_more c cs p))
    go false p true q d r x s later = ap tokens_of (lead-stop c cs (goes x s true q ∙ either x)) ∙ tokens-end c cs p q ∙ sym (ap from_comma (tokens-end c cs p q) ∙ from-none)
      where
        either : (x : Bool) → pick (x || true) false true ≡ false
        either true = refl
        either false = refl
    go false p false q true r x s later = ap tokens_of (lead-more c cs (blank-goes c r)) ∙ later ∙ ap from_comma (sym (tokens-blank c cs r))
    go false p false q false r true s later = ap tokens_of (lead-stop c cs (goes true s false q)) ∙ tokens-mark c cs p q r ∙ sym (ap from_comma (tokens-mark c cs p q r) ∙ from-mark c (tokens_of cs) true s)
    go false p false q false r false s later = ap tokens_of (lead-more c cs (goes false s false q)) ∙ later ∙ sym (ap from_comma (tokens-mark c cs p q r) ∙ from-mark c (tokens_of cs) false s)

stop-tokens : (text : List ℕ) (at : ℕ) → tokens_of (drop (stop_at text at) text) ≡ from_comma (tokens_of (drop at text))
unfolding stop_at
stop-tokens text at = ap tokens_of (sym (drop-drop (leading goes_on (drop at text)) at text)) ∙ lead-tokens (drop at text)

-- a comma is a character by itself
no_run : is_run 44 ≡ false
unfolding is_run is_digit is_capital capital_of
no_run = refl

no_end : ends_line 44 ≡ false
unfolding ends_line
no_end = refl

no-blank : is_blank 44 ≡ false
unfolding is_blank
no-blank = refl

tokens_none : tokens_of [] ≡ []
unfolding tokens_of begun_by
tokens_none = refl

no-list : {A : Type 0} {t : Token} {ts : List Token} → t ∷ ts ≡ [] → A
no-list h = let z : ◌≡◌ {A = ℕ} 1 0 = ap (λ (l : List Token). is_some l) h in absurd (omega arith)
  where
    is_some : List Token → ℕ
    is_some [] = 0
    is_some (t ∷ ts) = 1

-- a character that ends an operand and is no comma ends the line
last-char : (c : ℕ) (cs : List ℕ) → goes_on c ≡ false → eqb c 44 ≡ false → tokens_of (c ∷ cs) ≡ []
last-char c cs h k = go (ends_line c) refl (rw k at h)
  where
    go : (b : Bool) → ends_line c ≡ b → pick (false || ends_line c) false true ≡ false → tokens_of (c ∷ cs) ≡ []
    go true e j = tokens-end c cs (end-run c e) e
    go false e j = absurd (false≢true (sym j ∙ rw e))

no-comma : (text : List ℕ) (p : ℕ) → ltb p (length text) ≡ true → comma_at text p ≡ false → eqb (get_or text p 0) 44 ≡ false
unfolding comma_at
no-comma text p e k = rw e at k

-- what the character at that place is
comma-tokens : (text : List ℕ) (at : ℕ) → comma_at text at ≡ true → tokens_of (drop at text) ≡ mark 44 ∷ tokens_of (drop (at + 1) text)
unfolding comma_at
comma-tokens text at h =
    let l = ltb-true at (length text) (both_left (ltb at (length text)) _ h) in
    let e = eqb-true (get_or text at 0) 44 (both_right (ltb at (length text)) _ h) in
    ap tokens_of (from-here text at l ∙ ap (λ (c : ℕ). c ∷ drop (at + 1) text) e) ∙ tokens-mark 44 (drop (at + 1) text) no_run no_end no-blank

-- a comma stands there, and the operands behind it follow
pub comma-next : (text : List ℕ) (at : ℕ) → comma_at text (stop_at text at) ≡ true → from_comma (tokens_of (drop at text)) ≡ mark 44 ∷ tokens_of (drop (stop_at text at + 1) text)
comma-next text at h = sym (stop-tokens text at) ∙ comma-tokens text (stop_at text at) h

stop-fails : (text : List ℕ) (at : ℕ) → stop_at text at < length text → goes_on (get_or text (stop_at text at) 0) ≡ false
unfolding stop_at
stop-fails text at l = ap goes_on (sym (get_or-drop at text (leading goes_on (drop at text)) 0)) ∙ lead-fails goes_on (drop at text) (omega (arith, length-drop at text))

-- or the line ends
pub comma-none : (text : List ℕ) (at : ℕ) → comma_at text (stop_at text at) ≡ false → from_comma (tokens_of (drop at text)) ≡ []
comma-none text at h = sym (stop-tokens text at) ∙ go (ltb p (length text)) refl h
  where
    p : ℕ
    p = stop_at text at

    go : (a : Bool) → ltb p (length text) ≡ a → comma_at text p ≡ false → tokens_of (drop p text) ≡ []
    go false e k = ap tokens_of (drop_of_length-le text (ltb-false p (length text) e)) ∙ tokens_none
    go true e k = let l = ltb-true p (length text) e in ap tokens_of (from-here text p l) ∙ last-char (get_or text p 0) (drop (p + 1) text) (stop-fails text at l) (no-comma text p e k)

-- operands between commas
pub cut-one : (ts : List Token) → from_comma ts ≡ [] → cut_at is_comma ts ≡ before_comma ts ∷ []
unfolding cut_at from_comma before_comma
cut-one [] h = refl
cut-one (t ∷ ts) h = go (is_comma t) refl h (cut-one ts)
  where
    go : (b : Bool) → is_comma t ≡ b → pick b (t ∷ ts) (from_comma ts) ≡ [] → (from_comma ts ≡ [] → cut_at is_comma ts ≡ before_comma ts ∷ []) → pick b ([] ∷ cut_at is_comma ts) (ahead t (cut_at is_comma ts)) ≡ pick b [] (t ∷ before_comma ts) ∷ []
    go true e k later = no-list k
    go false e k later = ap (ahead t) (later k)

pub cut-more : (ts us : List Token) → from_comma ts ≡ mark 44 ∷ us → cut_at is_comma ts ≡ before_comma ts ∷ cut_at is_comma us
unfolding cut_at from_comma before_comma
cut-more [] us h = no-list (sym h)
cut-more (t ∷ ts) us h = go (is_comma t) refl h (cut-more ts us)
  where
    go : (b : Bool) → is_comma t ≡ b → pick b (t ∷ ts) (from_comma ts) ≡ mark 44 ∷ us → (from_comma ts ≡ mark 44 ∷ us → cut_at is_comma ts ≡ before_comma ts ∷ cut_at is_comma us) → pick b ([] ∷ cut_at is_comma ts) (ahead t (cut_at is_comma ts)) ≡ pick b [] (t ∷ before_comma ts) ∷ cut_at is_comma us
    go true e k later = let z : ts ≡ us = cc in rw z
    go false e k later = ap (ahead t) (later k)

-- the parts from a place on; `p` is the place of the next comma
abbrev pub parts_from : List ℕ → ℕ → List (List Token)
parts_from text at = cut_at is_comma (tokens_of (drop at text))

pub parts-end : (text : List ℕ) (at p : ℕ) → p ≡ stop_at text at → comma_at text p ≡ false → parts_from text at ≡ operand_tokens text at ∷ []
parts-end text at p e h = cut-one (tokens_of (drop at text)) (comma-none text at (ap (comma_at text) (sym e) ∙ h))

pub parts_more : (text : List ℕ) (at p : ℕ) → p ≡ stop_at text at → comma_at text p ≡ true → parts_from text at ≡ operand_tokens text at ∷ parts_from text (p + 1)
parts_more text at p e h = cut-more (tokens_of (drop at text)) (tokens_of (drop (p + 1) text)) (comma-next text at (ap (comma_at text) (sym e) ∙ h) ∙ ap (λ (n : ℕ). mark 44 ∷ tokens_of (drop (n + 1) text)) (sym e))

-- a part that has tokens ends behind its first place
pub part-ahead : (text : List ℕ) (at p : ℕ) (t : Token) (ts : List Token) → p ≡ stop_at text at → comma_at text p ≡ true → operand_tokens text at ≡ t ∷ ts → at < p
unfolding stop_at before_comma
part-ahead text at p t ts e h k = go (ltb at p) refl
  where
    go : (b : Bool) → ltb at p ≡ b → at < p
    go true l = ltb-true at p l
    go false l =
        let same : p ≡ at = omega (arith, ltb-false at p l, e) in
        no-list (sym k ∙ ap before_comma (comma-tokens text at (ap (comma_at text) (sym same) ∙ h)))

-- the operands from a place on
abbrev pub row_from : List ℕ → ℕ → List Written
row_from text at = operands_from (parts_from text at)

pub comma-inside : (text : List ℕ) (at : ℕ) → comma_at text at ≡ true → at < length text
unfolding comma_at
comma-inside text at h = ltb-true at (length text) (both_left (ltb at (length text)) (eqb (get_or text at 0) 44) h)

-- the place of the next one, by its comma
pub part-none : (text : List ℕ) (at : ℕ) → next_part text at ≡ None → comma_at text (stop_at text at) ≡ false
unfolding next_part
part-none text at h = go (comma_at text (stop_at text at)) h
  where
    go : (b : Bool) → pick b (Some (stop_at text at + 1)) None ≡ None → b ≡ false
    go true g = no-some (sym g)
    go false g = refl

pub record PartAt (text : List ℕ) (at next : ℕ) : Type 0 where
  pub comma : comma_at text (stop_at text at) ≡ true
  pub here : next ≡ stop_at text at + 1

pub part-some : (text : List ℕ) (at next : ℕ) → next_part text at ≡ Some next → PartAt text at next
unfolding next_part
part-some text at next h = go (comma_at text (stop_at text at)) refl h
  where
    go : (b : Bool) → comma_at text (stop_at text at) ≡ b → pick b (Some (stop_at text at + 1)) None ≡ Some next → PartAt text at next
    go true e g = record { comma = e; here = sym (some-same g) }
    go false e g = no-some g

pub part-behind : (text : List ℕ) (at : ℕ) (next : Option ℕ) → next ≡ next_part text at → left_behind text next < 1 + (length text - at)
unfolding stop_at
part-behind text at None e = omega arith
part-behind text at (Some next) e = let p = part-some text at next (sym e) in omega (arith, p.here, comma-inside text _ p.comma)

pub row_ends : (text : List ℕ) (at : ℕ) → next_part text at ≡ None → row_from text at ≡ operand_from (operand_tokens text at) ∷ []
unfolding operands_from
row_ends text at h = ap operands_from (parts-end text at _ refl (part-none text at h))

pub row_goes : (text : List ℕ) (at next : ℕ) → next_part text at ≡ Some next → row_from text at ≡ operand_from (operand_tokens text at) ∷ row_from text next
unfolding operands_from
row_goes text at next h = let p = part-some text at next h in ap operands_from (parts_more text at _ refl p.comma) ∙ rw p.here

-- there is always one
pub row_first : (text : List ℕ) (at : ℕ) → (ws : List Written) × (row_from text at ≡ operand_from (operand_tokens text at) ∷ ws)
row_first text at = go (next_part text at) refl
  where
    go : (n : Option ℕ) → next_part text at ≡ n → (ws : List Written) × (row_from text at ≡ operand_from (operand_tokens text at) ∷ ws)
    go (Some next) e = (row_from text next, row_goes text at next e)
    go None e = ([], row_ends text at e)

-- the row from a place on, as the code has it
module _ (text : List ℕ) (at : ℕ) (f : Option Form) (a : Formed text f (operand_from (operand_tokens text at))) where
  pub row_one : next_part text at ≡ None → RowIs text 1 (f ∷ None ∷ None ∷ []) (row_from text at)
  row_one e = rw (row_ends text at e) (one a)

  module _ (p : ℕ) (e : next_part text at ≡ Some p) (g : Option Form) (b : Formed text g (operand_from (operand_tokens text p))) where
    pub row_two : next_part text p ≡ None → RowIs text 2 (f ∷ g ∷ None ∷ []) (row_from text at)
    row_two i = rw (row_goes text at p e, row_ends text p i) (two a b)

    module _ (q : ℕ) (i : next_part text p ≡ Some q) (h : Option Form) (c : Formed text h (operand_from (operand_tokens text q))) where
      pub row_three : next_part text q ≡ None → RowIs text 3 (f ∷ g ∷ h ∷ []) (row_from text at)
      row_three j = rw (row_goes text at p e, row_goes text p q i, row_ends text q j) (three a b c)

      pub row-over : (r : ℕ) → next_part text q ≡ Some r → RowIs text 4 (f ∷ g ∷ h ∷ []) (row_from text at)
      row-over r j = let later = row_first text r in rw (row_goes text at p e, row_goes text p q i, row_goes text q r j, later.1) (more a b c)

-- no operands where the line ends
pub ends-tokens : (text : List ℕ) (at : ℕ) (f : Option Found) → token_at text at ≡ f → ends_by f ≡ true → tokens_of (drop at text) ≡ []
ends-tokens text at None e h = no-tokens-there text at e
ends-tokens text at (Some (Run from to)) e h = absurd (false≢true h)
ends-tokens text at (Some (Mark c next)) e h = absurd (false≢true h)

nothing-there : operands_from (operand_parts []) ≡ []
unfolding operands_from
nothing-there = refl

pub row-empty : (text : List ℕ) (at : ℕ) → ends_at text at ≡ true → operands_from (operand_parts (tokens_of (drop at text))) ≡ []
unfolding ends_at
row-empty text at h = ap (λ (ts : List Token). operands_from (operand_parts ts)) (ends-tokens text at (token_at text at) refl h) ∙ nothing-there

pub some-row : (text : List ℕ) (at : ℕ) (f : Option Found) → token_at text at ≡ f → ends_by f ≡ false → operand_parts (tokens_of (drop at text)) ≡ cut_at is_comma (tokens_of (drop at text))
some-row text at None e h = absurd (false≢true (sym h))
some-row text at (Some (Run from to)) e h = rw (run-tokens text at from to e)
some-row text at (Some (Mark c next)) e h = rw (mark-tokens text at c next e)

pub row-some : (text : List ℕ) (at : ℕ) → ends_at text at ≡ false → operands_from (operand_parts (tokens_of (drop at text))) ≡ row_from text at
unfolding ends_at
row-some text at h = ap operands_from (some-row text at (token_at text at) refl h)

pub comma-here : (text : List ℕ) (at : ℕ) → at < length text → eqb (get_or text at 0) 44 ≡ comma_at text at
unfolding comma_at
comma-here text at h = rw (lt-ltb at (length text) h)

pub comma-past : (text : List ℕ) (at : ℕ) → length text ≤ at → false ≡ comma_at text at
unfolding comma_at
comma-past text at h = rw (le-ltb at (length text) h)
