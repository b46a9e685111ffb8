-- What is read at a place, as term and sum go.
-- Assumes nothing.
use mathlib.Core.Path.{◌≡◌, refl, sym, ap, subst, ◌∙◌}
use mathlib.Core.Bool.{Bool, true, false, false≢true}
use mathlib.Core.List.{List, [], ◌∷◌}
use Prim.Native.Nat.{ℕ, zero, suc, ◌-◌, ◌<◌}
use native.Mathlib.Omega.{arith}
use lib.Dec.{eqb}
use lib.ListN.{length, drop}
use borrow.Author.Tests.{eqb-false, eq-eqb, ne_eqb}
use Rattle.assembly_rules.specs.declared.Worth.{Worth}
use Rattle.assembly_rules.specs.Text.{Token, capitals, tokens_of}
use Rattle.assembly_rules.specs.Text.Token.{run, mark}
use Rattle.assembly_rules.specs.Sums.{Label, worth, combined_worth, Read, and_then, close_at, rest_with, sum_with, run_read, term_by, term_of, sum_within, worth_in, most_open, sum_worth}
use Rattle.assembly_rules.specs.Sums.Read.{read, deep, wrong}
use Rattle.assembly_rules.proofs.SumLaws.{Short, term-short, rest-stop, rest-term, rest-enough}
use Rattle.std.specs.declared.option.Option.{Option}
use Rattle.std.specs.declared.option.Option.TheVariants.{None, Some}
use Rattle.std.specs.declared.result.Result.TheVariants.{Ok}
use Rattle.assembler_text.specs.declared.tokens.TokenFound.{TokenFound as Found}
use Rattle.assembler_text.specs.declared.tokens.TokenFound.TheVariants.{Run, Mark}
use Rattle.assembler_text.specs.declared.values.Sign.{Sign}
use Rattle.assembler_text.specs.declared.values.Unsummed.{Unsummed}
use Rattle.assembler_text.specs.declared.values.Unsummed.TheVariants.{TooDeep, NoSum}
use Rattle.assembler_text.specs.Places.{between, token_at, mark_of, sign_at, lead_at}
use Rattle.assembler_text.specs.Reads.{unread, closed_as, worth_before}
use Rattle.assembler_text.proofs.PlaceLaws.{told, Stands, stands, run-tokens, mark-tokens, is-sign, sign-stands, lead-stands}

-- one term by its first token
module _ (labels : List Label) where
  pub term-none : (depth : ℕ) → term_of depth labels [] ≡ wrong
  unfolding term_of term_by
  term-none zero = refl
  term-none (suc depth) = refl

  pub term-run : (depth : ℕ) (r : List ℕ) (ts : List Token) → term_of depth labels (run r ∷ ts) ≡ run_read labels r ts
  unfolding term_of term_by
  term-run zero r ts = refl
  term-run (suc depth) r ts = refl

  pub term-other : (depth c : ℕ) (ts : List Token) → (c ≡ 40 → ⊥) → term_of depth labels (mark c ∷ ts) ≡ wrong
  unfolding term_of term_by
  term-other zero c ts h = rw (ne_eqb c 40 h)
  term-other (suc depth) c ts h = rw (ne_eqb c 40 h)

  pub term-deep : (depth c : ℕ) (ts : List Token) → c ≡ 40 → depth ≡ 0 → term_of depth labels (mark c ∷ ts) ≡ deep
  unfolding term_of term_by
  term-deep zero c ts h d = rw (eq-eqb c 40 h)
  term-deep (suc depth) c ts h d = absurd (omega arith)

  pub term-open : (depth c : ℕ) (ts : List Token) → c ≡ 40 → (depth ≡ 0 → ⊥) → term_of depth labels (mark c ∷ ts) ≡ and_then (sum_within (depth - 1) labels ts) close_at
  unfolding term_of term_by sum_within
  term-open zero c ts h d = absurd (d refl)
  term-open (suc depth) c ts h d = let e : suc depth - 1 ≡ depth = omega arith in rw (eq-eqb c 40 h, e)

-- nothing is done with what was not read
pub fails-then : (why : Unsummed) (next : Worth → List Token → Read) → and_then (unread why) next ≡ unread why
fails-then TooDeep next = refl
fails-then NoSum next = refl

-- what closes a parenthesis
abbrev pub closes_by : Option Found → Bool
closes_by None = false
closes_by (Some (Run from to)) = false
closes_by (Some (Mark c next)) = eqb c 41

module _ (text : List ℕ) (at : ℕ) (w : Worth) where
  not-closed : (f : Option Found) → Stands text at f → closes_by f ≡ false → close_at w (tokens_of (drop at text)) ≡ wrong
  unfolding told
  not-closed None s h = ap (close_at w) s.tokens
  not-closed (Some (Run from to)) s h = ap (close_at w) s.tokens
  not-closed (Some (Mark c next)) s h = ap (close_at w) s.tokens ∙ rw h

  pub close-wrong : closes_by (token_at text at) ≡ false → close_at w (tokens_of (drop at text)) ≡ wrong
  close-wrong h = not-closed (token_at text at) (stands text at) h

  pub close-reads : (c next : ℕ) → token_at text at ≡ Some (Mark c next) → c ≡ 41 → close_at w (tokens_of (drop at text)) ≡ closed_as text w (Ok next)
  unfolding closed_as
  close-reads c next e h = ap (close_at w) (mark-tokens text at c next e) ∙ rw (eq-eqb c 41 h)

-- whether a term may begin with a token
abbrev pub begins_term : Option Found → Bool
begins_term None = false
begins_term (Some (Run from to)) = true
begins_term (Some (Mark c next)) = eqb c 40

module _ (depth : ℕ) (labels : List Label) (text : List ℕ) (at : ℕ) where
  no-term : (f : Option Found) → Stands text at f → begins_term f ≡ false → term_of depth labels (tokens_of (drop at text)) ≡ wrong
  unfolding told
  no-term None s h = ap (term_of depth labels) s.tokens ∙ term-none labels depth
  no-term (Some (Run from to)) s h = absurd (false≢true (sym h))
  no-term (Some (Mark c next)) s h = ap (term_of depth labels) s.tokens ∙ term-other labels depth c (tokens_of (drop next text)) (eqb-false c 40 h)

  pub term-wrong : begins_term (token_at text at) ≡ false → term_of depth labels (tokens_of (drop at text)) ≡ wrong
  term-wrong h = no-term (token_at text at) (stands text at) h

  pub term-of-run : (from to : ℕ) → token_at text at ≡ Some (Run from to) → (w : Option Worth) → worth_before (tokens_of (drop to text)) w ≡ run_read labels (capitals (between text from to)) (tokens_of (drop to text)) → worth_before (tokens_of (drop to text)) w ≡ term_of depth labels (tokens_of (drop at text))
  term-of-run from to e w h = h ∙ sym (ap (term_of depth labels) (run-tokens text at from to e) ∙ term-run labels depth (capitals (between text from to)) (tokens_of (drop to text)))

  module _ (c next : ℕ) (e : token_at text at ≡ Some (Mark c next)) (opening : c ≡ 40) where
    there : tokens_of (drop at text) ≡ mark c ∷ tokens_of (drop next text)
    there = mark-tokens text at c next e

    pub term-too-deep : depth ≡ 0 → term_of depth labels (tokens_of (drop at text)) ≡ deep
    term-too-deep h = ap (term_of depth labels) there ∙ term-deep labels depth c (tokens_of (drop next text)) opening h

    pub term-inside : (depth ≡ 0 → ⊥) → term_of depth labels (tokens_of (drop at text)) ≡ and_then (sum_within (depth - 1) labels (tokens_of (drop next text))) close_at
    term-inside h = ap (term_of depth labels) there ∙ term-open labels depth c (tokens_of (drop next text)) opening h

-- a sum from a place on, behind a worth so far
abbrev pub goes_from : ℕ → List Label → List ℕ → Worth → ℕ → Read
goes_from depth labels text total i = rest_with (term_of depth labels) (length (tokens_of (drop i text))) total (tokens_of (drop i text))

module _ (depth : ℕ) (labels : List Label) (text : List ℕ) where
  first_of : (at : ℕ) → sum_within depth labels (tokens_of (drop at text)) ≡ and_then (term_of depth labels (tokens_of (drop (lead_at text at).1 text))) (λ x rest. rest_with (term_of depth labels) (length rest) (combined_worth (mark_of (lead_at text at).0) (worth 0 true) x) rest)
  unfolding sum_within sum_with
  first_of at = let l = lead-stands text at in rw (l.past, l.sign-is)

  -- the first term was not read
  pub sum-fails : (at : ℕ) (why : Unsummed) → term_of depth labels (tokens_of (drop (lead_at text at).1 text)) ≡ unread why → sum_within depth labels (tokens_of (drop at text)) ≡ unread why
  sum-fails at why e = first_of at ∙ ap (λ (x : Read). and_then x (λ x rest. rest_with (term_of depth labels) (length rest) (combined_worth (mark_of (lead_at text at).0) (worth 0 true) x) rest)) e ∙ fails-then why _

  -- or it was
  pub sum-starts : (at : ℕ) (w : Worth) (next : ℕ) → term_of depth labels (tokens_of (drop (lead_at text at).1 text)) ≡ read w (tokens_of (drop next text)) → goes_from depth labels text (combined_worth (mark_of (lead_at text at).0) (worth 0 true) w) next ≡ sum_within depth labels (tokens_of (drop at text))
  sum-starts at w next e = sym (first_of at ∙ ap (λ (x : Read). and_then x (λ x rest. rest_with (term_of depth labels) (length rest) (combined_worth (mark_of (lead_at text at).0) (worth 0 true) x) rest)) e)

  module _ (total : Worth) (i : ℕ) where
    -- no sign stands next
    pub sum-stops : sign_at text i ≡ None → goes_from depth labels text total i ≡ read total (tokens_of (drop i text))
    sum-stops h = rest-stop (term_of depth labels) (length (tokens_of (drop i text))) total (tokens_of (drop i text)) ((sign-stands text i).none h)

    -- a sign stands next
    module _ (s : Sign) (next : ℕ) (signed : sign_at text i ≡ Some (s, next)) where
      there-so : tokens_of (drop i text) ≡ mark (mark_of s) ∷ tokens_of (drop next text)
      there-so = (sign-stands text i).some s next signed

      one_more : goes_from depth labels text total i ≡ and_then (term_of depth labels (tokens_of (drop next text))) (λ x rest. rest_with (term_of depth labels) (length (tokens_of (drop next text))) (combined_worth (mark_of s) total x) rest)
      one_more =
          let ts = tokens_of (drop next text) in
          ap (λ (us : List Token). rest_with (term_of depth labels) (length us) total us) there-so ∙ rest-term (term_of depth labels) (length ts) total (mark_of s) ts (is-sign s)

      pub sum-breaks : (why : Unsummed) → term_of depth labels (tokens_of (drop next text)) ≡ unread why → goes_from depth labels text total i ≡ unread why
      sum-breaks why e = one_more ∙ ap (λ (x : Read). and_then x (λ x rest. rest_with (term_of depth labels) (length (tokens_of (drop next text))) (combined_worth (mark_of s) total x) rest)) e ∙ fails-then why _

      module _ (x : Worth) (behind : ℕ) (e : term_of depth labels (tokens_of (drop next text)) ≡ read x (tokens_of (drop behind text))) where
        shorter : length (tokens_of (drop behind text)) < length (tokens_of (drop next text))
        shorter = subst (Short (length (tokens_of (drop next text)))) e (term-short depth labels (tokens_of (drop next text)))

        pub sum_goes : goes_from depth labels text (combined_worth (mark_of s) total x) behind ≡ goes_from depth labels text total i
        sum_goes =
            let ts = tokens_of (drop next text) in
            let us = tokens_of (drop behind text) in
            rest-enough (term_of depth labels) (term-short depth labels) (length us) (length ts) (combined_worth (mark_of s) total x) us (omega arith) (omega (arith, shorter))
            ∙ sym (one_more ∙ ap (λ (x : Read). and_then x (λ x rest. rest_with (term_of depth labels) (length ts) (combined_worth (mark_of s) total x) rest)) e)

        -- and the tokens left are fewer
        pub sum_less : length (tokens_of (drop behind text)) < length (tokens_of (drop i text))
        sum_less = omega (arith, shorter, ap length there-so)

-- what a sum is worth, or nothing
pub worth-read : (labels : List Label) (ts : List Token) (w : Worth) (rest : List Token) → sum_within most_open labels ts ≡ read w rest → sum_worth labels ts ≡ w
unfolding sum_worth
worth-read labels ts w rest e = ap worth_in e

pub worth-failed : (labels : List Label) (ts : List Token) (why : Unsummed) → sum_within most_open labels ts ≡ unread why → sum_worth labels ts ≡ worth 0 false
unfolding sum_worth
worth-failed labels ts TooDeep e = ap worth_in e
worth-failed labels ts NoSum e = ap worth_in e
