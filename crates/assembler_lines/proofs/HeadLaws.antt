-- The front of a line by the tokens that stand there.
-- Assumes nothing.
use mathlib.Core.Path.{◌≡◌, refl, sym, ap, subst, ◌∙◌}
use mathlib.Core.Bool.{Bool, true, false, not, ◌&&◌}
use mathlib.Core.List.{List, [], ◌∷◌}
use Prim.Native.Nat.{ℕ}
use lib.Dec.{eqb}
use lib.ListN.{get_or, drop}
use borrow.Author.Tests.{eqb-true, eqb-false, eq-eqb, ne_eqb}
use Rattle.ground_rules.specs.Choice.{pick}
use Rattle.assembly_rules.specs.Text.{capital_of, capitals, is_digit, Token, tokens_of}
use Rattle.assembly_rules.specs.Text.Token.{run, mark}
use Rattle.assembly_rules.specs.Sums.{begins_digit}
use Rattle.assembly_rules.specs.Statements.{headed, headed_by}
use Rattle.std.specs.Prelude.{Option, Some, None}
use Rattle.assembler_text.specs.declared.tokens.TokenFound.{TokenFound as Found}
use Rattle.assembler_text.specs.declared.tokens.TokenFound.TheVariants.{Run, Mark}
use Rattle.assembler_text.specs.Places.{between, token_at}
use Rattle.assembler_text.proofs.PlaceLaws.{no-tokens-there, run-tokens, mark-tokens, run_lies, run-name}
use Rattle.assembler_text.proofs.NameLaws.{part-digit}
use Rattle.assembler_forms.specs.Forms.{mark_by, past_mark}
use Rattle.assembler_forms.proofs.FormLaws.{no-some, some-same}
use Rattle.assembler_lines.specs.declared.bodies.NameSpan.{NameSpan}
use Rattle.assembler_lines.specs.declared.bodies.Head.{Head}
use Rattle.assembler_lines.specs.Bodies.{run_by, run_at, HeadIs}

-- a line without a label
abbrev pub plain_head : ℕ → Head
plain_head at = record { label = None; body = at }

headed-digit : (r : List ℕ) (ts : List Token) → begins_digit r ≡ true → headed_by (run r ∷ ts) ≡ headed [] (run r ∷ ts)
unfolding headed_by
headed-digit r [] h = refl
headed-digit r (run s ∷ ts) h = refl
headed-digit r (mark c ∷ ts) h = rw h (go (eqb c 58))
  where
    go : (b : Bool) → pick (b && not true) (headed r ts) (headed [] (run r ∷ mark c ∷ ts)) ≡ headed [] (run r ∷ mark c ∷ ts)
    go true = refl
    go false = refl

module _ (text : List ℕ) (at : ℕ) where
  unheaded : {ts : List Token} → tokens_of (drop at text) ≡ ts → headed_by ts ≡ headed [] ts → HeadIs text at (plain_head at)
  unheaded e k = record { line = ap headed_by e ∙ k ∙ ap (headed []) (sym e); label = tt }

  pub head-none : token_at text at ≡ None → HeadIs text at (plain_head at)
  unfolding headed_by
  head-none e = unheaded (no-tokens-there text at e) refl

  pub head-mark : (c next : ℕ) → token_at text at ≡ Some (Mark c next) → HeadIs text at (plain_head at)
  unfolding headed_by
  head-mark c next e = unheaded (mark-tokens text at c next e) refl

  -- behind a run
  module _ (from to : ℕ) (e : token_at text at ≡ Some (Run from to)) where
    pub head-digit : is_digit (capital_of (get_or text from 0)) ≡ true → HeadIs text at (plain_head at)
    head-digit h = let l = run_lies text at from to e in unheaded (run-tokens text at from to e) (headed-digit (capitals (between text from to)) (tokens_of (drop to text)) (part-digit text from to true l.1 l.2 h))

    behind : {ts : List Token} → tokens_of (drop to text) ≡ ts → tokens_of (drop at text) ≡ run (capitals (between text from to)) ∷ ts
    behind f = run-tokens text at from to e ∙ ap (λ (ts : List Token). run (capitals (between text from to)) ∷ ts) f

    pub head-alone : token_at text to ≡ None → HeadIs text at (plain_head at)
    unfolding headed_by
    head-alone f = unheaded (behind (no-tokens-there text to f)) refl

    pub head-two : (a b : ℕ) → token_at text to ≡ Some (Run a b) → HeadIs text at (plain_head at)
    unfolding headed_by
    head-two a b f = unheaded (behind (run-tokens text to a b f)) refl

    module _ (c next : ℕ) (f : token_at text to ≡ Some (Mark c next)) where
      pub head-other : (c ≡ 58 → ⊥) → HeadIs text at (plain_head at)
      unfolding headed_by
      head-other h = unheaded (behind (mark-tokens text to c next f)) (rw (ne_eqb c 58 h))

      pub head-label : is_digit (capital_of (get_or text from 0)) ≡ false → c ≡ 58 → HeadIs text at (record { label = Some (record { from = from; to = to }); body = next })
      unfolding headed_by
      head-label h k =
          let l = run_lies text at from to e in
          record { line = ap headed_by (behind (mark-tokens text to c next f)) ∙ rw (eq-eqb c 58 k, part-digit text from to false l.1 l.2 h); label = record { some = l.1; inside = l.2; name = run-name text from to l.3 } }

    -- no colon
    pub head-plain : past_mark text to 58 ≡ None → HeadIs text at (plain_head at)
    unfolding past_mark
    head-plain h = go (token_at text to) refl h
      where
        go : (f : Option Found) → token_at text to ≡ f → mark_by 58 f ≡ None → HeadIs text at (plain_head at)
        go None g k = head-alone g
        go (Some (Run a b)) g k = head-two a b g
        go (Some (Mark c next)) g k = other (eqb c 58) refl k
          where
            other : (b : Bool) → eqb c 58 ≡ b → pick b (Some next) None ≡ None → HeadIs text at (plain_head at)
            other true e m = no-some (sym m)
            other false e m = head-other c next g (eqb-false c 58 e)

    -- a colon
    pub head-named : (next : ℕ) → past_mark text to 58 ≡ Some next → is_digit (capital_of (get_or text from 0)) ≡ false → HeadIs text at (record { label = Some (record { from = from; to = to }); body = next })
    unfolding past_mark
    head-named next h d = go (token_at text to) refl h
      where
        go : (f : Option Found) → token_at text to ≡ f → mark_by 58 f ≡ Some next → HeadIs text at (record { label = Some (record { from = from; to = to }); body = next })
        go None g k = no-some k
        go (Some (Run a b)) g k = no-some k
        go (Some (Mark c n)) g k = other (eqb c 58) refl k
          where
            other : (b : Bool) → eqb c 58 ≡ b → pick b (Some n) None ≡ Some next → HeadIs text at (record { label = Some (record { from = from; to = to }); body = next })
            other true e m = let q = some-same m in subst (λ (x : ℕ). HeadIs text at (record { label = Some (record { from = from; to = to }); body = x })) q (head-label c n g d (eqb-true c 58 e))
            other false e m = no-some m

  -- no run
  pub head-bare : run_at text at ≡ None → HeadIs text at (plain_head at)
  unfolding run_at
  head-bare h = go (token_at text at) refl h
    where
      go : (f : Option Found) → token_at text at ≡ f → run_by f ≡ None → HeadIs text at (plain_head at)
      go None g k = head-none g
      go (Some (Run a b)) g k = no-some (sym k)
      go (Some (Mark c next)) g k = head-mark c next g

-- a run at a place
pub run-some : (text : List ℕ) (at : ℕ) (s : NameSpan) → run_at text at ≡ Some s → token_at text at ≡ Some (Run s.from s.to)
unfolding run_at
run-some text at s h = go (token_at text at) h
  where
    go : (f : Option Found) → run_by f ≡ Some s → f ≡ Some (Run s.from s.to)
    go None k = no-some k
    go (Some (Mark c next)) k = no-some k
    go (Some (Run a b)) k = let q = some-same k in ap (λ (x : NameSpan). Some (Run x.from x.to)) q
