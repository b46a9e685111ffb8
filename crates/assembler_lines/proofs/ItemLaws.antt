-- Data item by item, as a loop over the places between commas goes.
-- Assumes nothing.
use mathlib.Core.Path.{◌≡◌, refl, sym, ap, ◌∙◌}
use mathlib.Core.Bool.{Bool, true, false, ◌&&◌, false≢true}
use mathlib.Core.List.{List, [], ◌∷◌}
use Prim.Native.Nat.{ℕ, ◌+◌, ◌*◌, ◌≤◌, ◌<◌}
use native.Mathlib.Omega.{arith}
use lib.Dec.{ltb, leb}
use borrow.Author.Tests.{ltb-true, ltb-false}
use lib.ListN.{length, drop, drop_of_length-le}
use Rattle.ground_rules.specs.Choice.{pick}
use Rattle.assembly_rules.specs.Text.{Token, begun_by, tokens_of, is_comma, cut_at, before_comma}
use Rattle.assembly_rules.specs.Sums.{scan_from, is_sum, depth_of}
use Rattle.assembly_rules.specs.Statements.{operand_parts, all_sums, all_low, items_from, statement_size}
use Rattle.assembly_rules.specs.Statements.Statement.{items, refused}
use Rattle.assembler_text.specs.Places.{stop_at}
use Rattle.assembler_forms.specs.Forms.{operand_tokens}
use Rattle.std.specs.Prelude.{Option, Some, None, Ok, Err}
use Rattle.assembler_forms.specs.declared.operands.Sum.{Sum}
use Rattle.assembler_forms.specs.Forms.{whole_sum}
use Rattle.assembler_forms.specs.Rows.{comma_at, next_part}
use Rattle.assembler_forms.proofs.FormLaws.{sum-none}
use Rattle.assembler_forms.proofs.FormLaws as forms
use Rattle.assembler_forms.proofs.RowLaws.{parts_from, parts-end, parts_more, part-ahead, part-none, part-some}
use Rattle.assembler_lines.specs.declared.bodies.Body.TheVariants.{Items}
use Rattle.assembler_lines.specs.declared.bodies.LineRefusal.TheVariants.{UnknownForm, TooDeep}
use Rattle.assembler_lines.specs.Bodies.{BodyIs}

-- what data comes to, by its parts
no-sums : (two : Bool) (parts : List (List Token)) → all_sums parts ≡ false → items_from two parts ≡ refused 31
unfolding items_from
no-sums two [] h = refl
no-sums two (part ∷ parts) h = rw h

some-sums : (two : Bool) (parts : List (List Token)) (b : Bool) → 0 < length parts → all_sums parts ≡ true → all_low parts ≡ b → items_from two parts ≡ pick b (items two parts) (refused 32)
unfolding items_from
some-sums two [] b l h k = absurd (omega arith)
some-sums two (part ∷ parts) b l h k = rw (h, k)

parts-of : (ts : List Token) → all_sums (cut_at is_comma ts) ≡ true → operand_parts ts ≡ cut_at is_comma ts
unfolding all_sums cut_at is_sum scan_from
parts-of [] h = absurd (false≢true h)
parts-of (t ∷ ts) h = refl

wrong-parts : (two : Bool) (ts : List Token) → all_sums (cut_at is_comma ts) ≡ false → items_from two (operand_parts ts) ≡ refused 31
unfolding items_from
wrong-parts two [] h = refl
wrong-parts two (t ∷ ts) h = no-sums two (cut_at is_comma (t ∷ ts)) h

-- items passed up to a place: how many, and whether all were low
pub record Passed (text : List ℕ) (at : ℕ) (low : Bool) (count i : ℕ) : Type 0 where
  pub sums : all_sums (parts_from text at) ≡ all_sums (parts_from text i)
  pub lows : all_low (parts_from text at) ≡ low && all_low (parts_from text i)
  pub many : length (parts_from text at) ≡ count + length (parts_from text i)
  pub far : at + 2 * count ≤ i

pub passed_none : (text : List ℕ) (at : ℕ) → Passed text at true 0 at
passed_none text at = record { sums = refl; lows = refl; many = omega arith; far = omega arith }

no-sum : is_sum [] ≡ false
unfolding is_sum scan_from
no-sum = refl

sum-some : (ts : List Token) → is_sum ts ≡ true → (t : Token) × ((us : List Token) × (ts ≡ t ∷ us))
sum-some [] h = absurd (false≢true (sym no-sum ∙ h))
sum-some (t ∷ ts) h = (t, (ts, refl))

and-three : (a b c : Bool) → a && (b && c) ≡ (a && b) && c
and-three true b c = refl
and-three false b c = refl

pub and-true : (b : Bool) → b && true ≡ b
and-true true = refl
and-true false = refl

-- all items passed
pub record Done (text : List ℕ) (at : ℕ) (low : Bool) (count : ℕ) : Type 0 where
  pub sums : all_sums (parts_from text at) ≡ true
  pub lows : all_low (parts_from text at) ≡ low
  pub many : length (parts_from text at) ≡ count
  pub some : 0 < count
  pub far : at + 2 * count ≤ length text + 1

-- the same by the place of the next item
abbrev pub PassedTo : List ℕ → ℕ → Bool → ℕ → Option ℕ → Type 0
PassedTo text at low count (Some i) = Passed text at low count i
PassedTo text at low count None = Done text at low count

sum-here : (text : List ℕ) (i : ℕ) → is_sum (operand_tokens text i) ≡ true → i < length text
unfolding tokens_of begun_by before_comma
sum-here text i h = go (ltb i (length text)) refl
  where
    go : (b : Bool) → ltb i (length text) ≡ b → i < length text
    go true e = ltb-true i (length text) e
    go false e = absurd (false≢true (sym (ap (λ (cs : List ℕ). is_sum (before_comma (tokens_of cs))) (drop_of_length-le text (ltb-false i (length text) e)) ∙ no-sum) ∙ h))

module _ (text : List ℕ) (at i count : ℕ) (low : Bool) (so : Passed text at low count i) where
  -- one that is no sum
  pub items-wrong : (two : Bool) → whole_sum text i ≡ None → BodyIs text (Err UnknownForm) (items_from two (operand_parts (tokens_of (drop at text))))
  unfolding all_sums
  items-wrong two h = (wrong-parts two (tokens_of (drop at text)) (so.sums ∙ go (comma_at text p) refl), omega arith)
    where
      p : ℕ
      p = stop_at text i

      go : (b : Bool) → comma_at text p ≡ b → all_sums (parts_from text i) ≡ false
      go true k = ap all_sums (parts_more text i p refl k) ∙ rw (sum-none text i h)
      go false k = ap all_sums (parts-end text i p refl k) ∙ rw (sum-none text i h)

  module _ (s : Sum) (e : whole_sum text i ≡ Some s) where
    h : is_sum (operand_tokens text i) ≡ true
    h = (forms.sum-some text i s e).sum

    d : s.low ≡ leb (depth_of (operand_tokens text i)) 8
    d = (forms.sum-some text i s e).low

    -- one more
    goes : (next : ℕ) → next_part text i ≡ Some next → Passed text at (low && s.low) (count + 1) next
    unfolding all_sums all_low
    goes next k =
        let part = part-some text i next k in
        let more = parts_more text i _ refl part.comma ∙ ap (λ (n : ℕ). operand_tokens text i ∷ parts_from text n) (sym part.here) in
        let some = sum-some (operand_tokens text i) h in
        record {
          sums = so.sums ∙ ap all_sums more ∙ rw h;
          lows = so.lows ∙ ap (λ (parts : List (List Token)). low && all_low parts) more ∙ rw (← d) (and-three low s.low (all_low (parts_from text next)));
          many = omega (arith, so.many, ap length more);
          far = omega (arith, so.far, part.here, part-ahead text i _ some.0 some.1.0 refl part.comma some.1.1);
        }

    -- the last one
    ends : next_part text i ≡ None → Done text at (low && s.low) (count + 1)
    unfolding all_sums all_low
    ends k =
        let more = parts-end text i _ refl (part-none text i k) in
        record {
          sums = so.sums ∙ ap all_sums more ∙ rw h;
          lows = so.lows ∙ ap (λ (parts : List (List Token)). low && all_low parts) more ∙ rw (← d) (ap (λ (b : Bool). low && b) (and-true s.low));
          many = so.many ∙ ap (λ (parts : List (List Token)). count + length parts) more;
          some = omega arith;
          far = omega (arith, so.far, sum-here text i h);
        }

    pub item-passed : (next : Option ℕ) → next ≡ next_part text i → PassedTo text at (low && s.low) (count + 1) next
    item-passed (Some next) k = goes next (sym k)
    item-passed None k = ends (sym k)

module _ (text : List ℕ) (at count : ℕ) (low : Bool) (so : Done text at low count) where
  same : operand_parts (tokens_of (drop at text)) ≡ parts_from text at
  same = parts-of (tokens_of (drop at text)) so.sums

  pub items-deep : (two : Bool) → low ≡ false → BodyIs text (Err TooDeep) (items_from two (operand_parts (tokens_of (drop at text))))
  items-deep two z = (ap (items_from two) same ∙ some-sums two (parts_from text at) false (omega (arith, so.many, so.some)) so.sums (so.lows ∙ z), omega arith)

  pub items-are : low ≡ true → (two : Bool) (size : ℕ) → size ≡ pick two 2 1 * count → BodyIs text (Ok (Items two at size)) (items_from two (operand_parts (tokens_of (drop at text))))
  unfolding statement_size
  items-are z two size f =
      let s : items_from two (operand_parts (tokens_of (drop at text))) ≡ items two (parts_from text at) = ap (items_from two) same ∙ some-sums two (parts_from text at) true (omega (arith, so.many, so.some)) so.sums (so.lows ∙ z) in
      record {
        same = s ∙ ap (items two) (sym same);
        sized = f ∙ ap (λ (n : ℕ). pick two 2 1 * n) (sym so.many) ∙ sym (ap statement_size s);
        sums = ap all_sums same ∙ so.sums;
        low = ap all_low same ∙ so.lows ∙ z;
      }
