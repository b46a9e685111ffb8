-- Items of data from a place on, one after another.
-- Assumes nothing.
use mathlib.Core.Path.{◌≡◌, refl, sym, ap, ◌∙◌}
use mathlib.Core.Bool.{Bool, true, false, not, ◌&&◌, ◌||◌}
use mathlib.Core.List.{List, [], ◌∷◌, ◌++◌}
use Prim.Native.Nat.{ℕ, ◌+◌}
use lib.Dec.{leb}
use lib.ListN.{drop}
use Rattle.ground_rules.specs.Bytes.{low_byte}
use Rattle.ground_rules.specs.Choice.{pick}
use Rattle.listing_rules.specs.Forms.{word_bytes}
use Rattle.assembly_rules.specs.declared.Worth.{Worth}
use Rattle.assembly_rules.specs.Text.{Token, tokens_of, cut_at, is_comma}
use Rattle.assembly_rules.specs.Sums.{Label, is_sum, depth_of, sum_worth}
use Rattle.assembly_rules.specs.Statements.{is_byte, all_sums, all_low, items_known, items_stand, items_bytes, statement_number}
use Rattle.assembly_rules.specs.Statements.Statement.{items}
use Rattle.assembly_rules.proofs.WritingLaws.{both_left, both_right}
use Rattle.assembler_text.specs.Places.{stop_at, token_at}
use Rattle.assembler_forms.specs.Forms.{operand_tokens}
use Rattle.std.specs.Prelude.{Option, Some, None}
use Rattle.std.specs.Bool.{then_some}
use Rattle.assembler_forms.specs.Rows.{comma_at, ends_at, next_part}
use Rattle.assembler_forms.proofs.RowLaws.{comma-next, comma-none, cut-one, cut-more, some-row, ends-tokens, part-none, part-some}
use Rattle.assembler_bytes.specs.Laid.{data_at, first_item, laid_at, PartsAreSums}
use Rattle.assembler_bytes.proofs.WorthLaws.{worth-before}

-- what stands between commas from a place on
abbrev pub items_at : List ℕ → ℕ → List (List Token)
items_at text at = cut_at is_comma (tokens_of (drop at text))

-- none where the line ends
pub data-none : (text : List ℕ) (place : ℕ) → ends_at text place ≡ true → data_at text place ≡ []
unfolding ends_at
data-none text place h = rw (ends-tokens text place (token_at text place) refl h)

pub data-some : (text : List ℕ) (place : ℕ) → ends_at text place ≡ false → data_at text place ≡ items_at text place
unfolding ends_at
data-some text place h = some-row text place (token_at text place) refl h

pub item-last : (text : List ℕ) (at p : ℕ) → p ≡ stop_at text at → comma_at text p ≡ false → items_at text at ≡ operand_tokens text at ∷ []
item-last text at p e h = cut-one (tokens_of (drop at text)) (comma-none text at (ap (comma_at text) (sym e) ∙ h))

pub item-next : (text : List ℕ) (at p : ℕ) → p ≡ stop_at text at → comma_at text p ≡ true → items_at text at ≡ operand_tokens text at ∷ items_at text (p + 1)
item-next text at p e h = cut-more (tokens_of (drop at text)) (tokens_of (drop (p + 1) text)) (comma-next text at (ap (comma_at text) (sym e) ∙ h) ∙ rw (sym e))

pub item-first : (text : List ℕ) (at : ℕ) → (parts : List (List Token)) × (items_at text at ≡ operand_tokens text at ∷ parts)
item-first text at = go (comma_at text (stop_at text at)) refl
  where
    go : (b : Bool) → comma_at text (stop_at text at) ≡ b → (parts : List (List Token)) × (items_at text at ≡ operand_tokens text at ∷ parts)
    go true e = (items_at text (stop_at text at + 1), item-next text at _ refl e)
    go false e = ([], item-last text at _ refl e)

-- the items from a place on, if there is one
abbrev pub parts_to : List ℕ → Option ℕ → List (List Token)
parts_to text None = []
parts_to text (Some at) = items_at text at

item-split : (text : List ℕ) (at : ℕ) (next : Option ℕ) → next ≡ next_part text at → items_at text at ≡ operand_tokens text at ∷ parts_to text next
item-split text at None e = item-last text at _ refl (part-none text at (sym e))
item-split text at (Some n) e = let p = part-some text at n (sym e) in item-next text at _ refl p.comma ∙ rw p.here

pub items-begin : (text : List ℕ) (place : ℕ) → data_at text place ≡ parts_to text (first_item text place)
items-begin text place = go (ends_at text place) refl
  where
    go : (b : Bool) → ends_at text place ≡ b → data_at text place ≡ parts_to text (then_some (not b) place)
    go true e = data-none text place e
    go false e = data-some text place e

sums_first : (part : List Token) (parts : List (List Token)) → PartsAreSums (part ∷ parts) → (is_sum part ≡ true) × PartsAreSums parts
unfolding all_sums all_low
sums_first part parts g = (both_left (is_sum part) _ g.sums, record { sums = both_right (is_sum part) _ g.sums; low = both_right (leb (depth_of part) 8) (all_low parts) g.low })

pub sums_next : (part : List Token) (parts : List (List Token)) → PartsAreSums (part ∷ parts) → PartsAreSums parts
sums_next part parts g = (sums_first part parts g).1

-- an item's worth by its place
pub item-worth : (labels : List Label) (text : List ℕ) (at : ℕ) → PartsAreSums (items_at text at) → sum_worth labels (tokens_of (drop at text)) ≡ sum_worth labels (operand_tokens text at)
unfolding all_low
item-worth labels text at g =
    let f = item-first text at in
    let h : PartsAreSums (operand_tokens text at ∷ f.0) = rw f.1 at g in
    worth-before labels (tokens_of (drop at text)) (sums_first _ f.0 h).0 (both_left (leb (depth_of (operand_tokens text at)) 8) (all_low f.0) h.low)

-- the number of items behind others that may stand or not
abbrev pub number_from : List Label → Bool → Bool → List (List Token) → ℕ
number_from labels two stands parts = pick (items_known labels parts) (pick (stands && (two || items_stand labels parts)) 0 34) 33

pub number-all : (labels : List Label) (address : ℕ) (two : Bool) (parts : List (List Token)) → number_from labels two true parts ≡ statement_number labels address (items two parts)
unfolding statement_number
number-all labels address two parts = refl

pub number-none : (labels : List Label) (two stands : Bool) → number_from labels two stands [] ≡ pick stands 0 34
unfolding items_known items_stand
number-none labels two stands = go two stands
  where
    go : (a b : Bool) → ◌≡◌ {A = ℕ} (pick (b && (a || true)) 0 34) (pick b 0 34)
    go true true = refl
    go true false = refl
    go false true = refl
    go false false = refl

number-unknown : (labels : List Label) (two stands : Bool) (part : List Token) (parts : List (List Token)) → (sum_worth labels part).known ≡ false → number_from labels two stands (part ∷ parts) ≡ 33
unfolding items_known
number-unknown labels two stands part parts h = rw h

number-next : (labels : List Label) (two stands : Bool) (part : List Token) (parts : List (List Token)) → (sum_worth labels part).known ≡ true
    → number_from labels two (stands && (two || is_byte (sum_worth labels part).value)) parts ≡ number_from labels two stands (part ∷ parts)
unfolding items_known items_stand
number-next labels two stands part parts h = rw (h, go stands two (is_byte (sum_worth labels part).value) (items_stand labels parts))
  where
    go : (b t x y : Bool) → (b && (t || x)) && (t || y) ≡ b && (t || (x && y))
    go false t x y = refl
    go true true x y = refl
    go true false true y = refl
    go true false false y = refl

-- one item more, by what it is worth
module _ (labels : List Label) (text : List ℕ) (at : ℕ) (w : Worth) (g : PartsAreSums (items_at text at)) (e : w ≡ sum_worth labels (tokens_of (drop at text))) where
  item-is : w ≡ sum_worth labels (operand_tokens text at)
  item-is = e ∙ item-worth labels text at g

  pub turn-unknown : (two stands : Bool) → w.known ≡ false → 33 ≡ number_from labels two stands (items_at text at)
  turn-unknown two stands h =
      let f = item-first text at in
      sym (number-unknown labels two stands (operand_tokens text at) f.0 (ap (λ (x : Worth). x.known) (sym item-is) ∙ h)) ∙ ap (number_from labels two stands) (sym f.1)

  turn : (two stands byte : Bool) (parts : List (List Token)) → w.known ≡ true → byte ≡ is_byte w.value → items_at text at ≡ operand_tokens text at ∷ parts → number_from labels two (stands && (two || byte)) parts ≡ number_from labels two stands (items_at text at)
  turn two stands byte parts h b f =
      ap (λ (x : Bool). number_from labels two (stands && (two || x)) parts) (b ∙ ap (λ (x : Worth). is_byte x.value) item-is)
      ∙ number-next labels two stands (operand_tokens text at) parts (ap (λ (x : Worth). x.known) (sym item-is) ∙ h) ∙ ap (number_from labels two stands) (sym f)

  bytes-here : (two : Bool) (parts : List (List Token)) → items_at text at ≡ operand_tokens text at ∷ parts → pick two (word_bytes w.value) (low_byte w.value ∷ []) ++ items_bytes labels two parts ≡ items_bytes labels two (items_at text at)
  unfolding items_bytes
  bytes-here two parts f = ap (λ (x : Worth). pick two (word_bytes x.value) (low_byte x.value ∷ []) ++ items_bytes labels two parts) item-is ∙ ap (items_bytes labels two) (sym f)

  pub bytes-turn : (two : Bool) (next : Option ℕ) → next ≡ next_part text at
      → PartsAreSums (parts_to text next) × (pick two (word_bytes w.value) (low_byte w.value ∷ []) ++ items_bytes labels two (parts_to text next) ≡ items_bytes labels two (items_at text at))
  bytes-turn two next e = let n = item-split text at next e in (sums_next (operand_tokens text at) (parts_to text next) (rw n at g), bytes-here two (parts_to text next) n)

  pub number-turn : (two stands byte : Bool) (next : Option ℕ) → w.known ≡ true → byte ≡ is_byte w.value → next ≡ next_part text at
      → PartsAreSums (parts_to text next) × (number_from labels two (stands && (two || byte)) (parts_to text next) ≡ number_from labels two stands (items_at text at))
  number-turn two stands byte next h b e = let n = item-split text at next e in (sums_next (operand_tokens text at) (parts_to text next) (rw n at g), turn two stands byte (parts_to text next) h b n)

pub bytes-none : (labels : List Label) (two : Bool) → items_bytes labels two [] ≡ []
unfolding items_bytes
bytes-none labels two = refl

-- what is left of the items gives the number that all give, and laying them lays all
abbrev pub NumberStands : List Label → List ℕ → Bool → ℕ → Bool → Option ℕ → Type 0
NumberStands labels text two place stands item =
    PartsAreSums (data_at text place) → PartsAreSums (parts_to text item) × (number_from labels two stands (parts_to text item) ≡ number_from labels two true (data_at text place))

abbrev pub LayingStands : List Label → List ℕ → Bool → ℕ → List ℕ → List ℕ → ℕ → Option ℕ → Type 0
LayingStands labels text two place start code next item =
    PartsAreSums (data_at text place) → PartsAreSums (parts_to text item) × (laid_at code next (items_bytes labels two (parts_to text item)) ≡ laid_at start 0 (items_bytes labels two (data_at text place)))
