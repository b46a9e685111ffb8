-- Operands token by token: what the code's tests say of the tokens at a place, and the form that follows.
-- Assumes nothing.
use Rattle.std.specs.Prelude.{Option, Some, None}
use Rattle.std.specs.Bool.{then_some}
use mathlib.Core.Path.{◌≡◌, refl, sym, ap, subst, ◌∙◌}
use mathlib.Core.Bool.{Bool, true, false, ◌&&◌, false≢true}
use mathlib.Core.List.{List, [], ◌∷◌}
use Prim.Native.Nat.{ℕ, ◌≤◌, ◌<◌}
use native.Mathlib.Omega.{arith}
use lib.Dec.{eqb, ltb, leb}
use lib.ListN.{drop}
use borrow.Author.Tests.{ltb-true, eqb-true, eqb-false, eq-eqb, ne_eqb, lt-ltb, le-ltb, ltb-false}
use Rattle.ground_rules.specs.Choice.{pick}
use Rattle.assembly_rules.specs.declared.Scan.{Scan}
use Rattle.assembly_rules.specs.Text.{Token, capitals, tokens_of, before_comma}
use Rattle.assembly_rules.specs.Text.Token.{run, mark}
use Rattle.assembly_rules.specs.Sums.{register_number, is_sum, depth_of, is_whole, scan_from, scan_start}
use Rattle.assembly_rules.specs.Operands.{Written, closed_memory, ended_memory, indexed_memory, base_number, memory_behind, memory_from, operand_from, is_shallow}
use Rattle.assembly_rules.specs.Operands.Written.{register, memory, value, nothing}
use Rattle.assembly_rules.proofs.WritingLaws.{both_left, both_right}
use Rattle.assembly_rules.proofs.ScanLaws.{no-register-sum}
use Rattle.assembler_text.specs.declared.tokens.TokenFound.{TokenFound as Found}
use Rattle.assembler_text.specs.declared.tokens.TokenFound.TheVariants.{Run, Mark}
use Rattle.assembler_text.specs.Places.{between, token_at}
use Rattle.assembler_text.proofs.PlaceLaws.{no-tokens-there, run-tokens, mark-tokens, mark-lies, before-none, before-run, before-mark}
use Rattle.assembler_forms.specs.declared.operands.Named.{Named}
use Rattle.assembler_forms.specs.declared.operands.Sum.{Sum}
use Rattle.assembler_forms.specs.declared.operands.Indexing.TheVariants.{Plain, Indexed, Stepped}
use Rattle.assembler_forms.specs.declared.operands.Form.{Form}
use Rattle.assembler_forms.specs.declared.operands.Form.TheVariants.{Register, Memory, Offset, Value}
use Rattle.assembler_forms.specs.Forms.{mark_by, past_mark, stops_by, stops_at, named, register_by, register_at, base_at, operand_tokens, whole_sum, Formed}

-- the tokens of an operand by the token found at its place: none, a run, or a character that is no comma
pub data Begins (text : List ℕ) (at : ℕ) : Option Found → Type 0 where
  ended : operand_tokens text at ≡ [] → Begins text at None
  comma : {next : ℕ} {c : ℕ} → c ≡ 44 → operand_tokens text at ≡ [] → Begins text at (Some (Mark c next))
  word : {from to : ℕ} → operand_tokens text at ≡ run (capitals (between text from to)) ∷ operand_tokens text to → Begins text at (Some (Run from to))
  single : {c next : ℕ} → (c ≡ 44 → ⊥) → 0 < next → operand_tokens text at ≡ mark c ∷ operand_tokens text next → Begins text at (Some (Mark c next))

begins-by : (text : List ℕ) (at : ℕ) (f : Option Found) → token_at text at ≡ f → Begins text at f
begins-by text at None e = ended (ap before_comma (no-tokens-there text at e) ∙ before-none)
begins-by text at (Some (Run from to)) e = word (ap before_comma (run-tokens text at from to e) ∙ before-run (capitals (between text from to)) (tokens_of (drop to text)))
begins-by text at (Some (Mark c next)) e = go (eqb c 44) refl
  where
    go : (b : Bool) → eqb c 44 ≡ b → Begins text at (Some (Mark c next))
    go true h = comma (eqb-true c 44 h) (ap before_comma (mark-tokens text at c next e) ∙ before-mark c (tokens_of (drop next text)) true h)
    go false h = let l : 0 < next = omega (arith, (mark-lies text at c next e).0) in single (eqb-false c 44 h) l (ap before_comma (mark-tokens text at c next e) ∙ before-mark c (tokens_of (drop next text)) false h)

pub begins : (text : List ℕ) (at : ℕ) → Begins text at (token_at text at)
begins text at = begins-by text at (token_at text at) refl

-- whether tokens begin with a character by itself
abbrev pub head_is : ℕ → List Token → Bool
head_is c [] = false
head_is c (run r ∷ ts) = false
head_is c (mark d ∷ ts) = eqb d c

-- none is not some
pub no-some : {A B : Type 0} {x : A} → ◌≡◌ {A = Option A} None (Some x) → B
no-some {A = A} h = absurd (false≢true (ap is_there h))
  where
    is_there : Option A → Bool
    is_there None = false
    is_there (Some x) = true

pub some-same : {A : Type 0} {x y : A} → Some x ≡ Some y → x ≡ y
some-same h = cc

past_by : (text : List ℕ) (at c : ℕ) {f : Option Found} → Begins text at f → (c ≡ 44 → ⊥) → (next : ℕ) → mark_by c f ≡ Some next → operand_tokens text at ≡ mark c ∷ operand_tokens text next
past_by text at c (ended n) k next h = no-some h
past_by text at c (word n) k next h = no-some h
past_by text at c (comma {next = m} {c = d} z n) k next h = go (eqb d c) refl h
  where
    go : (t : Bool) → eqb d c ≡ t → pick t (Some m) None ≡ Some next → operand_tokens text at ≡ mark c ∷ operand_tokens text next
    go true e g = absurd (k (sym (eqb-true d c e) ∙ z))
    go false e g = no-some g
past_by text at c (single {c = d} {next = m} z l n) k next h = go (eqb d c) refl h
  where
    go : (t : Bool) → eqb d c ≡ t → pick t (Some m) None ≡ Some next → operand_tokens text at ≡ mark c ∷ operand_tokens text next
    go true e g = let q = some-same g in n ∙ rw (eqb-true d c e, q)
    go false e g = no-some g

pub past-some : (text : List ℕ) (at c : ℕ) → (c ≡ 44 → ⊥) → (next : ℕ) → past_mark text at c ≡ Some next → operand_tokens text at ≡ mark c ∷ operand_tokens text next
unfolding past_mark
past-some text at c k next h = past_by text at c (begins text at) k next h

past-no : (text : List ℕ) (at c : ℕ) {f : Option Found} → Begins text at f → mark_by c f ≡ None → head_is c (operand_tokens text at) ≡ false
past-no text at c (ended n) h = ap (head_is c) n
past-no text at c (comma z n) h = ap (head_is c) n
past-no text at c (word n) h = ap (head_is c) n
past-no text at c (single {c = d} {next = next} z l n) h = ap (head_is c) n ∙ go (eqb d c) refl h
  where
    go : (t : Bool) → eqb d c ≡ t → pick t (Some next) None ≡ None → eqb d c ≡ false
    go true e k = no-some (sym k)
    go false e k = e

pub past-none : (text : List ℕ) (at c : ℕ) → past_mark text at c ≡ None → head_is c (operand_tokens text at) ≡ false
unfolding past_mark
past-none text at c h = past-no text at c (begins text at) h

-- whether there are tokens
abbrev pub is_none : List Token → Bool
is_none [] = true
is_none (t ∷ ts) = false

stops-is : (text : List ℕ) (at : ℕ) {f : Option Found} → Begins text at f → is_none (operand_tokens text at) ≡ stops_by f
stops-is text at (ended n) = ap is_none n
stops-is text at (comma z n) = ap is_none n ∙ sym (eq-eqb _ 44 z)
stops-is text at (word n) = ap is_none n
stops-is text at (single z l n) = ap is_none n ∙ sym (ne_eqb _ 44 z)

pub stops-told : (text : List ℕ) (at : ℕ) → is_none (operand_tokens text at) ≡ stops_at text at
unfolding stops_at
stops-told text at = stops-is text at (begins text at)

-- the register of a run in front, 9 where none stands there
abbrev pub head_number : List Token → ℕ
head_number [] = 9
head_number (run r ∷ ts) = register_number r
head_number (mark c ∷ ts) = 9

-- a register in front, and none
pub record RunThere (text : List ℕ) (at : ℕ) (n : Named) : Type 0 where
  pub name : List ℕ
  pub tokens : operand_tokens text at ≡ run name ∷ operand_tokens text n.next
  pub number : register_number name ≡ n.number
  pub some : n.number < 9

register-there : (text : List ℕ) (at : ℕ) {f : Option Found} → Begins text at f → (n : Named) → register_by text f ≡ Some n → RunThere text at n
register-there text at (ended e) n h = no-some h
register-there text at (comma z e) n h = no-some h
register-there text at (single z l e) n h = no-some h
register-there text at (word {from = from} {to = to} e) n h = go (ltb number 9) refl h
  where
    number : ℕ
    number = register_number (capitals (between text from to))

    here : Named
    here = record { number = number; next = to }

    go : (b : Bool) → ltb number 9 ≡ b → named (pick b (Some number) None) to ≡ Some n → RunThere text at n
    go false l g = no-some g
    go true l g = let q : here ≡ n = some-same g in subst (RunThere text at) q (record { name = capitals (between text from to); tokens = e; number = refl; some = ltb-true number 9 l })

pub register-some : (text : List ℕ) (at : ℕ) (n : Named) → register_at text at ≡ Some n → RunThere text at n
unfolding register_at
register-some text at n h = register-there text at (begins text at) n h

register-not : (text : List ℕ) (at : ℕ) {f : Option Found} → Begins text at f → register_by text f ≡ None → 9 ≤ head_number (operand_tokens text at)
register-not text at (ended e) h = omega (arith, ap head_number e)
register-not text at (comma z e) h = omega (arith, ap head_number e)
register-not text at (single z l e) h = omega (arith, ap head_number e)
register-not text at (word {from = from} {to = to} e) h = go (ltb number 9) refl h
  where
    number : ℕ
    number = register_number (capitals (between text from to))

    go : (b : Bool) → ltb number 9 ≡ b → named (pick b (Some number) None) to ≡ None → 9 ≤ head_number (operand_tokens text at)
    go true l g = no-some (sym g)
    go false l g = omega (arith, ap head_number e, ltb-false number 9 l)

pub register-none : (text : List ℕ) (at : ℕ) → register_at text at ≡ None → 9 ≤ head_number (operand_tokens text at)
unfolding register_at
register-none text at h = register-not text at (begins text at) h

-- memory behind its bracket
module _ (mm : ℕ) where
  closed_none : (ts : List Token) → is_none ts ≡ true → closed_memory mm ts ≡ memory mm 0 []
  unfolding closed_memory
  closed_none [] h = refl
  closed_none (t ∷ ts) h = absurd (false≢true h)

  closed-other : (ts : List Token) → is_none ts ≡ false → head_is 46 ts ≡ false → closed_memory mm ts ≡ nothing
  unfolding closed_memory
  closed-other [] h k = absurd (false≢true (sym h))
  closed-other (run r ∷ ts) h k = refl
  closed-other (mark c ∷ ts) h k = rw k

  closed-offset : (ts : List Token) → closed_memory mm (mark 46 ∷ ts) ≡ pick (is_sum ts) (memory mm 1 ts) nothing
  unfolding closed_memory
  closed-offset ts = refl

  -- behind + IX
  ended-one : (ts : List Token) (b : Bool) → is_none ts ≡ b → ended_memory mm (mark 93 ∷ ts) ≡ pick b (memory mm 2 []) nothing
  unfolding ended_memory
  ended-one [] b h = rw (← h)
  ended-one (run r ∷ ts) b h = rw (← h)
  ended-one (mark d ∷ []) b h = rw (← h)
  ended-one (mark d ∷ t ∷ ts) b h = rw (← h)

  ended-two : (ts : List Token) (b : Bool) → is_none ts ≡ b → ended_memory mm (mark 43 ∷ mark 93 ∷ ts) ≡ pick b (memory mm 3 []) nothing
  unfolding ended_memory
  ended-two [] b h = rw (← h)
  ended-two (t ∷ ts) b h = rw (← h)

  ended-other : (ts : List Token) → head_is 93 ts ≡ false → head_is 43 ts ≡ false → ended_memory mm ts ≡ nothing
  unfolding ended_memory
  ended-other [] h k = refl
  ended-other (run r ∷ ts) h k = refl
  ended-other (mark c ∷ []) h k = rw h
  ended-other (mark c ∷ run r ∷ ts) h k = refl
  ended-other (mark c ∷ mark d ∷ []) h k = rw k
  ended-other (mark c ∷ mark d ∷ t ∷ ts) h k = refl

  ended-open : (ts : List Token) → head_is 93 ts ≡ false → ended_memory mm (mark 43 ∷ ts) ≡ nothing
  unfolding ended_memory
  ended-open [] h = refl
  ended-open (run r ∷ ts) h = refl
  ended-open (mark d ∷ []) h = rw h
  ended-open (mark d ∷ t ∷ ts) h = refl

  indexed-none : (ts : List Token) → (head_number ts ≡ 5 → ⊥) → indexed_memory mm ts ≡ nothing
  unfolding indexed_memory
  indexed-none [] h = refl
  indexed-none (mark c ∷ ts) h = refl
  indexed-none (run r ∷ ts) h = rw (ne_eqb (register_number r) 5 h)

  indexed-some : (r : List ℕ) (ts : List Token) → register_number r ≡ 5 → indexed_memory mm (run r ∷ ts) ≡ ended_memory mm ts
  unfolding indexed_memory
  indexed-some r ts h = rw (eq-eqb (register_number r) 5 h)

  with-other : (ts : List Token) → head_is 93 ts ≡ false → head_is 43 ts ≡ false → memory_behind mm ts ≡ nothing
  unfolding memory_behind
  with-other [] h k = refl
  with-other (run r ∷ ts) h k = refl
  with-other (mark c ∷ ts) h k = rw (h, k)

  with-closed : (ts : List Token) → memory_behind mm (mark 93 ∷ ts) ≡ closed_memory mm ts
  unfolding memory_behind
  with-closed ts = refl

  with-plus : (ts : List Token) → memory_behind mm (mark 43 ∷ ts) ≡ indexed_memory mm ts
  unfolding memory_behind
  with-plus ts = refl

-- forms that are no memory, and memory without an offset
pub form-none : (text : List ℕ) (w : Written) → w ≡ nothing → Formed text None w
unfolding is_shallow
form-none text w e = record { same = sym e; low = sym (ap is_shallow e) }

pub form-plain : (text : List ℕ) (mm : ℕ) (w : Written) → w ≡ memory mm 0 [] → Formed text (Some (Memory mm Plain)) w
unfolding is_shallow depth_of scan_from
form-plain text mm w e = record { same = sym e; low = sym (ap is_shallow e) }

pub form-indexed : (text : List ℕ) (mm : ℕ) (w : Written) → w ≡ memory mm 2 [] → Formed text (Some (Memory mm Indexed)) w
unfolding is_shallow depth_of scan_from
form-indexed text mm w e = record { same = sym e; low = sym (ap is_shallow e) }

pub form-stepped : (text : List ℕ) (mm : ℕ) (w : Written) → w ≡ memory mm 3 [] → Formed text (Some (Memory mm Stepped)) w
unfolding is_shallow depth_of scan_from
form-stepped text mm w e = record { same = sym e; low = sym (ap is_shallow e) }

-- a sum by its place
pub record SumThere (text : List ℕ) (place : ℕ) (s : Sum) : Type 0 where
  pub sum : is_sum (operand_tokens text place) ≡ true
  pub here : s.place ≡ place
  pub low : s.low ≡ leb (depth_of (operand_tokens text place)) 8

pub sum-some : (text : List ℕ) (place : ℕ) (s : Sum) → whole_sum text place ≡ Some s → SumThere text place s
unfolding whole_sum
sum-some text place s h = go (is_sum (operand_tokens text place)) refl h
  where
    it : Sum
    it = record { place = place; low = leb (depth_of (operand_tokens text place)) 8 }

    go : (b : Bool) → is_sum (operand_tokens text place) ≡ b → pick b (Some it) None ≡ Some s → SumThere text place s
    go true e g = let q : it ≡ s = some-same g in subst (SumThere text place) q (record { sum = e; here = refl; low = refl })
    go false e g = no-some g

pub sum-none : (text : List ℕ) (place : ℕ) → whole_sum text place ≡ None → is_sum (operand_tokens text place) ≡ false
unfolding whole_sum
sum-none text place h = go (is_sum (operand_tokens text place)) refl h
  where
    it : Sum
    it = record { place = place; low = leb (depth_of (operand_tokens text place)) 8 }

    go : (b : Bool) → is_sum (operand_tokens text place) ≡ b → pick b (Some it) None ≡ None → b ≡ false
    go true e g = no-some (sym g)
    go false e g = refl

pub form-offset : (text : List ℕ) (mm place : ℕ) (s : Sum) (w : Written) → SumThere text place s → w ≡ memory mm 1 (operand_tokens text place) → Formed text (Some (Offset mm s)) w
unfolding is_shallow
form-offset text mm place s w t e = record { same = rw t.here (sym e); low = t.low ∙ sym (ap is_shallow e) }

pub form-value : (text : List ℕ) (place : ℕ) (s : Sum) (w : Written) → SumThere text place s → w ≡ value (operand_tokens text place) → Formed text (Some (Value s)) w
unfolding is_shallow
form-value text place s w t e = record { same = rw t.here (sym e); low = t.low ∙ sym (ap is_shallow e) }

pub form-register : (text : List ℕ) (r : ℕ) (w : Written) → w ≡ register r → Formed text (Some (Register r)) w
unfolding is_shallow
form-register text r w e = record { same = sym e; low = sym (ap is_shallow e) }

pub formed-as : (text : List ℕ) (f : Option Form) {v w : Written} → Formed text f v → v ≡ w → Formed text f w
formed-as text f h e = subst (Formed text f) e h

-- the same, by the code's tests at places of the text
module _ (text : List ℕ) (at mm : ℕ) where
  pub plain-stops : stops_at text at ≡ true → closed_memory mm (operand_tokens text at) ≡ memory mm 0 []
  plain-stops h = closed_none mm (operand_tokens text at) (stops-told text at ∙ h)

  pub plain_other : stops_at text at ≡ false → past_mark text at 46 ≡ None → closed_memory mm (operand_tokens text at) ≡ nothing
  plain_other h k = closed-other mm (operand_tokens text at) (stops-told text at ∙ h) (past-none text at 46 k)

  pub plain-offset : (next : ℕ) → past_mark text at 46 ≡ Some next → (b : Bool) → is_sum (operand_tokens text next) ≡ b → closed_memory mm (operand_tokens text at) ≡ pick b (memory mm 1 (operand_tokens text next)) nothing
  plain-offset next h b e = ap (closed_memory mm) (past-some text at 46 (λ z. omega arith) next h) ∙ closed-offset mm (operand_tokens text next) ∙ rw e

  pub indexed-not : register_at text at ≡ None → indexed_memory mm (operand_tokens text at) ≡ nothing
  indexed-not h = indexed-none mm (operand_tokens text at) (λ e. omega (arith, register-none text at h, e))

  pub indexed_other : (n : Named) → register_at text at ≡ Some n → (n.number ≡ 5 → ⊥) → indexed_memory mm (operand_tokens text at) ≡ nothing
  indexed_other n h k = let r = register-some text at n h in indexed-none mm (operand_tokens text at) (λ e. k (sym r.number ∙ sym (ap head_number r.tokens) ∙ e))

  pub indexed-is : (n : Named) → register_at text at ≡ Some n → n.number ≡ 5 → indexed_memory mm (operand_tokens text at) ≡ ended_memory mm (operand_tokens text n.next)
  indexed-is n h k = let r = register-some text at n h in ap (indexed_memory mm) r.tokens ∙ indexed-some mm r.name (operand_tokens text n.next) (r.number ∙ k)

  pub ended-closed : (next : ℕ) → past_mark text at 93 ≡ Some next → (b : Bool) → stops_at text next ≡ b → ended_memory mm (operand_tokens text at) ≡ pick b (memory mm 2 []) nothing
  ended-closed next h b e = ap (ended_memory mm) (past-some text at 93 (λ z. omega arith) next h) ∙ ended-one mm (operand_tokens text next) b (stops-told text next ∙ e)

  pub ended-not : past_mark text at 93 ≡ None → past_mark text at 43 ≡ None → ended_memory mm (operand_tokens text at) ≡ nothing
  ended-not h k = ended-other mm (operand_tokens text at) (past-none text at 93 h) (past-none text at 43 k)

  pub ended-grown-not : (n : ℕ) → past_mark text at 43 ≡ Some n → past_mark text n 93 ≡ None → ended_memory mm (operand_tokens text at) ≡ nothing
  ended-grown-not n h k = ap (ended_memory mm) (past-some text at 43 (λ z. omega arith) n h) ∙ ended-open mm (operand_tokens text n) (past-none text n 93 k)

  pub ended-grown : (n m : ℕ) → past_mark text at 43 ≡ Some n → past_mark text n 93 ≡ Some m → (b : Bool) → stops_at text m ≡ b → ended_memory mm (operand_tokens text at) ≡ pick b (memory mm 3 []) nothing
  ended-grown n m h k b e =
      ap (ended_memory mm) (past-some text at 43 (λ z. omega arith) n h ∙ ap (λ (ts : List Token). mark 43 ∷ ts) (past-some text n 93 (λ z. omega arith) m k)) ∙ ended-two mm (operand_tokens text m) b (stops-told text m ∙ e)

-- memory behind its opening bracket
from-not : (ts : List Token) → 3 < base_number (head_number ts) → memory_from ts ≡ nothing
unfolding memory_from
from-not [] h = refl
from-not (mark c ∷ ts) h = refl
from-not (run r ∷ ts) h = rw (le-ltb (base_number (register_number r)) 4 h)

from_is : (r : List ℕ) (ts : List Token) (n : ℕ) → register_number r ≡ n → base_number n ≤ 3 → memory_from (run r ∷ ts) ≡ memory_behind (base_number n) ts
unfolding memory_from
from_is r ts n e h = let l : base_number n < 4 = omega arith in rw (e, lt-ltb (base_number n) 4 l)

base-none : (n : ℕ) → base_at n ≡ None → base_number n ≡ 4
unfolding base_at
base-none n h = go (ltb n 3) (eqb n 8) h
  where
    go : (a b : Bool) → pick a (Some n) (pick b (Some 3) None) ≡ None → pick a n (pick b 3 4) ≡ 4
    go true b g = no-some (sym g)
    go false true g = no-some (sym g)
    go false false g = refl

base-some : (n mm : ℕ) → base_at n ≡ Some mm → (base_number n ≡ mm) × (mm ≤ 3)
unfolding base_at
base-some n mm h = go (ltb n 3) refl (eqb n 8) h
  where
    go : (a : Bool) → ltb n 3 ≡ a → (b : Bool) → pick a (Some n) (pick b (Some 3) None) ≡ Some mm → (pick a n (pick b 3 4) ≡ mm) × (mm ≤ 3)
    go true l b g = let q = some-same g in let z = ltb-true n 3 l in (q, omega arith)
    go false l true g = let q = some-same g in (q, omega arith)
    go false l false g = no-some g

module _ (text : List ℕ) (at : ℕ) where
  pub memory-unnamed : register_at text at ≡ None → memory_from (operand_tokens text at) ≡ nothing
  memory-unnamed h = let l = register-none text at h in let g = over (head_number (operand_tokens text at)) l in from-not (operand_tokens text at) (omega arith)
    where
      over : (n : ℕ) → 9 ≤ n → base_number n ≡ 4
      over n l = rw (le-ltb n 3 (omega arith), ne_eqb n 8 (λ z. omega arith))

  module _ (n : Named) (h : register_at text at ≡ Some n) where
    pub memory-not : base_at n.number ≡ None → memory_from (operand_tokens text at) ≡ nothing
    memory-not k = let r = register-some text at n h in let b = ap base_number (ap head_number r.tokens ∙ r.number) ∙ base-none n.number k in from-not (operand_tokens text at) (omega arith)

    module _ (mm : ℕ) (b : base_at n.number ≡ Some mm) where
      memory-is : memory_from (operand_tokens text at) ≡ memory_behind mm (operand_tokens text n.next)
      memory-is =
          let r = register-some text at n h in
          let m = base-some n.number mm b in
          ap memory_from r.tokens ∙ from_is r.name (operand_tokens text n.next) n.number r.number (omega (arith, m.0, m.1)) ∙ ap (λ (x : ℕ). memory_behind x (operand_tokens text n.next)) m.0

      pub memory-closed : (next : ℕ) → past_mark text n.next 93 ≡ Some next → memory_from (operand_tokens text at) ≡ closed_memory mm (operand_tokens text next)
      memory-closed next k = memory-is ∙ ap (memory_behind mm) (past-some text n.next 93 (λ z. omega arith) next k) ∙ with-closed mm (operand_tokens text next)

      pub memory-plus : (next : ℕ) → past_mark text n.next 43 ≡ Some next → memory_from (operand_tokens text at) ≡ indexed_memory mm (operand_tokens text next)
      memory-plus next k = memory-is ∙ ap (memory_behind mm) (past-some text n.next 43 (λ z. omega arith) next k) ∙ with-plus mm (operand_tokens text next)

      pub memory-other : past_mark text n.next 93 ≡ None → past_mark text n.next 43 ≡ None → memory_from (operand_tokens text at) ≡ nothing
      memory-other k l = memory-is ∙ with-other mm (operand_tokens text n.next) (past-none text n.next 93 k) (past-none text n.next 43 l)

-- an operand by its first token
operand-bracket : (ts : List Token) → operand_from (mark 91 ∷ ts) ≡ memory_from ts
unfolding operand_from
operand-bracket ts = refl

operand-alone : (r : List ℕ) (n : ℕ) → register_number r ≡ n → n < 8 → operand_from (run r ∷ []) ≡ register n
unfolding operand_from
operand-alone r n e h = rw (e, lt-ltb n 8 h)

no-sum : is_sum [] ≡ false
unfolding is_sum scan_from
no-sum = refl

no_more : (ts : List Token) → is_none ts ≡ true → ts ≡ []
no_more [] h = refl
no_more (t ∷ ts) h = absurd (false≢true h)

alone-over : (n : ℕ) → ltb n 8 && true ≡ false → ltb n 8 ≡ false
alone-over n h = go (ltb n 8) h
  where
    go : (b : Bool) → b && true ≡ false → b ≡ false
    go true k = k
    go false k = refl

register-sum : (r : List ℕ) (ts : List Token) (n : ℕ) → register_number r ≡ n → n < 9 → is_sum (run r ∷ ts) ≡ false
register-sum r ts n e h = no-register-sum r ts (subst (λ (k : ℕ). k < 9) (sym e) h)

operand-name : (r : List ℕ) (ts : List Token) (n : ℕ) → register_number r ≡ n → n < 9 → (ltb n 8 && is_none ts) ≡ false → operand_from (run r ∷ ts) ≡ nothing
unfolding operand_from
operand-name r [] n e h k = rw (e, alone-over n k, register-sum r [] n e h)
operand-name r (t ∷ ts) n e h k = rw (register-sum r (t ∷ ts) n e h)

operand-sum : (ts : List Token) → head_is 91 ts ≡ false → 9 ≤ head_number ts → operand_from ts ≡ pick (is_sum ts) (value ts) nothing
unfolding operand_from
operand-sum [] h k = rw no-sum
operand-sum (run r ∷ []) h k = let l = le-ltb (register_number r) 8 (omega arith) in rw l
operand-sum (run r ∷ t ∷ ts) h k = refl
operand-sum (mark c ∷ ts) h k = rw h

module _ (text : List ℕ) (at : ℕ) where
  pub operand-memory : (next : ℕ) → past_mark text at 91 ≡ Some next → operand_from (operand_tokens text at) ≡ memory_from (operand_tokens text next)
  operand-memory next h = ap operand_from (past-some text at 91 (λ z. omega arith) next h) ∙ operand-bracket (operand_tokens text next)

  module _ (n : Named) (h : register_at text at ≡ Some n) where
    pub operand-register : ltb n.number 8 && stops_at text n.next ≡ true → operand_from (operand_tokens text at) ≡ register n.number
    operand-register k =
        let r = register-some text at n h in
        let none = no_more (operand_tokens text n.next) (stops-told text n.next ∙ both_right (ltb n.number 8) (stops_at text n.next) k) in
        ap operand_from (r.tokens ∙ ap (λ (ts : List Token). run r.name ∷ ts) none) ∙ operand-alone r.name n.number r.number (ltb-true n.number 8 (both_left (ltb n.number 8) (stops_at text n.next) k))

    pub operand-not : ltb n.number 8 && stops_at text n.next ≡ false → operand_from (operand_tokens text at) ≡ nothing
    operand-not k =
        let r = register-some text at n h in
        ap operand_from r.tokens ∙ operand-name r.name (operand_tokens text n.next) n.number r.number r.some (ap (λ (b : Bool). ltb n.number 8 && b) (stops-told text n.next) ∙ k)

  pub operand-value : past_mark text at 91 ≡ None → register_at text at ≡ None → (b : Bool) → is_sum (operand_tokens text at) ≡ b → operand_from (operand_tokens text at) ≡ pick b (value (operand_tokens text at)) nothing
  operand-value h k b e = operand-sum (operand_tokens text at) (past-none text at 91 h) (register-none text at k) ∙ rw e

-- a whole sum by its scan
pub sum_told : (ts : List Token) (s : Scan) → s ≡ scan_from scan_start ts → is_whole s ≡ is_sum ts
unfolding is_sum
sum_told ts s e = ap is_whole e

pub depth-told : (ts : List Token) (s : Scan) → s ≡ scan_from scan_start ts → leb s.most 8 ≡ leb (depth_of ts) 8
unfolding depth_of
depth-told ts s e = ap (λ (x : Scan). leb x.most 8) e

pub whole-told : (text : List ℕ) (place : ℕ) (s : Scan) (b : Bool) → s ≡ scan_from scan_start (operand_tokens text place) → b ≡ is_whole s → then_some {T = Sum} b (record { place = place; low = leb s.most 8 }) ≡ whole_sum text place
unfolding whole_sum
whole-told text place s b e f = rw (f ∙ sum_told (operand_tokens text place) s e, depth-told (operand_tokens text place) s e) (go (is_sum (operand_tokens text place)))
  where
    it : Sum
    it = record { place = place; low = leb (depth_of (operand_tokens text place)) 8 }

    go : (b : Bool) → then_some b it ≡ pick b (Some it) None
    go true = refl
    go false = refl

-- an operand where a test holds, and none where it does not
pub form-if : (text : List ℕ) (f : Form) (w : Written) (b : Bool) → (b ≡ true → Formed text (Some f) w) → (b ≡ false → Formed text None w) → Formed text (then_some b f) w
form-if text f w true h k = h refl
form-if text f w false h k = k refl

-- a register that stands alone, and one that does not
pub form-alone : (text : List ℕ) (at : ℕ) (n : Named) → register_at text at ≡ Some n → (b : Bool) → b ≡ ltb n.number 8 && stops_at text n.next → Formed text (then_some b (Register n.number)) (operand_from (operand_tokens text at))
form-alone text at n h b e = form-if text (Register n.number) (operand_from (operand_tokens text at)) b (λ k. form-register text n.number _ (operand-register text at n h (sym e ∙ k))) (λ k. form-none text _ (operand-not text at n h (sym e ∙ k)))
