-- A record in bytes by a table: a row for each part, in their order, says what it is of the record and in which form it lies. Where a part lies, what the bytes are, what they stand for and whether they are in range is computed from the rows.
use Rattle.std.specs.Prelude.{Bool, true, ◌&&◌, List, [], ◌∷◌, ◌++◌, ◌⊎◌, ◌≡◌, ℕ, zero, suc, ◌+◌, eqb, get_or, take, Option}
use Rattle.ground_rules.specs.Holdings.{held_number, held_from, is_held_number}
use Rattle.ground_rules.specs.declared.Mode.{Mode}
use Rattle.state_rules.specs.Fields.{little_end, little_in, flag_of, flag_in, is_flag, NoFlag, mode_byte, mode_in, is_mode, NoMode, is_code, PastWidth, NoHeld}

-- ---- forms

-- a form in which values lie in bytes: how many bytes; how many values a form of one byte has, 0 where it is no such; a value's bytes; the value that those from an offset on stand for; whether they are in range; and when they are not
pub record PartForm (A : Type 0) : Type 1 where
  pub width : ℕ
  pub values : ℕ
  pub bytes : A → List ℕ
  pub value : List ℕ → ℕ → A
  pub is : List ℕ → ℕ → Bool
  pub No : List ℕ → ℕ → Type 0

-- a number of so many bytes, any of that width
abbrev pub number_form : ℕ → PartForm ℕ
number_form width = record { width = width; values = 0; bytes = little_end width; value = little_in width; is = λ b at. true; No = λ b at. ⊥ }

-- any byte
abbrev pub byte_form : PartForm ℕ
byte_form = record { width = 1; values = 0; bytes = λ n. n ∷ []; value = λ b at. get_or b at 0; is = λ b at. true; No = λ b at. ⊥ }

-- a code that has so many values
abbrev pub code_form : ℕ → PartForm ℕ
code_form values = record {
  width = 1;
  values = values;
  bytes = λ n. n ∷ [];
  value = λ b at. get_or b at 0;
  is = λ b at. is_code b at values;
  No = λ b at. PastWidth b at values;
}

-- a truth value
abbrev pub flag_form : PartForm Bool
flag_form = record { width = 1; values = 2; bytes = λ on. flag_of on ∷ []; value = flag_in; is = is_flag; No = NoFlag }

-- a mode
abbrev pub mode_form : PartForm Mode
mode_form = record { width = 1; values = 3; bytes = λ mode. mode_byte mode ∷ []; value = mode_in; is = is_mode; No = NoMode }

-- what is held, as the number that stands for it
abbrev pub held_form : PartForm (Option ℕ)
held_form = record {
  width = 2;
  values = 0;
  bytes = λ held. little_end 2 (held_number held);
  value = λ b at. held_from (little_in 2 b at);
  is = λ b at. is_held_number (little_in 2 b at);
  No = NoHeld;
}

-- a byte that is always the same and stands for nothing
abbrev pub mark_form : ℕ → PartForm (Unit {0})
mark_form mark = record {
  width = 1;
  values = 0;
  bytes = λ nothing. mark ∷ [];
  value = λ b at. tt;
  is = λ b at. eqb (get_or b at 0) mark;
  No = λ b at. ¬ (get_or b at 0 ≡ mark);
}

-- ---- rows

-- a row for a part of a record: its type, what it is of the record, and its form
pub record TableRow (A : Type 0) : Type 1 where
  pub Value : Type 0
  pub part : A → Value
  pub form : PartForm Value

-- such a row
abbrev pub row_for : {A B : Type 0} → (A → B) → PartForm B → TableRow A
row_for {A} {B} part form = record { Value = B; part = part; form = form }

-- how many bytes the parts take
abbrev pub width_by : {A : Type 0} → List (TableRow A) → ℕ
width_by [] = 0
width_by (r ∷ rs) = r.form.width + width_by rs

-- the offset so many bytes behind another
abbrev pub place_from : ℕ → ℕ → ℕ
place_from at zero = at
place_from at (suc k) = at + suc k

-- a record's bytes
abbrev pub bytes_by : {A : Type 0} → List (TableRow A) → A → List ℕ
bytes_by [] a = []
bytes_by (r ∷ rs) a = r.form.bytes (r.part a) ++ bytes_by rs a

-- what makes a record of its parts
abbrev pub Makes : {A : Type 0} → List (TableRow A) → Type 0 → Type 0
Makes [] R = R
Makes (r ∷ rs) R = r.Value → Makes rs R

-- the record that is made of the parts that stand from so many bytes behind an offset on
abbrev pub made_by : {A R : Type 0} (rows : List (TableRow A)) → Makes rows R → List ℕ → ℕ → ℕ → R
made_by [] make b at k = make
made_by (r ∷ rs) make b at k = made_by rs (make (r.form.value b (place_from at k))) b at (k + r.form.width)

-- each part there is in its range
abbrev pub are_by : {A : Type 0} → List (TableRow A) → List ℕ → ℕ → ℕ → Bool
are_by [] b at k = true
are_by (r ∷ rs) b at k = r.form.is b (place_from at k) && are_by rs b at (k + r.form.width)

-- a part there is out of its range
abbrev pub NoneBy : {A : Type 0} → List (TableRow A) → List ℕ → ℕ → ℕ → Type 0
NoneBy [] b at k = ⊥
NoneBy (r ∷ rs) b at k = r.form.No b (place_from at k) ⊎ NoneBy rs b at (k + r.form.width)

-- where the part that stands behind so many others lies
abbrev pub part_place : {A : Type 0} → ℕ → List (TableRow A) → ℕ
part_place n rows = width_by (take n rows)

-- the form of a record, for a table that has it as a part: its bytes, what they stand for and the test of them, each by the record's own table
abbrev pub form_by : {A : Type 0} → List (TableRow A) → (A → List ℕ) → (List ℕ → ℕ → A) → (List ℕ → ℕ → Bool) → PartForm A
form_by rows bytes value is = record { width = width_by rows; values = 0; bytes = bytes; value = value; is = is; No = λ b at. NoneBy rows b at 0 }
