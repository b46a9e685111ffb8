-- The rule of the decoder's table, proved once: the cell of each opcode stands for the rows that the summary has at it, and says whether two bytes more follow.
-- Assumes nothing.
use Rattle.std.proofs.Common.{Ok, Err}
use mathlib.Core.Path.{◌≡◌, refl, sym, ap, subst, ◌∙◌}
use mathlib.Core.Bool.{true}
use mathlib.Core.List.{List, [], ◌∷◌}
use Prim.Native.Nat.{ℕ, zero, suc, ◌+◌, ◌*◌, ◌/◌, ◌%◌, ◌^◌, ◌≤◌, ◌<◌}
use native.Mathlib.Nat.{add-zero, zero-add, add-suc, suc-add, le_of_suc-le-suc, not-suc-le-zero}
use native.Mathlib.Omega.{arith}
use borrow.Author.Tests.{ltb-true, eq-eqb}
use lib.Arith.{lt_of_le-ne}
use lib.Dec.{eqb, ltb, leb}
use lib.ListN.{length, get_or}
use Rattle.ground_rules.specs.Bits.{field_of, bit_of}
use Rattle.ground_rules.specs.Choice.{pick}
use Rattle.instruction_rules.specs.Pairs.{pair_of, columns}
use Rattle.instruction_rules.specs.Pairs.Column.{'0, '00, '000, '010, '011, '1SD}
use Rattle.instruction_rules.specs.declared.Pair.{Pair}
use Rattle.instruction_rules.specs.declared.Shape.TheVariants.{Nop, Sintr, Xfer, Wid}
use Rattle.instruction_rules.specs.declared.Unread.TheVariants.{NoInstruction}
use Rattle.instruction_rules.specs.Table.{SummaryRow, table}
use Rattle.instruction_rules.specs.Reading.{lookup}
use Rattle.instruction_rules.specs.Lengths.{more_by, two_by, offset_by, long_code, pair_length}
use Rattle.instruction_rules.proofs.TableLaws.{Avoids, rows_at, own-rows}
use Rattle.decode.specs.Cells.{cells, cell_of, control_rows, form_rows, cell_rows, long_cell, cell_length}

-- what a rule makes of each place of a list and the number there, counted from i
abbrev pub at_places : {A : Type 0} → (ℕ → ℕ → A) → ℕ → List ℕ → List A
at_places f i [] = []
at_places f i (x ∷ xs) = f i x ∷ at_places f (suc i) xs

-- two rules that agree over a whole list agree at each place of it
from : {A : Type 0} (f g : ℕ → ℕ → A) (i : ℕ) (xs : List ℕ) → at_places f i xs ≡ at_places g i xs → (k : ℕ) → k < length xs → f (i + k) (get_or xs k 0) ≡ g (i + k) (get_or xs k 0)
from f g i [] e k h = absurd (not-suc-le-zero h)
from f g i (x ∷ xs) e zero h = let here : f i x ≡ g i x = cc in rw add-zero here
from f g i (x ∷ xs) e (suc k) h =
    let rest : at_places f (suc i) xs ≡ at_places g (suc i) xs = cc in
    subst (λ (m : ℕ). f m (get_or xs k 0) ≡ g m (get_or xs k 0)) (suc-add i k ∙ sym (add-suc i k)) (from f g (suc i) xs rest k (le_of_suc-le-suc h))

pub at_each : {A : Type 0} (f g : ℕ → ℕ → A) (xs : List ℕ) → at_places f 0 xs ≡ at_places g 0 xs → (k : ℕ) → k < length xs → f k (get_or xs k 0) ≡ g k (get_or xs k 0)
at_each f g xs e k h = subst (λ (m : ℕ). f m (get_or xs k 0) ≡ g m (get_or xs k 0)) (zero-add k) (from f g 0 xs e k h)

-- the numbers below another, the highest first
abbrev pub down_from : ℕ → List ℕ
down_from zero = []
down_from (suc n) = n ∷ down_from n

-- the table held against the summary, all 64 opcodes at once
whole : at_places (λ (k cell : ℕ). rows_at k table) 0 cells ≡ at_places cell_rows 0 cells
unfolding cells table rows_at cell_rows form_rows control_rows
whole = refl

-- and against the codes with two bytes more
whole_long : at_places (λ (k cell : ℕ). long_code k) 0 cells ≡ at_places (λ (k cell : ℕ). long_cell cell) 0 cells
unfolding cells
whole_long = refl

-- and every cell is a byte
whole-small : at_places (λ (k cell : ℕ). ltb cell 256) 0 cells ≡ at_places (λ (k cell : ℕ). true) 0 cells
unfolding cells
whole-small = refl

pub cell-small : (k : ℕ) → k < 64 → get_or cells k 0 < 256
unfolding cells
cell-small k h = ltb-true (get_or cells k 0) 256 (at_each (λ (k cell : ℕ). ltb cell 256) (λ (k cell : ℕ). true) cells whole-small k h)

six-bits : (second : ℕ) → field_of second 2 6 < 64
unfolding field_of
six-bits second = omega arith

-- a pair is what the rows of its opcode's cell say
pub by-cell : (first second : ℕ) → lookup table (pair_of first second) ≡ lookup (cell_rows (pair_of first second).opcode (cell_of second)) (pair_of first second)
unfolding pair_of cell_of cells
by-cell first second =
    let p = pair_of first second in
    own-rows table p ∙ ap (λ (rs : List SummaryRow). lookup rs p) (at_each (λ (k cell : ℕ). rows_at k table) cell_rows cells whole (field_of second 2 6) (six-bits second))

-- and is a long code where the cell says so
pub long-by-cell : (first second : ℕ) → long_code (pair_of first second).opcode ≡ long_cell (cell_of second)
unfolding pair_of cell_of cells
long-by-cell first second =
    at_each (λ (k cell : ℕ). long_code k) (λ (k cell : ℕ). long_cell cell) cells whole_long (field_of second 2 6) (six-bits second)

-- so the cell gives the length
pub length-by-cell : (first second : ℕ) → pair_length (pair_of first second) ≡ cell_length (cell_of second) (pair_of first second)
unfolding pair_length cell_length
length-by-cell first second = rw (long-by-cell first second) (omega arith)

-- a field of two bits
pub two-bits : (x at : ℕ) → field_of x at 2 < 4
unfolding field_of
two-bits x at = omega arith

-- what dd and AA announce, with the pair, by their digits in one number, held against the rule at all sixteen at once
whole-announced : at_places (λ (k x : ℕ). 0x4454445433432232 / 2 ^ (4 * k) % 16) 0 (down_from 16)
    ≡ at_places (λ (k x : ℕ). 2 + offset_by (k % 4) + (more_by (eqb (k / 4) 1) + two_by (leb 2 (k / 4)))) 0 (down_from 16)
whole-announced = refl

pub announced-digit : (dd aa : ℕ) → dd < 4 → aa < 4 → 0x4454445433432232 / 2 ^ (4 * (4 * dd + aa)) % 16 ≡ 2 + offset_by aa + (more_by (eqb dd 1) + two_by (leb 2 dd))
announced-digit dd aa h k =
    let low : (4 * dd + aa) % 4 ≡ aa = omega (arith, h, k) in
    let high : (4 * dd + aa) / 4 ≡ dd = omega (arith, h, k) in
    rw (low, high) at (at_each (λ (k x : ℕ). 0x4454445433432232 / 2 ^ (4 * k) % 16) (λ (k x : ℕ). 2 + offset_by (k % 4) + (more_by (eqb (k / 4) 1) + two_by (leb 2 (k / 4)))) (down_from 16) whole-announced (4 * dd + aa) (omega (arith, h, k)))

-- a cell by its first digit
pub by_form : (p : Pair) (cell n : ℕ) → cell / 16 ≡ n → lookup (cell_rows p.opcode cell) p ≡ lookup (get_or (form_rows p.opcode (cell % 16)) n []) p
unfolding cell_rows
by_form p cell n e = ap (λ (m : ℕ). lookup (get_or (form_rows p.opcode (cell % 16)) m []) p) e

past : {A : Type 0} (xs : List A) (n : ℕ) (d : A) → length xs ≤ n → get_or xs n d ≡ d
past [] n d h = refl
past (x ∷ xs) zero d h = absurd (not-suc-le-zero h)
past (x ∷ xs) (suc n) d h = past xs n d (le_of_suc-le-suc h)

-- a number that is none of those below another is not below it
pub avoided : (n x : ℕ) → Avoids x (down_from n) → n ≤ x
avoided zero x a = omega arith
avoided (suc n) x a = lt_of_le-ne (avoided n x a.0) (λ e. a.1 (sym e))

-- a cell whose first digit is none of the sixteen stands for nothing
pub no-form : (p : Pair) (cell : ℕ) → Avoids (cell / 16) (down_from 16) → lookup (cell_rows p.opcode cell) p ≡ Err NoInstruction
unfolding lookup cell_rows form_rows
no-form p cell a =
    ap (λ (rs : List SummaryRow). lookup rs p) (past (form_rows p.opcode (cell % 16)) (cell / 16) [] (avoided 16 (cell / 16) a))

-- a pair with the opcode of the control codes is what one of the four says
pub control-codes : (p : Pair) → lookup (control_rows p.opcode) p ≡ pick (columns '010 '00 '00 '0 '00 p) (Ok Sintr) (pick (columns '000 '00 '00 '0 '00 p) (Ok Nop) (pick (columns '011 '00 '00 '0 '00 p) (Ok Xfer) (pick (columns '1SD '00 '00 '0 '00 p) (Ok (Wid (bit_of p.rrr 1) (bit_of p.rrr 0))) (Err NoInstruction))))
unfolding lookup control_rows
control-codes p = rw (eq-eqb p.opcode p.opcode refl)
