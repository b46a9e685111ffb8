-- Operands as they are written have sums for their numbers and offsets.
-- Assumes nothing.
use mathlib.Core.Path.{◌≡◌, refl}
use mathlib.Core.Bool.{Bool, true, false, ◌&&◌}
use mathlib.Core.List.{List, [], ◌∷◌}
use Prim.Native.Nat.{ℕ}
use lib.Dec.{eqb, ltb}
use Rattle.ground_rules.specs.Choice.{pick}
use Rattle.assembly_rules.specs.Text.{Token}
use Rattle.assembly_rules.specs.Text.Token.{run, mark}
use Rattle.assembly_rules.specs.Sums.{register_number, is_sum}
use Rattle.assembly_rules.specs.Operands.{Written, closed_memory, ended_memory, indexed_memory, base_number, memory_behind, memory_from, alone_number, sum_from, operand_from, operands_from}
use Rattle.assembly_rules.specs.Operands.Written.{register, memory, value, nothing}
use Rattle.assembly_rules.proofs.WritingLaws.{both_left, both_right}
use Rattle.assembler_lines.specs.Bodies.{are_sums}

abbrev Good : Written → Type 0
Good w = are_sums (w ∷ []) ≡ true

either : (b : Bool) (x y : Written) → (b ≡ true → Good x) → Good y → Good (pick b x y)
either true x y h k = h refl
either false x y h k = k

none-good : Good nothing
unfolding are_sums
none-good = refl

plain-good : (mm aa : ℕ) → eqb aa 1 ≡ false → Good (memory mm aa [])
unfolding are_sums
plain-good mm aa h = rw h

sum-good : (ts : List Token) → is_sum ts ≡ true → Good (value ts)
unfolding are_sums
sum-good ts h = rw h

offset-good : (mm : ℕ) (ts : List Token) → is_sum ts ≡ true → Good (memory mm 1 ts)
unfolding are_sums
offset-good mm ts h = rw h

register-good : (r : ℕ) → Good (register r)
unfolding are_sums
register-good r = refl

from-good : (ts : List Token) → Good (sum_from ts)
from-good ts = either (ltb (alone_number ts) 8) _ _ (λ h. register-good (alone_number ts)) (either (is_sum ts) _ _ (sum-good ts) none-good)

closed-good : (mm : ℕ) (ts : List Token) → Good (closed_memory mm ts)
unfolding closed_memory
closed-good mm [] = plain-good mm 0 refl
closed-good mm (run r ∷ ts) = none-good
closed-good mm (mark c ∷ ts) = either (eqb c 46 && is_sum ts) _ _ (λ h. offset-good mm ts (both_right (eqb c 46) (is_sum ts) h)) none-good

ended-good : (mm : ℕ) (ts : List Token) → Good (ended_memory mm ts)
unfolding ended_memory
ended-good mm [] = none-good
ended-good mm (run r ∷ ts) = none-good
ended-good mm (mark c ∷ []) = either (eqb c 93) _ _ (λ h. plain-good mm 2 refl) none-good
ended-good mm (mark c ∷ run r ∷ ts) = none-good
ended-good mm (mark c ∷ mark d ∷ []) = either (eqb c 43 && eqb d 93) _ _ (λ h. plain-good mm 3 refl) none-good
ended-good mm (mark c ∷ mark d ∷ t ∷ ts) = none-good

indexed-good : (mm : ℕ) (ts : List Token) → Good (indexed_memory mm ts)
unfolding indexed_memory
indexed-good mm [] = none-good
indexed-good mm (mark c ∷ ts) = none-good
indexed-good mm (run r ∷ ts) = either (eqb (register_number r) 5) _ _ (λ h. ended-good mm ts) none-good

behind-good : (mm : ℕ) (ts : List Token) → Good (memory_behind mm ts)
unfolding memory_behind
behind-good mm [] = none-good
behind-good mm (run r ∷ ts) = none-good
behind-good mm (mark c ∷ ts) = either (eqb c 93) _ _ (λ h. closed-good mm ts) (either (eqb c 43) _ _ (λ h. indexed-good mm ts) none-good)

memory-good : (ts : List Token) → Good (memory_from ts)
unfolding memory_from
memory-good [] = none-good
memory-good (mark c ∷ ts) = none-good
memory-good (run r ∷ ts) = either (ltb (base_number (register_number r)) 4) _ _ (λ h. behind-good (base_number (register_number r)) ts) none-good

operand-good : (ts : List Token) → Good (operand_from ts)
unfolding operand_from
operand-good [] = none-good
operand-good (run r ∷ ts) = from-good (run r ∷ ts)
operand-good (mark c ∷ ts) = either (eqb c 91) _ _ (λ h. memory-good ts) (from-good (mark c ∷ ts))

one_more : (w : Written) (ws : List Written) → Good w → are_sums ws ≡ true → are_sums (w ∷ ws) ≡ true
unfolding are_sums
one_more (register r) ws h k = k
one_more (memory mm aa ts) ws h k = rw (both_left (pick (eqb aa 1) (is_sum ts) true) true h) k
one_more (value ts) ws h k = rw (both_left (is_sum ts) true h) k
one_more nothing ws h k = k

-- the operands between commas
pub operands-sums : (parts : List (List Token)) → are_sums (operands_from parts) ≡ true
unfolding are_sums operands_from
operands-sums [] = refl
operands-sums (part ∷ parts) = one_more (operand_from part) (operands_from parts) (operand-good part) (operands-sums parts)
