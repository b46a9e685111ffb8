-- Which tokens are which operand, one form each; an operand is what its tokens are in one of the forms, and nothing where they have none.
-- Assumes nothing.
use mathlib.Core.Path.{◌≡◌, refl, sym, ap, subst, ◌∙◌}
use mathlib.Core.Bool.{Bool, true, false, ◌&&◌, false≢true}
use mathlib.Core.List.{List, [], ◌∷◌}
use mathlib.Core.Logic.{◌⊎◌, inl, inr, ◌↔◌}
use Prim.Native.Nat.{ℕ, ◌<◌}
use native.Mathlib.Omega.{arith}
use lib.Dec.{eqb, ltb}
use lib.ListN.{get_or, get_or-append}
use borrow.Author.Tests.{eqb-true, ltb-true, lt-ltb}
use Rattle.ground_rules.specs.Choice.{pick}
use Rattle.listing_rules.specs.Characters.{ascii, same_text}
use Rattle.listing_rules.proofs.SpellingLaws.{each}
use Rattle.assembly_rules.specs.Text.{Token}
use Rattle.assembly_rules.specs.Text.Token.{run, mark}
use Rattle.assembly_rules.specs.Sums.{index_in, registers_named, register_number, scan_from, is_sum, role_of}
use Rattle.assembly_rules.specs.Trees.{Sum, sum_tokens}
use Rattle.assembly_rules.specs.Operands.{Written, closed_memory, ended_memory, indexed_memory, memory_behind, base_number, memory_from, alone_number, sum_from, operand_from}
use Rattle.assembly_rules.specs.Operands.Written.{register, memory, value, nothing}
use Rattle.assembly_rules.proofs.TestLaws.{fails, not-both}
use Rattle.assembly_rules.proofs.WritingLaws.{both_left, both_right}
use Rattle.assembly_rules.proofs.ScanLaws.{sum-exactly, tree-sum, index-named, bad-first, no-register-sum}

-- the registers by RRR, and the bases by MM
abbrev pub register_text : ℕ → List ℕ
register_text n = get_or (ascii "GA" ∷ ascii "GB" ∷ ascii "GC" ∷ ascii "BC" ∷ ascii "TP" ∷ ascii "IX" ∷ ascii "CC" ∷ ascii "MC" ∷ []) n []

abbrev pub base_text : ℕ → List ℕ
base_text mm = get_or (ascii "GA" ∷ ascii "GB" ∷ ascii "GC" ∷ ascii "PP" ∷ []) mm []

-- a register alone; memory: [b], [b].sum, [b+IX], [b+IX+]; a sum
pub data OperandOf : List Token → Written → Type 0 where
  alone : (n : ℕ) → n < 8 → OperandOf (run (register_text n) ∷ []) (register n)
  based : (mm : ℕ) → mm < 4 → OperandOf (mark 91 ∷ run (base_text mm) ∷ mark 93 ∷ []) (memory mm 0 [])
  offset : (mm : ℕ) → mm < 4 → (s : Sum) → OperandOf (mark 91 ∷ run (base_text mm) ∷ mark 93 ∷ mark 46 ∷ sum_tokens s) (memory mm 1 (sum_tokens s))
  indexed : (mm : ℕ) → mm < 4 → OperandOf (mark 91 ∷ run (base_text mm) ∷ mark 43 ∷ run (ascii "IX") ∷ mark 93 ∷ []) (memory mm 2 [])
  stepped : (mm : ℕ) → mm < 4 → OperandOf (mark 91 ∷ run (base_text mm) ∷ mark 43 ∷ run (ascii "IX") ∷ mark 43 ∷ mark 93 ∷ []) (memory mm 3 [])
  summed : (s : Sum) → OperandOf (sum_tokens s) (value (sum_tokens s))

-- names and numbers
pub number-named : (n : ℕ) → n < 8 → register_number (register_text n) ≡ n
unfolding register_number index_in same_text
number-named = each 8 (λ n. register_number (register_text n) ≡ n) (((((((((tt, refl), refl), refl), refl), refl), refl), refl), refl))

base-named : (mm : ℕ) → mm < 4 → base_number (register_number (base_text mm)) ≡ mm
unfolding register_number index_in same_text
base-named = each 4 (λ mm. base_number (register_number (base_text mm)) ≡ mm) ((((tt, refl), refl), refl), refl)

pub register-named : (r : List ℕ) (n : ℕ) → register_number r ≡ n → n < 9 → r ≡ get_or registers_named n []
unfolding register_number
register-named r n e h = index-named registers_named r (rw e h) ∙ ap (λ (x : ℕ). get_or registers_named x []) e

pub text-named : (r : List ℕ) → register_number r < 8 → r ≡ register_text (register_number r)
text-named r h = register-named r (register_number r) refl (omega arith) ∙ get_or-append (ascii "GA" ∷ ascii "GB" ∷ ascii "GC" ∷ ascii "BC" ∷ ascii "TP" ∷ ascii "IX" ∷ ascii "CC" ∷ ascii "MC" ∷ []) (ascii "PP" ∷ []) [] (register_number r) h

base-text : (r : List ℕ) → base_number (register_number r) < 4 → r ≡ base_text (base_number (register_number r))
base-text r h = go (ltb (register_number r) 3) refl (eqb (register_number r) 8) refl h
  where
    low : (n : ℕ) → n < 3 → get_or registers_named n [] ≡ base_text n
    low = each 3 (λ n. get_or registers_named n [] ≡ base_text n) (((tt, refl), refl), refl)

    go : (a : Bool) → ltb (register_number r) 3 ≡ a → (b : Bool) → eqb (register_number r) 8 ≡ b → pick a (register_number r) (pick b 3 4) < 4 → r ≡ base_text (pick a (register_number r) (pick b 3 4))
    go true p b q k = let l = ltb-true (register_number r) 3 p in register-named r (register_number r) refl (omega arith) ∙ low (register_number r) l
    go false p true q k = register-named r 8 (eqb-true (register_number r) 8 q) (omega arith)
    go false p false q k = absurd (omega arith)

-- what is told of an operand: nothing, or a form
abbrev Told : List Token → Written → Type 0
Told ts w = (w ≡ nothing) ⊎ OperandOf ts w

told-where : {ts : List Token} {w : Written} (b : Bool) → (b ≡ true → Told ts w) → Told ts (pick b w nothing)
told-where true h = h refl
told-where false h = inl refl

closed-told : (mm : ℕ) (h : mm < 4) (ts : List Token) → Told (mark 91 ∷ run (base_text mm) ∷ mark 93 ∷ ts) (closed_memory mm ts)
unfolding closed_memory
closed-told mm h [] = inr (based mm h)
closed-told mm h (run r ∷ ts) = inl refl
closed-told mm h (mark c ∷ ts) = told-where (eqb c 46 && is_sum ts) (λ e. let s = (sum-exactly ts).0 (both_right (eqb c 46) (is_sum ts) e) in rw (eqb-true c 46 (both_left (eqb c 46) (is_sum ts) e), ← s.1) (inr (offset mm h s.0)))

ended-told : (mm : ℕ) (h : mm < 4) (ts : List Token) → Told (mark 91 ∷ run (base_text mm) ∷ mark 43 ∷ run (ascii "IX") ∷ ts) (ended_memory mm ts)
unfolding ended_memory
ended-told mm h [] = inl refl
ended-told mm h (run r ∷ ts) = inl refl
ended-told mm h (mark c ∷ []) = told-where (eqb c 93) (λ e. rw (eqb-true c 93 e) (inr (indexed mm h)))
ended-told mm h (mark c ∷ run r ∷ ts) = inl refl
ended-told mm h (mark c ∷ mark d ∷ []) = told-where (eqb c 43 && eqb d 93) (λ e. rw (eqb-true c 43 (both_left (eqb c 43) (eqb d 93) e), eqb-true d 93 (both_right (eqb c 43) (eqb d 93) e)) (inr (stepped mm h)))
ended-told mm h (mark c ∷ mark d ∷ t ∷ ts) = inl refl

indexed-told : (mm : ℕ) (h : mm < 4) (ts : List Token) → Told (mark 91 ∷ run (base_text mm) ∷ mark 43 ∷ ts) (indexed_memory mm ts)
unfolding indexed_memory
indexed-told mm h [] = inl refl
indexed-told mm h (mark c ∷ ts) = inl refl
indexed-told mm h (run r ∷ ts) = told-where (eqb (register_number r) 5) (λ e. rw (register-named r 5 (eqb-true (register_number r) 5 e) (omega arith)) (ended-told mm h ts))

behind-told : (mm : ℕ) (h : mm < 4) (ts : List Token) → Told (mark 91 ∷ run (base_text mm) ∷ ts) (memory_behind mm ts)
unfolding memory_behind
behind-told mm h [] = inl refl
behind-told mm h (run r ∷ ts) = inl refl
behind-told mm h (mark c ∷ ts) =
    (elim (eqb c 93) as (λ b. eqb c 93 ≡ b → Told (mark 91 ∷ run (base_text mm) ∷ mark c ∷ ts) (pick b (closed_memory mm ts) (pick (eqb c 43) (indexed_memory mm ts) nothing))) [
      | true ↦ λ e. rw (eqb-true c 93 e) (closed-told mm h ts)
      | false ↦ λ e. told-where (eqb c 43) (λ f. rw (eqb-true c 43 f) (indexed-told mm h ts))
    ]) refl

memory-told : (ts : List Token) → Told (mark 91 ∷ ts) (memory_from ts)
unfolding memory_from
memory-told [] = inl refl
memory-told (mark c ∷ ts) = inl refl
memory-told (run r ∷ ts) = told-where (ltb (base_number (register_number r)) 4) (λ e.
    let l = ltb-true (base_number (register_number r)) 4 e in
    subst (λ (x : List ℕ). Told (mark 91 ∷ run x ∷ ts) (memory_behind (base_number (register_number r)) ts)) (sym (base-text r l)) (behind-told (base_number (register_number r)) l ts))

-- a register alone
alone-told : (ts : List Token) → alone_number ts < 8 → OperandOf ts (register (alone_number ts))
alone-told [] h = absurd (omega arith)
alone-told (mark c ∷ ts) h = absurd (omega arith)
alone-told (run r ∷ t ∷ ts) h = absurd (omega arith)
alone-told (run r ∷ []) h = subst (λ (x : List ℕ). OperandOf (run x ∷ []) (register (register_number r))) (sym (text-named r h)) (alone (register_number r) h)

sum_told : (ts : List Token) → Told ts (sum_from ts)
sum_told ts =
    (elim (ltb (alone_number ts) 8) as (λ b. ltb (alone_number ts) 8 ≡ b → Told ts (pick b (register (alone_number ts)) (pick (is_sum ts) (value ts) nothing))) [
      | true ↦ λ e. inr (alone-told ts (ltb-true (alone_number ts) 8 e))
      | false ↦ λ e. told-where (is_sum ts) (λ k. let s = (sum-exactly ts).0 k in rw (← s.1) (inr (summed s.0)))
    ]) refl

operand-told : (ts : List Token) → Told ts (operand_from ts)
unfolding operand_from
operand-told [] = inl refl
operand-told (run r ∷ ts) = sum_told (run r ∷ ts)
operand-told (mark c ∷ ts) =
    (elim (eqb c 91) as (λ b. eqb c 91 ≡ b → Told (mark c ∷ ts) (pick b (memory_from ts) (sum_from (mark c ∷ ts)))) [ true ↦ λ e. rw (eqb-true c 91 e) (memory-told ts) | false ↦ λ e. sum_told (mark c ∷ ts) ]) refl

-- a sum is neither a register nor memory
sum-operand : (ts : List Token) → is_sum ts ≡ true → operand_from ts ≡ value ts
unfolding operand_from is_sum scan_from role_of
sum-operand [] h = absurd (false≢true h)
sum-operand (run r ∷ ts) h = rw (fails (ltb (alone_number (run r ∷ ts)) 8) (λ e. not-both h (no-register-sum r ts (small ts (ltb-true (alone_number (run r ∷ ts)) 8 e)))), h)
  where
    small : (ts : List Token) → alone_number (run r ∷ ts) < 8 → register_number r < 9
    small [] l = omega (arith, l)
    small (t ∷ ts) l = absurd (omega arith)
sum-operand (mark c ∷ ts) h = rw (fails (eqb c 91) (λ e. not-both h (bad-first (mark c) ts (rw (eqb-true c 91 e)))), h)

-- tokens of a form are that operand
pub operand-is : {ts : List Token} {w : Written} → OperandOf ts w → operand_from ts ≡ w
unfolding operand_from memory_from memory_behind closed_memory indexed_memory ended_memory
operand-is (alone n h) = rw (number-named n h, lt-ltb n 8 h)
operand-is (based mm h) = rw (base-named mm h, lt-ltb mm 4 h)
operand-is (offset mm h s) = rw (base-named mm h, lt-ltb mm 4 h, tree-sum s)
operand-is (indexed mm h) = rw (base-named mm h, lt-ltb mm 4 h, number-named 5 (omega arith))
operand-is (stepped mm h) = rw (base-named mm h, lt-ltb mm 4 h, number-named 5 (omega arith))
operand-is (summed s) = sum-operand (sum_tokens s) (tree-sum s)

something : {ts : List Token} {w : Written} → OperandOf ts w → w ≡ nothing → false ≡ true
something (alone n h) e = cc
something (based mm h) e = cc
something (offset mm h s) e = cc
something (indexed mm h) e = cc
something (stepped mm h) e = cc
something (summed s) e = cc

-- some tokens are an operand exactly where they have its form, so no tokens have two
pub operand-exactly : (ts : List Token) (w : Written) → (w ≡ nothing → ⊥) → (operand_from ts ≡ w) ↔ OperandOf ts w
operand-exactly ts w n = (λ e. elim (operand-told ts) [ inl z ↦ absurd (n (sym e ∙ z)) | inr x ↦ subst (OperandOf ts) e x ], λ x. operand-is x)

-- and nothing exactly where they have none
pub operand-none : (ts : List Token) → (operand_from ts ≡ nothing) ↔ ((w : Written) → OperandOf ts w → ⊥)
operand-none ts = (λ e w x. false≢true (something x (sym (operand-is x) ∙ e)), λ h. elim (operand-told ts) [ inl z ↦ z | inr x ↦ absurd (h (operand_from ts) x) ])
