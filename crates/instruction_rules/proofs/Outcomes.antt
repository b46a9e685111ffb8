-- What the answers to a pair are: 0, 3 or 4, and each exactly when the table says so.
-- Assumes nothing.
use Rattle.std.proofs.Common.{Ok, Err}
use mathlib.Core.Path.{◌≡◌, refl, sym, ap, subst, ◌∙◌}
use mathlib.Core.Bool.{Bool, true, false, not, ◌&&◌, ◌||◌, and-false, false≢true}
use mathlib.Core.List.{List, [], ◌∷◌}
use mathlib.Core.Logic.{◌⊎◌, inl, inr, ◌↔◌}
use Prim.Native.Nat.{ℕ}
use lib.Dec.{T, eqb}
use borrow.Author.Tests.{eqb-true, eq-eqb, eqb-false}
use Rattle.ground_rules.specs.Bits.{field_of, bit_of}
use Rattle.ground_rules.specs.Choice.{pick}
use Rattle.instruction_rules.specs.Pairs.{pair_of, columns}
use Rattle.instruction_rules.specs.Rows.{is_control}
use Rattle.instruction_rules.specs.declared.Pair.{Pair}
use Rattle.instruction_rules.specs.declared.Work.{Work}
use Rattle.instruction_rules.specs.declared.Shape.{Shape}
use Rattle.instruction_rules.specs.declared.Shape.TheVariants.{Wid, RegisterImmediate, Hlt, Call}
use Rattle.instruction_rules.specs.Decoded.{Decoded}
use Rattle.instruction_rules.specs.declared.Unread.TheVariants.{NoInstruction, ControlUsed}
use Rattle.instruction_rules.specs.Table.{SummaryRow, table}
use Rattle.instruction_rules.specs.Reading.{fits, lookup, decode_of, decoded_number, fits_some, uses_control}
use Rattle.instruction_rules.proofs.TableLaws.{left, right}

-- an answer's number is 0, 3 or 4
pub numbers : (d : Decoded) → (decoded_number d ≡ 0) ⊎ ((decoded_number d ≡ 3) ⊎ (decoded_number d ≡ 4))
numbers (Ok s) = inl refl
numbers (Err NoInstruction) = inr (inl refl)
numbers (Err ControlUsed) = inr (inr refl)

-- 0 is the number of an instruction and of nothing else, so no pair is both an instruction and refused
pub zero-exactly : (d : Decoded) → (decoded_number d ≡ 0) ↔ ((s : Shape) × (d ≡ Ok s))
zero-exactly (Ok s) = (λ e. (s, refl), λ e. refl)
zero-exactly (Err NoInstruction) = (λ e. absurd (eqb-false 3 0 refl e), λ e. ap decoded_number e.1)
zero-exactly (Err ControlUsed) = (λ e. absurd (eqb-false 4 0 refl e), λ e. ap decoded_number e.1)

unknown : (rs : List SummaryRow) (p : Pair) → eqb (decoded_number (lookup rs p)) 3 ≡ not (fits_some rs p)
unfolding lookup fits_some
unknown [] p = refl
unknown (r ∷ rs) p = go (fits r p) (r.control && is_control p) (unknown rs p)
  where
    go : (f u : Bool) → eqb (decoded_number (lookup rs p)) 3 ≡ not (fits_some rs p) → eqb (decoded_number (pick f (pick u (Err ControlUsed) (Ok (r.shape p))) (lookup rs p))) 3 ≡ not (f || fits_some rs p)
    go true true e = refl
    go true false e = refl
    go false u e = e

flip : (b c : Bool) → b ≡ not c → (b ≡ true) ↔ (c ≡ false)
flip b true e = (λ t. sym t ∙ e, λ t. e ∙ ap not t)
flip b false e = (λ t. refl, λ t. e)

-- 3 is given exactly where the pair is of no row
pub three-exactly : (first second : ℕ) → (decoded_number (decode_of first second) ≡ 3) ↔ (fits_some table (pair_of first second) ≡ false)
unfolding decode_of
three-exactly first second =
    let p = pair_of first second in
    let n = decoded_number (lookup table p) in
    let f = flip (eqb n 3) (fits_some table p) (unknown table p) in
    (λ e. f.0 (eq-eqb n 3 e), λ e. eqb-true n 3 (f.1 e))

-- whether no row with the opcode of a row uses CC
spares : SummaryRow → List SummaryRow → Bool
spares r [] = true
spares r (s ∷ rs) = not (eqb s.opcode r.opcode && s.control) && spares r rs

-- whether no row uses CC that has the opcode of a row before it
apart : List SummaryRow → Bool
apart [] = true
apart (r ∷ rs) = spares r rs && apart rs

spared : (r : SummaryRow) (rs : List SummaryRow) (p : Pair) → p.opcode ≡ r.opcode → T (spares r rs) → uses_control rs p ≡ false
unfolding spares uses_control
spared r [] p e t = refl
spared r (s ∷ rs) p e t =
    let here = not (eqb s.opcode r.opcode && s.control) in
    let rest = spared r rs p e (right here (spares r rs) t) in
    go (eqb p.opcode s.opcode) refl s.control refl (left here (spares r rs) t) rest
  where
    go : (b : Bool) → eqb p.opcode s.opcode ≡ b → (c : Bool) → s.control ≡ c → T (not (eqb s.opcode r.opcode && c)) → uses_control rs p ≡ false → (b && columns s.rrr s.dd s.aa s.w s.mm p && c || uses_control rs p) ≡ false
    go false h c i u rest = rest
    go true h true i u rest = absurd (subst (λ (n : Bool). T (not (n && true))) (eq-eqb s.opcode r.opcode (sym (eqb-true p.opcode s.opcode h) ∙ e)) u)
    go true h false i u rest = rw and-false rest

-- what fits a row has its opcode
same-opcode : (r : SummaryRow) (p : Pair) → fits r p ≡ true → p.opcode ≡ r.opcode
same-opcode r p h = go (eqb p.opcode r.opcode) refl h
  where
    go : (b : Bool) → eqb p.opcode r.opcode ≡ b → (b && columns r.rrr r.dd r.aa r.w r.mm p) ≡ true → p.opcode ≡ r.opcode
    go true e t = eqb-true p.opcode r.opcode e
    go false e t = absurd (false≢true t)

used : (rs : List SummaryRow) (p : Pair) → T (apart rs) → eqb (decoded_number (lookup rs p)) 4 ≡ (uses_control rs p && is_control p)
unfolding lookup uses_control apart
used [] p t = refl
used (r ∷ rs) p t = go (fits r p) refl r.control (used rs p (right (spares r rs) (apart rs) t)) (left (spares r rs) (apart rs) t)
  where
    go : (f : Bool) → fits r p ≡ f → (c : Bool) → eqb (decoded_number (lookup rs p)) 4 ≡ (uses_control rs p && is_control p) → T (spares r rs) → eqb (decoded_number (pick f (pick (c && is_control p) (Err ControlUsed) (Ok (r.shape p))) (lookup rs p))) 4 ≡ ((f && c || uses_control rs p) && is_control p)
    go true h true e u = answered (is_control p)
      where
        answered : (b : Bool) → eqb (decoded_number (pick b (Err ControlUsed) (Ok (r.shape p)))) 4 ≡ b
        answered true = refl
        answered false = refl
    go true h false e u = rw (spared r rs p (same-opcode r p h) u)
    go false h c e u = e

both : (a b c : Bool) → a ≡ (b && c) → (a ≡ true) ↔ ((c ≡ true) × (b ≡ true))
both a true c e = (λ t. (sym e ∙ t, refl), λ t. e ∙ t.0)
both a false c e = (λ t. absurd (false≢true (sym e ∙ t)), λ t. absurd (false≢true t.1))

-- 4 is given exactly where RRR is 6 and the pair is of a row at which that is a use of CC
pub four-exactly : (first second : ℕ) → (decoded_number (decode_of first second) ≡ 4) ↔ (((pair_of first second).rrr ≡ 6) × (uses_control table (pair_of first second) ≡ true))
unfolding decode_of apart spares table
four-exactly first second =
    let p = pair_of first second in
    let n = decoded_number (lookup table p) in
    let f = both (eqb n 4) (uses_control table p) (is_control p) (used table p tt) in
    (λ e. let g = f.0 (eq-eqb n 4 e) in (eqb-true p.rrr 6 g.0, g.1), λ e. eqb-true n 4 (f.1 (eq-eqb p.rrr 6 e.0, e.1)))

-- some pairs: MOVI GA with a byte, MOVI BC with a word, JMP as ADDI to TP, HLT, WID of two words, and CALL with W 0
pub movi-byte : decode_of 0x08 0x30 ≡ Ok (RegisterImmediate Work.Mov 0 false)
unfolding decode_of lookup table pair_of field_of
movi-byte = refl

pub movi-word : decode_of 0x71 0x30 ≡ Ok (RegisterImmediate Work.Mov 3 true)
unfolding decode_of lookup table pair_of field_of
movi-word = refl

pub jump : decode_of 0x88 0x20 ≡ Ok (RegisterImmediate Work.Add 4 false)
unfolding decode_of lookup table pair_of field_of
jump = refl

pub halt : decode_of 0x20 0x48 ≡ Ok Hlt
unfolding decode_of lookup table pair_of field_of
halt = refl

pub wid-words : decode_of 0xE0 0x00 ≡ Ok (Wid true true)
unfolding decode_of lookup table pair_of field_of bit_of
wid-words = refl

pub call-byte : decode_of 0x88 0x9C ≡ Ok (Call (record { mm = 0; aa = 0; wide = false }) false)
unfolding decode_of lookup table pair_of field_of
call-byte = refl

-- and some that are none: ADDI with W 0 and two bytes of data, and the second pair of MOV M,M in the place of a first one
pub addi-uneven : decode_of 0x10 0x20 ≡ Err NoInstruction
unfolding decode_of lookup table pair_of field_of
addi-uneven = refl

pub second-first : decode_of 0x00 0xCC ≡ Err NoInstruction
unfolding decode_of lookup table pair_of field_of
second-first = refl
