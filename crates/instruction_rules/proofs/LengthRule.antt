-- How many bytes an instruction has, by the table's rows: the rule by the fields of its first pair.
-- Assumes nothing.
use Rattle.std.proofs.Common.{Ok, Err}
use mathlib.Core.Path.{◌≡◌, refl, sym, ap, ◌∙◌}
use mathlib.Core.Bool.{Bool, true, false, not, ◌&&◌, ◌||◌, false≢true}
use mathlib.Core.List.{List, [], ◌∷◌}
use Prim.Native.Nat.{ℕ, ◌+◌}
use native.Mathlib.Omega.{arith}
use lib.Dec.{T, eqb, leb}
use borrow.Author.Tests.{eqb-true, eqb-false}
use Rattle.ground_rules.specs.Bits.{bit_of}
use Rattle.ground_rules.specs.Choice.{pick}
use Rattle.instruction_rules.specs.Pairs.{Column, meets, pair_of, wide_of, two_of, memory_of}
use Rattle.instruction_rules.specs.Pairs.Column.{'0, '1, '00, '10, '11, '000, 'PPP, 'dd, 'wb, 'AA, 'W, 'MM}
use Rattle.instruction_rules.specs.Rows.{is_control}
use Rattle.instruction_rules.specs.declared.Pair.{Pair}
use Rattle.instruction_rules.specs.declared.Shape.{Shape}
use Rattle.instruction_rules.specs.declared.Work.{Work}
use Rattle.instruction_rules.specs.declared.Single.{Single}
use Rattle.instruction_rules.specs.declared.Shape.TheVariants.{Nop, Sintr, Xfer, Wid, Hlt, Lpdi, RegisterImmediate, Register, JumpRegister, RegisterMemory, MemoryRegister, MemoryImmediate, MemoryAlone, JumpMemory, Lpd, MovpLoad, MovpStore, MovMemory, Tsl, Call, JumpMasked, JumpBit, Bit}
use Rattle.instruction_rules.specs.declared.Unread.TheVariants.{NoInstruction, ControlUsed}
use Rattle.instruction_rules.specs.Table.{SummaryRow, row, table, accepts}
use Rattle.instruction_rules.specs.Reading.{fits, lookup, decode_of}
use Rattle.instruction_rules.specs.Lengths.{offset_by, more_by, two_by, data_length, displacement_length, length_of, long_code, pair_length}

infixr 20 ◌▸◌
-- the bytes that dd announces
announced : ℕ → ℕ
announced d = more_by (eqb d 1) + two_by (leb 2 d)

-- what a pair that fits a row gives: the row's opcode, AA and dd as the columns print them
pub record Fitting (r : SummaryRow) (p : Pair) : Type 0 where
  pub opcode : p.opcode ≡ r.opcode
  pub aa : meets r.aa p.w p.aa ≡ true
  pub dd : meets r.dd p.w p.dd ≡ true

fitting : (r : SummaryRow) (p : Pair) → fits r p ≡ true → Fitting r p
fitting r p h =
    go (eqb p.opcode r.opcode) refl (meets r.rrr p.w p.rrr) (meets r.mm p.w p.mm) (meets r.aa p.w p.aa) refl (meets r.w p.w p.w) h
  where
    go : (o : Bool) → eqb p.opcode r.opcode ≡ o → (b m a : Bool) → meets r.aa p.w p.aa ≡ a → (w : Bool) → (o && (b && (m && (a && (w && meets r.dd p.w p.dd))))) ≡ true → Fitting r p
    go true o true true true a true t = record { opcode = eqb-true p.opcode r.opcode o; aa = a; dd = t }
    go true o true true true a false t = absurd (false≢true t)
    go true o true true false a w t = absurd (false≢true t)
    go true o true false b a w t = absurd (false≢true t)
    go true o false m b a w t = absurd (false≢true t)
    go false o b m a i w t = absurd (false≢true t)

announced-dd : (w d : ℕ) → meets 'dd w d ≡ true → announced d ≡ 1 + more_by (eqb d 2)
unfolding announced
announced-dd w d h = go (eqb d 1) refl h
  where
    go : (b : Bool) → eqb d 1 ≡ b → (b || eqb d 2) ≡ true → announced d ≡ 1 + more_by (eqb d 2)
    go true e t = rw (eqb-true d 1 e)
    go false e t = rw (eqb-true d 2 t)

announced-wb : (w d : ℕ) → meets 'wb w d ≡ true → announced d ≡ 1 + more_by (eqb w 1)
unfolding announced
announced-wb w d h = go (eqb w 0) refl (eqb d 1) refl (eqb w 1) refl h
  where
    go : (a : Bool) → eqb w 0 ≡ a → (b : Bool) → eqb d 1 ≡ b → (c : Bool) → eqb w 1 ≡ c → (a && b || c && eqb d 2) ≡ true → announced d ≡ 1 + more_by c
    go true e true f true g t = absurd (eqb-false 0 1 refl (sym (eqb-true w 0 e) ∙ eqb-true w 1 g))
    go true e true f false g t = rw (eqb-true d 1 f)
    go true e false f true g t = rw (eqb-true d 2 t)
    go true e false f false g t = absurd (false≢true t)
    go false e b f true g t = rw (eqb-true d 2 t)
    go false e b f false g t = absurd (false≢true t)

-- neither LPDI nor MOV M,M
ordinary : ℕ → Bool
ordinary k = not (long_code k)

by-fields : (p : Pair) (k : ℕ) → p.opcode ≡ k → T (ordinary k) → pair_length p ≡ 2 + offset_by p.aa + announced p.dd
unfolding pair_length announced ordinary
by-fields p k e t = rw e (go (long_code k) t)
  where
    go : (b : Bool) → T (not b) → 2 + offset_by p.aa + more_by (eqb p.dd 1) + two_by (leb 2 p.dd) + two_by b ≡ 2 + offset_by p.aa + announced p.dd
    go false u = omega arith
    go true u = absurd u

-- the rule holds at a row
Right : SummaryRow → Type 0
Right r = (p : Pair) → fits r p ≡ true → length_of (r.shape p) ≡ pair_length p

-- rows without data and displacement
plain-memory : (r w : Column) (k : ℕ) (c : Bool) (s : Pair → Shape) → T (ordinary k) → ((p : Pair) → length_of (s p) ≡ 2 + offset_by p.aa + 0 + 0) → Right (row r '00 'AA w k 'MM c s)
unfolding Right announced
plain-memory r w k c s t h p f =
    let g = fitting (row r '00 'AA w k 'MM c s) p f in
    omega (arith, h p, by-fields p k g.opcode t, ap announced (eqb-true p.dd 0 g.dd))

plain-register : (r w : Column) (k : ℕ) (c : Bool) (s : Pair → Shape) → T (ordinary k) → ((p : Pair) → length_of (s p) ≡ 2) → Right (row r '00 '00 w k '00 c s)
unfolding Right announced
plain-register r w k c s t h p f =
    let g = fitting (row r '00 '00 w k '00 c s) p f in
    omega (arith, h p, by-fields p k g.opcode t, ap announced (eqb-true p.dd 0 g.dd), ap offset_by (eqb-true p.aa 0 g.aa))

-- rows with a displacement
jump-memory : (r w : Column) (k : ℕ) (c : Bool) (s : Pair → Shape) → T (ordinary k) → ((p : Pair) → length_of (s p) ≡ 2 + offset_by p.aa + 0 + (1 + more_by (two_of p))) → Right (row r 'dd 'AA w k 'MM c s)
unfolding Right
jump-memory r w k c s t h p f =
    let g = fitting (row r 'dd 'AA w k 'MM c s) p f in
    omega (arith, h p, by-fields p k g.opcode t, announced-dd p.w p.dd g.dd)

jump-register : (r w : Column) (k : ℕ) (c : Bool) (s : Pair → Shape) → T (ordinary k) → ((p : Pair) → length_of (s p) ≡ 2 + (1 + more_by (two_of p))) → Right (row r 'dd '00 w k '00 c s)
unfolding Right
jump-register r w k c s t h p f =
    let g = fitting (row r 'dd '00 w k '00 c s) p f in
    omega (arith, h p, by-fields p k g.opcode t, announced-dd p.w p.dd g.dd, ap offset_by (eqb-true p.aa 0 g.aa))

-- rows with an immediate
data-memory : (r w : Column) (k : ℕ) (c : Bool) (s : Pair → Shape) → T (ordinary k) → ((p : Pair) → length_of (s p) ≡ 2 + offset_by p.aa + (1 + more_by (wide_of p)) + 0) → Right (row r 'wb 'AA w k 'MM c s)
unfolding Right
data-memory r w k c s t h p f =
    let g = fitting (row r 'wb 'AA w k 'MM c s) p f in
    omega (arith, h p, by-fields p k g.opcode t, announced-wb p.w p.dd g.dd)

data-register : (r w : Column) (k : ℕ) (c : Bool) (s : Pair → Shape) → T (ordinary k) → ((p : Pair) → length_of (s p) ≡ 2 + (1 + more_by (wide_of p)) + 0) → Right (row r 'wb '00 w k '00 c s)
unfolding Right
data-register r w k c s t h p f =
    let g = fitting (row r 'wb '00 w k '00 c s) p f in
    omega (arith, h p, by-fields p k g.opcode t, announced-wb p.w p.dd g.dd, ap offset_by (eqb-true p.aa 0 g.aa))

lpdi : Right (row 'PPP '10 '00 '1 0x02 '00 accepts (λ p. Lpdi p.rrr))
unfolding Right length_of data_length displacement_length pair_length
lpdi p f =
    let g = fitting (row 'PPP '10 '00 '1 0x02 '00 accepts (λ p. Lpdi p.rrr)) p f in
    rw (g.opcode, eqb-true p.dd 2 g.dd, eqb-true p.aa 0 g.aa)

tsl : Right (row '000 '11 'AA '0 0x25 'MM accepts (λ p. Tsl (memory_of p)))
unfolding Right length_of data_length displacement_length pair_length
tsl p f =
    let g = fitting (row '000 '11 'AA '0 0x25 'MM accepts (λ p. Tsl (memory_of p))) p f in
    rw (g.opcode, eqb-true p.dd 3 g.dd) (omega arith)

mov-memory : Right (row '000 '00 'AA 'W 0x24 'MM accepts (λ p. MovMemory (memory_of p)))
unfolding Right length_of data_length displacement_length pair_length
mov-memory p f =
    let g = fitting (row '000 '00 'AA 'W 0x24 'MM accepts (λ p. MovMemory (memory_of p))) p f in
    rw (g.opcode, eqb-true p.dd 0 g.dd) (omega arith)

-- the rule holds at each of some rows
data Rights : List SummaryRow → Type 0 where
  end : Rights []
  ◌▸◌ : {r : SummaryRow} {rs : List SummaryRow} → Right r → Rights rs → Rights (r ∷ rs)

rights : Rights table
unfolding table ordinary length_of data_length displacement_length
rights =
    plain-memory _ _ _ _ (λ p. Lpd p.rrr (memory_of p)) tt (λ p. refl)  -- LPD P,M
    ▸ lpdi  -- LPDI P,I
    ▸ plain-memory _ _ _ _ (λ p. MovpStore p.rrr (memory_of p)) tt (λ p. refl)  -- MOVP M,P
    ▸ plain-memory _ _ _ _ (λ p. MovpLoad p.rrr (memory_of p)) tt (λ p. refl)  -- MOVP P,M
    ▸ mov-memory  -- MOV M,M
    ▸ plain-memory _ _ _ _ (λ p. RegisterMemory Work.Mov p.rrr (memory_of p)) tt (λ p. refl)  -- MOV R,M
    ▸ plain-memory _ _ _ _ (λ p. MemoryRegister Work.Mov p.rrr (memory_of p)) tt (λ p. refl)  -- MOV M,R
    ▸ data-register _ _ _ _ (λ p. RegisterImmediate Work.Mov p.rrr (wide_of p)) tt (λ p. refl)  -- MOVI R
    ▸ data-memory _ _ _ _ (λ p. MemoryImmediate Work.Mov (memory_of p)) tt (λ p. refl)  -- MOVI M
    ▸ jump-memory _ _ _ _ (λ p. Call (memory_of p) (two_of p)) tt (λ p. refl)  -- CALL
    ▸ jump-memory _ _ _ _ (λ p. JumpMemory true (memory_of p) (two_of p)) tt (λ p. refl)  -- JZ M
    ▸ jump-register _ _ _ _ (λ p. JumpRegister true p.rrr (two_of p)) tt (λ p. refl)  -- JZ R
    ▸ jump-memory _ _ _ _ (λ p. JumpMemory false (memory_of p) (two_of p)) tt (λ p. refl)  -- JNZ M
    ▸ jump-register _ _ _ _ (λ p. JumpRegister false p.rrr (two_of p)) tt (λ p. refl)  -- JNZ R
    ▸ jump-memory _ _ _ _ (λ p. JumpBit true p.rrr (memory_of p) (two_of p)) tt (λ p. refl)  -- JBT
    ▸ jump-memory _ _ _ _ (λ p. JumpBit false p.rrr (memory_of p) (two_of p)) tt (λ p. refl)  -- JNBT
    ▸ jump-memory _ _ _ _ (λ p. JumpMasked true (memory_of p) (two_of p)) tt (λ p. refl)  -- JMCE
    ▸ jump-memory _ _ _ _ (λ p. JumpMasked false (memory_of p) (two_of p)) tt (λ p. refl)  -- JMCNE
    ▸ plain-memory _ _ _ _ (λ p. MemoryAlone Single.Inc (memory_of p)) tt (λ p. refl)  -- INC M
    ▸ plain-register _ _ _ _ (λ p. Register Single.Inc p.rrr) tt (λ p. refl)  -- INC R
    ▸ plain-memory _ _ _ _ (λ p. MemoryAlone Single.Dec (memory_of p)) tt (λ p. refl)  -- DEC M
    ▸ plain-register _ _ _ _ (λ p. Register Single.Dec p.rrr) tt (λ p. refl)  -- DEC R
    ▸ data-memory _ _ _ _ (λ p. MemoryImmediate Work.Add (memory_of p)) tt (λ p. refl)  -- ADDI M,I
    ▸ data-register _ _ _ _ (λ p. RegisterImmediate Work.Add p.rrr (wide_of p)) tt (λ p. refl)  -- ADDI R,I
    ▸ plain-memory _ _ _ _ (λ p. MemoryRegister Work.Add p.rrr (memory_of p)) tt (λ p. refl)  -- ADD M,R
    ▸ plain-memory _ _ _ _ (λ p. RegisterMemory Work.Add p.rrr (memory_of p)) tt (λ p. refl)  -- ADD R,M
    ▸ data-memory _ _ _ _ (λ p. MemoryImmediate Work.And (memory_of p)) tt (λ p. refl)  -- ANDI M,I
    ▸ data-register _ _ _ _ (λ p. RegisterImmediate Work.And p.rrr (wide_of p)) tt (λ p. refl)  -- ANDI R,I
    ▸ plain-memory _ _ _ _ (λ p. MemoryRegister Work.And p.rrr (memory_of p)) tt (λ p. refl)  -- AND M,R
    ▸ plain-memory _ _ _ _ (λ p. RegisterMemory Work.And p.rrr (memory_of p)) tt (λ p. refl)  -- AND R,M
    ▸ data-memory _ _ _ _ (λ p. MemoryImmediate Work.Or (memory_of p)) tt (λ p. refl)  -- ORI M,I
    ▸ data-register _ _ _ _ (λ p. RegisterImmediate Work.Or p.rrr (wide_of p)) tt (λ p. refl)  -- ORI R,I
    ▸ plain-memory _ _ _ _ (λ p. MemoryRegister Work.Or p.rrr (memory_of p)) tt (λ p. refl)  -- OR M,R
    ▸ plain-memory _ _ _ _ (λ p. RegisterMemory Work.Or p.rrr (memory_of p)) tt (λ p. refl)  -- OR R,M
    ▸ plain-register _ _ _ _ (λ p. Register Single.Not p.rrr) tt (λ p. refl)  -- NOT R
    ▸ plain-memory _ _ _ _ (λ p. MemoryAlone Single.Not (memory_of p)) tt (λ p. refl)  -- NOT M
    ▸ plain-memory _ _ _ _ (λ p. RegisterMemory Work.Not p.rrr (memory_of p)) tt (λ p. refl)  -- NOT R,M
    ▸ plain-memory _ _ _ _ (λ p. Bit true p.rrr (memory_of p)) tt (λ p. refl)  -- SETB
    ▸ plain-memory _ _ _ _ (λ p. Bit false p.rrr (memory_of p)) tt (λ p. refl)  -- CLR
    ▸ tsl  -- TSL
    ▸ plain-register _ _ _ _ (λ p. Hlt) tt (λ p. refl)  -- HLT
    ▸ plain-register _ _ _ _ (λ p. Sintr) tt (λ p. refl)  -- SINTR
    ▸ plain-register _ _ _ _ (λ p. Nop) tt (λ p. refl)  -- NOP
    ▸ plain-register _ _ _ _ (λ p. Xfer) tt (λ p. refl)  -- XFER
    ▸ plain-register _ _ _ _ (λ p. Wid (bit_of p.rrr 1) (bit_of p.rrr 0)) tt (λ p. refl)  -- WID
    ▸ end

found : (rs : List SummaryRow) (p : Pair) (s : Shape) → Rights rs → lookup rs p ≡ Ok s → length_of s ≡ pair_length p
unfolding lookup Right
found [] p s end e = absurd (three e)
  where
    three : (Err NoInstruction) ≡ Ok s → ⊥
    three h = let z : ◌≡◌ {A = ℕ} 0 1 = cc in omega arith
found (r ∷ rs) p s (h ▸ hs) e = go (fits r p) refl (r.control && is_control p) (found rs p s hs) e
  where
    go : (f : Bool) → fits r p ≡ f → (u : Bool) → (lookup rs p ≡ Ok s → length_of s ≡ pair_length p) → pick f (pick u (Err ControlUsed) (Ok (r.shape p))) (lookup rs p) ≡ Ok s → length_of s ≡ pair_length p
    go true g true later t = let z : ◌≡◌ {A = ℕ} 0 1 = cc in absurd (eqb-false 0 1 refl z)
    go true g false later t =
        let same : r.shape p ≡ s = cc in
        ap length_of (sym same) ∙ h p g
    go false g u later t = later t

-- an instruction is as long as its pair says
pub pair-rule : (first second : ℕ) (s : Shape) → decode_of first second ≡ Ok s → length_of s ≡ pair_length (pair_of first second)
unfolding decode_of
pair-rule first second s e = found table (pair_of first second) s rights e
