-- The words and forms are the instructions': from a word and its operands the first pair comes back, row by row of the summary.
-- Assumes nothing.
use Rattle.std.proofs.Common.{Ok, Err}
use mathlib.Core.Path.{◌≡◌, refl, sym, ap, subst, ◌∙◌}
use mathlib.Core.Bool.{Bool, true, false, ◌&&◌, false≢true}
use mathlib.Core.List.{List, [], ◌∷◌}
use mathlib.Core.Logic.{inl, inr}
use Prim.Native.Nat.{ℕ, ◌<◌}
use native.Mathlib.Omega.{arith}
use lib.Dec.{T, eqb}
use borrow.Author.Tests.{eqb-true, eqb-false}
use Rattle.ground_rules.specs.Bits.{bit_of, field_of}
use Rattle.ground_rules.specs.Choice.{pick}
use Rattle.instruction_rules.specs.Pairs.{Column, meets, pair_of}
use Rattle.instruction_rules.specs.Pairs.Column.{'0, '1, '00, '10, '11, '000, '001, '010, '011, '100, '1SD, 'RRR, 'PPP, 'BBB, 'dd, 'wb, 'AA, 'W, 'MM}
use Rattle.instruction_rules.specs.Rows.{is_control}
use Rattle.instruction_rules.specs.declared.Memory.{Memory}
use Rattle.instruction_rules.specs.declared.Pair.{Pair}
use Rattle.instruction_rules.specs.declared.Work.{Work}
use Rattle.instruction_rules.specs.declared.Shape.{Shape}
use Rattle.instruction_rules.specs.declared.Shape.TheVariants.{RegisterImmediate, Wid}
use Rattle.instruction_rules.specs.declared.Unread.TheVariants.{ControlUsed}
use Rattle.instruction_rules.specs.Table.{SummaryRow, table}
use Rattle.instruction_rules.specs.Reading.{fits, lookup, decode_of}
use Rattle.listing_rules.specs.Characters.{ascii, same_text}
use Rattle.listing_rules.specs.Mnemonics.{is_jump, mnemonic_of, is_listed}
use Rattle.listing_rules.specs.Forms.{slots_of, filled}
use Rattle.listing_rules.specs.Entries.{entries}
use Rattle.listing_rules.specs.Back.{asked, offered, fits_form, entry_for, digits_in, rrr_in, mm_in, aa_in, pair_from, pair_back, operands_of}
use Rattle.listing_rules.proofs.SpellingLaws.{is_mark, clean, present, Fair, each}

-- an instruction with its pair: its word is none of the marks' and no DB, its places are fair, and its pair comes back
pub record Known (p : Pair) (s : Shape) (to : Memory) : Type 0 where
  pub pair : (bytes : List ℕ) (end : ℕ) → pair_back (mnemonic_of s) (present (operands_of s to bytes end)) ≡ p
  pub word : T (clean (mnemonic_of s))
  pub other : same_text (mnemonic_of s) (ascii "DB") ≡ false
  pub fair : Fair (slots_of s to).first × (Fair (slots_of s to).second × Fair (slots_of s to).third)

-- a memory operand that there is
abbrev pub Placed : Memory → Type 0
Placed m = (m.mm < 4) × (m.aa < 4)

mk : ℕ → ℕ → ℕ → ℕ → ℕ → ℕ → Pair
mk r d a w o m = record { rrr = r; dd = d; aa = a; w = w; opcode = o; mm = m }

-- the value that a column fixes, or the field
fixed : Column → ℕ → ℕ
fixed '0 x = x
fixed '1 x = x
fixed '00 x = 0
fixed '10 x = x
fixed '11 x = x
fixed '000 x = 0
fixed '001 x = 1
fixed '010 x = 2
fixed '011 x = 3
fixed '100 x = 4
fixed '1SD x = x
fixed 'RRR x = x
fixed 'PPP x = x
fixed 'BBB x = x
fixed 'dd x = x
fixed 'wb x = x
fixed 'AA x = x
fixed 'W x = x
fixed 'MM x = x

-- whether W and dd may be so in a row
may : SummaryRow → ℕ → ℕ → Bool
may r w d = meets r.w w w && meets r.dd w d

ask : Bool → Type 0 → Type 0
ask true A = A
ask false A = Unit

-- a row with W and dd: its instructions are known
abbrev KnownAt : SummaryRow → ℕ → ℕ → Type 0
KnownAt r w d =
    (x a m : ℕ) → x < 8 → meets r.rrr w x ≡ true → a < 4 → m < 4 → (to : Memory) → Placed to
    → is_listed (r.shape (mk (fixed r.rrr x) d (fixed r.aa a) w r.opcode (fixed r.mm m))) ≡ true
    → Known (mk (fixed r.rrr x) d (fixed r.aa a) w r.opcode (fixed r.mm m)) (r.shape (mk (fixed r.rrr x) d (fixed r.aa a) w r.opcode (fixed r.mm m))) to

-- the same for each W and dd that it may have
KnownRow : SummaryRow → Type 0
KnownRow r =
    ask (may r 0 0) (KnownAt r 0 0) × ask (may r 0 1) (KnownAt r 0 1) × ask (may r 0 2) (KnownAt r 0 2) × ask (may r 0 3) (KnownAt r 0 3)
    × ask (may r 1 0) (KnownAt r 1 0) × ask (may r 1 1) (KnownAt r 1 1) × ask (may r 1 2) (KnownAt r 1 2) × ask (may r 1 3) (KnownAt r 1 3)

KnownRows : List SummaryRow → Type 0
KnownRows [] = Unit
KnownRows (r ∷ rs) = KnownRow r × KnownRows rs

unlisted : {A : Type 0} → false ≡ true → A
unlisted e = absurd (false≢true e)

-- ADDI to a register, which is JMP where that is TP
add-byte : (x a m : ℕ) → x < 8 → true ≡ true → a < 4 → m < 4 → (to : Memory) → Placed to → true ≡ true → Known (mk x 1 0 0 0x08 0) (RegisterImmediate Work.Add x false) to
unfolding mk mnemonic_of slots_of is_jump filled pair_back pair_from entry_for entries asked offered fits_form digits_in rrr_in mm_in aa_in operands_of present same_text clean is_mark Fair
add-byte x a m h c ha hm to ht l = go (eqb x 4) refl
  where
    go : (t : Bool) → eqb x 4 ≡ t → Known (mk x 1 0 0 0x08 0) (RegisterImmediate Work.Add x false) to
    go true e = rw (eqb-true x 4 e) (record { pair = λ bytes end. refl; word = tt; other = refl; fair = (tt, (tt, tt)) })
    go false e = record { pair = λ bytes end. rw e; word = rw e tt; other = rw e; fair = rw e (h, (tt, tt)) }

add-word : (x a m : ℕ) → x < 8 → true ≡ true → a < 4 → m < 4 → (to : Memory) → Placed to → true ≡ true → Known (mk x 2 0 1 0x08 0) (RegisterImmediate Work.Add x true) to
unfolding mk mnemonic_of slots_of is_jump filled pair_back pair_from entry_for entries asked offered fits_form digits_in rrr_in mm_in aa_in operands_of present same_text clean is_mark Fair
add-word x a m h c ha hm to ht l = go (eqb x 4) refl
  where
    go : (t : Bool) → eqb x 4 ≡ t → Known (mk x 2 0 1 0x08 0) (RegisterImmediate Work.Add x true) to
    go true e = rw (eqb-true x 4 e) (record { pair = λ bytes end. refl; word = tt; other = refl; fair = (tt, (tt, tt)) })
    go false e = record { pair = λ bytes end. rw e; word = rw e tt; other = rw e; fair = rw e (h, (tt, tt)) }

-- WID
wid : (x a m : ℕ) → x < 8 → meets '1SD 0 x ≡ true → a < 4 → m < 4 → (to : Memory) → Placed to → true ≡ true → Known (mk x 0 0 0 0x00 0) (Wid (bit_of x 1) (bit_of x 0)) to
unfolding mk mnemonic_of slots_of is_jump filled pair_back pair_from entry_for entries asked offered fits_form digits_in rrr_in mm_in aa_in operands_of present same_text clean is_mark Fair bit_of
wid x a m h c ha hm to ht l =
    each 8 (λ (k : ℕ). meets '1SD 0 k ≡ true → Known (mk k 0 0 0 0x00 0) (Wid (bit_of k 1) (bit_of k 0)) to) (
      (
        (
          (
            ((((tt, λ e. unlisted e), λ e. unlisted e), λ e. unlisted e), λ e. unlisted e),
            λ e. record { pair = λ bytes end. refl; word = tt; other = refl; fair = (inr (false, refl), (inr (false, refl), tt)) },
          ),
          λ e. record { pair = λ bytes end. refl; word = tt; other = refl; fair = (inr (false, refl), (inr (true, refl), tt)) },
        ),
        λ e. record { pair = λ bytes end. refl; word = tt; other = refl; fair = (inr (true, refl), (inr (false, refl), tt)) },
      ),
      λ e. record { pair = λ bytes end. refl; word = tt; other = refl; fair = (inr (true, refl), (inr (true, refl), tt)) },
    )
    x h c

known-rows : KnownRows table
unfolding table KnownRows KnownRow ask may mk fixed mnemonic_of slots_of is_jump filled pair_back pair_from entry_for entries asked offered fits_form digits_in rrr_in mm_in aa_in operands_of present same_text clean is_mark Fair
known-rows = (
  (tt, tt, tt, tt, (λ r a m hr hc ha hm to ht l. record { pair = λ bytes end. refl; word = tt; other = refl; fair = (hr, ((hm, ha), tt)) }), tt, tt, tt),  -- LPD P,M
  (
    (tt, tt, tt, tt, tt, tt, (λ r a m hr hc ha hm to ht l. record { pair = λ bytes end. refl; word = tt; other = refl; fair = (hr, (tt, tt)) }), tt),  -- LPDI P,I
    (
      (tt, tt, tt, tt, (λ r a m hr hc ha hm to ht l. record { pair = λ bytes end. refl; word = tt; other = refl; fair = ((hm, ha), (hr, tt)) }), tt, tt, tt),  -- MOVP M,P
      (
        (tt, tt, tt, tt, (λ r a m hr hc ha hm to ht l. record { pair = λ bytes end. refl; word = tt; other = refl; fair = (hr, ((hm, ha), tt)) }), tt, tt, tt),  -- MOVP P,M
        (
          ((λ r a m hr hc ha hm to ht l. record { pair = λ bytes end. refl; word = tt; other = refl; fair = (ht, ((hm, ha), tt)) }), tt, tt, tt, (λ r a m hr hc ha hm to ht l. record { pair = λ bytes end. refl; word = tt; other = refl; fair = (ht, ((hm, ha), tt)) }), tt, tt, tt),  -- MOV M,M
          (
            ((λ r a m hr hc ha hm to ht l. record { pair = λ bytes end. refl; word = tt; other = refl; fair = (hr, ((hm, ha), tt)) }), tt, tt, tt, (λ r a m hr hc ha hm to ht l. record { pair = λ bytes end. refl; word = tt; other = refl; fair = (hr, ((hm, ha), tt)) }), tt, tt, tt),  -- MOV R,M
            (
              ((λ r a m hr hc ha hm to ht l. record { pair = λ bytes end. refl; word = tt; other = refl; fair = ((hm, ha), (hr, tt)) }), tt, tt, tt, (λ r a m hr hc ha hm to ht l. record { pair = λ bytes end. refl; word = tt; other = refl; fair = ((hm, ha), (hr, tt)) }), tt, tt, tt),  -- MOV M,R
              (
                (tt, (λ r a m hr hc ha hm to ht l. record { pair = λ bytes end. refl; word = tt; other = refl; fair = (hr, (tt, tt)) }), tt, tt, tt, tt, (λ r a m hr hc ha hm to ht l. record { pair = λ bytes end. refl; word = tt; other = refl; fair = (hr, (tt, tt)) }), tt),  -- MOVI R
                (
                  (tt, (λ r a m hr hc ha hm to ht l. record { pair = λ bytes end. refl; word = tt; other = refl; fair = ((hm, ha), (tt, tt)) }), tt, tt, tt, tt, (λ r a m hr hc ha hm to ht l. record { pair = λ bytes end. refl; word = tt; other = refl; fair = ((hm, ha), (tt, tt)) }), tt),  -- MOVI M
                  (
                    (tt, (λ r a m hr hc ha hm to ht l. unlisted l), (λ r a m hr hc ha hm to ht l. unlisted l), tt, tt, (λ r a m hr hc ha hm to ht l. record { pair = λ bytes end. refl; word = tt; other = refl; fair = ((hm, ha), (tt, tt)) }), (λ r a m hr hc ha hm to ht l. record { pair = λ bytes end. refl; word = tt; other = refl; fair = ((hm, ha), (tt, tt)) }), tt),  -- CALL
                    (
                      (tt, (λ r a m hr hc ha hm to ht l. record { pair = λ bytes end. refl; word = tt; other = refl; fair = ((hm, ha), (tt, tt)) }), (λ r a m hr hc ha hm to ht l. record { pair = λ bytes end. refl; word = tt; other = refl; fair = ((hm, ha), (tt, tt)) }), tt, tt, (λ r a m hr hc ha hm to ht l. record { pair = λ bytes end. refl; word = tt; other = refl; fair = ((hm, ha), (tt, tt)) }), (λ r a m hr hc ha hm to ht l. record { pair = λ bytes end. refl; word = tt; other = refl; fair = ((hm, ha), (tt, tt)) }), tt),  -- JZ M
                      (
                        (tt, (λ r a m hr hc ha hm to ht l. record { pair = λ bytes end. refl; word = tt; other = refl; fair = (hr, (tt, tt)) }), (λ r a m hr hc ha hm to ht l. record { pair = λ bytes end. refl; word = tt; other = refl; fair = (hr, (tt, tt)) }), tt, tt, tt, tt, tt),  -- JZ R
                        (
                          (tt, (λ r a m hr hc ha hm to ht l. record { pair = λ bytes end. refl; word = tt; other = refl; fair = ((hm, ha), (tt, tt)) }), (λ r a m hr hc ha hm to ht l. record { pair = λ bytes end. refl; word = tt; other = refl; fair = ((hm, ha), (tt, tt)) }), tt, tt, (λ r a m hr hc ha hm to ht l. record { pair = λ bytes end. refl; word = tt; other = refl; fair = ((hm, ha), (tt, tt)) }), (λ r a m hr hc ha hm to ht l. record { pair = λ bytes end. refl; word = tt; other = refl; fair = ((hm, ha), (tt, tt)) }), tt),  -- JNZ M
                          (
                            (tt, (λ r a m hr hc ha hm to ht l. record { pair = λ bytes end. refl; word = tt; other = refl; fair = (hr, (tt, tt)) }), (λ r a m hr hc ha hm to ht l. record { pair = λ bytes end. refl; word = tt; other = refl; fair = (hr, (tt, tt)) }), tt, tt, tt, tt, tt),  -- JNZ R
                            (
                              (tt, (λ r a m hr hc ha hm to ht l. record { pair = λ bytes end. refl; word = tt; other = refl; fair = ((hm, ha), (inl hr, tt)) }), (λ r a m hr hc ha hm to ht l. record { pair = λ bytes end. refl; word = tt; other = refl; fair = ((hm, ha), (inl hr, tt)) }), tt, tt, tt, tt, tt),  -- JBT
                              (
                                (tt, (λ r a m hr hc ha hm to ht l. record { pair = λ bytes end. refl; word = tt; other = refl; fair = ((hm, ha), (inl hr, tt)) }), (λ r a m hr hc ha hm to ht l. record { pair = λ bytes end. refl; word = tt; other = refl; fair = ((hm, ha), (inl hr, tt)) }), tt, tt, tt, tt, tt),  -- JNBT
                                (
                                  (tt, (λ r a m hr hc ha hm to ht l. record { pair = λ bytes end. refl; word = tt; other = refl; fair = ((hm, ha), (tt, tt)) }), (λ r a m hr hc ha hm to ht l. record { pair = λ bytes end. refl; word = tt; other = refl; fair = ((hm, ha), (tt, tt)) }), tt, tt, tt, tt, tt),  -- JMCE
                                  (
                                    (tt, (λ r a m hr hc ha hm to ht l. record { pair = λ bytes end. refl; word = tt; other = refl; fair = ((hm, ha), (tt, tt)) }), (λ r a m hr hc ha hm to ht l. record { pair = λ bytes end. refl; word = tt; other = refl; fair = ((hm, ha), (tt, tt)) }), tt, tt, tt, tt, tt),  -- JMCNE
                                    (
                                      ((λ r a m hr hc ha hm to ht l. record { pair = λ bytes end. refl; word = tt; other = refl; fair = ((hm, ha), (tt, tt)) }), tt, tt, tt, (λ r a m hr hc ha hm to ht l. record { pair = λ bytes end. refl; word = tt; other = refl; fair = ((hm, ha), (tt, tt)) }), tt, tt, tt),  -- INC M
                                      (
                                        ((λ r a m hr hc ha hm to ht l. record { pair = λ bytes end. refl; word = tt; other = refl; fair = (hr, (tt, tt)) }), tt, tt, tt, tt, tt, tt, tt),  -- INC R
                                        (
                                          ((λ r a m hr hc ha hm to ht l. record { pair = λ bytes end. refl; word = tt; other = refl; fair = ((hm, ha), (tt, tt)) }), tt, tt, tt, (λ r a m hr hc ha hm to ht l. record { pair = λ bytes end. refl; word = tt; other = refl; fair = ((hm, ha), (tt, tt)) }), tt, tt, tt),  -- DEC M
                                          (
                                            ((λ r a m hr hc ha hm to ht l. record { pair = λ bytes end. refl; word = tt; other = refl; fair = (hr, (tt, tt)) }), tt, tt, tt, tt, tt, tt, tt),  -- DEC R
                                            (
                                              (tt, (λ r a m hr hc ha hm to ht l. record { pair = λ bytes end. refl; word = tt; other = refl; fair = ((hm, ha), (tt, tt)) }), tt, tt, tt, tt, (λ r a m hr hc ha hm to ht l. record { pair = λ bytes end. refl; word = tt; other = refl; fair = ((hm, ha), (tt, tt)) }), tt),  -- ADDI M,I
                                              (
                                                (tt, add-byte, tt, tt, tt, tt, add-word, tt),  -- ADDI R,I
                                                (
                                                  ((λ r a m hr hc ha hm to ht l. record { pair = λ bytes end. refl; word = tt; other = refl; fair = ((hm, ha), (hr, tt)) }), tt, tt, tt, (λ r a m hr hc ha hm to ht l. record { pair = λ bytes end. refl; word = tt; other = refl; fair = ((hm, ha), (hr, tt)) }), tt, tt, tt),  -- ADD M,R
                                                  (
                                                    ((λ r a m hr hc ha hm to ht l. record { pair = λ bytes end. refl; word = tt; other = refl; fair = (hr, ((hm, ha), tt)) }), tt, tt, tt, (λ r a m hr hc ha hm to ht l. record { pair = λ bytes end. refl; word = tt; other = refl; fair = (hr, ((hm, ha), tt)) }), tt, tt, tt),  -- ADD R,M
                                                    (
                                                      (tt, (λ r a m hr hc ha hm to ht l. record { pair = λ bytes end. refl; word = tt; other = refl; fair = ((hm, ha), (tt, tt)) }), tt, tt, tt, tt, (λ r a m hr hc ha hm to ht l. record { pair = λ bytes end. refl; word = tt; other = refl; fair = ((hm, ha), (tt, tt)) }), tt),  -- ANDI M,I
                                                      (
                                                        (tt, (λ r a m hr hc ha hm to ht l. record { pair = λ bytes end. refl; word = tt; other = refl; fair = (hr, (tt, tt)) }), tt, tt, tt, tt, (λ r a m hr hc ha hm to ht l. record { pair = λ bytes end. refl; word = tt; other = refl; fair = (hr, (tt, tt)) }), tt),  -- ANDI R,I
                                                        (
                                                          ((λ r a m hr hc ha hm to ht l. record { pair = λ bytes end. refl; word = tt; other = refl; fair = ((hm, ha), (hr, tt)) }), tt, tt, tt, (λ r a m hr hc ha hm to ht l. record { pair = λ bytes end. refl; word = tt; other = refl; fair = ((hm, ha), (hr, tt)) }), tt, tt, tt),  -- AND M,R
                                                          (
                                                            ((λ r a m hr hc ha hm to ht l. record { pair = λ bytes end. refl; word = tt; other = refl; fair = (hr, ((hm, ha), tt)) }), tt, tt, tt, (λ r a m hr hc ha hm to ht l. record { pair = λ bytes end. refl; word = tt; other = refl; fair = (hr, ((hm, ha), tt)) }), tt, tt, tt),  -- AND R,M
                                                            (
                                                              (tt, (λ r a m hr hc ha hm to ht l. record { pair = λ bytes end. refl; word = tt; other = refl; fair = ((hm, ha), (tt, tt)) }), tt, tt, tt, tt, (λ r a m hr hc ha hm to ht l. record { pair = λ bytes end. refl; word = tt; other = refl; fair = ((hm, ha), (tt, tt)) }), tt),  -- ORI M,I
                                                              (
                                                                (tt, (λ r a m hr hc ha hm to ht l. record { pair = λ bytes end. refl; word = tt; other = refl; fair = (hr, (tt, tt)) }), tt, tt, tt, tt, (λ r a m hr hc ha hm to ht l. record { pair = λ bytes end. refl; word = tt; other = refl; fair = (hr, (tt, tt)) }), tt),  -- ORI R,I
                                                                (
                                                                  ((λ r a m hr hc ha hm to ht l. record { pair = λ bytes end. refl; word = tt; other = refl; fair = ((hm, ha), (hr, tt)) }), tt, tt, tt, (λ r a m hr hc ha hm to ht l. record { pair = λ bytes end. refl; word = tt; other = refl; fair = ((hm, ha), (hr, tt)) }), tt, tt, tt),  -- OR M,R
                                                                  (
                                                                    ((λ r a m hr hc ha hm to ht l. record { pair = λ bytes end. refl; word = tt; other = refl; fair = (hr, ((hm, ha), tt)) }), tt, tt, tt, (λ r a m hr hc ha hm to ht l. record { pair = λ bytes end. refl; word = tt; other = refl; fair = (hr, ((hm, ha), tt)) }), tt, tt, tt),  -- OR R,M
                                                                    (
                                                                      ((λ r a m hr hc ha hm to ht l. record { pair = λ bytes end. refl; word = tt; other = refl; fair = (hr, (tt, tt)) }), tt, tt, tt, tt, tt, tt, tt),  -- NOT R
                                                                      (
                                                                        ((λ r a m hr hc ha hm to ht l. record { pair = λ bytes end. refl; word = tt; other = refl; fair = ((hm, ha), (tt, tt)) }), tt, tt, tt, (λ r a m hr hc ha hm to ht l. record { pair = λ bytes end. refl; word = tt; other = refl; fair = ((hm, ha), (tt, tt)) }), tt, tt, tt),  -- NOT M
                                                                        (
                                                                          ((λ r a m hr hc ha hm to ht l. record { pair = λ bytes end. refl; word = tt; other = refl; fair = (hr, ((hm, ha), tt)) }), tt, tt, tt, (λ r a m hr hc ha hm to ht l. record { pair = λ bytes end. refl; word = tt; other = refl; fair = (hr, ((hm, ha), tt)) }), tt, tt, tt),  -- NOT R,M
                                                                          (
                                                                            ((λ r a m hr hc ha hm to ht l. record { pair = λ bytes end. refl; word = tt; other = refl; fair = ((hm, ha), (inl hr, tt)) }), tt, tt, tt, tt, tt, tt, tt),  -- SETB
                                                                            (
                                                                              ((λ r a m hr hc ha hm to ht l. record { pair = λ bytes end. refl; word = tt; other = refl; fair = ((hm, ha), (inl hr, tt)) }), tt, tt, tt, tt, tt, tt, tt),  -- CLR
                                                                              (
                                                                                (tt, tt, tt, (λ r a m hr hc ha hm to ht l. record { pair = λ bytes end. refl; word = tt; other = refl; fair = ((hm, ha), (tt, tt)) }), tt, tt, tt, tt),  -- TSL
                                                                                (
                                                                                  ((λ r a m hr hc ha hm to ht l. record { pair = λ bytes end. refl; word = tt; other = refl; fair = (tt, (tt, tt)) }), tt, tt, tt, tt, tt, tt, tt),  -- HLT
                                                                                  (
                                                                                    ((λ r a m hr hc ha hm to ht l. record { pair = λ bytes end. refl; word = tt; other = refl; fair = (tt, (tt, tt)) }), tt, tt, tt, tt, tt, tt, tt),  -- SINTR
                                                                                    (
                                                                                      ((λ r a m hr hc ha hm to ht l. record { pair = λ bytes end. refl; word = tt; other = refl; fair = (tt, (tt, tt)) }), tt, tt, tt, tt, tt, tt, tt),  -- NOP
                                                                                      (
                                                                                        ((λ r a m hr hc ha hm to ht l. record { pair = λ bytes end. refl; word = tt; other = refl; fair = (tt, (tt, tt)) }), tt, tt, tt, tt, tt, tt, tt),  -- XFER
                                                                                        (
                                                                                          (wid, tt, tt, tt, tt, tt, tt, tt),  -- WID
                                                                                          tt,
                                                                                        ),
                                                                                      ),
                                                                                    ),
                                                                                  ),
                                                                                ),
                                                                              ),
                                                                            ),
                                                                          ),
                                                                        ),
                                                                      ),
                                                                    ),
                                                                  ),
                                                                ),
                                                              ),
                                                            ),
                                                          ),
                                                        ),
                                                      ),
                                                    ),
                                                  ),
                                                ),
                                              ),
                                            ),
                                          ),
                                        ),
                                      ),
                                    ),
                                  ),
                                ),
                              ),
                            ),
                          ),
                        ),
                      ),
                    ),
                  ),
                ),
              ),
            ),
          ),
        ),
      ),
    ),
  ),
)

-- what fits a row meets each of its columns
pub record Fitting (r : SummaryRow) (p : Pair) : Type 0 where
  pub opcode : p.opcode ≡ r.opcode
  pub rrr : meets r.rrr p.w p.rrr ≡ true
  pub mm : meets r.mm p.w p.mm ≡ true
  pub aa : meets r.aa p.w p.aa ≡ true
  pub w : meets r.w p.w p.w ≡ true
  pub dd : meets r.dd p.w p.dd ≡ true

pub fitting : (r : SummaryRow) (p : Pair) → fits r p ≡ true → Fitting r p
fitting r p h = go (eqb p.opcode r.opcode) refl (meets r.rrr p.w p.rrr) refl (meets r.mm p.w p.mm) refl (meets r.aa p.w p.aa) refl (meets r.w p.w p.w) refl h
  where
    go : (o : Bool) → eqb p.opcode r.opcode ≡ o → (b : Bool) → meets r.rrr p.w p.rrr ≡ b → (m : Bool) → meets r.mm p.w p.mm ≡ m → (a : Bool) → meets r.aa p.w p.aa ≡ a → (w : Bool) → meets r.w p.w p.w ≡ w → (o && (b && (m && (a && (w && meets r.dd p.w p.dd))))) ≡ true → Fitting r p
    go true o true b true m true a true w t = record { opcode = eqb-true p.opcode r.opcode o; rrr = b; mm = m; aa = a; w = w; dd = t }
    go true o true b true m true a false w t = unlisted t
    go true o true b true m false a x w t = unlisted t
    go true o true b false m y a x w t = unlisted t
    go true o false b z m y a x w t = unlisted t
    go false o c b z m y a x w t = unlisted t

-- a field that meets its column has the value that it fixes
fixes : (c : Column) (w x : ℕ) → meets c w x ≡ true → fixed c x ≡ x
unfolding fixed
fixes '0 w x h = refl
fixes '1 w x h = refl
fixes '00 w x h = sym (eqb-true x 0 h)
fixes '10 w x h = refl
fixes '11 w x h = refl
fixes '000 w x h = sym (eqb-true x 0 h)
fixes '001 w x h = sym (eqb-true x 1 h)
fixes '010 w x h = sym (eqb-true x 2 h)
fixes '011 w x h = sym (eqb-true x 3 h)
fixes '100 w x h = sym (eqb-true x 4 h)
fixes '1SD w x h = refl
fixes 'RRR w x h = refl
fixes 'PPP w x h = refl
fixes 'BBB w x h = refl
fixes 'dd w x h = refl
fixes 'wb w x h = refl
fixes 'AA w x h = refl
fixes 'W w x h = refl
fixes 'MM w x h = refl

granted : (b : Bool) (A : Type 0) → b ≡ true → ask b A → A
unfolding ask
granted true A e a = a
granted false A e a = unlisted e

module _ (r : SummaryRow) (p : Pair) (f : Fitting r p) (hr : p.rrr < 8) (ha : p.aa < 4) (hm : p.mm < 4) (to : Memory) (ht : Placed to) (l : is_listed (r.shape p) ≡ true) where
  at : (w d : ℕ) → ask (may r w d) (KnownAt r w d) → p.w ≡ w → p.dd ≡ d → Known p (r.shape p) to
  unfolding may mk
  at w d known ew ed =
      let q = mk (fixed r.rrr p.rrr) d (fixed r.aa p.aa) w r.opcode (fixed r.mm p.mm) in
      let e : p ≡ q = rw (fixes r.rrr p.w p.rrr f.rrr, fixes r.aa p.w p.aa f.aa, fixes r.mm p.w p.mm f.mm, sym ew, sym ed, sym f.opcode) in
      let m : may r w d ≡ true = rw (rw ew at f.w, rw (ew, ed) at f.dd) in
      let c : meets r.rrr w p.rrr ≡ true = rw ew at f.rrr in
      let k = granted (may r w d) (KnownAt r w d) m known p.rrr p.aa p.mm hr c ha hm to ht (subst (λ (x : Pair). is_listed (r.shape x) ≡ true) e l) in
      subst (λ (x : Pair). Known x (r.shape x) to) (sym e) k

  chosen : KnownRow r → p.w < 2 → p.dd < 4 → Known p (r.shape p) to
  unfolding KnownRow
  chosen k hw hd = go (eqb p.w 0) refl (eqb p.dd 0) refl (eqb p.dd 1) refl (eqb p.dd 2) refl
    where
      go : (a : Bool) → eqb p.w 0 ≡ a → (b : Bool) → eqb p.dd 0 ≡ b → (c : Bool) → eqb p.dd 1 ≡ c → (d : Bool) → eqb p.dd 2 ≡ d → Known p (r.shape p) to
      go true a true b x c y d = at 0 0 k.0 (eqb-true p.w 0 a) (eqb-true p.dd 0 b)
      go true a false b true c y d = at 0 1 k.1 (eqb-true p.w 0 a) (eqb-true p.dd 1 c)
      go true a false b false c true d = at 0 2 k.2 (eqb-true p.w 0 a) (eqb-true p.dd 2 d)
      go true a false b false c false d =
          let b2 = eqb-false p.dd 0 b in
          let c2 = eqb-false p.dd 1 c in
          let d2 = eqb-false p.dd 2 d in
          at 0 3 k.3 (eqb-true p.w 0 a) (omega arith)
      go false a true b x c y d = let a2 = eqb-false p.w 0 a in at 1 0 k.4 (omega arith) (eqb-true p.dd 0 b)
      go false a false b true c y d = let a2 = eqb-false p.w 0 a in at 1 1 k.5 (omega arith) (eqb-true p.dd 1 c)
      go false a false b false c true d = let a2 = eqb-false p.w 0 a in at 1 2 k.6 (omega arith) (eqb-true p.dd 2 d)
      go false a false b false c false d =
          let a2 = eqb-false p.w 0 a in
          let b2 = eqb-false p.dd 0 b in
          let c2 = eqb-false p.dd 1 c in
          let d2 = eqb-false p.dd 2 d in
          at 1 3 k.7 (omega arith) (omega arith)

found : (rs : List SummaryRow) (p : Pair) (s : Shape) (to : Memory) → KnownRows rs → p.rrr < 8 → p.aa < 4 → p.mm < 4 → p.w < 2 → p.dd < 4 → Placed to → is_listed s ≡ true → lookup rs p ≡ Ok s → Known p s to
unfolding lookup KnownRows
found [] p s to k hr ha hm hw hd ht l e = let z : ◌≡◌ {A = ℕ} 0 1 = cc in absurd (eqb-false 0 1 refl z)
found (r ∷ rs) p s to k hr ha hm hw hd ht l e = go (fits r p) refl (r.control && is_control p) (found rs p s to k.1 hr ha hm hw hd ht l) e
  where
    go : (f : Bool) → fits r p ≡ f → (u : Bool) → (lookup rs p ≡ Ok s → Known p s to) → pick f (pick u (Err ControlUsed) (Ok (r.shape p))) (lookup rs p) ≡ Ok s → Known p s to
    go true g true later t = let z : ◌≡◌ {A = ℕ} 0 1 = cc in absurd (eqb-false 0 1 refl z)
    go true g false later t =
        let same : r.shape p ≡ s = cc in
        subst (λ (x : Shape). Known p x to) same (chosen r p (fitting r p g) hr ha hm to ht (ap is_listed same ∙ l) k.0 hw hd)
    go false g u later t = later t

-- an instruction that has a line is known by its word and its operands
pub known : (first second : ℕ) (s : Shape) (to : Memory) → decode_of first second ≡ Ok s → Placed to → is_listed s ≡ true → Known (pair_of first second) s to
unfolding decode_of pair_of field_of
known first second s to e ht l = found table (pair_of first second) s to known-rows (omega arith) (omega arith) (omega arith) (omega arith) (omega arith) ht l e
