-- Every form of a state's parts is lawful: numbers, bytes, codes, truth values, modes and what is held; then pointers, the fields of CC, channels, what the board set up and the state, by their tables.
-- Assumes nothing.
use Rattle.std.proofs.Common.{Option, ℕ}
use Prim.Native.Nat.{ℕ, zero, suc, ◌+◌, ◌^◌, ◌<◌, ◌≤◌}
use borrow.Author.Tests.{lt-ltb, eq-eqb, eqb-true, ltb-true}
use lib.Dec.{eqb, ltb}
use lib.ListN.{length, get_or}
use lib.Seq.{drop-cons, get_or-append-add}
use mathlib.Core.Bool.{Bool, true, false}
use mathlib.Core.List.{List, [], ◌∷◌, ◌++◌}
use mathlib.Core.Logic.{◌⊎◌, inl, inr}
use mathlib.Core.Path.{◌≡◌, refl, sym, ap, ◌∙◌}
use native.Mathlib.Nat.{add-zero}
use native.Mathlib.Omega.{arith}
use Rattle.ground_rules.proofs.ConditionLaws.{Told, told-true, told-ltb, told-leb, told-eqb, told_and, told-or}
use Rattle.ground_rules.proofs.HoldingLaws.{HeldFits, held_back, held-stands, number-back}
use Rattle.ground_rules.specs.Choice.{pick}
use Rattle.ground_rules.specs.Holdings.{held_number, held_from, is_held_number}
use Rattle.ground_rules.specs.States.{board_with}
use Rattle.ground_rules.specs.Values.{pointer}
use Rattle.ground_rules.specs.declared.Board.{Board}
use Rattle.ground_rules.specs.declared.Channel.{Channel}
use Rattle.ground_rules.specs.declared.Fields.{Fields}
use Rattle.ground_rules.specs.declared.Mode.{Mode}
use Rattle.ground_rules.specs.declared.Mode.TheVariants.{Idle, Running, Suspended}
use Rattle.ground_rules.specs.declared.Pointer.{Pointer}
use Rattle.state_rules.specs.Fields.{little_end, little_in, flag_of, flag_in, is_flag, mode_byte, mode_in, is_mode, is_code, NoHeld}
use Rattle.state_rules.specs.Tables.{number_form, byte_form, code_form, flag_form, mode_form, held_form, mark_form}
use Rattle.state_rules.specs.Layout.{pointer_rows, pointer_bytes, pointer_in, is_pointer_at, pointer_form, fields_rows, fields_bytes, fields_in, fields_from_parts, is_fields, fields_form, channel_rows, channel_bytes, channel_in, channel_from_parts, is_block, channel_form, board_rows, board_bytes, board_form, state_rows, version}
use Rattle.state_rules.proofs.HeldLaws.{held_small}
use Rattle.state_rules.proofs.LengthLaws.{length-little}
use Rattle.state_rules.proofs.LittleLaws.{little-behind, little-back, little-forth}
use Rattle.state_rules.proofs.TableLaws.{cut_from, Lawful, LawfulRows, tabled}

-- ---- numbers

pub number_behind : (width n : ℕ) → n < 256 ^ width → (xs rest : List ℕ) (at : ℕ) → at ≡ length xs → little_in width (xs ++ (little_end width n ++ rest)) at ≡ n
number_behind width n h xs rest at e =
    ap (little_in width (xs ++ (little_end width n ++ rest))) (e ∙ sym (add-zero (length xs)))
    ∙ little-behind width xs (little_end width n ++ rest) 0
    ∙ little-back width n rest h

abbrev pub number-lawful : (width : ℕ) → Lawful ℕ (number_form width)
number-lawful width = record {
  Fits = λ n. n < 256 ^ width;
  Ranges = λ n. Unit {0};
  long = length-little width;
  back = number_behind width;
  ranges = λ n h xs rest at e. refl;
  forth = λ b at byte h f. little-forth width b at byte h;
  told = λ b at. told-true (λ h. h);
  coded = λ b at. inl refl;
}

-- ---- forms of one byte

-- the byte behind others is the one that was put there
pub byte-behind : (xs rest : List ℕ) (n at : ℕ) → at ≡ length xs → get_or (xs ++ (n ∷ rest)) at 0 ≡ n
byte-behind xs rest n at e = ap (λ (k : ℕ). get_or (xs ++ (n ∷ rest)) k 0) (e ∙ sym (add-zero (length xs))) ∙ get_or-append-add xs (n ∷ rest) 0 0

-- a byte that was read is the part of one byte there
pub byte-forth : (b : List ℕ) (at : ℕ) → at + 1 ≤ length b → get_or b at 0 ∷ [] ≡ cut_from b at 1
byte-forth b at h = let inside : at < length b = omega arith in rw (drop-cons b at 0 inside)

-- one in which a value is a number, and a number a value, is lawful where the two come back from one another
abbrev pub one_byte : {A : Type 0} (values : ℕ) (code : A → ℕ) (decode : ℕ → A) (test : ℕ → Bool) (Past : ℕ → Type 0) (Ranges : A → Type 0)
    → ((a : A) → decode (code a) ≡ a)
    → ((a : A) → Ranges a → test (code a) ≡ true)
    → ((n : ℕ) → test n ≡ true → code (decode n) ≡ n)
    → ((n : ℕ) → Told (test n) (Past n))
    → ((n : ℕ) → (values ≡ 0) ⊎ (test n ≡ ltb n values))
    → Lawful A (record { width = 1; values = values; bytes = λ a. code a ∷ []; value = λ b at. decode (get_or b at 0); is = λ b at. test (get_or b at 0); No = λ b at. Past (get_or b at 0) })
one_byte values code decode test Past Ranges back ranges forth told coded = record {
  Fits = λ a. Unit {0};
  Ranges = Ranges;
  long = λ a. refl;
  back = λ a h xs rest at e. ap decode (byte-behind xs rest (code a) at e) ∙ back a;
  ranges = λ a h xs rest at e. ap test (byte-behind xs rest (code a) at e) ∙ ranges a h;
  forth = λ b at byte h f. ap (λ (n : ℕ). n ∷ []) (forth (get_or b at 0) f) ∙ byte-forth b at h;
  told = λ b at. told (get_or b at 0);
  coded = λ b at. coded (get_or b at 0);
}

abbrev pub byte-lawful : Lawful ℕ byte_form
byte-lawful = one_byte 0 (λ n. n) (λ n. n) (λ n. true) (λ n. ⊥) (λ n. Unit {0}) (λ n. refl) (λ n h. refl) (λ n f. refl) (λ n. told-true (λ h. h)) (λ n. inl refl)

unfoldable pub code-lawful : (values : ℕ) → Lawful ℕ (code_form values)
unfolding is_code
code-lawful values =
    one_byte values (λ n. n) (λ n. n) (λ n. ltb n values) (λ n. values ≤ n) (λ n. n < values) (λ n. refl) (λ n h. lt-ltb n values h) (λ n f. refl) (λ n. told-ltb n values) (λ n. inr refl)

-- a truth value comes back from its number, which is below two; so does such a number
pub flag-back : (on : Bool) → eqb (flag_of on) 1 ≡ on
unfolding flag_of
flag-back true = refl
flag-back false = refl

pub flag_is : (on : Bool) → ltb (flag_of on) 2 ≡ true
unfolding flag_of
flag_is true = refl
flag_is false = refl

pub flag-number : (n : ℕ) → n < 2 → flag_of (eqb n 1) ≡ n
unfolding flag_of
flag-number zero h = refl
flag-number (suc zero) h = refl
flag-number (suc (suc n)) h = omega arith

unfoldable pub flag-lawful : Lawful Bool flag_form
unfolding flag_in is_flag
flag-lawful =
    one_byte 2 flag_of (λ n. eqb n 1) (λ n. ltb n 2) (λ n. 2 ≤ n) (λ on. Unit {0}) flag-back (λ on h. flag_is on) (λ n f. flag-number n (ltb-true n 2 f)) (λ n. told-ltb n 2) (λ n. inr refl)

-- a mode comes back from its number, which is below three; so does such a number
abbrev pub mode_of : ℕ → Mode
mode_of n = pick (eqb n 0) Idle (pick (eqb n 1) Running Suspended)

pub mode-back : (mode : Mode) → mode_of (mode_byte mode) ≡ mode
unfolding mode_byte
mode-back Idle = refl
mode-back Running = refl
mode-back Suspended = refl

pub mode-is : (mode : Mode) → ltb (mode_byte mode) 3 ≡ true
unfolding mode_byte
mode-is Idle = refl
mode-is Running = refl
mode-is Suspended = refl

pub mode-number : (n : ℕ) → n < 3 → mode_byte (mode_of n) ≡ n
unfolding mode_byte
mode-number zero h = refl
mode-number (suc zero) h = refl
mode-number (suc (suc zero)) h = refl
mode-number (suc (suc (suc n))) h = omega arith

unfoldable pub mode-lawful : Lawful Mode mode_form
unfolding mode_in is_mode
mode-lawful =
    one_byte 3 mode_byte mode_of (λ n. ltb n 3) (λ n. 3 ≤ n) (λ mode. Unit {0}) mode-back (λ mode h. mode-is mode) (λ n f. mode-number n (ltb-true n 3 f)) (λ n. told-ltb n 3) (λ n. inr refl)

abbrev pub mark-lawful : (mark : ℕ) → Lawful (Unit {0}) (mark_form mark)
mark-lawful mark =
    one_byte 0 (λ nothing. mark) (λ n. tt) (λ n. eqb n mark) (λ n. ¬ (n ≡ mark)) (λ nothing. Unit {0}) (λ nothing. refl) (λ nothing h. eq-eqb mark mark refl) (λ n f. sym (eqb-true n mark f)) (λ n. told-eqb n mark) (λ n. inl refl)

-- ---- what is held

pub held-width : (held : Option ℕ) → HeldFits held → held_number held < 256 ^ 2
held-width held h = omega (arith, held_small held h)

pub held-told : (b : List ℕ) (at : ℕ) → Told (is_held_number (little_in 2 b at)) (NoHeld b at)
unfolding is_held_number
held-told b at = let n = little_in 2 b at in told-or (told-eqb n 0) (told_and (told-leb 256 n) (told-ltb n 512))

abbrev pub held-lawful : Lawful (Option ℕ) held_form
held-lawful = record {
  Fits = HeldFits;
  Ranges = HeldFits;
  long = λ held. length-little 2 (held_number held);
  back = λ held h xs rest at e. ap held_from (number_behind 2 (held_number held) (held-width held h) xs rest at e) ∙ held_back held h;
  ranges = λ held h xs rest at e. ap is_held_number (number_behind 2 (held_number held) (held-width held h) xs rest at e) ∙ held-stands held h;
  forth = λ b at byte h f. ap (little_end 2) (number-back (little_in 2 b at) f) ∙ little-forth 2 b at byte h;
  told = held-told;
  coded = λ b at. inl refl;
}

-- ---- records by their tables

unfoldable pub pointer-lawful : Lawful Pointer pointer_form
unfolding pointer_bytes pointer_in is_pointer_at
pointer-lawful = tabled pointer_rows (number-lawful 4, (flag-lawful, tt)) pointer (λ p. refl) (λ b at. (refl, (refl, tt)))

unfoldable pub fields-lawful : Lawful Fields fields_form
unfolding fields_bytes fields_in is_fields
fields-lawful =
    tabled fields_rows
    (flag-lawful, (flag-lawful, (flag-lawful, (code-lawful 4, (flag-lawful, (flag-lawful, (flag-lawful, (code-lawful 4, (code-lawful 4, (code-lawful 8, tt))))))))))
    fields_from_parts (λ f. refl) (λ b at. (refl, (refl, (refl, (refl, (refl, (refl, (refl, (refl, (refl, (refl, tt)))))))))))

unfoldable pub channel-lawful : Lawful Channel channel_form
unfolding channel_bytes channel_in is_block
channel-lawful =
    tabled channel_rows
    (pointer-lawful, (pointer-lawful, (pointer-lawful, (pointer-lawful, (number-lawful 4, (number-lawful 2, (number-lawful 2, (number-lawful 2, (number-lawful 2, (byte-lawful, (mode-lawful, (flag-lawful, (fields-lawful, (held-lawful, tt))))))))))))))
    channel_from_parts (λ c. refl) (λ b at. (refl, (refl, (refl, (refl, (refl, (refl, (refl, (refl, (refl, (refl, (refl, (refl, (refl, (refl, tt)))))))))))))))

unfoldable pub board-lawful : Lawful Board board_form
unfolding board_bytes
board-lawful = tabled board_rows (flag-lawful, (flag-lawful, (flag-lawful, (flag-lawful, tt)))) board_with (λ b. refl) (λ b at. (refl, (refl, (refl, (refl, tt)))))

-- the rows of a state
abbrev pub state-laws : LawfulRows state_rows
state-laws = (mark-lawful version, (number-lawful 4, (flag-lawful, (board-lawful, (channel-lawful, (channel-lawful, tt))))))
