-- The leftover count, from the sheet of a transfer step: what one step makes of BC, and what BC says after calls in a row.
-- Assumes nothing.
use Rattle.std.proofs.Common.{Option, ℕ, None, Some}
use Prim.Native.Nat.{ℕ, zero, suc, ◌+◌, ◌-◌, ◌%◌, ◌^◌, ◌/◌, ◌<◌, ◌≤◌}
use borrow.Author.Tests.{ltb-true, ltb-false, eqb-false, eqb-true, not-true, eq-eqb, ne_eqb}
use lib.Dec.{eqb, ltb, lit<}
use mathlib.Core.Bool.{Bool, true, false, not, ◌&&◌, ◌||◌}
use mathlib.Core.Logic.{inl, inr, ◌⊎◌}
use mathlib.Core.Path.{◌≡◌, refl, sym, ap, ap₂, subst, ◌∙◌}
use native.Mathlib.Decide.{ℕ_discrete}
use native.Mathlib.Nat.{mod-lt, add_assoc}
use native.Mathlib.Omega.{arith}
use Rattle.ground_rules.specs.States.{channel_of}
use Rattle.ground_rules.specs.declared.Channel.{Channel}
use Rattle.ground_rules.specs.declared.State.{State}
use Rattle.ground_rules.specs.Buffers.{Buffers, store_byte}
use Rattle.turn_rules.specs.Step.{step_of}
use Rattle.ground_rules.proofs.ChoiceLaws.{apart, both_left, both_right, and-true, and-false, pick_under}
use Rattle.ground_rules.specs.Choice.{pick}
use Rattle.promises_sheet.specs.Leftover.{bc_less, opens, closes, fetched_now, stored_now, first_ends, FirstLeft, LeftoverSheet, Sector, SectorLeft, DriverSum, begin, transfer, step, attention}
use Rattle.promises_sheet.specs.SheetOperands.{ran_channel}
use Rattle.promises_sheet.specs.SheetTransfer.{into_pointer, into_word_side, into_second, from_word_side, two_go, first_byte, second_byte, meets_in, singly, two_stored, stored_count, fetched_count, count_left, max_of, code_of_end, half_due, stores_twice, fetches_twice, Transfers, TransferLeft}
use Rattle.promises_sheet.specs.SheetTurns.{offset_in}
use Rattle.promises.specs.SheetWords.{bit, field, pointer_on}
use Rattle.promises.proofs.CallLaws.{attention-kept, not-of}
use Rattle.promises_sheet.specs.SheetHalves.{is_none, OnlyHeld, pair_less, pair_code, PairLeft, HalfLeft}
use Rattle.promises_sheet.proofs.SheetHalves.{half-sheet}
use Rattle.promises_sheet.proofs.SheetTransfer.{larger-small, pick_small, transfer-sheet}

-- ---- codes and offsets

-- the larger of two codes is none only where both are
code-left : (a b : ℕ) → eqb a 0 ≡ false → eqb (pick (ltb a b) b a) 0 ≡ false
code-left a b h = go (ltb a b) refl
  where
    go : (x : Bool) → ltb a b ≡ x → eqb (pick x b a) 0 ≡ false
    go true e = let l : a < b = ltb-true a b e in ne_eqb b 0 (λ z. omega arith)
    go false e = h

code-right : (a b : ℕ) → eqb b 0 ≡ false → eqb (pick (ltb a b) b a) 0 ≡ false
code-right a b h = go (ltb a b) refl
  where
    go : (x : Bool) → ltb a b ≡ x → eqb (pick x b a) 0 ≡ false
    go true e = h
    go false e =
        let l : b ≤ a = ltb-false a b e in
        let n : b ≡ 0 → ⊥ = eqb-false b 0 h in
        ne_eqb a 0 (λ z. n (omega arith))

-- what holds of 0 to 3 holds of every code
below-4 : (P : ℕ → Type 0) → P 0 → P 1 → P 2 → P 3 → (n : ℕ) → n < 4 → P n
below-4 P a b c d zero h = a
below-4 P a b c d (suc zero) h = b
below-4 P a b c d (suc (suc zero)) h = c
below-4 P a b c d (suc (suc (suc zero))) h = d
below-4 P a b c d (suc (suc (suc (suc n)))) h = absurd (omega arith)

-- the larger code has the larger offset
abbrev LargerOffset : ℕ → ℕ → Type 0
LargerOffset a b = offset_in (pick (ltb a b) b a) ≡ pick (ltb (offset_in a) (offset_in b)) (offset_in b) (offset_in a)

larger-offset : (a b : ℕ) → a < 4 → b < 4 → LargerOffset a b
larger-offset a b h k =
    below-4 (λ x. LargerOffset x b)
    (below-4 (λ y. LargerOffset 0 y) refl refl refl refl b k)
    (below-4 (λ y. LargerOffset 1 y) refl refl refl refl b k)
    (below-4 (λ y. LargerOffset 2 y) refl refl refl refl b k)
    (below-4 (λ y. LargerOffset 3 y) refl refl refl refl b k)
    a h

-- an end of offset 0 is beaten by any other
single-offset : (ts : Bool) (a : ℕ) → a < 4 → offset_in (pick (ltb a (pick ts 1 0)) (pick ts 1 0) a) ≡ offset_in a
single-offset true a h = below-4 (λ x. offset_in (pick (ltb x 1) 1 x) ≡ offset_in x) refl refl refl refl a h
single-offset false a h = below-4 (λ x. offset_in (pick (ltb x 0) 0 x) ≡ offset_in x) refl refl refl refl a h

-- ---- one step

-- two bytes go, each by itself, and the first meets TMC
two-of : (two into first : Bool) → (two && not into) && first ≡ true → two ≡ true
two-of two into first h = both_left two (not into) (both_left (two && not into) first h)

-- then one is stored, otherwise all that go
one_of : (two cut : Bool) → cut ≡ true → two && not cut ≡ false
one_of two cut h = rw h (and-false two)

all_of : (two cut : Bool) → cut ≡ false → two && not cut ≡ two
all_of two cut h = rw h (and-true two)

-- one test of two that holds
either : (a b : Bool) → a ≡ true → a || b ≡ true
either a b h = rw h

module _ (c : Channel) (m : Buffers) (after : Channel) (m' : Buffers) (l : TransferLeft c m after m') where
  -- BC falls by the bytes that go
  bc-by : (two : Bool) → two_go c m ≡ two → after.bc ≡ bc_less c (pick two 2 1)
  bc-by two e = l.bc ∙ ap (λ (x : Bool). bc_less c (pick x 2 1)) e

  -- a step with a code ends the transfer
  over_by : eqb (code_of_end c m) 0 ≡ false → bit after.psw 6 ≡ 0
  over_by e = l.status 6 ∙ ap (λ (x : Bool). pick (not x && eqb 6 6) 0 (bit c.psw 6)) e

  -- the codes of TMC, of the count with two bytes fetched or one, and of TS
  abbrev match_code : ℕ
  match_code = field c.cc 0 3 % 4

  abbrev count_code : Bool → ℕ
  count_code two = pick (eqb (bc_less c (pick two 2 1)) 0) (field c.cc 3 2) 0

  abbrev single_on : Bool
  single_on = eqb (bit c.cc 7) 1

  abbrev code_by : Bool → Bool → ℕ
  code_by met two = max_of c m (max_of c m (pick met match_code 0) (count_code two)) (pick single_on 1 0)

  count_small : (two : Bool) → count_code two < 4
  count_small two = pick_small (eqb (bc_less c (pick two 2 1)) 0) (field c.cc 3 2) (mod-lt (c.cc / 2 ^ 3) (lit< tt))

  module _ (h : first_ends c m ≡ true) where
    first_two : two_go c m ≡ true
    first_two = two-of (two_go c m) (into_word_side c m) (meets_in c m (first_byte c m)) h

    first_one : two_stored c m ≡ false
    first_one = one_of (two_go c m) (first_ends c m) h

    first-meets : meets_in c m (first_byte c m) ≡ true
    first-meets = both_right (singly c m) (meets_in c m (first_byte c m)) h

    first_on : eqb match_code 0 ≡ false
    first_on = not-true (eqb match_code 0) (both_left (not (eqb match_code 0)) _ first-meets)

    first_code : code_of_end c m ≡ code_by true true
    first_code = ap₂ code_by (either (meets_in c m (first_byte c m)) (singly c m && meets_in c m (second_byte c m)) first-meets) first_two

    first-ends : eqb (code_by true true) 0 ≡ false
    first-ends = code-left (max_of c m match_code (count_code true)) (pick single_on 1 0) (code-left match_code (count_code true) first_on)

    first-offset : offset_in (code_by true true) ≡ max_of c m (offset_in match_code) (pick (eqb (bc_less c 2) 0) (offset_in (field c.cc 3 2)) 0)
    first-offset =
        single-offset single_on (max_of c m match_code (count_code true)) (larger-small match_code (count_code true) small (count_small true))
        ∙ larger-offset match_code (count_code true) small (count_small true)
        ∙ ap (max_of c m (offset_in match_code)) (sym (pick_under offset_in (eqb (bc_less c 2) 0) (field c.cc 3 2) 0))
      where
        small : match_code < 4
        small = mod-lt (field c.cc 0 3) (lit< tt)

    -- the step in which the first of two single stores meets TMC
    first-left : FirstLeft c m after m'
    first-left = record {
      bc = bc-by true first_two;
      ga = l.ga ∙ ap (λ (x : Bool). pick (eqb (bit c.cc (pick (eqb (bit c.cc 10) 1) 15 14)) 1) (pointer_on c.ga (pick x 2 1)) c.ga) first_one;
      gb = l.gb ∙ ap (λ (x : Bool). pick (eqb (bit c.cc (pick (eqb (bit c.cc 10) 1) 14 15)) 1) (pointer_on c.gb (pick x 2 1)) c.gb) first_one;
      stored = l.stored ∙ ap (λ (x : Bool). pick x
          (store_byte (store_byte m (into_pointer c m).tag (into_pointer c m).address (first_byte c m)) (into_pointer c m).tag (into_second c m) (second_byte c m))
          (store_byte m (into_pointer c m).tag (into_pointer c m).address (first_byte c m))) first_one;
      over = over_by (ap (λ (n : ℕ). eqb n 0) first_code ∙ first-ends);
      tp = l.tp
          ∙ ap (λ (n : ℕ). pick (eqb n 0) c.tp (pointer_on c.tp (offset_in n))) first_code
          ∙ ap (λ (x : Bool). pick x c.tp (pointer_on c.tp (offset_in (code_by true true)))) first-ends
          ∙ ap (pointer_on c.tp) first-offset;
    }

  -- every other step stores what it fetched
  others-stored : first_ends c m ≡ false → two_stored c m ≡ two_go c m
  others-stored h = all_of (two_go c m) (first_ends c m) h

  others-left : first_ends c m ≡ false → after.bc ≡ bc_less c (stored_count c m)
  others-left h = bc-by (two_stored c m) (sym (others-stored h))

  -- of two bytes that are both stored BC falls by 2
  both-left-2 : first_ends c m ≡ false → two_go c m ≡ true → (after.bc ≡ bc_less c 2) × (stored_count c m ≡ 2)
  both-left-2 h two = (bc-by true two, ap (λ (x : Bool). pick x 2 1) (others-stored h ∙ two))

-- ---- what a step adds

-- a step that fetches f bytes and stores g: BC falls by f, and where less is stored, or BC is now 0 with TBC on, the transfer is over
record Falls (c : Channel) (f g : ℕ) (after : Channel) : Type 0 where
  cc : after.cc ≡ c.cc
  bc : after.bc ≡ bc_less c f
  came : (f ≡ g) ⊎ ((f ≡ g + 1) × (bit after.psw 6 ≡ 0))
  over : eqb (bc_less c f) 0 ≡ true → eqb (field c.cc 3 2) 0 ≡ false → bit after.psw 6 ≡ 0

-- the count ends a transfer whose code is made of its code and others
count-over : (a b ts : ℕ) → eqb b 0 ≡ false → eqb (pick (ltb (pick (ltb a b) b a) ts) ts (pick (ltb a b) b a)) 0 ≡ false
count-over a b ts h = code-left (pick (ltb a b) b a) ts (code-right a b h)

-- the whole move
whole-falls : (c : Channel) (m : Buffers) (after : Channel) (m' : Buffers) → TransferLeft c m after m' → Falls c (fetched_count c m) (stored_count c m) after
whole-falls c m after m' l = record {
  cc = l.cc;
  bc = l.bc;
  came = go (first_ends c m) refl;
  over = λ e t. over_by c m after m' l (count-over (pick (meets_in c m (first_byte c m) || singly c m && meets_in c m (second_byte c m)) (field c.cc 0 3 % 4) 0) (pick (eqb (count_left c m) 0) (field c.cc 3 2) 0) (pick (eqb (bit c.cc 7) 1) 1 0) (ap (λ (x : Bool). eqb (pick x (field c.cc 3 2) 0) 0) e ∙ t));
}
  where
    go : (x : Bool) → first_ends c m ≡ x → (fetched_count c m ≡ stored_count c m) ⊎ ((fetched_count c m ≡ stored_count c m + 1) × (bit after.psw 6 ≡ 0))
    go true h =
        inr (ap (λ (x : Bool). pick x 2 1) (first_two c m after m' l h) ∙ ap (λ (x : Bool). pick x 2 1 + 1) (sym (first_one c m after m' l h)), (first-left c m after m' l h).over)
    go false h = inl (ap (λ (x : Bool). pick x 2 1) (sym (others-stored c m after m' l h)))

-- a pair that is over
module _ (c : Channel) (m : Buffers) (by : ℕ) (met : Bool) (after : Channel) (l : PairLeft c m by met after) where
  pair-over : eqb (pair_code c m met) 0 ≡ false → bit after.psw 6 ≡ 0
  pair-over e = l.status 6 ∙ ap (λ (x : Bool). pick (not x && eqb 6 6) 0 (bit c.psw 6)) e

  pair-counts : eqb (pair_less c) 0 ≡ true → eqb (field c.cc 3 2) 0 ≡ false → bit after.psw 6 ≡ 0
  pair-counts e t = pair-over (count-over (pick met (field c.cc 0 3 % 4) 0) (pick (eqb (pair_less c) 0) (field c.cc 3 2) 0) (pick (eqb (bit c.cc 7) 1) 1 0) (ap (λ (x : Bool). eqb (pick x (field c.cc 3 2) 0) 0) e ∙ t))

-- TMC that is met is on
met-on : (c : Channel) (m : Buffers) (byte : ℕ) → meets_in c m byte ≡ true → eqb (field c.cc 0 3 % 4) 0 ≡ false
met-on c m byte h = not-true (eqb (field c.cc 0 3 % 4) 0) (both_left (not (eqb (field c.cc 0 3 % 4) 0)) _ h)

met-code : (c : Channel) (m : Buffers) (byte : ℕ) → meets_in c m byte ≡ true → eqb (pair_code c m true) 0 ≡ false
met-code c m byte h =
    let counting = pick (eqb (pair_less c) 0) (field c.cc 3 2) 0 in
    code-left (max_of c m (field c.cc 0 3 % 4) counting) (pick (eqb (bit c.cc 7) 1) 1 0) (code-left (field c.cc 0 3 % 4) counting (met-on c m byte h))

module _ (c : Channel) (m : Buffers) (after : Channel) (two : two_go c m ≡ true) where
  abbrev fetched_two : fetched_count c m ≡ 2
  fetched_two = ap (λ (x : Bool). pick x 2 1) two

  -- its second half
  closed-falls : (met : Bool) → PairLeft c m 2 met after → Falls c (fetched_count c m) 2 after
  closed-falls met l =
      subst (λ (f : ℕ). Falls c f 2 after) (sym fetched_two) (record { cc = l.cc; bc = l.bc; came = inl refl; over = pair-counts c m 2 met after l })

  -- its first, which a match ends
  met-falls : singly c m ≡ true → meets_in c m (first_byte c m) ≡ true → PairLeft c m 1 true after → Falls c (fetched_count c m) (stored_count c m) after
  met-falls alone met l =
      let one : stored_count c m ≡ 1 = ap₂ (λ (x y : Bool). pick (x && not y) 2 1) two (ap₂ (λ (x y : Bool). x && y) alone met) in
      subst (λ (f : ℕ). Falls c f (stored_count c m) after) (sym fetched_two)
      (subst (λ (g : ℕ). Falls c 2 g after) (sym one)
      (record {
        cc = l.cc;
        bc = l.bc;
        came = inr (refl, pair-over c m 1 true after l (met-code c m (first_byte c m) met));
        over = pair-counts c m 1 true after l;
      }))

-- the two ways of a pair
either_way : (a b : Bool) → a || b ≡ true → a ≡ false → b ≡ true
either_way a b h e = sym (ap (λ (x : Bool). x || b) e) ∙ h

never_both : (syn : ℕ) (x y : Bool) → eqb syn 1 && x ≡ true → eqb syn 2 && y ≡ false
never_both syn x y e = ap (λ (b : Bool). b && y) (ne_eqb syn 2 (λ z. eqb-false 1 2 refl (sym (eqb-true syn 1 (both_left (eqb syn 1) x e)) ∙ z)))

-- what a done transfer step adds: nothing yet, where it is a first half that no match ends; else as it falls
Adds : Channel → Buffers → Channel → Type 0
Adds c m after = ((opens c m ≡ true) × OnlyHeld c after) ⊎ ((opens c m ≡ false) × Falls c (fetched_count c m) (pick (closes c m) 2 (stored_count c m)) after)

module _ (c : Channel) (m : Buffers) (after : Channel) (m' : Buffers) where
  abbrev opened : Bool → Bool → Bool → Bool
  opened half none stop = half && (none && not stop)

  abbrev stops_here : Bool
  stops_here = stores_twice c m && meets_in c m (first_byte c m)

  opens_as : (half none stop : Bool) → half_due c m ≡ half → is_none c.held ≡ none → stops_here ≡ stop → opens c m ≡ opened half none stop
  opens_as half none stop e f g = ap₂ (λ (x y : Bool). opened x y stops_here) e f ∙ ap (opened half none) g

  closes_as : (half none : Bool) → half_due c m ≡ half → is_none c.held ≡ none → closes c m ≡ (half && not none)
  closes_as half none e f = ap₂ (λ (x y : Bool). x && not y) e f

  from-fetches : fetches_twice c m ≡ true → two_go c m ≡ true
  from-fetches f = both_left (two_go c m) _ (both_right (eqb (field c.cc 11 2) 1) _ f)

  from-stores : stores_twice c m ≡ true → singly c m ≡ true
  from-stores f = both_right (eqb (field c.cc 11 2) 2) (singly c m) f

  adds : (half_due c m ≡ false → TransferLeft c m after m') → HalfLeft c m after m' → Adds c m after
  unfolding Adds
  adds whole half = go (half_due c m) refl c.held refl (fetches_twice c m) refl (meets_in c m (first_byte c m)) refl
    where
      go : (x : Bool) → half_due c m ≡ x → (h : Option ℕ) → c.held ≡ h → (y : Bool) → fetches_twice c m ≡ y → (z : Bool) → meets_in c m (first_byte c m) ≡ z → Adds c m after
      go false ex h eh y ey z ez =
          inr (opens_as false (is_none c.held) stops_here ex refl refl, subst (λ (x : Bool). Falls c (fetched_count c m) (pick x 2 (stored_count c m)) after) (sym (closes_as false (is_none c.held) ex refl)) (whole-falls c m after m' (whole ex)))
      go true ex (Some byte) eh true ey z ez =
          inr (opens_as true false stops_here ex (ap is_none eh) refl, subst (λ (x : Bool). Falls c (fetched_count c m) (pick x 2 (stored_count c m)) after) (sym (closes_as true false ex (ap is_none eh))) (closed-falls c m after (from-fetches ey) _ (half.second_fetch byte ey eh).0))
      go true ex (Some byte) eh false ey z ez =
          let f = either_way (fetches_twice c m) (stores_twice c m) ex ey in
          inr (opens_as true false stops_here ex (ap is_none eh) refl, subst (λ (x : Bool). Falls c (fetched_count c m) (pick x 2 (stored_count c m)) after) (sym (closes_as true false ex (ap is_none eh))) (closed-falls c m after (both_left (two_go c m) _ (from-stores f)) _ (half.second_store byte f eh).0))
      go true ex None eh true ey z ez =
          inl (opens_as true true false ex (ap is_none eh) (ap (λ (x : Bool). x && meets_in c m (first_byte c m)) (never_both (field c.cc 11 2) _ (singly c m) ey)), (half.first_fetch ey eh).0)
      go true ex None eh false ey true ez =
          let f = either_way (fetches_twice c m) (stores_twice c m) ex ey in
          inr (opens_as true true true ex (ap is_none eh) (ap₂ (λ (x y : Bool). x && y) f ez), subst (λ (x : Bool). Falls c (fetched_count c m) (pick x 2 (stored_count c m)) after) (sym (closes_as true true ex (ap is_none eh))) (met-falls c m after (both_left (two_go c m) _ (from-stores f)) (from-stores f) ez (half.first_met f eh ez).0))
      go true ex None eh false ey false ez =
          let f = either_way (fetches_twice c m) (stores_twice c m) ex ey in
          inl (opens_as true true false ex (ap is_none eh) (ap₂ (λ (x y : Bool). x && y) f ez), (half.first_store f eh ez).0)

-- the sheets of the call that is a transfer step
sheet-of : (b : Bool) (s : State) (m : Buffers) (lines : ℕ) → Transfers b s m lines → half_due (channel_of s b) m ≡ false → TransferLeft (channel_of s b) m (ran_channel b s m lines) (step_of s m lines).memory
sheet-of b s m lines t undue = (transfer-sheet b s m lines).transfer t undue

step-adds : (b : Bool) (s : State) (m : Buffers) (lines : ℕ) → Transfers b s m lines → Adds (channel_of s b) m (ran_channel b s m lines)
step-adds b s m lines t = adds (channel_of s b) m (ran_channel b s m lines) (step_of s m lines).memory (sheet-of b s m lines t) ((half-sheet b s m lines).half t)

-- a first of two single stores that meets TMC, where the two are a step each
pair-first : (c : Channel) (m : Buffers) (after : Channel) (m' : Buffers) → HalfLeft c m after m' → half_due c m ≡ true → first_ends c m ≡ true → closes c m ≡ false → FirstLeft c m after m'
pair-first c m after m' half due h first-half =
    let met = both_right (singly c m) (meets_in c m (first_byte c m)) h in
    let l = half.first_met stores free met in
    let on = met-code c m (first_byte c m) met in
    record {
      bc = l.0.bc;
      ga = l.0.ga;
      gb = l.0.gb;
      stored = l.1;
      over = pair-over c m 1 true after l.0 on;
      tp = l.0.tp ∙ ap (λ (x : Bool). pick x c.tp (pointer_on c.tp (offset_in (pair_code c m true)))) on ∙ ap (pointer_on c.tp) offset;
    }
  where
    small : field c.cc 0 3 % 4 < 4
    small = mod-lt (field c.cc 0 3) (lit< tt)

    counting : ℕ
    counting = pick (eqb (pair_less c) 0) (field c.cc 3 2) 0

    counts : counting < 4
    counts = pick_small (eqb (pair_less c) 0) (field c.cc 3 2) (mod-lt (c.cc / 2 ^ 3) (lit< tt))

    offset : offset_in (pair_code c m true) ≡ max_of c m (offset_in (field c.cc 0 3 % 4)) (pick (eqb (bc_less c 2) 0) (offset_in (field c.cc 3 2)) 0)
    offset =
        single-offset (eqb (bit c.cc 7) 1) (max_of c m (field c.cc 0 3 % 4) counting) (larger-small (field c.cc 0 3 % 4) counting small counts)
        ∙ larger-offset (field c.cc 0 3 % 4) counting small counts
        ∙ ap (max_of c m (offset_in (field c.cc 0 3 % 4))) (sym (pick_under offset_in (eqb (pair_less c) 0) (field c.cc 3 2) 0))

    none_from : (more syn : Bool) → syn && ((true && more) && false) ≡ false
    none_from true true = refl
    none_from true false = refl
    none_from false true = refl
    none_from false false = refl

    apart-sides : (from into more syn : Bool) → ((from || into) && more) && not into ≡ true → syn && (((from || into) && more) && not from) ≡ false
    apart-sides true false more syn k = none_from more syn
    apart-sides true true true syn k = apart (sym k)
    apart-sides true true false syn k = apart (sym k)
    apart-sides false true true syn k = apart (sym k)
    apart-sides false true false syn k = apart (sym k)
    apart-sides false false more syn k = apart (sym k)

    -- a destination that is no word side has a source that is one, so the fetches are no pair
    stores : stores_twice c m ≡ true
    stores = either_way (fetches_twice c m) (stores_twice c m) due (apart-sides (from_word_side c m) (into_word_side c m) (not (not (eqb (field c.cc 3 2) 0) && eqb c.bc 1)) (eqb (field c.cc 11 2) 1) (both_left (singly c m) (meets_in c m (first_byte c m)) h))

    none : (x : Option ℕ) → c.held ≡ x → c.held ≡ None
    none None e = e
    none (Some byte) e = apart (sym (ap₂ (λ (x y : Bool). x && not y) due (ap is_none e)) ∙ first-half)

    free : c.held ≡ None
    free = none c.held refl

pub leftover-sheet : (second : Bool) (s : State) (m : Buffers) (lines : ℕ) → LeftoverSheet second s m lines
leftover-sheet b s m lines = record {
  first_met = λ t h first-half. first (half_due c m) refl t h first-half;
  others = λ t undue. others-left c m after m' (sheet-of b s m lines t undue);
  second_met = λ t undue h f g. both-left-2 c m after m' (sheet-of b s m lines t undue) (unmet (singly c m) (meets_in c m (first_byte c m)) f) (both_left (two_go c m) (not (into_word_side c m)) h);
  word_stored = λ t undue h w. both-left-2 c m after m' (sheet-of b s m lines t undue) (whole (two_go c m) (into_word_side c m) (meets_in c m (first_byte c m)) w) h;
}
  where
    c : Channel
    c = channel_of s b

    after : Channel
    after = ran_channel b s m lines

    m' : Buffers
    m' = (step_of s m lines).memory

    first : (x : Bool) → half_due c m ≡ x → Transfers b s m lines → first_ends c m ≡ true → closes c m ≡ false → FirstLeft c m after m'
    first true due t h first-half = pair-first c m after m' ((half-sheet b s m lines).half t) due h first-half
    first false undue t h first-half = first-left c m after m' (sheet-of b s m lines t undue) h

    unmet : (x y : Bool) → y ≡ false → x && y ≡ false
    unmet x y e = rw e (and-false x)

    whole : (two into first : Bool) → into ≡ true → (two && not into) && first ≡ false
    whole two into first e = rw (e, and-false)

-- ---- calls in a row

-- one transfer step more
sector-next : (c : Channel) (m : Buffers) (after : Channel) → Adds c m after → bit c.psw 6 ≡ 1 → (count fetched stored : ℕ)
    → SectorLeft count fetched stored c → SectorLeft count (fetched + fetched_now c m) (stored + stored_now c m) after
unfolding Adds
sector-next c m after (inl (o, l)) on count fetched stored i =
    let f : fetched_now c m ≡ 0 = ap (λ (x : Bool). pick x 0 (fetched_count c m)) o in
    let g : stored_now c m ≡ 0 = ap (λ (x : Bool). pick x 0 (pick (closes c m) 2 (stored_count c m))) o in
    let e : (c.bc + fetched) % 65536 ≡ count % 65536 = i.left in
    record {
      left = ap (λ (n : ℕ). (n + (fetched + fetched_now c m)) % 65536) l.bc ∙ omega arith;
      small = λ h. subst (λ (n : ℕ). n < 65536) (sym l.bc) (i.small (omega arith));
      came = so i.came f g;
    }
  where
    so : (fetched ≡ stored) ⊎ ((fetched ≡ stored + 1) × (bit c.psw 6 ≡ 0)) → fetched_now c m ≡ 0 → stored_now c m ≡ 0
        → (fetched + fetched_now c m ≡ stored + stored_now c m) ⊎ ((fetched + fetched_now c m ≡ stored + stored_now c m + 1) × (bit after.psw 6 ≡ 0))
    so (inl e) f g = inl (omega arith)
    so (inr (e, off)) f g = absurd (eqb-false 0 1 refl (sym off ∙ on))
sector-next c m after (inr (o, l)) on count fetched stored i =
    subst (λ (f : ℕ). SectorLeft count (fetched + f) (stored + stored_now c m) after) (sym (ap (λ (x : Bool). pick x 0 (fetched_count c m)) o))
    (subst (λ (g : ℕ). SectorLeft count (fetched + fetched_count c m) (stored + g) after) (sym (ap (λ (x : Bool). pick x 0 (pick (closes c m) 2 (stored_count c m))) o))
    (record {
      left = ap (λ (n : ℕ). (n + (fetched + fetched_count c m)) % 65536) l.bc ∙ fallen (two_go c m);
      small = λ h. subst (λ (n : ℕ). n < 65536) (sym l.bc) (mod-lt (c.bc + (65536 - fetched_count c m)) (lit< tt));
      came = so i.came l.came;
    }))
  where
    fallen : (two : Bool) → (bc_less c (pick two 2 1) + (fetched + pick two 2 1)) % 65536 ≡ count % 65536
    fallen true = let e : (c.bc + fetched) % 65536 ≡ count % 65536 = i.left in omega arith
    fallen false = let e : (c.bc + fetched) % 65536 ≡ count % 65536 = i.left in omega arith

    g : ℕ
    g = pick (closes c m) 2 (stored_count c m)

    so : (fetched ≡ stored) ⊎ ((fetched ≡ stored + 1) × (bit c.psw 6 ≡ 0)) → (fetched_count c m ≡ g) ⊎ ((fetched_count c m ≡ g + 1) × (bit after.psw 6 ≡ 0))
        → (fetched + fetched_count c m ≡ stored + g) ⊎ ((fetched + fetched_count c m ≡ stored + g + 1) × (bit after.psw 6 ≡ 0))
    so (inl e) (inl k) = inl (ap₂ ◌+◌ e k)
    so (inl e) (inr (k, off)) = inr (ap₂ ◌+◌ e k ∙ sym (add_assoc stored g 1), off)
    so (inr (e, off)) k = absurd (eqb-false 0 1 refl (sym off ∙ on))

pub sector : {second : Bool} {s₀ : State} {fetched stored : ℕ} {s : State} → Sector second s₀ fetched stored s
    → SectorLeft (channel_of s₀ second).bc fetched stored (channel_of s second)
sector {second = b} {s₀ = s₀} begin = record { left = ap (λ (n : ℕ). n % 65536) (omega arith); small = λ h. absurd (omega arith); came = inl refl }
sector {second = b} {s₀ = s₀} (transfer {fetched = f} {stored = g} {s = s} r m lines t) =
    sector-next (channel_of s b) m (ran_channel b s m lines) (step-adds b s m lines t) t.on (channel_of s₀ b).bc f g (sector r)
sector {second = b} {s₀ = s₀} (step {fetched = f} {stored = g} {s = s} r m lines ne) = subst (SectorLeft (channel_of s₀ b).bc f g) (sym (not-of b s m lines ne)) (sector r)
sector {second = b} {s₀ = s₀} (attention {fetched = f} {stored = g} {s = s} r m channel ne) = subst (SectorLeft (channel_of s₀ b).bc f g) (sym (attention-kept b s m channel ne)) (sector r)

-- ---- the driver's sum

-- what a row with TBC on keeps: CC as it was, BC in 16 bits, no more fetched than the sector has, and less of it while the transfer goes on
record Counted (n cc fetched : ℕ) (c : Channel) : Type 0 where
  same : c.cc ≡ cc
  word : c.bc < 65536
  most : fetched ≤ n
  going : bit c.psw 6 ≡ 1 → fetched < n

-- one transfer step more
counted_next : (c : Channel) (m : Buffers) (after : Channel) → Adds c m after → bit c.psw 6 ≡ 1 → (n cc fetched : ℕ) → n ≤ 65536
    → (field cc 3 2 ≡ 0 → ⊥) → (c.bc + fetched) % 65536 ≡ n % 65536 → (after.bc + (fetched + fetched_now c m)) % 65536 ≡ n % 65536
    → Counted n cc fetched c → Counted n cc (fetched + fetched_now c m) after
unfolding Adds
counted_next c m after (inl (o, l)) on n cc fetched large tbc left left' i =
    let f : fetched_now c m ≡ 0 = ap (λ (x : Bool). pick x 0 (fetched_count c m)) o in
    record {
      same = l.cc ∙ i.same;
      word = subst (λ (k : ℕ). k < 65536) (sym l.bc) i.word;
      most = let k : fetched ≤ n = i.most in omega arith;
      going = λ on'. let k : fetched < n = i.going on in omega arith;
    }
counted_next c m after (inr (o, l)) on n cc fetched large tbc left left' i =
    subst (λ (f : ℕ). Counted n cc (fetched + f) after) (sym now)
    (record {
      same = l.cc ∙ i.same;
      word = word;
      most = fits (two_go c m) refl;
      going = λ on'. short (ℕ_discrete (fetched + fetched_count c m) n) on';
    })
  where
    now : fetched_now c m ≡ fetched_count c m
    now = ap (λ (x : Bool). pick x 0 (fetched_count c m)) o

    fallen : (after.bc + (fetched + fetched_count c m)) % 65536 ≡ n % 65536
    fallen = ap (λ (f : ℕ). (after.bc + (fetched + f)) % 65536) (sym now) ∙ left'

    word : after.bc < 65536
    word = subst (λ (k : ℕ). k < 65536) (sym l.bc) (mod-lt (c.bc + (65536 - fetched_count c m)) (lit< tt))

    counts : eqb (field c.cc 3 2) 0 ≡ false
    counts = ne_eqb (field c.cc 3 2) 0 (λ e. tbc (ap (λ (x : ℕ). field x 3 2) (sym i.same) ∙ e))

    -- two bytes go only where more than one is left
    last-alone : (some off one : Bool) → some && not (not off && one) ≡ true → off ≡ false → one ≡ false
    last-alone true false true h e = apart (sym h)
    last-alone true false false h e = refl
    last-alone true true one h e = apart e
    last-alone false off one h e = apart (sym h)

    fits : (two : Bool) → two_go c m ≡ two → fetched + pick two 2 1 ≤ n
    fits true e =
        let some : fetched < n = i.going on in
        let small : c.bc < 65536 = i.word in
        let more : c.bc ≡ 1 → ⊥ = eqb-false c.bc 1 (last-alone (from_word_side c m || into_word_side c m) (eqb (field c.cc 3 2) 0) (eqb c.bc 1) e counts) in
        omega arith
    fits false e = let some : fetched < n = i.going on in omega arith

    -- with the last of them the count ends it
    ended : fetched + fetched_count c m ≡ n → bit after.psw 6 ≡ 0
    ended e =
        let k : (after.bc + (fetched + fetched_count c m)) % 65536 ≡ n % 65536 = fallen in
        let none : after.bc ≡ 0 = omega (arith, word) in
        l.over (eq-eqb (bc_less c (fetched_count c m)) 0 (sym l.bc ∙ none)) counts

    short : Dec (fetched + fetched_count c m ≡ n) → bit after.psw 6 ≡ 1 → fetched + fetched_count c m < n
    short (yes e) on' = absurd (eqb-false 0 1 refl (sym (ended e) ∙ on'))
    short (no ne) on' = let k : fetched + fetched_count c m ≤ n = fits (two_go c m) refl in omega arith

module _ {b : Bool} {s₀ : State} {n : ℕ} (some : 1 ≤ n) (large : n ≤ 65536) (e : (channel_of s₀ b).bc ≡ n % 65536) (tbc : field (channel_of s₀ b).cc 3 2 ≡ 0 → ⊥) where
  -- BC on the way, by the length of the sector
  left-of : {fetched stored : ℕ} {s : State} → Sector b s₀ fetched stored s → ((channel_of s b).bc + fetched) % 65536 ≡ n % 65536
  left-of r = let k = (sector r).left in omega arith

  counted : {fetched stored : ℕ} {s : State} → Sector b s₀ fetched stored s → Counted n (channel_of s₀ b).cc fetched (channel_of s b)
  counted begin = record { same = refl; word = subst (λ (k : ℕ). k < 65536) (sym e) (mod-lt n (lit< tt)); most = omega arith; going = λ on. some }
  counted (transfer {fetched = f} {s = s} r m lines t) =
      counted_next (channel_of s b) m (ran_channel b s m lines) (step-adds b s m lines t) t.on n (channel_of s₀ b).cc f large tbc
      (left-of r) (left-of (transfer r m lines t)) (counted r)
  counted (step {fetched = f} {s = s} r m lines ne) = subst (Counted n (channel_of s₀ b).cc f) (sym (not-of b s m lines ne)) (counted r)
  counted (attention {fetched = f} {s = s} r m channel ne) = subst (Counted n (channel_of s₀ b).cc f) (sym (attention-kept b s m channel ne)) (counted r)

  -- the sector's length less BC is what was fetched
  pub driver-sum : {fetched stored : ℕ} {s : State} → Sector b s₀ fetched stored s → DriverSum n fetched (channel_of s b)
  driver-sum {fetched = f} {s = s} r =
      let most : f ≤ n = (counted r).most in
      let word : (channel_of s b).bc < 65536 = (counted r).word in
      let left : ((channel_of s b).bc + f) % 65536 ≡ n % 65536 = left-of r in
      record { most = most; sum = λ h. omega arith }
