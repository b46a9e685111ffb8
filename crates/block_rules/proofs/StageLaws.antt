-- The channel on the way: its sides, the bytes that its next step moves, and what that step makes of it.
-- Assumes nothing.
use Rattle.std.proofs.Common.{None}
use Prim.Native.Nat.{ℕ, ◌+◌, ◌-◌, ◌/◌, ◌%◌, ◌<◌, ◌≤◌}
use borrow.Author.Tests.{ltb-true, eqb-false, lt-ltb, le-ltb, eq-eqb, ne_eqb}
use lib.Dec.{ltb, eqb}
use mathlib.Core.Bool.{Bool, true, false, not, ◌&&◌, ◌||◌}
use mathlib.Core.Path.{◌≡◌, refl, sym, ap, ap₂, ◌∙◌}
use native.Mathlib.Decide.{dec_lt, ℕ_discrete}
use native.Mathlib.Omega.{arith}
use Rattle.ground_rules.proofs.PlaceLaws.{onward-twice}
use Rattle.ground_rules.specs.Psw.{destination_wide, source_wide, with_psw}
use Rattle.ground_rules.specs.States.{sound_channel}
use Rattle.ground_rules.specs.declared.Channel.{Channel}
use Rattle.ground_rules.specs.declared.Fields.{Fields}
use Rattle.ground_rules.specs.Buffers.{Buffers}
use Rattle.ground_rules.specs.Values.{pointer, onward}
use Rattle.ground_rules.specs.declared.Pointer.{Pointer}
use Rattle.transfer_rules.proofs.BlockLaws.{Block, carried, word-narrow, one-moves, last-moves, two-moves, block-going, block_last}
use Rattle.ground_rules.proofs.ChoiceLaws.{pick_under, apart, both_left, both_right}
use Rattle.transfer_rules.specs.Ends.{offset_of, ended_tp, ended_psw, ended_by}
use Rattle.ground_rules.specs.Updates.{with_transfer, holding}
use Rattle.transfer_rules.specs.Reads.{bytes_fetched, data_of}
use Rattle.transfer_rules.specs.Sides.{side, source, destination, word_side, gained, two_move}
use Rattle.transfer_rules.specs.Stores.{count_after, moved_channel}
use Rattle.ground_rules.specs.Bits.{bit_of}
use Rattle.ground_rules.specs.Choice.{pick}
use Rattle.ground_rules.specs.Sums.{count_down}
use Rattle.block_rules.specs.Premises.{from, into, Plain}
use Rattle.block_rules.specs.Stages.{held_on, midway, finished}
use Rattle.block_rules.specs.Totals.{narrow}

-- the channel when j of n bytes have moved, and at n the end
unfoldable pub stage : Channel → ℕ → ℕ → Channel
stage c n j = pick (ltb j n) (midway c n j) (finished c n)

-- ---- a pointer on

-- by none
on_none : (p : Pointer) → p.address < 1048576 → onward p 0 ≡ p
unfolding onward
on_none p h = ap (λ (a : ℕ). pointer a p.tag) (omega arith)

-- and by some more
on-on : (p : Pointer) (j s : ℕ) → gained true (onward p j) s ≡ onward p (j + s)
unfolding gained
on-on p j s = onward-twice p j s

-- a sound channel's GA is of 20 bits
ga-small : (c : Channel) → sound_channel c ≡ true → c.ga.address < 1048576
unfolding sound_channel
ga-small c h =
    let a = ltb c.ga.address 1048576 in
    let b = ltb c.gb.address 1048576 in
    let d = ltb c.gc.address 1048576 in
    let e = ltb c.tp.address 1048576 in
    ltb-true c.ga.address 1048576 (both_left a b (both_left (a && b) d (both_left (a && b && d) e (both_left (a && b && d && e) (ltb c.pp 1048576) h))))

-- and so is GB
gb-small : (c : Channel) → sound_channel c ≡ true → c.gb.address < 1048576
unfolding sound_channel
gb-small c h =
    let a = ltb c.ga.address 1048576 in
    let b = ltb c.gb.address 1048576 in
    let d = ltb c.gc.address 1048576 in
    let e = ltb c.tp.address 1048576 in
    ltb-true c.gb.address 1048576 (both_right a b (both_left (a && b) d (both_left (a && b && d) e (both_left (a && b && d && e) (ltb c.pp 1048576) h))))

-- ---- the sides

-- the source on the way is on by the bytes moved
pub mid-source : (c : Channel) (n j : ℕ) → source (midway c n j) ≡ side (onward (from c) j) (source c).moves (source c).wide
unfolding source midway with_transfer
mid-source c n j = ap (λ (p : Pointer). side p c.fields.sourceMoves (source_wide c.psw)) (pick_under (λ (p : Pointer). onward p j) c.fields.sourceIsGB c.gb c.ga)

-- and so is the destination
pub mid-destination : (c : Channel) (n j : ℕ) → destination (midway c n j) ≡ side (onward (into c) j) (destination c).moves (destination c).wide
unfolding destination midway with_transfer
mid-destination c n j = ap (λ (p : Pointer). side p c.fields.destinationMoves (destination_wide c.psw)) (pick_under (λ (p : Pointer). onward p j) c.fields.sourceIsGB c.ga c.gb)

-- BC on the way
pub mid-count : (c : Channel) (n j : ℕ) → (midway c n j).bc ≡ (n - j) % 65536
unfolding midway with_transfer
mid-count c n j = refl

-- CC stays
pub mid-fields : (c : Channel) (n j : ℕ) → (midway c n j).fields ≡ c.fields
unfolding midway with_transfer
mid-fields c n j = refl

-- such a transfer's CC
pub plain-block : (c : Channel) → Plain c → Block c.fields
plain-block c k =
    record {
      from = k.leaves;
      into = k.enters;
      plain = k.untranslated;
      unmatched = k.unmatched;
      ongoing = k.ongoing;
      counts = k.counts;
    }

-- on the way too
pub mid-block : (c : Channel) (n j : ℕ) → Plain c → Block (midway c n j).fields
mid-block c n j k = rw mid-fields (plain-block c k)

-- SYN is 00
pub mid-syn : (c : Channel) (n j : ℕ) → Plain c → (midway c n j).fields.synchronised ≡ 0
mid-syn c n j k = ap (λ (f : Fields). f.synchronised) (mid-fields c n j) ∙ k.unsynchronised

-- ---- word sides

-- an even way on leaves a side as it was
word-even-on : (p : Pointer) (mv w : Bool) (j : ℕ) → j % 2 ≡ 0 → word_side (side (onward p j) mv w) ≡ word_side (side p mv w)
unfolding word_side bit_of onward
word-even-on p mv w j h =
    let e : (p.address + j) % 1048576 / 1 % 2 ≡ p.address / 1 % 2 = omega arith in
    ap (λ (x : ℕ). w && not (eqb x 1)) e

-- an odd way on turns it
word-odd-on : (p : Pointer) (mv w : Bool) (j : ℕ) → j % 2 ≡ 1 → word_side (side (onward p j) mv w) ≡ (w && bit_of p.address 0)
unfolding word_side bit_of onward
word-odd-on p mv w j h = ap (λ (b : Bool). w && b) (go (ℕ_discrete (p.address / 1 % 2) 1))
  where
    go : Dec (p.address / 1 % 2 ≡ 1) → not (eqb ((p.address + j) % 1048576 / 1 % 2) 1) ≡ eqb (p.address / 1 % 2) 1
    go (yes e) = rw (ne_eqb ((p.address + j) % 1048576 / 1 % 2) 1 (omega arith), eq-eqb (p.address / 1 % 2) 1 e)
    go (no ne) = rw (eq-eqb ((p.address + j) % 1048576 / 1 % 2) 1 (omega arith), ne_eqb (p.address / 1 % 2) 1 ne)

-- after an even number of bytes there is a word side where there was one at the start
pub words-even : (c : Channel) (n j : ℕ) → j % 2 ≡ 0 → word_side (source (midway c n j)) || word_side (destination (midway c n j)) ≡ word_side (source c) || word_side (destination c)
words-even c n j h =
    rw (mid-source c n j, mid-destination c n j)
    (ap₂ ◌||◌ (word-even-on (from c) (source c).moves (source c).wide j h) (word-even-on (into c) (destination c).moves (destination c).wide j h))

-- sides that are wide and no word sides all turn
turned : (ws xs wd xd : Bool) → (ws && not xs) || (wd && not xd) ≡ false → not ws && not wd ≡ false → (ws && xs) || (wd && xd) ≡ true
turned true true wd xd h k = refl
turned true false wd xd h k = apart h
turned false xs true true h k = refl
turned false xs true false h k = apart h
turned false xs false xd h k = apart k

-- after an odd number there is one where there was none, if some side is wide
pub words-odd : (c : Channel) (n j : ℕ) → j % 2 ≡ 1 → narrow c ≡ false → word_side (source c) || word_side (destination c) ≡ false
    → word_side (source (midway c n j)) || word_side (destination (midway c n j)) ≡ true
unfolding narrow word_side
words-odd c n j h w k =
    rw (mid-source c n j, mid-destination c n j)
    (ap₂ ◌||◌ (word-odd-on (from c) (source c).moves (source c).wide j h) (word-odd-on (into c) (destination c).moves (destination c).wide j h)
    ∙ turned (source c).wide (bit_of (from c).address 0) (destination c).wide (bit_of (into c).address 0) k w)

-- two narrow sides are none
pub narrow_one : (c : Channel) (n j : ℕ) → narrow c ≡ true → two_move (midway c n j) ≡ false
unfolding narrow
narrow_one c n j h =
    one-moves (midway c n j)
    (word-narrow (source (midway c n j)) (rw mid-source (thin (source c).wide (both_left (not (source c).wide) (not (destination c).wide) h))))
    (word-narrow (destination (midway c n j)) (rw mid-destination (thin (destination c).wide (both_right (not (source c).wide) (not (destination c).wide) h))))
  where
    thin : (b : Bool) → not b ≡ true → b ≡ false
    thin true h = sym h
    thin false h = refl

-- no word side, one byte
pub words-none : (c : Channel) (n j : ℕ) → word_side (source (midway c n j)) || word_side (destination (midway c n j)) ≡ false → two_move (midway c n j) ≡ false
unfolding two_move
words-none c n j h = rw h

-- one byte is left, one byte
pub words_last : (c : Channel) (n j : ℕ) → Plain c → j < n → n - j ≡ 1 → two_move (midway c n j) ≡ false
words_last c n j k h e = last-moves (midway c n j) (rw mid-fields k.counts) (mid-count c n j ∙ omega arith)

-- a word side, and more than one byte left: two
pub words-two : (c : Channel) (n j : ℕ) → word_side (source (midway c n j)) || word_side (destination (midway c n j)) ≡ true → j < n → n ≤ 65536 → (n - j ≡ 1 → ⊥)
    → two_move (midway c n j) ≡ true
words-two c n j h l most ne = two-moves (midway c n j) h (λ e. let x : (n - j) % 65536 ≡ 1 = sym (mid-count c n j) ∙ e in omega arith)

-- ---- the next stage

-- both pointers and BC after the next step
carried-mid : (c : Channel) (n j s : ℕ) → bytes_fetched (midway c n j) ≡ s → 1 ≤ s → s ≤ 2 → j + s ≤ n → n ≤ 65536 → carried (midway c n j) ≡ midway c n (j + s)
unfolding carried midway with_transfer
carried-mid c n j s e one two fits most =
    λ i. holding (with_transfer c (ga i) (gb i) c.tp (bc i) c.psw) (held i)
  where
    held : None ≡ held_on c (j + s)
    held = rw (ne_eqb (j + s) 0 (omega arith))

    ga : gained true (onward c.ga j) (bytes_fetched (midway c n j)) ≡ onward c.ga (j + s)
    ga = rw e (on-on c.ga j s)

    gb : gained true (onward c.gb j) (bytes_fetched (midway c n j)) ≡ onward c.gb (j + s)
    gb = rw e (on-on c.gb j s)

    bc : count_down ((n - j) % 65536) (bytes_fetched (midway c n j)) ≡ (n - (j + s)) % 65536
    bc = rw e (omega arith)

-- BC after the next step
left-mid : (c : Channel) (n j s : ℕ) → bytes_fetched (midway c n j) ≡ s → s ≤ 2 → j + s ≤ n → n ≤ 65536 → count_after (midway c n j) ≡ (n - (j + s)) % 65536
left-mid c n j s e two fits most = rw (e, mid-count c n j) (omega arith)

-- the end
ends-mid : (c : Channel) (n : ℕ) → 1 ≤ n → (c.fields.countEnd ≡ 0 → ⊥) → ended_by (midway c n n) c.fields.countEnd ≡ finished c n
unfolding ended_by ended_tp ended_psw midway finished with_transfer gained
ends-mid c n some ne = λ i. holding (with_transfer c (onward c.ga n) (onward c.gb n) (tp i) (bc i) (psw i)) (held i)
  where
    held : held_on c n ≡ None
    held = rw (ne_eqb n 0 (omega arith))

    tp : gained (not (eqb c.fields.countEnd 0)) c.tp (offset_of c.fields.countEnd) ≡ onward c.tp (offset_of c.fields.countEnd)
    tp = rw (ne_eqb c.fields.countEnd 0 ne)

    psw : pick (eqb c.fields.countEnd 0) c.psw (with_psw c.psw 6 false) ≡ with_psw c.psw 6 false
    psw = rw (ne_eqb c.fields.countEnd 0 ne)

    bc : (n - n) % 65536 ≡ 0
    bc = omega arith

-- what the next step makes of the channel
pub stage-next : (c : Channel) (n j s : ℕ) (m : Buffers) → Plain c → bytes_fetched (midway c n j) ≡ s → 1 ≤ s → s ≤ 2 → j + s ≤ n → n ≤ 65536
    → moved_channel (midway c n j) (data_of (midway c n j) m) ≡ stage c n (j + s)
unfolding stage
stage-next c n j s m k e one two fits most = go (dec_lt (j + s) n)
  where
    left : count_after (midway c n j) ≡ (n - (j + s)) % 65536
    left = left-mid c n j s e two fits most

    next : carried (midway c n j) ≡ midway c n (j + s)
    next = carried-mid c n j s e one two fits most

    go : Dec (j + s < n) → moved_channel (midway c n j) (data_of (midway c n j) m) ≡ pick (ltb (j + s) n) (midway c n (j + s)) (finished c n)
    go (yes h) = rw (lt-ltb (j + s) n h) (block-going (midway c n j) (data_of (midway c n j) m) (mid-block c n j k) (λ z. let x : (n - (j + s)) % 65536 ≡ 0 = sym left ∙ z in omega arith) ∙ next)
    go (no h) =
        let all : j + s ≡ n = omega arith in
        rw (le-ltb (j + s) n (omega arith))
        (block_last (midway c n j) (data_of (midway c n j) m) (mid-block c n j k) (left ∙ omega arith)
        ∙ ap₂ ended_by (next ∙ ap (midway c n) all) (ap (λ (f : Fields). f.countEnd) (mid-fields c n j))
        ∙ ends-mid c n (omega arith) k.counts)

-- at the start none has moved
pub stage-start : (c : Channel) (n : ℕ) → Plain c → 1 ≤ n → c.bc ≡ n % 65536 → stage c n 0 ≡ c
unfolding stage midway with_transfer
stage-start c n k one e = rw (lt-ltb 0 n one) (λ i. holding (with_transfer c (on_none c.ga ga i) (on_none c.gb gb i) c.tp (bc i) c.psw) c.held)
  where
    ga : c.ga.address < 1048576
    ga = ga-small c k.sound

    gb : c.gb.address < 1048576
    gb = gb-small c k.sound

    bc : (n - 0) % 65536 ≡ c.bc
    bc = ap (λ (x : ℕ). x % 65536) (omega arith) ∙ sym e
