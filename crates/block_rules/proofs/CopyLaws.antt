-- The row of a channel's transfer steps: what holds after each of them, and at the last.
-- Assumes nothing.
use Prim.Native.Nat.{ℕ, suc, ◌+◌, ◌-◌, ◌%◌, ◌<◌, ◌≤◌}
use borrow.Author.Tests.{lt-ltb, le-ltb}
use mathlib.Core.Bool.{Bool, true, false, ◌||◌}
use mathlib.Core.Path.{◌≡◌, refl, sym, ap, ◌∙◌}
use native.Mathlib.Decide.{dec_le, ℕ_discrete}
use native.Mathlib.Nat.{add_assoc}
use native.Mathlib.Omega.{arith}
use Rattle.ground_rules.specs.Values.{onward}
use Rattle.ground_rules.specs.declared.Channel.{Channel}
use Rattle.ground_rules.proofs.PlaceLaws.{index-reduced, index-after, touchable-index, byte-index, store-index, byte-reduced, store-reduced}
use Rattle.ground_rules.proofs.StoreLaws.{lent-touchable, store_length, read-other}
use Rattle.ground_rules.specs.Buffers.{Buffers, index_of, lent_at, touchable_at, byte_at, store_byte}
use Rattle.ground_rules.specs.declared.Pointer.{Pointer}
use Rattle.transfer_rules.proofs.BlockLaws.{Block, block-step, block-step-two}
use Rattle.transfer_rules.specs.Reads.{bytes_fetched, data_of}
use Rattle.transfer_rules.specs.Sides.{source, destination, word_side, two_move}
use Rattle.transfer_rules.specs.Steps.{transferred, transfer_of}
use Rattle.transfer_rules.specs.Stores.{moved_channel}
use Rattle.ground_rules.specs.Sums.{sum20}
use Rattle.block_rules.specs.Premises.{from, into, Plain, Copy}
use Rattle.block_rules.specs.Rows.{Untouched, Row, start, steps, other}
use Rattle.block_rules.specs.Stages.{midway, finished, RangesHeld, Within}
use Rattle.block_rules.specs.Totals.{moved_after, narrow, alone, total}
use Rattle.block_rules.proofs.CountLaws.{moved_narrow, total-narrow, moved-wide, alone-none, alone-one, moved-zero, moved-le, moved-short}
use Rattle.block_rules.proofs.HeldLaws.{held_start, copy-one, copy-two, held-left}
use Rattle.block_rules.proofs.StageLaws.{stage, mid-source, mid-destination, mid-block, mid-syn, words-even, words-odd, narrow_one, words-none, words_last, words-two, stage-next, stage-start}

-- ---- how many bytes the next step moves

-- there is a word side once the first p steps are over
words-on : (c : Channel) (n k : ℕ) → narrow c ≡ false → moved_after c n k < n → (w : Bool) → word_side (source c) || word_side (destination c) ≡ w → (alone c ≤ k)
    → word_side (source (midway c n (moved_after c n k))) || word_side (destination (midway c n (moved_after c n k))) ≡ true
words-on c n k b short true e l =
    words-even c n (moved_after c n k) (let x : alone c ≡ 0 = alone-none c e in omega (arith, moved-wide c n k b)) ∙ e
words-on c n k b short false e l =
    words-odd c n (moved_after c n k) (let x : alone c ≡ 1 = alone-one c e in omega (arith, moved-wide c n k b)) b e

-- the bytes moved after the next step
pub moved-next : (c : Channel) (n k : ℕ) → Plain c → 1 ≤ n → n ≤ 65536 → k < total c n → moved_after c n (suc k) ≡ moved_after c n k + bytes_fetched (midway c n (moved_after c n k))
moved-next c n k p some most h = go (narrow c) refl (word_side (source c) || word_side (destination c)) refl (dec_le (alone c) k) (ℕ_discrete (n - moved_after c n k) 1)
  where
    short : moved_after c n k < n
    short = moved-short c n k some h

    one : two_move (midway c n (moved_after c n k)) ≡ false → moved_after c n (suc k) ≡ moved_after c n k + 1 → moved_after c n (suc k) ≡ moved_after c n k + bytes_fetched (midway c n (moved_after c n k))
    one x y = rw x y

    two : two_move (midway c n (moved_after c n k)) ≡ true → moved_after c n (suc k) ≡ moved_after c n k + 2 → moved_after c n (suc k) ≡ moved_after c n k + bytes_fetched (midway c n (moved_after c n k))
    two x y = rw x y

    go : (b : Bool) → narrow c ≡ b → (w : Bool) → word_side (source c) || word_side (destination c) ≡ w → Dec (alone c ≤ k) → Dec (n - moved_after c n k ≡ 1)
        → moved_after c n (suc k) ≡ moved_after c n k + bytes_fetched (midway c n (moved_after c n k))
    go true b w e l d = one (narrow_one c n (moved_after c n k) b) (omega (arith, moved_narrow c n k b, moved_narrow c n (suc k) b, total-narrow c n b))
    go false b true e (yes l) (yes z) = one (words_last c n (moved_after c n k) p short z) (omega (arith, moved-wide c n k b, moved-wide c n (suc k) b, alone-none c e))
    go false b true e (yes l) (no z) =
        two (words-two c n (moved_after c n k) (words-on c n k b short true e l) short most z)
        (omega (arith, short, moved-wide c n k b, moved-wide c n (suc k) b, alone-none c e))
    go false b true e (no l) d = absurd (omega (arith, alone-none c e))
    go false b false e (yes l) (yes z) = one (words_last c n (moved_after c n k) p short z) (omega (arith, moved-wide c n k b, moved-wide c n (suc k) b, alone-one c e))
    go false b false e (yes l) (no z) =
        two (words-two c n (moved_after c n k) (words-on c n k b short false e l) short most z)
        (omega (arith, short, moved-wide c n k b, moved-wide c n (suc k) b, alone-one c e))
    go false b false e (no l) d =
        let none : moved_after c n k ≡ 0 = omega (arith, moved-wide c n k b, alone-one c e) in
        one (words-none c n (moved_after c n k) (words-even c n (moved_after c n k) (omega arith) ∙ e))
        (omega (arith, moved-wide c n (suc k) b, alone-one c e))

-- ---- one step on the way

-- where a side's pointer is a pointer on by j, its byte is byte j of the range, and may be touched where that is lent
touch-on : (m : Buffers) (p : Pointer) (j : ℕ) → lent_at m p.tag (p.address + j) ≡ true → touchable_at m p.tag (sum20 p.address j) ≡ true
touch-on m p j h =
    touchable-index m p.tag ((p.address + j) % 1048576) (p.address + j) (index-reduced p.tag (p.address + j)) ∙ lent-touchable m p.tag (p.address + j) h

-- the byte after it is byte j + 1
index-two : (p : Pointer) (j : ℕ) → index_of p.tag (sum20 p.address j + 1) ≡ index_of p.tag (p.address + (j + 1))
index-two p j = index-after p.tag (p.address + j) 1 ∙ ap (index_of p.tag) (add_assoc p.address j 1)

-- so it may be touched where that is lent
touch-on-two : (m : Buffers) (p : Pointer) (j : ℕ) → lent_at m p.tag (p.address + (j + 1)) ≡ true → touchable_at m p.tag (sum20 p.address j + 1) ≡ true
touch-on-two m p j h =
    touchable-index m p.tag (sum20 p.address j + 1) (p.address + (j + 1)) (index-two p j) ∙ lent-touchable m p.tag (p.address + (j + 1)) h

-- the memory after a step of one byte
abbrev put1 : Pointer → Pointer → ℕ → Buffers → Buffers
put1 p q j m = store_byte m q.tag (q.address + j) (byte_at m p.tag (p.address + j))

-- and of two
abbrev put2 : Pointer → Pointer → ℕ → Buffers → Buffers
put2 p q j m = store_byte (put1 p q j m) q.tag (q.address + (j + 1)) (byte_at m p.tag (p.address + (j + 1)))

-- a step of one byte stores byte j of the source as byte j of the destination
copied_on : (p q : Pointer) (j : ℕ) (m : Buffers) → store_byte m q.tag (sum20 q.address j) (byte_at m p.tag (sum20 p.address j)) ≡ put1 p q j m
copied_on p q j m =
    store-reduced m q.tag (q.address + j) (byte_at m p.tag (sum20 p.address j))
    ∙ ap (store_byte m q.tag (q.address + j)) (byte-reduced m p.tag (p.address + j))

-- a step of two stores byte j + 1 too
copied-on-two : (p q : Pointer) (j : ℕ) (m : Buffers)
    → store_byte (store_byte m q.tag (sum20 q.address j) (byte_at m p.tag (sum20 p.address j))) q.tag (sum20 q.address j + 1) (byte_at m p.tag (sum20 p.address j + 1))
    ≡ put2 p q j m
copied-on-two p q j m =
    ap (λ (x : Buffers). store_byte x q.tag (sum20 q.address j + 1) (byte_at m p.tag (sum20 p.address j + 1))) (copied_on p q j m)
    ∙ store-index (put1 p q j m) q.tag (sum20 q.address j + 1) (q.address + (j + 1)) (byte_at m p.tag (sum20 p.address j + 1)) (index-two q j)
    ∙ ap (store_byte (put1 p q j m) q.tag (q.address + (j + 1))) (byte-index m p.tag (sum20 p.address j + 1) (p.address + (j + 1)) (index-two p j))

-- a step of a channel whose sides are on by j, where one byte moves
step-one : (c : Channel) (m : Buffers) (p q : Pointer) (j : ℕ) → (source c).pointer ≡ onward p j → (destination c).pointer ≡ onward q j
    → Block c.fields → c.fields.synchronised ≡ 0 → two_move c ≡ false
    → lent_at m p.tag (p.address + j) ≡ true → lent_at m q.tag (q.address + j) ≡ true
    → transfer_of c m ≡ transferred 0 (moved_channel c (data_of c m)) (put1 p q j m)
unfolding onward
step-one c m p q j es ed b free one lp lq =
    block-step c m b free one (rw es (touch-on m p j lp)) (rw ed (touch-on m q j lq))
    ∙ ap (transferred 0 (moved_channel c (data_of c m))) (rw (es, ed) (copied_on p q j m))

-- and one that moves two
step-two : (c : Channel) (m : Buffers) (p q : Pointer) (j : ℕ) → (source c).pointer ≡ onward p j → (destination c).pointer ≡ onward q j
    → Block c.fields → c.fields.synchronised ≡ 0 → two_move c ≡ true
    → lent_at m p.tag (p.address + j) ≡ true → lent_at m p.tag (p.address + (j + 1)) ≡ true
    → lent_at m q.tag (q.address + j) ≡ true → lent_at m q.tag (q.address + (j + 1)) ≡ true
    → transfer_of c m ≡ transferred 0 (moved_channel c (data_of c m)) (put2 p q j m)
unfolding onward
step-two c m p q j es ed b free two lp lp' lq lq' =
    block-step-two c m b free two (rw es (touch-on m p j lp)) (rw es (touch-on-two m p j lp')) (rw ed (touch-on m q j lq)) (rw ed (touch-on-two m q j lq'))
    ∙ ap (transferred 0 (moved_channel c (data_of c m))) (rw (es, ed) (copied-on-two p q j m))

-- ---- the row

-- what is known when j bytes have moved
pub record Reached (n : ℕ) (c₀ : Channel) (m₀ : Buffers) (j : ℕ) (c : Channel) (m : Buffers) : Type 0 where
  pub channel : c ≡ stage c₀ n j
  pub bytes : RangesHeld (from c₀) (into c₀) n m₀ j m

-- a step on the way, whole: not refused, the next stage, and one or two bytes more
pub record Made (n : ℕ) (c₀ : Channel) (m₀ : Buffers) (j : ℕ) (m : Buffers) (s : ℕ) : Type 0 where
  pub done : (transfer_of (midway c₀ n j) m).number ≡ 0
  pub reached : Reached n c₀ m₀ (j + s) (transfer_of (midway c₀ n j) m).channel (transfer_of (midway c₀ n j) m).memory
  pub within : Within (into c₀) n m (transfer_of (midway c₀ n j) m).memory

-- a store into the destination's range changes no byte outside it
within-put : (q : Pointer) (n j : ℕ) (m : Buffers) (v : ℕ) → j < n → Within q n m (store_byte m q.tag (q.address + j) v)
within-put q n j m v h =
    record {
      others = λ u b o. read-other m q.tag (q.address + j) v u b (o j h);
      lengths = λ u. store_length m q.tag u (q.address + j) v;
    }

-- nor do two such changes, one after the other
pub within-then : (q : Pointer) (n : ℕ) (m m' m'' : Buffers) → Within q n m m' → Within q n m' m'' → Within q n m m''
within-then q n m m' m'' a b =
    record {
      others = λ u x o. b.others u x o ∙ a.others u x o;
      lengths = λ u. b.lengths u ∙ a.lengths u;
    }

-- the outcome of a step, given as one equation
made_of : (n : ℕ) (c₀ : Channel) (m₀ : Buffers) (j : ℕ) (m : Buffers) (s : ℕ) (c : Channel) (m' : Buffers)
    → transfer_of (midway c₀ n j) m ≡ transferred 0 c m' → c ≡ stage c₀ n (j + s) → RangesHeld (from c₀) (into c₀) n m₀ (j + s) m' → Within (into c₀) n m m'
    → Made n c₀ m₀ j m s
made_of n c₀ m₀ j m s c m' e x h w = record { done = rw e; reached = rw e (record { channel = x; bytes = h }); within = rw e w }

-- the step that moves s bytes when j have moved
pub made : (n : ℕ) (c₀ : Channel) (m₀ : Buffers) (j : ℕ) (m : Buffers) (s : ℕ) → Copy n c₀ m₀ → bytes_fetched (midway c₀ n j) ≡ s → j + s ≤ n
    → RangesHeld (from c₀) (into c₀) n m₀ j m → Made n c₀ m₀ j m s
made n c₀ m₀ j m s k e fits h = go (two_move (midway c₀ n j)) refl
  where
    c : Channel
    c = midway c₀ n j

    es : (source c).pointer ≡ onward (from c₀) j
    es = rw (mid-source c₀ n j)

    ed : (destination c).pointer ≡ onward (into c₀) j
    ed = rw (mid-destination c₀ n j)

    go : (b : Bool) → two_move (midway c₀ n j) ≡ b → Made n c₀ m₀ j m s
    go false b =
        let one : s ≡ 1 = sym e ∙ rw b in
        let short : j < n = omega arith in
        let l : lent_at m (from c₀).tag ((from c₀).address + j) ≡ true = h.from_lent j short in
        let l' : lent_at m (into c₀).tag ((into c₀).address + j) ≡ true = h.into_lent j short in
        made_of n c₀ m₀ j m s (moved_channel c (data_of c m)) (put1 (from c₀) (into c₀) j m)
        (step-one c m (from c₀) (into c₀) j es ed (mid-block c₀ n j k.plain) (mid-syn c₀ n j k.plain) b l l')
        (stage-next c₀ n j s m k.plain e (omega arith) (omega arith) fits k.most)
        (rw one (copy-one (from c₀) (into c₀) n m₀ j m k.apart k.most short h))
        (within-put (into c₀) n j m (byte_at m (from c₀).tag ((from c₀).address + j)) short)
    go true b =
        let two : s ≡ 2 = sym e ∙ rw b in
        let short : j < n = omega arith in
        let next : j + 1 < n = omega arith in
        made_of n c₀ m₀ j m s (moved_channel c (data_of c m)) (put2 (from c₀) (into c₀) j m)
        (step-two c m (from c₀) (into c₀) j es ed (mid-block c₀ n j k.plain) (mid-syn c₀ n j k.plain) b
        (h.from_lent j short) (h.from_lent (j + 1) next) (h.into_lent j short) (h.into_lent (j + 1) next))
        (stage-next c₀ n j s m k.plain e (omega arith) (omega arith) fits k.most)
        (rw two (copy-two (from c₀) (into c₀) n m₀ j m k.apart k.most next h))
        (within-then (into c₀) n m (put1 (from c₀) (into c₀) j m) (put2 (from c₀) (into c₀) j m)
        (within-put (into c₀) n j m (byte_at m (from c₀).tag ((from c₀).address + j)) short)
        (within-put (into c₀) n (j + 1) (put1 (from c₀) (into c₀) j m) (byte_at m (from c₀).tag ((from c₀).address + (j + 1))) next))

-- the stage short of the last byte is midway
stage-mid : (c : Channel) (n j : ℕ) → j < n → stage c n j ≡ midway c n j
unfolding stage
stage-mid c n j h = rw (lt-ltb j n h)

-- the stage at the last is the end
pub stage-end : (c : Channel) (n : ℕ) → stage c n n ≡ finished c n
unfolding stage
stage-end c n = rw (le-ltb n n (omega arith))

-- the next step after k, short of the total
pub next-made : (n : ℕ) (c₀ : Channel) (m₀ : Buffers) (k : ℕ) (c : Channel) (m : Buffers) → Copy n c₀ m₀ → k < total c₀ n → Reached n c₀ m₀ (moved_after c₀ n k) c m
    → Made n c₀ m₀ (moved_after c₀ n k) m (bytes_fetched (midway c₀ n (moved_after c₀ n k)))
next-made n c₀ m₀ k c m p h r =
    made n c₀ m₀ (moved_after c₀ n k) m (bytes_fetched (midway c₀ n (moved_after c₀ n k))) p refl
    (rw (← (moved-next c₀ n k p.plain p.some p.most h)) (moved-le c₀ n (suc k))) r.bytes

-- the channel after k, short of the total
pub reached-mid : (n : ℕ) (c₀ : Channel) (m₀ : Buffers) (k : ℕ) (c : Channel) (m : Buffers) → Copy n c₀ m₀ → k < total c₀ n → Reached n c₀ m₀ (moved_after c₀ n k) c m
    → c ≡ midway c₀ n (moved_after c₀ n k)
reached-mid n c₀ m₀ k c m p h r = r.channel ∙ stage-mid c₀ n (moved_after c₀ n k) (moved-short c₀ n k p.some h)

-- the start
reach-start : (n : ℕ) (c₀ : Channel) (m₀ : Buffers) → Copy n c₀ m₀ → Reached n c₀ m₀ (moved_after c₀ n 0) c₀ m₀
reach-start n c₀ m₀ p =
    rw (moved-zero c₀ n)
    (record { channel = sym (stage-start c₀ n p.plain p.some p.count); bytes = held_start (from c₀) (into c₀) n m₀ p.from_lent p.into_lent })

-- one more step
reach_step : (n : ℕ) (c₀ : Channel) (m₀ : Buffers) (k : ℕ) (c : Channel) (m : Buffers) → Copy n c₀ m₀ → suc k ≤ total c₀ n → Reached n c₀ m₀ (moved_after c₀ n k) c m
    → Reached n c₀ m₀ (moved_after c₀ n (suc k)) (transfer_of c m).channel (transfer_of c m).memory
reach_step n c₀ m₀ k c m p h r =
    rw (moved-next c₀ n k p.plain p.some p.most h, reached-mid n c₀ m₀ k c m p h r)
    (next-made n c₀ m₀ k c m p h r).reached

-- whatever leaves both ranges alone
reach-other : (n : ℕ) (c₀ : Channel) (m₀ : Buffers) (k : ℕ) (c : Channel) (m m' : Buffers) → Untouched c₀ n m m'
    → Reached n c₀ m₀ (moved_after c₀ n k) c m → Reached n c₀ m₀ (moved_after c₀ n k) c m'
reach-other n c₀ m₀ k c m m' u r =
    record {
      channel = r.channel;
      bytes = held-left (from c₀) (into c₀) n m₀ (moved_after c₀ n k) m m' (moved-le c₀ n k) u.from_left u.into_left r.bytes;
    }

-- up to the total, and so before it
pub down : (k t : ℕ) → suc k ≤ t → k ≤ t
down k t h = omega arith

-- after k of the channel's transfer steps, up to the total
pub reached : {n : ℕ} {c₀ : Channel} {m₀ : Buffers} {k : ℕ} {c : Channel} {m : Buffers} → Copy n c₀ m₀ → Row n c₀ m₀ k c m → k ≤ total c₀ n
    → Reached n c₀ m₀ (moved_after c₀ n k) c m
reached {n} {c₀} {m₀} p start h = reach-start n c₀ m₀ p
reached {n} {c₀} {m₀} p (steps {k = k} {c = c} {m = m} r) h = reach_step n c₀ m₀ k c m p h (reached p r (down k (total c₀ n) h))
reached {n} {c₀} {m₀} p (other {k = k} {c = c} {m = m} {m' = m'} r u) h = reach-other n c₀ m₀ k c m m' u (reached p r h)
