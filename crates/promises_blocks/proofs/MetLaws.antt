-- A sweep's conditions are demand 3's: the ranges, the channel, and that it is alone; and the rest of a transfer that is going on meets them.
-- Assumes nothing.
use Prim.Native.Nat.{ℕ, ◌+◌, ◌-◌, ◌<◌, ◌≤◌}
use borrow.Author.Tests.{lt-ltb, ltb-true}
use lib.ListN.{length}
use mathlib.Core.Bool.{Bool, true, false, not, Bool-discrete}
use mathlib.Core.Logic.{⊎_elim, inl, inr, ◌↔◌}
use mathlib.Core.Path.{◌≡◌, sym, ap, subst, ◌∙◌}
use native.Mathlib.Decide.{dec_le}
use native.Mathlib.Omega.{arith}
use Rattle.ground_rules.specs.Values.{onward}
use Rattle.ground_rules.specs.Buffers.{Buffers, space_of, limit_of, index_of, lent_at, within_limits}
use Rattle.ground_rules.specs.declared.Pointer.{Pointer}
use Rattle.ground_rules.proofs.PlaceLaws.{index-reduced}
use Rattle.ground_rules.proofs.ChannelLaws.{sound-channel-of}
use Rattle.ground_rules.proofs.ConditionLaws.{says-yes, says-no, says-running, running-is}
use Rattle.ground_rules.proofs.FieldLaws.{agree-channel-of}
use Rattle.ground_rules.proofs.GivenLaws.{given-within, given-sound, given-agree}
use Rattle.ground_rules.specs.Outcomes.{first, unless, given_number}
use Rattle.ground_rules.specs.States.{channel_of}
use Rattle.ground_rules.specs.declared.Channel.{Channel}
use Rattle.ground_rules.specs.declared.State.{State}
use Rattle.turn_rules.specs.Choosing.{external}
use Rattle.turn_rules.specs.Step.{entry_number}
use Rattle.sweep_rules.proofs.LeftLaws.{to-go}
use Rattle.sweep_rules.proofs.PassedLaws.{length_most}
use Rattle.sweep_rules.proofs.RangeLaws.{index_on}
use Rattle.sweep_rules.specs.Ranges.{place_of}
use Rattle.sweep_rules.specs.Sweep.{bytes_to_go}
use Rattle.sweep_rules.specs.Conditions.{RangeLent, RangesApart, PlainFields, Sweepable}
use Rattle.block_rules.specs.Premises.{from, into, Lent, ShareNone, Plain, Copy}
use Rattle.block_rules.specs.Stages.{Going}
use Rattle.block_rules.specs.Totals.{moved_after}
use Rattle.block_rules.proofs.StageLaws.{mid-source, mid-destination, mid-count, mid-fields}
use Rattle.promises_blocks.specs.Joined.{RunsAlone}
use Rattle.promises_blocks.specs.Sweeps.{Demanded}

-- ---- the ranges

-- such a range is lent, byte for byte
range-lent : (m : Buffers) (p : Pointer) (n : ℕ) → within_limits m ≡ true → RangeLent m p n → Lent m p n
unfolding lent_at
range-lent m p n w r i h =
    let l = length (space_of m p.tag) in
    let k : l ≤ limit_of p.tag = length_most m p.tag w in
    let e : index_of p.tag (p.address + i) ≡ place_of p + i = index_on p.tag p.address i l (omega arith) k in
    rw e (lt-ltb (place_of p + i) l (omega arith))

-- and two that lie apart share no byte
ranges_apart : (m : Buffers) (p q : Pointer) (n : ℕ) → within_limits m ≡ true → RangeLent m p n → RangeLent m q n → RangesApart p q n → ShareNone p q n
ranges_apart m p q n w rp rq a i j hi hj t e =
    let lp = length (space_of m p.tag) in
    let lq = length (space_of m q.tag) in
    let kp : lp ≤ limit_of p.tag = length_most m p.tag w in
    let kq : lq ≤ limit_of q.tag = length_most m q.tag w in
    let ep : index_of p.tag (p.address + i) ≡ place_of p + i = index_on p.tag p.address i lp (omega arith) kp in
    let eq : index_of q.tag (q.address + j) ≡ place_of q + j = index_on q.tag q.address j lq (omega arith) kq in
    let same : place_of q + j ≡ place_of p + i = sym eq ∙ e ∙ ep in
    ⊎_elim (λ ne. ne (sym t)) (⊎_elim (λ le. omega (arith, le, same)) (λ le. omega (arith, le, same))) a

-- ---- demand 3's premises

module _ (s : State) (m : Buffers) (b : Bool) (lines : ℕ) (given : given_number s m ≡ 0) (few : lines < 16) (small : (channel_of s b).bc < 65536) (w : Sweepable s m b lines) where
  abbrev c : Channel
  c = channel_of s b

  pub plain-met : Plain c
  plain-met =
      record {
        runs = says-yes (says-running c.mode) w.runs;
        transfers = w.transfers;
        leaves = w.plain.leaves;
        enters = w.plain.enters;
        unsynchronised = w.plain.unsynchronised;
        untranslated = w.plain.untranslated;
        counts = w.plain.counts;
        unmatched = w.plain.unmatched;
        unended = w.plain.unended;
        ongoing = w.plain.ongoing;
        sound = sound-channel-of s b (given-sound s m given);
        agree = agree-channel-of s b (given-agree s m given);
      }

  pub copy_met : Copy (bytes_to_go c) c m
  copy_met =
      let g = to-go c small in
      let l = given-within s m given in
      record {
        plain = plain-met;
        some = g.0;
        most = g.1;
        count = g.2;
        from_lent = range-lent m (from c) (bytes_to_go c) l w.from_lent;
        into_lent = range-lent m (into c) (bytes_to_go c) l w.into_lent;
        apart = ranges_apart m (from c) (into c) (bytes_to_go c) l w.from_lent w.into_lent w.parted;
      }

  pub alone-met : RunsAlone b s m lines
  unfolding entry_number first unless
  alone-met =
      record {
        entered = rw (lt-ltb lines 16 few) given;
        idle = says-no (says-running (channel_of s (not b)).mode) w.still;
      }

-- ---- and back: demand 3's premises, of ranges that do not wrap, are the sweep's conditions

-- a range that is lent byte for byte and does not wrap ends within the lent length
lent-range : (m : Buffers) (p : Pointer) (n : ℕ) → 1 ≤ n → place_of p + n ≤ limit_of p.tag → Lent m p n → RangeLent m p n
unfolding lent_at
lent-range m p n some whole lent =
    let k : ℕ = n - 1 in
    let e : index_of p.tag (p.address + k) ≡ place_of p + k = index_on p.tag p.address k (limit_of p.tag) (omega arith) (omega arith) in
    let l : index_of p.tag (p.address + k) < length (space_of m p.tag) = ltb-true (index_of p.tag (p.address + k)) (length (space_of m p.tag)) (lent k (omega arith)) in
    omega (arith, e, l)

-- two that share no byte lie in two spaces, or one behind the other
apart-ranges : (p q : Pointer) (n : ℕ) → 1 ≤ n → place_of p + n ≤ limit_of p.tag → place_of q + n ≤ limit_of q.tag → ShareNone p q n → RangesApart p q n
apart-ranges p q n some wp wq none = go (Bool-discrete p.tag q.tag) (dec_le (place_of p + n) (place_of q)) (dec_le (place_of q + n) (place_of p)) (dec_le (place_of p) (place_of q))
  where
    at_p : (i : ℕ) → i < n → index_of p.tag (p.address + i) ≡ place_of p + i
    at_p i h = index_on p.tag p.address i (limit_of p.tag) (omega arith) (omega arith)

    at-q : (i : ℕ) → i < n → index_of q.tag (q.address + i) ≡ place_of q + i
    at-q i h = index_on q.tag q.address i (limit_of q.tag) (omega arith) (omega arith)

    go : Dec (p.tag ≡ q.tag) → Dec (place_of p + n ≤ place_of q) → Dec (place_of q + n ≤ place_of p) → Dec (place_of p ≤ place_of q) → RangesApart p q n
    go (no ne) x y z = inl ne
    go (yes t) (yes l) y z = inr (inl l)
    go (yes t) (no l) (yes r) z = inr (inr r)
    go (yes t) (no l) (no r) (yes le) =
        let i : ℕ = place_of q - place_of p in
        let h : i < n = omega arith in
        absurd (none i 0 h (omega arith) (sym t) (at-q 0 (omega arith) ∙ omega arith ∙ sym (at_p i h)))
    go (yes t) (no l) (no r) (no le) =
        let i : ℕ = place_of p - place_of q in
        let h : i < n = omega arith in
        absurd (none 0 i (omega arith) h (sym t) (at-q i h ∙ omega arith ∙ sym (at_p 0 (omega arith))))

-- a plain channel's fields are
plain-fields : {c : Channel} → Plain c → PlainFields c.fields
plain-fields k =
    record {
      leaves = k.leaves;
      enters = k.enters;
      unsynchronised = k.unsynchronised;
      untranslated = k.untranslated;
      counts = k.counts;
      unmatched = k.unmatched;
      unended = k.unended;
      ongoing = k.ongoing;
    }

module _ (s : State) (m : Buffers) (b : Bool) (lines : ℕ) (given : given_number s m ≡ 0) (few : lines < 16) (small : (channel_of s b).bc < 65536) where
  -- the two are the same
  pub demanded : Sweepable s m b lines ↔ Demanded s m b lines
  demanded = (to, back)
    where
      most : (p : Pointer) → RangeLent m p (bytes_to_go (channel_of s b)) → place_of p + bytes_to_go (channel_of s b) ≤ limit_of p.tag
      most p r = omega (arith, r, length_most m p.tag (given-within s m given))

      to : Sweepable s m b lines → Demanded s m b lines
      to w =
          record {
            copy = copy_met s m b lines given few small w;
            from_whole = most (from (channel_of s b)) w.from_lent;
            into_whole = most (into (channel_of s b)) w.into_lent;
            still = w.still;
            quiet = w.quiet;
          }

      back : Demanded s m b lines → Sweepable s m b lines
      back d =
          let c = channel_of s b in
          let k = d.copy.plain in
          record {
            quiet = d.quiet;
            still = d.still;
            runs = running-is c.mode k.runs;
            transfers = k.transfers;
            plain = plain-fields k;
            from_lent = lent-range m (from c) (bytes_to_go c) d.copy.some d.from_whole d.copy.from_lent;
            into_lent = lent-range m (into c) (bytes_to_go c) d.copy.some d.into_whole d.copy.into_lent;
            parted = apart-ranges (from c) (into c) (bytes_to_go c) d.copy.some d.from_whole d.into_whole d.copy.apart;
          }

-- ---- the rest of a transfer that is going on

-- of ranges that do not wrap it meets the conditions, while the other channel does not run and no EXT is up
pub rest-sweepable : {b : Bool} {n : ℕ} {c₀ : Channel} {m₀ : Buffers} (lines : ℕ) → Copy n c₀ m₀ → place_of (from c₀) + n ≤ limit_of (from c₀).tag
    → place_of (into c₀) + n ≤ limit_of (into c₀).tag → ((x : Bool) → external lines x ≡ false)
    → (k : ℕ) (s : State) (m : Buffers) → Going n c₀ m₀ k (channel_of s b) m → RunsAlone b s m lines → Sweepable s m b lines
unfolding onward
rest-sweepable {b} {n} {c₀} lines p from_whole into_whole quiet k s m g a =
    record {
      quiet = quiet;
      still = (says-running (channel_of s (not b)).mode).fails a.idle;
      runs = running-is (channel_of s b).mode g.runs;
      transfers = g.transfers;
      plain = subst PlainFields (sym (ap (λ (c : Channel). c.fields) g.registers ∙ mid-fields c₀ n j)) (plain-fields p.plain);
      from_lent = rw (source-on, left) (omega (arith, on (from c₀) from_whole, lent-range m (from c₀) n p.some from_whole g.bytes.from_lent));
      into_lent = rw (destination-on, left) (omega (arith, on (into c₀) into_whole, lent-range m (into c₀) n p.some into_whole g.bytes.into_lent));
      parted = rw (source-on, destination-on, left)
          (⊎_elim inl (⊎_elim (λ h. inr (inl (omega (arith, h, on (from c₀) from_whole, on (into c₀) into_whole))))
          (λ h. inr (inr (omega (arith, h, on (from c₀) from_whole, on (into c₀) into_whole)))))
          (apart-ranges (from c₀) (into c₀) n p.some from_whole into_whole p.apart));
    }
  where
    j : ℕ
    j = moved_after c₀ n k

    source-on : from (channel_of s b) ≡ onward (from c₀) j
    source-on = ap from g.registers ∙ rw (from, mid-source c₀ n j)

    destination-on : into (channel_of s b) ≡ onward (into c₀) j
    destination-on = ap into g.registers ∙ rw (into, mid-destination c₀ n j)

    left : bytes_to_go (channel_of s b) ≡ n - j
    left =
        let count = ap (λ (c : Channel). c.bc) g.registers ∙ mid-count c₀ n j in
        omega (arith, count, to-go (channel_of s b) (omega (arith, count)), g.short, p.most)

    on : (q : Pointer) → place_of q + n ≤ limit_of q.tag → place_of (onward q j) ≡ place_of q + j
    on q h = index-reduced q.tag (q.address + j) ∙ index_on q.tag q.address j (limit_of q.tag) (omega (arith, h, g.short)) (omega arith)
