-- Demand 3 of one channel: after each of its transfer steps short of the total it goes on, and at the total it has ended.
-- Assumes nothing.
use Prim.Native.Nat.{ℕ, zero, suc, ◌<◌, ◌≤◌}
use mathlib.Core.Bool.{true, false}
use mathlib.Core.Path.{◌≡◌, refl, sym, subst, ◌∙◌}
use native.Mathlib.Decide.{dec_lt}
use native.Mathlib.Omega.{arith}
use Rattle.ground_rules.specs.Values.{onward}
use Rattle.ground_rules.specs.Psw.{transferring, with_psw}
use Rattle.ground_rules.specs.States.{is_running}
use Rattle.ground_rules.specs.declared.Channel.{Channel}
use Rattle.ground_rules.specs.Buffers.{Buffers}
use Rattle.transfer_rules.specs.Reads.{bytes_fetched}
use Rattle.transfer_rules.specs.Ends.{offset_of}
use Rattle.ground_rules.specs.Updates.{with_transfer}
use Rattle.transfer_rules.specs.Steps.{transfer_of}
use Rattle.ground_rules.proofs.BitLaws.{bit-same}
use Rattle.ground_rules.proofs.ChoiceLaws.{apart}
use Rattle.block_rules.specs.Premises.{into, Plain, Copy}
use Rattle.block_rules.specs.Rows.{after, Row, EndsAt, start, steps}
use Rattle.block_rules.specs.Stages.{midway, finished, Within, Going, Ended}
use Rattle.block_rules.specs.Totals.{moved_after, total}
use Rattle.block_rules.proofs.CopyLaws.{Reached, Made, within-then, stage-end, next-made, reached-mid, down, reached}
use Rattle.block_rules.proofs.CountLaws.{moved-short, moved_all}

-- on the way the mode and PSW are as at the start: it runs
mid-runs : (c : Channel) (n j : ℕ) → Plain c → is_running (midway c n j).mode ≡ true
unfolding midway with_transfer
mid-runs c n j k = k.runs

-- so it transfers
mid-transfers : (c : Channel) (n j : ℕ) → Plain c → transferring (midway c n j).psw ≡ true
unfolding midway with_transfer
mid-transfers c n j k = k.transfers

-- short of the total it has not ended; exactly the bytes that should have arrived, arrived; the next of those steps is not
-- refused, and changes no other byte
pub going : {n : ℕ} {c₀ : Channel} {m₀ : Buffers} {k : ℕ} {c : Channel} {m : Buffers} → Copy n c₀ m₀ → Row n c₀ m₀ k c m → k < total c₀ n → Going n c₀ m₀ k c m
going {n} {c₀} {m₀} {k} {c} {m} p r h = go (reached p r (down k (total c₀ n) h))
  where
    go : Reached n c₀ m₀ (moved_after c₀ n k) c m → Going n c₀ m₀ k c m
    go x =
        let e : c ≡ midway c₀ n (moved_after c₀ n k) = reached-mid n c₀ m₀ k c m p h x in
        let s : Made n c₀ m₀ (moved_after c₀ n k) m (bytes_fetched (midway c₀ n (moved_after c₀ n k))) = next-made n c₀ m₀ k c m p h x in
        record {
          runs = rw e (mid-runs c₀ n (moved_after c₀ n k) p.plain);
          transfers = rw e (mid-transfers c₀ n (moved_after c₀ n k) p.plain);
          registers = e;
          short = moved-short c₀ n k p.some h;
          bytes = x.bytes;
          done = rw e s.done;
          spares = rw e s.within;
        }

-- the registers at the end: BC is 0
end-count : (c : Channel) (n : ℕ) → (finished c n).bc ≡ 0
unfolding finished with_transfer
end-count c n = refl

-- the channel runs on
end-runs : (c : Channel) (n : ℕ) → Plain c → is_running (finished c n).mode ≡ true
unfolding finished with_transfer
end-runs c n k = k.runs

-- XF is clear
end-over : (c : Channel) (n : ℕ) → transferring (finished c n).psw ≡ false
unfolding finished with_transfer with_psw
end-over c n = bit-same c.psw 6 false

-- TP has gained the offset of TBC
end-tp : (c : Channel) (n : ℕ) → (finished c n).tp ≡ onward c.tp (offset_of c.fields.countEnd)
unfolding finished with_transfer
end-tp c n = refl

-- all that holds at the end
end_of : (n : ℕ) (c₀ : Channel) (m₀ : Buffers) (c : Channel) (m : Buffers) → Copy n c₀ m₀ → Reached n c₀ m₀ n c m → Ended n c₀ m₀ c m
end_of n c₀ m₀ c m p x =
    let e : c ≡ finished c₀ n = x.channel ∙ stage-end c₀ n in
    record {
      registers = e;
      copied = x.bytes.arrived;
      kept = x.bytes.kept;
      count = rw e (end-count c₀ n);
      over = rw e (end-over c₀ n);
      runs = rw e (end-runs c₀ n p.plain);
      pointer = rw e (end-tp c₀ n);
    }

-- at the total: the transfer has ended, all bytes have arrived in order, the count is 0 and TP has moved on
pub ended : {n : ℕ} {c₀ : Channel} {m₀ : Buffers} {k : ℕ} {c : Channel} {m : Buffers} → Copy n c₀ m₀ → Row n c₀ m₀ k c m → k ≡ total c₀ n → Ended n c₀ m₀ c m
ended {n} {c₀} {m₀} {k} {c} {m} p r e =
    let all : moved_after c₀ n k ≡ n = moved_all c₀ n k p.some e in
    end_of n c₀ m₀ c m p (subst (λ (j : ℕ). Reached n c₀ m₀ j c m) all (reached p r (omega arith)))

-- the demand: the transfer ends at the step that is the total, and not before
pub demand3 : {n : ℕ} {c : Channel} {m : Buffers} → Copy n c m → EndsAt n c m (total c n)
demand3 p = record { before = λ r h. going p r h; then = λ r. ended p r refl }

-- the chosen offset is 0, 4 or 8, by TBC 01, 10, 11
pub offsets-chosen : (offset_of 1 ≡ 0) × (offset_of 2 ≡ 4) × (offset_of 3 ≡ 8)
unfolding offset_of
offsets-chosen = (refl, refl, refl)

-- ---- with nothing between the steps

-- that is such a row
after-row : (n : ℕ) (c : Channel) (m : Buffers) (k : ℕ) → Row n c m k (after k c m).channel (after k c m).memory
unfolding after
after-row n c m zero = start
after-row n c m (suc k) = steps (after-row n c m k)

-- all of those steps together changed no byte but the destination's
after-within : (n : ℕ) (c : Channel) (m : Buffers) (k : ℕ) → Copy n c m → k ≤ total c n → Within (into c) n m (after k c m).memory
unfolding after
after-within n c m zero p h = record { others = λ u b o. refl; lengths = λ u. refl }
after-within n c m (suc k) p h =
    within-then (into c) n m (after k c m).memory (transfer_of (after k c m).channel (after k c m).memory).memory
    (after-within n c m k p (down k (total c n) h)) (going p (after-row n c m k) h).spares

-- the whole transfer: it has ended, and changed no byte but the destination's
pub whole : {n : ℕ} {c : Channel} {m : Buffers} → Copy n c m
    → Ended n c m (after (total c n) c m).channel (after (total c n) c m).memory × Within (into c) n m (after (total c n) c m).memory
whole {n} {c} {m} p = (ended p (after-row n c m (total c n)) refl, after-within n c m (total c n) p (omega arith))

-- ---- the total is no other

-- a transfer that has ended does not go on
not-both : (n : ℕ) (c₀ : Channel) (m₀ : Buffers) (k : ℕ) (c : Channel) (m : Buffers) → Going n c₀ m₀ k c m → Ended n c₀ m₀ c m → ⊥
not-both n c₀ m₀ k c m g e = apart (sym g.transfers ∙ e.over)

-- so it ends at one step only
pub ends-once : {n : ℕ} {c : Channel} {m : Buffers} {k k' : ℕ} → EndsAt n c m k → EndsAt n c m k' → k ≡ k'
ends-once {n} {c} {m} {k} {k'} x y = go (dec_lt k k') (dec_lt k' k)
  where
    never : (i j : ℕ) → i < j → EndsAt n c m i → EndsAt n c m j → ⊥
    never i j h p q =
        not-both n c m i (after i c m).channel (after i c m).memory (q.before (after-row n c m i) h) (p.then (after-row n c m i))

    go : Dec (k < k') → Dec (k' < k) → k ≡ k'
    go (yes h) d = absurd (never k k' h x y)
    go (no h) (yes h') = absurd (never k' k h' y x)
    go (no h) (no h') = omega arith
