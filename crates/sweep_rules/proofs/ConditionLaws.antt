-- The number of a sweep: each is given exactly under its own condition, where no earlier check applies.
-- Assumes nothing.
use Prim.Native.Nat.{ℕ, ◌+◌, ◌%◌, ◌≤◌}
use borrow.Author.Tests.{leb-true, leb-false}
use lib.Dec.{leb, ltb}
use lib.ListN.{length}
use mathlib.Core.Bool.{Bool, true, false, not, ◌&&◌}
use mathlib.Core.List.{[], ◌∷◌}
use mathlib.Core.Logic.{◌↔◌}
use mathlib.Core.Path.{◌≡◌, refl, sym}
use native.Mathlib.Omega.{arith}
use Rattle.ground_rules.proofs.ChoiceLaws.{apart}
use Rattle.ground_rules.specs.Buffers.{Buffers, space_of}
use Rattle.ground_rules.specs.declared.Pointer.{Pointer}
use Rattle.ground_rules.proofs.ConditionLaws.{Told, Says, step, last, told_and, told-or, told-ltb, told-eqb, says-true, says-false, says-eqb, says-running, says-not, says-and, says-or}
use Rattle.ground_rules.proofs.GivenLaws.{given-chain}
use Rattle.ground_rules.specs.Cc.{same_flag}
use Rattle.ground_rules.specs.Conditions.{check, Given}
use Rattle.ground_rules.specs.Psw.{transferring}
use Rattle.ground_rules.specs.States.{channel_of, is_channel, is_second}
use Rattle.ground_rules.specs.declared.Fields.{Fields}
use Rattle.ground_rules.specs.declared.State.{State}
use Rattle.block_rules.specs.Premises.{from, into}
use Rattle.turn_rules.specs.Choosing.{external}
use Rattle.sweep_rules.specs.Conditions.{RangeLent, RangesApart, PlainFields, Sweepable, BadCall, sweep_checks}
use Rattle.sweep_rules.specs.Ranges.{place_of, range_lent, ranges_apart}
use Rattle.sweep_rules.specs.Sweep.{bytes_to_go, plain_fields, plain_transfer, ranges_fit, none_external, sweepable, sweep_number}

-- ---- the tests

says-leb : (a b : ℕ) → Says (leb a b) (a ≤ b)
says-leb a b = record { holds = λ e. leb-true a b e; fails = λ e h. omega (arith, leb-false a b e) }

says_same : (a b : Bool) → Says (same_flag a b) (a ≡ b)
unfolding same_flag
says_same true true = record { holds = λ e. refl; fails = λ e. apart e }
says_same true false = record { holds = λ e. sym e; fails = λ e h. apart h }
says_same false true = record { holds = λ e. e; fails = λ e h. apart (sym h) }
says_same false false = record { holds = λ e. refl; fails = λ e. apart e }

-- a test says another condition that is the same
says-as : {a : Bool} {A B : Type 0} → Says a A → (A → B) → (B → A) → Says a B
says-as s f g = record { holds = λ e. f (s.holds e); fails = λ e h. s.fails e (g h) }

pub says-lent : (m : Buffers) (p : Pointer) (n : ℕ) → Says (range_lent m p n) (RangeLent m p n)
unfolding range_lent
says-lent m p n = says-leb (place_of p + n) (length (space_of m p.tag))

says-parted : (p q : Pointer) (n : ℕ) → Says (ranges_apart p q n) (RangesApart p q n)
unfolding ranges_apart
says-parted p q n = says-or (says-not (says_same p.tag q.tag)) (says-or (says-leb (place_of p + n) (place_of q)) (says-leb (place_of q + n) (place_of p)))

says-fields : (f : Fields) → Says (plain_fields f) (PlainFields f)
unfolding plain_fields
says-fields f =
    says-as
    (says-and (says-true f.sourceMoves)
    (says-and (says-true f.destinationMoves)
    (says-and (says-eqb f.synchronised 0)
    (says-and (says-false f.translates)
    (says-and (says-not (says-eqb f.countEnd 0))
    (says-and (says-eqb (f.matchEnd % 4) 0)
    (says-and (says-eqb f.externalEnd 0) (says-false f.singleTransfer))))))))
    (λ h. record {
      leaves = h.0;
      enters = h.1.0;
      unsynchronised = h.1.1.0;
      untranslated = h.1.1.1.0;
      counts = h.1.1.1.1.0;
      unmatched = h.1.1.1.1.1.0;
      unended = h.1.1.1.1.1.1.0;
      ongoing = h.1.1.1.1.1.1.1;
    })
    (λ r. (r.leaves, (r.enters, (r.unsynchronised, (r.untranslated, (r.counts, (r.unmatched, (r.unended, r.ongoing))))))))

says-quiet : (lines : ℕ) → Says (none_external lines) ((b : Bool) → external lines b ≡ false)
unfolding none_external
says-quiet lines =
    says-as (says-and (says-false (external lines false)) (says-false (external lines true)))
    (λ h. both h.0 h.1)
    (λ f. (f false, f true))
  where
    both : external lines false ≡ false → external lines true ≡ false → (b : Bool) → external lines b ≡ false
    both x y true = y
    both x y false = x

-- a sweep's test says that its conditions are met
pub says-sweepable : (s : State) (m : Buffers) (second : Bool) (lines : ℕ) → Says (sweepable s m second lines) (Sweepable s m second lines)
unfolding sweepable plain_transfer ranges_fit
says-sweepable s m second lines =
    let c = channel_of s second in
    let n = bytes_to_go c in
    says-as
    (says-and (says-quiet lines)
    (says-and (says-not (says-running (channel_of s (not second)).mode))
    (says-and
    (says-and (says-running c.mode) (says-and (says-true (transferring c.psw)) (says-fields c.fields)))
    (says-and (says-lent m (from c) n) (says-and (says-lent m (into c) n) (says-parted (from c) (into c) n))))))
    (λ h. record {
      quiet = h.0;
      still = h.1.0;
      runs = h.1.1.0.0;
      transfers = h.1.1.0.1.0;
      plain = h.1.1.0.1.1;
      from_lent = h.1.1.1.0;
      into_lent = h.1.1.1.1.0;
      parted = h.1.1.1.1.1;
    })
    (λ r. (r.quiet, (r.still, ((r.runs, (r.transfers, r.plain)), (r.from_lent, (r.into_lent, r.parted))))))

-- ---- the chain

told-says : {a : Bool} {A : Type 0} → Says a A → Told a (¬ A)
told-says s = record { holds = λ e h. h (s.holds e); fails = λ e. s.fails e }

told-call : (channel lines : ℕ) → Told (is_channel channel && ltb lines 16) (BadCall channel lines)
unfolding is_channel
told-call channel lines = told_and (told-or (told-eqb channel 1) (told-eqb channel 2)) (told-ltb lines 16)

-- each number exactly under its condition
pub sweep-given : (s : State) (m : Buffers) (channel lines n : ℕ) → (sweep_number s m channel lines ≡ n) ↔ Given (sweep_checks s m channel lines) n
unfolding sweep_number
sweep-given s m channel lines n =
    step 12 refl (told-call channel lines)
    (given-chain s m (check 15 (¬ (Sweepable s m (is_second channel) lines)) ∷ []) (last n 15 refl (told-says (says-sweepable s m (is_second channel) lines))))
