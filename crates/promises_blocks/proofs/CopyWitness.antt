-- The premises of demand 3 are met for every n, at any two places of system memory that share no byte, by all widths; so no case is empty.
-- Assumes nothing.
use Prim.Native.Nat.{ℕ, ◌+◌, ◌/◌, ◌%◌, ◌<◌, ◌≤◌}
use borrow.Author.Tests.{eqb-false, lt-ltb, le-leb}
use lib.Dec.{lit<, lit≤}
use lib.ListN.{length-replicate}
use mathlib.Core.Bool.{Bool, true, false, not}
use mathlib.Core.Path.{◌≡◌, refl, sym, ap, subst, ◌∙◌}
use native.Mathlib.Omega.{arith}
use Rattle.ground_rules.proofs.ChannelLaws.{put_same, put_other}
use Rattle.ground_rules.specs.States.{fresh_state, idle_channel, channel_of, with_last, sound_channel, sound, fields_agree, is_running}
use Rattle.ground_rules.proofs.FieldLaws.{agrees}
use Rattle.ground_rules.specs.Cc.{split}
use Rattle.ground_rules.specs.declared.Channel.{Channel}
use Rattle.ground_rules.proofs.PlaceLaws.{index-small}
use Rattle.ground_rules.specs.Buffers.{space_of, limit_of, index_of, lent_at, within_limits}
use Rattle.turn_rules.proofs.SoundLaws.{done-sound}
use Rattle.transfer_rules.specs.Sides.{source, destination}
use Rattle.ground_rules.specs.Bits.{field_of, bit_of}
use Rattle.promises.specs.Cases.{Both8, Both16Even, Both16Odd, From16OddInto8}
use Rattle.promises_blocks.specs.Joined.{RunsAlone}
use Rattle.promises_blocks.specs.Met.{psw_of, copying, zeros_of, zeros, only_in, Met, CasesMet}
use Rattle.block_rules.specs.Premises.{Plain, Copy}
use Rattle.block_rules.specs.Totals.{total}
use Rattle.promises.specs.Witness.{running_with}
use Rattle.promises_blocks.proofs.AloneLaws.{entered, put-ready, through}
use Rattle.promises.proofs.CaseLaws.{total-8, total-even, total-odd, total-mixed}

-- ---- the memory

-- where all of it is there, every address of system memory is lent
lent_of : (size a : ℕ) → 1048576 ≤ size → lent_at (zeros_of size) false a ≡ true
unfolding zeros_of lent_at space_of
lent_of size a h = rw length-replicate (lt-ltb (index_of false a) size (omega (arith, index-small false a)))

pub zeros-lent : (a : ℕ) → lent_at zeros false a ≡ true
zeros-lent a = lent_of 1048576 a (omega arith)

-- no buffer is too long
within_of : (size : ℕ) → size ≤ 1048576 → within_limits (zeros_of size) ≡ true
unfolding zeros_of within_limits limit_of
within_of size h = rw (length-replicate, le-leb size 1048576 h)

pub zeros_within : within_limits zeros ≡ true
zeros_within = within_of 1048576 (omega arith)

-- ---- the channel

module _ (from into : ℕ) (from_wide into_wide : Bool) (n : ℕ) (low : from < 1048576) (high : into < 1048576) where
  -- no pointer is past 20 bits
  sound-met : sound_channel (copying from into from_wide into_wide n) ≡ true
  unfolding copying running_with sound_channel split
  sound-met = rw (lt-ltb from 1048576 low, lt-ltb into 1048576 high)

  -- every premise on the channel
  plain-met : Plain (copying from into from_wide into_wide n)
  unfolding copying running_with is_running split bit_of field_of
  plain-met =
      record {
        runs = refl;
        transfers = flag from_wide into_wide;
        leaves = refl;
        enters = refl;
        unsynchronised = refl;
        untranslated = refl;
        counts = λ e. eqb-false 1 0 refl e;
        unmatched = refl;
        unended = refl;
        ongoing = refl;
        sound = sound-met;
        agree = agrees (copying from into from_wide into_wide n) refl;
      }
    where
      flag : (s d : Bool) → bit_of (psw_of s d) 6 ≡ true
      flag true true = refl
      flag true false = refl
      flag false true = refl
      flag false false = refl

-- every premise on the start
pub copy_met : (from into : ℕ) (from_wide into_wide : Bool) (n : ℕ) → 1 ≤ n → n ≤ 65536 → from + n ≤ into → into + n ≤ 1048576
    → Copy n (copying from into from_wide into_wide n) zeros
unfolding copying running_with source destination bit_of index_of limit_of split
copy_met from into from_wide into_wide n some most before fits =
    record {
      plain = plain-met from into from_wide into_wide n (omega arith) (omega arith);
      some = some;
      most = most;
      count = refl;
      from_lent = λ i h. zeros-lent (from + i);
      into_lent = λ i h. zeros-lent (into + i);
      apart = λ i j h h' e x. omega arith;
    }

-- ---- the calls

-- the channel alone in a state
module _ (b : Bool) (c : Channel) (q : sound_channel c ≡ true) (a : fields_agree c ≡ true) where
  only-sound : sound (only_in b c) ≡ true
  unfolding sound with_last
  only-sound = done-sound (fresh_state 0) b c (unfold fresh_state idle_channel sound sound_channel in refl) q

  only-alone : RunsAlone b (only_in b c) zeros 0
  unfolding fresh_state channel_of idle_channel is_running
  only-alone =
      record {
        entered = entered (only_in b c) zeros 0 (lit< tt) zeros_within only-sound (put-ready 0 b c a);
        idle = ap (λ (d : Channel). is_running d.mode) (put_other (fresh_state 0) b c) ∙ idle b;
      }
    where
      idle : (b : Bool) → is_running (channel_of (fresh_state 0) (not b)).mode ≡ false
      idle true = refl
      idle false = refl

-- a transfer that meets the premises of a case, with as many of its steps in a row as the case says
met : {sides : Channel → Type 0} {count steps : ℕ} (b : Bool) (from into : ℕ) (from_wide into_wide : Bool) (n : ℕ) → 1 ≤ n → n ≤ 65536
    → from + n ≤ into → into + n ≤ 1048576 → n % 65536 ≡ count → sides (copying from into from_wide into_wide n)
    → total (copying from into from_wide into_wide n) n ≡ steps → Met sides count steps b
unfolding copying running_with split
met {sides} b from into from_wide into_wide n some most before fits first such e =
    record {
      state = only_in b c;
      memory = zeros;
      n = n;
      copy = copy;
      first = ap (λ (d : Channel). d.bc) same ∙ first;
      such = subst sides (sym same) such;
      row =
          through b n (only_in b c) zeros 0 copy (only-alone b c k.plain.sound k.plain.agree) _
          (omega (arith, e, ap (λ (d : Channel). total d n) same));
    }
  where
    c : Channel
    c = copying from into from_wide into_wide n

    k : Copy n c zeros
    k = copy_met from into from_wide into_wide n some most before fits

    same : channel_of (only_in b c) b ≡ c
    same = put_same (fresh_state 0) b c

    copy : Copy n (channel_of (only_in b c) b) zeros
    copy = subst (λ (d : Channel). Copy n d zeros) (sym same) k

-- ---- the cases

module _ (b : Bool) (n : ℕ) (some : 1 ≤ n) (most : n ≤ 65536) where
  -- both widths 8
  met-8 : Met Both8 (n % 65536) n b
  unfolding copying running_with source destination bit_of split
  met-8 = met b 0 65536 false false n some most (omega arith) (omega arith) refl (refl, refl) (total-8 (copying 0 65536 false false n) n (refl, refl) some)

  -- both 16 and even
  met-even : Met Both16Even (n % 65536) ((n + 1) / 2) b
  unfolding copying running_with source destination bit_of split
  met-even =
      met b 0 65536 true true n some most (omega arith) (omega arith) refl ((refl, refl), refl, refl)
      (total-even (copying 0 65536 true true n) n ((refl, refl), refl, refl) some)

  -- both 16 and odd
  met-odd : Met Both16Odd (n % 65536) (1 + n / 2) b
  unfolding copying running_with source destination bit_of split
  met-odd =
      met b 1 65537 true true n some most (omega arith) (omega arith) refl ((refl, refl), refl, refl)
      (total-odd (copying 1 65537 true true n) n ((refl, refl), refl, refl) some)

  -- from 16 at an odd address into 8
  met-mixed : Met From16OddInto8 (n % 65536) (1 + n / 2) b
  unfolding copying running_with source destination bit_of split
  met-mixed =
      met b 1 65537 true false n some most (omega arith) (omega arith) refl (refl, refl, refl)
      (total-mixed (copying 1 65537 true false n) n (refl, refl, refl) some)

-- none of them is empty
pub cases-met : (b : Bool) → CasesMet b
cases-met b =
    record {
      case8 = (met-8 b 5 (lit≤ tt) (lit≤ tt), met-even b 5 (lit≤ tt) (lit≤ tt));
      case9 = (met-odd b 1 (lit≤ tt) (lit≤ tt), met-odd b 4 (lit≤ tt) (lit≤ tt));
      case10 = (met-even b 65536 (lit≤ tt) (lit≤ tt), met-odd b 65536 (lit≤ tt) (lit≤ tt));
      case11 = met-mixed b 2 (lit≤ tt) (lit≤ tt);
    }
