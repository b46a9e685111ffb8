-- What is promised of a sweep.
-- Assumes nothing.
use Prim.Native.Nat.{ℕ, zero, suc, ◌+◌, ◌-◌, ◌*◌, ◌<◌, ◌≤◌}
use mathlib.Core.Bool.{Bool, true, false}
use mathlib.Core.Logic.{◌↔◌}
use mathlib.Core.Path.{◌≡◌, refl, sym, ap, subst, ◌∙◌}
use borrow.Author.Tests.{lt-ltb, ltb-true, eq-eqb}
use lib.Dec.{ltb}
use native.Mathlib.Omega.{arith}
use Rattle.ground_rules.specs.Choice.{pick}
use Rattle.ground_rules.specs.Buffers.{Buffers, limit_of}
use Rattle.ground_rules.proofs.ChannelLaws.{named}
use Rattle.ground_rules.proofs.ConditionLaws.{says-yes, says-no, unless-none, first-none-left, first-none-right}
use Rattle.ground_rules.proofs.GivenLaws.{given-sound, given-powered, given-agree}
use Rattle.ground_rules.specs.Outcomes.{first, unless, given_number}
use Rattle.ground_rules.specs.States.{channel_of, with_channel, with_last, channel_number, is_channel}
use Rattle.ground_rules.specs.declared.Board.{Board}
use Rattle.ground_rules.specs.declared.Channel.{Channel}
use Rattle.ground_rules.specs.declared.State.{State}
use Rattle.block_rules.proofs.CountLaws.{total-most, total-narrow, total-wide}
use Rattle.block_rules.proofs.Demand3.{going as on-way, ended as at-total}
use Rattle.block_rules.proofs.StageLaws.{mid-count}
use Rattle.block_rules.specs.Rows.{Row}
use Rattle.block_rules.specs.Premises.{from, into, Copy}
use Rattle.block_rules.specs.Stages.{Going, Ended}
use Rattle.block_rules.specs.Totals.{total, moved_after}
use Rattle.turn_rules.specs.Choosing.{external}
use Rattle.turn_rules.specs.Step.{entry_number}
use Rattle.sweep_rules.proofs.ConditionLaws.{says-sweepable, sweep-given}
use Rattle.sweep_rules.proofs.LeftLaws.{copied-spares, swept-sound, swept-agree, swept-board, swept-other, swept-cp, swept-last, swept-spares}
use Rattle.sweep_rules.proofs.PassedLaws.{number_is, number-most, lines-few, passed-given, passed-limits, passed-conditions, accepted-sweep, refused-sweep}
use Rattle.sweep_rules.specs.Conditions.{Sweepable}
use Rattle.sweep_rules.specs.Copies.{copied_on}
use Rattle.sweep_rules.specs.Plainly.{plainly}
use Rattle.sweep_rules.specs.Ranges.{place_of}
use Rattle.sweep_rules.specs.Sweep.{Sweep, swept_to, bytes_to_go, sweepable, done_sweep, sweep_number, sweep_of}
use Rattle.promises.proofs.MachineLaws.{row-transfer, moves}
use Rattle.promises.proofs.RunLaws.{goes_on}
use Rattle.promises_blocks.specs.Joined.{RunsAlone, Through}
use Rattle.promises_blocks.specs.Sweeps.{SweepAnswers, SweepDoes, SweepLeaves, SweptRest, Sweeps}
use Rattle.promises_blocks.proofs.AloneLaws.{going-turn, alone-next}
use Rattle.promises_blocks.proofs.MemoryLaws.{same_in, copied-held}
use Rattle.promises_blocks.proofs.MetLaws.{copy_met, alone-met, demanded, rest-sweepable}
use Rattle.promises_blocks.proofs.PlainLaws.{end, ends, plainly-stops, plainly-goes, plainly-ends, ends-state}

-- ---- demand 1

answers : (s : State) (m : Buffers) (channel lines : ℕ) → SweepAnswers s m channel lines (sweep_of s m channel lines)
answers s m channel lines =
    record {
      numbers = λ n. rw (number_is s m channel lines) (sweep-given s m channel lines n);
      same_state = λ ne. ap (λ (o : Sweep). o.state) (same ne);
      same_memory = λ ne. ap (λ (o : Sweep). o.memory) (same ne);
      no_steps = λ ne. ap (λ (o : Sweep). o.steps) (same ne);
      no_bytes = λ ne. ap (λ (o : Sweep). o.count) (same ne);
      bound = subst (λ (k : ℕ). k ≤ 15) (sym (number_is s m channel lines)) (number-most s m channel lines);
    }
  where
    same : ¬ ((sweep_of s m channel lines).number ≡ 0) → sweep_of s m channel lines ≡ swept_to (sweep_number s m channel lines) s m 0 0
    same ne = refused-sweep s m channel lines (λ z. ne (number_is s m channel lines ∙ z))

-- ---- an accepted sweep

module _ (s : State) (m : Buffers) (b : Bool) (lines : ℕ) (accepted : (sweep_of s m (channel_number b) lines).number ≡ 0) where
  abbrev c : Channel
  c = channel_of s b

  abbrev n : ℕ
  n = bytes_to_go c

  none : sweep_number s m (channel_number b) lines ≡ 0
  none = sym (number_is s m (channel_number b) lines) ∙ accepted

  given : given_number s m ≡ 0
  given = passed-given s m (channel_number b) lines none

  done : sweep_of s m (channel_number b) lines ≡ done_sweep s m b
  done = accepted-sweep s m (channel_number b) lines none ∙ ap (done_sweep s m) (named b)

  met : Sweepable s m b lines
  met = subst (λ (x : Bool). Sweepable s m x lines) (named b) (passed-conditions s m (channel_number b) lines none)

  leaves : SweepLeaves s m b (sweep_of s m (channel_number b) lines)
  leaves =
      rw done
      (record {
        sound = swept-sound s m b (given-sound s m given);
        ready = (ap (λ (x : Board). x.powered) (swept-board s m b) ∙ given-powered s m given, swept-agree s m b (given-agree s m given));
        other = swept-other s m b;
        control = swept-cp s m b;
        board = swept-board s m b;
        last = swept-last s m b;
        spares = swept-spares s m b;
      })

  module _ (small : c.bc < 65536) where
    few : lines < 16
    few = lines-few s m (channel_number b) lines none

    copy : Copy n c m
    copy = copy_met s m b lines given few small met

    unaided : RunsAlone b s m lines
    unaided = alone-met s m b lines given few small met

    abbrev t : Through b n s m lines (total c n)
    t = end b n s m lines copy unaided

    ended : Ended n c m (channel_of t.state b) t.memory
    ended = ends b n s m lines copy unaided

    memory-same : t.memory ≡ copied_on m (from c) (into c) n
    memory-same =
        same_in m (into c) n (passed-limits s m (channel_number b) lines none) met.into_lent t.memory (copied_on m (from c) (into c) n) t.spares
        (copied-spares m (from c) (into c) n n (omega arith))
        (λ k l. ended.copied k l ∙ sym ((copied-held m (from c) (into c) n copy.most copy.apart copy.from_lent copy.into_lent n (omega arith)).arrived k l))

    -- it leaves what the plain steps leave
    swept-is : sweep_of s m (channel_number b) lines ≡ swept_to 0 t.state t.memory (total c n) (2 * n)
    unfolding done_sweep
    swept-is =
        done
        ∙ sym (λ i. swept_to 0 ((ends-state b n s m lines copy unaided ∙ ap (λ (x : Channel). with_last (with_channel s b x) b) ended.registers) i) (memory-same i) (total c n) (2 * n))

    whole : c.bc ≡ 0 → n ≡ 65536
    unfolding bytes_to_go
    whole z = rw (eq-eqb c.bc 0 z)

    does : SweepDoes s m b lines (sweep_of s m (channel_number b) lines)
    does =
        rw swept-is
        (record {
          plain = λ left enough.
              let e : total c n + (left - total c n) ≡ left = omega arith in
              sym (plainly-ends b n s m lines copy unaided (left - total c n)) ∙ ap (λ (k : ℕ). plainly k s m b lines) e;
          most = omega (arith, total-most c n copy.some, copy.most);
          steps = refl;
          count = refl;
          whole_count = λ z. omega (arith, whole z);
          whole_bytes = λ z e. total-narrow c n e ∙ whole z;
          whole_words = λ z e k. omega (arith, total-wide c n e, whole z, k);
          whole_odd = λ z e k. omega (arith, total-wide c n e, whole z, k);
          ended = ended;
          run = λ left so_far. goes_on t.done left so_far;
        })

-- ---- 15

-- where nothing before it applies, 15 is given exactly where the conditions are not met
then-conditions : (s : State) (m : Buffers) (b : Bool) (lines : ℕ) → given_number s m ≡ 0 → lines < 16
    → (sweep_of s m (channel_number b) lines).number ≡ pick (sweepable s m b lines) 0 15
unfolding sweep_number first unless is_channel channel_number
then-conditions s m b lines given few = number_is s m (channel_number b) lines ∙ go b
  where
    go : (b : Bool) → sweep_number s m (channel_number b) lines ≡ pick (sweepable s m b lines) 0 15
    go true = rw (lt-ltb lines 16 few, given, named true)
    go false = rw (lt-ltb lines 16 few, given, named false)

-- so a sweep of the rest of a transfer that is going on is accepted, of ranges that do not wrap, while the other channel does not run and no EXT is up
pub rest-accepted : {b : Bool} {n : ℕ} {c₀ : Channel} {m₀ : Buffers} (lines : ℕ) → Copy n c₀ m₀ → place_of (from c₀) + n ≤ limit_of (from c₀).tag
    → place_of (into c₀) + n ≤ limit_of (into c₀).tag → ((x : Bool) → external lines x ≡ false)
    → (k : ℕ) (s : State) (m : Buffers) → Going n c₀ m₀ k (channel_of s b) m → RunsAlone b s m lines → (sweep_of s m (channel_number b) lines).number ≡ 0
unfolding entry_number
rest-accepted {b} lines p from_whole into_whole quiet k s m g a =
    let given : given_number s m ≡ 0 = first-none-right (unless (ltb lines 16) 12) (given_number s m) a.entered in
    let few : lines < 16 = ltb-true lines 16 (unless-none 12 refl (first-none-left (unless (ltb lines 16) 12) (given_number s m) a.entered)) in
    then-conditions s m b lines given few ∙ rw (says-yes (says-sweepable s m b lines) (rest-sweepable lines p from_whole into_whole quiet k s m g a))

module _ (b : Bool) (s₀ : State) {n : ℕ} {m₀ : Buffers} (lines : ℕ) (p : Copy n (channel_of s₀ b) m₀) where
  abbrev c₀ : Channel
  c₀ = channel_of s₀ b

  -- the plain steps of what is left of a transfer lead to the total, and stop there
  plain-rest : (left more k : ℕ) {s : State} {m : Buffers} → k + left ≡ total c₀ n → Row n c₀ m₀ k (channel_of s b) m → RunsAlone b s m lines
      → SweptRest b n s₀ m₀ left (plainly (left + more) s m b lines)
  plain-rest zero more k {s} {m} e r a =
      let x = at-total p r (omega arith) in
      rw (plainly-stops (0 + more) s m b lines x.over) (record { steps = refl; ended = x })
  plain-rest (suc left) more k {s} {m} e r a =
      let g = on-way p r (omega arith) in
      let t = going-turn p g a in
      let v = moves b n s₀ m₀ k s m lines g t in
      let next = row-transfer b n c₀ m₀ k s m lines t g.transfers r in
      let rest = plain-rest left more (suc k) (omega arith) next (alone-next b s m lines a v.done v.channel) in
      let same : suc left + more ≡ suc (left + more) = omega arith in
      rw (same, plainly-goes (left + more) s m b lines g.transfers v.done) (record { steps = omega (arith, rest.steps); ended = rest.ended })

  -- so an accepted sweep takes exactly those steps, and leaves what the undisturbed run leaves
  pub rest-swept : {k : ℕ} {s : State} {m : Buffers} → Row n c₀ m₀ k (channel_of s b) m → k < total c₀ n → RunsAlone b s m lines
      → (sweep_of s m (channel_number b) lines).number ≡ 0 → SweptRest b n s₀ m₀ (total c₀ n - k) (sweep_of s m (channel_number b) lines)
  rest-swept {k} {s} {m} r h a z =
      let small = ap (λ (c : Channel). c.bc) (on-way p r h).registers ∙ mid-count c₀ n (moved_after c₀ n k) in
      let o = sweep_of s m (channel_number b) lines in
      let plain = (does s m b lines z (omega (arith, small))).plain (total c₀ n - k + o.steps) (omega arith) in
      rw plain (plain-rest (total c₀ n - k) o.steps k (omega arith) r a)

fifteen : (s : State) (m : Buffers) (b : Bool) (lines : ℕ) → given_number s m ≡ 0 → lines < 16
    → ((sweep_of s m (channel_number b) lines).number ≡ 15) ↔ ¬ (Sweepable s m b lines)
fifteen s m b lines given few =
    let says = says-sweepable s m b lines in
    let is = then-conditions s m b lines given few in
    (λ e w. let z : ◌≡◌ {A = ℕ} 0 15 = sym (is ∙ rw (says-yes says w)) ∙ e in omega arith, λ no_met. is ∙ rw (says-no says no_met))

pub sweeps : Sweeps
sweeps =
    record {
      answers = answers;
      demanded = λ s m b lines given few small.
          let same = demanded s m b lines given few small in
          let tells = fifteen s m b lines given few in
          (λ e d. tells.0 e (same.1 d), λ no-demand. tells.1 (λ w. no-demand (same.0 w)));
      does = λ s m b lines z small. does s m b lines z small;
      leaves = λ s m b lines z. leaves s m b lines z;
    }
