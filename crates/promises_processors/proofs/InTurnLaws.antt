-- Two transfers out of one system memory into two I/O memories, step by step in turn: neither harms the other, and both end as demand 3 says.
-- Assumes nothing.
use Prim.Native.Nat.{ℕ, zero, suc, ◌+◌, ◌<◌, ◌≤◌}
use lib.ListN.{length}
use mathlib.Core.Bool.{Bool, true, false, not}
use mathlib.Core.Path.{◌≡◌, refl, sym, subst, ◌∙◌}
use native.Mathlib.Omega.{arith}
use Rattle.ground_rules.proofs.ChoiceLaws.{apart}
use Rattle.ground_rules.specs.Buffers.{Buffers, space_of, byte_at}
use Rattle.ground_rules.specs.declared.Pointer.{Pointer}
use Rattle.ground_rules.proofs.StoreLaws.{same-lent}
use Rattle.ground_rules.specs.declared.Channel.{Channel}
use Rattle.turn_rules.specs.declared.Kind.TheVariants.{Nothing}
use Rattle.block_rules.specs.Premises.{from, into, Lent}
use Rattle.block_rules.specs.Rows.{Left}
use Rattle.block_rules.specs.Stages.{Going, Within}
use Rattle.promises_blocks.proofs.AloneLaws.{going-turn, alone-next, alone-written}
use Rattle.promises.specs.Calls.{HasTurn, Moves}
use Rattle.promises_blocks.specs.Joined.{RunsAlone}
use Rattle.processor_rules.specs.Calls.{StepAnswer, step_answer, step_gives, step_on}
use Rattle.processor_rules.specs.Processors.{Memories, buffers_of, io_of}
use Rattle.promises_processors.specs.InTurn.{in_turn, TwoTransfers, BothEnd}
use Rattle.promises_processors.specs.Rows.{ProcessorCalls, EndsOnTwo, begin, transfer, other}
use Rattle.promises_processors.specs.Situations.{Situation, state_for, channel_for, memory_for, after_step}
use Rattle.promises_processors.proofs.RowLaws.{demand3-on-two}
use Rattle.promises_processors.proofs.SeenLaws.{step-state, step-memory, other-state, other-io}

-- every byte, and both lengths, are as they were
record Same (m m' : Buffers) : Type 0 where
  pub bytes : (u : Bool) (a : ℕ) → byte_at m' u a ≡ byte_at m u a
  pub lengths : (u : Bool) → length (space_of m' u) ≡ length (space_of m u)

-- so one processor sees them where its own I/O memory is the same and the other stores into its own I/O space
sees-same : (b : Bool) (m m' : Memories) {q : Pointer} {n : ℕ} → io_of m' b ≡ io_of m b → q.tag ≡ true
    → Within q n (buffers_of m (not b)) (buffers_of m' (not b)) → Same (buffers_of m b) (buffers_of m' b)
unfolding buffers_of byte_at space_of
sees-same b m m' e t w = record { bytes = bytes; lengths = lengths }
  where
    bytes : (u : Bool) (a : ℕ) → byte_at (buffers_of m' b) u a ≡ byte_at (buffers_of m b) u a
    bytes true a = rw e
    bytes false a = w.others false a (λ i h f x. apart (sym t ∙ f))

    lengths : (u : Bool) → length (space_of (buffers_of m' b) u) ≡ length (space_of (buffers_of m b) u)
    lengths true = rw e
    lengths false = w.lengths false

module _ {second : Bool → Bool} {n k : ℕ} {x₀ : Situation} (h : TwoTransfers second n k x₀) where
  abbrev c₀ : Bool → Channel
  c₀ b = channel_for b (second b) x₀

  ends : (b : Bool) → EndsOnTwo b (second b) n x₀ k
  ends b = subst (EndsOnTwo b (second b) n x₀) (h.steps b) (demand3-on-two (h.copy b))

  -- a row so far, its processor's channel alone in it, and the lengths of the start
  record Way (b : Bool) (i : ℕ) (x : Situation) : Type 1 where
    pub row : ProcessorCalls b (second b) n x₀ i x
    pub alone : RunsAlone (second b) (state_for b x) (memory_for b x) 0
    pub lengths : (u : Bool) → length (space_of (memory_for b x) u) ≡ length (space_of (memory_for b x₀) u)

  module _ {b : Bool} {i : ℕ} {x : Situation} (w : Way b i x) (l : i < k) where
    going : Going n (c₀ b) (memory_for b x₀) i (channel_for b (second b) x) (memory_for b x)
    going = (ends b).before w.row l

    -- short of the end the next step of this processor is its transfer step
    turn : HasTurn (second b) (state_for b x) (memory_for b x) 0
    turn = going-turn (h.copy b) going w.alone

    moved : Moves (second b) n (state_for b x₀) (state_for b x) (memory_for b x) 0
    moved = (ends b).turns w.row l 0 turn

    -- which stores into its I/O space alone
    spares : Within (into (c₀ b)) n (memory_for b x) (memory_for b (after_step b 0 x))
    spares = rw (step-memory b x 0) moved.spares

    goes : Way b (suc i) (after_step b 0 x)
    goes =
        record {
          row = transfer w.row 0 turn going.transfers;
          alone = rw (step-state b x 0, step-memory b x 0) (alone-next (second b) (state_for b x) (memory_for b x) 0 w.alone moved.done moved.channel);
          lengths = λ u. spares.lengths u ∙ w.lengths u;
        }

  -- beside a transfer step of the other
  stays : (b : Bool) {i j : ℕ} {x : Situation} → Way b i x → Way (not b) j x → j < k → Way b i (after_step (not b) 0 x)
  unfolding step_on
  stays b {x = x} w v l =
      record {
        row =
            other w.row twelve (step_gives 0)
            (record { from_left = left (from (c₀ b)) (h.copy b).from_lent; into_left = left (into (c₀ b)) (h.copy b).into_lent });
        alone = rw (other-state twelve (step_gives 0) b x) (alone-written m' w.alone same.lengths);
        lengths = λ u. same.lengths u ∙ w.lengths u;
      }
    where
      twelve : StepAnswer
      twelve = step_answer 12 0 0 Nothing

      m : Buffers
      m = memory_for b x

      m' : Buffers
      m' = memory_for b (after_step (not b) 0 x)

      same : Same m m'
      same = sees-same b x.memory (after_step (not b) 0 x).memory (other-io twelve (step_gives 0) b x) (h.ports (not b)) (spares v l)

      left : (q : Pointer) → Lent (memory_for b x₀) q n → Left q n m m'
      left q given =
          record {
            bytes = λ i f. same.bytes q.tag (q.address + i);
            lent = λ i f. same-lent (memory_for b x₀) m' (λ u. same.lengths u ∙ w.lengths u) q.tag (q.address + i) ∙ given i f;
          }

  -- a step of each, in turn
  both-next : (i : ℕ) → suc i ≤ k → ((b : Bool) → Way b i (in_turn i x₀)) → (b : Bool) → Way b (suc i) (in_turn (suc i) x₀)
  unfolding in_turn
  both-next i l w true = goes (stays true (w true) (w false) l) l
  both-next i l w false = stays false (goes (w false) l) (stays true (w true) (w false) l) l

  both_go : (i : ℕ) → i ≤ k → (b : Bool) → Way b i (in_turn i x₀)
  unfolding in_turn
  both_go zero l b = record { row = begin; alone = h.alone b; lengths = λ u. refl }
  both_go (suc i) l b = both-next i l (both_go i (omega arith)) b

  pub both_end : BothEnd second n k x₀
  both_end =
      let w = both_go k (omega arith) in
      record { rows = λ b. (w b).row; ended = λ b. (ends b).then (w b).row }
