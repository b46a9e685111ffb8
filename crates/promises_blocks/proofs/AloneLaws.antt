-- A channel that is alone: each step call is its turn, and its transfer goes through to its total, which is no other.
-- Assumes nothing.
use Prim.Native.Nat.{ℕ, zero, suc, ◌<◌, ◌≤◌}
use borrow.Author.Tests.{lt-ltb, eq-eqb}
use lib.Dec.{ltb, lit<}
use lib.ListN.{length}
use mathlib.Core.Bool.{Bool, true, false, not}
use mathlib.Core.Logic.{⊎_elim, inl, inr}
use mathlib.Core.Path.{◌≡◌, refl, sym, ap, subst, ◌∙◌}
use native.Mathlib.Decide.{dec_lt, dec_le}
use native.Mathlib.Omega.{arith}
use Rattle.instruction_rules.specs.Execute.{Executed, executed, execute_of}
use Rattle.ground_rules.proofs.ConditionLaws.{running-is, says-running}
use Rattle.ground_rules.specs.Outcomes.{Outcome, first, unless, given_number}
use Rattle.ground_rules.specs.Psw.{transferring}
use Rattle.ground_rules.proofs.FieldLaws.{put-agree, blank-agree}
use Rattle.ground_rules.specs.Conditions.{Ready}
use Rattle.ground_rules.specs.States.{board_with, fields_agree, agree, fresh_state, channel_of, with_channel, channel_number, is_running, sound, block_of, busy_in}
use Rattle.ground_rules.specs.declared.Channel.{Channel}
use Rattle.ground_rules.specs.declared.Fields.{Fields}
use Rattle.ground_rules.specs.declared.Mode.TheVariants.{Running}
use Rattle.ground_rules.specs.declared.State.{State}
use Rattle.ground_rules.specs.Buffers.{Buffers, space_of, within_limits}
use Rattle.ground_rules.specs.Places.{span, all_touchable}
use Rattle.ground_rules.specs.{Stages.stages_number, States.is_channel, States.sound_channel}
use Rattle.ground_rules.proofs.ChannelLaws.{put_same, put-sound, named}
use Rattle.ground_rules.proofs.ConditionLaws.{first-none-right}
use Rattle.ground_rules.proofs.OutcomeLaws.{settled-number}
use Rattle.attention_rules.proofs.{Outcomes.accepted-order, Outcomes.other-channel, Outcomes.shared_kept, SoundLaws.attention-agree}
use Rattle.attention_rules.proofs.Stores as Attended
use Rattle.attention_rules.specs.Attention.{order_to, order_number, channel_attended, given_to, attention_number, attention_of}
use Rattle.attention_rules.specs.{Commands.command_number, Touched.others, Touched.order_stages}
use Rattle.turn_rules.proofs.OutcomeLaws.{other-kept, cp-kept, board-kept}
use Rattle.turn_rules.proofs.SoundLaws.{sound-kept, entry-sound, entry-again, entry-agree, limits-kept, step-agree}
use Rattle.turn_rules.proofs.TouchedLaws.{lengths-kept}
use Rattle.turn_rules.specs.Step.{refused_step, done_step, settled_step, instruction_step, chosen_step, entry_number, step_of}
use Rattle.turn_rules.specs.declared.Kind.TheVariants.{Instruction}
use Rattle.turn_rules.proofs.ChoosingLaws.{by_rank, rank-none, lower-rank-wins, nobody-runs}
use Rattle.turn_rules.specs.Choosing.{requested, no_rank, rank_of}
use Rattle.turn_rules.specs.Ranks.{HasRank, ExternalAt, rank_at}
use Rattle.ground_rules.proofs.ChoiceLaws.{apart}
use Rattle.promises.specs.Calls.{HasTurn, Calls, Moves, EndsAtCall, begin, transfer, step, attention, host}
use Rattle.promises_blocks.specs.Joined.{RunsAlone, Through}
use Rattle.block_rules.specs.Premises.{into, Copy}
use Rattle.promises.specs.Runs.{none, more}
use Rattle.block_rules.specs.Stages.{Going, Ended}
use Rattle.block_rules.specs.Totals.{moved_after, total}
use Rattle.block_rules.proofs.CopyLaws.{within-then, down}
use Rattle.promises.proofs.InstructionLaws.{turn-executes}
use Rattle.promises.proofs.MachineLaws.{demand3-calls}
use Rattle.block_rules.proofs.StageLaws.{mid-fields}

-- ---- its turn

-- what holds of a channel and of the other holds of each
pub each : (b : Bool) (P : Bool → Type 0) → P b → P (not b) → (x : Bool) → P x
each true P p q true = p
each true P p q false = q
each false P p q true = q
each false P p q false = p

-- a channel that can step comes before one that cannot
has-less : (c : Channel) (drq : Bool) → HasRank c drq → rank_of c drq < no_rank
has-less c drq h = by_rank c drq (λ n. n < no_rank) (λ _. lit< tt) (λ _. lit< tt) (λ k. absurd (k h))

module _ (b : Bool) (s : State) (m : Buffers) (lines : ℕ) (a : RunsAlone b s m lines) where
  -- the other channel does not run
  still : (channel_of s (not b)).mode ≡ Running → ⊥
  still = (says-running (channel_of s (not b)).mode).fails a.idle

  -- so it has no rank
  unranked : rank_at s lines (not b) ≡ no_rank
  unranked = (rank-none (channel_of s (not b)) (requested lines (not b))).1 (⊎_elim (λ k. still k.0) (λ k. still k.0))

  -- a channel that can step and that no line ends has its turn
  alone-turn : HasRank (channel_of s b) (requested lines b) → ¬ (ExternalAt s lines b) → HasTurn b s m lines
  alone-turn h ne =
      record {
        entered = a.entered;
        chosen =
            lower-rank-wins s lines b (each b (λ x. ¬ (ExternalAt s lines x)) ne (λ e. still e.0))
            (omega (arith, has-less (channel_of s b) (requested lines b) h, unranked));
      }

  module _ (runs : is_running (channel_of s b).mode ≡ true) where
    running : (channel_of s b).mode ≡ Running
    running = running-is (channel_of s b).mode runs

    -- to execute
    pub program-turn : transferring (channel_of s b).psw ≡ false → HasTurn b s m lines
    program-turn x = alone-turn (go (channel_of s b).fields.chained refl) (λ e. apart (sym e.1 ∙ x))
      where
        go : (z : Bool) → (channel_of s b).fields.chained ≡ z → HasRank (channel_of s b) (requested lines b)
        go true e = inl (running, inr (x, e))
        go false e = inr (running, x, e)

    -- and to transfer, unsynchronised and with no external end
    pub transfer-turn : transferring (channel_of s b).psw ≡ true → (channel_of s b).fields.synchronised ≡ 0 → (channel_of s b).fields.externalEnd ≡ 0 → HasTurn b s m lines
    transfer-turn x y z = alone-turn (inl (running, inl (x, inl y))) (λ e. e.2 z)

-- so has one whose transfer is going on
pub going-turn : {b : Bool} {n : ℕ} {c₀ : Channel} {m₀ : Buffers} {k : ℕ} {s : State} {m : Buffers} {lines : ℕ} → Copy n c₀ m₀
    → Going n c₀ m₀ k (channel_of s b) m → RunsAlone b s m lines → HasTurn b s m lines
going-turn {b} {n} {c₀} {k = k} {s} {m} {lines} p g a =
    let e = ap (λ (c : Channel). c.fields) g.registers ∙ mid-fields c₀ n (moved_after c₀ n k) in
    transfer-turn b s m lines a g.runs g.transfers (ap (λ (f : Fields). f.synchronised) e ∙ p.plain.unsynchronised)
    (ap (λ (f : Fields). f.externalEnd) e ∙ p.plain.unended)

-- ---- it stays alone

-- none of 12, 11, 10, 13 and 14 refuses the next step either
entry_next : (s : State) (m : Buffers) (lines : ℕ) (s' : State) (m' : Buffers) → entry_number s m lines ≡ 0 → sound s' ≡ true → agree s' ≡ true → s'.board ≡ s.board
    → ((u : Bool) → length (space_of m' u) ≡ length (space_of m u)) → entry_number s' m' lines ≡ 0
entry_next s m lines s' m' z h a b e = entry-again s s' m m' lines z h a b (limits-kept m m' e)

-- after a done step of its own
pub alone-next : (b : Bool) (s : State) (m : Buffers) (lines : ℕ) → RunsAlone b s m lines → (step_of s m lines).number ≡ 0 → (step_of s m lines).channel ≡ channel_number b
    → RunsAlone b (step_of s m lines).state (step_of s m lines).memory lines
alone-next b s m lines a z e =
    record {
      entered = entry_next s m lines (step_of s m lines).state (step_of s m lines).memory a.entered (sound-kept s m lines z) (step-agree s m lines (entry-agree s m lines a.entered)) (board-kept s m lines) (lengths-kept s m lines);
      idle = ap (λ (c : Channel). is_running c.mode) (other-kept s m lines b e) ∙ a.idle;
    }

-- a step of a sound state that is powered up and agrees, in buffers within their limits, is refused by none of them
pub entered : (s : State) (m : Buffers) (lines : ℕ) → lines < 16 → within_limits m ≡ true → sound s ≡ true → Ready s → entry_number s m lines ≡ 0
unfolding entry_number given_number first unless
entered s m lines h w q p = rw (lt-ltb lines 16 h, w, q, p.1, p.0)

-- as a fresh one is, whatever channel that agrees is put into it
pub put-ready : (cp : ℕ) (b : Bool) (c : Channel) → fields_agree c ≡ true → Ready (with_channel (fresh_state cp) b c)
unfolding fresh_state with_channel
put-ready cp b c h = (refl, put-agree (fresh_state cp) b c (blank-agree cp (board_with true false false false)) h)

-- whatever else is written, where the lengths stay
pub alone-written : {b : Bool} {s : State} {m : Buffers} {lines : ℕ} (m' : Buffers) → RunsAlone b s m lines
    → ((u : Bool) → length (space_of m' u) ≡ length (space_of m u)) → RunsAlone b s m' lines
alone-written {s = s} {m} {lines} m' a e =
    let z = a.entered in
    record { entered = entry_next s m lines s m' z (entry-sound s m lines z) (entry-agree s m lines z) refl e; idle = a.idle }

-- ---- an attention to it

module _ (b : Bool) (s : State) (m : Buffers) where
  -- where a step is not refused for what it is given, one is accepted whose command fits the mode, of bytes that may be touched
  pub accepts : (lines : ℕ) → entry_number s m lines ≡ 0 → command_number (order_to s m b).command (channel_of s b).mode ≡ 0
      → all_touchable m (span false (order_to s m b).block 1) ≡ true → all_touchable m (others (order_to s m b)) ≡ true
      → (attention_of s m (channel_number b)).number ≡ 0
  unfolding attention_of attention_number given_to order_number order_stages stages_number entry_number first unless
  accepts lines z e ccw rest =
      settled-number (attention_number s m (channel_number b)) s m _ _
      ∙ rw (is b, first-none-right (unless (ltb lines 16) 12) (given_number s m) z, named b, ccw, e, rest) refl
    where
      is : (b : Bool) → is_channel (channel_number b) ≡ true
      is true = unfold is_channel channel_number in refl
      is false = unfold is_channel channel_number in refl

  module _ (e : (attention_of s m (channel_number b)).number ≡ 0) where
    -- it makes this of its channel
    pub ordered-channel : channel_of (attention_of s m (channel_number b)).state b ≡ channel_attended s m b
    ordered-channel =
        ap (λ (o : Outcome). channel_of o.state b) (accepted-order s m (channel_number b) e) ∙ rw named (put_same s b (channel_attended s m b))

    -- where that is sound, the channel is alone as before
    pub alone-attended : {lines : ℕ} → RunsAlone b s m lines → sound_channel (channel_of (attention_of s m (channel_number b)).state b) ≡ true
        → RunsAlone b (attention_of s m (channel_number b)).state (attention_of s m (channel_number b)).memory lines
    alone-attended {lines} a h =
        let n = channel_number b in
        let z = a.entered in
        let fit = put-sound s b (channel_attended s m b) (entry-sound s m lines z) (ap sound_channel (sym ordered-channel) ∙ h) in
        record {
          entered =
              entry_next s m lines _ _ z
              (ap (λ (r : Outcome). sound r.state) (accepted-order s m n e) ∙ rw (named b) fit)
              (attention-agree s m n (entry-agree s m lines z)) (shared_kept s m n).2 (Attended.lengths-kept s m n);
          idle = (rw (named b) at (ap (λ (c : Channel). is_running c.mode) (other-channel s m n))) ∙ a.idle;
        }

-- ---- its instruction

-- a turn without XF is the instruction, which is done
pub instruction-done : (b : Bool) (s : State) (m : Buffers) (lines : ℕ) {c : Channel} {m' : Buffers} → HasTurn b s m lines → transferring (channel_of s b).psw ≡ false
    → execute_of (channel_of s b) (busy_in (block_of s b)) m ≡ executed 0 c m' → step_of s m lines ≡ done_step s b c m' Instruction
unfolding instruction_step settled_step
instruction-done b s m lines t x e =
    turn-executes b s m lines t x ∙ ap (λ (y : Executed). settled_step y.number s m b y.channel y.memory Instruction) e

-- where no channel runs a step is refused by 1
pub none-steps : (s : State) (m : Buffers) (lines : ℕ) → entry_number s m lines ≡ 0 → ((b : Bool) → is_running (channel_of s b).mode ≡ false)
    → step_of s m lines ≡ refused_step 1 s m
unfolding step_of chosen_step
none-steps s m lines z h =
    rw (
      eq-eqb (entry_number s m lines) 0 z,
      (nobody-runs s lines).1 (λ b. ⊎_elim (λ e. still b e.0) (⊎_elim (λ k. still b k.0) (λ k. still b k.0))),
    )
  where
    still : (b : Bool) → (channel_of s b).mode ≡ Running → ⊥
    still b = (says-running (channel_of s b).mode).fails (h b)

-- ---- its transfer goes through

module _ (b : Bool) (n : ℕ) (s₀ : State) (m₀ : Buffers) (lines : ℕ) (p : Copy n (channel_of s₀ b) m₀) where
  -- short of the total: it goes on, the next step call is its turn, and that step is done
  module _ (k : ℕ) (h : k < total (channel_of s₀ b) n) (t : Through b n s₀ m₀ lines k) where
    pub going_on : Going n (channel_of s₀ b) m₀ k (channel_of t.state b) t.memory
    going_on = (demand3-calls p).before t.calls h

    pub fields-on : (channel_of t.state b).fields ≡ (channel_of s₀ b).fields
    fields-on = ap (λ (c : Channel). c.fields) going_on.registers ∙ mid-fields (channel_of s₀ b) n (moved_after (channel_of s₀ b) n k)

    pub turn_on : HasTurn b t.state t.memory lines
    turn_on = going-turn p going_on t.alone

    pub moves-on : Moves b n s₀ t.state t.memory lines
    moves-on = (demand3-calls p).turns t.calls h lines turn_on

  -- one more of its transfer steps
  unfoldable pub through-next : (k : ℕ) → k < total (channel_of s₀ b) n → Through b n s₀ m₀ lines k → Through b n s₀ m₀ lines (suc k)
  through-next k h t =
      let s = t.state in
      let m = t.memory in
      let moves = moves-on k h t in
      record {
        state = (step_of s m lines).state;
        memory = (step_of s m lines).memory;
        done = more t.done moves.done;
        calls = transfer t.calls lines (turn_on k h t) (going_on k h t).transfers;
        alone = alone-next b s m lines t.alone moves.done moves.channel;
        control = cp-kept s m lines ∙ t.control;
        spares = within-then (into (channel_of s₀ b)) n m₀ m (step_of s m lines).memory t.spares moves.spares;
      }

  -- as many as there are up to the total
  unfoldable pub through : RunsAlone b s₀ m₀ lines → (k : ℕ) → k ≤ total (channel_of s₀ b) n → Through b n s₀ m₀ lines k
  through a zero h =
      record {
        state = s₀;
        memory = m₀;
        done = none;
        calls = begin;
        alone = a;
        control = refl;
        spares = record { others = λ u x o. refl; lengths = λ u. refl };
      }
  through a (suc k) h = through-next k h (through a k (down k (total (channel_of s₀ b) n) h))

-- ---- the total is no other

-- a row of calls up to the j-th transfer step
record Up (b : Bool) (n : ℕ) (s₀ : State) (m₀ : Buffers) (j : ℕ) : Type 0 where
  pub state : State
  pub memory : Buffers
  pub calls : Calls b n s₀ m₀ j state memory

-- a row of calls has come by each number of transfer steps up to its own
up_to : {b : Bool} {n : ℕ} {s₀ : State} {m₀ : Buffers} {k : ℕ} {s : State} {m : Buffers} → Calls b n s₀ m₀ k s m → (j : ℕ) → j ≤ k → Up b n s₀ m₀ j
up_to {b} {n} {s₀} {m₀} begin j h = let e : 0 ≡ j = omega arith in subst (Up b n s₀ m₀) e (record { state = s₀; memory = m₀; calls = begin })
up_to {b} {n} {s₀} {m₀} (transfer {k = k} {s = s} {m = m} r lines t x) j h = go (dec_le j k) (λ l. up_to r j l)
  where
    go : Dec (j ≤ k) → (j ≤ k → Up b n s₀ m₀ j) → Up b n s₀ m₀ j
    go (yes l) sooner = sooner l
    go (no l) sooner =
        let e : suc k ≡ j = omega arith in
        subst (Up b n s₀ m₀) e (record { state = (step_of s m lines).state; memory = (step_of s m lines).memory; calls = transfer r lines t x })
up_to (step r lines t u) j h = up_to r j h
up_to (attention r channel ne u) j h = up_to r j h
up_to (host r u) j h = up_to r j h

module _ {b : Bool} {n : ℕ} {s₀ : State} {m₀ : Buffers} {k k' : ℕ} where
  -- where calls in a row come to an end at all, they end at one transfer step only
  pub ends-once-calls : {s : State} {m : Buffers} → Calls b n s₀ m₀ k s m → EndsAtCall b n s₀ m₀ k → EndsAtCall b n s₀ m₀ k' → k ≡ k'
  ends-once-calls r x y = go (dec_lt k k') (dec_lt k' k)
    where
      never : {c : Channel} {m : Buffers} {j : ℕ} → Going n (channel_of s₀ b) m₀ j c m → Ended n (channel_of s₀ b) m₀ c m → ⊥
      never g e = apart (sym g.transfers ∙ e.over)

      go : Dec (k < k') → Dec (k' < k) → k ≡ k'
      go (yes h) d = absurd (never (y.before r h) (x.then r))
      go (no h) (yes h') = let u = up_to r k' (omega arith) in absurd (never (x.before u.calls h') (y.then u.calls))
      go (no h) (no h') = omega arith

-- so a transfer that meets demand 3's premises, of a channel that is alone, ends at one of them only
pub ends-once-alone : {b : Bool} {n : ℕ} {s : State} {m : Buffers} {lines k k' : ℕ} → Copy n (channel_of s b) m → RunsAlone b s m lines
    → EndsAtCall b n s m k → EndsAtCall b n s m k' → k ≡ k'
ends-once-alone {b} {n} {s} {m} {lines} p a x y =
    let t = through b n s m lines p a (total (channel_of s b) n) (omega arith) in
    sym (ends-once-calls t.calls (demand3-calls p) x) ∙ ends-once-calls t.calls (demand3-calls p) y
