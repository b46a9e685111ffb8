-- Demand 3 from the panel's call: a run that comes to a transfer goes through it, and a HLT at its end ends the run by 1.
-- Assumes nothing.
use Prim.Native.Nat.{ℕ, suc, ◌+◌}
use borrow.Author.Tests.{eqb-false}
use mathlib.Core.Bool.{Bool, true, false}
use mathlib.Core.List.{[], ◌∷◌}
use mathlib.Core.Path.{◌≡◌, refl, sym, ap, ap₂, subst, ◌∙◌}
use native.Mathlib.Omega.{arith}
use Rattle.ground_rules.proofs.ChannelLaws.{put_same, last-channel}
use Rattle.ground_rules.specs.Psw.{transferring}
use Rattle.ground_rules.specs.States.{channel_of, with_channel, is_running, block_of, channel_number, busy_in}
use Rattle.ground_rules.specs.declared.Channel.{Channel}
use Rattle.ground_rules.specs.declared.State.{State}
use Rattle.ground_rules.proofs.StoreLaws.{store_length, read_same, read-other, same-lent}
use Rattle.ground_rules.specs.Buffers.{Buffers, lent_at, byte_at, store_byte}
use Rattle.ground_rules.specs.Places.{Apart}
use Rattle.run_rules.specs.Run.{ran, run_of}
use Rattle.turn_rules.specs.Step.{Step, refused_step, entry_number, step_of}
use Rattle.ground_rules.specs.Choice.{pick}
use Rattle.ground_rules.specs.Sums.{sum20}
use Rattle.promises.specs.Cases.{Stand}
use Rattle.promises_blocks.specs.Joined.{RunsAlone, Through, end_of, Comes, Halted}
use Rattle.block_rules.specs.Premises.{into}
use Rattle.promises.specs.Runs.{DoneSteps, StepsEnd, first_attention, none, more, after}
use Rattle.block_rules.specs.Stages.{Ended}
use Rattle.block_rules.specs.Totals.{total}
use Rattle.promises_blocks.proofs.AloneLaws.{each, program-turn, alone-next, instruction-done, none-steps, through}
use Rattle.promises.proofs.MachineLaws.{demand3-calls}
use Rattle.promises_blocks.proofs.ProgramSteps.{hlt-stops}
use Rattle.promises.proofs.RunLaws.{run_only}
use Rattle.promises.proofs.StandLaws.{stand-kept}

-- done steps after done steps
pub done-then : {lines : ℕ} {s₀ : State} {m₀ : Buffers} {j : ℕ} {s : State} {m : Buffers} {k : ℕ} {s' : State} {m' : Buffers}
    → DoneSteps lines s₀ m₀ j s m → DoneSteps lines s m k s' m' → DoneSteps lines s₀ m₀ (j + k) s' m'
done-then {lines} {s₀} {m₀} {j} {s} {m} r none = let e : j ≡ j + 0 = omega arith in subst (λ (n : ℕ). DoneSteps lines s₀ m₀ n s m) e r
done-then {lines} {s₀} {m₀} {j} r (more {k = k} {s = s} {m = m} x z) =
    let e : suc (j + k) ≡ j + suc k = omega arith in
    subst (λ (n : ℕ). DoneSteps lines s₀ m₀ n (step_of s m lines).state (step_of s m lines).memory) e (more (done-then r x) z)

-- the block depends on CP alone
pub block_same : (s s' : State) (b : Bool) → s'.cp ≡ s.cp → block_of s' b ≡ block_of s b
unfolding block_of
block_same s s' b e = ap (λ (cp : ℕ). pick b (sum20 cp 8) cp) e

-- and so does BUSY
pub busy-same : (s s' : State) (b : Bool) → s'.cp ≡ s.cp → busy_in (block_of s' b) ≡ busy_in (block_of s b)
busy-same s s' b e = ap (λ (block : ℕ). busy_in block) (block_same s s' b e)

-- the step of a HLT: it is done and stores BUSY alone, no step is refused for what it leaves, and no channel runs
pub record Halts (second : Bool) (s : State) (m : Buffers) (lines : ℕ) : Type 0 where
  pub done : (step_of s m lines).number ≡ 0
  pub memory : (step_of s m lines).memory ≡ store_byte m false (busy_in (block_of s second)) 0
  pub entered : entry_number (step_of s m lines).state (step_of s m lines).memory lines ≡ 0
  pub still : (x : Bool) → is_running (channel_of (step_of s m lines).state x).mode ≡ false

-- so a channel that is alone halts where HLT stands at TP
pub halts : {b : Bool} {s : State} {m : Buffers} {lines : ℕ} → RunsAlone b s m lines → is_running (channel_of s b).mode ≡ true
    → transferring (channel_of s b).psw ≡ false → Stand m (channel_of s b).tp (0x20 ∷ 0x48 ∷ []) → lent_at m false (busy_in (block_of s b)) ≡ true
    → Halts b s m lines
halts {b} {s} {m} {lines} a runs off there lent =
    let h = hlt-stops m (channel_of s b) (busy_in (block_of s b)) there lent in
    let e = instruction-done b s m lines (program-turn b s m lines a runs off) off h.step in
    let done = ap (λ (o : Step). o.number) e in
    let next = alone-next b s m lines a done (ap (λ (o : Step). o.channel) e) in
    let put = last-channel (with_channel s b h.channel) b b ∙ put_same s b h.channel in
    let still = ap (λ (o : Step). is_running (channel_of o.state b).mode) e ∙ ap (λ (c : Channel). is_running c.mode) put ∙ h.still in
    record {
      done = done;
      memory = ap (λ (o : Step). o.memory) e;
      entered = next.entered;
      still = each b (λ x. is_running (channel_of (step_of s m lines).state x).mode ≡ false) still next.idle;
    }

module _ {m : Buffers} {cp : ℕ} {b : Bool} {lines limit n k : ℕ} {s₁ : State} {m₁ : Buffers} (h : Comes m cp b lines limit n k s₁ m₁) where
  -- the channel with its transfer
  abbrev c₁ : Channel
  c₁ = channel_of s₁ b

  -- all of the transfer's steps
  t : Through b n s₁ m₁ lines (total c₁ n)
  t = through b n s₁ m₁ lines h.copy h.alone (total c₁ n) (omega arith)

  abbrev s₂ : State
  s₂ = t.state

  abbrev m₂ : Buffers
  m₂ = t.memory

  -- demand 3 at their end
  ended : Ended n c₁ m₁ (channel_of s₂ b) m₂
  ended = (demand3-calls h.copy).then t.calls

  -- BUSY is where it was, and lent
  busy-is : busy_in (block_of s₂ b) ≡ busy_in (block_of s₁ b)
  busy-is = busy-same s₁ s₂ b t.control

  lent : (u : Bool) (a : ℕ) → lent_at m₂ u a ≡ lent_at m₁ u a
  lent = same-lent m₁ m₂ t.spares.lengths

  busy-lent : lent_at m₂ false (busy_in (block_of s₁ b)) ≡ true
  busy-lent = lent false (busy_in (block_of s₁ b)) ∙ h.busy

  -- HLT stands at TP
  stands : Stand m₂ (channel_of s₂ b).tp (0x20 ∷ 0x48 ∷ [])
  stands =
      rw ended.pointer
      (stand-kept h.halt m₂ lent (λ i l. t.spares.others (end_of c₁).tag ((end_of c₁).address + i) (h.halt_kept i l)))

  -- so its step is done
  stopped : Halts b s₂ m₂ lines
  stopped = halts t.alone ended.runs ended.over stands (ap (lent_at m₂ false) busy-is ∙ busy-lent)

  abbrev s₃ : State
  s₃ = (step_of s₂ m₂ lines).state

  abbrev m₃ : Buffers
  m₃ = (step_of s₂ m₂ lines).memory

  row : DoneSteps lines (first_attention m cp (channel_number b)).state (first_attention m cp (channel_number b)).memory (suc (k + total c₁ n)) s₃ m₃
  row = more (done-then h.steps t.done) stopped.done

  -- then no channel runs
  last : step_of s₃ m₃ lines ≡ refused_step 1 s₃ m₃
  last = none-steps s₃ m₃ lines stopped.entered stopped.still

  -- so the run is this
  run_is : run_of m cp (channel_number b) lines limit ≡ ran 1 (k + total c₁ n + 1) m₃
  run_is =
      run_only m cp (channel_number b) lines limit
      (after h.started h.accepted
      (StepsEnd.refused row (omega (arith, h.enough)) (λ z. eqb-false 1 0 refl (sym (ap (λ (o : Step). o.number) last) ∙ z))))
      ∙ ap₂ (λ (number steps : ℕ). ran number steps m₃) (ap (λ (o : Step). o.number) last) (omega arith)

  -- and the bytes are copied
  pub run-halts : Halted b n k s₁ m₁ (run_of m cp (channel_number b) lines limit)
  run-halts =
      rw (run_is, stopped.memory)
      (record {
        number = refl;
        steps = refl;
        copied = λ i l o. other (into c₁).tag ((into c₁).address + i) o ∙ ended.copied i l;
        busy = ap (λ (a : ℕ). byte_at (store_byte m₂ false a 0) false (busy_in (block_of s₁ b))) busy-is ∙ read_same m₂ false (busy_in (block_of s₁ b)) 0 busy-lent;
        others = λ u a o o'. other u a o' ∙ t.spares.others u a o;
        lengths = λ u. store_length m₂ false u (busy_in (block_of s₂ b)) 0 ∙ t.spares.lengths u;
      })
    where
      other : (u : Bool) (a : ℕ) → Apart false (busy_in (block_of s₁ b)) u a → byte_at (store_byte m₂ false (busy_in (block_of s₂ b)) 0) u a ≡ byte_at m₂ u a
      other u a o = ap (λ (x : ℕ). byte_at (store_byte m₂ false x 0) u a) busy-is ∙ read-other m₂ false (busy_in (block_of s₁ b)) 0 u a o
