-- The plain steps of a channel that is alone, one after the other: what they leave beside the transfer, how many bytes they touch, and that they are the
-- steps of the sweep's definition.
-- Assumes nothing.
use Prim.Native.Nat.{ℕ, zero, suc, ◌+◌, ◌*◌, ◌≤◌}
use borrow.Author.Tests.{eq-eqb}
use mathlib.Core.Bool.{Bool, true, false, not}
use mathlib.Core.Path.{◌≡◌, refl, sym, ap, ap₂, subst, ◌∙◌}
use native.Mathlib.Omega.{arith}
use Rattle.ground_rules.specs.Choice.{pick}
use Rattle.ground_rules.specs.Buffers.{Buffers}
use Rattle.ground_rules.proofs.ChannelLaws.{named}
use Rattle.ground_rules.proofs.OutcomeLaws.{done-counts}
use Rattle.ground_rules.specs.Psw.{transferring}
use Rattle.ground_rules.specs.States.{channel_of, with_channel, with_last, is_second}
use Rattle.ground_rules.specs.declared.Channel.{Channel}
use Rattle.ground_rules.specs.declared.Fields.{Fields}
use Rattle.ground_rules.specs.declared.State.{State}
use Rattle.transfer_rules.proofs.BlockLaws.{Block, block-stores}
use Rattle.transfer_rules.proofs.CountLaws.{touched-length}
use Rattle.transfer_rules.proofs.PartLaws.{unsynchronised-whole}
use Rattle.transfer_rules.specs.Reads.{bytes_fetched, data_of}
use Rattle.transfer_rules.specs.Sides.{two_move}
use Rattle.transfer_rules.specs.Steps.{accesses, touched_by_transfer}
use Rattle.block_rules.proofs.CopyLaws.{down, moved-next}
use Rattle.block_rules.proofs.CountLaws.{moved-zero, moved_all}
use Rattle.block_rules.proofs.StageLaws.{mid-block}
use Rattle.block_rules.specs.Premises.{Copy}
use Rattle.block_rules.specs.Stages.{midway, Ended}
use Rattle.block_rules.specs.Totals.{total, moved_after}
use Rattle.turn_rules.proofs.OutcomeLaws.{other-kept, board-kept, last_set}
use Rattle.turn_rules.specs.Step.{step_of}
use Rattle.turn_rules.specs.Touched.{touched_in, touched_by_step, step_count}
use Rattle.sweep_rules.specs.Plainly.{plainly}
use Rattle.sweep_rules.specs.Sweep.{Sweep, swept_to}
use Rattle.promises_blocks.proofs.AloneLaws.{going_on, fields-on, turn_on, moves-on, through-next, through}
use Rattle.promises.proofs.MachineLaws.{demand3-calls}
use Rattle.promises.specs.Calls.{HasTurn}
use Rattle.promises_blocks.specs.Joined.{RunsAlone, Through}

-- ---- the bytes that one of them touches

twice : (two : Bool) → accesses two two false ≡ 2 * pick two 2 1
twice true = refl
twice false = refl

step-touches : (b : Bool) (s : State) (m : Buffers) (lines : ℕ) → HasTurn b s m lines → transferring (channel_of s b).psw ≡ true → (step_of s m lines).number ≡ 0
    → Block (channel_of s b).fields → (channel_of s b).fields.synchronised ≡ 0 → step_count s m lines ≡ 2 * bytes_fetched (channel_of s b)
unfolding step_count touched_by_step touched_in touched_by_transfer
step-touches b s m lines t x z k free =
    let c = channel_of s b in
    done-counts (step_of s m lines).number (touched_by_step s m lines) z
    ∙ rw (t.chosen, x, unsynchronised-whole c free)
    (touched-length c m ∙ ap₂ (λ (x y : Bool). accesses (two_move c) x y) (block-stores c (data_of c m) k) k.plain ∙ twice (two_move c))

-- ---- a state by its parts

state-is : (b : Bool) (s s' : State) → channel_of s' (not b) ≡ channel_of s (not b) → s'.cp ≡ s.cp → s'.last ≡ b → s'.board ≡ s.board
    → s' ≡ with_last (with_channel s b (channel_of s' b)) b
unfolding channel_of with_channel with_last
state-is true s s' other cp last board = λ i. record { first = other i; second = s'.second; cp = cp i; last = last i; board = board i }
state-is false s s' other cp last board = λ i. record { first = s'.first; second = other i; cp = cp i; last = last i; board = board i }

-- ---- one after the other

-- steps and bytes in front of others
abbrev pub before : ℕ → ℕ → Sweep → Sweep
before steps count x = swept_to x.number x.state x.memory (steps + x.steps) (count + x.count)

-- a channel whose XF is clear makes no more
pub plainly-stops : (left : ℕ) (s : State) (m : Buffers) (b : Bool) (lines : ℕ) → transferring (channel_of s b).psw ≡ false → plainly left s m b lines ≡ swept_to 0 s m 0 0
unfolding plainly
plainly-stops zero s m b lines e = refl
plainly-stops (suc left) s m b lines e = rw e

-- one with XF whose step is done makes that one, and the others behind it
pub plainly-goes : (left : ℕ) (s : State) (m : Buffers) (b : Bool) (lines : ℕ) → transferring (channel_of s b).psw ≡ true → (step_of s m lines).number ≡ 0
    → plainly (suc left) s m b lines ≡ before 1 (step_count s m lines) (plainly left (step_of s m lines).state (step_of s m lines).memory b lines)
unfolding plainly
plainly-goes left s m b lines e z = rw (e, eq-eqb (step_of s m lines).number 0 z) (ap (λ (k : ℕ). swept_to r.number r.state r.memory k (step_count s m lines + r.count)) (omega arith))
  where
    r : Sweep
    r = plainly left (step_of s m lines).state (step_of s m lines).memory b lines

module _ (b : Bool) (n : ℕ) (s₀ : State) (m₀ : Buffers) (lines : ℕ) (p : Copy n (channel_of s₀ b) m₀) (a : RunsAlone b s₀ m₀ lines) where
  abbrev pub c₀ : Channel
  c₀ = channel_of s₀ b

  -- after k of them
  abbrev pub at : (k : ℕ) → k ≤ total c₀ n → Through b n s₀ m₀ lines k
  at k h = through b n s₀ m₀ lines p a k h

  other_at : (k : ℕ) (h : k ≤ total c₀ n) → channel_of (at k h).state (not b) ≡ channel_of s₀ (not b)
  unfolding through through-next
  other_at zero h = refl
  other_at (suc k) h =
      let t = at k (down k (total c₀ n) h) in
      other-kept t.state t.memory lines b (moves-on b n s₀ m₀ lines p k h t).channel ∙ other_at k (down k (total c₀ n) h)

  board-at : (k : ℕ) (h : k ≤ total c₀ n) → (at k h).state.board ≡ s₀.board
  unfolding through through-next
  board-at zero h = refl
  board-at (suc k) h =
      let t = at k (down k (total c₀ n) h) in
      board-kept t.state t.memory lines ∙ board-at k (down k (total c₀ n) h)

  last-at : (k : ℕ) (h : k ≤ total c₀ n) → ¬ (k ≡ 0) → (at k h).state.last ≡ b
  unfolding through through-next
  last-at zero h ne = absurd (ne refl)
  last-at (suc k) h ne =
      let t = at k (down k (total c₀ n) h) in
      let o = step_of t.state t.memory lines in
      let moves = moves-on b n s₀ m₀ lines p k h t in
      sym (named o.state.last) ∙ ap is_second (sym (last_set t.state t.memory lines moves.done) ∙ moves.channel) ∙ named b

  -- they are the first k plain steps
  plain_at : (k : ℕ) (h : k ≤ total c₀ n) (left : ℕ)
      → plainly (k + left) s₀ m₀ b lines ≡ before k (2 * moved_after c₀ n k) (plainly left (at k h).state (at k h).memory b lines)
  unfolding through through-next
  plain_at zero h left =
      let r : Sweep = plainly left s₀ m₀ b lines in
      let e : 0 + left ≡ left = omega arith in
      let steps : r.steps ≡ 0 + r.steps = omega arith in
      let counts : r.count ≡ 2 * moved_after c₀ n 0 + r.count = omega (arith, moved-zero c₀ n) in
      ap (λ (j : ℕ). plainly j s₀ m₀ b lines) e ∙ ap₂ (λ (x y : ℕ). swept_to r.number r.state r.memory x y) steps counts
  plain_at (suc k) h left =
      let t = at k (down k (total c₀ n) h) in
      let s = t.state in
      let m = t.memory in
      let g = going_on b n s₀ m₀ lines p k h t in
      let moves = moves-on b n s₀ m₀ lines p k h t in
      let touches : step_count s m lines ≡ 2 * bytes_fetched (midway c₀ n (moved_after c₀ n k)) =
      step-touches b s m lines (turn_on b n s₀ m₀ lines p k h t) g.transfers moves.done
      (subst Block (sym (ap (λ (c : Channel). c.fields) g.registers)) (mid-block c₀ n (moved_after c₀ n k) p.plain))
      (ap (λ (f : Fields). f.synchronised) (fields-on b n s₀ m₀ lines p k h t) ∙ p.plain.unsynchronised)
      ∙ ap (λ (c : Channel). 2 * bytes_fetched c) g.registers in
      let more : moved_after c₀ n (suc k) ≡ moved_after c₀ n k + bytes_fetched (midway c₀ n (moved_after c₀ n k)) = moved-next c₀ n k p.plain p.some p.most h in
      let r : Sweep = plainly left (step_of s m lines).state (step_of s m lines).memory b lines in
      let e : suc k + left ≡ k + suc left = omega arith in
      let steps : k + (1 + r.steps) ≡ suc k + r.steps = omega arith in
      let counts : 2 * moved_after c₀ n k + (step_count s m lines + r.count) ≡ 2 * moved_after c₀ n (suc k) + r.count = omega (arith, touches, more) in
      ap (λ (j : ℕ). plainly j s₀ m₀ b lines) e
      ∙ plain_at k (down k (total c₀ n) h) (suc left)
      ∙ ap (before k (2 * moved_after c₀ n k)) (plainly-goes left s m b lines g.transfers moves.done)
      ∙ ap₂ (λ (x y : ℕ). swept_to r.number r.state r.memory x y) steps counts

  -- ---- all of them

  abbrev pub end : Through b n s₀ m₀ lines (total c₀ n)
  end = at (total c₀ n) (omega arith)

  pub ends : Ended n c₀ m₀ (channel_of end.state b) end.memory
  ends = (demand3-calls p).then end.calls

  -- at the total they stop
  pub plainly-ends : (left : ℕ) → plainly (total c₀ n + left) s₀ m₀ b lines ≡ swept_to 0 end.state end.memory (total c₀ n) (2 * n)
  plainly-ends left =
      let steps : total c₀ n + 0 ≡ total c₀ n = omega arith in
      let counts : 2 * moved_after c₀ n (total c₀ n) + 0 ≡ 2 * n = omega (arith, moved_all c₀ n (total c₀ n) p.some refl) in
      plain_at (total c₀ n) (omega arith) left
      ∙ ap (before (total c₀ n) (2 * moved_after c₀ n (total c₀ n))) (plainly-stops left end.state end.memory b lines ends.over)
      ∙ ap₂ (λ (x y : ℕ). swept_to 0 end.state end.memory x y) steps counts

  -- they are some
  pub some-steps : ¬ (total c₀ n ≡ 0)
  some-steps z = omega (arith, moved_all c₀ n (total c₀ n) p.some refl, ap (moved_after c₀ n) z, moved-zero c₀ n, p.some)

  -- the whole state: the other channel, CP and the board as they were, the channel last
  pub ends-state : end.state ≡ with_last (with_channel s₀ b (channel_of end.state b)) b
  ends-state =
      state-is b s₀ end.state (other_at (total c₀ n) (omega arith)) end.control (last-at (total c₀ n) (omega arith) some-steps)
      (board-at (total c₀ n) (omega arith))
