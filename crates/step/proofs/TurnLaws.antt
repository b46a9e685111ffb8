-- A channel's turn is the step of that channel.
-- Assumes nothing.
use Prim.Native.Nat.{ℕ}
use borrow.Author.Tests.{eq-eqb, ne_eqb}
use mathlib.Core.Bool.{Bool, true, false}
use mathlib.Core.Path.{◌≡◌, refl, sym, ap, ◌∙◌}
use native.Mathlib.Decide.{ℕ_discrete}
use Rattle.std.proofs.Common.{Result, Ok, Err}
use Rattle.ground_rules.specs.Buffers.{Buffers}
use Rattle.ground_rules.proofs.RefusalLaws.{number-some}
use Rattle.ground_rules.specs.Psw.{transferring}
use Rattle.ground_rules.specs.States.{channel_of, block_of, busy_in}
use Rattle.ground_rules.specs.declared.Channel.{Channel}
use Rattle.ground_rules.specs.declared.State.{State}
use Rattle.instruction_rules.specs.Execute.{execute_of}
use Rattle.transfer_rules.specs.Steps.{transfer_of}
use Rattle.turn_rules.proofs.StepLaws.{transfer-kept, execute-kept}
use Rattle.turn_rules.specs.Step.{settled_step, transfer_step, instruction_step, channel_step}
use Rattle.turn_rules.specs.Touched.{touched_in}
use Rattle.turn_rules.specs.declared.Choice.TheVariants.{Steps}
use Rattle.turn_rules.specs.declared.Kind.{Kind}
use Rattle.turn_rules.specs.declared.Kind.TheVariants.{Instruction, Transfer}
use Rattle.step.specs.Turns.{turned, Taken, taken, turn_of, turn_touched}
use Rattle.step.specs.declared.Turn.{Turn}
use Rattle.step.specs.declared.RefusedTurn.{RefusedTurn}

-- a refused one leaves memory as it was
kept-settled : (number : ℕ) (s : State) (m m' : Buffers) (second : Bool) (c : Channel) (kind : Kind) → ((number ≡ 0 → ⊥) → m' ≡ m)
    → settled_step number s m' second c m' kind ≡ settled_step number s m second c m' kind
unfolding settled_step
kept-settled number s m m' second c kind kept = go (ℕ_discrete number 0)
  where
    go : Dec (number ≡ 0) → settled_step number s m' second c m' kind ≡ settled_step number s m second c m' kind
    go (yes z) = rw (eq-eqb number 0 z)
    go (no ne) = rw (ne_eqb number 0 ne, kept ne)

-- a turn of the channel of this name, put into its state, is its step
settled-turn : (s : State) (m : Buffers) (second : Bool) (b : Bool) → transferring (channel_of s second).psw ≡ b → (x : Taken) → x ≡ turn_of (channel_of s second) s m second
    → settled_step x.number s x.memory second x.channel x.memory x.kind ≡ channel_step s m second
unfolding turn_of channel_step transfer_step instruction_step
settled-turn s m second true flag x e =
    let t = transfer_of (channel_of s second) m in
    rw (flag, rw flag at e) (kept-settled t.number s m t.memory second t.channel Transfer (transfer-kept (channel_of s second) m))
settled-turn s m second false flag x e =
    let o = execute_of (channel_of s second) (busy_in (block_of s second)) m in
    rw (flag, rw flag at e) (kept-settled o.number s m o.memory second o.channel Instruction (execute-kept (channel_of s second) (busy_in (block_of s second)) m))

-- put into its state, it leaves what the turn leaves
turned-settled : (s : State) (m' : Buffers) (second : Bool) (c : Channel) (t : Result Turn RefusedTurn) → settled_step (taken c t m').number s m' second (taken c t m').channel m' (taken c t m').kind ≡ turned s second t m'
unfolding settled_step
turned-settled s m' second c (Ok t) = refl
turned-settled s m' second c (Err refused) = rw (number-some refused.why)

memory-taken : (c : Channel) (t : Result Turn RefusedTurn) (m' : Buffers) → m' ≡ (taken c t m').memory
memory-taken c (Ok t) m' = refl
memory-taken c (Err refused) m' = refl

own-touched : (s : State) (m : Buffers) (second : Bool) → turn_touched (channel_of s second) s m second ≡ touched_in (Steps second) s m
unfolding turn_touched touched_in
own-touched s m second = refl

-- so the turn of a state's own channel is its step, and touches that step's bytes
pub turn-steps : (s o : State) → s ≡ o → (m : Buffers) (second : Bool) (c : Channel) → c ≡ channel_of o second → (t : Result Turn RefusedTurn) (m' : Buffers) → taken c t m' ≡ turn_of c s m second
    → (turned s second t m' ≡ channel_step s m second) × (turn_touched c s m second ≡ touched_in (Steps second) s m)
turn-steps s o same m second c of t m' e =
    let is : c ≡ channel_of s second = of ∙ ap (λ (x : State). channel_of x second) (sym same) in (
      sym (turned-settled s m' second c t)
          ∙ ap (λ (x : Buffers). settled_step (taken c t m').number s x second (taken c t m').channel x (taken c t m').kind) (memory-taken c t m')
          ∙ settled-turn s m second (transferring (channel_of s second).psw) refl (taken c t m') (e ∙ ap (λ (x : Channel). turn_of x s m second) is),
      ap (λ (x : Channel). turn_touched x s m second) is ∙ own-touched s m second,
    )
