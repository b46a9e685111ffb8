-- Demand 3 on the whole machine: calls in a row are, for one channel, a row of its transfer steps with other things between.
-- Assumes nothing.
use Prim.Native.Nat.{ℕ, suc}
use mathlib.Core.Bool.{Bool, true}
use mathlib.Core.Path.{◌≡◌, refl, sym, ap, subst, ◌∙◌}
use Rattle.attention_rules.specs.Attention.{attention_of}
use Rattle.ground_rules.specs.Psw.{transferring}
use Rattle.ground_rules.specs.States.{channel_of, channel_number}
use Rattle.ground_rules.specs.declared.Channel.{Channel}
use Rattle.ground_rules.specs.declared.Fields.{Fields}
use Rattle.ground_rules.specs.declared.State.{State}
use Rattle.ground_rules.specs.Buffers.{Buffers}
use Rattle.turn_rules.specs.Step.{Step, done_step, step_of}
use Rattle.turn_rules.specs.declared.Kind.{Kind}
use Rattle.turn_rules.specs.declared.Kind.TheVariants.{Transfer}
use Rattle.transfer_rules.proofs.KeptLaws.{only-these}
use Rattle.ground_rules.specs.Updates.{with_transfer}
use Rattle.transfer_rules.specs.Steps.{transfer_of}
use Rattle.promises.specs.Calls.{HasTurn, Calls, Moves, EndsAtCall, begin, transfer, step, attention, host}
use Rattle.block_rules.specs.Premises.{into, Copy}
use Rattle.block_rules.specs.Rows.{Untouched, Row, start, steps, other}
use Rattle.block_rules.specs.Stages.{Within, Going}
use Rattle.block_rules.specs.Totals.{total}
use Rattle.promises.proofs.CallLaws.{turn_is, settled-done, transfer-channel, transfer-memory, step_kept, attention-kept}
use Rattle.block_rules.proofs.Demand3.{going, ended}

-- a transfer step leaves PP and the fields of CC, and so does a row
pub row_kept : {n : ℕ} {c₀ : Channel} {m₀ : Buffers} {k : ℕ} {c : Channel} {m : Buffers} → Row n c₀ m₀ k c m → (c.pp ≡ c₀.pp) × (c.fields ≡ c₀.fields)
unfolding with_transfer
row_kept start = (refl, refl)
row_kept (steps {c = c} {m = m} r) =
    (ap (λ (x : Channel). x.pp) (only-these c m) ∙ (row_kept r).0, ap (λ (x : Channel). x.fields) (only-these c m) ∙ (row_kept r).1)
row_kept (other r u) = row_kept r

-- its transfer step, for the channel
pub row-transfer : (b : Bool) (n : ℕ) (c₀ : Channel) (m₀ : Buffers) (k : ℕ) (s : State) (m : Buffers) (lines : ℕ) → HasTurn b s m lines
    → transferring (channel_of s b).psw ≡ true → Row n c₀ m₀ k (channel_of s b) m
    → Row n c₀ m₀ (suc k) (channel_of (step_of s m lines).state b) (step_of s m lines).memory
row-transfer b n c₀ m₀ k s m lines t x r = rw (turn_is b s m lines t x, transfer-channel b s m, transfer-memory b s m) (steps r)

-- a step call that is not its turn
row_step : (b : Bool) (n : ℕ) (c₀ : Channel) (m₀ : Buffers) (k : ℕ) (s : State) (m : Buffers) (lines : ℕ) → c₀.fields.externalEnd ≡ 0 → (HasTurn b s m lines → ⊥)
    → Untouched c₀ n m (step_of s m lines).memory → Row n c₀ m₀ k (channel_of s b) m
    → Row n c₀ m₀ k (channel_of (step_of s m lines).state b) (step_of s m lines).memory
row_step b n c₀ m₀ k s m lines e ne u r = rw (step_kept b s m lines (ap (λ (f : Fields). f.externalEnd) (row_kept r).1 ∙ e) ne) (other r u)

-- an attention that is not to it
row-attention : (b : Bool) (n : ℕ) (c₀ : Channel) (m₀ : Buffers) (k : ℕ) (s : State) (m : Buffers) (channel : ℕ) → (channel ≡ channel_number b → ⊥)
    → Untouched c₀ n m (attention_of s m channel).memory → Row n c₀ m₀ k (channel_of s b) m
    → Row n c₀ m₀ k (channel_of (attention_of s m channel).state b) (attention_of s m channel).memory
row-attention b n c₀ m₀ k s m channel ne u r = rw (attention-kept b s m channel ne) (other r u)

-- the calls, for the channel
pub row_of : {b : Bool} {n : ℕ} {s₀ : State} {m₀ : Buffers} {k : ℕ} {s : State} {m : Buffers} → (channel_of s₀ b).fields.externalEnd ≡ 0
    → Calls b n s₀ m₀ k s m → Row n (channel_of s₀ b) m₀ k (channel_of s b) m
row_of e begin = start
row_of {b} {n} {s₀} {m₀} e (transfer {k = k} {s = s} {m = m} r lines t x) = row-transfer b n (channel_of s₀ b) m₀ k s m lines t x (row_of e r)
row_of {b} {n} {s₀} {m₀} e (step {k = k} {s = s} {m = m} r lines ne u) = row_step b n (channel_of s₀ b) m₀ k s m lines e ne u (row_of e r)
row_of {b} {n} {s₀} {m₀} e (attention {k = k} {s = s} {m = m} r channel ne u) = row-attention b n (channel_of s₀ b) m₀ k s m channel ne u (row_of e r)
row_of e (host r u) = other (row_of e r) u

-- a turn on the way is a transfer step that is done
pub moves : (b : Bool) (n : ℕ) (s₀ : State) (m₀ : Buffers) (k : ℕ) (s : State) (m : Buffers) (lines : ℕ) → Going n (channel_of s₀ b) m₀ k (channel_of s b) m
    → HasTurn b s m lines → Moves b n s₀ s m lines
moves b n s₀ m₀ k s m lines g t =
    record { done = ap number e; channel = ap channel e; kind = ap kind e; spares = subst (λ (x : Buffers). Within (into (channel_of s₀ b)) n m x) (sym (ap memory e)) g.spares }
  where
    number : Step → ℕ
    number x = x.number

    channel : Step → ℕ
    channel x = x.channel

    kind : Step → Kind
    kind x = x.kind

    memory : Step → Buffers
    memory x = x.memory

    e : step_of s m lines ≡ done_step s b (transfer_of (channel_of s b) m).channel (transfer_of (channel_of s b) m).memory Transfer
    e = turn_is b s m lines t g.transfers ∙ settled-done b s m g.done

-- the demand on the whole machine: the transfer ends at the channel's transfer step that is the total, and not before
pub demand3-calls : {b : Bool} {n : ℕ} {s : State} {m : Buffers} → Copy n (channel_of s b) m → EndsAtCall b n s m (total (channel_of s b) n)
demand3-calls {b} {n} {s = s₀} {m = m₀} p =
    let e : (channel_of s₀ b).fields.externalEnd ≡ 0 = p.plain.unended in
    record {
      before = λ r h. going p (row_of e r) h;
      turns = λ {j} {s} {m} r h lines t. moves b n s₀ m₀ j s m lines (going p (row_of e r) h) t;
      then = λ r. ended p (row_of e r) refl;
    }
