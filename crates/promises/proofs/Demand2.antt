-- Demand 2, from the theorems of the crates below.
-- Assumes nothing.
use Prim.Native.Nat.{ℕ, ◌<◌}
use borrow.Author.Tests.{eqb-false}
use lib.Dec.{lit<}
use mathlib.Core.Bool.{Bool, true, not}
use mathlib.Core.Path.{◌≡◌, refl, sym, subst, ap, ◌∙◌}
use native.Mathlib.Nat.{mod-eq_of_lt}
use Rattle.attention_rules.proofs.Outcomes.{accepted-order, other-channel, shared_kept, registers-kept}
use Rattle.attention_rules.proofs.Pauses.{suspend-resume, ordered-else}
use Rattle.attention_rules.proofs.Stores.{bytes-kept as attention-bytes, lengths-kept as attention-lengths}
use Rattle.attention_rules.specs.Attention.{order_to, attention_of}
use Rattle.attention_rules.specs.Commands.{ordered}
use Rattle.ground_rules.specs.Updates.{with_control, holding}
use Rattle.ground_rules.proofs.ChannelLaws.{named}
use Rattle.ground_rules.specs.Psw.{with_psw}
use Rattle.ground_rules.specs.States.{channel_of, is_second}
use Rattle.ground_rules.specs.declared.Channel.{Channel}
use Rattle.ground_rules.specs.declared.State.{State}
use Rattle.ground_rules.proofs.SpanLaws.{span-at, span-first}
use Rattle.ground_rules.proofs.StoreLaws.{pointer_back}
use Rattle.ground_rules.specs.Buffers.{Buffers, lent_at}
use Rattle.ground_rules.specs.Places.{span, all_lent}
use Rattle.ground_rules.specs.Values.{pointer, pointer_at, store_pointer}
use Rattle.ground_rules.specs.declared.Pointer.{Pointer}
use Rattle.turn_rules.proofs.OutcomeLaws.{done, other-kept, cp-kept, board-kept, last_set, last-kept, chosen-steps}
use Rattle.turn_rules.proofs.TouchedLaws.{bytes-kept as step-bytes, lengths-kept as step-lengths}
use Rattle.ground_rules.proofs.BitLaws.{bit-other}
use Rattle.ground_rules.proofs.StoredLaws.{address_kept, tag-kept, low_again, middle-again, high-again}
use Rattle.ground_rules.specs.Bits.{bit_of}
use Rattle.promises.specs.Demand2.{OnlyControl, AttentionDoes, StepDoes, Demand2}
use Rattle.promises.specs.Pointers.{GoesOn, PointersKept}
use Rattle.promises.proofs.PointerLaws.{movp-back, call_back}

-- ---- an attention

only-control : (before after : Channel) → after ≡ holding (with_control before after.tp after.pp after.psw after.mode after.armed) after.held → OnlyControl before after
unfolding with_control
only-control before after e = record {
  ga = ap (λ (c : Channel). c.ga) e;
  gb = ap (λ (c : Channel). c.gb) e;
  gc = ap (λ (c : Channel). c.gc) e;
  bc = ap (λ (c : Channel). c.bc) e;
  ix = ap (λ (c : Channel). c.ix) e;
  cc = ap (λ (c : Channel). c.cc) e;
  mc = ap (λ (c : Channel). c.mc) e;
  fields = ap (λ (c : Channel). c.fields) e;
}

pub attention-does : (s : State) (m : Buffers) (channel : ℕ) → AttentionDoes s m channel
attention-does s m channel = record {
  obeys = accepted-order s m channel;
  other = λ second e.
      subst (λ (b : Bool). channel_of (attention_of s m channel).state (not b) ≡ channel_of s (not b)) (ap is_second e ∙ named second) (other-channel s m channel);
  own = only-control _ _ (registers-kept s m channel);
  control_block = (shared_kept s m channel).0;
  last = (shared_kept s m channel).1;
  board = (shared_kept s m channel).2;
  bytes = attention-bytes s m channel;
  lengths = attention-lengths s m channel;
}

-- ---- a step

pub step-does : (s : State) (m : Buffers) (lines : ℕ) → StepDoes s m lines
step-does s m lines = record {
  chosen = chosen-steps s m lines;
  ends = λ second z e. rw e at (done s m lines z);
  moves = λ second z e f. rw (e, f) at (done s m lines z);
  executes = λ second z e f. rw (e, f) at (done s m lines z);
  other = other-kept s m lines;
  control_block = cp-kept s m lines;
  board = board-kept s m lines;
  last = last_set s m lines;
  refused_last = last-kept s m lines;
  bytes = step-bytes s m lines;
  lengths = step-lengths s m lines;
}

-- ---- pointers

-- through three lent bytes
memory_kept : (m : Buffers) (tag : Bool) (at : ℕ) (p : Pointer) → p.address < 1048576 → all_lent m (span tag at 3) ≡ true → pointer_at (store_pointer m tag at p) tag at ≡ p
memory_kept m tag at p small lent =
    pointer_back m tag at p (span-first (lent_at m) tag at 3 lent (lit< tt)) (span-at (lent_at m) tag at 3 1 lent (lit< tt)) (span-at (lent_at m) tag at 3 2 lent (lit< tt))
    ∙ ap (λ (a : ℕ). pointer a p.tag) (mod-eq_of_lt small)

-- a channel of which a command changed PSW alone
goes_on : (before after : Channel) (ccw : ℕ)
    → after ≡ with_control before before.tp before.pp (ordered ccw (with_psw before.psw 2 true)) before.mode before.armed → GoesOn before after ccw
unfolding with_control with_psw
goes_on before after ccw e =
    let psw = ap (λ (c : Channel). c.psw) e in
    let back : (j : ℕ) → ¬ (j ≡ 2) → ¬ (j ≡ 3) → ¬ (j ≡ 4) → ¬ (j ≡ 5) → ¬ (j ≡ 7) → bit_of after.psw j ≡ bit_of before.psw j =
    λ j h₂ h₃ h₄ h₅ h₇. ap (λ (x : ℕ). bit_of x j) psw ∙ ordered-else ccw (with_psw before.psw 2 true) j h₃ h₄ h₅ h₇ ∙ bit-other before.psw 2 j true h₂ in
    record {
      task = ap (λ (c : Channel). c.tp) e;
      status = psw;
      destination_back = back 0 (eqb-false 0 2 refl) (eqb-false 0 3 refl) (eqb-false 0 4 refl) (eqb-false 0 5 refl) (eqb-false 0 7 refl);
      source_back = back 1 (eqb-false 1 2 refl) (eqb-false 1 3 refl) (eqb-false 1 4 refl) (eqb-false 1 5 refl) (eqb-false 1 7 refl);
      transfer_back = back 6 (eqb-false 6 2 refl) (eqb-false 6 3 refl) (eqb-false 6 4 refl) (eqb-false 6 5 refl) (eqb-false 6 7 refl);
      others = e ∙ ap (λ (x : ℕ). with_control before before.tp before.pp x before.mode before.armed) (sym psw);
    }

pub pointers-kept : PointersKept
pointers-kept = record {
  form = λ address tag h. record { same_address = address_kept address tag h; same_tag = tag-kept address tag };
  bytes = λ low middle high h₁ h₂ h₃. record {
    first = low_again low middle high h₁;
    second = middle-again low middle high h₁ h₂;
    third = high-again low middle high h₁ h₂ h₃;
  };
  memory = memory_kept;
  movp = movp-back;
  call = call_back;
  pause = λ {s} {m} {s'} {m'} {channel} p.
      goes_on (channel_of s (is_second channel)) (channel_of (attention_of s' m' channel).state (is_second channel)) (order_to s' m' (is_second channel)).ccw
      (suspend-resume s m s' m' channel p);
}

-- ---- the demand

pub demand2 : Demand2
demand2 = record { attention = attention-does; step = step-does; pointers = pointers-kept }
