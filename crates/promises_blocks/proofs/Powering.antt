-- Reset and power-up: their numbers and what they leave in fields and numbers, the run that begins with them, and that either breaks a transfer.
-- Assumes nothing.
use Prim.Native.Nat.{ℕ, zero, suc, ◌+◌, ◌%◌}
use borrow.Author.Tests.{eqb-false}
use mathlib.Core.Bool.{Bool, true, false, ◌&&◌}
use mathlib.Core.List.{List, [], ◌∷◌, ◌++◌}
use mathlib.Core.Logic.Iff
use mathlib.Core.Logic.{inl, inr, ⊎_elim, ◌⊎◌, ◌↔◌}
use mathlib.Core.Path.{◌≡◌, refl, sym, ap, ap₂, ◌∙◌}
use native.Mathlib.Nat.{add-zero}
use native.Mathlib.Omega.{arith}
use Rattle.attention_rules.proofs.Numbers.{given-exactly}
use Rattle.attention_rules.specs.Attention.{attention_of}
use Rattle.attention_rules.specs.Conditions.{NoChannel, order_checks}
use Rattle.run_rules.proofs.BoardOutcomes.{refused-call, refused-power, accepted-power, number-most, steps-most, answer-is}
use Rattle.ground_rules.proofs.ConditionLaws.{step, last, later-alike, told-exactly, told-limits, told-sound, told-touchable}
use Rattle.ground_rules.specs.Conditions.{Check, check, Given, TooLong, NotSound, Beyond, given_checks}
use Rattle.ground_rules.specs.Outcomes.{Outcome}
use Rattle.ground_rules.specs.States.{idle_channel, reset_state, channel_of, sound_channel, sound, is_running, busy_in}
use Rattle.ground_rules.specs.declared.Channel.{Channel}
use Rattle.ground_rules.specs.declared.State.{State}
use Rattle.ground_rules.proofs.PlaceLaws.{index-reduced, index-after, lent-index, byte-index}
use Rattle.ground_rules.proofs.SpanLaws.{all_append}
use Rattle.ground_rules.specs.Buffers.{Buffers, index_of, touchable_at}
use Rattle.ground_rules.specs.Places.{Place, span, all_pass, all_touchable}
use Rattle.attention_rules.proofs.PowerNumbers.{places-lent, power-given, power-most}
use Rattle.attention_rules.proofs.PowerOutcomes.{power-refused, power-accepted, power-same, power_bytes, power-lengths, busy-cleared}
use Rattle.attention_rules.specs.Power.{configuration_of, control_place, control_of, board_of, power_places, found_state, power_up_of}
use Rattle.run_rules.specs.Run.{ran, attended_run, call_number}
use Rattle.turn_rules.proofs.NumberLaws.{number-given}
use Rattle.turn_rules.specs.Choosing.{choice_of}
use Rattle.turn_rules.specs.Conditions.{LinesOver, chosen_checks}
use Rattle.turn_rules.specs.Ranks.{NoneRuns}
use Rattle.ground_rules.proofs.ChoiceLaws.{apart}
use Rattle.ground_rules.specs.Bits.{bit_of}
use Rattle.promises.specs.Demand1.{Blank}
use Rattle.promises_blocks.specs.Powering.{Unused, set_in, configuration_in, control_in, thirteen_after, ResetLeaves, eleven_in, PowerLeaves, board_checks, BoardRuns, Breaks, RowBroken}
use Rattle.promises.specs.Runs.{LimitOver}
use Rattle.promises.proofs.RunLaws.{told-call}
use Rattle.promises.proofs.SheetLaws.{far-alike}

-- ---- what is left

blank-idle : Blank idle_channel
unfolding idle_channel
blank-idle = record { ga = refl; gb = refl; gc = refl; tp = refl; pp = refl; bc = refl; ix = refl; cc = refl; mc = refl; psw = refl; mode = refl; armed = refl; fields = refl; held = refl }

-- ---- reset

reset-blank : (b : Bool) → channel_of reset_state b ≡ idle_channel
unfolding reset_state channel_of
reset-blank true = refl
reset-blank false = refl

reset-sound : ¬ (NotSound reset_state)
unfolding reset_state idle_channel sound sound_channel
reset-sound = (told-sound reset_state).holds refl

-- in a chain that has 10, 13 and 14 after 12 and 11, 10 never applies of it and 13 does
thirteen : (argument : Type 0) (m : Buffers) (n : ℕ) (ks : List Check) → Given (check 12 argument ∷ given_checks reset_state m ks) n ↔ Given (thirteen_after argument m) n
unfolding reset_state
thirteen argument m n ks = (
  ⊎_elim inl (λ h. inr (h.0, ⊎_elim inl (λ k. inr (k.0, ⊎_elim (λ x. absurd (reset-sound x.0)) (λ x. ⊎_elim (λ y. inl (tt, y.1)) (λ y. absurd (y.0 refl)) x.1) k.1)) h.1)),
  ⊎_elim inl (λ h. inr (h.0, ⊎_elim inl (λ k. inr (k.0, inr (reset-sound, ⊎_elim (λ y. inl (refl, y.1)) (λ y. absurd (y.0 tt)) k.1))) h.1)),
)

pub reset-leaves : ResetLeaves
unfolding reset_state
reset-leaves = record {
  state = record { channels = λ b. rw (reset-blank b) blank-idle; last = refl; control = refl; up = refl; system = refl; io = refl; third = refl };
  attention = λ m channel n. Iff.trans (given-exactly reset_state m channel n) (thirteen (NoChannel channel) m n (order_checks reset_state m channel));
  step = λ m lines n. Iff.trans (number-given reset_state m lines n) (thirteen (LinesOver lines) m n (check 1 (NoneRuns reset_state lines) ∷ chosen_checks (choice_of reset_state lines) reset_state m));
}

-- ---- power-up

module _ (m : Buffers) where
  configuration-is : configuration_of m ≡ configuration_in m
  unfolding configuration_of
  configuration-is = far-alike m false 0xFFFF8 0xFFFF8 refl

  control-is : control_of m ≡ control_in m
  unfolding control_of
  control-is = far-alike m false (control_place m) (configuration_in m + 2) (ap (λ (a : ℕ). (a + 2) % 1048576 % 1048576) configuration-is ∙ omega arith)

  -- BUSY's address counts in 20 bits
  busy-index : index_of false (busy_in (control_of m)) ≡ index_of false (control_in m + 1)
  unfolding busy_in
  busy-index = index-reduced false (control_of m + 1) ∙ ap (λ (a : ℕ). index_of false (a + 1)) control-is

  -- bytes in a row whose places are the same are lent alike
  span-alike : (a b n : ℕ) → ((k : ℕ) → index_of false (a + k) ≡ index_of false (b + k)) → all_touchable m (span false a n) ≡ all_touchable m (span false b n)
  unfolding span all_pass touchable_at
  span-alike a b zero h = refl
  span-alike a b (suc n) h =
      ap₂ ◌&&◌ (lent-index m false a b (ap (index_of false) (sym (add-zero a)) ∙ h 0 ∙ ap (index_of false) (add-zero b)))
      (span-alike (a + 1) (b + 1) n (λ k. let x : a + 1 + k ≡ a + suc k = omega arith in let y : b + suc k ≡ b + 1 + k = omega arith in ap (index_of false) x ∙ h (suc k) ∙ ap (index_of false) y))

  -- five parts in a row
  parts-lent : (a b c d e : List Place) → all_touchable m (a ++ (b ++ (c ++ (d ++ e)))) ≡ all_touchable m a && (all_touchable m b && (all_touchable m c && (all_touchable m d && all_touchable m e)))
  parts-lent a b c d e =
      all_append (touchable_at m) a (b ++ (c ++ (d ++ e)))
      ∙ ap (λ (x : Bool). all_touchable m a && x)
      (all_append (touchable_at m) b (c ++ (d ++ e)) ∙ ap (λ (x : Bool). all_touchable m b && x) (all_append (touchable_at m) c (d ++ e) ∙ ap (λ (x : Bool). all_touchable m c && x) (all_append (touchable_at m) d e)))

  -- the eleven are the places of the definition
  eleven-lent : all_touchable m (power_places m) ≡ all_touchable m (eleven_in m)
  unfolding busy_in
  eleven-lent =
      let first = all_touchable m (span false 0xFFFF6 1) in
      let second = all_touchable m (span false 0xFFFF8 4) in
      places-lent m
      ∙ ap₂ (λ (x y : Bool). first && (second && (x && y))) (ap (λ (a : ℕ). all_touchable m (span false a 1)) configuration-is)
      (ap₂ ◌&&◌
      (span-alike (control_place m) (configuration_in m + 2) 4 (λ k. index-after false (configuration_of m + 2) k ∙ ap (λ (a : ℕ). index_of false (a + 2 + k)) configuration-is))
      (span-alike (busy_in (control_of m)) (control_in m + 1) 1 (λ k. index-after false (control_of m + 1) k ∙ ap (λ (a : ℕ). index_of false (a + 1 + k)) control-is)))
      ∙ sym (parts-lent (span false 0xFFFF6 1) (span false 0xFFFF8 4) (span false (configuration_in m) 1) (span false (configuration_in m + 2) 4) (span false (control_in m + 1) 1))

  -- so one of them lies beyond where one of those does
  eleven-beyond : Beyond m (power_places m) ↔ Beyond m (eleven_in m)
  eleven-beyond =
      let p = told-exactly (told-touchable m (power_places m)) in
      let q = told-exactly (told-touchable m (eleven_in m)) in
      (λ h. q.0 (sym eleven-lent ∙ p.1 h), λ h. p.0 (eleven-lent ∙ q.1 h))

-- a check whose condition is written another way
last-alike : {A B : Type 0} (k n : ℕ) → (A ↔ B) → Given (check k A ∷ []) n ↔ Given (check k B ∷ []) n
last-alike k n q = (
  ⊎_elim (λ h. inl (q.0 h.0, h.1)) (λ h. inr ((λ b. h.0 (q.1 b)), h.1)),
  ⊎_elim (λ h. inl (q.1 h.0, h.1)) (λ h. inr ((λ a. h.0 (q.0 a)), h.1)),
)

found-channels : (m : Buffers) (b : Bool) → channel_of (found_state m) b ≡ idle_channel
unfolding found_state channel_of
found-channels m true = refl
found-channels m false = refl

-- the state that is found
found-unused : (m : Buffers) → Unused (found_state m) (control_in m) true (set_in m 0xFFFF6 0) (set_in m (configuration_in m) 0) (set_in m (configuration_in m) 1)
unfolding found_state board_of bit_of
found-unused m = record {
  channels = λ b. rw (found-channels m b) blank-idle;
  last = refl;
  control = control-is m;
  up = refl;
  system = refl;
  io = ap (λ (a : ℕ). set_in m a 0) (configuration-is m);
  third = ap (λ (a : ℕ). set_in m a 1) (configuration-is m);
}

pub power-leaves : (s : State) (m : Buffers) → PowerLeaves s m
power-leaves s m = record {
  numbers = λ n. Iff.trans (power-given s m n) (later-alike (last-alike 2 n (eleven-beyond m)));
  bound = power-most s m;
  same_state = λ ne. ap (λ (o : Outcome). o.state) (power-refused s m ne);
  same_memory = λ ne. ap (λ (o : Outcome). o.memory) (power-refused s m ne);
  state = λ e. rw (power-accepted s m e) (found-unused m);
  again = λ e s'. sym (power-same s s' m e);
  busy = λ e. byte-index (power_up_of s m).memory false (control_in m + 1) (busy_in (control_of m)) (sym (busy-index m)) ∙ busy-cleared s m e;
  others = λ tag a h. power_bytes s m tag a (λ e x. h e (sym (busy-index m) ∙ x));
  lengths = power-lengths s m;
}

-- ---- the run as the board starts it

module _ (m : Buffers) (channel lines limit : ℕ) where
  -- 12, then 11
  call-given : (n : ℕ) → (call_number m channel lines limit ≡ n) ↔ Given (check 12 (NoChannel channel ⊎ (LinesOver lines ⊎ LimitOver limit)) ∷ check 11 (TooLong m) ∷ []) n
  unfolding call_number
  call-given n = step 12 refl (told-call channel lines limit) (last n 11 refl (told-limits m))

  -- the run's checks, by the call and the power-up that they are of
  by-checks : {P : Type 0} (n : ℕ) → (call_number m channel lines limit ≡ n → ¬ (n ≡ 0) → P) → (call_number m channel lines limit ≡ 0 → (power_up_of reset_state m).number ≡ n → P)
      → Given (board_checks m channel lines limit) n → P
  by-checks n called powered =
      ⊎_elim (λ a. called ((call-given n).1 (inl a)) (λ z. eqb-false 12 0 refl (sym a.1 ∙ z)))
      (λ h. ⊎_elim (λ t. called ((call-given n).1 (inr (h.0, inl t))) (λ z. eqb-false 11 0 refl (sym t.1 ∙ z)))
      (λ k. powered ((call-given 0).1 (inr (h.0, inr (k.0, refl)))) (((power-leaves reset_state m).numbers n).1 (inr (k.0, k.1)))) h.1)

pub board-runs : (m : Buffers) (channel lines limit : ℕ) → BoardRuns m channel lines limit
board-runs m channel lines limit = record {
  refused = λ n g ne.
      by-checks m channel lines limit n
      (λ e z. refused-call m channel lines limit (λ x. ne (sym e ∙ x)) ∙ ap (λ (k : ℕ). ran k 0 m) e)
      (λ c e. refused-power m channel lines limit c (λ x. ne (sym e ∙ x)) ∙ ap (λ (k : ℕ). ran k 0 m) e) g;
  attends = λ g.
      by-checks m channel lines limit 0 (λ e z. absurd (z refl))
      (λ c e. accepted-power m channel lines limit c e ∙ sym (ap (λ (o : Outcome). attended_run (attention_of o.state o.memory channel) lines limit) (power-accepted reset_state m e))) g;
  bound = number-most m channel lines limit;
  steps_bound = steps-most m channel lines limit;
  answer = answer-is m channel lines limit;
}

-- ---- demand 3's row

-- a channel that does not run neither goes on nor has ended
still-breaks : (s : State) → ((b : Bool) → channel_of s b ≡ idle_channel) → Breaks s
unfolding idle_channel is_running
still-breaks s e second n k c₀ m₀ m =
    let off : is_running (channel_of s second).mode ≡ false = ap (λ (c : Channel). is_running c.mode) (e second) in
    (λ g. apart (sym g.runs ∙ off), λ g. apart (sym g.runs ∙ off))

pub row-broken : RowBroken
row-broken = record {
  reset = still-breaks reset_state reset-blank;
  power = λ s m e. rw (power-accepted s m e) (still-breaks (found_state m) (found-channels m));
}
