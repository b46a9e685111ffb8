-- Each number is given exactly under its own condition and no earlier one.
-- Assumes nothing.
use Prim.Native.Nat.{ℕ, ◌≤◌}
use mathlib.Core.Bool.{false}
use mathlib.Core.List.{[], ◌∷◌}
use mathlib.Core.Logic.{◌↔◌}
use mathlib.Core.Path.{◌≡◌, refl}
use native.Mathlib.Omega.{arith}
use Rattle.ground_rules.proofs.OutcomeLaws.{settled-number, first-zero, first-right}
use Rattle.ground_rules.proofs.StageLaws.{beyond-exactly}
use Rattle.ground_rules.specs.Stages.{stages_number}
use Rattle.ground_rules.specs.States.{channel_of, with_channel, is_second}
use Rattle.ground_rules.specs.declared.State.{State}
use Rattle.ground_rules.specs.Buffers.{Buffers}
use Rattle.ground_rules.specs.Places.{span}
use Rattle.ground_rules.proofs.BitLaws.{field_lt}
use Rattle.ground_rules.proofs.ConditionLaws.{step, last, rewritten, first-assoc, worded, single, given-most, told-touchable}
use Rattle.ground_rules.proofs.FieldLaws.{told-agree}
use Rattle.ground_rules.proofs.GivenLaws.{told-powered, given-chain}
use Rattle.ground_rules.specs.Conditions.{check, Given, Exactly, Ready, Beyond, given_checks}
use Rattle.attention_rules.specs.Attention.{order_to, order_number, channel_attended, ordered_memory, given_to, attention_number, attention_of}
use Rattle.attention_rules.specs.Blocks.{order_of}
use Rattle.attention_rules.specs.Commands.{code_of}
use Rattle.attention_rules.specs.Conditions.{NoChannel, mode_to, order_checks, attention_checks}
use Rattle.attention_rules.specs.Touched.{others, order_stages, touched_by_order}
use Rattle.attention_rules.proofs.ConditionLaws.{never-two, told-channel, told-resume, told-start, told-suspend, told-command, command-chain}

module _ (s : State) (m : Buffers) (channel : ℕ) where
  -- the table, whole: an attention gives n exactly where n is the number of the first check that applies, or 0 where none does
  pub given-exactly : (n : ℕ) → ((attention_of s m channel).number ≡ n) ↔ Given (attention_checks s m channel) n
  unfolding attention_of attention_number given_to order_number stages_number order_stages order_to order_of
  given-exactly n =
      let b = is_second channel in
      let o = order_to s m b in
      let code = code_of o.ccw in
      let mode = (channel_of s b).mode in
      rewritten (settled-number (attention_number s m channel) s m (with_channel s b (channel_attended s m b)) (ordered_memory s m b))
      (rw (first-zero, first-right, first-assoc, command-chain code mode (field_lt o.ccw 0 3), first-assoc, first-assoc, first-assoc)
      (step 12 refl (told-channel channel)
      (given-chain s m (order_checks s m channel)
      (step 2 refl (told-touchable m (span false o.block 1))
      (step 6 refl (told-command code)
      (step 7 refl (told-resume code mode)
      (step 8 refl (told-start code mode)
      (step 9 refl (told-suspend code mode)
      (last n 2 refl (told-touchable m (others o)))))))))))

  -- the number is at most 14
  pub attention-most : (attention_of s m channel).number ≤ 14
  attention-most = given-most 14 (attention_checks s m channel) refl ((given-exactly (attention_of s m channel).number).0 refl)

  -- in words: each number where its own condition holds and no earlier one, 0 where none does; 2 has two places
  pub number-exactly : (n : ℕ) → ((attention_of s m channel).number ≡ n) ↔ Exactly (attention_checks s m channel) n
  number-exactly n = worded (attention_checks s m channel) n (given-exactly n)

  -- so of a state that is powered up and agrees the number is at most 12
  pub attention-ready : Ready s → (attention_of s m channel).number ≤ 12
  attention-ready r =
      let up : ¬ ((attention_of s m channel).number ≡ 13) = λ e. (told-powered s).holds r.0 ((number-exactly 13).0 e).1.1.1 in
      let same : ¬ ((attention_of s m channel).number ≡ 14) = λ e. (told-agree s).holds r.1 ((number-exactly 14).0 e).1.1.1.1 in
      omega (arith, attention-most, up, same)

  -- 2, said of all the bytes that the order touches: one of them, up to where the order stops, lies beyond lent memory
  pub touched-2 : ((attention_of s m channel).number ≡ 2)
      ↔ Exactly (check 12 (NoChannel channel) ∷ given_checks s m (check 2 (Beyond m (touched_by_order (order_to s m (is_second channel)) (mode_to s channel))) ∷ [])) 2
  unfolding attention_of attention_number given_to order_number touched_by_order order_stages
  touched-2 =
      let b = is_second channel in
      let o = order_to s m b in
      let mode = (channel_of s b).mode in
      let own = check 2 (Beyond m (touched_by_order o mode)) ∷ [] in
      worded (check 12 (NoChannel channel) ∷ given_checks s m own) 2
      (rewritten (settled-number (attention_number s m channel) s m (with_channel s b (channel_attended s m b)) (ordered_memory s m b))
      (rw first-assoc
      (step 12 refl (told-channel channel)
      (given-chain s m own
      (single 2 refl (beyond-exactly m (order_stages o mode) (never-two o.command mode, (refl, tt))))))))
