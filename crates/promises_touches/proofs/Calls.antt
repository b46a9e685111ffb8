-- An attention, a power-up and a step, each by what it is given and by its stages; an external end has none, and nobody's step is refused before the first.
-- Assumes nothing.
use Prim.Native.Nat.{ℕ, zero, suc}
use borrow.Author.Tests.{eqb-false}
use lib.Dec.{eqb, eqb-suc-zero, ltb}
use mathlib.Core.Bool.{Bool, true, false}
use mathlib.Core.List.{List, [], ◌∷◌}
use mathlib.Core.Logic.{◌↔◌}
use mathlib.Core.Path.{◌≡◌, refl, sym, ap, ◌∙◌}
use native.Mathlib.Omega.{arith}
use Rattle.ground_rules.proofs.ChoiceLaws.{apart}
use Rattle.ground_rules.proofs.StageLaws.{two-exactly}
use Rattle.ground_rules.specs.Buffers.{Buffers, within_limits}
use Rattle.ground_rules.specs.Choice.{pick}
use Rattle.ground_rules.specs.Outcomes.{unless, first, given_number}
use Rattle.ground_rules.specs.Places.{Place, span, all_pass, all_touchable}
use Rattle.ground_rules.specs.Psw.{transferring}
use Rattle.ground_rules.specs.Stages.{Stage, stage, stages_number, stages_touched}
use Rattle.ground_rules.specs.States.{sound, agree, channel_of, is_channel, is_second, block_of, busy_in}
use Rattle.ground_rules.specs.declared.State.{State}
use Rattle.attention_rules.proofs.ConditionLaws.{never-two}
use Rattle.attention_rules.proofs.CountLaws.{number-left}
use Rattle.attention_rules.proofs.PowerNumbers.{power-number}
use Rattle.attention_rules.specs.Attention.{order_to, order_number, given_to, attention_number, attention_of}
use Rattle.attention_rules.specs.Power.{control_of, power_stages, power_number, power_up_of}
use Rattle.attention_rules.specs.Touched.{stored_by, order_stages}
use Rattle.instruction_rules.proofs.NumberLaws.{two-where}
use Rattle.instruction_rules.proofs.OutcomeLaws.{number_is}
use Rattle.instruction_rules.specs.Changes.{places_of}
use Rattle.instruction_rules.specs.Execute.{decoded_at, deed_from, instruction_stages, execute_number, touched_by_instruction}
use Rattle.schedule_rules.specs.Counts.{stores_by}
use Rattle.transfer_rules.proofs.StepLaws.{number_is as moved-number, two-touched}
use Rattle.transfer_rules.specs.Parts.{part_of}
use Rattle.transfer_rules.specs.Steps.{number_by, transfer_stages, transfer_number}
use Rattle.turn_rules.proofs.NumberLaws.{settled-number}
use Rattle.turn_rules.specs.Choosing.{choice_of}
use Rattle.turn_rules.specs.Step.{refused_step, transfer_step, instruction_step, external_step, channel_step, chosen_step, entry_number, step_of}
use Rattle.turn_rules.specs.declared.Choice.{Choice}
use Rattle.turn_rules.specs.declared.Choice.TheVariants.{Nobody, Ends, Steps}
use Rattle.touch_rules.specs.Told.{Told, first_beyond, told_apart, stages_reached, told_in_stages}
use Rattle.touch_rules.specs.Touches.{told_by_order, told_by_attention, told_by_power, told_by_transfer, told_by_instruction, told_by_choice, told_by_step}
use Rattle.promises_touches.proofs.Staged.{Staged}

-- ---- what is given is not refused by 2

first_else : (a b : ℕ) → ¬ (a ≡ 2) → ¬ (b ≡ 2) → ¬ (first a b ≡ 2)
unfolding first
first_else zero b f g e = g e
first_else (suc k) b f g e = f (rw (eqb-suc-zero k) at e)

unless-else : (b : Bool) (k : ℕ) → ¬ (k ≡ 2) → ¬ (unless b k ≡ 2)
unfolding unless
unless-else true k f e = absurd (omega (arith, e))
unless-else false k f e = f e

given-else : (s : State) (m : Buffers) → ¬ (given_number s m ≡ 2)
unfolding given_number
given-else s m =
    first_else _ _ (unless-else (within_limits m) 11 (eqb-false 11 2 refl))
    (first_else _ _ (unless-else (sound s) 10 (eqb-false 10 2 refl))
    (first_else _ _ (unless-else s.board.powered 13 (eqb-false 13 2 refl)) (unless-else (agree s) 14 (eqb-false 14 2 refl))))

-- ---- an attention

pub attention-staged : (s : State) (m : Buffers) (channel : ℕ)
    → let o = order_to s m (is_second channel) in
    Staged (attention_of s m channel).number m (order_stages o (channel_of s (is_second channel)).mode) (stored_by o.command o.block o.pb) (told_by_attention s m channel)
unfolding attention_number order_number told_by_attention told_by_order given_to order_stages
attention-staged s m channel =
    let o = order_to s m (is_second channel) in
    let mode = (channel_of s (is_second channel)).mode in
    record {
      given = given_to s m channel;
      numbered = number-left s m channel;
      listed = refl;
      given_else = first_else _ _ (unless-else (is_channel channel) 12 (eqb-false 12 2 refl)) (given-else s m);
      two_where = two-exactly m (order_stages o mode) (never-two o.command mode, (refl, tt));
    }

-- ---- a power-up

limits-given : (b : Bool) (ts : List Told) → pick b ts [] ≡ pick (eqb (unless b 11) 0) ts []
unfolding unless
limits-given true ts = refl
limits-given false ts = refl

pub power-staged : (s : State) (m : Buffers) → Staged (power_up_of s m).number m (power_stages m) (span false (busy_in (control_of m)) 1) (told_by_power m)
unfolding power_number told_by_power power_stages
power-staged s m =
    record {
      given = unless (within_limits m) 11;
      numbered = power-number s m;
      listed = limits-given (within_limits m) _;
      given_else = unless-else (within_limits m) 11 (eqb-false 11 2 refl);
      two_where = two-exactly m (power_stages m) (refl, tt);
    }

-- ---- a step

module _ (s : State) (m : Buffers) where
  -- the stages of what was chosen
  unfoldable pub chosen_stages : Choice → List Stage
  chosen_stages Nobody = stage [] 1 ∷ []
  chosen_stages (Ends b) = []
  chosen_stages (Steps b) = pick (transferring (channel_of s b).psw) (transfer_stages (channel_of s b) m) (instruction_stages m (channel_of s b) (busy_in (block_of s b)))

  unfoldable pub chosen_stores : Choice → List Place
  chosen_stores Nobody = []
  chosen_stores (Ends b) = []
  chosen_stores (Steps b) =
      let c = channel_of s b in
      pick (transferring c.psw) (stores_by (part_of c) c m) (places_of (deed_from (decoded_at m c.tp) m c (busy_in (block_of s b))).change)

  -- no stage tells nothing
  none_told : told_in_stages m [] [] ≡ []
  unfolding told_in_stages stages_reached told_apart first_beyond
  none_told = refl

  nobody-told : told_in_stages m (stage [] 1 ∷ []) [] ≡ []
  unfolding told_in_stages stages_reached told_apart first_beyond all_pass
  nobody-told = refl

  chosen-number : (x : Choice) → (chosen_step x s m).number ≡ stages_number m (chosen_stages x)
  unfolding chosen_stages chosen_step channel_step external_step transfer_step instruction_step stages_number first unless all_pass transfer_number number_by transfer_stages execute_number
  chosen-number Nobody = refl
  chosen-number (Ends b) = refl
  chosen-number (Steps b) = go (transferring (channel_of s b).psw)
    where
      go : (x : Bool) → (pick x (transfer_step s m b) (instruction_step s m b)).number
          ≡ stages_number m (pick x (transfer_stages (channel_of s b) m) (instruction_stages m (channel_of s b) (busy_in (block_of s b))))
      go true = settled-number _ s m b _ _ _ ∙ moved-number (channel_of s b) m
      go false = settled-number _ s m b _ _ _ ∙ number_is (channel_of s b) (busy_in (block_of s b)) m

  chosen-told : (x : Choice) → told_by_choice x s m ≡ told_in_stages m (chosen_stages x) (chosen_stores x)
  unfolding told_by_choice chosen_stages chosen_stores told_by_transfer told_by_instruction
  chosen-told Nobody = sym nobody-told
  chosen-told (Ends b) = sym none_told
  chosen-told (Steps b) = go (transferring (channel_of s b).psw)
    where
      go : (x : Bool) → pick x (told_by_transfer (channel_of s b) m) (told_by_instruction m (channel_of s b) (busy_in (block_of s b)))
          ≡ told_in_stages m (pick x (transfer_stages (channel_of s b) m) (instruction_stages m (channel_of s b) (busy_in (block_of s b))))
          (pick x (stores_by (part_of (channel_of s b)) (channel_of s b) m) (places_of (deed_from (decoded_at m (channel_of s b).tp) m (channel_of s b) (busy_in (block_of s b))).change))
      go true = refl
      go false = refl

  moves : (b : Bool) → (stages_number m (transfer_stages (channel_of s b) m) ≡ 2) ↔ (all_touchable m (stages_touched (transfer_stages (channel_of s b) m)) ≡ false)
  unfolding transfer_number number_by transfer_stages
  moves b = two-touched (channel_of s b) m

  chosen-two : (x : Choice) → (stages_number m (chosen_stages x) ≡ 2) ↔ (all_touchable m (stages_touched (chosen_stages x)) ≡ false)
  unfolding chosen_stages stages_number stages_touched first unless all_pass transfer_number number_by execute_number touched_by_instruction
  chosen-two Nobody = (λ e. absurd (eqb-false 1 2 refl e), λ e. apart e)
  chosen-two (Ends b) = (λ e. absurd (eqb-false 0 2 refl e), λ e. apart e)
  chosen-two (Steps b) = go (transferring (channel_of s b).psw)
    where
      executes : (stages_number m (instruction_stages m (channel_of s b) (busy_in (block_of s b))) ≡ 2) ↔ (all_touchable m (stages_touched (instruction_stages m (channel_of s b) (busy_in (block_of s b)))) ≡ false)
      executes =
          let c = channel_of s b in
          let busy = busy_in (block_of s b) in
          (λ e. (two-where m c busy).0 (number_is c busy m ∙ e), λ h. sym (number_is c busy m) ∙ (two-where m c busy).1 h)

      go : (x : Bool) → (stages_number m (pick x (transfer_stages (channel_of s b) m) (instruction_stages m (channel_of s b) (busy_in (block_of s b)))) ≡ 2)
          ↔ (all_touchable m (stages_touched (pick x (transfer_stages (channel_of s b) m) (instruction_stages m (channel_of s b) (busy_in (block_of s b))))) ≡ false)
      go true = moves b
      go false = executes

pub step-staged : (s : State) (m : Buffers) (lines : ℕ)
    → Staged (step_of s m lines).number m (chosen_stages s m (choice_of s lines)) (chosen_stores s m (choice_of s lines)) (told_by_step s m lines)
unfolding step_of told_by_step entry_number first
step-staged s m lines =
    let x = choice_of s lines in
    record {
      given = entry_number s m lines;
      numbered = by-entry (eqb (entry_number s m lines) 0);
      listed = ap (λ (ts : List Told). pick (eqb (entry_number s m lines) 0) ts []) (chosen-told s m x);
      given_else = first_else _ _ (unless-else (ltb lines 16) 12 (eqb-false 12 2 refl)) (given-else s m);
      two_where = chosen-two s m x;
    }
  where
    by-entry : (b : Bool) → (pick b (chosen_step (choice_of s lines) s m) (refused_step (entry_number s m lines) s m)).number
        ≡ pick b (stages_number m (chosen_stages s m (choice_of s lines))) (entry_number s m lines)
    by-entry true = chosen-number s m (choice_of s lines)
    by-entry false = refl
