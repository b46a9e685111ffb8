-- A step through one channel: what is answered of it, and what it leaves of the state's bytes.
-- Assumes nothing.
use Prim.Native.Nat.{ℕ}
use borrow.Author.Tests.{eq-eqb, ne_eqb}
use mathlib.Core.Bool.{Bool, true}
use mathlib.Core.List.{List}
use mathlib.Core.Path.{◌≡◌, refl, sym, ap, ◌∙◌}
use native.Mathlib.Decide.{ℕ_discrete}
use Rattle.ground_rules.specs.Buffers.{Buffers}
use Rattle.ground_rules.proofs.OutcomeLaws.{refused-counts}
use Rattle.ground_rules.specs.Outcomes.{counted}
use Rattle.ground_rules.proofs.ChannelLaws.{put_same}
use Rattle.ground_rules.proofs.FieldLaws.{agree-channel-of, last-agree}
use Rattle.ground_rules.specs.States.{channel_of, channel_number, with_channel, with_last, agree, fields_agree}
use Rattle.ground_rules.specs.declared.Channel.{Channel}
use Rattle.ground_rules.specs.declared.State.{State}
use Rattle.transfer_rules.specs.Ends.{externally_ended}
use Rattle.turn_rules.proofs.SoundLaws.{entry-agree, step-agree}
use Rattle.turn_rules.proofs.StepLaws.{counts-none}
use Rattle.turn_rules.specs.Choosing.{choice_of}
use Rattle.turn_rules.specs.Step.{Step, refused_step, settled_step, external_step, chosen_step, entry_number, step_of}
use Rattle.turn_rules.specs.Touched.{touched_in, touched_by_step, step_count}
use Rattle.turn_rules.specs.declared.Choice.{Choice}
use Rattle.turn_rules.specs.declared.Choice.TheVariants.{Ends, Steps}
use Rattle.state_rules.specs.Calls.{served, answer_from, kind_number, step_left, step_served}
use Rattle.state_rules.specs.Conditions.{Bytes}
use Rattle.state_rules.specs.Layout.{bytes_of, state_in, is_state}
use Rattle.std.proofs.Common.{Result, Ok, Err, IfOk}
use Rattle.ground_rules.specs.Refusals.{number_of}
use Rattle.step.specs.Turns.{turned, turn_count, turn_number}
use Rattle.step.specs.declared.Turn.{Turn}
use Rattle.step.specs.declared.RefusedTurn.{RefusedTurn}
use Rattle.state_rules.proofs.ForthLaws.{bytes_back}
use Rattle.state_rules.proofs.BlockLaws.{done}

-- ---- what is answered of it

pub refused-left : (b : List ℕ) (byte : Bytes b) (h : is_state b ≡ true) (second : Bool) (f : RefusedTurn)
    → (r : ℕ) → r ≡ answer_from (number_of f.why) 0 0 0
    → ((m : Buffers) → served r b m ≡ step_left (turned (state_in b) second (Err f) m) 0) × ((m : Buffers) → state_in b ≡ (turned (state_in b) second (Err f) m).state)
unfolding kind_number
refused-left b byte h second f r e = (λ m. rw (bytes_back b byte h, e), λ m. refl)

pub done-left : (b : List ℕ) (second : Bool) (t : Turn) → (x : List ℕ) (r : ℕ) → r ≡ answer_from 0 (channel_number second) (kind_number t.kind) t.count
    → x ≡ bytes_of (done (state_in b) second t.channel) → state_in x ≡ done (state_in b) second t.channel
    → ((m : Buffers) → served r x m ≡ step_left (turned (state_in b) second (Ok t) m) t.count) × ((m : Buffers) → state_in x ≡ (turned (state_in b) second (Ok t) m).state)
done-left b second t x r e put whole = (λ m. rw (e, put), λ m. whole)

-- ---- the step that it is

turned-number : (s : State) (second : Bool) (r : Result Turn RefusedTurn) (m : Buffers) → (turned s second r m).number ≡ turn_number r
turned-number s second (Ok t) m = refl
turned-number s second (Err f) m = refl

pub entry-refused : (s : State) (m : Buffers) (lines : ℕ) → ¬ (entry_number s m lines ≡ 0) → step_of s m lines ≡ refused_step (entry_number s m lines) s m
unfolding step_of
entry-refused s m lines ne = rw (ne_eqb (entry_number s m lines) 0 ne)

pub chosen-step : (s : State) (m : Buffers) (lines : ℕ) (choice : Choice) → entry_number s m lines ≡ 0 → choice_of s lines ≡ choice → step_of s m lines ≡ chosen_step choice s m
unfolding step_of
chosen-step s m lines choice z who = rw (eq-eqb (entry_number s m lines) 0 z, who)

-- an external end is put and answered
pub ended-left : (b : List ℕ) (second : Bool) (c : Channel) → c ≡ externally_ended (channel_of (state_in b) second) → (x : List ℕ) (r : ℕ) → r ≡ answer_from 0 (channel_number second) 3 0
    → x ≡ bytes_of (done (state_in b) second c) → state_in x ≡ done (state_in b) second c
    → ((m : Buffers) → served r x m ≡ step_left (chosen_step (Ends second) (state_in b) m) 0) × ((m : Buffers) → state_in x ≡ (chosen_step (Ends second) (state_in b) m).state)
unfolding chosen_step external_step kind_number
ended-left b second c is x r e put whole = (λ m. rw (e, put, is), λ m. rw (whole, is))

-- a done turn leaves a channel whose fields are those of its CC
pub turn-agrees : (s : State) (m : Buffers) (lines : ℕ) (second : Bool) (t : Turn) (m' : Buffers) → entry_number s m lines ≡ 0 → choice_of s lines ≡ Steps second
    → turned s second (Ok t) m' ≡ chosen_step (Steps second) s m → fields_agree t.channel ≡ true
turn-agrees s m lines second t m' z who e =
    let is : turned s second (Ok t) m' ≡ step_of s m lines = e ∙ sym (chosen-step s m lines (Steps second) z who) in
    let left : with_last (with_channel s second t.channel) second ≡ (step_of s m lines).state = ap (λ (o : Step). o.state) is in
    let agrees : agree (with_channel s second t.channel) ≡ true = sym (last-agree (with_channel s second t.channel) second) ∙ ap agree left ∙ step-agree s m lines (entry-agree s m lines z) in
    ap fields_agree (sym (put_same s second t.channel)) ∙ agree-channel-of (with_channel s second t.channel) second agrees

pub turn-fits : (s : State) (m : Buffers) (lines : ℕ) (second : Bool) (r : Result Turn RefusedTurn) (m' : Buffers) → entry_number s m lines ≡ 0 → choice_of s lines ≡ Steps second
    → turned s second r m' ≡ chosen_step (Steps second) s m → IfOk r (λ t. fields_agree t.channel ≡ true)
turn-fits s m lines second (Ok t) m' z who e = turn-agrees s m lines second t m' z who e
turn-fits s m lines second (Err f) m' z who e = tt

module _ (b : List ℕ) (m : Buffers) (h : is_state b ≡ true) (lines : ℕ) where
  -- a step of the state is what the call leaves
  left-served : (o : Step) (count : ℕ) → o ≡ step_of (state_in b) m lines → count ≡ step_count (state_in b) m lines → (x : List ℕ) (r : ℕ) (m' : Buffers)
      → served r x m' ≡ step_left o count → state_in x ≡ o.state
      → (served r x m' ≡ step_served b m lines) × (is_state b ≡ true → state_in x ≡ (step_of (state_in b) m lines).state)
  unfolding step_served
  left-served o count p q x r m' e f = (rw h (e ∙ rw (p, q)), λ k. f ∙ ap (λ (y : Step). y.state) p)

  -- a refused one, of what it is given or since nobody is chosen
  pub refused-served : (byte : Bytes b) (k : ℕ) → ¬ (k ≡ 0) → step_of (state_in b) m lines ≡ refused_step k (state_in b) m → (r : ℕ) → r ≡ answer_from k 0 0 0
      → (served r b m ≡ step_served b m lines) × (is_state b ≡ true → state_in b ≡ (step_of (state_in b) m lines).state)
  unfolding kind_number step_count
  refused-served byte k ne e r a =
      left-served (refused_step k (state_in b) m) 0 (sym e)
      (sym (refused-counts (step_of (state_in b) m lines).number (touched_by_step (state_in b) m lines) (λ z. ne (sym (ap (λ (o : Step). o.number) e) ∙ z))))
      b r m (rw (a, bytes_back b byte h)) refl

  -- that of the chosen channel
  pub turn-served : (s : State) → s ≡ state_in b → (choice : Choice) (second : Bool) (t : Result Turn RefusedTurn) (m' : Buffers) → entry_number s m lines ≡ 0 → choice_of s lines ≡ choice
      → turned s second t m' ≡ chosen_step choice s m → turn_count t ≡ counted (turn_number t) (touched_in choice s m)
      → (x : List ℕ) (r : ℕ) → served r x m' ≡ step_left (turned (state_in b) second t m') (turn_count t) → state_in x ≡ (turned (state_in b) second t m').state
      → (served r x m' ≡ step_served b m lines) × (is_state b ≡ true → state_in x ≡ (step_of (state_in b) m lines).state)
  unfolding step_count touched_by_step
  turn-served s of choice second t m' z who e count x r a f =
      let is : turned s second t m' ≡ step_of s m lines = e ∙ sym (chosen-step s m lines choice z who) in
      let counts : turn_count t ≡ step_count s m lines =
      count ∙ rw who (ap (λ (n : ℕ). counted n (touched_in choice s m)) (sym (turned-number s second t m') ∙ ap (λ (o : Step). o.number) is)) in
      left-served (turned (state_in b) second t m') (turn_count t) (rw of at is) (rw of at counts) x r m' a f

  -- that of an external end, which touches nothing
  pub end-served : (s : State) → s ≡ state_in b → (second : Bool) → entry_number s m lines ≡ 0 → choice_of s lines ≡ Ends second
      → (x : List ℕ) (r : ℕ) → served r x m ≡ step_left (chosen_step (Ends second) (state_in b) m) 0 → state_in x ≡ (chosen_step (Ends second) (state_in b) m).state
      → (served r x m ≡ step_served b m lines) × (is_state b ≡ true → state_in x ≡ (step_of (state_in b) m lines).state)
  unfolding step_count touched_by_step touched_in
  end-served s of second z who x r a f =
      let chosen : choice_of (state_in b) lines ≡ Ends second = ap (λ (y : State). choice_of y lines) (sym of) ∙ who in
      let free : entry_number (state_in b) m lines ≡ 0 = ap (λ (y : State). entry_number y m lines) (sym of) ∙ z in
      left-served (chosen_step (Ends second) (state_in b) m) 0 (sym (chosen-step (state_in b) m lines (Ends second) free chosen)) (rw chosen (sym (counts-none (step_of (state_in b) m lines).number))) x r m a f
