-- What each call counts: its list where it is done, exactly, and nothing where it is refused.
-- Assumes nothing.
use Rattle.std.proofs.Common.{Ok}
use Prim.Native.Nat.{ℕ, ◌+◌, ◌≤◌}
use borrow.Author.Tests.{eq-eqb, ne_eqb}
use lib.Dec.{eqb, lit≤}
use lib.ListN.{length}
use mathlib.Core.Bool.{Bool, true, false, not, ◌&&◌, ◌||◌}
use mathlib.Core.List.{List}
use mathlib.Core.Path.{◌≡◌, refl, sym, ap, subst, ◌∙◌}
use native.Mathlib.Decide.{ℕ_discrete}
use native.Mathlib.Omega.{arith}
use Rattle.ground_rules.proofs.ChoiceLaws.{apart, both_left}
use Rattle.ground_rules.specs.Choice.{pick}
use Rattle.ground_rules.specs.Buffers.{Buffers}
use Rattle.ground_rules.specs.Places.{Place}
use Rattle.ground_rules.proofs.OutcomeLaws.{refused-counts, done-counts}
use Rattle.ground_rules.specs.Outcomes.{counted}
use Rattle.ground_rules.specs.Psw.{transferring}
use Rattle.ground_rules.specs.States.{channel_of, is_second, block_of, busy_in}
use Rattle.ground_rules.specs.declared.Channel.{Channel}
use Rattle.ground_rules.specs.declared.State.{State}
use Rattle.attention_rules.proofs.CountLaws.{number-left, touched-length as order-length}
use Rattle.attention_rules.specs.Attention.{order_to, attention_number, attention_of, touched_by_attention, attention_count}
use Rattle.attention_rules.specs.Touched.{command_count}
use Rattle.attention_rules.specs.declared.Command.{Command}
use Rattle.attention_rules.specs.declared.Command.TheVariants.{Update, StartLocal, StartSystem, Suspend, Resume, Halt, Unknown}
use Rattle.attention_rules.proofs.PowerNumbers.{power-number}
use Rattle.attention_rules.proofs.PowerOutcomes.{power-touches}
use Rattle.attention_rules.specs.Power.{touched_by_power, power_number, power_up_of, power_count}
use Rattle.instruction_rules.specs.Lengths.{data_length, displacement_length, length_of}
use Rattle.instruction_rules.specs.declared.Shape.{Shape}
use Rattle.instruction_rules.specs.declared.Shape.TheVariants.{Hlt, Tsl}
use Rattle.instruction_rules.specs.Operands.{byte_here, effective}
use Rattle.instruction_rules.proofs.CountLaws.{touched-exact, touched-most}
use Rattle.instruction_rules.proofs.OutcomeLaws.{number_is}
use Rattle.instruction_rules.specs.Counts.{access_count, instruction_count}
use Rattle.instruction_rules.specs.Execute.{decoded_at, touched_by_instruction, execute_of, execute_count}
use Rattle.transfer_rules.proofs.BlockLaws.{word-narrow, one-moves}
use Rattle.transfer_rules.proofs.CountLaws.{touched-length as IsMoved-length}
use Rattle.transfer_rules.proofs.PartLaws.{one-whole}
use Rattle.transfer_rules.proofs.StepLaws.{done-mode}
use Rattle.transfer_rules.specs.Parts.{Part, Whole, FirstFetch, SecondFetch, FirstStore, SecondStore, part_of}
use Rattle.transfer_rules.specs.Reads.{data_of, also}
use Rattle.transfer_rules.specs.Sides.{source, destination, two_move, stored_singly}
use Rattle.transfer_rules.specs.Steps.{touched_by, touched_by_transfer, accesses, bad_mode, transfer_of, transfer_count}
use Rattle.transfer_rules.specs.Stores.{cut_short, stores_two, places_on}
use Rattle.turn_rules.proofs.StepLaws.{counts-none}
use Rattle.turn_rules.specs.Choosing.{choice_of}
use Rattle.turn_rules.specs.Step.{settled_step, transfer_step, instruction_step, channel_step, chosen_step, entry_number, step_of}
use Rattle.turn_rules.specs.Touched.{touched_in, touched_by_step, step_count}
use Rattle.turn_rules.specs.declared.Kind.{Kind}
use Rattle.turn_rules.specs.declared.Choice.{Choice}
use Rattle.turn_rules.specs.declared.Choice.TheVariants.{Nobody, Ends, Steps}
use Rattle.promises_counts.specs.Counts.{CountedWithin, CommandCounts, AttentionCounts, PowerCounts, TransferCounts, InstructionCounts, StepCounts}

-- a count that goes with a number, by its list
counted-within : (most number : ℕ) (ps : List Place) → (number ≡ 0 → length ps ≤ most) → CountedWithin most number (counted number ps) (length ps)
counted-within most number ps h =
    record {
      list = done-counts number ps;
      bounded = λ e. subst (λ (k : ℕ). k ≤ most) (sym (done-counts number ps e)) (h e);
      refused = refused-counts number ps;
    }

-- ---- an attention

command-most : (k : Command) → command_count k ≤ 10
unfolding command_count
command-most Update = lit≤ tt
command-most StartLocal = lit≤ tt
command-most StartSystem = lit≤ tt
command-most Suspend = lit≤ tt
command-most Resume = lit≤ tt
command-most Halt = lit≤ tt
command-most Unknown = lit≤ tt

module _ (s : State) (channel : ℕ) (m : Buffers) where
  attention-within : CountedWithin 10 (attention_of s m channel).number (attention_count s m channel) (length (touched_by_attention s m channel))
  unfolding attention_count
  attention-within =
      subst (λ (k : ℕ). CountedWithin 10 k (attention_count s m channel) (length (touched_by_attention s m channel))) (sym (number-left s m channel))
      (counted-within 10 (attention_number s m channel) (touched_by_attention s m channel)
      (λ z. subst (λ (k : ℕ). k ≤ 10) (sym (order-length s m channel z)) (command-most (order_to s m (is_second channel)).command)))

  command-counts : (k : Command) → CommandCounts s channel m k (command_count k)
  command-counts k e is = attention-within.list e ∙ order-length s m channel (sym (number-left s m channel) ∙ e) ∙ ap command_count is

  pub attention-counts : AttentionCounts s channel m
  unfolding command_count
  attention-counts =
      record {
        within = attention-within;
        update = command-counts Update;
        start_local = command-counts StartLocal;
        start_system = command-counts StartSystem;
        suspend = command-counts Suspend;
        resume = command-counts Resume;
        halt = command-counts Halt;
      }

-- ---- a power-up

module _ (s : State) (m : Buffers) where
  power-within : CountedWithin 11 (power_up_of s m).number (power_count m) (length (touched_by_power m))
  unfolding power_count
  power-within =
      subst (λ (k : ℕ). CountedWithin 11 k (power_count m) (length (touched_by_power m))) (sym (power-number s m))
      (counted-within 11 (power_number m) (touched_by_power m) (λ z. subst (λ (k : ℕ). k ≤ 11) (sym (power-touches m)) (lit≤ tt)))

  pub power-counts : PowerCounts s m
  power-counts = record { within = power-within; eleven = λ e. power-within.list e ∙ power-touches m }

-- ---- a transfer step

two-accesses : (two cut translated : Bool) → two ≡ true → translated ≡ false → accesses two (two && not cut) translated ≡ pick cut 3 4
two-accesses true true false h k = refl
two-accesses true false false h k = refl
two-accesses true cut true h k = apart k
two-accesses false cut translated h k = apart (sym h)

one-accesses : (two cut translated : Bool) → two ≡ false → accesses two (two && not cut) translated ≡ pick translated 3 2
one-accesses false cut true h = refl
one-accesses false cut false h = refl
one-accesses true cut translated h = apart h

module _ (c : Channel) (m : Buffers) where
  -- with translation no side is wide, so one byte moves
  narrow : (transfer_of c m).number ≡ 0 → c.fields.translates ≡ true → two_move c ≡ false
  unfolding bad_mode
  narrow e t = one-moves c (word-narrow (source c) (left (source c).wide (destination c).wide thin)) (word-narrow (destination c) (right (source c).wide (destination c).wide thin))
    where
      left : (a b : Bool) → a || b ≡ false → a ≡ false
      left true b h = h
      left false b h = refl

      right : (a b : Bool) → a || b ≡ false → b ≡ false
      right true b h = apart h
      right false b h = h

      after : (x y z : Bool) → x || y && z ≡ false → y ≡ true → z ≡ false
      after true y z h k = apart h
      after false true z h k = h
      after false false z h k = apart (sym k)

      thin : (source c).wide || (destination c).wide ≡ false
      thin = after (eqb c.fields.synchronised 3) c.fields.translates ((source c).wide || (destination c).wide) (done-mode c m e) t

  -- where two bytes move nothing is translated
  untranslated : (transfer_of c m).number ≡ 0 → two_move c ≡ true → c.fields.translates ≡ false
  untranslated e two = go c.fields.translates refl
    where
      go : (b : Bool) → c.fields.translates ≡ b → c.fields.translates ≡ false
      go true h = apart (sym two ∙ narrow e h)
      go false h = h

  singly-two : cut_short c (data_of c m) ≡ true → two_move c ≡ true
  unfolding cut_short stored_singly
  singly-two cut = both_left (two_move c) _ (both_left (stored_singly c) _ cut)

  -- the list of a part
  part_length : (k : Part) (n : ℕ) → part_of c ≡ k → length (touched_by k c m) ≡ n → length (touched_by_transfer c m) ≡ n
  unfolding touched_by_transfer
  part_length k n e h = ap (λ (x : Part). length (touched_by x c m)) e ∙ h

  -- two bytes, of which a match prevents the second store or not; one byte, translated or not
  two-length : (transfer_of c m).number ≡ 0 → two_move c ≡ true → length (touched_by Whole c m) ≡ pick (cut_short c (data_of c m)) 3 4
  unfolding stores_two
  two-length e two = IsMoved-length c m ∙ two-accesses (two_move c) (cut_short c (data_of c m)) c.fields.translates two (untranslated e two)

  one-length : two_move c ≡ false → length (touched_by Whole c m) ≡ pick c.fields.translates 3 2
  unfolding stores_two
  one-length two = IsMoved-length c m ∙ one-accesses (two_move c) (cut_short c (data_of c m)) c.fields.translates two

  one-listed : two_move c ≡ false → length (touched_by_transfer c m) ≡ pick c.fields.translates 3 2
  one-listed two = part_length Whole (pick c.fields.translates 3 2) (one-whole c two) (one-length two)

  at_most : (transfer_of c m).number ≡ 0 → length (touched_by_transfer c m) ≤ 4
  unfolding touched_by_transfer touched_by places_on also
  at_most e = by_part (part_of c)
    where
      three : (x : Bool) → pick x 3 4 ≤ 4
      three true = lit≤ tt
      three false = lit≤ tt

      less : (x : Bool) → pick x 3 2 ≤ 4
      less true = lit≤ tt
      less false = lit≤ tt

      go : (b : Bool) → two_move c ≡ b → length (touched_by Whole c m) ≤ 4
      go true two = subst (λ (k : ℕ). k ≤ 4) (sym (two-length e two)) (three (cut_short c (data_of c m)))
      go false two = subst (λ (k : ℕ). k ≤ 4) (sym (one-length two)) (less c.fields.translates)

      by_part : (k : Part) → length (touched_by k c m) ≤ 4
      by_part Whole = go (two_move c) refl
      by_part FirstFetch = lit≤ tt
      by_part (SecondFetch byte) = lit≤ tt
      by_part FirstStore = lit≤ tt
      by_part (SecondStore byte) = lit≤ tt

  pub transfer-counts : TransferCounts c m
  unfolding transfer_count touched_by places_on also
  transfer-counts =
      let within = counted-within 4 (transfer_of c m).number (touched_by_transfer c m) at_most in
      record {
        within = within;
        one_byte = λ e two t. within.list e ∙ one-listed two ∙ ap (λ (x : Bool). pick x 3 2) t;
        translated = λ e t. within.list e ∙ one-listed (narrow e t) ∙ ap (λ (x : Bool). pick x 3 2) t;
        two_bytes = λ e k two cut. within.list e ∙ part_length Whole 4 k (two-length e two ∙ ap (λ (x : Bool). pick x 3 4) cut);
        prevented = λ e k cut. within.list e ∙ part_length Whole 3 k (two-length e (singly-two cut) ∙ ap (λ (x : Bool). pick x 3 4) cut);
        first_fetch = λ e k. within.list e ∙ part_length FirstFetch 1 k refl;
        second_fetch = λ byte e k. within.list e ∙ part_length (SecondFetch byte) 3 k refl;
        first_store = λ e k. within.list e ∙ part_length FirstStore 3 k refl;
        second_store = λ byte e k. within.list e ∙ part_length (SecondStore byte) 1 k refl;
      }

-- ---- an instruction

module _ (c : Channel) (busy : ℕ) (m : Buffers) where
  instruction-within : CountedWithin 10 (execute_of c busy m).number (execute_count c busy m) (length (touched_by_instruction m c busy))
  unfolding execute_count
  instruction-within =
      counted-within 10 (execute_of c busy m).number (touched_by_instruction m c busy) (λ e. touched-most m c busy (sym (number_is c busy m) ∙ e))

  instruction-exact : (s : Shape) → decoded_at m c.tp ≡ Ok s → (execute_of c busy m).number ≡ 0 → execute_count c busy m ≡ instruction_count s m c
  instruction-exact s d e = instruction-within.list e ∙ touched-exact m c busy s d (sym (number_is c busy m) ∙ e)

  pub instruction-counts : InstructionCounts c busy m
  unfolding instruction_count access_count length_of data_length displacement_length
  instruction-counts =
      record {
        within = instruction-within;
        exact = instruction-exact;
        halts = instruction-exact Hlt;
        found = λ o d e z. instruction-exact (Tsl o) d e ∙ ap (λ (x : Bool). length_of (Tsl o) + (1 + pick x 1 0)) (eq-eqb (byte_here m (effective m c o c.tp)) 0 z);
        taken = λ o d e ne. instruction-exact (Tsl o) d e ∙ ap (λ (x : Bool). length_of (Tsl o) + (1 + pick x 1 0)) (ne_eqb (byte_here m (effective m c o c.tp)) 0 ne);
      }

-- ---- a step

settled-number : (k : ℕ) (s : State) (m : Buffers) (b : Bool) (c : Channel) (m' : Buffers) (kind : Kind) → (settled_step k s m b c m' kind).number ≡ k
unfolding settled_step
settled-number k s m b c m' kind = go (ℕ_discrete k 0)
  where
    go : Dec (k ≡ 0) → (settled_step k s m b c m' kind).number ≡ k
    go (yes e) = rw (eq-eqb k 0 e) (sym e)
    go (no ne) = rw (ne_eqb k 0 ne)

module _ (s : State) (lines : ℕ) (m : Buffers) where
  entered : (step_of s m lines).number ≡ 0 → (chosen_step (choice_of s lines) s m).number ≡ 0
  unfolding step_of
  entered e = go (ℕ_discrete (entry_number s m lines) 0)
    where
      go : Dec (entry_number s m lines ≡ 0) → (chosen_step (choice_of s lines) s m).number ≡ 0
      go (yes z) = rw (eq-eqb (entry_number s m lines) 0 z) at e
      go (no ne) = absurd (ne (rw (ne_eqb (entry_number s m lines) 0 ne) at e))

  turn-most : (b x : Bool) → (pick x (transfer_step s m b) (instruction_step s m b)).number ≡ 0
      → length (pick x (touched_by_transfer (channel_of s b) m) (touched_by_instruction m (channel_of s b) (busy_in (block_of s b)))) ≤ 10
  unfolding transfer_step instruction_step
  turn-most b true e =
      let most : length (touched_by_transfer (channel_of s b) m) ≤ 4 = at_most (channel_of s b) m (sym (settled-number _ s m b _ _ _) ∙ e) in
      omega arith
  turn-most b false e =
      touched-most m (channel_of s b) (busy_in (block_of s b)) (sym (number_is (channel_of s b) (busy_in (block_of s b)) m) ∙ sym (settled-number _ s m b _ _ _) ∙ e)

  chosen-most : (x : Choice) → (chosen_step x s m).number ≡ 0 → length (touched_in x s m) ≤ 10
  unfolding touched_in chosen_step channel_step
  chosen-most Nobody e = lit≤ tt
  chosen-most (Ends b) e = lit≤ tt
  chosen-most (Steps b) e = turn-most b (transferring (channel_of s b).psw) e

  step-ends : (b : Bool) → choice_of s lines ≡ Ends b → step_count s m lines ≡ 0
  unfolding step_count touched_by_step touched_in
  step-ends b e = ap (λ (x : Choice). counted (step_of s m lines).number (touched_in x s m)) e ∙ counts-none (step_of s m lines).number

  pub step_counts : StepCounts s lines m
  unfolding step_count touched_by_step
  step_counts =
      record {
        within = counted-within 10 (step_of s m lines).number (touched_by_step s m lines) (λ e. chosen-most (choice_of s lines) (entered e));
        ends = step-ends;
      }
