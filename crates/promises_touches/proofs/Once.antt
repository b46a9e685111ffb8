-- Where one round is enough and fetches nothing but what the call reads: a program in system space, a transfer step whose table is known; an attention and a power-up
-- read system space alone and need none.
-- Assumes nothing.
use Rattle.std.proofs.Common.{Ok, Err}
use Prim.Native.Nat.{ℕ, zero, suc, ◌+◌}
use lib.Dec.{eqb}
use mathlib.Core.Bool.{Bool, true, false, ◌&&◌}
use mathlib.Core.List.{List, [], ◌∷◌, ◌++◌}
use mathlib.Core.Logic.{⊎_elim}
use mathlib.Core.Path.{◌≡◌, refl, sym, ap, subst, ◌∙◌}
use Rattle.ground_rules.specs.Buffers.{Buffers, byte_at, within_limits}
use Rattle.ground_rules.specs.Choice.{pick}
use Rattle.ground_rules.specs.Places.{Place, span, all_touchable}
use Rattle.ground_rules.specs.Stages.{stage}
use Rattle.ground_rules.specs.States.{channel_of, is_second, block_of, busy_in}
use Rattle.ground_rules.specs.Values.{onward}
use Rattle.ground_rules.specs.declared.Channel.{Channel}
use Rattle.ground_rules.specs.declared.Mode.{Mode}
use Rattle.ground_rules.specs.declared.State.{State}
use Rattle.attention_rules.specs.Attention.{order_to, given_to, attention_of}
use Rattle.attention_rules.specs.Blocks.{pointer_of}
use Rattle.attention_rules.specs.Commands.{command_number}
use Rattle.attention_rules.specs.Power.{sysbus_place, configuration_place, configuration_of, control_place, control_of, power_stages, power_up_of}
use Rattle.attention_rules.specs.Touched.{read_by, stored_by}
use Rattle.attention_rules.specs.declared.Command.{Command}
use Rattle.attention_rules.specs.declared.Command.TheVariants.{Update, StartLocal, StartSystem, Suspend, Resume, Halt, Unknown}
use Rattle.attention_rules.specs.declared.Order.{Order}
use Rattle.instruction_rules.specs.Execute.{decoded_at, later_bytes, later_from}
use Rattle.instruction_rules.specs.Operands.{bytes_at}
use Rattle.instruction_rules.specs.Decoded.{Decoded}
use Rattle.instruction_rules.specs.declared.Unread.TheVariants.{NoInstruction, ControlUsed}
use Rattle.transfer_rules.specs.Halves.{second_place}
use Rattle.transfer_rules.specs.Parts.{Part, Whole, FirstFetch, SecondFetch, FirstStore, SecondStore, part_of}
use Rattle.transfer_rules.specs.Reads.{also}
use Rattle.transfer_rules.specs.Sides.{source, two_move}
use Rattle.transfer_rules.specs.Steps.{reads_by, bad_mode}
use Rattle.turn_rules.specs.Choosing.{choice_of}
use Rattle.turn_rules.specs.Step.{entry_number, step_of}
use Rattle.turn_rules.specs.declared.Choice.{Choice}
use Rattle.turn_rules.specs.declared.Choice.TheVariants.{Nobody, Ends, Steps}
use Rattle.promises_counts.proofs.Step.{entry-same}
use Rattle.promises_counts.specs.Complete.{AgreeOn}
use Rattle.promises_counts.specs.Lists.{outcome_parts, step_parts}
use Rattle.touch_rules.proofs.TouchesLaws.{order-told, power_reads, power-told}
use Rattle.touch_rules.specs.Told.{Told, told_in_stages}
use Rattle.touch_rules.specs.Touches.{told_by_order, told_by_attention, told_by_power, told_by_transfer, told_by_instruction, told_by_choice, told_by_step}
use Rattle.promises_touches.specs.Protocol.{round_of, Alongside, SameCall, AskedOnce, TableKnown, OnceEnough}
use Rattle.promises_touches.specs.Words.{told_read_places}
use Rattle.promises_touches.proofs.Attentions.{attention-word, power-word}
use Rattle.promises_touches.proofs.Protocol.{deed-then, passes, source_reads, table_read, whole-reads, table_same}
use Rattle.promises_touches.proofs.Rounds.{system-byte, round-alongside, round-got, call_same}
use Rattle.promises_touches.proofs.Steps.{step-word}
use Rattle.promises_touches.proofs.Transfers.{bad-told, read_is}
use Rattle.promises_touches.proofs.WordLaws.{read_up_to, read-stages}

-- ---- places of system space

abbrev InSystem : List Place → Type 0
InSystem [] = Unit {0}
InSystem (p ∷ ps) = (p.tag ≡ false) × InSystem ps

system-span : (t : Bool) (a n : ℕ) → t ≡ false → InSystem (span t a n)
unfolding span
system-span t a zero e = tt
system-span t a (suc n) e = (e, system-span t (a + 1) n e)

system-both : (ps qs : List Place) → InSystem ps → InSystem qs → InSystem (ps ++ qs)
system-both [] qs h k = k
system-both (p ∷ ps) qs h k = (h.0, system-both ps qs h.1 k)

system-some : (b : Bool) (ps : List Place) → InSystem ps → InSystem (pick b ps [])
system-some true ps h = h
system-some false ps h = tt

module _ (device have : Buffers) (w : Alongside device have) where
  -- they are the same in what the host has and what the device has
  system-agree : (ps : List Place) → InSystem ps → AgreeOn ps device have
  system-agree [] h = tt
  system-agree (p ∷ ps) h = (subst (λ (t : Bool). byte_at have t p.address ≡ byte_at device t p.address) (sym h.0) (system-byte device have w.system p.address), system-agree ps h.1)

  -- what one round leaves
  along : (told : Buffers → List Told) → Alongside device (round_of told device have)
  along told = round-alongside told device have w

  got : (told : Buffers → List Told) → AgreeOn (told_read_places (told have)) device (round_of told device have)
  got told = round-got told device have w

  -- ---- an instruction of a program in system space

  later-system : (c : Channel) (d : Decoded) → c.tp.tag ≡ false → InSystem (later_from d c)
  unfolding later_from later_bytes onward
  later-system c (Ok s) e = system-span c.tp.tag _ _ e
  later-system c (Err NoInstruction) e = tt
  later-system c (Err ControlUsed) e = tt

  instruction-once : (c : Channel) (busy : ℕ) → c.tp.tag ≡ false → told_read_places (told_by_instruction have c busy) ≡ told_read_places (told_by_instruction device c busy)
  instruction-once c busy e =
      let p = passes c busy device in
      let later = later_from (decoded_at device c.tp) c in
      deed-then c busy device have w.lengths (system-agree (bytes_at c.tp 2) (system-span c.tp.tag c.tp.address 2 e)) p refl
      (system-agree (pick p later []) (system-some p later (later-system c (decoded_at device c.tp) e)))

  -- ---- a transfer step whose table is known

  plain-table : (c : Channel) → c.fields.translates ≡ false → table_read c device have ≡ table_read c device device
  unfolding table_read also
  plain-table c e = rw e

  source-system : (c : Channel) → (source c).pointer.tag ≡ false → InSystem (source_reads c device)
  unfolding source_reads also
  source-system c e = (e, go (two_move c))
    where
      go : (b : Bool) → InSystem (pick b (second_place (source c) ∷ []) [])
      go true = (e, tt)
      go false = tt

  table-known : (c : Channel) → TableKnown c → table_read c device have ≡ table_read c device device
  table-known c h = ⊎_elim (plain-table c) (λ e. table_same c device have (system-agree (source_reads c device) (source-system c e))) h

  part-once : (k : Part) (c : Channel) → TableKnown c → reads_by k c have ≡ reads_by k c device
  unfolding reads_by
  part-once Whole c h = whole-reads c device have ∙ ap (λ (ps : List Place). source_reads c device ++ ps) (table-known c h) ∙ sym (whole-reads c device device)
  part-once FirstFetch c h = refl
  part-once (SecondFetch byte) c h = refl
  part-once FirstStore c h = refl
  part-once (SecondStore byte) c h = refl

  transfer-once : (c : Channel) → TableKnown c → told_read_places (told_by_transfer c have) ≡ told_read_places (told_by_transfer c device)
  transfer-once c h = go (bad_mode c) refl
    where
      go : (b : Bool) → bad_mode c ≡ b → told_read_places (told_by_transfer c have) ≡ told_read_places (told_by_transfer c device)
      go true e = ap told_read_places (bad-told c have e) ∙ sym (ap told_read_places (bad-told c device e))
      go false e = read_is c have e ∙ part-once (part_of c) c h ∙ sym (read_is c device e)

  -- ---- a step

  chosen-once : (s : State) (x : Choice) → OnceEnough x s → told_read_places (told_by_choice x s have) ≡ told_read_places (told_by_choice x s device)
  unfolding told_by_choice
  chosen-once s Nobody h = refl
  chosen-once s (Ends b) h = refl
  chosen-once s (Steps b) h =
      ⊎_elim (λ k. rw k.0 (transfer-once (channel_of s b) k.1)) (λ k. rw k.0 (instruction-once (channel_of s b) (busy_in (block_of s b)) k.1)) h

  step-reads : (s : State) (lines : ℕ) → OnceEnough (choice_of s lines) s → told_read_places (told_by_step s have lines) ≡ told_read_places (told_by_step s device lines)
  unfolding told_by_step
  step-reads s lines h =
      ap (λ (k : ℕ). told_read_places (pick (eqb k 0) (told_by_choice (choice_of s lines) s have) [])) (entry-same s device lines have w.lengths)
      ∙ go (eqb (entry_number s device lines) 0)
    where
      go : (b : Bool) → told_read_places (pick b (told_by_choice (choice_of s lines) s have) []) ≡ told_read_places (pick b (told_by_choice (choice_of s lines) s device) [])
      go true = chosen-once s (choice_of s lines) h
      go false = refl

  -- one round, in which nothing is fetched that the step does not read
  pub step-once : (s : State) (lines : ℕ) → OnceEnough (choice_of s lines) s
      → AskedOnce (λ n. told_by_step s n lines) (λ n. (step_of s n lines).number) (λ n. step_parts (step_of s n lines)) (λ n. (step_of s n lines).memory) device have
  step-once s lines h =
      let r = round_of (λ n. told_by_step s n lines) device have in
      let e = step-reads s lines h in
      record {
        reads = e;
        made = call_same (λ n. told_by_step s n lines) (λ n. (step_of s n lines).number) (λ n. step_parts (step_of s n lines)) (λ n. (step_of s n lines).memory) (step-word s lines) device r
            (along (λ n. told_by_step s n lines)) (subst (λ (ps : List Place). AgreeOn ps device r) e (got (λ n. told_by_step s n lines)));
      }

  -- ---- an attention and a power-up

  command-system : (k : Command) (block pb : ℕ) → InSystem (read_by k block pb)
  unfolding read_by
  command-system Update block pb = tt
  command-system StartLocal block pb = system-both (span false (pointer_of block) 4) (span false pb 2) (system-span false (pointer_of block) 4 refl) (system-span false pb 2 refl)
  command-system StartSystem block pb = system-both (span false (pointer_of block) 4) (span false pb 4) (system-span false (pointer_of block) 4 refl) (system-span false pb 4 refl)
  command-system Suspend block pb = tt
  command-system Resume block pb = system-span false pb 4 refl
  command-system Halt block pb = tt
  command-system Unknown block pb = tt

  order-system : (o : Order) (mode : Mode) → InSystem (told_read_places (told_by_order device o mode))
  unfolding read_up_to
  order-system o mode =
      let reads = read_by o.command o.block o.pb in
      subst InSystem
      (sym (read-stages device reads (stored_by o.command o.block o.pb) (stage (span false o.block 1) (command_number o.command mode) ∷ []) (told_by_order device o mode) (order-told device o mode)))
      (system-both (span false o.block 1) _ (system-span false o.block 1 refl)
      (system-some (all_touchable device (span false o.block 1) && eqb (command_number o.command mode) 0) reads (command-system o.command o.block o.pb)))

  attention-system : (s : State) (channel : ℕ) → InSystem (told_read_places (told_by_attention s device channel))
  unfolding told_by_attention told_read_places
  attention-system s channel = go (eqb (given_to s device channel) 0)
    where
      go : (b : Bool) → InSystem (told_read_places (pick b (told_by_order device (order_to s device (is_second channel)) (channel_of s (is_second channel)).mode) []))
      go true = order-system (order_to s device (is_second channel)) (channel_of s (is_second channel)).mode
      go false = tt

  -- an attention may be made at once
  pub attention-once : (s : State) (channel : ℕ)
      → SameCall (λ n. told_by_attention s n channel) (λ n. (attention_of s n channel).number) (λ n. outcome_parts (attention_of s n channel)) (λ n. (attention_of s n channel).memory) device have
  attention-once s channel =
      call_same (λ n. told_by_attention s n channel) (λ n. (attention_of s n channel).number) (λ n. outcome_parts (attention_of s n channel)) (λ n. (attention_of s n channel).memory)
      (attention-word s channel) device have w (system-agree (told_read_places (told_by_attention s device channel)) (attention-system s channel))

  power-system : InSystem (told_read_places (told_by_power device))
  unfolding told_by_power told_read_places read_up_to
  power-system = go (within_limits device)
    where
      soc : List Place
      soc = span false (configuration_of device) 1

      control : List Place
      control = span false (control_place device) 4

      reads : InSystem (power_reads device)
      reads =
          system-both (span false sysbus_place 1) (span false configuration_place 4 ++ (soc ++ control)) (system-span false sysbus_place 1 refl)
          (system-both (span false configuration_place 4) (soc ++ control) (system-span false configuration_place 4 refl)
          (system-both soc control (system-span false (configuration_of device) 1 refl) (system-span false (control_place device) 4 refl)))

      go : (b : Bool) → InSystem (told_read_places (pick b (told_in_stages device (power_stages device) (span false (busy_in (control_of device)) 1)) []))
      go true = subst InSystem (sym (read-stages device (power_reads device) (span false (busy_in (control_of device)) 1) [] _ (power-told device))) reads
      go false = tt

  -- and so may a power-up
  pub power-once : (s : State) → SameCall told_by_power (λ n. (power_up_of s n).number) (λ n. outcome_parts (power_up_of s n)) (λ n. (power_up_of s n).memory) device have
  power-once s = call_same told_by_power (λ n. (power_up_of s n).number) (λ n. outcome_parts (power_up_of s n)) (λ n. (power_up_of s n).memory) (power-word s) device have w (system-agree (told_read_places (told_by_power device)) power-system)
