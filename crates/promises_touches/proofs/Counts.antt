-- A done call was told to touch as many places as it answers to have touched, and of no call more than eleven are told.
-- Assumes nothing.
use Rattle.std.proofs.Common.{Ok, Err}
use Prim.Native.Nat.{ℕ, ◌+◌, ◌≤◌}
use lib.Dec.{lit≤}
use lib.ListN.{length, length-append}
use mathlib.Core.Bool.{Bool, true, false}
use mathlib.Core.List.{List, [], ◌++◌, append-nil}
use mathlib.Core.Path.{◌≡◌, refl, sym, ap, ◌∙◌}
use native.Mathlib.Omega.{arith}
use Rattle.ground_rules.proofs.SpanLaws.{span-length}
use Rattle.ground_rules.specs.Buffers.{Buffers}
use Rattle.ground_rules.specs.Choice.{pick}
use Rattle.ground_rules.specs.Places.{Place, span}
use Rattle.ground_rules.specs.Psw.{transferring}
use Rattle.ground_rules.specs.Stages.{stages_touched}
use Rattle.ground_rules.specs.States.{channel_of, is_second, block_of, busy_in}
use Rattle.ground_rules.specs.declared.Channel.{Channel}
use Rattle.ground_rules.specs.declared.State.{State}
use Rattle.attention_rules.proofs.PowerOutcomes.{power-touches}
use Rattle.attention_rules.specs.Attention.{order_to, attention_of, touched_by_attention, attention_count}
use Rattle.attention_rules.specs.Power.{power_stages, touched_by_power, power_up_of, power_count}
use Rattle.attention_rules.specs.Touched.{read_by, stored_by, others, order_stages, touched_by_order}
use Rattle.attention_rules.specs.declared.Command.{Command}
use Rattle.attention_rules.specs.declared.Command.TheVariants.{Update, StartLocal, StartSystem, Suspend, Resume, Halt, Unknown}
use Rattle.instruction_rules.proofs.CountLaws.{deed-most, length-from}
use Rattle.instruction_rules.specs.Changes.{places_of}
use Rattle.instruction_rules.specs.Execute.{decoded_at, deed_from, later_from, stages_from, instruction_stages, touched_by_instruction}
use Rattle.instruction_rules.specs.Operands.{bytes_at}
use Rattle.instruction_rules.specs.Decoded.{Decoded}
use Rattle.instruction_rules.specs.declared.Unread.TheVariants.{NoInstruction, ControlUsed}
use Rattle.schedule_rules.proofs.StoreLaws.{touched-apart, stores-most}
use Rattle.schedule_rules.specs.Counts.{stores_by}
use Rattle.transfer_rules.specs.Parts.{Part, Whole, FirstFetch, SecondFetch, FirstStore, SecondStore, part_of}
use Rattle.transfer_rules.specs.Reads.{also, entry_of, read_places}
use Rattle.transfer_rules.specs.Sides.{source, second_address, two_move}
use Rattle.transfer_rules.specs.Steps.{touched_by, reads_by, touched_by_transfer, stages_by, transfer_stages}
use Rattle.turn_rules.specs.Choosing.{choice_of}
use Rattle.turn_rules.specs.Step.{step_of}
use Rattle.turn_rules.specs.Touched.{touched_in, touched_by_step, step_count}
use Rattle.turn_rules.specs.declared.Choice.{Choice}
use Rattle.turn_rules.specs.declared.Choice.TheVariants.{Nobody, Ends, Steps}
use Rattle.promises_counts.proofs.Counts.{attention-counts, power-counts, step_counts}
use Rattle.touch_rules.specs.Told.{stages_places}
use Rattle.touch_rules.specs.Touches.{told_by_attention, told_by_power, told_by_step}
use Rattle.promises_touches.specs.Lengths.{ToldCounts}
use Rattle.promises_touches.proofs.Calls.{attention-staged, power-staged, chosen_stages, step-staged}
use Rattle.promises_touches.proofs.Staged.{staged-length, staged-most}

-- ---- an attention

command-most : (k : Command) (block pb : ℕ) → length (span false block 1 ++ ((read_by k block pb ++ stored_by k block pb) ++ [])) ≤ 11
unfolding span read_by stored_by
command-most Update block pb = lit≤ tt
command-most StartLocal block pb = lit≤ tt
command-most StartSystem block pb = lit≤ tt
command-most Suspend block pb = lit≤ tt
command-most Resume block pb = lit≤ tt
command-most Halt block pb = lit≤ tt
command-most Unknown block pb = lit≤ tt

pub attention-told-counts : (s : State) (m : Buffers) (channel : ℕ) → ToldCounts (attention_of s m channel).number (attention_count s m channel) (told_by_attention s m channel)
unfolding touched_by_attention touched_by_order stages_places order_stages others
attention-told-counts s m channel =
    let o = order_to s m (is_second channel) in
    record {
      done = λ e. (staged-length (attention-staged s m channel) e).0 ∙ sym ((attention-counts s channel m).within.list e);
      most = staged-most (attention-staged s m channel) 11 (command-most o.command o.block o.pb);
    }

-- ---- a power-up

pub power-told-counts : (s : State) (m : Buffers) → ToldCounts (power_up_of s m).number (power_count m) (told_by_power m)
unfolding touched_by_power stages_places power_stages stages_touched
power-told-counts s m =
    record {
      done = λ e. (staged-length (power-staged s m) e).0 ∙ sym ((power-counts s m).within.list e);
      most = staged-most (power-staged s m) 11 (omega (arith, power-touches m));
    }

-- ---- a step

also-most : (on : Bool) (p : Place) (ps : List Place) → length (also on p ps) ≤ 1 + length ps
unfolding also
also-most true p ps = omega arith
also-most false p ps = omega arith

reads-most : (k : Part) (c : Channel) (m : Buffers) → length (reads_by k c m) ≤ 3
unfolding reads_by read_places
reads-most Whole c m = omega (arith, also-most (two_move c) (record { tag = (source c).pointer.tag; address = second_address (source c) }) (also c.fields.translates (record { tag = c.gc.tag; address = entry_of c m }) []), also-most c.fields.translates (record { tag = c.gc.tag; address = entry_of c m }) [])
reads-most FirstFetch c m = lit≤ tt
reads-most (SecondFetch byte) c m = lit≤ tt
reads-most FirstStore c m = lit≤ tt
reads-most (SecondStore byte) c m = lit≤ tt

module _ (c : Channel) (m : Buffers) where
  transfer-most : length (stages_places (transfer_stages c m)) ≤ 11
  unfolding stages_places transfer_stages stages_by
  transfer-most =
      omega (
        arith,
        length-append (touched_by (part_of c) c m) [],
        ap length (touched-apart (part_of c) c m),
        length-append (reads_by (part_of c) c m) (stores_by (part_of c) c m),
        reads-most (part_of c) c m,
        stores-most (part_of c) c m,
      )

  instruction-most : (busy : ℕ) → length (stages_places (instruction_stages m c busy)) ≤ 11
  unfolding stages_places instruction_stages stages_from places_of span later_from deed_from
  instruction-most busy = go (decoded_at m c.tp)
    where
      parts : (d : Decoded) → length (stages_places (stages_from d m c busy)) ≡ 2 + length (later_from d c) + length (deed_from d m c busy).reads + (deed_from d m c busy).change.count
      parts d =
          let done = deed_from d m c busy in
          omega (
            arith,
            length-append (bytes_at c.tp 2) (later_from d c ++ ((done.reads ++ places_of done.change) ++ [])),
            span-length c.tp.tag c.tp.address 2,
            length-append (later_from d c) ((done.reads ++ places_of done.change) ++ []),
            length-append (done.reads ++ places_of done.change) [],
            length-append done.reads (places_of done.change),
            span-length done.change.at.tag done.change.at.address done.change.count,
          )

      go : (d : Decoded) → length (stages_places (stages_from d m c busy)) ≤ 11
      go (Ok s) = omega (arith, parts (Ok s), deed-most m c busy (Ok s), (length-from s c).0)
      go (Err NoInstruction) = lit≤ tt
      go (Err ControlUsed) = lit≤ tt

all_moved : (c : Channel) (m : Buffers) → stages_places (transfer_stages c m) ≡ touched_by_transfer c m
unfolding stages_places transfer_stages stages_by touched_by_transfer
all_moved c m = append-nil (touched_by (part_of c) c m)

executed : (c : Channel) (m : Buffers) (busy : ℕ) → stages_touched (instruction_stages m c busy) ≡ touched_by_instruction m c busy
unfolding touched_by_instruction
executed c m busy = refl

module _ (s : State) (m : Buffers) where
  chosen-most : (x : Choice) → length (stages_places (chosen_stages s m x)) ≤ 11
  unfolding stages_places chosen_stages
  chosen-most Nobody = lit≤ tt
  chosen-most (Ends b) = lit≤ tt
  chosen-most (Steps b) = go (transferring (channel_of s b).psw)
    where
      go : (x : Bool) → length (stages_places (pick x (transfer_stages (channel_of s b) m) (instruction_stages m (channel_of s b) (busy_in (block_of s b))))) ≤ 11
      go true = transfer-most (channel_of s b) m
      go false = instruction-most (channel_of s b) m (busy_in (block_of s b))

  -- the stages of what was chosen have the places that a done step touches
  chosen-touched : (x : Choice) → stages_touched (chosen_stages s m x) ≡ stages_places (chosen_stages s m x) → stages_touched (chosen_stages s m x) ≡ touched_in x s m
  unfolding chosen_stages touched_in stages_touched
  chosen-touched Nobody e = refl
  chosen-touched (Ends b) e = refl
  chosen-touched (Steps b) e = go (transferring (channel_of s b).psw) e
    where
      moved : stages_places (transfer_stages (channel_of s b) m) ≡ touched_by_transfer (channel_of s b) m
      moved = all_moved (channel_of s b) m

      go : (x : Bool) → stages_touched (pick x (transfer_stages (channel_of s b) m) (instruction_stages m (channel_of s b) (busy_in (block_of s b)))) ≡ stages_places (pick x (transfer_stages (channel_of s b) m) (instruction_stages m (channel_of s b) (busy_in (block_of s b))))
          → stages_touched (pick x (transfer_stages (channel_of s b) m) (instruction_stages m (channel_of s b) (busy_in (block_of s b)))) ≡ pick x (touched_by_transfer (channel_of s b) m) (touched_by_instruction m (channel_of s b) (busy_in (block_of s b)))
      go true e = e ∙ moved
      go false e = executed (channel_of s b) m (busy_in (block_of s b))

pub step-told-counts : (s : State) (m : Buffers) (lines : ℕ) → ToldCounts (step_of s m lines).number (step_count s m lines) (told_by_step s m lines)
unfolding touched_by_step
step-told-counts s m lines =
    let x = choice_of s lines in
    record {
      done = λ e.
          let told = staged-length (step-staged s m lines) e in
          told.0 ∙ ap length (chosen-touched s m x told.1) ∙ sym ((step_counts s lines m).within.list e);
      most = staged-most (step-staged s m lines) 11 (chosen-most s m x);
    }
