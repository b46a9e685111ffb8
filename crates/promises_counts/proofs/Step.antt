-- The list of a step is complete: that of the transfer step or the instruction that was chosen, and none of an external end.
-- Assumes nothing.
use Prim.Native.Nat.{ℕ}
use borrow.Author.Tests.{eq-eqb, ne_eqb}
use lib.Dec.{eqb, ltb}
use mathlib.Core.Bool.{Bool, true, false}
use mathlib.Core.List.{List, []}
use mathlib.Core.Path.{◌≡◌, refl, sym, ap, ◌∙◌}
use native.Mathlib.Decide.{ℕ_discrete}
use Rattle.ground_rules.specs.Choice.{pick}
use Rattle.ground_rules.specs.Buffers.{Buffers}
use Rattle.ground_rules.specs.Places.{Place}
use Rattle.ground_rules.specs.Outcomes.{unless, first}
use Rattle.ground_rules.specs.Psw.{transferring}
use Rattle.ground_rules.specs.States.{channel_of, block_of, busy_in}
use Rattle.ground_rules.specs.declared.Channel.{Channel}
use Rattle.ground_rules.specs.declared.State.{State}
use Rattle.transfer_rules.proofs.StepLaws.{refused as transfer-refused}
use Rattle.transfer_rules.specs.Steps.{Transfer, reads_by, transfer_number, transfer_of, touched_by_transfer}
use Rattle.instruction_rules.proofs.OutcomeLaws.{refused as instruction-refused}
use Rattle.schedule_rules.specs.Counts.{stores_by}
use Rattle.transfer_rules.specs.Parts.{part_of}
use Rattle.instruction_rules.specs.Execute.{decoded_at, execute_number, Executed, execute_of, touched_by_instruction}
use Rattle.turn_rules.specs.Choosing.{choice_of}
use Rattle.turn_rules.specs.Step.{Step, refused_step, done_step, settled_step, transfer_step, instruction_step, external_step, channel_step, chosen_step, entry_number, step_of}
use Rattle.turn_rules.specs.Touched.{touched_in, touched_by_step}
use Rattle.turn_rules.specs.declared.Kind.{Kind}
use Rattle.turn_rules.specs.declared.Kind.TheVariants.{Transfer as TransferKind, Instruction as InstructionKind}
use Rattle.turn_rules.specs.declared.Choice.{Choice}
use Rattle.turn_rules.specs.declared.Choice.TheVariants.{Nobody, Ends, Steps}
use Rattle.promises_counts.specs.Complete.{SameLengths, AgreeOn}
use Rattle.promises_counts.specs.Lists.{step_parts, StepComplete}
use Rattle.promises_counts.specs.Stores.{stores_made, store_places}
use Rattle.promises_counts.proofs.AgreeLaws.{given-same}
use Rattle.promises_counts.proofs.Instruction.{read_in, written_in, instruction-traced}
use Rattle.promises_counts.proofs.TraceLaws.{Traced, complete}
use Rattle.promises_counts.proofs.Transfer.{transfer-traced}

module _ (s : State) (b : Bool) (kind : Kind) where
  -- a channel's own step answers by its number and its channel, whatever the memories are
  pub told-by : (k : ℕ) (c : Channel) (m m' n n' : Buffers) → step_parts (settled_step k s m b c m' kind) ≡ step_parts (settled_step k s n b c n' kind)
  unfolding settled_step
  told-by k c m m' n n' = go (eqb k 0)
    where
      go : (x : Bool) → step_parts (pick x (done_step s b c m' kind) (refused_step k s m)) ≡ step_parts (pick x (done_step s b c n' kind) (refused_step k s n))
      go true = refl
      go false = refl

  -- and what it leaves
  pub left_by : (k : ℕ) (c : Channel) (o o' : Buffers) → ((k ≡ 0 → ⊥) → o' ≡ o) → (settled_step k s o b c o' kind).memory ≡ o'
  unfolding settled_step
  left_by k c o o' kept = go (ℕ_discrete k 0)
    where
      go : Dec (k ≡ 0) → (settled_step k s o b c o' kind).memory ≡ o'
      go (yes z) = rw (eq-eqb k 0 z)
      go (no ne) = rw (ne_eqb k 0 ne) (sym (kept ne))

  -- so a traced transfer step or instruction is a traced step
  own-traced : (reads stored : List Place) (done : Bool) (touched : Buffers → List Place) (number : Buffers → ℕ) (channel : Buffers → Channel) (after : Buffers → Buffers) (m : Buffers)
      → ((n : Buffers) → (number n ≡ 0 → ⊥) → after n ≡ n)
      → Traced {A = ℕ × Channel} reads stored done touched (λ n. (number n, channel n)) after m
      → Traced reads stored done touched (λ n. step_parts (settled_step (number n) s n b (channel n) (after n) kind)) (λ n. (settled_step (number n) s n b (channel n) (after n) kind).memory) m
  own-traced reads stored done touched number channel after m kept t =
      record {
        stores = t.stores;
        placed = t.placed;
        split = t.split;
        same = λ n l h. record {
          list = (t.same n l h).list;
          told = told-by (number n) (channel n) n (after n) m m ∙ ap (λ (a : ℕ × Channel). step_parts (settled_step a.0 s m b a.1 m kind)) (t.same n l h).told ∙ told-by (number m) (channel m) m m m (after m);
          left = left_by (number n) (channel n) n (after n) (kept n) ∙ (t.same n l h).left;
        };
      }

-- a call that touches nothing
none-traced : {A : Type 0} (a : A) (m : Buffers) → Traced [] [] false (λ n. []) (λ n. a) (λ n. n) m
unfolding store_places stores_made
none-traced a m =
    record {
      stores = [];
      placed = refl;
      split = refl;
      same = λ n l h. record { list = refl; told = refl; left = refl };
    }

module _ (s : State) (m : Buffers) where
  pub transfer-kept : (b : Bool) (n : Buffers) → ((transfer_of (channel_of s b) n).number ≡ 0 → ⊥) → (transfer_of (channel_of s b) n).memory ≡ n
  transfer-kept b n ne = ap (λ (o : Transfer). o.memory) (transfer-refused (channel_of s b) n ne)

  pub instruction-kept : (b : Bool) (n : Buffers) → ((execute_of (channel_of s b) (busy_in (block_of s b)) n).number ≡ 0 → ⊥) → (execute_of (channel_of s b) (busy_in (block_of s b)) n).memory ≡ n
  instruction-kept b n ne = ap (λ (o : Executed). o.memory) (instruction-refused (channel_of s b) (busy_in (block_of s b)) n ne)

  -- the turn of a channel, by whether it transfers
  turn_reads : (b x : Bool) → List Place
  turn_reads b x = pick x (reads_by (part_of (channel_of s b)) (channel_of s b) m) (read_in (channel_of s b) (busy_in (block_of s b)) m (decoded_at m (channel_of s b).tp))

  turn_stores : (b x : Bool) → List Place
  turn_stores b x = pick x (stores_by (part_of (channel_of s b)) (channel_of s b) m) (written_in (channel_of s b) (busy_in (block_of s b)) m (decoded_at m (channel_of s b).tp))

  turn_done : (b x : Bool) → Bool
  turn_done b x = pick x (eqb (transfer_number (channel_of s b) m) 0) (eqb (execute_number m (channel_of s b) (busy_in (block_of s b))) 0)

  turn-traced : (b x : Bool)
      → Traced (turn_reads b x) (turn_stores b x) (turn_done b x) (λ n. pick x (touched_by_transfer (channel_of s b) n) (touched_by_instruction n (channel_of s b) (busy_in (block_of s b))))
      (λ n. step_parts (pick x (transfer_step s n b) (instruction_step s n b))) (λ n. (pick x (transfer_step s n b) (instruction_step s n b)).memory) m
  unfolding transfer_step instruction_step turn_reads turn_stores turn_done
  turn-traced b true =
      let c = channel_of s b in
      own-traced s b TransferKind _ _ _ (touched_by_transfer c) (λ n. (transfer_of c n).number) (λ n. (transfer_of c n).channel) (λ n. (transfer_of c n).memory) m
      (transfer-kept b) (transfer-traced c m)
  turn-traced b false =
      let c = channel_of s b in
      let busy = busy_in (block_of s b) in
      own-traced s b InstructionKind _ _ _ (λ n. touched_by_instruction n c busy) (λ n. (execute_of c busy n).number) (λ n. (execute_of c busy n).channel) (λ n. (execute_of c busy n).memory) m
      (instruction-kept b) (instruction-traced c busy m)

  -- what was chosen
  chosen_reads : Choice → List Place
  chosen_reads Nobody = []
  chosen_reads (Ends b) = []
  chosen_reads (Steps b) = turn_reads b (transferring (channel_of s b).psw)

  chosen_stores : Choice → List Place
  chosen_stores Nobody = []
  chosen_stores (Ends b) = []
  chosen_stores (Steps b) = turn_stores b (transferring (channel_of s b).psw)

  chosen_done : Choice → Bool
  chosen_done Nobody = false
  chosen_done (Ends b) = false
  chosen_done (Steps b) = turn_done b (transferring (channel_of s b).psw)

  chosen-traced : (x : Choice) → Traced (chosen_reads x) (chosen_stores x) (chosen_done x) (touched_in x s) (λ n. step_parts (chosen_step x s n)) (λ n. (chosen_step x s n).memory) m
  unfolding touched_in chosen_step channel_step external_step chosen_reads chosen_stores chosen_done
  chosen-traced Nobody = none-traced _ m
  chosen-traced (Ends b) = none-traced _ m
  chosen-traced (Steps b) = turn-traced b (transferring (channel_of s b).psw)

  -- what is given is refused alike
  pub entry-same : (lines : ℕ) (n : Buffers) → SameLengths m n → entry_number s n lines ≡ entry_number s m lines
  unfolding entry_number
  entry-same lines n l = ap (first (unless (ltb lines 16) 12)) (given-same m n l s)

module _ (s : State) (lines : ℕ) (m : Buffers) where
  -- the step by the number of its entry
  step_by : ℕ → Buffers → Step
  step_by k n = pick (eqb k 0) (chosen_step (choice_of s lines) s n) (refused_step k s n)

  stepped_same : (x : Bool) (t : Traced (chosen_reads s m (choice_of s lines)) (chosen_stores s m (choice_of s lines)) (chosen_done s m (choice_of s lines)) (touched_in (choice_of s lines) s) (λ n. step_parts (chosen_step (choice_of s lines) s n)) (λ n. (chosen_step (choice_of s lines) s n).memory) m)
      (n : Buffers) → SameLengths m n → AgreeOn (chosen_reads s m (choice_of s lines)) m n
      → (step_parts (pick x (chosen_step (choice_of s lines) s n) (refused_step (entry_number s m lines) s n)) ≡ step_parts (pick x (chosen_step (choice_of s lines) s m) (refused_step (entry_number s m lines) s m)))
      × ((pick x (chosen_step (choice_of s lines) s n) (refused_step (entry_number s m lines) s n)).memory ≡ stores_made n (pick (pick x (chosen_done s m (choice_of s lines)) false) t.stores []))
  unfolding stores_made
  stepped_same true t n l h = ((t.same n l h).told, (t.same n l h).left)
  stepped_same false t n l h = (refl, refl)

  step-traced : Traced (chosen_reads s m (choice_of s lines)) (chosen_stores s m (choice_of s lines)) (pick (eqb (entry_number s m lines) 0) (chosen_done s m (choice_of s lines)) false) (λ n. touched_by_step s n lines) (λ n. step_parts (step_of s n lines)) (λ n. (step_of s n lines).memory) m
  unfolding touched_by_step step_of step_by
  step-traced =
      let t = chosen-traced s m (choice_of s lines) in
      record {
        stores = t.stores;
        placed = t.placed;
        split = t.split;
        same = λ n l h. record {
          list = (t.same n l h).list;
          told = ap (λ (k : ℕ). step_parts (step_by k n)) (entry-same s m lines n l) ∙ (stepped_same (eqb (entry_number s m lines) 0) t n l h).0;
          left = ap (λ (k : ℕ). (step_by k n).memory) (entry-same s m lines n l) ∙ (stepped_same (eqb (entry_number s m lines) 0) t n l h).1;
        };
      }

  -- its list is complete
  pub step-complete : StepComplete s lines m
  step-complete = complete step-traced
