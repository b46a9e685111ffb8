-- The list of a power-up is complete.
-- Assumes nothing.
use Prim.Native.Nat.{ℕ}
use lib.Dec.{eqb}
use mathlib.Core.Bool.{Bool, true, false}
use mathlib.Core.List.{List, [], ◌∷◌, ◌++◌}
use mathlib.Core.Path.{◌≡◌, refl, sym, ap, ap₂, ◌∙◌}
use Rattle.ground_rules.specs.Bits.{bit_of}
use Rattle.ground_rules.specs.Choice.{pick}
use Rattle.ground_rules.specs.Sums.{sum20}
use Rattle.ground_rules.specs.Buffers.{Buffers, byte_at, store_byte}
use Rattle.ground_rules.specs.Places.{Place, span}
use Rattle.ground_rules.specs.Values.{doubleword_at}
use Rattle.ground_rules.specs.Outcomes.{unless, first}
use Rattle.ground_rules.specs.Stages.{stage, stages_number, stages_touched}
use Rattle.ground_rules.specs.States.{board_with, blank_state, busy_in}
use Rattle.ground_rules.specs.declared.State.{State}
use Rattle.attention_rules.specs.Power.{sysbus_place, configuration_place, configuration_of, control_place, control_of, board_of, power_places, power_stages, touched_by_power, power_number, found_state, found_memory, power_up_of}
use Rattle.promises_counts.specs.Complete.{SameLengths, AgreeOn}
use Rattle.promises_counts.specs.Lists.{outcome_parts, PowerComplete}
use Rattle.promises_counts.specs.Stores.{Store, stores_made, store_places}
use Rattle.promises_counts.proofs.AgreeLaws.{agree_left, agree_right, doubleword-same, limits-same, number_same}
use Rattle.promises_counts.proofs.TraceLaws.{Traced, complete, settled-told, settled-left, stores_at}

-- what it reads: SYSBUS, the configuration block's pointer, SOC, the control block's pointer
unfoldable pub read_in : Buffers → List Place
read_in m = span false sysbus_place 1 ++ (span false configuration_place 4 ++ (span false (configuration_of m) 1 ++ span false (control_place m) 4))

-- what it stores: BUSY of channel 1
busy_stored : Buffers → List Store
busy_stored m = stores_at false (busy_in (control_of m)) (0 ∷ [])

read-and-stored : (m : Buffers) → touched_by_power m ≡ read_in m ++ span false (busy_in (control_of m)) 1
unfolding touched_by_power power_stages stages_touched power_places span read_in
read-and-stored m = refl

module _ (m n : Buffers) (l : SameLengths m n) (h : AgreeOn (read_in m) m n) where
  -- the parts of what is read
  at-sysbus : byte_at n false sysbus_place ≡ byte_at m false sysbus_place
  unfolding read_in span
  at-sysbus = h.0

  after-sysbus : AgreeOn (span false configuration_place 4 ++ (span false (configuration_of m) 1 ++ span false (control_place m) 4)) m n
  unfolding read_in
  after-sysbus = agree_right m n (span false sysbus_place 1) _ h

  after-pointer : AgreeOn (span false (configuration_of m) 1 ++ span false (control_place m) 4) m n
  after-pointer = agree_right m n (span false configuration_place 4) _ after-sysbus

  at-soc : byte_at n false (configuration_of m) ≡ byte_at m false (configuration_of m)
  unfolding span
  at-soc = after-pointer.0

  -- what is found is the same
  configuration-same : configuration_of n ≡ configuration_of m
  unfolding configuration_of
  configuration-same = doubleword-same m n false configuration_place (agree_left m n (span false configuration_place 4) _ after-sysbus)

  pub control-same : control_of n ≡ control_of m
  unfolding control_of
  control-same =
      ap (λ (a : ℕ). doubleword_at n false (sum20 a 2)) configuration-same
      ∙ doubleword-same m n false (control_place m) (agree_right m n (span false (configuration_of m) 1) _ after-pointer)

  board-same : board_of n ≡ board_of m
  unfolding board_of
  board-same =
      ap (λ (a : ℕ). board_with true (bit_of (byte_at n false sysbus_place) 0) (bit_of (byte_at n false a) 0) (bit_of (byte_at n false a) 1)) configuration-same
      ∙ ap₂ (λ (x y : ℕ). board_with true (bit_of x 0) (bit_of y 0) (bit_of y 1)) at-sysbus at-soc

  pub places_same : power_places n ≡ power_places m
  unfolding power_places
  places_same =
      ap₂ (λ (a b : ℕ). span false sysbus_place 1 ++ (span false configuration_place 4 ++ (span false a 1 ++ (span false (sum20 a 2) 4 ++ span false (busy_in b) 1)))) configuration-same control-same

  number_is : power_number n ≡ power_number m
  unfolding power_number power_stages
  number_is =
      ap₂ (λ (x : Bool) (k : ℕ). first (unless x 11) k) (limits-same m n l)
      (number_same m n l (power_stages n) ∙ ap (λ (ps : List Place). stages_number m (stage ps 0 ∷ [])) places_same)

  found-same : found_state n ≡ found_state m
  unfolding found_state
  found-same = ap₂ blank_state control-same board-same

  left-same : found_memory n ≡ stores_made n (busy_stored m)
  unfolding found_memory busy_stored stores_made stores_at
  left-same = ap (λ (a : ℕ). store_byte n false (busy_in a) 0) control-same

module _ (s : State) (m : Buffers) where
  pub power-traced : Traced (read_in m) (span false (busy_in (control_of m)) 1) (eqb (power_number m) 0) touched_by_power (λ n. outcome_parts (power_up_of s n)) (λ n. (power_up_of s n).memory) m
  unfolding touched_by_power power_stages power_up_of stores_made busy_stored store_places stores_at span
  power-traced =
      record {
        stores = busy_stored m;
        placed = refl;
        split = read-and-stored m;
        same = λ n l h.
            record {
              list = ap (λ (ps : List Place). stages_touched (stage ps 0 ∷ [])) (places_same m n l h);
              told =
                  settled-told (power_number n) s (found_state n) n (found_memory n)
                  ∙ ap₂ (λ (k : ℕ) (x : State). pick (eqb k 0) (0, x) (k, s)) (number_is m n l h) (found-same m n l h)
                  ∙ sym (settled-told (power_number m) s (found_state m) m (found_memory m));
              left =
                  settled-left (power_number n) s (found_state n) n (found_memory n)
                  ∙ ap₂ (λ (k : ℕ) (o : Buffers). pick (eqb k 0) o n) (number_is m n l h) (left-same m n l h)
                  ∙ either n (eqb (power_number m) 0);
            };
      }
    where
      either : (n : Buffers) (b : Bool) → pick b (stores_made n (busy_stored m)) n ≡ stores_made n (pick b (busy_stored m) [])
      either n true = refl
      either n false = refl

  -- its list is complete
  pub power-complete : PowerComplete s m
  power-complete = complete power-traced
