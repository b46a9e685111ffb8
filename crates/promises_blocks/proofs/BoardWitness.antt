-- A row of demand 3 that a power-up begins: zeros with a board's bytes at their top and the copying program in them.
-- Assumes nothing.
use Prim.Native.Nat.{ℕ, zero, suc, ◌+◌, ◌≤◌}
use borrow.Author.Tests.{eqb-false}
use lib.Dec.{eqb, lit<, lit≤}
use lib.ListN.{length, get_or, set, replicate}
use lib.Seq.{set-get_or}
use mathlib.Core.Bool.{Bool, true, false}
use mathlib.Core.List.{List, [], ◌∷◌}
use mathlib.Core.Logic.{inl, inr, ⊎_elim}
use mathlib.Core.Path.{◌≡◌, refl, sym, ap, ap₂, subst, ◌∙◌}
use native.Mathlib.Omega.{arith}
use Rattle.ground_rules.proofs.ConditionLaws.{told-limits, told-touchable}
use Rattle.ground_rules.specs.Conditions.{TooLong}
use Rattle.ground_rules.specs.Choice.{pick}
use Rattle.ground_rules.specs.Outcomes.{Outcome, outcome}
use Rattle.ground_rules.specs.States.{fresh_state, fresh_of, reset_state, block_of, busy_in, channel_number}
use Rattle.ground_rules.specs.declared.State.{State}
use Rattle.ground_rules.proofs.SpanLaws.{span-system, span-whole}
use Rattle.ground_rules.specs.Buffers.{Buffers, buffers, space_of, limit_of, index_of, beyond_in, byte_at, store_byte}
use Rattle.ground_rules.specs.Places.{span, all_touchable}
use Rattle.ground_rules.specs.Values.{pointer, onward}
use Rattle.attention_rules.proofs.PowerNumbers.{places-lent, power-exactly}
use Rattle.attention_rules.proofs.PowerOutcomes.{power-accepted}
use Rattle.attention_rules.specs.Power.{sysbus_place, configuration_place, configuration_of, control_place, control_of, board_of, power_places, found_state, found_memory, power_up_of}
use Rattle.ground_rules.specs.Bits.{bit_of}
use Rattle.run_rules.specs.Board.{powered_as, powered_run, board_run_of}
use Rattle.run_rules.specs.Run.{ran, started_run, call_number, run_of}
use Rattle.promises.specs.Cases.{Stand}
use Rattle.promises_blocks.specs.Image.{put, layout_of, copy_of, image_in}
use Rattle.promises_blocks.specs.Met.{zeros_of, zeros}
use Rattle.promises_blocks.specs.Powering.{RowPowered, top_bytes, boarded_image, RowPoweredMet}
use Rattle.promises_blocks.specs.Program.{Job, Layout, block_at, doubleword, program_of, most_by, RunCopies}
use Rattle.promises.proofs.CaseLaws.{pointer-given}
use Rattle.promises_blocks.proofs.CopyWitness.{zeros_within}
use Rattle.promises_blocks.proofs.ImageLaws.{put-length, put_other, stand-put, differ, whole-put, whole-stand, block-low, ready-met, zeros-whole}
use Rattle.promises_blocks.proofs.Showpiece.{row_made, showpiece}
use Rattle.promises.proofs.StandLaws.{stand-on}

-- ---- laws of memory

-- storing the byte that stands there changes nothing
store_same : (m : Buffers) (a v : ℕ) → byte_at m false a ≡ v → store_byte m false a v ≡ m
unfolding store_byte byte_at space_of beyond_in
store_same m a v e = ap (λ (l : List ℕ). buffers l m.io) (ap (set m.sys (index_of false a)) (sym e) ∙ set-get_or m.sys (index_of false a) 0)

-- every byte of zeros is 0
none-else : (n i : ℕ) → ◌≡◌ {A = ℕ} (get_or (replicate n 0) i 0) 0
none-else zero i = refl
none-else (suc n) zero = refl
none-else (suc n) (suc i) = none-else n i

zero-byte : (size a : ℕ) → byte_at (zeros_of size) false a ≡ 0
unfolding byte_at zeros_of space_of beyond_in
zero-byte size a = none-else size (index_of false a)

-- in a whole memory the eleven bytes of a power-up are lent
eleven-whole : (m : Buffers) → 1048576 ≤ length (space_of m false) → all_touchable m (power_places m) ≡ true
unfolding limit_of
eleven-whole m whole =
    places-lent m
    ∙ rw (here sysbus_place 1, here configuration_place 4, here (configuration_of m) 1, here (control_place m) 4, here (busy_in (control_of m)) 1)
  where
    here : (a n : ℕ) → all_touchable m (span false a n) ≡ true
    here a n = span-system m a n ∙ span-whole m false a n whole

-- no byte of CCW is at 1: the block is at 0 or 8
block_one : (b : Bool) → ¬ (block_at (layout_of b) ≡ 1)
unfolding block_of fresh_state
block_one true e = eqb-false 8 1 refl e
block_one false e = eqb-false 0 1 refl e

-- ---- the board

module _ (b from_odd into_odd from_wide into_wide : Bool) (n : ℕ) where
  abbrev j : Job
  j = copy_of from_odd into_odd from_wide into_wide n

  abbrev l : Layout
  l = layout_of b

  abbrev base : Buffers
  base = put zeros 0xFFFF0 top_bytes

  abbrev m : Buffers
  m = image_in base j l

  size : length (program_of j) ≡ 26
  unfolding program_of
  size = refl

  whole-zeros : 1048576 ≤ length (space_of zeros false)
  whole-zeros = omega (arith, zeros-whole 1048576)

  whole-base : 1048576 ≤ length (space_of base false)
  whole-base = whole-put zeros 0xFFFF0 top_bytes whole-zeros

  -- lengths stay
  lengths : (u : Bool) → length (space_of m u) ≡ length (space_of base u)
  unfolding image_in
  lengths u = put-length _ 0x20 (program_of j) u ∙ put-length _ 0x10 (doubleword 0x20 0) u ∙ put-length _ (block_at l + 2) (doubleword 0x10 0) u ∙ put-length base (block_at l) (0x03 ∷ []) u

  short-base : ¬ (TooLong base)
  unfolding space_of
  short-base =
      let fit = (told-limits zeros).holds zeros_within in
      ⊎_elim (λ h. fit (inl (omega (arith, h, put-length zeros 0xFFFF0 top_bytes false)))) (λ h. fit (inr (omega (arith, h, put-length zeros 0xFFFF0 top_bytes true))))

  short : ¬ (TooLong m)
  unfolding space_of
  short = ⊎_elim (λ h. short-base (inl (omega (arith, h, lengths false)))) (λ h. short-base (inr (omega (arith, h, lengths true))))

  -- what is put below leaves the board's bytes
  top : Stand m (pointer 0xFFFF0 false) top_bytes
  unfolding image_in
  top =
      stand-put 0x20 (program_of j)
      (stand-put 0x10 (doubleword 0x20 0)
      (stand-put (block_at l + 2) (doubleword 0x10 0)
      (stand-put (block_at l) (0x03 ∷ [])
      (whole-stand zeros 0xFFFF0 top_bytes (lit≤ tt) whole-zeros)
      (λ i h k h'. differ (block_at l + k) (0xFFFF0 + i) (omega (arith, block-low b)) (omega arith) (λ e. omega (arith, block-low b))))
      (λ i h k h'. differ (block_at l + 2 + k) (0xFFFF0 + i) (omega (arith, block-low b)) (omega arith) (λ e. omega (arith, block-low b))))
      (λ i h k h'. differ (0x10 + k) (0xFFFF0 + i) (omega arith) (omega arith) (λ e. omega arith)))
      (λ i h k h'. differ (0x20 + k) (0xFFFF0 + i) (omega (arith, h', size)) (omega arith) (λ e. omega (arith, h', size)))

  -- and BUSY of channel 1 is 0
  busy-zero : byte_at m false 1 ≡ 0
  unfolding image_in
  busy-zero =
      put_other _ 0x20 (program_of j) false 1 (λ k h. differ (0x20 + k) 1 (omega (arith, h, size)) (omega arith) (λ e. omega arith))
      ∙ put_other _ 0x10 (doubleword 0x20 0) false 1 (λ k h. differ (0x10 + k) 1 (omega arith) (omega arith) (λ e. omega arith))
      ∙ put_other _ (block_at l + 2) (doubleword 0x10 0) false 1 (λ k h. differ (block_at l + 2 + k) 1 (omega (arith, block-low b)) (omega arith) (λ e. omega arith))
      ∙ put_other base (block_at l) (0x03 ∷ []) false 1 (λ k h. differ (block_at l + k) 1 (omega (arith, block-low b)) (omega arith) (λ e. block_one b (omega (arith, h, e))))
      ∙ put_other zeros 0xFFFF0 top_bytes false 1 (λ k h. differ (0xFFFF0 + k) 1 (omega arith) (omega arith) (λ e. omega arith))
      ∙ zero-byte 1048576 1

  -- ---- what power-up finds

  configuration : configuration_of m ≡ 0xFFFF0
  unfolding configuration_of onward
  configuration = pointer-given m (pointer 0xFFFF8 false) _ (stand-on top 8) (lit< tt)

  control : control_of m ≡ 0
  unfolding control_of onward
  control = rw configuration (pointer-given m (pointer 0xFFFF2 false) _ (stand-on top 2) (lit< tt))

  found : found_state m ≡ fresh_state 0
  unfolding found_state fresh_state board_of bit_of
  found = rw (control, configuration, top.read 6 (lit< tt), top.read 0 (lit< tt))

  kept : found_memory m ≡ m
  unfolding found_memory busy_in
  kept = rw control (store_same m 1 0 busy-zero)

  accepted : (s : State) → (power_up_of s m).number ≡ 0
  accepted s = (power-exactly s m 0).1 (short, ((told-touchable m (power_places m)).holds (eleven-whole m (omega (arith, whole-base, lengths false))), refl))

  powered : (s : State) → power_up_of s m ≡ outcome 0 (fresh_state 0) m
  powered s = power-accepted s m (accepted s) ∙ ap₂ (outcome 0) found kept

  -- the board's run is that of CP 0
  board-run : (channel lines limit : ℕ) → board_run_of m channel lines limit ≡ run_of m 0 channel lines limit
  unfolding board_run_of powered_run run_of fresh_of
  board-run channel lines limit =
      ap (λ (o : Outcome). pick (eqb (call_number m channel lines limit) 0) (started_run (powered_as o) o.memory channel lines limit) (ran (call_number m channel lines limit) 0 m)) (powered reset_state)

  row : 1 ≤ n → n ≤ most_by from_wide into_wide → RowPowered j l m 0
  unfolding space_of zeros_of
  row some most =
      let ready = ready-met base whole-base short-base b from_odd into_odd from_wide into_wide n 0 some most (lit< tt) in
      record {
        powered = powered;
        row = row_made j l m 0 65535 ready;
        run = subst (RunCopies j l m) (sym (board-run (channel_number b) 0 65535)) (showpiece j l m 0 65535 ready);
        slots = none_left m.io (lengths true ∙ put-length zeros 0xFFFF0 top_bytes true);
      }
    where
      none_left : (l : List ℕ) → length l ≡ 0 → l ≡ []
      none_left [] e = refl
      none_left (x ∷ l) e = absurd (omega (arith, e))

-- there is such a row
pub row-powered : RowPoweredMet zeros
unfolding boarded_image
row-powered b from_odd into_odd from_wide into_wide n some most = row b from_odd into_odd from_wide into_wide n some most
