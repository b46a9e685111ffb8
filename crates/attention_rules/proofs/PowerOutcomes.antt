-- What holds of every power-up: its outcome is one, a refused one changes nothing, an accepted one leaves what it found whatever the given state was, and no byte but BUSY changes.
-- Assumes nothing.
use Prim.Native.Nat.{ℕ, ◌+◌, ◌*◌, ◌/◌, ◌%◌, ◌<◌}
use borrow.Author.Tests.{lt-ltb}
use lib.Dec.{eqb, lit<}
use lib.ListN.{length}
use mathlib.Core.Bool.{Bool, true, false, ◌&&◌}
use mathlib.Core.Path.{◌≡◌, refl, sym, ap, ◌∙◌}
use native.Mathlib.Decide.{ℕ_discrete}
use native.Mathlib.Nat.{mod-lt, div-one}
use Rattle.ground_rules.proofs.ConditionLaws.{first-none-right, unless-none}
use Rattle.ground_rules.proofs.FieldLaws.{blank-agree}
use Rattle.ground_rules.proofs.OutcomeLaws.{refused, accepted}
use Rattle.ground_rules.specs.Outcomes.{Outcome, outcome, unless}
use Rattle.ground_rules.specs.Stages.{stages_touched}
use Rattle.ground_rules.specs.States.{idle_channel, sound_channel, sound, agree, busy_in}
use Rattle.ground_rules.specs.declared.State.{State}
use Rattle.ground_rules.proofs.SpanLaws.{span-first}
use Rattle.ground_rules.proofs.StoreLaws.{store_length, read_same, read-other}
use Rattle.ground_rules.specs.Buffers.{Buffers, space_of, lent_at, touchable_at, byte_at, within_limits}
use Rattle.ground_rules.specs.Places.{span, all_touchable, Apart}
use Rattle.ground_rules.specs.Values.{word_at, doubleword_at}
use Rattle.ground_rules.proofs.ChoiceLaws.{both_right}
use Rattle.ground_rules.specs.Bits.{bit_of}
use Rattle.attention_rules.specs.Power.{sysbus_place, configuration_place, configuration_of, control_place, control_of, board_of, power_places, power_stages, touched_by_power, power_number, found_state, found_memory, power_up_of}
use Rattle.attention_rules.proofs.PowerNumbers.{places_row, power-chain, power-number}

module _ (s : State) (m : Buffers) where
  -- two outcomes that meet the contract are equal
  pub unique : (one two : Outcome) → one ≡ power_up_of s m → two ≡ power_up_of s m → one ≡ two
  unique one two p q = p ∙ sym q

  -- a refused power-up is the given state, and changes no byte
  pub power-refused : ¬ ((power_up_of s m).number ≡ 0) → power_up_of s m ≡ outcome (power_up_of s m).number s m
  unfolding power_up_of
  power-refused ne =
      refused (power_number m) s m (found_state m) (found_memory m) (λ z. ne (power-number s m ∙ z))
      ∙ ap (λ (k : ℕ). outcome k s m) (sym (power-number s m))

  -- an accepted one is what it found
  pub power-accepted : (power_up_of s m).number ≡ 0 → power_up_of s m ≡ outcome 0 (found_state m) (found_memory m)
  unfolding power_up_of
  power-accepted e = accepted (power_number m) s m (found_state m) (found_memory m) (sym (power-number s m) ∙ e)

  -- what holds of the given state and memory, and of what is found, holds of a power-up's outcome
  power-by : (P : Outcome → Type 0) → P (outcome (power_up_of s m).number s m) → P (outcome 0 (found_state m) (found_memory m)) → P (power_up_of s m)
  power-by P given found = go (ℕ_discrete (power_up_of s m).number 0)
    where
      go : Dec ((power_up_of s m).number ≡ 0) → P (power_up_of s m)
      go (yes z) = rw (power-accepted z) found
      go (no ne) = rw (power-refused ne) given

  -- every byte but BUSY of channel 1 is as it was
  pub power_bytes : (tag : Bool) (address : ℕ) → Apart false (busy_in (control_of m)) tag address → byte_at (power_up_of s m).memory tag address ≡ byte_at m tag address
  unfolding found_memory
  power_bytes tag address h =
      power-by (λ (r : Outcome). byte_at r.memory tag address ≡ byte_at m tag address) refl (read-other m false (busy_in (control_of m)) 0 tag address h)

  -- and so is the length of either memory
  pub power-lengths : (tag : Bool) → length (space_of (power_up_of s m).memory tag) ≡ length (space_of m tag)
  unfolding found_memory
  power-lengths tag =
      power-by (λ (r : Outcome). length (space_of r.memory tag) ≡ length (space_of m tag)) refl (store_length m false tag (busy_in (control_of m)) 0)

  -- accepted, it was lent, and is 0
  pub busy-lent : (power_up_of s m).number ≡ 0 → lent_at m false (busy_in (control_of m)) ≡ true
  unfolding touchable_at
  busy-lent e =
      let all : all_touchable m (power_places m) ≡ true = unless-none 2 refl (first-none-right (unless (within_limits m) 11) _ (sym (power-chain m) ∙ sym (power-number s m) ∙ e)) in
      let read = all_touchable m (span false sysbus_place 1) && all_touchable m (span false configuration_place 4) && all_touchable m (span false (configuration_of m) 1) && all_touchable m (span false (control_place m) 4) in
      span-first (touchable_at m) false (busy_in (control_of m)) 1 (both_right read (all_touchable m (span false (busy_in (control_of m)) 1)) (places_row m ∙ all)) (lit< tt)

  pub busy-cleared : (power_up_of s m).number ≡ 0 → byte_at (power_up_of s m).memory false (busy_in (control_of m)) ≡ 0
  unfolding found_memory
  busy-cleared e =
      ap (λ (r : Outcome). byte_at r.memory false (busy_in (control_of m))) (power-accepted e)
      ∙ read_same m false (busy_in (control_of m)) 0 (busy-lent e)

-- the given state makes no difference: not to the number, and where it is accepted to nothing at all
pub power-any : (s s' : State) (m : Buffers) → (power_up_of s m).number ≡ (power_up_of s' m).number
power-any s s' m = power-number s m ∙ sym (power-number s' m)

pub power-same : (s s' : State) (m : Buffers) → (power_up_of s m).number ≡ 0 → power_up_of s m ≡ power_up_of s' m
power-same s s' m e = power-accepted s m e ∙ sym (power-accepted s' m (sym (power-any s s' m) ∙ e))

-- CP has 20 bits
pub control-small : (m : Buffers) → control_of m < 1048576
unfolding control_of doubleword_at
control-small m = mod-lt (word_at m false (control_place m + 2) * 16 + word_at m false (control_place m)) (lit< tt)

-- so the state that is found is sound
pub found-sound : (m : Buffers) → sound (found_state m) ≡ true
unfolding found_state sound sound_channel idle_channel
found-sound m = lt-ltb (control_of m) 1048576 (control-small m)

-- and it is powered up
pub found-powered : (m : Buffers) → (found_state m).board.powered ≡ true
unfolding found_state board_of
found-powered m = refl

-- and its fields are those of CC
pub found-agree : (m : Buffers) → agree (found_state m) ≡ true
unfolding found_state
found-agree m = blank-agree (control_of m) (board_of m)

-- whose bit each mark of the board is, in numbers: the lowest of the byte at FFFF6h, the lowest of SOC, and SOC's next
pub found-marks : (m : Buffers) → let soc = byte_at m false (configuration_of m) in
    ((found_state m).board.sysbus ≡ eqb (byte_at m false 0xFFFF6 % 2) 1) × ((found_state m).board.soc ≡ eqb (soc % 2) 1) × ((found_state m).board.grant ≡ eqb (soc / 2 % 2) 1)
unfolding found_state board_of bit_of
found-marks m = (ap (λ (n : ℕ). eqb (n % 2) 1) (div-one (byte_at m false 0xFFFF6)), ap (λ (n : ℕ). eqb (n % 2) 1) (div-one (byte_at m false (configuration_of m))), refl)

-- eleven bytes are touched
pub power-touches : (m : Buffers) → length (touched_by_power m) ≡ 11
unfolding touched_by_power power_stages stages_touched power_places span
power-touches m = refl
