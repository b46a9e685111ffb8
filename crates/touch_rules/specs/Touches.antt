-- What each call touches, told beforehand: the list of its stages with reads and stores told apart, up to where it stops; nothing where what it is given refuses it (§17.2, §17.3).
use Rattle.std.specs.Prelude.{false, List, [], ◌∷◌, ℕ, eqb}
use Rattle.ground_rules.specs.Choice.{pick}
use Rattle.ground_rules.specs.Buffers.{Buffers, within_limits}
use Rattle.ground_rules.specs.Places.{Place, span}
use Rattle.ground_rules.specs.Psw.{transferring}
use Rattle.ground_rules.specs.States.{channel_of, is_second, block_of, busy_in}
use Rattle.ground_rules.specs.declared.Channel.{Channel}
use Rattle.ground_rules.specs.declared.Mode.{Mode}
use Rattle.ground_rules.specs.declared.Pointer.{Pointer}
use Rattle.ground_rules.specs.declared.State.{State}
use Rattle.attention_rules.specs.Attention.{order_to, given_to}
use Rattle.attention_rules.specs.Power.{control_of, power_stages}
use Rattle.attention_rules.specs.Touched.{stored_by, order_stages}
use Rattle.attention_rules.specs.declared.Order.{Order}
use Rattle.instruction_rules.specs.Changes.{places_of}
use Rattle.instruction_rules.specs.Execute.{decoded_at, deed_from, instruction_stages}
use Rattle.transfer_rules.specs.Parts.{part_of}
use Rattle.transfer_rules.specs.Steps.{transfer_stages}
use Rattle.schedule_rules.specs.Counts.{stores_by}
use Rattle.turn_rules.specs.Choosing.{choice_of}
use Rattle.turn_rules.specs.Step.{entry_number}
use Rattle.turn_rules.specs.declared.Choice.{Choice}
use Rattle.turn_rules.specs.declared.Choice.TheVariants.{Nobody, Ends, Steps}
use Rattle.block_rules.specs.Premises.{from, into}
use Rattle.sweep_rules.specs.Sweep.{sweep_number}
use Rattle.touch_rules.specs.Told.{Told, told_read, told_store, told_in_stages}

-- of an order to a channel in some mode (§17.2)
unfoldable pub told_by_order : Buffers → Order → Mode → List Told
told_by_order m o mode = told_in_stages m (order_stages o mode) (stored_by o.command o.block o.pb)

-- of an attention; none where it is refused by 12, 11, 10, 13 or 14 (§17.3)
unfoldable pub told_by_attention : State → Buffers → ℕ → List Told
told_by_attention s m channel =
    pick (eqb (given_to s m channel) 0) (told_by_order m (order_to s m (is_second channel)) (channel_of s (is_second channel)).mode) []

-- of a power-up, which stores BUSY of channel 1; none where it is refused by 11 (§17.3)
unfoldable pub told_by_power : Buffers → List Told
told_by_power m = pick (within_limits m) (told_in_stages m (power_stages m) (span false (busy_in (control_of m)) 1)) []

-- of a channel's next transfer step; a bad mode stops it before its first byte (§17.3)
unfoldable pub told_by_transfer : Channel → Buffers → List Told
told_by_transfer c m = told_in_stages m (transfer_stages c m) (stores_by (part_of c) c m)

-- of a channel's next instruction, which stores its change (§17.2)
unfoldable pub told_by_instruction : Buffers → Channel → ℕ → List Told
told_by_instruction m c busy =
    told_in_stages m (instruction_stages m c busy) (places_of (deed_from (decoded_at m c.tp) m c busy).change)

-- of what was chosen; none of an external end (§17.2)
unfoldable pub told_by_choice : Choice → State → Buffers → List Told
told_by_choice Nobody s m = []
told_by_choice (Ends second) s m = []
told_by_choice (Steps second) s m =
    pick (transferring (channel_of s second).psw)
    (told_by_transfer (channel_of s second) m)
    (told_by_instruction m (channel_of s second) (busy_in (block_of s second)))

-- of a step; none where it is refused by 12, 11, 10, 13, 14 or 1 (§17.3)
unfoldable pub told_by_step : State → Buffers → ℕ → List Told
told_by_step s m lines = pick (eqb (entry_number s m lines) 0) (told_by_choice (choice_of s lines) s m) []

-- the place that a pointer points to
abbrev pub pointed_place : Pointer → Place
pointed_place p = record { tag = p.tag; address = p.address }

-- of a sweep its two ranges, of BC bytes each, by where they begin; none where it is refused (§17.2)
unfoldable pub told_by_sweep : State → Buffers → ℕ → ℕ → List Told
told_by_sweep s m channel lines =
    let c = channel_of s (is_second channel) in
    pick (eqb (sweep_number s m channel lines) 0) (told_read (pointed_place (from c)) ∷ told_store (pointed_place (into c)) ∷ []) []
