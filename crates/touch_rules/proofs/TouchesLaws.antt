-- What each call tells, stage by stage: what it reads and then what it stores, up to where it stops.
-- Assumes nothing.
use Prim.Native.Nat.{ℕ}
use mathlib.Core.Bool.{false, not}
use mathlib.Core.List.{List, [], ◌∷◌, ◌++◌}
use mathlib.Core.Path.{◌≡◌, ap, ◌∙◌}
use Rattle.ground_rules.specs.Buffers.{Buffers}
use Rattle.ground_rules.specs.Outcomes.{unless}
use Rattle.ground_rules.specs.Places.{Place, span}
use Rattle.ground_rules.specs.Stages.{stage}
use Rattle.ground_rules.specs.States.{busy_in}
use Rattle.ground_rules.specs.declared.Channel.{Channel}
use Rattle.ground_rules.specs.declared.Mode.{Mode}
use Rattle.attention_rules.specs.Commands.{command_number}
use Rattle.attention_rules.specs.Power.{sysbus_place, configuration_place, configuration_of, control_place, control_of, power_places, power_stages}
use Rattle.attention_rules.specs.Touched.{read_by, stored_by, others, order_stages}
use Rattle.attention_rules.specs.declared.Order.{Order}
use Rattle.instruction_rules.specs.Changes.{places_of}
use Rattle.instruction_rules.specs.Execute.{decoded_at, deed_from, later_from, stages_from, instruction_stages}
use Rattle.instruction_rules.specs.Operands.{bytes_at}
use Rattle.instruction_rules.specs.Reading.{decoded_number}
use Rattle.schedule_rules.proofs.StoreLaws.{touched-apart}
use Rattle.schedule_rules.specs.Counts.{stores_by}
use Rattle.transfer_rules.specs.Parts.{part_of}
use Rattle.transfer_rules.specs.Steps.{reads_by, bad_mode, stages_by, transfer_stages}
use Rattle.touch_rules.specs.Told.{first_beyond, told_in_stages}
use Rattle.touch_rules.specs.Touches.{told_by_order, told_by_transfer, told_by_instruction}
use Rattle.touch_rules.proofs.ToldLaws.{told_up_to, told-up-to}

-- an order: CCW, then what the command reads and what it stores
pub order-told : (m : Buffers) (o : Order) (mode : Mode)
    → told_by_order m o mode
    ≡ first_beyond m (told_up_to m (stage (span false o.block 1) (command_number o.command mode) ∷ []) (read_by o.command o.block o.pb) (stored_by o.command o.block o.pb))
unfolding told_by_order order_stages others
order-told m o mode = told-up-to m (read_by o.command o.block o.pb) (stored_by o.command o.block o.pb) (stage (span false o.block 1) (command_number o.command mode) ∷ [])

-- what a power-up reads: SYSBUS, the configuration block's pointer, SOC, the control block's pointer
abbrev pub power_reads : Buffers → List Place
power_reads m = span false sysbus_place 1 ++ (span false configuration_place 4 ++ (span false (configuration_of m) 1 ++ span false (control_place m) 4))

-- a power-up: these, then BUSY
pub power-told : (m : Buffers) → told_in_stages m (power_stages m) (span false (busy_in (control_of m)) 1) ≡ first_beyond m (told_up_to m [] (power_reads m) (span false (busy_in (control_of m)) 1))
unfolding power_stages power_places span
power-told m = told-up-to m (power_reads m) (span false (busy_in (control_of m)) 1) []

-- a transfer step: nothing before the mode is judged, then what its part reads and what that stores
pub transfer-told : (c : Channel) (m : Buffers)
    → told_by_transfer c m ≡ first_beyond m (told_up_to m (stage [] (unless (not (bad_mode c)) 5) ∷ []) (reads_by (part_of c) c m) (stores_by (part_of c) c m))
unfolding told_by_transfer transfer_stages stages_by
transfer-told c m =
    ap (λ (ps : List Place). told_in_stages m (stage [] (unless (not (bad_mode c)) 5) ∷ stage ps 0 ∷ []) (stores_by (part_of c) c m)) (touched-apart (part_of c) c m)
    ∙ told-up-to m (reads_by (part_of c) c m) (stores_by (part_of c) c m) (stage [] (unless (not (bad_mode c)) 5) ∷ [])

-- an instruction: its pair, its later bytes, what its deed reads, and what it stores
pub instruction-told : (m : Buffers) (c : Channel) (busy : ℕ)
    → let d = decoded_at m c.tp in
    let done = deed_from d m c busy in
    told_by_instruction m c busy
    ≡ first_beyond m (told_up_to m (stage (bytes_at c.tp 2) (decoded_number d) ∷ stage (later_from d c) done.second ∷ []) done.reads (places_of done.change))
unfolding told_by_instruction instruction_stages stages_from
instruction-told m c busy =
    let d = decoded_at m c.tp in
    let done = deed_from d m c busy in
    told-up-to m done.reads (places_of done.change) (stage (bytes_at c.tp 2) (decoded_number d) ∷ stage (later_from d c) done.second ∷ [])
