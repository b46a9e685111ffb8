-- The held byte of a channel: its number is below 512 where it is a byte, and every call leaves each channel a byte or nothing where it was given such and memory is of bytes.
-- Assumes nothing.
use Rattle.std.proofs.Common.{Option, ℕ, None, Some}
use Prim.Native.Nat.{ℕ, ◌+◌, ◌<◌}
use denote.Enum.Declared.{shape}
use denote.Enum.Enum.{Enum}
use denote.Laws.{Is}
use lib.Dec.{lit<}
use mathlib.Core.Bool.{Bool, true, false}
use mathlib.Core.List.{List}
use mathlib.Core.Path.{◌≡◌, refl, sym, ap}
use mir.Val.{Val}
use native.Mathlib.Decide.{ℕ_discrete}
use native.Mathlib.Omega.{arith}
use Rattle.ground_rules.specs.Choice.{pick}
use Rattle.ground_rules.specs.Buffers.{Buffers, AllBytes, byte_at}
use Rattle.ground_rules.proofs.HoldingLaws.{HeldFits}
use Rattle.ground_rules.proofs.OutcomeLaws.{settled-state}
use Rattle.ground_rules.specs.Holdings.{held_number}
use Rattle.ground_rules.specs.States.{idle_channel, channel_of, with_channel, with_last, is_second}
use Rattle.ground_rules.specs.Updates.{with_control, with_transfer, holding, halted}
use Rattle.ground_rules.specs.declared.Channel.{Channel}
use Rattle.ground_rules.specs.declared.State.{State}
use Rattle.attention_rules.specs.Attention.{order_to, channel_attended, ordered_memory, attention_number, attention_of}
use Rattle.attention_rules.specs.Effects.{started, suspended, resumed, commanded, channel_ordered}
use Rattle.attention_rules.specs.declared.Command.{Command}
use Rattle.attention_rules.specs.declared.Command.TheVariants.{Update, StartLocal, StartSystem, Suspend, Resume, Halt, Unknown}
use Rattle.attention_rules.specs.Power.{found_state}
use Rattle.transfer_rules.proofs.StepLaws.{by_number}
use Rattle.transfer_rules.specs.Ends.{ended_by, externally_ended}
use Rattle.transfer_rules.specs.Parts.{Part, Whole, FirstFetch, SecondFetch, FirstStore, SecondStore, part_of}
use Rattle.transfer_rules.specs.Reads.{fetched, fetched_second, data_of}
use Rattle.transfer_rules.specs.Sides.{source, second_address, two_move}
use Rattle.transfer_rules.specs.Steps.{channel_by, transfer_of}
use Rattle.transfer_rules.specs.Stores.{first_meets, moved_by, move_over, moved_channel}
use Rattle.instruction_rules.proofs.ChannelLaws.{execute-drops}
use Rattle.instruction_rules.proofs.OutcomeLaws.{refused}
use Rattle.instruction_rules.specs.Execute.{Executed, execute_of}
use Rattle.turn_rules.proofs.OutcomeLaws.{by-step}
use Rattle.turn_rules.specs.Step.{step_of}

-- each channel holds a byte or nothing
abbrev pub HeldFit : State → Type 0
HeldFit s = HeldFits s.first.held × HeldFits s.second.held

-- ---- as a number, and of its type

pub held_small : (h : Option ℕ) → HeldFits h → held_number h < 512
unfolding held_number
held_small None f = lit< tt
held_small (Some byte) f = omega (arith, f)

pub small-held : (h : Option ℕ) → held_number h < 512 → HeldFits h
unfolding held_number
small-held None f = tt
small-held (Some byte) f = omega (arith, f)

-- ---- a channel of a state

pub channel-held : (s : State) (b : Bool) → HeldFit s → HeldFits (channel_of s b).held
unfolding channel_of
channel-held s true h = h.1
channel-held s false h = h.0

put-held : (s : State) (b : Bool) (c : Channel) → HeldFit s → HeldFits c.held → HeldFit (with_channel s b c)
unfolding with_channel
put-held s true c h k = (h.0, k)
put-held s false c h k = (k, h.1)

pub done_held : (s : State) (b : Bool) (c : Channel) → HeldFit s → HeldFits c.held → HeldFit (with_last (with_channel s b c) b)
unfolding with_last
done_held s b c h k = put-held s b c h k

-- ---- power-up and attention

-- what a power-up finds holds nothing
pub found-held : (m : Buffers) → HeldFit (found_state m)
unfolding found_state idle_channel
found-held m = (tt, tt)

-- a command keeps what is held or drops it
commanded-held : (k : Command) (m : Buffers) (pb : ℕ) (c : Channel) → HeldFits c.held → HeldFits (commanded k m pb c).held
unfolding commanded started suspended resumed halted with_control
commanded-held Update m pb c h = h
commanded-held StartLocal m pb c h = tt
commanded-held StartSystem m pb c h = tt
commanded-held Suspend m pb c h = h
commanded-held Resume m pb c h = h
commanded-held Halt m pb c h = tt
commanded-held Unknown m pb c h = h

ordered-held : (s : State) (m : Buffers) (b : Bool) → HeldFit s → HeldFits (channel_attended s m b).held
unfolding channel_attended channel_ordered with_control
ordered-held s m b h = commanded-held (order_to s m b).command m (order_to s m b).pb (channel_of s b) (channel-held s b h)

pub attention-held : (s : State) (m : Buffers) (channel : ℕ) → HeldFit s → HeldFit (attention_of s m channel).state
unfolding attention_of
attention-held s m channel h =
    let b = is_second channel in
    settled-state HeldFit (attention_number s m channel) s m (with_channel s b (channel_attended s m b)) (ordered_memory s m b) h
    (put-held s b (channel_attended s m b) h (ordered-held s m b h))

-- ---- a step

-- what is fetched is a byte
pub second-small : (c : Channel) (m : Buffers) → AllBytes m → fetched_second c m < 256
unfolding fetched_second
second-small c m all = go (two_move c)
  where
    go : (b : Bool) → pick b (byte_at m (source c).pointer.tag (second_address (source c))) 0 < 256
    go true = all (source c).pointer.tag (second_address (source c))
    go false = lit< tt

-- a first half holds such a byte, and no other part holds any
part_held : (k : Part) (c : Channel) (m : Buffers) → AllBytes m → HeldFits (channel_by k c m).held
unfolding channel_by moved_channel move_over ended_by moved_by with_transfer fetched
part_held Whole c m all = tt
part_held FirstFetch c m all = all (source c).pointer.tag (source c).pointer.address
part_held (SecondFetch byte) c m all = tt
part_held FirstStore c m all = go (first_meets c (data_of c m))
  where
    go : (b : Bool) → HeldFits (pick b (moved_channel c (data_of c m)) (holding c (Some (fetched_second c m)))).held
    go true = tt
    go false = second-small c m all
part_held (SecondStore byte) c m all = tt

transfer-held : (c : Channel) (m : Buffers) → AllBytes m → HeldFits c.held → HeldFits (transfer_of c m).channel.held
transfer-held c m all h = by_number c m (λ o. HeldFits o.channel.held) (λ g. h) (λ g. h) (λ g. part_held (part_of c) c m all)

-- an instruction drops what is held, a refused one keeps it
execute-held : (c : Channel) (busy : ℕ) (m : Buffers) → HeldFits c.held → HeldFits (execute_of c busy m).channel.held
execute-held c busy m h = go (ℕ_discrete (execute_of c busy m).number 0)
  where
    go : Dec ((execute_of c busy m).number ≡ 0) → HeldFits (execute_of c busy m).channel.held
    go (yes z) = rw (execute-drops c busy m z) tt
    go (no ne) = rw (refused c busy m ne) h

-- an external end drops it
external-held : (c : Channel) → HeldFits (externally_ended c).held
unfolding externally_ended ended_by with_transfer
external-held c = tt

pub step-held : (s : State) (m : Buffers) (lines : ℕ) → AllBytes m → HeldFit s → HeldFit (step_of s m lines).state
step-held s m lines all h =
    by-step s m lines (λ o. HeldFit o.state) (λ k ne. h)
    (λ b z e. done_held s b _ h (external-held (channel_of s b)))
    (λ b z e f. done_held s b _ h (transfer-held (channel_of s b) m all (channel-held s b h)))
    (λ b z e f. done_held s b _ h (execute-held (channel_of s b) _ m (channel-held s b h)))
