-- Memory of bytes stays such: every call leaves it so where it was given it so, PSW of the channel that gets an attention is a byte, and what is held is a byte or nothing.
-- Assumes nothing.
use Rattle.std.proofs.Common.{Option, ℕ, None, Some}
use Prim.Native.Nat.{ℕ, zero, suc, ◌+◌, ◌%◌, ◌/◌, ◌<◌}
use lib.Dec.{eqb, lit<}
use mathlib.Core.Bool.{Bool, true, false}
use native.Mathlib.Omega.{arith}
use Rattle.ground_rules.proofs.ByteLaws.{store_bytes, stored_bytes}
use Rattle.ground_rules.proofs.HoldingLaws.{HeldFits}
use Rattle.ground_rules.specs.Buffers.{Buffers, AllBytes, byte_at, store_byte}
use Rattle.ground_rules.specs.Choice.{pick}
use Rattle.ground_rules.specs.Outcomes.{outcome, settled}
use Rattle.ground_rules.specs.States.{channel_of, is_second, block_of, busy_in}
use Rattle.ground_rules.specs.declared.Channel.{Channel}
use Rattle.ground_rules.specs.declared.Pointer.{Pointer}
use Rattle.ground_rules.specs.declared.State.{State}
use Rattle.attention_rules.specs.Attention.{order_to, ordered_memory, attention_number, attention_of}
use Rattle.attention_rules.specs.Effects.{saved, marked, stored_memory}
use Rattle.attention_rules.specs.Power.{control_of, power_number, found_memory, power_up_of}
use Rattle.attention_rules.specs.declared.Command.{Command}
use Rattle.attention_rules.specs.declared.Command.TheVariants.{Update, StartLocal, StartSystem, Suspend, Resume, Halt, Unknown}
use Rattle.transfer_rules.proofs.StepLaws.{by_number}
use Rattle.transfer_rules.specs.Halves.{word_with}
use Rattle.transfer_rules.specs.Parts.{Part, Whole, FirstFetch, SecondFetch, FirstStore, SecondStore, fetches_apart, stores_apart, fetch_part, store_part, part_of}
use Rattle.transfer_rules.specs.Reads.{fetched, entry_of, delivered, data_of}
use Rattle.transfer_rules.specs.Sides.{source, destination, second_address}
use Rattle.transfer_rules.specs.Steps.{memory_by, transfer_of}
use Rattle.transfer_rules.specs.Stores.{stores_two, put_on, moved_memory}
use Rattle.transfer_rules.specs.declared.Data.{Data}
use Rattle.instruction_rules.proofs.OutcomeLaws.{by_number as by-instruction}
use Rattle.instruction_rules.specs.Changes.{changed}
use Rattle.instruction_rules.specs.Execute.{execute_of}
use Rattle.instruction_rules.specs.declared.Change.{Change}
use Rattle.turn_rules.proofs.OutcomeLaws.{by-step}
use Rattle.turn_rules.specs.Step.{step_of}
use Rattle.sweep_rules.specs.Copies.{copied_on}
use Rattle.sweep_rules.specs.Sweep.{refused_sweep, done_sweep, sweep_number, sweep_of}
use Rattle.state_rules.proofs.HeldLaws.{HeldFit, channel-held, second-small}

-- one of two memories that are of bytes is
either : (b : Bool) (m m' : Buffers) → AllBytes m → AllBytes m' → AllBytes (pick b m m')
either true m m' all all' = all
either false m m' all all' = all'

-- a call that is done or refused leaves one of two memories
settled-bytes : (number : ℕ) (s : State) (m : Buffers) (s' : State) (m' : Buffers) → AllBytes m → AllBytes m' → AllBytes (settled number s m s' m').memory
unfolding settled
settled-bytes number s m s' m' all all' = go (eqb number 0)
  where
    go : (b : Bool) → AllBytes (pick b (outcome 0 s' m') (outcome number s m)).memory
    go true = all'
    go false = all

-- ---- attention and power-up

-- what an order stores are bytes: the pointer's three, PSW as the channel has it, and BUSY as FFh or 0
order-bytes : (k : Command) (m : Buffers) (block pb : ℕ) (c : Channel) → AllBytes m → c.psw < 256 → AllBytes (stored_memory k m block pb c)
unfolding stored_memory saved marked
order-bytes Update m block pb c all psw = all
order-bytes StartLocal m block pb c all psw = store_bytes m false (busy_in block) 255 all (lit< tt)
order-bytes StartSystem m block pb c all psw = store_bytes m false (busy_in block) 255 all (lit< tt)
order-bytes Suspend m block pb c all psw =
    store_bytes _ false (busy_in block) 0 (store_bytes _ false (pb + 3) c.psw (stored_bytes m false pb c.tp all) psw) (lit< tt)
order-bytes Resume m block pb c all psw = store_bytes m false (busy_in block) 255 all (lit< tt)
order-bytes Halt m block pb c all psw = store_bytes m false (busy_in block) 0 all (lit< tt)
order-bytes Unknown m block pb c all psw = all

pub attention-of-bytes : (s : State) (m : Buffers) (channel : ℕ) → AllBytes m → (channel_of s (is_second channel)).psw < 256 → AllBytes (attention_of s m channel).memory
unfolding attention_of ordered_memory
attention-of-bytes s m channel all psw =
    let b = is_second channel in
    let o = order_to s m b in
    settled-bytes (attention_number s m channel) s m _ (ordered_memory s m b) all (order-bytes o.command m o.block o.pb (channel_of s b) all psw)

pub power-of-bytes : (s : State) (m : Buffers) → AllBytes m → AllBytes (power_up_of s m).memory
unfolding power_up_of found_memory
power-of-bytes s m all = settled-bytes (power_number m) s m _ (found_memory m) all (store_bytes m false (busy_in (control_of m)) 0 all (lit< tt))

-- ---- a step

-- an instruction's change is made byte by byte
changed-bytes : (m : Buffers) (ch : Change) → AllBytes m → AllBytes (changed m ch)
unfolding changed
changed-bytes m ch all =
    let tag = ch.at.tag in
    let a = ch.at.address in
    let one = store_byte m tag a (ch.value % 256) in
    let two = store_byte one tag (a + 1) (ch.value / 256 % 256) in
    let three = store_byte two tag (a + 2) (ch.value / 65536 % 256) in
    let first : AllBytes one = store_bytes m tag a _ all (omega arith) in
    let second : AllBytes two = store_bytes one tag (a + 1) _ first (omega arith) in
    let third : AllBytes three = store_bytes two tag (a + 2) _ second (omega arith) in
    either (eqb ch.count 0) m _ all (either (eqb ch.count 1) one _ first (either (eqb ch.count 2) two three second third))

execute-of-bytes : (c : Channel) (busy : ℕ) (m : Buffers) → AllBytes m → AllBytes (execute_of c busy m).memory
execute-of-bytes c busy m all = by-instruction c busy m (λ o. AllBytes o.memory) (λ n ne. all) (λ s e z. changed-bytes m _ all)

-- what a transfer step stores was read, or is the byte that was held
put-bytes : (c : Channel) (d : Data) (m : Buffers) → AllBytes m → d.first < 256 → d.second < 256 → AllBytes (moved_memory c d m)
unfolding moved_memory put_on
put-bytes c d m all low high =
    let s = destination c in
    let one : AllBytes (store_byte m s.pointer.tag s.pointer.address d.first) = store_bytes m _ _ d.first all low in
    either (stores_two c d) _ _ (store_bytes _ s.pointer.tag (second_address s) d.second one high) one

delivered-small : (c : Channel) (m : Buffers) → AllBytes m → delivered c m < 256
unfolding delivered fetched
delivered-small c m all = go c.fields.translates
  where
    go : (b : Bool) → pick b (byte_at m c.gc.tag (entry_of c m)) (byte_at m (source c).pointer.tag (source c).pointer.address) < 256
    go true = all c.gc.tag (entry_of c m)
    go false = all (source c).pointer.tag (source c).pointer.address

-- the byte that a part goes on with is one
PartFits : Part → Type 0
PartFits Whole = Unit {0}
PartFits FirstFetch = Unit {0}
PartFits (SecondFetch byte) = byte < 256
PartFits FirstStore = Unit {0}
PartFits (SecondStore byte) = byte < 256

part-of-bytes : (k : Part) (c : Channel) (m : Buffers) → AllBytes m → PartFits k → AllBytes (memory_by k c m)
unfolding memory_by data_of word_with PartFits
part-of-bytes Whole c m all h = put-bytes c (data_of c m) m all (delivered-small c m all) (second-small c m all)
part-of-bytes FirstFetch c m all h = all
part-of-bytes (SecondFetch byte) c m all h = put-bytes c (word_with byte c m) m all h (second-small c m all)
part-of-bytes FirstStore c m all h = store_bytes m _ _ (delivered c m) all (delivered-small c m all)
part-of-bytes (SecondStore byte) c m all h = store_bytes m _ _ byte all h

part-fits : (c : Channel) → HeldFits c.held → PartFits (part_of c)
unfolding part_of fetch_part store_part PartFits
part-fits c h = go (fetches_apart c) (stores_apart c) c.held h
  where
    go : (b d : Bool) (k : Option ℕ) → HeldFits k → PartFits (pick b (fetch_part k) (pick d (store_part k) Whole))
    go true d None f = tt
    go true d (Some byte) f = f
    go false true None f = tt
    go false true (Some byte) f = f
    go false false k f = tt

transfer-of-bytes : (c : Channel) (m : Buffers) → AllBytes m → HeldFits c.held → AllBytes (transfer_of c m).memory
transfer-of-bytes c m all h = by_number c m (λ o. AllBytes o.memory) (λ g. all) (λ g. all) (λ g. part-of-bytes (part_of c) c m all (part-fits c h))

pub step-of-bytes : (s : State) (m : Buffers) (lines : ℕ) → AllBytes m → HeldFit s → AllBytes (step_of s m lines).memory
step-of-bytes s m lines all h =
    by-step s m lines (λ o. AllBytes o.memory) (λ k ne. all) (λ b z e. all)
    (λ b z e f. transfer-of-bytes (channel_of s b) m all (channel-held s b h))
    (λ b z e f. execute-of-bytes (channel_of s b) (busy_in (block_of s b)) m all)

-- ---- a sweep

copied-bytes : (m : Buffers) (p q : Pointer) (n : ℕ) → AllBytes m → AllBytes (copied_on m p q n)
unfolding copied_on
copied-bytes m p q zero all = all
copied-bytes m p q (suc n) all =
    let before = copied-bytes m p q n all in
    store_bytes _ q.tag (q.address + n) _ before (before p.tag (p.address + n))

pub sweep-of-bytes : (s : State) (m : Buffers) (channel lines : ℕ) → AllBytes m → AllBytes (sweep_of s m channel lines).memory
unfolding sweep_of done_sweep
sweep-of-bytes s m channel lines all = go (eqb (sweep_number s m channel lines) 0)
  where
    go : (b : Bool) → AllBytes (pick b (done_sweep s m (is_second channel)) (refused_sweep (sweep_number s m channel lines) s m)).memory
    go true = copied-bytes m _ _ _ all
    go false = all
