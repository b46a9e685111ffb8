-- One instruction of a channel: decoded, tested stage by stage, and done or refused (§6.22).
use Rattle.std.specs.Prelude.{Bool, List, [], ◌∷◌, ◌++◌, ℕ, ◌-◌, eqb, Ok, Err}
use Rattle.ground_rules.specs.Choice.{pick}
use Rattle.ground_rules.specs.Buffers.{Buffers}
use Rattle.ground_rules.specs.Values.{onward}
use Rattle.ground_rules.specs.Places.{Place}
use Rattle.ground_rules.specs.declared.Pointer.{Pointer}
use Rattle.ground_rules.specs.Outcomes.{counted}
use Rattle.ground_rules.specs.declared.Channel.{Channel}
use Rattle.ground_rules.specs.Stages.{Stage, stage, stages_number, stages_touched}
use Rattle.instruction_rules.specs.declared.Shape.{Shape}
use Rattle.instruction_rules.specs.declared.Shape.TheVariants.{Nop, Sintr, Xfer, Wid, Hlt, Lpdi, RegisterImmediate, Register, JumpRegister, RegisterMemory, MemoryRegister, MemoryImmediate, MemoryAlone, JumpMemory, Lpd, MovpLoad, MovpStore, MovMemory, Tsl, Call, JumpMasked, JumpBit, Bit}
use Rattle.instruction_rules.specs.Decoded.{Decoded}
use Rattle.instruction_rules.specs.Reading.{decode_of, decoded_number}
use Rattle.instruction_rules.specs.Lengths.{length_of}
use Rattle.instruction_rules.specs.Operands.{byte_here, bytes_at}
use Rattle.instruction_rules.specs.Marks.{past_instruction}
use Rattle.instruction_rules.specs.Changes.{places_of, changed, nothing}
use Rattle.instruction_rules.specs.Deeds.{Deed, deed}
use Rattle.instruction_rules.specs.Control.{nop_deed, sintr_deed, xfer_deed, wid_deed, hlt_deed}
use Rattle.instruction_rules.specs.RegisterForms.{register_immediate_deed, register_deed, register_memory_deed, lpdi_deed, lpd_deed, movp_load_deed}
use Rattle.instruction_rules.specs.MemoryForms.{memory_register_deed, memory_immediate_deed, memory_alone_deed, movp_store_deed, bit_deed, mov_memory_deed}
use Rattle.instruction_rules.specs.JumpForms.{jump_register_deed, jump_memory_deed, jump_masked_deed, jump_bit_deed, tsl_deed, call_deed}

-- what the first two bytes of an instruction are
unfoldable pub decoded_at : Buffers → Pointer → Decoded
decoded_at m tp = decode_of (byte_here m tp) (byte_here m (onward tp 1))

-- what an instruction of each shape does, `c` with TP past it and the mark used up, `tp` where it stands, `armed` whether it was marked
unfoldable pub performed : Shape → Buffers → Channel → Pointer → Bool → ℕ → Deed
performed Nop m c tp armed busy = nop_deed c
performed Sintr m c tp armed busy = sintr_deed c
performed Xfer m c tp armed busy = xfer_deed c armed
performed (Wid source destination) m c tp armed busy = wid_deed c source destination
performed Hlt m c tp armed busy = hlt_deed c busy
performed (Lpdi ppp) m c tp armed busy = lpdi_deed m c tp ppp
performed (RegisterImmediate work rrr wide) m c tp armed busy = register_immediate_deed m c tp work rrr wide
performed (Register single rrr) m c tp armed busy = register_deed c single rrr
performed (JumpRegister zero rrr two) m c tp armed busy = jump_register_deed m c tp zero rrr two
performed (RegisterMemory work rrr o) m c tp armed busy = register_memory_deed m c tp work rrr o
performed (MemoryRegister work rrr o) m c tp armed busy = memory_register_deed m c tp work rrr o
performed (MemoryImmediate work o) m c tp armed busy = memory_immediate_deed m c tp work o
performed (MemoryAlone single o) m c tp armed busy = memory_alone_deed m c tp single o
performed (JumpMemory zero o two) m c tp armed busy = jump_memory_deed m c tp zero o two
performed (Lpd ppp o) m c tp armed busy = lpd_deed m c tp ppp o
performed (MovpLoad ppp o) m c tp armed busy = movp_load_deed m c tp ppp o
performed (MovpStore ppp o) m c tp armed busy = movp_store_deed m c tp ppp o
performed (MovMemory o) m c tp armed busy = mov_memory_deed m c tp o
performed (Tsl o) m c tp armed busy = tsl_deed m c tp o
performed (Call o two) m c tp armed busy = call_deed m c tp o two
performed (JumpMasked equal o two) m c tp armed busy = jump_masked_deed m c tp equal o two
performed (JumpBit set bit o two) m c tp armed busy = jump_bit_deed m c tp set bit o two
performed (Bit on bit o) m c tp armed busy = bit_deed m c tp on bit o

-- the deed of a channel's instruction of some shape
unfoldable pub deed_of : Shape → Buffers → Channel → ℕ → Deed
deed_of s m c busy = performed s m (past_instruction c (length_of s)) c.tp c.armed busy

-- the bytes after the pair: offset byte, data, displacement, and both bytes of a second pair (§6.6)
unfoldable pub later_bytes : Shape → Channel → List Place
later_bytes s c = bytes_at (onward c.tp 2) (length_of s - 2)

-- the deed where there is an instruction; where there is none, none
unfoldable pub deed_from : Decoded → Buffers → Channel → ℕ → Deed
deed_from (Ok s) m c busy = deed_of s m c busy
deed_from (Err unread) m c busy = deed [] c nothing

-- the bytes after the pair where it is an instruction
unfoldable pub later_from : Decoded → Channel → List Place
later_from (Ok s) c = later_bytes s c
later_from (Err unread) c = []

-- how many bytes it then has, without the offset byte of a second pair
unfoldable pub length_from : Decoded → ℕ
length_from (Ok s) = length_of s
length_from (Err unread) = 0

-- the stages of an instruction, d being what its first two bytes are
unfoldable pub stages_from : Decoded → Buffers → Channel → ℕ → List Stage
stages_from d m c busy =
    let done = deed_from d m c busy in
    -- its first two bytes; then 3 and 4, as far as they show
    stage (bytes_at c.tp 2) (decoded_number d)
    -- the later bytes, up to and with a second pair; then 3 from that pair
    ∷ stage (later_from d c) done.second
    -- the offset byte of a second pair, the operand bytes that are read and those that are stored to, for HLT its BUSY byte
    ∷ stage (done.reads ++ places_of done.change) 0
    ∷ []

-- the stages of a channel's next instruction
unfoldable pub instruction_stages : Buffers → Channel → ℕ → List Stage
instruction_stages m c busy = stages_from (decoded_at m c.tp) m c busy

-- the number of an instruction
unfoldable pub execute_number : Buffers → Channel → ℕ → ℕ
execute_number m c busy = stages_number m (instruction_stages m c busy)

-- which bytes an instruction touches, each access once
unfoldable pub touched_by_instruction : Buffers → Channel → ℕ → List Place
touched_by_instruction m c busy = stages_touched (instruction_stages m c busy)

-- what an instruction of a channel leaves: number, channel and memory
pub record Executed : Type 0 where
  pub number : ℕ
  pub channel : Channel
  pub memory : Buffers

abbrev pub executed : ℕ → Channel → Buffers → Executed
executed number c m = record { number = number; channel = c; memory = m }

-- a refused instruction leaves the channel and changes no byte; any other does its deed
unfoldable pub execute_of : Channel → ℕ → Buffers → Executed
execute_of c busy m =
    let number = execute_number m c busy in
    let done = deed_from (decoded_at m c.tp) m c busy in
    pick (eqb number 0) (executed 0 done.channel (changed m done.change)) (executed number c m)

-- how many bytes an instruction reads and stores; none where it is refused
unfoldable pub execute_count : Channel → ℕ → Buffers → ℕ
execute_count c busy m = counted (execute_of c busy m).number (touched_by_instruction m c busy)
