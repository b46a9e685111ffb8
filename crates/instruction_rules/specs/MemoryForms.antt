-- Instructions whose result goes into memory.
use Rattle.std.specs.Prelude.{Bool, false, [], ◌++◌, ℕ, ltb, Option, Some, None}
use Rattle.ground_rules.specs.Choice.{pick}
use Rattle.ground_rules.specs.Bits.{with_bit}
use Rattle.ground_rules.specs.Buffers.{Buffers}
use Rattle.ground_rules.specs.Values.{pointer, onward}
use Rattle.ground_rules.specs.declared.Pointer.{Pointer}
use Rattle.ground_rules.specs.declared.Channel.{Channel}
use Rattle.ground_rules.specs.Registers.{register_of, tag_of}
use Rattle.instruction_rules.specs.declared.Memory.{Memory}
use Rattle.instruction_rules.specs.declared.Work.{Work}
use Rattle.instruction_rules.specs.declared.Single.{Single}
use Rattle.instruction_rules.specs.Reading.{second_of, second_number_of}
use Rattle.instruction_rules.specs.Lengths.{offset_length}
use Rattle.instruction_rules.specs.Operands.{after_pair, byte_here, bytes_at, further, size_of, effective, grown, operand_at, work_of, single_of, is_move}
use Rattle.instruction_rules.specs.declared.Change.{Change}
use Rattle.instruction_rules.specs.Changes.{nothing, result_to, pointer_to}
use Rattle.instruction_rules.specs.Deeds.{Deed, deed}

-- the bytes that work reads of a memory operand: a move reads none (§6.12)
unfoldable pub read_first : Work → Bool → ℕ
read_first work wide = pick (is_move work) 0 (size_of wide)

-- what the work of a memory operand and another value stores back
unfoldable pub worked_back : Buffers → Pointer → Work → Bool → ℕ → Change
worked_back m at work wide v = result_to at wide (work_of work (operand_at m at wide) v)

-- the deed of such work
unfoldable pub memory_work_deed : Buffers → Channel → Pointer → Work → Memory → ℕ → Deed
memory_work_deed m c tp work o v =
    let at = effective m c o tp in
    deed (bytes_at at (read_first work o.wide)) (grown c o (size_of o.wide)) (worked_back m at work o.wide v)

-- MOV, ADD, OR, AND M,R: the register is read before IX grows (§6.8)
unfoldable pub memory_register_deed : Buffers → Channel → Pointer → Work → ℕ → Memory → Deed
memory_register_deed m c tp work r o = memory_work_deed m c tp work o (register_of c r)

-- MOVI, ADDI, ORI, ANDI M,I
unfoldable pub memory_immediate_deed : Buffers → Channel → Pointer → Work → Memory → Deed
memory_immediate_deed m c tp work o = memory_work_deed m c tp work o (operand_at m (after_pair tp o) o.wide)

-- NOT M, INC M, DEC M
unfoldable pub memory_alone_deed : Buffers → Channel → Pointer → Single → Memory → Deed
memory_alone_deed m c tp single o =
    let at = effective m c o tp in
    deed (bytes_at at (size_of o.wide)) (grown c o (size_of o.wide))
    (result_to at o.wide (single_of single (operand_at m at o.wide)))

-- MOVP M,P: the pointer in its stored form (§6.13)
unfoldable pub movp_store_deed : Buffers → Channel → Pointer → ℕ → Memory → Deed
movp_store_deed m c tp r o =
    deed [] (grown c o 3) (pointer_to (effective m c o tp) (pointer (register_of c r) (tag_of c r)))

-- a byte with one bit made 1 or 0
unfoldable pub bit_written : ℕ → ℕ → Bool → ℕ
bit_written byte bit on = pick (ltb bit 32) (with_bit byte bit on) byte

-- SETB, CLR (§6.15)
unfoldable pub bit_deed : Buffers → Channel → Pointer → Bool → ℕ → Memory → Deed
bit_deed m c tp on bit o =
    let at = effective m c o tp in
    deed (bytes_at at 1) (grown c o 1) (result_to at false (bit_written (byte_here m at) bit on))

-- MOV M,M with its second operand, whose address is formed once IX has grown, and which may grow it again (§6.8)
unfoldable pub mov_operand_deed : Buffers → Channel → Pointer → Memory → Memory → Deed
mov_operand_deed m c tp o q =
    let at = effective m c o tp in
    let pair = after_pair tp o in
    let c₁ = grown c o (size_of o.wide) in
    deed (bytes_at (onward pair 2) (offset_length q) ++ bytes_at at (size_of o.wide))
    (further (grown c₁ q (size_of q.wide)) (offset_length q))
    (result_to (effective m c₁ q pair) o.wide (operand_at m at o.wide))

-- MOV M,M with what its second pair is
unfoldable pub mov_second_deed : Buffers → Channel → Pointer → Memory → Option Memory → Deed
mov_second_deed m c tp o None = record { second = second_number_of None; reads = []; channel = c; change = nothing }
mov_second_deed m c tp o (Some q) = mov_operand_deed m c tp o q

-- what the second pair of a MOV M,M at tp is
unfoldable pub second_at : Buffers → Pointer → Memory → Option Memory
second_at m tp o =
    let pair = after_pair tp o in
    second_of (byte_here m pair) (byte_here m (onward pair 1)) o.wide

-- MOV M,M
unfoldable pub mov_memory_deed : Buffers → Channel → Pointer → Memory → Deed
mov_memory_deed m c tp o = mov_second_deed m c tp o (second_at m tp o)
