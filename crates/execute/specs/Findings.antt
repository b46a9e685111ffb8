-- What an instruction finds: what its shape names, where its operand lies, and what stands there, behind its pair and in its register.
use Rattle.std.specs.Prelude.{ℕ, ◌+◌, Bool, true, false, ◌==◌}
use Rattle.ground_rules.specs.Buffers.{Buffers}
use Rattle.ground_rules.specs.Choice.{pick}
use Rattle.ground_rules.specs.Registers.{register_of, tag_of, base_of}
use Rattle.ground_rules.specs.Sums.{sum20}
use Rattle.ground_rules.specs.Values.{pointer, onward}
use Rattle.ground_rules.specs.declared.Channel.{Channel}
use Rattle.ground_rules.specs.declared.Pointer.{Pointer}
use Rattle.instruction_rules.specs.Lengths.{offset_by}
use Rattle.instruction_rules.specs.Marks.{used_up, past_instruction}
use Rattle.instruction_rules.specs.Operands.{byte_here}
use Rattle.instruction_rules.specs.declared.Memory.{Memory}
use Rattle.instruction_rules.specs.declared.Shape.{Shape}
use Rattle.instruction_rules.specs.declared.Shape.TheVariants.{Nop, Sintr, Xfer, Wid, Hlt, Lpdi, RegisterImmediate, Register, JumpRegister, RegisterMemory, MemoryRegister, MemoryImmediate, MemoryAlone, JumpMemory, Lpd, MovpLoad, MovpStore, MovMemory, Tsl, Call, JumpMasked, JumpBit, Bit}
use Rattle.execute.specs.Bytes.{four_at}
use Rattle.execute.specs.declared.Naming.{Naming}
use Rattle.execute.specs.declared.Finding.{Finding}

abbrev pub naming : Bool → ℕ → ℕ → ℕ → Naming
naming memory mm aa rrr = record { memory = memory; mm = mm; aa = aa; rrr = rrr }

-- a memory operand, and the register that is read besides
abbrev pub naming_both : ℕ → Memory → Naming
naming_both rrr o = naming true o.mm o.aa rrr

-- a register alone
abbrev pub naming_one : ℕ → Naming
naming_one rrr = naming false 3 0 rrr

-- what each shape names; where it reads no register, MC stands for it
unfoldable pub naming_of : Shape → Naming
naming_of Nop = naming_one 7
naming_of Sintr = naming_one 7
naming_of Xfer = naming_one 7
naming_of (Wid source destination) = naming_one 7
naming_of Hlt = naming_one 7
naming_of (Lpdi ppp) = naming_one 7
naming_of (RegisterImmediate work rrr wide) = naming_one rrr
naming_of (Register single rrr) = naming_one rrr
naming_of (JumpRegister zero rrr two) = naming_one rrr
naming_of (RegisterMemory work rrr o) = naming_both rrr o
naming_of (MemoryRegister work rrr o) = naming_both rrr o
naming_of (MemoryImmediate work o) = naming_both 7 o
naming_of (MemoryAlone single o) = naming_both 7 o
naming_of (JumpMemory zero o two) = naming_both 7 o
naming_of (Lpd ppp o) = naming_both 7 o
naming_of (MovpLoad ppp o) = naming_both 7 o
naming_of (MovpStore ppp o) = naming_both ppp o
naming_of (MovMemory o) = naming_both 7 o
naming_of (Tsl o) = naming_both 7 o
naming_of (Call o two) = naming_both 7 o
naming_of (JumpMasked equal o two) = naming_both 7 o
naming_of (JumpBit set bit o two) = naming_both 7 o
naming_of (Bit on bit o) = naming_both 7 o

-- the four bytes behind a pair and its offset byte
unfoldable pub behind_at : Buffers → Pointer → ℕ → ℕ
behind_at m p aa = four_at m p.tag (p.address + (2 + offset_by aa))

-- what AA adds to the base
unfoldable pub index_named : Buffers → Channel → ℕ → ℕ
index_named m c aa = pick (aa == 0) 0 (pick (aa == 1) (byte_here m (onward c.tp 2)) c.ix)

-- where the operand lies that is named; where none is, at 0 of system memory
unfoldable pub place_named : Buffers → Channel → Naming → Pointer
place_named m c n = pick n.memory (onward (base_of c n.mm) (index_named m c n.aa)) (pointer 0 false)

-- what an instruction of a shape and n bytes finds
unfoldable pub finding_of : Buffers → Channel → Shape → ℕ → Finding
finding_of m c s n =
    let k = naming_of s in
    let p = place_named m c k in
    record {
      tp = sum20 c.tp.address n;
      code = c.tp.tag;
      ix = c.ix;
      mc = c.mc;
      psw = used_up c.armed c.psw;
      armed = c.armed;
      at = p.address;
      space = p.tag;
      operand = pick k.memory (four_at m p.tag p.address) 0;
      behind = behind_at m c.tp k.aa;
      value = register_of (past_instruction c n) k.rrr;
      tag = tag_of c k.rrr;
    }
