-- `execute::findings::named` meets its contract.
-- Assumes nothing.
use Rattle.execute.specs.Findings.{naming_of}
use Rattle.execute.proofs.findings.named.Goals as goal

pub returns-in-Nop : goal.returns-in-Nop
unfolding naming_of
returns-in-Nop c = simp (← c.without_memory.ensures, c.in-Nop.is, c.in-Nop.in-Nop-own.keys1)

pub returns-in-Sintr : goal.returns-in-Sintr
unfolding naming_of
returns-in-Sintr c = simp (← c.without_memory-in-Sintr.ensures, c.in-Sintr.is, c.in-Sintr.in-Sintr-own.keys2)

pub returns-in-Xfer : goal.returns-in-Xfer
unfolding naming_of
returns-in-Xfer c = simp (← c.without_memory-in-Xfer.ensures, c.in-Xfer.is, c.in-Xfer.in-Xfer-own.keys3)

pub returns-in-Wid : goal.returns-in-Wid
unfolding naming_of
returns-in-Wid c = simp (← c.without_memory-in-Wid.ensures, c.in-Wid.is, c.in-Wid.in-Wid-own.keys4)

pub returns-in-Hlt : goal.returns-in-Hlt
unfolding naming_of
returns-in-Hlt c = simp (← c.without_memory-in-Hlt.ensures, c.in-Hlt.is, c.in-Hlt.in-Hlt-own.keys5)

pub returns-in-Lpdi : goal.returns-in-Lpdi
unfolding naming_of
returns-in-Lpdi c = simp (← c.without_memory-in-Lpdi.ensures, c.in-Lpdi.is, c.in-Lpdi.in-Lpdi-own.keys6)

pub returns-in-RegisterImmediate : goal.returns-in-RegisterImmediate
unfolding naming_of
returns-in-RegisterImmediate c = simp (← c.without_memory-in-RegisterImmediate.ensures, c.in-RegisterImmediate.is, c.in-RegisterImmediate.in-RegisterImmediate-own.keys7)

pub returns-in-Register : goal.returns-in-Register
unfolding naming_of
returns-in-Register c = simp (← c.without_memory-in-Register.ensures, c.in-Register.is, c.in-Register.in-Register-own.keys8)

pub returns-in-JumpRegister : goal.returns-in-JumpRegister
unfolding naming_of
returns-in-JumpRegister c = simp (← c.without_memory-in-JumpRegister.ensures, c.in-JumpRegister.is, c.in-JumpRegister.in-JumpRegister-own.keys9)

pub returns-in-RegisterMemory : goal.returns-in-RegisterMemory
unfolding naming_of
returns-in-RegisterMemory c = simp (← c.with_memory.ensures, c.in-RegisterMemory.is, c.in-RegisterMemory.in-RegisterMemory-own.keys10)

pub returns-in-MemoryRegister : goal.returns-in-MemoryRegister
unfolding naming_of
returns-in-MemoryRegister c = simp (← c.with_memory-in-MemoryRegister.ensures, c.in-MemoryRegister.is, c.in-MemoryRegister.in-MemoryRegister-own.keys11)

pub returns-in-MemoryImmediate : goal.returns-in-MemoryImmediate
unfolding naming_of
returns-in-MemoryImmediate c = simp (← c.with_memory-in-MemoryImmediate.ensures, c.in-MemoryImmediate.is, c.in-MemoryImmediate.in-MemoryImmediate-own.keys12)

pub returns-in-MemoryAlone : goal.returns-in-MemoryAlone
unfolding naming_of
returns-in-MemoryAlone c = simp (← c.with_memory-in-MemoryAlone.ensures, c.in-MemoryAlone.is, c.in-MemoryAlone.in-MemoryAlone-own.keys13)

pub returns-in-JumpMemory : goal.returns-in-JumpMemory
unfolding naming_of
returns-in-JumpMemory c = simp (← c.with_memory-in-JumpMemory.ensures, c.in-JumpMemory.is, c.in-JumpMemory.in-JumpMemory-own.keys14)

pub returns-in-Lpd : goal.returns-in-Lpd
unfolding naming_of
returns-in-Lpd c = simp (← c.with_memory-in-Lpd.ensures, c.in-Lpd.is, c.in-Lpd.in-Lpd-own.keys15)

pub returns-in-MovpLoad : goal.returns-in-MovpLoad
unfolding naming_of
returns-in-MovpLoad c = simp (← c.with_memory-in-MovpLoad.ensures, c.in-MovpLoad.is, c.in-MovpLoad.in-MovpLoad-own.keys16)

pub returns-in-MovpStore : goal.returns-in-MovpStore
unfolding naming_of
returns-in-MovpStore c = simp (← c.with_memory-in-MovpStore.ensures, c.in-MovpStore.is, c.in-MovpStore.in-MovpStore-own.keys17)

pub returns-in-MovMemory : goal.returns-in-MovMemory
unfolding naming_of
returns-in-MovMemory c = simp (← c.with_memory-in-MovMemory.ensures, c.in-MovMemory.is, c.in-MovMemory.in-MovMemory-own.keys18)

pub returns-in-Tsl : goal.returns-in-Tsl
unfolding naming_of
returns-in-Tsl c = simp (← c.with_memory-in-Tsl.ensures, c.in-Tsl.is, c.in-Tsl.in-Tsl-own.keys19)

pub returns-in-Call : goal.returns-in-Call
unfolding naming_of
returns-in-Call c = simp (← c.with_memory-in-Call.ensures, c.in-Call.is, c.in-Call.in-Call-own.keys20)

pub returns-in-JumpMasked : goal.returns-in-JumpMasked
unfolding naming_of
returns-in-JumpMasked c = simp (← c.with_memory-in-JumpMasked.ensures, c.in-JumpMasked.is, c.in-JumpMasked.in-JumpMasked-own.keys21)

pub returns-in-JumpBit : goal.returns-in-JumpBit
unfolding naming_of
returns-in-JumpBit c = simp (← c.with_memory-in-JumpBit.ensures, c.in-JumpBit.is, c.in-JumpBit.in-JumpBit-own.keys22)

pub returns-in-Bit : goal.returns-in-Bit
unfolding naming_of
returns-in-Bit c = simp (← c.with_memory-in-Bit.ensures, c.in-Bit.is, c.in-Bit.in-Bit-own.keys23)
