-- `notation::forms::slots_of` meets its contract.
-- Assumes nothing.
use native.Mathlib.Omega.{arith}
use Rattle.listing_rules.specs.Forms.{slots_of}
use Rattle.listing_rules.proofs.FormLaws.{after-fits}
use Rattle.notation.proofs.forms.slots_of.Goals as goal

pub overflow_add-after_offset : goal.overflow_add-after_offset
overflow_add-after_offset c = omega (arith, after-fits _ _ c.after_offset-in-MovMemory.ensures)

pub overflow_add-result : goal.overflow_add-result
overflow_add-result c = omega (arith, after-fits _ _ c.after_offset-in-Tsl-2.ensures)

pub returns-in-Nop : goal.returns-in-Nop
unfolding slots_of
returns-in-Nop c = simp (c.bare.ensures, c.in-Nop.is)

pub returns-in-Sintr : goal.returns-in-Sintr
unfolding slots_of
returns-in-Sintr c = simp (c.bare-in-Sintr.ensures, c.in-Sintr.is)

pub returns-in-Xfer : goal.returns-in-Xfer
unfolding slots_of
returns-in-Xfer c = simp (c.bare-in-Xfer.ensures, c.in-Xfer.is)

pub returns-in-Wid : goal.returns-in-Wid
unfolding slots_of
returns-in-Wid c = simp (c.both.ensures, c.width-in-Wid.ensures, c.width.ensures, c.in-Wid.is)

pub returns-in-Hlt : goal.returns-in-Hlt
unfolding slots_of
returns-in-Hlt c = simp (c.bare-in-Hlt.ensures, c.in-Hlt.is)

pub returns-in-Lpdi : goal.returns-in-Lpdi
unfolding slots_of
returns-in-Lpdi c = simp c.in-Lpdi.is

pub returns-in-RegisterImmediate : goal.returns-in-RegisterImmediate
unfolding slots_of
returns-in-RegisterImmediate c = simp (c.immediate.ensures, c.in-RegisterImmediate.is)

pub returns-in-Register : goal.returns-in-Register
unfolding slots_of
returns-in-Register c = simp (c.alone.ensures, c.in-Register.is)

pub returns-in-JumpRegister : goal.returns-in-JumpRegister
unfolding slots_of
returns-in-JumpRegister c = simp (c.both-in-JumpRegister.ensures, c.in-JumpRegister.is)

pub returns-in-RegisterMemory : goal.returns-in-RegisterMemory
unfolding slots_of
returns-in-RegisterMemory c = simp (c.both-in-RegisterMemory.ensures, c.in-RegisterMemory.is)

pub returns-in-MemoryRegister : goal.returns-in-MemoryRegister
unfolding slots_of
returns-in-MemoryRegister c = simp (c.both-in-MemoryRegister.ensures, c.in-MemoryRegister.is)

pub returns-in-MemoryImmediate : goal.returns-in-MemoryImmediate
unfolding slots_of
returns-in-MemoryImmediate c = simp (c.both-in-MemoryImmediate.ensures, c.after_offset.ensures, c.in-MemoryImmediate.is)

pub returns-in-MemoryAlone : goal.returns-in-MemoryAlone
unfolding slots_of
returns-in-MemoryAlone c = simp (c.alone-in-MemoryAlone.ensures, c.in-MemoryAlone.is)

pub returns-in-JumpMemory : goal.returns-in-JumpMemory
unfolding slots_of
returns-in-JumpMemory c = simp (c.both-in-JumpMemory.ensures, c.jump.ensures, c.in-JumpMemory.is)

pub returns-in-Lpd : goal.returns-in-Lpd
unfolding slots_of
returns-in-Lpd c = simp (c.both-in-Lpd.ensures, c.in-Lpd.is)

pub returns-in-MovpLoad : goal.returns-in-MovpLoad
unfolding slots_of
returns-in-MovpLoad c = simp (c.both-in-MovpLoad.ensures, c.in-MovpLoad.is)

pub returns-in-MovpStore : goal.returns-in-MovpStore
unfolding slots_of
returns-in-MovpStore c = simp (c.both-in-MovpStore.ensures, c.in-MovpStore.is)

pub returns-in-MovMemory : goal.returns-in-MovMemory
unfolding slots_of
returns-in-MovMemory c = simp (c.both-in-MovMemory.ensures, c.after_offset-in-MovMemory.ensures, c.in-MovMemory.is)

pub returns-in-Tsl : goal.returns-in-Tsl
unfolding slots_of
returns-in-Tsl c = simp (c.after_offset-in-Tsl-2.ensures, c.after_offset-in-Tsl.ensures, c.in-Tsl.is)

pub returns-in-Call : goal.returns-in-Call
unfolding slots_of
returns-in-Call c = simp (c.both-in-Call.ensures, c.jump-in-Call.ensures, c.in-Call.is)

pub returns-in-JumpMasked : goal.returns-in-JumpMasked
unfolding slots_of
returns-in-JumpMasked c = simp (c.both-in-JumpMasked.ensures, c.jump-in-JumpMasked.ensures, c.in-JumpMasked.is)

pub returns-in-JumpBit : goal.returns-in-JumpBit
unfolding slots_of
returns-in-JumpBit c = simp (c.jump-in-JumpBit.ensures, c.in-JumpBit.is)

pub returns-in-Bit : goal.returns-in-Bit
unfolding slots_of
returns-in-Bit c = simp (c.both-in-Bit.ensures, c.in-Bit.is)
