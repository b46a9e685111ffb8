-- `touches::accesses::accessed` meets its contract.
-- Assumes nothing.
use mathlib.Core.Path.{sym, ◌∙◌}
use Rattle.ground_rules.specs.Places.{span}
use Rattle.instruction_rules.specs.Changes.{places_of}
use Rattle.instruction_rules.specs.Control.{nop_deed, sintr_deed, xfer_deed, wid_deed, hlt_deed}
use Rattle.instruction_rules.specs.Execute.{performed, deed_of}
use Rattle.instruction_rules.specs.JumpForms.{jump_register_deed, jump_memory_deed, jump_byte_deed, jump_masked_deed, jump_bit_deed, call_deed}
use Rattle.instruction_rules.specs.MemoryForms.{worked_back, memory_work_deed, memory_register_deed, memory_immediate_deed, memory_alone_deed, movp_store_deed, bit_deed}
use Rattle.instruction_rules.specs.RegisterForms.{register_immediate_deed, register_deed, register_memory_deed, lpdi_deed, lpd_deed, movp_load_deed}
use Rattle.touches.proofs.AccessLaws.{past-effective, past-mov, tsl-accesses}
use Rattle.touches.proofs.accesses.accessed.Goals as goal

pub returns-in-Nop : goal.returns-in-Nop
unfolding deed_of performed nop_deed sintr_deed xfer_deed wid_deed hlt_deed lpdi_deed register_immediate_deed register_deed jump_register_deed register_memory_deed memory_register_deed memory_immediate_deed memory_work_deed memory_alone_deed worked_back jump_memory_deed jump_masked_deed jump_bit_deed jump_byte_deed lpd_deed movp_load_deed movp_store_deed call_deed bit_deed places_of span
returns-in-Nop c = simp (c.nothing.ensures, c.in-Nop.is)

pub returns-in-Sintr : goal.returns-in-Sintr
unfolding deed_of performed nop_deed sintr_deed xfer_deed wid_deed hlt_deed lpdi_deed register_immediate_deed register_deed jump_register_deed register_memory_deed memory_register_deed memory_immediate_deed memory_work_deed memory_alone_deed worked_back jump_memory_deed jump_masked_deed jump_bit_deed jump_byte_deed lpd_deed movp_load_deed movp_store_deed call_deed bit_deed places_of span
returns-in-Sintr c = simp (c.nothing-in-Sintr.ensures, c.in-Sintr.is)

pub returns-in-Xfer : goal.returns-in-Xfer
unfolding deed_of performed nop_deed sintr_deed xfer_deed wid_deed hlt_deed lpdi_deed register_immediate_deed register_deed jump_register_deed register_memory_deed memory_register_deed memory_immediate_deed memory_work_deed memory_alone_deed worked_back jump_memory_deed jump_masked_deed jump_bit_deed jump_byte_deed lpd_deed movp_load_deed movp_store_deed call_deed bit_deed places_of span
returns-in-Xfer c = simp (c.nothing-in-Xfer.ensures, c.in-Xfer.is)

pub returns-in-Wid : goal.returns-in-Wid
unfolding deed_of performed nop_deed sintr_deed xfer_deed wid_deed hlt_deed lpdi_deed register_immediate_deed register_deed jump_register_deed register_memory_deed memory_register_deed memory_immediate_deed memory_work_deed memory_alone_deed worked_back jump_memory_deed jump_masked_deed jump_bit_deed jump_byte_deed lpd_deed movp_load_deed movp_store_deed call_deed bit_deed places_of span
returns-in-Wid c = simp (c.nothing-in-Wid.ensures, c.in-Wid.is)

pub returns-in-Hlt : goal.returns-in-Hlt
unfolding deed_of performed nop_deed sintr_deed xfer_deed wid_deed hlt_deed lpdi_deed register_immediate_deed register_deed jump_register_deed register_memory_deed memory_register_deed memory_immediate_deed memory_work_deed memory_alone_deed worked_back jump_memory_deed jump_masked_deed jump_bit_deed jump_byte_deed lpd_deed movp_load_deed movp_store_deed call_deed bit_deed places_of span
returns-in-Hlt c = simp (c.at_one.ensures, c.system.ensures, c.in-Hlt.is)

pub returns-in-Lpdi : goal.returns-in-Lpdi
unfolding deed_of performed nop_deed sintr_deed xfer_deed wid_deed hlt_deed lpdi_deed register_immediate_deed register_deed jump_register_deed register_memory_deed memory_register_deed memory_immediate_deed memory_work_deed memory_alone_deed worked_back jump_memory_deed jump_masked_deed jump_bit_deed jump_byte_deed lpd_deed movp_load_deed movp_store_deed call_deed bit_deed places_of span
returns-in-Lpdi c = simp (c.nothing-in-Lpdi.ensures, c.in-Lpdi.is)

pub returns-in-RegisterImmediate : goal.returns-in-RegisterImmediate
unfolding deed_of performed nop_deed sintr_deed xfer_deed wid_deed hlt_deed lpdi_deed register_immediate_deed register_deed jump_register_deed register_memory_deed memory_register_deed memory_immediate_deed memory_work_deed memory_alone_deed worked_back jump_memory_deed jump_masked_deed jump_bit_deed jump_byte_deed lpd_deed movp_load_deed movp_store_deed call_deed bit_deed places_of span
returns-in-RegisterImmediate c = simp (c.nothing-in-RegisterImmediate.ensures, c.in-RegisterImmediate.is)

pub returns-in-Register : goal.returns-in-Register
unfolding deed_of performed nop_deed sintr_deed xfer_deed wid_deed hlt_deed lpdi_deed register_immediate_deed register_deed jump_register_deed register_memory_deed memory_register_deed memory_immediate_deed memory_work_deed memory_alone_deed worked_back jump_memory_deed jump_masked_deed jump_bit_deed jump_byte_deed lpd_deed movp_load_deed movp_store_deed call_deed bit_deed places_of span
returns-in-Register c = simp (c.nothing-in-Register.ensures, c.in-Register.is)

pub returns-in-JumpRegister : goal.returns-in-JumpRegister
unfolding deed_of performed nop_deed sintr_deed xfer_deed wid_deed hlt_deed lpdi_deed register_immediate_deed register_deed jump_register_deed register_memory_deed memory_register_deed memory_immediate_deed memory_work_deed memory_alone_deed worked_back jump_memory_deed jump_masked_deed jump_bit_deed jump_byte_deed lpd_deed movp_load_deed movp_store_deed call_deed bit_deed places_of span
returns-in-JumpRegister c = simp (c.nothing-in-JumpRegister.ensures, c.in-JumpRegister.is)

pub returns-in-RegisterMemory : goal.returns-in-RegisterMemory
unfolding deed_of performed nop_deed sintr_deed xfer_deed wid_deed hlt_deed lpdi_deed register_immediate_deed register_deed jump_register_deed register_memory_deed memory_register_deed memory_immediate_deed memory_work_deed memory_alone_deed worked_back jump_memory_deed jump_masked_deed jump_bit_deed jump_byte_deed lpd_deed movp_load_deed movp_store_deed call_deed bit_deed places_of span
returns-in-RegisterMemory c = simp (c.operand.ensures, c.size.ensures, c.in-RegisterMemory.is, past-effective)

pub returns-in-MemoryRegister : goal.returns-in-MemoryRegister
unfolding deed_of performed nop_deed sintr_deed xfer_deed wid_deed hlt_deed lpdi_deed register_immediate_deed register_deed jump_register_deed register_memory_deed memory_register_deed memory_immediate_deed memory_work_deed memory_alone_deed worked_back jump_memory_deed jump_masked_deed jump_bit_deed jump_byte_deed lpd_deed movp_load_deed movp_store_deed call_deed bit_deed places_of span
returns-in-MemoryRegister c = simp (c.worked.ensures, c.in-MemoryRegister.is, past-effective)

pub returns-in-MemoryImmediate : goal.returns-in-MemoryImmediate
unfolding deed_of performed nop_deed sintr_deed xfer_deed wid_deed hlt_deed lpdi_deed register_immediate_deed register_deed jump_register_deed register_memory_deed memory_register_deed memory_immediate_deed memory_work_deed memory_alone_deed worked_back jump_memory_deed jump_masked_deed jump_bit_deed jump_byte_deed lpd_deed movp_load_deed movp_store_deed call_deed bit_deed places_of span
returns-in-MemoryImmediate c = simp (c.worked-in-MemoryImmediate.ensures, c.in-MemoryImmediate.is, past-effective)

pub returns-in-MemoryAlone : goal.returns-in-MemoryAlone
unfolding deed_of performed nop_deed sintr_deed xfer_deed wid_deed hlt_deed lpdi_deed register_immediate_deed register_deed jump_register_deed register_memory_deed memory_register_deed memory_immediate_deed memory_work_deed memory_alone_deed worked_back jump_memory_deed jump_masked_deed jump_bit_deed jump_byte_deed lpd_deed movp_load_deed movp_store_deed call_deed bit_deed places_of span
returns-in-MemoryAlone c = simp (c.operand-in-MemoryAlone.ensures, c.size-in-MemoryAlone-2.ensures, c.size-in-MemoryAlone.ensures, c.in-MemoryAlone.is, past-effective)

pub returns-in-JumpMemory : goal.returns-in-JumpMemory
unfolding deed_of performed nop_deed sintr_deed xfer_deed wid_deed hlt_deed lpdi_deed register_immediate_deed register_deed jump_register_deed register_memory_deed memory_register_deed memory_immediate_deed memory_work_deed memory_alone_deed worked_back jump_memory_deed jump_masked_deed jump_bit_deed jump_byte_deed lpd_deed movp_load_deed movp_store_deed call_deed bit_deed places_of span
returns-in-JumpMemory c = simp (c.operand-in-JumpMemory.ensures, c.size-in-JumpMemory.ensures, c.in-JumpMemory.is, past-effective)

pub returns-in-Lpd : goal.returns-in-Lpd
unfolding deed_of performed nop_deed sintr_deed xfer_deed wid_deed hlt_deed lpdi_deed register_immediate_deed register_deed jump_register_deed register_memory_deed memory_register_deed memory_immediate_deed memory_work_deed memory_alone_deed worked_back jump_memory_deed jump_masked_deed jump_bit_deed jump_byte_deed lpd_deed movp_load_deed movp_store_deed call_deed bit_deed places_of span
returns-in-Lpd c = simp (c.operand-in-Lpd.ensures, c.in-Lpd.is, past-effective)

pub returns-in-MovpLoad : goal.returns-in-MovpLoad
unfolding deed_of performed nop_deed sintr_deed xfer_deed wid_deed hlt_deed lpdi_deed register_immediate_deed register_deed jump_register_deed register_memory_deed memory_register_deed memory_immediate_deed memory_work_deed memory_alone_deed worked_back jump_memory_deed jump_masked_deed jump_bit_deed jump_byte_deed lpd_deed movp_load_deed movp_store_deed call_deed bit_deed places_of span
returns-in-MovpLoad c = simp (c.operand-in-MovpLoad.ensures, c.in-MovpLoad.is, past-effective)

pub returns-in-MovpStore : goal.returns-in-MovpStore
unfolding deed_of performed nop_deed sintr_deed xfer_deed wid_deed hlt_deed lpdi_deed register_immediate_deed register_deed jump_register_deed register_memory_deed memory_register_deed memory_immediate_deed memory_work_deed memory_alone_deed worked_back jump_memory_deed jump_masked_deed jump_bit_deed jump_byte_deed lpd_deed movp_load_deed movp_store_deed call_deed bit_deed places_of span
returns-in-MovpStore c = simp (c.operand-in-MovpStore.ensures, c.in-MovpStore.is, past-effective)

pub returns-in-MovMemory : goal.returns-in-MovMemory
unfolding deed_of performed
returns-in-MovMemory c = simp c.in-MovMemory.is (c.mov_memory.ensures ∙ sym (past-mov _ _ _ _ _))

pub returns-in-Tsl : goal.returns-in-Tsl
unfolding deed_of performed
returns-in-Tsl c = simp (c.in-Tsl.is, c.tsl.ensures) (tsl-accesses _ _ _ _ _)

pub returns-in-Call : goal.returns-in-Call
unfolding deed_of performed nop_deed sintr_deed xfer_deed wid_deed hlt_deed lpdi_deed register_immediate_deed register_deed jump_register_deed register_memory_deed memory_register_deed memory_immediate_deed memory_work_deed memory_alone_deed worked_back jump_memory_deed jump_masked_deed jump_bit_deed jump_byte_deed lpd_deed movp_load_deed movp_store_deed call_deed bit_deed places_of span
returns-in-Call c = simp (c.operand-in-Call.ensures, c.in-Call.is, past-effective)

pub returns-in-JumpMasked : goal.returns-in-JumpMasked
unfolding deed_of performed nop_deed sintr_deed xfer_deed wid_deed hlt_deed lpdi_deed register_immediate_deed register_deed jump_register_deed register_memory_deed memory_register_deed memory_immediate_deed memory_work_deed memory_alone_deed worked_back jump_memory_deed jump_masked_deed jump_bit_deed jump_byte_deed lpd_deed movp_load_deed movp_store_deed call_deed bit_deed places_of span
returns-in-JumpMasked c = simp (c.operand-in-JumpMasked.ensures, c.in-JumpMasked.is, past-effective)

pub returns-in-JumpBit : goal.returns-in-JumpBit
unfolding deed_of performed nop_deed sintr_deed xfer_deed wid_deed hlt_deed lpdi_deed register_immediate_deed register_deed jump_register_deed register_memory_deed memory_register_deed memory_immediate_deed memory_work_deed memory_alone_deed worked_back jump_memory_deed jump_masked_deed jump_bit_deed jump_byte_deed lpd_deed movp_load_deed movp_store_deed call_deed bit_deed places_of span
returns-in-JumpBit c = simp (c.operand-in-JumpBit.ensures, c.in-JumpBit.is, past-effective)

pub returns-in-Bit : goal.returns-in-Bit
unfolding deed_of performed nop_deed sintr_deed xfer_deed wid_deed hlt_deed lpdi_deed register_immediate_deed register_deed jump_register_deed register_memory_deed memory_register_deed memory_immediate_deed memory_work_deed memory_alone_deed worked_back jump_memory_deed jump_masked_deed jump_bit_deed jump_byte_deed lpd_deed movp_load_deed movp_store_deed call_deed bit_deed places_of span
returns-in-Bit c = simp (c.operand-in-Bit.ensures, c.in-Bit.is, past-effective)
