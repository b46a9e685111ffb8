-- `notation::mnemonics::mnemonic` meets its contract.
-- Assumes nothing.
use mathlib.Core.Path.{refl, sym, ◌∙◌}
use mathlib.Core.List.{append-nil}
use Rattle.notation.specs.Writing.{held_by, held_in, held_in4}
use Rattle.listing_rules.specs.Mnemonics.{mnemonic_of}
use Rattle.notation.proofs.PieceLaws.{four, lone, led, held-zero, held-I}
use Rattle.notation.proofs.mnemonics.mnemonic.Goals as goal

pub returns-in-Nop : goal.returns-in-Nop
unfolding mnemonic_of held_in4 held_in held_by
returns-in-Nop c = simp (c.in-Nop.is, c.in-Nop.in-Nop-own.keys1)

pub returns-in-Sintr : goal.returns-in-Sintr
unfolding mnemonic_of held_in4 held_in held_by
returns-in-Sintr c = simp (c.in-Sintr.is, c.in-Sintr.in-Sintr-own.keys2)

pub returns-in-Xfer : goal.returns-in-Xfer
unfolding mnemonic_of held_in4 held_in held_by
returns-in-Xfer c = simp (c.in-Xfer.is, c.in-Xfer.in-Xfer-own.keys3)

pub returns-in-Wid : goal.returns-in-Wid
unfolding mnemonic_of held_in4 held_in held_by
returns-in-Wid c = simp (c.in-Wid.is, c.in-Wid.in-Wid-own.keys4)

pub returns-in-Hlt : goal.returns-in-Hlt
unfolding mnemonic_of held_in4 held_in held_by
returns-in-Hlt c = simp (c.in-Hlt.is, c.in-Hlt.in-Hlt-own.keys5)

pub returns-in-Lpdi : goal.returns-in-Lpdi
unfolding mnemonic_of held_in4 held_in held_by
returns-in-Lpdi c = simp (c.in-Lpdi.is, c.in-Lpdi.in-Lpdi-own.keys6)

pub returns-then-is_jump : goal.returns-then-is_jump
unfolding mnemonic_of held_in held_by
returns-then-is_jump c = four _ c.long_mark.ensures refl held-zero held-zero ∙ simp (append-nil, c.in-RegisterImmediate.is, sym c.is_jump.ensures ∙ c.if-is_jump.true)

pub returns-else-is_jump : goal.returns-else-is_jump
unfolding mnemonic_of held_in held_by
returns-else-is_jump c = four _ held-zero c.work_stem.ensures c.byte_mark.ensures held-I ∙ simp (append-nil, c.in-RegisterImmediate.is, sym c.is_jump.ensures ∙ c.if-is_jump.false)

pub returns-in-Register : goal.returns-in-Register
unfolding mnemonic_of held_in held_by
returns-in-Register c = lone _ held-zero c.single_stem.ensures held-zero held-zero ∙ rw c.in-Register.is

pub returns-in-JumpRegister : goal.returns-in-JumpRegister
unfolding mnemonic_of held_in held_by
returns-in-JumpRegister c = led _ c.long_mark-in-JumpRegister.ensures c.zero_stem.ensures held-zero held-zero ∙ rw c.in-JumpRegister.is

pub returns-in-RegisterMemory : goal.returns-in-RegisterMemory
unfolding mnemonic_of held_in held_by
returns-in-RegisterMemory c = four _ held-zero c.work_stem-in-RegisterMemory.ensures c.byte_mark-in-RegisterMemory.ensures held-zero ∙ simp (append-nil, c.in-RegisterMemory.is)

pub returns-in-MemoryRegister : goal.returns-in-MemoryRegister
unfolding mnemonic_of held_in held_by
returns-in-MemoryRegister c = four _ held-zero c.work_stem-in-MemoryRegister.ensures c.byte_mark-in-MemoryRegister.ensures held-zero ∙ simp (append-nil, c.in-MemoryRegister.is)

pub returns-in-MemoryImmediate : goal.returns-in-MemoryImmediate
unfolding mnemonic_of held_in held_by
returns-in-MemoryImmediate c = four _ held-zero c.work_stem-in-MemoryImmediate.ensures c.byte_mark-in-MemoryImmediate.ensures held-I ∙ simp (append-nil, c.in-MemoryImmediate.is)

pub returns-in-MemoryAlone : goal.returns-in-MemoryAlone
unfolding mnemonic_of held_in held_by
returns-in-MemoryAlone c = four _ held-zero c.single_stem-in-MemoryAlone.ensures c.byte_mark-in-MemoryAlone.ensures held-zero ∙ simp (append-nil, c.in-MemoryAlone.is)

pub returns-in-JumpMemory : goal.returns-in-JumpMemory
unfolding mnemonic_of held_in held_by
returns-in-JumpMemory c = four _ c.long_mark-in-JumpMemory.ensures c.zero_stem-in-JumpMemory.ensures c.byte_mark-in-JumpMemory.ensures held-zero ∙ simp (append-nil, c.in-JumpMemory.is)

pub returns-in-Lpd : goal.returns-in-Lpd
unfolding mnemonic_of held_in4 held_in held_by
returns-in-Lpd c = simp (c.in-Lpd.is, c.in-Lpd.in-Lpd-own.keys15)

pub returns-in-MovpLoad : goal.returns-in-MovpLoad
unfolding mnemonic_of held_in4 held_in held_by
returns-in-MovpLoad c = simp (c.in-MovpLoad.is, c.in-MovpLoad.in-MovpLoad-own.keys16)

pub returns-in-MovpStore : goal.returns-in-MovpStore
unfolding mnemonic_of held_in4 held_in held_by
returns-in-MovpStore c = simp (c.in-MovpStore.is, c.in-MovpStore.in-MovpStore-own.keys17)

pub returns-in-MovMemory : goal.returns-in-MovMemory
unfolding mnemonic_of held_in held_by
returns-in-MovMemory c = four _ held-zero refl c.byte_mark-in-MovMemory.ensures held-zero ∙ simp (append-nil, c.in-MovMemory.is)

pub returns-in-Tsl : goal.returns-in-Tsl
unfolding mnemonic_of held_in4 held_in held_by
returns-in-Tsl c = simp (c.in-Tsl.is, c.in-Tsl.in-Tsl-own.keys19)

pub returns-in-Call : goal.returns-in-Call
unfolding mnemonic_of held_in held_by
returns-in-Call c = four _ c.long_mark-in-Call.ensures refl held-zero held-zero ∙ simp (append-nil, c.in-Call.is)

pub returns-then-equal : goal.returns-then-equal
unfolding mnemonic_of held_in held_by
returns-then-equal c = led _ c.long_mark-in-JumpMasked.ensures refl held-zero held-zero ∙ simp (c.in-JumpMasked.is, c.if-equal.true)

pub returns-else-equal : goal.returns-else-equal
unfolding mnemonic_of held_in held_by
returns-else-equal c = led _ c.long_mark-in-JumpMasked.ensures refl held-zero held-zero ∙ simp (c.in-JumpMasked.is, c.if-equal.false)

pub returns-then-set : goal.returns-then-set
unfolding mnemonic_of held_in held_by
returns-then-set c = led _ c.long_mark-in-JumpBit.ensures refl held-zero held-zero ∙ simp (c.in-JumpBit.is, c.if-set.true)

pub returns-else-set : goal.returns-else-set
unfolding mnemonic_of held_in held_by
returns-else-set c = led _ c.long_mark-in-JumpBit.ensures refl held-zero held-zero ∙ simp (c.in-JumpBit.is, c.if-set.false)

pub returns-then-on : goal.returns-then-on
unfolding mnemonic_of held_in held_by
returns-then-on c = lone _ held-zero refl held-zero held-zero ∙ simp (c.in-Bit.is, c.if-on.true)

pub returns-else-on : goal.returns-else-on
unfolding mnemonic_of held_in held_by
returns-else-on c = lone _ held-zero refl held-zero held-zero ∙ simp (c.in-Bit.is, c.if-on.false)
