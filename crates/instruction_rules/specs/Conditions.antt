-- The numbers of an instruction, each given exactly where its own condition holds and no earlier one: the conditions, and their order (§6.22).
use Rattle.std.specs.Prelude.{List, [], ◌∷◌, ◌≡◌, ℕ, Ok, Err, None}
use Rattle.ground_rules.specs.Buffers.{Buffers}
use Rattle.ground_rules.specs.Conditions.{Check, check, Beyond}
use Rattle.ground_rules.specs.declared.Channel.{Channel}
use Rattle.instruction_rules.specs.declared.Memory.{Memory}
use Rattle.instruction_rules.specs.declared.Shape.TheVariants.{MovMemory}
use Rattle.instruction_rules.specs.Decoded.{Decoded}
use Rattle.instruction_rules.specs.declared.Unread.TheVariants.{NoInstruction, ControlUsed}
use Rattle.instruction_rules.specs.Operands.{bytes_at}
use Rattle.instruction_rules.specs.Changes.{places_of}
use Rattle.instruction_rules.specs.MemoryForms.{second_at}
use Rattle.instruction_rules.specs.Execute.{decoded_at, later_from, deed_from}

-- 2: a byte of the pair lies beyond
abbrev pub PairBeyond : Buffers → Channel → Type 0
PairBeyond m c = Beyond m (bytes_at c.tp 2)

-- 3: the pair is no instruction; d is what it is
abbrev pub NoCode : Decoded → Type 0
NoCode d = d ≡ Err NoInstruction

-- 4: it uses CC, and is neither MOV nor MOVI
abbrev pub ControlTouched : Decoded → Type 0
ControlTouched d = d ≡ Err ControlUsed

-- 2: a later byte, up to and with a second pair, lies beyond
abbrev pub LaterBeyond : Decoded → Buffers → Channel → Type 0
LaterBeyond d m c = Beyond m (later_from d c)

-- 3: it is MOV M,M, and its second pair is none
abbrev pub NoSecondPair : Decoded → Buffers → Channel → Type 0
NoSecondPair d m c = (o : Memory) × ((d ≡ Ok (MovMemory o)) × (second_at m c.tp o ≡ None))

-- 2: the offset byte of a second pair, or an operand byte that is read, lies beyond
abbrev pub ReadsBeyond : Decoded → Buffers → Channel → ℕ → Type 0
ReadsBeyond d m c busy = Beyond m (deed_from d m c busy).reads

-- 2: a byte that is stored to, for HLT its BUSY byte, lies beyond
abbrev pub StoresBeyond : Decoded → Buffers → Channel → ℕ → Type 0
StoresBeyond d m c busy = Beyond m (places_of (deed_from d m c busy).change)

-- the checks of an instruction in their order, d being what its first two bytes are
abbrev pub checks_from : Decoded → Buffers → Channel → ℕ → List Check
checks_from d m c busy =
    check 2 (PairBeyond m c)
    ∷ check 3 (NoCode d)
    ∷ check 4 (ControlTouched d)
    ∷ check 2 (LaterBeyond d m c)
    ∷ check 3 (NoSecondPair d m c)
    ∷ check 2 (ReadsBeyond d m c busy)
    ∷ check 2 (StoresBeyond d m c busy)
    ∷ []

-- the checks of a channel's next instruction
abbrev pub instruction_checks : Buffers → Channel → ℕ → List Check
instruction_checks m c busy = checks_from (decoded_at m c.tp) m c busy
