-- Words for what an instruction does and leaves: its deed, the next instruction, and the registers that are pointers.
use Rattle.std.specs.Prelude.{◌⊎◌, ◌≡◌, ℕ, Ok}
use Rattle.ground_rules.specs.Buffers.{Buffers}
use Rattle.ground_rules.specs.declared.Channel.{Channel}
use Rattle.instruction_rules.specs.declared.Shape.TheVariants.{Hlt, Xfer}
use Rattle.instruction_rules.specs.Deeds.{Deed}
use Rattle.instruction_rules.specs.Execute.{decoded_at, deed_from}

-- the deed of a channel's next instruction
abbrev pub deed_at : Buffers → Channel → ℕ → Deed
deed_at m c busy = deed_from (decoded_at m c.tp) m c busy

-- the next instruction is HLT, or XFER
abbrev pub Halts : Buffers → Channel → Type 0
Halts m c = decoded_at m c.tp ≡ Ok Hlt

abbrev pub Arms : Buffers → Channel → Type 0
Arms m c = decoded_at m c.tp ≡ Ok Xfer

-- PPP: GA, GB, GC or TP (§6.2)
abbrev pub IsPointer : ℕ → Type 0
IsPointer r = (r ≡ 0) ⊎ ((r ≡ 1) ⊎ ((r ≡ 2) ⊎ (r ≡ 4)))
