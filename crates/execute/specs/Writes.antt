-- The register that an instruction writes by RRR, and the channel once it is written.
use Rattle.std.specs.Prelude.{ℕ, Bool, Option, Some, None}
use Rattle.ground_rules.specs.Registers.{with_register}
use Rattle.ground_rules.specs.declared.Channel.{Channel}
use Rattle.execute.specs.declared.Write.{Write}

-- a register with its value, and with its tag where it is a pointer
abbrev pub write_to : ℕ → ℕ → Bool → Write
write_to r v tag = record { rrr = r; value = v; tag = tag }

-- the channel with the register written, if any, CC with its fields
unfoldable pub write_made : Channel → Option Write → Channel
write_made c (Some w) = with_register c w.rrr w.value w.tag
write_made c None = c
