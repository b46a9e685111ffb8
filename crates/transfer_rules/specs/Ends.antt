-- How a transfer ends: the masked compare, the codes of the ends, and what an end does to TP and XF (§7.7, §7.10).
use Rattle.std.specs.Prelude.{Bool, false, not, ◌&&◌, ℕ, ◌%◌, eqb, ltb}
use Rattle.ground_rules.specs.Choice.{pick}
use Rattle.ground_rules.specs.Bits.{bit_of}
use Rattle.ground_rules.specs.Compare.{match_of}
use Rattle.ground_rules.specs.declared.Pointer.{Pointer}
use Rattle.ground_rules.specs.declared.Channel.{Channel}
use Rattle.ground_rules.specs.Psw.{with_psw}
use Rattle.ground_rules.specs.Updates.{with_transfer, dropped}
use Rattle.transfer_rules.specs.Sides.{gained}

-- a byte meets TMC: one that matches, or with bit 2 set one that does not; never where the low two bits are 0 (§7.7)
unfoldable pub meets_tmc : ℕ → ℕ → ℕ → Bool
meets_tmc tmc mc byte = not (eqb (tmc % 4) 0) && pick (bit_of tmc 2) (not (match_of byte mc)) (match_of byte mc)

-- the code of an end that came, 0 of one that did not
unfoldable pub code_if : Bool → ℕ → ℕ
code_if came code = pick came code 0

-- the larger of two codes, which is the one of the larger offset (§7.10)
unfoldable pub larger : ℕ → ℕ → ℕ
larger a b = pick (ltb a b) b a

-- the offset that a code stands for: 1, 2 and 3 are on with 0, 4 and 8 (§2.4)
unfoldable pub offset_of : ℕ → ℕ
offset_of code = pick (eqb code 2) 4 (pick (eqb code 3) 8 0)

-- TP after an end of a code: it gains the offset
unfoldable pub ended_tp : Channel → ℕ → Pointer
ended_tp c code = gained (not (eqb code 0)) c.tp (offset_of code)

-- PSW after an end of a code: XF is clear
unfoldable pub ended_psw : Channel → ℕ → ℕ
ended_psw c code = pick (eqb code 0) c.psw (with_psw c.psw 6 false)

-- a channel whose transfer an end of a code ends; code 0 is no end
unfoldable pub ended_by : Channel → ℕ → Channel
ended_by c code = with_transfer c c.ga c.gb (ended_tp c code) c.bc (ended_psw c code)

-- an external end: TP gains the offset of TX, XF becomes clear, no byte moves, and a held byte is dropped (§5.2)
unfoldable pub externally_ended : Channel → Channel
externally_ended c = ended_by (dropped c) c.fields.externalEnd
