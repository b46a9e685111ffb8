-- An instruction's bytes as the code counts them.
use Rattle.std.specs.Prelude.{ℕ, ◌+◌, ◌/◌, ◌%◌, eqb}
use Rattle.ground_rules.specs.Choice.{pick}
use Rattle.assembler_forms.specs.declared.table.EntryCode.{EntryCode}

-- all but its offsets, by its entry: a pair and dd more; but LPDI has two words, TSL two bytes, and MOV M,M a second pair
abbrev pub entry_size : EntryCode → ℕ
entry_size code = pick (eqb (code.0 % 256) 0x02) 6 (pick (eqb (code.0 % 256) 0x24) 4 (pick (eqb (code.0 % 256) 0x25) 4 (2 + code.0 / 0x1000 % 16)))
