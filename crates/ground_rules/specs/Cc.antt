-- CC (§2.4) and its fields, which a channel keeps beside it: 15 destination moves on, 14 source moves on, 13 translate, 12-11 SYN, 10 source is GB, 8 chained, 7 TS, 6-5 TX, 4-3 TBC, 2-0 TMC.
use Rattle.std.specs.Prelude.{Bool, not, ◌&&◌, ℕ, ◌+◌, ◌*◌, ◌/◌, ◌%◌, eqb}
use Rattle.ground_rules.specs.Bits.{field_of, bit_of}
use Rattle.ground_rules.specs.Choice.{pick}
use Rattle.ground_rules.specs.declared.Fields.{Fields}

-- CC taken apart; bit 9 is in no field
unfoldable pub split : ℕ → Fields
split cc =
    record {
      destinationMoves = bit_of cc 15;
      sourceMoves = bit_of cc 14;
      translates = bit_of cc 13;
      synchronised = field_of cc 11 2;
      sourceIsGB = bit_of cc 10;
      chained = bit_of cc 8;
      singleTransfer = bit_of cc 7;
      externalEnd = field_of cc 5 2;
      countEnd = field_of cc 3 2;
      matchEnd = field_of cc 0 3;
    }

-- what a flag adds to a CC: its bit where it is set
unfoldable pub bit_worth : Bool → ℕ → ℕ
bit_worth on worth = pick on worth 0

-- the CC that has the fields, each at its place and reduced to its width, with bit 9 at 0
unfoldable pub joined : Fields → ℕ
joined f =
    bit_worth f.destinationMoves 32768
    + bit_worth f.sourceMoves 16384
    + bit_worth f.translates 8192
    + f.synchronised % 4 * 2048
    + bit_worth f.sourceIsGB 1024
    + bit_worth f.chained 256
    + bit_worth f.singleTransfer 128
    + f.externalEnd % 4 * 32
    + f.countEnd % 4 * 8
    + f.matchEnd % 8

-- a CC with bit 9, its LOCK bit, at 0; that bit is in no field
unfoldable pub without_lock : ℕ → ℕ
without_lock cc = cc / 1024 * 1024 + cc % 512

-- two flags are the same
unfoldable pub same_flag : Bool → Bool → Bool
same_flag a b = pick a b (not b)

-- two channels' fields are the same, one by one; all three bits of TMC count
unfoldable pub same_fields : Fields → Fields → Bool
same_fields f g =
    same_flag f.destinationMoves g.destinationMoves
    && same_flag f.sourceMoves g.sourceMoves
    && same_flag f.translates g.translates
    && eqb f.synchronised g.synchronised
    && same_flag f.sourceIsGB g.sourceIsGB
    && same_flag f.chained g.chained
    && same_flag f.singleTransfer g.singleTransfer
    && eqb f.externalEnd g.externalEnd
    && eqb f.countEnd g.countEnd
    && eqb f.matchEnd g.matchEnd
