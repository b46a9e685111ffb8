-- A channel's block and the order that it gives (§4.1): CCW, BUSY (`busy_in`), and the doubleword pointer to PB.
use Rattle.std.specs.Prelude.{false, ℕ}
use Rattle.ground_rules.specs.Sums.{sum20}
use Rattle.ground_rules.specs.Buffers.{Buffers, byte_at}
use Rattle.ground_rules.specs.Values.{doubleword_at}
use Rattle.attention_rules.specs.declared.Command.{Command}
use Rattle.attention_rules.specs.declared.Command.TheVariants.{Update, StartLocal, StartSystem, Suspend, Resume, Halt, Unknown}
use Rattle.attention_rules.specs.declared.Order.{Order}
use Rattle.attention_rules.specs.Commands.{command_of}

-- CCW is the block's first byte
unfoldable pub ccw_of : Buffers → ℕ → ℕ
ccw_of m block = byte_at m false block

-- the pointer to PB is its last four
abbrev pub pointer_of : ℕ → ℕ
pointer_of block = sum20 block 2

-- where PB lies: a start takes it from the block, every other command finds it at PP
unfoldable pub parameter_block : Command → Buffers → ℕ → ℕ → ℕ
parameter_block Update m block pp = pp
parameter_block StartLocal m block pp = doubleword_at m false (pointer_of block)
parameter_block StartSystem m block pp = doubleword_at m false (pointer_of block)
parameter_block Suspend m block pp = pp
parameter_block Resume m block pp = pp
parameter_block Halt m block pp = pp
parameter_block Unknown m block pp = pp

-- the order of a block to a channel with that PP
unfoldable pub order_of : Buffers → ℕ → ℕ → Order
order_of m block pp =
    record {
      command = command_of (ccw_of m block);
      ccw = ccw_of m block;
      block = block;
      pb = parameter_block (command_of (ccw_of m block)) m block pp;
    }
