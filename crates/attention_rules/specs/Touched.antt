-- Which bytes an attention reads and stores, each access once, and in which stages (§3.5, §4.9).
use Rattle.std.specs.Prelude.{false, List, [], ◌∷◌, ◌++◌, ℕ}
use Rattle.ground_rules.specs.Places.{Place, span}
use Rattle.ground_rules.specs.Stages.{Stage, stage, stages_touched}
use Rattle.ground_rules.specs.States.{busy_in}
use Rattle.ground_rules.specs.declared.Mode.{Mode}
use Rattle.attention_rules.specs.declared.Command.{Command}
use Rattle.attention_rules.specs.declared.Command.TheVariants.{Update, StartLocal, StartSystem, Suspend, Resume, Halt, Unknown}
use Rattle.attention_rules.specs.declared.Order.{Order}
use Rattle.attention_rules.specs.Blocks.{pointer_of}
use Rattle.attention_rules.specs.Commands.{command_number}

-- what each command reads after CCW: a start the block's pointer and PB's first word (001) or first two (011), resume PB's first four bytes
unfoldable pub read_by : Command → ℕ → ℕ → List Place
read_by Update block pb = []
read_by StartLocal block pb = span false (pointer_of block) 4 ++ span false pb 2
read_by StartSystem block pb = span false (pointer_of block) 4 ++ span false pb 4
read_by Suspend block pb = []
read_by Resume block pb = span false pb 4
read_by Halt block pb = []
read_by Unknown block pb = []

-- what each command stores: suspend PB's first four bytes, and every command but 000 BUSY
unfoldable pub stored_by : Command → ℕ → ℕ → List Place
stored_by Update block pb = []
stored_by StartLocal block pb = span false (busy_in block) 1
stored_by StartSystem block pb = span false (busy_in block) 1
stored_by Suspend block pb = span false pb 4 ++ span false (busy_in block) 1
stored_by Resume block pb = span false (busy_in block) 1
stored_by Halt block pb = span false (busy_in block) 1
stored_by Unknown block pb = []

-- all that an order touches after its CCW
unfoldable pub others : Order → List Place
others o = read_by o.command o.block o.pb ++ stored_by o.command o.block o.pb

-- an order to a channel in some mode: CCW, then the refusal of its command; the other bytes, and no refusal after them
unfoldable pub order_stages : Order → Mode → List Stage
order_stages o mode = stage (span false o.block 1) (command_number o.command mode) ∷ stage (others o) 0 ∷ []

-- all that it touches: CCW alone where the command is refused
unfoldable pub touched_by_order : Order → Mode → List Place
touched_by_order o mode = stages_touched (order_stages o mode)

-- how many bytes an accepted command reads and stores: CCW; for a start the block's pointer and PB's first word (001) or first two (011); for suspend and resume PB's four bytes; for all but 000 BUSY
unfoldable pub command_count : Command → ℕ
command_count Update = 1
command_count StartLocal = 8
command_count StartSystem = 10
command_count Suspend = 6
command_count Resume = 6
command_count Halt = 2
command_count Unknown = 0
