-- What an instruction that is done or refused leaves.
use Rattle.std.specs.Prelude.{Result, Ok, Err}
use Rattle.ground_rules.specs.Buffers.{Buffers}
use Rattle.ground_rules.specs.Refusals.{number_of}
use Rattle.ground_rules.specs.declared.Channel.{Channel}
use Rattle.ground_rules.specs.declared.Done.{Done}
use Rattle.ground_rules.specs.declared.Refusal.{Refusal}
use Rattle.instruction_rules.specs.Execute.{Executed, executed}

-- one that is refused leaves the channel as it was
abbrev pub executed_by : Channel → Result Done Refusal → Buffers → Executed
executed_by c (Ok d) m = executed 0 d.channel m
executed_by c (Err refusal) m = executed (number_of refusal) c m
