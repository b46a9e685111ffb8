-- What a channel's transfer has left, as the code carries it.
use Rattle.ground_rules.specs.declared.Channel.{Channel}
use Rattle.block_rules.specs.Premises.{from, into}
use Rattle.sweep_rules.specs.Sweep.{bytes_to_go}
use Rattle.sweep.specs.declared.Remainder.{Remainder}

-- where its bytes come from, where they go, and how many they are
abbrev pub remainder_of : Channel → Remainder
remainder_of c = record { from = from c; into = into c; bytes = bytes_to_go c }
