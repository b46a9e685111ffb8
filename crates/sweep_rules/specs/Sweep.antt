-- The sweep call: its number, a chain in order, and its whole outcome (§3.9, §7.15).
use Rattle.std.specs.Prelude.{Bool, true, false, not, ◌&&◌, ℕ, ◌*◌, ◌%◌, eqb, ltb, Result, Ok, Err}
use Rattle.ground_rules.specs.Refusals.{number_of}
use Rattle.ground_rules.specs.declared.Refusal.{Refusal}
use Rattle.ground_rules.specs.Choice.{pick}
use Rattle.ground_rules.specs.Buffers.{Buffers}
use Rattle.ground_rules.specs.Outcomes.{first, unless, given_number}
use Rattle.ground_rules.specs.Psw.{transferring}
use Rattle.ground_rules.specs.States.{channel_of, with_channel, with_last, is_running, is_channel, is_second}
use Rattle.ground_rules.specs.declared.Channel.{Channel}
use Rattle.ground_rules.specs.declared.Fields.{Fields}
use Rattle.ground_rules.specs.declared.State.{State}
use Rattle.transfer_rules.specs.Sides.{count_on}
use Rattle.block_rules.specs.Premises.{from, into}
use Rattle.block_rules.specs.Stages.{finished}
use Rattle.block_rules.specs.Totals.{total}
use Rattle.turn_rules.specs.Choosing.{external}
use Rattle.sweep_rules.specs.Copies.{copied_on}
use Rattle.sweep_rules.specs.Ranges.{range_lent, ranges_apart}
use Rattle.sweep_rules.specs.declared.Swept.{Swept}

-- the bytes to go: BC, with 0 as 65,536 (§7.15)
unfoldable pub bytes_to_go : Channel → ℕ
bytes_to_go c = pick (eqb c.bc 0) 65536 c.bc

-- a transfer from block to block, neither synchronised nor translated, that only its byte count ends: both sides move on, SYN 00, TBC on, TMC's low
-- two bits 00, TX 00, TS 0 (§7.15)
unfoldable pub plain_fields : Fields → Bool
plain_fields f =
    f.sourceMoves
    && (f.destinationMoves
    && (eqb f.synchronised 0
    && (not f.translates
    && (count_on f
    && (eqb (f.matchEnd % 4) 0
    && (eqb f.externalEnd 0
    && not f.singleTransfer))))))

-- the channel runs with XF set, and its transfer is such a one (§7.15)
unfoldable pub plain_transfer : Channel → Bool
plain_transfer c = is_running c.mode && (transferring c.psw && plain_fields c.fields)

-- both of its ranges are lent, do not wrap, and share no byte (§7.15)
unfoldable pub ranges_fit : Channel → Buffers → Bool
ranges_fit c m =
    range_lent m (from c) (bytes_to_go c)
    && (range_lent m (into c) (bytes_to_go c)
    && ranges_apart (from c) (into c) (bytes_to_go c))

-- no EXT is up, neither channel's (§7.15)
unfoldable pub none_external : ℕ → Bool
none_external lines = not (external lines false) && not (external lines true)

-- a channel of a state can be swept: no EXT is up, the other channel does not run, and its transfer and ranges are as above (§7.15)
unfoldable pub sweepable : State → Buffers → Bool → ℕ → Bool
sweepable s m second lines =
    none_external lines
    && (not (is_running (channel_of s (not second)).mode)
    && (plain_transfer (channel_of s second) && ranges_fit (channel_of s second) m))

-- 12 for channel and lines, then what every call is given (11, 10, 13, 14), then 15 (§3.9)
unfoldable pub sweep_number : State → Buffers → ℕ → ℕ → ℕ
sweep_number s m channel lines =
    first (unless (is_channel channel && ltb lines 16) 12) (first (given_number s m) (unless (sweepable s m (is_second channel) lines) 15))

-- what a sweep leaves: the number, the state, both memories, the steps that it stands for, and the bytes that it read and stored
pub record Sweep : Type 0 where
  pub number : ℕ
  pub state : State
  pub memory : Buffers
  pub steps : ℕ
  pub count : ℕ

abbrev pub swept_to : ℕ → State → Buffers → ℕ → ℕ → Sweep
swept_to number s m steps count = record { number = number; state = s; memory = m; steps = steps; count = count }

-- a refused sweep leaves what was given, no step and no byte (§3.3)
abbrev pub refused_sweep : ℕ → State → Buffers → Sweep
refused_sweep number s m = swept_to number s m 0 0

-- what the code answers, together with the memories that it leaves: refused, it leaves the state as it was given
abbrev pub swept_by : State → Result Swept Refusal → Buffers → Sweep
swept_by s (Ok a) m = swept_to 0 a.state m a.steps a.count
swept_by s (Err refusal) m = refused_sweep (number_of refusal) s m

-- a done sweep: the bytes copied, the channel at demand 3's end, put back and last to step; the steps are demand 3's total, and each byte is read once
-- and stored once (§7.15)
unfoldable pub done_sweep : State → Buffers → Bool → Sweep
done_sweep s m second =
    let c = channel_of s second in
    let n = bytes_to_go c in
    swept_to 0 (with_last (with_channel s second (finished c n)) second) (copied_on m (from c) (into c) n) (total c n) (2 * n)

-- the whole outcome
unfoldable pub sweep_of : State → Buffers → ℕ → ℕ → Sweep
sweep_of s m channel lines =
    pick (eqb (sweep_number s m channel lines) 0) (done_sweep s m (is_second channel)) (refused_sweep (sweep_number s m channel lines) s m)
