-- Which channel steps (§5.1 to §5.4).
use Rattle.std.specs.Prelude.{Bool, true, false, not, ◌&&◌, ◌||◌, ℕ, eqb, ltb}
use Rattle.ground_rules.specs.Choice.{pick}
use Rattle.ground_rules.specs.Bits.{bit_of}
use Rattle.ground_rules.specs.declared.Channel.{Channel}
use Rattle.ground_rules.specs.declared.State.{State}
use Rattle.ground_rules.specs.Psw.{transferring, priority}
use Rattle.ground_rules.specs.States.{is_running}
use Rattle.turn_rules.specs.declared.Choice.{Choice}
use Rattle.turn_rules.specs.declared.Choice.TheVariants.{Nobody, Ends, Steps}

-- DRQ of a channel: bit 0 of the line number for channel 1, bit 1 for channel 2 (§5.1)
unfoldable pub requested : ℕ → Bool → Bool
requested lines second = bit_of lines (pick second 1 0)

-- EXT of a channel: bit 2 for channel 1, bit 3 for channel 2 (§5.1)
unfoldable pub external : ℕ → Bool → Bool
external lines second = bit_of lines (pick second 3 2)

-- a channel has an external end: it runs, with XF set, TX on and its EXT up (§5.2)
unfoldable pub ends_now : Channel → Bool → Bool
ends_now c ext = is_running c.mode && transferring c.psw && not (eqb c.fields.externalEnd 0) && ext

-- a channel that cannot step has a rank past all others
abbrev pub no_rank : ℕ
no_rank = 4

-- a running channel with XF has rank 1, unless it is synchronised and its DRQ is down: then it waits (§5.3)
unfoldable pub transfer_rank : ℕ → Bool → ℕ
transfer_rank syn drq = pick (eqb syn 0 || drq || eqb syn 3) 1 no_rank

-- with XF by its transfer; without, 1 where it is chained, else 3; a channel that does not run has none (§5.3)
unfoldable pub rank_of : Channel → Bool → ℕ
rank_of c drq =
    pick (is_running c.mode)
    (pick (transferring c.psw)
    (transfer_rank c.fields.synchronised drq)
    (pick c.fields.chained 1 3))
    no_rank

-- whether channel 2 goes first: by the lower rank, then by priority, then by not being last (§5.4)
unfoldable pub second_wins : ℕ → ℕ → Bool → Bool → Bool → Bool
second_wins rank₁ rank₂ priority₁ priority₂ last =
    pick (ltb rank₁ rank₂) false
    (pick (ltb rank₂ rank₁) true
    (pick (priority₁ && not priority₂) false
    (pick (priority₂ && not priority₁) true (not last))))

-- where no transfer ends: nobody, or the channel that wins
unfoldable pub ranked : State → ℕ → ℕ → Choice
ranked s rank₁ rank₂ =
    pick (eqb rank₁ no_rank && eqb rank₂ no_rank) Nobody
    (Steps (second_wins rank₁ rank₂ (priority s.first.psw) (priority s.second.psw) s.last))

-- an external end comes first, that of channel 1 before that of channel 2; else the ranks decide (§5.2, §5.4)
unfoldable pub choice_of : State → ℕ → Choice
choice_of s lines =
    pick (ends_now s.first (external lines false)) (Ends false)
    (pick (ends_now s.second (external lines true)) (Ends true)
    (ranked s (rank_of s.first (requested lines false)) (rank_of s.second (requested lines true))))

-- the refusal of a choice: 1 where nobody can step (§5.5)
abbrev pub choice_number : Choice → ℕ
choice_number Nobody = 1
choice_number (Ends second) = 0
choice_number (Steps second) = 0
