-- Who can step, as conditions (§5.2, §5.3).
use Rattle.std.specs.Prelude.{ℕ, Bool, true, false, ◌⊎◌, ◌≡◌}
use Rattle.ground_rules.specs.Psw.{transferring}
use Rattle.ground_rules.specs.States.{channel_of}
use Rattle.ground_rules.specs.declared.Channel.{Channel}
use Rattle.ground_rules.specs.declared.Mode.TheVariants.{Running}
use Rattle.ground_rules.specs.declared.State.{State}
use Rattle.turn_rules.specs.Choosing.{requested, external, rank_of}

-- an external end is due: the channel runs, with XF set, TX on and its EXT up
abbrev pub EndsNow : Channel → Bool → Type 0
EndsNow c ext = (c.mode ≡ Running) × (transferring c.psw ≡ true) × ¬ (c.fields.externalEnd ≡ 0) × (ext ≡ true)

-- its transfer need not wait: no synchronisation, or its DRQ up, or SYN 11
abbrev pub MayMove : Channel → Bool → Type 0
MayMove c drq = (transferring c.psw ≡ true) × ((c.fields.synchronised ≡ 0) ⊎ ((drq ≡ true) ⊎ (c.fields.synchronised ≡ 3)))

-- it executes and is chained
abbrev pub ChainedProgram : Channel → Type 0
ChainedProgram c = (transferring c.psw ≡ false) × (c.fields.chained ≡ true)

-- rank 1, of a running channel
abbrev pub RankOne : Channel → Bool → Type 0
RankOne c drq = (c.mode ≡ Running) × (MayMove c drq ⊎ ChainedProgram c)

-- rank 3, of a running channel: it executes and is not chained
abbrev pub RankThree : Channel → Type 0
RankThree c = (c.mode ≡ Running) × (transferring c.psw ≡ false) × (c.fields.chained ≡ false)

-- a channel that has a rank
abbrev pub HasRank : Channel → Bool → Type 0
HasRank c drq = RankOne c drq ⊎ RankThree c

-- its transfer waits for its DRQ, and no external end is due
abbrev pub Waits : Channel → Bool → Bool → Type 0
Waits c drq ext = (transferring c.psw ≡ true) × ((c.fields.synchronised ≡ 1) ⊎ (c.fields.synchronised ≡ 2)) × (drq ≡ false) × ¬ (EndsNow c ext)

-- the same of a state's channel, with the lines as given
abbrev pub ExternalAt : State → ℕ → Bool → Type 0
ExternalAt s lines second = EndsNow (channel_of s second) (external lines second)

abbrev pub RankedAt : State → ℕ → Bool → Type 0
RankedAt s lines second = HasRank (channel_of s second) (requested lines second)

abbrev pub WaitsAt : State → ℕ → Bool → Type 0
WaitsAt s lines second = Waits (channel_of s second) (requested lines second) (external lines second)

abbrev pub rank_at : State → ℕ → Bool → ℕ
rank_at s lines second = rank_of (channel_of s second) (requested lines second)

-- no channel's transfer ends by its EXT
abbrev pub NoneEnds : State → ℕ → Type 0
NoneEnds s lines = (second : Bool) → ¬ (ExternalAt s lines second)

-- 1: no external end is due and no channel has a rank (§5.5)
abbrev pub NoneRuns : State → ℕ → Type 0
NoneRuns s lines = (second : Bool) → ¬ (ExternalAt s lines second ⊎ RankedAt s lines second)
