-- When 16 is given, and when a row counts for a channel: as an attention, as a done step, as one that found it waiting for its DRQ (§15).
use mathlib.Core.{Bool.Bool, Bool.true, Bool.false, List.List, List.[], List.◌∷◌, Logic.◌⊎◌, Path.◌≡◌}
use Rattle.std.specs.Prelude.{◌<◌}
use Rattle.ground_rules.specs.{Conditions.Check, Conditions.check, Psw.transferring, States.channel_of, States.channel_number, declared.Mode.TheVariants.Running}
use Rattle.turn_rules.specs.{Choosing.requested, Step.step_of, declared.Kind.Kind}
use Rattle.schedule_rules.specs.{Rows.Bench, declared.ScheduleRow.ScheduleRow}

-- 16: a row's kind is neither 1 nor 2 (§15.1)
abbrev pub UnknownIn : List ScheduleRow → Type 0
UnknownIn [] = ⊥
UnknownIn (r ∷ rows) = (¬ (r.kind ≡ 1) × ¬ (r.kind ≡ 2)) ⊎ UnknownIn rows

-- the one check of a schedule (§15.1)
abbrev pub schedule_checks : List ScheduleRow → List Check
schedule_checks rows = check 16 (UnknownIn rows) ∷ []

-- a row of kind 1 whose value is the channel's number (§15.1)
abbrev pub AttentionRow : Bool → ScheduleRow → Type 0
AttentionRow second r = (r.kind ≡ 1) × (r.value ≡ channel_number second)

-- a row of kind 2 whose step is done, by this channel, and of this kind (§15.2)
pub record StepRow (kind : Kind) (second : Bool) (p : Bench) (r : ScheduleRow) : Type 0 where
  pub steps : r.kind ≡ 2
  pub done : (step_of p.state p.memory r.value).number ≡ 0
  pub channel : (step_of p.state p.memory r.value).channel ≡ channel_number second
  pub of : (step_of p.state p.memory r.value).kind ≡ kind

-- a step row with a line number up to 15, before which the channel runs with XF, its fields have SYN 01 or 10, and its DRQ is down (§15.2)
pub record FoundWaiting (second : Bool) (p : Bench) (r : ScheduleRow) : Type 0 where
  pub steps : r.kind ≡ 2
  pub lines : r.value < 16
  pub runs : (channel_of p.state second).mode ≡ Running
  pub transfers : transferring (channel_of p.state second).psw ≡ true
  pub synchronised : ((channel_of p.state second).fields.synchronised ≡ 1) ⊎ ((channel_of p.state second).fields.synchronised ≡ 2)
  pub request : requested r.value second ≡ false
