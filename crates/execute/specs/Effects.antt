-- What the code works out of an instruction, in numbers, and when that is what its deed says.
use Rattle.std.specs.Prelude.{◌≡◌, ℕ, ◌+◌, Bool, false, length, Some, None, Result, Ok, Err}
use Rattle.ground_rules.specs.Buffers.{Buffers, AllBytes}
use Rattle.ground_rules.specs.Choice.{pick}
use Rattle.ground_rules.specs.Outcomes.{first, unless}
use Rattle.ground_rules.specs.Places.{span, all_touchable}
use Rattle.ground_rules.specs.Refusals.{number_of}
use Rattle.ground_rules.specs.Updates.{renewed, dropped}
use Rattle.ground_rules.specs.Values.{pointer}
use Rattle.ground_rules.specs.declared.Channel.{Channel}
use Rattle.ground_rules.specs.declared.Refusal.{Refusal}
use Rattle.ground_rules.specs.declared.Mode.TheVariants.{Idle}
use Rattle.instruction_rules.specs.Changes.{change}
use Rattle.instruction_rules.specs.Deeds.{Deed}
use Rattle.instruction_rules.specs.Execute.{deed_of}
use Rattle.instruction_rules.specs.Lengths.{length_of}
use Rattle.instruction_rules.specs.MemoryForms.{read_first}
use Rattle.instruction_rules.specs.Operands.{size_of, work_of}
use Rattle.instruction_rules.specs.declared.Change.{Change}
use Rattle.instruction_rules.specs.declared.Memory.{Memory}
use Rattle.instruction_rules.specs.declared.Shape.{Shape}
use Rattle.instruction_rules.specs.declared.Work.{Work}
use Rattle.execute.specs.Bytes.{operand_of_four, landing_by, grown_ix}
use Rattle.execute.specs.Findings.{finding_of}
use Rattle.execute.specs.Writes.{write_made}
use Rattle.execute.specs.declared.Effect.{Effect}
use Rattle.execute.specs.declared.Finding.{Finding}
use Rattle.execute.specs.declared.Write.{Write}

-- ---- the effects of the families

-- another TP, IX, PSW and mark, and nothing else
abbrev pub leaving : ℕ → ℕ → ℕ → Bool → ℕ → Effect
leaving tp ix psw armed reads =
    record { more = 0; reads = reads; tp = tp; ix = ix; psw = psw; halts = false; armed = armed; write = None; count = 0; space = false; address = 0; value = 0 }

-- past the instruction, and nothing else
abbrev pub going_past : Finding → Effect
going_past f = leaving f.tp f.ix f.psw false 0

-- a register that is written
abbrev pub writing : Finding → ℕ → ℕ → Write → Effect
writing f ix reads w =
    record { more = 0; reads = reads; tp = f.tp; ix = ix; psw = f.psw; halts = false; armed = false; write = Some w; count = 0; space = false; address = 0; value = 0 }

-- some bytes of a value, stored where the operand lies
abbrev pub storing_there : Finding → ℕ → ℕ → ℕ → ℕ → Effect
storing_there f ix reads count value =
    record { more = 0; reads = reads; tp = f.tp; ix = ix; psw = f.psw; halts = false; armed = false; write = None; count = count; space = f.space; address = f.at; value = value }

-- what the work of a memory operand and another value stores back
abbrev pub work_stored : Finding → Work → Memory → ℕ → Effect
work_stored f work o v = storing_there f (grown_ix o f.ix (size_of o.wide)) (read_first work o.wide) (size_of o.wide) (work_of work (operand_of_four f.operand o.wide) v)

-- a jump on a byte that was tested
abbrev pub jumping : Finding → Bool → Memory → Bool → Effect
jumping f taken o two = leaving (pick taken (landing_by f.tp f.behind two) f.tp) (grown_ix o f.ix 1) f.psw false 1

-- ---- an effect and a deed

-- the channel after an effect but for the register that it writes; and what it stores
unfoldable pub channel_worked : Channel → Effect → Channel
channel_worked c e = dropped (renewed c (pointer e.tp c.tp.tag) e.ix e.psw (pick e.halts Idle c.mode) e.armed)

abbrev pub change_in : Effect → Change
change_in e = change e.count (pointer e.address e.space) e.value

-- the number that the reading of a deed gives: that of the second pair, then 2
unfoldable pub deed_number : Buffers → Deed → ℕ
deed_number m d = first d.second (unless (all_touchable m d.reads) 2)

-- an effect leaves the channel and the stores of a deed
pub record Carries (c : Channel) (d : Deed) (e : Effect) : Type 0 where
  pub channel : write_made (channel_worked c e) e.write ≡ d.channel
  pub change : change_in e ≡ d.change

-- an effect of what was found is a deed, but that the bytes which it reads of its operand are still to be tested
pub record Performs (m : Buffers) (c : Channel) (f : Finding) (d : Deed) (e : Effect) : Type 0 where
  pub told : unless (all_touchable m (span f.space f.at e.reads)) 2 ≡ deed_number m d
  pub reads : deed_number m d ≡ 0 → e.more + e.reads ≡ length d.reads
  pub carries : deed_number m d ≡ 0 → Carries c d e

-- the same of what may be refused before that, by the deed's number
abbrev pub DoesOr : Buffers → Channel → Finding → Deed → Result Effect Refusal → Type 0
DoesOr m c f d (Ok e) = Performs m c f d e
DoesOr m c f d (Err refusal) = number_of refusal ≡ deed_number m d

-- an effect is the deed of a shape, where what was found is what an instruction of that shape finds in memories of bytes
abbrev pub Works : Shape → ℕ → Finding → Buffers → Channel → Effect → Type 0
Works s busy f m c e = AllBytes m → f ≡ finding_of m c s (length_of s) → Performs m c f (deed_of s m c busy) e

-- the same of what may be refused
abbrev pub WorksOr : Shape → ℕ → Finding → Buffers → Channel → Result Effect Refusal → Type 0
WorksOr s busy f m c r = AllBytes m → f ≡ finding_of m c s (length_of s) → DoesOr m c f (deed_of s m c busy) r

-- an effect is a deed that is not refused, its own bytes being read too
pub record Prepared (c : Channel) (number own : ℕ) (d : Deed) (e : Effect) : Type 0 where
  pub told : number ≡ 0
  pub reads : e.reads ≡ own + length d.reads
  pub carries : Carries c d e

-- a plan is refused by a number or, where that is 0, is such an effect
abbrev pub Planned : Channel → ℕ → ℕ → Deed → Result Effect Refusal → Type 0
Planned c number own d (Ok e) = Prepared c number own d e
Planned c number own d (Err refusal) = number_of refusal ≡ number
