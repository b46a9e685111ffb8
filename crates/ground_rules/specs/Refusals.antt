-- The numbers by which refusals are answered (§3.1).
use Rattle.std.specs.Prelude.{ℕ, Result, Ok, Err}
use Rattle.ground_rules.specs.declared.Done.{Done}
use Rattle.ground_rules.specs.Buffers.{Buffers}
use Rattle.ground_rules.specs.Outcomes.{Outcome, outcome}
use Rattle.ground_rules.specs.declared.Answer.{Answer}
use Rattle.ground_rules.specs.declared.Refusal.{Refusal}
use Rattle.ground_rules.specs.declared.State.{State}
use Rattle.ground_rules.specs.declared.Refusal.TheVariants.{NothingSteps, BeyondMemory, NotAnInstruction, ControlNamed, BadTransferMode, BadCommand, NotSuspended, AlreadyRunning, NotRunning, UnsoundState, BufferTooLong, OutOfRange, NotPoweredUp, FieldsDiffer, NotSweepable, UnknownRow, NotAState}

-- the number of a refusal
abbrev pub number_of : Refusal → ℕ
number_of NothingSteps = 1
number_of BeyondMemory = 2
number_of NotAnInstruction = 3
number_of ControlNamed = 4
number_of BadTransferMode = 5
number_of BadCommand = 6
number_of NotSuspended = 7
number_of AlreadyRunning = 8
number_of NotRunning = 9
number_of UnsoundState = 10
number_of BufferTooLong = 11
number_of OutOfRange = 12
number_of NotPoweredUp = 13
number_of FieldsDiffer = 14
number_of NotSweepable = 15
number_of UnknownRow = 16
number_of NotAState = 17

-- the number of an answer: 0 where the call is done, else that of its refusal
abbrev pub answered : {A : Type 0} → Result A Refusal → ℕ
answered (Ok a) = 0
answered (Err refusal) = number_of refusal

-- how many bytes an instruction or a transfer step read and stored: none where it is refused
abbrev pub done_count : Result Done Refusal → ℕ
done_count (Ok d) = d.count
done_count (Err refusal) = 0

-- what a call on a state comes to, by what it answers and the memories that it leaves: refused, it leaves the state as it was given
abbrev pub outcome_by : State → Result Answer Refusal → Buffers → Outcome
outcome_by s (Ok done) m = outcome 0 done.state m
outcome_by s (Err refusal) m = outcome (number_of refusal) s m

-- how many bytes it read and stored; none where it is refused
abbrev pub answer_count : Result Answer Refusal → ℕ
answer_count (Ok done) = done.count
answer_count (Err refusal) = 0
