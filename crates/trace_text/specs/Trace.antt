-- The text that the trace program writes to standard output, from the bytes of its standard input (§9).
use Rattle.std.specs.Prelude.{List, [], ◌∷◌, ◌++◌, ◌≡◌, ℕ, zero, suc, ◌+◌, eqb, leb, length, replicate}
use Rattle.ground_rules.specs.Choice.{pick}
use Rattle.ground_rules.specs.Buffers.{Buffers, buffers}
use Rattle.ground_rules.specs.declared.State.{State}
use Rattle.ground_rules.specs.Outcomes.{Outcome}
use Rattle.ground_rules.specs.States.{fresh_of}
use Rattle.attention_rules.specs.Attention.{attention_of}
use Rattle.turn_rules.specs.Step.{step_of}
use Rattle.run_rules.specs.Run.{Run, ran, run_of}
use Rattle.trace_text.specs.Line.{step_line, end_line}

-- a line for each done step, until one is refused or none is left, and the last line; `left` steps may still be done, `done` were
unfoldable pub steps_text : ℕ → State → Buffers → ℕ → List ℕ
steps_text zero s m done = end_line 0 done
steps_text (suc left) s m done =
    let o = step_of s m 0 in
    let rest = steps_text left o.state o.memory (done + 1) in
    pick (eqb o.number 0) (step_line (done + 1) o ++ rest) (end_line o.number done)

-- a refused attention is followed by the last line alone
unfoldable pub attended_text : Outcome → List ℕ
attended_text o = pick (eqb o.number 0) (steps_text 1000 o.state o.memory 0) (end_line o.number 0)

-- the input is system memory, I/O memory is 256 bytes of 0 (§9.1)
abbrev pub traced_memory : List ℕ → Buffers
traced_memory input = buffers input (replicate 256 0)

-- the whole text: an attention to channel 1 of a fresh machine with CP 0, and steps with no line up; input over 4,096 bytes is 11 with no step
unfoldable pub trace_of : List ℕ → List ℕ
trace_of input =
    pick (leb (length input) 4096) (attended_text (attention_of (fresh_of 0).state (traced_memory input) 1)) (end_line 11 0)

-- the run of such an input: the panel's, with CP 0, channel 1, no line up and a limit of 1,000 steps (§8.2)
unfoldable pub traced_run : List ℕ → Run
traced_run input = pick (leb (length input) 4096) (run_of (traced_memory input) 0 1 0 1000) (ran 11 0 (traced_memory input))

-- how many lines end in a text
unfoldable pub line_feeds : List ℕ → ℕ
line_feeds [] = 0
line_feeds (b ∷ text) = pick (eqb b 10) 1 0 + line_feeds text

-- a text shows a run: a line for each of its steps, and behind them the last line with its number and its steps
pub record Shows (run : Run) (text : List ℕ) : Type 0 where
  pub lines : List ℕ
  pub whole : text ≡ lines ++ end_line run.number run.steps
  pub counted : line_feeds lines ≡ run.steps
