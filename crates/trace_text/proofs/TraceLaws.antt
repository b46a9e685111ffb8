-- What a trace shows: the number and the steps of the panel's run, and as many lines as it did steps.
-- Assumes nothing.
use mathlib.Core.Bool.{Bool, true, false}
use mathlib.Core.List.{List, [], ◌∷◌, ◌++◌, append_assoc}
use mathlib.Core.Path.{◌≡◌, refl, sym, subst}
use Prim.Native.Nat.{ℕ, zero, suc, ◌+◌, ◌-◌, ◌≤◌, ◌<◌}
use native.Mathlib.Omega.{arith}
use native.Mathlib.Decide.{dec_lt}
use borrow.Author.Tests.{ne_eqb, le-leb, lt-leb}
use lib.Dec.{eqb, ltb, lit≤}
use lib.ListN.{length, drop}
use Rattle.ground_rules.specs.Choice.{pick}
use Rattle.ground_rules.specs.Buffers.{Buffers, limit_of, within_limits}
use Rattle.ground_rules.specs.declared.State.{State}
use Rattle.ground_rules.specs.Outcomes.{Outcome, first, unless}
use Rattle.ground_rules.specs.States.{is_channel, fresh_of}
use Rattle.attention_rules.specs.Attention.{attention_of}
use Rattle.turn_rules.specs.Step.{Step, step_of}
use Rattle.turn_rules.specs.declared.Kind.{Kind}
use Rattle.turn_rules.specs.declared.Kind.TheVariants.{Nothing, Instruction, Transfer, External}
use Rattle.run_rules.specs.Run.{Run, ran, steps_from, attended_run, call_number}
use Rattle.run_rules.proofs.Outcomes.{attends}
use Rattle.page.specs.Numbers.{glyph, eight_digits, hex, ten_digits, unpadded, decimal, letter}
use Rattle.trace_text.specs.Line.{line_of, step_line, end_line}
use Rattle.trace_text.specs.Trace.{steps_text, attended_text, traced_memory, trace_of, traced_run, line_feeds, Shows}

-- ---- a line ends once

-- the lines of two texts in a row
feeds-both : (a b : List ℕ) → line_feeds (a ++ b) ≡ line_feeds a + line_feeds b
unfolding line_feeds
feeds-both [] b = omega arith
feeds-both (x ∷ a) b = omega (arith, feeds-both a b)

-- a digit ends no line
no-feed : (d : ℕ) → eqb (glyph false d) 10 ≡ false
unfolding glyph
no-feed d = go (ltb d 10)
  where
    go : (b : Bool) → eqb (pick b (48 + d) (55 + d)) 10 ≡ false
    go true = ne_eqb (48 + d) 10 (λ e. omega arith)
    go false = ne_eqb (55 + d) 10 (λ e. omega arith)

-- nor does what is left of characters that end none
no-feed-behind : (k : ℕ) (text : List ℕ) → line_feeds text ≡ 0 → line_feeds (drop k text) ≡ 0
unfolding line_feeds
no-feed-behind zero text h = h
no-feed-behind (suc k) [] h = h
no-feed-behind (suc k) (b ∷ text) h = no-feed-behind k text (omega arith)

-- nor does a number in hexadecimal
no-feed-hex : (width n : ℕ) → line_feeds (hex false width n) ≡ 0
unfolding hex eight_digits line_feeds
no-feed-hex width n = no-feed-behind (8 - width) (eight_digits false n) (simp no-feed)

-- nor do digits without the zeros in front
no-feed-unpadded : (digits : List ℕ) → line_feeds digits ≡ 0 → line_feeds (unpadded digits) ≡ 0
unfolding unpadded line_feeds
no-feed-unpadded [] h = h
no-feed-unpadded (d ∷ []) h = h
no-feed-unpadded (d ∷ e ∷ digits) h = go (eqb d 48) (no-feed-unpadded (e ∷ digits) (omega arith))
  where
    go : (b : Bool) → line_feeds (unpadded (e ∷ digits)) ≡ 0 → line_feeds (pick b (unpadded (e ∷ digits)) (d ∷ e ∷ digits)) ≡ 0
    go true k = k
    go false k = h

-- nor does a decimal digit
no-feed-digit : (d : ℕ) → eqb (48 + d) 10 ≡ false
no-feed-digit d = ne_eqb (48 + d) 10 (λ e. omega arith)

-- nor a number in decimal
no-feed-decimal : (n : ℕ) → line_feeds (decimal n) ≡ 0
unfolding decimal ten_digits line_feeds
no-feed-decimal n = no-feed-unpadded (ten_digits n) (simp no-feed-digit)

-- nor the letter of a kind
no-feed-letter : (kind : Kind) → eqb (letter kind) 10 ≡ false
unfolding letter
no-feed-letter Nothing = refl
no-feed-letter Instruction = refl
no-feed-letter Transfer = refl
no-feed-letter External = refl

-- the line of a step is one line
one_line : (number channel : ℕ) (kind : Kind) (tp : ℕ) → line_feeds (line_of number channel kind tp) ≡ 1
unfolding line_of line_feeds
one_line number channel kind tp = simp (feeds-both, no-feed-decimal, no-feed-hex, no-feed-letter)

one-step : (number : ℕ) (o : Step) → line_feeds (step_line number o) ≡ 1
unfolding step_line
one-step number o = one_line number o.channel o.kind _

-- ---- the steps

-- the lines of the done steps alone
unfoldable done_lines : ℕ → State → Buffers → ℕ → List ℕ
done_lines zero s m done = []
done_lines (suc left) s m done =
    let o = step_of s m 0 in
    let rest = done_lines left o.state o.memory (done + 1) in
    pick (eqb o.number 0) (step_line (done + 1) o ++ rest) []

-- behind them stands the last line, with the number and the steps of the run
steps-whole : (left : ℕ) (s : State) (m : Buffers) (done : ℕ)
    → steps_text left s m done
    ≡ done_lines left s m done ++ end_line (steps_from left s m 0 done).number (steps_from left s m 0 done).steps
unfolding steps_text done_lines steps_from
steps-whole zero s m done = refl
steps-whole (suc left) s m done =
    let o = step_of s m 0 in
    go (eqb o.number 0) (step_line (done + 1) o) (done_lines left o.state o.memory (done + 1)) (steps_text left o.state o.memory (done + 1))
    (steps_from left o.state o.memory 0 (done + 1)) (ran o.number done o.memory) (steps-whole left o.state o.memory (done + 1))
  where
    go : (b : Bool) (line lines text : List ℕ) (rest refused : Run) → text ≡ lines ++ end_line rest.number rest.steps
        → pick b (line ++ text) (end_line refused.number refused.steps)
        ≡ pick b (line ++ lines) [] ++ end_line (pick b rest refused).number (pick b rest refused).steps
    go true line lines text rest refused e = rw (e, append_assoc line lines (end_line rest.number rest.steps))
    go false line lines text rest refused e = refl

-- they are as many as the steps
steps-counted : (left : ℕ) (s : State) (m : Buffers) (done : ℕ)
    → line_feeds (done_lines left s m done) + done ≡ (steps_from left s m 0 done).steps
unfolding done_lines steps_from line_feeds
steps-counted zero s m done = omega arith
steps-counted (suc left) s m done =
    let o = step_of s m 0 in
    go (eqb o.number 0) (step_line (done + 1) o) (done_lines left o.state o.memory (done + 1))
    (steps_from left o.state o.memory 0 (done + 1)) o.number o.memory (one-step (done + 1) o)
    (steps-counted left o.state o.memory (done + 1))
  where
    go : (b : Bool) (line lines : List ℕ) (rest : Run) (number : ℕ) (m' : Buffers) → line_feeds line ≡ 1 → line_feeds lines + (done + 1) ≡ rest.steps
        → line_feeds (pick b (line ++ lines) []) + done ≡ (pick b rest (ran number done m')).steps
    go true line lines rest number m' one e = omega (arith, feeds-both line lines)
    go false line lines rest number m' one e = omega arith

-- ---- the run

module _ (input : List ℕ) (fits : length input ≤ 4096) where
  -- nothing of what the run is given is refused
  given : call_number (traced_memory input) 1 0 1000 ≡ 0
  unfolding call_number first unless within_limits limit_of is_channel
  given = rw (le-leb (length input) 1048576 (omega arith))

  -- the run is one attention to a fresh machine, and the steps after it
  pub run-attended : traced_run input ≡ attended_run (attention_of (fresh_of 0).state (traced_memory input) 1) 0 1000
  unfolding traced_run fresh_of
  run-attended = rw (le-leb (length input) 4096 fits) (attends (traced_memory input) 0 1 0 1000 given (lit≤ tt))

-- the text of an attention and the steps after it shows the run
attended-shows : (o : Outcome) → Shows (attended_run o 0 1000) (attended_text o)
unfolding attended_run attended_text line_feeds
attended-shows o = go (eqb o.number 0)
  where
    go : (b : Bool) → Shows (pick b (steps_from 1000 o.state o.memory 0 0) (ran o.number 0 o.memory)) (pick b (steps_text 1000 o.state o.memory 0) (end_line o.number 0))
    go true =
        record {
          lines = done_lines 1000 o.state o.memory 0;
          whole = steps-whole 1000 o.state o.memory 0;
          counted = omega (arith, steps-counted 1000 o.state o.memory 0);
        }
    go false = record { lines = []; whole = refl; counted = refl }

-- every trace shows its run
pub trace-shows : (input : List ℕ) → Shows (traced_run input) (trace_of input)
unfolding trace_of traced_run line_feeds
trace-shows input = go (dec_lt 4096 (length input))
  where
    go : Dec (4096 < length input) → Shows (traced_run input) (trace_of input)
    go (yes h) = rw (lt-leb (length input) 4096 h) (record { lines = []; whole = refl; counted = refl })
    go (no h) =
        let fits : length input ≤ 4096 = omega arith in
        subst (λ (r : Run). Shows r (trace_of input)) (sym (run-attended input fits))
        (rw (le-leb (length input) 4096 fits) (attended-shows (attention_of (fresh_of 0).state (traced_memory input) 1)))
