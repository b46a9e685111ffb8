-- The laws of a trace's text: the steps' text one step at a time, and how long it is at most.
-- Assumes nothing.
use mathlib.Core.Bool.{Bool, true, false}
use mathlib.Core.List.{List, [], ◌∷◌, ◌++◌}
use mathlib.Core.Path.{◌≡◌, refl, ap}
use Prim.Native.Nat.{ℕ, zero, suc, ◌+◌, ◌-◌, ◌*◌, ◌≤◌, ◌<◌}
use native.Mathlib.Nat.{not-suc-le-zero}
use native.Mathlib.Omega.{arith}
use borrow.Author.Tests.{eq-eqb, ne_eqb}
use lib.Dec.{eqb, leb}
use lib.ListN.{length, length-append}
use Rattle.ground_rules.specs.Choice.{pick}
use Rattle.ground_rules.specs.Buffers.{Buffers}
use Rattle.ground_rules.specs.declared.State.{State}
use Rattle.ground_rules.specs.States.{fresh_of, channel_of, is_second}
use Rattle.attention_rules.specs.Attention.{attention_of}
use Rattle.page.specs.Numbers.{hex, decimal, letter}
use Rattle.page.proofs.NumberLaws.{hex-short, decimal-short}
use Rattle.turn_rules.specs.Step.{Step, step_of}
use Rattle.turn_rules.specs.declared.Kind.{Kind}
use Rattle.trace_text.specs.Line.{line_of, step_line, end_line}
use Rattle.trace_text.specs.Trace.{steps_text, attended_text, traced_memory, trace_of}

-- ---- one step at a time

-- a refused step is followed by the last line
pub refused-text : (left : ℕ) (s : State) (m : Buffers) (done : ℕ) → 0 < left → ((step_of s m 0).number ≡ 0 → ⊥)
    → steps_text left s m done ≡ end_line (step_of s m 0).number done
unfolding steps_text
refused-text zero s m done h ne = absurd (not-suc-le-zero h)
refused-text (suc left) s m done h ne = rw (ne_eqb (step_of s m 0).number 0 ne)

-- a done step has its line, and leaves the rest of the text
pub done-text : (left : ℕ) (s : State) (m : Buffers) (done : ℕ) → 0 < left → (step_of s m 0).number ≡ 0
    → steps_text left s m done
    ≡ step_line (done + 1) (step_of s m 0) ++ steps_text (left - 1) (step_of s m 0).state (step_of s m 0).memory (done + 1)
unfolding steps_text
done-text zero s m done h e = absurd (not-suc-le-zero h)
done-text (suc left) s m done h e =
    rw (eq-eqb (step_of s m 0).number 0 e)
    (let n : left ≡ suc left - 1 = omega arith in ap (λ (k : ℕ). step_line (done + 1) (step_of s m 0) ++ steps_text k (step_of s m 0).state (step_of s m 0).memory (done + 1)) n)

-- at the limit the last line follows
pub limit-text : (left : ℕ) (s : State) (m : Buffers) (done : ℕ) → left ≡ 0 → steps_text left s m done ≡ end_line 0 done
unfolding steps_text
limit-text left s m done e = ap (λ (n : ℕ). steps_text n s m done) e

-- ---- how long a text is

-- the line of a step
line-short : (number channel : ℕ) (kind : Kind) (tp : ℕ) → length (line_of number channel kind tp) ≤ 30
unfolding line_of
line-short number channel kind tp =
    let pointed = hex false 5 tp ++ (10 ∷ []) in
    let named = decimal channel ++ (32 ∷ letter kind ∷ 32 ∷ pointed) in
    omega (arith, decimal-short number, decimal-short channel, hex-short false 5 tp, length-append (decimal number) (32 ∷ named), length-append (decimal channel) (32 ∷ letter kind ∷ 32 ∷ pointed), length-append (hex false 5 tp) (10 ∷ []))

-- the last line
end_short : (number steps : ℕ) → length (end_line number steps) ≤ 26
unfolding end_line
end_short number steps =
    omega (arith, decimal-short number, decimal-short steps, length-append (decimal number) (32 ∷ (decimal steps ++ (10 ∷ []))), length-append (decimal steps) (10 ∷ []))

-- the steps' text
steps-short : (left : ℕ) (s : State) (m : Buffers) (done : ℕ) → length (steps_text left s m done) ≤ 30 * left + 26
unfolding steps_text step_line
steps-short zero s m done = omega (arith, end_short 0 done)
steps-short (suc left) s m done =
    let o = step_of s m 0 in
    go (eqb o.number 0) (step_line (done + 1) o) (steps_text left o.state o.memory (done + 1)) (end_line o.number done)
    (line-short (done + 1) o.channel o.kind _) (steps-short left o.state o.memory (done + 1)) (end_short o.number done)
  where
    go : (b : Bool) (line rest last : List ℕ) → length line ≤ 30 → length rest ≤ 30 * left + 26 → length last ≤ 26
        → length (pick b (line ++ rest) last) ≤ 30 * suc left + 26
    go true line rest last h k l = omega (arith, length-append line rest)
    go false line rest last h k l = omega arith

-- the text of up to 1,091 steps has room in 32,768 bytes
few-short : (left : ℕ) (s : State) (m : Buffers) (done : ℕ) → left ≤ 1091 → length (steps_text left s m done) ≤ 32768
few-short left s m done h = omega (arith, steps-short left s m done)

-- a text that is picked of two is no longer than the longer
either-short : (b : Bool) (x y : List ℕ) → length x ≤ 32768 → length y ≤ 32768 → length (pick b x y) ≤ 32768
either-short true x y h k = h
either-short false x y h k = k

-- what a step's line shows last is TP of the channel that stepped, as the step left it
pub shows-tp : (number : ℕ) (o : Step) (tp : ℕ) → (channel_of o.state (is_second o.channel)).tp.address ≡ tp → step_line number o ≡ line_of number o.channel o.kind tp
unfolding step_line
shows-tp number o tp e = rw e refl

-- the whole text
pub trace-short : (input : List ℕ) → length (trace_of input) ≤ 32768
unfolding trace_of attended_text
trace-short input =
    let o = attention_of (fresh_of 0).state (traced_memory input) 1 in
    either-short (leb (length input) 4096) _ _
    (either-short (eqb o.number 0) _ _ (few-short _ o.state o.memory 0 (omega arith)) (omega (arith, end_short o.number 0)))
    (omega (arith, end_short 11 0))
