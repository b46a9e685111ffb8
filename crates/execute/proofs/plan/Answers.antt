-- `execute::plan` meets its contract.
-- Assumes nothing.
use Rattle.std.proofs.Common.{◌≡◌, ℕ, ◌/◌, ◌%◌, ◌≤◌, sym, ap, ◌∙◌, ap₂, arith, Ok, Err}
use Rattle.ground_rules.specs.Buffers.{Buffers, AllBytes, buffers}
use Rattle.ground_rules.specs.Values.{onward}
use Rattle.ground_rules.specs.declared.Pointer.{Pointer}
use Rattle.instruction_rules.proofs.LengthLaws.{bounded}
use Rattle.instruction_rules.proofs.LengthRule.{pair-rule}
use Rattle.instruction_rules.specs.Execute.{decoded_at}
use Rattle.instruction_rules.specs.Lengths.{length_of}
use Rattle.instruction_rules.specs.Reading.{decode_of}
use Rattle.instruction_rules.specs.Decoded.{Decoded}
use Rattle.instruction_rules.specs.declared.Looked.{Looked}
use Rattle.instruction_rules.specs.declared.Shape.{Shape}
use Rattle.execute.specs.Bytes.{eight_at}
use Rattle.execute.proofs.CodeLaws.{plan-none, plan-shaped}
use Rattle.execute.proofs.WindowLaws.{eight-first, eight-second, byte-sum}
use Rattle.execute.proofs.plan.Goals as goal

-- the pair is what was looked up
what : {l : Looked} {d : Decoded} {n : ℕ} → l ≡ record { decoded = d; length = n } → l.decoded ≡ d
what e = ap (λ (l : Looked). l.decoded) e

-- and has as many bytes
long : {l : Looked} {d : Decoded} {n : ℕ} → l ≡ record { decoded = d; length = n } → l.length ≡ n
long e = ap (λ (l : Looked). l.length) e

-- at most eight
few : (s : Shape) (n : ℕ) → n ≡ length_of s → n ≤ 8
few s n e = omega (arith, e, bounded s)

-- the pair at a place, taken from eight bytes there
pair : (m : Buffers) → AllBytes m → (p : Pointer) (bytes : ℕ) → bytes ≡ eight_at m p.tag p.address → decoded_at m p ≡ decode_of (bytes % 256) (bytes / 256 % 256)
unfolding decoded_at onward
pair m known p bytes e =
    ap₂ decode_of
    (sym (ap (λ (n : ℕ). n % 256) e ∙ eight-first m known p.tag p.address))
    (byte-sum m p.tag p.address 1 ∙ sym (ap (λ (n : ℕ). n / 256 % 256) e ∙ eight-second m known p.tag p.address))

pub shaped-requires : goal.shaped-requires
shaped-requires c =
    let w = c.eight-w in
    let count = long c.look_up-looked.ensures ∙ sym (pair-rule (w.result.bytes % 256) (w.result.bytes / 256 % 256) _ (sym (what c.look_up-looked.ensures) ∙ c.in-Ok.is)) in
    record { count_value = count; all_bytes = w.ensures.known; bytes_value = w.ensures.bytes; count_value_2 = λ near. w.ensures.near _ (few _ _ count) near }

pub returns-in-Ok : goal.returns-in-Ok
returns-in-Ok c =
    let a = c.args in
    let m = buffers a.sys.now a.io.now in
    let w = c.eight-w in
    let e = pair m w.ensures.known a.c.tp w.result.bytes w.ensures.bytes ∙ sym (what c.look_up-looked.ensures) in
    plan-shaped m a.c a.busy c.shaped.result _ (e ∙ c.in-Ok.is) c.shaped.ensures

pub returns-in-Err : goal.returns-in-Err
returns-in-Err c =
    let a = c.args in
    let m = buffers a.sys.now a.io.now in
    let w = c.eight-w in
    let d = c.look_up-looked.result.decoded in
    let e : decoded_at m a.c.tp ≡ d = pair m w.ensures.known a.c.tp w.result.bytes w.ensures.bytes ∙ sym (what c.look_up-looked.ensures) in
    let p = plan-none m a.c a.busy (Err c.in-Err.unread) (λ s h. cc) (e ∙ c.in-Err.is) in
    c.unshaped.ensures ∙ p.0
