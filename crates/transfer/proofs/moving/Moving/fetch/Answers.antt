-- `Moving::fetch` meets its contract.
-- Assumes nothing.
use Rattle.std.proofs.Common.{sym, ap, ◌∙◌, ◌≡◌, ℕ, Some, None, Option}
use Rattle.ground_rules.specs.Buffers.{buffers}
use Rattle.transfer_rules.specs.declared.Data.{Data}
use Rattle.transfer.proofs.FetchLaws.{seen-some, seen-none, source-beyond, second-beyond, both_read, entry-beyond, translated, one-read}
use Rattle.transfer.proofs.moving.Moving.fetch.Goals as goal

pub returns-in_err-first : goal.returns-in_err-first
returns-in_err-first c =
    let a = c.args in
    let s = a.self in
    let m = buffers a.sys.now a.io.now in
    rw c.from_residual.ensures (sym (source-beyond s.channel m s.setup s.said (seen-none m _ _ (sym c.read.ensures ∙ c.in_err-first.was))))

pub returns-in_err-second : goal.returns-in_err-second
returns-in_err-second c =
    let a = c.args in
    let s = a.self in
    let m = buffers a.sys.now a.io.now in
    let first = seen-some m _ _ _ (sym c.read.ensures ∙ c.in_ok-first.was) in
    rw c.from_residual-in_err-second.ensures
    (sym (second-beyond s.channel m s.setup s.said c.second_from.result first.0 c.if-self.true c.second_from.ensures (seen-none m _ _ (sym c.read-then-self.ensures ∙ c.in_err-second.was))))

pub returns-then-self : goal.returns-then-self
returns-then-self c =
    let a = c.args in
    let s = a.self in
    let m = buffers a.sys.now a.io.now in
    let first = seen-some m _ _ _ (sym c.read.ensures ∙ c.in_ok-first.was) in
    let second = seen-some m _ _ _ (sym c.read-then-self.ensures ∙ c.in_ok-second.was) in
    ap (λ (n : ℕ). Some (record { first = c.in_ok-first.first; second = n })) second.1
    ∙ sym (both_read s.channel m s.setup s.said c.in_ok-first.first c.second_from.result c.requires first.0 first.1 c.if-self.true c.second_from.ensures second.0)

pub returns-in_err-entry : goal.returns-in_err-entry
returns-in_err-entry c =
    let a = c.args in
    let s = a.self in
    let m = buffers a.sys.now a.io.now in
    let first = seen-some m _ _ _ (sym c.read.ensures ∙ c.in_ok-first.was) in
    rw c.from_residual-in_err-entry.ensures
    (sym (entry-beyond s.channel m s.setup s.said c.in_ok-first.first c.sum20.result first.0 first.1 c.if-self.false c.if-self-2.true c.sum20.ensures (seen-none m _ _ (sym c.read-then-self-2.ensures ∙ c.in_err-entry.was))))

pub returns-then-self-2 : goal.returns-then-self-2
returns-then-self-2 c =
    let a = c.args in
    let s = a.self in
    let m = buffers a.sys.now a.io.now in
    let first = seen-some m _ _ _ (sym c.read.ensures ∙ c.in_ok-first.was) in
    let entry = seen-some m _ _ _ (sym c.read-then-self-2.ensures ∙ c.in_ok-entry.was) in
    ap (λ (n : ℕ). Some (record { first = n; second = 0 })) entry.1
    ∙ sym (translated s.channel m s.setup s.said c.in_ok-first.first c.sum20.result first.0 first.1 c.if-self.false c.if-self-2.true c.sum20.ensures entry.0)

pub returns : goal.returns
returns c =
    let a = c.args in
    let s = a.self in
    let m = buffers a.sys.now a.io.now in
    let first = seen-some m _ _ _ (sym c.read.ensures ∙ c.in_ok-first.was) in
    sym (one-read s.channel m s.setup s.said c.in_ok-first.first first.0 first.1 c.if-self.false c.if-self-2.false)
