-- Demand 3 with pauses: a pause gives back the channel; calls in a row with pauses are, for the channel, a row of its transfer steps with other things
-- between; and what is left can be swept.
-- Assumes nothing.
use Prim.Native.Nat.{ℕ, suc, ◌+◌, ◌-◌, ◌<◌, ◌≤◌}
use borrow.Author.Tests.{eqb-false}
use mathlib.Core.{Bool.Bool, Bool.true, Bool.false, List.List, List.[], Logic.inr}
use mathlib.Core.Path.{◌≡◌, refl, sym, ap, subst, ◌∙◌}
use native.Mathlib.Omega.{arith}
use Rattle.ground_rules.specs.{declared.Channel.Channel, declared.Fields.Fields, declared.Mode.TheVariants.Suspended, declared.Pointer.Pointer}
use Rattle.ground_rules.specs.{declared.State.State, Bits.bit_of, Bits.with_bit, Buffers.Buffers, Buffers.limit_of, Choice.pick, Places.Place, Places.ApartFrom}
use Rattle.ground_rules.specs.{Psw.transferring, Psw.program_running, Psw.with_psw, Updates.with_control, Updates.with_transfer, Updates.stopped_psw}
use Rattle.ground_rules.specs.States.{channel_of, channel_number, block_of, busy_in, is_running}
use Rattle.ground_rules.proofs.{BitLaws.bit-other, BitLaws.with-bit-back, ChoiceLaws.apart, SpanLaws.apart-right, StoreLaws.same-lent, ChannelLaws.named}
use Rattle.attention_rules.specs.{declared.Command.Command, declared.Command.TheVariants.Suspend, declared.Command.TheVariants.Resume, Attention.order_to, Attention.channel_attended, Blocks.order_of, Blocks.parameter_block, Touched.stored_by, Commands.copied, Commands.obeyed, Commands.ordered, Effects.only_psw, Effects.suspended, Effects.commanded, Effects.channel_ordered}
use Rattle.attention_rules.proofs.{Outcomes.refused-nothing, Outcomes.shared_kept, Pauses.suspend-resume, Stores.bytes-kept, Stores.lengths-kept}
use Rattle.turn_rules.{specs.Choosing.external, specs.Step.step_of, proofs.ChoosingLaws.chosen-running, proofs.OutcomeLaws.cp-kept}
use Rattle.block_rules.specs.{Premises.from, Premises.into, Premises.Lent, Premises.Copy, Totals.moved_after, Totals.total, Stages.midway, Stages.Ended}
use Rattle.block_rules.{specs.Rows.Left, specs.Rows.Untouched, specs.Rows.Row, specs.Rows.start, specs.Rows.other, proofs.CopyLaws.reached}
use Rattle.block_rules.proofs.Demand3.{going, ended}
use Rattle.sweep_rules.specs.{Ranges.place_of, Sweep.sweep_of}
use Rattle.promises.specs.Calls.{HasTurn, Calls, EndsAtCall}
use Rattle.promises.proofs.{CallLaws.step_kept, CallLaws.attention-kept, MachineLaws.row_kept, MachineLaws.row-transfer, MachineLaws.moves}
use Rattle.promises_blocks.{specs.Joined.RunsAlone, specs.Sweeps.SweptRest, proofs.AloneLaws.ordered-channel, proofs.Joined.block_same}
use Rattle.promises_blocks.proofs.{AloneLaws.going-turn, Sweeps.rest-accepted, Sweeps.rest-swept}
use Rattle.promises_sheet.specs.SheetAttention.{outcome_to, channel_after}
use Rattle.promises_pauses.specs.Pausing.{Quietly, block_bytes, busy_byte, Clear, BlockKept, PauseStores, PauseApart, Spared, EndsPaused, SameEnd}
use Rattle.promises_pauses.specs.Pausing.{PausedCalls, begin, transfer, step, attention, host, suspend, resume}

module _ {b : Bool} {n : ℕ} {s₀ : State} {m₀ : Buffers} where
  -- demand 3's calls are such a row
  pub paused-of : {k : ℕ} {s : State} {m : Buffers} → Calls b n s₀ m₀ k s m → PausedCalls b n s₀ m₀ k false s m
  paused-of Calls.begin = begin
  paused-of (Calls.transfer r lines t x) = transfer (paused-of r) lines t x
  paused-of (Calls.step r lines ne u) = step (paused-of r) lines ne (record { ranges = u; block = λ e. apart (sym e) })
  paused-of (Calls.attention r channel ne u) = attention (paused-of r) channel ne (record { ranges = u; block = λ e. apart (sym e) })
  paused-of (Calls.host r u) = host (paused-of r) (record { ranges = u; block = λ e. apart (sym e) })

  -- so demand 3 is the case without pauses
  pub ends-unpaused : {k : ℕ} → EndsPaused b n s₀ m₀ k → EndsAtCall b n s₀ m₀ k
  ends-unpaused e = record { before = λ r. e.before (paused-of r); turns = λ r. e.turns (paused-of r); then = λ r. e.then (paused-of r) }

  module _ {end : ℕ} (e : EndsPaused b n s₀ m₀ end) where
    -- no row has more transfer steps than those of the end
    most-steps : {k : ℕ} {paused : Bool} {s : State} {m : Buffers} → PausedCalls b n s₀ m₀ k paused s m → k ≤ end
    most-steps begin = omega arith
    most-steps (transfer {k = k} {s = s} {m = m} r lines t x) =
        let ne : ¬ (k ≡ end) = λ at. apart (sym x ∙ (e.then (subst (λ (i : ℕ). PausedCalls b n s₀ m₀ i false s m) at r)).over) in
        omega (arith, most-steps r)
    most-steps (step r lines ne w) = most-steps r
    most-steps (attention r channel ne w) = most-steps r
    most-steps (host r w) = most-steps r
    most-steps (suspend r x q) = most-steps r
    most-steps (resume r q) = most-steps r

    -- where the channel is not suspended and XF is clear, the row is at the end
    at-end : {k : ℕ} {s : State} {m : Buffers} → PausedCalls b n s₀ m₀ k false s m → transferring (channel_of s b).psw ≡ false
        → (k ≡ end) × Ended n (channel_of s₀ b) m₀ (channel_of s b) m
    at-end {k} {s} {m} r x =
        let ne : ¬ (k < end) = λ h. apart (sym (e.before r h).transfers ∙ x) in
        let at : k ≡ end = omega (arith, most-steps r) in
        (at, e.then (subst (λ (i : ℕ). PausedCalls b n s₀ m₀ i false s m) at r))

  -- where such a row comes to an end at all, it is at one transfer step
  pub ends-once-paused : {k k' : ℕ} {s : State} {m : Buffers} → PausedCalls b n s₀ m₀ k false s m → EndsPaused b n s₀ m₀ k → EndsPaused b n s₀ m₀ k' → k ≡ k'
  ends-once-paused r x y = (at-end y r (x.then r).over).0

-- suspend leaves bits 5 and 7
stopped-bits : (psw : ℕ) → (bit_of (stopped_psw psw) 5 ≡ bit_of psw 5) × (bit_of (stopped_psw psw) 7 ≡ bit_of psw 7)
unfolding stopped_psw with_psw
stopped-bits psw =
    let bit : (j : ℕ) → ¬ (j ≡ 2) → ¬ (j ≡ 6) → _ = λ j h g. bit-other (with_bit psw 2 false) 6 j false g ∙ bit-other psw 2 j false h in
    (bit 5 (eqb-false 5 2 refl) (eqb-false 5 6 refl), bit 7 (eqb-false 7 2 refl) (eqb-false 7 6 refl))

-- a quiet CCW leaves a PSW that has the channel's bits 5 and 7
quiet_same : {b : Bool} {command : Command} {s : State} {m : Buffers} → Quietly b command s m → (psw : ℕ)
    → (bit_of psw 5 ≡ bit_of (channel_of s b).psw 5) × (bit_of psw 7 ≡ bit_of (channel_of s b).psw 7) → ordered (order_to s m b).ccw psw ≡ psw
unfolding ordered obeyed copied with_psw
quiet_same q psw e = rw (q.interrupts, q.limit ∙ sym e.0, q.ranked ∙ sym e.1, with-bit-back psw 5, with-bit-back psw 7)

-- a quiet suspend does what suspend does, and no more
pub suspend-only : (b : Bool) (s : State) (m : Buffers) → Quietly b Suspend s m → channel_after s m b ≡ suspended (channel_of s b)
unfolding channel_attended channel_ordered order_to order_of commanded suspended with_control
suspend-only b s m q =
    ordered-channel b s m q.accepted ∙ rw (q.commands, quiet_same q (stopped_psw (channel_of s b).psw) (stopped-bits (channel_of s b).psw))

-- so a channel that is suspended and resumed so is the channel itself, its held byte, mark and fields too
pub pause-same : (b : Bool) (s s' : State) (m m' : Buffers) → Quietly b Suspend s m → Quietly b Resume s' m' → channel_of s' b ≡ channel_after s m b
    → BlockKept (channel_of s b).pp (outcome_to s m b).memory m' → ApartFrom (block_bytes b s) false (busy_in (block_of s b))
    → program_running (channel_of s b).psw ≡ true → channel_after s' m' b ≡ channel_of s b
unfolding suspended with_control with_psw
pause-same b s s' m m' q q' registers bytes busy tb =
    let psw = (channel_of s b).psw in
    (rw named at (suspend-resume s m s' m' (channel_number b) (record {
      accepted = q.accepted;
      suspends = rw named q.commands;
      accepted' = q'.accepted;
      resumes = rw named q'.commands;
      registers = rw named registers;
      bytes = rw named bytes;
      busy = rw named busy;
    })))
    ∙ ap (only_psw (channel_of s b))
    (ap (ordered (order_to s' m' b).ccw) (ap (with_bit psw 2) (sym tb) ∙ with-bit-back psw 2)
    ∙ quiet_same q' psw (rw (registers ∙ suspend-only b s m q) (sym (stopped-bits psw).0, sym (stopped-bits psw).1)))

module _ {b : Bool} {n : ℕ} {s₀ : State} {m₀ : Buffers} (p : Copy n (channel_of s₀ b) m₀) (tb : program_running (channel_of s₀ b).psw ≡ true)
    (far : PauseApart b n s₀) where
  abbrev c₀ : Channel
  c₀ = channel_of s₀ b

  -- a quiet resume gives back that channel, while neither the registers nor PB's bytes have changed
  abbrev GivesBack : Channel → State → Buffers → Type 0
  GivesBack c s m = (s' : State) (m' : Buffers) → channel_of s' b ≡ channel_of s b → BlockKept c₀.pp m m' → Quietly b Resume s' m' → channel_after s' m' b ≡ c

  -- what holds after each call: the channel of the undisturbed run, which is this one or the one that was suspended on its way
  record Seen (k : ℕ) (paused : Bool) (s : State) (m : Buffers) : Type 0 where
    pub was : Channel
    pub row : Row n c₀ m₀ k was m
    pub most : k ≤ total c₀ n
    pub control : s.cp ≡ s₀.cp
    pub now : channel_of s b ≡ pick paused (suspended was) was
    pub kept : ((channel_of s b).pp ≡ c₀.pp) × ((channel_of s b).fields ≡ c₀.fields)
    pub off : paused ≡ true → (k < total c₀ n) × GivesBack was s m

  module _ {k : ℕ} {paused : Bool} {s : State} {m : Buffers} (o : Seen k paused s m) where
    -- stores that are clear of both ranges leave them alone
    untouched : {m' : Buffers} {places : List Place} → Clear places (from c₀) n → Clear places (into c₀) n → PauseStores places m m' → Untouched c₀ n m m'
    untouched {m'} {places} source destination w =
        let held = (reached p o.row o.most).bytes in
        record { from_left = left (from c₀) source held.from_lent; into_left = left (into c₀) destination held.into_lent }
      where
        left : (q : Pointer) → Clear places q n → Lent m q n → Left q n m m'
        left q clear lent = record { bytes = λ i h. w.others _ _ (clear i h); lent = λ i h. same-lent m m' w.lengths q.tag (q.address + i) ∙ lent i h }

    -- what an attention with such a command stores
    stores : (command : Command) → Quietly b command s m
        → PauseStores (stored_by command (block_of s₀ b) (parameter_block command m (block_of s₀ b) c₀.pp)) m (outcome_to s m b).memory
    unfolding order_to order_of
    stores command q =
        rw (← o.kept.0, ← (block_same s₀ s b o.control))
        (record { others = λ u a h. bytes-kept s m (channel_number b) u a (rw (named b, q.commands) h); lengths = lengths-kept s m (channel_number b) })

    -- after a call that leaves both ranges and CP alone
    seen-on : (next : Bool) {s' : State} {m' : Buffers} → Untouched c₀ n m m' → s'.cp ≡ s.cp → channel_of s' b ≡ pick next (suspended o.was) o.was
        → (next ≡ true → (k < total c₀ n) × GivesBack o.was s' m') → Seen k next s' m'
    unfolding suspended with_control
    seen-on true u f e off =
        record { was = _; row = other o.row u; most = o.most; control = f ∙ o.control; now = e; kept = rw e (row_kept o.row); off = off }
    seen-on false u f e off =
        record { was = _; row = other o.row u; most = o.most; control = f ∙ o.control; now = e; kept = rw e (row_kept o.row); off = off }

    -- and the channel
    seen_other : (s' : State) {m' : Buffers} → channel_of s' b ≡ channel_of s b → s'.cp ≡ s.cp → Spared b n s₀ paused m m' → Seen k paused s' m'
    seen_other s' e f w = seen-on paused w.ranges f (e ∙ o.now) (λ x. ((o.off x).0, λ s'' m'' g y. (o.off x).1 s'' m'' (g ∙ e) (λ i h. y i h ∙ w.block x i h)))

  module _ {k : ℕ} {s : State} {m : Buffers} (o : Seen k false s m) (x : transferring (channel_of s b).psw ≡ true) where
    -- XF is set short of the end only
    short-of : k < total c₀ n
    short-of =
        let ne : ¬ (k ≡ total c₀ n) = λ all. apart (sym x ∙ ap (λ (c : Channel). transferring c.psw) o.now ∙ (ended p o.row all).over) in
        omega (arith, o.most)

    -- its transfer step
    seen-transfer : (lines : ℕ) → HasTurn b s m lines → Seen (suc k) false (step_of s m lines).state (step_of s m lines).memory
    seen-transfer lines t =
        let row = row-transfer b n c₀ m₀ k s m lines t x (rw o.now o.row) in
        let control = cp-kept s m lines ∙ o.control in
        record { was = _; row = row; most = short-of; control = control; now = refl; kept = row_kept row; off = λ e. apart (sym e) }

    -- a suspend
    seen-suspend : Quietly b Suspend s m → Seen k true (outcome_to s m b).state (outcome_to s m b).memory
    unfolding midway with_transfer stored_by parameter_block
    seen-suspend q =
        let runs = ap (λ (c : Channel). program_running c.psw) (o.now ∙ (going p o.row short-of).registers) ∙ tb in
        let busy : ApartFrom (block_bytes b s) false (busy_in (block_of s b)) = rw (o.kept.0, block_same s₀ s b o.control) far.busy in
        seen-on o true (untouched o far.source far.destination (stores o Suspend q)) (shared_kept s m (channel_number b)).0
        (suspend-only b s m q ∙ ap suspended o.now) (λ _. (short-of, λ s' m' e y q'. pause-same b s s' m m' q q' e (rw o.kept.0 y) busy runs ∙ o.now))

  module _ {k : ℕ} {s : State} {m : Buffers} (o : Seen k true s m) where
    -- suspended it does not run, so no step is its turn
    waits : ((channel_of s b).mode ≡ Suspended) × ((lines : ℕ) → HasTurn b s m lines → ⊥)
    unfolding suspended with_control is_running
    waits = let e = ap (λ (c : Channel). c.mode) o.now in (e, λ lines t. apart (ap is_running (sym (chosen-running s lines b (inr t.chosen)) ∙ e)))

    -- resumed so, it is what it was
    seen-resume : Quietly b Resume s m → Seen k false (outcome_to s m b).state (outcome_to s m b).memory
    unfolding stored_by parameter_block
    seen-resume q =
        let clear = apart-right (block_bytes b s₀) (busy_byte b s₀) in
        seen-on o false (untouched o (λ i h. clear _ _ (far.source i h)) (λ i h. clear _ _ (far.destination i h)) (stores o Resume q))
        (shared_kept s m (channel_number b)).0 ((o.off refl).1 s m refl (λ i h. refl) q) (λ e. apart (sym e))

  -- so it holds after each
  seen : {k : ℕ} {paused : Bool} {s : State} {m : Buffers} → PausedCalls b n s₀ m₀ k paused s m → Seen k paused s m
  seen begin = record { was = c₀; row = start; most = omega arith; control = refl; now = refl; kept = (refl, refl); off = λ e. apart (sym e) }
  seen (transfer r lines t x) = seen-transfer (seen r) x lines t
  seen (step {s = s} {m = m} r lines ne w) =
      seen_other (seen r) _ (step_kept b s m lines (ap (λ (f : Fields). f.externalEnd) (seen r).kept.1 ∙ p.plain.unended) ne) (cp-kept s m lines) w
  seen (attention {s = s} {m = m} r channel ne w) = seen_other (seen r) _ (attention-kept b s m channel ne) (shared_kept s m channel).0 w
  seen (host {s = s} r w) = seen_other (seen r) s refl refl w
  seen (suspend r x q) = seen-suspend (seen r) x q
  seen (resume r q) = seen-resume (seen r) q

  -- demand 3 with pauses: the transfer ends at demand 3's own total
  pub demand13 : EndsPaused b n s₀ m₀ (total c₀ n)
  unfolding stored_by parameter_block
  demand13 =
      record {
        before = λ r h. rw (seen r).now (going p (seen r).row h);
        turns = λ {j} {s} {m} r h lines t. moves b n s₀ m₀ j s m lines (rw (seen r).now (going p (seen r).row h)) t;
        then = λ r. rw (seen r).now (ended p (seen r).row refl);
        short = λ r. ((seen r).off refl).0;
        waits = λ r. waits (seen r);
        bytes = λ r. (reached p (seen r).row (seen r).most).bytes;
        back = λ {j} {s} {m} r q. ((seen r).off refl).1 s m refl (λ i h. refl) q ∙ (going p (seen r).row ((seen r).off refl).0).registers;
        suspends = λ r q. stores (seen r) Suspend q;
        resumes = λ r q. stores (seen r) Resume q;
      }

  -- PP and CP stay
  pub places-stay : {k : ℕ} {paused : Bool} {s : State} {m : Buffers} → PausedCalls b n s₀ m₀ k paused s m → ((channel_of s b).pp ≡ c₀.pp) × (s.cp ≡ s₀.cp)
  places-stay r = ((seen r).kept.0, (seen r).control)

  -- a suspended channel, whole: suspend has done to the one of the undisturbed run what suspend does
  pub off-registers : {k : ℕ} {s : State} {m : Buffers} → PausedCalls b n s₀ m₀ k true s m → channel_of s b ≡ suspended (midway c₀ n (moved_after c₀ n k))
  off-registers r = (seen r).now ∙ ap suspended (going p (seen r).row ((seen r).off refl).0).registers

  -- a refused attention to the channel is nothing at all
  pub refused-stays : {k : ℕ} {paused : Bool} {s : State} {m : Buffers} → PausedCalls b n s₀ m₀ k paused s m → ¬ ((outcome_to s m b).number ≡ 0)
      → PausedCalls b n s₀ m₀ k paused (outcome_to s m b).state (outcome_to s m b).memory
  refused-stays {s = s} {m = m} r ne =
      let same : PauseStores [] m m = record { others = λ u a h. refl; lengths = λ u. refl } in
      rw (refused-nothing s m (channel_number b) ne) (host r (record { ranges = untouched (seen r) (λ i h. tt) (λ i h. tt) same; block = λ e i h. refl }))

  -- a row with pauses and one without, from one start, that come to an end
  pub paused-same-end : {k j : ℕ} {s s' : State} {m m' : Buffers} → PausedCalls b n s₀ m₀ k false s m → transferring (channel_of s b).psw ≡ false
      → Calls b n s₀ m₀ j s' m' → transferring (channel_of s' b).psw ≡ false → SameEnd b n s₀ k j s s' m m'
  paused-same-end r x r' x' =
      let (at, e) = at-end demand13 r x in
      let (at', e') = at-end demand13 (paused-of r') x' in
      record { steps = at ∙ sym at'; channel = e.registers ∙ sym e'.registers; destination = λ i h. e.copied i h ∙ sym (e'.copied i h) }

  -- short of the total, not suspended, and while the other channel does not run
  module _ {lines k : ℕ} {s : State} {m : Buffers} (r : PausedCalls b n s₀ m₀ k false s m) (h : k < total c₀ n) (a : RunsAlone b s m lines) where
    -- the next step call is the channel's turn
    pub lone-turn : HasTurn b s m lines
    lone-turn = going-turn p (demand13.before r h) a

    -- an accepted sweep takes exactly the steps that are left, and leaves what the undisturbed run leaves
    pub takes-rest : (sweep_of s m (channel_number b) lines).number ≡ 0 → SweptRest b n s₀ m₀ (total c₀ n - k) (sweep_of s m (channel_number b) lines)
    takes-rest = rest-swept b s₀ lines p (rw (seen r).now (seen r).row) h a

    -- and it is accepted, of ranges that do not wrap, while no EXT is up
    pub swept-rest : place_of (from c₀) + n ≤ limit_of (from c₀).tag → place_of (into c₀) + n ≤ limit_of (into c₀).tag → ((x : Bool) → external lines x ≡ false)
        → ((sweep_of s m (channel_number b) lines).number ≡ 0) × SweptRest b n s₀ m₀ (total c₀ n - k) (sweep_of s m (channel_number b) lines)
    swept-rest from_whole into_whole quiet = let z = rest-accepted lines p from_whole into_whole quiet k s m (demand13.before r h) a in (z, takes-rest z)
