-- A copying program as it runs: its six instructions one after the other, and the channel with which its transfer begins.
-- Assumes nothing.
use Prim.Native.Nat.{ℕ, suc, ◌%◌}
use borrow.Author.Tests.{eqb-false}
use mathlib.Core.Bool.{Bool, true, false}
use mathlib.Core.Path.{◌≡◌, refl, sym, ap, ap₂, subst, ◌∙◌}
use native.Mathlib.Nat.{mod-mod}
use native.Mathlib.Omega.{arith}
use Rattle.instruction_rules.proofs.ChannelLaws.{pp-kept}
use Rattle.instruction_rules.specs.Execute.{Executed}
use Rattle.ground_rules.proofs.PlaceLaws.{onward-twice}
use Rattle.ground_rules.proofs.ChannelLaws.{put_same, last-channel}
use Rattle.ground_rules.proofs.FieldLaws.{agrees, agreed}
use Rattle.ground_rules.specs.Cc.{split}
use Rattle.ground_rules.specs.declared.Fields.{Fields}
use Rattle.ground_rules.specs.Psw.{transferring, program_running, source_wide, destination_wide}
use Rattle.ground_rules.specs.States.{channel_of, with_channel, with_last, sound_channel, is_running, block_of, busy_in, fields_agree}
use Rattle.ground_rules.specs.declared.Channel.{Channel}
use Rattle.ground_rules.specs.declared.Mode.TheVariants.{Running}
use Rattle.ground_rules.specs.declared.State.{State}
use Rattle.ground_rules.specs.Buffers.{Buffers}
use Rattle.ground_rules.specs.Values.{pointer, onward}
use Rattle.ground_rules.specs.declared.Pointer.{Pointer}
use Rattle.turn_rules.proofs.OutcomeLaws.{cp-kept}
use Rattle.turn_rules.specs.Step.{Step, done_step, step_of}
use Rattle.turn_rules.specs.declared.Kind.TheVariants.{Instruction}
use Rattle.transfer_rules.specs.Sides.{side, source, destination}
use Rattle.ground_rules.specs.Bits.{field_of, bit_of}
use Rattle.ground_rules.specs.Bytes.{low_byte, high_byte, word_of}
use Rattle.ground_rules.specs.Choice.{pick}
use Rattle.ground_rules.specs.Sums.{address_of}
use Rattle.promises.specs.Cases.{Stand}
use Rattle.promises_blocks.specs.Joined.{RunsAlone}
use Rattle.promises_blocks.specs.Met.{psw_of, copying}
use Rattle.block_rules.specs.Premises.{from, into, Plain}
use Rattle.promises_blocks.specs.Program.{Job, system_place, from_place, into_place, program_of, halt_at, steps_of}
use Rattle.promises.specs.Runs.{DoneSteps, more}
use Rattle.block_rules.specs.Totals.{narrow, alone, total, moved_after}
use Rattle.promises.specs.Witness.{running_with}
use Rattle.promises_blocks.proofs.AloneLaws.{program-turn, alone-next, instruction-done}
use Rattle.promises_blocks.proofs.Joined.{busy-same}
use Rattle.promises_blocks.proofs.ProgramSteps.{View, view, view_of, After, lpdi-ga, lpdi-gb, movi-bc, movi-cc, xfer-arms, wid-begins}
use Rattle.promises.proofs.StandLaws.{stand-on}

-- ---- the instructions, one after the other

-- k done steps in a row have come to a channel with these registers, that is alone; they changed no byte
pub record Come (lines : ℕ) (b : Bool) (s₀ : State) (m : Buffers) (k : ℕ) (v : View) : Type 0 where
  pub state : State
  pub done : DoneSteps lines s₀ m k state m
  pub lonely : RunsAlone b state m lines
  pub control : state.cp ≡ s₀.cp
  pub parameters : (channel_of state b).pp ≡ (channel_of s₀ b).pp
  pub seen : view_of (channel_of state b) ≡ v

module _ {lines : ℕ} {b : Bool} {s₀ : State} {m : Buffers} where
  -- one instruction more
  come-next : {k : ℕ} {v v' : View} → is_running v.mode ≡ true → transferring v.psw ≡ false → Come lines b s₀ m k v
      → ((c : Channel) → view_of c ≡ v → After m c (busy_in (block_of s₀ b)) v' m) → Come lines b s₀ m (suc k) v'
  come-next {k} {v} {v'} runs executes q next =
      record {
        state = (step_of s m lines).state;
        done = subst (λ (x : Buffers). DoneSteps lines s₀ m (suc k) (step_of s m lines).state x) memory (more q.done number);
        lonely = subst (λ (x : Buffers). RunsAlone b (step_of s m lines).state x lines) memory (alone-next b s m lines q.lonely number (ap (λ (o : Step). o.channel) e));
        control = cp-kept s m lines ∙ q.control;
        parameters = ap (λ (o : Step). (channel_of o.state b).pp) e ∙ ap (λ (c : Channel). c.pp) put ∙ ap (λ (x : Executed). x.channel.pp) (sym a.step) ∙ pp-kept (channel_of s b) (busy_in (block_of s b)) m ∙ q.parameters;
        seen = ap (λ (o : Step). view_of (channel_of o.state b)) e ∙ ap view_of put ∙ a.seen;
      }
    where
      s : State
      s = q.state

      a : After m (channel_of s b) (busy_in (block_of s b)) v' m
      a = subst (λ (busy : ℕ). After m (channel_of s b) busy v' m) (sym (busy-same s₀ s b q.control)) (next (channel_of s b) q.seen)

      put : channel_of (with_last (with_channel s b a.channel) b) b ≡ a.channel
      put = last-channel (with_channel s b a.channel) b b ∙ put_same s b a.channel

      off : transferring (channel_of s b).psw ≡ false
      off = ap (λ (x : View). transferring x.psw) q.seen ∙ executes

      e : step_of s m lines ≡ done_step s b a.channel m Instruction
      e =
          instruction-done b s m lines (program-turn b s m lines q.lonely (ap (λ (x : View). is_running x.mode) q.seen ∙ runs) off) off a.step

      number : (step_of s m lines).number ≡ 0
      number = ap (λ (o : Step). o.number) e

      memory : (step_of s m lines).memory ≡ m
      memory = ap (λ (o : Step). o.memory) e

-- the word of a number's two bytes
word-is : (x : ℕ) → word_of (low_byte x) (high_byte x) ≡ x % 65536
word-is x = omega arith

-- a pointer on six times, over the instructions before HLT
on-all : (p : Pointer) → onward (onward (onward (onward (onward (onward p 6) 6) 4) 4) 2) 2 ≡ onward p halt_at
on-all p =
    onward-twice (onward (onward (onward (onward p 6) 6) 4) 4) 2 2
    ∙ onward-twice (onward (onward (onward p 6) 6) 4) 4 4
    ∙ onward-twice (onward (onward p 6) 6) 4 8
    ∙ onward-twice (onward p 6) 6 12
    ∙ onward-twice p 6 18

-- the place that two words in memory give
pub place_is : (offset segment : ℕ) → pointer (address_of (word_of (low_byte offset) (high_byte offset)) (word_of (low_byte segment) (high_byte segment))) false ≡ system_place offset segment
place_is offset segment = ap₂ (λ (x y : ℕ). pointer (address_of x y) false) (word-is offset) (word-is segment)

-- registers that are the same
view-same : {ga ga' gb gb' tp tp' : Pointer} {bc bc' cc psw : ℕ} → ga ≡ ga' → gb ≡ gb' → tp ≡ tp' → bc ≡ bc'
    → view ga gb tp bc cc psw Running false ≡ view ga' gb' tp' bc' cc psw Running false
view-same e f g h = rw (e, f, g, h)

-- the registers when the transfer begins
abbrev pub begins : Job → Pointer → View
begins j tp = view (from_place j) (into_place j) tp (j.count % 65536) 0xC008 (psw_of j.from_wide j.into_wide) Running false

module _ {lines : ℕ} {b : Bool} {s₀ : State} {m : Buffers} (j : Job) (tp : Pointer) (there : Stand m tp (program_of j)) where
  -- six instructions
  pub six : Come lines b s₀ m 0 (view (pointer 0 false) (pointer 0 false) tp 0 0 4 Running false) → Come lines b s₀ m 6 (begins j (onward tp halt_at))
  unfolding program_of is_running bit_of
  six q₀ =
      let busy = busy_in (block_of s₀ b) in
      let t₁ = stand-on there 6 in
      let t₂ = stand-on t₁ 6 in
      let t₃ = stand-on t₂ 4 in
      let t₄ = stand-on t₃ 4 in
      let t₅ = stand-on t₄ 2 in
      let q₁ = come-next refl refl q₀ (λ c s. lpdi-ga m c busy s there) in
      let q₂ = come-next refl refl q₁ (λ c s. lpdi-gb m c busy s t₁) in
      let q₃ = come-next refl refl q₂ (λ c s. movi-bc m c busy s t₂) in
      let q₄ = come-next refl refl q₃ (λ c s. movi-cc m c busy s t₃) in
      let q₅ = come-next refl refl q₄ (λ c s. xfer-arms m c busy s t₄) in
      let q₆ = come-next refl refl q₅ (λ c s. wid-begins m c busy j.from_wide j.into_wide s t₅) in
      subst (Come lines b s₀ m 6)
      (view-same (place_is j.from_offset j.from_segment) (place_is j.into_offset j.into_segment) (on-all tp)
      (ap (λ (x : ℕ). x % 65536) (word-is j.count) ∙ mod-mod j.count 65536))
      q₆

-- ---- the transfer

module _ (j : Job) (tp : Pointer) (c : Channel) (seen : view_of c ≡ begins j tp) (a : fields_agree c ≡ true) where
  -- a part of what is seen
  abbrev pub part : {A : Type 0} (f : View → A) → f (view_of c) ≡ f (begins j tp)
  part f = ap f seen

  -- XF, its widths, and TB
  widths : (s d : Bool) → let psw = psw_of s d in
      (transferring psw ≡ true) × (source_wide psw ≡ s) × (destination_wide psw ≡ d) × (program_running psw ≡ true)
  unfolding bit_of
  widths true true = (refl, refl, refl, refl)
  widths true false = (refl, refl, refl, refl)
  widths false true = (refl, refl, refl, refl)
  widths false false = (refl, refl, refl, refl)

  pub program_runs : program_running c.psw ≡ true
  program_runs = part (λ v. program_running v.psw) ∙ (widths j.from_wide j.into_wide).3

  -- its sides
  pub source_is : source c ≡ side (from_place j) true j.from_wide
  unfolding source split bit_of
  source_is =
      ap (λ (f : Fields). side (pick f.sourceIsGB c.gb c.ga) f.sourceMoves (source_wide c.psw)) (agreed c a)
      ∙ part (λ v. side (pick (bit_of v.cc 10) v.gb v.ga) (bit_of v.cc 14) (source_wide v.psw))
      ∙ ap (side (from_place j) true) (widths j.from_wide j.into_wide).1

  pub destination-is : destination c ≡ side (into_place j) true j.into_wide
  unfolding destination split bit_of
  destination-is =
      ap (λ (f : Fields). side (pick f.sourceIsGB c.ga c.gb) f.destinationMoves (destination_wide c.psw)) (agreed c a)
      ∙ part (λ v. side (pick (bit_of v.cc 10) v.ga v.gb) (bit_of v.cc 15) (destination_wide v.psw))
      ∙ ap (side (into_place j) true) (widths j.from_wide j.into_wide).2

  -- where they begin
  pub from_is : from c ≡ from_place j
  unfolding source split bit_of
  from_is = ap (λ (f : Fields). pick f.sourceIsGB c.gb c.ga) (agreed c a) ∙ part (λ v. pick (bit_of v.cc 10) v.gb v.ga)

  pub into-is : into c ≡ into_place j
  unfolding destination split bit_of
  into-is = ap (λ (f : Fields). pick f.sourceIsGB c.ga c.gb) (agreed c a) ∙ part (λ v. pick (bit_of v.cc 10) v.ga v.gb)

  -- a field of its CC, which is C008h
  taken : {A : Type 0} (f : Fields → A) → f c.fields ≡ f (split 0xC008)
  taken f = ap f (agreed c a ∙ part (λ v. split v.cc))

  -- all that demand 3 asks of it
  pub plain-is : sound_channel c ≡ true → Plain c
  unfolding split bit_of field_of is_running
  plain-is q =
      record {
        runs = part (λ v. is_running v.mode);
        transfers = part (λ v. transferring v.psw) ∙ (widths j.from_wide j.into_wide).0;
        leaves = taken (λ f. f.sourceMoves);
        enters = taken (λ f. f.destinationMoves);
        unsynchronised = taken (λ f. f.synchronised);
        untranslated = taken (λ f. f.translates);
        counts = λ e. eqb-false 1 0 refl (sym (taken (λ f. f.countEnd)) ∙ e);
        unmatched = taken (λ f. f.matchEnd % 4);
        unended = taken (λ f. f.externalEnd);
        ongoing = taken (λ f. f.singleTransfer);
        sound = q;
        agree = a;
      }

-- the total depends on the sides alone, and so do the bytes that have moved
total-same : (c d : Channel) (n : ℕ) → source c ≡ source d → destination c ≡ destination d
    → (total c n ≡ total d n) × ((k : ℕ) → moved_after c n k ≡ moved_after d n k)
unfolding total moved_after narrow alone
total-same c d n e f = (rw (e, f), λ k. rw (e, f))

-- the channel of a job
abbrev pub copier : Job → Channel
copier j = copying (from_place j).address (into_place j).address j.from_wide j.into_wide j.count

-- so they are the job's
pub total-is : (j : Job) (tp : Pointer) (c : Channel) → view_of c ≡ begins j tp → fields_agree c ≡ true
    → (total c j.count ≡ steps_of j) × ((k : ℕ) → moved_after c j.count k ≡ moved_after (copier j) j.count k)
unfolding copying running_with
total-is j tp c seen a =
    let d = copier j in
    let e = agrees d refl in
    total-same c d j.count
    (source_is j tp c seen a ∙ sym (source_is j (pointer 0 false) d refl e))
    (destination-is j tp c seen a ∙ sym (destination-is j (pointer 0 false) d refl e))
