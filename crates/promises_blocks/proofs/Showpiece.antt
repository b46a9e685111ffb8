-- The showpiece: an image with a copying program is run to number 1, in the known steps, with the block copied.
-- Assumes nothing.
use Prim.Native.Nat.{ℕ, ◌+◌, ◌%◌, ◌<◌, ◌≤◌}
use borrow.Fn.Kinds.{Dens, res_t, ended_of}
use contract.Lifetimes.{Lfts}
use denote.Triple.Clauses.{AtExit}
use lib.Dec.{lit<}
use mathlib.Core.Bool.{Bool, true, false, ◌||◌}
use mathlib.Core.List.{[], ◌∷◌}
use mathlib.Core.Logic.{⊎_elim, inr, ◌↔◌}
use mathlib.Core.Path.{◌≡◌, refl, sym, ap, subst, ◌∙◌}
use native.Mathlib.Nat.{add-zero}
use native.Mathlib.Omega.{arith}
use Rattle.attention_rules.specs.Conditions.{NoChannel}
use Rattle.ground_rules.proofs.ChannelLaws.{put_same, put-cp, sound-channel-of}
use Rattle.ground_rules.proofs.FieldLaws.{agreed, agree-channel-of}
use Rattle.ground_rules.specs.declared.Fields.{Fields}
use Rattle.ground_rules.specs.Cc.{split}
use Rattle.ground_rules.specs.Conditions.{Given}
use Rattle.ground_rules.specs.Outcomes.{Outcome, outcome}
use Rattle.ground_rules.specs.Psw.{program_running}
use Rattle.ground_rules.specs.States.{fresh_state, channel_of, with_channel, channel_number, block_of, busy_in, fields_agree}
use Rattle.ground_rules.specs.declared.Channel.{Channel}
use Rattle.ground_rules.specs.declared.State.{State}
use Rattle.ground_rules.proofs.PlaceLaws.{onward-twice, index-reduced, lent-index, byte-index}
use Rattle.ground_rules.proofs.StoreLaws.{store_length, store-lent, read-other}
use Rattle.ground_rules.specs.Buffers.{Buffers, buffers, index_of, lent_at, byte_at, store_byte}
use Rattle.ground_rules.specs.Places.{Apart}
use Rattle.ground_rules.specs.Values.{pointer, onward}
use Rattle.ground_rules.specs.declared.Pointer.{Pointer}
use Rattle.turn_rules.proofs.SoundLaws.{entry-sound, entry-agree}
use Rattle.transfer_rules.specs.Ends.{offset_of}
use Rattle.transfer_rules.specs.Sides.{source, destination, word_side}
use Rattle.ground_rules.specs.Bits.{field_of, bit_of}
use Rattle.run_rules.specs.Run.{answer_of, Call}
use Rattle.promises.specs.Cases.{Stand}
use Rattle.promises_blocks.specs.Joined.{end_of, Comes, Halted}
use Rattle.promises_blocks.specs.Met.{copying}
use Rattle.block_rules.specs.Premises.{from, into, Lent, ShareNone, Copy}
use Rattle.promises_blocks.specs.Program.{Job, Layout, from_place, into_place, pb_place, program_place, block_at, busy_at, program_of, halt_at, steps_of, JobReady, BlockMoved, RunCopies, CallCopies, run_in, Showpiece, ShowpieceCall, RowMade, most_by, FitsExactly}
use Rattle.promises.specs.Runs.{DoneSteps, first_attention, start_checks, none}
use Rattle.block_rules.specs.Stages.{Outside}
use Rattle.block_rules.specs.Totals.{narrow, total, moved_after}
use Rattle.promises.specs.Witness.{running_with}
use Rattle.promises.specs.Unique.{CallMeets}
use Rattle.promises.proofs.Determined.{call-meets}
use Rattle.run_call.proofs.iop89_run.Kinds as call-kinds
use Rattle.run_call.proofs.iop89_run.Reads as call-reads
use Rattle.promises_blocks.proofs.AloneLaws.{through}
use Rattle.promises.proofs.CaseLaws.{pointer-given}
use Rattle.block_rules.proofs.CountLaws.{total-narrow, total-wide, alone-none, alone-one}
use Rattle.promises_blocks.proofs.Joined.{busy-same, run-halts}
use Rattle.promises_blocks.proofs.ProgramLaws.{Come, begins, copier, six, program_runs, from_is, into-is, plain-is, total-is, place_is}
use Rattle.promises_blocks.proofs.ProgramStart.{Starts, Begun, begun, fresh-still, fresh-view, fresh-alone}
use Rattle.promises_blocks.proofs.ProgramSteps.{View, view_of}
use Rattle.promises.proofs.StandLaws.{on-index, stand-on, stand-kept}

-- different bytes, the other way round
apart-back : (t : Bool) (a : ℕ) (u : Bool) (b : ℕ) → Apart t a u b → Apart u b t a
apart-back t a u b h e x = h (sym e) (sym x)

module _ {j : Job} {l : Layout} {m : Buffers} {lines limit : ℕ} (r : JobReady j l m lines limit) where
  -- ---- the start

  abbrev b : Bool
  b = l.second

  abbrev n : ℕ
  n = j.count

  starts : Starts m (block_at l) (pb_place l).address (program_place l).address
  starts =
      record {
        command = ap (byte_at m false) (sym (add-zero (block_at l))) ∙ r.command.read 0 (lit< tt);
        command_lent = ap (lent_at m false) (sym (add-zero (block_at l))) ∙ r.command.lent 0 (lit< tt);
        busy_lent = r.busy;
        parameters =
            pointer-given m (pointer (block_at l + 2) false) _ r.parameters (lit< tt)
            ∙ ap (λ (p : Pointer). p.address) (place_is l.pb_offset l.pb_segment);
        parameters_lent = r.parameters.lent;
        task = pointer-given m (pb_place l) _ r.task (lit< tt) ∙ ap (λ (p : Pointer). p.address) (place_is l.program_offset l.program_segment);
        task_lent = r.task.lent;
      }

  pub start : Begun (fresh_state l.cp) b m lines (program_place l).address
  start = begun (fresh-alone l.cp b m lines r.cp_fits r.buffers_fit r.lines_fit) (fresh-still l.cp b) starts

  abbrev s₀ : State
  s₀ = with_channel (fresh_state l.cp) b start.channel

  abbrev m₀ : Buffers
  m₀ = store_byte m false (busy_at l) 255

  put : channel_of s₀ b ≡ start.channel
  put = put_same (fresh_state l.cp) b start.channel

  -- the attention leaves every byte but BUSY
  other : (u : Bool) (a : ℕ) → Apart false (busy_at l) u a → byte_at m₀ u a ≡ byte_at m u a
  other u a = read-other m false (busy_at l) 255 u a

  -- ---- the instructions

  there : Stand m₀ (program_place l) (program_of j)
  there =
      stand-kept r.program m₀ (λ u a. store-lent m false u (busy_at l) a 255)
      (λ i h. other false ((program_place l).address + i) (apart-back false ((program_place l).address + i) false (busy_at l) (r.busy_program i h)))

  pub come : Come lines b s₀ m₀ 6 (begins j (onward (program_place l) halt_at))
  come =
      six j (program_place l) there
      (record { state = _; done = none; lonely = start.alone; control = refl; parameters = refl; seen = ap view_of put ∙ start.seen ∙ fresh-view l.cp b _ })

  abbrev s₁ : State
  s₁ = come.state

  abbrev c₁ : Channel
  c₁ = channel_of s₁ b

  -- its fields are those of its CC
  agree₁ : fields_agree c₁ ≡ true
  agree₁ = agree-channel-of s₁ b (entry-agree s₁ m₀ lines come.lonely.entered)

  -- CP and PP
  pub control-at : s₁.cp ≡ l.cp
  unfolding fresh_state
  control-at = come.control ∙ put-cp (fresh_state l.cp) b start.channel

  pub parameters-at : c₁.pp ≡ (pb_place l).address
  parameters-at = come.parameters ∙ ap (λ (c : Channel). c.pp) put ∙ start.parameters ∙ starts.parameters

  -- ---- the transfer

  pub source-at : from c₁ ≡ from_place j
  source-at = from_is j (onward (program_place l) halt_at) c₁ come.seen agree₁

  pub destination-at : into c₁ ≡ into_place j
  destination-at = into-is j (onward (program_place l) halt_at) c₁ come.seen agree₁

  pub program-at : program_running c₁.psw ≡ true
  program-at = program_runs j (onward (program_place l) halt_at) c₁ come.seen agree₁

  pub total-at : total c₁ n ≡ steps_of j
  total-at = (total-is j (onward (program_place l) halt_at) c₁ come.seen agree₁).0

  pub moved_at : (k : ℕ) → moved_after c₁ n k ≡ moved_after (copier j) n k
  moved_at = (total-is j (onward (program_place l) halt_at) c₁ come.seen agree₁).1

  -- what is lent is lent
  kept : (u : Bool) (a : ℕ) → lent_at m₀ u a ≡ lent_at m u a
  kept u a = store-lent m false u (busy_at l) a 255

  pub copy : Copy n c₁ m₀
  copy =
      record {
        plain = plain-is j (onward (program_place l) halt_at) c₁ come.seen agree₁ (sound-channel-of s₁ b (entry-sound s₁ m₀ lines come.lonely.entered));
        some = r.some;
        most = r.most;
        count = ap (λ (v : View). v.bc) come.seen;
        from_lent = subst (λ (p : Pointer). Lent m₀ p n) (sym source-at) (λ i h. kept false ((from_place j).address + i) ∙ r.from_lent i h);
        into_lent = subst (λ (p : Pointer). Lent m₀ p n) (sym destination-at) (λ i h. kept false ((into_place j).address + i) ∙ r.into_lent i h);
        apart = subst (λ (p : Pointer). ShareNone p (into c₁) n) (sym source-at) (subst (λ (q : Pointer). ShareNone (from_place j) q n) (sym destination-at) r.apart);
      }

  -- its end leads to HLT
  end_is : end_of c₁ ≡ onward (program_place l) halt_at
  unfolding split field_of offset_of
  end_is =
      ap (λ (f : Fields). onward c₁.tp (offset_of f.countEnd)) (agreed c₁ agree₁)
      ∙ ap (λ (v : View). onward v.tp (offset_of (field_of v.cc 3 2))) come.seen ∙ onward-twice (program_place l) halt_at 0

  halt : Stand m₀ (end_of c₁) (0x20 ∷ 0x48 ∷ [])
  unfolding program_of
  halt = subst (λ (p : Pointer). Stand m₀ p (0x20 ∷ 0x48 ∷ [])) (sym end_is) (stand-on there 24)

  halt-kept : (i : ℕ) → i < 2 → Outside (into c₁) n (end_of c₁).tag ((end_of c₁).address + i)
  unfolding onward
  halt-kept i h =
      subst (λ (p : Pointer). Outside (into c₁) n p.tag (p.address + i)) (sym end_is)
      (subst (λ (q : Pointer). Outside q n false ((onward (program_place l) halt_at).address + i)) (sym destination-at)
      (λ k h' e x. r.halt_kept i h k h' e (x ∙ on-index (program_place l) halt_at i)))

  -- BUSY
  busy-is : busy_in (block_of s₁ b) ≡ busy_at l % 1048576
  unfolding busy_in
  busy-is = busy-same (fresh_state l.cp) s₁ b (come.control ∙ put-cp (fresh_state l.cp) b start.channel)

  busy-index : index_of false (busy_in (block_of s₁ b)) ≡ index_of false (busy_at l)
  busy-index = ap (index_of false) busy-is ∙ index-reduced false (busy_at l)

  busy-lent : lent_at m₀ false (busy_in (block_of s₁ b)) ≡ true
  busy-lent = lent-index m₀ false (busy_in (block_of s₁ b)) (busy_at l) busy-index ∙ kept false (busy_at l) ∙ r.busy

  -- ---- the run

  given : Given (start_checks m l.cp (channel_number b) lines limit) 0
  given =
      inr (
        ⊎_elim (is-channel b) (⊎_elim (λ x. omega (arith, r.lines_fit)) (λ x. omega (arith, r.limit_fits))),
        inr (r.buffers_fit, inr ((λ x. omega (arith, r.cp_fits)), refl)),
      )
    where
      is-channel : (b : Bool) → ¬ (NoChannel (channel_number b))
      is-channel true x = unfold channel_number in x.1 refl
      is-channel false x = unfold channel_number in x.0 refl

  first-is : first_attention m l.cp (channel_number b) ≡ outcome 0 s₀ m₀
  first-is = start.given

  pub comes : Comes m l.cp b lines limit n 6 s₁ m₀
  comes =
      record {
        started = given;
        accepted = ap (λ (o : Outcome). o.number) first-is;
        steps = subst (λ (o : Outcome). DoneSteps lines o.state o.memory 6 s₁ m₀) (sym first-is) come.done;
        alone = come.lonely;
        copy = copy;
        halt = halt;
        halt_kept = halt-kept;
        busy = busy-lent;
        enough = omega (arith, r.enough, total-at);
      }

  run : Halted b n 6 s₁ m₀ (run_in l m lines limit)
  run = run-halts comes

  -- BUSY is the same byte, however its address is written
  busy-apart : (u : Bool) (a : ℕ) → Apart false (busy_at l) u a → Apart false (busy_in (block_of s₁ b)) u a
  busy-apart u a h e x = h e (sym busy-index ∙ x)

  moved : BlockMoved j l m (run_in l m lines limit).memory
  moved = record { copied = copied; busy = byte-index _ false (busy_at l) (busy_in (block_of s₁ b)) (sym busy-index) ∙ run.busy; others = others; lengths = λ u. run.lengths u ∙ store_length m false u (busy_at l) 255 }
    where
      copied : (i : ℕ) → i < n → byte_at (run_in l m lines limit).memory false ((into_place j).address + i) ≡ byte_at m false ((from_place j).address + i)
      copied i h =
          subst (λ (p : Pointer). byte_at (run_in l m lines limit).memory false ((into_place j).address + i) ≡ byte_at m₀ p.tag (p.address + i)) source-at
          (subst
          (λ (q : Pointer). Apart false (busy_in (block_of s₁ b)) q.tag (q.address + i)
          → byte_at (run_in l m lines limit).memory q.tag (q.address + i) ≡ byte_at m₀ (from c₁).tag ((from c₁).address + i))
          destination-at (run.copied i h)
          (busy-apart false ((into_place j).address + i) (apart-back false ((into_place j).address + i) false (busy_at l) (r.busy_into i h))))
          ∙ other false ((from_place j).address + i) (apart-back false ((from_place j).address + i) false (busy_at l) (r.busy_from i (omega arith)))

      others : (u : Bool) (a : ℕ) → Outside (into_place j) n u a → Apart false (busy_at l) u a → byte_at (run_in l m lines limit).memory u a ≡ byte_at m u a
      others u a o o' = run.others u a (subst (λ (q : Pointer). Outside q n u a) (sym destination-at) o) (busy-apart u a o') ∙ other u a o'

  -- demand 3's row in it
  row : RowMade j l m lines
  row =
      record {
        state = s₁;
        memory = m₀;
        accepted = comes.accepted;
        instructions = comes.steps;
        copy = copy;
        row = through b n s₁ m₀ lines copy come.lonely (steps_of j) (omega (arith, total-at));
      }

  runs : RunCopies j l m (run_in l m lines limit)
  runs =
      record {
        number = run.number;
        steps = omega (arith, run.steps, total-at);
        memory = moved;
      }

-- every such image is run so
pub showpiece : Showpiece
showpiece j l m lines limit r = runs r

-- by `iop89_run` itself
pub showpiece-call : ShowpieceCall
unfolding answer_of
showpiece-call j l m lines limit answer sys io r e =
    let x = showpiece j l m lines limit r in
    record {
      answered = ap (λ (c : Call). c.answer) e ∙ rw (x.number, x.steps) (omega (arith, r.enough, r.limit_fits));
      memory = subst (BlockMoved j l m) (sym (ap (λ (c : Call). c.memory) e)) x.memory;
    }

-- and so of the contract that the prover made of it: what C gets where it passes such an image, its CP and its channel
pub showpiece-called : (κs : Lfts 2) (a : Dens κs call-kinds.ps) (r : (res_t call-kinds.r κs).Denot) (e : AtExit (ended_of 2 call-kinds.ps call-kinds.r) κs) → call-reads.Post κs a r e
    → (j : Job) (l : Layout) → a.1.1.0 ≡ l.cp → a.1.1.1.0 ≡ channel_number l.second
    → JobReady j l (buffers a.0.now a.1.0.now) a.1.1.1.1.0 a.1.1.1.1.1.0
    → CallCopies j l (buffers a.0.now a.1.0.now) r e.0.now e.1.0.now
showpiece-called κs a r e p j l cp channel ready =
    let m = buffers a.0.now a.1.0.now in
    let lines = a.1.1.1.1.0 in
    let limit = a.1.1.1.1.1.0 in
    showpiece-call j l m lines limit r e.0.now e.1.0.now ready
    (subst (λ (k : ℕ). CallMeets m k (channel_number l.second) lines limit r e.0.now e.1.0.now) cp
    (subst (λ (k : ℕ). CallMeets m a.1.1.0 k lines limit r e.0.now e.1.0.now) channel (call-meets κs a r e p)))

-- with demand 3's row in it, made by fresh, attention and XFER
pub row_made : (j : Job) (l : Layout) (m : Buffers) (lines limit : ℕ) → JobReady j l m lines limit → RowMade j l m lines
row_made j l m lines limit r = row r

-- ---- what fits

-- with a side of 16 bits a transfer takes at most 32,769 steps
wide_fits : (c : Channel) (n : ℕ) → narrow c ≡ false → n ≤ 65536 → total c n ≤ 32769
wide_fits c n e most = go (word_side (source c) || word_side (destination c)) refl
  where
    go : (w : Bool) → word_side (source c) || word_side (destination c) ≡ w → total c n ≤ 32769
    go true w = omega (arith, total-wide c n e, alone-none c w)
    go false w = omega (arith, total-wide c n e, alone-one c w)

-- so the widths alone say what fits the largest limit
sides-fit : (from into : ℕ) (s d : Bool) (n : ℕ) → 1 ≤ n → n ≤ 65536 → (total (copying from into s d n) n + 8 ≤ 65535) ↔ (n ≤ most_by s d)
unfolding narrow copying running_with source destination bit_of
sides-fit from into true true n some most = (λ h. most, λ h. omega (arith, wide_fits (copying from into true true n) n refl most))
sides-fit from into true false n some most = (λ h. most, λ h. omega (arith, wide_fits (copying from into true false n) n refl most))
sides-fit from into false true n some most = (λ h. most, λ h. omega (arith, wide_fits (copying from into false true n) n refl most))
sides-fit from into false false n some most =
    (λ h. omega (arith, total-narrow (copying from into false false n) n refl), λ h. omega (arith, total-narrow (copying from into false false n) n refl))

pub fits-exactly : FitsExactly
fits-exactly j some most = sides-fit (from_place j).address (into_place j).address j.from_wide j.into_wide j.count some most
