-- The call for C, of the contract that the prover made of it: one outcome, what the words add up to, rows cut into two, and a refused row.
-- Assumes nothing.
use mathlib.Core.{List.map, Bool.true, List.List, List.[], List.◌∷◌, List.◌++◌, Path.◌≡◌, Path.refl, Path.sym, Path.ap, Path.ap₂, Path.◌∙◌, Path.subst}
use Rattle.std.proofs.Common.{ℕ, zero, suc, ◌+◌, ◌<◌, length, get_or, arith}
use seplogic.Ra.Ura.{Ura}
use base.Logic.{SProp, ent, via}
use prog.{Memory.Memory, Routine.Routine}
use types.Logic.{Logic}
use contract.{Conj.conj, Conj.conj_l, Conj.conj_r, Lifetimes.Lfts, Monad.Fun, Monad.fact, Monad.fact_i, Monad.fact_mono, Monad.fact_use}
use denote.{Triple.Clauses.AtExit, Triple.Entry.Args, Triple.Entry.Res}
use Rattle.ground_rules.{specs.Buffers.Buffers, specs.Buffers.buffers, proofs.ChoiceLaws.both_left, proofs.ChoiceLaws.both_right}
use Rattle.state_rules.{proofs.ForthLaws.bytes_back, specs.Conditions.Bytes, specs.Layout.bytes_of, specs.Layout.state_in, specs.Layout.is_state}
use Rattle.schedule_rules.specs.{Counts.RowCount, Counts.over_rows, Reports.all_counts, Reports.Scheduled, Reports.report_of, Reports.put_over, Rows.Bench, Rows.bench}
use Rattle.schedule_rules.specs.{Rows.all_known, Rows.row_number, Rows.rows_left, declared.ScheduleRow.ScheduleRow}
use Rattle.schedule_rules.proofs.{RowLaws.over-cut, RowLaws.known-cut, RowLaws.left_cut, RowLaws.refused-row, ScheduleLaws.known-runs, ScheduleLaws.rows-add-up}
use Rattle.schedule_calls.specs.Calls.{ScheduleService, scheduled, schedule_served, ScheduleMet}
use Rattle.schedule_calls.specs.Turns.{Standing, standing, bench_in}
use Rattle.schedule_calls.specs.contracts.iop89_schedule as schedule

-- ---- what was said of a call, put in bytes and words

-- each lent word is its count
word-at : (ws xs : List ℕ) (i : ℕ) → i < length ws → i < length xs → get_or (put_over ws xs) i 0 ≡ get_or ws i 0
unfolding put_over
word-at [] xs i h l = absurd (omega arith)
word-at (w ∷ ws) [] i h l = absurd (omega arith)
word-at (w ∷ ws) (x ∷ xs) zero h l = refl
word-at (w ∷ ws) (x ∷ xs) (suc i) h l = word-at ws xs i (omega arith) (omega arith)

-- and each count is the sum of two
count_at : (fs : List RowCount) (p : Bench) (a b : List ScheduleRow) (i : ℕ)
    → get_or (map (λ f. over_rows f p (a ++ b)) fs) i 0 ≡ get_or (map (λ f. over_rows f p a) fs) i 0 + get_or (map (λ f. over_rows f (rows_left p a) b) fs) i 0
count_at [] p a b i = refl
count_at (f ∷ fs) p a b zero = over-cut f p a b
count_at (f ∷ fs) p a b (suc j) = count_at fs p a b j

-- of a state's bytes and rows of known kinds
module _ (x : Standing) (rows : List ScheduleRow) (is : is_state x.bytes ≡ true) (known : all_known rows ≡ true) (r : ℕ) (y : Standing) (met : ScheduleMet r y x rows) where
  ran : scheduled r y ≡ scheduled 0 (standing (bytes_of (rows_left (bench_in x) rows).state) (rows_left (bench_in x) rows).memory (put_over (report_of (bench_in x) rows) x.words))
  unfolding schedule_served
  ran = met.0 ∙ rw (is, known-runs (bench_in x) rows known)

  -- the bench that stands there after it
  bench-after : bench_in y ≡ rows_left (bench_in x) rows
  bench-after = ap₂ bench ((met.1 is).1 ∙ ap (λ (o : Scheduled). o.bench.state) (known-runs (bench_in x) rows known)) (ap (λ (o : ScheduleService). o.left.memory) ran)

  -- a word that is lent
  word-is : (i : ℕ) → i < 16 → i < length x.words → get_or y.words i 0 ≡ get_or (report_of (bench_in x) rows) i 0
  unfolding report_of
  word-is i h l = ap (λ (o : ScheduleService). get_or o.left.words i 0) ran ∙ word-at (report_of (bench_in x) rows) x.words i h l

  adds-up : 1 < length x.words → get_or y.words 0 0 + get_or y.words 1 0 ≡ length rows
  unfolding report_of
  adds-up l = ap₂ ◌+◌ (word-is 0 (omega arith) (omega arith)) (word-is 1 (omega arith) l) ∙ rows-add-up (bench_in x) rows

  -- a row alone that is refused
  same_after : Bytes x.bytes → rows_left (bench_in x) rows ≡ bench_in x → (y.bytes ≡ x.bytes) × (y.memory ≡ x.memory)
  same_after byte e = (
    ap (λ (o : ScheduleService). o.left.bytes) ran ∙ ap (λ (p : Bench). bytes_of p.state) e ∙ bytes_back x.bytes byte is,
    ap (λ (o : ScheduleService). o.left.memory) ran ∙ ap (λ (p : Bench). p.memory) e,
  )

-- what two calls in a row leave beside one over all rows: the same bytes and memories, and words that are the sums of theirs
pub record CutAlike (first second whole : Standing) (lent : ℕ) : Type 0 where
  pub bytes : whole.bytes ≡ second.bytes
  pub memory : whole.memory ≡ second.memory
  pub words : (i : ℕ) → i < 16 → i < lent → get_or whole.words i 0 ≡ get_or first.words i 0 + get_or second.words i 0

cut-alike : (x x' : Standing) (a b : List ScheduleRow) → is_state x.bytes ≡ true → all_known (a ++ b) ≡ true → (r r' s : ℕ) (y y' z : Standing)
    → ScheduleMet r y x a → x'.bytes ≡ y.bytes → x'.memory ≡ y.memory → length x'.words ≡ length x.words → ScheduleMet r' y' x' b → ScheduleMet s z x (a ++ b)
    → CutAlike y y' z (length x.words)
unfolding report_of
cut-alike x x' a b is known r r' s y y' z one e f n two all =
    let parts = sym (known-cut a b) ∙ known in
    let ka = both_left (all_known a) (all_known b) parts in
    let kb = both_right (all_known a) (all_known b) parts in
    let is' = ap is_state e ∙ (one.1 is).0 in
    let on : bench_in x' ≡ rows_left (bench_in x) a = ap₂ (λ (c : List ℕ) (m : Buffers). bench (state_in c) m) e f ∙ bench-after x a is ka r y one in
    let ends : rows_left (bench_in x) (a ++ b) ≡ rows_left (bench_in x') b = left_cut (bench_in x) a b ∙ ap (λ (p : Bench). rows_left p b) (sym on) in
    let whole = ran x (a ++ b) is known s z all in
    let second = ran x' b is' kb r' y' two in
    record {
      bytes = ap (λ (o : ScheduleService). o.left.bytes) whole ∙ ap (λ (p : Bench). bytes_of p.state) ends ∙ sym (ap (λ (o : ScheduleService). o.left.bytes) second);
      memory = ap (λ (o : ScheduleService). o.left.memory) whole ∙ ap (λ (p : Bench). p.memory) ends ∙ sym (ap (λ (o : ScheduleService). o.left.memory) second);
      words = λ i h l.
          word-is x (a ++ b) is known s z all i h l
          ∙ count_at all_counts (bench_in x) a b i
          ∙ ap₂ ◌+◌ (sym (word-is x a is ka r y one i h l)) (ap (λ (p : Bench). get_or (report_of p b) i 0) (sym on) ∙ sym (word-is x' b is' kb r' y' two i h (omega arith)));
    }

-- ---- of the contract that the prover made

module _ {M : Type 1} {𝓤 : Ura M} (𝓛 : Logic 𝓤) (mem : Memory → SProp 𝓤) (run : Routine → Fun 𝓤) (κs : Lfts 5) where
  -- what the call is given, what it answers, and what it leaves of what is lent
  abbrev Given : Type 0
  Given = Args schedule.signature κs

  abbrev Answer : Type 0
  Answer = Res schedule.signature κs

  abbrev Left : Type 0
  Left = AtExit schedule.ended κs

  -- what it says of an answer and of what is lent, at exit
  abbrev pub Said : Given → Answer → Left → SProp 𝓤
  Said a r e = (schedule.clauses 𝓛 mem run κs a).ensures tt r e

  abbrev pub given_to : Given → Standing
  given_to a = standing a.0.now (buffers a.1.1.0.now a.1.1.1.0.now) a.1.1.1.1.0.now

  abbrev pub left_by : Left → Standing
  left_by e = standing e.0.now (buffers e.1.1.0.now e.1.1.1.0.now) e.1.1.1.1.0.now

  abbrev Met : Given → Answer → Left → Type 0
  Met a r e = ScheduleMet r (left_by e) (given_to a) a.1.0.now

  -- one outcome: two answers that meet it are the same, with all that is left
  pub one-schedule : (a : Given) (r q : Answer) (e f : Left)
      → ent 𝓤 (conj 𝓤 (Said a r e) (Said a q f)) (fact 𝓤 (scheduled r (left_by e) ≡ scheduled q (left_by f)))
  one-schedule a r q e f = fact_use 𝓤 (Met a r e) (conj_l 𝓤 _ _) (λ m. fact_use 𝓤 (Met a q f) (conj_r 𝓤 _ _) (λ n. fact_i 𝓤 _ _ (m.0 ∙ sym n.0)))

  -- of known kinds the first two words add up to the rows given
  pub words-add-up : (a : Given) (r : Answer) (e : Left) → is_state (given_to a).bytes ≡ true → all_known a.1.0.now ≡ true
      → 1 < length (given_to a).words → ent 𝓤 (Said a r e) (fact 𝓤 (get_or (left_by e).words 0 0 + get_or (left_by e).words 1 0 ≡ length a.1.0.now))
  words-add-up a r e is known l = fact_mono 𝓤 (Met a r e) _ (λ m. adds-up (given_to a) a.1.0.now is known r (left_by e) m l)

  -- a row alone that is refused leaves the state's bytes and both memories
  pub refused-same : (a : Given) (r : Answer) (e : Left) (row : ScheduleRow) → a.1.0.now ≡ row ∷ [] → is_state (given_to a).bytes ≡ true
      → Bytes (given_to a).bytes → all_known (row ∷ []) ≡ true → ¬ (row_number (bench_in (given_to a)) row ≡ 0) → ent 𝓤 (Said a r e) (fact 𝓤 (((left_by e).bytes ≡ (given_to a).bytes) × ((left_by e).memory ≡ (given_to a).memory)))
  unfolding rows_left
  refused-same a r e row one is byte known refused =
      fact_mono 𝓤 (Met a r e) _ (λ m. let k = subst (λ (rs : List ScheduleRow). ScheduleMet r (left_by e) (given_to a) rs) one m in same_after (given_to a) (row ∷ []) is known r (left_by e) k byte (refused-row (bench_in (given_to a)) row refused))

  -- a schedule cut into two calls, the second from what the first left, leaves what one call over all rows does
  pub cut-same : (a b c : Given) (r q s : Answer) (e f g : Left) → is_state (given_to a).bytes ≡ true
      → all_known (a.1.0.now ++ b.1.0.now) ≡ true → (given_to b).bytes ≡ (left_by e).bytes → (given_to b).memory ≡ (left_by e).memory → length (given_to b).words ≡ length (given_to a).words
      → given_to c ≡ given_to a → c.1.0.now ≡ a.1.0.now ++ b.1.0.now
      → ent 𝓤 (conj 𝓤 (Said a r e) (conj 𝓤 (Said b q f) (Said c s g))) (fact 𝓤 (CutAlike (left_by e) (left_by f) (left_by g) (length (given_to a).words)))
  cut-same a b c r q s e f g is known bytes memory n same rows =
      fact_use 𝓤 (Met a r e) (conj_l 𝓤 _ _) (λ m. fact_use 𝓤 (Met b q f) (via 𝓤 _ (conj_r 𝓤 _ _) (conj_l 𝓤 _ _)) (λ k. fact_use 𝓤 (Met c s g) (via 𝓤 _ (conj_r 𝓤 _ _) (conj_r 𝓤 _ _))
      (λ l. let whole : ScheduleMet s (left_by g) (given_to a) (a.1.0.now ++ b.1.0.now) = subst (λ (x : Standing). ScheduleMet s (left_by g) x (a.1.0.now ++ b.1.0.now)) same (subst (λ (rs : List ScheduleRow). ScheduleMet s (left_by g) (given_to c) rs) rows l) in
      fact_i 𝓤 _ _ (cut-alike (given_to a) (given_to b) a.1.0.now b.1.0.now is known r q s (left_by e) (left_by f) (left_by g) m bytes memory n k whole))))
