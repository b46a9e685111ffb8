-- The laws of who steps: the lines, the ranks and the choice (§5.1 to §5.4).
-- Assumes nothing.
use Prim.Native.Nat.{ℕ, ◌+◌, ◌<◌, ◌≤◌}
use borrow.Author.Tests.{eqb-false, lt-ltb, le-ltb}
use lib.Dec.{eqb, lit≤}
use mathlib.Core.Bool.{Bool, true, false, not, ◌&&◌, ◌||◌}
use mathlib.Core.Logic.{⊎_elim, inl, inr, ◌⊎◌, ◌↔◌}
use mathlib.Core.Path.{◌≡◌, refl, sym, ap, subst, ◌∙◌}
use native.Mathlib.Decide.{dec_lt}
use native.Mathlib.Omega.{arith}
use Rattle.ground_rules.proofs.ConditionLaws.{Says, says-true, says-eqb, says-running, says-not, says-and, says-or, running-is}
use Rattle.ground_rules.specs.Psw.{transferring, priority}
use Rattle.ground_rules.specs.States.{channel_of, is_running}
use Rattle.ground_rules.specs.declared.Channel.{Channel}
use Rattle.ground_rules.specs.declared.Mode.TheVariants.{Running}
use Rattle.ground_rules.specs.declared.State.{State}
use Rattle.ground_rules.proofs.ChoiceLaws.{apart}
use Rattle.ground_rules.specs.Bits.{bit_of}
use Rattle.ground_rules.specs.Choice.{pick}
use Rattle.turn_rules.specs.Choosing.{requested, external, ends_now, no_rank, transfer_rank, rank_of, second_wins, ranked, choice_of}
use Rattle.turn_rules.specs.Ranks.{EndsNow, RankOne, RankThree, HasRank, ExternalAt, RankedAt, WaitsAt, rank_at, NoneEnds, NoneRuns}
use Rattle.turn_rules.specs.declared.Choice.{Choice}
use Rattle.turn_rules.specs.declared.Choice.TheVariants.{Nobody, Ends, Steps}

-- ---- the lines

-- the line number of the lines that are up (§5.1)
abbrev pub summed : Bool → Bool → Bool → Bool → ℕ
summed drq₁ drq₂ ext₁ ext₂ = pick drq₁ 1 0 + pick drq₂ 2 0 + pick ext₁ 4 0 + pick ext₂ 8 0

-- each line is up in the sum exactly where it went in
pub lines-read : (drq₁ drq₂ ext₁ ext₂ : Bool)
    → (requested (summed drq₁ drq₂ ext₁ ext₂) false ≡ drq₁) × (requested (summed drq₁ drq₂ ext₁ ext₂) true ≡ drq₂)
    × (external (summed drq₁ drq₂ ext₁ ext₂) false ≡ ext₁) × (external (summed drq₁ drq₂ ext₁ ext₂) true ≡ ext₂)
unfolding requested external bit_of
lines-read true true true true = (refl, refl, refl, refl)
lines-read true true true false = (refl, refl, refl, refl)
lines-read true true false true = (refl, refl, refl, refl)
lines-read true true false false = (refl, refl, refl, refl)
lines-read true false true true = (refl, refl, refl, refl)
lines-read true false true false = (refl, refl, refl, refl)
lines-read true false false true = (refl, refl, refl, refl)
lines-read true false false false = (refl, refl, refl, refl)
lines-read false true true true = (refl, refl, refl, refl)
lines-read false true true false = (refl, refl, refl, refl)
lines-read false true false true = (refl, refl, refl, refl)
lines-read false true false false = (refl, refl, refl, refl)
lines-read false false true true = (refl, refl, refl, refl)
lines-read false false true false = (refl, refl, refl, refl)
lines-read false false false true = (refl, refl, refl, refl)
lines-read false false false false = (refl, refl, refl, refl)

-- ---- external ends and ranks

-- the test for an external end says that one is due (§5.2)
pub says-ends : (c : Channel) (ext : Bool) → Says (ends_now c ext) (EndsNow c ext)
unfolding ends_now
says-ends c ext =
    record {
      holds = λ e. let h = all.holds e in (h.0.0.0, h.0.0.1, h.0.1, h.1);
      fails = λ e h. all.fails e (((h.0, h.1), h.2), h.3);
    }
  where
    all : Says (is_running c.mode && transferring c.psw && not (eqb c.fields.externalEnd 0) && ext)
        ((((c.mode ≡ Running) × (transferring c.psw ≡ true)) × ¬ (c.fields.externalEnd ≡ 0)) × (ext ≡ true))
    all = says-and (says-and (says-and (says-running c.mode) (says-true (transferring c.psw))) (says-not (says-eqb c.fields.externalEnd 0))) (says-true ext)

-- so does that for a transfer that need not wait (§5.3)
says-moves : (syn : ℕ) (drq : Bool) → Says (eqb syn 0 || drq || eqb syn 3) ((syn ≡ 0) ⊎ ((drq ≡ true) ⊎ (syn ≡ 3)))
says-moves syn drq =
    record {
      holds = λ e. ⊎_elim (⊎_elim (λ h. inl h) (λ h. inr (inl h))) (λ h. inr (inr h)) (all.holds e);
      fails = λ e h. all.fails e (⊎_elim (λ k. inl (inl k)) (⊎_elim (λ k. inl (inr k)) (λ k. inr k)) h);
    }
  where
    all : Says (eqb syn 0 || drq || eqb syn 3) (((syn ≡ 0) ⊎ (drq ≡ true)) ⊎ (syn ≡ 3))
    all = says-or (says-or (says-eqb syn 0) (says-true drq)) (says-eqb syn 3)

-- the three cases of a rank: what holds of each under its condition holds of the rank
pub by_rank : (c : Channel) (drq : Bool) (P : ℕ → Type 0) → (RankOne c drq → P 1) → (RankThree c → P 3) → (¬ (HasRank c drq) → P no_rank) → P (rank_of c drq)
unfolding rank_of transfer_rank
by_rank c drq P one three none =
    go (is_running c.mode) refl (transferring c.psw) refl (eqb c.fields.synchronised 0 || drq || eqb c.fields.synchronised 3) refl c.fields.chained refl
  where
    moves : Says (eqb c.fields.synchronised 0 || drq || eqb c.fields.synchronised 3) ((c.fields.synchronised ≡ 0) ⊎ ((drq ≡ true) ⊎ (c.fields.synchronised ≡ 3)))
    moves = says-moves c.fields.synchronised drq

    go : (r : Bool) → is_running c.mode ≡ r → (x : Bool) → transferring c.psw ≡ x
        → (y : Bool) → eqb c.fields.synchronised 0 || drq || eqb c.fields.synchronised 3 ≡ y → (z : Bool) → c.fields.chained ≡ z
        → P (pick r (pick x (pick y 1 no_rank) (pick z 1 3)) no_rank)
    go true e true f true g z h = one (running-is c.mode e, inl (f, moves.holds g))
    go true e true f false g z h =
        none (⊎_elim (λ k. ⊎_elim (λ a. moves.fails g a.1) (λ a. apart (sym f ∙ a.0)) k.1) (λ k. apart (sym f ∙ k.1)))
    go true e false f y g true h = one (running-is c.mode e, inr (f, h))
    go true e false f y g false h = three (running-is c.mode e, f, h)
    go false e x f y g z h = none (⊎_elim (λ k. (says-running c.mode).fails e k.0) (λ k. (says-running c.mode).fails e k.0))

one-three : (c : Channel) (drq : Bool) → RankOne c drq → RankThree c → ⊥
one-three c drq k h = ⊎_elim (λ a. apart (sym a.0 ∙ h.1)) (λ a. apart (sym a.1 ∙ h.2)) k.1

-- rank 1 is that of a transfer that need not wait and of a chained program
pub rank-one : (c : Channel) (drq : Bool) → rank_of c drq ≡ 1 ↔ RankOne c drq
rank-one c drq = (
  by_rank c drq (λ n. n ≡ 1 → RankOne c drq) (λ h e. h) (λ h e. absurd (eqb-false 3 1 refl e)) (λ h e. absurd (eqb-false 4 1 refl e)),
  by_rank c drq (λ n. RankOne c drq → n ≡ 1) (λ h k. refl) (λ h k. absurd (one-three c drq k h)) (λ h k. absurd (h (inl k))),
)

-- rank 3 is that of a program that is not chained
pub rank-three : (c : Channel) (drq : Bool) → rank_of c drq ≡ 3 ↔ RankThree c
rank-three c drq = (
  by_rank c drq (λ n. n ≡ 3 → RankThree c) (λ h e. absurd (eqb-false 1 3 refl e)) (λ h e. h) (λ h e. absurd (eqb-false 4 3 refl e)),
  by_rank c drq (λ n. RankThree c → n ≡ 3) (λ h k. absurd (one-three c drq h k)) (λ h k. refl) (λ h k. absurd (h (inr k))),
)

-- any other channel has no rank
pub rank-none : (c : Channel) (drq : Bool) → rank_of c drq ≡ no_rank ↔ ¬ (HasRank c drq)
rank-none c drq = (
  by_rank c drq (λ n. n ≡ no_rank → ¬ (HasRank c drq)) (λ h e. absurd (eqb-false 1 4 refl e)) (λ h e. absurd (eqb-false 3 4 refl e)) (λ h e. h),
  by_rank c drq (λ n. ¬ (HasRank c drq) → n ≡ no_rank) (λ h k. absurd (k (inl h))) (λ h k. absurd (k (inr h))) (λ h k. refl),
)

-- and one that has no such rank has one
ranked-then : (c : Channel) (drq : Bool) → ¬ (rank_of c drq ≡ no_rank) → HasRank c drq
ranked-then c drq = by_rank c drq (λ n. ¬ (n ≡ no_rank) → HasRank c drq) (λ h e. inl h) (λ h e. inr h) (λ h e. absurd (e refl))

rank-small : (c : Channel) (drq : Bool) → rank_of c drq ≤ no_rank
rank-small c drq = by_rank c drq (λ n. n ≤ no_rank) (λ h. lit≤ tt) (λ h. lit≤ tt) (λ h. lit≤ tt)

-- ---- who wins

lower : (r₁ r₂ : ℕ) (p₁ p₂ last : Bool) → r₁ < r₂ → second_wins r₁ r₂ p₁ p₂ last ≡ false
unfolding second_wins
lower r₁ r₂ p₁ p₂ last h = rw (lt-ltb r₁ r₂ h)

higher : (r₁ r₂ : ℕ) (p₁ p₂ last : Bool) → r₂ < r₁ → second_wins r₁ r₂ p₁ p₂ last ≡ true
unfolding second_wins
higher r₁ r₂ p₁ p₂ last h = rw (le-ltb r₁ r₂ (omega arith), lt-ltb r₂ r₁ h)

tied : (r₁ r₂ : ℕ) (p₁ p₂ last : Bool) → r₁ ≡ r₂ → second_wins r₁ r₂ p₁ p₂ last ≡ pick (p₁ && not p₂) false (pick (p₂ && not p₁) true (not last))
unfolding second_wins
tied r₁ r₂ p₁ p₂ last e = rw (le-ltb r₁ r₂ (omega arith), le-ltb r₂ r₁ (omega arith))

-- who wins has a rank, where not both have none
winner : (r₁ r₂ : ℕ) (p₁ p₂ last b : Bool) → r₁ ≤ no_rank → r₂ ≤ no_rank → ¬ ((r₁ ≡ no_rank) × (r₂ ≡ no_rank))
    → second_wins r₁ r₂ p₁ p₂ last ≡ b → ¬ (pick b r₂ r₁ ≡ no_rank)
winner r₁ r₂ p₁ p₂ last b h₁ h₂ ne = go (dec_lt r₁ r₂) (dec_lt r₂ r₁) b
  where
    go : Dec (r₁ < r₂) → Dec (r₂ < r₁) → (b : Bool) → second_wins r₁ r₂ p₁ p₂ last ≡ b → ¬ (pick b r₂ r₁ ≡ no_rank)
    go (yes l) d true e z = apart (sym e ∙ lower r₁ r₂ p₁ p₂ last l)
    go (yes l) d false e z = omega arith
    go (no l) (yes g) true e z = omega arith
    go (no l) (yes g) false e z = apart (sym (higher r₁ r₂ p₁ p₂ last g) ∙ e)
    go (no l) (no g) true e z = ne (omega arith, z)
    go (no l) (no g) false e z = ne (z, omega arith)

-- ---- the choice

-- channel 2 wins, of a state
abbrev pub second_of : State → ℕ → Bool
second_of s lines = second_wins (rank_at s lines false) (rank_at s lines true) (priority (channel_of s false).psw) (priority (channel_of s true).psw) s.last

-- the cases of a choice: what holds of each under its condition holds of the choice
pub by-choice : (s : State) (lines : ℕ) (P : Choice → Type 0)
    → (ExternalAt s lines false → P (Ends false))
    → (¬ (ExternalAt s lines false) → ExternalAt s lines true → P (Ends true))
    → (NoneEnds s lines → rank_at s lines false ≡ no_rank → rank_at s lines true ≡ no_rank → P Nobody)
    → (NoneEnds s lines → ¬ ((rank_at s lines false ≡ no_rank) × (rank_at s lines true ≡ no_rank)) → P (Steps (second_of s lines)))
    → P (choice_of s lines)
unfolding choice_of ranked channel_of
by-choice s lines P ends₁ ends₂ nobody steps =
    go (ends_now s.first (external lines false)) refl (ends_now s.second (external lines true)) refl
    (eqb (rank_at s lines false) no_rank && eqb (rank_at s lines true) no_rank) refl
  where
    says₁ : Says (ends_now s.first (external lines false)) (ExternalAt s lines false)
    says₁ = says-ends s.first (external lines false)

    says₂ : Says (ends_now s.second (external lines true)) (ExternalAt s lines true)
    says₂ = says-ends s.second (external lines true)

    none : ¬ (ExternalAt s lines false) → ¬ (ExternalAt s lines true) → NoneEnds s lines
    none n₁ n₂ true = n₂
    none n₁ n₂ false = n₁

    ranks : Says (eqb (rank_at s lines false) no_rank && eqb (rank_at s lines true) no_rank) ((rank_at s lines false ≡ no_rank) × (rank_at s lines true ≡ no_rank))
    ranks = says-and (says-eqb (rank_at s lines false) no_rank) (says-eqb (rank_at s lines true) no_rank)

    go : (x : Bool) → ends_now s.first (external lines false) ≡ x → (y : Bool) → ends_now s.second (external lines true) ≡ y
        → (z : Bool) → eqb (rank_at s lines false) no_rank && eqb (rank_at s lines true) no_rank ≡ z
        → P (pick x (Ends false) (pick y (Ends true) (pick z Nobody (Steps (second_of s lines)))))
    go true e y f z g = ends₁ (says₁.holds e)
    go false e true f z g = ends₂ (says₁.fails e) (says₂.holds f)
    go false e false f true g = let h = ranks.holds g in nobody (none (says₁.fails e) (says₂.fails f)) h.0 h.1
    go false e false f false g = steps (none (says₁.fails e) (says₂.fails f)) (ranks.fails g)

-- the kinds of choice are three, and each names its channel
variant : Choice → ℕ
variant Nobody = 0
variant (Ends b) = 1
variant (Steps b) = 2

named : Choice → Bool
named Nobody = false
named (Ends b) = b
named (Steps b) = b

other : {A : Type 0} {x y : Choice} → eqb (variant x) (variant y) ≡ false → x ≡ y → A
other {x = x} {y = y} ne e = absurd (eqb-false (variant x) (variant y) ne (ap variant e))

-- an external end comes first, that of channel 1 before that of channel 2 (§5.2)
pub first_ends : (s : State) (lines : ℕ) → ExternalAt s lines false → choice_of s lines ≡ Ends false
first_ends s lines h = by-choice s lines (λ x. x ≡ Ends false) (λ k. refl) (λ n k. absurd (n h)) (λ n a b. absurd (n false h)) (λ n a. absurd (n false h))

pub second-ends : (s : State) (lines : ℕ) → ¬ (ExternalAt s lines false) → ExternalAt s lines true → choice_of s lines ≡ Ends true
second-ends s lines n h = by-choice s lines (λ x. x ≡ Ends true) (λ k. absurd (n k)) (λ _ k. refl) (λ n a b. absurd (n true h)) (λ n a. absurd (n true h))

-- whose transfer is ended is running, with XF, TX not 00 and its EXT up
pub ends-chosen : (s : State) (lines : ℕ) (second : Bool) → choice_of s lines ≡ Ends second → ExternalAt s lines second
unfolding variant named
ends-chosen s lines second =
    by-choice s lines (λ x. x ≡ Ends second → ExternalAt s lines second)
    (λ k e. subst (λ (b : Bool). ExternalAt s lines b) (ap named e) k)
    (λ n k e. subst (λ (b : Bool). ExternalAt s lines b) (ap named e) k)
    (λ n a b e. other refl e) (λ n a e. other refl e)

-- who has its turn is running and has a rank, and no transfer is ended
pub steps-chosen : (s : State) (lines : ℕ) (second : Bool) → choice_of s lines ≡ Steps second → NoneEnds s lines × RankedAt s lines second
unfolding variant named channel_of
steps-chosen s lines second =
    by-choice s lines (λ x. x ≡ Steps second → NoneEnds s lines × RankedAt s lines second)
    (λ k e. other refl e) (λ n k e. other refl e) (λ n a b e. other refl e)
    (λ n ne e. (n, wins second (ap named e) ne))
  where
    wins : (b : Bool) → second_of s lines ≡ b → ¬ ((rank_at s lines false ≡ no_rank) × (rank_at s lines true ≡ no_rank)) → RankedAt s lines b
    wins true e ne =
        ranked-then s.second (requested lines true)
        (winner (rank_at s lines false) (rank_at s lines true) (priority s.first.psw) (priority s.second.psw) s.last true (rank-small s.first (requested lines false)) (rank-small s.second (requested lines true)) ne e)
    wins false e ne =
        ranked-then s.first (requested lines false)
        (winner (rank_at s lines false) (rank_at s lines true) (priority s.first.psw) (priority s.second.psw) s.last false (rank-small s.first (requested lines false)) (rank-small s.second (requested lines true)) ne e)

-- so whoever is chosen is running
pub chosen-running : (s : State) (lines : ℕ) (second : Bool) → (choice_of s lines ≡ Ends second) ⊎ (choice_of s lines ≡ Steps second) → (channel_of s second).mode ≡ Running
chosen-running s lines second =
    ⊎_elim (λ e. (ends-chosen s lines second e).0) (λ e. ⊎_elim (λ h. h.0) (λ h. h.0) (steps-chosen s lines second e).1)

-- nobody steps exactly where no transfer is ended and no channel has a rank (§5.5)
pub nobody-runs : (s : State) (lines : ℕ) → choice_of s lines ≡ Nobody ↔ NoneRuns s lines
unfolding variant
nobody-runs s lines = (
  by-choice s lines (λ x. x ≡ Nobody → NoneRuns s lines)
      (λ k e. other refl e) (λ n k e. other refl e) (λ n a b e. none n a b) (λ n a e. other refl e),
  by-choice s lines (λ x. NoneRuns s lines → x ≡ Nobody)
      (λ k h. absurd (h false (inl k))) (λ n k h. absurd (h true (inl k))) (λ n a b h. refl)
      (λ n ne h. absurd (ne (unranked h false, unranked h true))),
)
  where
    none : NoneEnds s lines → rank_at s lines false ≡ no_rank → rank_at s lines true ≡ no_rank → NoneRuns s lines
    none n a b true = ⊎_elim (n true) ((rank-none (channel_of s true) (requested lines true)).0 b)
    none n a b false = ⊎_elim (n false) ((rank-none (channel_of s false) (requested lines false)).0 a)

    unranked : NoneRuns s lines → (b : Bool) → rank_at s lines b ≡ no_rank
    unranked h b = (rank-none (channel_of s b) (requested lines b)).1 (λ k. h b (inr k))

-- where no transfer is ended and some channel has a rank, the winner has its turn
turn : (s : State) (lines : ℕ) → NoneEnds s lines → ¬ ((rank_at s lines false ≡ no_rank) × (rank_at s lines true ≡ no_rank)) → choice_of s lines ≡ Steps (second_of s lines)
turn s lines n ne =
    by-choice s lines (λ x. x ≡ Steps (second_of s lines)) (λ k. absurd (n false k)) (λ _ k. absurd (n true k)) (λ _ a b. absurd (ne (a, b))) (λ _ _. refl)

-- the lower rank goes (§5.4)
pub lower-rank-wins : (s : State) (lines : ℕ) (b : Bool) → NoneEnds s lines → rank_at s lines b < rank_at s lines (not b) → choice_of s lines ≡ Steps b
lower-rank-wins s lines true n h =
    turn s lines n (λ z. omega (arith, z.0, z.1, h))
    ∙ ap Steps (higher (rank_at s lines false) (rank_at s lines true) (priority (channel_of s false).psw) (priority (channel_of s true).psw) s.last h)
lower-rank-wins s lines false n h =
    turn s lines n (λ z. omega (arith, z.0, z.1, h))
    ∙ ap Steps (lower (rank_at s lines false) (rank_at s lines true) (priority (channel_of s false).psw) (priority (channel_of s true).psw) s.last h)

-- at equal rank, the one whose priority bit is set where the other's is clear
pub priority-wins : (s : State) (lines : ℕ) (b : Bool) → NoneEnds s lines → RankedAt s lines b → rank_at s lines b ≡ rank_at s lines (not b)
    → priority (channel_of s b).psw ≡ true → priority (channel_of s (not b)).psw ≡ false → choice_of s lines ≡ Steps b
priority-wins s lines true n r e p q =
    turn s lines n (λ z. (rank-none (channel_of s true) (requested lines true)).0 z.1 r)
    ∙ ap Steps (tied (rank_at s lines false) (rank_at s lines true) (priority (channel_of s false).psw) (priority (channel_of s true).psw) s.last (sym e) ∙ rw (p, q))
priority-wins s lines false n r e p q =
    turn s lines n (λ z. (rank-none (channel_of s false) (requested lines false)).0 z.0 r)
    ∙ ap Steps (tied (rank_at s lines false) (rank_at s lines true) (priority (channel_of s false).psw) (priority (channel_of s true).psw) s.last e ∙ rw (p, q))

-- where these are equal too, the one that is not last
pub other-turn : (s : State) (lines : ℕ) → NoneEnds s lines → RankedAt s lines false → rank_at s lines false ≡ rank_at s lines true
    → priority (channel_of s false).psw ≡ priority (channel_of s true).psw → choice_of s lines ≡ Steps (not s.last)
other-turn s lines n r e p =
    turn s lines n (λ z. (rank-none (channel_of s false) (requested lines false)).0 z.0 r)
    ∙ ap Steps (tied (rank_at s lines false) (rank_at s lines true) (priority (channel_of s false).psw) (priority (channel_of s true).psw) s.last e ∙ rw p (level (priority (channel_of s true).psw)))
  where
    level : (q : Bool) → pick (q && not q) false (pick (q && not q) true (not s.last)) ≡ not s.last
    level true = refl
    level false = refl

-- a channel that waits for its DRQ is never chosen
pub waiting-never : (s : State) (lines : ℕ) (second : Bool) → WaitsAt s lines second → ¬ (choice_of s lines ≡ Ends second) × ¬ (choice_of s lines ≡ Steps second)
waiting-never s lines second w =
    (λ e. w.3 (ends-chosen s lines second e), λ e. unranked (steps-chosen s lines second e).1)
  where
    syn : ℕ
    syn = (channel_of s second).fields.synchronised

    still : (syn ≡ 1) ⊎ (syn ≡ 2) → (syn ≡ 0) ⊎ ((requested lines second ≡ true) ⊎ (syn ≡ 3)) → ⊥
    still =
        ⊎_elim
        (λ a. ⊎_elim (λ z. eqb-false 1 0 refl (sym a ∙ z)) (⊎_elim (λ z. apart (sym z ∙ w.2)) (λ z. eqb-false 1 3 refl (sym a ∙ z))))
        (λ a. ⊎_elim (λ z. eqb-false 2 0 refl (sym a ∙ z)) (⊎_elim (λ z. apart (sym z ∙ w.2)) (λ z. eqb-false 2 3 refl (sym a ∙ z))))

    unranked : RankedAt s lines second → ⊥
    unranked =
        ⊎_elim
        (λ h. ⊎_elim (λ k. still w.1 k.1) (λ k. apart (sym w.0 ∙ k.0)) h.1)
        (λ h. apart (sym w.0 ∙ h.1))
