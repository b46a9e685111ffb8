-- Channels that take turns: with programs unchained and of equal priority each done step is of the channel that did not step last.
-- Assumes nothing.
use Prim.Native.Nat.{ℕ}
use mathlib.Core.Bool.{Bool, true, false, not}
use mathlib.Core.List.{List, [], ◌∷◌}
use mathlib.Core.Logic.{inr}
use mathlib.Core.Path.{◌≡◌, refl, sym, ap, ap₂, ◌∙◌}
use Rattle.attention_rules.proofs.Outcomes.{shared_kept}
use Rattle.ground_rules.specs.States.{fresh_state, channel_of, with_last, channel_number}
use Rattle.ground_rules.specs.declared.State.{State}
use Rattle.ground_rules.specs.Buffers.{Buffers}
use Rattle.turn_rules.proofs.ChoosingLaws.{rank-three, other-turn}
use Rattle.turn_rules.proofs.OutcomeLaws.{by-step}
use Rattle.turn_rules.specs.Choosing.{requested, choice_of}
use Rattle.turn_rules.specs.Step.{step_of}
use Rattle.turn_rules.specs.declared.Choice.TheVariants.{Ends, Steps}
use Rattle.turn_rules.specs.declared.Choice.{Choice}
use Rattle.ground_rules.proofs.ChoiceLaws.{apart}
use Rattle.promises.specs.Cases.{Fresh, made, attended, Programs, Turns, none, turn}

-- it is the turn of the channel that did not step last, whatever the lines
pub turn-of : (s : State) (lines : ℕ) → Programs s → choice_of s lines ≡ Steps (not s.last)
turn-of s lines p =
    other-turn s lines (λ b h. apart (sym h.1 ∙ (p.unchained b).1)) (inr (p.unchained false))
    ((rank-three (channel_of s false) (requested lines false)).1 (p.unchained false) ∙ sym ((rank-three (channel_of s true) (requested lines true)).1 (p.unchained true)))
    p.equal

-- so a done step is that channel's, and it was the last to step
pub alternates : (s : State) (m : Buffers) (lines : ℕ) → Programs s → (step_of s m lines).number ≡ 0
    → ((step_of s m lines).channel ≡ channel_number (not s.last)) × ((step_of s m lines).state.last ≡ not s.last)
unfolding with_last
alternates s m lines p =
    by-step s m lines (λ o. o.number ≡ 0 → (o.channel ≡ channel_number (not s.last)) × (o.state.last ≡ not s.last))
    (λ k ne e. absurd (ne e))
    (λ b z e h. apart (ap is_end (sym e ∙ turn-of s lines p)))
    (λ b z e f h. let q = ap whose (sym e ∙ turn-of s lines p) in (ap channel_number q, q))
    (λ b z e f h. let q = ap whose (sym e ∙ turn-of s lines p) in (ap channel_number q, q))
  where
    is_end : Choice → Bool
    is_end Choice.Nobody = false
    is_end (Ends b) = true
    is_end (Steps b) = false

    whose : Choice → Bool
    whose Choice.Nobody = false
    whose (Ends b) = b
    whose (Steps b) = b

-- the channels from some last one on, the other first
abbrev pub in_turn : Bool → List ℕ → List ℕ
in_turn last [] = []
in_turn last (x ∷ rest) = channel_number (not last) ∷ in_turn (not last) rest

-- whatever number of steps there are
pub turns-alternate : {s : State} {m : Buffers} {channels : List ℕ} (last : Bool) → s.last ≡ last → Turns s m channels → channels ≡ in_turn last channels
turns-alternate last e none = refl
turns-alternate last e (turn {s = s} {m = m} p lines d rest) =
    let a = alternates s m lines p d in
    ap₂ ◌∷◌ (a.0 ∙ ap (λ (x : Bool). channel_number (not x)) e) (turns-alternate (not last) (a.1 ∙ ap not e) rest)

-- a fresh state has channel 2 as the last
pub fresh-last : {s : State} → Fresh s → s.last ≡ true
unfolding fresh_state
fresh-last (made cp) = refl
fresh-last (attended {s = s} f m channel) = (shared_kept s m channel).1 ∙ fresh-last f
