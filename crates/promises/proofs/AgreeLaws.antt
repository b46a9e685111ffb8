-- A channel whose fields are those of its CC, so that what is said by fields is said by bits of CC.
-- Assumes nothing.
use Prim.Native.Nat.{ℕ}
use mathlib.Core.Bool.{Bool, true, false}
use mathlib.Core.Path.{◌≡◌, refl, sym, ap, subst}
use Rattle.ground_rules.proofs.ConditionLaws.{Told}
use Rattle.ground_rules.proofs.FieldLaws.{agreed}
use Rattle.ground_rules.specs.Cc.{split}
use Rattle.ground_rules.specs.States.{fields_agree, agree}
use Rattle.ground_rules.specs.declared.Channel.{Channel}
use Rattle.ground_rules.specs.declared.Fields.{Fields}
use Rattle.ground_rules.specs.declared.State.{State}
use Rattle.ground_rules.specs.Buffers.{Buffers}
use Rattle.turn_rules.proofs.OutcomeLaws.{by-step}
use Rattle.turn_rules.proofs.SoundLaws.{entry-agree}
use Rattle.turn_rules.specs.Step.{step_of}

abbrev with : Channel → Fields → Channel
with c fields =
    record {
      ga = c.ga;
      gb = c.gb;
      gc = c.gc;
      tp = c.tp;
      pp = c.pp;
      bc = c.bc;
      ix = c.ix;
      cc = c.cc;
      mc = c.mc;
      psw = c.psw;
      mode = c.mode;
      armed = c.armed;
      fields = fields;
      held = c.held;
    }

-- the channel with its CC taken apart
abbrev pub agreeing : Channel → Channel
agreeing c = with c (split c.cc)

-- what holds of that channel holds of one that agrees
pub by_bits : (P : Channel → Type 0) (c : Channel) → fields_agree c ≡ true → P (agreeing c) → P c
by_bits P c h p = subst P (ap (with c) (sym (agreed c h))) p

-- a test holds where its condition does not apply
pub told-not : {ok : Bool} {A : Type 0} → Told ok A → ¬ A → ok ≡ true
told-not {ok = true} t n = refl
told-not {ok = false} t n = absurd (n (t.fails refl))

-- the state of a done step agrees, since 14 did not refuse it
pub done-agrees : (s : State) (m : Buffers) (lines : ℕ) → (step_of s m lines).number ≡ 0 → agree s ≡ true
done-agrees s m lines =
    by-step s m lines (λ o. o.number ≡ 0 → agree s ≡ true) (λ k ne e. absurd (ne e))
    (λ b z e h. entry-agree s m lines z)
    (λ b z e f h. entry-agree s m lines z)
    (λ b z e f h. entry-agree s m lines z)
