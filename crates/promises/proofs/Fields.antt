-- The fields of CC beside CC: their bits, what calls leave of them, and who changes them.
-- Assumes nothing.
use Prim.Native.Nat.{ℕ, ◌+◌, ◌/◌, ◌%◌}
use mathlib.Core.Bool.{true, false}
use mathlib.Core.List.{[], ◌∷◌}
use mathlib.Core.Path.{◌≡◌, refl, sym, ap, ◌∙◌}
use native.Mathlib.Omega.{arith}
use Rattle.attention_rules.proofs.Numbers.{number-exactly}
use Rattle.attention_rules.proofs.SoundLaws.{attention-agree}
use Rattle.ground_rules.proofs.FieldLaws.{agreed, agree-channel-of, blank-agree, fresh-agree, told-agree}
use Rattle.ground_rules.specs.Cc.{split, same_flag, same_fields}
use Rattle.ground_rules.specs.Outcomes.{Outcome}
use Rattle.ground_rules.specs.Registers.{with_register}
use Rattle.ground_rules.specs.States.{board_with, reset_state, agree}
use Rattle.ground_rules.specs.declared.Channel.{Channel}
use Rattle.ground_rules.specs.declared.State.{State}
use Rattle.attention_rules.proofs.PowerOutcomes.{power-accepted, found-agree}
use Rattle.turn_rules.proofs.SoundLaws.{step-agree}
use Rattle.ground_rules.specs.Bits.{field_of, bit_of}
use Rattle.promises.specs.Fields.{ByBits, told, Agree, FieldsKept}
use Rattle.promises.specs.SheetWords.{bit}
use Rattle.promises.proofs.AgreeLaws.{told-not, done-agrees}
use Rattle.promises.proofs.Demand2.{attention-does, step-does}

-- every bit but the ninth is in a field, TMC's third among them
pub each-told : told (0 ∷ 1 ∷ 2 ∷ 3 ∷ 4 ∷ 5 ∷ 6 ∷ 7 ∷ 8 ∷ 9 ∷ 10 ∷ 11 ∷ 12 ∷ 13 ∷ 14 ∷ 15 ∷ [])
    ≡ true ∷ true ∷ true ∷ true ∷ true ∷ true ∷ true ∷ true ∷ true ∷ false ∷ true ∷ true ∷ true ∷ true ∷ true ∷ true ∷ []
unfolding told split same_fields same_flag field_of bit_of
each-told = refl

by_bits : (cc : ℕ) → ByBits cc (split cc)
unfolding split field_of bit_of
by_bits cc = record {
  destinationMoves = refl;
  sourceMoves = refl;
  translates = refl;
  synchronised = refl;
  sourceIsGB = refl;
  chained = refl;
  singleTransfer = refl;
  externalEnd = refl;
  countEnd = refl;
  matchEnd = refl;
}

-- 512 more, where bit 9 is 0, changes no bit above it and none below it
module _ (cc : ℕ) (e : bit cc 9 ≡ 0) where
  above : (f g : ℕ → ℕ) → ((x : ℕ) → g x ≡ f (x / 1024)) → g (cc + 512) ≡ g cc
  above f g h = let same : (cc + 512) / 1024 ≡ cc / 1024 = omega (arith, e) in h (cc + 512) ∙ ap f same ∙ sym (h cc)

  below : (f g : ℕ → ℕ) → ((x : ℕ) → g x ≡ f (x % 512)) → g (cc + 512) ≡ g cc
  below f g h = let same : (cc + 512) % 512 ≡ cc % 512 = omega arith in h (cc + 512) ∙ ap f same ∙ sym (h cc)

  ninth : split (cc + 512) ≡ split cc
  unfolding split field_of bit_of
  ninth =
      rw (
        above (λ n. n / 32 % 2) (λ x. x / 32768 % 2) (λ x. omega arith),
        above (λ n. n / 16 % 2) (λ x. x / 16384 % 2) (λ x. omega arith),
        above (λ n. n / 8 % 2) (λ x. x / 8192 % 2) (λ x. omega arith),
        above (λ n. n / 2 % 4) (λ x. x / 2048 % 4) (λ x. omega arith),
        above (λ n. n % 2) (λ x. x / 1024 % 2) (λ x. omega arith),
        below (λ n. n / 256 % 2) (λ x. x / 256 % 2) (λ x. omega arith),
        below (λ n. n / 128 % 2) (λ x. x / 128 % 2) (λ x. omega arith),
        below (λ n. n / 32 % 4) (λ x. x / 32 % 4) (λ x. omega arith),
        below (λ n. n / 8 % 4) (λ x. x / 8 % 4) (λ x. omega arith),
        below (λ n. n / 1 % 8) (λ x. x / 1 % 8) (λ x. omega arith),
      )

-- a state that agrees by its test does by its fields
each : (s : State) → agree s ≡ true → Agree s
each s h second = agreed _ (agree-channel-of s second h)

pub fields-kept : FieldsKept
unfolding reset_state with_register
fields-kept = record {
  bits = by_bits;
  ninth = ninth;
  fresh = λ cp. each _ (fresh-agree cp);
  reset = each reset_state (blank-agree 0 (board_with false false false false));
  power = λ s m e. each _ (ap (λ (o : Outcome). agree o.state) (power-accepted s m e) ∙ found-agree m);
  attention = λ s m channel e. each _ (attention-agree s m channel (told-not (told-agree s) ((number-exactly s m channel 0).0 e).1.1.1.1.0));
  step = λ s m lines e. each _ (step-agree s m lines (done-agrees s m lines e));
  other_attended = λ s m channel second e. ap (λ (c : Channel). c.fields) ((attention-does s m channel).other second e);
  other_stepped = λ s m lines second e. ap (λ (c : Channel). c.fields) ((step-does s m lines).other second e);
  same_control = λ s m lines second e same.
      let h = done-agrees s m lines e in
      each _ (step-agree s m lines h) second ∙ ap split same ∙ sym (each s h second);
  renews = λ c v tag. refl;
  leaves = λ c r v tag ne. rw ne;
}
