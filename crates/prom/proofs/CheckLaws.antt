-- The laws of a frame's check: which number each of its answers has.
-- Assumes nothing.
use Prim.Native.Nat.{ℕ, ◌+◌, ◌*◌, ◌%◌, ◌≤◌}
use borrow.Author.Tests.{eq-eqb, ne_eqb}
use lib.Dec.{eqb}
use lib.ListN.{length, get_or}
use mathlib.Core.Bool.{Bool, true, false}
use mathlib.Core.List.{List, ◌∷◌}
use mathlib.Core.Path.{◌≡◌, refl, sym, ap, subst, ◌∙◌}
use native.Mathlib.Omega.{arith}
use Rattle.std.proofs.Common.{rules}
use Rattle.std.specs.Prelude.{Option, Some, None, Result, Ok, Err}
use Rattle.std.specs.Result.{IsOk, IsErrAnd, MatchResult}
use Rattle.ground_rules.proofs.ChoiceLaws.{apart}
use Rattle.ground_rules.specs.Choice.{pick}
use Rattle.prom_rules.specs.Records.{all_hex, hex_bytes, hex_size, type_of, fits_type, sum_of, line_refusal}
use Rattle.ground_rules.specs.Buffers.{Buffers}
use Rattle.prom_rules.specs.Load.{loading}
use Rattle.prom.specs.Refusals.{reason_number, loading_by}
use Rattle.prom.specs.Parts.{sum_in, type_number}
use Rattle.prom.specs.declared.records.RecordKind.{RecordKind}
use Rattle.prom.specs.declared.refusals.LoadRefusal.{LoadRefusal}
use Rattle.prom.specs.declared.refusals.Reason.{Reason}
use Rattle.prom.specs.declared.refusals.Reason.TheVariants.{WrongType}
use Rattle.prom.proofs.FrameLaws.{no-digits, digits-judged}
use Rattle.prom.proofs.RecordLaws.{record-known}

-- what the number of a type is answered
abbrev pub Told : ℕ → Result RecordKind Reason → Type 0
Told n r = MatchResult r (λ kind. type_number kind ≡ n) (λ why. (4 ≤ n) × (why ≡ WrongType))

-- a number over 3 is no type
unfit : (n size : ℕ) → 4 ≤ n → fits_type n size ≡ false
unfolding fits_type
unfit n size h = rw (ne_eqb n 0 (λ e. omega (arith, h, e)), ne_eqb n 1 (λ e. omega (arith, h, e)), ne_eqb n 2 (λ e. omega (arith, h, e)), ne_eqb n 3 (λ e. omega (arith, h, e)))

module _ (ds : List ℕ) where
  -- a good record has a type
  pub kind-fits : line_refusal (58 ∷ ds) ≡ 0 → (n : ℕ) → n ≡ get_or (hex_bytes ds) 3 0 → (r : Result RecordKind Reason) → Told n r → IsOk r
  unfolding type_of
  kind-fits e n q (Ok kind) h = search rules
  kind-fits e n q (Err why) h =
      apart (sym (record-known ds e) ∙ ap (λ (k : ℕ). fits_type k (hex_size (hex_bytes ds))) (sym q) ∙ unfit n (hex_size (hex_bytes ds)) h.0)

  -- which is its own
  pub kind-typed : (n : ℕ) → n ≡ get_or (hex_bytes ds) 3 0 → (r : Result RecordKind Reason) → Told n r → (kind : RecordKind) → r ≡ Ok kind → type_number kind ≡ type_of (hex_bytes ds)
  unfolding type_of
  kind-typed n q r h kind e = let told : type_number kind ≡ n = subst (Told n) e h in told ∙ q

  -- not all are digits
  pub check-none : None ≡ sum_in 0 ds → 20 ≡ line_refusal (58 ∷ ds)
  unfolding sum_in
  check-none e = go (all_hex ds) refl e
    where
      go : (x : Bool) → all_hex ds ≡ x → ◌≡◌ {A = Option ℕ} None (pick x (Some ((0 + sum_of (hex_bytes ds)) % 256)) None) → 20 ≡ line_refusal (58 ∷ ds)
      go true h e = absurd (let z : ◌≡◌ {A = Option ℕ} None (Some ((0 + sum_of (hex_bytes ds)) % 256)) = e in cc)
      go false h e = sym (no-digits ds h)

  -- all are, and that is the sum
  pub check-some : (s : ℕ) → Some s ≡ sum_in 0 ds → (all_hex ds ≡ true) × (s ≡ sum_of (hex_bytes ds) % 256)
  unfolding sum_in
  check-some s e = go (all_hex ds) refl e
    where
      go : (x : Bool) → all_hex ds ≡ x → ◌≡◌ {A = Option ℕ} (Some s) (pick x (Some ((0 + sum_of (hex_bytes ds)) % 256)) None) → (all_hex ds ≡ true) × (s ≡ sum_of (hex_bytes ds) % 256)
      go true h e = let z : ◌≡◌ {A = Option ℕ} (Some s) (Some ((0 + sum_of (hex_bytes ds)) % 256)) = e in let k : s ≡ (0 + sum_of (hex_bytes ds)) % 256 = cc in (h, omega (arith, k))
      go false h e = absurd (let z : ◌≡◌ {A = Option ℕ} (Some s) None = e in cc)

  module _ (long : length ds ≡ 2 * (hex_size (hex_bytes ds) + 5)) (s : ℕ) (e : Some s ≡ sum_in 0 ds) where
    judged : line_refusal (58 ∷ ds) ≡ pick (eqb s 0) (pick (fits_type (type_of (hex_bytes ds)) (hex_size (hex_bytes ds))) 0 22) 21
    judged = digits-judged ds (check-some s e).0 long ∙ rw (check-some s e).1

    pub check-sum : (s ≡ 0 → ⊥) → 21 ≡ line_refusal (58 ∷ ds)
    check-sum ne = sym (judged ∙ rw (ne_eqb s 0 ne))

    module _ (z : s ≡ 0) where
      typed : line_refusal (58 ∷ ds) ≡ pick (fits_type (type_of (hex_bytes ds)) (hex_size (hex_bytes ds))) 0 22
      typed = judged ∙ rw (eq-eqb s 0 z)

      -- a type over 3
      pub check-type : 4 ≤ get_or (hex_bytes ds) 3 0 → 22 ≡ line_refusal (58 ∷ ds)
      unfolding type_of
      check-type h = sym (typed ∙ rw (unfit (get_or (hex_bytes ds) 3 0) (hex_size (hex_bytes ds)) h))

      -- a length that fits the type, or not
      pub check-size : (k size : ℕ) (ok : Bool) → k ≡ get_or (hex_bytes ds) 3 0 → size ≡ get_or (hex_bytes ds) 0 0 → ok ≡ fits_type k size → pick ok 0 22 ≡ line_refusal (58 ∷ ds)
      unfolding type_of hex_size
      check-size k size ok p q h = sym (typed ∙ rw (sym p, sym q, sym h))

-- what a `?` hands on is its error
pub handed-on : {A : Type 0} (r : Result A LoadRefusal) (refused : LoadRefusal) (P : A → Type 0) (Q : LoadRefusal → Type 0) → IsErrAnd r (λ e. e ≡ refused) → Q refused → MatchResult r P Q
handed-on (Ok a) refused P Q h q = absurd h
handed-on (Err e) refused P Q h q = subst Q (sym h) q

pub handed-loaded : (r : Result ℕ LoadRefusal) (refused : LoadRefusal) (m : Buffers) → IsErrAnd r (λ e. e ≡ refused) → loading_by r m ≡ loading (reason_number refused.why) 0 refused.line m
handed-loaded (Ok start) refused m h = absurd h
handed-loaded (Err e) refused m h = ap (λ (d : LoadRefusal). loading (reason_number d.why) 0 d.line m) h
