-- A constant is worth the sum of its digits, each times a power of its radix, mod 65,536.
-- Assumes nothing.
use mathlib.Core.Path.{◌≡◌, refl, sym, ap, ◌∙◌}
use mathlib.Core.Bool.{Bool, true, false, ◌&&◌, ◌||◌, false≢true}
use mathlib.Core.List.{List, [], ◌∷◌, ◌++◌}
use Prim.Native.Nat.{ℕ, ◌+◌, ◌*◌, ◌/◌, ◌%◌, ◌<◌, ◌^◌}
use native.Mathlib.Nat.{div-add-mod', add-mul, add_assoc, mul_assoc, mul_comm, mul-add-mod_self_right, mul-one, add-zero, mod-eq_of_lt, mod-lt, pow-zero, pow-suc, zero-mul, zero-add}
use borrow.Author.Tests.{eqb-false}
use lib.Dec.{eqb, ltb, lit<}
use lib.ListN.{length}
use Rattle.ground_rules.specs.Choice.{pick}
use Rattle.std.specs.declared.option.Option.TheVariants.{None, Some}
use Rattle.assembly_rules.specs.Numbers.{digit_value, is_radix, radix_of, last_of, but_last, digits_from, constant_digits, constant_of}
use Rattle.assembly_rules.proofs.WritingLaws.{both_left, both_right}

-- whether all digits are below a radix
unfoldable pub all_below : ℕ → List ℕ → Bool
all_below radix [] = true
all_below radix (c ∷ cs) = ltb (digit_value c) radix && all_below radix cs

-- the value of digits in a radix, in whole numbers: each digit times the power of its place
unfoldable pub place_value : ℕ → List ℕ → ℕ
place_value radix [] = 0
place_value radix (c ∷ cs) = digit_value c * radix ^ length cs + place_value radix cs

times_mod : (x k p : ℕ) → (x % 65536 * k + p) % 65536 ≡ (x * k + p) % 65536
times_mod x k p =
    let q = x / 65536 in
    let r = x % 65536 in
    let e : x ≡ q * 65536 + r = sym (div-add-mod' x 65536) in
    let f : x * k + p ≡ q * k * 65536 + (r * k + p) =
    ap (λ (y : ℕ). y * k + p) e ∙ ap (λ (y : ℕ). y + p) (add-mul (q * 65536) r k) ∙ add_assoc (q * 65536 * k) (r * k) p
    ∙ ap (λ (y : ℕ). y + (r * k + p)) (mul_assoc q 65536 k ∙ ap (λ (y : ℕ). q * y) (mul_comm 65536 k) ∙ sym (mul_assoc q k 65536)) in
    sym (ap (λ (y : ℕ). y % 65536) f ∙ mul-add-mod_self_right (q * k) 65536 (r * k + p))

-- one more digit moves those before it up a place
place_up : (v r d e p : ℕ) → (v * r + d) * e + p ≡ v * (e * r) + (d * e + p)
place_up v r d e p =
    ap (λ (y : ℕ). y + p) (add-mul (v * r) d e) ∙ add_assoc (v * r * e) (d * e) p
    ∙ ap (λ (y : ℕ). y + (d * e + p)) (mul_assoc v r e ∙ ap (λ (y : ℕ). v * y) (mul_comm r e))

digits-worth : (radix v : ℕ) (cs : List ℕ) → v < 65536 → all_below radix cs ≡ true → digits_from radix v cs ≡ Some ((v * radix ^ length cs + place_value radix cs) % 65536)
unfolding digits_from all_below place_value
digits-worth radix v [] h k = ap Some (sym (ap (λ (y : ℕ). y % 65536) (add-zero (v * radix ^ 0) ∙ ap (λ (y : ℕ). v * y) (pow-zero radix) ∙ mul-one v) ∙ mod-eq_of_lt h))
digits-worth radix v (c ∷ cs) h k =
    let d = digit_value c in
    let e = radix ^ length cs in
    let p = place_value radix cs in
    let here = both_left (ltb d radix) (all_below radix cs) k in
    let later = digits-worth radix ((v * radix + d) % 65536) cs (mod-lt (v * radix + d) (lit< tt)) (both_right (ltb d radix) (all_below radix cs) k) in
    rw here (later ∙ ap Some (times_mod (v * radix + d) e p ∙ ap (λ (y : ℕ). y % 65536) (place_up v radix d e p ∙ ap (λ (y : ℕ). v * y + (d * e + p)) (sym (pow-suc radix (length cs))))))

digits-none : (radix v : ℕ) (cs : List ℕ) → all_below radix cs ≡ false → digits_from radix v cs ≡ None
unfolding digits_from all_below
digits-none radix v [] k = absurd (false≢true (sym k))
digits-none radix v (c ∷ cs) k = go (ltb (digit_value c) radix) (digits-none radix ((v * radix + digit_value c) % 65536) cs) k
  where
    go : (b : Bool) → (all_below radix cs ≡ false → digits_from radix ((v * radix + digit_value c) % 65536) cs ≡ None) → b && all_below radix cs ≡ false → pick b (digits_from radix ((v * radix + digit_value c) % 65536) cs) None ≡ None
    go true later t = later t
    go false later t = refl

-- a run is a constant exactly where its digits are below the radix that its last character tells, and then worth their value mod 65,536
pub constant-worth : (r : List ℕ) → all_below (radix_of (last_of r)) (constant_digits r) ≡ true → constant_of r ≡ Some (place_value (radix_of (last_of r)) (constant_digits r) % 65536)
unfolding constant_of
constant-worth r h = digits-worth (radix_of (last_of r)) 0 (constant_digits r) (lit< tt) h ∙ ap (λ (y : ℕ). Some ((y + place_value (radix_of (last_of r)) (constant_digits r)) % 65536)) (zero-mul (radix_of (last_of r) ^ length (constant_digits r))) ∙ ap (λ (y : ℕ). Some (y % 65536)) (zero-add (place_value (radix_of (last_of r)) (constant_digits r)))

pub constant-none : (r : List ℕ) → all_below (radix_of (last_of r)) (constant_digits r) ≡ false → constant_of r ≡ None
unfolding constant_of
constant-none r h = digits-none (radix_of (last_of r)) 0 (constant_digits r) h

-- digits and a letter behind them
last-behind : (ds : List ℕ) (c : ℕ) → (last_of (ds ++ (c ∷ [])) ≡ c) × (but_last (ds ++ (c ∷ [])) ≡ ds)
unfolding last_of but_last
last-behind [] c = (refl, refl)
last-behind (d ∷ []) c = (refl, refl)
last-behind (d ∷ e ∷ ds) c = let later = last-behind (e ∷ ds) c in (later.0, ap (λ (x : List ℕ). d ∷ x) later.1)

digits-lettered : (r : List ℕ) → is_radix (last_of r) ≡ true → constant_digits r ≡ but_last r
unfolding constant_digits
digits-lettered r e = rw e

digits-plain : (r : List ℕ) → is_radix (last_of r) ≡ false → constant_digits r ≡ r
unfolding constant_digits
digits-plain r e = rw e

pub radix-plain : (c : ℕ) → is_radix c ≡ false → radix_of c ≡ 10
unfolding radix_of is_radix
radix-plain c h = go (eqb c 66) (eqb c 79) (eqb c 81) (eqb c 68) (eqb c 72) h
  where
    go : (a b d e f : Bool) → a || (b || (d || (e || f))) ≡ false → ◌≡◌ {A = ℕ} (pick a 2 (pick (b || d) 8 (pick f 16 10))) 10
    go true b d e f t = absurd (false≢true (sym t))
    go false true d e f t = absurd (false≢true (sym t))
    go false false true e f t = absurd (false≢true (sym t))
    go false false false true f t = absurd (false≢true (sym t))
    go false false false false true t = absurd (false≢true (sym t))
    go false false false false false t = refl

-- so digits with a letter are read in its radix: B 2, O and Q 8, D 10, H 16
pub lettered : (ds : List ℕ) (c : ℕ) → is_radix c ≡ true → all_below (radix_of c) ds ≡ true → constant_of (ds ++ (c ∷ [])) ≡ Some (place_value (radix_of c) ds % 65536)
lettered ds c h k =
    let l = last-behind ds c in
    let d : constant_digits (ds ++ (c ∷ [])) ≡ ds = digits-lettered (ds ++ (c ∷ [])) (ap is_radix l.0 ∙ h) ∙ l.1 in
    constant-worth (ds ++ (c ∷ [])) (rw (l.0, d) k) ∙ rw (l.0, d)

pub radixes : (radix_of 66 ≡ 2) × (radix_of 79 ≡ 8) × (radix_of 81 ≡ 8) × (radix_of 68 ≡ 10) × (radix_of 72 ≡ 16)
unfolding radix_of
radixes = (refl, refl, refl, refl, refl)

-- and digits without a letter in ten
pub plain-decimal : (r : List ℕ) → is_radix (last_of r) ≡ false → all_below 10 r ≡ true → constant_of r ≡ Some (place_value 10 r % 65536)
plain-decimal r h k =
    let d = digits-plain r h in
    let e = radix-plain (last_of r) h in
    constant-worth r (rw (d, e) k) ∙ rw (d, e)

value_same : {a b : ℕ} → Some a ≡ Some b → a ≡ b
value_same e = cc

no_value : {A : Type 0} {b : ℕ} → None ≡ Some b → A
no_value e = let z : ◌≡◌ {A = ℕ} 0 1 = cc in absurd (eqb-false 0 1 refl z)

small-from : (radix u : ℕ) (cs : List ℕ) → u < 65536 → (v : ℕ) → digits_from radix u cs ≡ Some v → v < 65536
unfolding digits_from
small-from radix u [] h v e = rw (← (value_same e)) h
small-from radix u (c ∷ cs) h v e = go (ltb (digit_value c) radix) (small-from radix ((u * radix + digit_value c) % 65536) cs (mod-lt (u * radix + digit_value c) (lit< tt)) v) e
  where
    go : (b : Bool) → (digits_from radix ((u * radix + digit_value c) % 65536) cs ≡ Some v → v < 65536) → pick b (digits_from radix ((u * radix + digit_value c) % 65536) cs) None ≡ Some v → v < 65536
    go true k t = k t
    go false k t = no_value t

-- a constant is below 65,536
pub constant-small : (r : List ℕ) (v : ℕ) → constant_of r ≡ Some v → v < 65536
unfolding constant_of
constant-small r v e = small-from (radix_of (last_of r)) 0 (constant_digits r) (lit< tt) v e
