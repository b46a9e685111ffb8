-- What is said of an image holds of the first bytes that were left, where these are what was read.
use Rattle.std.proofs.Common.{◌≡◌, ℕ, List, take, None, Some, Option, IfSome, Result, Ok, Err, IfOk, OnOk, ap, ◌∙◌, subst}

-- of any fact
first-bytes : (known : Option (List ℕ)) (P : List ℕ → Type 0) (image : List ℕ) (long most : ℕ) → long ≡ most → IfSome known (λ left. image ≡ take long left) → P image
    → IfSome known (λ left. P (take most left))
first-bytes None P image long most limited read h = tt
first-bytes (Some left) P image long most limited read h = subst P (read ∙ ap (λ n. take n left) limited) h

-- of a fact at an answer that is none of an error's
pub first_text : {A E : Type 0} (r : Result A E) (known : Option (List ℕ)) (P : List ℕ → Type 0) (image : List ℕ) (long most : ℕ) → long ≡ most
    → IfSome known (λ left. image ≡ take long left) → OnOk r (P image) → OnOk r (IfSome known (λ left. P (take most left)))
first_text (Ok n) known P image long most limited read h = first-bytes known P image long most limited read h
first_text (Err e) known P image long most limited read h = tt

-- of the number of what is answered
pub first_number : {A E : Type 0} (r : Result A E) (known : Option (List ℕ)) (n : A → ℕ) (f : List ℕ → ℕ) (image : List ℕ) (long most : ℕ) → long ≡ most
    → IfSome known (λ left. image ≡ take long left) → IfOk r (λ a. n a ≡ f image) → IfOk r (λ a. IfSome known (λ left. n a ≡ f (take most left)))
first_number (Ok a) known n f image long most limited read h = first-bytes known (λ l. n a ≡ f l) image long most limited read h
first_number (Err e) known n f image long most limited read h = tt
