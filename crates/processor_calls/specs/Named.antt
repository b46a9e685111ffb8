-- A call that is made on the processor named, as a closure gives it.
use Rattle.std.specs.Prelude.{ℕ, List, ◌≡◌}
use Rattle.std.specs.Fn.{Once}
use Rattle.std.specs.Borrow.{MutBor}
use Rattle.ground_rules.specs.Buffers.{Buffers, buffers}
use Rattle.processor_rules.specs.Lifting.{Called, called_with}

-- what is lent to such a call: a state's bytes, system memory and I/O memory
abbrev pub LentThree : Type 0
LentThree = MutBor (List ℕ) × (MutBor (List ℕ) × (MutBor (List ℕ) × Unit {0}))

-- whatever the call is given, it gives what the single call does
abbrev pub MakesCall : {F A : Type 0} → Once F LentThree (A × LentThree) → F → (List ℕ → Buffers → Called (List ℕ) A) → Type 0
MakesCall {F} {A} g f single =
    (x y : LentThree) (r : A) → g.post f x (r, y) → called_with r y.0.now (buffers y.1.0.now y.1.1.0.now) ≡ single x.0.now (buffers x.1.0.now x.1.1.0.now)
