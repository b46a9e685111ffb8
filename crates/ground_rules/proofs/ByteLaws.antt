-- Memory of bytes: two buffers of bytes are such, and what is of bytes stays so where bytes are stored.
-- Assumes nothing.
use Prim.Native.Nat.{ℕ, zero, suc, ◌+◌, ◌<◌}
use lib.ListN.{get_or, set}
use mathlib.Core.Bool.{Bool, true, false}
use mathlib.Core.List.{List, [], ◌∷◌}
use native.Mathlib.Omega.{arith}
use Rattle.ground_rules.specs.Buffers.{Buffers, buffers, space_of, index_of, beyond_in, byte_at, AllBytes, store_byte}
use Rattle.ground_rules.specs.Stored.{stored_high}
use Rattle.ground_rules.specs.Values.{store_pointer}
use Rattle.ground_rules.specs.declared.Pointer.{Pointer}

-- every read of two buffers of bytes gives a byte, past their ends too
pub all-bytes : (sys io : List ℕ) → ((i : ℕ) → get_or sys i 0 < 256) → ((i : ℕ) → get_or io i 0 < 256) → AllBytes (buffers sys io)
unfolding byte_at space_of beyond_in
all-bytes sys io h k true a = read io k (index_of true a)
  where
    read : (l : List ℕ) → ((i : ℕ) → get_or l i 0 < 256) → (i : ℕ) → get_or l i 255 < 256
    read [] f i = omega arith
    read (x ∷ l) f zero = f 0
    read (x ∷ l) f (suc j) = read l (λ k. f (suc k)) j
all-bytes sys io h k false a = h (index_of false a)

-- a list that gives a byte at a place still does after a byte is put somewhere
set-small : (l : List ℕ) (i j v d : ℕ) → v < 256 → get_or l j d < 256 → get_or (set l i v) j d < 256
set-small [] i j v d small h = h
set-small (x ∷ l) zero zero v d small h = small
set-small (x ∷ l) zero (suc j) v d small h = h
set-small (x ∷ l) (suc i) zero v d small h = h
set-small (x ∷ l) (suc i) (suc j) v d small h = set-small l i j v d small h

-- so memory of bytes is such after the store of a byte
pub store_bytes : (m : Buffers) (t : Bool) (a v : ℕ) → AllBytes m → v < 256 → AllBytes (store_byte m t a v)
unfolding byte_at space_of store_byte
store_bytes m true a v all small true b = set-small m.io (index_of true a) (index_of true b) v (beyond_in true) small (all true b)
store_bytes m true a v all small false b = all false b
store_bytes m false a v all small true b = all true b
store_bytes m false a v all small false b = set-small m.sys (index_of false a) (index_of false b) v (beyond_in false) small (all false b)

-- and of a pointer, whose three bytes are bytes
pub stored_bytes : (m : Buffers) (t : Bool) (a : ℕ) (p : Pointer) → AllBytes m → AllBytes (store_pointer m t a p)
unfolding store_pointer
stored_bytes m t a p all =
    store_bytes _ t (a + 2) (stored_high p.address p.tag) (store_bytes _ t (a + 1) _ (store_bytes m t a _ all (omega arith)) (omega arith)) (high p.tag)
  where
    high : (tag : Bool) → stored_high p.address tag < 256
    high true = omega arith
    high false = omega arith
