-- What the two loops of a sweep leave: bytes put elsewhere in their buffer, or into another, one after the other in ascending order.
use Rattle.std.specs.Prelude.{List, ℕ, zero, suc, ◌+◌, get_or, set}

-- n bytes of a buffer put elsewhere in it, each read when its turn comes
unfoldable pub shifted : List ℕ → ℕ → ℕ → ℕ → List ℕ
shifted l from into zero = l
shifted l from into (suc n) = set (shifted l from into n) (into + n) (get_or (shifted l from into n) (from + n) 0)

-- n bytes of a buffer put into another
unfoldable pub laid : List ℕ → ℕ → List ℕ → ℕ → ℕ → List ℕ
laid source from target into zero = target
laid source from target into (suc n) = set (laid source from target into n) (into + n) (get_or source (from + n) 0)
