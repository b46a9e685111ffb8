-- Places, a space and an address each: which bytes a call touches is a list of them.
use Rattle.std.specs.Prelude.{Bool, true, ◌&&◌, List, [], ◌∷◌, ◌≡◌, ℕ, zero, suc, ◌+◌}
use Rattle.ground_rules.specs.Buffers.{Buffers, index_of, lent_at, touchable_at}

-- one byte's place
pub record Place : Type 0 where
  pub tag : Bool
  pub address : ℕ

-- the places of n bytes in a row
unfoldable pub span : Bool → ℕ → ℕ → List Place
span tag address zero = []
span tag address (suc n) = record { tag = tag; address = address } ∷ span tag (address + 1) n

-- every place of a list passes a test of tag and address
unfoldable pub all_pass : (Bool → ℕ → Bool) → List Place → Bool
all_pass test [] = true
all_pass test (p ∷ ps) = test p.tag p.address && all_pass test ps

-- every byte of a list is lent
abbrev pub all_lent : Buffers → List Place → Bool
all_lent m ps = all_pass (lent_at m) ps

-- every byte of a list may be touched (else 2)
abbrev pub all_touchable : Buffers → List Place → Bool
all_touchable m ps = all_pass (touchable_at m) ps

-- two places that are different bytes
abbrev pub Apart : Bool → ℕ → Bool → ℕ → Type 0
Apart t a u b = t ≡ u → index_of t a ≡ index_of u b → ⊥

-- a byte that is none of some places
abbrev pub ApartFrom : List Place → Bool → ℕ → Type 0
ApartFrom [] tag address = Unit {0}
ApartFrom (p ∷ ps) tag address = Apart p.tag p.address tag address × ApartFrom ps tag address
