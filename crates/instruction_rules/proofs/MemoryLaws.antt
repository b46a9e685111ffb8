-- What an instruction leaves of memory: every byte that it does not store to, and the lengths.
-- Assumes nothing.
use Rattle.std.proofs.Common.{Ok}
use Prim.Native.Nat.{ℕ}
use lib.Dec.{ltb, eqb}
use lib.ListN.{length}
use mathlib.Core.Bool.{Bool}
use mathlib.Core.List.{List, [], ◌∷◌, ◌++◌}
use mathlib.Core.Path.{◌≡◌, refl, sym, ap, subst, ◌∙◌}
use Rattle.instruction_rules.specs.Decoded.{Decoded}
use Rattle.instruction_rules.specs.declared.Shape.{Shape}
use Rattle.ground_rules.specs.Stages.{stages_touched}
use Rattle.ground_rules.specs.declared.Channel.{Channel}
use Rattle.ground_rules.proofs.SpanLaws.{apart-right}
use Rattle.ground_rules.specs.Buffers.{Buffers, space_of, index_of, lent_at, byte_at}
use Rattle.ground_rules.specs.Places.{Place, ApartFrom}
use Rattle.ground_rules.specs.Choice.{pick}
use Rattle.instruction_rules.proofs.ChangeLaws.{change-length, change-other}
use Rattle.instruction_rules.specs.Changes.{places_of}
use Rattle.instruction_rules.specs.Operands.{bytes_at}
use Rattle.instruction_rules.specs.Execute.{decoded_at, deed_of, later_bytes, later_from, deed_from, stages_from, instruction_stages, execute_number, touched_by_instruction, execute_of}
use Rattle.instruction_rules.specs.Kept.{deed_at}
use Rattle.instruction_rules.proofs.OutcomeLaws.{by_number, second-passed}

-- a byte apart from the places of two lists is apart from those of the first
apart-left : (ps qs : List Place) (u : Bool) (b : ℕ) → ApartFrom (ps ++ qs) u b → ApartFrom ps u b
apart-left [] qs u b h = tt
apart-left (p ∷ ps) qs u b h = (h.0, apart-left ps qs u b h.1)

module _ (c : Channel) (busy : ℕ) (m : Buffers) where
  -- an instruction changes no length
  pub lengths-kept : (u : Bool) → length (space_of (execute_of c busy m).memory u) ≡ length (space_of m u)
  lengths-kept u =
      by_number c busy m (λ o. length (space_of o.memory u) ≡ length (space_of m u))
      (λ n ne. refl)
      (λ s e z. change-length m (deed_of s m c busy).change u)

  -- and so takes nothing that is lent
  pub lent-kept : (u : Bool) (b : ℕ) → lent_at (execute_of c busy m).memory u b ≡ lent_at m u b
  unfolding lent_at
  lent-kept u b = ap (λ (n : ℕ). ltb (index_of u b) n) (lengths-kept u)

  -- every byte apart from each place that its change stores to is as it was
  pub bytes-kept : (u : Bool) (b : ℕ) → ApartFrom (places_of (deed_at m c busy).change) u b → byte_at (execute_of c busy m).memory u b ≡ byte_at m u b
  unfolding deed_from
  bytes-kept u b h =
      by_number c busy m (λ o. byte_at o.memory u b ≡ byte_at m u b)
      (λ n ne. refl)
      (λ s e z. change-other m (deed_of s m c busy).change u b (subst (λ (d : Decoded). ApartFrom (places_of (deed_from d m c busy).change) u b) e h))

  -- a done instruction stores to places that it touches
  second-zero : (s : Shape) → decoded_at m c.tp ≡ Ok s → execute_number m c busy ≡ 0 → (deed_of s m c busy).second ≡ 0
  unfolding deed_from
  second-zero s e z = ap (λ (d : Decoded). (deed_from d m c busy).second) (sym e) ∙ second-passed c busy m z

  stores-touched : (u : Bool) (b : ℕ) (s : Shape) → ApartFrom (stages_touched (stages_from (Ok s) m c busy)) u b → (deed_of s m c busy).second ≡ 0 → ApartFrom (places_of (deed_of s m c busy).change) u b
  unfolding stages_touched stages_from later_from deed_from
  stores-touched u b s k z =
      let d = deed_of s m c busy in
      let later : ApartFrom (later_bytes s c ++ pick (eqb d.second 0) ((d.reads ++ places_of d.change) ++ []) []) u b = apart-right (bytes_at c.tp 2) _ u b k in
      let both : ApartFrom ((d.reads ++ places_of d.change) ++ []) u b = rw z at (apart-right (later_bytes s c) _ u b later) in
      apart-right d.reads (places_of d.change) u b (apart-left (d.reads ++ places_of d.change) [] u b both)

  -- and so is every byte apart from all that it touches
  pub untouched-kept : (u : Bool) (b : ℕ) → ApartFrom (touched_by_instruction m c busy) u b → byte_at (execute_of c busy m).memory u b ≡ byte_at m u b
  unfolding touched_by_instruction instruction_stages
  untouched-kept u b h =
      by_number c busy m (λ o. byte_at o.memory u b ≡ byte_at m u b)
      (λ n ne. refl)
      (λ s e z. change-other m (deed_of s m c busy).change u b (stores-touched u b s (rw e at h) (second-zero s e z)))
