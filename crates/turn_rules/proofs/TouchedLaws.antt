-- What a step leaves of memory: every byte outside the places it touches is as it was, and no length changes.
-- Assumes nothing.
use Prim.Native.Nat.{ℕ}
use lib.ListN.{length}
use mathlib.Core.Bool.{Bool}
use mathlib.Core.Path.{◌≡◌, refl}
use Rattle.instruction_rules.proofs.MemoryLaws.{untouched-kept as executed-kept, lengths-kept as executed-lengths}
use Rattle.ground_rules.specs.States.{channel_of, block_of, busy_in}
use Rattle.ground_rules.specs.declared.State.{State}
use Rattle.ground_rules.specs.Buffers.{Buffers, space_of, byte_at}
use Rattle.ground_rules.specs.Places.{ApartFrom}
use Rattle.transfer_rules.proofs.KeptLaws.{bytes-kept as moved-kept, lengths-kept as moved-lengths}
use Rattle.turn_rules.specs.Step.{step_of}
use Rattle.turn_rules.specs.Touched.{touched_in, touched_by_step}
use Rattle.turn_rules.proofs.OutcomeLaws.{by-step}

-- every byte outside the touched places is as it was
pub bytes-kept : (s : State) (m : Buffers) (lines : ℕ) (u : Bool) (b : ℕ) → ApartFrom (touched_by_step s m lines) u b → byte_at (step_of s m lines).memory u b ≡ byte_at m u b
unfolding touched_by_step touched_in
bytes-kept s m lines u b h =
    by-step s m lines (λ o. byte_at o.memory u b ≡ byte_at m u b) (λ k ne. refl) (λ a z e. refl)
    (λ a z e f. moved-kept (channel_of s a) m u b (rw (e, f) at h))
    (λ a z e f. executed-kept (channel_of s a) (busy_in (block_of s a)) m u b (rw (e, f) at h))

-- no step changes a length
pub lengths-kept : (s : State) (m : Buffers) (lines : ℕ) (u : Bool) → length (space_of (step_of s m lines).memory u) ≡ length (space_of m u)
lengths-kept s m lines u =
    by-step s m lines (λ o. length (space_of o.memory u) ≡ length (space_of m u)) (λ k ne. refl) (λ a z e. refl)
    (λ a z e f. moved-lengths (channel_of s a) m u)
    (λ a z e f. executed-lengths (channel_of s a) (busy_in (block_of s a)) m u)
