-- A pointer register that was written holds what was written.
-- Assumes nothing.
use Prim.Native.Nat.{ℕ, ◌%◌}
use mathlib.Core.Bool.{Bool}
use mathlib.Core.Logic.{⊎_elim}
use mathlib.Core.Path.{◌≡◌, refl}
use Rattle.ground_rules.specs.Registers.{by_rrr, register_of, tag_of, with_register}
use Rattle.ground_rules.specs.declared.Channel.{Channel}
use Rattle.instruction_rules.specs.Kept.{IsPointer}

-- a pointer register that was written holds 20 bits of the value, and the tag
pub register-written : (c : Channel) (r v : ℕ) (tag : Bool) → IsPointer r → register_of (with_register c r v tag) r ≡ v % 1048576
unfolding register_of by_rrr with_register
register-written c r v tag = ⊎_elim (λ e. rw e refl) (⊎_elim (λ e. rw e refl) (⊎_elim (λ e. rw e refl) (λ e. rw e refl)))

pub tag-written : (c : Channel) (r v : ℕ) (tag : Bool) → IsPointer r → tag_of (with_register c r v tag) r ≡ tag
unfolding tag_of by_rrr with_register
tag-written c r v tag = ⊎_elim (λ e. rw e refl) (⊎_elim (λ e. rw e refl) (⊎_elim (λ e. rw e refl) (λ e. rw e refl)))
