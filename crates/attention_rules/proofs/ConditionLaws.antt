-- What each test of an attention tells: the condition of its check.
-- Assumes nothing.
use Prim.Native.Nat.{ℕ, zero, suc, ◌<◌}
use lib.Dec.{eqb}
use mathlib.Core.Bool.{Bool, true, false, not, ◌&&◌, ◌||◌}
use mathlib.Core.Path.{◌≡◌, refl, sym}
use native.Mathlib.Omega.{arith}
use Rattle.ground_rules.proofs.ConditionLaws.{Told, told-eqb, told-not-eqb, told_and, told-or, told-running, told-not-running, told-suspended}
use Rattle.ground_rules.proofs.OutcomeLaws.{first-right}
use Rattle.ground_rules.specs.Outcomes.{unless, first}
use Rattle.ground_rules.specs.States.{is_channel, is_running, is_suspended}
use Rattle.ground_rules.specs.declared.Mode.{Mode}
use Rattle.attention_rules.specs.Commands.{command_coded, is_known, mode_number, command_number}
use Rattle.attention_rules.specs.declared.Command.{Command}
use Rattle.attention_rules.specs.declared.Command.TheVariants.{Update, StartLocal, StartSystem, Suspend, Resume, Halt, Unknown}
use Rattle.attention_rules.specs.Conditions.{NoChannel, NoCommand, ResumesOther, StartsRunning, SuspendsOther}

-- ---- 12

pub told-channel : (channel : ℕ) → Told (is_channel channel) (NoChannel channel)
unfolding is_channel
told-channel channel = told-or (told-eqb channel 1) (told-eqb channel 2)

-- ---- 6, 7, 8, 9

abbrev pub may_resume : ℕ → Mode → Bool
may_resume n mode = not (eqb n 5) || is_suspended mode

abbrev pub may_start : ℕ → Mode → Bool
may_start n mode = (not (eqb n 1) && not (eqb n 3)) || not (is_running mode)

abbrev pub may_suspend : ℕ → Mode → Bool
may_suspend n mode = not (eqb n 6) || is_running mode

pub told-resume : (n : ℕ) (mode : Mode) → Told (may_resume n mode) (ResumesOther n mode)
told-resume n mode = told-or (told-not-eqb n 5) (told-suspended mode)

pub told-start : (n : ℕ) (mode : Mode) → Told (may_start n mode) (StartsRunning n mode)
told-start n mode = told-or (told_and (told-not-eqb n 1) (told-not-eqb n 3)) (told-not-running mode)

pub told-suspend : (n : ℕ) (mode : Mode) → Told (may_suspend n mode) (SuspendsOther n mode)
told-suspend n mode = told-or (told-not-eqb n 6) (told-running mode)

abbrev pub is_command : ℕ → Bool
is_command n = not (eqb n 2) && not (eqb n 4)

pub told-command : (n : ℕ) → Told (is_command n) (NoCommand n)
told-command n = told_and (told-not-eqb n 2) (told-not-eqb n 4)

-- none of these is 2
unless-else : (ok : Bool) (k : ℕ) → eqb k 2 ≡ false → eqb (unless ok k) 2 ≡ false
unfolding unless
unless-else true k h = refl
unless-else false k h = h

pub never-two : (k : Command) (mode : Mode) → eqb (command_number k mode) 2 ≡ false
unfolding command_number is_known mode_number first unless
never-two Update mode = refl
never-two StartLocal mode = unless-else (not (is_running mode)) 8 refl
never-two StartSystem mode = unless-else (not (is_running mode)) 8 refl
never-two Suspend mode = unless-else (is_running mode) 9 refl
never-two Resume mode = unless-else (is_suspended mode) 7 refl
never-two Halt mode = refl
never-two Unknown mode = refl

-- a command's refusal as a chain of the four
pub command-chain : (n : ℕ) (mode : Mode) → n < 8
    → command_number (command_coded n) mode
    ≡ first (unless (is_command n) 6) (first (unless (may_resume n mode) 7) (first (unless (may_start n mode) 8) (unless (may_suspend n mode) 9)))
unfolding command_number is_known mode_number command_coded unless first
command-chain zero mode h = refl
command-chain (suc zero) mode h = sym (first-right (unless (not (is_running mode)) 8))
command-chain (suc (suc zero)) mode h = refl
command-chain (suc (suc (suc zero))) mode h = sym (first-right (unless (not (is_running mode)) 8))
command-chain (suc (suc (suc (suc zero)))) mode h = refl
command-chain (suc (suc (suc (suc (suc zero))))) mode h = sym (first-right (unless (is_suspended mode) 7))
command-chain (suc (suc (suc (suc (suc (suc zero)))))) mode h = refl
command-chain (suc (suc (suc (suc (suc (suc (suc zero))))))) mode h = refl
command-chain (suc (suc (suc (suc (suc (suc (suc (suc n)))))))) mode h = absurd (omega arith)
