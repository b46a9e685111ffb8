-- How long the list of an attention is: what its command counts.
-- Assumes nothing.
use Prim.Native.Nat.{ℕ}
use borrow.Author.Tests.{eqb-false, eq-eqb}
use lib.ListN.{length}
use mathlib.Core.List.{[], ◌++◌}
use mathlib.Core.Bool.{false}
use mathlib.Core.Path.{◌≡◌, refl, ◌∙◌}
use Rattle.ground_rules.proofs.OutcomeLaws.{settled-number}
use Rattle.ground_rules.specs.Outcomes.{unless, first}
use Rattle.ground_rules.specs.Stages.{stages_touched}
use Rattle.ground_rules.specs.States.{channel_of, is_second}
use Rattle.ground_rules.specs.declared.Mode.{Mode}
use Rattle.ground_rules.specs.declared.State.{State}
use Rattle.ground_rules.specs.Buffers.{Buffers}
use Rattle.ground_rules.specs.Places.{span}
use Rattle.attention_rules.specs.Attention.{order_to, attention_number, attention_of, touched_by_attention}
use Rattle.attention_rules.specs.Commands.{command_number, is_known}
use Rattle.attention_rules.specs.Touched.{read_by, stored_by, others, order_stages, touched_by_order, command_count}
use Rattle.attention_rules.specs.declared.Command.{Command}
use Rattle.attention_rules.specs.declared.Command.TheVariants.{Update, StartLocal, StartSystem, Suspend, Resume, Halt, Unknown}
use Rattle.attention_rules.specs.declared.Order.{Order}
use Rattle.attention_rules.proofs.Outcomes.{passed-command}

command-length : (k : Command) (mode : Mode) (block pb : ℕ) → command_number k mode ≡ 0 → length (span false block 1 ++ ((read_by k block pb ++ stored_by k block pb) ++ [])) ≡ command_count k
unfolding span read_by stored_by command_count command_number is_known first unless
command-length Update mode block pb h = refl
command-length StartLocal mode block pb h = refl
command-length StartSystem mode block pb h = refl
command-length Suspend mode block pb h = refl
command-length Resume mode block pb h = refl
command-length Halt mode block pb h = refl
command-length Unknown mode block pb h = absurd (eqb-false 6 0 refl h)

order-length : (o : Order) (mode : Mode) → command_number o.command mode ≡ 0 → length (touched_by_order o mode) ≡ command_count o.command
unfolding touched_by_order stages_touched order_stages others
order-length o mode h = rw (eq-eqb (command_number o.command mode) 0 h) (command-length o.command mode o.block o.pb h)

module _ (s : State) (m : Buffers) (channel : ℕ) where
  -- the number of an attention, as it leaves it
  pub number-left : (attention_of s m channel).number ≡ attention_number s m channel
  unfolding attention_of
  number-left = settled-number (attention_number s m channel) s m _ _

  -- an accepted attention touches as many bytes as its command counts
  pub touched-length : attention_number s m channel ≡ 0 → length (touched_by_attention s m channel) ≡ command_count (order_to s m (is_second channel)).command
  unfolding touched_by_attention
  touched-length z = order-length (order_to s m (is_second channel)) (channel_of s (is_second channel)).mode (passed-command s m channel (number-left ∙ z))
