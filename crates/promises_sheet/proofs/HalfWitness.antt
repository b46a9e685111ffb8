-- The premises of the halves' theorems can be met, in numbers: two fetches from a device at I/O address 16, two stores to it, and a first store that meets TMC.
-- Assumes nothing.
use Rattle.std.proofs.Common.{None, Some}
use Prim.Native.Nat.{ℕ}
use mathlib.Core.Bool.{Bool, true, false}
use mathlib.Core.Path.{◌≡◌, refl, sym, ap, subst}
use Rattle.ground_rules.specs.Registers.{with_register}
use Rattle.ground_rules.specs.States.{idle_channel, channel_of}
use Rattle.ground_rules.specs.Updates.{holding}
use Rattle.ground_rules.specs.declared.Channel.{Channel}
use Rattle.ground_rules.specs.declared.State.{State}
use Rattle.ground_rules.specs.Buffers.{Buffers}
use Rattle.ground_rules.specs.Values.{pointer}
use Rattle.turn_rules.specs.Choosing.{choice_of}
use Rattle.turn_rules.specs.Step.{Step, stepped, entry_number, step_of}
use Rattle.turn_rules.specs.declared.Choice.TheVariants.{Steps}
use Rattle.turn_rules.specs.declared.Kind.TheVariants.{Transfer}
use Rattle.promises.specs.SheetWords.{bit}
use Rattle.promises_sheet.specs.SheetTransfer.{half_due, Transfers}
use Rattle.promises_sheet.specs.SheetHalves.{Halves}
use Rattle.promises.specs.Witness.{running_with, memory_with, six, memory_start, both_with}
use Rattle.promises.proofs.CallWitness.{step_open}

-- channel 1 beside an idle channel 2, and which of them stepped last
abbrev lone : Channel → Bool → State
lone c last = both_with c idle_channel last

module _ (c : Channel) (m m' : Buffers) (byte : ℕ) where
  -- the channel between the halves: it holds the byte, no other register has changed, and it stepped last
  abbrev between : State
  between = lone (holding c (Some byte)) false

  -- with DRQ up at both calls: a first half that is computed to leave this, and a second that is done, are a pair
  pair : half_due c m ≡ true → c.held ≡ None → bit c.psw 6 ≡ 1 → entry_number (lone c true) m 1 ≡ 0 → choice_of (lone c true) 1 ≡ Steps false
      → step_of (lone c true) m 1 ≡ stepped 0 between m' 1 Transfer → entry_number between m' 1 ≡ 0 → choice_of between 1 ≡ Steps false
      → (step_of between m' 1).number ≡ 0 → Halves false (lone c true) m 1 1
  unfolding channel_of both_with
  pair due free on entered chosen e entered' chosen' done =
      record {
        due = due;
        free = free;
        first = record { turn = record { entered = entered; chosen = chosen }; on = on; done = ap (λ (o : Step). o.number) e };
        byte = byte;
        holds = ap (λ (o : Step). (channel_of o.state false).held) e;
        next =
            subst (λ (o : Step). Transfers false o.state o.memory 1) (sym e)
            (record { turn = record { entered = entered'; chosen = chosen' }; on = on; done = done });
      }

-- ---- SYN 01, from the device: CC 8810h (the destination moves on, TBC 10), PSW 45h (the destination alone is 16 bits wide)

-- four bytes of the device are to go to system address 8
abbrev fetching : Channel
fetching = running_with (pointer 16 true) (pointer 8 false) 256 4 0x8810 0x45

-- the device has a 7
abbrev offered : Buffers
offered = memory_with (six 0 0 0 0 0) (six 7 0 0 0 0)

-- the first fetch holds the 7 and stores nothing, and the second is done
pub fetches-met : Halves false (lone fetching true) offered 1 1
unfolding step_open idle_channel
fetches-met = pair fetching offered offered 7 refl refl refl refl refl refl refl refl refl

-- ---- SYN 10, to the device: CC 5010h (the source moves on, TBC 10, TMC off), PSW 46h (the source alone is 16 bits wide)

-- four bytes from system address 0 are to go to the device
abbrev storing : Channel
storing = running_with (pointer 0 false) (pointer 16 true) 256 4 0x5010 0x46

-- the device got the first byte, a 1
abbrev taken : Buffers
taken = memory_with (six 0 0 0 0 0) (six 1 0 0 0 0)

-- the first store stores the 1 and holds the 2, and the second is done
pub stores-met : Halves false (lone storing true) memory_start 1 1
unfolding step_open idle_channel
stores-met = pair storing memory_start taken 2 refl refl refl refl refl refl refl refl refl

-- the same with TMC 001 and MC FF01h: the first byte matches
abbrev matching : ℕ → ℕ → ℕ → Channel
matching from bc psw = with_register (running_with (pointer from false) (pointer 16 true) 256 bc 0x5011 psw) 7 0xFF01 false

-- so the first store ends the transfer, at offset 0: the source is on by 1, BC is less by 2, and nothing is held
pub first-meets : step_of (lone (matching 0 4 0x46) true) memory_start 1 ≡ stepped 0 (lone (matching 1 2 0x06) false) taken 1 Transfer
unfolding step_open idle_channel with_register
first-meets = refl
