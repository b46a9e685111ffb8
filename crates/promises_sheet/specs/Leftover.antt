-- The leftover count (§7.8 to §7.10): what BC, sides and TP become where a match ends a transfer step, and what a driver works out from BC after
-- calls in a row.
use Rattle.std.specs.Prelude.{Bool, true, false, not, ◌&&◌, List, ◌⊎◌, ◌≡◌, ℕ, ◌+◌, ◌-◌, ◌%◌, ◌<◌, ◌≤◌, eqb}
use Rattle.ground_rules.specs.Choice.{pick}
use Rattle.ground_rules.specs.Buffers.{Buffers, store_byte}
use Rattle.ground_rules.specs.Values.{pointer}
use Rattle.ground_rules.specs.Registers.{with_register}
use Rattle.ground_rules.specs.States.{channel_of, channel_number}
use Rattle.ground_rules.specs.declared.Channel.{Channel}
use Rattle.ground_rules.specs.declared.State.{State}
use Rattle.attention_rules.specs.Attention.{attention_of}
use Rattle.transfer_rules.specs.Steps.{transferred, transfer_of}
use Rattle.turn_rules.specs.Step.{step_of}
use Rattle.promises.specs.SheetWords.{bit, field, pointer_on}
use Rattle.promises_sheet.specs.SheetOperands.{ran_channel}
use Rattle.promises_sheet.specs.SheetTurns.{offset_in}
use Rattle.promises_sheet.specs.SheetTransfer.{into_pointer, into_word_side, two_go, first_byte, second_byte, meets_in, singly, stored_count, fetched_count, max_of, stores_twice, half_due, Transfers}
use Rattle.promises_sheet.specs.SheetHalves.{is_none}
use Rattle.promises.specs.Witness.{running_with, memory_with, six, memory_start}

-- ---- one step

-- BC less some bytes, modulo 65,536
abbrev pub bc_less : Channel → ℕ → ℕ
bc_less c bytes = (c.bc + (65536 - bytes)) % 65536

-- the first of two single stores meets TMC
abbrev pub first_ends : Channel → Buffers → Bool
first_ends c m = singly c m && meets_in c m (first_byte c m)

-- what such a step leaves: BC less 2, whatever it was and whether TBC is on or off; sides that move on gain 1; one byte is stored; the transfer is
-- over, and if BC is now 0 and TBC is on, the count has ended it too and the larger offset counts
pub record FirstLeft (c : Channel) (m : Buffers) (after : Channel) (m' : Buffers) : Type 0 where
  pub bc : after.bc ≡ bc_less c 2
  pub ga : after.ga ≡ pick (eqb (bit c.cc (pick (eqb (bit c.cc 10) 1) 15 14)) 1) (pointer_on c.ga 1) c.ga
  pub gb : after.gb ≡ pick (eqb (bit c.cc (pick (eqb (bit c.cc 10) 1) 14 15)) 1) (pointer_on c.gb 1) c.gb
  pub stored : m' ≡ store_byte m (into_pointer c m).tag (into_pointer c m).address (first_byte c m)
  pub over : bit after.psw 6 ≡ 0
  pub tp : after.tp
      ≡ pointer_on c.tp (max_of c m (offset_in (field c.cc 0 3 % 4)) (pick (eqb (bc_less c 2) 0) (offset_in (field c.cc 3 2)) 0))

-- a first half of a pair that no match ends: its bytes count when the pair is whole
abbrev pub opens : Channel → Buffers → Bool
opens c m = half_due c m && (is_none c.held && not (stores_twice c m && meets_in c m (first_byte c m)))

-- a second half
abbrev pub closes : Channel → Buffers → Bool
closes c m = half_due c m && not (is_none c.held)

-- the bytes that a step adds to those fetched and to those stored: none at a first half that no match ends, both at a second half
abbrev pub fetched_now : Channel → Buffers → ℕ
fetched_now c m = pick (opens c m) 0 (fetched_count c m)

abbrev pub stored_now : Channel → Buffers → ℕ
stored_now c m = pick (opens c m) 0 (pick (closes c m) 2 (stored_count c m))

-- both of two bytes are stored, and both count
abbrev pub BothCount : Bool → State → Buffers → ℕ → Type 0
BothCount second s m lines = ((ran_channel second s m lines).bc ≡ bc_less (channel_of s second) 2) × (stored_count (channel_of s second) m ≡ 2)

-- what a transfer step makes of BC
pub record LeftoverSheet (second : Bool) (s : State) (m : Buffers) (lines : ℕ) : Type 0 where
  -- the first of two single stores meets TMC; where the two are a step each, this ends the transfer at the first
  pub first_met : Transfers second s m lines → first_ends (channel_of s second) m ≡ true → closes (channel_of s second) m ≡ false
      → FirstLeft (channel_of s second) m (ran_channel second s m lines) (step_of s m lines).memory
  -- in every other step that is no half of a pair it falls by the bytes stored
  pub others : Transfers second s m lines → half_due (channel_of s second) m ≡ false → first_ends (channel_of s second) m ≡ false
      → (ran_channel second s m lines).bc ≡ bc_less (channel_of s second) (stored_count (channel_of s second) m)
  -- so by 2 where the second of two single stores meets TMC
  pub second_met : Transfers second s m lines → half_due (channel_of s second) m ≡ false → singly (channel_of s second) m ≡ true
      → meets_in (channel_of s second) m (first_byte (channel_of s second) m) ≡ false → meets_in (channel_of s second) m (second_byte (channel_of s second) m) ≡ true
      → BothCount second s m lines
  -- and where a word is stored, whether its low byte meets TMC or not
  pub word_stored : Transfers second s m lines → half_due (channel_of s second) m ≡ false → two_go (channel_of s second) m ≡ true → into_word_side (channel_of s second) m ≡ true
      → BothCount second s m lines

-- ---- calls in a row

-- what comes of a state by calls in a row, each with the state that the one before handed back and with any memory and lines, when this channel's
-- transfer steps have fetched and stored so many bytes, those of a pair of halves with its second: the start; a transfer step of it; a step of the other channel, or a refused one; an attention
-- that is not to it. So no other end stops its transfer, and once it has ended no more is fetched
pub data Sector (second : Bool) (s₀ : State) : ℕ → ℕ → State → Type 0 where
  begin : Sector second s₀ 0 0 s₀
  transfer : {fetched stored : ℕ} {s : State} → Sector second s₀ fetched stored s → (m : Buffers) (lines : ℕ) → Transfers second s m lines
      → Sector second s₀ (fetched + fetched_now (channel_of s second) m) (stored + stored_now (channel_of s second) m) (step_of s m lines).state
  step : {fetched stored : ℕ} {s : State} → Sector second s₀ fetched stored s → (m : Buffers) (lines : ℕ)
      → ((step_of s m lines).channel ≡ channel_number second → ⊥) → Sector second s₀ fetched stored (step_of s m lines).state
  attention : {fetched stored : ℕ} {s : State} → Sector second s₀ fetched stored s → (m : Buffers) (channel : ℕ)
      → (channel ≡ channel_number second → ⊥) → Sector second s₀ fetched stored (attention_of s m channel).state

-- BC after such a row that began with some count
pub record SectorLeft (count fetched stored : ℕ) (c : Channel) : Type 0 where
  -- it is the first count less the bytes fetched, modulo 65,536
  pub left : (c.bc + fetched) % 65536 ≡ count % 65536
  pub small : 1 ≤ fetched → c.bc < 65536
  -- as many bytes were stored, or one less where the transfer has ended: by a match at the first of two single stores
  pub came : (fetched ≡ stored) ⊎ ((fetched ≡ stored + 1) × (bit c.psw 6 ≡ 0))

-- the sum that a driver forms for a sector of so many bytes, TBC being on: its length less BC is what was fetched
pub record DriverSum (length fetched : ℕ) (c : Channel) : Type 0 where
  pub most : fetched ≤ length
  pub sum : 1 ≤ fetched → length - c.bc ≡ fetched

-- ---- in numbers

-- from system address 0, where 1 to 6 stand, to 8, both sides on by some bytes, CC with both moving on; PSW 46h: source 16, destination 8, TB and XF;
-- 47h: both 16
abbrev pub scan_at : ℕ → ℕ → ℕ → ℕ → ℕ → ℕ → Channel
scan_at by tp bc cc mc psw = with_register (running_with (pointer by false) (pointer (8 + by) false) tp bc cc psw) 7 mc false

-- a transfer step takes one such channel to another, and leaves these bytes at 8
abbrev pub StepTo : Channel → Channel → List ℕ → Type 0
StepTo c after bytes = transfer_of c memory_start ≡ transferred 0 after (memory_with bytes (six 0 0 0 0 0))

pub record LeftoverCases : Type 0 where
  -- BC 2, TBC 11, TMC 001, met by the first byte: BC 0, the count's offset 8
  pub count_ends : StepTo (scan_at 0 256 2 0xC019 0xFF01 0x46) (scan_at 1 264 0 0xC019 0xFF01 0x06) (six 1 0 0 0 0)
  -- BC 2, TBC 01, TMC 011: BC 0, and the match's offset 8 is the larger
  pub match_larger : StepTo (scan_at 0 256 2 0xC00B 0xFF01 0x46) (scan_at 1 264 0 0xC00B 0xFF01 0x06) (six 1 0 0 0 0)
  -- TBC off, BC 1: FFFFh, TMC's offset 4
  pub uncounted : StepTo (scan_at 0 256 1 0xC002 0xFF01 0x46) (scan_at 1 260 0xFFFF 0xC002 0xFF01 0x06) (six 1 0 0 0 0)
  -- TBC 11, BC 0: FFFEh, no end by the count, TMC's offset 4
  pub wraps : StepTo (scan_at 0 256 0 0xC01A 0xFF01 0x46) (scan_at 1 260 0xFFFE 0xC01A 0xFF01 0x06) (six 1 0 0 0 0)
  -- the same where TMC ends on no match
  pub count_ends_on_none : StepTo (scan_at 0 256 2 0xC01D 0xFF02 0x46) (scan_at 1 264 0 0xC01D 0xFF02 0x06) (six 1 0 0 0 0)
  pub uncounted_on_none : StepTo (scan_at 0 256 1 0xC006 0xFF02 0x46) (scan_at 1 260 0xFFFF 0xC006 0xFF02 0x06) (six 1 0 0 0 0)
  pub wraps_on_none : StepTo (scan_at 0 256 0 0xC01E 0xFF02 0x46) (scan_at 1 260 0xFFFE 0xC01E 0xFF02 0x06) (six 1 0 0 0 0)
  -- TBC 11 and BC 1: one byte moves, so this is another case; BC 0 and offset 8
  pub one_left : StepTo (scan_at 0 256 1 0xC01A 0xFF01 0x46) (scan_at 1 264 0 0xC01A 0xFF01 0x06) (six 1 0 0 0 0)
  -- the second byte meets TMC: both are stored, and both count
  pub second_meets : StepTo (scan_at 0 256 9 0xC01A 0xFF02 0x46) (scan_at 2 260 7 0xC01A 0xFF02 0x06) (six 1 2 0 0 0)
  -- into words nothing is new: the low byte meets TMC, the word is stored, BC falls by 2
  pub word_meets : StepTo (scan_at 0 256 9 0xC01A 0xFF01 0x47) (scan_at 2 260 7 0xC01A 0xFF01 0x07) (six 1 2 0 0 0)
  pub word_ends : StepTo (scan_at 0 256 2 0xC019 0xFF01 0x47) (scan_at 2 264 0 0xC019 0xFF01 0x07) (six 1 2 0 0 0)
