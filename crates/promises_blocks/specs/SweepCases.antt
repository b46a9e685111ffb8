-- Sweeps in numbers: three that are done, and each condition failing alone.
use Rattle.std.specs.Prelude.{Bool, true, false, [], ◌∷◌, ◌≡◌, ℕ, Option, None, Some}
use Rattle.ground_rules.specs.Buffers.{Buffers, buffers}
use Rattle.ground_rules.specs.Values.{pointer}
use Rattle.ground_rules.specs.declared.Pointer.{Pointer}
use Rattle.ground_rules.specs.Cc.{split}
use Rattle.ground_rules.specs.States.{board_with, idle_channel}
use Rattle.ground_rules.specs.declared.Channel.{Channel}
use Rattle.ground_rules.specs.declared.Mode.{Mode}
use Rattle.ground_rules.specs.declared.Mode.TheVariants.{Running, Suspended}
use Rattle.ground_rules.specs.declared.State.{State}
use Rattle.sweep_rules.specs.Plainly.{plainly}
use Rattle.sweep_rules.specs.Sweep.{swept_to, sweep_of}

-- a channel in the middle of a transfer: GA, GB, TP, BC, CC with its fields, PSW, and what it holds; armed, and with numbers in the other registers
unfoldable pub mid_transfer : Mode → Pointer → Pointer → Pointer → ℕ → ℕ → ℕ → Option ℕ → Channel
mid_transfer mode ga gb tp bc cc psw held =
    record {
      ga = ga;
      gb = gb;
      gc = pointer 7 false;
      tp = tp;
      pp = 5;
      bc = bc;
      ix = 9;
      cc = cc;
      mc = 77;
      psw = psw;
      mode = mode;
      armed = true;
      fields = split cc;
      held = held;
    }

-- channel 1 and channel 2 of a state with CP 123h, channel 1 the last that stepped where `last` is false
unfoldable pub state_with : Channel → Channel → Bool → State
state_with first second last = record { first = first; second = second; cp = 0x123; last = last; board = board_with true false false false }

-- four bytes of system memory, twelve of I/O memory
abbrev pub sixteen : Buffers
sixteen = buffers (21 ∷ 22 ∷ 23 ∷ 24 ∷ []) (1 ∷ 2 ∷ 3 ∷ 4 ∷ 5 ∷ 6 ∷ 7 ∷ 8 ∷ 9 ∷ 10 ∷ 11 ∷ 12 ∷ [])

-- channel 2 moves 5 bytes of I/O space from 1 to 7, by 16 bits and both odd, with high bits in both pointers; TBC 10, TP over the top by 4; a byte held
abbrev pub odd_sides : State
odd_sides = state_with idle_channel (mid_transfer Running (pointer 0x30001 true) (pointer 0x50007 true) (pointer 0xFFFFE true) 5 0xC010 0xC3 (Some 3)) false

-- channel 1 moves 4 bytes from 0 of system space to 2 of I/O space, from 8 bits into 16, the source being GB; TBC 01; channel 2 is suspended
abbrev pub across_spaces : State
across_spaces =
    state_with (mid_transfer Running (pointer 2 true) (pointer 0 false) (pointer 0x40 false) 4 0xC408 0x41 None)
    (mid_transfer Suspended (pointer 0 false) (pointer 0 false) (pointer 0 false) 0 0 0 (Some 9)) true

-- one byte left: from 4 to 8 of I/O space, by 16 bits and both even; TBC 11
abbrev pub one_left : State
one_left = state_with idle_channel (mid_transfer Running (pointer 4 true) (pointer 8 true) (pointer 0x40 false) 1 0xC018 0x43 None) true

pub record SweptCases : Type 0 where
  -- 3 steps: the lone byte and two words; 10 bytes read and stored
  pub odd : sweep_of odd_sides sixteen 2 3
      ≡ swept_to 0 (state_with idle_channel (mid_transfer Running (pointer 0x30006 true) (pointer 0x5000C true) (pointer 2 true) 0 0xC010 0x83 None) true)
      (buffers (21 ∷ 22 ∷ 23 ∷ 24 ∷ []) (1 ∷ 2 ∷ 3 ∷ 4 ∷ 5 ∷ 6 ∷ 7 ∷ 2 ∷ 3 ∷ 4 ∷ 5 ∷ 6 ∷ [])) 3 10
  pub odd_plain : sweep_of odd_sides sixteen 2 3 ≡ plainly 4 odd_sides sixteen true 3
  -- 2 steps, words on the destination's side
  pub across : sweep_of across_spaces sixteen 1 0
      ≡ swept_to 0
      (state_with (mid_transfer Running (pointer 6 true) (pointer 4 false) (pointer 0x40 false) 0 0xC408 0x01 None)
      (mid_transfer Suspended (pointer 0 false) (pointer 0 false) (pointer 0 false) 0 0 0 (Some 9)) false)
      (buffers (21 ∷ 22 ∷ 23 ∷ 24 ∷ []) (1 ∷ 2 ∷ 21 ∷ 22 ∷ 23 ∷ 24 ∷ 7 ∷ 8 ∷ 9 ∷ 10 ∷ 11 ∷ 12 ∷ [])) 2 8
  pub across_plain : sweep_of across_spaces sixteen 1 0 ≡ plainly 2 across_spaces sixteen false 0
  -- 1 step
  pub one : sweep_of one_left sixteen 2 1
      ≡ swept_to 0 (state_with idle_channel (mid_transfer Running (pointer 5 true) (pointer 9 true) (pointer 0x48 false) 0 0xC018 0x03 None) true)
      (buffers (21 ∷ 22 ∷ 23 ∷ 24 ∷ []) (1 ∷ 2 ∷ 3 ∷ 4 ∷ 5 ∷ 6 ∷ 7 ∷ 8 ∷ 5 ∷ 10 ∷ 11 ∷ 12 ∷ [])) 1 2
  pub one_plain : sweep_of one_left sixteen 2 1 ≡ plainly 1 one_left sixteen true 1

-- the number of a sweep of channel 2, which moves 5 bytes of I/O space: mode of channel 1, mode of channel 2, where from, where to, CC, PSW, lines
abbrev pub number_with : Mode → Mode → ℕ → ℕ → ℕ → ℕ → ℕ → ℕ
number_with other mode from into cc psw lines =
    (sweep_of
    (state_with (mid_transfer other (pointer 0 false) (pointer 0 false) (pointer 0 false) 0 0 0 None)
    (mid_transfer mode (pointer from true) (pointer into true) (pointer 0 false) 5 cc psw None) false) sixteen 2 lines).number

-- what differs from a sweep that is done, in each row one thing
pub record SweepConditions : Type 0 where
  pub done : number_with Suspended Running 1 7 0xC010 0xC3 3 ≡ 0
  -- EXT of channel 1, EXT of channel 2, a line number over 15
  pub first_external : number_with Suspended Running 1 7 0xC010 0xC3 4 ≡ 15
  pub second_external : number_with Suspended Running 1 7 0xC010 0xC3 8 ≡ 15
  pub lines_over : number_with Suspended Running 1 7 0xC010 0xC3 16 ≡ 12
  -- the other channel runs; this one does not; XF is clear
  pub other_runs : number_with Running Running 1 7 0xC010 0xC3 0 ≡ 15
  pub suspended : number_with Suspended Suspended 1 7 0xC010 0xC3 0 ≡ 15
  pub no_transfer : number_with Suspended Running 1 7 0xC010 0x83 0 ≡ 15
  -- a side stays where it is; SYN 01, 10, 11; translation
  pub source_stays : number_with Suspended Running 1 7 0x8010 0xC3 0 ≡ 15
  pub destination_stays : number_with Suspended Running 1 7 0x4010 0xC3 0 ≡ 15
  pub by_source : number_with Suspended Running 1 7 0xC810 0xC3 3 ≡ 15
  pub by_destination : number_with Suspended Running 1 7 0xD010 0xC3 3 ≡ 15
  pub by_neither : number_with Suspended Running 1 7 0xD810 0xC3 3 ≡ 15
  pub translated : number_with Suspended Running 1 7 0xE010 0xC3 0 ≡ 15
  -- TBC 00; TMC 001 and 101, while 100 is off; TX 01; TS
  pub uncounted : number_with Suspended Running 1 7 0xC000 0xC3 0 ≡ 15
  pub matched : number_with Suspended Running 1 7 0xC011 0xC3 0 ≡ 15
  pub unmatched_on : number_with Suspended Running 1 7 0xC015 0xC3 0 ≡ 15
  pub unmatched_off : number_with Suspended Running 1 7 0xC014 0xC3 0 ≡ 0
  pub ends_outside : number_with Suspended Running 1 7 0xC030 0xC3 0 ≡ 15
  pub single : number_with Suspended Running 1 7 0xC090 0xC3 0 ≡ 15
  -- a range ends at the lent length, or one byte past it
  pub from_end : number_with Suspended Running 7 1 0xC010 0xC3 0 ≡ 0
  pub from_past : number_with Suspended Running 8 1 0xC010 0xC3 0 ≡ 15
  pub into_past : number_with Suspended Running 1 8 0xC010 0xC3 0 ≡ 15
  -- ranges that touch, and that share a byte
  pub touching : number_with Suspended Running 1 6 0xC010 0xC3 0 ≡ 0
  pub sharing : number_with Suspended Running 1 5 0xC010 0xC3 0 ≡ 15
  pub touching_below : number_with Suspended Running 6 1 0xC010 0xC3 0 ≡ 0
  pub sharing_below : number_with Suspended Running 5 1 0xC010 0xC3 0 ≡ 15
  -- a pointer of 21 bits; CC and fields that disagree come before 15 (bit 9 is in no field)
  pub past_pointer : number_with Suspended Running 0x100001 7 0xC010 0x83 0 ≡ 10
  pub bit_nine : number_with Suspended Running 1 7 0xC210 0xC3 0 ≡ 0
  -- equal addresses in two spaces share no byte
  pub two_spaces : (sweep_of (state_with (mid_transfer Running (pointer 0 false) (pointer 0 true) (pointer 0 false) 4 0xC010 0xC3 None) idle_channel true) sixteen 1 0).number ≡ 0
  -- channel 3; a state that is not powered up, or whose fields are others, with XF clear too
  pub third : (sweep_of odd_sides sixteen 3 0).number ≡ 12
  pub unpowered : (sweep_of (record { first = idle_channel; second = idle_channel; cp = 0; last = true; board = board_with false false false false }) sixteen 1 0).number ≡ 13
  pub disagree : (sweep_of (state_with (record {
    ga = pointer 0 false;
    gb = pointer 4 true;
    gc = pointer 0 false;
    tp = pointer 0 false;
    pp = 0;
    bc = 4;
    ix = 0;
    cc = 0xC010;
    mc = 0;
    psw = 0x83;
    mode = Running;
    armed = false;
    fields = split 0xC011;
    held = None;
  }) idle_channel true) sixteen 1 0).number ≡ 14
