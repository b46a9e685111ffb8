-- What `set` changes, and what `dump`, `show` and the calls print, in the text of docs/SCRIPT.md.
-- Assumes nothing.
use Rattle.std.proofs.Common.{None, Some}
use mathlib.Core.Bool.{true, false}
use mathlib.Core.List.{List, [], ◌∷◌, ◌++◌, map}
use mathlib.Core.Path.{◌≡◌, refl}
use Prim.Native.Nat.{ℕ, zero, suc}
use Prim.Native.String.{String}
use lib.ListN.{set}
use Rattle.ground_rules.specs.Choice.{pick}
use Rattle.ground_rules.specs.Bits.{field_of, bit_of}
use Rattle.ground_rules.specs.Buffers.{buffers}
use Rattle.ground_rules.specs.Cc.{split, bit_worth, joined}
use Rattle.ground_rules.specs.Holdings.{held_number, held_from}
use Rattle.ground_rules.specs.States.{board_with, channel_of, with_channel, is_second, channel_number}
use Rattle.ground_rules.specs.Values.{pointer}
use Rattle.ground_rules.specs.declared.Channel.{Channel}
use Rattle.ground_rules.specs.declared.Mode.{Mode}
use Rattle.ground_rules.specs.declared.Mode.TheVariants.{Idle, Running, Suspended}
use Rattle.ground_rules.specs.declared.State.{State}
use Rattle.turn_rules.specs.declared.Kind.TheVariants.{Nothing, Instruction, Transfer, External}
use Rattle.listing_rules.specs.Characters.{ascii}
use Rattle.page.specs.Numbers.{glyph, eight_digits, hex, ten_digits, unpadded, decimal, letter}
use Rattle.script_text.specs.Buffers.{digest_byte, digest_from, digest_of}
use Rattle.script_text.specs.Names.{'ga, 'gb, 'gc, 'tp, 'pp, 'bc, 'ix, 'cc, 'fields, 'mc, 'psw, 'ga-t, 'gb-t, 'gc-t, 'tp-t, 'arm, 'mode, 'held, 'cp, 'last, 'up, 'sysbus, 'soc, 'grant}
use Rattle.script_text.specs.Registers.{mode_numbered, pointer_set, with_raw, board_marked, with_shared, with_named}
use Rattle.script_lines.specs.Lines.{refused_line, answer_line, count_text, counted_line, stepped_line, swept_line, loaded_line, register_text, mark_number, pointer_text, pointers_text, numbers_text, number_of_mode, marks_text, channel_line, buffer_text, board_text, shared_line, dump_text, byte_text, bytes_text, shown_line}

-- ---- `set`

-- the number of a mode
abbrev mode_of : Mode → ℕ
mode_of Idle = 0
mode_of Running = 1
mode_of Suspended = 2

-- the eighteen numbers of a channel, in the order of the names below
abbrev numbers_of : Channel → List ℕ
numbers_of c =
    c.ga.address ∷ pick c.ga.tag 1 0 ∷ c.gb.address ∷ pick c.gb.tag 1 0 ∷ c.gc.address ∷ pick c.gc.tag 1 0 ∷ c.tp.address ∷ pick c.tp.tag 1 0
    ∷ c.pp ∷ c.bc ∷ c.ix ∷ c.cc ∷ joined c.fields ∷ c.mc ∷ c.psw ∷ mode_of c.mode ∷ pick c.armed 1 0 ∷ held_number c.held ∷ []

abbrev own-names : List ℕ
own-names = 'ga ∷ 'ga-t ∷ 'gb ∷ 'gb-t ∷ 'gc ∷ 'gc-t ∷ 'tp ∷ 'tp-t ∷ 'pp ∷ 'bc ∷ 'ix ∷ 'cc ∷ 'fields ∷ 'mc ∷ 'psw ∷ 'mode ∷ 'arm ∷ 'held ∷ []

abbrev shared-names : List ℕ
shared-names = 'cp ∷ 'last ∷ 'up ∷ 'sysbus ∷ 'soc ∷ 'grant ∷ []

-- all numbers of a state: those of channel 1 from 0 on, of channel 2 from 18 on, and the shared ones from 36 on
abbrev all_of : State → List ℕ
all_of s =
    numbers_of s.first
    ++ (numbers_of s.second
    ++ (s.cp ∷ pick s.last 2 1 ∷ pick s.board.powered 1 0 ∷ pick s.board.sysbus 1 0 ∷ pick s.board.soc 1 0 ∷ pick s.board.grant 1 0 ∷ []))

-- the numbers after each of some registers is set to a value
abbrev each_set : State → ℕ → ℕ → List ℕ → List (List ℕ)
each_set s v channel names = map (λ (r : ℕ). all_of (with_named s channel r v)) names

-- the numbers with one of them changed to the value, from a place on, as many as there are names
abbrev each-put : State → ℕ → ℕ → List ℕ → List (List ℕ)
each-put s v at [] = []
each-put s v at (r ∷ names) = set (all_of s) at v ∷ each-put s v (suc at) names

-- the first k of some names, and those behind them
abbrev first_of : ℕ → List ℕ → List ℕ
first_of zero names = []
first_of (suc k) [] = []
first_of (suc k) (r ∷ names) = r ∷ first_of k names

module _ (s : State) where
  -- a register of channel 1, of channel 2 or a shared one: its number becomes the value, and no other number changes
  pub first-set : each_set s 1 1 (first_of 17 own-names) ≡ each-put s 1 0 (first_of 17 own-names)
  unfolding with_named with_shared with_raw board_marked pointer_set mode_numbered with_channel channel_of is_second split joined bit_worth held_number held_from field_of bit_of
  first-set = refl

  pub second-set : each_set s 1 2 (first_of 17 own-names) ≡ each-put s 1 18 (first_of 17 own-names)
  unfolding with_named with_shared with_raw board_marked pointer_set mode_numbered with_channel channel_of is_second split joined bit_worth held_number held_from field_of bit_of
  second-set = refl

  pub shared-set : each_set s 1 0 shared-names ≡ each-put s 1 36 shared-names
  unfolding with_named with_shared with_raw board_marked pointer_set mode_numbered with_channel channel_of is_second split joined bit_worth held_number held_from field_of bit_of
  shared-set = refl

  -- and so with 0, but for `last`, which is 1 or 2
  pub first-cleared : each_set s 0 1 own-names ≡ each-put s 0 0 own-names
  unfolding with_named with_shared with_raw board_marked pointer_set mode_numbered with_channel channel_of is_second split joined bit_worth held_number held_from field_of bit_of
  first-cleared = refl

  -- the greatest values: of PSW, a mode, `held` and `last`
  pub greatest-set :
      (each_set s 0xff 1 ('psw ∷ []) ≡ each-put s 0xff 14 ('psw ∷ [])) × (each_set s 2 2 ('mode ∷ []) ≡ each-put s 2 33 ('mode ∷ []))
      × (each_set s 0x1ff 1 ('held ∷ []) ≡ each-put s 0x1ff 17 ('held ∷ [])) × (each_set s 2 0 ('cp ∷ 'last ∷ []) ≡ each-put s 2 36 ('cp ∷ 'last ∷ []))
      × (each_set s 0xfdff 2 ('bc ∷ 'ix ∷ 'cc ∷ 'fields ∷ 'mc ∷ []) ≡ each-put s 0xfdff 27 ('bc ∷ 'ix ∷ 'cc ∷ 'fields ∷ 'mc ∷ []))
  unfolding with_named with_shared with_raw board_marked pointer_set mode_numbered with_channel channel_of is_second split joined bit_worth held_number held_from field_of bit_of
  greatest-set = (refl, refl, refl, refl, refl)

-- ---- what is printed

-- a text and the end of its line
abbrev line : String → List ℕ
line text = ascii text ++ (10 ∷ [])

-- a state in which no two registers of a width are alike
abbrev shown : State
shown =
    record {
      first =
          record {
            ga = pointer 0xa1b2c true;
            gb = pointer 2 false;
            gc = pointer 3 false;
            tp = pointer 4 true;
            pp = 5;
            bc = 6;
            ix = 7;
            cc = 8;
            mc = 9;
            psw = 10;
            mode = Suspended;
            armed = true;
            fields = split 0xc028;
            held = Some 0xfe;
          };
      second =
          record {
            ga = pointer 0x11 false;
            gb = pointer 0x12 true;
            gc = pointer 0x13 true;
            tp = pointer 0x14 false;
            pp = 0x15;
            bc = 0x16;
            ix = 0x17;
            cc = 0x18;
            mc = 0x1a;
            psw = 0x1b;
            mode = Running;
            armed = false;
            fields = split 0x1019;
            held = None;
          };
      cp = 0xfffff;
      last = true;
      board = board_with true false true false;
    }

-- its dump, beside three bytes of system memory and none of I/O memory
pub dump-shown : dump_text shown (buffers (1 ∷ 2 ∷ 0xab ∷ []) [])
    ≡ line "ch 1 ga 000a1b2c 1 gb 00000002 0 gc 00000003 0 tp 00000004 1 pp 00000005 bc 0006 ix 0007 cc 0008 fields c028 mc 0009 psw 0a mode 2 arm 1 held 01fe"
    ++ (line "ch 2 ga 00000011 0 gb 00000012 1 gc 00000013 1 tp 00000014 0 pp 00000015 bc 0016 ix 0017 cc 0018 fields 1019 mc 001a psw 1b mode 1 arm 0 held 0000"
    ++ line "cp 000fffff last 2 up 1 sysbus 0 soc 1 grant 0 sys 00000003 eece93f3 io 00000000 811c9dc5")
unfolding dump_text channel_line pointers_text pointer_text numbers_text marks_text number_of_mode shared_line board_text buffer_text register_text mark_number channel_number held_number split joined bit_worth field_of bit_of digest_of digest_from digest_byte decimal hex eight_digits glyph
dump-shown = refl

-- sixteen bytes from a place on, the last ones past the end
pub bytes-shown : shown_line (0 ∷ 1 ∷ 0xab ∷ 0xff ∷ []) 1 ≡ line "show 01 ab ff -- -- -- -- -- -- -- -- -- -- -- -- --"
unfolding shown_line bytes_text byte_text register_text hex eight_digits glyph
bytes-shown = refl

-- the lines of the calls
pub answers-shown :
    (refused_line ∷ answer_line (ascii "make ") 10 ∷ counted_line (ascii "ca ") 0 9 ∷ stepped_line 0 1 Transfer 4 ∷ stepped_line 8 0 Nothing 0 ∷ stepped_line 0 2 Instruction 12 ∷ stepped_line 0 1 External 0
    ∷ swept_line 0 32768 131072 ∷ loaded_line 21 3 0xabcd ∷ [])
    ≡ map line
    ("?" ∷ "make 10" ∷ "ca 0 9" ∷ "step 0 1 T 4" ∷ "step 8 0 . 0" ∷ "step 0 2 I 12" ∷ "step 0 1 X 0" ∷ "sweep 0 32768 131072" ∷ "prom 21 3 0000abcd" ∷ [])
unfolding answer_line counted_line count_text stepped_line swept_line loaded_line letter decimal unpadded ten_digits hex eight_digits glyph
answers-shown = refl
