-- What the words of a script mean, in the text of docs/SCRIPT.md: digits, the names of calls and registers, and the call that a line is.
-- Assumes nothing.
use mathlib.Core.Bool.{true, false}
use mathlib.Core.List.{[], ◌∷◌, map}
use mathlib.Core.Path.{◌≡◌, refl}
use Prim.Native.Nat.{ℕ, zero, suc}
use Prim.Native.String.{String}
use lib.Dec.{ltb}
use lib.ListN.{replicate}
use Rattle.ground_rules.specs.Choice.{pick}
use Rattle.listing_rules.specs.Characters.{ascii}
use Rattle.script_text.specs.declared.text.ScriptCall.{ScriptCall}
use Rattle.script_text.specs.declared.text.ScriptCall.TheVariants.{Nothing, Unknown, Make, Put, Set, Attention, Step, Dump, Show, Listing, Load, Reset, PowerUp, Sweep}
use Rattle.ground_rules.specs.Holdings.{is_held_number}
use Rattle.script_text.specs.Buffers.{digest_byte, digest_from, digest_of}
use Rattle.script_text.specs.Names.{packed, name_of, 'none, 'make, 'put, 'set, 'ca, 'step, 'dump, 'show, 'list, 'prom, 'reset, 'power, 'sweep, 'ga, 'gb, 'gc, 'tp, 'pp, 'bc, 'ix, 'cc, 'fields, 'mc, 'psw, 'ga-t, 'gb-t, 'gc-t, 'tp-t, 'arm, 'mode, 'held, 'cp, 'last, 'up, 'sysbus, 'soc, 'grant}
use Rattle.script_text.specs.Registers.{values_of, fits_own, is_board_mark, fits_shared, fits_register}
use Rattle.script_text.specs.Text.{digit_of, until_same, until_other, value_of, numeral_of, all_digits, is_pairs, span_at, line_word_at, words_of}
use Rattle.script_text.specs.Calls.{make_call, put_call, set_call, attention_call, step_call, bare_call, show_call, list_call, sweep_call, call_from, call_of}

-- ---- digits and names

-- the hexadecimal digits by their values
pub digit-values : map digit_of (ascii "0123456789ABCDEFabcdef")
    ≡ 0 ∷ 1 ∷ 2 ∷ 3 ∷ 4 ∷ 5 ∷ 6 ∷ 7 ∷ 8 ∷ 9 ∷ 10 ∷ 11 ∷ 12 ∷ 13 ∷ 14 ∷ 15 ∷ 10 ∷ 11 ∷ 12 ∷ 13 ∷ 14 ∷ 15 ∷ []
unfolding digit_of
digit-values = refl

-- how many bytes below a number are digits
abbrev digits-below : ℕ → ℕ
digits-below zero = 0
digits-below (suc b) = pick (ltb (digit_of b) 16) (suc (digits-below b)) (digits-below b)

-- no other byte is a digit: 22 of all bytes are
pub digits-counted : digits-below 256 ≡ 22
unfolding digit_of
digits-counted = refl

-- the name of a text
abbrev pub named : String → ℕ
named text = name_of (ascii text)

pub call-names : map named ("" ∷ "make" ∷ "put" ∷ "set" ∷ "ca" ∷ "step" ∷ "dump" ∷ "show" ∷ "list" ∷ "prom" ∷ "reset" ∷ "power" ∷ "sweep" ∷ [])
    ≡ 'none ∷ 'make ∷ 'put ∷ 'set ∷ 'ca ∷ 'step ∷ 'dump ∷ 'show ∷ 'list ∷ 'prom ∷ 'reset ∷ 'power ∷ 'sweep ∷ []
unfolding name_of packed
call-names = refl

pub register-names : map named ("ga" ∷ "ga.t" ∷ "gb" ∷ "gb.t" ∷ "gc" ∷ "gc.t" ∷ "tp" ∷ "tp.t" ∷ "pp" ∷ "bc" ∷ "ix" ∷ "cc" ∷ "fields" ∷ "mc" ∷ "psw" ∷ "mode" ∷ "arm" ∷ "held" ∷ [])
    ≡ 'ga ∷ 'ga-t ∷ 'gb ∷ 'gb-t ∷ 'gc ∷ 'gc-t ∷ 'tp ∷ 'tp-t ∷ 'pp ∷ 'bc ∷ 'ix ∷ 'cc ∷ 'fields ∷ 'mc ∷ 'psw ∷ 'mode ∷ 'arm ∷ 'held ∷ []
unfolding name_of packed
register-names = refl

pub shared-names : map named ("cp" ∷ "last" ∷ "up" ∷ "sysbus" ∷ "soc" ∷ "grant" ∷ []) ≡ 'cp ∷ 'last ∷ 'up ∷ 'sysbus ∷ 'soc ∷ 'grant ∷ []
unfolding name_of packed
shared-names = refl

-- a word of more than six characters has no name
pub long-names : map named ("tabled" ∷ "tablets" ∷ []) ≡ 0x17461626c6564 ∷ 0 ∷ []
unfolding name_of packed
long-names = refl

-- ---- the calls

-- the call of a line
abbrev pub said : String → ScriptCall
said text = call_of (ascii text)

-- what each call reads of its line; blanks around and between words do not matter, and what has no word or begins with # is passed over
pub lines-said :
    map said
    ("" ∷ "  " ∷ "# make 1 1 0" ∷ "make 100001 10001 ffffffff" ∷ "put 0 1F 0a0B" ∷ "put 1 20 00" ∷ "ca 2" ∷ "  ca  1 " ∷ "step 12345678"
    ∷ "dump" ∷ "show 0 10" ∷ "show 1 20" ∷ "list 0 10 20" ∷ "list 1 30 40" ∷ "prom" ∷ "reset" ∷ "power" ∷ "sweep 2 1" ∷ [])
    ≡ Nothing ∷ Nothing ∷ Nothing ∷ Make 0x100001 0x10001 0xffffffff ∷ Put false 0x1f ∷ Put true 0x20 ∷ Attention 2 ∷ Attention 1 ∷ Step 0x12345678
    ∷ Dump ∷ Show false 0x10 ∷ Show true 0x20 ∷ Listing false 0x10 0x20 ∷ Listing true 0x30 0x40 ∷ Load ∷ Reset ∷ PowerUp ∷ Sweep 2 1 ∷ []
unfolding call_of call_from words_of line_word_at span_at until_same until_other name_of packed numeral_of value_of digit_of is_pairs all_digits make_call put_call set_call attention_call step_call bare_call show_call list_call sweep_call fits_register fits_own fits_shared values_of is_board_mark is_held_number
lines-said = refl

-- each register can be set to the greatest value that fits it
pub registers-set :
    map said
    ("set 1 ga ffffffff" ∷ "set 2 gb ffffffff" ∷ "set 1 gc ffffffff" ∷ "set 2 tp ffffffff" ∷ "set 1 pp ffffffff" ∷ "set 2 bc ffff" ∷ "set 1 ix ffff" ∷ "set 2 cc ffff"
    ∷ "set 1 fields ffff" ∷ "set 2 mc ffff" ∷ "set 1 psw ff" ∷ "set 2 ga.t 1" ∷ "set 1 gb.t 1" ∷ "set 2 gc.t 1" ∷ "set 1 tp.t 1" ∷ "set 2 arm 1"
    ∷ "set 1 mode 2" ∷ "set 2 held 0" ∷ "set 1 held 100" ∷ "set 2 held 1ff" ∷ "set 0 cp ffffffff" ∷ "set 0 last 1" ∷ "set 0 last 2" ∷ "set 0 up 1"
    ∷ "set 0 sysbus 1" ∷ "set 0 soc 1" ∷ "set 0 grant 1" ∷ [])
    ≡ Set 1 'ga 0xffffffff ∷ Set 2 'gb 0xffffffff ∷ Set 1 'gc 0xffffffff ∷ Set 2 'tp 0xffffffff ∷ Set 1 'pp 0xffffffff ∷ Set 2 'bc 0xffff ∷ Set 1 'ix 0xffff ∷ Set 2 'cc 0xffff
    ∷ Set 1 'fields 0xffff ∷ Set 2 'mc 0xffff ∷ Set 1 'psw 0xff ∷ Set 2 'ga-t 0x1 ∷ Set 1 'gb-t 0x1 ∷ Set 2 'gc-t 0x1 ∷ Set 1 'tp-t 0x1 ∷ Set 2 'arm 0x1
    ∷ Set 1 'mode 0x2 ∷ Set 2 'held 0x0 ∷ Set 1 'held 0x100 ∷ Set 2 'held 0x1ff ∷ Set 0 'cp 0xffffffff ∷ Set 0 'last 0x1 ∷ Set 0 'last 0x2 ∷ Set 0 'up 0x1
    ∷ Set 0 'sysbus 0x1 ∷ Set 0 'soc 0x1 ∷ Set 0 'grant 0x1 ∷ []
unfolding call_of call_from words_of line_word_at span_at until_same until_other name_of packed numeral_of value_of digit_of is_pairs all_digits make_call put_call set_call attention_call step_call bare_call show_call list_call sweep_call fits_register fits_own fits_shared values_of is_board_mark is_held_number
registers-set = refl

-- no call: a word that none has, one word too many or too few, what is no number, a length over its limit, a space that is none, half a byte, a register that
-- its channel has not, a value that does not fit
pub lines-unknown :
    map said
    ("calls" ∷ "MAKE 1 1 0" ∷ "make 1 1 0 0" ∷ "make 1 1" ∷ "make 100002 1 0" ∷ "make 1 10002 0" ∷ "make 1 1 100000000" ∷ "make 1 1 0g"
    ∷ "put 0 0 00 0" ∷ "put 0 0" ∷ "put 2 0 00" ∷ "put 0 x 00" ∷ "put 0 0 000" ∷ "put 0 0 0x"
    ∷ "set 1 bc 1 1" ∷ "set 1 bc" ∷ "set 3 bc 1" ∷ "set x bc 1" ∷ "set 0 bc 1" ∷ "set 1 cp 1" ∷ "set 1 bx 1"
    ∷ "ca 1 1" ∷ "ca" ∷ "ca x" ∷ "step 1 1" ∷ "step" ∷ "step x" ∷ "dump 1" ∷ "show 0 1 1" ∷ "show 0" ∷ "show 2 0" ∷ "show 0 x"
    ∷ "list 0 1 1 1" ∷ "list 0 1" ∷ "list 2 0 1" ∷ "list 0 x 1" ∷ "list 0 1 x" ∷ "prom 1" ∷ "reset 1" ∷ "power 1" ∷ "sweep 1 1 1" ∷ "sweep 1" ∷ "sweep x 1" ∷ "sweep 1 x"
    ∷ "set 2 bc 10000" ∷ "set 1 ix 10000" ∷ "set 2 cc 10000" ∷ "set 1 fields 10000" ∷ "set 2 mc 10000" ∷ "set 1 psw 100" ∷ "set 2 ga.t 2" ∷ "set 1 gb.t 2" ∷ "set 2 gc.t 2" ∷ "set 1 tp.t 2"
    ∷ "set 2 arm 2" ∷ "set 1 mode 3" ∷ "set 2 held 1" ∷ "set 1 held ff" ∷ "set 2 held 200" ∷ "set 0 last 0" ∷ "set 0 last 3" ∷ "set 0 up 2" ∷ "set 0 sysbus 2" ∷ "set 0 soc 2" ∷ "set 0 grant 2" ∷ [])
    ≡ replicate 65 Unknown
unfolding call_of call_from words_of line_word_at span_at until_same until_other name_of packed numeral_of value_of digit_of is_pairs all_digits make_call put_call set_call attention_call step_call bare_call show_call list_call sweep_call fits_register fits_own fits_shared values_of is_board_mark is_held_number
lines-unknown = refl

-- ---- digests

-- the published vectors of 32-bit FNV-1a
pub digests : map (λ (text : String). digest_of (ascii text)) ("" ∷ "a" ∷ "b" ∷ "foobar" ∷ []) ≡ 0x811c9dc5 ∷ 0xe40c292c ∷ 0xe70c2de5 ∷ 0xbf9cf968 ∷ []
unfolding digest_of digest_from digest_byte
digests = refl
