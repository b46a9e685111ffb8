-- What a script's line does and prints, in the text of docs/SCRIPT.md: which rule each call is, where `put` writes, which parts `list` lists.
-- Assumes nothing.
use mathlib.Core.Bool.{Bool, true, false}
use mathlib.Core.List.{List, [], ◌∷◌, ◌++◌, map}
use mathlib.Core.Path.{◌≡◌, refl}
use Prim.Native.Nat.{ℕ}
use Prim.Native.String.{String}
use lib.ListN.{length, replicate}
use Rattle.ground_rules.specs.Buffers.{Buffers, buffers}
use Rattle.ground_rules.specs.States.{reset_state, fresh_of}
use Rattle.ground_rules.specs.declared.State.{State}
use Rattle.attention_rules.specs.Attention.{attention_of, attention_count}
use Rattle.attention_rules.specs.Power.{power_up_of, power_count}
use Rattle.turn_rules.specs.Step.{step_of}
use Rattle.turn_rules.specs.Touched.{step_count}
use Rattle.sweep_rules.specs.Sweep.{sweep_of}
use Rattle.prom_rules.specs.Load.{load_of}
use Rattle.listing_rules.specs.Characters.{ascii}
use Rattle.listing_rules.specs.Listings.{lines_of, all_chars}
use Rattle.page.specs.Numbers.{hex, decimal, letter}
use Rattle.script_text.specs.Names.{packed, name_of, 'bc}
use Rattle.script_text.specs.Registers.{values_of, fits_own, fits_register, with_named}
use Rattle.script_text.specs.Text.{digit_of, until_same, until_other, value_of, numeral_of, all_digits, is_pairs, span_at, line_word_at, words_of, fourth_span}
use Rattle.script_text.specs.Calls.{make_call, put_call, set_call, attention_call, step_call, bare_call, show_call, list_call, sweep_call, call_from, call_of}
use Rattle.script_text.specs.Buffers.{byte_of, bytes_written, has_room}
use Rattle.script_lines.specs.Lines.{answer_line, count_text, counted_line, stepped_line, swept_line, loaded_line, dump_text, shown_line}
use Rattle.script_answers.specs.declared.NotMade.TheVariants.{NoCall, PastTheEnd, NoPart}
use Rattle.script_answers.specs.Machine.{Machine, machine, remade, put_of, put_into, machine_attended, machine_advanced, machine_loaded, machine_powered, machine_swept, is_part, call_performed, call_made, not_made}
use Rattle.script_answers.specs.Shown.{advanced_line, sweep_text, put_line, listed_text, load_text, call_text}

-- what a line makes of the machine, whether its call was made, and what it prints
abbrev done : String → State → Buffers → Machine
done text s m = call_performed (call_of (ascii text)) (ascii text) s m

abbrev made : Buffers → String → Bool
made m text = call_made (call_of (ascii text)) (ascii text) m

abbrev printed : String → State → Buffers → List ℕ
printed text s m = call_text (call_of (ascii text)) (ascii text) s m

-- text behind text
abbrev behind : List (List ℕ) → List ℕ
behind [] = 10 ∷ []
behind (text ∷ more) = text ++ behind more

module _ (s : State) (m : Buffers) where
  -- the calls of the machine, on its state and memories
  pub calls-done :
      (done "ca 2" s m ≡ machine (attention_of s m 2).state (attention_of s m 2).memory) × (done "step 3" s m ≡ machine (step_of s m 3).state (step_of s m 3).memory)
      × (done "sweep 2 1" s m ≡ machine (sweep_of s m 2 1).state (sweep_of s m 2 1).memory) × (done "power" s m ≡ machine (power_up_of s m).state (power_up_of s m).memory)
      × (done "reset" s m ≡ machine reset_state m) × (done "set 2 bc 5" s m ≡ machine (with_named s 2 'bc 5) m)
      × (done "make 4 2 5" s m ≡ machine (fresh_of 5).state (buffers (replicate (length m.sys) 0) (replicate (length m.io) 0)))
  unfolding call_performed machine_attended machine_advanced machine_swept machine_powered remade call_of call_from words_of line_word_at span_at until_same until_other name_of packed numeral_of value_of digit_of is_pairs all_digits make_call put_call set_call attention_call step_call bare_call show_call list_call sweep_call fits_register fits_own values_of
  calls-done = (refl, refl, refl, refl, refl, refl, refl)

  -- those that show leave it as it is, and so does a line that is passed over and one that is no call
  pub shows-leave : map (λ (text : String). done text s m) ("" ∷ "#" ∷ "calls" ∷ "dump" ∷ "show 0 0" ∷ "list 0 0 1" ∷ []) ≡ replicate 6 (machine s m)
  unfolding call_performed call_of call_from words_of line_word_at span_at until_same until_other name_of packed numeral_of value_of digit_of is_pairs all_digits make_call put_call set_call attention_call step_call bare_call show_call list_call sweep_call fits_register fits_own values_of
  shows-leave = refl

  -- a PROM file goes into system memory; the state and I/O memory stay
  pub prom-done : (file : List ℕ) → call_performed (call_of (ascii "prom")) file s m ≡ machine s (buffers (load_of file (buffers m.sys [])).memory.sys m.io)
  unfolding call_performed machine_loaded call_of call_from words_of line_word_at span_at until_same until_other name_of packed numeral_of value_of digit_of is_pairs all_digits make_call put_call set_call attention_call step_call bare_call show_call list_call sweep_call fits_register fits_own values_of
  prom-done file = refl

  -- what they print
  pub calls-printed :
      (printed "ca 2" s m ≡ behind (ascii "ca " ∷ decimal (attention_of s m 2).number ∷ ascii " " ∷ decimal (attention_count s m 2) ∷ []))
      × (printed "step 3" s m ≡ behind (ascii "step " ∷ decimal (step_of s m 3).number ∷ ascii " " ∷ decimal (step_of s m 3).channel ∷ ascii " " ∷ (letter (step_of s m 3).kind ∷ []) ∷ ascii " " ∷ decimal (step_count s m 3) ∷ []))
      × (printed "sweep 2 1" s m ≡ behind (ascii "sweep " ∷ decimal (sweep_of s m 2 1).number ∷ ascii " " ∷ decimal (sweep_of s m 2 1).steps ∷ ascii " " ∷ decimal (sweep_of s m 2 1).count ∷ []))
      × (printed "power" s m ≡ behind (ascii "power " ∷ decimal (power_up_of s m).number ∷ ascii " " ∷ decimal (power_count m) ∷ []))
      × (printed "make 4 2 5" s m ≡ behind (ascii "make " ∷ decimal (fresh_of 5).number ∷ []))
      × (printed "reset" s m ≡ behind (ascii "reset " ∷ decimal 0 ∷ [])) × (printed "set 2 bc 5" s m ≡ behind (ascii "set " ∷ decimal 0 ∷ []))
      × (printed "dump" s m ≡ dump_text s m) × (printed "show 0 3" s m ≡ shown_line m.sys 3) × (printed "show 1 3" s m ≡ shown_line m.io 3)
      × (printed "" s m ≡ []) × (printed "calls" s m ≡ behind (ascii "?" ∷ []))
  unfolding call_text advanced_line sweep_text answer_line counted_line count_text stepped_line swept_line call_of call_from words_of line_word_at span_at until_same until_other name_of packed numeral_of value_of digit_of is_pairs all_digits make_call put_call set_call attention_call step_call bare_call show_call list_call sweep_call fits_register fits_own values_of
  calls-printed = (refl, refl, refl, refl, refl, refl, refl, refl, refl, refl, refl, refl)

  -- a load's number, the line that decided, and the start address
  pub prom-printed : (file : List ℕ) → let l = load_of file (buffers m.sys []) in
      call_text (call_of (ascii "prom")) file s m ≡ behind (ascii "prom " ∷ decimal l.number ∷ ascii " " ∷ decimal l.line ∷ ascii " " ∷ hex true 8 l.start ∷ [])
  unfolding call_text load_text loaded_line call_of call_from words_of line_word_at span_at until_same until_other name_of packed numeral_of value_of digit_of is_pairs all_digits make_call put_call set_call attention_call step_call bare_call show_call list_call sweep_call fits_register fits_own values_of
  prom-printed file = refl

-- ---- `put` and `list`, in four bytes of system memory and two of I/O memory

module _ (s : State) (a b c d x y : ℕ) where
  abbrev few : Buffers
  few = buffers (a ∷ b ∷ c ∷ d ∷ []) (x ∷ y ∷ [])

  -- two digits a byte, from the address on, in the space that is named; nothing where a byte would lie past the end
  pub puts-done :
      (done "put 0 1 0aFF" s few ≡ machine s (buffers (a ∷ 0x0a ∷ 0xff ∷ d ∷ []) (x ∷ y ∷ []))) × (done "put 1 0 12" s few ≡ machine s (buffers (a ∷ b ∷ c ∷ d ∷ []) (0x12 ∷ y ∷ [])))
      × (done "put 0 2 123456" s few ≡ machine s few) × (done "put 1 2 00" s few ≡ machine s few)
  unfolding call_performed put_into put_of has_room bytes_written byte_of fourth_span call_of call_from words_of line_word_at span_at until_same until_other name_of packed numeral_of value_of digit_of is_pairs all_digits make_call put_call set_call attention_call step_call bare_call show_call list_call sweep_call fits_register fits_own values_of
  puts-done = (refl, refl, refl, refl)

  -- the calls that are made, and those that are shut out by what is lent
  pub calls-made :
      (map (made few) ("" ∷ "make 0 0 0" ∷ "put 0 3 00" ∷ "put 0 0 01020304" ∷ "put 1 1 00" ∷ "set 2 bc 5" ∷ "ca 9" ∷ "step 0" ∷ "dump" ∷ "show 0 ff" ∷ "list 0 0 4" ∷ "list 0 3 1" ∷ "list 1 0 2" ∷ "prom" ∷ "reset" ∷ "power" ∷ "sweep 0 0" ∷ []) ≡ replicate 17 true)
      × (map (made few) ("calls" ∷ "put 0 4 00" ∷ "put 0 3 0000" ∷ "put 1 2 00" ∷ "list 0 0 0" ∷ "list 0 0 5" ∷ "list 0 4 1" ∷ "list 1 0 3" ∷ []) ≡ replicate 8 false)
  unfolding call_made is_part has_room fourth_span call_of call_from words_of line_word_at span_at until_same until_other name_of packed numeral_of value_of digit_of is_pairs all_digits make_call put_call set_call attention_call step_call bare_call show_call list_call sweep_call fits_register fits_own values_of
  calls-made = (refl, refl)

  -- their lines: those of the part from its own address on, or that of a call that was shut out
  pub parts-printed :
      (printed "list 0 1 2" s few ≡ all_chars (lines_of 1 (b ∷ c ∷ []))) × (printed "list 1 0 1" s few ≡ all_chars (lines_of 0 (x ∷ []))) × (printed "list 0 0 5" s few ≡ behind (ascii "?" ∷ []))
      × (printed "put 0 1 0aFF" s few ≡ behind (ascii "put " ∷ decimal 0 ∷ [])) × (printed "put 0 4 00" s few ≡ behind (ascii "?" ∷ []))
  unfolding call_text listed_text is_part put_line call_made has_room answer_line fourth_span call_of call_from words_of line_word_at span_at until_same until_other name_of packed numeral_of value_of digit_of is_pairs all_digits make_call put_call set_call attention_call step_call bare_call show_call list_call sweep_call fits_register fits_own values_of
  parts-printed = (refl, refl, refl, refl, refl)

-- a part has at most 1,024 bytes
pub parts-most : (is_part (replicate 1100 0) 0 1024 ≡ true) × (is_part (replicate 1100 0) 0 1025 ≡ false)
unfolding is_part
parts-most = (refl, refl)

-- why a call is not made: the line is none, a byte of `put` would lie past the end, or what `list` names is no part
pub calls-not-made : map (λ (text : String). not_made (call_of (ascii text))) ("calls" ∷ "put 0 4 00" ∷ "list 0 0 5" ∷ []) ≡ NoCall ∷ PastTheEnd ∷ NoPart ∷ []
unfolding not_made call_of call_from words_of line_word_at span_at until_same until_other name_of packed numeral_of value_of digit_of is_pairs all_digits make_call put_call set_call attention_call step_call bare_call show_call list_call sweep_call fits_register fits_own values_of
calls-not-made = refl
