-- The tests of a state's bytes in the code's order come to those of the rules.
-- Assumes nothing.
use Prim.Native.Nat.{ℕ, ◌+◌}
use borrow.Author.Tests.{eq-eqb}
use lib.Dec.{eqb}
use lib.ListN.{length, get_or}
use mathlib.Core.Bool.{and_assoc, Bool, true, false, ◌&&◌}
use mathlib.Core.List.{List}
use mathlib.Core.Path.{◌≡◌, refl, ap, ap₂, ◌∙◌}
use native.Mathlib.Nat.{add_assoc}
use Rattle.ground_rules.proofs.ChoiceLaws.{and-true, both_left, both_right}
use Rattle.ground_rules.specs.Holdings.{is_held_number}
use Rattle.state_rules.specs.Fields.{little_in, is_flag, is_mode, is_code}
use Rattle.state_rules.specs.Layout.{mode_place, fields_place, held_place, match_place, last_place, first_at, second_from, is_pointer_at, is_fields, is_block, is_board, is_state, state_length, version}
use Rattle.state_bytes.specs.Tests.{tags_fit, flags_fit, codes_fit}

-- ---- the same tests in another order

-- one test behind the next
swap : (x y z : Bool) → x && (y && z) ≡ y && (x && z)
swap true y z = refl
swap false true z = refl
swap false false z = refl

-- behind the next three
behind-three : (x a b c z : Bool) → x && (a && (b && (c && z))) ≡ a && (b && (c && (x && z)))
behind-three x a b c z =
    swap x a (b && (c && z))
    ∙ ap (λ (t : Bool). a && t) (swap x b (c && z) ∙ ap (λ (t : Bool). b && t) (swap x c z))

-- two rows of tests by pairs
pairs : (x xs y ys : Bool) → x && xs && (y && ys) ≡ x && y && (xs && ys)
pairs true xs y ys = swap xs y ys
pairs false xs y ys = refl

-- of five tests each
in_pairs : (a b c d e a' b' c' d' e' : Bool)
    → a && (b && (c && (d && e))) && (a' && (b' && (c' && (d' && e')))) ≡ a && a' && (b && b' && (c && c' && (d && d' && (e && e'))))
in_pairs a b c d e a' b' c' d' e' =
    pairs a (b && (c && (d && e))) a' (b' && (c' && (d' && e')))
    ∙ ap (λ (t : Bool). a && a' && t)
    (pairs b (c && (d && e)) b' (c' && (d' && e'))
    ∙ ap (λ (t : Bool). b && b' && t) (pairs c (d && e) c' (d' && e') ∙ ap (λ (t : Bool). c && c' && t) (pairs d e d' e')))

-- ---- tests of one kind, joined as the code joins them

pub board-by : (b : List ℕ) → is_flag b 6 && is_flag b 7 && is_flag b 8 && is_flag b 9 ≡ is_board b
unfolding is_board
board-by b = simp (and_assoc, and-true)

pub tags-by : (b : List ℕ) (at : ℕ) → is_flag b (at + 4) && is_flag b (at + 9) && is_flag b (at + 14) && is_flag b (at + 19) && is_flag b (at + 34) ≡ tags_fit b at
unfolding tags_fit is_pointer_at
tags-by b at = simp (and_assoc, and-true, add_assoc)

pub flags-by : (b : List ℕ) (at : ℕ) → is_flag b at && is_flag b (at + 1) && is_flag b (at + 2) && is_flag b (at + 4) && is_flag b (at + 5) && is_flag b (at + 6) ≡ flags_fit b at
unfolding flags_fit
flags-by b at = simp (and_assoc, and-true)

pub codes-by : (b : List ℕ) (at : ℕ) → is_code b (at + 3) 4 && is_code b (at + 7) 4 && is_code b (at + 8) 4 ≡ codes_fit b at
unfolding codes_fit
codes-by b at = simp (and_assoc, and-true)

-- where neither block holds a byte both numbers stand for something
pub none-held : (x y : ℕ) → eqb x 0 && eqb y 0 ≡ true → is_held_number x && is_held_number y ≡ true
unfolding is_held_number
none-held x y h = rw (both_left (eqb x 0) (eqb y 0) h, both_right (eqb x 0) (eqb y 0) h)

-- ---- those of CC, of a block, and of a state

fields_fit : (b : List ℕ) (at : ℕ) → is_fields b at ≡ flags_fit b at && (codes_fit b at && is_code b (at + match_place) 8)
unfolding is_fields flags_fit codes_fit
fields_fit b at =
    simp (and_assoc, and-true)
    (ap (λ (t : Bool). is_flag b at && (is_flag b (at + 1) && (is_flag b (at + 2) && t)))
    (behind-three (is_code b (at + 3) 4) (is_flag b (at + 4)) (is_flag b (at + 5)) (is_flag b (at + 6)) (is_code b (at + 7) 4 && (is_code b (at + 8) 4 && is_code b (at + 9) 8))))

-- a block's tags, its armed mark and its flags of CC are truth values
abbrev truths : List ℕ → ℕ → Bool
truths b at = tags_fit b at && flags_fit b (at + fields_place)

-- its TMC has three bits
abbrev eight : List ℕ → ℕ → Bool
eight b at = is_code b (at + fields_place + match_place) 8

-- its mode is one
abbrev mode : List ℕ → ℕ → Bool
mode b at = is_mode b (at + mode_place)

-- a number stands for what it holds
abbrev held : List ℕ → ℕ → Bool
held b at = is_held_number (little_in 2 b (at + held_place))

block-fits : (b : List ℕ) (at : ℕ) → is_block b at ≡ truths b at && (codes_fit b (at + fields_place) && (eight b at && (mode b at && held b at)))
unfolding is_block tags_fit
block-fits b at =
    let tags : Bool → Bool = λ t. is_pointer_at b at && (is_pointer_at b (at + 5) && (is_pointer_at b (at + 10) && (is_pointer_at b (at + 15) && t))) in
    let armed = is_flag b (at + 34) in
    let flags = flags_fit b (at + fields_place) in
    let codes = codes_fit b (at + fields_place) in
    simp (fields_fit b (at + fields_place), and_assoc, and-true)
    (ap tags (behind-three (mode b at) armed flags codes (eight b at && held b at) ∙ ap (λ (t : Bool). armed && (flags && (codes && t))) (swap (mode b at) (eight b at) (held b at))))

-- every byte but those of what is held is in its range
abbrev pub forms_fit : List ℕ → Bool
forms_fit b =
    eqb (get_or b 0 0) version
    && (is_flag b last_place && is_board b && truths b first_at && truths b second_from)
    && (codes_fit b (first_at + fields_place) && codes_fit b (second_from + fields_place))
    && (eight b first_at && eight b second_from)
    && (mode b first_at && mode b second_from)

-- so are those, of both blocks
abbrev both_held : List ℕ → Bool
both_held b = held b first_at && held b second_from

state-fits : (b : List ℕ) → is_state b ≡ eqb (length b) state_length && (forms_fit b && both_held b)
unfolding is_state is_board
state-fits b =
    let front : Bool → Bool = λ t. eqb (length b) state_length && (eqb (get_or b 0 0) version && (is_flag b last_place && (is_board b && t))) in
    ap (λ (t : Bool). front (is_block b first_at && t)) (and-true (is_block b second_from))
    ∙ ap front
    (ap₂ ◌&&◌ (block-fits b first_at) (block-fits b second_from)
    ∙ in_pairs (truths b first_at) (codes_fit b (first_at + fields_place)) (eight b first_at) (mode b first_at) (held b first_at) (truths b second_from) (codes_fit b (second_from + fields_place)) (eight b second_from) (mode b second_from) (held b second_from))
    ∙ simp and_assoc

-- of so many bytes what is held is asked behind all else
pub held-last : (b : List ℕ) → length b ≡ state_length → (fit : Bool) → forms_fit b ≡ fit → fit && both_held b ≡ is_state b
held-last b e fit h = rw (state-fits b, eq-eqb (length b) state_length e, h)
