-- Lines of a trace, character by character.
-- Assumes nothing.
use mathlib.Core.List.{[], ◌∷◌}
use mathlib.Core.Bool.{true, false}
use mathlib.Core.Path.{◌≡◌, refl}
use Rattle.page.specs.Numbers.{glyph, eight_digits, hex, ten_digits, unpadded, decimal, letter}
use Rattle.turn_rules.specs.declared.Kind.TheVariants.{Nothing, Instruction, Transfer, External}
use Rattle.trace_text.specs.Line.{line_of, end_line}

-- `1 2 I ABCDE`, `20 1 T 00013`, `1000 2 X F0000`, and a dot for the kind of no step
pub steps-shown :
    (line_of 1 2 Instruction 0xabcde ∷ line_of 20 1 Transfer 0x13 ∷ line_of 1000 2 External 0xf0000 ∷ line_of 0 0 Nothing 0x6789f ∷ [])
    ≡ (49 ∷ 32 ∷ 50 ∷ 32 ∷ 73 ∷ 32 ∷ 65 ∷ 66 ∷ 67 ∷ 68 ∷ 69 ∷ 10 ∷ [])
    ∷ (50 ∷ 48 ∷ 32 ∷ 49 ∷ 32 ∷ 84 ∷ 32 ∷ 48 ∷ 48 ∷ 48 ∷ 49 ∷ 51 ∷ 10 ∷ [])
    ∷ (49 ∷ 48 ∷ 48 ∷ 48 ∷ 32 ∷ 50 ∷ 32 ∷ 88 ∷ 32 ∷ 70 ∷ 48 ∷ 48 ∷ 48 ∷ 48 ∷ 10 ∷ [])
    ∷ (48 ∷ 32 ∷ 48 ∷ 32 ∷ 46 ∷ 32 ∷ 54 ∷ 55 ∷ 56 ∷ 57 ∷ 70 ∷ 10 ∷ [])
    ∷ []
unfolding line_of letter decimal unpadded ten_digits hex eight_digits glyph
steps-shown = refl

-- `end 3 1000` and `end 12 0`
pub ends-shown :
    (end_line 3 1000 ∷ end_line 12 0 ∷ [])
    ≡ (101 ∷ 110 ∷ 100 ∷ 32 ∷ 51 ∷ 32 ∷ 49 ∷ 48 ∷ 48 ∷ 48 ∷ 10 ∷ []) ∷ (101 ∷ 110 ∷ 100 ∷ 32 ∷ 49 ∷ 50 ∷ 32 ∷ 48 ∷ 10 ∷ []) ∷ []
unfolding end_line decimal unpadded ten_digits
ends-shown = refl

-- the last ten decimal digits and the last eight hexadecimal ones, in small letters too
pub numbers-shown :
    (decimal 4294967295 ∷ decimal 1023456789 ∷ hex true 8 0x1234fedc ∷ hex false 8 0x98765abc ∷ hex true 4 0x56789 ∷ hex true 9 0 ∷ [])
    ≡ (52 ∷ 50 ∷ 57 ∷ 52 ∷ 57 ∷ 54 ∷ 55 ∷ 50 ∷ 57 ∷ 53 ∷ [])
    ∷ (49 ∷ 48 ∷ 50 ∷ 51 ∷ 52 ∷ 53 ∷ 54 ∷ 55 ∷ 56 ∷ 57 ∷ [])
    ∷ (49 ∷ 50 ∷ 51 ∷ 52 ∷ 102 ∷ 101 ∷ 100 ∷ 99 ∷ [])
    ∷ (57 ∷ 56 ∷ 55 ∷ 54 ∷ 53 ∷ 65 ∷ 66 ∷ 67 ∷ [])
    ∷ (54 ∷ 55 ∷ 56 ∷ 57 ∷ [])
    ∷ (48 ∷ 48 ∷ 48 ∷ 48 ∷ 48 ∷ 48 ∷ 48 ∷ 48 ∷ [])
    ∷ []
unfolding decimal unpadded ten_digits hex eight_digits glyph
numbers-shown = refl
