-- What `make` lends, and where the file behind `prom` ends, in the text of docs/SCRIPT.md.
-- Assumes nothing.
use mathlib.Core.Bool.{Bool, true, false}
use mathlib.Core.List.{List, [], ◌∷◌, ◌++◌, map}
use mathlib.Core.Path.{◌≡◌, refl}
use Prim.Native.Nat.{ℕ, ◌-◌, ◌≤◌}
use native.Mathlib.Omega.{arith}
use borrow.Author.Tests.{ltb-true}
use lib.Dec.{eqb, ltb}
use lib.ListN.{length, get_or, replicate}
use Rattle.ground_rules.specs.Choice.{pick}
use Rattle.script_text.specs.Text.{until_same}
use Rattle.script_text.specs.declared.text.ScriptCall.{ScriptCall}
use Rattle.script_text.specs.declared.text.ScriptCall.TheVariants.{Nothing, Unknown, Make, Put, Set, Attention, Step, Dump, Show, Listing, Load, Reset, PowerUp, Sweep}
use Rattle.script.specs.Lent.{lent_after}
use Rattle.script.specs.Lines.{content_end, closes_file, file_from, file_end}
use Rattle.script.specs.declared.LentLengths.{LentLengths}

-- `make` lends as many bytes as it names, and no other call changes what is lent
pub lends : (lent : LentLengths)
    → map (λ (call : ScriptCall). lent_after call lent) (Make 5 6 7 ∷ Nothing ∷ Unknown ∷ Put true 1 ∷ Set 1 2 3 ∷ Attention 1 ∷ Step 1 ∷ Dump ∷ Show true 1 ∷ Listing true 1 2 ∷ Load ∷ Reset ∷ PowerUp ∷ Sweep 1 2 ∷ [])
    ≡ record { sys = 5; io = 6 } ∷ replicate 13 lent
unfolding lent_after
lends lent = refl

-- the characters of `end`
abbrev end-word : List ℕ
end-word = 101 ∷ 110 ∷ 100 ∷ []

-- a file ends at the first line that is `end` alone, with LF or CR LF behind it or the text's end; else with the text
pub file-ends :
    map (λ (text : List ℕ). file_end text 1)
    ((10 ∷ 58 ∷ 10 ∷ end-word ++ (10 ∷ 58 ∷ [])) ∷ (10 ∷ 58 ∷ 10 ∷ end-word ++ (13 ∷ 10 ∷ [])) ∷ (10 ∷ 58 ∷ 10 ∷ end-word) ∷ (10 ∷ end-word ++ (10 ∷ []))
    ∷ (10 ∷ 58 ∷ 10 ∷ end-word ++ (32 ∷ 10 ∷ [])) ∷ (10 ∷ 58 ∷ end-word ++ (10 ∷ [])) ∷ (10 ∷ end-word ++ (13 ∷ [])) ∷ (10 ∷ 101 ∷ 110 ∷ 101 ∷ [])
    ∷ (10 ∷ 101 ∷ 101 ∷ 100 ∷ []) ∷ (10 ∷ 100 ∷ 110 ∷ 100 ∷ []) ∷ (10 ∷ 13 ∷ 10 ∷ end-word) ∷ (10 ∷ []) ∷ [])
    ≡ 3 ∷ 3 ∷ 3 ∷ 1 ∷ 8 ∷ 6 ∷ 5 ∷ 4 ∷ 4 ∷ 4 ∷ 3 ∷ 1 ∷ []
unfolding file_end file_from closes_file content_end until_same
file-ends = refl

-- the characters of a line end not before it begins, and not past its line feed
pub content-inside : (text : List ℕ) (at end : ℕ) → at ≤ end → (at ≤ content_end text at end) × (content_end text at end ≤ end)
unfolding content_end
content-inside text at end h = go (ltb at end) (ltb end (length text)) (eqb (get_or text (end - 1) 0) 13) refl
  where
    go : (a b c : Bool) → ltb at end ≡ a → (at ≤ pick a (pick b (pick c (end - 1) end) end) end) × (pick a (pick b (pick c (end - 1) end) end) end ≤ end)
    go true true true e = (omega (arith, ltb-true at end e), omega arith)
    go true true false e = (h, omega arith)
    go true false c e = (h, omega arith)
    go false b c e = (h, omega arith)
