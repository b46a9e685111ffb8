-- Operands in a row, as the code has them.
use Rattle.std.specs.Prelude.{Bool, true, false, ◌&&◌, List, [], ◌∷◌, ℕ, ◌+◌, ◌-◌, Option, Some, None, eqb, ltb, length, get_or}
use Rattle.ground_rules.specs.Choice.{pick}
use Rattle.assembly_rules.specs.Operands.{Written}
use Rattle.assembler_text.specs.declared.tokens.TokenFound.{TokenFound as Found}
use Rattle.assembler_text.specs.declared.tokens.TokenFound.TheVariants.{Run, Mark}
use Rattle.assembler_text.specs.Places.{stop_at, token_at}
use Rattle.assembler_forms.specs.declared.operands.Form.{Form}
use Rattle.assembler_forms.specs.declared.operands.Operands.{Operands}
use Rattle.assembler_forms.specs.Forms.{Formed}

-- a comma at a place, and the line's end
unfoldable pub comma_at : List ℕ → ℕ → Bool
comma_at text at = ltb at (length text) && eqb (get_or text at 0) 44

abbrev pub ends_by : Option Found → Bool
ends_by None = true
ends_by (Some (Run from to)) = false
ends_by (Some (Mark c next)) = false

unfoldable pub ends_at : List ℕ → ℕ → Bool
ends_at text at = ends_by (token_at text at)

-- the place behind the next comma of the line
unfoldable pub next_part : List ℕ → ℕ → Option ℕ
next_part text at = pick (comma_at text (stop_at text at)) (Some (stop_at text at + 1)) None

-- how far the text goes behind such a place
abbrev pub left_behind : List ℕ → Option ℕ → ℕ
left_behind text (Some i) = 1 + (length text - i)
left_behind text None = 0

-- up to three operands that are some, none behind them
pub data FormsAre (text : List ℕ) : List (Option Form) → List Written → Type 0 where
  none : FormsAre text (None ∷ None ∷ None ∷ []) []
  one : {f : Form} {u : Written} → Formed text (Some f) u → FormsAre text (Some f ∷ None ∷ None ∷ []) (u ∷ [])
  two : {f g : Form} {u v : Written} → Formed text (Some f) u → Formed text (Some g) v → FormsAre text (Some f ∷ Some g ∷ None ∷ []) (u ∷ v ∷ [])
  three : {f g h : Form} {u v w : Written} → Formed text (Some f) u → Formed text (Some g) v → Formed text (Some h) w → FormsAre text (Some f ∷ Some g ∷ Some h ∷ []) (u ∷ v ∷ w ∷ [])

-- operands by how many there are, 4 for more than three, and the first three, which may be none; none behind the last
pub data RowIs (text : List ℕ) : ℕ → List (Option Form) → List Written → Type 0 where
  none : RowIs text 0 (None ∷ None ∷ None ∷ []) []
  one : {f : Option Form} {u : Written} → Formed text f u → RowIs text 1 (f ∷ None ∷ None ∷ []) (u ∷ [])
  two : {f g : Option Form} {u v : Written} → Formed text f u → Formed text g v → RowIs text 2 (f ∷ g ∷ None ∷ []) (u ∷ v ∷ [])
  three : {f g h : Option Form} {u v w : Written} → Formed text f u → Formed text g v → Formed text h w → RowIs text 3 (f ∷ g ∷ h ∷ []) (u ∷ v ∷ w ∷ [])
  more : {f g h : Option Form} {u v w x : Written} {ws : List Written} → Formed text f u → Formed text g v → Formed text h w → RowIs text 4 (f ∷ g ∷ h ∷ []) (u ∷ v ∷ w ∷ x ∷ ws)

-- operands as the code has them
abbrev pub OperandRow : List ℕ → Operands → List Written → Type 0
OperandRow text o ws = RowIs text o.count o.forms ws
