-- The two kinds of lines of a trace, in ASCII: that of a done step (§9.2), and the last (§9.3).
use Rattle.std.specs.Prelude.{false, List, [], ◌∷◌, ◌++◌, ℕ}
use Rattle.ground_rules.specs.States.{channel_of, is_second}
use Rattle.page.specs.Numbers.{hex, decimal, letter}
use Rattle.turn_rules.specs.Step.{Step}
use Rattle.turn_rules.specs.declared.Kind.{Kind}

-- the line of a step: its number, the channel, the kind, TP as five hexadecimal digits in capitals, and a line feed
unfoldable pub line_of : ℕ → ℕ → Kind → ℕ → List ℕ
line_of number channel kind tp =
    decimal number ++ (32 ∷ (decimal channel ++ (32 ∷ letter kind ∷ 32 ∷ (hex false 5 tp ++ (10 ∷ [])))))

-- the line of what a step left: TP is that of the channel that stepped, after the step
unfoldable pub step_line : ℕ → Step → List ℕ
step_line number o = line_of number o.channel o.kind (channel_of o.state (is_second o.channel)).tp.address

-- the last line: `end`, the number that stopped the run, and the count of done steps
unfoldable pub end_line : ℕ → ℕ → List ℕ
end_line number steps = 101 ∷ 110 ∷ 100 ∷ 32 ∷ (decimal number ++ (32 ∷ (decimal steps ++ (10 ∷ []))))
