-- A frame as it is cut from a text.
use Rattle.std.specs.Prelude.{ℕ, ◌<◌, length, List, ◌∷◌, ◌≡◌, Option, Result, MatchOption, MatchResult}
use Rattle.prom_rules.specs.File.{next_line}
use Rattle.prom_rules.specs.Records.{line_refusal}
use Rattle.prom_rules.specs.Text.{hex_lines}
use Rattle.prom.specs.Parts.{first_line}
use Rattle.prom.specs.Refusals.{reason_number}
use Rattle.prom.specs.declared.records.Frame.{Frame}
use Rattle.prom.specs.declared.records.Frames.{Frames}
use Rattle.prom.specs.declared.refusals.LoadRefusal.{LoadRefusal}

-- the digits of a frame behind their colon
abbrev pub frame_line : Frame → List ℕ
frame_line frame = 58 ∷ frame.digits.now

-- a text begins with a frame, and `rest` stands behind its line end: the frame has the number of the text's first line, and is that line where it is good
pub record Framed (text : List ℕ) (frame : Frame) (rest : List ℕ) : Type 0 where
  pub same : line_refusal (first_line text) ≡ line_refusal (frame_line frame)
  pub lines : line_refusal (frame_line frame) ≡ 0 → hex_lines text ≡ frame_line frame ∷ hex_lines rest
  pub shorter : length rest < length text

-- a call gives the frame that the text begins with, or why there is none, and the number of its line; at the end of the text it gives nothing
abbrev pub GivesFrame : Frames → Option (Result Frame LoadRefusal) → Frames → Type 0
GivesFrame before given after =
    MatchOption given (length before.rest.now ≡ 0)
    (λ read. (after.line ≡ next_line before.line) × MatchResult read
    (λ frame. (frame.line ≡ after.line) × Framed before.rest.now frame after.rest.now)
    (λ refused. (refused.line ≡ after.line) × (0 < length before.rest.now) × (reason_number refused.why ≡ line_refusal (first_line before.rest.now))))
