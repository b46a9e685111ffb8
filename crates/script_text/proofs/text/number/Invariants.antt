-- The loop's invariant: reading the rest gives the whole number.
use Prim.Native.Nat.{◌^◌, ◌<◌}
use lib.ListN.{drop}
use mathlib.Core.Path.{◌≡◌}
use Rattle.script_text.specs.Text.{value_of}
use Rattle.script_text.proofs.text.number.Given as goal

abbrev pub invariant-loop-byte : goal.invariant-loop-byte
invariant-loop-byte l = record { fits : l.number < 16 ^ l.byte-index; whole : value_of l.number (drop l.byte-index l.w) ≡ value_of 0 l.w }
