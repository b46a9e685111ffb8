-- The loop's invariant: packing the rest gives the whole name.
use Prim.Native.Nat.{◌*◌, ◌^◌, ◌<◌}
use lib.ListN.{drop}
use mathlib.Core.Path.{◌≡◌}
use Rattle.script_text.specs.Names.{packed}
use Rattle.script_text.proofs.text.name.Given as goal

abbrev pub invariant-loop-byte : goal.invariant-loop-byte
invariant-loop-byte l = record { fits : l.name < 2 * 256 ^ l.byte-index; whole : packed l.name (drop l.byte-index l.w) ≡ packed 1 l.w }
