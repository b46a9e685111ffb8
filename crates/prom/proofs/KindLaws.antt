-- The laws of a record's type: its number is that of the record.
-- Assumes nothing.
use Prim.Native.Nat.{ℕ, zero, suc}
use mathlib.Core.Path.{◌≡◌, refl, sym, ap, ◌∙◌}
use Rattle.prom_rules.specs.Records.{hex_bytes, type_of}
use Rattle.prom.specs.Parts.{type_number}
use Rattle.prom.specs.declared.records.Record.{Record}
use Rattle.prom.specs.declared.records.RecordKind.{RecordKind}
use Rattle.prom.specs.declared.records.RecordKind.TheVariants.{Data, End, Segment, Start}

-- two types with one number are one
same-kind : (k l : RecordKind) → type_number k ≡ type_number l → k ≡ l
same-kind k l e = sym (back k) ∙ ap of e ∙ back l
  where
    of : ℕ → RecordKind
    of zero = Data
    of (suc zero) = End
    of (suc (suc zero)) = Segment
    of (suc (suc (suc n))) = Start

    back : (k : RecordKind) → of (type_number k) ≡ k
    back Data = refl
    back End = refl
    back Segment = refl
    back Start = refl

pub kind-of : (r : Record) (k : RecordKind) → r.kind ≡ k → type_of (hex_bytes r.digits.now) ≡ type_number k
kind-of r k e = sym r.typed ∙ ap type_number e

pub not-kind : (r : Record) (k : RecordKind) → (r.kind ≡ k → ⊥) → type_of (hex_bytes r.digits.now) ≡ type_number k → ⊥
not-kind r k ne e = ne (same-kind r.kind k (r.typed ∙ e))
