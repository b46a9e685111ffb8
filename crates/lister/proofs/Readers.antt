-- The reader: what it hands out in turn are the lines of the listing, and what it hands out and where it then stands is one; so its contract says, as the prover made it of the source.
-- Assumes nothing.
use mathlib.Core.Path.{◌≡◌, refl, sym, ap, ap₂, ◌∙◌}
use mathlib.Core.List.{List, [], ◌∷◌}
use Prim.Native.Nat.{ℕ, ◌+◌}
use borrow.Fn.Kinds.{Dens, ended_of, res_t}
use contract.Lifetimes.{Lfts}
use denote.Triple.Clauses.{AtExit}
use native.Mathlib.Decide.{ℕ_discrete}
use native.Mathlib.Nat.{add_assoc}
use native.Mathlib.Omega.{arith}
use lib.ListN.{length, take, drop}
use lib.Seq.{drop-drop}
use Rattle.std.specs.Prelude.{Option, Some, None}
use Rattle.listing_rules.proofs.ListLaws.{lines_next, lines_none}
use Rattle.listing_rules.proofs.RowLaws.{count-some}
use Rattle.listing_rules.specs.Items.{item_of, count_of, behind_of}
use Rattle.listing_rules.specs.Listings.{TextLine, chars_of, line_at, lines_of}
use Rattle.listing_rules.specs.declared.Item.{Item}
use Rattle.listing_rules.specs.declared.Item.TheVariants.{Whole, Byte, End}
use Rattle.lister.specs.Readers.{handed, HandsOut}
use Rattle.lister.proofs.StepLaws.{nothing-there}
use Rattle.lister.specs.declared.reading.Reader.{Reader}
use Rattle.lister.proofs.reading.Reader.new.Kinds as new-kinds
use Rattle.lister.proofs.reading.Reader.new.Reads as new-reads
use Rattle.lister.proofs.reading.ReaderIterator.next.Kinds as next-kinds
use Rattle.lister.proofs.reading.ReaderIterator.next.Reads as next-reads

-- the line of what is handed out at the head of some bytes, before the lines behind it; where nothing is there is none
abbrev pub line_before : ℕ → List ℕ → Option Item → List TextLine → List TextLine
line_before address bytes None rest = []
line_before address bytes (Some i) rest = record { bytes = take (count_of i) bytes; chars = chars_of address bytes i } ∷ rest

-- the lines of the listing from a reader's place on; `first` is the address of the first byte of all
abbrev pub lines_from : ℕ → Reader → List TextLine
lines_from first r = lines_of (first + r.at) (drop r.at r.code.now)

before-is : (address : ℕ) (bytes : List ℕ) (i : Item) (rest : List TextLine) → (count_of i ≡ 0 → ⊥)
    → record { bytes = take (count_of i) bytes; chars = chars_of address bytes i } ∷ rest ≡ line_before address bytes (handed i) rest
before-is address bytes (Whole shape to count) rest some = refl
before-is address bytes Byte rest some = refl
before-is address bytes End rest some = absurd (some refl)

-- from a place on: the line of what stands there, and the lines from the place behind it
turn : (first : ℕ) (code : List ℕ) (at : ℕ)
    → lines_of (first + at) (drop at code) ≡ line_before (first + at) (drop at code) (handed (item_of (drop at code))) (lines_of (first + behind_of code at) (drop (behind_of code at) code))
unfolding behind_of line_at
turn first code at = go (ℕ_discrete (length (drop at code)) 0)
  where
    go : Dec (length (drop at code) ≡ 0) → lines_of (first + at) (drop at code) ≡ line_before (first + at) (drop at code) (handed (item_of (drop at code))) (lines_of (first + (at + count_of (item_of (drop at code)))) (drop (at + count_of (item_of (drop at code))) code))
    go (yes e) = lines_none (first + at) (drop at code) e ∙ sym (ap (λ (i : Item). line_before (first + at) (drop at code) (handed i) (lines_of (first + (at + count_of (item_of (drop at code)))) (drop (at + count_of (item_of (drop at code))) code))) (nothing-there (drop at code) e))
    go (no ne) =
        let n = count_of (item_of (drop at code)) in
        lines_next (first + at) (drop at code) ne
        ∙ ap₂ (λ (a : ℕ) (rest : List ℕ). line_at (first + at) (drop at code) ∷ lines_of a rest) (add_assoc first at n) (drop-drop n at code)
        ∙ before-is (first + at) (drop at code) (item_of (drop at code)) (lines_of (first + (at + n)) (drop (at + n) code)) (λ z. omega (arith, z, count-some (drop at code) ne))

-- the lines of the listing from a place on are the line of what is handed out there, and those from where the reader then stands; at the end there are none
handed-line : (first : ℕ) (before : Reader) (given : Option Item) (after : Reader) → HandsOut before given after
    → lines_from first before ≡ line_before (first + before.at) (drop before.at before.code.now) given (lines_from first after)
handed-line first before given after h = rw (h.item, h.code, h.place) (turn first before.code.now before.at)

-- what it hands out is one, and so is where it then stands
pub one-handed : (before : Reader) (given other : Option Item) (after behind : Reader) → HandsOut before given after → HandsOut before other behind → (given ≡ other) × (after ≡ behind)
one-handed before given other after behind h k =
    (h.item ∙ sym k.item, λ i. record { code = (h.code ∙ sym k.code) i; at = (h.place ∙ sym k.place) i })

-- that is what the contract of `next` says, as the prover made it of the source
pub next-hands : (κs : Lfts 2) (a : Dens κs next-kinds.ps) (r : (res_t next-kinds.r κs).Denot) (e : AtExit (ended_of 2 next-kinds.ps next-kinds.r) κs) → next-reads.Post κs a r e → HandsOut a.0.now r e.0.now
next-hands κs a r e p = p.0

-- so what `next` hands out is the first line of the listing from its place on, before the lines from where the reader then stands; at the end there are none
pub handed_out : (first : ℕ) (κs : Lfts 2) (a : Dens κs next-kinds.ps) (r : (res_t next-kinds.r κs).Denot) (e : AtExit (ended_of 2 next-kinds.ps next-kinds.r) κs) → next-reads.Post κs a r e
    → lines_from first a.0.now ≡ line_before (first + a.0.now.at) (drop a.0.now.at a.0.now.code.now) r (lines_from first e.0.now)
handed_out first κs a r e p = handed-line first a.0.now r e.0.now (next-hands κs a r e p)

-- so of two answers that meet it both what is handed out and the readers are the same
pub one-next : (κs : Lfts 2) (a : Dens κs next-kinds.ps) (r s : (res_t next-kinds.r κs).Denot) (e f : AtExit (ended_of 2 next-kinds.ps next-kinds.r) κs)
    → next-reads.Post κs a r e → next-reads.Post κs a s f → (r ≡ s) × (e.0.now ≡ f.0.now)
one-next κs a r s e f p q = one-handed a.0.now r s e.0.now f.0.now p.0 q.0

-- a reader begins at the place that it is given, so from 0 on these are all lines of the listing
pub begun-at : (κs : Lfts 1) (a : Dens κs new-kinds.ps) (q : (res_t new-kinds.r κs).Denot) (e : AtExit (ended_of 1 new-kinds.ps new-kinds.r) κs) → new-reads.Post κs a q e → (q.code.now ≡ a.0.now) × (q.at ≡ a.1.0)
begun-at κs a q e p = (ap (λ x. x.now) p.0, p.1)

-- and it is one
pub one_reader : (κs : Lfts 1) (a : Dens κs new-kinds.ps) (q p : (res_t new-kinds.r κs).Denot) (e f : AtExit (ended_of 1 new-kinds.ps new-kinds.r) κs) → new-reads.Post κs a q e → new-reads.Post κs a p f → q ≡ p
one_reader κs a q p e f m n = λ i. record { code = (m.0 ∙ sym n.0) i; at = (m.1 ∙ sym n.1) i }
