-- A listing that the call for C made, given to the assembler for C, comes back as the listed bytes: said of the contracts that the prover made of both calls.
-- Assumes nothing.
use borrow.Fn.Kinds.{Dens, ended_of, res_t}
use contract.Lifetimes.{Lfts}
use denote.Triple.Clauses.{AtExit}
use mathlib.Core.Path.{◌≡◌, refl, sym, ap, ◌∙◌}
use mathlib.Core.List.{List, ◌++◌}
use Prim.Native.Nat.{ℕ, ◌*◌, ◌≤◌}
use native.Mathlib.Omega.{arith}
use lib.ListN.{length, take, drop}
use lib.Seq.{take_all}
use borrow.Author.Tests.{le-leb}
use Rattle.listing_rules.specs.Listings.{Listing, lines_of, all_chars, listing_of}
use Rattle.listing_rules.proofs.SpellingLaws.{Bytes}
use Rattle.listing_rules.proofs.Theorems.{all_fit}
use Rattle.assembly_rules.specs.Assembly.{assembled, assemble_of, assembled_into}
use Rattle.assembler.specs.Passes.{assembly_word}
use Rattle.text_calls.proofs.Told.{list-told, list-bytes, assemble-told}
use Rattle.text_calls.proofs.iop89_list.Kinds as list-kinds
use Rattle.text_calls.proofs.iop89_list.Reads as list-reads
use Rattle.text_calls.proofs.iop89_assemble.Kinds as assemble-kinds
use Rattle.text_calls.proofs.iop89_assemble.Reads as assemble-reads
use Rattle.promises_assembly.proofs.RoundTrip.{listing-back}

-- a text that is done, in the answer and in the buffer
done-word : (bytes : List ℕ) → length bytes ≤ 1048576 → assembly_word (assembled 0 0 bytes) ≡ length bytes * 4294967296
unfolding assembly_word
done-word bytes h = rw (le-leb (length bytes) 4294967295 (omega arith)) (omega arith)

done-buffer : (buffer bytes : List ℕ) → assembled_into buffer (assembled 0 0 bytes) ≡ bytes ++ drop (length bytes) buffer
unfolding assembled_into
done-buffer buffer bytes = refl

-- a listing and an assembly: the listed bytes, the first address and the text's buffer of the one, what it answered and left; the text, the first address and the room of the other
module _ (κs : Lfts 2) (a : Dens κs list-kinds.ps) (r : (res_t list-kinds.r κs).Denot) (e : AtExit (ended_of 2 list-kinds.ps list-kinds.r) κs) (listed : list-reads.Post κs a r e)
    (λs : Lfts 2) (b : Dens λs assemble-kinds.ps) (s : (res_t assemble-kinds.r λs).Denot) (f : AtExit (ended_of 2 assemble-kinds.ps assemble-kinds.r) λs) (made : assemble-reads.Post λs b s f) where
  -- of at most 1,048,576 bytes whose lines all fit the buffer: assembled from the same address into as much room, they stand in the room, and nothing else changes there
  pub calls_back : length a.0.now ≤ 1048576 → length (all_chars (lines_of a.1.0 a.0.now)) ≤ length a.1.1.0.now
      → b.0.now ≡ take (length (all_chars (lines_of a.1.0 a.0.now))) e.1.1.0.now → b.1.0 ≡ a.1.0 → length a.0.now ≤ length b.1.1.0.now
      → (s ≡ length a.0.now * 4294967296) × (f.1.1.0.now ≡ a.0.now ++ drop (length a.0.now) b.1.1.0.now)
  unfolding Bytes
  calls_back small fits text first room = (told.0 ∙ ap assembly_word back ∙ done-word x small, told.1 ∙ ap (assembled_into b.1.1.0.now) back ∙ done-buffer b.1.1.0.now x)
    where
      x : List ℕ
      x = a.0.now

      l : Listing
      l = listing_of x a.1.0 a.1.1.0.now

      count : l.characters ≡ length (all_chars (lines_of a.1.0 x))
      count = ap (λ (k : Listing). k.characters) (all_fit x a.1.1.0.now a.1.0 small fits)

      stop : l.stop ≡ length x
      stop = ap (λ (k : Listing). k.stop) (all_fit x a.1.1.0.now a.1.0 small fits)

      told : (s ≡ assembly_word (assemble_of b.0.now b.1.0 (length b.1.1.0.now))) × (f.1.1.0.now ≡ assembled_into b.1.1.0.now (assemble_of b.0.now b.1.0 (length b.1.1.0.now)))
      told = assemble-told λs b s f made

      back : assemble_of b.0.now b.1.0 (length b.1.1.0.now) ≡ assembled 0 0 x
      back =
          let same = text ∙ ap (λ (k : ℕ). take k e.1.1.0.now) (sym count) ∙ ap (take l.characters) (list-told κs a r e listed).1 in
          ap (λ (t : List ℕ). assemble_of t b.1.0 (length b.1.1.0.now)) same
          ∙ ap (λ (n : ℕ). assemble_of (take l.characters l.buffer) n (length b.1.1.0.now)) first
          ∙ listing-back x a.1.1.0.now a.1.0 (length b.1.1.0.now) (list-bytes κs a r e listed) (omega (arith, stop, room))
          ∙ ap (assembled 0 0) (ap (λ (k : ℕ). take k x) stop ∙ take_all (length x) x (omega arith))
