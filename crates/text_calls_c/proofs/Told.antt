-- What an exported load, listing and assembly answer and leave is that of the rules, with each argument in its place: said of the exported functions' own contracts,
-- those that the prover made, by the theorems of text_calls, whose functions have the same contracts.
-- Assumes nothing.
use borrow.Fn.Kinds.{Dens, ended_of, res_t}
use contract.Lifetimes.{Lfts}
use denote.Triple.Clauses.{AtExit}
use mathlib.Core.List.{[]}
use mathlib.Core.Path.{◌≡◌}
use Prim.Native.Nat.{ℕ, ◌+◌, ◌*◌, ◌<◌}
use lib.ListN.{length, get_or}
use Rattle.ground_rules.specs.Buffers.{buffers}
use Rattle.prom_rules.specs.Load.{word_for_c, packed_with, load_of}
use Rattle.listing_rules.specs.Listings.{listing_of}
use Rattle.assembly_rules.specs.Assembly.{assemble_of, assembled_into}
use Rattle.assembler.specs.Passes.{assembly_word}
use Rattle.text_calls.proofs.Told as of-library
use Rattle.text_calls_c.proofs.iop89_load.Kinds as load-kinds
use Rattle.text_calls_c.proofs.iop89_load.Reads as load-reads
use Rattle.text_calls_c.proofs.iop89_list.Kinds as list-kinds
use Rattle.text_calls_c.proofs.iop89_list.Reads as list-reads
use Rattle.text_calls_c.proofs.iop89_assemble.Kinds as assemble-kinds
use Rattle.text_calls_c.proofs.iop89_assemble.Reads as assemble-reads

-- the text and system memory
pub load_told : (κs : Lfts 2) (a : Dens κs load-kinds.ps) (r : (res_t load-kinds.r κs).Denot) (e : AtExit (ended_of 2 load-kinds.ps load-kinds.r) κs)
    → load-reads.Post κs a r e
    → let loaded = load_of a.0.now (buffers a.1.0.now []) in
    packed_with r (buffers e.1.0.now []) ≡ packed_with (word_for_c loaded) loaded.memory
load_told κs a r e p = of-library.load_told κs a r e p

-- the code, the first address and the buffer
pub list-told : (κs : Lfts 2) (a : Dens κs list-kinds.ps) (r : (res_t list-kinds.r κs).Denot) (e : AtExit (ended_of 2 list-kinds.ps list-kinds.r) κs)
    → list-reads.Post κs a r e
    → let listed = listing_of a.0.now a.1.0 a.1.1.0.now in
    (r ≡ listed.stop * 4294967296 + listed.characters) × (e.1.1.0.now ≡ listed.buffer)
list-told κs a r e p = of-library.list-told κs a r e p

-- what is lent to be listed are bytes
pub list-bytes : (κs : Lfts 2) (a : Dens κs list-kinds.ps) (r : (res_t list-kinds.r κs).Denot) (e : AtExit (ended_of 2 list-kinds.ps list-kinds.r) κs)
    → list-reads.Post κs a r e → (i : ℕ) → get_or a.0.now i 0 < 256
list-bytes κs a r e p = of-library.list-bytes κs a r e p

-- so of a listing too two answers that meet the contract are the same
pub list-one : (κs : Lfts 2) (a : Dens κs list-kinds.ps) (r s : (res_t list-kinds.r κs).Denot) (x y : AtExit (ended_of 2 list-kinds.ps list-kinds.r) κs)
    → list-reads.Post κs a r x → list-reads.Post κs a s y → (r ≡ s) × (x.1.1.0.now ≡ y.1.1.0.now)
list-one κs a r s x y p q = of-library.list-one κs a r s x y p q

-- the text, the first address and the buffer
pub assemble-told : (κs : Lfts 2) (a : Dens κs assemble-kinds.ps) (r : (res_t assemble-kinds.r κs).Denot) (e : AtExit (ended_of 2 assemble-kinds.ps assemble-kinds.r) κs)
    → assemble-reads.Post κs a r e
    → let done = assemble_of a.0.now a.1.0 (length a.1.1.0.now) in
    (r ≡ assembly_word done) × (e.1.1.0.now ≡ assembled_into a.1.1.0.now done)
assemble-told κs a r e p = of-library.assemble-told κs a r e p

pub assemble-one : (κs : Lfts 2) (a : Dens κs assemble-kinds.ps) (r s : (res_t assemble-kinds.r κs).Denot) (x y : AtExit (ended_of 2 assemble-kinds.ps assemble-kinds.r) κs)
    → assemble-reads.Post κs a r x → assemble-reads.Post κs a s y → (r ≡ s) × (x.1.1.0.now ≡ y.1.1.0.now)
assemble-one κs a r s x y p q = of-library.assemble-one κs a r s x y p q
