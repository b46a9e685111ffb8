-- The contract of each public function here, as the prover made it of the source, determines what it answers: two answers that meet it are the same.
-- Assumes nothing.
use borrow.Fn.Kinds.{Dens, res_t, ended_of}
use contract.Lifetimes.{Lfts}
use denote.Triple.Clauses.{AtExit}
use mathlib.Core.Path.{◌≡◌, sym, ◌∙◌}
use Rattle.listing_rules.specs.Listings.{listing}
use Rattle.lister.proofs.reading.read_at.Kinds as read-kinds
use Rattle.lister.proofs.reading.read_at.Reads as read-reads
use Rattle.lister.proofs.listings.list.Kinds as list-kinds
use Rattle.lister.proofs.listings.list.Reads as list-reads

pub read-determined : (κs : Lfts 1) (a : Dens κs read-kinds.ps) (r q : (res_t read-kinds.r κs).Denot) (e f : AtExit (ended_of 1 read-kinds.ps read-kinds.r) κs)
    → read-reads.Post κs a r e → read-reads.Post κs a q f → r ≡ q
read-determined κs a r q e f p w = p.0 ∙ sym w.0

pub list-determined : (κs : Lfts 2) (a : Dens κs list-kinds.ps) (r q : (res_t list-kinds.r κs).Denot) (e f : AtExit (ended_of 2 list-kinds.ps list-kinds.r) κs)
    → list-reads.Post κs a r e → list-reads.Post κs a q f → listing r.characters r.stop e.1.1.0.now ≡ listing q.characters q.stop f.1.1.0.now
list-determined κs a r q e f p w = p ∙ sym w
