-- The contract of each public call here, as the code has it, determines its outcome: two outcomes that meet it are the same.
-- Assumes nothing.
use borrow.Fn.Kinds.{Dens, res_t, ended_of}
use contract.Lifetimes.{Lfts}
use denote.Triple.Clauses.{AtExit}
use mathlib.Core.Path.{◌≡◌, sym, ◌∙◌}
use mathlib.Core.List.{[]}
use Rattle.ground_rules.specs.Buffers.{buffers}
use Rattle.ground_rules.specs.Refusals.{done_count}
use Rattle.transfer.proofs.transfer.Kinds as transfer-kinds
use Rattle.transfer.proofs.transfer.Reads as transfer-reads
use Rattle.transfer.specs.Moves.{transferred_by, left_by_move, moved_count}
use Rattle.transfer.proofs.comes_to.Kinds as comes-to-kinds
use Rattle.transfer.proofs.comes_to.Reads as comes-to-reads
use Rattle.transfer.proofs.is_half.Kinds as is-half-kinds
use Rattle.transfer.proofs.is_half.Reads as is-half-reads
use Rattle.transfer.proofs.bytes_fetched.Kinds as bytes-fetched-kinds
use Rattle.transfer.proofs.bytes_fetched.Reads as bytes-fetched-reads
use Rattle.transfer.proofs.bytes_read.Kinds as bytes-read-kinds
use Rattle.transfer.proofs.bytes_read.Reads as bytes-read-reads
use Rattle.transfer.proofs.external_end.Kinds as external-end-kinds
use Rattle.transfer.proofs.external_end.Reads as external-end-reads

pub transfer-determined : (κs : Lfts 2) (a : Dens κs transfer-kinds.ps) (r q : (res_t transfer-kinds.r κs).Denot) (e f : AtExit (ended_of 2 transfer-kinds.ps transfer-kinds.r) κs)
    → transfer-reads.Post κs a r e → transfer-reads.Post κs a q f → (transferred_by a.0 r (buffers e.1.0.now e.1.1.0.now) ≡ transferred_by a.0 q (buffers f.1.0.now f.1.1.0.now)) × (done_count r ≡ done_count q)
transfer-determined κs a r q e f p w = (p.0 ∙ sym w.0, p.1 ∙ sym w.1)

-- what a step comes to: what is left by it, and its count
pub comes-to-determined : (κs : Lfts 2) (a : Dens κs comes-to-kinds.ps) (r q : (res_t comes-to-kinds.r κs).Denot) (e f : AtExit (ended_of 2 comes-to-kinds.ps comes-to-kinds.r) κs)
    → comes-to-reads.Post κs a r e → comes-to-reads.Post κs a q f → (left_by_move a.0 r (buffers e.1.0.now e.1.1.0.now) ≡ left_by_move a.0 q (buffers f.1.0.now f.1.1.0.now)) × (moved_count r ≡ moved_count q)
comes-to-determined κs a r q e f p w = (p.0 ∙ sym w.0, p.1 ∙ sym w.1)

pub is-half-determined : (κs : Lfts 0) (a : Dens κs is-half-kinds.ps) (r q : (res_t is-half-kinds.r κs).Denot) (e f : AtExit (ended_of 0 is-half-kinds.ps is-half-kinds.r) κs)
    → is-half-reads.Post κs a r e → is-half-reads.Post κs a q f → r ≡ q
is-half-determined κs a r q e f p w = p ∙ sym w

pub bytes-fetched-determined : (κs : Lfts 0) (a : Dens κs bytes-fetched-kinds.ps) (r q : (res_t bytes-fetched-kinds.r κs).Denot) (e f : AtExit (ended_of 0 bytes-fetched-kinds.ps bytes-fetched-kinds.r) κs)
    → bytes-fetched-reads.Post κs a r e → bytes-fetched-reads.Post κs a q f → r ≡ q
bytes-fetched-determined κs a r q e f p w = p ∙ sym w

pub bytes-read-determined : (κs : Lfts 0) (a : Dens κs bytes-read-kinds.ps) (r q : (res_t bytes-read-kinds.r κs).Denot) (e f : AtExit (ended_of 0 bytes-read-kinds.ps bytes-read-kinds.r) κs)
    → bytes-read-reads.Post κs a r e → bytes-read-reads.Post κs a q f → r ≡ q
bytes-read-determined κs a r q e f p w = p (buffers [] []) ∙ sym (w (buffers [] []))

pub external-end-determined : (κs : Lfts 0) (a : Dens κs external-end-kinds.ps) (r q : (res_t external-end-kinds.r κs).Denot) (e f : AtExit (ended_of 0 external-end-kinds.ps external-end-kinds.r) κs)
    → external-end-reads.Post κs a r e → external-end-reads.Post κs a q f → r ≡ q
external-end-determined κs a r q e f p w = p ∙ sym w
