-- The contract of each public function here, as the prover made it of the source, determines what it answers: two answers that meet it are the same.
-- Assumes nothing.
use borrow.Fn.Kinds.{Dens, res_t, ended_of}
use contract.Lifetimes.{Lfts}
use denote.Triple.Clauses.{AtExit}
use mathlib.Core.Path.{◌≡◌, sym, ◌∙◌}
use Rattle.ground_rules.proofs.RefusalLaws.{one-refusal}
use Rattle.decode.proofs.look_up.Kinds as look-up-kinds
use Rattle.decode.proofs.look_up.Reads as look-up-reads
use Rattle.decode.proofs.decode.Kinds as decode-kinds
use Rattle.decode.proofs.decode.Reads as decode-reads
use Rattle.decode.proofs.refusal.Kinds as refusal-kinds
use Rattle.decode.proofs.refusal.Reads as refusal-reads
use Rattle.decode.proofs.number.Kinds as number-kinds
use Rattle.decode.proofs.number.Reads as number-reads
use Rattle.decode.proofs.decode_second.Kinds as decode-second-kinds
use Rattle.decode.proofs.decode_second.Reads as decode-second-reads
use Rattle.decode.proofs.second_refusal.Kinds as second-refusal-kinds
use Rattle.decode.proofs.second_refusal.Reads as second-refusal-reads
use Rattle.decode.proofs.second_number.Kinds as second-number-kinds
use Rattle.decode.proofs.second_number.Reads as second-number-reads
use Rattle.decode.proofs.offset_length.Kinds as offset-length-kinds
use Rattle.decode.proofs.offset_length.Reads as offset-length-reads
use Rattle.decode.proofs.pair_length.Kinds as pair-length-kinds
use Rattle.decode.proofs.pair_length.Reads as pair-length-reads

pub look-up-determined : (κs : Lfts 0) (a : Dens κs look-up-kinds.ps) (r q : (res_t look-up-kinds.r κs).Denot) (e f : AtExit (ended_of 0 look-up-kinds.ps look-up-kinds.r) κs)
    → look-up-reads.Post κs a r e → look-up-reads.Post κs a q f → r ≡ q
look-up-determined κs a r q e f p w = p ∙ sym w

pub decode-determined : (κs : Lfts 0) (a : Dens κs decode-kinds.ps) (r q : (res_t decode-kinds.r κs).Denot) (e f : AtExit (ended_of 0 decode-kinds.ps decode-kinds.r) κs)
    → decode-reads.Post κs a r e → decode-reads.Post κs a q f → r ≡ q
decode-determined κs a r q e f p w = p ∙ sym w

pub refusal-determined : (κs : Lfts 0) (a : Dens κs refusal-kinds.ps) (r q : (res_t refusal-kinds.r κs).Denot) (e f : AtExit (ended_of 0 refusal-kinds.ps refusal-kinds.r) κs)
    → refusal-reads.Post κs a r e → refusal-reads.Post κs a q f → r ≡ q
refusal-determined κs a r q e f p w = one-refusal r q (p ∙ sym w)

pub number-determined : (κs : Lfts 0) (a : Dens κs number-kinds.ps) (r q : (res_t number-kinds.r κs).Denot) (e f : AtExit (ended_of 0 number-kinds.ps number-kinds.r) κs)
    → number-reads.Post κs a r e → number-reads.Post κs a q f → r ≡ q
number-determined κs a r q e f p w = p ∙ sym w

pub decode-second-determined : (κs : Lfts 0) (a : Dens κs decode-second-kinds.ps) (r q : (res_t decode-second-kinds.r κs).Denot) (e f : AtExit (ended_of 0 decode-second-kinds.ps decode-second-kinds.r) κs)
    → decode-second-reads.Post κs a r e → decode-second-reads.Post κs a q f → r ≡ q
decode-second-determined κs a r q e f p w = p ∙ sym w

pub second-refusal-determined : (κs : Lfts 0) (a : Dens κs second-refusal-kinds.ps) (r q : (res_t second-refusal-kinds.r κs).Denot) (e f : AtExit (ended_of 0 second-refusal-kinds.ps second-refusal-kinds.r) κs)
    → second-refusal-reads.Post κs a r e → second-refusal-reads.Post κs a q f → r ≡ q
second-refusal-determined κs a r q e f p w = one-refusal r q (p ∙ sym w)

pub second-number-determined : (κs : Lfts 0) (a : Dens κs second-number-kinds.ps) (r q : (res_t second-number-kinds.r κs).Denot) (e f : AtExit (ended_of 0 second-number-kinds.ps second-number-kinds.r) κs)
    → second-number-reads.Post κs a r e → second-number-reads.Post κs a q f → r ≡ q
second-number-determined κs a r q e f p w = p ∙ sym w

pub offset-length-determined : (κs : Lfts 0) (a : Dens κs offset-length-kinds.ps) (r q : (res_t offset-length-kinds.r κs).Denot) (e f : AtExit (ended_of 0 offset-length-kinds.ps offset-length-kinds.r) κs)
    → offset-length-reads.Post κs a r e → offset-length-reads.Post κs a q f → r ≡ q
offset-length-determined κs a r q e f p w = p ∙ sym w

pub pair-length-determined : (κs : Lfts 0) (a : Dens κs pair-length-kinds.ps) (r q : (res_t pair-length-kinds.r κs).Denot) (e f : AtExit (ended_of 0 pair-length-kinds.ps pair-length-kinds.r) κs)
    → pair-length-reads.Post κs a r e → pair-length-reads.Post κs a q f → r ≡ q
pair-length-determined κs a r q e f p w = p ∙ sym w
