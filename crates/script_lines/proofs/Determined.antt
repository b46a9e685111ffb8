-- The contracts of the public functions, as the code has them, determine the buffer and how much of it is text.
-- Assumes nothing.
use borrow.Fn.Kinds.{Dens, res_t, ended_of}
use contract.Lifetimes.{Lfts}
use denote.Triple.Clauses.{AtExit}
use mathlib.Core.Path.{◌≡◌, sym, ◌∙◌}
use Rattle.page.specs.Pages.{sheet}
use Rattle.script_lines.proofs.answer_line.Kinds as answer-kinds
use Rattle.script_lines.proofs.answer_line.Reads as answer-reads
use Rattle.script_lines.proofs.counted_line.Kinds as counted-kinds
use Rattle.script_lines.proofs.counted_line.Reads as counted-reads
use Rattle.script_lines.proofs.dump.Kinds as dump-kinds
use Rattle.script_lines.proofs.dump.Reads as dump-reads
use Rattle.script_lines.proofs.loaded_line.Kinds as loaded-kinds
use Rattle.script_lines.proofs.loaded_line.Reads as loaded-reads
use Rattle.script_lines.proofs.shown_line.Kinds as shown-kinds
use Rattle.script_lines.proofs.shown_line.Reads as shown-reads
use Rattle.script_lines.proofs.stepped_line.Kinds as stepped-kinds
use Rattle.script_lines.proofs.stepped_line.Reads as stepped-reads
use Rattle.script_lines.proofs.swept_line.Kinds as swept-kinds
use Rattle.script_lines.proofs.swept_line.Reads as swept-reads

pub answer-line-determined : (κs : Lfts 3) (a : Dens κs answer-kinds.ps) (r q : (res_t answer-kinds.r κs).Denot) (e f : AtExit (ended_of 3 answer-kinds.ps answer-kinds.r) κs)
    → answer-reads.Post κs a r e → answer-reads.Post κs a q f → sheet e.0.now ≡ sheet f.0.now
answer-line-determined κs a r q e f p w = p.0 ∙ sym w.0

pub counted-line-determined : (κs : Lfts 3) (a : Dens κs counted-kinds.ps) (r q : (res_t counted-kinds.r κs).Denot) (e f : AtExit (ended_of 3 counted-kinds.ps counted-kinds.r) κs)
    → counted-reads.Post κs a r e → counted-reads.Post κs a q f → sheet e.0.now ≡ sheet f.0.now
counted-line-determined κs a r q e f p w = p.0 ∙ sym w.0

pub stepped-line-determined : (κs : Lfts 2) (a : Dens κs stepped-kinds.ps) (r q : (res_t stepped-kinds.r κs).Denot) (e f : AtExit (ended_of 2 stepped-kinds.ps stepped-kinds.r) κs)
    → stepped-reads.Post κs a r e → stepped-reads.Post κs a q f → sheet e.0.now ≡ sheet f.0.now
stepped-line-determined κs a r q e f p w = p.0 ∙ sym w.0

pub swept-line-determined : (κs : Lfts 2) (a : Dens κs swept-kinds.ps) (r q : (res_t swept-kinds.r κs).Denot) (e f : AtExit (ended_of 2 swept-kinds.ps swept-kinds.r) κs)
    → swept-reads.Post κs a r e → swept-reads.Post κs a q f → sheet e.0.now ≡ sheet f.0.now
swept-line-determined κs a r q e f p w = p.0 ∙ sym w.0

pub loaded-line-determined : (κs : Lfts 2) (a : Dens κs loaded-kinds.ps) (r q : (res_t loaded-kinds.r κs).Denot) (e f : AtExit (ended_of 2 loaded-kinds.ps loaded-kinds.r) κs)
    → loaded-reads.Post κs a r e → loaded-reads.Post κs a q f → sheet e.0.now ≡ sheet f.0.now
loaded-line-determined κs a r q e f p w = p.0 ∙ sym w.0

pub dump-determined : (κs : Lfts 4) (a : Dens κs dump-kinds.ps) (r q : (res_t dump-kinds.r κs).Denot) (e f : AtExit (ended_of 4 dump-kinds.ps dump-kinds.r) κs)
    → dump-reads.Post κs a r e → dump-reads.Post κs a q f → sheet e.0.now ≡ sheet f.0.now
dump-determined κs a r q e f p w = p.0 ∙ sym w.0

pub shown-line-determined : (κs : Lfts 3) (a : Dens κs shown-kinds.ps) (r q : (res_t shown-kinds.r κs).Denot) (e f : AtExit (ended_of 3 shown-kinds.ps shown-kinds.r) κs)
    → shown-reads.Post κs a r e → shown-reads.Post κs a q f → sheet e.0.now ≡ sheet f.0.now
shown-line-determined κs a r q e f p w = p.0 ∙ sym w.0
