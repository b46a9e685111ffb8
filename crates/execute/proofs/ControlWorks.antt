-- An effect that spells its deed out is that deed; so are what the code makes of NOP, SINTR, XFER, WID and HLT.
-- Assumes nothing.
use Rattle.std.proofs.Common.{◌≡◌, ℕ, Bool, true, false, not, sym, refl, ◌∙◌, zero-add, None}
use Rattle.ground_rules.proofs.SpanLaws.{span-length}
use Rattle.ground_rules.specs.Buffers.{Buffers}
use Rattle.ground_rules.specs.Choice.{pick}
use Rattle.ground_rules.specs.Outcomes.{first}
use Rattle.ground_rules.specs.Places.{span}
use Rattle.ground_rules.specs.Psw.{interrupt_control, with_psw}
use Rattle.ground_rules.specs.Updates.{renewed, with_control, stopped_psw, halted}
use Rattle.ground_rules.specs.Values.{onward}
use Rattle.ground_rules.specs.declared.Channel.{Channel}
use Rattle.instruction_rules.specs.Control.{with_status, nop_deed, sintr_deed, xfer_deed, wid_deed, hlt_deed}
use Rattle.instruction_rules.specs.Deeds.{Deed, deed}
use Rattle.instruction_rules.specs.Execute.{performed, deed_of}
use Rattle.instruction_rules.specs.Marks.{mark_set, past_instruction}
use Rattle.instruction_rules.specs.declared.Shape.TheVariants.{Nop, Sintr, Xfer, Wid, Hlt}
use Rattle.execute.specs.Effects.{leaving, channel_worked, change_in, deed_number, Performs, Works}
use Rattle.execute.specs.Findings.{finding_of}
use Rattle.execute.specs.Writes.{write_made}
use Rattle.execute.specs.declared.Effect.{Effect}
use Rattle.execute.specs.declared.Finding.{Finding}

-- an effect that reads of its operand alone is the deed that it spells out
pub spelled : (m : Buffers) (c : Channel) (f : Finding) (d : Deed) (e : Effect) → e.more ≡ 0
    → d ≡ deed (span f.space f.at e.reads) (write_made (channel_worked c e) e.write) (change_in e) → Performs m c f d e
unfolding deed_number first
spelled m c f d e alone is =
    rw (is, alone)
    (record { told = refl; reads = λ z. zero-add e.reads ∙ sym (span-length f.space f.at e.reads); carries = λ z. record { channel = refl; change = refl } })

module _ (f : Finding) (m : Buffers) (c : Channel) where
  -- NOP, SINTR, XFER, WID and HLT
  pub works-nop : (busy : ℕ) → Works Nop busy f m c (leaving f.tp f.ix f.psw false 0)
  unfolding deed_of performed nop_deed past_instruction renewed onward finding_of channel_worked write_made span
  works-nop busy known found = rw found (spelled m c _ _ _ refl refl)

  pub works-sintr : (busy psw : ℕ) → psw ≡ pick (interrupt_control f.psw) (with_psw f.psw 4 true) f.psw → Works Sintr busy f m c (leaving f.tp f.ix psw false 0)
  unfolding deed_of performed sintr_deed with_status past_instruction renewed onward finding_of channel_worked write_made span
  works-sintr busy psw is known found = rw (is, found) (spelled m c _ _ _ refl refl)

  pub works-xfer : (busy : ℕ) → Works Xfer busy f m c (leaving f.tp f.ix f.psw (not f.armed) 0)
  unfolding deed_of performed xfer_deed mark_set past_instruction renewed onward finding_of channel_worked write_made span
  works-xfer busy known found = rw found (spelled m c _ _ _ refl refl)

  pub works-wid : (source destination : Bool) (busy : ℕ)
      → Works (Wid source destination) busy f m c (leaving f.tp f.ix (with_psw (with_psw f.psw 1 source) 0 destination) false 0)
  unfolding deed_of performed wid_deed with_status past_instruction renewed onward finding_of channel_worked write_made span
  works-wid source destination busy known found = rw found (spelled m c _ _ _ refl refl)

  pub works-hlt : (busy : ℕ)
      → Works Hlt busy f m c (record { more = 0; reads = 0; tp = f.tp; ix = f.ix; psw = stopped_psw f.psw; halts = true; armed = false; write = None; count = 1; space = false; address = busy; value = 0 })
  unfolding deed_of performed hlt_deed halted with_control past_instruction renewed onward finding_of channel_worked write_made span
  works-hlt busy known found = rw found (spelled m c _ _ _ refl refl)
