-- What the code makes of the instructions that jump is their deed, and CALL counts from the end of its instruction.
-- Assumes nothing.
use Rattle.std.proofs.Common.{◌≡◌, ℕ, ◌+◌, ◌/◌, ◌%◌, Bool, true, false, eqb, sym, refl, ◌∙◌, ne_eqb, None}
use Rattle.ground_rules.proofs.PlaceLaws.{index-after, byte-index}
use Rattle.ground_rules.specs.Bits.{bit_of}
use Rattle.ground_rules.specs.Buffers.{Buffers, AllBytes, byte_at}
use Rattle.ground_rules.specs.Choice.{pick}
use Rattle.ground_rules.specs.Compare.{match_of}
use Rattle.ground_rules.specs.Places.{span}
use Rattle.ground_rules.specs.Registers.{base_of}
use Rattle.ground_rules.specs.Sums.{sum20}
use Rattle.ground_rules.specs.Updates.{renewed}
use Rattle.ground_rules.specs.Values.{pointer, onward}
use Rattle.ground_rules.specs.declared.Channel.{Channel}
use Rattle.ground_rules.specs.declared.Pointer.{Pointer}
use Rattle.instruction_rules.specs.Changes.{stored_value}
use Rattle.instruction_rules.specs.Execute.{performed, deed_of}
use Rattle.instruction_rules.specs.JumpForms.{agrees, jump_register_deed, jump_memory_deed, jump_byte_deed, jump_masked_deed, jump_bit_deed, tsl_deed, call_deed}
use Rattle.instruction_rules.specs.Lengths.{offset_by, offset_length, length_of}
use Rattle.instruction_rules.specs.Marks.{past_instruction}
use Rattle.instruction_rules.specs.Operands.{size_of, indexed, effective, grown, displacement_at, landing, jumped_if, after_pair}
use Rattle.instruction_rules.specs.declared.Memory.{Memory}
use Rattle.instruction_rules.specs.declared.Shape.TheVariants.{JumpRegister, JumpMemory, JumpMasked, JumpBit, Tsl, Call}
use Rattle.execute.specs.Bytes.{operand_of_four, landing_by, grown_ix}
use Rattle.execute.specs.Effects.{leaving, storing_there, jumping, channel_worked, Works}
use Rattle.execute.specs.Findings.{naming_of, behind_at, index_named, place_named, finding_of}
use Rattle.execute.specs.Writes.{write_made}
use Rattle.execute.specs.declared.Finding.{Finding}
use Rattle.execute.proofs.ControlWorks.{spelled}
use Rattle.execute.proofs.WindowLaws.{byte-sum, four-first, four-second, operand-is, behind-landing}

-- CALL leads from TP as it finds it, past itself, whatever its own place is (§6.11)
pub call-from-end : (m : Buffers) (c : Channel) (tp : Pointer) (o : Memory) (two : Bool) → (call_deed m c tp o two).channel.tp ≡ landing m c.tp (after_pair tp o) two
unfolding call_deed jumped_if grown renewed
call-from-end m c tp o two = refl

module _ (m : Buffers) (known : AllBytes m) where
  -- where TP stands after a jump that is taken or not, by the bytes behind the pair
  led : (tp p : Pointer) (aa : ℕ) (taken two : Bool)
      → pick taken (landing m tp (onward p (2 + offset_by aa)) two) tp ≡ pointer (pick taken (landing_by tp.address (behind_at m p aa) two) tp.address) tp.tag
  led tp p aa true two = sym (behind-landing m known tp p aa two)
  led tp p aa false two = refl

  -- the two bytes of TSL there: its data, and its displacement, which leads on
  data-behind : (p : Pointer) (aa : ℕ) → behind_at m p aa % 256 ≡ byte_at m p.tag (sum20 p.address (2 + offset_by aa))
  unfolding behind_at
  data-behind p aa = four-first m known p.tag (p.address + (2 + offset_by aa)) ∙ sym (byte-sum m p.tag p.address (2 + offset_by aa))

  led-behind : (tp p : Pointer) (aa : ℕ) → landing m tp (onward (onward p (2 + offset_by aa)) 1) false ≡ pointer (landing_by tp.address (behind_at m p aa / 256) false) tp.tag
  unfolding behind_at onward landing_by landing displacement_at
  led-behind tp p aa =
      let n = 2 + offset_by aa in
      let next : byte_at m p.tag (sum20 (sum20 p.address n) 1) ≡ byte_at m p.tag (p.address + n + 1) =
      byte-sum m p.tag (sum20 p.address n) 1 ∙ byte-index m p.tag (sum20 p.address n + 1) (p.address + n + 1) (index-after p.tag (p.address + n) 1) in
      rw (four-second m known p.tag (p.address + n), next)

module _ (f : Finding) (m : Buffers) (c : Channel) where
  -- where a memory operand lies
  abbrev place : Memory → Pointer
  place o = onward (base_of c o.mm) (index_named m c o.aa)

  -- TP past n bytes
  abbrev past : ℕ → Pointer
  past n = onward c.tp n

  -- JZ and JNZ on a register
  pub works-jump-register : (zero : Bool) (r : ℕ) (two : Bool) (busy : ℕ)
      → Works (JumpRegister zero r two) busy f m c (leaving (pick (agrees zero (eqb (f.value % 65536) 0)) (landing_by f.tp f.behind two) f.tp) f.ix f.psw false 0)
  unfolding deed_of performed jump_register_deed jumped_if past_instruction renewed onward finding_of naming_of channel_worked write_made span
  works-jump-register zero r two busy known found =
      rw found (spelled m c _ _ _ refl (rw (led m known (past (length_of (JumpRegister zero r two))) c.tp 0) refl))

  -- JZ and JNZ on a memory operand
  pub works-jump-memory : (zero : Bool) (o : Memory) (two : Bool) (busy : ℕ)
      → Works (JumpMemory zero o two) busy f m c (leaving (pick (agrees zero (eqb (operand_of_four f.operand o.wide) 0)) (landing_by f.tp f.behind two) f.tp) (grown_ix o f.ix (size_of o.wide)) f.psw false (size_of o.wide))
  unfolding deed_of performed jump_memory_deed jumped_if grown grown_ix past_instruction renewed onward finding_of naming_of place_named index_named indexed effective base_of offset_length channel_worked write_made
  works-jump-memory zero o two busy known found =
      rw found (spelled m c _ _ _ refl (rw (led m known (past (length_of (JumpMemory zero o two))) c.tp o.aa, operand-is m known (place o) o.wide) refl))

  -- JMCE and JMCNE, JBT and JNBT: on a byte
  pub works-jump-masked : (equal : Bool) (o : Memory) (two : Bool) (busy : ℕ)
      → Works (JumpMasked equal o two) busy f m c (jumping f (agrees equal (match_of (f.operand % 256) f.mc)) o two)
  unfolding deed_of performed jump_masked_deed jump_byte_deed jumped_if grown grown_ix past_instruction renewed onward finding_of naming_of place_named index_named indexed effective base_of offset_length channel_worked write_made
  works-jump-masked equal o two busy known found =
      let p = place o in
      rw found (spelled m c _ _ _ refl (rw (led m known (past (length_of (JumpMasked equal o two))) c.tp o.aa, four-first m known p.tag p.address) refl))

  pub works-jump-bit : (set : Bool) (bit : ℕ) (o : Memory) (two : Bool) (busy : ℕ)
      → Works (JumpBit set bit o two) busy f m c (jumping f (agrees set (bit_of (f.operand % 256) bit)) o two)
  unfolding deed_of performed jump_bit_deed jump_byte_deed jumped_if grown grown_ix past_instruction renewed onward finding_of naming_of place_named index_named indexed effective base_of offset_length channel_worked write_made
  works-jump-bit set bit o two busy known found =
      let p = place o in
      rw found (spelled m c _ _ _ refl (rw (led m known (past (length_of (JumpBit set bit o two))) c.tp o.aa, four-first m known p.tag p.address) refl))

  -- CALL
  pub works-call : (o : Memory) (two : Bool) (busy : ℕ)
      → Works (Call o two) busy f m c (record { more = 0; reads = 0; tp = landing_by f.tp f.behind two; ix = grown_ix o f.ix 3; psw = f.psw; halts = false; armed = false; write = None; count = 3; space = f.space; address = f.at; value = stored_value (pointer f.tp f.code) })
  unfolding deed_of performed call_deed jumped_if grown grown_ix past_instruction renewed onward finding_of naming_of place_named index_named indexed effective base_of offset_length channel_worked write_made span
  works-call o two busy known found =
      rw found (spelled m c _ _ _ refl (rw (led m known (past (length_of (Call o two))) c.tp o.aa true) refl))

  -- TSL, where the byte is 0 and where it is not
  pub works-tsl-stored : (o : Memory) (busy : ℕ) → f.operand % 256 ≡ 0 → Works (Tsl o) busy f m c (storing_there f (grown_ix o f.ix 1) 1 1 (f.behind % 256))
  unfolding deed_of performed tsl_deed grown grown_ix past_instruction renewed onward finding_of naming_of place_named index_named indexed effective base_of offset_length channel_worked write_made
  works-tsl-stored o busy none known found =
      let p = place o in
      let e : byte_at m p.tag p.address ≡ 0 = sym (four-first m known p.tag p.address) ∙ (rw found at none) in
      rw found (spelled m c _ _ _ refl (rw (e, data-behind m known c.tp o.aa) refl))

  pub works-tsl-led : (o : Memory) (busy : ℕ) → (f.operand % 256 ≡ 0 → ⊥) → Works (Tsl o) busy f m c (leaving (landing_by f.tp (f.behind / 256) false) (grown_ix o f.ix 1) f.psw false 1)
  unfolding deed_of performed tsl_deed jumped_if grown grown_ix past_instruction renewed onward finding_of naming_of place_named index_named indexed effective base_of offset_length channel_worked write_made
  works-tsl-led o busy some known found =
      let p = place o in
      let e : eqb (byte_at m p.tag p.address) 0 ≡ false = ne_eqb (byte_at m p.tag p.address) 0 (λ z. (rw found at some) (four-first m known p.tag p.address ∙ z)) in
      rw found (spelled m c _ _ _ refl (rw (e, led-behind m known (past (length_of (Tsl o))) c.tp o.aa) refl))
