-- What an instruction finds in the words of the rules, and the effects of the instructions whose result goes into a register: they are the deeds of the rules.
-- Assumes nothing.
use Rattle.std.proofs.Common.{◌≡◌, ℕ, ◌+◌, ◌/◌, ◌%◌, Bool, true, false, ◌||◌, [], length, refl, ap, ◌∙◌, arith, Some}
use Rattle.ground_rules.proofs.SpanLaws.{span-length}
use Rattle.ground_rules.specs.Buffers.{Buffers}
use Rattle.ground_rules.specs.Choice.{pick}
use Rattle.ground_rules.specs.Outcomes.{first}
use Rattle.ground_rules.specs.Places.{span, all_pass}
use Rattle.ground_rules.specs.Registers.{by_rrr, register_of, tag_of, with_register, moved, worked, base_of}
use Rattle.ground_rules.specs.Stored.{stored_address, stored_tag}
use Rattle.ground_rules.specs.Sums.{address_of}
use Rattle.ground_rules.specs.Updates.{renewed}
use Rattle.ground_rules.specs.Values.{onward}
use Rattle.ground_rules.specs.declared.Channel.{Channel}
use Rattle.ground_rules.specs.declared.Pointer.{Pointer}
use Rattle.instruction_rules.specs.Changes.{nothing, change}
use Rattle.instruction_rules.specs.Deeds.{deed}
use Rattle.instruction_rules.specs.Execute.{deed_of, performed}
use Rattle.instruction_rules.specs.Lengths.{length_of}
use Rattle.instruction_rules.specs.Marks.{past_instruction}
use Rattle.instruction_rules.specs.Operands.{bytes_at, size_of, indexed, effective, grown, work_of, single_of, is_move}
use Rattle.instruction_rules.specs.RegisterForms.{register_written, register_immediate_deed, register_deed, register_memory_deed, lpdi_deed, lpd_deed, movp_load_deed}
use Rattle.instruction_rules.specs.declared.Memory.{Memory}
use Rattle.instruction_rules.specs.declared.Shape.{Shape}
use Rattle.instruction_rules.specs.declared.Shape.TheVariants.{Lpdi, RegisterImmediate, Register, RegisterMemory, Lpd, MovpLoad}
use Rattle.instruction_rules.specs.declared.Single.{Single}
use Rattle.instruction_rules.specs.declared.Work.{Work}
use Rattle.execute.specs.Bytes.{four_at, operand_of_four, grown_ix}
use Rattle.execute.specs.Effects.{writing, storing_there, channel_worked, deed_number, Performs, Works}
use Rattle.execute.specs.Findings.{naming_both, naming_of, behind_at, index_named, place_named, finding_of}
use Rattle.execute.specs.Writes.{write_to, write_made}
use Rattle.execute.specs.declared.Finding.{Finding}
use Rattle.execute.specs.declared.Write.{Write}
use Rattle.execute.proofs.WindowLaws.{four-sum, four-doubleword, four-pointer, operand-is, behind-operand}

-- ---- registers

-- work that is no move leaves the tag of GA, GB, GC and TP (§6.10)
pub tags-kept : (work : Work) (c : Channel) (v : ℕ) → is_move work ≡ false
    → ((register_written work c 0 v).ga.tag ≡ c.ga.tag) × ((register_written work c 1 v).gb.tag ≡ c.gb.tag) × ((register_written work c 2 v).gc.tag ≡ c.gc.tag) × ((register_written work c 4 v).tp.tag ≡ c.tp.tag)
unfolding register_written with_register tag_of by_rrr
tags-kept work c v e = rw e (refl, refl, refl, refl)

-- a register that takes the tag of a move, else the one that it has, is written as work says
work-written : (work : Work) (c : Channel) (r v : ℕ) → with_register c r v (is_move work || tag_of c r) ≡ register_written work c r v
unfolding register_written
work-written work c r v = go (is_move work)
  where
    go : (b : Bool) → with_register c r v (b || tag_of c r) ≡ pick b (moved c r v) (worked c r v)
    go true = refl
    go false = refl

-- ---- what an instruction of n bytes finds

-- where the operand lies that it names, TP being past it
abbrev pub place_found : Buffers → Channel → ℕ → Memory → Pointer
place_found m c n o = effective m (past_instruction c n) o c.tp

-- what it finds of both where it names a register and an operand, in the words of the rules
abbrev pub found_both : Buffers → Channel → ℕ → ℕ → Memory → Finding
found_both m c n r o =
    let past = past_instruction c n in
    let at = place_found m c n o in
    record {
      tp = past.tp.address;
      code = past.tp.tag;
      ix = past.ix;
      mc = past.mc;
      psw = past.psw;
      armed = c.armed;
      at = at.address;
      space = at.tag;
      operand = four_at m at.tag at.address;
      behind = behind_at m c.tp o.aa;
      value = register_of past r;
      tag = tag_of past r;
    }

pub found-both : (m : Buffers) (c : Channel) (s : Shape) (n r : ℕ) (o : Memory) → naming_of s ≡ naming_both r o → finding_of m c s n ≡ found_both m c n r o
unfolding finding_of place_named index_named effective indexed base_of past_instruction renewed onward tag_of
found-both m c s n r o e = rw e

-- as many bytes are read as a span has
read_all : (t : Bool) (a n : ℕ) → 0 + n ≡ length (span t a n)
read_all t a n = omega (arith, span-length t a n)

-- an instruction with an operand writes a register, or stores some bytes there
module _ (m : Buffers) (c : Channel) (n r : ℕ) (o : Memory) (f : Finding) (e : f ≡ found_both m c n r o) (by reads : ℕ) where
  pub does-write : (w : Write) (after : Channel) → write_made (grown (past_instruction c n) o by) (Some w) ≡ after
      → Performs m c f (deed (bytes_at (place_found m c n o) reads) after nothing) (writing f (grown_ix o f.ix by) reads w)
  unfolding deed_number first past_instruction renewed onward grown grown_ix channel_worked
  does-write w after h = rw e (record { told = refl; reads = λ z. read_all _ _ reads; carries = λ z. record { channel = h; change = refl } })

  pub does-store : (count v u : ℕ) → v ≡ u
      → Performs m c f (deed (bytes_at (place_found m c n o) reads) (grown (past_instruction c n) o by) (change count (place_found m c n o) u)) (storing_there f (grown_ix o f.ix by) reads count v)
  unfolding deed_number first past_instruction renewed onward grown grown_ix channel_worked write_made
  does-store count v u h = rw e (record { told = refl; reads = λ z. read_all _ _ reads; carries = λ z. record { channel = refl; change = ap (λ (x : ℕ). change count (place_found m c n o) x) h } })

-- one without an operand writes a register
does-write-alone : (m : Buffers) (c : Channel) (s : Shape) (n : ℕ) (f : Finding) (w : Write) (after : Channel) → f ≡ finding_of m c s n → write_made (past_instruction c n) (Some w) ≡ after
    → Performs m c f (deed [] after nothing) (writing f f.ix 0 w)
unfolding deed_number first span all_pass finding_of past_instruction renewed onward channel_worked
does-write-alone m c s n f w after e h = rw e (record { told = refl; reads = λ z. refl; carries = λ z. record { channel = h; change = refl } })

-- ---- the instructions

-- NOT, INC and DEC of a register
pub works-register : (single : Single) (r busy : ℕ) (m : Buffers) (c : Channel) (f : Finding)
    → Works (Register single r) busy f m c (writing f f.ix 0 (write_to r (single_of single f.value) f.tag))
unfolding deed_of performed register_deed finding_of naming_of past_instruction renewed onward tag_of write_made
works-register single r busy m c f known e = does-write-alone m c (Register single r) _ f _ _ e (rw e)

-- ADDI, ORI, ANDI and MOVI to a register
pub works-register-immediate : (work : Work) (r : ℕ) (wide : Bool) (busy : ℕ) (m : Buffers) (c : Channel) (f : Finding)
    → Works (RegisterImmediate work r wide) busy f m c (writing f f.ix 0 (write_to r (work_of work f.value (operand_of_four f.behind wide)) (is_move work || f.tag)))
unfolding deed_of performed register_immediate_deed finding_of naming_of past_instruction renewed onward tag_of write_made
works-register-immediate work r wide busy m c f known e =
    let past = past_instruction c (length_of (RegisterImmediate work r wide)) in
    does-write-alone m c (RegisterImmediate work r wide) _ f _ _ e (rw e (ap (λ (v : ℕ). with_register past r (work_of work (register_of past r) v) (is_move work || tag_of past r)) (behind-operand m known c.tp 0 wide) ∙ work-written work past r _))

-- LPDI
pub works-lpdi : (r busy : ℕ) (m : Buffers) (c : Channel) (f : Finding)
    → Works (Lpdi r) busy f m c (writing f f.ix 0 (write_to r (address_of (f.behind % 65536) (f.behind / 65536)) false))
unfolding deed_of performed lpdi_deed finding_of naming_of behind_at onward write_made
works-lpdi r busy m c f known e =
    does-write-alone m c (Lpdi r) _ f _ _ e (rw e (rw (← four-sum m c.tp.tag c.tp.address 2, four-doubleword m known)))

-- MOV, ADD, OR, AND and NOT to a register from memory
pub works-register-memory : (work : Work) (r : ℕ) (o : Memory) (busy : ℕ) (m : Buffers) (c : Channel) (f : Finding)
    → Works (RegisterMemory work r o) busy f m c
    (writing f (grown_ix o f.ix (size_of o.wide)) (size_of o.wide) (write_to r (work_of work f.value (operand_of_four f.operand o.wide)) (is_move work || f.tag)))
unfolding deed_of performed register_memory_deed naming_of grown renewed tag_of write_made
works-register-memory work r o busy m c f known e =
    let n = length_of (RegisterMemory work r o) in
    let found = e ∙ found-both m c _ n r o refl in
    let after = grown (past_instruction c n) o (size_of o.wide) in
    does-write m c n r o f found (size_of o.wide) (size_of o.wide) _ _ (rw found (rw (operand-is m known (place_found m c n o)) (work-written work after r _)))

-- LPD
pub works-lpd : (r : ℕ) (o : Memory) (busy : ℕ) (m : Buffers) (c : Channel) (f : Finding)
    → Works (Lpd r o) busy f m c (writing f (grown_ix o f.ix 4) 4 (write_to r (address_of (f.operand % 65536) (f.operand / 65536)) false))
unfolding deed_of performed lpd_deed naming_of write_made
works-lpd r o busy m c f known e =
    let found = e ∙ found-both m c _ _ 7 o refl in
    does-write m c _ 7 o f found 4 4 _ _ (rw found (rw (four-doubleword m known)))

-- MOVP to a pointer
pub works-movp-load : (r : ℕ) (o : Memory) (busy : ℕ) (m : Buffers) (c : Channel) (f : Finding)
    → Works (MovpLoad r o) busy f m c
    (writing f (grown_ix o f.ix 3) 3 (write_to r (stored_address (f.operand % 256) (f.operand / 256 % 256) (f.operand / 65536 % 256)) (stored_tag (f.operand / 65536 % 256))))
unfolding deed_of performed movp_load_deed naming_of write_made
works-movp-load r o busy m c f known e =
    let found = e ∙ found-both m c _ _ 7 o refl in
    does-write m c _ 7 o f found 3 3 _ _ (rw found (rw (← four-pointer m known)))
