-- What stores into memory does the deeds of the rules: the effect of each such instruction in numbers.
-- Assumes nothing.
use Rattle.std.proofs.Common.{◌≡◌, ℕ, ◌+◌, ◌/◌, ◌%◌, Bool, false, ◌&&◌, eqb, ◌++◌, length, sym, refl, ap, ◌∙◌, subst, arith, length-append, Option, None, Result, true}
use Rattle.ground_rules.proofs.OutcomeLaws.{first-right, both-tested}
use Rattle.ground_rules.proofs.PlaceLaws.{index-after, byte-index, byte-reduced}
use Rattle.ground_rules.proofs.SpanLaws.{span-length, all_append}
use Rattle.ground_rules.specs.Buffers.{Buffers, AllBytes, byte_at, touchable_at}
use Rattle.ground_rules.specs.Choice.{pick}
use Rattle.ground_rules.specs.Outcomes.{first, unless}
use Rattle.ground_rules.specs.Places.{span, all_touchable}
use Rattle.ground_rules.specs.Registers.{base_of}
use Rattle.ground_rules.specs.Sums.{sum20}
use Rattle.ground_rules.specs.Updates.{renewed}
use Rattle.ground_rules.specs.Values.{pointer, onward}
use Rattle.ground_rules.specs.declared.Channel.{Channel}
use Rattle.ground_rules.specs.declared.Refusal.{Refusal}
use Rattle.ground_rules.specs.declared.Pointer.{Pointer}
use Rattle.instruction_rules.specs.Changes.{result_to, stored_value}
use Rattle.instruction_rules.specs.Deeds.{Deed}
use Rattle.instruction_rules.specs.Execute.{deed_of, performed}
use Rattle.instruction_rules.specs.Lengths.{offset_length, data_length, displacement_length, length_of}
use Rattle.instruction_rules.specs.Marks.{past_instruction}
use Rattle.instruction_rules.specs.MemoryForms.{read_first, worked_back, memory_work_deed, memory_register_deed, memory_immediate_deed, memory_alone_deed, movp_store_deed, bit_written, bit_deed, mov_operand_deed, mov_second_deed, second_at, mov_memory_deed}
use Rattle.instruction_rules.specs.Operands.{byte_here, bytes_at, further, after_pair, size_of, indexed, effective, grown, single_of}
use Rattle.instruction_rules.specs.Reading.{second_of, second_number_of}
use Rattle.instruction_rules.specs.declared.Memory.{Memory}
use Rattle.instruction_rules.specs.declared.Shape.TheVariants.{MemoryRegister, MemoryImmediate, MemoryAlone, MovpStore, MovMemory, Bit}
use Rattle.instruction_rules.specs.declared.Single.{Single}
use Rattle.instruction_rules.specs.declared.Work.{Work}
use Rattle.execute.specs.Bytes.{four_at, operand_of_four, grown_ix}
use Rattle.execute.specs.Effects.{storing_there, work_stored, channel_worked, deed_number, Carries, Performs, DoesOr, Works, WorksOr}
use Rattle.execute.specs.Findings.{naming_of, behind_at, finding_of}
use Rattle.execute.specs.Writes.{write_made}
use Rattle.execute.specs.declared.Effect.{Effect}
use Rattle.execute.specs.declared.Finding.{Finding}
use Rattle.execute.proofs.WindowLaws.{byte-sum, four-first, four-second, four-third, operand-is, behind-operand}
use Rattle.execute.proofs.RegisterWorks.{place_found, found_both, found-both, does-store}

-- the work of a memory operand and another value, stored back
works-back : (work : Work) (o : Memory) (m : Buffers) (c : Channel) (n r v u : ℕ) (f : Finding) → AllBytes m → f ≡ found_both m c n r o → v ≡ u
    → Performs m c f (memory_work_deed m (past_instruction c n) c.tp work o u) (work_stored f work o v)
unfolding memory_work_deed worked_back
works-back work o m c n r v u f known e h =
    does-store m c n r o f e (size_of o.wide) (read_first work o.wide) (size_of o.wide) _ _ (rw (e, h) (rw (operand-is m known (place_found m c n o))))

-- MOV, ADD, OR and AND to memory from a register
pub works-memory-register : (work : Work) (r : ℕ) (o : Memory) (busy : ℕ) (m : Buffers) (c : Channel) (f : Finding)
    → Works (MemoryRegister work r o) busy f m c (work_stored f work o f.value)
unfolding deed_of performed memory_register_deed naming_of
works-memory-register work r o busy m c f known e =
    let found = e ∙ found-both m c _ _ r o refl in
    works-back work o m c _ r _ _ f known found (rw found)

-- MOVI, ADDI, ORI and ANDI to memory
pub works-memory-immediate : (work : Work) (o : Memory) (busy : ℕ) (m : Buffers) (c : Channel) (f : Finding)
    → Works (MemoryImmediate work o) busy f m c (work_stored f work o (operand_of_four f.behind o.wide))
unfolding deed_of performed memory_immediate_deed naming_of offset_length
works-memory-immediate work o busy m c f known e =
    let found = e ∙ found-both m c _ _ 7 o refl in
    works-back work o m c _ 7 _ _ f known found (rw found (behind-operand m known c.tp o.aa o.wide))

-- NOT, INC and DEC of a memory operand
pub works-memory-alone : (single : Single) (o : Memory) (busy : ℕ) (m : Buffers) (c : Channel) (f : Finding)
    → Works (MemoryAlone single o) busy f m c
    (storing_there f (grown_ix o f.ix (size_of o.wide)) (size_of o.wide) (size_of o.wide) (single_of single (operand_of_four f.operand o.wide)))
unfolding deed_of performed memory_alone_deed naming_of
works-memory-alone single o busy m c f known e =
    let n = length_of (MemoryAlone single o) in
    let found = e ∙ found-both m c _ n 7 o refl in
    does-store m c n 7 o f found (size_of o.wide) (size_of o.wide) (size_of o.wide) _ _ (rw found (rw (operand-is m known (place_found m c n o))))

-- MOVP from a pointer
pub works-movp-store : (r : ℕ) (o : Memory) (busy : ℕ) (m : Buffers) (c : Channel) (f : Finding)
    → Works (MovpStore r o) busy f m c (storing_there f (grown_ix o f.ix 3) 0 3 (stored_value (pointer f.value f.tag)))
unfolding deed_of performed movp_store_deed naming_of span
works-movp-store r o busy m c f known e =
    let found = e ∙ found-both m c _ _ r o refl in
    does-store m c _ r o f found 3 0 3 _ _ (rw found)

-- SETB and CLR
pub works-bit : (on : Bool) (bit : ℕ) (o : Memory) (busy : ℕ) (m : Buffers) (c : Channel) (f : Finding)
    → Works (Bit on bit o) busy f m c (storing_there f (grown_ix o f.ix 1) 1 1 (bit_written (f.operand % 256) bit on))
unfolding deed_of performed bit_deed naming_of
works-bit on bit o busy m c f known e =
    let found = e ∙ found-both m c _ _ 7 o refl in
    does-store m c _ 7 o f found 1 1 1 _ _ (rw found (rw (four-first m known)))

-- ---- MOV M,M

-- the place after its second pair is where TP stands past it
second-after : (p : Pointer) (o : Memory) → onward (after_pair p o) 2 ≡ onward p (length_of (MovMemory o))
unfolding onward length_of data_length displacement_length offset_length
second-after p o = ap (λ (a : ℕ). pointer a p.tag) (omega arith)

-- the bytes behind the first pair: the second pair, and its offset byte
byte-behind : (m : Buffers) (p : Pointer) (o : Memory) (k : ℕ) → byte_at m p.tag (p.address + (2 + offset_length o) + k) ≡ byte_here m (onward (after_pair p o) k)
unfolding onward
byte-behind m p o k =
    let a = p.address + (2 + offset_length o) in
    sym (byte-sum m p.tag (a % 1048576) k ∙ byte-index m p.tag _ _ (index-after p.tag a k))

second-behind : (m : Buffers) (p : Pointer) (o : Memory) → AllBytes m → second_of (behind_at m p o.aa % 256) (behind_at m p o.aa / 256 % 256) o.wide ≡ second_at m p o
unfolding second_at behind_at onward offset_length
second-behind m p o known =
    let a = p.address + (2 + offset_length o) in
    rw (four-first m known p.tag a, four-second m known p.tag a, byte-behind m p o 1, ← byte-reduced m p.tag a)

offset-behind : (m : Buffers) (p : Pointer) (o : Memory) → AllBytes m → behind_at m p o.aa / 65536 % 256 ≡ byte_here m (onward (after_pair p o) 2)
unfolding behind_at offset_length
offset-behind m p o known = four-third m known p.tag (p.address + (2 + offset_length o)) ∙ byte-behind m p o 2

-- what MOV M,M does with its second operand q
abbrev pub operand_moved : Channel → Memory → Memory → Finding → Effect
operand_moved c o q f =
    record {
      more = offset_length q;
      reads = size_of o.wide;
      tp = sum20 f.tp (offset_length q);
      ix = grown_ix q (grown_ix o f.ix (size_of o.wide)) (size_of q.wide);
      psw = f.psw;
      halts = false;
      armed = false;
      write = None;
      count = size_of o.wide;
      space = (base_of c q.mm).tag;
      address = sum20 (base_of c q.mm).address (pick (eqb q.aa 0) 0 (pick (eqb q.aa 1) (f.behind / 65536 % 256) (grown_ix o f.ix (size_of o.wide))));
      value = operand_of_four f.operand o.wide;
    }

-- an effect behind a test of its offset byte is a deed: by the test, then by the bytes of the operand
record DoesBehind (m : Buffers) (c : Channel) (f : Finding) (d : Deed) (number : ℕ) (e : Effect) : Type 0 where
  told : first number (unless (all_touchable m (span f.space f.at e.reads)) 2) ≡ deed_number m d
  reads : deed_number m d ≡ 0 → e.more + e.reads ≡ length d.reads
  carries : deed_number m d ≡ 0 → Carries c d e

-- MOV M,M, its second operand q being read
behind-mov-operand : (m : Buffers) (c : Channel) (o q : Memory) (f : Finding) → AllBytes m → f ≡ finding_of m c (MovMemory o) (length_of (MovMemory o))
    → DoesBehind m c f (mov_operand_deed m (past_instruction c (length_of (MovMemory o))) c.tp o q) (unless (all_touchable m (span f.code f.tp (offset_length q))) 2) (operand_moved c o q f)
unfolding mov_operand_deed naming_of deed_number first past_instruction renewed onward further grown grown_ix indexed effective base_of channel_worked write_made
behind-mov-operand m c o q f known e =
    let n = length_of (MovMemory o) in
    let at = place_found m c n o in
    let pair = after_pair c.tp o in
    let c₁ = grown (past_instruction c n) o (size_of o.wide) in
    let own = bytes_at at (size_of o.wide) in
    let later = bytes_at (onward pair 2) (offset_length q) in
    let told = sym (both-tested (all_touchable m (bytes_at (onward c.tp n) (offset_length q))) (all_touchable m own)) ∙ first-right _
    ∙ ap (λ (p : Pointer). unless (all_touchable m (bytes_at p (offset_length q)) && all_touchable m own) 2) (sym (second-after c.tp o))
    ∙ ap (λ (b : Bool). unless b 2) (sym (all_append (touchable_at m) later own)) in
    let counted : offset_length q + size_of o.wide ≡ length (later ++ own) = simp (length-append, span-length) in
    let changed = ap (λ (x : ℕ). result_to (onward (base_of c q.mm) (pick (eqb q.aa 0) 0 (pick (eqb q.aa 1) x c₁.ix))) o.wide (operand_of_four (four_at m at.tag at.address) o.wide)) (offset-behind m c.tp o known)
    ∙ ap (λ (x : ℕ). result_to (effective m c₁ q pair) o.wide x) (operand-is m known at o.wide) in
    rw (e ∙ found-both m c (MovMemory o) n 7 o refl) (record { told = told; reads = λ z. counted; carries = λ z. record { channel = refl; change = changed } })

-- its offset byte may be touched, or it is refused
module _ (m : Buffers) (c : Channel) (o q : Memory) (f : Finding) where
  abbrev pub MovDeed : Deed
  MovDeed = mov_operand_deed m (past_instruction c (length_of (MovMemory o))) c.tp o q

  pub does-mov-operand : all_touchable m (span f.code f.tp (offset_length q)) ≡ true → AllBytes m → f ≡ finding_of m c (MovMemory o) (length_of (MovMemory o)) → Performs m c f MovDeed (operand_moved c o q f)
  unfolding first unless
  does-mov-operand h known e =
      let does = subst (λ (b : Bool). DoesBehind m c f MovDeed (unless b 2) (operand_moved c o q f)) h (behind-mov-operand m c o q f known e) in
      record { told = does.told; reads = does.reads; carries = does.carries }

  pub refuses-mov-operand : all_touchable m (span f.code f.tp (offset_length q)) ≡ false → AllBytes m → f ≡ finding_of m c (MovMemory o) (length_of (MovMemory o)) → 2 ≡ deed_number m MovDeed
  unfolding first unless
  refuses-mov-operand h known e =
      let does = subst (λ (b : Bool). DoesBehind m c f MovDeed (unless b 2) (operand_moved c o q f)) h (behind-mov-operand m c o q f known e) in
      does.told

-- MOV M,M, its second pair being one or none
pub works-mov-memory : (o : Memory) (busy : ℕ) (m : Buffers) (c : Channel) (f : Finding) (second : Option Memory) (r : Result Effect Refusal)
    → second ≡ second_of (f.behind % 256) (f.behind / 256 % 256) o.wide
    → (AllBytes m → f ≡ finding_of m c (MovMemory o) (length_of (MovMemory o)) → DoesOr m c f (mov_second_deed m (past_instruction c (length_of (MovMemory o))) c.tp o second) r)
    → WorksOr (MovMemory o) busy f m c r
unfolding deed_of performed mov_memory_deed finding_of naming_of
works-mov-memory o busy m c f second r told does known e =
    let past = past_instruction c (length_of (MovMemory o)) in
    let found = ap (λ (x : Finding). second_of (x.behind % 256) (x.behind / 256 % 256) o.wide) e ∙ second-behind m c.tp o known in
    subst (λ (d : Deed). DoesOr m c f d r) (ap (mov_second_deed m past c.tp o) (told ∙ found)) (does known e)

-- one that is none refuses
pub does-refuse : (m : Buffers) (c : Channel) (o : Memory) → 3 ≡ deed_number m (mov_second_deed m (past_instruction c (length_of (MovMemory o))) c.tp o None)
unfolding mov_second_deed deed_number first
does-refuse m c o = refl
