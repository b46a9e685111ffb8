-- Pointers that a step stores and a later step loads: MOVP M,P and CALL, then MOVP P,M.
-- Assumes nothing.
use Rattle.std.proofs.Common.{Ok, Err}
use Prim.Native.Nat.{ℕ, zero, suc, ◌+◌, ◌<◌, ◌≤◌}
use borrow.Author.Tests.{ltb-true, le-ltb, eq-eqb, ne_eqb}
use lib.Dec.{ltb, eqb, lit<, eqb-suc-zero}
use mathlib.Core.Bool.{Bool, true, false, not, ◌&&◌, ◌||◌}
use mathlib.Core.List.{List, [], ◌∷◌}
use mathlib.Core.Logic.{⊎_elim, inl, inr}
use mathlib.Core.Path.{◌≡◌, refl, sym, subst, ap, ◌∙◌}
use native.Mathlib.Decide.{ℕ_discrete}
use native.Mathlib.Nat.{mod-lt, mod-eq_of_lt, add-zero}
use native.Mathlib.Omega.{arith}
use Rattle.instruction_rules.specs.Lengths.{length_of}
use Rattle.instruction_rules.specs.Pairs.{pair_of}
use Rattle.instruction_rules.specs.Reading.{fits, lookup, decode_of}
use Rattle.instruction_rules.specs.Rows.{is_control}
use Rattle.instruction_rules.specs.Table.{SummaryRow, table}
use Rattle.instruction_rules.specs.Decoded.{Decoded}
use Rattle.instruction_rules.specs.declared.Unread.TheVariants.{NoInstruction, ControlUsed}
use Rattle.instruction_rules.specs.declared.Memory.{Memory}
use Rattle.instruction_rules.specs.declared.Shape.{Shape}
use Rattle.instruction_rules.specs.declared.Shape.TheVariants.{Nop, Sintr, Xfer, Wid, Hlt, Lpdi, RegisterImmediate, Register, JumpRegister, RegisterMemory, MemoryRegister, MemoryImmediate, MemoryAlone, JumpMemory, Lpd, MovpLoad, MovpStore, MovMemory, Tsl, Call, JumpMasked, JumpBit, Bit}
use Rattle.instruction_rules.specs.declared.Pair.{Pair}
use Rattle.instruction_rules.specs.Deeds.{Deed}
use Rattle.instruction_rules.specs.JumpForms.{call_deed}
use Rattle.instruction_rules.specs.MemoryForms.{movp_store_deed}
use Rattle.instruction_rules.specs.RegisterForms.{movp_load_deed}
use Rattle.instruction_rules.proofs.OutcomeLaws.{done}
use Rattle.instruction_rules.proofs.PointerLaws.{register-written, tag-written}
use Rattle.instruction_rules.specs.Execute.{Executed, decoded_at, performed, deed_of, execute_of}
use Rattle.instruction_rules.specs.Kept.{IsPointer}
use Rattle.ground_rules.proofs.ChannelLaws.{put_same, last-channel, sound-channel-of}
use Rattle.ground_rules.specs.Registers.{by_rrr, register_of, tag_of, with_register}
use Rattle.ground_rules.specs.States.{channel_of, with_channel, sound_channel, block_of, busy_in}
use Rattle.ground_rules.specs.declared.Channel.{Channel}
use Rattle.ground_rules.specs.declared.State.{State}
use Rattle.ground_rules.proofs.StoreLaws.{pointer_back}
use Rattle.ground_rules.specs.Buffers.{Buffers}
use Rattle.ground_rules.specs.Values.{pointer, pointer_at, onward}
use Rattle.ground_rules.specs.declared.Pointer.{Pointer}
use Rattle.instruction_rules.specs.Changes.{changed, pointer_to}
use Rattle.instruction_rules.proofs.ChangeLaws.{pointer-changed}
use Rattle.instruction_rules.specs.Marks.{past_instruction}
use Rattle.instruction_rules.specs.Operands.{byte_here, grown}
use Rattle.ground_rules.specs.Updates.{renewed}
use Rattle.turn_rules.proofs.SoundLaws.{entry-sound}
use Rattle.turn_rules.specs.Step.{Step, done_step, settled_step, instruction_step, channel_step, chosen_step, entry_number, step_of}
use Rattle.turn_rules.specs.declared.Kind.{Kind}
use Rattle.ground_rules.proofs.ChoiceLaws.{apart, both_left, both_right, or-false}
use Rattle.ground_rules.specs.Choice.{pick}
use Rattle.block_rules.specs.Premises.{Lent}
use Rattle.promises.specs.Pointers.{Holds, StepCall, left_by, channel_on, Executes, found, operand_of, SameThree, LoadsFrom}

-- ---- what a done step that executes has passed, and what it leaves

-- a step that is done was given what 12, 11, 10 and 13 accept
entered : (s : State) (m : Buffers) (lines : ℕ) → (step_of s m lines).number ≡ 0 → entry_number s m lines ≡ 0
unfolding step_of
entered s m lines z = go (ℕ_discrete (entry_number s m lines) 0) z
  where
    go : Dec (entry_number s m lines ≡ 0) → (step_of s m lines).number ≡ 0 → entry_number s m lines ≡ 0
    go (yes e) z = e
    go (no ne) z = rw (ne_eqb (entry_number s m lines) 0 ne) at z

-- BUSY of a call's channel, what its instruction comes to, and what an instruction of a shape does
abbrev busy_on : StepCall → ℕ
busy_on k = busy_in (block_of k.state k.second)

abbrev executed_on : StepCall → Executed
executed_on k = execute_of (channel_on k) (busy_on k) k.memory

abbrev deed_on : StepCall → Shape → Deed
deed_on k shape = deed_of shape k.memory (channel_on k) (busy_on k)

module _ (k : StepCall) (shape : Shape) (x : Executes k shape) where
  -- it is the instruction's own step
  own : left_by k ≡ instruction_step k.state k.memory k.second
  unfolding step_of chosen_step channel_step
  own = rw (eq-eqb (entry_number k.state k.memory k.lines) 0 (entered k.state k.memory k.lines x.done), x.chosen, x.program)

  settle : (n : ℕ) (o : Executed) → (settled_step n k.state k.memory k.second o.channel o.memory Kind.Instruction).number ≡ n
  unfolding settled_step
  settle zero o = refl
  settle (suc n) o = rw (eqb-suc-zero n)

  -- which no check refuses
  none : (executed_on k).number ≡ 0
  unfolding instruction_step
  none = sym (settle (executed_on k).number (executed_on k)) ∙ sym (ap (λ (o : Step). o.number) own) ∙ x.done

  -- so it leaves what an instruction of that shape does
  leaves : left_by k ≡ done_step k.state k.second (deed_on k shape).channel (changed k.memory (deed_on k shape).change) Kind.Instruction
  unfolding instruction_step settled_step
  leaves =
      own
      ∙ rw (eq-eqb (executed_on k).number 0 none)
      (ap (λ (o : Executed). done_step k.state k.second o.channel o.memory Kind.Instruction) (done (channel_on k) (busy_on k) k.memory shape x.reads none))

  -- the channel after it
  channel-left : channel_of (left_by k).state k.second ≡ (deed_on k shape).channel
  channel-left =
      ap (λ (o : Step). channel_of o.state k.second) leaves
      ∙ last-channel (with_channel k.state k.second (deed_on k shape).channel) k.second k.second
      ∙ put_same k.state k.second (deed_on k shape).channel

  -- a pointer of 20 bits that it stores in lent bytes reads back from where it went
  stored_back : (at p : Pointer) → (deed_on k shape).change ≡ pointer_to at p → Lent k.memory at 3 → p.address < 1048576
      → pointer_at (left_by k).memory at.tag at.address ≡ p
  stored_back at p e lent small =
      ap (λ (o : Step). pointer_at o.memory at.tag at.address) leaves
      ∙ rw (e, pointer-changed k.memory at p)
      (pointer_back k.memory at.tag at.address p
      (rw add-zero at (lent 0 (lit< tt))) (lent 1 (lit< tt)) (lent 2 (lit< tt))
      ∙ ap (λ (a : ℕ). pointer a p.tag) (mod-eq_of_lt small))

-- ---- the register of MOVP is a pointer

-- the register of MOVP, and 0 for any other shape
abbrev movp_register : Shape → ℕ
movp_register Nop = 0
movp_register Sintr = 0
movp_register Xfer = 0
movp_register (Wid s d) = 0
movp_register Hlt = 0
movp_register (Lpdi r) = 0
movp_register (RegisterImmediate k r w) = 0
movp_register (Register k r) = 0
movp_register (JumpRegister z r d) = 0
movp_register (RegisterMemory k r o) = 0
movp_register (MemoryRegister k r o) = 0
movp_register (MemoryImmediate k o) = 0
movp_register (MemoryAlone k o) = 0
movp_register (JumpMemory z o d) = 0
movp_register (Lpd r o) = 0
movp_register (MovpLoad r o) = r
movp_register (MovpStore r o) = r
movp_register (MovMemory o) = 0
movp_register (Tsl o) = 0
movp_register (Call o d) = 0
movp_register (JumpMasked e o d) = 0
movp_register (JumpBit e b o d) = 0
movp_register (Bit e b o) = 0

abbrev register_in : Decoded → ℕ
register_in (Ok shape) = movp_register shape
register_in (Err NoInstruction) = 0
register_in (Err ControlUsed) = 0

-- PPP names GA, GB, GC or TP
abbrev is_pointer : ℕ → Bool
is_pointer r = ltb r 3 || eqb r 4

is-pointer : (r : ℕ) → is_pointer r ≡ true → IsPointer r
is-pointer r h = go (ℕ_discrete r 0) (ℕ_discrete r 1) (ℕ_discrete r 2) (ℕ_discrete r 4)
  where
    go : Dec (r ≡ 0) → Dec (r ≡ 1) → Dec (r ≡ 2) → Dec (r ≡ 4) → IsPointer r
    go (yes e) b c d = inl e
    go (no a) (yes e) c d = inr (inl e)
    go (no a) (no b) (yes e) d = inr (inr (inl e))
    go (no a) (no b) (no c) (yes e) = inr (inr (inr e))
    go (no a) (no b) (no c) (no d) = let past : 3 ≤ r = omega arith in apart (sym (rw (le-ltb r 3 past, ne_eqb r 4 d) at h))

-- each of some rows that a pair fits has a pointer there
abbrev pointing : List SummaryRow → Pair → Bool
pointing [] p = true
pointing (r ∷ rs) p = (is_pointer (movp_register (r.shape p)) || not (fits r p)) && pointing rs p

-- then so has what they make of the pair
looked-up : (rows : List SummaryRow) (p : Pair) → pointing rows p ≡ true → is_pointer (register_in (lookup rows p)) ≡ true
unfolding lookup
looked-up [] p h = refl
looked-up (r ∷ rs) p h =
    chosen (fits r p) (r.control && is_control p) (both_left (here || not (fits r p)) (pointing rs p) h) (looked-up rs p (both_right (here || not (fits r p)) (pointing rs p) h))
  where
    here : Bool
    here = is_pointer (movp_register (r.shape p))

    chosen : (b control : Bool) → here || not b ≡ true → is_pointer (register_in (lookup rs p)) ≡ true
        → is_pointer (register_in (pick b (pick control (Err ControlUsed) (Ok (r.shape p))) (lookup rs p))) ≡ true
    chosen true true e rest = refl
    chosen true false e rest = sym (or-false here) ∙ e
    chosen false control e rest = rest

-- a test that another asks for too
guarded : (a x b : Bool) → x || not (a && (x && b)) ≡ true
guarded a true b = refl
guarded true false b = refl
guarded false false b = refl

-- the table's rows have
table-pointing : (p : Pair) → pointing table p ≡ true
unfolding table
table-pointing p =
    let others = eqb p.w 1 && eqb p.dd 0 in
    rw (guarded (eqb p.opcode 0x26) (is_pointer p.rrr) others, guarded (eqb p.opcode 0x23) (is_pointer p.rrr) others)

-- so what a step executes has
executes-pointer : {k : StepCall} {shape : Shape} → Executes k shape → IsPointer (movp_register shape)
unfolding decoded_at decode_of
executes-pointer {k} {shape} x =
    let pair = pair_of (byte_here k.memory (channel_on k).tp) (byte_here k.memory (onward (channel_on k).tp 1)) in
    is-pointer (movp_register shape) (subst (λ (d : Decoded). is_pointer (register_in d) ≡ true) x.reads (looked-up table pair (table-pointing pair)))

-- ---- the pointer registers of a sound channel

sound-found : (c : Channel) (n r : ℕ) → sound_channel c ≡ true → IsPointer r → register_of (past_instruction c n) r < 1048576
unfolding sound_channel register_of by_rrr past_instruction renewed onward
sound-found c n r h =
    let ga = ltb c.ga.address 1048576 in
    let gb = ltb c.gb.address 1048576 in
    let gc = ltb c.gc.address 1048576 in
    let tp = ltb c.tp.address 1048576 in
    let three : ga && gb && gc ≡ true = both_left (ga && gb && gc) tp (both_left (ga && gb && gc && tp) (ltb c.pp 1048576) h) in
    let two : ga && gb ≡ true = both_left (ga && gb) gc three in
    ⊎_elim (λ e. rw e (ltb-true c.ga.address 1048576 (both_left ga gb two)))
    (⊎_elim (λ e. rw e (ltb-true c.gb.address 1048576 (both_right ga gb two)))
    (⊎_elim (λ e. rw e (ltb-true c.gc.address 1048576 (both_right (ga && gb) gc three)))
    (λ e. rw e (mod-lt (c.tp.address + n) (lit< tt)))))

-- ---- there and back

-- three bytes that are alike hold the same pointer
three-same : (m m' : Buffers) (at : Pointer) → SameThree at m m' → pointer_at m' at.tag at.address ≡ pointer_at m at.tag at.address
unfolding pointer_at
three-same m m' at e = rw (rw add-zero at (e 0 (lit< tt)), e 1 (lit< tt), e 2 (lit< tt))

-- MOVP P,M loads the pointer that its three bytes hold
loads-back : {k : StepCall} {at : Pointer} {k' : StepCall} {r : ℕ} {o : Memory} (p : Pointer) → LoadsFrom k at k' r o
    → p.address < 1048576 → pointer_at (left_by k).memory at.tag at.address ≡ p → Holds (channel_of (left_by k').state k'.second) r p.address p.tag
unfolding deed_of performed movp_load_deed
loads-back {k} {at} {k'} {r} {o} p l small e =
    let shape = MovpLoad r o in
    let here : pointer_at k'.memory (operand_of k' shape o).tag (operand_of k' shape o).address ≡ p =
    ap (λ (q : Pointer). pointer_at k'.memory q.tag q.address) l.place ∙ three-same (left_by k).memory k'.memory at l.bytes ∙ e in
    let after : channel_of (left_by k').state k'.second ≡ with_register (grown (found k' shape) o 3) r p.address p.tag =
    channel-left k' shape l.loads ∙ ap (λ (q : Pointer). with_register (grown (found k' shape) o 3) r q.address q.tag) here in
    let there : IsPointer r = executes-pointer l.loads in
    rw after (record {
      value = register-written (grown (found k' shape) o 3) r p.address p.tag there ∙ mod-eq_of_lt small;
      space = tag-written (grown (found k' shape) o 3) r p.address p.tag there;
    })

-- MOVP M,P, then MOVP P,M at the same place
pub movp-back : {k : StepCall} {r : ℕ} {o : Memory} {k' : StepCall} {r' : ℕ} {o' : Memory} → Executes k (MovpStore r o)
    → LoadsFrom k (operand_of k (MovpStore r o) o) k' r' o'
    → Holds (channel_of (left_by k').state k'.second) r' (register_of (found k (MovpStore r o)) r) (tag_of (found k (MovpStore r o)) r)
unfolding deed_of performed movp_store_deed
movp-back {k} {r} {o} x l =
    let shape = MovpStore r o in
    let p = pointer (register_of (found k shape) r) (tag_of (found k shape) r) in
    let sound = sound-channel-of k.state k.second (entry-sound k.state k.memory k.lines (entered k.state k.memory k.lines x.done)) in
    let small : p.address < 1048576 = sound-found (channel_on k) (length_of shape) r sound (executes-pointer x) in
    loads-back p l small (stored_back k shape x (operand_of k shape o) p refl l.lent small)

-- CALL, then MOVP P,M at that place
pub call_back : {k : StepCall} {o : Memory} {two : Bool} {k' : StepCall} {r' : ℕ} {o' : Memory} → Executes k (Call o two)
    → LoadsFrom k (operand_of k (Call o two) o) k' r' o'
    → Holds (channel_of (left_by k').state k'.second) r' (found k (Call o two)).tp.address (found k (Call o two)).tp.tag
unfolding deed_of performed call_deed past_instruction renewed onward
call_back {k} {o} {two} x l =
    let shape = Call o two in
    let p = (found k shape).tp in
    let small : p.address < 1048576 = mod-lt ((channel_on k).tp.address + length_of shape) (lit< tt) in
    loads-back p l small (stored_back k shape x (operand_of k shape o) p refl l.lent small)
