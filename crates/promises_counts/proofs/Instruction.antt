-- The list of an instruction is complete.
-- Assumes nothing.
use Rattle.std.proofs.Common.{Ok, Err, Option, Some, None}
use Prim.Native.Nat.{ℕ, ◌+◌, ◌/◌, ◌%◌, ◌≤◌}
use borrow.Author.Tests.{eqb-true, eq-eqb, ne_eqb}
use lib.Dec.{eqb, lit<}
use lib.ListN.{length}
use mathlib.Core.Bool.{Bool, true, false}
use mathlib.Core.List.{List, [], ◌∷◌, ◌++◌, append_assoc, append-nil}
use mathlib.Core.Path.{◌≡◌, refl, sym, ap, ap₂, ◌∙◌}
use native.Mathlib.Decide.{ℕ_discrete}
use native.Mathlib.Omega.{arith}
use Rattle.ground_rules.specs.Choice.{pick}
use Rattle.ground_rules.specs.Buffers.{Buffers, store_byte}
use Rattle.ground_rules.specs.Places.{Place, span}
use Rattle.ground_rules.specs.declared.Pointer.{Pointer}
use Rattle.ground_rules.specs.Stages.{stage, stages_number, stages_touched}
use Rattle.ground_rules.specs.declared.Channel.{Channel}
use Rattle.instruction_rules.specs.Lengths.{length_of}
use Rattle.instruction_rules.specs.Reading.{decode_of, decoded_number}
use Rattle.instruction_rules.specs.Decoded.{Decoded}
use Rattle.instruction_rules.specs.declared.Unread.TheVariants.{NoInstruction, ControlUsed}
use Rattle.instruction_rules.specs.declared.Memory.{Memory}
use Rattle.instruction_rules.specs.declared.Shape.{Shape}
use Rattle.instruction_rules.specs.declared.Shape.TheVariants.{Nop, Sintr, Xfer, Wid, Hlt, Lpdi, RegisterImmediate, Register, JumpRegister, RegisterMemory, MemoryRegister, MemoryImmediate, MemoryAlone, JumpMemory, Lpd, MovpLoad, MovpStore, MovMemory, Tsl, Call, JumpMasked, JumpBit, Bit}
use Rattle.instruction_rules.specs.Changes.{changed, places_of}
use Rattle.instruction_rules.specs.Marks.{past_instruction}
use Rattle.instruction_rules.specs.Operands.{byte_here, bytes_at, size_of, effective}
use Rattle.instruction_rules.specs.declared.Change.{Change}
use Rattle.instruction_rules.specs.Deeds.{Deed, deed}
use Rattle.instruction_rules.specs.Control.{nop_deed, sintr_deed, xfer_deed, wid_deed, hlt_deed}
use Rattle.instruction_rules.specs.RegisterForms.{register_immediate_deed, register_deed, register_memory_deed, lpdi_deed, lpd_deed, movp_load_deed}
use Rattle.instruction_rules.specs.MemoryForms.{worked_back, memory_work_deed, memory_register_deed, memory_immediate_deed, memory_alone_deed, movp_store_deed, bit_deed, mov_operand_deed, mov_second_deed, second_at, mov_memory_deed}
use Rattle.instruction_rules.specs.JumpForms.{jump_register_deed, jump_memory_deed, jump_byte_deed, jump_masked_deed, jump_bit_deed, tsl_deed, call_deed}
use Rattle.instruction_rules.proofs.OutcomeLaws.{pair-passed, second-passed}
use Rattle.instruction_rules.specs.Execute.{decoded_at, performed, deed_of, later_bytes, deed_from, later_from, stages_from, instruction_stages, execute_number, touched_by_instruction, Executed, executed, execute_of}
use Rattle.promises_counts.specs.Complete.{SameLengths, AgreeOn}
use Rattle.promises_counts.specs.Lists.{instruction_answer, InstructionComplete}
use Rattle.promises_counts.specs.Stores.{Store, stores_made, store_places}
use Rattle.promises_counts.proofs.AgreeLaws.{agree_left, agree_right, byte-same, byte-on, number_same}
use Rattle.promises_counts.proofs.DeedLaws.{performed-same}
use Rattle.promises_counts.proofs.TraceLaws.{SameIn, Traced, complete, stores_at, row-places, three_made}

-- ---- a change as stores

-- as many bytes of the value as it counts, at most three
change_bytes : Change → List ℕ
change_bytes ch =
    let low = ch.value % 256 in
    let middle = ch.value / 256 % 256 in
    let high = ch.value / 65536 % 256 in
    pick (eqb ch.count 0) [] (pick (eqb ch.count 1) (low ∷ []) (pick (eqb ch.count 2) (low ∷ middle ∷ []) (low ∷ middle ∷ high ∷ [])))

change_stores : Change → List Store
change_stores ch = stores_at ch.at.tag ch.at.address (change_bytes ch)

change-made : (m : Buffers) (ch : Change) → changed m ch ≡ stores_made m (change_stores ch)
unfolding changed change_stores change_bytes stores_made stores_at
change-made m ch = go (eqb ch.count 0) (eqb ch.count 1) (eqb ch.count 2)
  where
    t : Bool
    t = ch.at.tag

    a : ℕ
    a = ch.at.address

    x : ℕ
    x = ch.value % 256

    y : ℕ
    y = ch.value / 256 % 256

    z : ℕ
    z = ch.value / 65536 % 256

    go : (none one two : Bool)
        → pick none m (pick one (store_byte m t a x) (pick two (store_byte (store_byte m t a x) t (a + 1) y) (store_byte (store_byte (store_byte m t a x) t (a + 1) y) t (a + 2) z)))
        ≡ stores_made m (stores_at t a (pick none [] (pick one (x ∷ []) (pick two (x ∷ y ∷ []) (x ∷ y ∷ z ∷ [])))))
    go true one two = refl
    go false true two = refl
    go false false true = refl
    go false false false = sym (three_made m t a x y z)

bytes-length : (ch : Change) → ch.count ≤ 3 → length (change_bytes ch) ≡ ch.count
unfolding change_bytes
bytes-length ch h = go (ℕ_discrete ch.count 0) (ℕ_discrete ch.count 1) (ℕ_discrete ch.count 2)
  where
    go : Dec (ch.count ≡ 0) → Dec (ch.count ≡ 1) → Dec (ch.count ≡ 2) → length (change_bytes ch) ≡ ch.count
    go (yes e) b d = rw (eq-eqb ch.count 0 e) (sym e)
    go (no a) (yes e) d = rw (ne_eqb ch.count 0 a, eq-eqb ch.count 1 e) (sym e)
    go (no a) (no b) (yes e) = rw (ne_eqb ch.count 0 a, ne_eqb ch.count 1 b, eq-eqb ch.count 2 e) (sym e)
    go (no a) (no b) (no d) = rw (ne_eqb ch.count 0 a, ne_eqb ch.count 1 b, ne_eqb ch.count 2 d) (omega arith)

change-places : (ch : Change) → ch.count ≤ 3 → store_places (change_stores ch) ≡ places_of ch
unfolding change_stores places_of
change-places ch h = row-places ch.at.tag ch.at.address (change_bytes ch) ∙ ap (span ch.at.tag ch.at.address) (bytes-length ch h)

-- ---- no instruction stores more than three bytes

size-most : (wide : Bool) → size_of wide ≤ 3
size-most true = omega arith
size-most false = omega arith

tsl-most : (x : Bool) (ps : List Place) (a b : Channel) (e f : Change) → e.count ≤ 3 → f.count ≤ 3 → (pick x (deed ps a e) (deed ps b f)).change.count ≤ 3
tsl-most true ps a b e f h k = h
tsl-most false ps a b e f h k = k

mov-most : (m : Buffers) (c : Channel) (tp : Pointer) (o : Memory) (x : Option Memory) → (mov_second_deed m c tp o x).change.count ≤ 3
unfolding mov_second_deed mov_operand_deed
mov-most m c tp o (Some q) = size-most o.wide
mov-most m c tp o None = omega arith

pub stores-most : (s : Shape) (m : Buffers) (c : Channel) (tp : Pointer) (armed : Bool) (busy : ℕ) → (performed s m c tp armed busy).change.count ≤ 3
unfolding performed nop_deed sintr_deed xfer_deed wid_deed hlt_deed register_immediate_deed register_deed register_memory_deed lpdi_deed lpd_deed movp_load_deed worked_back memory_work_deed memory_register_deed memory_immediate_deed memory_alone_deed movp_store_deed bit_deed mov_memory_deed jump_register_deed jump_memory_deed jump_byte_deed jump_masked_deed jump_bit_deed tsl_deed call_deed
stores-most Nop m c tp armed busy = omega arith
stores-most Sintr m c tp armed busy = omega arith
stores-most Xfer m c tp armed busy = omega arith
stores-most (Wid source destination) m c tp armed busy = omega arith
stores-most Hlt m c tp armed busy = omega arith
stores-most (Lpdi ppp) m c tp armed busy = omega arith
stores-most (RegisterImmediate work rrr wide) m c tp armed busy = omega arith
stores-most (Register single rrr) m c tp armed busy = omega arith
stores-most (JumpRegister zero rrr two) m c tp armed busy = omega arith
stores-most (RegisterMemory work rrr o) m c tp armed busy = omega arith
stores-most (MemoryRegister work rrr o) m c tp armed busy = size-most o.wide
stores-most (MemoryImmediate work o) m c tp armed busy = size-most o.wide
stores-most (MemoryAlone single o) m c tp armed busy = size-most o.wide
stores-most (JumpMemory zero o two) m c tp armed busy = omega arith
stores-most (Lpd ppp o) m c tp armed busy = omega arith
stores-most (MovpLoad ppp o) m c tp armed busy = omega arith
stores-most (MovpStore ppp o) m c tp armed busy = omega arith
stores-most (MovMemory o) m c tp armed busy = mov-most m c tp o (second_at m tp o)
stores-most (Tsl o) m c tp armed busy = tsl-most (eqb (byte_here m (effective m c o tp)) 0) (bytes_at (effective m c o tp) 1) _ _ _ _ one none
  where
    one : 1 ≤ 3
    one = omega arith

    none : 0 ≤ 3
    none = omega arith
stores-most (Call o two) m c tp armed busy = omega arith
stores-most (JumpMasked equal o two) m c tp armed busy = omega arith
stores-most (JumpBit set bit o two) m c tp armed busy = omega arith
stores-most (Bit on bit o) m c tp armed busy = omega arith

-- ---- stages

-- what is read in three stages and then stored, taken apart
three-split : (A B R S : List Place) (x y : Bool) → A ++ pick x (B ++ pick y ((R ++ S) ++ []) []) [] ≡ (A ++ pick x (B ++ pick y R []) []) ++ pick x (pick y S []) []
three-split A B R S true true = simp (append-nil, append_assoc)
three-split A B R S true false = simp append-nil
three-split A B R S false y = simp append-nil

-- the places of stores that are made in the third
three-places : (x y : Bool) (ws : List Store) → store_places (pick x (pick y ws []) []) ≡ pick x (pick y (store_places ws) []) []
unfolding store_places
three-places true true ws = refl
three-places true false ws = refl
three-places false y ws = refl

module _ (c : Channel) (busy : ℕ) (m : Buffers) where
  -- what an instruction reads, d being what its first two bytes are
  unfoldable pub read_in : Decoded → List Place
  read_in d = bytes_at c.tp 2 ++ pick (eqb (decoded_number d) 0) (later_from d c ++ pick (eqb (deed_from d m c busy).second 0) (deed_from d m c busy).reads []) []

  -- the places that it stores to
  unfoldable pub written_in : Decoded → List Place
  written_in d = pick (eqb (decoded_number d) 0) (pick (eqb (deed_from d m c busy).second 0) (places_of (deed_from d m c busy).change) []) []

  -- what it stores
  stored_in : Decoded → List Store
  stored_in d = pick (eqb (decoded_number d) 0) (pick (eqb (deed_from d m c busy).second 0) (change_stores (deed_from d m c busy).change) []) []

  change-most : (d : Decoded) → (deed_from d m c busy).change.count ≤ 3
  unfolding deed_from deed_of
  change-most (Ok s) = stores-most s m (past_instruction c (length_of s)) c.tp c.armed busy
  change-most (Err NoInstruction) = omega arith
  change-most (Err ControlUsed) = omega arith

  read-and-stored : (d : Decoded) → stages_touched (stages_from d m c busy) ≡ read_in d ++ written_in d
  unfolding stages_touched stages_from read_in written_in
  read-and-stored d =
      let done = deed_from d m c busy in
      three-split (bytes_at c.tp 2) (later_from d c) done.reads (places_of done.change) (eqb (decoded_number d) 0) (eqb done.second 0)

  stored-places : (d : Decoded) → store_places (stored_in d) ≡ written_in d
  unfolding stored_in written_in
  stored-places d =
      let done = deed_from d m c busy in
      let x = eqb (decoded_number d) 0 in
      let y = eqb done.second 0 in
      three-places x y (change_stores done.change) ∙ ap (λ (ps : List Place). pick x (pick y ps []) []) (change-places done.change (change-most d))

  -- ---- in other memories

  module _ (n : Buffers) where
    pub decoded-same : AgreeOn (bytes_at c.tp 2) m n → decoded_at n c.tp ≡ decoded_at m c.tp
    unfolding decoded_at
    decoded-same h = ap₂ decode_of (byte-same m n c.tp 2 (lit< tt) h) (byte-on m n c.tp 2 1 (lit< tt) h)

    deed-same : (d : Decoded) → AgreeOn (read_in d) m n → deed_from d n c busy ≡ deed_from d m c busy
    unfolding read_in deed_from later_from deed_of later_bytes
    deed-same (Ok s) h =
        let done = performed s m (past_instruction c (length_of s)) c.tp c.armed busy in
        let rest = agree_right m n (bytes_at c.tp 2) (later_bytes s c ++ pick (eqb done.second 0) done.reads []) h in
        performed-same s m n (past_instruction c (length_of s)) c.tp c.armed busy
        (agree_left m n (later_bytes s c) (pick (eqb done.second 0) done.reads []) rest)
        (agree_right m n (later_bytes s c) (pick (eqb done.second 0) done.reads []) rest)
    deed-same (Err NoInstruction) h = refl
    deed-same (Err ControlUsed) h = refl

    module _ (h : AgreeOn (read_in (decoded_at m c.tp)) m n) where
      pub pair_same : decoded_at n c.tp ≡ decoded_at m c.tp
      unfolding read_in
      pair_same =
          let d = decoded_at m c.tp in
          decoded-same
          (agree_left m n (bytes_at c.tp 2)
          (pick (eqb (decoded_number d) 0) (later_from d c ++ pick (eqb (deed_from d m c busy).second 0) (deed_from d m c busy).reads []) []) h)

      pub done-same : deed_from (decoded_at n c.tp) n c busy ≡ deed_from (decoded_at m c.tp) m c busy
      done-same = ap (λ (d : Decoded). deed_from d n c busy) pair_same ∙ deed-same (decoded_at m c.tp) h

      pub stages-same : instruction_stages n c busy ≡ instruction_stages m c busy
      unfolding instruction_stages stages_from
      stages-same =
          ap₂ (λ (d : Decoded) (e : Deed). stage (bytes_at c.tp 2) (decoded_number d) ∷ stage (later_from d c) e.second ∷ stage (e.reads ++ places_of e.change) 0 ∷ [])
          pair_same done-same

      instruction-number : SameLengths m n → execute_number n c busy ≡ execute_number m c busy
      unfolding execute_number
      instruction-number l = number_same m n l (instruction_stages n c busy) ∙ ap (stages_number m) stages-same

  -- ---- the instruction

  -- by its number and its deed
  settled_as : ℕ → Deed → Buffers → Executed
  settled_as k d o = pick (eqb k 0) (executed 0 d.channel (changed o d.change)) (executed k c o)

  told_same : (b : Bool) (k : ℕ) (d : Deed) (n : Buffers)
      → instruction_answer (pick b (executed 0 d.channel (changed n d.change)) (executed k c n))
      ≡ instruction_answer (pick b (executed 0 d.channel (changed m d.change)) (executed k c m))
  told_same true k d n = refl
  told_same false k d n = refl

  -- a done one has passed both judgements
  stored-all : execute_number m c busy ≡ 0 → stored_in (decoded_at m c.tp) ≡ change_stores (deed_from (decoded_at m c.tp) m c busy).change
  unfolding stored_in
  stored-all z =
      let d = decoded_at m c.tp in
      rw (eq-eqb (decoded_number d) 0 (pair-passed c busy m z), eq-eqb (deed_from d m c busy).second 0 (second-passed c busy m z))

  left-same : (n : Buffers) (b : Bool) → eqb (execute_number m c busy) 0 ≡ b
      → (pick b (executed 0 (deed_from (decoded_at m c.tp) m c busy).channel (changed n (deed_from (decoded_at m c.tp) m c busy).change)) (executed (execute_number m c busy) c n)).memory
      ≡ stores_made n (pick b (stored_in (decoded_at m c.tp)) [])
  unfolding stores_made
  left-same n true e =
      change-made n (deed_from (decoded_at m c.tp) m c busy).change ∙ ap (stores_made n) (sym (stored-all (eqb-true (execute_number m c busy) 0 e)))
  left-same n false e = refl

  same : (n : Buffers) → SameLengths m n → AgreeOn (read_in (decoded_at m c.tp)) m n
      → SameIn (λ n. touched_by_instruction n c busy) (λ n. instruction_answer (execute_of c busy n)) (λ n. (execute_of c busy n).memory) m
      (pick (eqb (execute_number m c busy) 0) (stored_in (decoded_at m c.tp)) []) n
  unfolding touched_by_instruction execute_of settled_as
  same n l h =
      let k = execute_number m c busy in
      let d = deed_from (decoded_at m c.tp) m c busy in
      record {
        list = ap stages_touched (stages-same n h);
        told = ap₂ (λ (x : ℕ) (y : Deed). instruction_answer (settled_as x y n)) (instruction-number n h l) (done-same n h) ∙ told_same (eqb k 0) k d n;
        left = ap₂ (λ (x : ℕ) (y : Deed). (settled_as x y n).memory) (instruction-number n h l) (done-same n h) ∙ left-same n (eqb k 0) refl;
      }

  pub instruction-traced : Traced (read_in (decoded_at m c.tp)) (written_in (decoded_at m c.tp)) (eqb (execute_number m c busy) 0) (λ n. touched_by_instruction n c busy) (λ n. instruction_answer (execute_of c busy n)) (λ n. (execute_of c busy n).memory) m
  unfolding touched_by_instruction instruction_stages
  instruction-traced =
      record {
        stores = stored_in (decoded_at m c.tp);
        placed = stored-places (decoded_at m c.tp);
        split = read-and-stored (decoded_at m c.tp);
        same = same;
      }

  -- its list is complete
  pub instruction-complete : InstructionComplete c busy m
  instruction-complete = complete instruction-traced
