-- The sheet of the memory instructions: stores, work in memory, bits, jumps on memory, TSL and CALL.
-- Assumes nothing.
use Rattle.std.proofs.Common.{Ok, Some, None}
use Prim.Native.Nat.{ℕ, zero, suc, ◌+◌, ◌*◌, ◌/◌, ◌%◌, ◌^◌, ◌<◌}
use borrow.Author.Tests.{eq-eqb, ne_eqb, lt-ltb}
use lib.Bits.{bit_and, bit_xor}
use lib.Dec.{eqb, ltb, lit<}
use lib.ListN.{get_or, set}
use mathlib.Core.Bool.{Bool, true, false, not, ◌&&◌}
use mathlib.Core.List.{List, [], ◌∷◌}
use mathlib.Core.Path.{◌≡◌, refl, sym, subst, ap, ap₂, ◌∙◌}
use native.Mathlib.Nat.{add-zero, add_assoc, mod-mod, mod-add-mod}
use native.Mathlib.Omega.{arith}
use Rattle.instruction_rules.specs.Lengths.{data_length, displacement_length, length_of, offset_length}
use Rattle.instruction_rules.specs.Reading.{lookup, second_of}
use Rattle.instruction_rules.specs.Table.{table}
use Rattle.instruction_rules.specs.Pairs.{memory_of, columns}
use Rattle.instruction_rules.specs.Pairs.Column.{'0, '1, '00, '000, 'AA, 'MM}
use Rattle.instruction_rules.specs.declared.Pair.{Pair}
use Rattle.instruction_rules.specs.declared.Shape.{Shape}
use Rattle.instruction_rules.specs.declared.Shape.TheVariants.{MemoryRegister, MemoryImmediate, MemoryAlone, JumpMemory, MovpStore, MovMemory, Tsl, Call, JumpMasked, JumpBit, Bit}
use Rattle.instruction_rules.specs.declared.Single.{Single}
use Rattle.instruction_rules.specs.declared.Work.{Work}
use Rattle.instruction_rules.specs.declared.Work.TheVariants.{Mov, Add, Or, And}
use Rattle.instruction_rules.specs.Execute.{performed, deed_of}
use Rattle.instruction_rules.specs.JumpForms.{jump_memory_deed, jump_byte_deed, jump_masked_deed, jump_bit_deed, tsl_deed, call_deed}
use Rattle.instruction_rules.specs.MemoryForms.{worked_back, memory_work_deed, memory_register_deed, memory_immediate_deed, memory_alone_deed, movp_store_deed, bit_written, bit_deed, second_at, mov_operand_deed, mov_second_deed, mov_memory_deed}
use Rattle.instruction_rules.proofs.ChangeLaws.{pointer-changed}
use Rattle.instruction_rules.specs.Changes.{places_of, changed, result_to, pointer_to}
use Rattle.instruction_rules.specs.Marks.{past_instruction}
use Rattle.instruction_rules.specs.declared.Change.{Change}
use Rattle.instruction_rules.specs.Operands.{bytes_at, indexed, further, effective, grown, operand_at, jumped_if, work_of, single_of, after_pair}
use Rattle.ground_rules.specs.Registers.{register_of, tag_of}
use Rattle.ground_rules.specs.States.{channel_of}
use Rattle.ground_rules.specs.Updates.{renewed}
use Rattle.ground_rules.specs.declared.Channel.{Channel}
use Rattle.ground_rules.specs.declared.State.{State}
use Rattle.ground_rules.proofs.PlaceLaws.{byte-reduced, later, after}
use Rattle.ground_rules.proofs.SpanLaws.{span-at, span-first}
use Rattle.ground_rules.proofs.StoreLaws.{store-lent, store-touchable, read_same, read-other, slot-stays}
use Rattle.ground_rules.specs.Buffers.{Buffers, lent_at, touchable_at, byte_at, store_byte}
use Rattle.ground_rules.specs.Places.{all_touchable, Apart}
use Rattle.ground_rules.specs.Values.{pointer, onward, store_pointer}
use Rattle.ground_rules.specs.declared.Pointer.{Pointer}
use Rattle.turn_rules.specs.Step.{step_of}
use Rattle.ground_rules.specs.Bits.{bit_of, with_bit}
use Rattle.ground_rules.specs.Choice.{pick}
use Rattle.ground_rules.specs.Compare.{match_of}
use Rattle.promises.specs.SheetWords.{bit, form_of, tags_of, tag_in, pointing}
use Rattle.promises_sheet.specs.SheetOperands.{PairRan, ran_channel, code_byte, base_address, base_tag, added_by, operand_address, offset_bytes, grown_by, raw_in, operand_in, dd_of, displacement_in, whether, works_of, singles_of, result_bytes, registers_at, past_by, jumped_by, value_past, RegistersLeft, stored_there, BytesLeft}
use Rattle.promises_sheet.specs.SheetRegisters.{Goes}
use Rattle.promises_sheet.specs.SheetMemory.{Stores, past_pair, byte_operand, landed, MemorySheet}
use Rattle.promises_sheet.proofs.SheetOperands.{pair_with, pair_is, base-is, task-left, deed_in, registers-left, memory-left, places-touchable, memory_with, place_is, operand-is, grown-left, jumped-left}
use Rattle.promises_sheet.proofs.SheetRegisters.{ap₃, pair-length, size_is, found, tag-past, goes}

-- ---- bytes stored in a row

-- what is read where a byte went: the byte, or FFh from an empty slot
read_kept : (m : Buffers) (t : Bool) (a v : ℕ) → touchable_at m t a ≡ true → byte_at (store_byte m t a v) t a ≡ stored_there m t a v
unfolding touchable_at
read_kept m false a v h = read_same m false a v h
read_kept m true a v h = go (lent_at m true a) refl
  where
    go : (b : Bool) → lent_at m true a ≡ b → byte_at (store_byte m true a v) true a ≡ pick (not b) 0xFF v
    go true e = read_same m true a v e
    go false e = slot-stays m true a v a e

module _ (m : Buffers) (t : Bool) (a : ℕ) where
  abbrev stored₁ : ℕ → Buffers
  stored₁ u = store_byte m t a u

  abbrev stored₂ : ℕ → ℕ → Buffers
  stored₂ u v = store_byte (stored₁ u) t (a + 1) v

  abbrev stored₃ : ℕ → ℕ → ℕ → Buffers
  stored₃ u v w = store_byte (stored₂ u v) t (a + 2) w

  -- the places before are others than the one stored to
  zeroth : (u : Bool) (b : ℕ) → Apart t (a + 0) u b → Apart t a u b
  zeroth u b h = subst (λ (n : ℕ). Apart t n u b) (add-zero a) h

  -- the first byte, then the second, then the third
  first-kept : (u : ℕ) → touchable_at m t a ≡ true → byte_at (stored₁ u) t a ≡ stored_there m t (a + 0) u
  first-kept u h = read_kept m t a u h ∙ ap (λ (b : ℕ). stored_there m t b u) (sym (add-zero a))

  second-kept : (u v : ℕ) → touchable_at m t (a + 1) ≡ true → byte_at (stored₂ u v) t (a + 1) ≡ stored_there m t (a + 1) v
  second-kept u v h =
      read_kept (stored₁ u) t (a + 1) v (store-touchable m t t a (a + 1) u ∙ h)
      ∙ ap (λ (x : Bool). pick (t && not x) 0xFF v) (store-lent m t t a (a + 1) u)

  third-kept : (u v w : ℕ) → touchable_at m t (a + 2) ≡ true → byte_at (stored₃ u v w) t (a + 2) ≡ stored_there m t (a + 2) w
  third-kept u v w h =
      read_kept (stored₂ u v) t (a + 2) w (store-touchable (stored₁ u) t t (a + 1) (a + 2) v ∙ store-touchable m t t a (a + 2) u ∙ h)
      ∙ ap (λ (x : Bool). pick (t && not x) 0xFF w) (store-lent (stored₁ u) t t (a + 1) (a + 2) v ∙ store-lent m t t a (a + 2) u)

  pub one_left : (u : ℕ) → all_touchable m (bytes_at (pointer a t) 1) ≡ true → BytesLeft t a (u ∷ []) m (stored₁ u)
  one_left u h = record {
    stored = at;
    others = λ d b ne. read-other m t a u d b (zeroth d b (ne 0 (lit< tt)));
  }
    where
      at : (i : ℕ) → i < 1 → byte_at (stored₁ u) t (a + i) ≡ stored_there m t (a + i) (get_or (u ∷ []) i 0)
      at zero k = ap (byte_at (stored₁ u) t) (add-zero a) ∙ first-kept u (span-first (touchable_at m) t a 1 h (lit< tt))
      at (suc i) k = absurd (omega arith)

  pub two-left : (u v : ℕ) → all_touchable m (bytes_at (pointer a t) 2) ≡ true → BytesLeft t a (u ∷ v ∷ []) m (stored₂ u v)
  two-left u v h = record {
    stored = at;
    others = λ d b ne. read-other (stored₁ u) t (a + 1) v d b (ne 1 (lit< tt)) ∙ read-other m t a u d b (zeroth d b (ne 0 (lit< tt)));
  }
    where
      at : (i : ℕ) → i < 2 → byte_at (stored₂ u v) t (a + i) ≡ stored_there m t (a + i) (get_or (u ∷ v ∷ []) i 0)
      at zero k =
          ap (byte_at (stored₂ u v) t) (add-zero a) ∙ read-other (stored₁ u) t (a + 1) v t a (after t a 1 (lit< tt) (lit< tt))
          ∙ first-kept u (span-first (touchable_at m) t a 2 h (lit< tt))
      at (suc zero) k = second-kept u v (span-at (touchable_at m) t a 2 1 h (lit< tt))
      at (suc (suc i)) k = absurd (omega arith)

  pub three-left : (u v w : ℕ) → all_touchable m (bytes_at (pointer a t) 3) ≡ true → BytesLeft t a (u ∷ v ∷ w ∷ []) m (stored₃ u v w)
  three-left u v w h = record {
    stored = at;
    others = λ d b ne.
        read-other (stored₂ u v) t (a + 2) w d b (ne 2 (lit< tt)) ∙ read-other (stored₁ u) t (a + 1) v d b (ne 1 (lit< tt)) ∙ read-other m t a u d b (zeroth d b (ne 0 (lit< tt)));
  }
    where
      at : (i : ℕ) → i < 3 → byte_at (stored₃ u v w) t (a + i) ≡ stored_there m t (a + i) (get_or (u ∷ v ∷ w ∷ []) i 0)
      at zero k =
          ap (byte_at (stored₃ u v w) t) (add-zero a) ∙ read-other (stored₂ u v) t (a + 2) w t a (after t a 2 (lit< tt) (lit< tt))
          ∙ read-other (stored₁ u) t (a + 1) v t a (after t a 1 (lit< tt) (lit< tt)) ∙ first-kept u (span-first (touchable_at m) t a 3 h (lit< tt))
      at (suc zero) k =
          read-other (stored₂ u v) t (a + 2) w t (a + 1) (later t a 1 2 (lit< tt) (lit< tt))
          ∙ second-kept u v (span-at (touchable_at m) t a 3 1 h (lit< tt))
      at (suc (suc zero)) k = third-kept u v w (span-at (touchable_at m) t a 3 2 h (lit< tt))
      at (suc (suc (suc i))) k = absurd (omega arith)

  -- a result by W
  pub result-left : (v w : ℕ) → w < 2 → all_touchable m (places_of (result_to (pointer a t) (eqb w 1) v)) ≡ true
      → BytesLeft t a (result_bytes v w) m (changed m (result_to (pointer a t) (eqb w 1) v))
  unfolding places_of changed
  result-left v zero h l = one_left (v % 256) l
  result-left v (suc zero) h l = two-left (v % 256) (v / 256 % 256) l
  result-left v (suc (suc k)) h l = absurd (omega arith)

  -- a pointer
  pub pointer-left : (p : Pointer) → all_touchable m (places_of (pointer_to (pointer a t) p)) ≡ true
      → BytesLeft t a (form_of p.address p.tag) m (changed m (pointer_to (pointer a t) p))
  unfolding places_of store_pointer
  pointer-left p l =
      subst (λ (m' : Buffers). BytesLeft t a (form_of p.address p.tag) m m') (sym (pointer-changed m (pointer a t) p))
      (three-left (p.address % 256) (p.address / 256 % 256) (p.address / 65536 % 16 * 16 + pick p.tag 8 0) l)

-- ---- lengths

-- a memory operand's offset bytes
offset-is : (mm aa w : ℕ) → aa < 4 → offset_length (memory_with mm aa w) ≡ offset_bytes aa
unfolding offset_length
offset-is mm zero w h = refl
offset-is mm (suc zero) w h = refl
offset-is mm (suc (suc zero)) w h = refl
offset-is mm (suc (suc (suc zero))) w h = refl
offset-is mm (suc (suc (suc (suc k)))) w h = absurd (omega arith)

-- a pair with its offset byte, and some bytes behind it
more-length : (aa i d : ℕ) → aa < 4 → 2 + pick (eqb aa 1) 1 0 + i + d ≡ 2 + offset_bytes aa + (i + d)
more-length zero i d h = omega arith
more-length (suc zero) i d h = omega arith
more-length (suc (suc zero)) i d h = omega arith
more-length (suc (suc (suc zero))) i d h = omega arith
more-length (suc (suc (suc (suc k)))) i d h = absurd (omega arith)

-- data of one byte or two
data-long : (aa w : ℕ) → aa < 4 → w < 2 → 2 + pick (eqb aa 1) 1 0 + (1 + pick (eqb w 1) 1 0) + 0 ≡ 2 + offset_bytes aa + (w + 1)
data-long aa zero h k = more-length aa 1 0 h
data-long aa (suc zero) h k = more-length aa 2 0 h
data-long aa (suc (suc w)) h k = absurd (omega arith)

-- a displacement of one or two
jump-long : (aa : ℕ) (two : Bool) → aa < 4 → 2 + pick (eqb aa 1) 1 0 + 0 + (1 + pick two 1 0) ≡ 2 + offset_bytes aa + dd_of two
jump-long aa true h = more-length aa 0 2 h
jump-long aa false h = more-length aa 0 1 h

-- where data and displacement stand
behind-is : (c : Channel) (mm aa w : ℕ) → aa < 4 → after_pair c.tp (memory_with mm aa w) ≡ onward c.tp (2 + offset_bytes aa)
behind-is c mm aa w h = ap (λ (n : ℕ). onward c.tp (2 + n)) (offset-is mm aa w h)

-- the data
data_is : (m : Buffers) (c : Channel) (mm aa w : ℕ) → aa < 4 → w < 2
    → operand_at m (after_pair c.tp (memory_with mm aa w)) (eqb w 1) ≡ operand_in m c.tp.tag (c.tp.address + (2 + offset_bytes aa)) w
unfolding onward
data_is m c mm aa w h k =
    let same : (c.tp.address + (2 + offset_bytes aa)) % 1048576 % 1048576 ≡ (c.tp.address + (2 + offset_bytes aa)) % 1048576 = mod-mod (c.tp.address + (2 + offset_bytes aa)) 1048576 in
    ap (λ (p : Pointer). operand_at m p (eqb w 1)) (behind-is c mm aa w h)
    ∙ operand-is m c.tp.tag ((c.tp.address + (2 + offset_bytes aa)) % 1048576) (c.tp.address + (2 + offset_bytes aa)) w k same

-- a place some bytes on, and then some more
onward-more : (p : Pointer) (i j : ℕ) → onward (onward p i) j ≡ onward p (i + j)
unfolding onward
onward-more p i j = ap (λ (a : ℕ). pointer a p.tag) (mod-add-mod (p.address + i) 1048576 j ∙ ap (λ (a : ℕ). a % 1048576) (add_assoc p.address i j))

-- ---- tests

-- a number is 0 where its form in 20 bits is
sign_zero : (x limit more : ℕ) → 0 < limit → eqb (pick (ltb x limit) x (x + more)) 0 ≡ eqb x 0
sign_zero zero limit more h = rw (lt-ltb 0 limit h)
sign_zero (suc x) limit more h = go (ltb (suc x) limit)
  where
    go : (b : Bool) → eqb (pick b (suc x) (suc x + more)) 0 ≡ eqb (suc x) 0
    go true = refl
    go false = ne_eqb (suc x + more) 0 (omega arith) ∙ sym (ne_eqb (suc x) 0 (omega arith))

raw-zero : (m : Buffers) (t : Bool) (a w : ℕ) → w < 2 → eqb (operand_in m t a w) 0 ≡ eqb (raw_in m t a w) 0
raw-zero m t a zero h = sign_zero (byte_at m t a) 128 1048320 (lit< tt)
raw-zero m t a (suc zero) h = sign_zero (byte_at m t a + byte_at m t (a + 1) * 256) 32768 983040 (lit< tt)
raw-zero m t a (suc (suc k)) h = absurd (omega arith)

-- ---- the families

-- what work stores
worked-is : (m : Buffers) (c : Channel) (work : Work) (j : ℕ) → ((x y : ℕ) → work_of work x y ≡ get_or (works_of x y) j 0) → (aa w mm k v : ℕ) → aa < 4 → w < 2 → mm < 4
    → worked_back m (effective m (past_instruction c k) (memory_with mm aa w) c.tp) work (eqb w 1) v
    ≡ result_to (pointer (operand_address m c mm aa) (base_tag c mm)) (eqb w 1) (get_or (works_of (operand_in m (base_tag c mm) (operand_address m c mm aa) w) v) j 0)
unfolding worked_back
worked-is m c work j works aa w mm k v ha hw hm =
    let at = pointer (operand_address m c mm aa) (base_tag c mm) in
    ap (λ (q : Pointer). result_to q (eqb w 1) (work_of work (operand_at m q (eqb w 1)) v)) (place_is m c k mm aa w ha hm)
    ∙ ap (λ (e : ℕ). result_to at (eqb w 1) (work_of work e v)) (operand-is m (base_tag c mm) (operand_address m c mm aa) (operand_address m c mm aa) w hw refl)
    ∙ ap (result_to at (eqb w 1)) (works (operand_in m (base_tag c mm) (operand_address m c mm aa) w) v)

module _ {b : Bool} {s : State} {m : Buffers} {lines r dd aa w op mm : ℕ} (x : PairRan b s m lines r dd aa w op mm) (shape : Shape) (small : op < 64)
    (reads : lookup table (pair_with r dd aa w op mm) ≡ Ok shape) where
  -- a deed that writes no register and stores bytes
  stores : {tp ix : ℕ} {k : Channel} {bytes : List ℕ} (ch : Change) → RegistersLeft (channel_of s b) k (registers_at (channel_of s b) tp ix) (tags_of (channel_of s b))
      → (deed_in s m b shape).channel ≡ k → (deed_in s m b shape).change ≡ ch
      → (all_touchable m (places_of ch) ≡ true → BytesLeft (base_tag (channel_of s b) mm) (operand_address m (channel_of s b) mm aa) bytes m (changed m ch))
      → Stores b s m lines mm aa bytes tp ix
  stores {tp} {ix} {k} {bytes} ch l e f left = (
    registers-left x shape small reads e l,
    subst (λ (m' : Buffers). BytesLeft (base_tag (channel_of s b) mm) (operand_address m (channel_of s b) mm aa) bytes m m')
        (sym (memory-left x shape small reads ∙ ap (changed m) f))
        (left (ap (λ (z : Change). all_touchable m (places_of z)) (sym f) ∙ places-touchable x shape small reads)),
  )

module _ {b : Bool} {s : State} {m : Buffers} {lines : ℕ} where
  -- MOVP M,P
  movp : (r aa mm : ℕ) → pointing r ≡ true → PairRan b s m lines r 0 aa 1 0x26 mm
      → Stores b s m lines mm aa (form_of (value_past (channel_of s b) (2 + offset_bytes aa) r) (tag_in (channel_of s b) r))
      (past_by (channel_of s b) (2 + offset_bytes aa)) (grown_by (channel_of s b).ix aa 3)
  unfolding lookup table deed_of performed movp_store_deed length_of data_length displacement_length
  movp r aa mm p x =
      let c = channel_of s b in
      let o = memory_with mm aa 1 in
      let n = 2 + offset_bytes aa in
      let at = pointer (operand_address m c mm aa) (base_tag c mm) in
      stores x (MovpStore r o) (lit< tt) (rw p) (pointer_to at (pointer (value_past c n r) (tag_in c r))) (grown-left c n mm aa 1 3 x.mode)
      (ap (λ (k : ℕ). grown (past_instruction c k) o 3) (pair-length aa x.mode))
      (ap₂ (λ (k : ℕ) (q : Pointer). pointer_to q (pointer (register_of (past_instruction c k) r) (tag_of (past_instruction c k) r)))
      (pair-length aa x.mode) (place_is m c (length_of (MovpStore r o)) mm aa 1 x.mode x.base)
      ∙ ap₂ (λ (v : ℕ) (t : Bool). pointer_to at (pointer v t)) (found c n r x.rrr) (tag-past c n r x.rrr))
      (pointer-left m (base_tag c mm) (operand_address m c mm aa) (pointer (value_past c n r) (tag_in c r)))

  module _ (work : Work) (j : ℕ) (works : (x y : ℕ) → work_of work x y ≡ get_or (works_of x y) j 0) where
    -- MOV, ADD, OR, AND M,R
    work-register : (r aa w op mm : ℕ) → op < 64 → lookup table (pair_with r 0 aa w op mm) ≡ Ok (MemoryRegister work r (memory_with mm aa w)) → PairRan b s m lines r 0 aa w op mm
        → Stores b s m lines mm aa
        (result_bytes (get_or (works_of (operand_in m (base_tag (channel_of s b) mm) (operand_address m (channel_of s b) mm aa) w) (value_past (channel_of s b) (2 + offset_bytes aa) r)) j 0) w)
        (past_by (channel_of s b) (2 + offset_bytes aa)) (grown_by (channel_of s b).ix aa (w + 1))
    unfolding deed_of performed memory_register_deed memory_work_deed length_of data_length displacement_length
    work-register r aa w op mm small reads x =
        let c = channel_of s b in
        let o = memory_with mm aa w in
        let n = 2 + offset_bytes aa in
        let v = get_or (works_of (operand_in m (base_tag c mm) (operand_address m c mm aa) w) (value_past c n r)) j 0 in
        let at = pointer (operand_address m c mm aa) (base_tag c mm) in
        stores x (MemoryRegister work r o) small reads (result_to at (eqb w 1) v) (grown-left c n mm aa w (w + 1) x.mode)
        (ap₂ (λ (k by : ℕ). grown (past_instruction c k) o by) (pair-length aa x.mode) (size_is w x.wide))
        (ap (λ (k : ℕ). worked_back m (effective m (past_instruction c k) o c.tp) work (eqb w 1) (register_of (past_instruction c k) r)) (pair-length aa x.mode)
        ∙ worked-is m c work j works aa w mm n (register_of (past_instruction c n) r) x.mode x.wide x.base
        ∙ ap (λ (y : ℕ). result_to at (eqb w 1) (get_or (works_of (operand_in m (base_tag c mm) (operand_address m c mm aa) w) y) j 0)) (found c n r x.rrr))
        (result-left m (base_tag c mm) (operand_address m c mm aa) v w x.wide)

    -- MOVI, ADDI, ORI, ANDI M,I
    work-data : (aa w op mm : ℕ) → op < 64 → lookup table (pair_with 0 (w + 1) aa w op mm) ≡ Ok (MemoryImmediate work (memory_with mm aa w)) → PairRan b s m lines 0 (w + 1) aa w op mm
        → Stores b s m lines mm aa
        (result_bytes (get_or (works_of (operand_in m (base_tag (channel_of s b) mm) (operand_address m (channel_of s b) mm aa) w)
        (operand_in m (channel_of s b).tp.tag ((channel_of s b).tp.address + (2 + offset_bytes aa)) w)) j 0) w)
        (past_by (channel_of s b) (2 + offset_bytes aa + (w + 1))) (grown_by (channel_of s b).ix aa (w + 1))
    unfolding deed_of performed memory_immediate_deed memory_work_deed length_of data_length displacement_length
    work-data aa w op mm small reads x =
        let c = channel_of s b in
        let o = memory_with mm aa w in
        let n = 2 + offset_bytes aa + (w + 1) in
        let y = operand_in m c.tp.tag (c.tp.address + (2 + offset_bytes aa)) w in
        let v = get_or (works_of (operand_in m (base_tag c mm) (operand_address m c mm aa) w) y) j 0 in
        let at = pointer (operand_address m c mm aa) (base_tag c mm) in
        stores x (MemoryImmediate work o) small reads (result_to at (eqb w 1) v) (grown-left c n mm aa w (w + 1) x.mode)
        (ap₂ (λ (k by : ℕ). grown (past_instruction c k) o by) (data-long aa w x.mode x.wide) (size_is w x.wide))
        (worked-is m c work j works aa w mm (length_of (MemoryImmediate work o)) (operand_at m (after_pair c.tp o) (eqb w 1)) x.mode x.wide x.base
        ∙ ap (λ (z : ℕ). result_to at (eqb w 1) (get_or (works_of (operand_in m (base_tag c mm) (operand_address m c mm aa) w) z) j 0)) (data_is m c mm aa w x.mode x.wide))
        (result-left m (base_tag c mm) (operand_address m c mm aa) v w x.wide)

  -- NOT, INC, DEC M
  alone : (single : Single) (j aa w op mm : ℕ) → op < 64 → ((a : ℕ) → single_of single a ≡ get_or (singles_of a) j 0)
      → lookup table (pair_with 0 0 aa w op mm) ≡ Ok (MemoryAlone single (memory_with mm aa w)) → PairRan b s m lines 0 0 aa w op mm
      → Stores b s m lines mm aa
      (result_bytes (get_or (singles_of (operand_in m (base_tag (channel_of s b) mm) (operand_address m (channel_of s b) mm aa) w)) j 0) w)
      (past_by (channel_of s b) (2 + offset_bytes aa)) (grown_by (channel_of s b).ix aa (w + 1))
  unfolding deed_of performed memory_alone_deed length_of data_length displacement_length
  alone single j aa w op mm small gives reads x =
      let c = channel_of s b in
      let o = memory_with mm aa w in
      let n = 2 + offset_bytes aa in
      let e = operand_in m (base_tag c mm) (operand_address m c mm aa) w in
      let v = get_or (singles_of e) j 0 in
      let at = pointer (operand_address m c mm aa) (base_tag c mm) in
      stores x (MemoryAlone single o) small reads (result_to at (eqb w 1) v) (grown-left c n mm aa w (w + 1) x.mode)
      (ap₂ (λ (k by : ℕ). grown (past_instruction c k) o by) (pair-length aa x.mode) (size_is w x.wide))
      (ap (λ (q : Pointer). result_to q (eqb w 1) (single_of single (operand_at m q (eqb w 1)))) (place_is m c (length_of (MemoryAlone single o)) mm aa w x.mode x.base)
      ∙ ap (λ (z : ℕ). result_to at (eqb w 1) (single_of single z)) (operand-is m (base_tag c mm) (operand_address m c mm aa) (operand_address m c mm aa) w x.wide refl)
      ∙ ap (result_to at (eqb w 1)) (gives e))
      (result-left m (base_tag c mm) (operand_address m c mm aa) v w x.wide)

  -- SETB, CLR
  set-bit : (on : Bool) (r aa op mm : ℕ) → op < 64 → lookup table (pair_with r 0 aa 0 op mm) ≡ Ok (Bit on r (memory_with mm aa 0)) → PairRan b s m lines r 0 aa 0 op mm
      → Stores b s m lines mm aa
      ((byte_operand b s m lines mm aa / 2 ^ (r + 1) * 2 ^ (r + 1) + pick on (2 ^ r) 0 + byte_operand b s m lines mm aa % 2 ^ r) % 256 ∷ [])
      (past_by (channel_of s b) (2 + offset_bytes aa)) (grown_by (channel_of s b).ix aa 1)
  unfolding deed_of performed bit_deed bit_written with_bit length_of data_length displacement_length
  set-bit on r aa op mm small reads x =
      let c = channel_of s b in
      let o = memory_with mm aa 0 in
      let n = 2 + offset_bytes aa in
      let y = byte_operand b s m lines mm aa in
      let at = pointer (operand_address m c mm aa) (base_tag c mm) in
      let few : r < 32 = omega (arith, x.rrr) in
      stores x (Bit on r o) small reads (result_to at false (with_bit y r on)) (grown-left c n mm aa 0 1 x.mode)
      (ap (λ (k : ℕ). grown (past_instruction c k) o 1) (pair-length aa x.mode))
      (ap (λ (q : Pointer). result_to q false (bit_written (byte_at m q.tag q.address) r on)) (place_is m c (length_of (Bit on r o)) mm aa 0 x.mode x.base)
      ∙ ap (λ (t : Bool). result_to at false (pick t (with_bit y r on) y)) (lt-ltb r 32 few))
      (result-left m (base_tag c mm) (operand_address m c mm aa) (with_bit y r on) 0 (lit< tt))

  -- jumps on memory
  module _ (shape : Shape) (dd r aa w op mm by : ℕ) (two taken taken' : Bool) (small : op < 64)
      (reads : lookup table (pair_with r dd aa w op mm) ≡ Ok shape) (x : PairRan b s m lines r dd aa w op mm) where
    jumps : taken ≡ taken'
        → (deed_in s m b shape).channel ≡ jumped_if taken m (grown (past_instruction (channel_of s b) (2 + offset_bytes aa + dd_of two)) (memory_with mm aa w) by) (onward (channel_of s b).tp (2 + offset_bytes aa)) two
        → changed m (deed_in s m b shape).change ≡ m
        → Goes b s m lines (landed b s m lines taken' aa two) (grown_by (channel_of s b).ix aa by)
    unfolding grown past_instruction renewed
    jumps e f g =
        let c = channel_of s b in
        let n = 2 + offset_bytes aa + dd_of two in
        goes x shape small reads
        (jumped-left m c (grown (past_instruction c n) (memory_with mm aa w) by) n (grown_by c.ix aa by) (2 + offset_bytes aa) two taken taken' e refl
        (grown-left c n mm aa w by x.mode))
        f g

  -- JZ M, JNZ M
  jump : (z two : Bool) (aa w op mm : ℕ) → op < 64 → lookup table (pair_with 0 (dd_of two) aa w op mm) ≡ Ok (JumpMemory z (memory_with mm aa w) two)
      → PairRan b s m lines 0 (dd_of two) aa w op mm
      → Goes b s m lines
      (landed b s m lines (whether z (eqb (raw_in m (base_tag (channel_of s b) mm) (operand_address m (channel_of s b) mm aa) w) 0)) aa two)
      (grown_by (channel_of s b).ix aa (w + 1))
  unfolding deed_of performed jump_memory_deed changed length_of data_length displacement_length
  jump z two aa w op mm small reads x =
      let c = channel_of s b in
      let o = memory_with mm aa w in
      let at = pointer (operand_address m c mm aa) (base_tag c mm) in
      let n = 2 + offset_bytes aa + dd_of two in
      jumps (JumpMemory z o two) (dd_of two) 0 aa w op mm (w + 1) two (whether z (eqb (operand_at m at (eqb w 1)) 0)) _ small reads x
      (ap (λ (t : Bool). whether z t)
      (ap (λ (v : ℕ). eqb v 0) (operand-is m (base_tag c mm) (operand_address m c mm aa) (operand_address m c mm aa) w x.wide refl)
      ∙ raw-zero m (base_tag c mm) (operand_address m c mm aa) w x.wide))
      (ap₃ (λ (k by : ℕ) (q : Pointer). jumped_if (whether z (eqb (operand_at m (effective m (past_instruction c k) o c.tp) (eqb w 1)) 0)) m (grown (past_instruction c k) o by) q two)
      (jump-long aa two x.mode) (size_is w x.wide) (behind-is c mm aa w x.mode)
      ∙ ap (λ (q : Pointer). jumped_if (whether z (eqb (operand_at m q (eqb w 1)) 0)) m (grown (past_instruction c n) o (w + 1)) (onward c.tp (2 + offset_bytes aa)) two)
      (place_is m c n mm aa w x.mode x.base))
      refl

  -- a byte that is tested
  module _ (shape : Shape) (test : ℕ → Bool) (r aa op mm : ℕ) (two : Bool) (small : op < 64)
      (reads : lookup table (pair_with r (dd_of two) aa 0 op mm) ≡ Ok shape) (x : PairRan b s m lines r (dd_of two) aa 0 op mm) where
    jump-byte : (deed_in s m b shape).channel
        ≡ jumped_if (test (byte_at m (effective m (past_instruction (channel_of s b) (2 + pick (eqb aa 1) 1 0 + 0 + (1 + pick two 1 0))) (memory_with mm aa 0) (channel_of s b).tp).tag
        (effective m (past_instruction (channel_of s b) (2 + pick (eqb aa 1) 1 0 + 0 + (1 + pick two 1 0))) (memory_with mm aa 0) (channel_of s b).tp).address)) m
        (grown (past_instruction (channel_of s b) (2 + pick (eqb aa 1) 1 0 + 0 + (1 + pick two 1 0))) (memory_with mm aa 0) 1) (after_pair (channel_of s b).tp (memory_with mm aa 0)) two
        → changed m (deed_in s m b shape).change ≡ m
        → Goes b s m lines (landed b s m lines (test (byte_operand b s m lines mm aa)) aa two) (grown_by (channel_of s b).ix aa 1)
    jump-byte f g =
        let c = channel_of s b in
        let o = memory_with mm aa 0 in
        let n = 2 + offset_bytes aa + dd_of two in
        jumps shape (dd_of two) r aa 0 op mm 1 two (test (byte_operand b s m lines mm aa)) (test (byte_operand b s m lines mm aa)) small reads x refl
        (f
        ∙ ap₂ (λ (k : ℕ) (q : Pointer). jumped_if (test (byte_at m (effective m (past_instruction c k) o c.tp).tag (effective m (past_instruction c k) o c.tp).address)) m (grown (past_instruction c k) o 1) q two)
        (jump-long aa two x.mode) (behind-is c mm aa 0 x.mode)
        ∙ ap (λ (q : Pointer). jumped_if (test (byte_at m q.tag q.address)) m (grown (past_instruction c n) o 1) (onward c.tp (2 + offset_bytes aa)) two)
        (place_is m c n mm aa 0 x.mode x.base))
        g

  -- JMCE, JMCNE
  jump-masked : (equal two : Bool) (aa op mm : ℕ) → op < 64 → lookup table (pair_with 0 (dd_of two) aa 0 op mm) ≡ Ok (JumpMasked equal (memory_with mm aa 0) two)
      → PairRan b s m lines 0 (dd_of two) aa 0 op mm
      → Goes b s m lines
      (landed b s m lines (whether equal (eqb (bit_and (bit_xor (byte_operand b s m lines mm aa) ((channel_of s b).mc % 256)) ((channel_of s b).mc / 256 % 256)) 0)) aa two)
      (grown_by (channel_of s b).ix aa 1)
  unfolding deed_of performed jump_masked_deed jump_byte_deed match_of changed length_of data_length displacement_length past_instruction renewed
  jump-masked equal two aa op mm small reads x =
      jump-byte (JumpMasked equal (memory_with mm aa 0) two)
      (λ y. whether equal (eqb (bit_and (bit_xor y ((channel_of s b).mc % 256)) ((channel_of s b).mc / 256 % 256)) 0)) 0 aa op mm two small reads x refl refl

  -- JBT, JNBT
  jump-bit : (set two : Bool) (r aa op mm : ℕ) → op < 64 → lookup table (pair_with r (dd_of two) aa 0 op mm) ≡ Ok (JumpBit set r (memory_with mm aa 0) two)
      → PairRan b s m lines r (dd_of two) aa 0 op mm
      → Goes b s m lines (landed b s m lines (whether set (eqb (bit (byte_operand b s m lines mm aa) r) 1)) aa two) (grown_by (channel_of s b).ix aa 1)
  unfolding deed_of performed jump_bit_deed jump_byte_deed bit_of changed length_of data_length displacement_length
  jump-bit set two r aa op mm small reads x =
      jump-byte (JumpBit set r (memory_with mm aa 0) two) (λ y. whether set (eqb (bit y r) 1)) r aa op mm two small reads x refl refl

  -- TSL
  tsl-place : (aa mm : ℕ) → PairRan b s m lines 0 3 aa 0 0x25 mm → (k : ℕ)
      → effective m (past_instruction (channel_of s b) k) (memory_with mm aa 0) (channel_of s b).tp ≡ pointer (operand_address m (channel_of s b) mm aa) (base_tag (channel_of s b) mm)
  tsl-place aa mm x k = place_is m (channel_of s b) k mm aa 0 x.mode x.base

  tsl-free : (aa mm : ℕ) → byte_operand b s m lines mm aa ≡ 0 → PairRan b s m lines 0 3 aa 0 0x25 mm
      → Stores b s m lines mm aa (code_byte m (channel_of s b) (2 + offset_bytes aa) % 256 ∷ [])
      (past_by (channel_of s b) (2 + offset_bytes aa + 2)) (grown_by (channel_of s b).ix aa 1)
  unfolding lookup table deed_of performed tsl_deed length_of data_length displacement_length onward
  tsl-free aa mm e x =
      let c = channel_of s b in
      let o = memory_with mm aa 0 in
      let n = 2 + offset_bytes aa + 2 in
      let k = length_of (Tsl o) in
      let at = pointer (operand_address m c mm aa) (base_tag c mm) in
      let y = code_byte m c (2 + offset_bytes aa) in
      let free : eqb (byte_at m (effective m (past_instruction c k) o c.tp).tag (effective m (past_instruction c k) o c.tp).address) 0 ≡ true =
      ap (λ (q : Pointer). eqb (byte_at m q.tag q.address) 0) (tsl-place aa mm x k) ∙ eq-eqb (byte_operand b s m lines mm aa) 0 e in
      stores x (Tsl o) (lit< tt) refl (result_to at false y) (grown-left c n mm aa 0 1 x.mode)
      (rw free (ap (λ (i : ℕ). grown (past_instruction c i) o 1) (more-length aa 1 1 x.mode)))
      (rw free
      (ap₂ (λ (q p : Pointer). result_to q false (byte_at m p.tag p.address)) (tsl-place aa mm x k) (behind-is c mm aa 0 x.mode)
      ∙ ap (result_to at false) (byte-reduced m c.tp.tag (c.tp.address + (2 + offset_bytes aa)))))
      (result-left m (base_tag c mm) (operand_address m c mm aa) y 0 (lit< tt))

  tsl-taken : (aa mm : ℕ) → ¬ (byte_operand b s m lines mm aa ≡ 0) → PairRan b s m lines 0 3 aa 0 0x25 mm
      → Goes b s m lines
      (jumped_by (channel_of s b) (2 + offset_bytes aa + 2) (displacement_in m (channel_of s b) (2 + offset_bytes aa + 1) false))
      (grown_by (channel_of s b).ix aa 1)
  unfolding lookup table deed_of performed tsl_deed length_of data_length displacement_length changed grown past_instruction renewed
  tsl-taken aa mm ne x =
      let c = channel_of s b in
      let o = memory_with mm aa 0 in
      let n = 2 + offset_bytes aa + 2 in
      let k = length_of (Tsl o) in
      let taken : eqb (byte_at m (effective m (past_instruction c k) o c.tp).tag (effective m (past_instruction c k) o c.tp).address) 0 ≡ false =
      ap (λ (q : Pointer). eqb (byte_at m q.tag q.address) 0) (tsl-place aa mm x k) ∙ ne_eqb (byte_operand b s m lines mm aa) 0 ne in
      goes x (Tsl o) (lit< tt) refl
      (jumped-left m c (grown (past_instruction c n) o 1) n (grown_by c.ix aa 1) (2 + offset_bytes aa + 1) false true true refl refl (grown-left c n mm aa 0 1 x.mode))
      (rw taken
      (ap₂ (λ (i : ℕ) (q : Pointer). jumped_if true m (grown (past_instruction c i) o 1) q false) (more-length aa 1 1 x.mode)
      (ap (λ (q : Pointer). onward q 1) (behind-is c mm aa 0 x.mode) ∙ onward-more c.tp (2 + offset_bytes aa) 1)))
      (rw taken)

  -- CALL
  call : (two : Bool) (aa w mm : ℕ) → lookup table (pair_with 4 (dd_of two) aa w 0x27 mm) ≡ Ok (Call (memory_with mm aa w) two)
      → PairRan b s m lines 4 (dd_of two) aa w 0x27 mm
      → Stores b s m lines mm aa (form_of (past_pair b s m lines aa (dd_of two)) (channel_of s b).tp.tag)
      (landed b s m lines true aa two) (grown_by (channel_of s b).ix aa 3)
  unfolding deed_of performed call_deed length_of data_length displacement_length grown past_instruction renewed onward
  call two aa w mm reads x =
      let c = channel_of s b in
      let o = memory_with mm aa w in
      let n = 2 + offset_bytes aa + dd_of two in
      let at = pointer (operand_address m c mm aa) (base_tag c mm) in
      stores x (Call o two) (lit< tt) reads (pointer_to at (pointer (past_by c n) c.tp.tag))
      (jumped-left m c (grown (past_instruction c n) o 3) n (grown_by c.ix aa 3) (2 + offset_bytes aa) two true true refl refl (grown-left c n mm aa w 3 x.mode))
      (ap₂ (λ (i : ℕ) (q : Pointer). jumped_if true m (grown (past_instruction c i) o 3) q two) (jump-long aa two x.mode) (behind-is c mm aa w x.mode))
      (ap₂ (λ (i : ℕ) (q : Pointer). pointer_to q (onward c.tp i)) (jump-long aa two x.mode) (place_is m c (length_of (Call o two)) mm aa w x.mode x.base))
      (pointer-left m (base_tag c mm) (operand_address m c mm aa) (pointer (past_by c n) c.tp.tag))

-- ---- MOV M,M

-- the second pair
pub second_is : (m : Buffers) (c : Channel) (mm aa w aa₂ mm₂ : ℕ) → aa < 4 → w < 2 → aa₂ < 4 → mm₂ < 4
    → code_byte m c (2 + offset_bytes aa) ≡ aa₂ * 2 + w → code_byte m c (2 + offset_bytes aa + 1) ≡ 0x33 * 4 + mm₂
    → second_at m c.tp (memory_with mm aa w) ≡ Some (memory_with mm₂ aa₂ w)
unfolding second_at second_of onward
second_is m c mm aa w aa₂ mm₂ ha hw ha₂ hm₂ e f =
    ap₂ (λ (x y : ℕ). second_of x y (eqb w 1))
    (ap (λ (p : Pointer). byte_at m p.tag p.address) (behind-is c mm aa w ha) ∙ byte-reduced m c.tp.tag (c.tp.address + (2 + offset_bytes aa)) ∙ e ∙ plain)
    (ap (λ (p : Pointer). byte_at m p.tag p.address) (ap (λ (p : Pointer). onward p 1) (behind-is c mm aa w ha) ∙ onward-more c.tp (2 + offset_bytes aa) 1)
    ∙ byte-reduced m c.tp.tag (c.tp.address + (2 + offset_bytes aa + 1)) ∙ f)
    ∙ ap (λ (p : Pair). pick (eqb p.opcode 0x33 && columns '000 '00 'AA (pick (eqb w 1) '1 '0) 'MM p) (Some (memory_of p)) None)
    (pair_is 0 0 aa₂ w 0x33 mm₂ (lit< tt) (lit< tt) ha₂ hw (lit< tt) hm₂)
    ∙ go w hw
  where
    plain : aa₂ * 2 + w ≡ 0 * 32 + 0 * 8 + aa₂ * 2 + w
    plain = omega arith

    go : (w : ℕ) → w < 2
        → pick (eqb 0x33 0x33 && columns '000 '00 'AA (pick (eqb w 1) '1 '0) 'MM (pair_with 0 0 aa₂ w 0x33 mm₂)) (Some (memory_of (pair_with 0 0 aa₂ w 0x33 mm₂))) None
        ≡ Some (memory_with mm₂ aa₂ w)
    go zero h = refl
    go (suc zero) h = refl
    go (suc (suc k)) h = absurd (omega arith)

-- IX grown once more
grown-again : (c k : Channel) (tp ix mm aa w by : ℕ) → aa < 4 → k.ix ≡ ix → RegistersLeft c k (registers_at c tp ix) (tags_of c)
    → RegistersLeft c (grown k (memory_with mm aa w) by) (registers_at c tp (grown_by ix aa by)) (tags_of c)
unfolding grown renewed
grown-again c k tp ix mm aa w by h e l = record {
  values = ap (λ (vs : List ℕ). set vs 5 (pick (eqb aa 3) ((k.ix + by) % 65536) k.ix)) l.values
      ∙ ap (registers_at c tp) (go aa h ∙ ap (λ (i : ℕ). grown_by i aa by) e);
  tags = l.tags;
  pp = l.pp;
  mode = l.mode;
  mark = l.mark;
  status = l.status;
}
  where
    go : (aa : ℕ) → aa < 4 → pick (eqb aa 3) ((k.ix + by) % 65536) k.ix ≡ grown_by k.ix aa by
    go zero h = refl
    go (suc zero) h = refl
    go (suc (suc zero)) h = refl
    go (suc (suc (suc zero))) h = refl
    go (suc (suc (suc (suc i)))) h = absurd (omega arith)

-- what the second operand's AA adds
added-second : (m : Buffers) (k : Channel) (pair : Pointer) (mm aa w offset ix : ℕ) → aa < 4 → byte_at m (onward pair 2).tag (onward pair 2).address ≡ offset → k.ix ≡ ix
    → indexed m k (memory_with mm aa w) pair ≡ added_by offset ix aa
unfolding indexed
added-second m k pair mm zero w offset ix h e f = refl
added-second m k pair mm (suc zero) w offset ix h e f = e
added-second m k pair mm (suc (suc zero)) w offset ix h e f = f
added-second m k pair mm (suc (suc (suc zero))) w offset ix h e f = f
added-second m k pair mm (suc (suc (suc (suc i)))) w offset ix h e f = absurd (omega arith)

-- the bytes of both pairs and the first offset
pairs-long : (aa : ℕ) → aa < 4 → 4 + pick (eqb aa 1) 1 0 + 0 + 0 ≡ 2 + offset_bytes aa + 2
pairs-long zero h = refl
pairs-long (suc zero) h = refl
pairs-long (suc (suc zero)) h = refl
pairs-long (suc (suc (suc zero))) h = refl
pairs-long (suc (suc (suc (suc k)))) h = absurd (omega arith)

module _ (m : Buffers) (c : Channel) (aa w mm aa₂ mm₂ : ℕ) (ha : aa < 4) (hw : w < 2) (hm : mm < 4) (ha₂ : aa₂ < 4) (hm₂ : mm₂ < 4) where
  -- the channel after the first operand
  first-grown : Channel
  first-grown = grown (past_instruction c (2 + offset_bytes aa + 2)) (memory_with mm aa w) (w + 1)

  ix-first : first-grown.ix ≡ grown_by c.ix aa (w + 1)
  unfolding first-grown
  ix-first = ap (λ (vs : List ℕ). get_or vs 5 0) (grown-left c (2 + offset_bytes aa + 2) mm aa w (w + 1) ha).values

  -- the place of the second
  second-place : effective m first-grown (memory_with mm₂ aa₂ w) (onward c.tp (2 + offset_bytes aa))
      ≡ pointer ((base_address c mm₂ + added_by (code_byte m c (2 + offset_bytes aa + 2)) (grown_by c.ix aa (w + 1)) aa₂) % 1048576) (base_tag c mm₂)
  unfolding effective onward first-grown grown past_instruction renewed
  second-place =
      ap₂ (λ (p : Pointer) (k : ℕ). onward p k) (base-is first-grown mm₂ hm₂)
      (added-second m first-grown (onward c.tp (2 + offset_bytes aa)) mm₂ aa₂ w (code_byte m c (2 + offset_bytes aa + 2)) (grown_by c.ix aa (w + 1)) ha₂
      (ap (λ (p : Pointer). byte_at m p.tag p.address) (onward-more c.tp (2 + offset_bytes aa) 2) ∙ byte-reduced m c.tp.tag (c.tp.address + (2 + offset_bytes aa + 2)))
      ix-first)

  -- the channel after both
  both-left' : RegistersLeft c (further (grown first-grown (memory_with mm₂ aa₂ w) (w + 1)) (offset_bytes aa₂))
      (registers_at c (past_by c (2 + offset_bytes aa + (2 + offset_bytes aa₂))) (grown_by (grown_by c.ix aa (w + 1)) aa₂ (w + 1))) (tags_of c)
  unfolding further first-grown grown past_instruction renewed onward
  both-left' =
      task-left c (onward (onward c.tp (2 + offset_bytes aa + 2)) (offset_bytes aa₂)) (past_by c (2 + offset_bytes aa + (2 + offset_bytes aa₂)))
      (ap (λ (p : Pointer). p.address) (onward-more c.tp (2 + offset_bytes aa + 2) (offset_bytes aa₂))
      ∙ ap (λ (n : ℕ). (c.tp.address + n) % 1048576) (add_assoc (2 + offset_bytes aa) 2 (offset_bytes aa₂)))
      refl
      (grown-again c first-grown (past_by c (2 + offset_bytes aa + 2)) (grown_by c.ix aa (w + 1)) mm₂ aa₂ w (w + 1) ha₂ ix-first
      (grown-left c (2 + offset_bytes aa + 2) mm aa w (w + 1) ha))

module _ {b : Bool} {s : State} {m : Buffers} {lines : ℕ} where
  move-between : (aa w mm aa₂ mm₂ : ℕ) → aa₂ < 4 → mm₂ < 4 → PairRan b s m lines 0 0 aa w 0x24 mm
      → code_byte m (channel_of s b) (2 + offset_bytes aa) ≡ aa₂ * 2 + w → code_byte m (channel_of s b) (2 + offset_bytes aa + 1) ≡ 0x33 * 4 + mm₂
      → RegistersLeft (channel_of s b) (ran_channel b s m lines)
      (registers_at (channel_of s b) (past_pair b s m lines aa (2 + offset_bytes aa₂)) (grown_by (grown_by (channel_of s b).ix aa (w + 1)) aa₂ (w + 1)))
      (tags_of (channel_of s b))
      × BytesLeft (base_tag (channel_of s b) mm₂)
      ((base_address (channel_of s b) mm₂ + added_by (code_byte m (channel_of s b) (2 + offset_bytes aa + 2)) (grown_by (channel_of s b).ix aa (w + 1)) aa₂) % 1048576)
      (result_bytes (operand_in m (base_tag (channel_of s b) mm) (operand_address m (channel_of s b) mm aa) w) w) m (step_of s m lines).memory
  unfolding lookup table deed_of performed mov_memory_deed mov_second_deed mov_operand_deed length_of data_length displacement_length first-grown
  move-between aa w mm aa₂ mm₂ ha₂ hm₂ x e f =
      let c = channel_of s b in
      let o = memory_with mm aa w in
      let q = memory_with mm₂ aa₂ w in
      let n = 2 + offset_bytes aa + 2 in
      let k₀ = length_of (MovMemory o) in
      let second = second_is m c mm aa w aa₂ mm₂ x.mode x.wide ha₂ hm₂ e f in
      let a₂ = (base_address c mm₂ + added_by (code_byte m c (2 + offset_bytes aa + 2)) (grown_by c.ix aa (w + 1)) aa₂) % 1048576 in
      let v = operand_in m (base_tag c mm) (operand_address m c mm aa) w in
      let channel : (deed_in s m b (MovMemory o)).channel ≡ further (grown (grown (past_instruction c n) o (w + 1)) q (w + 1)) (offset_bytes aa₂) =
      rw second
      (ap₃ (λ (k by i : ℕ). further (grown (grown (past_instruction c k) o by) q by) i) (pairs-long aa x.mode) (size_is w x.wide) (offset-is mm₂ aa₂ w ha₂)) in
      let change : (deed_in s m b (MovMemory o)).change ≡ result_to (pointer a₂ (base_tag c mm₂)) (eqb w 1) v =
      rw second
      (ap₃ (λ (k by : ℕ) (p : Pointer). result_to (effective m (grown (past_instruction c k) o by) q p) (eqb w 1) (operand_at m (effective m (past_instruction c k₀) o c.tp) (eqb w 1)))
      (pairs-long aa x.mode) (size_is w x.wide) (behind-is c mm aa w x.mode)
      ∙ ap₂ (λ (p y : Pointer). result_to p (eqb w 1) (operand_at m y (eqb w 1))) (second-place m c aa w mm aa₂ mm₂ x.mode x.wide x.base ha₂ hm₂) (place_is m c k₀ mm aa w x.mode x.base)
      ∙ ap (result_to (pointer a₂ (base_tag c mm₂)) (eqb w 1)) (operand-is m (base_tag c mm) (operand_address m c mm aa) (operand_address m c mm aa) w x.wide refl)) in (
        registers-left x (MovMemory o) (lit< tt) refl channel (both-left' m c aa w mm aa₂ mm₂ x.mode x.wide x.base ha₂ hm₂),
        subst (λ (m' : Buffers). BytesLeft (base_tag c mm₂) a₂ (result_bytes v w) m m')
            (sym (memory-left x (MovMemory o) (lit< tt) refl ∙ ap (changed m) change))
            (result-left m (base_tag c mm₂) a₂ v w x.wide (ap (λ (z : Change). all_touchable m (places_of z)) (sym change) ∙ places-touchable x (MovMemory o) (lit< tt) refl)),
      )

-- ---- the sheet

pub memory-sheet : (second : Bool) (s : State) (m : Buffers) (lines : ℕ) → MemorySheet second s m lines
unfolding lookup table work_of single_of
memory-sheet b s m lines = record {
  movp = movp;
  move = λ r aa w mm x. work-register Mov 0 (λ x y. refl) r aa w 0x21 mm (lit< tt) refl x;
  work = works;
  move_data = moves;
  work_data = datas;
  alone = alones;
  set_bit = bits;
  jump = jumps';
  jump_masked = masked;
  jump_bit = tested;
  tsl_free = tsl-free;
  tsl_taken = tsl-taken;
  move_between = move-between;
  call = λ two aa w mm x. call two aa w mm (calls two aa w mm) x;
}
  where
    c₀ : Channel
    c₀ = channel_of s b

    works : (k r aa w mm : ℕ) → k < 3 → eqb r 6 ≡ false → PairRan b s m lines r 0 aa w (0x34 + k) mm
        → Stores b s m lines mm aa
        (result_bytes (get_or (works_of (operand_in m (base_tag (channel_of s b) mm) (operand_address m (channel_of s b) mm aa) w) (value_past (channel_of s b) (2 + offset_bytes aa) r)) (1 + k) 0) w)
        (past_by (channel_of s b) (2 + offset_bytes aa)) (grown_by (channel_of s b).ix aa (w + 1))
    works zero r aa w mm h ne x = work-register Add 1 (λ x y. refl) r aa w 0x34 mm (lit< tt) (rw ne) x
    works (suc zero) r aa w mm h ne x = work-register Or 2 (λ x y. refl) r aa w 0x35 mm (lit< tt) (rw ne) x
    works (suc (suc zero)) r aa w mm h ne x = work-register And 3 (λ x y. refl) r aa w 0x36 mm (lit< tt) (rw ne) x
    works (suc (suc (suc k))) r aa w mm h ne x = absurd (omega arith)

    moves : (aa w mm : ℕ) → PairRan b s m lines 0 (w + 1) aa w 0x13 mm
        → Stores b s m lines mm aa
        (result_bytes (operand_in m (channel_of s b).tp.tag ((channel_of s b).tp.address + (2 + offset_bytes aa)) w) w)
        (past_pair b s m lines aa (w + 1)) (grown_by (channel_of s b).ix aa (w + 1))
    moves aa zero mm x = work-data Mov 0 (λ x y. refl) aa 0 0x13 mm (lit< tt) refl x
    moves aa (suc zero) mm x = work-data Mov 0 (λ x y. refl) aa 1 0x13 mm (lit< tt) refl x
    moves aa (suc (suc w)) mm x = let h = x.wide in absurd (omega arith)

    datas : (k aa w mm : ℕ) → k < 3 → PairRan b s m lines 0 (w + 1) aa w (0x30 + k) mm
        → Stores b s m lines mm aa
        (result_bytes (get_or (works_of (operand_in m (base_tag (channel_of s b) mm) (operand_address m (channel_of s b) mm aa) w)
        (operand_in m (channel_of s b).tp.tag ((channel_of s b).tp.address + (2 + offset_bytes aa)) w)) (1 + k) 0) w)
        (past_pair b s m lines aa (w + 1)) (grown_by (channel_of s b).ix aa (w + 1))
    datas zero aa zero mm h x = work-data Add 1 (λ x y. refl) aa 0 0x30 mm (lit< tt) refl x
    datas zero aa (suc zero) mm h x = work-data Add 1 (λ x y. refl) aa 1 0x30 mm (lit< tt) refl x
    datas (suc zero) aa zero mm h x = work-data Or 2 (λ x y. refl) aa 0 0x31 mm (lit< tt) refl x
    datas (suc zero) aa (suc zero) mm h x = work-data Or 2 (λ x y. refl) aa 1 0x31 mm (lit< tt) refl x
    datas (suc (suc zero)) aa zero mm h x = work-data And 3 (λ x y. refl) aa 0 0x32 mm (lit< tt) refl x
    datas (suc (suc zero)) aa (suc zero) mm h x = work-data And 3 (λ x y. refl) aa 1 0x32 mm (lit< tt) refl x
    datas (suc (suc (suc k))) aa w mm h x = absurd (omega arith)
    datas zero aa (suc (suc w)) mm h x = let g = x.wide in absurd (omega arith)
    datas (suc zero) aa (suc (suc w)) mm h x = let g = x.wide in absurd (omega arith)
    datas (suc (suc zero)) aa (suc (suc w)) mm h x = let g = x.wide in absurd (omega arith)

    alones : (k aa w mm : ℕ) → k < 3 → PairRan b s m lines 0 0 aa w (get_or (0x37 ∷ 0x3A ∷ 0x3B ∷ []) k 0) mm
        → Stores b s m lines mm aa
        (result_bytes (get_or (singles_of (operand_in m (base_tag (channel_of s b) mm) (operand_address m (channel_of s b) mm aa) w)) k 0) w)
        (past_by (channel_of s b) (2 + offset_bytes aa)) (grown_by (channel_of s b).ix aa (w + 1))
    alones zero aa w mm h x = alone Single.Not 0 aa w 0x37 mm (lit< tt) (λ a. refl) refl x
    alones (suc zero) aa w mm h x = alone Single.Inc 1 aa w 0x3A mm (lit< tt) (λ a. refl) refl x
    alones (suc (suc zero)) aa w mm h x = alone Single.Dec 2 aa w 0x3B mm (lit< tt) (λ a. refl) refl x
    alones (suc (suc (suc k))) aa w mm h x = absurd (omega arith)

    bits : (on : Bool) (r aa mm : ℕ) → PairRan b s m lines r 0 aa 0 (pick on 0x3D 0x3E) mm
        → Stores b s m lines mm aa
        ((byte_operand b s m lines mm aa / 2 ^ (r + 1) * 2 ^ (r + 1) + pick on (2 ^ r) 0 + byte_operand b s m lines mm aa % 2 ^ r) % 256 ∷ [])
        (past_by (channel_of s b) (2 + offset_bytes aa)) (grown_by (channel_of s b).ix aa 1)
    bits true r aa mm x = set-bit true r aa 0x3D mm (lit< tt) refl x
    bits false r aa mm x = set-bit false r aa 0x3E mm (lit< tt) refl x

    jumps' : (z two : Bool) (aa w mm : ℕ) → PairRan b s m lines 0 (dd_of two) aa w (pick z 0x39 0x38) mm
        → Goes b s m lines
        (landed b s m lines (whether z (eqb (raw_in m (base_tag (channel_of s b) mm) (operand_address m (channel_of s b) mm aa) w) 0)) aa two)
        (grown_by (channel_of s b).ix aa (w + 1))
    jumps' true true aa w mm x = jump true true aa w 0x39 mm (lit< tt) refl x
    jumps' true false aa w mm x = jump true false aa w 0x39 mm (lit< tt) refl x
    jumps' false true aa w mm x = jump false true aa w 0x38 mm (lit< tt) refl x
    jumps' false false aa w mm x = jump false false aa w 0x38 mm (lit< tt) refl x

    masked : (equal two : Bool) (aa mm : ℕ) → PairRan b s m lines 0 (dd_of two) aa 0 (pick equal 0x2C 0x2D) mm
        → Goes b s m lines
        (landed b s m lines (whether equal (eqb (bit_and (bit_xor (byte_operand b s m lines mm aa) ((channel_of s b).mc % 256)) ((channel_of s b).mc / 256 % 256)) 0)) aa two)
        (grown_by (channel_of s b).ix aa 1)
    masked true true aa mm x = jump-masked true true aa 0x2C mm (lit< tt) refl x
    masked true false aa mm x = jump-masked true false aa 0x2C mm (lit< tt) refl x
    masked false true aa mm x = jump-masked false true aa 0x2D mm (lit< tt) refl x
    masked false false aa mm x = jump-masked false false aa 0x2D mm (lit< tt) refl x

    tested : (set two : Bool) (r aa mm : ℕ) → PairRan b s m lines r (dd_of two) aa 0 (pick set 0x2F 0x2E) mm
        → Goes b s m lines (landed b s m lines (whether set (eqb (bit (byte_operand b s m lines mm aa) r) 1)) aa two) (grown_by (channel_of s b).ix aa 1)
    tested true true r aa mm x = jump-bit true true r aa 0x2F mm (lit< tt) refl x
    tested true false r aa mm x = jump-bit true false r aa 0x2F mm (lit< tt) refl x
    tested false true r aa mm x = jump-bit false true r aa 0x2E mm (lit< tt) refl x
    tested false false r aa mm x = jump-bit false false r aa 0x2E mm (lit< tt) refl x

    calls : (two : Bool) (aa w mm : ℕ) → lookup table (pair_with 4 (dd_of two) aa w 0x27 mm) ≡ Ok (Call (memory_with mm aa w) two)
    calls true aa w mm = refl
    calls false aa w mm = refl
