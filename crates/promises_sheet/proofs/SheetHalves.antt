-- The sheet of the halves of a pair of transfer steps.
-- Assumes nothing.
use Rattle.std.proofs.Common.{Option, ℕ, None, Some}
use Prim.Native.Nat.{ℕ, ◌+◌, ◌/◌, ◌%◌, ◌^◌, ◌<◌}
use lib.Dec.{eqb, lit<}
use lib.ListN.{length}
use mathlib.Core.Bool.{Bool, true, false, not, ◌&&◌, ◌||◌}
use mathlib.Core.List.{[], ◌∷◌}
use mathlib.Core.Path.{◌≡◌, refl, sym, subst, ap, ap₂, ◌∙◌}
use native.Mathlib.Nat.{mod-lt}
use borrow.Author.Tests.{eqb-false, eqb-true, eq-eqb}
use Rattle.instruction_rules.proofs.ChannelLaws.{execute-drops}
use Rattle.instruction_rules.specs.Execute.{Executed, execute_of}
use Rattle.ground_rules.proofs.ChannelLaws.{put_same, last-channel}
use Rattle.ground_rules.proofs.FieldLaws.{agree-channel-of}
use Rattle.ground_rules.specs.Cc.{split}
use Rattle.ground_rules.specs.Outcomes.{counted}
use Rattle.ground_rules.specs.Psw.{transferring}
use Rattle.ground_rules.specs.States.{channel_of, with_channel, fields_agree, block_of, busy_in}
use Rattle.ground_rules.specs.Updates.{with_transfer, holding}
use Rattle.ground_rules.specs.declared.Channel.{Channel}
use Rattle.ground_rules.specs.declared.State.{State}
use Rattle.ground_rules.specs.Buffers.{Buffers, byte_at, store_byte}
use Rattle.ground_rules.specs.Places.{Place}
use Rattle.ground_rules.specs.Values.{onward}
use Rattle.ground_rules.specs.declared.Pointer.{Pointer}
use Rattle.turn_rules.proofs.NumberLaws.{settled-number}
use Rattle.turn_rules.specs.declared.Kind.TheVariants.{Instruction}
use Rattle.turn_rules.specs.Step.{Step, instruction_step, settled_step, channel_step, chosen_step, entry_number, step_of}
use Rattle.turn_rules.specs.Touched.{touched_in, touched_by_step, step_count}
use Rattle.transfer_rules.proofs.MatchLaws.{low-compared}
use Rattle.transfer_rules.proofs.PartLaws.{fetch-due, store-due, fetches-two, fetches-word, stores-two, stores-singly, word-stored, singly-stored}
use Rattle.transfer_rules.proofs.StepLaws.{done-mode, two-plain}
use Rattle.transfer_rules.specs.Ends.{meets_tmc, code_if, larger, ended_tp, ended_psw, ended_by}
use Rattle.transfer_rules.specs.Halves.{word_with}
use Rattle.transfer_rules.specs.Parts.{Part, FirstFetch, SecondFetch, FirstStore, SecondStore, fetches_apart, stores_apart, fetch_part, store_part, part_of}
use Rattle.transfer_rules.specs.Reads.{fetched, fetched_second, entry_of, delivered, data_of, also}
use Rattle.transfer_rules.specs.Sides.{source, destination, word_side, second_address, gained, two_move, stored_singly}
use Rattle.transfer_rules.specs.Steps.{touched_by, channel_by, memory_by, bad_mode, touched_by_transfer}
use Rattle.transfer_rules.specs.Stores.{first_meets, match_met, cut_short, stores_two, bytes_stored, end_code, moved_by, move_over, moved_channel, put_on, moved_memory, places_on}
use Rattle.ground_rules.proofs.ChoiceLaws.{apart, both_left}
use Rattle.ground_rules.specs.Bits.{field_of, bit_of}
use Rattle.ground_rules.specs.Choice.{pick}
use Rattle.ground_rules.specs.Compare.{match_of}
use Rattle.promises.specs.Calls.{HasTurn}
use Rattle.promises.specs.SheetWords.{bit, field}
use Rattle.promises_sheet.specs.SheetOperands.{ran_channel}
use Rattle.promises_sheet.specs.SheetTransfer.{from_pointer, into_pointer, from_second, into_second, first_byte, meets_in, fetches_twice, stores_twice, Transfers, TransferLeft}
use Rattle.promises_sheet.specs.SheetHalves.{is_none, OnlyHeld, pair_less, pair_code, PairLeft, HalfLeft, HalfTouches, Halves, HalfSheet}
use Rattle.promises.proofs.AgreeLaws.{agreeing, by_bits}
use Rattle.promises_sheet.proofs.SheetTransfer.{on, larger-small, pick_small, first-side, second-side, bit-picked, ended-task, ended-status, transfer-left, done-fields, done-number, done-channel, done-memory}

-- ---- by bits

module _ (c : Channel) (m : Buffers) (h : fields_agree c ≡ true) where
  fetch-bits : fetches_apart c ≡ fetches_twice c m
  unfolding fetches_apart two_move word_side source destination split field_of bit_of
  fetch-bits = by_bits (λ x. fetches_apart x ≡ fetches_twice x m) c h refl

  store-bits : stores_apart c ≡ stores_twice c m
  unfolding stores_apart stored_singly two_move word_side source destination split field_of bit_of
  store-bits = by_bits (λ x. stores_apart x ≡ stores_twice x m) c h refl

  from_bits : (source c).pointer ≡ from_pointer c m
  unfolding source split bit_of
  from_bits = by_bits (λ x. (source x).pointer ≡ from_pointer x m) c h refl

  into-bits : (destination c).pointer ≡ into_pointer c m
  unfolding destination split bit_of
  into-bits = by_bits (λ x. (destination x).pointer ≡ into_pointer x m) c h refl

  from-second-bits : second_address (source c) ≡ from_second c m
  unfolding second_address word_side source split bit_of
  from-second-bits = by_bits (λ x. second_address (source x) ≡ from_second x m) c h refl

  into-second-bits : second_address (destination c) ≡ into_second c m
  unfolding second_address word_side destination split bit_of
  into-second-bits = by_bits (λ x. second_address (destination x) ≡ into_second x m) c h refl

  meets-bits : (byte : ℕ) → meets_tmc c.fields.matchEnd c.mc byte ≡ meets_in c m byte
  unfolding meets_tmc match_of split field_of bit_of
  meets-bits byte = by_bits (λ x. meets_tmc x.fields.matchEnd x.mc byte ≡ meets_in x m byte) c h refl

  first-bits : (data_of c m).first ≡ first_byte c m
  unfolding data_of delivered fetched entry_of source split bit_of
  first-bits = by_bits (λ x. (data_of x m).first ≡ first_byte x m) c h refl

-- ---- a pair that is over

code-small : (c : Channel) (m : Buffers) (met : Bool) → pair_code c m met < 4
code-small c m met =
    larger-small _ (pick ts 1 0)
    (larger-small (pick met (field c.cc 0 3 % 4) 0) (pick counted (field c.cc 3 2) 0)
    (pick_small met (field c.cc 0 3 % 4) (mod-lt (field c.cc 0 3) (lit< tt)))
    (pick_small counted (field c.cc 3 2) (mod-lt (c.cc / 2 ^ 3) (lit< tt))))
    (pick_small ts 1 (lit< tt))
  where
    counted : Bool
    counted = eqb (pair_less c) 0

    ts : Bool
    ts = eqb (bit c.cc 7) 1

over-left : (c : Channel) (m : Buffers) (by : ℕ) (met : Bool) → two_move (agreeing c) ≡ true → PairLeft (agreeing c) m by met (move_over (agreeing c) by met)
unfolding move_over moved_by ended_by ended_tp ended_psw end_code larger code_if source destination split field_of bit_of with_transfer gained onward
over-left c m by met two = rw two (record {
  ga = first-side (eqb (bit c.cc 10) 1) c.ga c.gb (eqb (bit c.cc 15) 1) (eqb (bit c.cc 14) 1) by
      ∙ ap (λ (on : Bool). gained on c.ga by) (bit-picked (eqb (bit c.cc 10) 1) c.cc 15 14);
  gb = second-side (eqb (bit c.cc 10) 1) c.ga c.gb (eqb (bit c.cc 15) 1) (eqb (bit c.cc 14) 1) by
      ∙ ap (λ (on : Bool). gained on c.gb by) (bit-picked (eqb (bit c.cc 10) 1) c.cc 14 15);
  bc = refl;
  tp = ended-task c.tp (pair_code c m met) (code-small c m met);
  status = ended-status (eqb (pair_code c m met) 0) c.psw;
  gc = refl;
  pp = refl;
  ix = refl;
  cc = refl;
  fields = refl;
  mc = refl;
  mode = refl;
  mark = refl;
  held = refl;
})

pair_left : (c : Channel) (m : Buffers) (by : ℕ) (met : Bool) → fields_agree c ≡ true → two_move c ≡ true → PairLeft c m by met (move_over c by met)
pair_left c m by met h = by_bits (λ x. two_move x ≡ true → PairLeft x m by met (move_over x by met)) c h (over-left c m by met)

-- a second fetch ends a pair, and so does a first store that meets TMC
module _ (c : Channel) (m : Buffers) where
  second-fetched : (byte : ℕ) → fetches_apart c ≡ true → moved_channel c (word_with byte c m) ≡ move_over c 2 (meets_tmc c.fields.matchEnd c.mc byte)
  unfolding moved_channel bytes_stored first_meets word_with
  second-fetched byte f =
      let d = word_with byte c m in
      rw (word-stored c d f, low-compared c d (fetches-word c f))

  first-met : stores_apart c ≡ true → first_meets c (data_of c m) ≡ true → moved_channel c (data_of c m) ≡ move_over c 1 true
  unfolding moved_channel bytes_stored match_met
  first-met f k = let d = data_of c m in rw (singly-stored c d f, k)

  -- the second byte of two that move
  second-read : two_move c ≡ true → fetched_second c m ≡ byte_at m (source c).pointer.tag (second_address (source c))
  unfolding fetched_second
  second-read two = rw two

-- a channel that holds a byte more has no other register changed
only-held : (c : Channel) (byte : ℕ) → OnlyHeld c (holding c (Some byte))
only-held c byte = record { ga = refl; gb = refl; gc = refl; tp = refl; pp = refl; bc = refl; ix = refl; cc = refl; mc = refl; psw = refl; mode = refl; mark = refl; fields = refl }

-- ---- the halves

module _ (c : Channel) (m : Buffers) (h : fields_agree c ≡ true) where
  -- the part that is due
  fetch-part : (held : Option ℕ) → fetches_twice c m ≡ true → c.held ≡ held → part_of c ≡ fetch_part held
  fetch-part held f n = fetch-due c held (fetch-bits c m h ∙ f) n

  store-part : (held : Option ℕ) → stores_twice c m ≡ true → c.held ≡ held → part_of c ≡ store_part held
  unfolding fetches_apart stores_apart
  store-part held f n = store-due c held (none (fetches_apart c) refl) (store-bits c m h ∙ f) n
    where
      both : (syn : ℕ) (x y : Bool) → eqb syn 1 && x ≡ true → eqb syn 2 && y ≡ true → ⊥
      both syn x y e k = eqb-false 1 2 refl (sym (eqb-true syn 1 (both_left (eqb syn 1) x e)) ∙ eqb-true syn 2 (both_left (eqb syn 2) y k))

      none : (b : Bool) → fetches_apart c ≡ b → fetches_apart c ≡ false
      none true e = absurd (both c.fields.synchronised _ _ e (store-bits c m h ∙ f))
      none false e = e

  half-left : HalfLeft c m (channel_by (part_of c) c m) (memory_by (part_of c) c m)
  unfolding channel_by memory_by fetch_part store_part fetched put_on moved_memory word_with first_meets
  half-left = record {
    first_fetch = λ f n.
        subst (λ (k : Part). OnlyHeld c (channel_by k c m) × ((channel_by k c m).held ≡ Some (byte_at m (from_pointer c m).tag (from_pointer c m).address)) × (memory_by k c m ≡ m)) (sym (fetch-part None f n))
        (only-held c (fetched c m), ap (λ (p : Pointer). Some (byte_at m p.tag p.address)) (from_bits c m h), refl);
    second_fetch = λ byte f n.
        let g = fetch-bits c m h ∙ f in
        let d = word_with byte c m in
        subst (λ (k : Part). PairLeft c m 2 (meets_in c m byte) (channel_by k c m) × (memory_by k c m ≡ store_byte (store_byte m (into_pointer c m).tag (into_pointer c m).address byte) (into_pointer c m).tag (into_second c m) (byte_at m (from_pointer c m).tag (from_second c m)))) (sym (fetch-part (Some byte) f n)) (
          subst (λ (b : Bool). PairLeft c m 2 b (moved_channel c d)) (meets-bits c m h byte) (subst (PairLeft c m 2 (meets_tmc c.fields.matchEnd c.mc byte)) (sym (second-fetched c m byte g)) (pair_left c m 2 _ h (fetches-two c g))),
          word-put byte g,
        );
    first_store = λ f n k.
        let g = store-bits c m h ∙ f in
        subst (λ (k : Part). OnlyHeld c (channel_by k c m) × ((channel_by k c m).held ≡ Some (byte_at m (from_pointer c m).tag (from_second c m))) × (memory_by k c m ≡ store_byte m (into_pointer c m).tag (into_pointer c m).address (first_byte c m))) (sym (store-part None f n))
        (subst (λ (b : Bool). OnlyHeld c (stores b) × ((stores b).held ≡ Some (byte_at m (from_pointer c m).tag (from_second c m))) × (one ≡ store_byte m (into_pointer c m).tag (into_pointer c m).address (first_byte c m))) (sym (first-meets ∙ k))
        (only-held c (fetched_second c m), ap Some (second-read c m (stores-two c g) ∙ second_from), one-put));
    first_met = λ f n k.
        let g = store-bits c m h ∙ f in
        subst (λ (k : Part). PairLeft c m 1 true (channel_by k c m) × (memory_by k c m ≡ store_byte m (into_pointer c m).tag (into_pointer c m).address (first_byte c m))) (sym (store-part None f n))
        (subst (λ (b : Bool). PairLeft c m 1 true (stores b) × (one ≡ store_byte m (into_pointer c m).tag (into_pointer c m).address (first_byte c m))) (sym (first-meets ∙ k))
        (subst (PairLeft c m 1 true) (sym (first-met c m g (first-meets ∙ k))) (pair_left c m 1 true h (stores-two c g)), one-put));
    second_store = λ byte f n.
        let met = meets_tmc c.fields.matchEnd c.mc byte in
        subst (λ (k : Part). PairLeft c m 2 (meets_in c m byte) (channel_by k c m) × (memory_by k c m ≡ store_byte m (into_pointer c m).tag (into_second c m) byte)) (sym (store-part (Some byte) f n)) (
          subst (λ (b : Bool). PairLeft c m 2 b (move_over c 2 met)) (meets-bits c m h byte) (pair_left c m 2 met h (stores-two c (store-bits c m h ∙ f))),
          ap₂ (λ (p : Pointer) (a : ℕ). store_byte m p.tag a byte) (into-bits c m h) (into-second-bits c m h),
        );
  }
    where
      stores : Bool → Channel
      stores b = pick b (moved_channel c (data_of c m)) (holding c (Some (fetched_second c m)))

      one : Buffers
      one = store_byte m (destination c).pointer.tag (destination c).pointer.address (data_of c m).first

      first-meets : first_meets c (data_of c m) ≡ meets_in c m (first_byte c m)
      first-meets = meets-bits c m h (data_of c m).first ∙ ap (meets_in c m) (first-bits c m h)

      one-put : one ≡ store_byte m (into_pointer c m).tag (into_pointer c m).address (first_byte c m)
      one-put = ap₂ (λ (p : Pointer) (v : ℕ). store_byte m p.tag p.address v) (into-bits c m h) (first-bits c m h)

      second_from : byte_at m (source c).pointer.tag (second_address (source c)) ≡ byte_at m (from_pointer c m).tag (from_second c m)
      second_from = ap₂ (λ (p : Pointer) (a : ℕ). byte_at m p.tag a) (from_bits c m h) (from-second-bits c m h)

      word-put : (byte : ℕ) → fetches_apart c ≡ true
          → moved_memory c (word_with byte c m) m ≡ store_byte (store_byte m (into_pointer c m).tag (into_pointer c m).address byte) (into_pointer c m).tag (into_second c m) (byte_at m (from_pointer c m).tag (from_second c m))
      word-put byte g =
          ap (λ (b : Bool). put_on (destination c) b (word_with byte c m) m) (word-stored c (word_with byte c m) g)
          ∙ ap₂ (λ (p : Pointer) (a : ℕ). store_byte (store_byte m p.tag p.address byte) p.tag a (fetched_second c m)) (into-bits c m h) (into-second-bits c m h)
          ∙ ap (store_byte (store_byte m (into_pointer c m).tag (into_pointer c m).address byte) (into_pointer c m).tag (into_second c m)) (second-read c m (fetches-two c g) ∙ second_from)

  touches : HalfTouches c m
  unfolding touched_by_transfer touched_by fetch_part store_part places_on also
  touches = record {
    first_fetch = λ f n. ap (λ (k : Part). touched_by k c m) (fetch-part None f n) ∙ ap (λ (p : Pointer). record { tag = p.tag; address = p.address } ∷ []) (from_bits c m h);
    second_fetch = λ byte f n. ap (λ (k : Part). touched_by k c m) (fetch-part (Some byte) f n) ∙ three;
    first_store = λ f n. ap (λ (k : Part). touched_by k c m) (store-part None f n) ∙ both;
    second_store = λ byte f n. ap (λ (k : Part). touched_by k c m) (store-part (Some byte) f n) ∙ ap₂ (λ (p : Pointer) (a : ℕ). record { tag = p.tag; address = a } ∷ []) (into-bits c m h) (into-second-bits c m h);
  }
    where
      at : Bool → ℕ → Place
      at tag a = record { tag = tag; address = a }

      three : at (source c).pointer.tag (second_address (source c)) ∷ at (destination c).pointer.tag (destination c).pointer.address ∷ at (destination c).pointer.tag (second_address (destination c)) ∷ []
          ≡ at (from_pointer c m).tag (from_second c m) ∷ at (into_pointer c m).tag (into_pointer c m).address ∷ at (into_pointer c m).tag (into_second c m) ∷ []
      three =
          ap₂ (λ (p : Pointer) (a : ℕ). at p.tag a ∷ at (destination c).pointer.tag (destination c).pointer.address ∷ at (destination c).pointer.tag (second_address (destination c)) ∷ []) (from_bits c m h) (from-second-bits c m h)
          ∙ ap₂ (λ (q : Pointer) (a : ℕ). at (from_pointer c m).tag (from_second c m) ∷ at q.tag q.address ∷ at q.tag a ∷ []) (into-bits c m h) (into-second-bits c m h)

      both : at (source c).pointer.tag (source c).pointer.address ∷ at (source c).pointer.tag (second_address (source c)) ∷ at (destination c).pointer.tag (destination c).pointer.address ∷ []
          ≡ at (from_pointer c m).tag (from_pointer c m).address ∷ at (from_pointer c m).tag (from_second c m) ∷ at (into_pointer c m).tag (into_pointer c m).address ∷ []
      both =
          ap₂ (λ (p : Pointer) (a : ℕ). at p.tag p.address ∷ at p.tag a ∷ at (destination c).pointer.tag (destination c).pointer.address ∷ []) (from_bits c m h) (from-second-bits c m h)
          ∙ ap (λ (q : Pointer). at (from_pointer c m).tag (from_pointer c m).address ∷ at (from_pointer c m).tag (from_second c m) ∷ at q.tag q.address ∷ []) (into-bits c m h)

-- ---- the two halves together

-- a channel that holds a byte more moves as one that does not
module _ (c : Channel) (m : Buffers) (byte : ℕ) where
  abbrev taken : Channel
  taken = holding c (Some byte)

  held_moved : (x y : ℕ) → moved_channel taken (record { first = x; second = y }) ≡ moved_channel c (record { first = x; second = y })
  unfolding moved_channel move_over moved_by ended_by ended_tp ended_psw with_transfer end_code bytes_stored stores_two cut_short match_met first_meets stored_singly two_move word_side source destination
  held_moved x y = refl

  held-memory : (x y : ℕ) (n : Buffers) → moved_memory taken (record { first = x; second = y }) n ≡ moved_memory c (record { first = x; second = y }) n
  unfolding moved_memory stores_two cut_short first_meets stored_singly two_move word_side source destination
  held-memory x y n = refl

  held-second : (n : Buffers) → fetched_second taken n ≡ fetched_second c n
  unfolding fetched_second two_move word_side source destination second_address
  held-second n = refl

  held-fetches : fetches_apart taken ≡ fetches_apart c
  unfolding fetches_apart two_move word_side source destination
  held-fetches = refl

  held-stores : stores_apart taken ≡ stores_apart c
  unfolding stores_apart stored_singly two_move word_side source destination
  held-stores = refl

  held-stored : move_over taken 2 (meets_tmc c.fields.matchEnd c.mc byte) ≡ move_over c 2 (meets_tmc c.fields.matchEnd c.mc byte)
  unfolding move_over moved_by ended_by ended_tp ended_psw with_transfer end_code two_move word_side source destination
  held-stored = refl

-- the bytes that the two halves of a pair of fetches bring are those of the whole move
same_bytes : (c : Channel) (m : Buffers) → bad_mode c ≡ false → two_move c ≡ true → record { first = fetched c m; second = fetched_second c m } ≡ data_of c m
unfolding data_of delivered
same_bytes c m good two = ap (λ (x : ℕ). record { first = x; second = fetched_second c m }) (plain c.fields.translates (two-plain c good two))
  where
    plain : (t : Bool) → t ≡ false → fetched c m ≡ pick t (byte_at m c.gc.tag (entry_of c m)) (fetched c m)
    plain true e = apart e
    plain false e = refl

-- the first and then the second of two fetches are the whole move
module _ (c : Channel) (m : Buffers) (good : bad_mode c ≡ false) (f : fetches_apart c ≡ true) where
  abbrev fetched-first : Channel
  fetched-first = taken c m (fetched c m)

  fetches-due : part_of fetched-first ≡ SecondFetch (fetched c m)
  unfolding fetch_part
  fetches-due = fetch-due fetched-first (Some (fetched c m)) (held-fetches c m (fetched c m) ∙ f) refl

  fetches-channel : channel_by (SecondFetch (fetched c m)) fetched-first m ≡ moved_channel c (data_of c m)
  unfolding channel_by word_with
  fetches-channel =
      ap (λ (y : ℕ). moved_channel fetched-first (record { first = fetched c m; second = y })) (held-second c m (fetched c m) m)
      ∙ held_moved c m (fetched c m) (fetched c m) (fetched_second c m) ∙ ap (moved_channel c) (same_bytes c m good (fetches-two c f))

  fetches-memory : memory_by (SecondFetch (fetched c m)) fetched-first m ≡ moved_memory c (data_of c m) m
  unfolding memory_by word_with
  fetches-memory =
      ap (λ (y : ℕ). moved_memory fetched-first (record { first = fetched c m; second = y }) m) (held-second c m (fetched c m) m)
      ∙ held-memory c m (fetched c m) (fetched c m) (fetched_second c m) m ∙ ap (λ d. moved_memory c d m) (same_bytes c m good (fetches-two c f))

-- and so are the two stores, where the first byte does not meet TMC
module _ (c : Channel) (m : Buffers) (f : stores_apart c ≡ true) (free : fetches_apart c ≡ false) (unmet : first_meets c (data_of c m) ≡ false) where
  abbrev stored-first : Channel
  stored-first = taken c m (fetched_second c m)

  abbrev stored_one : Buffers
  stored_one = store_byte m (destination c).pointer.tag (destination c).pointer.address (data_of c m).first

  stores-due : part_of stored-first ≡ SecondStore (fetched_second c m)
  unfolding store_part
  stores-due = store-due stored-first (Some (fetched_second c m)) (held-fetches c m (fetched_second c m) ∙ free) (held-stores c m (fetched_second c m) ∙ f) refl

  stores-moved : moved_channel c (data_of c m) ≡ move_over c 2 (meets_tmc c.fields.matchEnd c.mc (fetched_second c m))
  unfolding moved_channel bytes_stored match_met data_of
  stores-moved = rw (singly-stored c (data_of c m) f, stores-singly c f, unmet)

  stores-channel : channel_by (SecondStore (fetched_second c m)) stored-first stored_one ≡ moved_channel c (data_of c m)
  unfolding channel_by
  stores-channel = held-stored c m (fetched_second c m) ∙ sym stores-moved

  stores-memory : memory_by (SecondStore (fetched_second c m)) stored-first stored_one ≡ moved_memory c (data_of c m) m
  unfolding memory_by moved_memory put_on destination second_address word_side data_of
  stores-memory = sym (ap (λ (b : Bool). pick b (store_byte stored_one (destination c).pointer.tag (second_address (destination c)) (fetched_second c m)) stored_one) (singly-stored c (data_of c m) f ∙ ap not unmet))

-- a channel whose sides went on holds nothing
moved-drops : (c : Channel) (m : Buffers) → (moved_channel c (data_of c m)).held ≡ None
unfolding moved_channel move_over ended_by moved_by with_transfer
moved-drops c m = refl

-- a held byte is not none
pub over-holds : {byte : ℕ} → Some byte ≡ None → ⊥
over-holds e = apart (sym (ap is_none e))

no-transfer : (psw : ℕ) → bit psw 6 ≡ 0 → transferring psw ≡ false
unfolding bit_of
no-transfer psw f = ap (λ (n : ℕ). eqb n 1) f

-- ---- the calls

-- what a done transfer step counts is its list
count-is : (b : Bool) (s : State) (m : Buffers) (lines : ℕ) → Transfers b s m lines → step_count s m lines ≡ length (touched_by_transfer (channel_of s b) m)
unfolding step_count counted touched_by_step touched_in
count-is b s m lines t = rw (t.done, t.turn.chosen, on (channel_of s b).psw t.on)

-- a done instruction is that of the channel
ran-channel : (b : Bool) (s : State) (m : Buffers) (lines : ℕ) → HasTurn b s m lines → bit (channel_of s b).psw 6 ≡ 0 → (step_of s m lines).number ≡ 0
    → ((execute_of (channel_of s b) (busy_in (block_of s b)) m).number ≡ 0) × (ran_channel b s m lines ≡ (execute_of (channel_of s b) (busy_in (block_of s b)) m).channel)
unfolding step_of chosen_step channel_step instruction_step settled_step
ran-channel b s m lines t off z = rest (sym (settled-number e.number s m b e.channel e.memory Instruction) ∙ sym (ap (λ (o : Step). o.number) is) ∙ z)
  where
    e : Executed
    e = execute_of (channel_of s b) (busy_in (block_of s b)) m

    is : step_of s m lines ≡ settled_step e.number s m b e.channel e.memory Instruction
    is = rw (eq-eqb (entry_number s m lines) 0 t.entered, t.chosen, no-transfer (channel_of s b).psw off)

    rest : e.number ≡ 0 → (e.number ≡ 0) × (ran_channel b s m lines ≡ e.channel)
    rest k = (k, ap (λ (o : Step). channel_of o.state b) is ∙ rw (eq-eqb e.number 0 k) (last-channel (with_channel s b e.channel) b b ∙ put_same s b e.channel))

module _ (b : Bool) (s : State) (m : Buffers) (lines lines' : ℕ) (v : Halves b s m lines lines') where
  abbrev c : Channel
  c = channel_of s b

  abbrev s₁ : State
  s₁ = (step_of s m lines).state

  abbrev m₁ : Buffers
  m₁ = (step_of s m lines).memory

  fits : fields_agree c ≡ true
  fits = done-fields b s m lines v.first

  good : bad_mode c ≡ false
  good = done-mode c m (done-number b s m lines v.first)

  -- the whole move, where the second half takes the first to it
  whole_of : (k : Channel) (n : Buffers) (p : Part) → channel_of s₁ b ≡ k → m₁ ≡ n → part_of k ≡ p
      → channel_by p k n ≡ moved_channel c (data_of c m) → memory_by p k n ≡ moved_memory c (data_of c m) m
      → TransferLeft c m (ran_channel b s₁ m₁ lines') (step_of s₁ m₁ lines').memory
  whole_of k n p ek en ep ec em =
      let channel : ran_channel b s₁ m₁ lines' ≡ moved_channel c (data_of c m) =
      done-channel b s₁ m₁ lines' v.next ∙ ap₂ (λ (x : Channel) (y : Buffers). channel_by (part_of x) x y) ek en ∙ ap (λ (q : Part). channel_by q k n) ep ∙ ec in
      let memory : (step_of s₁ m₁ lines').memory ≡ moved_memory c (data_of c m) m =
      done-memory b s₁ m₁ lines' v.next ∙ ap₂ (λ (x : Channel) (y : Buffers). memory_by (part_of x) x y) ek en ∙ ap (λ (q : Part). memory_by q k n) ep ∙ em in
      subst (λ (x : Channel). TransferLeft c m x (step_of s₁ m₁ lines').memory) (sym channel)
      (subst (λ (y : Buffers). TransferLeft c m (moved_channel c (data_of c m)) y) (sym memory) (transfer-left c m fits))

  -- the counts of two parts
  counts_of : (k : Channel) (n : Buffers) (p q : Part) → channel_of s₁ b ≡ k → m₁ ≡ n → part_of c ≡ p → part_of k ≡ q
      → step_count s m lines + step_count s₁ m₁ lines' ≡ length (touched_by p c m) + length (touched_by q k n)
  unfolding touched_by_transfer
  counts_of k n p q ek en ep eq =
      ap₂ ◌+◌ (count-is b s m lines v.first ∙ ap (λ (x : Part). length (touched_by x c m)) ep)
      (count-is b s₁ m₁ lines' v.next ∙ ap₂ (λ (x : Channel) (y : Buffers). length (touched_by (part_of x) x y)) ek en ∙ ap (λ (x : Part). length (touched_by x k n)) eq)

  abbrev Joined : Type 0
  Joined = TransferLeft c m (ran_channel b s₁ m₁ lines') (step_of s₁ m₁ lines').memory × (step_count s m lines + step_count s₁ m₁ lines' ≡ 4)

  by-fetches : fetches_apart c ≡ true → Joined
  unfolding channel_by memory_by fetch_part touched_by places_on also
  by-fetches f =
      let first : part_of c ≡ FirstFetch = fetch-due c None f v.free in
      let ek : channel_of s₁ b ≡ fetched-first c m good f = done-channel b s m lines v.first ∙ ap (λ (k : Part). channel_by k c m) first in
      let en : m₁ ≡ m = done-memory b s m lines v.first ∙ ap (λ (k : Part). memory_by k c m) first in (
        whole_of (fetched-first c m good f) m (SecondFetch (fetched c m)) ek en (fetches-due c m good f) (fetches-channel c m good f) (fetches-memory c m good f),
        counts_of (fetched-first c m good f) m FirstFetch (SecondFetch (fetched c m)) ek en first (fetches-due c m good f),
      )

  by-stores : fetches_apart c ≡ false → stores_apart c ≡ true → Joined
  unfolding channel_by memory_by store_part touched_by
  by-stores free f = go (first_meets c (data_of c m)) refl
    where
      first : part_of c ≡ FirstStore
      first = store-due c None free f v.free

      after : channel_of s₁ b ≡ pick (first_meets c (data_of c m)) (moved_channel c (data_of c m)) (taken c m (fetched_second c m))
      after = done-channel b s m lines v.first ∙ ap (λ (k : Part). channel_by k c m) first

      en : m₁ ≡ store_byte m (destination c).pointer.tag (destination c).pointer.address (data_of c m).first
      en = done-memory b s m lines v.first ∙ ap (λ (k : Part). memory_by k c m) first

      go : (x : Bool) → first_meets c (data_of c m) ≡ x → Joined
      go true met = absurd (over-holds (sym v.holds ∙ ap (λ (k : Channel). k.held) (after ∙ ap (λ (x : Bool). pick x (moved_channel c (data_of c m)) (taken c m (fetched_second c m))) met) ∙ moved-drops c m))
      go false unmet =
          let ek : channel_of s₁ b ≡ stored-first c m f free unmet = after ∙ ap (λ (x : Bool). pick x (moved_channel c (data_of c m)) (taken c m (fetched_second c m))) unmet in (
            whole_of (stored-first c m f free unmet) _ (SecondStore (fetched_second c m)) ek en (stores-due c m f free unmet) (stores-channel c m f free unmet) (stores-memory c m f free unmet),
            counts_of (stored-first c m f free unmet) _ FirstStore (SecondStore (fetched_second c m)) ek en first (stores-due c m f free unmet),
          )

  joined : Joined
  joined = go (fetches_apart c) refl
    where
      half : fetches_apart c || stores_apart c ≡ true
      half = ap₂ ◌||◌ (fetch-bits c m fits) (store-bits c m fits) ∙ v.due

      go : (x : Bool) → fetches_apart c ≡ x → Joined
      go true e = by-fetches e
      go false e = by-stores e (sym (ap (λ (x : Bool). x || stores_apart c) e) ∙ half)

pub half-sheet : (second : Bool) (s : State) (m : Buffers) (lines : ℕ) → HalfSheet second s m lines
half-sheet b s m lines = record {
  half = λ t.
      subst (λ (k : Channel). HalfLeft (channel_of s b) m k (step_of s m lines).memory) (sym (done-channel b s m lines t))
      (subst (λ (n : Buffers). HalfLeft (channel_of s b) m (channel_by (part_of (channel_of s b)) (channel_of s b) m) n) (sym (done-memory b s m lines t))
      (half-left (channel_of s b) m (done-fields b s m lines t)));
  touches = λ a. touches (channel_of s b) m (agree-channel-of s b a);
  joined = λ lines' v. joined b s m lines lines' v;
  executes = λ t off z. let r = ran-channel b s m lines t off z in ap (λ (k : Channel). k.held) r.1 ∙ execute-drops (channel_of s b) (busy_in (block_of s b)) m r.0;
}
