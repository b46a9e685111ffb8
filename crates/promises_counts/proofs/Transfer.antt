-- The list of a transfer step is complete.
-- Assumes nothing.
use Rattle.std.proofs.Common.{Some}
use Prim.Native.Nat.{ℕ}
use lib.Dec.{eqb}
use mathlib.Core.Bool.{Bool, true, false, not}
use mathlib.Core.List.{List, [], ◌∷◌, ◌++◌}
use mathlib.Core.Path.{◌≡◌, refl, sym, ap, ap₂, ◌∙◌}
use Rattle.ground_rules.proofs.ChoiceLaws.{apart}
use Rattle.ground_rules.specs.Choice.{pick}
use Rattle.ground_rules.specs.Sums.{sum20}
use Rattle.ground_rules.specs.Buffers.{Buffers, byte_at, store_byte}
use Rattle.ground_rules.specs.Places.{Place}
use Rattle.ground_rules.specs.Outcomes.{unless, first}
use Rattle.ground_rules.specs.Stages.{stage, stages_number}
use Rattle.ground_rules.specs.declared.Channel.{Channel}
use Rattle.transfer_rules.specs.Reads.{fetched, fetched_second, entry_of, delivered, data_of, also, read_places}
use Rattle.transfer_rules.specs.Sides.{source, destination, second_address, two_move}
use Rattle.ground_rules.specs.Updates.{holding}
use Rattle.transfer_rules.proofs.PartLaws.{second-fetch-apart, first-store-apart, stores-two, word-stored}
use Rattle.transfer_rules.proofs.StepLaws.{chain_by, outcome-5, two-plain}
use Rattle.transfer_rules.specs.Halves.{first_place, second_place, word_with}
use Rattle.transfer_rules.specs.Parts.{Part, Whole, FirstFetch, SecondFetch, FirstStore, SecondStore, part_of}
use Rattle.schedule_rules.proofs.StoreLaws.{touched-apart}
use Rattle.schedule_rules.specs.Counts.{stores_by}
use Rattle.transfer_rules.specs.Steps.{Transfer, transferred, touched_by, reads_by, channel_by, memory_by, bad_mode, stages_by, number_by, step_by, touched_by_transfer, transfer_number, transfer_of}
use Rattle.transfer_rules.specs.Stores.{first_meets, stores_two, moved_channel, put_on, moved_memory, places_on, stored_places}
use Rattle.promises_counts.specs.Complete.{SameLengths, AgreeOn}
use Rattle.promises_counts.specs.Lists.{transfer_answer, TransferComplete}
use Rattle.promises_counts.specs.Stores.{Store, stores_made, store_places}
use Rattle.promises_counts.proofs.AgreeLaws.{number_same}
use Rattle.promises_counts.proofs.TraceLaws.{SameIn, Traced, complete}

-- ---- what is stored

module _ (c : Channel) (m : Buffers) where
  -- one byte or two, as stores
  stores_of : Bool → List Store
  stores_of two =
      record { place = record { tag = (destination c).pointer.tag; address = (destination c).pointer.address }; value = (data_of c m).first }
      ∷ pick two (record { place = record { tag = (destination c).pointer.tag; address = second_address (destination c) }; value = (data_of c m).second } ∷ []) []

  places_of : (two : Bool) → store_places (stores_of two) ≡ places_on (destination c) two
  unfolding stores_of store_places places_on also
  places_of true = refl
  places_of false = refl

  made_of : (two : Bool) (n : Buffers) → put_on (destination c) two (data_of c m) n ≡ stores_made n (stores_of two)
  unfolding stores_of stores_made put_on
  made_of true n = refl
  made_of false n = refl

-- ---- what is read

module _ (c : Channel) (m n : Buffers) where
  -- a place that a test adds
  also-same : (on : Bool) (p : Place) (ps : List Place) → AgreeOn (also on p ps) m n
      → (pick on (byte_at n p.tag p.address) 0 ≡ pick on (byte_at m p.tag p.address) 0) × AgreeOn ps m n
  unfolding also
  also-same true p ps h = h
  also-same false p ps h = (refl, h)

  module _ (h : AgreeOn (read_places c m) m n) where
    fetched-same : fetched c n ≡ fetched c m
    unfolding fetched read_places
    fetched-same = h.0

    pub entry-same : entry_of c n ≡ entry_of c m
    unfolding entry_of
    entry-same = ap (sum20 c.gc.address) fetched-same

    -- the second byte, and the one that stands for the first
    behind : (pick (two_move c) (byte_at n (source c).pointer.tag (second_address (source c))) 0 ≡ pick (two_move c) (byte_at m (source c).pointer.tag (second_address (source c))) 0)
        × AgreeOn (also c.fields.translates (record { tag = c.gc.tag; address = entry_of c m }) []) m n
    unfolding read_places
    behind =
        also-same (two_move c) (record { tag = (source c).pointer.tag; address = second_address (source c) })
        (also c.fields.translates (record { tag = c.gc.tag; address = entry_of c m }) []) h.1

    second-same : fetched_second c n ≡ fetched_second c m
    unfolding fetched_second
    second-same = behind.0

    delivered-same : delivered c n ≡ delivered c m
    unfolding delivered also
    delivered-same =
        ap₂ (λ (e f : ℕ). pick c.fields.translates (byte_at n c.gc.tag e) f) entry-same fetched-same
        ∙ go c.fields.translates behind.1
      where
        go : (x : Bool) → AgreeOn (also x (record { tag = c.gc.tag; address = entry_of c m }) []) m n
            → pick x (byte_at n c.gc.tag (entry_of c m)) (fetched c m) ≡ pick x (byte_at m c.gc.tag (entry_of c m)) (fetched c m)
        go true k = k.0
        go false k = refl

    pub data-same : data_of c n ≡ data_of c m
    unfolding data_of
    data-same = ap₂ (λ (a b : ℕ). record { first = a; second = b }) delivered-same second-same

    touched-same : touched_by Whole c n ≡ touched_by Whole c m
    unfolding touched_by read_places
    touched-same =
        ap₂ (λ e d.
        (record { tag = (source c).pointer.tag; address = (source c).pointer.address }
        ∷ also (two_move c) (record { tag = (source c).pointer.tag; address = second_address (source c) })
        (also c.fields.translates (record { tag = c.gc.tag; address = e }) []))
        ++ stored_places c d) entry-same data-same

  -- the two bytes that a step without translation reads
  pub two-read : two_move c ≡ true → c.fields.translates ≡ false → AgreeOn (first_place (source c) ∷ second_place (source c) ∷ []) m n → AgreeOn (read_places c m) m n
  unfolding read_places also
  two-read two plain h = go (two_move c) c.fields.translates two plain
    where
      go : (t x : Bool) → t ≡ true → x ≡ false → AgreeOn (first_place (source c) ∷ also t (second_place (source c)) (also x (record { tag = c.gc.tag; address = entry_of c m }) [])) m n
      go true false e f = h
      go true true e f = apart f
      go false x e f = apart (sym e)

-- ---- a step of a part

module _ (c : Channel) (m : Buffers) where
  -- what a part stores, and that nothing but what it reads matters to it
  record Parted (k : Part) : Type 0 where
    stores : List Store
    placed : store_places stores ≡ stores_by k c m
    list : (n : Buffers) → AgreeOn (reads_by k c m) m n → touched_by k c n ≡ touched_by k c m
    channel : bad_mode c ≡ false → (n : Buffers) → AgreeOn (reads_by k c m) m n → channel_by k c n ≡ channel_by k c m
    memory : bad_mode c ≡ false → (n : Buffers) → AgreeOn (reads_by k c m) m n → memory_by k c n ≡ stores_made n stores

  told_same : (b : Bool) (x : ℕ) (y : Channel) (a a' n n' : Buffers)
      → transfer_answer (pick b (transferred 0 y a) (transferred x c n)) ≡ transfer_answer (pick b (transferred 0 y a') (transferred x c n'))
  told_same true x y a a' n n' = refl
  told_same false x y a a' n n' = refl

  left-same : (b : Bool) (x : ℕ) (y : Channel) (a n : Buffers) (ws : List Store) → a ≡ stores_made n ws
      → (pick b (transferred 0 y a) (transferred x c n)).memory ≡ stores_made n (pick b ws [])
  unfolding stores_made
  left-same true x y a n ws e = e
  left-same false x y a n ws e = refl

  module _ (k : Part) (p : Parted k) where
    number_is : (n : Buffers) → SameLengths m n → AgreeOn (reads_by k c m) m n → number_by k c n ≡ number_by k c m
    unfolding number_by stages_by
    number_is n l h =
        number_same m n l (stages_by k c n)
        ∙ ap (λ (ps : List Place). stages_number m (stage [] (unless (not (bad_mode c)) 5) ∷ stage ps 0 ∷ [])) (p.list n h)

    -- a bad mode is refused by 5, whatever is read
    bad-number : bad_mode c ≡ true → number_by k c m ≡ 5
    unfolding first unless
    bad-number e = chain_by k c m ∙ rw e

    abbrev Same : Buffers → Type 0
    Same n = SameIn (touched_by k c) (λ n. transfer_answer (step_by k c n)) (λ n. (step_by k c n).memory) m (pick (eqb (number_by k c m) 0) p.stores []) n

    same_in : (b : Bool) → bad_mode c ≡ b → (n : Buffers) → SameLengths m n → AgreeOn (reads_by k c m) m n → Same n
    unfolding step_by stores_made
    same_in true e n l h =
        record {
          list = p.list n h;
          told = ap (λ (o : Transfer). transfer_answer o) (outcome-5 k c n e) ∙ sym (ap (λ (o : Transfer). transfer_answer o) (outcome-5 k c m e));
          left = ap (λ (o : Transfer). o.memory) (outcome-5 k c n e) ∙ sym (ap (λ (x : ℕ). stores_made n (pick (eqb x 0) p.stores [])) (bad-number e));
        }
    same_in false e n l h =
        let x = number_by k c m in
        record {
          list = p.list n h;
          told = ap₂ (λ (x : ℕ) (y : Channel). transfer_answer (pick (eqb x 0) (transferred 0 y (memory_by k c n)) (transferred x c n))) (number_is n l h) (p.channel e n h)
              ∙ told_same (eqb x 0) x (channel_by k c m) (memory_by k c n) (memory_by k c m) n m;
          left = ap (λ (x : ℕ). (pick (eqb x 0) (transferred 0 (channel_by k c n) (memory_by k c n)) (transferred x c n)).memory) (number_is n l h)
              ∙ left-same (eqb x 0) x (channel_by k c n) (memory_by k c n) n p.stores (p.memory e n h);
        }

    part-traced : Traced (reads_by k c m) (stores_by k c m) (eqb (number_by k c m) 0) (touched_by k c) (λ n. transfer_answer (step_by k c n)) (λ n. (step_by k c n).memory) m
    part-traced = record { stores = p.stores; placed = p.placed; split = touched-apart k c m; same = same_in (bad_mode c) refl }

  -- ---- each part

  whole : Parted Whole
  unfolding touched_by reads_by stores_by stored_places channel_by memory_by moved_memory
  whole = record {
    stores = stores_of c m (stores_two c (data_of c m));
    placed = places_of c m (stores_two c (data_of c m));
    list = λ n h. touched-same c m n h;
    channel = λ good n h. ap (moved_channel c) (data-same c m n h);
    memory = λ good n h. ap (λ d. put_on (destination c) (stores_two c d) d n) (data-same c m n h) ∙ made_of c m (stores_two c (data_of c m)) n;
  }

  -- the second byte of the source
  second-again : (n : Buffers) → byte_at n (source c).pointer.tag (second_address (source c)) ≡ byte_at m (source c).pointer.tag (second_address (source c)) → fetched_second c n ≡ fetched_second c m
  unfolding fetched_second
  second-again n e = ap (λ (v : ℕ). pick (two_move c) v 0) e

  first-fetch : Parted FirstFetch
  unfolding touched_by reads_by stores_by channel_by memory_by store_places stores_made fetched
  first-fetch = record {
    stores = [];
    placed = refl;
    list = λ n h. refl;
    channel = λ good n h. ap (λ (v : ℕ). holding c (Some v)) h.0;
    memory = λ good n h. refl;
  }

  second-fetch : (byte : ℕ) → part_of c ≡ SecondFetch byte → Parted (SecondFetch byte)
  unfolding touched_by reads_by stores_by channel_by memory_by places_on also store_places stores_made moved_memory put_on word_with
  second-fetch byte e = record {
    stores = record { place = first_place (destination c); value = byte } ∷ record { place = second_place (destination c); value = fetched_second c m } ∷ [];
    placed = refl;
    list = λ n h. refl;
    channel = λ good n h. ap (λ (v : ℕ). moved_channel c (record { first = byte; second = v })) (second-again n h.0);
    memory = λ good n h.
        ap (λ (b : Bool). put_on (destination c) b (word_with byte c n) n) (word-stored c (word_with byte c n) (second-fetch-apart c byte e))
        ∙ ap (λ (v : ℕ). put_on (destination c) true (record { first = byte; second = v }) n) (second-again n h.0);
  }

  first_store : part_of c ≡ FirstStore → Parted FirstStore
  unfolding touched_by reads_by stores_by channel_by memory_by store_places stores_made
  first_store e = record {
    stores = record { place = first_place (destination c); value = (data_of c m).first } ∷ [];
    placed = refl;
    list = λ n h. refl;
    channel = λ good n h. ap₂ (λ d (v : ℕ). pick (first_meets c d) (moved_channel c d) (holding c (Some v))) (same good n h) (second-again n h.1.0);
    memory = λ good n h. ap (λ d. store_byte n (destination c).pointer.tag (destination c).pointer.address d.first) (same good n h);
  }
    where
      two : two_move c ≡ true
      two = stores-two c (first-store-apart c e)

      same : bad_mode c ≡ false → (n : Buffers) → AgreeOn (first_place (source c) ∷ second_place (source c) ∷ []) m n → data_of c n ≡ data_of c m
      same good n h = data-same c m n (two-read c m n two (two-plain c good two) h)

  second_store : (byte : ℕ) → Parted (SecondStore byte)
  unfolding touched_by reads_by stores_by channel_by memory_by store_places stores_made
  second_store byte = record {
    stores = record { place = second_place (destination c); value = byte } ∷ [];
    placed = refl;
    list = λ n h. refl;
    channel = λ good n h. refl;
    memory = λ good n h. refl;
  }

  parted : (k : Part) → part_of c ≡ k → Parted k
  parted Whole e = whole
  parted FirstFetch e = first-fetch
  parted (SecondFetch byte) e = second-fetch byte e
  parted FirstStore e = first_store e
  parted (SecondStore byte) e = second_store byte

  -- ---- the step

  pub transfer-traced : Traced (reads_by (part_of c) c m) (stores_by (part_of c) c m) (eqb (transfer_number c m) 0) (touched_by_transfer c) (λ n. transfer_answer (transfer_of c n)) (λ n. (transfer_of c n).memory) m
  unfolding touched_by_transfer transfer_of transfer_number
  transfer-traced = part-traced (part_of c) (parted (part_of c) refl)

  -- its list is complete
  pub transfer-complete : TransferComplete c m
  transfer-complete = complete transfer-traced
