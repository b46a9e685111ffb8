-- The line of an instruction assembles to its bytes, from any address that is its own mod 65,536.
-- Assumes nothing.
use mathlib.Core.{Path.◌≡◌, Path.refl, Path.sym, Path.ap, Path.subst, Path.◌∙◌, Bool.Bool, Bool.true, Bool.false, Bool.not, Bool.◌||◌, Bool.false≢true, List.List, List.[], List.◌∷◌, List.◌++◌, List.append_assoc, List.append-nil, Logic.◌⊎◌, Logic.inl, Logic.inr}
use Prim.Native.Nat.{ℕ, ◌+◌, ◌*◌, ◌/◌, ◌%◌, ◌<◌}
use native.Mathlib.Omega.{arith}
use lib.{Dec.T, Dec.eqb, Dec.ltb, ListN.length, ListN.get_or, ListN.take, ListN.length-take}
use borrow.Author.Tests.{not-true, eqb-true}
use Rattle.ground_rules.specs.{Bits.field_of, Choice.pick}
use Rattle.instruction_rules.specs.{declared.Memory.Memory, declared.Pair.Pair, declared.Shape.Shape, declared.Shape.TheVariants.MovMemory, Pairs.pair_of, Lengths.offset_length, Lengths.length_of}
use Rattle.instruction_rules.proofs.LengthLaws.{bounded}
use Rattle.listing_rules.specs.{declared.Slot.Slot, declared.Slot.TheVariants.Empty, declared.Slot.TheVariants.Name, declared.Slot.TheVariants.Place, declared.Slot.TheVariants.Number, declared.Slot.TheVariants.Target, declared.Slot.TheVariants.Digit, Characters.same_text, Mnemonics.is_listed, Mnemonics.mnemonic_of, Forms.after_offset, Forms.slots_of, Forms.filled, Forms.following, Lines.instruction_line, Entries.OperandKind, Entries.Entry, Entries.entries}
use Rattle.listing_rules.specs.{Items.to_of, Back.pair_from, Back.pair_back, Back.operands_of}
use Rattle.listing_rules.proofs.{SpellingLaws.present, SpellingLaws.marks, SpellingLaws.Fair, SpellingLaws.Bytes, EntryLaws.Known, EntryLaws.known, RowLaws.WholeAt, BackLaws.slot_bytes, BackLaws.spread, BackLaws.fill, BackLaws.all-covered, BackLaws.listed, BackLaws.chained, BackLaws.second_pair, BackLaws.second-fields, BackLaws.is_move, BackLaws.other-shape, BackLaws.Pairs, BackLaws.pairs, Unlisting.spoken-line, Unlisting.spoken-free, Unlisting.free}
use Rattle.listing_rules.proofs.{Unlisting.first-pair, Unlisting.mov-covered, Unlisting.placed-to}
use Rattle.assembly_rules.specs.{Sums.Label, Operands.Written, Operands.Chosen, Operands.Chosen.taken, Operands.Chosen.untaken, Operands.is_memory_kind, Operands.operands_from, Operands.takes, Operands.takes_all, Operands.entry_in, Operands.all_shallow, Assembly.Said, Assembly.said_by, Statements.Statement.instruction, Statements.word_statement, Statements.statement_of, Statements.kind_size, Statements.memories_in, Statements.statement_size, Statements.operand_worth}
use Rattle.assembly_rules.specs.{Statements.names_known, Statements.all_stand, Statements.statement_number, Statements.pair_bytes, Statements.listed_all, Statements.written_offset, Statements.all_offsets, Statements.number_bytes, Statements.all_numbers, Statements.move_bytes, Statements.instruction_bytes, Statements.statement_bytes}
use Rattle.assembly_rules.proofs.{ScanLaws.all_fail, SizeLaws.number_size, SizeLaws.entries-plain, SizeLaws.entry-plain, SizeLaws.instruction-size, TreeLaws.add-equal, WritingLaws.both_left, WritingLaws.both_right}
use Rattle.promises_codes.proofs.CodeNumbers.{all_below, of-all}
use Rattle.promises_assembly.proofs.{Rows.agrees, Rows.is_none, Rows.agrees_all, Rows.orderly, Rows.Regular, Rows.decoded-regular, Places.offset_tokens, Places.Meant, Places.placed, Places.meant, Rows.Alike, Rows.draw, Rows.draws, Rows.sketch, Rows.sketched, Rows.entry-taken, Texts.spoken_parts, Texts.Parted, Texts.parted-none, Texts.parted-next, Texts.line-said, Rows.alike-fields}

-- empty places have no text and no bytes
record Blank (bytes : List ℕ) (end : ℕ) (places : List Slot) : Type 0 where
  text : (m : ℕ) → marks m (fill bytes end places) ≡ []
  there : present (fill bytes end places) ≡ []
  none : [] ≡ spread bytes places

blank-places : (bytes : List ℕ) (end : ℕ) (places : List Slot) → agrees_all [] places ≡ true → Blank bytes end places
unfolding agrees_all is_none sketch fill filled marks following present spread slot_bytes
blank-places bytes end [] h = record { text = λ m. refl; there = refl; none = refl }
blank-places bytes end (Empty ∷ places) h = let later = blank-places bytes end places h in record { text = λ m. later.text 44; there = later.there; none = later.none }
blank-places bytes end (Name r ∷ places) h = absurd (false≢true h)
blank-places bytes end (Place m at ∷ places) h = absurd (false≢true h)
blank-places bytes end (Number at two ∷ places) h = absurd (false≢true h)
blank-places bytes end (Target at two ∷ places) h = absurd (false≢true h)
blank-places bytes end (Digit n ∷ places) h = absurd (false≢true h)

-- fair places
FairAll : List Slot → Type 0
FairAll [] = Unit
FairAll (a ∷ places) = Fair a × FairAll places

no_length : (l : List ℕ) → length l ≡ 0 → l ≡ []
no_length [] h = refl
no_length (b ∷ l) h = absurd (omega arith)

module _ (labels : List Label) (bytes : List ℕ) (end E : ℕ) where
  -- the places of a line as they are meant, where the instruction ends at E
  record Told (ks : List OperandKind) (places : List Slot) (ws : List Written) : Type 0 where
    parted : Parted (fill bytes end places)
    written : operands_from (spoken_parts (present (fill bytes end places))) ≡ ws
    taking : (ls : List OperandKind) → takes_all ls ws ≡ takes_all ls (draws (present (fill bytes end places)))
    shallow : all_shallow ws ≡ true
    known : names_known labels ws ≡ true
    stands : all_stand labels E ks ws ≡ true
    bare : all_fail is_memory_kind ks ≡ true → all_offsets labels ws ≡ []
    joined : orderly ks ≡ true → all_offsets labels ws ++ all_numbers labels E ks ws ≡ spread bytes places
    same : Alike (listed_all labels ks ws) (present (fill bytes end places))

  told_none : (places : List Slot) → agrees_all [] places ≡ true → Told [] places []
  unfolding operands_from spoken_parts draws all_shallow names_known all_stand all_offsets all_numbers listed_all
  told_none places h =
      let b = blank-places bytes end places h in
      record { parted = parted-none (fill bytes end places) b.text b.there; written = rw b.there; taking = λ ls. rw b.there; shallow = refl; known = refl; stands = refl; bare = λ n. refl; joined = λ o. b.none; same = rw b.there Alike.nothing }

  -- offsets and numbers in one more place: where it has a number, none of the later ones is memory
  join-next : (k : OperandKind) (ks : List OperandKind) (v : ℕ) (o os ns here later : List ℕ) → o ++ number_bytes k E v ≡ here → os ++ ns ≡ later → (all_fail is_memory_kind ks ≡ true → os ≡ []) → eqb (kind_size k) 0 || all_fail is_memory_kind ks ≡ true → (o ++ os) ++ (number_bytes k E v ++ ns) ≡ here ++ later
  join-next k ks v o os ns here later p q none h = rw (← p, ← q) (go (eqb (kind_size k) 0) refl h)
    where
      go : (b : Bool) → eqb (kind_size k) 0 ≡ b → b || all_fail is_memory_kind ks ≡ true → (o ++ os) ++ (number_bytes k E v ++ ns) ≡ (o ++ number_bytes k E v) ++ (os ++ ns)
      go true e t = rw (no_length (number_bytes k E v) (number_size k E v ∙ eqb-true (kind_size k) 0 e)) (simp (append_assoc, append-nil))
      go false e t = rw (none t) (simp (append_assoc, append-nil))

  told-next : (k : OperandKind) (ks : List OperandKind) (a : Slot) (places : List Slot) (w : Written) (ws : List Written) → Meant labels bytes end E k a w → Told ks places ws → Told (k ∷ ks) (a ∷ places) (w ∷ ws)
  unfolding fill spread operands_from spoken_parts draws takes_all all_shallow names_known all_stand all_offsets all_numbers listed_all orderly all_fail
  told-next k ks a places w ws m t =
      let o = filled bytes end a in
      let there = m.heard.voice.there (fill bytes end places) in
      record {
        parted = parted-next o (fill bytes end places) m.heard.voice t.parted;
        written = rw (there, m.heard.operand, t.written);
        taking = λ ls. rw there (both-take ls);
        shallow = rw (m.shallow, t.shallow);
        known = rw (m.known, t.known);
        stands = rw (m.stands, t.stands);
        bare = λ n. rw (m.bare (not-true (is_memory_kind k) (both_left (not (is_memory_kind k)) _ n)), t.bare (both_right (not (is_memory_kind k)) _ n));
        joined = λ h. join-next k ks (operand_worth labels w).value (written_offset labels w) (all_offsets labels ws) (all_numbers labels E ks ws) (slot_bytes bytes a) (spread bytes places) m.own (t.joined (both_right (eqb (kind_size k) 0 || all_fail is_memory_kind ks) _ h)) t.bare (both_left (eqb (kind_size k) 0 || all_fail is_memory_kind ks) _ h);
        same = rw there (m.same t.same);
      }
    where
      both-take : (ls : List OperandKind) → takes_all ls (w ∷ ws) ≡ takes_all ls (draw (filled bytes end a) ∷ draws (present (fill bytes end places)))
      both-take [] = refl
      both-take (l ∷ ls) = rw (m.taking l, t.taking ls)

  told-all : Bytes bytes → E % 65536 ≡ end % 65536 → (ks : List OperandKind) (places : List Slot) → FairAll places → agrees_all ks places ≡ true → (ws : List Written) × Told ks places ws
  unfolding FairAll agrees_all
  told-all hb ends [] places f h = ([], told_none places h)
  told-all hb ends (k ∷ ks) [] f h = absurd (false≢true h)
  told-all hb ends (k ∷ ks) (a ∷ places) f h =
      let m = meant labels bytes end E hb ends k a f.0 (both_left (agrees k a) _ h) in
      let t = told-all hb ends ks places f.1 (both_right (agrees k a) _ h) in
      (m.0 ∷ t.0, told-next k ks a places m.0 t.0 m.1 t.1)

-- the two bytes of a pair, from its fields: worked out for every byte
fields_back : (all_below 256 (λ (b : ℕ). eqb (b / 32 % 8 * 32 + b / 8 % 4 * 8 + b / 2 % 4 * 2 + b / 1 % 2) b) ≡ true) × (all_below 256 (λ (c : ℕ). eqb (c / 4 % 64 * 4 + c / 1 % 4) c) ≡ true)
unfolding all_below
fields_back = (refl, refl)

pair-back : (b c : ℕ) → b < 256 → c < 256 → pair_bytes (pair_of b c) ≡ b ∷ c ∷ []
unfolding pair_bytes pair_of field_of
pair-back b c h k =
    let e : b / 32 % 8 * 32 + b / 8 % 4 * 8 + b / 2 % 4 * 2 + b / 1 % 2 ≡ b = eqb-true _ _ (of-all 256 _ fields_back.0 b h) in
    let f : c / 4 % 64 * 4 + c / 1 % 4 ≡ c = eqb-true _ _ (of-all 256 _ fields_back.1 c k) in
    rw (e, f)

-- W of MOV M,M is that of its operands
chosen_w : Chosen → ℕ
chosen_w (taken e) = e.w
chosen_w untaken = 2

move-wide : (mm aa : ℕ) (wide : Bool) (to : Memory) (e : Entry) → let s = MovMemory (record { mm = mm; aa = aa; wide = wide }) in entry_in entries (mnemonic_of s) (draws (sketch (listed (slots_of s to)))) ≡ taken e → e.w ≡ pick wide 1 0
unfolding chosen_w entries entry_in takes takes_all mnemonic_of slots_of listed sketch draws draw present fill filled same_text
move-wide mm aa true to e h = sym (ap chosen_w h)
move-wide mm aa false to e h = sym (ap chosen_w h)

move-or-one : {s : Shape} → Pairs s → (is_move s ≡ false) ⊎ ((m : Memory) × (s ≡ MovMemory m))
move-or-one (Pairs.one h) = inl h
move-or-one (Pairs.two m) = inr (m, refl)

second-told : (wide : Bool) (to : Memory) (w : ℕ) → w ≡ pick wide 1 0 → (to.aa * 2 + w) ∷ (0xCC + to.mm) ∷ [] ≡ pair_bytes (second_pair wide to)
unfolding pair_bytes second_pair
second-told wide to w h = let e : to.aa * 2 + w ≡ 0 + to.aa * 2 + w = omega arith in rw e (rw h)

-- a line that assembles to some bytes: it ends in a line feed and has no other, it has no label, and under any labels, from any address that is its own mod 65,536, it has these bytes and no number
pub record Assembles (chars : List ℕ) (address : ℕ) (bytes : List ℕ) : Type 0 where
  pub front : List ℕ
  pub ends : chars ≡ front ++ (10 ∷ [])
  pub whole : T (free front)
  pub unnamed : (said_by front).name ≡ []
  pub size : statement_size (said_by front).statement ≡ length bytes
  pub accepted : (labels : List Label) (at : ℕ) → at % 65536 ≡ address % 65536 → statement_number labels at (said_by front).statement ≡ 0
  pub stored : (labels : List Label) (at : ℕ) → at % 65536 ≡ address % 65536 → statement_bytes labels at (said_by front).statement ≡ bytes

module _ (x : List ℕ) (hb : Bytes x) (address : ℕ) (s : Shape) (to : Memory) (n : ℕ) (w : WholeAt x s to n) (l : is_listed s ≡ true) where
  abbrev places : List Slot
  places = listed (slots_of s to)

  abbrev pair : Pair
  pair = pair_of (get_or x 0 0) (get_or x 1 0)

  -- the line without its line feed
  abbrev line : List ℕ
  line = mnemonic_of s ++ marks 32 (operands_of s to x (address + n))

  k : Known pair s to
  k = known (get_or x 0 0) (get_or x 1 0) s to w.pair (placed-to x s to w.second) l

  r : Regular pair s to
  r = decoded-regular (get_or x 0 0) (get_or x 1 0) s to w.pair l

  first_two : pair_bytes pair ≡ take 2 x
  unfolding Bytes
  first_two = pair-back (get_or x 0 0) (get_or x 1 0) (hb 0) (hb 1) ∙ sym (first-pair x (omega (arith, bounded s, w.size, w.there)))

  module _ (labels : List Label) (E : ℕ) (same_end : E % 65536 ≡ (address + n) % 65536) where
    told : (ws : List Written) × Told labels x (address + n) E r.entry.kinds places ws
    unfolding FairAll listed
    told = told-all labels x (address + n) E hb same_end r.entry.kinds places (k.fair.0, (k.fair.1.0, (k.fair.1.1, tt))) r.kinds

    abbrev ws : List Written
    ws = told.0

    chosen-entry : entry_in entries (mnemonic_of s) ws ≡ taken r.entry
    chosen-entry = entry-taken entries (mnemonic_of s) ws (draws (sketch places)) (λ ls. told.1.taking ls ∙ ap (takes_all ls) (alike-fields 0 0 0 (sketched x (address + n) places)).3) ∙ r.chosen

    pair-told : pair_from r.entry (listed_all labels r.entry.kinds ws) ≡ pair
    unfolding pair_from pair_back operands_of fill listed
    pair-told =
        let all = alike-fields r.entry.rrr 0 0 told.1.same in
        let back = k.pair x (address + n) in
        let e = all.0 ∙ (alike-fields r.entry.rrr 0 0 (sketched x (address + n) places)).0 ∙ r.rrr in
        let f = all.1 ∙ ap (λ (p : Pair). p.mm) back in
        let g = all.2 ∙ ap (λ (p : Pair). p.aa) back in
        rw (e, f, g, r.dd, r.w, r.opcode)

    one-bytes : is_move s ≡ false → instruction_bytes labels E r.entry ws ≡ take n x
    unfolding instruction_bytes
    one-bytes h =
        let single = not-true (ltb 1 (memories_in r.entry.kinds)) (rw h at r.move) in
        let chain = rw (sym w.size) at (chained x s to w.second (other-shape s h)) in
        rw (single, pair-told, told.1.joined r.order, first_two) (all-covered x 2 n places chain w.there)

    move-bytes : (m : Memory) → s ≡ MovMemory m → instruction_bytes labels E r.entry ws ≡ take n x
    unfolding instruction_bytes move_bytes all_offsets to_of Bytes Fair slots_of listed fill filled present spoken_parts operands_from is_move
    move-bytes m q =
        let e = r.entry in
        let c = get_or x (2 + offset_length m) 0 in
        let d = get_or x (3 + offset_length m) 0 in
        let fair = subst (λ (y : Shape). Fair (slots_of y to).first × Fair (slots_of y to).second) q (k.fair.0, k.fair.1.0) in
        let source = placed labels x (address + n) E m 2 hb fair.1.0 fair.1.1 in
        let target = placed labels x (address + n) E to (after_offset m + 2) hb fair.0.0 fair.0.1 in
        let ts = offset_tokens to.aa (get_or x (after_offset m + 2) 0) in
        let both = Written.memory to.mm to.aa ts ∷ Written.memory m.mm m.aa (offset_tokens m.aa (get_or x 2 0)) ∷ [] in
        let same-both : ws ≡ both = sym told.1.written ∙ ap (λ (y : Shape). operands_from (spoken_parts (present (fill x (address + n) (listed (slots_of y to)))))) q ∙ rw (target.heard.operand, source.heard.operand) in
        let wide : e.w ≡ pick m.wide 1 0 = move-wide m.mm m.aa m.wide to e (sym (ap (λ (y : Shape). entry_in entries (mnemonic_of y) (draws (sketch (listed (slots_of y to))))) q) ∙ r.chosen) in
        let second : (to.aa * 2 + e.w) ∷ (0xCC + to.mm) ∷ [] ≡ c ∷ d ∷ [] =
        second-told m.wide to e.w wide ∙ ap pair_bytes (sym (second-fields c d m.wide to (sym (ap (to_of x) q) ∙ w.second))) ∙ pair-back c d (hb (2 + offset_length m)) (hb (3 + offset_length m)) in
        let two : ltb 1 (memories_in e.kinds) ≡ true = rw (ap is_move q) at r.move in
        let first : pair_bytes (pair_from e (listed_all labels e.kinds both)) ≡ take 2 x = rw same-both at (ap pair_bytes pair-told ∙ first_two) in
        let last = slot_bytes x (Place to (after_offset m + 2)) in
        let behind : written_offset labels (Written.memory to.mm to.aa ts) ≡ last = sym (append-nil _) ∙ target.own in
        let text : take 2 x ++ (slot_bytes x (Place m 2) ++ ((c ∷ d ∷ []) ++ last)) ≡ ((take 2 x ++ slot_bytes x (Place m 2)) ++ (c ∷ d ∷ [])) ++ last = simp append_assoc in
        rw (two, same-both, first, behind, source.own)
        (ap (λ (y : List ℕ). take 2 x ++ (slot_bytes x (Place m 2) ++ (y ++ last))) second ∙ text ∙ mov-covered x m to n (w.size ∙ ap (λ (y : Shape). length_of y + offset_length to) q) w.there)

    bytes-told : instruction_bytes labels E r.entry ws ≡ take n x
    bytes-told = go (move-or-one (pairs s))
      where
        go : (is_move s ≡ false) ⊎ ((m : Memory) × (s ≡ MovMemory m)) → instruction_bytes labels E r.entry ws ≡ take n x
        go (inl h) = one-bytes h
        go (inr (m, q)) = move-bytes m q

    said : (said_by line).statement ≡ instruction r.entry ws
    unfolding operands_of listed fill statement_of word_statement
    said =
        let t = told.1 in
        ap (λ (y : Said). y.statement) (line-said (mnemonic_of s) (operands_of s to x (address + n)) r.letters t.parted)
        ∙ rw (r.no_bytes, r.no_words, t.parted.lead, t.written, r.has, chosen-entry, t.shallow)

    size-told : statement_size (instruction r.entry ws) ≡ n
    size-told =
        let plain = entry-plain entries (mnemonic_of s) ws r.entry entries-plain chosen-entry in
        sym (instruction-size labels E r.entry ws plain.0 plain.1) ∙ ap length bytes-told ∙ omega (arith, length-take n x, w.there)

  -- the line of an instruction assembles to its bytes
  pub instruction-assembles : Assembles (instruction_line x (address + n) s to) address (take n x)
  unfolding statement_number statement_bytes operands_of listed fill
  instruction-assembles =
      let end = address + n in
      let sp = spoken-line x end pair s to k hb in
      let over : (at : ℕ) → at % 65536 ≡ address % 65536 → (at + n) % 65536 ≡ end % 65536 = λ at h. add-equal at address n h in
      record {
        front = line;
        ends = sp.text;
        whole = spoken-free sp;
        unnamed = ap (λ (y : Said). y.name) (line-said (mnemonic_of s) (operands_of s to x end) r.letters (told [] end refl).1.parted);
        size = ap statement_size (said [] end refl) ∙ size-told [] end refl ∙ omega (arith, length-take n x, w.there);
        accepted = λ labels at h.
            let t = (told labels (at + n) (over at h)).1 in
            ap (statement_number labels at) (said labels (at + n) (over at h)) ∙ rw (size-told labels (at + n) (over at h), t.known, t.stands);
        stored = λ labels at h. ap (statement_bytes labels at) (said labels (at + n) (over at h)) ∙ rw (size-told labels (at + n) (over at h)) (bytes-told labels (at + n) (over at h));
      }
