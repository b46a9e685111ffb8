-- One place of a line: the assembler reads its operand, and makes of it the bytes that were listed there.
-- Assumes nothing.
use mathlib.Core.{Path.◌≡◌, Path.refl, Path.sym, Path.ap, Path.subst, Path.◌∙◌, Bool.Bool, Bool.true, Bool.false, Bool.◌&&◌, Bool.◌||◌, Bool.false≢true, List.List, List.[], List.◌∷◌, List.◌++◌}
use Prim.Native.Nat.{ℕ, ◌+◌, ◌*◌, ◌/◌, ◌%◌, ◌<◌}
use native.Mathlib.Nat.{add_comm, mul-add-mod_self_right, mod-eq_of_lt}
use native.Mathlib.Omega.{arith}
use lib.{Dec.eqb, Dec.ltb, Dec.leb, ListN.get_or}
use borrow.Author.Tests.{eqb-true, lt-ltb}
use Rattle.ground_rules.specs.{Bytes.low_byte, Choice.pick, Signs.extended}
use Rattle.instruction_rules.specs.declared.Memory.{Memory}
use Rattle.listing_rules.specs.{declared.Slot.Slot, declared.Slot.TheVariants.Empty, declared.Slot.TheVariants.Name, declared.Slot.TheVariants.Place, declared.Slot.TheVariants.Number, declared.Slot.TheVariants.Target, declared.Slot.TheVariants.Digit, Characters.same_text, Characters.number_text, Forms.Operand, Forms.target_of, Forms.word_bytes, Forms.filled, Forms.register_name, Forms.base_name, Forms.mode_text, Forms.spelled, Forms.following}
use Rattle.listing_rules.specs.{Forms.Operand.register, Forms.Operand.memory, Forms.Operand.number, Forms.Operand.digit, Entries.OperandKind, Entries.OperandKind.'R, Entries.OperandKind.'G, Entries.OperandKind.'P, Entries.OperandKind.'M, Entries.OperandKind.'byte, Entries.OperandKind.'word, Entries.OperandKind.'bit, Entries.OperandKind.'width, Entries.OperandKind.'short, Entries.OperandKind.'long}
use Rattle.listing_rules.proofs.{SpellingLaws.each, SpellingLaws.present, SpellingLaws.Fair, SpellingLaws.Bytes, BackLaws.slot_bytes}
use Rattle.assembly_rules.specs.{Text.capital_of, Text.is_digit, Text.is_capital, Text.is_run, Text.is_blank, Text.ends_line, Text.Token, Text.Token.run, Text.is_comma, Text.in_front_of, Text.begun_by, Text.tokens_of, Sums.Label, Sums.index_in, Sums.register_number, Sums.scan_from, Sums.depth_of, Sums.worth, Sums.sum_worth, Operands.Written, Operands.closed_memory, Operands.ended_memory, Operands.indexed_memory, Operands.memory_behind, Operands.memory_from, Operands.operand_from}
use Rattle.assembly_rules.specs.{Operands.is_memory_kind, Operands.takes_register, Operands.takes, Operands.is_shallow, Statements.is_byte, Statements.reach_to, Statements.is_near, Statements.may_stand, Statements.operand_worth, Statements.is_digit_kind, Statements.listed_as, Statements.written_offset, Statements.number_bytes}
use Rattle.assembly_rules.proofs.{ScanLaws.all_fail, WritingLaws.both_left, WritingLaws.both_right}
use Rattle.promises_codes.proofs.CodeNumbers.{all_below, of-all}
use Rattle.promises_assembly.proofs.{Texts.Constantly, Texts.byte-constant, Texts.word-constant, Texts.digit-constant, Texts.opens, Texts.Voiced, Rows.draw, Rows.Alike, Rows.Alike.registers, Rows.Alike.memories, Rows.Alike.numbers, Rows.Alike.digits, Rows.same_kind, Rows.same-kind, Rows.agrees}

-- an operand that is heard as it is meant: its tokens stay together and stand for what is written
pub record Heard (o : Operand) (w : Written) : Type 0 where
  pub voice : Voiced o
  pub operand : operand_from (tokens_of (spelled o)) ≡ w

hear : {o : Operand} {w : Written} → ((os : List Operand) → present (o ∷ os) ≡ o ∷ present os) → ((m : ℕ) → following m o ≡ m ∷ spelled o) → all_fail ends_line (spelled o) ≡ true → all_fail is_comma (tokens_of (spelled o)) ≡ true → opens (tokens_of (spelled o)) ≡ true → operand_from (tokens_of (spelled o)) ≡ w → Heard o w
hear a b c d e f = record { voice = record { there = a; behind = b; free = c; uncut = d; begins = e }; operand = f }

heard-register : (r : ℕ) → r < 8 → Heard (register r) (Written.register r)
unfolding present following all_fail spelled register_name tokens_of begun_by in_front_of is_run is_digit is_capital capital_of is_blank ends_line opens operand_from register_number index_in same_text
heard-register r h =
    each 8 (λ (k : ℕ). Heard (register k) (Written.register k))
    ((((((((tt, hear (λ os. refl) (λ m. refl) refl refl refl refl), hear (λ os. refl) (λ m. refl) refl refl refl refl), hear (λ os. refl) (λ m. refl) refl refl refl refl), hear (λ os. refl) (λ m. refl) refl refl refl refl), hear (λ os. refl) (λ m. refl) refl refl refl refl), hear (λ os. refl) (λ m. refl) refl refl refl refl), hear (λ os. refl) (λ m. refl) refl refl refl refl), hear (λ os. refl) (λ m. refl) refl refl refl refl)
    r h

-- the tokens of an offset byte, if there is one
abbrev pub offset_tokens : ℕ → ℕ → List Token
offset_tokens aa b = pick (eqb aa 1) (run (number_text (b ∷ [])) ∷ []) []

heard-memory : (mm aa b : ℕ) → mm < 4 → aa < 4 → b < 256 → Heard (memory mm aa (pick (eqb aa 1) (b ∷ []) [])) (Written.memory mm aa (offset_tokens aa b))
unfolding present following all_fail spelled base_name mode_text tokens_of begun_by in_front_of is_run is_digit is_capital capital_of is_blank ends_line opens operand_from memory_from memory_behind closed_memory indexed_memory ended_memory register_number index_in same_text
heard-memory mm aa b h k l =
    let c = byte-constant b l in
    let f = c.free in
    let t = c.tokens in
    let s = c.sum in
    each 4 (λ (i : ℕ). (j : ℕ) → j < 4 → Heard (memory i j (pick (eqb j 1) (b ∷ []) [])) (Written.memory i j (offset_tokens j b))) (
      (
        (
          (tt, each 4 _ ((((tt, hear (λ os. refl) (λ m. refl) refl refl refl refl), hear (λ os. refl) (λ m. refl) f (rw t) refl (rw (t, s))), hear (λ os. refl) (λ m. refl) refl refl refl refl), hear (λ os. refl) (λ m. refl) refl refl refl refl)),
          each 4 _ ((((tt, hear (λ os. refl) (λ m. refl) refl refl refl refl), hear (λ os. refl) (λ m. refl) f (rw t) refl (rw (t, s))), hear (λ os. refl) (λ m. refl) refl refl refl refl), hear (λ os. refl) (λ m. refl) refl refl refl refl),
        ),
        each 4 _ ((((tt, hear (λ os. refl) (λ m. refl) refl refl refl refl), hear (λ os. refl) (λ m. refl) f (rw t) refl (rw (t, s))), hear (λ os. refl) (λ m. refl) refl refl refl refl), hear (λ os. refl) (λ m. refl) refl refl refl refl),
      ),
      each 4 _ ((((tt, hear (λ os. refl) (λ m. refl) refl refl refl refl), hear (λ os. refl) (λ m. refl) f (rw t) refl (rw (t, s))), hear (λ os. refl) (λ m. refl) refl refl refl refl), hear (λ os. refl) (λ m. refl) refl refl refl refl),
    )
    mm h aa k

-- how far a target is from any address that is the end of the instruction mod 65,536
reach-back : (E end x : ℕ) → E % 65536 ≡ end % 65536 → reach_to E ((end + x) % 65536) ≡ x % 65536
unfolding reach_to
reach-back E end x h = omega arith

near-bytes : all_below 256 (λ (x : ℕ). is_near (extended 8 x % 65536) && eqb (extended 8 x % 65536 % 256) x) ≡ true
unfolding all_below extended
near-bytes = refl

short-reach : (x : ℕ) → x < 256 → (is_near (extended 8 x % 65536) ≡ true) × (extended 8 x % 65536 % 256 ≡ x)
short-reach x h = let t = of-all 256 _ near-bytes x h in let near = is_near (extended 8 x % 65536) in (both_left near _ t, eqb-true _ _ (both_right near _ t))

long-reach : (x : ℕ) → x < 65536 → extended 16 x % 65536 ≡ x
unfolding extended
long-reach x h = go (ltb x 32768)
  where
    go : (b : Bool) → pick b x (x + 983040) % 65536 ≡ x
    go true = omega arith
    go false = omega arith

-- a word's two bytes
halves : (l h : ℕ) → l < 256 → h < 256 → word_bytes (l + h * 256) ≡ l ∷ h ∷ []
halves l h k m =
    let low : (l + h * 256) % 256 ≡ l = ap (λ (x : ℕ). x % 256) (add_comm l (h * 256)) ∙ mul-add-mod_self_right h 256 l ∙ mod-eq_of_lt k in
    let all : (l + h * 256) / 256 ≡ h = omega (arith, low) in
    let high : (l + h * 256) / 256 % 256 ≡ h = rw all (mod-eq_of_lt m) in
    rw (low, high)

target-constant : (end x : ℕ) → Constantly (number_text (word_bytes (target_of end x))) (target_of end x)
unfolding target_of
target-constant end x =
    let t = (end + x) % 65536 in
    let e : t % 256 + t / 256 % 256 * 256 ≡ t = omega arith in
    subst (Constantly (number_text (word_bytes t))) e (word-constant (t % 256) (t / 256 % 256) (omega arith) (omega arith))

-- a place for a register has no bytes of its own
register-kind : (k : OperandKind) (r E : ℕ) → takes_register k r ≡ true → (may_stand k E 0 ≡ true) × (number_bytes k E 0 ≡ [])
unfolding may_stand
register-kind 'R r E h = (refl, refl)
register-kind 'G r E h = (refl, refl)
register-kind 'P r E h = (refl, refl)
register-kind 'M r E h = absurd (false≢true h)
register-kind 'byte r E h = absurd (false≢true h)
register-kind 'word r E h = absurd (false≢true h)
register-kind 'bit r E h = absurd (false≢true h)
register-kind 'width r E h = absurd (false≢true h)
register-kind 'short r E h = absurd (false≢true h)
register-kind 'long r E h = absurd (false≢true h)

either_way : (P : Bool → Type 0) (t : Bool) → P true → P false → P t
either_way P true x y = x
either_way P false x y = y

module _ (labels : List Label) (bytes : List ℕ) (end E : ℕ) where
  -- an operand as it is meant in its place, under any labels and where the instruction ends at E: it is taken as in the listing, may stand there, and has the bytes of the place
  pub record Meant (k : OperandKind) (a : Slot) (w : Written) : Type 0 where
    pub heard : Heard (filled bytes end a) w
    pub taking : (l : OperandKind) → takes l w ≡ takes l (draw (filled bytes end a))
    pub shallow : is_shallow w ≡ true
    pub known : (operand_worth labels w).known ≡ true
    pub stands : may_stand k E (operand_worth labels w).value ≡ true
    pub own : written_offset labels w ++ number_bytes k E (operand_worth labels w).value ≡ slot_bytes bytes a
    pub bare : is_memory_kind k ≡ false → written_offset labels w ≡ []
    pub same : {os ps : List Operand} → Alike os ps → Alike (listed_as labels k w ∷ os) (filled bytes end a ∷ ps)

  -- a number
  valued : (k : OperandKind) (a : Slot) (v : ℕ) → ((os : List Operand) → present (filled bytes end a ∷ os) ≡ filled bytes end a ∷ present os) → ((m : ℕ) → following m (filled bytes end a) ≡ m ∷ spelled (filled bytes end a)) → draw (filled bytes end a) ≡ Written.value [] → Constantly (spelled (filled bytes end a)) v → may_stand k E v ≡ true → number_bytes k E v ≡ slot_bytes bytes a
      → ((os ps : List Operand) → Alike os ps → Alike (pick (is_digit_kind k) (digit v) (number (word_bytes v)) ∷ os) (filled bytes end a ∷ ps)) → (w : Written) × Meant k a w
  unfolding all_fail opens takes is_shallow operand_worth listed_as
  valued k a v there behind drawn c stands nums same =
      let w = c.worths labels in (
        Written.value (run (spelled (filled bytes end a)) ∷ []),
        record {
          heard = hear there behind c.free (rw c.tokens) (rw c.tokens) (rw c.tokens c.operand);
          taking = λ l. rw drawn;
          shallow = rw c.shallow;
          known = rw w;
          stands = rw w stands;
          own = rw w nums;
          bare = λ h. refl;
          same = λ l. rw w (same _ _ l);
        },
      )

  named : (k : OperandKind) (r : ℕ) → r < 8 → takes_register k r ≡ true → Meant k (Name r) (Written.register r)
  unfolding filled draw takes is_shallow operand_worth slot_bytes listed_as
  named k r f h =
      let t = register-kind k r E h in
      record { heard = heard-register r f; taking = λ l. refl; shallow = refl; known = refl; stands = t.0; own = t.1; bare = λ b. refl; same = λ l. registers r l }

  pub placed : (m : Memory) (at : ℕ) → Bytes bytes → m.mm < 4 → m.aa < 4 → Meant 'M (Place m at) (Written.memory m.mm m.aa (offset_tokens m.aa (get_or bytes at 0)))
  unfolding filled draw takes is_shallow operand_worth slot_bytes listed_as may_stand is_byte depth_of scan_from Bytes
  placed m at hb hm ha =
      let b = get_or bytes at 0 in
      let c = byte-constant b (hb at) in
      let w = c.worths labels in
      let low : b % 256 ≡ b = omega (arith, hb at) in
      let one : Bool → List Token = λ t. pick t (run (number_text (b ∷ [])) ∷ []) [] in
      let has = eqb m.aa 1 in
      record {
        heard = heard-memory m.mm m.aa b hm ha (hb at);
        taking = λ l. refl;
        shallow = either_way (λ (t : Bool). leb (depth_of (one t)) 8 ≡ true) has (rw c.shallow) refl;
        known = either_way (λ (t : Bool). (pick t (sum_worth labels (one t)) (worth 0 true)).known ≡ true) has (rw w) refl;
        stands = either_way (λ (t : Bool). is_byte (pick t (sum_worth labels (one t)) (worth 0 true)).value ≡ true) has (rw (w, lt-ltb b 256 (hb at))) refl;
        own = either_way (λ (t : Bool). pick t (low_byte (sum_worth labels (one t)).value ∷ []) [] ++ [] ≡ pick t (b ∷ []) []) has (rw (w, low)) refl;
        bare = λ h. absurd (false≢true (sym h));
        same = λ l. memories m.mm m.aa _ _ l;
      }

  -- a place of a kind, as it is meant
  pub meant : Bytes bytes → E % 65536 ≡ end % 65536 → (k : OperandKind) (a : Slot) → Fair a → agrees k a ≡ true → (w : Written) × Meant k a w
  unfolding Bytes Fair agrees filled draw present following spelled slot_bytes may_stand is_byte target_of
  meant hb ends k Empty f h = absurd (false≢true h)
  meant hb ends k (Name r) f h = (Written.register r, named k r f h)
  meant hb ends k (Place m at) f h = rw (same-kind k 'M h) (Written.memory m.mm m.aa (offset_tokens m.aa (get_or bytes at 0)), placed m at hb f.0 f.1)
  meant hb ends k (Number at true) f h =
      let l = get_or bytes at 0 in
      let u = get_or bytes (at + 1) 0 in
      rw (same-kind k 'word h) (valued 'word (Number at true) (l + u * 256) (λ os. refl) (λ m. refl) refl (word-constant l u (hb at) (hb (at + 1))) refl (halves l u (hb at) (hb (at + 1))) (λ os ps l. numbers _ _ l))
  meant hb ends k (Number at false) f h =
      let b = get_or bytes at 0 in
      let low : b % 256 ≡ b = omega (arith, hb at) in
      rw (same-kind k 'byte h) (valued 'byte (Number at false) b (λ os. refl) (λ m. refl) refl (byte-constant b (hb at)) (rw (lt-ltb b 256 (hb at))) (rw low) (λ os ps l. numbers _ _ l))
  meant hb ends k (Target at true) f h =
      let l = get_or bytes at 0 in
      let u = get_or bytes (at + 1) 0 in
      let x = extended 16 (l + u * 256) in
      let reach = reach-back E end x ends ∙ long-reach (l + u * 256) (omega (arith, hb at, hb (at + 1))) in
      rw (same-kind k 'long h) (valued 'long (Target at true) (target_of end x) (λ os. refl) (λ m. refl) refl (target-constant end x) refl (rw reach (halves l u (hb at) (hb (at + 1)))) (λ os ps l. numbers _ _ l))
  meant hb ends k (Target at false) f h =
      let b = get_or bytes at 0 in
      let x = extended 8 b in
      let reach = reach-back E end x ends in
      let s = short-reach b (hb at) in
      rw (same-kind k 'short h) (valued 'short (Target at false) (target_of end x) (λ os. refl) (λ m. refl) refl (target-constant end x) (rw reach s.0) (rw (reach, s.1)) (λ os ps l. numbers _ _ l))
  meant hb ends k (Digit n) f h = go (ltb n 8) refl h
    where
      go : (b : Bool) → ltb n 8 ≡ b → pick b (same_kind k 'bit) (same_kind k 'width && (eqb n 8 || eqb n 16)) ≡ true → (w : Written) × Meant k (Digit n) w
      go true e t = rw (same-kind k 'bit t) (valued 'bit (Digit n) n (λ os. refl) (λ m. refl) refl (digit-constant n (rw e)) e refl (λ os ps l. digits n l))
      go false e t =
          let wide = both_right (same_kind k 'width) _ t in
          rw (same-kind k 'width (both_left (same_kind k 'width) _ t)) (valued 'width (Digit n) n (λ os. refl) (λ m. refl) refl (digit-constant n (rw (e, wide))) wide refl (λ os ps l. digits n l))
