-- The places of an instruction that the code read, one after another: what the rules say of its operands, as the code has it.
-- Assumes nothing.
use Rattle.std.specs.Prelude.{Option, Some, None, fold, count_by}
use Rattle.std.specs.List.{list_all, push}
use mathlib.Core.Path.{◌≡◌, refl, sym, ap, ◌∙◌}
use mathlib.Core.Bool.{Bool, true, false, cond, ◌&&◌, false≢true}
use mathlib.Core.List.{List, [], ◌∷◌, ◌++◌, append_assoc, append-nil}
use Prim.Native.Nat.{ℕ, ◌+◌, ◌*◌, ◌/◌, ◌%◌, ◌≤◌, ◌<◌}
use native.Mathlib.Omega.{arith}
use native.Mathlib.Numerals.{add-one}
use Rattle.std.proofs.Math.Seq.{drop-cons}
use lib.Dec.{eqb, ltb}
use lib.ListN.{length, get_or, drop, set}
use borrow.Author.Tests.{eqb-true}
use Rattle.ground_rules.specs.Bytes.{low_byte}
use Rattle.ground_rules.specs.Choice.{pick}
use Rattle.listing_rules.specs.Entries.{OperandKind, Entry, entries}
use Rattle.listing_rules.specs.Forms.{Operand, word_bytes}
use Rattle.listing_rules.specs.Back.{digits_in, rrr_in, mm_in, aa_in, pair_from}
use Rattle.assembly_rules.specs.declared.Worth.{Worth}
use Rattle.assembly_rules.specs.Text.{Token, tokens_of}
use Rattle.assembly_rules.specs.Sums.{Label, worth, sum_worth, is_sum}
use Rattle.assembly_rules.specs.Operands.{Written, is_memory_kind, takes, takes_all, is_shallow, all_shallow}
use Rattle.assembly_rules.specs.Operands.Written.{register, memory, value, nothing}
use Rattle.assembly_rules.specs.Statements.{Statement, statement_size, statement_number, operand_worth, names_known, all_stand, memories_in, pair_bytes, is_digit_kind, listed_as, listed_all, written_offset, all_offsets, number_bytes, all_numbers, second_bytes, move_bytes, instruction_bytes, items_bytes, statement_bytes}
use Rattle.assembly_rules.specs.Statements.Statement.{blank, items, refused}
use Rattle.assembly_rules.proofs.WritingLaws.{both_left, both_right}
use Rattle.assembler_forms.specs.declared.operands.Form.{Form}
use Rattle.assembler_forms.specs.declared.operands.Form.TheVariants.{Register, Memory, Offset, Value}
use Rattle.assembler_forms.specs.declared.operands.Indexing.TheVariants.{Plain, Indexed, Stepped}
use Rattle.assembler_forms.specs.declared.operands.Operands.{Operands}
use Rattle.assembler_forms.specs.declared.table.EntryCode.{EntryCode}
use Rattle.assembler_forms.specs.declared.table.PlaceKind.{PlaceKind}
use Rattle.assembler_forms.specs.Forms.{operand_tokens, Formed, written_form}
use Rattle.assembler_forms.specs.Rows.{FormsAre}
use Rattle.assembler_forms.specs.Rows.FormsAre.{none, one, two, three}
use Rattle.assembler_forms.specs.Table.{kind_of, kinds_in, kinds_code, entry_code}
use Rattle.assembler_forms.proofs.EntryLaws.{each_entry, kind_told, kind-back, told_all, kinds-told}
use Rattle.assembler_lines.specs.Bodies.{are_sums, SaysInstruction}
use Rattle.assembler_lines.proofs.BodyLaws.{among-passes, among-right}
use Rattle.assembler_bytes.specs.declared.placed.Placed.{Placed}
use Rattle.assembler_bytes.specs.Placed.{worth_by, placed_in, all_placed, memory_placed, stand_by, digits_after, rrr_after, rrr_all, first_form, mm_after, aa_after, first_byte, second_byte, offset_laid, offsets_laid, number_laid, numbers_laid, second_by, second_laid}
use Rattle.assembler_bytes.proofs.LaidLaws.{lows, lows-behind, lows-two}
use Rattle.assembler_bytes.proofs.WorthLaws.{worth-before}

first-mod : (r d a w : ℕ) → (r % 8 * 32 + d * 8 + a % 128 * 2 + w) % 256 ≡ (r * 32 + d * 8 + a * 2 + w) % 256
first-mod r d a w = omega arith

low-mod : (o m : ℕ) → (o + m % 256) % 256 ≡ (o + m) % 256
low-mod o m = omega arith

-- places with their operands, those of an entry and what is written behind its word; none behind the last
pub data Stands (labels : List Label) (text : List ℕ) : List Placed → List OperandKind → List Written → Type 0 where
  end : Stands labels text [] [] []
  skip : {ps : List Placed} → Stands labels text ps [] [] → Stands labels text (placed_in labels text None None ∷ ps) [] []
  next : {ps : List Placed} {ks : List OperandKind} {ws : List Written} (k : PlaceKind) (f : Form) (j : OperandKind) (u : Written) → kind_of k ≡ j → written_form text f ≡ u → worth_by labels text (Some f) ≡ operand_worth labels u
      → Stands labels text ps ks ws → Stands labels text (placed_in labels text (Some k) (Some f) ∷ ps) (j ∷ ks) (u ∷ ws)

-- three places written one after another
pub three-set : (ps : List Placed) (a b c : Placed) → length ps ≡ 3 → set (set (set ps 0 a) 1 b) 2 c ≡ a ∷ b ∷ c ∷ []
three-set [] a b c h = absurd (omega arith)
three-set (p ∷ []) a b c h = absurd (omega arith)
three-set (p ∷ q ∷ []) a b c h = absurd (omega arith)
three-set (p ∷ q ∷ r ∷ []) a b c h = refl
three-set (p ∷ q ∷ r ∷ s ∷ ps) a b c h = absurd (omega arith)

-- an operand's worth by the place of its sum
alone : {b : Bool} → b ≡ true → b && true ≡ true
alone h = rw h

sums_next : (w : Written) (ws : List Written) → are_sums (w ∷ ws) ≡ true → (are_sums (w ∷ []) ≡ true) × (are_sums ws ≡ true)
unfolding are_sums
sums_next (register r) ws h = (refl, h)
sums_next (memory mm aa ts) ws h = (alone (both_left (pick (eqb aa 1) (is_sum ts) true) (are_sums ws) h), both_right (pick (eqb aa 1) (is_sum ts) true) (are_sums ws) h)
sums_next (value ts) ws h = (alone (both_left (is_sum ts) (are_sums ws) h), both_right (is_sum ts) (are_sums ws) h)
sums_next nothing ws h = (refl, h)

low-next : (w : Written) (ws : List Written) → all_shallow (w ∷ ws) ≡ true → (is_shallow w ≡ true) × (all_shallow ws ≡ true)
unfolding all_shallow
low-next w ws h = (both_left (is_shallow w) (all_shallow ws) h, both_right (is_shallow w) (all_shallow ws) h)

worth-form : (labels : List Label) (text : List ℕ) (f : Form) → are_sums (written_form text f ∷ []) ≡ true → is_shallow (written_form text f) ≡ true → worth_by labels text (Some f) ≡ operand_worth labels (written_form text f)
unfolding are_sums is_shallow operand_worth
worth-form labels text (Register r) h k = refl
worth-form labels text (Memory mm Plain) h k = refl
worth-form labels text (Offset mm s) h k = worth-before labels (tokens_of (drop s.place text)) (both_left (is_sum (operand_tokens text s.place)) true h) k
worth-form labels text (Memory mm Indexed) h k = refl
worth-form labels text (Memory mm Stepped) h k = refl
worth-form labels text (Value s) h k = worth-before labels (tokens_of (drop s.place text)) (both_left (is_sum (operand_tokens text s.place)) true h) k

module _ (labels : List Label) (text : List ℕ) where
  put-next : {ps : List Placed} {ks : List OperandKind} {ws : List Written} (j : OperandKind) (f : Form) (u : Written) → Formed text (Some f) u → are_sums (u ∷ ws) ≡ true → all_shallow (u ∷ ws) ≡ true
      → (are_sums ws ≡ true → all_shallow ws ≡ true → Stands labels text ps ks ws) → Stands labels text (placed_in labels text (Some (kind_told j)) (Some f) ∷ ps) (j ∷ ks) (u ∷ ws)
  put-next {ws = ws} j f u e h k more =
      let a = sums_next u ws h in
      let b = low-next u ws k in
      next (kind_told j) f j u (kind-back j) e.same (worth-form labels text f (rw e.same a.0) (rw e.same b.0) ∙ ap (operand_worth labels) e.same) (more a.1 b.1)

  over : (x : OperandKind) (u : Written) {A : Type 0} → takes x u && false ≡ true → A
  over x u h = absurd (false≢true (both_right (takes x u) false h))

  pub stands-from : (ks : List OperandKind) (fs : List (Option Form)) (ws : List Written) → length ks ≤ 3 → FormsAre text fs ws → takes_all ks ws ≡ true → are_sums ws ≡ true → all_shallow ws ≡ true → Stands labels text (all_placed labels text (told_all ks) fs) ks ws
  unfolding takes_all
  stands-from [] fs ws l none t h s = skip (skip (skip end))
  stands-from [] fs ws l (one a) t h s = absurd (false≢true t)
  stands-from [] fs ws l (two a b) t h s = absurd (false≢true t)
  stands-from [] fs ws l (three a b c) t h s = absurd (false≢true t)
  stands-from (j ∷ []) fs ws l none t h s = absurd (false≢true t)
  stands-from (j ∷ []) fs ws l (one {f = f} {u = u} a) t h s = put-next j f u a h s (λ h s. skip (skip end))
  stands-from (j ∷ []) fs ws l (two {u = u} a b) t h s = over j u t
  stands-from (j ∷ []) fs ws l (three {u = u} a b c) t h s = over j u t
  stands-from (j ∷ i ∷ []) fs ws l none t h s = absurd (false≢true t)
  stands-from (j ∷ i ∷ []) fs ws l (one {u = u} a) t h s = over j u t
  stands-from (j ∷ i ∷ []) fs ws l (two {f = f} {g = g} {u = u} {v = v} a b) t h s = put-next j f u a h s (λ h s. put-next i g v b h s (λ h s. skip end))
  stands-from (j ∷ i ∷ []) fs ws l (three {u = u} {v = v} a b c) t h s = over i v (both_right (takes j u) _ t)
  stands-from (j ∷ i ∷ o ∷ []) fs ws l none t h s = absurd (false≢true t)
  stands-from (j ∷ i ∷ o ∷ []) fs ws l (one {u = u} a) t h s = over j u t
  stands-from (j ∷ i ∷ o ∷ []) fs ws l (two {u = u} {v = v} a b) t h s = over i v (both_right (takes j u) _ t)
  stands-from (j ∷ i ∷ o ∷ []) fs ws l (three {f = f} {g = g} {h = e} {u = u} {v = v} {w = w} a b c) t h s = put-next j f u a h s (λ h s. put-next i g v b h s (λ h s. put-next o e w c h s (λ h s. end)))
  stands-from (j ∷ i ∷ o ∷ n ∷ ks) fs ws l r t h s = absurd (omega arith)

  pub known-told : {ps : List Placed} {ks : List OperandKind} {ws : List Written} → Stands labels text ps ks ws → list_all (λ (p : Placed). p.worth.known) ps ≡ names_known labels ws
  unfolding names_known
  known-told end = refl
  known-told (skip s) = known-told s
  known-told (next k f j u a b w s) = rw (w, known-told s)

  pub stand-told : (to : ℕ) {ps : List Placed} {ks : List OperandKind} {ws : List Written} → Stands labels text ps ks ws → list_all (λ (p : Placed). stand_by p.kind to p.worth.value) ps ≡ all_stand labels to ks ws
  unfolding all_stand
  stand-told to end = refl
  stand-told to (skip s) = stand-told to s
  stand-told to (next k f j u a b w s) = rw (a, w, stand-told to s)

  counted : (n : ℕ) {ps : List Placed} {ks : List OperandKind} {ws : List Written} → Stands labels text ps ks ws → fold (λ (m : ℕ) (p : Placed). m + cond (memory_placed p.kind) 1 0) n ps ≡ n + memories_in ks
  unfolding memories_in
  counted n end = omega arith
  counted n (skip s) = omega (arith, counted (n + 0) s)
  counted n (next {ks = ks} k f j u a b w s) = rw (← a) (counted (n + cond (memory_placed (Some k)) 1 0) s ∙ go (is_memory_kind (kind_of k)))
    where
      go : (b : Bool) → n + cond b 1 0 + memories_in ks ≡ n + (pick b 1 0 + memories_in ks)
      go true = omega arith
      go false = omega arith

  pub memories-told : {ps : List Placed} {ks : List OperandKind} {ws : List Written} → Stands labels text ps ks ws → count_by (λ (p : Placed). memory_placed p.kind) ps ≡ memories_in ks
  memories-told {ks = ks} s = let z : 0 + memories_in ks ≡ memories_in ks = omega arith in counted 0 s ∙ z

  -- the fields of the pair
  mode-form : (j : OperandKind) (os : List Operand) (f : Form) (d : ℕ) → let o = listed_as labels j (written_form text f) in (mm_in (mm_after d (Some f)) os ≡ mm_in d (o ∷ os)) × (aa_in (aa_after d (Some f)) os ≡ aa_in d (o ∷ os))
  unfolding mm_in aa_in listed_as
  mode-form j os (Register r) d = (refl, refl)
  mode-form j os (Memory mm Plain) d = (refl, refl)
  mode-form j os (Offset mm s) d = (refl, refl)
  mode-form j os (Memory mm Indexed) d = (refl, refl)
  mode-form j os (Memory mm Stepped) d = (refl, refl)
  mode-form j os (Value s) d = go (is_digit_kind j)
    where
      go : (b : Bool) → let o = pick b (Operand.digit (sum_worth labels (operand_tokens text s.place)).value) (Operand.number (word_bytes (sum_worth labels (operand_tokens text s.place)).value)) in (mm_in d os ≡ mm_in d (o ∷ os)) × (aa_in d os ≡ aa_in d (o ∷ os))
      go true = (refl, refl)
      go false = (refl, refl)

  mm-told : (d : ℕ) {ps : List Placed} {ks : List OperandKind} {ws : List Written} → Stands labels text ps ks ws → fold (λ (d : ℕ) (p : Placed). mm_after d p.form) d ps ≡ mm_in d (listed_all labels ks ws)
  unfolding listed_all mm_in
  mm-told d end = refl
  mm-told d (skip s) = mm-told d s
  mm-told d (next {ks = ks} {ws = ws} k f j u a b w s) = rw (← b) (mm-told (mm_after d (Some f)) s ∙ (mode-form j (listed_all labels ks ws) f d).0)

  aa-told : (d : ℕ) {ps : List Placed} {ks : List OperandKind} {ws : List Written} → Stands labels text ps ks ws → fold (λ (d : ℕ) (p : Placed). aa_after d p.form) d ps ≡ aa_in d (listed_all labels ks ws)
  unfolding listed_all aa_in
  aa-told d end = refl
  aa-told d (skip s) = aa-told d s
  aa-told d (next {ks = ks} {ws = ws} k f j u a b w s) = rw (← b) (aa-told (aa_after d (Some f)) s ∙ (mode-form j (listed_all labels ks ws) f d).1)

  digits-form : (n : ℕ) (k : PlaceKind) (f : Form) (os : List Operand) → worth_by labels text (Some f) ≡ operand_worth labels (written_form text f) → digits_after n (Some (placed_in labels text (Some k) (Some f))) ≡ digits_in n (listed_as labels (kind_of k) (written_form text f) ∷ os)
  unfolding digits_in listed_as operand_worth
  digits-form n k (Register r) os w = refl
  digits-form n k (Memory mm Plain) os w = refl
  digits-form n k (Offset mm s) os w = refl
  digits-form n k (Memory mm Indexed) os w = refl
  digits-form n k (Memory mm Stepped) os w = refl
  digits-form n k (Value s) os w = rw w (go (is_digit_kind (kind_of k)))
    where
      go : (b : Bool) → pick b (4 + pick (eqb n 16) 2 0 + pick (eqb (sum_worth labels (operand_tokens text s.place)).value 16) 1 0) n ≡ digits_in n (pick b (Operand.digit (sum_worth labels (operand_tokens text s.place)).value) (Operand.number (word_bytes (sum_worth labels (operand_tokens text s.place)).value)) ∷ os)
      go true = refl
      go false = refl

  digits-told : (n : ℕ) {ps : List Placed} {ks : List OperandKind} {ws : List Written} → Stands labels text ps ks ws → digits_after n (first_form ps) ≡ digits_in n (listed_all labels ks ws)
  unfolding listed_all digits_in
  digits-told n end = refl
  digits-told n (skip s) = refl
  digits-told n (next {ks = ks} {ws = ws} k f j u a b w s) = rw (← a, ← b) (digits-form n k f (listed_all labels ks ws) (w ∙ ap (operand_worth labels) (sym b)))

  rrr-form : (d : ℕ) (k : PlaceKind) (f : Form) (after : Option Placed) (rest : ℕ) (os : List Operand) → worth_by labels text (Some f) ≡ operand_worth labels (written_form text f) → rest ≡ rrr_in d os → ((n : ℕ) → digits_after n after ≡ digits_in n os)
      → rrr_after (placed_in labels text (Some k) (Some f)) after rest ≡ rrr_in d (listed_as labels (kind_of k) (written_form text f) ∷ os)
  unfolding rrr_in listed_as operand_worth
  rrr-form d k (Register r) after rest os w p q = refl
  rrr-form d k (Memory mm Plain) after rest os w p q = p
  rrr-form d k (Offset mm s) after rest os w p q = p
  rrr-form d k (Memory mm Indexed) after rest os w p q = p
  rrr-form d k (Memory mm Stepped) after rest os w p q = p
  rrr-form d k (Value s) after rest os w p q = rw w (go (is_digit_kind (kind_of k)))
    where
      go : (b : Bool) → pick b (digits_after (sum_worth labels (operand_tokens text s.place)).value after) rest ≡ rrr_in d (pick b (Operand.digit (sum_worth labels (operand_tokens text s.place)).value) (Operand.number (word_bytes (sum_worth labels (operand_tokens text s.place)).value)) ∷ os)
      go true = q (sum_worth labels (operand_tokens text s.place)).value
      go false = p

  rrr-told : (d : ℕ) {ps : List Placed} {ks : List OperandKind} {ws : List Written} → Stands labels text ps ks ws → rrr_all d ps ≡ rrr_in d (listed_all labels ks ws)
  unfolding rrr_all listed_all rrr_in
  rrr-told d end = refl
  rrr-told d (skip s) = rrr-told d s
  rrr-told d (next {ps = ps} {ks = ks} {ws = ws} k f j u a b w s) = rw (← a, ← b) (rrr-form d k f (first_form ps) (rrr_all d ps) (listed_all labels ks ws) (w ∙ ap (operand_worth labels) (sym b)) (rrr-told d s) (λ n. digits-told n s))

  -- offsets and numbers
  offset-form : (k : PlaceKind) (f : Form) → worth_by labels text (Some f) ≡ operand_worth labels (written_form text f) → offset_laid (placed_in labels text (Some k) (Some f)) ≡ written_offset labels (written_form text f)
  unfolding operand_worth
  offset-form k (Register r) w = refl
  offset-form k (Memory mm Plain) w = refl
  offset-form k (Offset mm s) w = ap (λ (x : Worth). low_byte x.value ∷ []) w
  offset-form k (Memory mm Indexed) w = refl
  offset-form k (Memory mm Stepped) w = refl
  offset-form k (Value s) w = refl

  offset-next : (k : PlaceKind) (f : Form) (u : Written) → written_form text f ≡ u → worth_by labels text (Some f) ≡ operand_worth labels u → offset_laid (placed_in labels text (Some k) (Some f)) ≡ written_offset labels u
  offset-next k f u b w = offset-form k f (w ∙ ap (operand_worth labels) (sym b)) ∙ ap (written_offset labels) b

  pub offsets-told : {ps : List Placed} {ks : List OperandKind} {ws : List Written} → Stands labels text ps ks ws → offsets_laid ps ≡ all_offsets labels ws
  unfolding offsets_laid all_offsets
  offsets-told end = refl
  offsets-told (skip s) = offsets-told s
  offsets-told (next {ps = ps} {ws = ws} k f j u a b w s) = ap (λ (bs : List ℕ). bs ++ offsets_laid ps) (offset-next k f u b w) ∙ ap (λ (bs : List ℕ). written_offset labels u ++ bs) (offsets-told s)

  pub numbers-told : (to : ℕ) {ps : List Placed} {ks : List OperandKind} {ws : List Written} → Stands labels text ps ks ws → numbers_laid to ps ≡ all_numbers labels to ks ws
  unfolding numbers_laid all_numbers
  numbers-told to end = refl
  numbers-told to (skip s) = numbers-told to s
  numbers-told to (next {ps = ps} {ks = ks} {ws = ws} k f j u a b w s) = rw (w, a) (ap (λ (bs : List ℕ). number_bytes j to (operand_worth labels u).value ++ bs) (numbers-told to s))

  second-form : (w : ℕ) (f : Form) (ys zs : List ℕ) → lows ys ≡ lows zs → lows (second_by w (Some f) ++ ys) ≡ lows (second_bytes w (written_form text f) ++ zs)
  second-form w (Register r) ys zs e = e
  second-form w (Value s) ys zs e = e
  second-form w (Memory mm Plain) ys zs e = lows-two _ _ _ _ ys zs refl (low-mod 0xCC mm) e
  second-form w (Offset mm s) ys zs e = lows-two _ _ _ _ ys zs refl (low-mod 0xCC mm) e
  second-form w (Memory mm Indexed) ys zs e = lows-two _ _ _ _ ys zs refl (low-mod 0xCC mm) e
  second-form w (Memory mm Stepped) ys zs e = lows-two _ _ _ _ ys zs refl (low-mod 0xCC mm) e

-- what follows the first pair of MOV M,M: the source's offset, then the destination's pair and offset
abbrev pub tail_laid : ℕ → List Placed → List ℕ
tail_laid w [] = []
tail_laid w (p ∷ ps) = offsets_laid ps ++ (second_laid w p ++ (offset_laid p ++ []))

record MoveTail (labels : List Label) (e : Entry) (ps : List Placed) (ws : List Written) : Type 0 where
  zs : List ℕ
  same : lows (tail_laid e.w ps) ≡ lows zs
  bytes : move_bytes labels e ws ≡ pair_bytes (pair_from e (listed_all labels e.kinds ws)) ++ zs

move-tail : (labels : List Label) (text : List ℕ) (e : Entry) {ps : List Placed} {ks : List OperandKind} {ws : List Written} → Stands labels text ps ks ws → ltb 1 (memories_in ks) ≡ true → MoveTail labels e ps ws
unfolding move_bytes memories_in
move-tail labels text e end m = absurd (false≢true m)
move-tail labels text e (skip s) m = absurd (false≢true m)
move-tail labels text e (next {ps = ps} {ws = ws} k f j u a b w s) m =
    let p : Placed = placed_in labels text (Some k) (Some f) in
    let here : lows (second_laid e.w p ++ (offset_laid p ++ [])) ≡ lows (second_bytes e.w u ++ written_offset labels u) =
    second-form labels text e.w f (offset_laid p ++ []) (written_offset labels u) (ap lows (append-nil (offset_laid p) ∙ offset-next labels text k f u b w)) ∙ ap (λ (x : Written). lows (second_bytes e.w x ++ written_offset labels u)) b
    in
    record {
      zs = all_offsets labels ws ++ (second_bytes e.w u ++ written_offset labels u);
      same = ap (λ (bs : List ℕ). lows (bs ++ (second_laid e.w p ++ (offset_laid p ++ [])))) (offsets-told labels text s) ∙ lows-behind (all_offsets labels ws) _ _ here;
      bytes = refl;
    }

-- RRR of places of which so many are not yet read, from the last on
pub record Read (d : ℕ) (all left : List Placed) (rrr : ℕ) (last : Option Placed) : Type 0 where
  pub tail : List Placed
  pub split : left ++ tail ≡ all
  pub told : rrr ≡ rrr_all d tail
  pub first : last ≡ first_form tail

pub read-none : (d : ℕ) (all : List Placed) → Read d all all d None
unfolding rrr_all
read-none d all = record { tail = []; split = append-nil all; told = refl; first = refl }

pub read-next : (d : ℕ) (all old left : List Placed) (p : Placed) (rrr : ℕ) (last : Option Placed) → old ≡ push left p → Read d all old rrr last → Read d all left (rrr_after p last rrr) (Some p)
unfolding rrr_all
read-next d all old left p rrr last e r =
    record {
      tail = p ∷ r.tail;
      split = sym (append_assoc left (p ∷ []) r.tail) ∙ ap (λ (l : List Placed). l ++ r.tail) (sym e) ∙ r.split;
      told = ap (λ (o : Option Placed). rrr_after p o rrr) r.first ∙ ap (rrr_after p (first_form r.tail)) r.told;
      first = refl;
    }

pub read-all : (d : ℕ) (all left : List Placed) (rrr : ℕ) (last : Option Placed) → Read d all left rrr last → length left ≡ 0 → rrr ≡ rrr_all d all
read-all d all [] rrr last r l = r.told ∙ ap (rrr_all d) r.split
read-all d all (p ∷ left) rrr last r l = absurd (omega arith)

-- what is laid for one place more, and for no more
abbrev pub no_place : Placed
no_place = record { kind = None; form = None; worth = worth 0 false }

drop-here : (ps : List Placed) (i : ℕ) → i < length ps → drop i ps ≡ get_or ps i no_place ∷ drop (i + 1) ps
drop-here ps i l = rw (add-one i) (drop-cons ps i no_place l)

pub offsets-next : (ps : List Placed) (i : ℕ) (bs : List ℕ) → i < length ps → offset_laid (get_or ps i no_place) ++ (offsets_laid (drop (i + 1) ps) ++ bs) ≡ offsets_laid (drop i ps) ++ bs
unfolding offsets_laid
offsets-next ps i bs l = sym (append_assoc (offset_laid (get_or ps i no_place)) (offsets_laid (drop (i + 1) ps)) bs) ∙ ap (λ (qs : List Placed). offsets_laid qs ++ bs) (sym (drop-here ps i l))

pub offsets-none : (ps : List Placed) (i : ℕ) (bs : List ℕ) → drop i ps ≡ [] → bs ≡ offsets_laid (drop i ps) ++ bs
unfolding offsets_laid
offsets-none ps i bs e = ap (λ (qs : List Placed). offsets_laid qs ++ bs) (sym e)

pub numbers-next : (to : ℕ) (ps : List Placed) (i : ℕ) (bs : List ℕ) → i < length ps → number_laid to (get_or ps i no_place) ++ (numbers_laid to (drop (i + 1) ps) ++ bs) ≡ numbers_laid to (drop i ps) ++ bs
unfolding numbers_laid
numbers-next to ps i bs l = sym (append_assoc (number_laid to (get_or ps i no_place)) (numbers_laid to (drop (i + 1) ps)) bs) ∙ ap (λ (qs : List Placed). numbers_laid to qs ++ bs) (sym (drop-here ps i l))

pub numbers-none : (to : ℕ) (ps : List Placed) (i : ℕ) (bs : List ℕ) → drop i ps ≡ [] → bs ≡ numbers_laid to (drop i ps) ++ bs
unfolding numbers_laid
numbers-none to ps i bs e = ap (λ (qs : List Placed). numbers_laid to qs ++ bs) (sym e)

-- an entry of which the number has the fields
fields_entry : Entry → Bool
fields_entry e =
    let c = entry_code e in
    (eqb (c / 0x10000 % 16) e.rrr && eqb (c / 0x1000 % 16) e.dd) && (eqb (c / 0x100 % 16) e.w && eqb (c % 256) e.opcode)

entries-fields : each_entry fields_entry entries ≡ true
unfolding each_entry fields_entry entries entry_code kinds_code
entries-fields = refl

pub record Fields (c : ℕ) (e : Entry) : Type 0 where
  pub rrr : c / 0x10000 % 16 ≡ e.rrr
  pub dd : c / 0x1000 % 16 ≡ e.dd
  pub w : c / 0x100 % 16 ≡ e.w
  pub opcode : c % 256 ≡ e.opcode

fields-so : (e : Entry) → fields_entry e ≡ true → Fields (entry_code e) e
unfolding fields_entry
fields-so e h =
    let c = entry_code e in
    let a = both_left (eqb (c / 0x10000 % 16) e.rrr && eqb (c / 0x1000 % 16) e.dd) (eqb (c / 0x100 % 16) e.w && eqb (c % 256) e.opcode) h in
    let b = both_right (eqb (c / 0x10000 % 16) e.rrr && eqb (c / 0x1000 % 16) e.dd) (eqb (c / 0x100 % 16) e.w && eqb (c % 256) e.opcode) h in
    record {
      rrr = eqb-true (c / 0x10000 % 16) e.rrr (both_left (eqb (c / 0x10000 % 16) e.rrr) (eqb (c / 0x1000 % 16) e.dd) a);
      dd = eqb-true (c / 0x1000 % 16) e.dd (both_right (eqb (c / 0x10000 % 16) e.rrr) (eqb (c / 0x1000 % 16) e.dd) a);
      w = eqb-true (c / 0x100 % 16) e.w (both_left (eqb (c / 0x100 % 16) e.w) (eqb (c % 256) e.opcode) b);
      opcode = eqb-true (c % 256) e.opcode (both_right (eqb (c / 0x100 % 16) e.w) (eqb (c % 256) e.opcode) b);
    }

-- the instruction that the code read
module _ (labels : List Label) (text : List ℕ) (code : EntryCode) (o : Operands) (s : Statement) (i : SaysInstruction text code o s) where
  ps : List Placed
  ps = all_placed labels text (kinds_in code) o.forms

  places : Stands labels text ps i.entry.kinds i.written
  unfolding ps
  places =
      let right = among-right i.entry i.listed in
      rw (i.number, kinds-told i.entry right) (stands-from labels text i.entry.kinds o.forms i.written right.few i.row i.fits i.sums i.shallow)

  fields : Fields code.0 i.entry
  fields = rw i.number (fields-so i.entry (among-passes fields_entry i.entry entries-fields i.listed))

  -- its number
  pub number-unknown : list_all (λ (p : Placed). p.worth.known) (all_placed labels text (kinds_in code) o.forms) ≡ false → (address : ℕ) → 33 ≡ statement_number labels address s
  unfolding statement_number ps
  number-unknown h address = rw (i.same, sym (known-told labels text places) ∙ h)

  pub number-known : list_all (λ (p : Placed). p.worth.known) (all_placed labels text (kinds_in code) o.forms) ≡ true → (address to : ℕ) → to ≡ address + statement_size s
      → (b : Bool) → list_all (λ (p : Placed). stand_by p.kind to p.worth.value) (all_placed labels text (kinds_in code) o.forms) ≡ b → pick b 0 34 ≡ statement_number labels address s
  unfolding statement_number ps
  number-known h address to e b k =
      let t = e ∙ ap (λ (x : Statement). address + statement_size x) i.same in
      rw (i.same, sym (known-told labels text places) ∙ h, sym t, sym (stand-told labels text to places) ∙ k)

  -- its bytes
  pair-told : (ys zs : List ℕ) → lows ys ≡ lows zs → lows (first_byte code ps ∷ second_byte code ps ∷ ys) ≡ lows (pair_bytes (pair_from i.entry (listed_all labels i.entry.kinds i.written)) ++ zs)
  unfolding pair_bytes pair_from
  pair-told ys zs e =
      lows-two _ _ _ _ ys zs
      (rw (rrr-told labels text (code.0 / 0x10000 % 16) places, aa-told labels text 0 places, fields.rrr, fields.dd, fields.w) (first-mod _ _ _ _))
      (rw (mm-told labels text 0 places, fields.opcode) (low-mod _ _))
      e

  is-move : (b : Bool) → ltb 1 (count_by (λ (p : Placed). memory_placed p.kind) ps) ≡ b → ltb 1 (memories_in i.entry.kinds) ≡ b
  is-move b h = ap (ltb 1) (sym (memories-told labels text places)) ∙ h

  pub plain-told : (address to : ℕ) → to ≡ address + statement_size s → ltb 1 (count_by (λ (p : Placed). memory_placed p.kind) (all_placed labels text (kinds_in code) o.forms)) ≡ false
      → lows (first_byte code (all_placed labels text (kinds_in code) o.forms) ∷ second_byte code (all_placed labels text (kinds_in code) o.forms) ∷ (offsets_laid (all_placed labels text (kinds_in code) o.forms) ++ (numbers_laid to (all_placed labels text (kinds_in code) o.forms) ++ []))) ≡ lows (statement_bytes labels address s)
  unfolding statement_bytes instruction_bytes ps
  plain-told address to e m =
      let t = e ∙ ap (λ (x : Statement). address + statement_size x) i.same in
      let ends : offsets_laid ps ++ (numbers_laid to ps ++ []) ≡ all_offsets labels i.written ++ all_numbers labels to i.entry.kinds i.written =
      ap (λ (bs : List ℕ). offsets_laid ps ++ bs) (append-nil (numbers_laid to ps) ∙ numbers-told labels text to places) ∙ ap (λ (bs : List ℕ). bs ++ all_numbers labels to i.entry.kinds i.written) (offsets-told labels text places)
      in
      pair-told _ (all_offsets labels i.written ++ all_numbers labels to i.entry.kinds i.written) (ap lows ends) ∙ rw (i.same, is-move false m, sym t)

  pub move-told : (address : ℕ) → ltb 1 (count_by (λ (p : Placed). memory_placed p.kind) (all_placed labels text (kinds_in code) o.forms)) ≡ true
      → lows (first_byte code (all_placed labels text (kinds_in code) o.forms) ∷ second_byte code (all_placed labels text (kinds_in code) o.forms) ∷ tail_laid (code.0 / 0x100 % 16) (all_placed labels text (kinds_in code) o.forms)) ≡ lows (statement_bytes labels address s)
  unfolding statement_bytes instruction_bytes ps
  move-told address m =
      let t = move-tail labels text i.entry places (is-move true m) in
      pair-told (tail_laid (code.0 / 0x100 % 16) ps) t.zs (ap (λ (w : ℕ). lows (tail_laid w ps)) fields.w ∙ t.same) ∙ sym (ap (λ (x : Statement). lows (statement_bytes labels address x)) i.same ∙ rw (is-move true m) (ap lows t.bytes))

-- lines without bytes
pub blank-number : (labels : List Label) (address : ℕ) → 0 ≡ statement_number labels address blank
unfolding statement_number
blank-number labels address = refl

pub blank-bytes : (labels : List Label) (address : ℕ) → statement_bytes labels address blank ≡ []
unfolding statement_bytes
blank-bytes labels address = refl

pub refused-number : (labels : List Label) (address n : ℕ) → n ≡ statement_number labels address (refused n)
unfolding statement_number
refused-number labels address n = refl

pub refused-bytes : (labels : List Label) (address n : ℕ) → statement_bytes labels address (refused n) ≡ []
unfolding statement_bytes
refused-bytes labels address n = refl

pub items-bytes : (labels : List Label) (address : ℕ) (words : Bool) (parts : List (List Token)) → statement_bytes labels address (items words parts) ≡ items_bytes labels words parts
unfolding statement_bytes
items-bytes labels address words parts = refl
