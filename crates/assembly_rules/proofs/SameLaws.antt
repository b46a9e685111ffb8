-- What changes no byte: a sum of the same worth in another's place, blanks and comments behind a line, a line without tokens.
-- Assumes nothing.
use mathlib.Core.Path.{◌≡◌, refl, sym, ap, ◌∙◌}
use mathlib.Core.Bool.{Bool, true, false}
use mathlib.Core.List.{List, [], ◌∷◌, ◌++◌, append-nil}
use mathlib.Core.Logic.{◌⊎◌, inl, inr}
use Prim.Native.Nat.{ℕ, suc, ◌+◌, ◌%◌, ◌≤◌}
use native.Mathlib.Omega.{arith}
use native.Mathlib.Nat.{add-zero}
use lib.Dec.{eqb}
use lib.ListN.{length}
use Rattle.ground_rules.specs.Choice.{pick}
use Rattle.listing_rules.specs.Entries.{OperandKind, Entry}
use Rattle.assembly_rules.specs.Text.{Token, begun, all_of, in_front_of, begun_by, tokens_of, lines_in}
use Rattle.assembly_rules.specs.Text.Token.{run}
use Rattle.assembly_rules.specs.Numbers.{constant_of}
use Rattle.std.specs.declared.option.Option.TheVariants.{Some}
use Rattle.assembly_rules.specs.Sums.{begins_digit, Label, sum_worth}
use Rattle.assembly_rules.specs.Trees.{Sum, sum_tokens, sum_depth, sum_added, sum_taken, sum_known}
use Rattle.assembly_rules.specs.Trees.Sum.{only}
use Rattle.assembly_rules.specs.Trees.Term.{constant}
use Rattle.assembly_rules.specs.Operands.{Written}
use Rattle.assembly_rules.specs.Operands.Written.{register, memory, value}
use Rattle.assembly_rules.specs.Statements.{headed_by, Statement, statement_of, statement_size, offsets_size, operand_worth, names_known, all_stand, items_known, items_stand, statement_number, listed_as, listed_all, written_offset, all_offsets, all_numbers, second_bytes, move_bytes, instruction_bytes, items_bytes, statement_bytes}
use Rattle.assembly_rules.specs.Statements.Statement.{items, instruction}
use Rattle.assembly_rules.specs.Assembly.{Said, said_by, said_in, kept_with, labels_from, label_stands, line_number, Assembled, assembled, assembled_from, assemble_of}
use Rattle.assembly_rules.proofs.NumberLaws.{constant-small}
use Rattle.assembly_rules.proofs.TextLaws.{blank-plain}
use Rattle.assembly_rules.proofs.WritingLaws.{Writes}
use Rattle.assembly_rules.proofs.WritingLaws.Writes.{nothing, comment, blank as blank_first}
use Rattle.assembly_rules.proofs.LabelLaws.{quiet}
use Rattle.assembly_rules.proofs.FormLaws.{FormOf, Deep, form-is}
use Rattle.assembly_rules.proofs.ValueLaws.{tree_value, tree-worth}
use Rattle.assembly_rules.proofs.WholeLaws.{SameTokens, same-said}

-- trees of the same value, with all names known, are worth the same
pub trees-same : (labels : List Label) (s t : Sum) → sum_depth s ≤ 8 → sum_depth t ≤ 8 → sum_known labels s ≡ true → sum_known labels t ≡ true → tree_value labels s ≡ tree_value labels t → sum_worth labels (sum_tokens s) ≡ sum_worth labels (sum_tokens t)
trees-same labels s t k l g h e = tree-worth labels s k ∙ rw (g, e) (rw (← h) (sym (tree-worth labels t l)))

-- so a constant that is a sum's value may stand for it, or the sum for the constant
pub constant-same : (labels : List Label) (s : Sum) (r : List ℕ) (v : ℕ) → begins_digit r ≡ true → constant_of r ≡ Some v → sum_depth s ≤ 8 → sum_known labels s ≡ true → tree_value labels s ≡ v → sum_worth labels (sum_tokens s) ≡ sum_worth labels (run r ∷ [])
unfolding sum_tokens sum_depth sum_added sum_taken sum_known
constant-same labels s r v d e l k h =
    let small = constant-small r v e in
    trees-same labels s (only false (constant r v d e)) l (omega arith) k refl (h ∙ omega (arith, small))

-- sums of the same worth under some labels, in the same places
module _ (labels : List Label) where
  pub data SameWritten : Written → Written → Type 0 where
    same_register : (r : ℕ) → SameWritten (register r) (register r)
    same_memory : (mm aa : ℕ) {ts us : List Token} → sum_worth labels ts ≡ sum_worth labels us → SameWritten (memory mm aa ts) (memory mm aa us)
    same_value : {ts us : List Token} → sum_worth labels ts ≡ sum_worth labels us → SameWritten (value ts) (value us)

  pub data SameOperands : List Written → List Written → Type 0 where
    none_same : SameOperands [] []
    more_same : {w u : Written} {ws us : List Written} → SameWritten w u → SameOperands ws us → SameOperands (w ∷ ws) (u ∷ us)

  pub data SameParts : List (List Token) → List (List Token) → Type 0 where
    no_part : SameParts [] []
    more_part : {p q : List Token} {ps qs : List (List Token)} → sum_worth labels p ≡ sum_worth labels q → SameParts ps qs → SameParts (p ∷ ps) (q ∷ qs)

  pub data SameStatement : Statement → Statement → Type 0 where
    same_itself : (st : Statement) → SameStatement st st
    same_items : (two : Bool) {ps qs : List (List Token)} → SameParts ps qs → SameStatement (items two ps) (items two qs)
    same_code : (e : Entry) {ws us : List Written} → SameOperands ws us → SameStatement (instruction e ws) (instruction e us)

  pub data SameSaid : List Said → List Said → Type 0 where
    none_said : SameSaid [] []
    more_said : {s t : Said} {ss ts : List Said} → s.name ≡ t.name → SameStatement s.statement t.statement → SameSaid ss ts → SameSaid (s ∷ ss) (t ∷ ts)

  operand_same : {w u : Written} → SameWritten w u → (operand_worth labels w ≡ operand_worth labels u) × ((written_offset labels w ≡ written_offset labels u) × (((k : OperandKind) → listed_as labels k w ≡ listed_as labels k u) × ((n : ℕ) → second_bytes n w ≡ second_bytes n u)))
  unfolding operand_worth listed_as
  operand_same (same_register r) = (refl, (refl, (λ k. refl, λ n. refl)))
  operand_same (same_memory mm aa e) = (rw e, (rw e, (λ k. rw e, λ n. refl)))
  operand_same (same_value e) = (e, (refl, (λ k. rw e, λ n. refl)))

  -- what operands come to, and how long their offsets are
  known_same : {ws us : List Written} → SameOperands ws us → names_known labels ws ≡ names_known labels us
  unfolding names_known
  known_same none_same = refl
  known_same (more_same s more) = rw ((operand_same s).0, known_same more)

  offsets-same : {ws us : List Written} → SameOperands ws us → (offsets_size ws ≡ offsets_size us) × (all_offsets labels ws ≡ all_offsets labels us)
  unfolding offsets_size all_offsets
  offsets-same none_same = (refl, refl)
  offsets-same (more_same (same_register r) more) = offsets-same more
  offsets-same (more_same (same_memory mm aa e) more) = let m = offsets-same more in (rw m.0, rw (e, m.1))
  offsets-same (more_same (same_value e) more) = offsets-same more

  places_same : {ws us : List Written} → SameOperands ws us → (end : ℕ) (ks : List OperandKind)
      → (all_stand labels end ks ws ≡ all_stand labels end ks us) × ((all_numbers labels end ks ws ≡ all_numbers labels end ks us) × (listed_all labels ks ws ≡ listed_all labels ks us))
  unfolding all_stand all_numbers listed_all
  places_same none_same end [] = (refl, (refl, refl))
  places_same none_same end (k ∷ ks) = (refl, (refl, refl))
  places_same (more_same s more) end [] = (refl, (refl, refl))
  places_same (more_same s more) end (k ∷ ks) =
      let o = operand_same s in
      let m = places_same more end ks in
      (rw (o.0, m.0), (rw (o.0, m.1.0), rw (o.1.1.0 k, m.1.1)))

  move_same : (e : Entry) {ws us : List Written} → SameOperands ws us → move_bytes labels e ws ≡ move_bytes labels e us
  unfolding move_bytes
  move_same e none_same = refl
  move_same e (more_same s more) =
      let o = operand_same s in rw ((places_same (more_same s more) 0 e.kinds).1.1, (offsets-same more).1, o.1.0, o.1.1.1 e.w)

  parts_same : {ps qs : List (List Token)} → SameParts ps qs
      → (length ps ≡ length qs) × ((items_known labels ps ≡ items_known labels qs) × ((items_stand labels ps ≡ items_stand labels qs) × ((two : Bool) → items_bytes labels two ps ≡ items_bytes labels two qs)))
  unfolding items_known items_stand items_bytes
  parts_same no_part = (refl, (refl, (refl, λ two. refl)))
  parts_same (more_part e more) = let m = parts_same more in (rw m.0, (rw (e, m.1.0), (rw (e, m.1.1.0), λ two. rw (e, m.1.1.1 two))))

  -- lines of one shape whose sums have the same worth have the same size, number and bytes
  pub statement-same : {s t : Statement} → SameStatement s t
      → (statement_size s ≡ statement_size t) × ((address : ℕ) → (statement_number labels address s ≡ statement_number labels address t) × (statement_bytes labels address s ≡ statement_bytes labels address t))
  unfolding statement_size statement_number statement_bytes instruction_bytes
  statement-same (same_itself st) = (refl, λ address. (refl, refl))
  statement-same (same_items two p) = let m = parts_same p in (rw m.0, λ address. (rw (m.1.0, m.1.1.0), m.1.1.1 two))
  statement-same (same_code e {us = us} o) =
      let z = offsets-same o in (
        rw z.0,
        λ address.
            let p = places_same o (address + statement_size (instruction e us)) e.kinds in
            (rw (z.0, known_same o, p.0), rw (z.0, move_same e o, p.1.1, z.1, p.1.0)),
      )

  -- tokens of such forms say such statements
  pub form-same : {a b : List Token} {s t : Statement} → FormOf a s → FormOf b t → (Deep s → ⊥) → (Deep t → ⊥) → SameStatement s t → SameStatement (statement_of a) (statement_of b)
  form-same f g m n h = rw (form-is f m, form-is g n) h

  said-labels : {ss ts : List Said} → SameSaid ss ts → (kept : List Label) (first : ℕ) → labels_from kept first ss ≡ labels_from kept first ts
  unfolding labels_from
  said-labels none_said kept first = refl
  said-labels (more_said {s = s} {t = t} {ts = ts} n e more) kept first =
      said-labels more (kept_with kept (first % 65536) s.name) (first + statement_size s.statement)
      ∙ ap (λ (x : List ℕ). labels_from (kept_with kept (first % 65536) x) (first + statement_size s.statement) ts) n
      ∙ ap (λ (x : ℕ). labels_from (kept_with kept (first % 65536) t.name) (first + x) ts) (statement-same e).0

  number_same : {s t : Said} → s.name ≡ t.name → SameStatement s.statement t.statement → (kept : List Label) (address before room : ℕ) → line_number labels kept address before room s ≡ line_number labels kept address before room t
  unfolding line_number
  number_same n e kept address before room = rw (((statement-same e).1 address).0, (statement-same e).0, n)

  said-assembled : {ss ts : List Said} → SameSaid ss ts → (kept : List Label) (first room line : ℕ) (done : List ℕ) → assembled_from labels kept first room line done ss ≡ assembled_from labels kept first room line done ts
  unfolding assembled_from
  said-assembled none_said kept first room line done = refl
  said-assembled (more_said {s = s} {t = t} n e more) kept first room line done =
      let address = (first + length done) % 65536 in
      let later = said-assembled more (kept_with kept address s.name) first room (suc line) (done ++ statement_bytes labels address s.statement) in
      rw (later, number_same n e kept address (length done) room, ((statement-same e).1 address).1, n)

-- texts whose lines are so have the same labels, number, line and bytes
pub text_same : (a b : List ℕ) (first room : ℕ) → SameSaid (labels_from [] first (said_in (lines_in a))) (said_in (lines_in a)) (said_in (lines_in b)) → assemble_of a first room ≡ assemble_of b first room
unfolding assemble_of
text_same a b first room h =
    let labels = labels_from [] first (said_in (lines_in a)) in
    said-assembled labels h [] first room 1 [] ∙ ap (λ (x : List Label). assembled_from x [] first room 1 [] (said_in (lines_in b))) (said-labels labels h [] first)

-- and so have texts whose lines have the same tokens
pub tokens-same : (a b : List ℕ) (first room : ℕ) → SameTokens (lines_in a) (lines_in b) → assemble_of a first room ≡ assemble_of b first room
unfolding assemble_of
tokens-same a b first room h = ap (λ (x : List Said). assembled_from (labels_from [] first x) [] first room 1 [] x) (same-said h)

-- blanks and a comment behind a line change no token of it
pub behind-same : (cs ds : List ℕ) → Writes [] ds → tokens_of (cs ++ ds) ≡ tokens_of cs
unfolding tokens_of begun_by in_front_of
behind-same cs ds w = ap all_of (longer cs)
  where
    none : {ds : List ℕ} → Writes [] ds → begun_by ds ≡ begun [] []
    none nothing = refl
    none (comment c cs h k) = rw (h, k)
    none (blank_first c h w) = let p = blank-plain c h in rw (p.0, p.1, h, none w)

    longer : (cs : List ℕ) → begun_by (cs ++ ds) ≡ begun_by cs
    longer [] = none w
    longer (c ∷ cs) = ap (in_front_of c) (longer cs)

-- a line without tokens says nothing, and has no number
said-quiet : (line : List ℕ) (after : List (List ℕ)) → tokens_of line ≡ [] → said_in (line ∷ after) ≡ quiet ∷ said_in after
unfolding said_in said_by headed_by statement_of
said-quiet line after e = rw e

-- the same outcome, with the line that failed one further down
abbrev pub line_later : Assembled → Assembled
line_later a = assembled a.number (pick (eqb a.number 0) 0 (suc a.line)) a.bytes

line-later : (said : List Said) (labels kept : List Label) (first room line : ℕ) (done : List ℕ) → assembled_from labels kept first room (suc line) done said ≡ line_later (assembled_from labels kept first room line done said)
unfolding assembled_from
line-later [] labels kept first room line done = refl
line-later (s ∷ more) labels kept first room line done =
    let address = (first + length done) % 65536 in
    let n = line_number labels kept address (length done) room s in
    let rest : ℕ → Assembled = λ line. assembled_from labels (kept_with kept address s.name) first room line (done ++ statement_bytes labels address s.statement) more in
    let later = line-later more labels (kept_with kept address s.name) first room (suc line) (done ++ statement_bytes labels address s.statement) in
    (elim (eqb n 0) as (λ b. eqb n 0 ≡ b → pick b (rest (suc (suc line))) (assembled n (suc line) []) ≡ line_later (pick b (rest (suc line)) (assembled n line []))) [ true ↦ λ e. later | false ↦ λ e. rw e ]) refl

quiet-past : (labels kept : List Label) (first room line : ℕ) (done : List ℕ) (more : List Said) → assembled_from labels kept first room line done (quiet ∷ more) ≡ assembled_from labels kept first room (suc line) done more
unfolding assembled_from line_number statement_number statement_size statement_bytes label_stands kept_with
quiet-past labels kept first room line done more = rw (append-nil done)

quiet-labels : (ahead after : List Said) (kept : List Label) (first : ℕ) → labels_from kept first (ahead ++ (quiet ∷ after)) ≡ labels_from kept first (ahead ++ after)
unfolding labels_from statement_size kept_with
quiet-labels [] after kept first = ap (λ (x : ℕ). labels_from kept x after) (add-zero first)
quiet-labels (s ∷ ahead) after kept first = quiet-labels ahead after (kept_with kept (first % 65536) s.name) (first + statement_size s.statement)

quiet_line : (ahead after : List Said) (labels kept : List Label) (first room line : ℕ) (done : List ℕ)
    → let a = assembled_from labels kept first room line done (ahead ++ after) in
    let b = assembled_from labels kept first room line done (ahead ++ (quiet ∷ after)) in
    (b ≡ a) ⊎ (b ≡ line_later a)
unfolding assembled_from
quiet_line [] after labels kept first room line done = inr (quiet-past labels kept first room line done after ∙ line-later after labels kept first room line done)
quiet_line (s ∷ ahead) after labels kept first room line done =
    let address = (first + length done) % 65536 in
    let n = line_number labels kept address (length done) room s in
    let rest : List Said → Assembled = assembled_from labels (kept_with kept address s.name) first room (suc line) (done ++ statement_bytes labels address s.statement) in
    let later = quiet_line ahead after labels (kept_with kept address s.name) first room (suc line) (done ++ statement_bytes labels address s.statement) in
    let one : Bool → List Said → Assembled = λ b said. pick b (rest said) (assembled n line []) in
    elim (eqb n 0) as (λ b. (one b (ahead ++ (quiet ∷ after)) ≡ one b (ahead ++ after)) ⊎ (one b (ahead ++ (quiet ∷ after)) ≡ line_later (one b (ahead ++ after)))) [ true ↦ later | false ↦ inl refl ]

said-both : (k l : List (List ℕ)) → said_in (k ++ l) ≡ said_in k ++ said_in l
unfolding said_in
said-both [] l = refl
said-both (line ∷ k) l = ap (λ (x : List Said). said_by line ∷ x) (said-both k l)

-- one more line without tokens, anywhere, leaves the number and the bytes; a failed line behind it counts one more
pub blank-line : (a b : List ℕ) (ahead after : List (List ℕ)) (line : List ℕ) (first room : ℕ) → lines_in a ≡ ahead ++ after → lines_in b ≡ ahead ++ (line ∷ after) → tokens_of line ≡ []
    → (assemble_of b first room ≡ assemble_of a first room) ⊎ (assemble_of b first room ≡ line_later (assemble_of a first room))
unfolding assemble_of
blank-line a b ahead after line first room p q e =
    let k = said_in ahead in
    let l = said_in after in
    let sa : said_in (lines_in a) ≡ k ++ l = ap said_in p ∙ said-both ahead after in
    let sb : said_in (lines_in b) ≡ k ++ (quiet ∷ l) = ap said_in q ∙ said-both ahead (line ∷ after) ∙ ap (λ (x : List Said). k ++ x) (said-quiet line after e) in
    rw (sa, sb, quiet-labels k l [] first) (quiet_line k l (labels_from [] first (k ++ l)) [] first room 1 [])
