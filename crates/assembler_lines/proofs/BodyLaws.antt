-- What a word says with what stands behind it, by its number.
-- Assumes nothing.
use mathlib.Core.Path.{◌≡◌, refl, sym, ap, subst, ◌∙◌}
use mathlib.Core.Bool.{Bool, true, false, not, ◌&&◌, ◌||◌}
use mathlib.Core.List.{List, [], ◌∷◌}
use Prim.Native.Nat.{ℕ, ◌≤◌}
use native.Mathlib.Omega.{arith}
use lib.Dec.{eqb, ltb}
use lib.ListN.{length, drop}
use borrow.Author.Tests.{eqb-true, eqb-false, eq-eqb, ne_eqb}
use Rattle.ground_rules.specs.Choice.{pick}
use Rattle.listing_rules.specs.Characters.{ascii, same_text}
use Rattle.listing_rules.specs.Entries.{Entry, entries}
use Rattle.assembly_rules.specs.Text.{Token, tokens_of}
use Rattle.assembly_rules.specs.Text.Token.{run}
use Rattle.assembly_rules.specs.Sums.{register_number}
use Rattle.assembly_rules.specs.Assembly.{is_reserved}
use Rattle.assembly_rules.specs.Operands.{Written, takes_all, has_word, Chosen, entry_in, all_shallow, operands_from}
use Rattle.assembly_rules.specs.Operands.Chosen.{taken, untaken}
use Rattle.assembly_rules.proofs.WritingLaws.{both_left, both_right}
use Rattle.assembly_rules.specs.Statements.{operand_parts, items_from, formed_by, word_statement, statement_of}
use Rattle.assembly_rules.specs.Statements.Statement.{refused}
use Rattle.std.specs.Prelude.{Option, Some, None, Ok, Err, is_some}
use Rattle.std.specs.List.{find, list_all}
use Rattle.assembler_text.specs.declared.tokens.TokenFound.TheVariants.{Mark}
use Rattle.assembler_text.specs.Places.{token_at, register_named}
use Rattle.assembler_text.proofs.PlaceLaws.{no-tokens-there, mark-tokens}
use Rattle.assembler_forms.specs.declared.operands.Operands.{Operands}
use Rattle.assembler_forms.specs.declared.operands.Form.{Form}
use Rattle.assembler_forms.specs.declared.table.EntryCode.{EntryCode}
use Rattle.assembler_forms.specs.Forms.{low_by}
use Rattle.assembler_forms.specs.Rows.{FormsAre, OperandRow}
use Rattle.assembler_forms.specs.Rows.FormsAre.{none, one, two, three}
use Rattle.assembler_forms.specs.Table.{packed_word, in_bytes, NumberIs, coded, codes_by, code_takes}
use Rattle.assembler_forms.proofs.FormLaws.{no-some, some-same}
use Rattle.assembler_forms.proofs.EntryLaws.{each_entry, right_entry, entries-right, Right, right_so, takes-length, word_same, chosen_code, RowTaken, row-taken, fitting-told, word-told}
use Rattle.assembler_lines.specs.declared.bodies.Body.TheVariants.{Blank, Instruction}
use Rattle.assembler_lines.specs.declared.bodies.LineRefusal.TheVariants.{UnknownWord, UnknownForm, TooDeep}
use Rattle.assembler_lines.specs.Bodies.{Among, BodyIs}
use Rattle.assembler_lines.specs.Bodies.Among.{here, later}
use Rattle.assembler_lines.proofs.WrittenLaws.{operands-sums}

-- no word
pub body-none : (text : List ℕ) (at : ℕ) → token_at text at ≡ None → BodyIs text (Ok Blank) (statement_of (tokens_of (drop at text)))
unfolding statement_of
body-none text at e = ap statement_of (no-tokens-there text at e)

pub body-mark : (text : List ℕ) (at c next : ℕ) → token_at text at ≡ Some (Mark c next) → BodyIs text (Err UnknownWord) (statement_of (tokens_of (drop at text)))
unfolding statement_of
body-mark text at c next e = (ap statement_of (mark-tokens text at c next e), omega arith)

same-swap : (a b : List ℕ) → same_text a b ≡ same_text b a
unfolding same_text
same-swap [] [] = refl
same-swap [] (d ∷ b) = refl
same-swap (c ∷ a) [] = refl
same-swap (c ∷ a) (d ∷ b) = rw (same-swap a b) (ap (λ (x : Bool). x && same_text b a) (go (eqb c d) refl))
  where
    go : (x : Bool) → eqb c d ≡ x → x ≡ eqb d c
    go true e = sym (eq-eqb d c (sym (eqb-true c d e)))
    go false e = sym (ne_eqb d c (λ z. eqb-false c d e (sym z)))

-- each entry passes a test that all pass
pub among-passes : (test : Entry → Bool) (e : Entry) {es : List Entry} → each_entry test es ≡ true → Among e es → test e ≡ true
unfolding each_entry
among-passes test e h (here {es = es}) = both_left (test e) (each_entry test es) h
among-passes test e h (later {f = f} {es = es} a) = among-passes test e (both_right (test f) (each_entry test es) h) a

pub among-right : (e : Entry) → Among e entries → Right e
among-right e a = right_so e (among-passes right_entry e entries-right a)

-- an entry that was found
record Found (e : Entry) (ws : List Written) (es : List Entry) : Type 0 where
  listed : Among e es
  fits : takes_all e.kinds ws ≡ true

entry_found : (es : List Entry) (word : List ℕ) (ws : List Written) (e : Entry) → entry_in es word ws ≡ taken e → Found e ws es
unfolding entry_in
entry_found [] word ws e k = no-entry k
  where
    no-entry : {A : Type 0} → untaken ≡ taken e → A
    no-entry z = let q : ◌≡◌ {A = ℕ} 0 1 = cc in absurd (eqb-false 0 1 refl q)
entry_found (f ∷ es) word ws e k = go (same_text f.word word) (takes_all f.kinds ws) refl k (entry_found es word ws e)
  where
    go : (a b : Bool) → takes_all f.kinds ws ≡ b → pick (a && b) (taken f) (entry_in es word ws) ≡ taken e → (entry_in es word ws ≡ taken e → Found e ws es) → Found e ws (f ∷ es)
    go true true p q more = let z : f ≡ e = cc in subst (λ (x : Entry). Found x ws (f ∷ es)) z (record { listed = here; fits = p })
    go true false p q more = let m = more q in record { listed = later m.listed; fits = m.fits }
    go false b p q more = let m = more q in record { listed = later m.listed; fits = m.fits }

-- and has no more than three places
pub few-operands : (e : Entry) (ws : List Written) → Among e entries → takes_all e.kinds ws ≡ true → length ws ≤ 3
few-operands e ws a h = omega (arith, (among-right e a).few, takes-length e.kinds ws h)

-- the operands are shallow as the code has it
row-low : (text : List ℕ) (fs : List (Option Form)) (ws : List Written) → FormsAre text fs ws → list_all low_by fs ≡ all_shallow ws
unfolding all_shallow
row-low text fs ws none = refl
row-low text fs ws (one h) = rw h.low
row-low text fs ws (two h i) = rw (h.low, i.low)
row-low text fs ws (three h i j) = rw (h.low, i.low, j.low)

-- a register by its name
register-is : (name : List ℕ) → is_some (register_named name) ≡ ltb (register_number name) 9
register-is name = go (ltb (register_number name) 9)
  where
    go : (b : Bool) → is_some (pick b (Some (register_number name)) None) ≡ b
    go true = refl
    go false = refl

-- a word by its number
module _ (name : List ℕ) (n : ℕ) (k : NumberIs n name) where
  pub bytes-told : eqb n 0x14244 ≡ same_text name (ascii "DB")
  unfolding packed_word in_bytes
  bytes-told = word_same (ascii "DB") name refl (omega arith) k ∙ same-swap (ascii "DB") name

  pub words-told : eqb n 0x15744 ≡ same_text name (ascii "DW")
  unfolding packed_word in_bytes
  words-told = word_same (ascii "DW") name refl (omega arith) k ∙ same-swap (ascii "DW") name

  pub reserved-told : (codes : List EntryCode) → codes ≡ codes_by entries n → not (eqb (length codes) 0) || (eqb n 0x14244 || (eqb n 0x15744 || is_some (register_named name))) ≡ is_reserved name
  unfolding is_reserved
  reserved-told codes c = rw (word-told name n k codes c, bytes-told, words-told, register-is name)

  module _ (ts : List Token) where
    pub says-bytes : n ≡ 0x14244 → statement_of (run name ∷ ts) ≡ items_from false (operand_parts ts)
    unfolding statement_of
    says-bytes h = rw (← bytes-told, eq-eqb n 0x14244 h)

    pub says-words : (n ≡ 0x14244 → ⊥) → n ≡ 0x15744 → statement_of (run name ∷ ts) ≡ items_from true (operand_parts ts)
    unfolding statement_of
    says-words g h = rw (← bytes-told, ne_eqb n 0x14244 g, ← words-told, eq-eqb n 0x15744 h)

    module _ (text : List ℕ) (g : n ≡ 0x14244 → ⊥) (h : n ≡ 0x15744 → ⊥) (codes : List EntryCode) (c : codes ≡ codes_by entries n) where
      ws : List Written
      ws = operands_from (operand_parts ts)

      says-word : statement_of (run name ∷ ts) ≡ pick (has_word entries name) (formed_by (entry_in entries name ws) ws) (refused 30)
      unfolding statement_of word_statement ws
      says-word = rw (← bytes-told, ne_eqb n 0x14244 g, ← words-told, ne_eqb n 0x15744 h)

      pub says_nothing : eqb (length codes) 0 ≡ true → BodyIs text (Err UnknownWord) (statement_of (run name ∷ ts))
      says_nothing z = (says-word ∙ rw (word-told name n k codes c, z), omega arith)

      module _ (some : eqb (length codes) 0 ≡ false) where
        formed : statement_of (run name ∷ ts) ≡ formed_by (entry_in entries name ws) ws
        formed = says-word ∙ rw (word-told name n k codes c, some)

        module _ (o : Operands) (row : OperandRow text o (operands_from (operand_parts ts))) where
          told : find (λ (x : EntryCode). code_takes x o) codes ≡ chosen_code (entry_in entries name ws)
          unfolding ws
          told = ap (find (λ (x : EntryCode). code_takes x o)) c ∙ fitting-told name n k text o ws row

          pub says-no-form : find (λ (x : EntryCode). code_takes x o) codes ≡ None → BodyIs text (Err UnknownForm) (statement_of (run name ∷ ts))
          says-no-form z = (formed ∙ go (entry_in entries name ws) (sym told ∙ z), omega arith)
            where
              go : (x : Chosen) → chosen_code x ≡ None → formed_by x ws ≡ refused 31
              go (taken e) q = no-some (sym q)
              go untaken q = refl

          module _ (code : EntryCode) (is : find (λ (x : EntryCode). code_takes x o) codes ≡ Some code) where
            record Taken : Type 0 where
              entry : Entry
              so : entry_in entries name ws ≡ taken entry
              number : code ≡ coded entry
              found : Found entry ws entries

            it : Taken
            it = go (entry_in entries name ws) refl (sym is ∙ told)
              where
                go : (x : Chosen) → entry_in entries name ws ≡ x → Some code ≡ chosen_code x → Taken
                go (taken e) f q = record { entry = e; so = f; number = some-same q; found = entry_found entries name ws e f }
                go untaken f q = no-some (sym q)

            row-is : RowTaken text o.count o.forms ws
            unfolding ws
            row-is = row-taken text o.count o.forms ws it.entry.kinds (among-right it.entry it.found.listed).few it.found.fits row

            shallow : list_all low_by o.forms ≡ all_shallow ws
            shallow = row-low text o.forms ws row-is.forms

            pub says-deep : list_all low_by o.forms ≡ false → BodyIs text (Err TooDeep) (statement_of (run name ∷ ts))
            says-deep l = (formed ∙ ap (λ (x : Chosen). formed_by x ws) it.so ∙ rw (sym shallow ∙ l), omega arith)

            pub says-form : list_all low_by o.forms ≡ true → BodyIs text (Ok (Instruction code o)) (statement_of (run name ∷ ts))
            unfolding ws
            says-form l =
                record {
                  entry = it.entry;
                  written = ws;
                  same = formed ∙ ap (λ (x : Chosen). formed_by x ws) it.so ∙ rw (sym shallow ∙ l);
                  number = it.number;
                  listed = it.found.listed;
                  count = row-is.count;
                  row = row-is.forms;
                  fits = it.found.fits;
                  sums = operands-sums (operand_parts ts);
                  shallow = sym shallow ∙ l;
                }
