-- What comes between the halves of a pair of transfer steps.
-- Assumes nothing.
use Rattle.std.proofs.Common.{Option, ℕ, Some}
use Prim.Native.Nat.{ℕ, ◌+◌, ◌%◌}
use lib.Dec.{eqb}
use mathlib.Core.Bool.{Bool, true, false, not, ◌&&◌, ◌||◌}
use mathlib.Core.Logic.{inl, inr}
use mathlib.Core.Path.{◌≡◌, refl, sym, subst, ap, ap₂, ◌∙◌}
use Rattle.ground_rules.proofs.ChannelLaws.{named}
use Rattle.ground_rules.specs.Buffers.{Buffers}
use Rattle.ground_rules.specs.Choice.{pick}
use Rattle.ground_rules.specs.Outcomes.{Outcome}
use Rattle.ground_rules.specs.States.{channel_of, channel_number}
use Rattle.ground_rules.specs.Updates.{holding}
use Rattle.ground_rules.specs.declared.Channel.{Channel}
use Rattle.ground_rules.specs.declared.Mode.{Mode}
use Rattle.ground_rules.specs.declared.Pointer.{Pointer}
use Rattle.ground_rules.specs.declared.State.{State}
use Rattle.attention_rules.proofs.Outcomes.{refused-nothing}
use Rattle.attention_rules.specs.Attention.{attention_of}
use Rattle.turn_rules.proofs.ChoosingLaws.{chosen-running}
use Rattle.turn_rules.specs.Step.{step_of}
use Rattle.promises.specs.Demand2.{OnlyControl}
use Rattle.promises.specs.SheetWords.{bit, pointer_on}
use Rattle.promises.proofs.CallLaws.{attention-kept, not-of}
use Rattle.promises.proofs.Demand2.{attention-does}
use Rattle.promises_sheet.specs.SheetAttention.{Attends, channel_after}
use Rattle.promises_sheet.specs.SheetBetween.{Pausing, begin, attends, refused, other, step, FoundAgain, HalvesApart, ApartLeft, BetweenSheet}
use Rattle.promises_sheet.specs.SheetHalves.{OnlyHeld, pair_code, PairOver, PairLeft, HalfLeft}
use Rattle.promises_sheet.specs.SheetOperands.{ran_channel}
use Rattle.promises_sheet.specs.SheetTransfer.{first_byte, meets_in, fetches_twice, stores_twice}
use Rattle.promises_sheet.specs.SheetTurns.{offset_in}
use Rattle.promises_sheet.proofs.SheetAttention.{attention-sheet}
use Rattle.promises_sheet.proofs.SheetHalves.{over-holds, half-sheet}

-- ---- what is found again

found-itself : (c : Channel) → FoundAgain c c
found-itself c = record { ga = refl; gb = refl; gc = refl; bc = refl; ix = refl; cc = refl; fields = refl; mc = refl; pp = refl; mark = refl; held = refl }

-- after one row of calls and then another
found-then : (a c d : Channel) → FoundAgain a c → FoundAgain c d → FoundAgain a d
found-then a c d k l = record {
  ga = l.ga ∙ k.ga;
  gb = l.gb ∙ k.gb;
  gc = l.gc ∙ k.gc;
  bc = l.bc ∙ k.bc;
  ix = l.ix ∙ k.ix;
  cc = l.cc ∙ k.cc;
  fields = l.fields ∙ k.fields;
  mc = l.mc ∙ k.mc;
  pp = l.pp ∙ k.pp;
  mark = l.mark ∙ k.mark;
  held = l.held ∙ k.held;
}

module _ (b : Bool) (s : State) (m : Buffers) where
  -- an attention to the channel changes no register but TP, PP, PSW, mode, mark and held byte
  own : OnlyControl (channel_of s b) (channel_after s m b)
  own =
      subst (λ (k : Bool). OnlyControl (channel_of s k) (channel_of (attention_of s m (channel_number b)).state k)) (named b)
      (attention-does s m (channel_number b)).own

  -- so one that keeps PP, mark and held byte keeps all that is found again
  found-own : (channel_after s m b).pp ≡ (channel_of s b).pp → (channel_after s m b).armed ≡ (channel_of s b).armed
      → (channel_after s m b).held ≡ (channel_of s b).held → FoundAgain (channel_of s b) (channel_after s m b)
  found-own pp mark held = record {
    ga = own.ga;
    gb = own.gb;
    gc = own.gc;
    bc = own.bc;
    ix = own.ix;
    cc = own.cc;
    fields = own.fields;
    mc = own.mc;
    pp = pp;
    mark = mark;
    held = held;
  }

  -- 000, suspend and resume are such
  found-0 : Attends b s m 0 → FoundAgain (channel_of s b) (channel_after s m b)
  found-0 x = let l = (attention-sheet b s m).update x in found-own l.pp l.mark l.held

  found-6 : Attends b s m 6 → FoundAgain (channel_of s b) (channel_after s m b)
  found-6 x = let l = (attention-sheet b s m).suspend x in found-own l.pp l.mark l.held

  found-5 : Attends b s m 5 → FoundAgain (channel_of s b) (channel_after s m b)
  found-5 x = let l = (attention-sheet b s m).resume x in found-own l.pp l.mark l.held

found-again : (b : Bool) (s₀ s : State) → Pausing b s₀ s → FoundAgain (channel_of s₀ b) (channel_of s b)
found-again b s₀ s begin = found-itself _
found-again b s₀ _ (attends {s = s} r m code (inl e) x) = found-then _ _ _ (found-again b s₀ s r) (found-0 b s m (subst (Attends b s m) e x))
found-again b s₀ _ (attends {s = s} r m code (inr (inl e)) x) = found-then _ _ _ (found-again b s₀ s r) (found-6 b s m (subst (Attends b s m) e x))
found-again b s₀ _ (attends {s = s} r m code (inr (inr e)) x) = found-then _ _ _ (found-again b s₀ s r) (found-5 b s m (subst (Attends b s m) e x))
found-again b s₀ _ (refused {s = s} r m ne) =
    subst (λ (o : Outcome). FoundAgain (channel_of s₀ b) (channel_of o.state b)) (sym (refused-nothing s m (channel_number b) ne)) (found-again b s₀ s r)
found-again b s₀ _ (other {s = s} r m channel ne) = subst (FoundAgain (channel_of s₀ b)) (sym (attention-kept b s m channel ne)) (found-again b s₀ s r)
found-again b s₀ _ (step {s = s} r m lines ne) = subst (FoundAgain (channel_of s₀ b)) (sym (not-of b s m lines ne)) (found-again b s₀ s r)

-- ---- how the pair ends

-- a second half of a channel that is found again, but for the byte that the first came to hold, ends the pair of the first
ends-first : (c d : Channel) (m n : Buffers) (held : Option ℕ) (byte : ℕ) (after : Channel) → FoundAgain (holding c held) d
    → PairLeft d n 2 (meets_in d n byte) after → PairOver c m 2 (meets_in c m byte) d.tp d.psw d.mode after
ends-first c d m n held byte after k l = record {
  ga = l.ga ∙ ap₂ (λ (cc : ℕ) (p : Pointer). pick (eqb (bit cc (pick (eqb (bit cc 10) 1) 15 14)) 1) (pointer_on p 2) p) k.cc k.ga;
  gb = l.gb ∙ ap₂ (λ (cc : ℕ) (p : Pointer). pick (eqb (bit cc (pick (eqb (bit cc 10) 1) 14 15)) 1) (pointer_on p 2) p) k.cc k.gb;
  bc = l.bc ∙ ap (λ (x : ℕ). (x + 65534) % 65536) k.bc;
  tp = l.tp ∙ ap (λ (x : ℕ). pick (eqb x 0) d.tp (pointer_on d.tp (offset_in x))) code;
  status = λ j. l.status j ∙ ap (λ (x : ℕ). pick (not (eqb x 0) && eqb j 6) 0 (bit d.psw j)) code;
  gc = l.gc ∙ k.gc;
  pp = l.pp ∙ k.pp;
  ix = l.ix ∙ k.ix;
  cc = l.cc ∙ k.cc;
  fields = l.fields ∙ k.fields;
  mc = l.mc ∙ k.mc;
  mode = l.mode;
  mark = l.mark ∙ k.mark;
  held = l.held;
}
  where
    -- the code is of CC, MC and BC alone
    code : pair_code d n (meets_in d n byte) ≡ pair_code c m (meets_in c m byte)
    code = rw (k.cc, k.mc, k.bc)

module _ (b : Bool) (s : State) (m : Buffers) (lines : ℕ) (s' : State) (m' : Buffers) (lines' : ℕ) (p : HalvesApart b s m lines s' m' lines') where
  abbrev c : Channel
  c = channel_of s b

  abbrev d : Channel
  d = channel_of s' b

  abbrev byte : ℕ
  byte = p.halves.byte

  abbrev after : Channel
  after = ran_channel b s' m' lines'

  -- the first half changed no register but the held byte, since it holds one
  first_holds : OnlyHeld c (ran_channel b s m lines)
  first_holds = go (fetches_twice c m) refl
    where
      l : HalfLeft c m (ran_channel b s m lines) (step_of s m lines).memory
      l = (half-sheet b s m lines).half p.halves.first

      stores : stores_twice c m ≡ true → (x : Bool) → meets_in c m (first_byte c m) ≡ x → OnlyHeld c (ran_channel b s m lines)
      stores f true e = absurd (over-holds (sym p.halves.holds ∙ (l.first_met f p.halves.free e).0.held))
      stores f false e = (l.first_store f p.halves.free e).0

      go : (x : Bool) → fetches_twice c m ≡ x → OnlyHeld c (ran_channel b s m lines)
      go true e = (l.first_fetch e p.halves.free).0
      go false e = stores (sym (ap (λ (x : Bool). x || stores_twice c m) e) ∙ p.halves.due) (meets_in c m (first_byte c m)) refl

  -- so the second finds the first's channel and the byte
  second-finds : FoundAgain (holding c (Some byte)) d
  second-finds =
      let f = first_holds in
      found-then (holding c (Some byte)) (ran_channel b s m lines) d
      (record {
        ga = f.ga;
        gb = f.gb;
        gc = f.gc;
        bc = f.bc;
        ix = f.ix;
        cc = f.cc;
        fields = f.fields;
        mc = f.mc;
        pp = f.pp;
        mark = f.mark;
        held = p.halves.holds;
      })
      (found-again b (step_of s m lines).state s' p.between)

  over : PairOver c m 2 (meets_in c m byte) d.tp d.psw d.mode after
  over = go (fetches_twice d m') refl
    where
      l : HalfLeft d m' after (step_of s' m' lines').memory
      l = (half-sheet b s' m' lines').half p.halves.next

      go : (x : Bool) → fetches_twice d m' ≡ x → PairOver c m 2 (meets_in c m byte) d.tp d.psw d.mode after
      go true e = ends-first c d m m' (Some byte) byte after second-finds (l.second_fetch byte e second-finds.held).0
      go false e =
          ends-first c d m m' (Some byte) byte after second-finds
          (l.second_store byte (sym (ap (λ (x : Bool). x || stores_twice d m') e) ∙ p.still) second-finds.held).0

  -- both halves are steps of a running channel
  mode-same : d.mode ≡ c.mode
  mode-same = chosen-running s' lines' b (inr p.halves.next.turn.chosen) ∙ sym (chosen-running s lines b (inr p.halves.first.turn.chosen))

  ends-apart : ApartLeft b s m s' m' lines' byte
  ends-apart = record {
    over = over;
    same = λ tp psw.
        subst (λ (k : Pointer). PairOver c m 2 (meets_in c m byte) k c.psw c.mode after) tp
        (subst (λ (k : ℕ). PairOver c m 2 (meets_in c m byte) d.tp k c.mode after) psw
        (subst (λ (k : Mode). PairOver c m 2 (meets_in c m byte) d.tp d.psw k after) mode-same over));
  }

pub between-sheet : BetweenSheet
between-sheet = record { found = found-again; ends = ends-apart }
