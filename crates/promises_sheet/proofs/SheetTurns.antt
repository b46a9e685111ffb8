-- The sheet of turns.
-- Assumes nothing.
use Prim.Native.Nat.{ℕ, zero, suc, ◌+◌, ◌/◌, ◌%◌, ◌<◌}
use borrow.Author.Tests.{ne_eqb}
use lib.Dec.{eqb, lit<}
use lib.ListN.{get_or}
use mathlib.Core.Bool.{Bool, true, false, not, ◌&&◌, ◌||◌}
use mathlib.Core.List.{[], ◌∷◌}
use mathlib.Core.Path.{◌≡◌, refl, ap, ap₂, ◌∙◌}
use native.Mathlib.Nat.{mod-lt}
use native.Mathlib.Omega.{arith}
use Rattle.ground_rules.proofs.ChannelLaws.{put_same, last-channel}
use Rattle.ground_rules.proofs.FieldLaws.{told-agree, agree-channel-of}
use Rattle.ground_rules.specs.Cc.{split}
use Rattle.ground_rules.specs.Psw.{with_psw}
use Rattle.ground_rules.specs.States.{channel_of, with_channel, fields_agree, is_running}
use Rattle.ground_rules.specs.Updates.{with_transfer}
use Rattle.ground_rules.specs.declared.Channel.{Channel}
use Rattle.ground_rules.specs.declared.Mode.{Mode}
use Rattle.ground_rules.specs.declared.Mode.TheVariants.{Idle, Running, Suspended}
use Rattle.ground_rules.specs.declared.State.{State}
use Rattle.ground_rules.specs.Buffers.{Buffers}
use Rattle.ground_rules.specs.Values.{pointer, onward}
use Rattle.turn_rules.proofs.ChoosingLaws.{ends-chosen}
use Rattle.turn_rules.specs.Choosing.{requested, external, ends_now, transfer_rank, rank_of, second_wins, ranked, choice_of}
use Rattle.turn_rules.specs.Step.{Step}
use Rattle.turn_rules.specs.declared.Choice.TheVariants.{Ends}
use Rattle.transfer_rules.specs.Ends.{offset_of, ended_tp, ended_psw, ended_by, externally_ended}
use Rattle.transfer_rules.specs.Sides.{gained}
use Rattle.ground_rules.specs.Bits.{field_of, bit_of}
use Rattle.ground_rules.specs.Choice.{pick}
use Rattle.promises.specs.SheetWords.{bit}
use Rattle.promises_sheet.specs.SheetOperands.{ran_channel}
use Rattle.promises_sheet.specs.SheetTurns.{runs_in, ends_in, rank_in, choice_in, offset_in, ExternalLeft, TurnSheet}
use Rattle.promises.proofs.AgreeLaws.{agreeing, by_bits, told-not, done-agrees}
use Rattle.promises.proofs.Demand2.{step-does}
use Rattle.promises_sheet.proofs.SheetControl.{bit-set}

runs-is : (mode : Mode) → is_running mode ≡ runs_in mode
unfolding is_running
runs-is Idle = refl
runs-is Running = refl
runs-is Suspended = refl

-- with XF, by SYN and DRQ
rank-syn : (syn : ℕ) → syn < 4 → (drq : Bool) → ◌≡◌ {A = ℕ} (pick (eqb syn 0 || drq || eqb syn 3) 1 4) (get_or (1 ∷ pick drq 1 4 ∷ pick drq 1 4 ∷ 1 ∷ []) syn 4)
rank-syn zero h true = refl
rank-syn zero h false = refl
rank-syn (suc zero) h true = refl
rank-syn (suc zero) h false = refl
rank-syn (suc (suc zero)) h true = refl
rank-syn (suc (suc zero)) h false = refl
rank-syn (suc (suc (suc zero))) h true = refl
rank-syn (suc (suc (suc zero))) h false = refl
rank-syn (suc (suc (suc (suc k)))) h drq = absurd (omega arith)

rank_is : (c : Channel) → fields_agree c ≡ true → (drq : ℕ) → rank_of c (eqb drq 1) ≡ rank_in c drq
unfolding rank_of transfer_rank split field_of bit_of
rank_is c h drq =
    by_bits (λ x. rank_of x (eqb drq 1) ≡ rank_in x drq) c h
    (ap₂ (λ (r : Bool) (n : ℕ). pick r (pick (eqb (bit c.psw 6) 1) n (pick (eqb (bit c.cc 8) 1) 1 3)) 4)
    (runs-is c.mode) (rank-syn (c.cc / 2048 % 4) (mod-lt (c.cc / 2048) (lit< tt)) (eqb drq 1)))

ends_is : (c : Channel) → fields_agree c ≡ true → (ext : ℕ) → ends_now c (eqb ext 1) ≡ ends_in c ext
unfolding ends_now split field_of bit_of
ends_is c h ext =
    by_bits (λ x. ends_now x (eqb ext 1) ≡ ends_in x ext) c h
    (ap (λ (r : Bool). r && eqb (bit c.psw 6) 1 && not (eqb (c.cc / 32 % 4) 0) && eqb ext 1) (runs-is c.mode))

choice-is : (s : State) → fields_agree s.first ≡ true → fields_agree s.second ≡ true → (lines : ℕ) → choice_of s lines ≡ choice_in s lines
unfolding choice_of ranked second_wins requested external bit_of
choice-is s h₁ h₂ lines =
    ap₂ (λ (x y : Bool). pick x (Ends false) (pick y (Ends true) (ranked s (rank_of s.first (eqb (bit lines 0) 1)) (rank_of s.second (eqb (bit lines 1) 1)))))
    (ends_is s.first h₁ (bit lines 2)) (ends_is s.second h₂ (bit lines 3))
    ∙ ap₂ (λ (x y : ℕ). pick (ends_in s.first (bit lines 2)) (Ends false) (pick (ends_in s.second (bit lines 3)) (Ends true) (ranked s x y)))
    (rank_is s.first h₁ (bit lines 0)) (rank_is s.second h₂ (bit lines 1))

-- the offset of a code that is on
pub offset-is : (code : ℕ) → code < 4 → offset_of code ≡ offset_in code
unfolding offset_of
offset-is zero h = refl
offset-is (suc zero) h = refl
offset-is (suc (suc zero)) h = refl
offset-is (suc (suc (suc zero))) h = refl
offset-is (suc (suc (suc (suc k)))) h = absurd (omega arith)

by_end : (c : Channel) → eqb (c.cc / 32 % 4) 0 ≡ false → ExternalLeft (agreeing c) (externally_ended (agreeing c))
unfolding externally_ended ended_by ended_tp ended_psw gained onward with_transfer with_psw split field_of
by_end c on = record {
  tp = rw on (ap (λ (n : ℕ). pointer ((c.tp.address + n) % 1048576) c.tp.tag) (offset-is (c.cc / 32 % 4) (mod-lt (c.cc / 32) (lit< tt))));
  status = λ k. rw on (bit-set c.psw 6 false k);
  ga = refl;
  gb = refl;
  gc = refl;
  pp = refl;
  bc = refl;
  ix = refl;
  cc = refl;
  fields = refl;
  mc = refl;
  mode = refl;
  mark = refl;
  held = refl;
}

external-left : (c : Channel) → fields_agree c ≡ true → eqb c.fields.externalEnd 0 ≡ false → ExternalLeft c (externally_ended c)
unfolding split field_of
external-left c h = by_bits (λ x. eqb x.fields.externalEnd 0 ≡ false → ExternalLeft x (externally_ended x)) c h (by_end c)

pub turn-sheet : (s : State) (m : Buffers) (lines : ℕ) → TurnSheet s m lines
unfolding channel_of
turn-sheet s m lines = record {
  choice = λ ne. let h = told-not (told-agree s) ne in choice-is s (agree-channel-of s false h) (agree-channel-of s true h) lines;
  external = λ second z e.
      let whole = (step-does s m lines).ends second z e in
      let after : ran_channel second s m lines ≡ externally_ended (channel_of s second) =
      ap (λ (o : Step). channel_of o.state second) whole
      ∙ last-channel (with_channel s second (externally_ended (channel_of s second))) second second
      ∙ put_same s second (externally_ended (channel_of s second)) in
      let on = ne_eqb (channel_of s second).fields.externalEnd 0 (ends-chosen s lines second e).2 in
      (rw after (external-left (channel_of s second) (agree-channel-of s second (done-agrees s m lines z)) on), ap (λ (o : Step). o.memory) whole);
}
