-- The sheet of a transfer step.
-- Assumes nothing.
use Prim.Native.Nat.{ℕ, zero, suc, ◌+◌, ◌/◌, ◌%◌, ◌^◌, ◌<◌}
use borrow.Author.Tests.{eq-eqb}
use lib.Dec.{eqb, ltb, lit<, eqb-suc-zero}
use mathlib.Core.Bool.{Bool, true, false, not, ◌&&◌, ◌||◌}
use mathlib.Core.List.{◌++◌}
use mathlib.Core.Path.{◌≡◌, refl, sym, subst, ap, ap₂, ◌∙◌}
use native.Mathlib.Nat.{mod-lt}
use Rattle.ground_rules.proofs.FieldLaws.{agree-channel-of}
use Rattle.ground_rules.specs.Cc.{split}
use Rattle.ground_rules.specs.Psw.{transferring, with_psw}
use Rattle.ground_rules.specs.States.{channel_of, fields_agree}
use Rattle.ground_rules.specs.Updates.{with_transfer}
use Rattle.ground_rules.specs.declared.Channel.{Channel}
use Rattle.ground_rules.specs.declared.State.{State}
use Rattle.ground_rules.specs.Buffers.{Buffers}
use Rattle.ground_rules.specs.Values.{pointer, onward}
use Rattle.ground_rules.specs.declared.Pointer.{Pointer}
use Rattle.turn_rules.specs.Step.{Step, settled_step, transfer_step, step_of}
use Rattle.turn_rules.specs.declared.Kind.TheVariants.{Transfer}
use Rattle.transfer_rules.specs.Ends.{meets_tmc, code_if, larger, offset_of, ended_tp, ended_psw, ended_by}
use Rattle.transfer_rules.specs.Reads.{fetched, fetched_second, entry_of, delivered, data_of, read_places, also}
use Rattle.transfer_rules.specs.Sides.{source, destination, word_side, second_address, gained, two_move, stored_singly}
use Rattle.transfer_rules.proofs.PartLaws.{not-half}
use Rattle.transfer_rules.proofs.StepLaws.{done}
use Rattle.transfer_rules.specs.Parts.{Part, Whole, fetches_apart, stores_apart, is_half, part_of}
use Rattle.transfer_rules.specs.Steps.{Transfer as Taken, touched_by, touched_by_transfer, channel_by, memory_by, transfer_of}
use Rattle.transfer_rules.specs.Stores.{first_meets, match_met, cut_short, stores_two, bytes_stored, end_code, moved_by, move_over, moved_channel, put_on, moved_memory, places_on, stored_places}
use Rattle.ground_rules.specs.Bits.{field_of, bit_of}
use Rattle.ground_rules.specs.Choice.{pick}
use Rattle.ground_rules.specs.Compare.{match_of}
use Rattle.promises.specs.SheetWords.{bit, field}
use Rattle.promises_sheet.specs.SheetOperands.{ran_channel}
use Rattle.promises_sheet.specs.SheetTurns.{offset_in}
use Rattle.promises_sheet.specs.SheetTransfer.{first_byte, second_byte, meets_in, singly, two_stored, gains_in, stored_count, count_left, code_of_end, half_due, whole_reads, whole_stores, Transfers, TransferLeft, TransferSheet}
use Rattle.promises.proofs.AgreeLaws.{agreeing, by_bits, done-agrees}
use Rattle.promises.proofs.CallLaws.{turn_is, transfer-channel, transfer-memory}
use Rattle.promises_sheet.proofs.SheetControl.{bit-set}
use Rattle.promises_sheet.proofs.SheetTurns.{offset-is}

-- the codes of the ends are below 4
pub larger-small : (a b : ℕ) → a < 4 → b < 4 → pick (ltb a b) b a < 4
larger-small a b h k = go (ltb a b)
  where
    go : (x : Bool) → pick x b a < 4
    go true = k
    go false = h

pub pick_small : (x : Bool) (n : ℕ) → n < 4 → pick x n 0 < 4
pick_small true n h = h
pick_small false n h = lit< tt

code-small : (c : Channel) (m : Buffers) → code_of_end c m < 4
code-small c m =
    larger-small _ (pick ts 1 0)
    (larger-small (pick met (field c.cc 0 3 % 4) 0) (pick counted (field c.cc 3 2) 0)
    (pick_small met (field c.cc 0 3 % 4) (mod-lt (field c.cc 0 3) (lit< tt)))
    (pick_small counted (field c.cc 3 2) (mod-lt (c.cc / 2 ^ 3) (lit< tt))))
    (pick_small ts 1 (lit< tt))
  where
    met : Bool
    met = meets_in c m (first_byte c m) || singly c m && meets_in c m (second_byte c m)

    counted : Bool
    counted = eqb (count_left c m) 0

    ts : Bool
    ts = eqb (bit c.cc 7) 1

-- the sides by GA and GB
pub first-side : (g : Bool) (p q : Pointer) (a b : Bool) (n : ℕ) → pick g (gained a (pick g p q) n) (gained b (pick g q p) n) ≡ gained (pick g a b) p n
first-side true p q a b n = refl
first-side false p q a b n = refl

pub second-side : (g : Bool) (p q : Pointer) (a b : Bool) (n : ℕ) → pick g (gained b (pick g q p) n) (gained a (pick g p q) n) ≡ gained (pick g b a) q n
second-side true p q a b n = refl
second-side false p q a b n = refl

pub bit-picked : (g : Bool) (x i j : ℕ) → pick g (eqb (bit x i) 1) (eqb (bit x j) 1) ≡ eqb (bit x (pick g i j)) 1
bit-picked true x i j = refl
bit-picked false x i j = refl

-- TP and PSW at an end or at none
pub ended-task : (p : Pointer) (code : ℕ) → code < 4
    → gained (not (eqb code 0)) p (offset_of code) ≡ pick (eqb code 0) p (pointer ((p.address + offset_in code) % 1048576) p.tag)
unfolding gained onward
ended-task p code h = ap (λ (n : ℕ). pick (not (eqb code 0)) (pointer ((p.address + n) % 1048576) p.tag) p) (offset-is code h) ∙ go (eqb code 0)
  where
    go : (b : Bool) → pick (not b) (pointer ((p.address + offset_in code) % 1048576) p.tag) p ≡ pick b p (pointer ((p.address + offset_in code) % 1048576) p.tag)
    go true = refl
    go false = refl

pub ended-status : (on : Bool) (psw k : ℕ) → bit (pick on psw (with_psw psw 6 false)) k ≡ pick (not on && eqb k 6) 0 (bit psw k)
unfolding with_psw
ended-status true psw k = refl
ended-status false psw k = bit-set psw 6 false k

gains-is : (c : Channel) (m : Buffers) (on : Bool) (p : Pointer) → gained on p (stored_count c m) ≡ gains_in c m on p
unfolding gained onward
gains-is c m on p = refl

moved-left : (c : Channel) (m : Buffers) → TransferLeft (agreeing c) m (moved_channel (agreeing c) (data_of (agreeing c) m)) (moved_memory (agreeing c) (data_of (agreeing c) m) m)
unfolding moved_channel move_over moved_by ended_by ended_tp ended_psw end_code larger code_if match_met first_meets cut_short stores_two stored_singly bytes_stored two_move word_side second_address source destination data_of delivered fetched fetched_second entry_of meets_tmc match_of moved_memory put_on split field_of bit_of with_transfer
moved-left c m = record {
  ga = first-side (eqb (bit c.cc 10) 1) c.ga c.gb (eqb (bit c.cc 15) 1) (eqb (bit c.cc 14) 1) (stored_count c m)
      ∙ ap (λ (on : Bool). gained on c.ga (stored_count c m)) (bit-picked (eqb (bit c.cc 10) 1) c.cc 15 14) ∙ gains-is c m _ c.ga;
  gb = second-side (eqb (bit c.cc 10) 1) c.ga c.gb (eqb (bit c.cc 15) 1) (eqb (bit c.cc 14) 1) (stored_count c m)
      ∙ ap (λ (on : Bool). gained on c.gb (stored_count c m)) (bit-picked (eqb (bit c.cc 10) 1) c.cc 14 15) ∙ gains-is c m _ c.gb;
  bc = refl;
  tp = ended-task c.tp (code_of_end c m) (code-small c m);
  status = ended-status (eqb (code_of_end c m) 0) c.psw;
  gc = refl;
  pp = refl;
  ix = refl;
  cc = refl;
  fields = refl;
  mc = refl;
  mode = refl;
  mark = refl;
  held = refl;
  stored = refl;
}

pub transfer-left : (c : Channel) (m : Buffers) → fields_agree c ≡ true → TransferLeft c m (moved_channel c (data_of c m)) (moved_memory c (data_of c m) m)
transfer-left c m h = by_bits (λ x. TransferLeft x m (moved_channel x (data_of x m)) (moved_memory x (data_of x m) m)) c h (moved-left c m)

-- a half is due as the bits say
pub half_is : (c : Channel) (m : Buffers) → fields_agree c ≡ true → is_half c ≡ half_due c m
unfolding is_half fetches_apart stores_apart two_move stored_singly word_side source destination split field_of bit_of
half_is c m h = by_bits (λ x. is_half x ≡ half_due x m) c h refl

-- ---- which bytes a step that is no half touches

module _ (c : Channel) (m : Buffers) (h : fields_agree c ≡ true) where
  -- those that it reads, by bits
  reads-bits : read_places c m ≡ whole_reads c m
  unfolding read_places also two_move word_side second_address source destination fetched entry_of split field_of bit_of
  reads-bits = by_bits (λ x. read_places x m ≡ whole_reads x m) c h refl

  -- how many it stores, and those
  two-bits : stores_two c (data_of c m) ≡ two_stored c m
  unfolding stores_two cut_short first_meets stored_singly two_move word_side source destination data_of delivered fetched entry_of meets_tmc match_of split field_of bit_of
  two-bits = by_bits (λ x. stores_two x (data_of x m) ≡ two_stored x m) c h refl

  stores-bits : stored_places c (data_of c m) ≡ whole_stores c m
  unfolding stored_places places_on also word_side second_address destination split bit_of
  stores-bits = ap (places_on (destination c)) two-bits ∙ by_bits (λ x. places_on (destination x) (two_stored x m) ≡ whole_stores x m) c h refl

  -- and all of them
  whole-touches : half_due c m ≡ false → touched_by_transfer c m ≡ whole_reads c m ++ whole_stores c m
  unfolding touched_by_transfer touched_by
  whole-touches undue = ap (λ (k : Part). touched_by k c m) (not-half c (half_is c m h ∙ undue)) ∙ ap₂ ◌++◌ reads-bits stores-bits

-- ---- done

-- a transfer step that is done has number 0 of its own
pub settle : (n : ℕ) (s : State) (m : Buffers) (b : Bool) (o : Taken) → (settled_step n s m b o.channel o.memory Transfer).number ≡ n
unfolding settled_step
settle zero s m b o = refl
settle (suc n) s m b o = rw (eqb-suc-zero n)

pub on : (psw : ℕ) → bit psw 6 ≡ 1 → transferring psw ≡ true
unfolding bit_of
on psw f = eq-eqb (bit psw 6) 1 f

-- a transfer step that is done, by its part
module _ (b : Bool) (s : State) (m : Buffers) (lines : ℕ) (t : Transfers b s m lines) where
  -- its channel's fields are those of CC
  pub done-fields : fields_agree (channel_of s b) ≡ true
  done-fields = agree-channel-of s b (done-agrees s m lines t.done)

  step_is : step_of s m lines ≡ transfer_step s m b
  step_is = turn_is b s m lines t.turn (on (channel_of s b).psw t.on)

  pub done-number : (transfer_of (channel_of s b) m).number ≡ 0
  unfolding transfer_step
  done-number =
      let o = transfer_of (channel_of s b) m in
      sym (settle o.number s m b o) ∙ sym (ap (λ (o : Step). o.number) step_is) ∙ t.done

  pub done-channel : ran_channel b s m lines ≡ channel_by (part_of (channel_of s b)) (channel_of s b) m
  done-channel = ap (λ (o : Step). channel_of o.state b) step_is ∙ transfer-channel b s m ∙ ap (λ (o : Taken). o.channel) (done (channel_of s b) m done-number)

  pub done-memory : (step_of s m lines).memory ≡ memory_by (part_of (channel_of s b)) (channel_of s b) m
  done-memory = ap (λ (o : Step). o.memory) step_is ∙ transfer-memory b s m ∙ ap (λ (o : Taken). o.memory) (done (channel_of s b) m done-number)

pub transfer-sheet : (second : Bool) (s : State) (m : Buffers) (lines : ℕ) → TransferSheet second s m lines
unfolding channel_by memory_by
transfer-sheet b s m lines = record {
  transfer = λ t no.
      let c = channel_of s b in
      let whole : part_of c ≡ Whole = not-half c (half_is c m (done-fields b s m lines t) ∙ no) in
      let channel : ran_channel b s m lines ≡ moved_channel c (data_of c m) = done-channel b s m lines t ∙ ap (λ (k : Part). channel_by k c m) whole in
      let memory : (step_of s m lines).memory ≡ moved_memory c (data_of c m) m = done-memory b s m lines t ∙ ap (λ (k : Part). memory_by k c m) whole in
      subst (λ (k : Channel). TransferLeft c m k (step_of s m lines).memory) (sym channel)
      (subst (λ (n : Buffers). TransferLeft c m (moved_channel c (data_of c m)) n) (sym memory) (transfer-left c m (done-fields b s m lines t)));
  touches = λ a no. whole-touches (channel_of s b) m (agree-channel-of s b a) no;
}
