-- Empty card slots: the promises about them, and that they can be met in numbers.
-- Assumes nothing.
use Rattle.std.proofs.Common.{Ok, Err}
use Prim.Native.Nat.{ℕ, zero, suc, ◌+◌, ◌%◌}
use borrow.Author.Tests.{ltb-false, le-ltb, not-true}
use lib.Dec.{eqb}
use lib.ListN.{length}
use mathlib.Core.Bool.{Bool, true, false, not, ◌&&◌}
use mathlib.Core.List.{List, [], ◌∷◌}
use mathlib.Core.Logic.{◌⊎◌, ⊎_elim, inl}
use mathlib.Core.Path.{◌≡◌, refl, sym, ap, ap₂, ◌∙◌}
use native.Mathlib.Omega.{arith}
use Rattle.attention_rules.proofs.Numbers.{touched-2}
use Rattle.attention_rules.proofs.Stores.{lengths-kept as attended-lengths}
use Rattle.attention_rules.specs.Attention.{order_to, attention_of}
use Rattle.attention_rules.specs.Conditions.{mode_to}
use Rattle.attention_rules.specs.Touched.{touched_by_order}
use Rattle.instruction_rules.specs.Reading.{fits, lookup, decode_of}
use Rattle.instruction_rules.specs.Table.{SummaryRow, table}
use Rattle.instruction_rules.specs.Pairs.{pair_of, meets}
use Rattle.instruction_rules.specs.Rows.{is_control}
use Rattle.instruction_rules.specs.declared.Unread.TheVariants.{NoInstruction, ControlUsed}
use Rattle.instruction_rules.proofs.NumberLaws.{number-exactly}
use Rattle.instruction_rules.specs.Conditions.{PairBeyond}
use Rattle.instruction_rules.specs.Execute.{decoded_at, execute_of}
use Rattle.ground_rules.proofs.ConditionLaws.{told-touchable}
use Rattle.ground_rules.specs.Outcomes.{Outcome}
use Rattle.ground_rules.specs.States.{fresh_of, channel_of, block_of, busy_in, is_second}
use Rattle.ground_rules.specs.declared.Channel.{Channel}
use Rattle.ground_rules.specs.declared.State.{State}
use Rattle.ground_rules.proofs.PlaceLaws.{byte-index, byte-reduced}
use Rattle.ground_rules.proofs.StoreLaws.{read_same, store-beyond, slot-reads, io-touchable, system-touchable, same-lent}
use Rattle.ground_rules.specs.Buffers.{Buffers, space_of, limit_of, index_of, lent_at, touchable_at, EmptySlot, byte_at}
use Rattle.ground_rules.specs.Places.{Place, span, all_pass, all_touchable}
use Rattle.ground_rules.specs.Values.{onward, word_at}
use Rattle.ground_rules.specs.declared.Pointer.{Pointer}
use Rattle.run_rules.specs.Run.{ran, steps_from, attended_run, started_run, call_number, run_of}
use Rattle.turn_rules.proofs.NumberLaws.{settled-number, two-exactly}
use Rattle.turn_rules.proofs.TouchedLaws.{lengths-kept as stepped-lengths}
use Rattle.turn_rules.specs.Choosing.{choice_of}
use Rattle.turn_rules.specs.Step.{Step, instruction_step, step_of}
use Rattle.turn_rules.specs.Touched.{reached_in}
use Rattle.turn_rules.specs.declared.Kind.{Kind}
use Rattle.ground_rules.proofs.ChoiceLaws.{apart, both_left, both_right}
use Rattle.ground_rules.specs.Bits.{field_of}
use Rattle.ground_rules.specs.Bytes.{word_of}
use Rattle.ground_rules.specs.Choice.{pick}
use Rattle.promises_sheet.specs.Slots.{SlotIs, SlotsStay, SystemLent, RunsInIo, EmptySlots}
use Rattle.promises.proofs.InstructionLaws.{turn-executes}

-- ---- a byte

slot_is : (m : Buffers) (a : ℕ) → SlotIs m a
unfolding lent_at index_of limit_of space_of word_at
slot_is m a = record {
  empty = (ltb-false (a % 65536) (length m.io), le-ltb (a % 65536) (length m.io));
  reads = slot-reads m a;
  vanishes = λ h v. store-beyond m true a v h;
  keeps = λ h v. read_same m true a v h;
  edge = λ h. ap (word_of (byte_at m true a)) (slot-reads m (a + 1) h) ∙ omega arith;
  top = λ h. ap (word_of (byte_at m true a)) (byte-index m true (a + 1) 0 (omega (arith, h))) ∙ omega arith;
}

-- ---- a call

-- where lengths stay, so do empty slots
slots-stay : (m m' : Buffers) → ((u : Bool) → length (space_of m' u) ≡ length (space_of m u)) → SlotsStay m m'
slots-stay m m' e =
    let same : (a : ℕ) → EmptySlot m a → EmptySlot m' a = λ a h. same-lent m m' e true a ∙ h in
    record { empty = same; reads = λ a h. slot-reads m' a (same a h) }

-- no step changes a length, so a run changes none
steps-lengths : (left : ℕ) (s : State) (m : Buffers) (lines done : ℕ) (u : Bool) → length (space_of (steps_from left s m lines done).memory u) ≡ length (space_of m u)
unfolding steps_from
steps-lengths zero s m lines done u = refl
steps-lengths (suc left) s m lines done u =
    go (eqb (step_of s m lines).number 0) (steps-lengths left (step_of s m lines).state (step_of s m lines).memory lines (done + 1) u)
  where
    go : (b : Bool)
        → length (space_of (steps_from left (step_of s m lines).state (step_of s m lines).memory lines (done + 1)).memory u) ≡ length (space_of (step_of s m lines).memory u)
        → length (space_of (pick b (steps_from left (step_of s m lines).state (step_of s m lines).memory lines (done + 1)) (ran (step_of s m lines).number done (step_of s m lines).memory)).memory u)
        ≡ length (space_of m u)
    go true rest = rest ∙ stepped-lengths s m lines u
    go false rest = stepped-lengths s m lines u

run-lengths : (m : Buffers) (cp channel lines limit : ℕ) (u : Bool) → length (space_of (run_of m cp channel lines limit).memory u) ≡ length (space_of m u)
unfolding run_of started_run attended_run
run-lengths m cp channel lines limit u = go (eqb (call_number m channel lines limit) 0) (eqb (fresh_of cp).number 0) (eqb o.number 0)
  where
    o : Outcome
    o = attention_of (fresh_of cp).state m channel

    go : (x y z : Bool)
        → length (space_of (pick x (pick y (pick z (steps_from limit o.state o.memory lines 0) (ran o.number 0 o.memory)) (ran (fresh_of cp).number 0 m)) (ran (call_number m channel lines limit) 0 m)).memory u)
        ≡ length (space_of m u)
    go false y z = refl
    go true false z = refl
    go true true true = steps-lengths limit o.state o.memory lines 0 u ∙ attended-lengths (fresh_of cp).state m channel u
    go true true false = attended-lengths (fresh_of cp).state m channel u

-- what is of system space and lent may be touched, and so may all of I/O space
served : (m : Buffers) (ps : List Place) → SystemLent m ps → all_touchable m ps ≡ true
unfolding all_pass
served m [] h = refl
served m (p ∷ ps) h = ap₂ ◌&&◌ (one p.tag h.0) (served m ps h.1)
  where
    one : (tag : Bool) → (tag ≡ false → lent_at m false p.address ≡ true) → touchable_at m tag p.address ≡ true
    one true f = io-touchable m p.address
    one false f = system-touchable m p.address ∙ f refl

attended : (s : State) (m : Buffers) (channel : ℕ) → SystemLent m (touched_by_order (order_to s m (is_second channel)) (mode_to s channel))
    → ¬ ((attention_of s m channel).number ≡ 2)
attended s m channel h e =
    let ps = touched_by_order (order_to s m (is_second channel)) (mode_to s channel) in
    (told-touchable m ps).holds (served m ps h) ((touched-2 s m channel).0 e).1.1.1.1.1

stepped : (s : State) (m : Buffers) (lines : ℕ) → SystemLent m (reached_in (choice_of s lines) s m) → ¬ ((step_of s m lines).number ≡ 2)
stepped s m lines h e = apart (sym (served m (reached_in (choice_of s lines) s m) h) ∙ ((two-exactly s m lines).0 e).1.1.1.1.1)

-- ---- code

-- tests of which the last fails
last-fails : (a b c d : Bool) → (a && (b && (c && (d && false)))) ≡ false
last-fails false b c d = refl
last-fails true false c d = refl
last-fails true true false d = refl
last-fails true true true false = refl
last-fails true true true true = refl

-- a row that has W 1 and dd 11
abbrev all_ones : SummaryRow → Bool
all_ones r = meets r.w 1 1 && meets r.dd 1 3

-- of a row that has not, a pair whose first byte is FFh is none
fits_not : (r : SummaryRow) (x : ℕ) → all_ones r ≡ false → fits r (pair_of 0xFF x) ≡ false
unfolding pair_of field_of
fits_not r x h =
    let p = pair_of 0xFF x in
    ap (λ (z : Bool). eqb p.opcode r.opcode && (meets r.rrr 1 7 && (meets r.mm 1 p.mm && (meets r.aa 1 3 && z)))) h
    ∙ last-fails (eqb p.opcode r.opcode) (meets r.rrr 1 7) (meets r.mm 1 p.mm) (meets r.aa 1 3)

-- whether no row has
none_all_ones : List SummaryRow → Bool
none_all_ones [] = true
none_all_ones (r ∷ rs) = not (all_ones r) && none_all_ones rs

-- so of no row is such a pair
first-none : (rs : List SummaryRow) → none_all_ones rs ≡ true → (x : ℕ) → lookup rs (pair_of 0xFF x) ≡ Err NoInstruction
unfolding none_all_ones lookup
first-none [] h x = refl
first-none (r ∷ rs) h x =
    let p = pair_of 0xFF x in
    ap (λ (b : Bool). pick b (pick (r.control && is_control p) (Err ControlUsed) (Ok (r.shape p))) (lookup rs p))
    (fits_not r x (not-true (all_ones r) (both_left (not (all_ones r)) (none_all_ones rs) h)))
    ∙ first-none rs (both_right (not (all_ones r)) (none_all_ones rs) h) x

first-empty : (x : ℕ) → decode_of 0xFF x ≡ Err NoInstruction
unfolding decode_of table none_all_ones
first-empty x = first-none table refl x

-- nor has a row opcode 3Fh
second_empty : (x : ℕ) → decode_of x 0xFF ≡ Err NoInstruction
unfolding decode_of table lookup pair_of field_of
second_empty x = refl

-- so a pair with either byte in an empty slot is none
pair-none : (m : Buffers) (p : Pointer) → p.tag ≡ true → EmptySlot m p.address ⊎ EmptySlot m (p.address + 1) → decoded_at m p ≡ Err NoInstruction
unfolding decoded_at onward
pair-none m p t =
    rw t (⊎_elim
    (λ h. ap (λ (x : ℕ). decode_of x (byte_at m true ((p.address + 1) % 1048576))) (slot-reads m p.address h) ∙ first-empty (byte_at m true ((p.address + 1) % 1048576)))
    (λ h. ap (decode_of (byte_at m true p.address)) (byte-reduced m true (p.address + 1) ∙ slot-reads m (p.address + 1) h) ∙ second_empty (byte_at m true p.address)))

-- no byte of a pair in I/O space counts for 2
pair-within : (m : Buffers) (c : Channel) → c.tp.tag ≡ true → ¬ (PairBeyond m c)
unfolding span
pair-within m c t = ⊎_elim (λ h. apart (sym t ∙ h.0)) (⊎_elim (λ h. apart (sym t ∙ h.0)) (λ h. h))

pair-refused : (second : Bool) (s : State) (m : Buffers) (lines : ℕ) → RunsInIo second s m lines
    → EmptySlot m (channel_of s second).tp.address ⊎ EmptySlot m ((channel_of s second).tp.address + 1) → (step_of s m lines).number ≡ 3
unfolding instruction_step
pair-refused b s m lines r h =
    let c = channel_of s b in
    let x = execute_of c (busy_in (block_of s b)) m in
    ap (λ (o : Step). o.number) (turn-executes b s m lines r.turn r.program)
    ∙ settled-number x.number s m b x.channel x.memory Kind.Instruction
    ∙ (number-exactly m c (busy_in (block_of s b)) 3).1 (pair-within m c r.space, inl (pair-none m c.tp r.space h))

-- ---- the promises

pub slots : EmptySlots
slots = record {
  byte = slot_is;
  attention = λ s m channel. slots-stay m (attention_of s m channel).memory (attended-lengths s m channel);
  step = λ s m lines. slots-stay m (step_of s m lines).memory (stepped-lengths s m lines);
  run = λ m cp channel lines limit. slots-stay m (run_of m cp channel lines limit).memory (run-lengths m cp channel lines limit);
  attended = attended;
  stepped = stepped;
  pair = pair-refused;
  later = λ m c k t h. rw t (slot-reads m (c.tp.address + k) h);
}
